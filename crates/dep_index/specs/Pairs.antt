-- What a contract sees of an index of users: a set of pairs.
use Rattle.std.specs.Prelude.{◌≡◌, ℕ, true, not, ◌==◌, List, [], ◌↔◌, refl}
use Rattle.std.specs.Cmp.{IsTotalOrder, on_total, then_total, nat_cmp_total}
use Rattle.std.specs.Cmp.Lexicographic.{nat_list_cmp_total}
use Rattle.std.specs.Coded.{Coded, code_by, coded×, coded_ℕ}
use Rattle.std.specs.FinSet.{FinSet, contains, empty, insert, retain}
use Rattle.std.specs.FinSet as set_of
use Rattle.std.specs.List.{Contains}
use Rattle.std.specs.Ordering.{nat_cmp, on, then_cmp}
use Rattle.std.specs.declared.cmp.Ordering.{Ordering}
use Rattle.value_core.specs.Orders.{bytes_cmp}
use Rattle.dep_index.specs.declared.used.Used.{Used}
use Rattle.dep_index.specs.declared.used.Used.TheVariants as used
use Rattle.dep_index.specs.contracts.used.Used as used_type

-- a source, and an instance that reads it
pub record Link : Type 0 where
  pub source : Used
  pub to : ℕ

-- ---- the order of pairs

-- inputs come first, then nodes, then triples
abbrev pub kind_of : Used → ℕ
kind_of (used.Input _) = 0
kind_of (used.Node _) = 1
kind_of (used.Key _) = 2

-- the number of an input, a node or an operation
abbrev pub number_of : Used → ℕ
number_of (used.Input n) = n
number_of (used.Node n) = n
number_of (used.Key t) = t.op

-- the key of a triple
abbrev pub key_of : Used → List ℕ
key_of (used.Input _) = []
key_of (used.Node _) = []
key_of (used.Key t) = t.key

-- the value of a triple
abbrev pub value_of : Used → List ℕ
value_of (used.Input _) = []
value_of (used.Node _) = []
value_of (used.Key t) = t.value

-- by kind, then by number, then by key and value
abbrev pub used_cmp : Used → Used → Ordering
used_cmp =
    then_cmp (on kind_of nat_cmp)
    (then_cmp (on number_of nat_cmp) (then_cmp (on key_of bytes_cmp) (on value_of bytes_cmp)))

-- by the source, then by the instance
abbrev pub link_cmp : Link → Link → Ordering
link_cmp = then_cmp (on (λ l. l.source) used_cmp) (on (λ l. l.to) nat_cmp)

-- the order of sources is total
pub used_cmp_total : IsTotalOrder used_cmp
used_cmp_total =
    then_total (on_total kind_of nat_cmp_total)
    (then_total (on_total number_of nat_cmp_total)
    (then_total (on_total key_of nat_list_cmp_total) (on_total value_of nat_list_cmp_total)))

-- and so is that of pairs
pub link_cmp_total : IsTotalOrder link_cmp
link_cmp_total = then_total (on_total (λ l. l.source) used_cmp_total) (on_total (λ l. l.to) nat_cmp_total)

-- ---- the index

-- pairs, each at most once
abbrev pub Links : Type 0
Links = FinSet link_cmp

-- the pairs, and for how many more there is room
pub record Index : Type 0 where
  pub links : Links
  pub spare : ℕ

-- the code of sources
abbrev pub used_code : Coded Used
used_code = used_type.the_row.coded

-- the code of pairs
abbrev pub link_code : Coded Link
link_code =
    code_by (Used × ℕ)
    (coded× used_code coded_ℕ)
    (λ l. (l.source, l.to))
    (λ p. record { source = p.0; to = p.1 })
    (λ _. refl)

-- the code of an index
abbrev pub index_code : Coded Index
index_code =
    code_by (Links × ℕ)
    (coded× (set_of.code link_code) coded_ℕ)
    (λ d. (d.links, d.spare))
    (λ p. record { links = p.0; spare = p.1 })
    (λ _. refl)

-- no pair, and no room
abbrev pub no_links : Index
no_links = record { links = empty; spare = 0 }

-- pairs with one more, if it isn't among them
abbrev pub with_link : Links → Used → ℕ → Links
with_link links source to = insert links (record { source = source; to = to })

-- with a pair
abbrev pub linked : Index → Used → ℕ → Index
linked d source to = record d { links = with_link d.links source to }

-- without the pairs of an instance
abbrev pub unlinked : Index → ℕ → Index
unlinked d to = record d { links = retain d.links (λ l. not (l.to == to)) }

-- the instance reads the source
abbrev pub IsUser : Links → Used → ℕ → Type 0
IsUser links source to = contains links (record { source = source; to = to }) ≡ true

-- the list has the instances that read the source, and no others
abbrev pub AreUsers : Links → Used → List ℕ → Type 0
AreUsers links source us = (n : ℕ) → Contains us n ↔ IsUser links source n
