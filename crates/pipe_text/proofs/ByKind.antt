-- Declarations by their tokens_in, as they are printed: they are the same program's, and still within the limits and apart.
use Rattle.std.proofs.Common.{◌≡◌, ◌≢◌, ℕ, zero, suc, ◌+◌, ◌<◌, ◌≤◌, Bool, true, false, cond, List, [], ◌∷◌, ◌++◌, map, refl, sym, ap, ◌∙◌, arith, inl, inr}
use Rattle.std.specs.Prelude.{◌==◌, ◌⊎◌, Option, Some, None}
use Rattle.std.specs.List.{AllByRecursion, IsDistinct, filter_map, cons_option}
use Rattle.std.proofs.lemmas.List.{append-nil, map-append}
use Rattle.std.proofs.lemmas.List.Elements.{filter_map-append}
use Rattle.value_core.specs.declared.token.Token.{Token}
use Rattle.term_core.specs.declared.program.Program.{Program}
use Rattle.pipe_text.specs.declared.declaration.Declaration.{Declaration}
use Rattle.pipe_text.specs.declared.declaration.Declaration.TheVariants.{Input, Pool, Client, Worker, Op, Node}
use Rattle.pipe_text.specs.Files.{input_in, pool_in, client_in, worker_in, op_in, node_in, program_of, total, same_name}
use Rattle.pipe_text.specs.Printing.{input_tokens, pool_tokens, client_tokens, worker_tokens, op_tokens, node_tokens}
use Rattle.pipe_text.proofs.Joined.{total-append}
use Rattle.value_core.proofs.Basics.{nat_is}

-- ---- tokens_in

-- a declaration's line
abbrev pub decl_tokens : Declaration → List Token
decl_tokens (Input d) = input_tokens d
decl_tokens (Pool d) = pool_tokens d
decl_tokens (Client d) = client_tokens d
decl_tokens (Worker d) = worker_tokens d
decl_tokens (Op d) = op_tokens d
decl_tokens (Node d n) = node_tokens d

-- the rank of a declaration's kind among the lines of a program
rank : Declaration → ℕ
rank (Input d) = 0
rank (Pool d) = 1
rank (Client d) = 2
rank (Worker d) = 3
rank (Op d) = 4
rank (Node d n) = 5

-- those of one kind
only : ℕ → List Declaration → List Declaration
only n [] = []
only n (d ∷ ds) = cond (rank d == n) (d ∷ only n ds) (only n ds)

-- those of the tokens_in from n on, for so many tokens_in
groups : ℕ → ℕ → List Declaration → List Declaration
groups zero n ds = []
groups (suc k) n ds = only n ds ++ groups k (suc n) ds

-- in the order in which they are printed
pub by_kind : List Declaration → List Declaration
by_kind ds = groups 6 0 ds

-- ---- what holds of each

each_append : (P : Declaration → Type 0) (xs ys : List Declaration) → AllByRecursion P xs → AllByRecursion P ys → AllByRecursion P (xs ++ ys)
each_append P [] ys h g = g
each_append P (x ∷ xs) ys (one_is, h) g = (one_is, each_append P xs ys h g)

if_each : (P : Declaration → Type 0) (b : Bool) (d : Declaration) (ds : List Declaration) → (b ≡ true → P d) → AllByRecursion P ds → AllByRecursion P (cond b (d ∷ ds) ds)
if_each P true d ds one_is h = (one_is refl, h)
if_each P false d ds one_is h = h

only_each : (P : Declaration → Type 0) (n : ℕ) (ds : List Declaration) → AllByRecursion P ds → AllByRecursion P (only n ds)
unfolding only
only_each P n [] h = tt
only_each P n (d ∷ ds) (one_is, h) = if_each P (rank d == n) d (only n ds) (λ e. one_is) (only_each P n ds h)

groups_each : (P : Declaration → Type 0) (k n : ℕ) (ds : List Declaration) → AllByRecursion P ds → AllByRecursion P (groups k n ds)
unfolding groups
groups_each P zero n ds h = tt
groups_each P (suc k) n ds h = each_append P (only n ds) (groups k (suc n) ds) (only_each P n ds h) (groups_each P k (suc n) ds h)

pub kinds_each : (P : Declaration → Type 0) (ds : List Declaration) → AllByRecursion P ds → AllByRecursion P (by_kind ds)
unfolding by_kind
kinds_each P ds h = groups_each P 6 0 ds h

only_rank : (n : ℕ) (ds : List Declaration) → AllByRecursion (λ d. rank d ≡ n) (only n ds)
unfolding only
only_rank n [] = tt
only_rank n (d ∷ ds) = if_each (λ x. rank x ≡ n) (rank d == n) d (only n ds) (λ e. nat_is (rank d) n e) (only_rank n ds)

weaker : (P Q : Declaration → Type 0) (ds : List Declaration) → ((d : Declaration) → P d → Q d) → AllByRecursion P ds → AllByRecursion Q ds
weaker P Q [] f h = tt
weaker P Q (d ∷ ds) f (one_is, h) = (f d one_is, weaker P Q ds f h)

groups_rank : (k n : ℕ) (ds : List Declaration) → AllByRecursion (λ d. n ≤ rank d) (groups k n ds)
unfolding groups
groups_rank zero n ds = tt
groups_rank (suc k) n ds =
    each_append (λ d. n ≤ rank d) (only n ds) (groups k (suc n) ds) (weaker (λ d. rank d ≡ n) (λ d. n ≤ rank d) (only n ds) (λ d e. omega (arith, e)) (only_rank n ds))
    (weaker (λ d. suc n ≤ rank d) (λ d. n ≤ rank d) (groups k (suc n) ds) (λ d h. omega (arith, h)) (groups_rank k (suc n) ds))

-- ---- names

-- declarations of different tokens_in never have one name
kinds_apart : (x y : Declaration) → (rank x ≡ rank y) ⊎ (same_name x y ≡ false)
unfolding rank
kinds_apart (Input d) (Input e) = inl refl
kinds_apart (Input d) (Pool e) = inr refl
kinds_apart (Input d) (Client e) = inr refl
kinds_apart (Input d) (Worker e) = inr refl
kinds_apart (Input d) (Op e) = inr refl
kinds_apart (Input d) (Node e m) = inr refl
kinds_apart (Pool d) (Input e) = inr refl
kinds_apart (Pool d) (Pool e) = inl refl
kinds_apart (Pool d) (Client e) = inr refl
kinds_apart (Pool d) (Worker e) = inr refl
kinds_apart (Pool d) (Op e) = inr refl
kinds_apart (Pool d) (Node e m) = inr refl
kinds_apart (Client d) (Input e) = inr refl
kinds_apart (Client d) (Pool e) = inr refl
kinds_apart (Client d) (Client e) = inl refl
kinds_apart (Client d) (Worker e) = inr refl
kinds_apart (Client d) (Op e) = inr refl
kinds_apart (Client d) (Node e m) = inr refl
kinds_apart (Worker d) (Input e) = inr refl
kinds_apart (Worker d) (Pool e) = inr refl
kinds_apart (Worker d) (Client e) = inr refl
kinds_apart (Worker d) (Worker e) = inl refl
kinds_apart (Worker d) (Op e) = inr refl
kinds_apart (Worker d) (Node e m) = inr refl
kinds_apart (Op d) (Input e) = inr refl
kinds_apart (Op d) (Pool e) = inr refl
kinds_apart (Op d) (Client e) = inr refl
kinds_apart (Op d) (Worker e) = inr refl
kinds_apart (Op d) (Op e) = inl refl
kinds_apart (Op d) (Node e m) = inr refl
kinds_apart (Node d n) (Input e) = inr refl
kinds_apart (Node d n) (Pool e) = inr refl
kinds_apart (Node d n) (Client e) = inr refl
kinds_apart (Node d n) (Worker e) = inr refl
kinds_apart (Node d n) (Op e) = inr refl
kinds_apart (Node d n) (Node e m) = inl refl

other_kind : (x y : Declaration) → (rank x ≡ rank y) ⊎ (same_name x y ≡ false) → rank x < rank y → same_name x y ≡ false
other_kind x y (inl same) less = absurd (omega (arith, same, less))
other_kind x y (inr apart) less = apart

distinct_append : (xs ys : List Declaration) → IsDistinct same_name xs → IsDistinct same_name ys → AllByRecursion (λ x. AllByRecursion (λ y. same_name x y ≡ false) ys) xs → IsDistinct same_name (xs ++ ys)
unfolding IsDistinct
distinct_append [] ys h g apart = g
distinct_append (x ∷ xs) ys (new, h) g (one_is, apart) = (each_append (λ y. same_name x y ≡ false) xs ys new one_is, distinct_append xs ys h g apart)

if_distinct : (b : Bool) (d : Declaration) (ds : List Declaration) → AllByRecursion (λ y. same_name d y ≡ false) ds → IsDistinct same_name ds → IsDistinct same_name (cond b (d ∷ ds) ds)
unfolding IsDistinct
if_distinct true d ds new h = (new, h)
if_distinct false d ds new h = h

only_distinct : (n : ℕ) (ds : List Declaration) → IsDistinct same_name ds → IsDistinct same_name (only n ds)
unfolding IsDistinct only
only_distinct n [] h = tt
only_distinct n (d ∷ ds) (new, h) = if_distinct (rank d == n) d (only n ds) (only_each (λ y. same_name d y ≡ false) n ds new) (only_distinct n ds h)

groups_distinct : (k n : ℕ) (ds : List Declaration) → IsDistinct same_name ds → IsDistinct same_name (groups k n ds)
unfolding IsDistinct groups
groups_distinct zero n ds h = tt
groups_distinct (suc k) n ds h =
    distinct_append (only n ds) (groups k (suc n) ds) (only_distinct n ds h) (groups_distinct k (suc n) ds h)
    (weaker (λ x. rank x ≡ n) (λ x. AllByRecursion (λ y. same_name x y ≡ false) (groups k (suc n) ds)) (only n ds)
    (λ x e. weaker (λ y. suc n ≤ rank y) (λ y. same_name x y ≡ false) (groups k (suc n) ds) (λ y later. other_kind x y (kinds_apart x y) (omega (arith, e, later))) (groups_rank k (suc n) ds)) (only_rank n ds))

pub kinds_distinct : (ds : List Declaration) → IsDistinct same_name ds → IsDistinct same_name (by_kind ds)
unfolding by_kind
kinds_distinct ds h = groups_distinct 6 0 ds h

-- ---- sums

if_total : (f : Declaration → ℕ) (b : Bool) (d : Declaration) (ds : List Declaration) → total f (cond b (d ∷ ds) ds) ≡ cond b (f d) 0 + total f ds
if_total f true d ds = refl
if_total f false d ds = omega arith

-- a number of those that are of the tokens_in from n on
part : (Declaration → ℕ) → ℕ → ℕ → Declaration → ℕ
part f zero n d = 0
part f (suc k) n d = cond (rank d == n) (f d) 0 + part f k (suc n) d

groups_none : (f : Declaration → ℕ) (k n : ℕ) → total f (groups k n []) ≡ 0
unfolding groups only
groups_none f zero n = refl
groups_none f (suc k) n = groups_none f k (suc n)

groups_more : (f : Declaration → ℕ) (k n : ℕ) (d : Declaration) (ds : List Declaration) → total f (groups k n (d ∷ ds)) ≡ part f k n d + total f (groups k n ds)
unfolding groups only part
groups_more f zero n d ds = refl
groups_more f (suc k) n d ds =
    let here = total-append f (only n (d ∷ ds)) (groups k (suc n) (d ∷ ds)) in
    let there = total-append f (only n ds) (groups k (suc n) ds) in
    let one_is = if_total f (rank d == n) d (only n ds) in
    let more = groups_more f k (suc n) d ds in
    omega (arith, here, there, one_is, more)

whole : (f : Declaration → ℕ) (d : Declaration) → part f 6 0 d ≡ f d
unfolding part rank
whole f (Input d) = omega arith
whole f (Pool d) = omega arith
whole f (Client d) = omega arith
whole f (Worker d) = omega arith
whole f (Op d) = omega arith
whole f (Node d n) = omega arith

pub kinds_total : (f : Declaration → ℕ) (ds : List Declaration) → total f (by_kind ds) ≡ total f ds
unfolding by_kind
kinds_total f [] = groups_none f 6 0
kinds_total f (d ∷ ds) = let more = groups_more f 6 0 d ds in let all = whole f d in let rest = kinds_total f ds in omega (arith, more, all, rest)

-- ---- the program, and its lines

-- what is picked of the kind at n, with its line, and of no other kind
Picks : {X : Type 0} → (Declaration → Option X) → (X → List Token) → ℕ → Declaration → Type 0
Picks {X} pick tokens n d = ((x : X) × ((rank d == n) ≡ true) × (pick d ≡ Some x) × (decl_tokens d ≡ tokens x)) ⊎ (((rank d == n) ≡ false) × (pick d ≡ None))

input_picks : (d : Declaration) → Picks input_in input_tokens 0 d
unfolding Picks rank
input_picks (Input d) = inl (d, refl, refl, refl)
input_picks (Pool d) = inr (refl, refl)
input_picks (Client d) = inr (refl, refl)
input_picks (Worker d) = inr (refl, refl)
input_picks (Op d) = inr (refl, refl)
input_picks (Node d n) = inr (refl, refl)

pool_picks : (d : Declaration) → Picks pool_in pool_tokens 1 d
unfolding Picks rank
pool_picks (Input d) = inr (refl, refl)
pool_picks (Pool d) = inl (d, refl, refl, refl)
pool_picks (Client d) = inr (refl, refl)
pool_picks (Worker d) = inr (refl, refl)
pool_picks (Op d) = inr (refl, refl)
pool_picks (Node d n) = inr (refl, refl)

client_picks : (d : Declaration) → Picks client_in client_tokens 2 d
unfolding Picks rank
client_picks (Input d) = inr (refl, refl)
client_picks (Pool d) = inr (refl, refl)
client_picks (Client d) = inl (d, refl, refl, refl)
client_picks (Worker d) = inr (refl, refl)
client_picks (Op d) = inr (refl, refl)
client_picks (Node d n) = inr (refl, refl)

worker_picks : (d : Declaration) → Picks worker_in worker_tokens 3 d
unfolding Picks rank
worker_picks (Input d) = inr (refl, refl)
worker_picks (Pool d) = inr (refl, refl)
worker_picks (Client d) = inr (refl, refl)
worker_picks (Worker d) = inl (d, refl, refl, refl)
worker_picks (Op d) = inr (refl, refl)
worker_picks (Node d n) = inr (refl, refl)

op_picks : (d : Declaration) → Picks op_in op_tokens 4 d
unfolding Picks rank
op_picks (Input d) = inr (refl, refl)
op_picks (Pool d) = inr (refl, refl)
op_picks (Client d) = inr (refl, refl)
op_picks (Worker d) = inr (refl, refl)
op_picks (Op d) = inl (d, refl, refl, refl)
op_picks (Node d n) = inr (refl, refl)

node_picks : (d : Declaration) → Picks node_in node_tokens 5 d
unfolding Picks rank
node_picks (Input d) = inr (refl, refl)
node_picks (Pool d) = inr (refl, refl)
node_picks (Client d) = inr (refl, refl)
node_picks (Worker d) = inr (refl, refl)
node_picks (Op d) = inr (refl, refl)
node_picks (Node d n) = inl (d, refl, refl, refl)

module _ {X : Type 0} (pick : Declaration → Option X) (tokens : X → List Token) (at : ℕ) (picks : (d : Declaration) → Picks pick tokens at d) where
  own_more : (d : Declaration) (ds es : List Declaration) → Picks pick tokens at d → filter_map pick ds ≡ filter_map pick es → filter_map pick (cond (rank d == at) (d ∷ ds) ds) ≡ cons_option (pick d) (filter_map pick es)
  unfolding Picks
  own_more d ds es (inl (x, here, is, line)) e = rw (here, e) refl
  own_more d ds es (inr (other, none)) e = rw (other, none, e) refl

  own : (ds : List Declaration) → filter_map pick (only at ds) ≡ filter_map pick ds
  unfolding only
  own [] = refl
  own (d ∷ ds) = own_more d (only at ds) ds (picks d) (own ds)

  other_more : (n : ℕ) (d : Declaration) (ds : List Declaration) (b : Bool) → n ≢ at → (rank d == n) ≡ b → Picks pick tokens at d → filter_map pick ds ≡ [] → filter_map pick (cond b (d ∷ ds) ds) ≡ []
  unfolding Picks
  other_more n d ds true apart is (inl (x, here, some, line)) e = absurd (apart (sym (nat_is (rank d) n is) ∙ nat_is (rank d) at here))
  other_more n d ds true apart is (inr (other, none)) e = rw (none, e) refl
  other_more n d ds false apart is p e = e

  other : (n : ℕ) → n ≢ at → (ds : List Declaration) → filter_map pick (only n ds) ≡ []
  unfolding only
  other n apart [] = refl
  other n apart (d ∷ ds) = other_more n d (only n ds) (rank d == n) apart refl (picks d) (other n apart ds)

  none_from : (k n : ℕ) (ds : List Declaration) → at < n → filter_map pick (groups k n ds) ≡ []
  unfolding groups
  none_from zero n ds h = refl
  none_from (suc k) n ds h = filter_map-append pick (only n ds) (groups k (suc n) ds) ∙ (λ i. other n (λ e. omega (arith, e, h)) ds i ++ none_from k (suc n) ds (omega (arith, h)) i)

  at_or_after : (n : ℕ) → n ≤ at → (n ≡ at) ⊎ (n < at)
  at_or_after n h = grind (arith, h)

  all_next : (k n : ℕ) (ds : List Declaration) → (n ≡ at) ⊎ (n < at) → (n < at → filter_map pick (groups k (suc n) ds) ≡ filter_map pick ds) → filter_map pick (only n ds ++ groups k (suc n) ds) ≡ filter_map pick ds
  all_next k n ds (inl here) more =
      filter_map-append pick (only n ds) (groups k (suc n) ds) ∙ (λ i. (ap (λ (m : ℕ). filter_map pick (only m ds)) here ∙ own ds) i ++ none_from k (suc n) ds (omega (arith, here)) i) ∙ append-nil (filter_map pick ds)
  all_next k n ds (inr later) more = filter_map-append pick (only n ds) (groups k (suc n) ds) ∙ (λ i. other n (λ e. omega (arith, e, later)) ds i ++ more later i)

  all_from : (k n : ℕ) (ds : List Declaration) → n ≤ at → at < n + k → filter_map pick (groups k n ds) ≡ filter_map pick ds
  unfolding groups
  all_from zero n ds h g = absurd (omega (arith, h, g))
  all_from (suc k) n ds h g = all_next k n ds (at_or_after n h) (λ later. all_from k (suc n) ds (omega (arith, later)) (omega (arith, g)))

  lines_more : (d : Declaration) (ds es : List Declaration) → Picks pick tokens at d → map decl_tokens ds ≡ map tokens (filter_map pick es) → map decl_tokens (cond (rank d == at) (d ∷ ds) ds) ≡ map tokens (cons_option (pick d) (filter_map pick es))
  unfolding Picks
  lines_more d ds es (inl (x, here, is, line)) e = rw (here, is, e, line) refl
  lines_more d ds es (inr (other, none)) e = rw (other, none, e) refl

  lines : (ds : List Declaration) → map decl_tokens (only at ds) ≡ map tokens (filter_map pick ds)
  unfolding only
  lines [] = refl
  lines (d ∷ ds) = lines_more d (only at ds) ds (picks d) (lines ds)

pub kinds_program : (v : ℕ) (ds : List Declaration) → program_of v (by_kind ds) ≡ program_of v ds
unfolding by_kind
kinds_program v ds = λ i. record {
  version = v;
  inputs = all_from input_in input_tokens 0 input_picks 6 0 ds (omega arith) (omega arith) i;
  pools = all_from pool_in pool_tokens 1 pool_picks 6 0 ds (omega arith) (omega arith) i;
  clients = all_from client_in client_tokens 2 client_picks 6 0 ds (omega arith) (omega arith) i;
  workers = all_from worker_in worker_tokens 3 worker_picks 6 0 ds (omega arith) (omega arith) i;
  ops = all_from op_in op_tokens 4 op_picks 6 0 ds (omega arith) (omega arith) i;
  nodes = all_from node_in node_tokens 5 node_picks 6 0 ds (omega arith) (omega arith) i;
}

group_lines : (k n : ℕ) (ds : List Declaration) → map decl_tokens (groups (suc k) n ds) ≡ map decl_tokens (only n ds) ++ map decl_tokens (groups k (suc n) ds)
unfolding groups
group_lines k n ds = map-append decl_tokens (only n ds) (groups k (suc n) ds)

last_lines : (n : ℕ) (ds : List Declaration) → map decl_tokens (groups 1 n ds) ≡ map decl_tokens (only n ds)
unfolding groups
last_lines n ds = ap (map decl_tokens) (append-nil (only n ds))

-- the lines of the declarations of a program
abbrev pub decl_lines : Program → List (List Token)
decl_lines p = map input_tokens p.inputs ++ (map pool_tokens p.pools ++ (map client_tokens p.clients ++ (map worker_tokens p.workers ++ (map op_tokens p.ops ++ map node_tokens p.nodes))))

pub kinds_lines : (v : ℕ) (ds : List Declaration) → map decl_tokens (by_kind ds) ≡ decl_lines (program_of v ds)
unfolding by_kind
kinds_lines v ds =
    let e0 = group_lines 5 0 ds in
    let e1 = group_lines 4 1 ds in
    let e2 = group_lines 3 2 ds in
    let e3 = group_lines 2 3 ds in
    let e4 = group_lines 1 4 ds in
    let e5 = last_lines 5 ds in
    rw (e0, e1, e2, e3, e4, e5)
    (λ i. lines input_in input_tokens 0 input_picks ds i ++ (lines pool_in pool_tokens 1 pool_picks ds i ++ (lines client_in client_tokens 2 client_picks ds i ++ (lines worker_in worker_tokens 3 worker_picks ds i
    ++ (lines op_in op_tokens 4 op_picks ds i ++ lines node_in node_tokens 5 node_picks ds i)))))
