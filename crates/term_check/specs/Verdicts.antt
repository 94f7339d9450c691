-- What the check of a term gives, and how it is put together from what the checks of its parts give.
use Rattle.std.specs.Prelude.{ℕ, ◌+◌, nat_lt, nat_le, Bool, ◌&&◌, ◌||◌, if◌then◌else◌, Option, Some, None}
use Rattle.value_core.specs.declared.value.Kind.{Kind}
use Rattle.value_core.specs.declared.value.Kind.TheVariants as kind
use Rattle.term_core.specs.Soundness.{kind_parts}
use Rattle.term_check.specs.declared.fault.CheckWhat.{CheckWhat}
use Rattle.term_check.specs.declared.fault.CheckWhat.TheVariants as what
use Rattle.term_check.specs.declared.verdict.Position.{Position}
use Rattle.term_check.specs.declared.verdict.Wrapping.{Wrapping}
use Rattle.term_check.specs.declared.verdict.Wrapping.TheVariants as wrapping
use Rattle.term_check.specs.declared.verdict.Verdict.{Verdict}
use Rattle.term_check.specs.declared.verdict.Verdict.TheVariants.{Typed, Faulty}
use Rattle.term_check.specs.declared.wanted.Wanted.{Wanted}

-- the position of a term's first part: the term itself counts where it stands in two list bodies
abbrev pub inside : Position → Position
inside s = record { bodies = s.bodies; deep = (if nat_le 2 s.bodies then s.deep + 1 else s.deep); at = s.at + 1 }

-- the position behind a part, with the counts that its check gave
abbrev pub behind : Position → ℕ → ℕ → Position
behind s deep next = record { bodies = s.bodies; deep = deep; at = next }

-- the position of a list term's body, behind its list
abbrev pub in_body : Position → ℕ → ℕ → Position
in_body s deep next = record { bodies = s.bodies + 1; deep = deep; at = next }

-- what follows a part that has a kind; else the part's fault
abbrev pub then_typed : Verdict → (Kind → ℕ → ℕ → Verdict) → Verdict
then_typed (Typed k deep next) go = go k deep next
then_typed (Faulty term w) go = Faulty term w

-- a kind where there is one, else a fault
abbrev pub typed_or : Verdict → ℕ → ℕ → Option Kind → Verdict
typed_or fault deep next (Some k) = Typed k deep next
typed_or fault deep next None = fault

-- what is made of the kind of the part at a number, where that is a wanted one
abbrev pub expected : (Kind → Option Kind) → Wanted → ℕ → Verdict → Verdict
expected turn wanted at v = then_typed v (λ k deep next. typed_or (Faulty at (what.KindMismatch k wanted)) deep next (turn k))

-- a kind made of a part's
abbrev pub turned_kind : (Kind → Kind) → Verdict → Verdict
turned_kind turn v = then_typed v (λ k deep next. Typed (turn k) deep next)

-- a list or an outcome of a kind
abbrev pub kind_in : Wrapping → Kind → Kind
kind_in wrapping.List k = kind.List k
kind_in wrapping.Outcome k = kind.Out k

-- the fault of a term's own name comes first
abbrev pub named : Option CheckWhat → ℕ → Verdict → Verdict
named (Some w) at v = Faulty at w
named None at v = v

-- whether a term stands too deep in lists: a list term in two list bodies, or the 65th term there
abbrev pub is_nested : Bool → Position → Bool
is_nested is_list s = nat_le 2 s.bodies && (is_list || nat_le 64 s.deep)

-- the nesting of lists comes next
abbrev pub nested : Bool → Position → Verdict → Verdict
nested is_list s v = if is_nested is_list s then Faulty s.at what.ListNesting else v

-- a kind of a term, where it has at most 64 parts
abbrev pub sized_kind : ℕ → Kind → ℕ → ℕ → Verdict
sized_kind at k deep next = if nat_lt 64 (kind_parts k) then Faulty at (what.KindTooLarge (kind_parts k)) else Typed k deep next

-- the size of the term's kind comes last
abbrev pub sized : ℕ → Verdict → Verdict
sized at v = then_typed v (sized_kind at)
