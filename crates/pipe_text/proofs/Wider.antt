-- Bounds that allow more.
use Rattle.std.proofs.Common.{◌≡◌, ℕ, ◌-◌, ◌≤◌, true, refl, ap, arith}
use Rattle.pipe_text.specs.declared.fault.Fault.{Fault}
use Rattle.pipe_text.specs.declared.fault.Fault.TheVariants.{Lex, Syntax, Limit, Duplicate}
use Rattle.pipe_text.specs.declared.fault.LimitName.{LimitName}
use Rattle.pipe_text.specs.declared.fault.LimitName.TheVariants as limit
use Rattle.pipe_text.specs.declared.words.DeclWord.{DeclWord}
use Rattle.pipe_text.specs.inside.FileReading.{Bounds}
use Rattle.pipe_text.specs.FirstFault.{SameLimit}
use Rattle.pipe_text.proofs.TermReads.{Under, under_refl}

pub record Wider (a b : Bounds) : Type 0 where
  pub lim : Under a.lim b.lim
  pub depth : a.depth ≤ b.depth
  pub terms : a.terms ≤ b.terms
  pub most : (w : DeclWord) → a.most w ≤ b.most w
  pub twice : a.twice ≡ true → b.twice ≡ true

-- both have the same limit that the fault names
abbrev pub SameNamed : Fault → Bounds → Bounds → Type 0
SameNamed (Limit what n p) a b = SameLimit what a b
SameNamed (Duplicate n p) a b = a.twice ≡ b.twice
SameNamed (Lex p) a b = Unit {0}
SameNamed (Syntax p) a b = Unit {0}

-- wider, but not in the limit that the fault names
abbrev pub Up : Fault → Bounds → Bounds → Type 0
Up f a b = Wider a b × SameNamed f a b

pub wider_refl : (b : Bounds) → Wider b b
wider_refl b = record { lim = under_refl b.lim; depth = omega arith; terms = omega arith; most = λ w. omega arith; twice = λ e. e }

same_refl : (m : LimitName) (b : Bounds) → SameLimit m b b
same_refl limit.File b = refl
same_refl limit.Inputs b = refl
same_refl limit.Pools b = refl
same_refl limit.Clients b = refl
same_refl limit.Workers b = refl
same_refl limit.Ops b = refl
same_refl limit.Nodes b = refl
same_refl limit.Terms b = refl
same_refl limit.Depth b = refl
same_refl limit.Text b = refl
same_refl limit.Name b = refl
same_refl limit.List b = refl
same_refl limit.Words b = refl
same_refl limit.Hold b = refl
same_refl limit.Rate b = refl
same_refl limit.Capacity b = refl
same_refl limit.Cost b = refl
same_refl limit.ValidFor b = refl
same_refl limit.Minute b = refl
same_refl limit.Day b = refl
same_refl limit.Offset b = refl

pub up_refl : (f : Fault) (b : Bounds) → Up f b b
up_refl (Limit m n p) b = (wider_refl b, same_refl m b)
up_refl (Lex p) b = (wider_refl b, tt)
up_refl (Syntax p) b = (wider_refl b, tt)
up_refl (Duplicate n p) b = (wider_refl b, refl)

-- ---- bounds on the way

-- with so many brackets and terms
abbrev pub Inner : Bounds → ℕ → ℕ → Bounds
Inner b d n = record { lim = b.lim; depth = d; terms = n; most = b.most; twice = b.twice }

-- with so many terms less
abbrev pub less : ℕ → Bounds → Bounds
less k b = Inner b b.depth (b.terms - k)

-- inside one more bracket
abbrev pub inside : Bounds → Bounds
inside b = Inner b (b.depth - 1) (b.terms - 1)

pub less_wider : (k : ℕ) (b e : Bounds) → Wider b e → Wider (less k b) (less k e)
less_wider k b e w = let h = w.terms in record { lim = w.lim; depth = w.depth; terms = omega (arith, h); most = w.most; twice = w.twice }

pub inside_wider : (b e : Bounds) → Wider b e → Wider (inside b) (inside e)
inside_wider b e w = let h = w.terms in let d = w.depth in record { lim = w.lim; depth = omega (arith, d); terms = omega (arith, h); most = w.most; twice = w.twice }

less_same : (m : LimitName) (k : ℕ) (b e : Bounds) → SameLimit m b e → SameLimit m (less k b) (less k e)
less_same limit.File k b e h = h
less_same limit.Inputs k b e h = h
less_same limit.Pools k b e h = h
less_same limit.Clients k b e h = h
less_same limit.Workers k b e h = h
less_same limit.Ops k b e h = h
less_same limit.Nodes k b e h = h
less_same limit.Terms k b e h = ap (λ (n : ℕ). n - k) h
less_same limit.Depth k b e h = h
less_same limit.Text k b e h = h
less_same limit.Name k b e h = h
less_same limit.List k b e h = h
less_same limit.Words k b e h = h
less_same limit.Hold k b e h = h
less_same limit.Rate k b e h = h
less_same limit.Capacity k b e h = h
less_same limit.Cost k b e h = h
less_same limit.ValidFor k b e h = h
less_same limit.Minute k b e h = h
less_same limit.Day k b e h = h
less_same limit.Offset k b e h = h

inside_same : (m : LimitName) (b e : Bounds) → SameLimit m b e → SameLimit m (inside b) (inside e)
inside_same limit.File b e h = h
inside_same limit.Inputs b e h = h
inside_same limit.Pools b e h = h
inside_same limit.Clients b e h = h
inside_same limit.Workers b e h = h
inside_same limit.Ops b e h = h
inside_same limit.Nodes b e h = h
inside_same limit.Terms b e h = ap (λ (n : ℕ). n - 1) h
inside_same limit.Depth b e h = ap (λ (n : ℕ). n - 1) h
inside_same limit.Text b e h = h
inside_same limit.Name b e h = h
inside_same limit.List b e h = h
inside_same limit.Words b e h = h
inside_same limit.Hold b e h = h
inside_same limit.Rate b e h = h
inside_same limit.Capacity b e h = h
inside_same limit.Cost b e h = h
inside_same limit.ValidFor b e h = h
inside_same limit.Minute b e h = h
inside_same limit.Day b e h = h
inside_same limit.Offset b e h = h

pub less_up : (k : ℕ) (b : Bounds) (f : Fault) (e : Bounds) → Up f b e → Up f (less k b) (less k e)
less_up k b (Limit m n p) e (w, h) = (less_wider k b e w, less_same m k b e h)
less_up k b (Lex p) e (w, h) = (less_wider k b e w, tt)
less_up k b (Syntax p) e (w, h) = (less_wider k b e w, tt)
less_up k b (Duplicate n p) e (w, h) = (less_wider k b e w, h)

pub inside_up : (b : Bounds) (f : Fault) (e : Bounds) → Up f b e → Up f (inside b) (inside e)
inside_up b (Limit m n p) e (w, h) = (inside_wider b e w, inside_same m b e h)
inside_up b (Lex p) e (w, h) = (inside_wider b e w, tt)
inside_up b (Syntax p) e (w, h) = (inside_wider b e w, tt)
inside_up b (Duplicate n p) e (w, h) = (inside_wider b e w, h)
