-- Which of two tickets comes before the other is an order; so is which has the smaller job.
use Rattle.std.proofs.Common.{◌≡◌, ℕ, Bool, true, false, ◌&&◌, ◌||◌, refl, arith}
use Rattle.std.proofs.lemmas.Bool.Decides.{nat_tests}
use Rattle.std.specs.Prelude.{if◌then◌else◌, nat_lt, ◌==◌}
use Rattle.fair_pool.specs.Fair.{same_bool, comes_before, job_before}
use Rattle.fair_pool.specs.Kept.{rank_before}
use Rattle.fair_pool.proofs.Ordered.{IsBefore}
use Rattle.fair_pool.specs.declared.ticket.Ticket.{Ticket}

abbrev earlier : ℕ → ℕ → ℕ → ℕ → Bool
earlier a b c d = nat_lt a b || (a == b && nat_lt c d)

earlier_asym : (a b c d : ℕ) → earlier a b c d ≡ true → earlier b a d c ≡ false
earlier_asym a b c d e = grind (arith, nat_tests)

earlier_upto : (a b c x y z : ℕ) → earlier b a y x ≡ false → earlier c b z y ≡ false → earlier c a z x ≡ false
earlier_upto a b c x y z e f = grind (arith, nat_tests)

abbrev sooner : Bool → ℕ → ℕ → Bool → ℕ → ℕ → Bool
sooner u a c v b d = if same_bool u v then earlier a b c d else u

sooner_asym : (u v : Bool) (a b c d : ℕ) → sooner u a c v b d ≡ true → sooner v b d u a c ≡ false
sooner_asym true true a b c d e = earlier_asym a b c d e
sooner_asym true false a b c d e = refl
sooner_asym false true a b c d e = let z : ⊥ = cc in absurd z
sooner_asym false false a b c d e = earlier_asym a b c d e

sooner_upto : (u v w : Bool) (a b c x y z : ℕ) → sooner v b y u a x ≡ false → sooner w c z v b y ≡ false → sooner w c z u a x ≡ false
sooner_upto true true true a b c x y z e f = earlier_upto a b c x y z e f
sooner_upto true true false a b c x y z e f = refl
sooner_upto true false true a b c x y z e f = let k : ⊥ = cc in absurd k
sooner_upto true false false a b c x y z e f = refl
sooner_upto false true true a b c x y z e f = let k : ⊥ = cc in absurd k
sooner_upto false true false a b c x y z e f = let k : ⊥ = cc in absurd k
sooner_upto false false true a b c x y z e f = let k : ⊥ = cc in absurd k
sooner_upto false false false a b c x y z e f = earlier_upto a b c x y z e f

pub comes_before_order : IsBefore comes_before
comes_before_order = record {
  asym = λ a b. sooner_asym a.urgent b.urgent a.start b.start a.job b.job;
  upto = λ a b c. sooner_upto a.urgent b.urgent c.urgent a.start b.start c.start a.job b.job c.job;
}

pub rank_before_order : IsBefore rank_before
rank_before_order = record {
  asym = λ a b. sooner_asym a.urgent b.urgent a.start b.start a.job b.job;
  upto = λ a b c. sooner_upto a.urgent b.urgent c.urgent a.start b.start c.start a.job b.job c.job;
}

pub lt_asym : (a b : ℕ) → nat_lt a b ≡ true → nat_lt b a ≡ false
lt_asym a b e = grind (arith, nat_tests)

pub lt_upto : (a b c : ℕ) → nat_lt b a ≡ false → nat_lt c b ≡ false → nat_lt c a ≡ false
lt_upto a b c e f = grind (arith, nat_tests)

pub job_before_order : IsBefore job_before
job_before_order = record { asym = λ a b. lt_asym a.job b.job; upto = λ a b c. lt_upto a.job b.job c.job }

-- of two jobs that differ one ticket comes before the other
before_either : (u v : Bool) (a b c d : ℕ) → (c == d) ≡ false → sooner u a c v b d ≡ false → sooner v b d u a c ≡ true
before_either true true a b c d n e = grind (arith, nat_tests)
before_either true false a b c d n e = let k : ⊥ = cc in absurd k
before_either false true a b c d n e = refl
before_either false false a b c d n e = grind (arith, nat_tests)

pub comes_before_other : (k l : Ticket) → (k.job == l.job) ≡ false → comes_before k l ≡ false → comes_before l k ≡ true
comes_before_other k l = before_either k.urgent l.urgent k.start l.start k.job l.job
