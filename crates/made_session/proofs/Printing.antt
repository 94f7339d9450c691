-- The summary as a plan that was followed so far, and where the status comes from.
use Rattle.std.proofs.Common.{◌≡◌, ℕ, refl, sym, ap, subst, arith, inl, inr}
use Rattle.io_ends.specs.Causes.{Rose, SinkSide}
use Rattle.session_rules.specs.Commands.{telling}
use Rattle.session_rules.specs.Runs.{Seen}
use Rattle.store_reports.specs.Causes.{Counts, IsCaused}
use Rattle.store_reports.proofs.Told.{side, told}
use Rattle.made_session.specs.Promises.{IsMade, TellsSummary}

pub made_followed : (n status w w' : ℕ) (e e' : Seen) → TellsSummary n status (side e w) (side e' w') → e'.ran ≡ e.ran → IsMade n status e e'
made_followed n status w w' e e' (inl (text, summary, tells)) ran =
    inl (text, summary, (told (telling text 0) text 0 status w w' e e' (record { outputs = refl; status = refl; answered = inl refl }) tells ran).follows)
made_followed n status w w' e e' (inr (seven, same)) ran = inr (seven, ap (λ (x : SinkSide). x.written) same, ran)

-- where calls of other ends failed so often
pub made_caused : (n status : ℕ) (old new : SinkSide) (c : Counts) → TellsSummary n status old new → c.sink ≡ old.faults → IsCaused status c (record c { sink = new.faults })
made_caused n status old new c (inl (text, summary, inl (zero_is, wrote, kept))) before = record {
  done = λ e. ap (λ (k : ℕ). record c { sink = k }) (omega (arith, kept, before));
  read = λ e. absurd (omega (arith, zero_is, e));
  write = λ e. absurd (omega (arith, zero_is, e));
  keep = λ e. absurd (omega (arith, zero_is, e));
  known = omega (arith, zero_is);
}
made_caused n status old new c (inl (text, summary, inr (five, wrote, rose))) before = record {
  done = λ e. absurd (omega (arith, five, e));
  read = λ e. absurd (omega (arith, five, e));
  write = λ e. subst (λ (k : ℕ). Rose k new.faults) (sym before) rose;
  keep = λ e. absurd (omega (arith, five, e));
  known = omega (arith, five);
}
made_caused n status old new c (inr (seven, same)) before = record {
  done = λ e. absurd (omega (arith, seven, e));
  read = λ e. absurd (omega (arith, seven, e));
  write = λ e. absurd (omega (arith, seven, e));
  keep = λ e. absurd (omega (arith, seven, e));
  known = omega (arith, seven);
}
