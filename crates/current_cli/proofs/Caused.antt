-- Where the status of a session comes from.
use Rattle.std.proofs.Common.{◌≡◌, ℕ, List, refl, ap, ◌∙◌, subst, arith, inl, inr}
use Rattle.std.specs.Prelude.{◌⊎◌, true, false, Bool, nat_lt, if◌then◌else◌}
use Rattle.io_ends.specs.Causes.{Rose, SinkSide, raised}
use Rattle.keeper_core.specs.KeeperCalls.{counted}
use Rattle.session_rules.specs.declared.ends.SessionEnd.{SessionEnd}
use Rattle.session_rules.specs.declared.ends.SessionEnd.TheVariants as stop
use Rattle.session_core.specs.Runs.{Faults, IsEndCaused}
use Rattle.store_reports.specs.Causes.{Counts, IsCaused, Tells}
use Rattle.value_core.proofs.Basics.{nat_lt_not}
use Rattle.current_cli.specs.inside.Parts.{TellsEnd}

-- the counts of a program by those of its session, where those of the sink and the keepers are these
abbrev pub counts_in : Faults → ℕ → ℕ → Counts
counts_in c sink keepers = record { source = c.source; sink = sink; files = c.files; keepers = keepers }

-- a keeper that failed is counted
rose_by : (b : Bool) (k n : ℕ) → nat_lt 0 n ≡ b → Rose 0 n → Rose k (if b then raised k else k)
rose_by true k n e rose = omega arith
rose_by false k n e rose = absurd (omega (arith, rose, nat_lt_not 0 n e))

rose_counted : (k n : ℕ) → Rose 0 n → Rose k (counted k n)
rose_counted k n rose = rose_by (nat_lt 0 n) k n refl rose

-- nothing failed
same_counts : (c0 c1 : Faults) (k w : ℕ) → c0.keeper ≡ 0 → c1 ≡ c0 → w ≡ c0.sink → counts_in c1 w (counted k c1.keeper) ≡ counts_in c0 c0.sink k
same_counts c0 c1 k w zero same sink = rw (same, zero, sink) refl

-- a session began with these counts and ended with others, and its end was told
module _ (c0 c1 : Faults) (a b : SinkSide) (k : ℕ) (zero : c0.keeper ≡ 0) (before : a.faults ≡ c1.sink) where
  abbrev Old : Counts
  Old = counts_in c0 c0.sink k

  abbrev New : Counts
  New = counts_in c1 b.faults (counted k c1.keeper)

  kept_sink : b ≡ a → b.faults ≡ c1.sink
  kept_sink same = ap (λ (x : SinkSide). x.faults) same ∙ before

  -- a status that is none of a fault's
  plain : (status n : ℕ) → status ≡ n → (n ≡ 8) ⊎ ((n ≡ 9) ⊎ (n ≡ 7)) → IsCaused status Old New
  plain status n is (inl e) = record {
    done = λ x. absurd (omega (arith, is, e, x));
    read = λ x. absurd (omega (arith, is, e, x));
    write = λ x. absurd (omega (arith, is, e, x));
    keep = λ x. absurd (omega (arith, is, e, x));
    known = omega (arith, is, e);
  }
  plain status n is (inr (inl e)) = record {
    done = λ x. absurd (omega (arith, is, e, x));
    read = λ x. absurd (omega (arith, is, e, x));
    write = λ x. absurd (omega (arith, is, e, x));
    keep = λ x. absurd (omega (arith, is, e, x));
    known = omega (arith, is, e);
  }
  plain status n is (inr (inr e)) = record {
    done = λ x. absurd (omega (arith, is, e, x));
    read = λ x. absurd (omega (arith, is, e, x));
    write = λ x. absurd (omega (arith, is, e, x));
    keep = λ x. absurd (omega (arith, is, e, x));
    known = omega (arith, is, e);
  }

  written : (status : ℕ) → status ≡ 5 → Rose Old.sink New.sink → IsCaused status Old New
  written status is rose = record {
    done = λ x. absurd (omega (arith, is, x));
    read = λ x. absurd (omega (arith, is, x));
    write = λ x. rose;
    keep = λ x. absurd (omega (arith, is, x));
    known = omega (arith, is);
  }

  -- a line was told after a session in which nothing failed
  line_told : (line : List ℕ) (n status : ℕ) → (n ≡ 8) ⊎ ((n ≡ 9) ⊎ (n ≡ 7)) → c1 ≡ c0 → Tells line n status a b → IsCaused status Old New
  line_told line n status is same (inl x) = plain status n x.0 is
  line_told line n status is same (inr x) = written status x.0 (rw (← ap (λ (c : Faults). c.sink) same, ← before) x.2)

  pub session_caused : (end : SessionEnd) (status : ℕ) → (end ≡ stop.LimitReached → c1 ≡ c0) → IsEndCaused end c0 c1 → TellsEnd end status a b → IsCaused status Old New
  session_caused stop.Quit status limit cause x = record {
    done = λ e. same_counts c0 c1 k b.faults zero cause (kept_sink x.1 ∙ ap (λ (c : Faults). c.sink) cause);
    read = λ e. absurd (omega (arith, x.0, e));
    write = λ e. absurd (omega (arith, x.0, e));
    keep = λ e. absurd (omega (arith, x.0, e));
    known = omega (arith, x.0);
  }
  session_caused stop.ReadFault status limit cause x = record {
    done = λ e. absurd (omega (arith, x.0, e));
    read = λ e. cause;
    write = λ e. absurd (omega (arith, x.0, e));
    keep = λ e. absurd (omega (arith, x.0, e));
    known = omega (arith, x.0);
  }
  session_caused stop.WriteFault status limit cause x = written status x.0 (rw (kept_sink x.1) cause)
  session_caused stop.KeeperFault status limit cause x = record {
    done = λ e. absurd (omega (arith, x.0, e));
    read = λ e. absurd (omega (arith, x.0, e));
    write = λ e. absurd (omega (arith, x.0, e));
    keep = λ e. rose_counted k c1.keeper (subst (λ (n : ℕ). Rose n c1.keeper) zero cause);
    known = omega (arith, x.0);
  }
  session_caused stop.NoMemory status limit cause x = plain status 7 x.0 (inr (inr refl))
  session_caused stop.LimitReached status limit cause x = line_told _ 8 status (inl refl) (limit refl) x
  session_caused (stop.BadRow table n) status limit cause (inl x) = line_told _ 9 status (inr (inl refl)) cause x
  session_caused (stop.BadRow table n) status limit cause (inr x) = plain status 7 x.0 (inr (inr refl))
