-- The check of the made pipeline fails only when out of memory.
use Rattle.std.proofs.Common.{◌≡◌, ℕ, ◌≤◌, refl, ap, ◌∙◌}
use Rattle.std.specs.declared.option.Option.TheVariants.{None, Some}
use Rattle.term_core.specs.declared.program.Program.{Program}
use Rattle.term_check.specs.Faults.{IsFirstFault, Tells, check_fault}
use Rattle.term_check.specs.declared.fault.CheckFault.{CheckFault}
use Rattle.term_check.specs.declared.fault.CheckWhat.{CheckWhat}
use Rattle.term_check.specs.declared.fault.CheckWhat.TheVariants as what
use Rattle.term_check.proofs.Whole.{faultless}
use Rattle.session_rules.specs.Commands.{made_program}
use Rattle.made_session.proofs.Sound.{made_sound}

-- a fault that isn't there is out of memory
memory_alone : (w : CheckWhat) (P : Type 0) → (P → ⊥) → Tells w P → w ≡ what.NoMemory
memory_alone (what.UnknownName name) P never tells = absurd (never tells)
memory_alone (what.ForwardName name) P never tells = absurd (never tells)
memory_alone (what.KindMismatch found wanted) P never tells = absurd (never tells)
memory_alone what.ListNesting P never tells = absurd (never tells)
memory_alone (what.KindTooLarge parts) P never tells = absurd (never tells)
memory_alone what.NoMemory P never tells = refl

pub made_memory : (n : ℕ) (p : Program) (f : CheckFault) → 1 ≤ n → n ≤ 1000 → p ≡ made_program n → IsFirstFault p f → f.what ≡ what.NoMemory
made_memory n p f some few is first =
    let none : check_fault p ≡ None = ap check_fault is ∙ faultless (made_program n) (made_sound n some few) in
    memory_alone f.what (check_fault p ≡ Some f) (λ found. (let no : ⊥ = cc in no)) first
