-- What outputs do to what is outside: to what was written, to what was run, and to the tables.
use Rattle.std.specs.Prelude.{◌≡◌, ℕ, List, [], ◌∷◌, ◌++◌, ◌⊎◌, IfSome, ⊤}
use Rattle.std.specs.declared.option.Option.{Option}
use Rattle.std.specs.declared.option.Option.TheVariants.{None, Some}
use Rattle.std.specs.Io.KnownBytes.{Appends}
use Rattle.op_keys.specs.declared.order.Exit.{Exit}
use Rattle.op_keys.specs.declared.order.Order.{Order}
use Rattle.core_rules.specs.declared.done.Delta.{Delta}
use Rattle.keeper_core.specs.declared.stored.Stored.{Stored}
use Rattle.keeper_core.specs.EitherSchema.{committed}
use Rattle.keeper_core.specs.KeeperCalls.{Known}
use Rattle.session_rules.specs.Outputs.{Output, Commit, Print, Run, deltas, texts, runs}

-- what was written, and the orders that were run with their exits, unless they are unknown; and what is known of the keeper
pub record Outside : Type 1 where
  pub written : Option (List ℕ)
  pub ran : Option (List (Order × Exit))
  pub keeper : Known

-- the tables after some commits, one after the other
abbrev pub with_deltas : List Delta → Stored → Stored
with_deltas [] s = s
with_deltas (d ∷ ds) s = with_deltas ds (committed d s)

-- a known list has these more at its end
abbrev pub Grows : {A : Type 0} → Option (List A) → Option (List A) → List A → Type 0
Grows None new more = ⊤
Grows (Some old) None more = ⊥
Grows (Some old) (Some new) more = new ≡ old ++ more

-- the tables, unless they are unknown, are those before after these commits
abbrev pub Keeps : Option Stored → Option Stored → List Delta → Type 0
Keeps old new ds = IfSome new (λ s. (was : Stored) × (old ≡ Some was) × (s ≡ with_deltas ds was))

-- a stop now leaves, unless the tables are unknown, those before after these commits, or after one more that was in progress
abbrev pub Leaves : Known → Known → List Delta → List Delta → Type 0
Leaves old new ds more =
    IfSome new.tables (λ s. (x : Stored) → new.after_stop x → (was : Stored) × (old.tables ≡ Some was) × ((x ≡ with_deltas ds was) ⊎ (x ≡ with_deltas (ds ++ more) was)))

-- if the tables are known now, they were known before
abbrev pub WereKnown : Known → Known → Type 0
WereKnown old new = IfSome new.tables (λ s. (was : Stored) × (old.tables ≡ Some was))

-- a stop leaves nothing but the tables, if they are known
abbrev pub LeavesTables : Known → Type 0
LeavesTables now = IfSome now.tables (λ s. (x : Stored) → now.after_stop x → x ≡ s)

-- All these outputs were done.
pub record Did (outputs : List Output) (e e' : Outside) : Type 0 where
  pub wrote : Appends e.written e'.written (texts outputs)
  pub ran : Grows e.ran e'.ran (runs outputs)
  pub kept : Keeps e.keeper.tables e'.keeper.tables (deltas outputs)
  pub sure : LeavesTables e.keeper → LeavesTables e'.keeper

-- a front of a text
abbrev pub IsFront : List ℕ → List ℕ → Type 0
IsFront front text = (rest : List ℕ) × (text ≡ front ++ rest)

-- What may be done of the first of the outputs that are left: a front of a text, a commit that may have been kept, and nothing of an order.
abbrev pub IsPart : List Output → List ℕ → List Delta → Type 0
IsPart [] text more = (text ≡ []) × (more ≡ [])
IsPart (Commit delta ∷ outputs) text more = (text ≡ []) × ((more ≡ []) ⊎ (more ≡ delta ∷ []))
IsPart (Print whole ∷ outputs) text more = IsFront text whole × (more ≡ [])
IsPart (Run order exit ∷ outputs) text more = (text ≡ []) × (more ≡ [])

-- The first of these outputs were done, and perhaps a part of the next.
pub record Stopped (outputs : List Output) (e e' : Outside) : Type 0 where
  pub done : List Output
  pub left : List Output
  pub text : List ℕ
  pub more : List Delta
  pub split : outputs ≡ done ++ left
  pub part : IsPart left text more
  pub wrote : Appends e.written e'.written (texts done ++ text)
  pub ran : Grows e.ran e'.ran (runs done)
  pub known : WereKnown e.keeper e'.keeper
  pub leaves : LeavesTables e.keeper → Leaves e.keeper e'.keeper (deltas done) more
