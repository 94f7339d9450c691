-- What a session over the made ends came to.
use Rattle.std.proofs.Common.{◌≡◌, ℕ, List, [], ◌∷◌, length, refl, sym, ap, subst, ◌∙◌, arith, inl, inr}
use Rattle.std.specs.Prelude.{◌⊎◌, IfSome}
use Rattle.std.specs.declared.option.Option.{Option}
use Rattle.std.specs.declared.option.Option.TheVariants.{None, Some}
use Rattle.io_ends.specs.Memory.{contents_at}
use Rattle.op_keys.specs.declared.order.Exit.{Exit}
use Rattle.op_keys.specs.declared.order.Order.{Order}
use Rattle.keeper_core.specs.Contents.{fresh, loaded}
use Rattle.keeper_core.specs.declared.stored.Stored.{Stored}
use Rattle.keeper_core.specs.declared.stored.Stored.TheVariants.{Current}
use Rattle.session_rules.specs.declared.ends.SessionEnd.{SessionEnd}
use Rattle.session_rules.specs.declared.ends.SessionEnd.TheVariants as end
use Rattle.session_rules.specs.Commands.{made_program, made_script}
use Rattle.session_rules.specs.Outputs.{Output, Commit, Print, Run, deltas, exits, runs}
use Rattle.session_rules.specs.Outside.{Grows, Outside}
use Rattle.session_rules.specs.Runs.{AreEchoes, made_transcript}
use Rattle.session_rules.specs.Sessions.{Finishes, Script, end_reached}
use Rattle.session_rules.specs.Transcripts.{Bad, End, Limit, Quits, Transcript, transcript}
use Rattle.session_rules.specs.Versions.{FinishesCounted}
use Rattle.session_core.specs.Runs.{Faults, Given, IsCountedOn, IsEndCaused, IsSessionOn, Subject, script_on, with_exits}
use Rattle.made_session.specs.inside.Echoes.{AreEchoed}
use Rattle.made_session.specs.Promises.{Summed}
use Rattle.made_session.proofs.ScriptEnd.{made_quits}

-- outputs whose orders were echoed
echoes_in : (outputs : List Output) → AreEchoed (runs outputs) → AreEchoes outputs
echoes_in [] h = tt
echoes_in (Commit d ∷ outputs) h = echoes_in outputs h
echoes_in (Print t ∷ outputs) h = echoes_in outputs h
echoes_in (Run o x ∷ outputs) h = (h.0, echoes_in outputs h.1)

if_at : {A : Type 0} (o : Option A) (P : A → Type 0) (a : A) → IfSome o P → o ≡ Some a → P a
if_at None P a p is = absurd (cc)
if_at (Some b) P a p is = subst P (let same : b ≡ a = cc in same) p

-- the orders that were run, from none on
ran_is : (a b : Option (List (Order × Exit))) (all more : List (Order × Exit)) → a ≡ Some [] → b ≡ Some all → Grows a b more → all ≡ more
ran_is a b all more none now grown =
    let g : Grows (Some []) (Some all) more = subst (λ (o : Option (List (Order × Exit))). Grows (Some []) o more) now (subst (λ (o : Option (List (Order × Exit))). Grows o b more) none grown) in
    g

-- no call of an end has failed
abbrev pub none_failed : Faults
none_failed = record { source = 0; sink = 0; keeper = 0; files = 0 }

-- what the made ends give
pub record IsMadeOf (n : ℕ) (x : Subject) (given : Given) (e e' : Outside) (all : List (Order × Exit)) : Type 1 where
  pub program : x.program ≡ made_program n
  pub threshold : x.threshold ≡ None
  pub counting : x.counting ≡ None
  pub bytes : given.bytes ≡ Some (made_script n)
  pub readings : given.readings ≡ Some []
  pub contents : given.contents ≡ Some (contents_at [])
  pub tables : e.keeper.tables ≡ Some (Current fresh)
  pub later : Stored
  pub later_tables : e'.keeper.tables ≡ Some later
  pub none : e.ran ≡ Some []
  pub now : e'.ran ≡ Some all
  pub echoed : AreEchoed all

module _ (n : ℕ) (x : Subject) (given : Given) (e e' : Outside) (all : List (Order × Exit)) (m : IsMadeOf n x given e e' all) where
  abbrev t : Script
  t = script_on x (with_exits (made_script n) [] (contents_at [])) (loaded fresh)

  t_is : (xs : List Exit) → t xs ≡ made_transcript n xs
  t_is xs = λ i. transcript (m.program i) (loaded fresh) (m.threshold i) (m.counting i) (record { bytes = made_script n; readings = []; contents = contents_at []; exits = xs })

  -- the session came to its end
  summed : (v o : ℕ) → o ≡ length all → FinishesCounted t Quits 0 v e e' → Summed n v o
  summed v o count x =
      let outputs = x.finishes.outputs in
      let goes : made_transcript n (exits outputs) ≡ record { outputs = outputs; end = Quits } = sym (t_is (exits outputs)) ∙ x.finishes.goes in
      let made : (made_transcript n (exits outputs)).outputs ≡ outputs = ap (λ (r : Transcript). r.outputs) goes in
      let ran : all ≡ runs outputs = ran_is e.ran e'.ran all (runs outputs) m.none m.now x.finishes.did.ran in
      let versions = x.versions in
      record {
        exits = exits outputs;
        echoes = subst AreEchoes (sym made) (echoes_in outputs (subst AreEchoed ran m.echoed));
        end = ap (λ (r : Transcript). r.end) goes;
        versions_are = subst (λ (us : List Output). v ≡ length (deltas us)) (sym made) (omega (arith, versions));
        orders_are = subst (λ (us : List Output). o ≡ length (runs us)) (sym made) (count ∙ ap length ran);
      }

  pub made_summed : (v o : ℕ) → o ≡ length all → IsCountedOn x given end.Quit v e e' → Summed n v o
  made_summed v o count counted =
      let at_bytes = if_at given.bytes _ (made_script n) (counted refl) m.bytes in
      let at_readings = if_at given.readings _ [] at_bytes m.readings in
      let at_contents = if_at given.contents _ (contents_at []) at_readings m.contents in
      let at_tables = if_at e.keeper.tables _ (Current fresh) at_contents m.tables in
      let at_later = if_at e'.keeper.tables _ m.later at_tables m.later_tables in
      summed v o count at_later

  -- and no other end of the script is reached
  reached_is : (reached : End) → Finishes t reached e e' → reached ≡ Quits
  reached_is reached f = sym (ap (λ (r : Transcript). r.end) f.goes) ∙ ap (λ (r : Transcript). r.end) (t_is (exits f.outputs)) ∙ made_quits n (exits f.outputs)

  pub made_reaches : (ended : SessionEnd) (reached : End) → end_reached ended ≡ Some reached → IsSessionOn x given ended e e' → reached ≡ Quits
  made_reaches ended reached is session =
      let at_bytes = if_at given.bytes _ (made_script n) session m.bytes in
      let at_readings = if_at given.readings _ [] at_bytes m.readings in
      let at_contents = if_at given.contents _ (contents_at []) at_readings m.contents in
      let at_tables = if_at e.keeper.tables _ (Current fresh) at_contents m.tables in
      let at_later = if_at e'.keeper.tables _ m.later at_tables m.later_tables in
      reached_is reached (if_at (end_reached ended) (λ (r : End). Finishes t r e e') reached at_later.1 is)

  -- no other end comes than that of the script, or out of memory
  pub made_ends : (ended : SessionEnd) → IsEndCaused ended none_failed none_failed → IsSessionOn x given ended e e' → (ended ≡ end.Quit) ⊎ (ended ≡ end.NoMemory)
  made_ends end.Quit cause session = inl refl
  made_ends end.ReadFault cause session = absurd (elim cause [ inl rose ↦ omega (arith, rose) | inr rose ↦ omega (arith, rose) ])
  made_ends end.WriteFault cause session = absurd (omega (arith, cause))
  made_ends end.KeeperFault cause session = absurd (omega (arith, cause))
  made_ends end.NoMemory cause session = inr refl
  made_ends end.LimitReached cause session = let other : Limit ≡ Quits = made_reaches end.LimitReached Limit refl session in absurd (cc)
  made_ends (end.BadRow table row) cause session = let other : Bad table row ≡ Quits = made_reaches (end.BadRow table row) (Bad table row) refl session in absurd (cc)
