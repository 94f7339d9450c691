-- An order that a worker takes has from one word to 64.
use Rattle.std.proofs.Common.{◌≡◌, ◌≤◌, ℕ, List, [], ◌∷◌, map, length, inl, inr, refl, sym, ap, subst, ◌∙◌}
use Rattle.std.specs.Prelude.{Option, Some, IfSome, ◌==◌}
use Rattle.std.specs.List.{AllByRecursion}
use Rattle.std.proofs.lemmas.List.{length-map}
use Rattle.value_core.proofs.Basics.{cond_is}
use Rattle.op_keys.specs.declared.declarations.OpDecl.{OpDecl}
use Rattle.op_keys.specs.declared.order.Order.{Order}
use Rattle.op_keys.specs.Filling.{filled}
use Rattle.term_core.specs.Limits.{IsOpWithin}
use Rattle.core_rules.specs.declared.done.Done.{Done}
use Rattle.core_rules.specs.declared.events.Event.{Event}
use Rattle.core_rules.specs.declared.jobs.Job.{Job}
use Rattle.core_rules.specs.declared.notes.Note.{Note}
use Rattle.core_rules.specs.declared.notes.Note.TheVariants as note
use Rattle.core_rules.specs.Core.{CoreState, job_numbered}
use Rattle.core_rules.specs.Laws.{IsStart}
use Rattle.core_rules.specs.Orders.{words_for}
use Rattle.core_rules.specs.Steps.{Answer, Refused, Idle, Accepted, at_time, step}
use Rattle.core_rules.proofs.Starts.{started}
use Rattle.engine_rules.specs.Reached.{IsTripleWithin}
use Rattle.engine_core.specs.State.{IsEngineLawful}
use Rattle.job_core.proofs.Merging.{get_some}
use Rattle.job_core.proofs.Walks.{all_get}
use Rattle.launch_core.specs.Launching.{HasWords}
use Rattle.session_core.specs.Answers.{accepted_note}
use Rattle.session_core.specs.Orders.{HasNoteWords}

-- what holds of each job holds of one that is found
job_among : (P : Job → Type 0) (n : ℕ) (js : List Job) (j : Job) → AllByRecursion P js → job_numbered js n ≡ Some j → P j
job_among P n [] j h e = let z : ⊥ = cc in absurd z
job_among P n (i ∷ js) j h e = elim (cond_is {A = Option Job} (i.number == n) (Some i) (job_numbered js n) (Some j) e) [
  | inl f ↦ let same : i ≡ j = (let g = f.1 in cc) in subst P same h.0
  | inr f ↦ job_among P n js j h.1 f.1
]

-- how many words some words are
abbrev AreRunnable : List (List ℕ) → Type 0
AreRunnable words = (1 ≤ length words) × (length words ≤ 64)

-- those of an operation within the limits
filled_runnable : (d : OpDecl) (key value : List ℕ) → IsOpWithin d → AreRunnable (map (filled key value) d.words)
filled_runnable d key value h = subst (λ (n : ℕ). (1 ≤ n) × (n ≤ 64)) (sym (length-map d.words (filled key value))) (h.some_words, h.few_words)

module _ (s : CoreState) (e : Event) (lawful : IsEngineLawful s) where
  start_words : (o : Order) → IsStart (at_time s e.at) o → HasWords o
  start_words o h =
      let t : IsTripleWithin s.program h.job.triple = job_among (λ (j : Job). IsTripleWithin s.program j.triple) o.job s.jobs h.job lawful.bounds.jobs h.found in
      let d = get_some s.program.ops h.job.triple.op t.declared in
      let within : IsOpWithin d.0 = all_get IsOpWithin s.program.ops h.job.triple.op d.0 lawful.bounds.limits.ops d.1 in
      let words : o.words ≡ map (filled h.job.triple.key h.job.triple.value) d.0.words =
      ap (λ (x : Order). x.words) h.order ∙ ap (λ (x : Option OpDecl). words_for x h.job.triple) d.1 in
      subst AreRunnable (sym words) (filled_runnable d.0 h.job.triple.key h.job.triple.value within)

  note_words : (t : CoreState) (r : Done) (n : Note) → step s e ≡ Accepted t r → r.note ≡ n → HasNoteWords n
  note_words t r note.Plain is noted = tt
  note_words t r (note.Started o) is noted = start_words o (started s e t r o is noted)
  note_words t r (note.Ended job x) is noted = tt
  note_words t r note.Nothing is noted = tt
  note_words t r note.Ignored is noted = tt

  answer_words : (a : Answer) → step s e ≡ a → IfSome (accepted_note a) HasNoteWords
  answer_words (Refused r) is = tt
  answer_words (Idle r) is = tt
  answer_words (Accepted t r) is = note_words t r r.note is refl

  -- the note of an event is one that can be run
  pub noted_words : (n : Option Note) → n ≡ accepted_note (step s e) → IfSome n HasNoteWords
  noted_words n is = subst (λ (m : Option Note). IfSome m HasNoteWords) (sym is) (answer_words (step s e) refl)
