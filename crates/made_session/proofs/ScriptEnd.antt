-- The session on the made pipeline comes to the end of its script.
use Rattle.std.proofs.Common.{◌≡◌, ℕ, Bool, true, false, List, [], ◌∷◌, length, map, refl, sym, ap, ◌∙◌, arith}
use Rattle.std.specs.Prelude.{if◌then◌else◌, nat_lt}
use Rattle.std.specs.FinMap.{entries, len-empty, len-entries}
use Rattle.std.specs.List.{AllByRecursion}
use Rattle.std.specs.declared.option.Option.{Option}
use Rattle.std.specs.declared.option.Option.TheVariants.{None, Some}
use Rattle.value_core.specs.Orders.{bytes_cmp}
use Rattle.value_core.specs.declared.value.Value.{Value, out-Value}
use Rattle.value_core.proofs.Basics.{nat_lt_not}
use Rattle.io_ends.specs.Lines.{Bytes, Long, cut_lines, line_limit, text_line}
use Rattle.op_keys.specs.declared.order.Exit.{Exit}
use Rattle.term_check.proofs.Small.{bounded_out, items_few}
use Rattle.core_rules.specs.declared.events.What.{What}
use Rattle.core_rules.specs.declared.events.What.TheVariants as what
use Rattle.engine_rules.specs.Proper.{IsLight, IsProperWhat}
use Rattle.keeper_core.specs.Contents.{fresh, input_row, loaded}
use Rattle.keeper_core.specs.Durables.{durable_of, values_of}
use Rattle.keeper_core.specs.declared.tables.Table.{Table}
use Rattle.keeper_core.proofs.TablesKept.{fresh_well_formed}
use Rattle.report_text.specs.declared.controls.Control.{Control}
use Rattle.report_text.specs.declared.controls.Control.TheVariants as control
use Rattle.report_text.specs.Controls.{control_read}
use Rattle.session_rules.specs.Commands.{made_program, made_script}
use Rattle.session_rules.specs.Runs.{made_transcript}
use Rattle.session_rules.specs.Scenes.{Ends}
use Rattle.session_rules.specs.Transcripts.{Quits, session_on}
use Rattle.session_core.specs.inside.ReadLines.{IsProperControl}
use Rattle.session_core.proofs.LineLiterals.{control_proper}
use Rattle.made_session.proofs.FewWants.{IsFew}
use Rattle.made_session.proofs.FewChanges.{SetsFew}
use Rattle.made_session.proofs.Enough.{IsFewControl, IsFewLine, opening_quits}
use Rattle.made_session.proofs.ShortScript.{few_script_lines}

-- ---- lines

few_light : (v : Value) → IsLight v → IsFew v
few_light v light = items_few (out-Value v) (sym (bounded_out v) ∙ light.bounded)

few_what : (w : What) → IsProperWhat w → SetsFew w
few_what (what.SetInput name v) proper = few_light v proper
few_what what.Tick proper = tt
few_what (what.SetLevel threshold) proper = tt
few_what (what.Confirm n) proper = tt
few_what (what.Cancel n) proper = tt
few_what (what.Rebuild op key) proper = tt
few_what (what.Pause w) proper = tt
few_what (what.Resume w) proper = tt
few_what (what.Rate pool client rate) proper = tt
few_what (what.Take w) proper = tt
few_what (what.Finish n x) proper = tt

module _ (n : ℕ) where
  few_control : (o : Option Control) → ((c : Control) → o ≡ Some c → IsProperControl c) → IsFewControl n o
  few_control None proper = tt
  few_control (Some control.Empty) proper = tt
  few_control (Some (control.Event w)) proper = few_what w (proper (control.Event w) refl)
  few_control (Some control.Poll) proper = tt
  few_control (Some control.Jobs) proper = tt
  few_control (Some control.Quit) proper = tt

  few_text : (l : List ℕ) (b : Bool) → nat_lt line_limit (length l) ≡ b → IsFewLine n (if b then Long else Bytes l)
  few_text l true is = tt
  few_text l false is = few_control (control_read l) (λ c e. control_proper l c (let short = nat_lt_not line_limit (length l) is in omega (arith, short)) e)

  few_cut : (ls : List (List ℕ)) → AllByRecursion (IsFewLine n) (map text_line ls)
  few_cut [] = tt
  few_cut (l ∷ ls) = (few_text l (nat_lt line_limit (length l)) refl, few_cut ls)

  -- ---- the session

  none_of : {A : Type 0} (xs : List A) → length xs ≡ 0 → xs ≡ []
  none_of [] e = refl
  none_of (x ∷ xs) e = absurd (omega (arith, e))

  none_stored : (durable_of (loaded fresh)).inputs ≡ []
  none_stored = ap (λ (es : List (List ℕ × List ℕ)). values_of (map input_row es)) (none_of (entries fresh.inputs) (sym (len-entries fresh.inputs) ∙ len-empty bytes_cmp (List ℕ)))

  pub made_quits : (xs : List Exit) → (made_transcript n xs).end ≡ Quits
  made_quits xs =
      let ends : Ends = record { bytes = made_script n; readings = []; contents = λ path. []; exits = xs } in
      ap (λ (o : Option (Table × ℕ)). (session_on (made_program n) (loaded fresh) None None ends o).end) fresh_well_formed
      ∙ opening_quits n None ends (durable_of (loaded fresh)) None none_stored refl (few_cut (cut_lines (made_script n))) (few_script_lines n)
