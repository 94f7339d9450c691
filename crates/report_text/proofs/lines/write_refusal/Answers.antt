use Rattle.std.proofs.Common.{◌≡◌, ◌++◌, List, ℕ, refl, ap, ◌∙◌, append_assoc}
use Rattle.std.specs.Prelude.{codes, if◌then◌else◌, is_ok, OnOk}
use Rattle.std.specs.String.{string_bytes}
use Rattle.std.specs.declared.result.Result.{Result}
use Rattle.std.specs.declared.result.Result.TheVariants.{Ok, Err}
use Rattle.report_text.specs.Lines.{stage_word}
use Rattle.report_text.proofs.lines.write_refusal.Goals as goal

-- what is written where memory is there
when_ok : {T E : Type 0} (r : Result T E) (new more old whole : List ℕ) → new ≡ (if is_ok r then more else old) → more ≡ whole → OnOk r (new ≡ whole)
when_ok (Ok x) new more old whole e f = e ∙ f
when_ok (Err x) new more old whole e f = tt

pub returns-in_ok-push_str-in-NotWaiting : goal.returns-in_ok-push_str-in-NotWaiting
returns-in_ok-push_str-in-NotWaiting c =
    let old : List ℕ = string_bytes c.args.out.now in
    let word : List ℕ = stage_word c.in-NotWaiting.stage in
    let e : string_bytes c.push_str-in-NotWaiting.new.self ++ word ≡ old ++ (codes "not waiting " ++ word) =
    ap (λ (x : List ℕ). x ++ word) c.in_ok-push_str-in-NotWaiting.ensures.bytes ∙ append_assoc old (codes "not waiting ") word in
    rw c.in-NotWaiting.is (when_ok _ _ _ _ _ (rw c.stage_word.ensures at c.push_str-in-NotWaiting-2.ensures.bytes) e)

pub returns-in-AlreadyCancelling : goal.returns-in-AlreadyCancelling
returns-in-AlreadyCancelling c = rw c.in-AlreadyCancelling.is (when_ok _ _ _ _ _ c.push_str-in-AlreadyCancelling.ensures.bytes refl)
