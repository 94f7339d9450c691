use Rattle.std.proofs.Common.{◌≡◌, List, ℕ, ◌++◌, ap, ◌∙◌, append_assoc}
use Rattle.std.specs.Prelude.{codes}
use Rattle.std.specs.String.{string_bytes}
use Rattle.report_text.specs.FaultLines.{found_text, other_text}
use Rattle.report_text.proofs.fault_lines.write_mismatch.Goals as goal

pub returns : goal.returns
returns c =
    let old : List ℕ = string_bytes c.args.out.now in
    let found : List ℕ = found_text c.args.found.now in
    let other : List ℕ = other_text c.args.wanted.now in
    let e : string_bytes c.write_found.new.out ++ other ≡ old ++ (codes "kind mismatch" ++ (found ++ other)) =
    ap (λ (x : List ℕ). x ++ other) (c.in_ok-write_found.ensures ∙ ap (λ (y : List ℕ). y ++ found) c.in_ok-push_str.ensures.bytes)
    ∙ (append_assoc (old ++ codes "kind mismatch") found other ∙ append_assoc old (codes "kind mismatch") (found ++ other)) in
    rw (← e) c.write_other.ensures
