-- What the functions that write add to a text.
use Rattle.std.specs.Prelude.{◌≡◌, ℕ, List, ◌++◌, codes, Result, OnOk, String, string_bytes}
use Rattle.value_core.specs.declared.value.Kind.{Kind}
use Rattle.term_check.specs.declared.wanted.Wanted.{Wanted}
use Rattle.std.specs.List.{flat_map}
use Rattle.term_core.specs.declared.program.Program.{Program}
use Rattle.report_text.specs.declared.live_jobs.LiveJob.{LiveJob}
use Rattle.report_text.specs.FaultLines.{found_text, other_text}
use Rattle.report_text.specs.Lines.{job_line}
use Rattle.report_text.specs.Reports.{names_at, or_none}

-- unless something failed, the text has these bytes more
abbrev pub Adds : {A E Z : Type 0} → Result A E → String Z → String Z → List ℕ → Type 0
Adds result old new more = OnOk result (string_bytes new ≡ string_bytes old ++ more)

-- the names of the declarations with these numbers, or the word none where there are none
abbrev pub names_or_none : {D : Type 0} → (D → List ℕ) → List D → List ℕ → List (List ℕ)
names_or_none name ds ns = or_none (names_at name ds ns)

-- two kinds that differ
abbrev pub mismatch_text : Kind → Wanted → List ℕ
mismatch_text found wanted = codes "kind mismatch" ++ (found_text found ++ other_text wanted)

-- the lines of these live jobs
abbrev pub live_text : Program → List LiveJob → List ℕ
live_text p ls = flat_map (λ l. job_line p l.job.now l.stage l.refs) ls
