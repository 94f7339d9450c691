-- A file is found to be one thing, which the program computes.
use Rattle.std.proofs.Common.{◌≡◌, ℕ, ◌+◌, ◌<◌, ◌≤◌, true, false, List, length, take, refl, sym, ap, ◌∙◌, arith, inl, inr}
use Rattle.std.specs.Prelude.{◌⊎◌, IfSome, nat_lt, Option, Some, None, Result, Ok, Err}
use Rattle.std.specs.Global.{Vec}
use Rattle.std.proofs.lemmas.List.{length-take, take_all}
use Rattle.io_ends.specs.Known.{Contents, content_now, IsReadOf}
use Rattle.io_ends.specs.declared.ends.FileRead.TheVariants as read
use Rattle.term_core.specs.declared.program.Program.{Program}
use Rattle.pipe_text.specs.inside.FileReading.{pipeline_of, read_of, reported_of}
use Rattle.pipe_text.specs.Files.{IsFileOf}
use Rattle.pipe_text.specs.declared.fault.Fault.{Fault}
use Rattle.pipe_text.specs.declared.fault.ReadFault.{ReadFault}
use Rattle.pipe_text.specs.declared.fault.ReadFault.TheVariants as fault
use Rattle.pipe_text.specs.declared.fault.LimitName.TheVariants as limit
use Rattle.pipe_text.proofs.ProgramWithin.{standing_within}
use Rattle.pipe_text.proofs.WholeFile.{read_stands, standing_read}
use Rattle.term_check.proofs.Whole.{faultless, sound_from}
use Rattle.term_check.specs.Faults.{check_fault, Tells, IsFirstFault}
use Rattle.term_check.specs.declared.fault.CheckFault.{CheckFault}
use Rattle.term_check.specs.declared.fault.CheckWhat.{CheckWhat}
use Rattle.term_check.specs.declared.fault.CheckWhat.TheVariants as what
use Rattle.report_text.specs.FaultLines.{error_line, read_text, check_text}
use Rattle.session_rules.specs.Commands.{File, Missing, Refused, Sound}
use Rattle.value_core.proofs.Basics.{nat_lt_is, nat_lt_not, is_nat_lt}
use Rattle.current_cli.specs.Files.{IsRefused, unread, unsound, IsFileOfContent, IsFile, EachIsOneFile}
use Rattle.current_cli.specs.inside.FileFound.{file_checked, file_found, file_in, file_read, is_no_memory, seen_file}
use Rattle.current_cli.specs.declared.files.PipelineFile.{PipelineFile}
use Rattle.current_cli.specs.declared.files.PipelineFile.TheVariants as file

-- ---- what a content is found to be is what is computed

pipeline_ok : (bytes : List ℕ) (p : Program) → IsFileOf bytes p → pipeline_of bytes ≡ Ok p
unfolding pipeline_of
pipeline_ok bytes p stands = ap reported_of (standing_read bytes p stands)

of_program : (content : List ℕ) (p : Program) → IsFileOf content p → file_in content ≡ file_checked p (check_fault p)
of_program content p stands = ap file_read (pipeline_ok content p stands)

refusal_is : (content why : List ℕ) → IsRefused content why → Refused (error_line why) ≡ file_in content
refusal_is content why (unread f e) = sym (ap file_read e)
refusal_is content why (unsound p f stands e) = sym (of_program content p stands ∙ ap (file_checked p) e)

content_only : (content : List ℕ) (f : File) → IsFileOfContent content f → f ≡ file_in content
content_only content Missing t = absurd t
content_only content (Refused line) t = ap Refused t.is ∙ refusal_is content t.why t.cause
content_only content (Sound p) t = sym (of_program content p t.0 ∙ ap (file_checked p) (faultless p t.1))

-- ---- what is computed is what the content is found to be

checked_found : (content : List ℕ) (p : Program) (o : Option CheckFault) → IsFileOf content p → check_fault p ≡ o → IsFileOfContent content (file_checked p o)
checked_found content p (Some f) stands e = record { why = check_text p f; cause = unsound p f stands e; is = refl }
checked_found content p None stands e = (stands, sound_from p (standing_within content p stands) e)

-- the bytes are read as a program, so they are its file
told_ok : (r : Result Program Fault) (p : Program) → reported_of r ≡ Ok p → r ≡ Ok p
told_ok (Ok q) p e = ap Ok cc
told_ok (Err f) p e = absurd cc

read_ok : (bytes : List ℕ) (p : Program) → pipeline_of bytes ≡ Ok p → IsFileOf bytes p
unfolding pipeline_of
read_ok bytes p e = read_stands bytes p (told_ok (read_of bytes) p e)

read_found : (content : List ℕ) (r : Result Program ReadFault) → pipeline_of content ≡ r → IsFileOfContent content (file_read r)
read_found content (Ok p) e = checked_found content p (check_fault p) (read_ok content p e) refl
read_found content (Err f) e = record { why = read_text f; cause = unread f e; is = refl }

-- ---- files

pub is_found : (held : Option (List ℕ)) → IsFile held (file_found held)
is_found None = refl
is_found (Some content) = read_found content (pipeline_of content) refl

pub only_found : (held : Option (List ℕ)) (f : File) → IsFile held f → f ≡ file_found held
only_found None f t = t
only_found (Some content) f t = content_only content f t

pub one_file : EachIsOneFile
one_file held = record { file = file_found held; found = is_found held; only = only_found held }

-- ---- the content that is held, and what was read of it

few_or_many : (content : List ℕ) → (length content ≤ 1048576) ⊎ (1048576 < length content)
few_or_many content =
    elim (nat_lt 1048576 (length content)) as (λ b. nat_lt 1048576 (length content) ≡ b → (length content ≤ 1048576) ⊎ (1048576 < length content))
    [ true ↦ λ e. inr (nat_lt_is 1048576 (length content) e) | false ↦ λ e. inl (nat_lt_not 1048576 (length content) e) ] refl

too_many : (bytes : List ℕ) → 1048576 < length bytes → pipeline_of bytes ≡ Err (fault.Limit limit.File 1048576 0)
unfolding pipeline_of read_of
too_many bytes many = rw (is_nat_lt 1048576 (length bytes) many) refl

same_read : (content : List ℕ) → pipeline_of (take (1048576 + 1) content) ≡ pipeline_of content
same_read content =
    elim (few_or_many content) [
      | inl few ↦ ap pipeline_of (take_all (1048576 + 1) content (omega (arith, few)))
      | inr many ↦ too_many (take (1048576 + 1) content) (omega (arith, many, length-take (1048576 + 1) content)) ∙ sym (too_many content many)
    ]

found_is : (held : Option (List ℕ)) (v : Vec ℕ) → IsReadOf held 1048576 (read.Found v) → file_in v.items ≡ file_found held
found_is None v was = absurd was
found_is (Some content) v was = ap file_in was ∙ ap file_read (same_read content)

-- what was computed of the bytes that were read is what the file is found to be
pub found_file : (held : Option Contents) (path : List ℕ) (v : Vec ℕ) (f : PipelineFile) → IfSome held (λ contents. IsReadOf (content_now (contents path)) 1048576 (read.Found v))
    → seen_file f ≡ file_in v.items → IfSome held (λ contents. seen_file f ≡ file_found (content_now (contents path)))
found_file None path v f was e = tt
found_file (Some contents) path v f was e = e ∙ found_is (content_now (contents path)) v was

missing_is : (held : Option (List ℕ)) → IsReadOf held 1048576 read.Missing → Missing ≡ file_found held
missing_is None was = refl
missing_is (Some content) was = absurd was

-- a missing file is found to be missing
pub missing_file : (held : Option Contents) (path : List ℕ) → IfSome held (λ contents. IsReadOf (content_now (contents path)) 1048576 read.Missing)
    → IfSome held (λ contents. seen_file file.Missing ≡ file_found (content_now (contents path)))
missing_file None path was = tt
missing_file (Some contents) path was = missing_is (content_now (contents path)) was

-- ---- a program's first fault

told : (w : CheckWhat) (A : Type 0) → is_no_memory w ≡ false → Tells w A → A
told (what.UnknownName n) A unlike t = t
told (what.ForwardName n) A unlike t = t
told (what.KindMismatch found wanted) A unlike t = t
told what.ListNesting A unlike t = t
told (what.KindTooLarge n) A unlike t = t
told what.NoMemory A unlike t = absurd cc

pub first_fault : (p : Program) (f : CheckFault) → is_no_memory f.what ≡ false → IsFirstFault p f → check_fault p ≡ Some f
first_fault p f unlike first = told f.what (check_fault p ≡ Some f) unlike first
