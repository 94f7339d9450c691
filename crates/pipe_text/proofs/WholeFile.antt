-- A whole file: what stands there is read, and what is read stands there.
use Rattle.std.proofs.Common.{◌≡◌, ℕ, zero, suc, ◌≤◌, Bool, true, false, cond, List, [], ◌∷◌, ◌++◌, length, Result, refl, sym, ap, ◌∙◌, arith, inl, inr}
use Rattle.std.specs.Prelude.{Ok, Err, nat_lt, codes, ◌==◌, ◌⊎◌}
use Rattle.std.specs.List.{IsDistinct}
use Rattle.value_core.specs.declared.token.Token.{Token}
use Rattle.value_core.specs.declared.token.Token.TheVariants.{Name, Number, Words, Mark, LongName, LongText}
use Rattle.value_core.specs.declared.token.Next.{Next}
use Rattle.value_core.specs.declared.token.Next.TheVariants.{Found, End}
use Rattle.value_core.specs.declared.lexing.TokenAt.{TokenAt}
use Rattle.value_core.specs.declared.lexing.Stop.{Stop}
use Rattle.value_core.specs.declared.lexing.Stop.TheVariants as stop
use Rattle.value_core.specs.declared.lexing.Tokens.{Tokens}
use Rattle.value_core.specs.Tokens.{next_at}
use Rattle.value_core.specs.Lexing.{lexed_next, lexed_from, lexed}
use Rattle.value_core.specs.Literals.{tokens_in}
use Rattle.term_core.specs.declared.program.Program.{Program}
use Rattle.pipe_text.specs.declared.declaration.Declaration.{Declaration}
use Rattle.pipe_text.specs.declared.fault.Fault.{Fault}
use Rattle.pipe_text.specs.declared.fault.LimitName.TheVariants as limit
use Rattle.pipe_text.specs.Grammar.{Limits}
use Rattle.pipe_text.specs.FileGrammar.{DeclareAll, FileSpells}
use Rattle.pipe_text.specs.Files.{Reads, file_limits, IsSpelled, IsFileOf, program_of}
use Rattle.pipe_text.specs.inside.Readers.{give, seq, keyword_at}
use Rattle.pipe_text.specs.inside.TermReading.{beyond}
use Rattle.pipe_text.specs.inside.FileReading.{Bounds, file_bounds, version_choice, version_at, all_at, made, program_at, read_of, reported}
use Rattle.pipe_text.proofs.Exactly.{tokens_in-append, split_tokens_in, Any, Takes, reads_branch, reads_give}
use Rattle.pipe_text.proofs.Finding.{Finds, FindsFor, for_if, finds_by, finds_one, bind_ok, ok_is}
use Rattle.pipe_text.proofs.TermReads.{Under, under_refl}
use Rattle.pipe_text.proofs.TermFinds.{finds_keyword}
use Rattle.pipe_text.proofs.Joined.{Sound}
use Rattle.pipe_text.proofs.FileFinds.{decls_read}
use Rattle.pipe_text.proofs.FileReads.{reads_keyword, all_declared}
use Rattle.value_core.proofs.Basics.{nat_is, nat_lt_not, not_nat_lt}

-- ---- the offset where the tokens end

end_is : (m n : ℕ) → stop.End m ≡ stop.End n → m ≡ n
end_is m n e = cc

next_end : (size offset : ℕ) (r : Result Next ℕ) (rest : ℕ → Tokens) → ((from : ℕ) → (rest from).stop ≡ stop.End offset → offset ≡ size) → (lexed_next size r rest).stop ≡ stop.End offset → offset ≡ size
next_end size offset (Ok (Found token at end)) rest next e = next end e
next_end size offset (Ok End) rest next e = sym (end_is size offset e)
next_end size offset (Err at) rest next e = absurd cc

from_end : (n : ℕ) (bytes : List ℕ) (from offset : ℕ) → (lexed_from n bytes from).stop ≡ stop.End offset → offset ≡ length bytes
from_end zero bytes from offset e = sym (end_is (length bytes) offset e)
from_end (suc n) bytes from offset e = next_end (length bytes) offset (next_at bytes from) (lexed_from n bytes) (λ at h. from_end n bytes at offset h) e

pub lexed_end : (bytes : List ℕ) (offset : ℕ) → (lexed bytes).stop ≡ stop.End offset → offset ≡ length bytes
unfolding lexed
lexed_end bytes offset e = from_end (suc (length bytes)) bytes 0 offset e

-- ---- versions

abbrev pub IsVersion : ℕ → Type 0
IsVersion v = (v ≡ 1) ⊎ (v ≡ 2)

-- the number of a version
abbrev pub OneVersion : ℕ → List Token → Type 0
OneVersion v ks = IsVersion v × (ks ≡ Number v ∷ [])

version_for : (k : Token) → FindsFor (version_choice k) (λ v more. OneVersion v (k ∷ more))
version_for (Number m) = for_if (m == 1) _ _ _ (λ e. finds_one (λ v more. OneVersion v (Number m ∷ more)) 1 (inl refl, λ i. Number (nat_is m 1 e i) ∷ []))
    (λ d. for_if (m == 2) _ _ _ (λ e. finds_one (λ v more. OneVersion v (Number m ∷ more)) 2 (inr refl, λ i. Number (nat_is m 2 e i) ∷ [])) (λ e. tt))
version_for (Name m) = tt
version_for (Words m) = tt
version_for (Mark m) = tt
version_for LongName = tt
version_for LongText = tt

pub finds_version : Finds version_at OneVersion
finds_version = finds_by version_choice OneVersion version_for

version_give : (v : ℕ) → IsVersion v → version_choice (Number v) ≡ Ok (give v)
version_give v (inl is) = rw is refl
version_give v (inr is) = rw is refl

pub reads_version : (v : ℕ) → IsVersion v → Takes version_at v (Number v ∷ [])
reads_version v is = reads_branch Any version_choice (give v) (Number v) v [] (version_give v is) (reads_give Any v)

-- ---- what is read stands there

sound_none : (b : Bounds) → Sound b []
unfolding IsDistinct
sound_none b = record { few = λ w. omega arith; terms = omega arith; apart = λ e. tt }

-- what is known of the tokens of a file that was read
pub record FileRead (b : Bounds) (p : Program) (s : Stop) (ts : List TokenAt) : Type 0 where
  pub version : ℕ
  pub declarations : List Declaration
  pub offset : ℕ
  pub ended : s ≡ stop.End offset
  pub spelled : FileSpells b.lim b.depth version declarations (tokens_in ts)
  pub is : p ≡ program_of version declarations
  pub sound : Sound b declarations

headed : (ts f1 r1 f2 r2 : List TokenAt) (v : ℕ) → ts ≡ f1 ++ r1 → r1 ≡ f2 ++ r2 → tokens_in f1 ≡ Name (codes "pipeline") ∷ [] → tokens_in f2 ≡ Number v ∷ [] → tokens_in ts ≡ Name (codes "pipeline") ∷ Number v ∷ tokens_in r2
headed ts f1 r1 f2 r2 v first second word number = rw (first, tokens_in-append f1 r1, word, second, tokens_in-append f2 r2, number) refl

all_spelled : (b : Bounds) (v : ℕ) (all more : List Declaration) (ks : List Token) → all ≡ more → DeclareAll b.lim b.depth v more ks → DeclareAll b.lim b.depth v all ks
all_spelled b v all more ks e h = rw e h

pub file_found : (b : Bounds) (s : Stop) (ts : List TokenAt) (p : Program) → program_at b s ts ≡ Ok p → FileRead b p s ts
unfolding program_at all_at
file_found b s ts p e =
    let head = bind_ok (seq (keyword_at (codes "pipeline")) (λ u. version_at) s ts) (λ x. made x.0 (all_at b x.0 [] s x.1)) p e in
    let first = bind_ok (keyword_at (codes "pipeline") s ts) (λ y. version_at s y.1) head.0 head.1 in
    let word = (finds_keyword (codes "pipeline")).found s ts first.0.0 first.0.1 first.1 in
    let number = finds_version.found s first.0.1 head.0.0 head.0.1 first.2 in
    let all = bind_ok (all_at b head.0.0 [] s head.0.1) (λ x. Ok (program_of head.0.0 x.0)) p head.2 in
    let read = decls_read b head.0.0 (length head.0.1) [] all.0.0 s head.0.1 all.0.1 all.1 in
    record {
      version = head.0.0;
      declarations = all.0.0;
      offset = read.offset;
      ended = read.stopped;
      spelled = (number.2.0, tokens_in head.0.1, headed ts word.0 first.0.1 number.0 head.0.1 head.0.0 word.1 number.1 word.2 number.2.1, all_spelled b head.0.0 all.0.0 read.more (tokens_in head.0.1) read.is read.spelled);
      is = sym (ok_is (program_of head.0.0 all.0.0) p all.2);
      sound = read.sound (sound_none b);
    }

if_else : {X : Type 0} (b : Bool) (f : Fault) (r : Result X Fault) (x : X) → cond b (Err f) r ≡ Ok x → (b ≡ false) × (r ≡ Ok x)
if_else true f r x e = absurd cc
if_else false f r x e = (refl, e)

pub read_stands : (bytes : List ℕ) (p : Program) → read_of bytes ≡ Ok p → IsFileOf bytes p
unfolding read_of
read_stands bytes p e =
    let parts = if_else (nat_lt 1048576 (length bytes)) (beyond limit.File 0) (program_at file_bounds (lexed bytes).stop (lexed bytes).tokens) p e in
    let read = file_found file_bounds (lexed bytes).stop (lexed bytes).tokens p parts.1 in
    let spelling : IsSpelled bytes p = record {
      version = read.version;
      declarations = read.declarations;
      ended = read.ended ∙ ap stop.End (lexed_end bytes read.offset read.ended);
      spelled = read.spelled;
      is = read.is;
      few = read.sound.few;
      few_terms = read.sound.terms;
      apart = read.sound.apart refl;
    } in
    record { few_bytes = nat_lt_not 1048576 (length bytes) parts.0; spelling = spelling }

-- ---- what stands there is read

pub file_read : (lim : Limits) (depth : ℕ) (b : Bounds) (v : ℕ) (ds : List Declaration) (offset : ℕ) (ts : List TokenAt) → Under lim b.lim → depth ≤ b.depth → FileSpells lim depth v ds (tokens_in ts) → Sound b ds → program_at b (stop.End offset) ts ≡ Ok (program_of v ds)
unfolding program_at all_at
file_read lim depth b v ds offset ts u deep (is, more, parts, spelled) sound =
    let one = split_tokens_in ts (Name (codes "pipeline") ∷ []) (Number v ∷ more) parts in
    let two = split_tokens_in one.1 (Number v ∷ []) more one.4 in
    let word = (reads_keyword (codes "pipeline") refl).reads (stop.End offset) one.0 (two.0 ++ two.1) one.3 tt in
    let number = (reads_version v is).reads (stop.End offset) two.0 two.1 two.3 tt in
    rw (one.2, two.2, word, number, all_declared lim depth b v ds u deep [] (length two.1) offset two.1 (rw two.4 spelled) (omega arith) sound) refl

pub standing_read : (bytes : List ℕ) (p : Program) → IsFileOf bytes p → read_of bytes ≡ Ok p
unfolding read_of
standing_read bytes p stands =
    let s = stands.spelling in
    let sound : Sound file_bounds s.declarations = record { few = s.few; terms = s.few_terms; apart = λ e. s.apart } in
    rw (not_nat_lt 1048576 (length bytes) stands.few_bytes, s.ended, s.is) (file_read file_limits 64 file_bounds s.version s.declarations (length bytes) (lexed bytes).tokens (under_refl file_limits) (omega arith) s.spelled sound)

pub one_program : (bytes : List ℕ) (p q : Program) → read_of bytes ≡ Ok p → IsFileOf bytes q → p ≡ q
one_program bytes p q e s = ok_is p q (sym e ∙ standing_read bytes q s)

fault_is_not : (f : Fault) (p : Program) → Err f ≡ Ok p → ⊥
fault_is_not f p e = absurd cc

refuted : (f : Fault) (p : Program) → ⊥ → Reads (Err (reported f)) p
refuted f p never = absurd never

-- where the bytes stand for a program there is no fault
pub no_fault : (bytes : List ℕ) (f : Fault) (p : Program) → read_of bytes ≡ Err f → IsFileOf bytes p → Reads (Err (reported f)) p
no_fault bytes f p e s = refuted f p (fault_is_not f p (sym e ∙ standing_read bytes p s))
