-- What is printed of a program that a file can give stands for it.
use Rattle.std.proofs.Common.{◌≡◌, ℕ, ◌≤◌, List, [], ◌∷◌, map, length, refl, sym, ap, subst, ◌∙◌, inl, inr}
use Rattle.std.specs.Prelude.{◌⊎◌, codes, Ok}
use Rattle.std.specs.List.{AllByRecursion, IsDistinct, flat_map}
use Rattle.value_core.specs.declared.token.Token.{Token}
use Rattle.value_core.specs.declared.token.Token.TheVariants.{Name, Number}
use Rattle.term_core.specs.declared.program.Program.{Program}
use Rattle.pipe_text.specs.declared.declaration.Declaration.{Declaration}
use Rattle.pipe_text.specs.declared.words.DeclWord.{DeclWord}
use Rattle.pipe_text.specs.LimitTable.{number_of}
use Rattle.pipe_text.specs.FileGrammar.{DeclareAll}
use Rattle.pipe_text.specs.inside.FileReading.{pipeline_of}
use Rattle.pipe_text.specs.Printing.{line_text, lines_of, pipeline_text}
use Rattle.pipe_text.specs.Files.{file_limits, program_of, one_of, count_of, limit_of, terms_of, all_terms, same_name, IsSpelled, IsFileOf, HasSpelling}
use Rattle.pipe_text.proofs.ByKind.{decl_tokens, by_kind, kinds_each, kinds_distinct, kinds_total, kinds_program, kinds_lines}
use Rattle.pipe_text.proofs.DeclTokens.{IsPrinted, all_declared}
use Rattle.pipe_text.proofs.GoodTokens.{IsGood, all_good}
use Rattle.pipe_text.proofs.PrintedLines.{IsLine, lines_lexed}
use Rattle.pipe_text.proofs.WholeFile.{standing_read}

abbrev joined : List (List Token) → List Token
joined = flat_map (λ ks. ks)

all_spelled : (v : ℕ) (ds : List Declaration) → AllByRecursion (IsPrinted v) ds → DeclareAll file_limits 64 v ds (joined (map decl_tokens ds))
all_spelled v [] h = refl
all_spelled v (d ∷ ds) (one_is, h) = (decl_tokens d, joined (map decl_tokens ds), refl, one_is.is, all_spelled v ds h)

all_lines : (v : ℕ) (ds : List Declaration) → AllByRecursion (IsPrinted v) ds → AllByRecursion IsLine (map decl_tokens ds)
all_lines v [] h = tt
all_lines v (d ∷ ds) (one_is, h) = (record { good = one_is.good; short = one_is.short }, all_lines v ds h)

head_line : (v : ℕ) → (v ≡ 1) ⊎ (v ≡ 2) → IsLine (Name (codes "pipeline") ∷ Number v ∷ [])
head_line v (inl e) = rw e (record { good = (refl, (refl, tt)); short = (tt, (tt, tt)) })
head_line v (inr e) = rw e (record { good = (refl, (refl, tt)); short = (tt, (tt, tt)) })

-- the lines of a program, by its declarations
lines_are : (v : ℕ) (ds : List Declaration) → lines_of (program_of v ds) ≡ (Name (codes "pipeline") ∷ Number v ∷ []) ∷ map decl_tokens (by_kind ds)
lines_are v ds = ap (λ (l : List (List Token)). (Name (codes "pipeline") ∷ Number v ∷ []) ∷ l) (sym (kinds_lines v ds))

-- the bytes of lines, which are the program's, spell it
lines_spell : (p : Program) (v : ℕ) (ds : List Declaration) (lines : List (List Token)) → lines ≡ (Name (codes "pipeline") ∷ Number v ∷ []) ∷ map decl_tokens ds → (v ≡ 1) ⊎ (v ≡ 2) → p ≡ program_of v ds → AllByRecursion (IsPrinted v) ds
    → ((w : DeclWord) → count_of w ds ≤ number_of (limit_of w)) → all_terms ds ≤ 4096 → IsDistinct same_name ds → IsSpelled (flat_map line_text lines) p
lines_spell p v ds lines e version is printed few few_terms apart =
    let all : AllByRecursion IsLine lines = rw e (head_line v version, all_lines v ds printed) in
    let read = lines_lexed lines all in
    record {
      version = v;
      declarations = ds;
      ended = read.1;
      spelled = (version, joined (map decl_tokens ds), read.0 ∙ ap joined e, all_spelled v ds printed);
      is = is;
      few = few;
      few_terms = few_terms;
      apart = apart;
    }

-- the printed bytes spell the program
pub printed_spells : (p : Program) → HasSpelling p → IsSpelled (pipeline_text p) p
unfolding pipeline_text
printed_spells p given =
    let s = given.spelling in
    let good = subst (AllByRecursion IsGood) s.spelled.2 (all_good given.bytes) in
    let printed = all_declared s.version s.declarations s.spelled.1 s.spelled.3 good.1.1 in
    let sorted : List Declaration = by_kind s.declarations in
    lines_spell p s.version sorted (lines_of p) (ap lines_of s.is ∙ lines_are s.version s.declarations) s.spelled.0 (s.is ∙ sym (kinds_program s.version s.declarations)) (kinds_each (IsPrinted s.version) s.declarations printed)
    (λ w. subst (λ (n : ℕ). n ≤ number_of (limit_of w)) (sym (kinds_total (one_of w) s.declarations)) (s.few w)) (subst (λ (n : ℕ). n ≤ 4096) (sym (kinds_total terms_of s.declarations)) s.few_terms) (kinds_distinct s.declarations s.apart)

pub printed_stands : (p : Program) → HasSpelling p → length (pipeline_text p) ≤ 1048576 → IsFileOf (pipeline_text p) p
printed_stands p given few = record { few_bytes = few; spelling = printed_spells p given }

-- and reading gives it back
pub printed_read : (p : Program) → HasSpelling p → length (pipeline_text p) ≤ 1048576 → pipeline_of (pipeline_text p) ≡ Ok p
unfolding pipeline_of
printed_read p given few = rw (standing_read (pipeline_text p) p (printed_stands p given few)) refl
