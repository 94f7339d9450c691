-- What the worked session of two builds leaves in its store, and which stores are refused.
use Rattle.std.proofs.Common.{◌≡◌, ℕ, Bool, true, List, [], ◌∷◌, map, Option, Some, None, refl, ap, ◌∙◌, arith}
use Rattle.std.specs.Prelude.{codes, nat_eq, ℤ, pos, ◌&&◌}
use Rattle.std.specs.Cmp.{IsTotalOrder}
use Rattle.std.specs.Cmp.Lexicographic.{nat_list_cmp_total}
use Rattle.std.specs.declared.cmp.Ordering.{Ordering}
use Rattle.std.specs.FinMap.{empty, entries, entries-insert, get-insert, insert}
use Rattle.std.specs.FinMap.Entries.{put}
use Rattle.std.specs.Ordering.{int_cmp}
use Rattle.std.proofs.lemmas.Bool.Decides.{nat_tests}
use Rattle.std.proofs.lemmas.Cmp.{int_cmp_total}
use Rattle.std.specs.Char.{encode_utf8}
use Rattle.std.specs.Fmt.{digits}
use Rattle.std.specs.Str.{bytes_eq, chars, is_utf8}
use Rattle.sha2.specs.Sha256.{sha256}
use Rattle.value_core.specs.declared.value.Value.TheVariants as value
use Rattle.value_core.specs.Lexing.{lexed}
use Rattle.value_core.specs.Orders.{bytes_cmp}
use Rattle.value_core.specs.Printed.{printed}
use Rattle.op_keys.specs.declared.level.Level.{Level}
use Rattle.term_core.specs.declared.program.Program.{Program}
use Rattle.keeper_core.specs.declared.stored.Stored.TheVariants.{Current}
use Rattle.keeper_core.specs.declared.tables.CacheValue.{CacheValue}
use Rattle.keeper_core.specs.declared.tables.Table.{Table}
use Rattle.keeper_core.specs.declared.tables.Table.TheVariants.{Inputs, Cache}
use Rattle.keeper_core.specs.declared.tables.Tables.{Tables}
use Rattle.keeper_core.specs.Commits.{cache_key, cache_value}
use Rattle.keeper_core.specs.Contents.{Contents, cache_row, input_row, key_cmp, key_cmp_total, loaded}
use Rattle.keeper_core.specs.EitherSchema.{fresh_stored, log_of}
use Rattle.keeper_core.specs.WellFormed.{first_bad}
use Rattle.report_text.specs.FaultLines.{row_line}
use Rattle.session_rules.specs.Commands.{Sound, after_opening, run_plan, session_plan, telling}
use Rattle.session_rules.specs.Outputs.{deltas}
use Rattle.session_rules.specs.Outside.{with_deltas}
use Rattle.session_rules.specs.Scenes.{Ends}
use Rattle.session_rules.specs.Steps.{Counting}
use Rattle.session_rules.specs.StoreTexts.{count_line, result_line, results_text, stats_text}
use Rattle.session_rules.specs.Transcripts.{session_on}
use Rattle.session_rules.proofs.Going.{nothing_in}
use Rattle.session_rules.proofs.Texts.{printed_words}
use Rattle.value_core.proofs.Layers.{words_weight}
use Rattle.session_rules.proofs.TwoBuildsScript.{all_outputs}
use Rattle.session_rules.proofs.TwoBuildsSteps.{one, two}

-- ---- few entries

module _ {K X : Type 0} (R : K → K → Ordering) (o : IsTotalOrder R) where
  pub single : (k : K) (v : X) → entries (insert (empty {R = R}) k v) ≡ (k, v) ∷ []
  single k v = entries-insert o empty k v ∙ ap (put R k v) (nothing_in R)

  pub double : (k : K) (v : X) (l : K) (w : X) → entries (insert (insert (empty {R = R}) k v) l w) ≡ put R l w ((k, v) ∷ [])
  double k v l w = entries-insert o (insert empty k v) l w ∙ ap (put R l w) (single k v)

-- ---- what is left

-- the tables after all outputs
abbrev pub left : Contents
left = record {
  meta = record { id = pos 1; format = pos 2; next_job = pos 3 } ∷ [];
  inputs = insert (insert empty (codes "br") (printed (value.Words (codes "y")))) (codes "br") (printed (value.Words (codes "x")));
  cache = insert (insert empty (cache_key (codes "test") (codes "x")) (cache_value one)) (cache_key (codes "test") (codes "y")) (cache_value two);
  logs = insert (insert empty (pos 1) (codes "one\n")) (pos 2) (codes "two\n");
}

pub left_is : with_deltas (deltas all_outputs) fresh_stored ≡ Current left
left_is = refl

-- its rows
abbrev pub rows : Tables
rows = record {
  meta = record { id = pos 1; format = pos 2; next_job = pos 3 } ∷ [];
  inputs = record { name = codes "br"; literal = printed (value.Words (codes "x")) } ∷ [];
  cache = cache_row (cache_key (codes "test") (codes "x"), cache_value one) ∷ cache_row (cache_key (codes "test") (codes "y"), cache_value two) ∷ [];
  logs = pos 1 ∷ pos 2 ∷ [];
}

inputs_are : entries left.inputs ≡ (codes "br", printed (value.Words (codes "x"))) ∷ []
inputs_are = double bytes_cmp nat_list_cmp_total (codes "br") (printed (value.Words (codes "y"))) (codes "br") (printed (value.Words (codes "x")))

cache_are : entries left.cache ≡ (cache_key (codes "test") (codes "x"), cache_value one) ∷ (cache_key (codes "test") (codes "y"), cache_value two) ∷ []
cache_are = double key_cmp key_cmp_total (cache_key (codes "test") (codes "x")) (cache_value one) (cache_key (codes "test") (codes "y")) (cache_value two)

logs_are : entries left.logs ≡ (pos 1, codes "one\n") ∷ (pos 2, codes "two\n") ∷ []
logs_are = double int_cmp int_cmp_total (pos 1) (codes "one\n") (pos 2) (codes "two\n")

pub rows_are : loaded left ≡ rows
rows_are = λ i. record {
  meta = left.meta;
  inputs = map input_row (inputs_are i);
  cache = map cache_row (cache_are i);
  logs = map (λ e. e.0) (logs_are i);
}

pub results_are : results_text rows ≡ codes "test \"x\" ok 1 at 0\ntest \"y\" ok 2 at 0\n"
unfolding results_text result_line digits
results_are = refl

pub stats_are : stats_text rows ≡ codes "rows 2\nfailed 0\nlogs 2\nnext 3\n"
unfolding stats_text count_line digits
stats_are = refl

-- the first log
pub log_is : log_of (Current left) 1 ≡ Some (codes "one\n")
log_is = get-insert int_cmp_total (insert empty (pos 1) (codes "one\n")) (pos 2) (codes "two\n") (pos 1) ∙ get-insert int_cmp_total empty (pos 1) (codes "one\n") (pos 1)

-- ---- well-formed rows

alike : (bytes : List ℕ) → bytes_eq bytes bytes ≡ true
alike [] = refl
alike (b ∷ bs) =
    let same : nat_eq b b ≡ true = grind (arith, nat_tests) in
    ap (λ (t : Bool). t && bytes_eq bs bs) same ∙ alike bs

-- the hash of a key is itself
hashes : (key : List ℕ) → bytes_eq (sha256 key) (sha256 key) ≡ true
hashes key = alike (sha256 key)

-- the tables of the session are well formed
pub left_is_well_formed : first_bad rows ≡ None
unfolding is_utf8 chars encode_utf8 lexed
left_is_well_formed = rw (printed_words (codes "x"), words_weight (codes "x"), hashes (codes "x"), hashes (codes "y")) refl

-- ---- rows that aren't

-- a result of a flag that is neither 0 nor 1
abbrev pub odd_flag : CacheValue
odd_flag = record { cvalue = []; fine = pos 2; result = codes "one"; finished = pos 0; job = pos 1; rebuild = pos 0 }

abbrev pub odd_result : Contents
odd_result = record {
  meta = record { id = pos 1; format = pos 2; next_job = pos 2 } ∷ [];
  inputs = empty;
  cache = insert empty (cache_key (codes "test") (codes "x")) odd_flag;
  logs = empty;
}

abbrev odd_rows : Tables
odd_rows = record {
  meta = record { id = pos 1; format = pos 2; next_job = pos 2 } ∷ [];
  inputs = [];
  cache = cache_row (cache_key (codes "test") (codes "x"), odd_flag) ∷ [];
  logs = [];
}

odd_loaded : loaded odd_result ≡ odd_rows
odd_loaded = λ i. record {
  meta = odd_result.meta;
  inputs = map input_row (nothing_in {X = List ℕ} bytes_cmp i);
  cache = map cache_row (single key_cmp key_cmp_total (cache_key (codes "test") (codes "x")) odd_flag i);
  logs = map (λ (e : ℤ × List ℕ). e.0) (nothing_in {X = List ℕ} int_cmp i);
}

odd_row_is : first_bad odd_rows ≡ Some (Cache, 1)
unfolding is_utf8 chars encode_utf8
odd_row_is = rw (hashes (codes "x")) refl

-- an input of two numbers
abbrev pub two_numbers : Contents
two_numbers = record {
  meta = record { id = pos 1; format = pos 2; next_job = pos 1 } ∷ [];
  inputs = insert empty (codes "head") (codes "5 5");
  cache = empty;
  logs = empty;
}

abbrev two_rows : Tables
two_rows = record {
  meta = record { id = pos 1; format = pos 2; next_job = pos 1 } ∷ [];
  inputs = record { name = codes "head"; literal = codes "5 5" } ∷ [];
  cache = [];
  logs = [];
}

two_loaded : loaded two_numbers ≡ two_rows
two_loaded = λ i. record {
  meta = two_numbers.meta;
  inputs = map input_row (single bytes_cmp nat_list_cmp_total (codes "head") (codes "5 5") i);
  cache = map cache_row (nothing_in {X = CacheValue} key_cmp i);
  logs = map (λ (e : ℤ × List ℕ). e.0) (nothing_in {X = List ℕ} int_cmp i);
}

two_row_is : first_bad two_rows ≡ Some (Inputs, 1)
unfolding lexed
two_row_is = refl

-- a run on the one or the other: nothing is done but to print which row it is
pub odd_flag_is_named : (p : Program) (threshold : Option Level) (counting : Counting) (ends : Ends) → run_plan (Sound p) (Current odd_result) threshold counting ends ≡ after_opening (telling (codes "error: row cache 1\n") 9)
unfolding row_line digits
odd_flag_is_named p threshold counting ends =
    ap (λ (bad : Option (Table × ℕ)). after_opening (session_plan (session_on p (loaded odd_result) threshold counting ends bad))) (ap first_bad odd_loaded ∙ odd_row_is)

pub two_numbers_are_named : (p : Program) (threshold : Option Level) (counting : Counting) (ends : Ends) → run_plan (Sound p) (Current two_numbers) threshold counting ends ≡ after_opening (telling (codes "error: row inputs 1\n") 9)
unfolding row_line digits
two_numbers_are_named p threshold counting ends =
    ap (λ (bad : Option (Table × ℕ)). after_opening (session_plan (session_on p (loaded two_numbers) threshold counting ends bad))) (ap first_bad two_loaded ∙ two_row_is)
