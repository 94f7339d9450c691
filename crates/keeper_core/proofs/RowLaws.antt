-- What well-formed rows are.
use Rattle.std.proofs.Common.{◌≡◌, ◌<◌, ◌+◌, ℕ, zero, suc, ℤ, true, List, [], ◌∷◌, length, drop, get_or, None, Some, Option, refl, sym, arith}
use Rattle.value_core.specs.Names.{is_name}
use Rattle.value_core.proofs.Basics.{and_parts}
use Rattle.keeper_core.specs.declared.tables.CacheRow.{CacheRow}
use Rattle.keeper_core.specs.WellFormed.{are_texts, first_refused, is_job, is_log, is_result, is_short_text, value_in}

-- the texts of a result
pub result_op : (next : ℤ) (before : Option CacheRow) (r : CacheRow) → is_result next before r ≡ true → is_name r.op ≡ true
result_op next before r h = (and_parts _ _ (and_parts _ _ h).0).0

pub result_key : (next : ℤ) (before : Option CacheRow) (r : CacheRow) → is_result next before r ≡ true → is_short_text 65536 r.ckey ≡ true
result_key next before r h = (and_parts _ _ (and_parts _ _ (and_parts _ _ h).0).1).0

pub result_texts : (next : ℤ) (before : Option CacheRow) (r : CacheRow) → is_result next before r ≡ true → are_texts (value_in r) ≡ true
result_texts next before r h = (and_parts _ _ (and_parts _ _ (and_parts _ _ h).1).1).0

-- what comes before a log doesn't matter
log_any : (next : ℤ) (before : Option ℤ) (n : ℕ) (jobs : List ℤ) → first_refused (is_log next) before n jobs ≡ first_refused (is_log next) None n jobs
log_any next before n [] = refl
log_any next before n (j ∷ js) = refl

-- a log that passes
pub log_next : (next : ℤ) (n i k : ℕ) (jobs : List ℤ) (d : ℤ) → k ≡ suc i → i < length jobs → is_job next (get_or jobs i d) ≡ true
    → first_refused (is_log next) None (n + 1) (drop k jobs) ≡ first_refused (is_log next) None n (drop i jobs)
log_next next n i k [] d is within good = absurd (omega arith)
log_next next n zero k (j ∷ js) d is within good = rw (is, good) (sym (log_any next (Some j) (n + 1) js))
log_next next n (suc i) k (j ∷ js) d is within good = rw is (log_next next n i (suc i) js d refl (omega arith) good)
