-- What the plans over a store can be.
use Rattle.std.proofs.Common.{◌≡◌, ℕ, List, [], refl, ap, ◌∙◌, inl, inr}
use Rattle.std.specs.Prelude.{◌⊎◌, false, Option, Some, None, codes}
use Rattle.keeper_core.specs.declared.stored.Stored.{Stored}
use Rattle.keeper_core.specs.declared.tables.Table.{Table}
use Rattle.keeper_core.specs.declared.tables.Tables.{Tables}
use Rattle.keeper_core.specs.EitherSchema.{loaded_of, log_of}
use Rattle.keeper_core.specs.WellFormed.{first_bad}
use Rattle.session_rules.specs.Commands.{Plan, after_opening, by_row, log_text, on_store, telling, with_tables}
use Rattle.session_rules.specs.StoreTexts.{bad_row_line, results_text, stats_text}
use Rattle.store_reports.specs.declared.answers.Question.{Question}
use Rattle.store_reports.specs.declared.answers.Question.TheVariants.{Jobs, Stats, Log}
use Rattle.store_reports.specs.Questions.{question_plan}
use Rattle.store_reports.specs.inside.Answering.{answer_plan}
use Rattle.store_reports.proofs.Told.{IsAnswered, Prints}

-- the plan over tables that can't be loaded
abbrev pub lost : Plan
lost = record { outputs = []; status = 6; opens = false }

-- one text is printed
pub record OneText (p : Plan) : Type 0 where
  pub text : List ℕ
  pub status : ℕ
  pub prints : Prints p text status

-- nothing is done, or one text is printed
abbrev pub IsSmall : Plan → Type 0
IsSmall p = (p ≡ lost) ⊎ OneText p

-- ---- the plan of a question goes by what is loaded

pub question_is : (q : Question) (s : Stored) → question_plan q s ≡ on_store s (answer_plan q s)
question_is Jobs s = refl
question_is Stats s = refl
question_is (Log job) s = refl

on_tables : (p : Tables → Plan) (o : Option Tables) (s : Stored) → loaded_of s ≡ o → on_store s p ≡ with_tables o (λ t. by_row (first_bad t) (p t))
on_tables p o s is = ap (λ (x : Option Tables). with_tables x (λ t. by_row (first_bad t) (p t))) is

-- the first row that isn't well formed
pub bad_is : (q : Question) (s : Stored) (t : Tables) (bad : Table × ℕ) → loaded_of s ≡ Some t → first_bad t ≡ Some bad → question_plan q s ≡ after_opening (telling (bad_row_line bad) 9)
bad_is q s t bad is b = question_is q s ∙ on_tables (answer_plan q s) (Some t) s is ∙ ap (λ (x : Option (Table × ℕ)). after_opening (by_row x (answer_plan q s t))) b

-- well-formed tables
pub good_is : (q : Question) (s : Stored) (t : Tables) → loaded_of s ≡ Some t → first_bad t ≡ None → question_plan q s ≡ after_opening (answer_plan q s t)
good_is q s t is b = question_is q s ∙ on_tables (answer_plan q s) (Some t) s is ∙ ap (λ (x : Option (Table × ℕ)). after_opening (by_row x (answer_plan q s t))) b

-- ---- what the plan can be

pub prints_of : (p : Plan) (text : List ℕ) (n : ℕ) → p ≡ after_opening (telling text n) → IsAnswered n → Prints p text n
prints_of p text n is answered = record { outputs = ap (λ (q : Plan). q.outputs) is; status = ap (λ (q : Plan). q.status) is; answered = answered }

one_text : (p : Plan) (text : List ℕ) (n : ℕ) → p ≡ after_opening (telling text n) → IsAnswered n → OneText p
one_text p text n is answered = record { text = text; status = n; prints = prints_of p text n is answered }

log_small : (p : Plan) (o : Option (List ℕ)) → p ≡ after_opening (log_text o) → OneText p
log_small p None is = one_text p (codes "error: no log\n") 2 is (inr (inl refl))
log_small p (Some bytes) is = one_text p bytes 0 is (inl refl)

answer_small : (q : Question) (s : Stored) (t : Tables) (p : Plan) → p ≡ after_opening (answer_plan q s t) → OneText p
answer_small Jobs s t p is = one_text p (results_text t) 0 is (inl refl)
answer_small Stats s t p is = one_text p (stats_text t) 0 is (inl refl)
answer_small (Log job) s t p is = log_small p (log_of s job) is

row_small : (q : Question) (s : Stored) (t : Tables) (o : Option (Table × ℕ)) → loaded_of s ≡ Some t → first_bad t ≡ o → OneText (question_plan q s)
row_small q s t (Some bad) is b = one_text (question_plan q s) (bad_row_line bad) 9 (bad_is q s t bad is b) (inr (inr (inr (inr refl))))
row_small q s t None is b = answer_small q s t (question_plan q s) (good_is q s t is b)

tables_small : (q : Question) (s : Stored) (o : Option Tables) → loaded_of s ≡ o → IsSmall (question_plan q s)
tables_small q s None is = inl (question_is q s ∙ on_tables (answer_plan q s) None s is)
tables_small q s (Some t) is = inr (row_small q s t (first_bad t) is refl)

pub question_small : (q : Question) (s : Stored) → IsSmall (question_plan q s)
question_small q s = tables_small q s (loaded_of s) refl
