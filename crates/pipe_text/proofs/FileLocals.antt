-- The reader of a file looks no further than the token in hand.
use Rattle.std.proofs.Common.{◌≡◌, ℕ, suc, ◌-◌, ◌≤◌, Bool, true, false, cond, List, [], ◌∷◌, ◌++◌, refl, sym, ◌∙◌, arith, inl, inr}
use Rattle.std.specs.Prelude.{◌==◌, ◌&&◌, not, nat_lt, Option, Some, None, codes, if◌then◌else◌}
use Rattle.std.proofs.lemmas.Bool.Decides.{nat_tests}
use Rattle.value_core.specs.declared.token.Token.{Token}
use Rattle.value_core.specs.declared.token.Token.TheVariants.{Name, Number, Words, Mark, LongName, LongText}
use Rattle.value_core.specs.declared.value.Value.TheVariants as value
use Rattle.op_keys.specs.declared.declarations.Expiry.{Expiry}
use Rattle.op_keys.specs.declared.declarations.Expiry.TheVariants.{Never, After}
use Rattle.op_keys.specs.declared.level.Level.TheVariants as level
use Rattle.term_core.specs.declared.program.Term.TheVariants as term
use Rattle.pipe_text.specs.declared.declaration.Declaration.{Declaration}
use Rattle.pipe_text.specs.declared.declaration.Declaration.TheVariants as declare
use Rattle.pipe_text.specs.declared.fault.Fault.TheVariants.{Duplicate}
use Rattle.pipe_text.specs.declared.fault.LimitName.{LimitName}
use Rattle.pipe_text.specs.declared.fault.LimitName.TheVariants as limit
use Rattle.pipe_text.specs.declared.words.DeclWord.{DeclWord}
use Rattle.pipe_text.specs.declared.words.DeclWord.TheVariants as decl
use Rattle.pipe_text.specs.declared.words.ValueWord.{ValueWord}
use Rattle.pipe_text.specs.declared.words.ValueWord.TheVariants as form
use Rattle.pipe_text.specs.declared.words.OpWord.{OpWord}
use Rattle.pipe_text.specs.declared.words.OpWord.TheVariants as op
use Rattle.pipe_text.specs.declared.words.PeriodWord.{PeriodWord}
use Rattle.pipe_text.specs.declared.words.PeriodWord.TheVariants as period
use Rattle.pipe_text.specs.declared.words.SideWord.TheVariants as side
use Rattle.pipe_text.specs.Words.{decl_letters, decl_word, value_letters, value_word, op_letters, op_word, period_letters, period_word, side_letters, side_word, level_letters, level_word}
use Rattle.pipe_text.specs.Grammar.{Limits, Items}
use Rattle.pipe_text.specs.FileGrammar.{Optional, SomeText, On, Flag, ValueIs, PlacementIs, LevelIs, SettingsAre, offset_of, OffsetIs, ExpiryIs, RetentionIs, RunIs, is_run, Declares, is_input_decl, is_pool_decl, is_client_decl, is_worker_decl, is_op_decl, is_node_decl}
use Rattle.pipe_text.specs.Files.{limit_of}
use Rattle.pipe_text.specs.inside.Readers.{Reader, give, seq, mark_at, word_at, keyword_at, is_keyword, if_keyword}
use Rattle.pipe_text.specs.inside.TermReading.{beyond, Counted, name_at, text_at, number_at, command_word_at, texts_at, items_at}
use Rattle.pipe_text.specs.inside.FileReading.{Bounds, Seen, declared_choice, declared_at, paired_choice, paired_at, any_number_choice, any_number_at, optional_text_at, flag_at, value_after, value_at, placement_at, level_at, settings_at, offset_at, period_after, schedule_at, expiry_at, retention_at, run_at, op_at, rest_at, decl_at}
use Rattle.pipe_text.specs.FirstFault.{SameLimit, Begins}
use Rattle.pipe_text.proofs.Finding.{Nothing, Then, Dressed, Either, Single, IsMark}
use Rattle.pipe_text.proofs.WordLaws.{decl_letters_are, value_letters_are, op_letters_are, period_letters_are, side_letters_are, level_letters_are}
use Rattle.pipe_text.proofs.TermFinds.{Lettered, OneName, OneText, OneNumber, either}
use Rattle.pipe_text.proofs.FileFinds.{Keyword, WordThen, following_of, optional_of, some_text_of, AnyNumber, ValueRest, text_value_of, num_value_of, list_value_of, value_of, PlacementChain, placement_of, settings_of, offset_is, PeriodLang, daily_of, monthly_of, ScheduleLang, schedule_of, after_of, scheduled_of, never_of, retention_of, no_retention_of, OpLang, op_lang_of}
use Rattle.pipe_text.proofs.Wider.{less}
use Rattle.pipe_text.proofs.Locals.{Local, LocalFor, Implies, local_same, local_give, local_seq, local_branch, local_peek, for_give, for_syntax, which}
use Rattle.pipe_text.proofs.TermLocals.{roomy, local_as, local_name, begins_name, local_text, Lifts, local_number, TextsG, local_more_words, local_mark, local_word, local_keyword, local_items}
use Rattle.pipe_text.proofs.TermFaults.{TermG, Whole, at_less, local_term, some_term}
use Rattle.value_core.proofs.Basics.{nat_is}

-- something is of the language
abbrev pub Some_of : {A : Type 0} → (A → List Token → Type 0) → Type 0
Some_of {A} G = (a : A) × (ks : List Token) × G a ks

-- a reader that is local, in a language that something is of
pub record Part {A : Type 0} (b : Bounds) (r : Bounds → Reader A) (G : A → List Token → Type 0) : Type 0 where
  pub local : Local b r G
  pub some : Some_of G

some_then : {A B : Type 0} (G : A → List Token → Type 0) (H : A → B → List Token → Type 0) → Some_of G → ((a : A) → Some_of (H a)) → Some_of (Then G H)
some_then G H (a, ks, g) f = let h = f a in (h.0, ks ++ h.1, (a, ks, h.1, refl, g, h.2))

pub part_seq : {A B : Type 0} (b : Bounds) (r : Bounds → Reader A) (q : Bounds → A → Reader B) (G : A → List Token → Type 0) (H : A → B → List Token → Type 0) → Part b r G → ((a : A) → Part b (λ e. q e a) (H a)) → Part b (λ e. seq (r e) (q e)) (Then G H)
part_seq b r q G H x f = record { local = local_seq b r q G H (λ a. (f a).some) x.local (λ a can. (f a).local); some = some_then G H x.some (λ a. (f a).some) }

part_as : {A B : Type 0} (b : Bounds) (r : Bounds → Reader A) (g : A → B) (G : A → List Token → Type 0) → Part b r G → Part b (λ e. seq (r e) (λ x. give (g x))) (Dressed g G)
part_as b r g G x = let s = x.some in record { local = local_as b r g G x.local; some = (g s.0, s.1, (s.0, refl, s.2)) }

part_same : {A : Type 0} (b : Bounds) (r : Bounds → Reader A) (G H : A → List Token → Type 0) → Part b r G → Implies G H → Part b r H
part_same b r G H x to = let s = x.some in record { local = local_same b r G H x.local to; some = (s.0, s.1, to s.0 s.1 s.2) }

part_give : {A : Type 0} (b : Bounds) (a : A) → Part b (λ e. give a) (Nothing a)
part_give b a = record { local = local_give b a; some = (a, [], (refl, refl)) }

part_cond : {A : Type 0} (b : Bounds) (c : Bool) (r q : Bounds → Reader A) (G : A → List Token → Type 0) → (c ≡ true → Part b r G) → (c ≡ false → Part b q G) → Part b (λ e. cond c (r e) (q e)) G
part_cond b true r q G x y = x refl
part_cond b false r q G x y = y refl

part_name : (b : Bounds) → Part b (λ e. name_at e.lim) (OneName (roomy b.lim))
part_name b = record { local = local_name b; some = ([], Name [] ∷ [], (Name [], refl, refl)) }

part_text : (b : Bounds) → Part b (λ e. text_at e.lim) (OneText (roomy b.lim))
part_text b = record { local = local_text b; some = ([], Words [] ∷ [], (Words [], refl, refl)) }

part_number : (b : Bounds) (what : LimitName) → Lifts what → Part b (λ e. number_at e.lim what) (OneNumber (roomy b.lim) what)
part_number b what lifts = record { local = local_number b what lifts; some = (0, Number 0 ∷ [], (Number 0, refl, (refl, refl))) }

part_word : {W : Type 0} (b : Bounds) (find : List ℕ → Option W) (letters : W → List ℕ) → ((n : List ℕ) (w : W) → find n ≡ Some w → n ≡ letters w) → W → Part b (λ e. word_at find) (Lettered letters)
part_word b find letters are w = record { local = local_word b find letters are w; some = (w, Name (letters w) ∷ [], refl) }

part_keyword : (b : Bounds) (letters : List ℕ) → Part b (λ e. keyword_at letters) (Keyword letters)
part_keyword b letters = record { local = local_keyword b letters; some = (tt, Name letters ∷ [], refl) }

part_mark : (b : Bounds) (c : ℕ) → Part b (λ e. mark_at c) (Single (IsMark c))
part_mark b c = record { local = local_mark b c; some = (tt, Mark c ∷ [], (Mark c, refl, refl)) }

part_items : (b : Bounds) → Part b (λ e. items_at e.lim) (Items (roomy b.lim))
part_items b = record { local = local_items b; some = ([], Mark 93 ∷ [], refl) }

-- ---- parts that may be left out

part_if_keyword : {A : Type 0} (b : Bounds) (letters : List ℕ) (r q : Bounds → Reader A) (L M : A → List Token → Type 0) → Part b r L → Part b q M → Part b (λ e. if_keyword letters (r e) (q e)) (Either (WordThen letters L) M)
part_if_keyword b letters r q L M x y =
    let s = y.some in
    record {
      local = local_peek b (is_keyword letters) (λ e. seq (keyword_at letters) (λ u. r e)) q (WordThen letters L) M
          (local_same b (λ e. seq (keyword_at letters) (λ u. r e)) (Then (Keyword letters) (λ u. L)) (WordThen letters L) (local_seq b (λ e. keyword_at letters) (λ e u. r e) (Keyword letters) (λ u. L) (λ u. x.some) (local_keyword b letters) (λ u can. x.local)) (following_of letters L)) y.local;
      some = (s.0, s.1, inr s.2);
    }

part_optional : {A : Type 0} (b : Bounds) (letters : List ℕ) (r : Bounds → Reader A) (L : A → List Token → Type 0) (d : A) → Part b r L → Part b (λ e. if_keyword letters (r e) (give d)) (Optional letters L d)
part_optional b letters r L d x = part_same b (λ e. if_keyword letters (r e) (give d)) (Either (WordThen letters L) (Nothing d)) (Optional letters L d) (part_if_keyword b letters r (λ e. give d) L (Nothing d) x (part_give b d)) (optional_of letters L d)

part_optional_text : (b : Bounds) (letters : List ℕ) → Part b (λ e. optional_text_at e.lim letters) (Optional letters (SomeText (roomy b.lim)) None)
part_optional_text b letters = part_optional b letters (λ e. seq (text_at e.lim) (λ t. give (Some t))) (SomeText (roomy b.lim)) None
    (part_same b (λ e. seq (text_at e.lim) (λ t. give (Some t))) (Dressed (λ t. Some t) (OneText (roomy b.lim))) (SomeText (roomy b.lim)) (part_as b (λ e. text_at e.lim) (λ t. Some t) (OneText (roomy b.lim)) (part_text b)) (some_text_of (roomy b.lim)))

part_flag : (b : Bounds) (letters : List ℕ) → Part b (λ e. flag_at letters) (Flag letters)
part_flag b letters = part_optional b letters (λ e. give true) On false (part_give b true)

-- ---- an input's value

begins_any : Begins AnyNumber []
begins_any = (0, Number 0, [], refl)

any_number_of : (b : Bounds) (k : Token) → LocalFor b (λ e. any_number_choice k) AnyNumber k
any_number_of b (Number m) = for_give b (λ e. any_number_choice (Number m)) AnyNumber (Number m) m (λ e w. refl) refl
any_number_of b (Name m) = for_syntax b _ AnyNumber (Name m) begins_any (λ e. refl)
any_number_of b (Words m) = for_syntax b _ AnyNumber (Words m) begins_any (λ e. refl)
any_number_of b (Mark m) = for_syntax b _ AnyNumber (Mark m) begins_any (λ e. refl)
any_number_of b LongName = for_syntax b _ AnyNumber LongName begins_any (λ e. refl)
any_number_of b LongText = for_syntax b _ AnyNumber LongText begins_any (λ e. refl)

part_any_number : (b : Bounds) → Part b (λ e. any_number_at) AnyNumber
part_any_number b = record { local = local_branch b (λ e. any_number_choice) AnyNumber begins_any (any_number_of b); some = (0, Number 0 ∷ [], refl) }

part_value_after : (b : Bounds) (w : ValueWord) → Part b (λ e. value_after e.lim w) (ValueRest (roomy b.lim) w)
part_value_after b form.Text = part_same b _ _ (ValueRest (roomy b.lim) form.Text) (part_seq b (λ e. text_at e.lim) _ _ _ (part_text b) (λ t. part_as b (λ e. optional_text_at e.lim (codes "watch")) _ _ (part_optional_text b (codes "watch")))) (text_value_of (roomy b.lim))
part_value_after b form.Num = part_same b _ _ (ValueRest (roomy b.lim) form.Num) (part_as b (λ e. any_number_at) _ _ (part_any_number b)) (num_value_of (roomy b.lim))
part_value_after b form.List = part_same b _ _ (ValueRest (roomy b.lim) form.List) (part_seq b (λ e. mark_at 91) _ _ _ (part_mark b 91) (λ u. part_as b (λ e. items_at e.lim) _ _ (part_items b))) (list_value_of (roomy b.lim))

part_value : (b : Bounds) → Part b (λ e. value_at e.lim) (ValueIs (roomy b.lim))
unfolding value_at
part_value b = part_same b _ _ (ValueIs (roomy b.lim)) (part_seq b (λ e. word_at value_word) (λ e w. value_after e.lim w) (Lettered value_letters) (ValueRest (roomy b.lim)) (part_word b value_word value_letters value_letters_are form.Num) (part_value_after b)) (value_of (roomy b.lim))

-- ---- an operation

part_placement : (b : Bounds) → Part b (λ e. placement_at e.lim) (PlacementIs (roomy b.lim))
unfolding placement_at
part_placement b = part_same b _ (PlacementChain (roomy b.lim)) (PlacementIs (roomy b.lim))
    (part_seq b (λ e. keyword_at (codes "pool")) _ _ _ (part_keyword b (codes "pool")) (λ u. part_seq b (λ e. name_at e.lim) _ _ _ (part_name b) (λ p. part_seq b (λ e. keyword_at (codes "client")) _ _ _ (part_keyword b (codes "client"))
    (λ v. part_seq b (λ e. name_at e.lim) _ _ _ (part_name b) (λ c. part_seq b (λ e. keyword_at (codes "cost")) _ _ _ (part_keyword b (codes "cost"))
    (λ w. part_seq b (λ e. number_at e.lim limit.Cost) _ _ _ (part_number b limit.Cost (λ x y h. h)) (λ m. part_as b (λ e. number_at e.lim limit.Cost) _ _ (part_number b limit.Cost (λ x y h. h))))))))) (placement_of (roomy b.lim))

part_level : (b : Bounds) → Part b (λ e. level_at) (Optional (codes "level") LevelIs level.Average)
part_level b = part_optional b (codes "level") (λ e. word_at level_word) LevelIs level.Average (part_word b level_word level_letters level_letters_are level.Average)

part_settings : (b : Bounds) → Part b (λ e. settings_at e.lim) (SettingsAre (roomy b.lim))
unfolding settings_at
part_settings b = part_same b _ _ (SettingsAre (roomy b.lim)) (part_seq b (λ e. optional_text_at e.lim (codes "hint")) _ _ _ (part_optional_text b (codes "hint")) (λ h. part_seq b (λ e. flag_at (codes "urgent")) _ _ _ (part_flag b (codes "urgent")) (λ u. part_as b (λ e. level_at) _ _ (part_level b)))) (settings_of (roomy b.lim))

part_offset : (b : Bounds) → Part b (λ e. offset_at e.lim) (OffsetIs (roomy b.lim))
part_offset b = part_same b _ (Then (Lettered side_letters) (λ s. Dressed (offset_of s) (OneNumber (roomy b.lim) limit.Offset))) (OffsetIs (roomy b.lim))
    (part_seq b (λ e. word_at side_word) (λ e s. seq (number_at e.lim limit.Offset) (λ n. give (offset_of s n))) (Lettered side_letters) (λ s. Dressed (offset_of s) (OneNumber (roomy b.lim) limit.Offset)) (part_word b side_word side_letters side_letters_are side.East) (λ s. part_as b (λ e. number_at e.lim limit.Offset) (offset_of s) (OneNumber (roomy b.lim) limit.Offset) (part_number b limit.Offset (λ x y h. h)))) (offset_is (roomy b.lim))

part_period : (b : Bounds) (v : ℕ) → v ≡ 2 → (w : PeriodWord) → Part b (λ e. period_after e.lim w) (PeriodLang (roomy b.lim) v w)
part_period b v two period.Daily = part_same b _ _ (PeriodLang (roomy b.lim) v period.Daily) (part_seq b (λ e. number_at e.lim limit.Minute) _ _ _ (part_number b limit.Minute (λ x y h. h)) (λ m. part_as b (λ e. offset_at e.lim) _ _ (part_offset b))) (daily_of (roomy b.lim) v two)
part_period b v two period.Monthly = part_same b _ _ (PeriodLang (roomy b.lim) v period.Monthly) (part_seq b (λ e. number_at e.lim limit.Day) _ _ _ (part_number b limit.Day (λ x y h. h)) (λ d. part_seq b (λ e. number_at e.lim limit.Minute) _ _ _ (part_number b limit.Minute (λ x y h. h)) (λ m. part_as b (λ e. offset_at e.lim) _ _ (part_offset b)))) (monthly_of (roomy b.lim) v two)

part_schedule : (b : Bounds) (v : ℕ) → v ≡ 2 → Part b (λ e. schedule_at e.lim) (ScheduleLang (roomy b.lim) v)
unfolding schedule_at
part_schedule b v two = part_same b _ _ (ScheduleLang (roomy b.lim) v) (part_seq b (λ e. word_at period_word) (λ e w. period_after e.lim w) (Lettered period_letters) (PeriodLang (roomy b.lim) v) (part_word b period_word period_letters period_letters_are period.Daily) (part_period b v two)) (schedule_of (roomy b.lim) v)

part_expiry : (b : Bounds) (v : ℕ) → Part b (λ e. expiry_at e.lim v) (ExpiryIs (roomy b.lim) v)
unfolding expiry_at
part_expiry b v =
    let E : Expiry → List Token → Type 0 = ExpiryIs (roomy b.lim) v in
    let never : Part b (λ e. give Never) E = part_same b (λ e. give Never) (Nothing Never) E (part_give b Never) (never_of (roomy b.lim) v) in
    let after : Bounds → Reader Expiry = λ e. seq (number_at e.lim limit.ValidFor) (λ n. give (After n)) in
    let sched : Bounds → Reader Expiry = λ e. if_keyword (codes "schedule") (schedule_at e.lim) (give Never) in
    part_same b (λ e. if_keyword (codes "valid_for") (after e) (if v == 2 then sched e else give Never)) (Either (WordThen (codes "valid_for") (Dressed (λ n. After n) (OneNumber (roomy b.lim) limit.ValidFor))) E) E
    (part_if_keyword b (codes "valid_for") after (λ e. if v == 2 then sched e else give Never) (Dressed (λ n. After n) (OneNumber (roomy b.lim) limit.ValidFor)) E (part_as b (λ e. number_at e.lim limit.ValidFor) (λ n. After n) (OneNumber (roomy b.lim) limit.ValidFor) (part_number b limit.ValidFor (λ x y h. h)))
    (part_cond b (v == 2) sched (λ e. give Never) E
    (λ two. part_same b sched (Either (WordThen (codes "schedule") (ScheduleLang (roomy b.lim) v)) (Nothing Never)) E (part_if_keyword b (codes "schedule") (λ e. schedule_at e.lim) (λ e. give Never) (ScheduleLang (roomy b.lim) v) (Nothing Never) (part_schedule b v (nat_is v 2 two)) (part_give b Never)) (either _ _ E (scheduled_of (roomy b.lim) v) (never_of (roomy b.lim) v)))
    (λ other. never)))
    (either _ _ E (after_of (roomy b.lim) v) (λ e ks l. l))

part_retention : (b : Bounds) (v : ℕ) (w : OpWord) → Part b (λ e. retention_at e.lim v w) (RetentionIs (roomy b.lim) v w)
unfolding retention_at
part_retention b v op.Build = part_same b _ _ (RetentionIs (roomy b.lim) v op.Build) (part_seq b (λ e. expiry_at e.lim v) _ _ _ (part_expiry b v) (λ x. part_as b (λ e. flag_at (codes "latched")) _ _ (part_flag b (codes "latched")))) (retention_of (roomy b.lim) v)
part_retention b v op.Output = part_same b _ _ (RetentionIs (roomy b.lim) v op.Output) (part_give b (record { expiry = Never; latched = false })) (no_retention_of (roomy b.lim) v)

run_all : (l : Limits) → Implies (Then (Keyword (codes "run")) (λ u. Then (OneText (roomy l)) (λ t. Dressed (λ ts. t ∷ ts) (TextsG [] [] (roomy l) (l.more_words - 0))))) (RunIs (roomy l))
run_all l x ks (u, a1, a2, e1, f1, (t, b1, b2, e2, (k, item, h), (ts, is, (few, rest)))) = rw (is, e1, f1, e2, item) (is_run t ts k b2 h (omega (arith, few)) rest)

part_run : (b : Bounds) → Part b (λ e. run_at e.lim) (RunIs (roomy b.lim))
unfolding run_at
part_run b = part_same b _ _ (RunIs (roomy b.lim)) (part_seq b (λ e. keyword_at (codes "run")) _ _ _ (part_keyword b (codes "run")) (λ u. part_seq b (λ e. text_at e.lim) _ _ _ (part_text b)
    (λ t. part_as b (λ e. texts_at (command_word_at e.lim) e.lim.more_words) _ _ (record { local = local_more_words b; some = ([], [], (omega arith, refl)) })))) (run_all b.lim)

part_op : (b : Bounds) (v : ℕ) (n : List ℕ) (w : OpWord) → Part b (λ e. op_at e.lim v n w) (OpLang (roomy b.lim) v n w)
unfolding op_at
part_op b v n w = part_same b _ _ (OpLang (roomy b.lim) v n w) (part_seq b (λ e. placement_at e.lim) _ _ _ (part_placement b) (λ p. part_seq b (λ e. settings_at e.lim) _ _ _ (part_settings b) (λ m. part_seq b (λ e. retention_at e.lim v w) _ _ _ (part_retention b v w)
    (λ k. part_seq b (λ e. flag_at (codes "no_cancel")) _ _ _ (part_flag b (codes "no_cancel")) (λ c. part_as b (λ e. run_at e.lim) _ _ (part_run b)))))) (op_lang_of (roomy b.lim) v n w)

-- ---- new names

most_same : (w : DeclWord) (a b : Bounds) → SameLimit (limit_of w) a b → a.most w ≡ b.most w
most_same decl.Input a b h = h
most_same decl.Pool a b h = h
most_same decl.Client a b h = h
most_same decl.Worker a b h = h
most_same decl.Op a b h = h
most_same decl.Node a b h = h

still_room : (n a b : ℕ) → a ≤ b → nat_lt n a ≡ true → nat_lt n b ≡ true
still_room n a b h e = grind (arith, nat_tests)

still_free : (a b known : Bool) → (a ≡ true → b ≡ true) → (not a && known) ≡ false → (not b && known) ≡ false
still_free true b known h e = rw (h refl) refl
still_free false true known h e = refl
still_free false false known h e = e

new_name : (b : Bounds) (w : DeclWord) (seen : Seen) (m : List ℕ) → LocalFor b (λ e. declared_choice e w seen (Name m)) (OneName (roomy b.lim)) (Name m)
new_name b w seen m = elim (which (nat_lt (seen.count w) (b.most w))) [
  | inl room ↦ elim (which (not b.twice && seen.named w m)) [
    | inl known ↦ inl (Duplicate m, λ e x u. rw (still_room (seen.count w) (b.most w) (e.most w) (u.0.most w) room, sym u.1, known) refl, λ t same. (refl, (m, [], (Name m, (λ i. same i ∷ []), refl))))
    | inr free ↦ for_give b (λ e. declared_choice e w seen (Name m)) (OneName (roomy b.lim)) (Name m) m (λ e x. rw (still_room (seen.count w) (b.most w) (e.most w) (x.most w) room, still_free b.twice e.twice (seen.named w m) x.twice free) refl) (Name m, refl, refl)
  ]
  | inr full ↦ inl (beyond (limit_of w), λ e x u. rw (sym (most_same w b e u.1), full) refl, λ t same. (refl, refl, (m, [], (Name m, (λ i. same i ∷ []), refl))))
]

new_long : (b : Bounds) (w : DeclWord) (seen : Seen) → LocalFor b (λ e. declared_choice e w seen LongName) (OneName (roomy b.lim)) LongName
new_long b w seen = elim (which (nat_lt (seen.count w) (b.most w))) [
  | inl room ↦ elim (which (b.lim.lifted limit.Name)) [
    | inl long ↦ elim (which (not b.twice && seen.named w [])) [
      | inl known ↦ inl (Duplicate [], λ e x u. rw (still_room (seen.count w) (b.most w) (e.most w) (u.0.most w) room, u.0.lim.lifted limit.Name long, sym u.1, known) refl, λ t same. (refl, ([], [], (LongName, (λ i. same i ∷ []), (refl, refl)))))
      | inr free ↦ for_give b (λ e. declared_choice e w seen LongName) (OneName (roomy b.lim)) LongName [] (λ e x. rw (still_room (seen.count w) (b.most w) (e.most w) (x.most w) room, x.lim.lifted limit.Name long, still_free b.twice e.twice (seen.named w []) x.twice free) refl) (LongName, refl, (refl, refl))
    ]
    | inr short ↦ inl (beyond limit.Name, λ e x u. rw (still_room (seen.count w) (b.most w) (e.most w) (u.0.most w) room, sym u.1 ∙ short) refl, λ t same. (refl, refl, ([], [], (LongName, (λ i. same i ∷ []), (refl, refl)))))
  ]
  | inr full ↦ inl (beyond (limit_of w), λ e x u. rw (sym (most_same w b e u.1), full) refl, λ t same. (refl, refl, ([], [], (LongName, (λ i. same i ∷ []), (refl, refl)))))
]

new_for : (b : Bounds) (w : DeclWord) (seen : Seen) (k : Token) → LocalFor b (λ e. declared_choice e w seen k) (OneName (roomy b.lim)) k
new_for b w seen (Name m) = new_name b w seen m
new_for b w seen LongName = new_long b w seen
new_for b w seen (Number m) = for_syntax b _ (OneName (roomy b.lim)) (Number m) (begins_name (roomy b.lim)) (λ e. refl)
new_for b w seen (Words m) = for_syntax b _ (OneName (roomy b.lim)) (Words m) (begins_name (roomy b.lim)) (λ e. refl)
new_for b w seen (Mark m) = for_syntax b _ (OneName (roomy b.lim)) (Mark m) (begins_name (roomy b.lim)) (λ e. refl)
new_for b w seen LongText = for_syntax b _ (OneName (roomy b.lim)) LongText (begins_name (roomy b.lim)) (λ e. refl)

part_new : (b : Bounds) (w : DeclWord) (seen : Seen) → Part b (λ e. declared_at e w seen) (OneName (roomy b.lim))
part_new b w seen = record { local = local_branch b (λ e. declared_choice e w seen) (OneName (roomy b.lim)) (begins_name (roomy b.lim)) (new_for b w seen); some = ([], Name [] ∷ [], (Name [], refl, refl)) }

pair_name : (b : Bounds) (seen : Seen) (n m : List ℕ) → LocalFor b (λ e. paired_choice e seen n (Name m)) (OneName (roomy b.lim)) (Name m)
pair_name b seen n m = elim (which (not b.twice && seen.paired n m)) [
  | inl known ↦ inl (Duplicate n, λ e x u. rw (sym u.1, known) refl, λ t same. (refl, (m, [], (Name m, (λ i. same i ∷ []), refl))))
  | inr free ↦ for_give b (λ e. paired_choice e seen n (Name m)) (OneName (roomy b.lim)) (Name m) m (λ e x. rw (still_free b.twice e.twice (seen.paired n m) x.twice free) refl) (Name m, refl, refl)
]

pair_long : (b : Bounds) (seen : Seen) (n : List ℕ) → LocalFor b (λ e. paired_choice e seen n LongName) (OneName (roomy b.lim)) LongName
pair_long b seen n = elim (which (b.lim.lifted limit.Name)) [
  | inl long ↦ elim (which (not b.twice && seen.paired n [])) [
    | inl known ↦ inl (Duplicate n, λ e x u. rw (u.0.lim.lifted limit.Name long, sym u.1, known) refl, λ t same. (refl, ([], [], (LongName, (λ i. same i ∷ []), (refl, refl)))))
    | inr free ↦ for_give b (λ e. paired_choice e seen n LongName) (OneName (roomy b.lim)) LongName [] (λ e x. rw (x.lim.lifted limit.Name long, still_free b.twice e.twice (seen.paired n []) x.twice free) refl) (LongName, refl, (refl, refl))
  ]
  | inr short ↦ inl (beyond limit.Name, λ e x u. rw (sym u.1 ∙ short) refl, λ t same. (refl, refl, ([], [], (LongName, (λ i. same i ∷ []), (refl, refl)))))
]

pair_for : (b : Bounds) (seen : Seen) (n : List ℕ) (k : Token) → LocalFor b (λ e. paired_choice e seen n k) (OneName (roomy b.lim)) k
pair_for b seen n (Name m) = pair_name b seen n m
pair_for b seen n LongName = pair_long b seen n
pair_for b seen n (Number m) = for_syntax b _ (OneName (roomy b.lim)) (Number m) (begins_name (roomy b.lim)) (λ e. refl)
pair_for b seen n (Words m) = for_syntax b _ (OneName (roomy b.lim)) (Words m) (begins_name (roomy b.lim)) (λ e. refl)
pair_for b seen n (Mark m) = for_syntax b _ (OneName (roomy b.lim)) (Mark m) (begins_name (roomy b.lim)) (λ e. refl)
pair_for b seen n LongText = for_syntax b _ (OneName (roomy b.lim)) LongText (begins_name (roomy b.lim)) (λ e. refl)

part_pair : (b : Bounds) (seen : Seen) (n : List ℕ) → Part b (λ e. paired_at e seen n) (OneName (roomy b.lim))
part_pair b seen n = record { local = local_branch b (λ e. paired_choice e seen n) (OneName (roomy b.lim)) (begins_name (roomy b.lim)) (pair_for b seen n); some = ([], Name [] ∷ [], (Name [], refl, refl)) }

-- ---- a declaration

-- what it is spelled by, with room for one more of what is counted
abbrev pub DeclG : Bounds → ℕ → Declaration → List Token → Type 0
DeclG b v d ks = Declares (roomy b.lim) (suc b.depth) v d ks

abbrev RestG : Bounds → ℕ → DeclWord → Declaration → List Token → Type 0
RestG b v w d ks = DeclG b v d (Name (decl_letters w) ∷ ks)

input_all : (b : Bounds) (v : ℕ) → Implies (Then (OneName (roomy b.lim)) (λ n. Dressed (λ x. declare.Input (record { name = n; value = x.value; watch = x.watch })) (ValueIs (roomy b.lim)))) (RestG b v decl.Input)
input_all b v d ks (n, k1, k2, parts, (k, item, name), (x, is, l)) = rw (is, parts, item) (is_input_decl n x k k2 name l)

pool_all : (b : Bounds) (v : ℕ) → Implies (Then (OneName (roomy b.lim)) (λ n. Then (Keyword (codes "hold")) (λ u. Dressed (λ h. declare.Pool (record { name = n; hold = h })) (OneNumber (roomy b.lim) limit.Hold)))) (RestG b v decl.Pool)
pool_all b v d ks (n, k1, k2, parts, (k, item, name), (u, a1, a2, e1, f1, (h, is, (l, e2, x)))) = rw (is, parts, item, e1, f1, e2) (is_pool_decl n h k l name x)

client_all : (b : Bounds) (v : ℕ) → Implies (Then (OneName (roomy b.lim)) (λ n. Then (OneName (roomy b.lim)) (λ p. Dressed (λ r. declare.Client (record { name = n; pool = p; rate = r })) (OneNumber (roomy b.lim) limit.Rate)))) (RestG b v decl.Client)
client_all b v d ks (n, k1, k2, parts, (k, item, name), (p, a1, a2, e1, (l, f1, pool), (r, is, (j, e2, x)))) = rw (is, parts, item, e1, f1, e2) (is_client_decl n p r k l j name pool x)

worker_all : (b : Bounds) (v : ℕ) → Implies (Then (OneName (roomy b.lim)) (λ n. Then (OneName (roomy b.lim)) (λ p. Dressed (λ c. declare.Worker (record { name = n; pool = p; capacity = c })) (OneNumber (roomy b.lim) limit.Capacity)))) (RestG b v decl.Worker)
worker_all b v d ks (n, k1, k2, parts, (k, item, name), (p, a1, a2, e1, (l, f1, pool), (c, is, (j, e2, x)))) = rw (is, parts, item, e1, f1, e2) (is_worker_decl n p c k l j name pool x)

op_all : (b : Bounds) (v : ℕ) → Implies (Then (OneName (roomy b.lim)) (λ n. Then (Lettered op_letters) (λ w. Dressed (λ o. declare.Op o) (OpLang (roomy b.lim) v n w)))) (RestG b v decl.Op)
op_all b v d ks (n, k1, k2, parts, (k, item, name), (w, a1, a2, e1, letters, (o, is, (p, m, e, c, ws, kp, km, ke, kc, kr, o_is, e2, x1, x2, x3, x4, x5)))) = rw (is, o_is, parts, item, e1, letters, e2) (is_op_decl n w p m e c ws k kp km ke kc kr name x1 x2 x3 x4 x5)

node_all : (b : Bounds) (v : ℕ) → Implies (Then (OneName (roomy b.lim)) (λ n. Dressed {A = Counted} (λ x. declare.Node (record { name = n; term = x.0 }) x.1) (TermG b b.depth))) (RestG b v decl.Node)
node_all b v d ks (n, k1, k2, parts, (k, item, name), (x, is, l)) = rw (is, parts, item) (is_node_decl n x.0 x.1 k k2 name l)

part_term : (b : Bounds) (k : ℕ) → Part b (λ e. Whole (less k e)) (TermG b b.depth)
part_term b k = record { local = at_less b b.depth b.terms k (local_term b b.depth); some = ((term.Return value.Unit, 1), _, some_term (roomy b.lim) b.depth) }

part_rest : (b : Bounds) (seen : Seen) (w : DeclWord) → Part b (λ e. rest_at e seen w) (RestG b seen.version w)
unfolding rest_at
part_rest b seen decl.Input = part_same b _ _ (RestG b seen.version decl.Input) (part_seq b (λ e. declared_at e decl.Input seen) _ _ _ (part_new b decl.Input seen) (λ n. part_as b (λ e. value_at e.lim) _ _ (part_value b))) (input_all b seen.version)
part_rest b seen decl.Pool = part_same b _ _ (RestG b seen.version decl.Pool) (part_seq b (λ e. declared_at e decl.Pool seen) _ _ _ (part_new b decl.Pool seen) (λ n. part_seq b (λ e. keyword_at (codes "hold")) _ _ _ (part_keyword b (codes "hold")) (λ u. part_as b (λ e. number_at e.lim limit.Hold) _ _ (part_number b limit.Hold (λ x y h. h))))) (pool_all b seen.version)
part_rest b seen decl.Client = part_same b _ _ (RestG b seen.version decl.Client) (part_seq b (λ e. declared_at e decl.Client seen) _ _ _ (part_new b decl.Client seen) (λ n. part_seq b (λ e. paired_at e seen n) _ _ _ (part_pair b seen n) (λ p. part_as b (λ e. number_at e.lim limit.Rate) _ _ (part_number b limit.Rate (λ x y h. h))))) (client_all b seen.version)
part_rest b seen decl.Worker = part_same b _ _ (RestG b seen.version decl.Worker) (part_seq b (λ e. declared_at e decl.Worker seen) _ _ _ (part_new b decl.Worker seen) (λ n. part_seq b (λ e. name_at e.lim) _ _ _ (part_name b) (λ p. part_as b (λ e. number_at e.lim limit.Capacity) _ _ (part_number b limit.Capacity (λ x y h. h))))) (worker_all b seen.version)
part_rest b seen decl.Op = part_same b _ _ (RestG b seen.version decl.Op) (part_seq b (λ e. declared_at e decl.Op seen) _ _ _ (part_new b decl.Op seen) (λ n. part_seq b (λ e. word_at op_word) _ _ _ (part_word b op_word op_letters op_letters_are op.Build) (λ w. part_as b (λ e. op_at e.lim seen.version n w) _ _ (part_op b seen.version n w)))) (op_all b seen.version)
part_rest b seen decl.Node = part_same b _ _ (RestG b seen.version decl.Node) (part_seq b (λ e. declared_at e decl.Node seen) _ _ _ (part_new b decl.Node seen) (λ n. part_as b (λ e. Whole (less seen.terms e)) _ _ (part_term b seen.terms))) (node_all b seen.version)

decl_all : (b : Bounds) (v : ℕ) → Implies (Then (Lettered decl_letters) (RestG b v)) (DeclG b v)
decl_all b v d ks (w, k1, k2, parts, is, l) = rw (parts, is) l

-- A declaration's reader looks no further than the token in hand.
pub part_decl : (b : Bounds) (seen : Seen) → Part b (λ e. decl_at e seen) (DeclG b seen.version)
unfolding decl_at
part_decl b seen = part_same b _ _ (DeclG b seen.version) (part_seq b (λ e. word_at decl_word) (λ e w. rest_at e seen w) (Lettered decl_letters) (RestG b seen.version) (part_word b decl_word decl_letters decl_letters_are decl.Pool) (part_rest b seen)) (decl_all b seen.version)
