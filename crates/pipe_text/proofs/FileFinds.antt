-- What is read as declarations is spelled so.
use Rattle.std.proofs.Common.{◌≡◌, ℕ, ℤ, zero, suc, ◌-◌, ◌<◌, ◌≤◌, Bool, true, false, cond, List, [], ◌∷◌, ◌++◌, length, length-append, Result, refl, sym, ap, subst, ◌∙◌, append_assoc, arith, inl, inr}
use Rattle.std.specs.Prelude.{◌==◌, ◌&&◌, not, nat_lt, Ok, Err, Option, Some, None, codes, if◌then◌else◌}
use Rattle.std.proofs.lemmas.List.{append-nil}
use Rattle.value_core.specs.declared.token.Token.{Token}
use Rattle.value_core.specs.declared.token.Token.TheVariants.{Name, Number, Words, Mark, LongName, LongText}
use Rattle.value_core.specs.declared.value.Value.TheVariants as value
use Rattle.value_core.specs.declared.lexing.TokenAt.{TokenAt}
use Rattle.value_core.specs.declared.lexing.Stop.{Stop}
use Rattle.value_core.specs.declared.lexing.Stop.TheVariants as stop
use Rattle.value_core.specs.Literals.{tokens_in}
use Rattle.op_keys.specs.declared.declarations.Expiry.{Expiry}
use Rattle.op_keys.specs.declared.declarations.Expiry.TheVariants.{Never, After, Daily, Monthly}
use Rattle.op_keys.specs.declared.declarations.OpDecl.{OpDecl}
use Rattle.op_keys.specs.declared.level.Level.TheVariants as level
use Rattle.pipe_text.specs.declared.declaration.Declaration.{Declaration}
use Rattle.pipe_text.specs.declared.declaration.Declaration.TheVariants as declare
use Rattle.pipe_text.specs.declared.declaration.InputValue.{InputValue}
use Rattle.pipe_text.specs.declared.declaration.Placement.{Placement}
use Rattle.pipe_text.specs.declared.declaration.Settings.{Settings}
use Rattle.pipe_text.specs.declared.declaration.Retention.{Retention}
use Rattle.pipe_text.specs.declared.fault.Fault.{Fault}
use Rattle.pipe_text.specs.declared.fault.LimitName.TheVariants as limit
use Rattle.pipe_text.specs.declared.words.DeclWord.{DeclWord}
use Rattle.pipe_text.specs.declared.words.DeclWord.TheVariants as decl
use Rattle.pipe_text.specs.declared.words.ValueWord.{ValueWord}
use Rattle.pipe_text.specs.declared.words.ValueWord.TheVariants as form
use Rattle.pipe_text.specs.declared.words.OpWord.{OpWord}
use Rattle.pipe_text.specs.declared.words.OpWord.TheVariants as op
use Rattle.pipe_text.specs.declared.words.PeriodWord.{PeriodWord}
use Rattle.pipe_text.specs.declared.words.PeriodWord.TheVariants as period
use Rattle.pipe_text.specs.Words.{decl_letters, decl_word, value_letters, value_word, op_letters, op_word, period_letters, period_word, side_letters, side_word, level_letters, level_word}
use Rattle.pipe_text.specs.Grammar.{Limits, Items, list_of}
use Rattle.pipe_text.specs.FileGrammar.{Optional, is_given, is_absent, SomeText, On, Flag, ValueIs, is_text_value, is_num_value, is_list_value, PlacementIs, is_placement, LevelIs, SettingsAre, is_settings, offset_of, OffsetIs, ExpiryIs, is_never, is_after, is_daily, is_monthly, RetentionIs, is_build_retention, is_output_retention, RunIs, is_run, op_of, Declares, is_input_decl, is_pool_decl, is_client_decl, is_worker_decl, is_op_decl, is_node_decl, DeclareAll}
use Rattle.pipe_text.specs.inside.Readers.{◌>>=◌, Reader, give, seq, unless_ended, mark_at, word_at, keyword_at, is_keyword, if_keyword}
use Rattle.pipe_text.specs.inside.TermReading.{Counted, name_at, text_at, number_at, command_word_at, texts_at, items_at, term_at}
use Rattle.pipe_text.specs.inside.FileReading.{Bounds, Seen, seen_in, declared_choice, declared_at, paired_choice, paired_at, any_number_choice, any_number_at, optional_text_at, flag_at, value_after, value_at, placement_at, level_at, settings_at, offset_at, period_after, schedule_at, expiry_at, retention_at, run_at, op_at, rest_at, decl_at, decls_at}
use Rattle.pipe_text.proofs.Exactly.{tokens_in-append, tokens_in-length}
use Rattle.pipe_text.proofs.Finding.{Finds, bind_ok, ok_is, finds_same, Nothing, finds_give, Then, finds_seq, Dressed, finds_as, FindsFor, for_if, finds_by, finds_one, Either, finds_peek, Single, IsMark, finds_mark}
use Rattle.pipe_text.proofs.WordLaws.{decl_letters_are, value_letters_are, op_letters_are, period_letters_are, side_letters_are, level_letters_are}
use Rattle.pipe_text.proofs.TermFinds.{Lettered, finds_letters, finds_keyword, OneName, finds_name, OneText, finds_text, OneNumber, finds_number, either, TextsLang, finds_texts, finds_command_word, finds_items, TermLang, finds_term}
use Rattle.pipe_text.proofs.Joined.{Fits, Sound, sound_more}
use Rattle.value_core.proofs.Basics.{nat_is, nat_lt_is}

-- the letters of a keyword
abbrev pub Keyword : List ℕ → Unit {0} → List Token → Type 0
Keyword letters = Lettered {W = Unit {0}} (λ u. letters)

-- ---- parts that may be left out

abbrev pub WordThen : {A : Type 0} → List ℕ → (A → List Token → Type 0) → A → List Token → Type 0
WordThen letters L a ks = (more : List Token) × (ks ≡ Name letters ∷ more) × L a more

pub following_of : {A : Type 0} (letters : List ℕ) (L : A → List Token → Type 0) (a : A) (ks : List Token) → Then (Keyword letters) (λ u. L) a ks → WordThen letters L a ks
following_of letters L a ks (u, k1, k2, parts, is, l) = (k2, rw (parts, is) refl, l)

pub finds_if_keyword : {A : Type 0} (letters : List ℕ) (r q : Reader A) (L M : A → List Token → Type 0) → Finds r L → Finds q M → Finds (if_keyword letters r q) (Either (WordThen letters L) M)
finds_if_keyword letters r q L M x y = finds_peek (is_keyword letters) (seq (keyword_at letters) (λ u. r)) q (WordThen letters L) M
    (finds_same _ (Then (Keyword letters) (λ u. L)) (WordThen letters L) (finds_seq (keyword_at letters) (λ u. r) (Keyword letters) (λ u. L) (finds_keyword letters) (λ u. x)) (following_of letters L)) y

pub optional_of : {A : Type 0} (letters : List ℕ) (L : A → List Token → Type 0) (d a : A) (ks : List Token) → Either (WordThen letters L) (Nothing d) a ks → Optional letters L d a ks
optional_of letters L d a ks (inl (more, is, l)) = rw is (is_given a more l)
optional_of letters L d a ks (inr (is, none)) = rw (is, none) is_absent

pub finds_optional : {A : Type 0} (letters : List ℕ) (r : Reader A) (L : A → List Token → Type 0) (d : A) → Finds r L → Finds (if_keyword letters r (give d)) (Optional letters L d)
finds_optional letters r L d x = finds_same _ (Either (WordThen letters L) (Nothing d)) (Optional letters L d) (finds_if_keyword letters r (give d) L (Nothing d) x (finds_give d)) (optional_of letters L d)

pub some_text_of : (lim : Limits) (o : Option (List ℕ)) (ks : List Token) → Dressed (λ t. Some t) (OneText lim) o ks → SomeText lim o ks
some_text_of lim o ks (t, is, (k, parts, l)) = (t, k, is, parts, l)

finds_optional_text : (lim : Limits) (letters : List ℕ) → Finds (optional_text_at lim letters) (Optional letters (SomeText lim) None)
finds_optional_text lim letters = finds_optional letters (seq (text_at lim) (λ t. give (Some t))) (SomeText lim) None (finds_same _ (Dressed (λ t. Some t) (OneText lim)) (SomeText lim) (finds_as (text_at lim) (λ t. Some t) (OneText lim) (finds_text lim)) (some_text_of lim))

finds_flag : (letters : List ℕ) → Finds (flag_at letters) (Flag letters)
finds_flag letters = finds_optional letters (give true) On false (finds_give true)

-- ---- an input's value

abbrev pub AnyNumber : ℕ → List Token → Type 0
AnyNumber n ks = ks ≡ Number n ∷ []

pub any_number_for : (k : Token) → FindsFor (any_number_choice k) (λ n more. AnyNumber n (k ∷ more))
any_number_for (Number m) = finds_one (λ n more. AnyNumber n (Number m ∷ more)) m refl
any_number_for (Name m) = tt
any_number_for (Words m) = tt
any_number_for (Mark m) = tt
any_number_for LongName = tt
any_number_for LongText = tt

pub finds_any_number : Finds any_number_at AnyNumber
finds_any_number = finds_by any_number_choice AnyNumber any_number_for

abbrev pub ValueRest : Limits → ValueWord → InputValue → List Token → Type 0
ValueRest lim w v ks = ValueIs lim v (Name (value_letters w) ∷ ks)

pub text_value_of : (lim : Limits) (v : InputValue) (ks : List Token) → Then (OneText lim) (λ t. Dressed (λ w. record { value = value.Words t; watch = w }) (Optional (codes "watch") (SomeText lim) None)) v ks → ValueRest lim form.Text v ks
text_value_of lim v ks (t, k1, k2, parts, (k, item, l), (w, is, o)) = rw (is, parts, item) (is_text_value t k w k2 l o)

pub num_value_of : (lim : Limits) (v : InputValue) (ks : List Token) → Dressed (λ n. record { value = value.Num n; watch = None }) AnyNumber v ks → ValueRest lim form.Num v ks
num_value_of lim v ks (n, is, item) = rw (is, item) (is_num_value n)

pub list_value_of : (lim : Limits) (v : InputValue) (ks : List Token) → Then (Single (IsMark 91)) (λ u. Dressed (λ ts. record { value = list_of ts; watch = None }) (Items lim)) v ks → ValueRest lim form.List v ks
list_value_of lim v ks (u, k1, k2, parts, (k, item, mark), (ts, is, items)) = rw (is, parts, item, mark) (is_list_value ts k2 items)

finds_value_after : (lim : Limits) (w : ValueWord) → Finds (value_after lim w) (ValueRest lim w)
finds_value_after lim form.Text = finds_same _ _ (ValueRest lim form.Text) (finds_seq (text_at lim) _ (OneText lim) _ (finds_text lim) (λ t. finds_as (optional_text_at lim (codes "watch")) _ _ (finds_optional_text lim (codes "watch")))) (text_value_of lim)
finds_value_after lim form.Num = finds_same _ _ (ValueRest lim form.Num) (finds_as any_number_at _ AnyNumber finds_any_number) (num_value_of lim)
finds_value_after lim form.List = finds_same _ _ (ValueRest lim form.List) (finds_seq (mark_at 91) _ (Single (IsMark 91)) _ (finds_mark 91) (λ u. finds_as (items_at lim) _ (Items lim) (finds_items lim))) (list_value_of lim)

pub value_of : (lim : Limits) (v : InputValue) (ks : List Token) → Then (Lettered value_letters) (ValueRest lim) v ks → ValueIs lim v ks
value_of lim v ks (w, k1, k2, parts, is, l) = rw (parts, is) l

finds_value : (lim : Limits) → Finds (value_at lim) (ValueIs lim)
unfolding value_at
finds_value lim = finds_same _ (Then (Lettered value_letters) (ValueRest lim)) (ValueIs lim) (finds_seq (word_at value_word) (λ w. value_after lim w) (Lettered value_letters) (ValueRest lim) (finds_letters value_word value_letters value_letters_are) (finds_value_after lim)) (value_of lim)

-- ---- an operation

abbrev pub PlacementChain : Limits → Placement → List Token → Type 0
PlacementChain lim = Then (Keyword (codes "pool")) (λ u. Then (OneName lim) (λ p. Then (Keyword (codes "client")) (λ v. Then (OneName lim) (λ c. Then (Keyword (codes "cost")) (λ w.
    Then (OneNumber lim limit.Cost) (λ m. Dressed (λ n. record { pool = p; client = c; full = m; cached = n }) (OneNumber lim limit.Cost)))))))

pub placement_of : (lim : Limits) (x : Placement) (ks : List Token) → PlacementChain lim x ks → PlacementIs lim x ks
placement_of lim x ks (u, a1, a2, e1, f1, (p, b1, b2, e2, (kp, f2, np), (v, c1, c2, e3, f3, (c, d1, d2, e4, (kc, f4, nc), (w, g1, g2, e5, f5, (m, h1, h2, e6, (km, f6, nm), (n, is, (kn, f7, nn)))))))) =
    rw (is, e1, f1, e2, f2, e3, f3, e4, f4, e5, f5, e6, f6, f7) (is_placement p c m n kp kc km kn np nc nm nn)

finds_placement : (lim : Limits) → Finds (placement_at lim) (PlacementIs lim)
unfolding placement_at
finds_placement lim = finds_same _ (PlacementChain lim) (PlacementIs lim)
    (finds_seq (keyword_at (codes "pool")) _ _ _ (finds_keyword (codes "pool")) (λ u. finds_seq (name_at lim) _ _ _ (finds_name lim) (λ p. finds_seq (keyword_at (codes "client")) _ _ _ (finds_keyword (codes "client"))
    (λ v. finds_seq (name_at lim) _ _ _ (finds_name lim) (λ c. finds_seq (keyword_at (codes "cost")) _ _ _ (finds_keyword (codes "cost"))
    (λ w. finds_seq (number_at lim limit.Cost) _ _ _ (finds_number lim limit.Cost) (λ m. finds_as (number_at lim limit.Cost) _ _ (finds_number lim limit.Cost)))))))) (placement_of lim)

pub settings_of : (lim : Limits) (x : Settings) (ks : List Token) → Then (Optional (codes "hint") (SomeText lim) None) (λ h. Then (Flag (codes "urgent")) (λ u. Dressed (λ l. record { hint = h; urgent = u; level = l }) (Optional (codes "level") LevelIs level.Average))) x ks → SettingsAre lim x ks
settings_of lim x ks (h, a1, a2, e1, o1, (u, b1, b2, e2, o2, (l, is, o3))) = rw (is, e1, e2) (is_settings h u l a1 b1 b2 o1 o2 o3)

finds_level : Finds level_at (Optional (codes "level") LevelIs level.Average)
finds_level = finds_optional (codes "level") (word_at level_word) LevelIs level.Average (finds_letters level_word level_letters level_letters_are)

finds_settings : (lim : Limits) → Finds (settings_at lim) (SettingsAre lim)
unfolding settings_at
finds_settings lim = finds_same _ _ (SettingsAre lim) (finds_seq (optional_text_at lim (codes "hint")) _ _ _ (finds_optional_text lim (codes "hint")) (λ h. finds_seq (flag_at (codes "urgent")) _ _ _ (finds_flag (codes "urgent")) (λ u. finds_as level_at _ _ finds_level))) (settings_of lim)

pub offset_is : (lim : Limits) (o : ℤ) (ks : List Token) → Then (Lettered side_letters) (λ s. Dressed (offset_of s) (OneNumber lim limit.Offset)) o ks → OffsetIs lim o ks
offset_is lim o ks (s, k1, k2, parts, letters, (n, is, (k, item, l))) = (s, n, k, is, rw (parts, letters, item) refl, l)

finds_offset : (lim : Limits) → Finds (offset_at lim) (OffsetIs lim)
finds_offset lim = finds_same _ (Then (Lettered side_letters) (λ s. Dressed (offset_of s) (OneNumber lim limit.Offset))) (OffsetIs lim)
    (finds_seq (word_at side_word) (λ s. seq (number_at lim limit.Offset) (λ n. give (offset_of s n))) (Lettered side_letters) (λ s. Dressed (offset_of s) (OneNumber lim limit.Offset)) (finds_letters side_word side_letters side_letters_are) (λ s. finds_as (number_at lim limit.Offset) (offset_of s) (OneNumber lim limit.Offset) (finds_number lim limit.Offset))) (offset_is lim)

abbrev pub PeriodLang : Limits → ℕ → PeriodWord → Expiry → List Token → Type 0
PeriodLang lim v w e ks = ExpiryIs lim v e (Name (codes "schedule") ∷ Name (period_letters w) ∷ ks)

pub daily_of : (lim : Limits) (v : ℕ) → v ≡ 2 → (e : Expiry) (ks : List Token) → Then (OneNumber lim limit.Minute) (λ m. Dressed (λ o. Daily m o) (OffsetIs lim)) e ks → PeriodLang lim v period.Daily e ks
daily_of lim v two e ks (m, k1, k2, parts, (k, item, l), (o, is, x)) = rw (is, parts, item) (is_daily m o k k2 two l x)

pub monthly_of : (lim : Limits) (v : ℕ) → v ≡ 2 → (e : Expiry) (ks : List Token) → Then (OneNumber lim limit.Day) (λ d. Then (OneNumber lim limit.Minute) (λ m. Dressed (λ o. Monthly d m o) (OffsetIs lim))) e ks → PeriodLang lim v period.Monthly e ks
monthly_of lim v two e ks (d, a1, a2, e1, (j, f1, y), (m, k1, k2, parts, (k, item, l), (o, is, x))) = rw (is, e1, f1, parts, item) (is_monthly d m o j k k2 two y l x)

finds_period : (lim : Limits) (v : ℕ) → v ≡ 2 → (w : PeriodWord) → Finds (period_after lim w) (PeriodLang lim v w)
finds_period lim v two period.Daily = finds_same _ _ (PeriodLang lim v period.Daily) (finds_seq (number_at lim limit.Minute) _ _ _ (finds_number lim limit.Minute) (λ m. finds_as (offset_at lim) _ _ (finds_offset lim))) (daily_of lim v two)
finds_period lim v two period.Monthly = finds_same _ _ (PeriodLang lim v period.Monthly) (finds_seq (number_at lim limit.Day) _ _ _ (finds_number lim limit.Day) (λ d. finds_seq (number_at lim limit.Minute) _ _ _ (finds_number lim limit.Minute) (λ m. finds_as (offset_at lim) _ _ (finds_offset lim)))) (monthly_of lim v two)

abbrev pub ScheduleLang : Limits → ℕ → Expiry → List Token → Type 0
ScheduleLang lim v e ks = ExpiryIs lim v e (Name (codes "schedule") ∷ ks)

pub schedule_of : (lim : Limits) (v : ℕ) (e : Expiry) (ks : List Token) → Then (Lettered period_letters) (PeriodLang lim v) e ks → ScheduleLang lim v e ks
schedule_of lim v e ks (w, k1, k2, parts, is, l) = rw (parts, is) l

finds_schedule : (lim : Limits) (v : ℕ) → v ≡ 2 → Finds (schedule_at lim) (ScheduleLang lim v)
unfolding schedule_at
finds_schedule lim v two = finds_same _ (Then (Lettered period_letters) (PeriodLang lim v)) (ScheduleLang lim v) (finds_seq (word_at period_word) (λ w. period_after lim w) (Lettered period_letters) (PeriodLang lim v) (finds_letters period_word period_letters period_letters_are) (finds_period lim v two)) (schedule_of lim v)

finds_cond : {A : Type 0} (b : Bool) (r q : Reader A) (L : A → List Token → Type 0) → (b ≡ true → Finds r L) → (b ≡ false → Finds q L) → Finds (cond b r q) L
finds_cond true r q L x y = x refl
finds_cond false r q L x y = y refl

pub after_of : (lim : Limits) (v : ℕ) (e : Expiry) (ks : List Token) → WordThen (codes "valid_for") (Dressed (λ n. After n) (OneNumber lim limit.ValidFor)) e ks → ExpiryIs lim v e ks
after_of lim v e ks (more, is, (n, e_is, (k, item, l))) = rw (e_is, is, item) (is_after n k l)

pub scheduled_of : (lim : Limits) (v : ℕ) (e : Expiry) (ks : List Token) → WordThen (codes "schedule") (ScheduleLang lim v) e ks → ExpiryIs lim v e ks
scheduled_of lim v e ks (more, is, l) = rw is l

pub never_of : (lim : Limits) (v : ℕ) (e : Expiry) (ks : List Token) → Nothing Never e ks → ExpiryIs lim v e ks
never_of lim v e ks (is, none) = rw (is, none) is_never

finds_expiry : (lim : Limits) (v : ℕ) → Finds (expiry_at lim v) (ExpiryIs lim v)
unfolding expiry_at
finds_expiry lim v =
    let never : Finds (give Never) (ExpiryIs lim v) = finds_same _ (Nothing Never) (ExpiryIs lim v) (finds_give Never) (never_of lim v) in
    let after : Reader Expiry = seq (number_at lim limit.ValidFor) (λ n. give (After n)) in
    let sched : Reader Expiry = if_keyword (codes "schedule") (schedule_at lim) (give Never) in
    finds_same _ (Either (WordThen (codes "valid_for") (Dressed (λ n. After n) (OneNumber lim limit.ValidFor))) (ExpiryIs lim v)) (ExpiryIs lim v)
    (finds_if_keyword (codes "valid_for") after (if v == 2 then sched else give Never) (Dressed (λ n. After n) (OneNumber lim limit.ValidFor)) (ExpiryIs lim v) (finds_as (number_at lim limit.ValidFor) (λ n. After n) (OneNumber lim limit.ValidFor) (finds_number lim limit.ValidFor))
    (finds_cond (v == 2) sched (give Never) (ExpiryIs lim v)
    (λ two. finds_same _ (Either (WordThen (codes "schedule") (ScheduleLang lim v)) (Nothing Never)) (ExpiryIs lim v) (finds_if_keyword (codes "schedule") (schedule_at lim) (give Never) (ScheduleLang lim v) (Nothing Never) (finds_schedule lim v (nat_is v 2 two)) (finds_give Never)) (either _ _ (ExpiryIs lim v) (scheduled_of lim v) (never_of lim v)))
    (λ other. never)))
    (either _ _ (ExpiryIs lim v) (after_of lim v) (λ e ks l. l))

pub retention_of : (lim : Limits) (v : ℕ) (x : Retention) (ks : List Token) → Then (ExpiryIs lim v) (λ e. Dressed (λ l. record { expiry = e; latched = l }) (Flag (codes "latched"))) x ks → RetentionIs lim v op.Build x ks
retention_of lim v x ks (e, k1, k2, parts, y, (l, is, f)) = rw (is, parts) (is_build_retention e l k1 k2 y f)

pub no_retention_of : (lim : Limits) (v : ℕ) (x : Retention) (ks : List Token) → Nothing (record { expiry = Never; latched = false }) x ks → RetentionIs lim v op.Output x ks
no_retention_of lim v x ks (is, none) = rw (is, none) is_output_retention

finds_retention : (lim : Limits) (v : ℕ) (w : OpWord) → Finds (retention_at lim v w) (RetentionIs lim v w)
unfolding retention_at
finds_retention lim v op.Build = finds_same _ _ (RetentionIs lim v op.Build) (finds_seq (expiry_at lim v) _ _ _ (finds_expiry lim v) (λ e. finds_as (flag_at (codes "latched")) _ _ (finds_flag (codes "latched")))) (retention_of lim v)
finds_retention lim v op.Output = finds_same _ _ (RetentionIs lim v op.Output) (finds_give (record { expiry = Never; latched = false })) (no_retention_of lim v)

run_of : (lim : Limits) (x : List (List ℕ)) (ks : List Token) → Then (Keyword (codes "run")) (λ u. Then (OneText lim) (λ t. Dressed (λ ts. t ∷ ts) (TextsLang [] [] lim lim.more_words))) x ks → RunIs lim x ks
run_of lim x ks (u, a1, a2, e1, f1, (t, b1, b2, e2, (k, item, l), (ts, is, (few, rest)))) = rw (is, e1, f1, e2, item) (is_run t ts k b2 l few rest)

finds_run : (lim : Limits) → Finds (run_at lim) (RunIs lim)
unfolding run_at
finds_run lim = finds_same _ _ (RunIs lim) (finds_seq (keyword_at (codes "run")) _ _ _ (finds_keyword (codes "run")) (λ u. finds_seq (text_at lim) _ _ _ (finds_text lim) (λ t. finds_as (texts_at (command_word_at lim) lim.more_words) _ _ (finds_texts [] [] lim (command_word_at lim) (finds_command_word lim) lim.more_words)))) (run_of lim)

abbrev pub OpLang : Limits → ℕ → List ℕ → OpWord → OpDecl → List Token → Type 0
OpLang lim v n w d ks = (p : Placement) × (m : Settings) × (e : Retention) × (c : Bool) × (ws : List (List ℕ)) × (kp km ke kc kr : List Token) × (d ≡ op_of n w p m e c ws) × (ks ≡ kp ++ (km ++ (ke ++ (kc ++ kr))))
    × PlacementIs lim p kp × SettingsAre lim m km × RetentionIs lim v w e ke × Flag (codes "no_cancel") c kc × RunIs lim ws kr

pub op_lang_of : (lim : Limits) (v : ℕ) (n : List ℕ) (w : OpWord) (d : OpDecl) (ks : List Token) → Then (PlacementIs lim) (λ p. Then (SettingsAre lim) (λ m. Then (RetentionIs lim v w) (λ e. Then (Flag (codes "no_cancel")) (λ c. Dressed (λ ws. op_of n w p m e c ws) (RunIs lim))))) d ks → OpLang lim v n w d ks
op_lang_of lim v n w d ks (p, a1, a2, e1, x1, (m, b1, b2, e2, x2, (e, c1, c2, e3, x3, (c, d1, d2, e4, x4, (ws, is, x5))))) = (p, m, e, c, ws, a1, b1, c1, d1, d2, is, rw (e1, e2, e3, e4) refl, x1, x2, x3, x4, x5)

finds_op : (lim : Limits) (v : ℕ) (n : List ℕ) (w : OpWord) → Finds (op_at lim v n w) (OpLang lim v n w)
unfolding op_at
finds_op lim v n w = finds_same _ _ (OpLang lim v n w) (finds_seq (placement_at lim) _ _ _ (finds_placement lim) (λ p. finds_seq (settings_at lim) _ _ _ (finds_settings lim) (λ m. finds_seq (retention_at lim v w) _ _ _ (finds_retention lim v w)
    (λ e. finds_seq (flag_at (codes "no_cancel")) _ _ _ (finds_flag (codes "no_cancel")) (λ c. finds_as (run_at lim) _ _ (finds_run lim)))))) (op_lang_of lim v n w)

-- ---- a declaration

abbrev pub NewName : Bounds → DeclWord → Seen → List ℕ → List Token → Type 0
NewName b w seen n ks = OneName b.lim n ks × (seen.count w < b.most w) × ((not b.twice && seen.named w n) ≡ false)

new_for : (b : Bounds) (w : DeclWord) (seen : Seen) (k : Token) → FindsFor (declared_choice b w seen k) (λ n more. NewName b w seen n (k ∷ more))
new_for b w seen (Name m) = for_if (nat_lt (seen.count w) (b.most w)) _ _ _ (λ r. for_if (not b.twice && seen.named w m) _ _ _ (λ e. tt) (λ e. finds_one (λ n more. NewName b w seen n (Name m ∷ more)) m ((Name m, refl, refl), nat_lt_is (seen.count w) (b.most w) r, e))) (λ r. tt)
new_for b w seen LongName = for_if (nat_lt (seen.count w) (b.most w)) _ _ _
    (λ r. for_if (b.lim.lifted limit.Name) _ _ _ (λ l. for_if (not b.twice && seen.named w []) _ _ _ (λ e. tt) (λ e. finds_one (λ n more. NewName b w seen n (LongName ∷ more)) [] ((LongName, refl, (l, refl)), nat_lt_is (seen.count w) (b.most w) r, e))) (λ l. tt)) (λ r. tt)
new_for b w seen (Number m) = tt
new_for b w seen (Words m) = tt
new_for b w seen (Mark m) = tt
new_for b w seen LongText = tt

pub finds_new : (b : Bounds) (w : DeclWord) (seen : Seen) → Finds (declared_at b w seen) (NewName b w seen)
finds_new b w seen = finds_by (declared_choice b w seen) (NewName b w seen) (new_for b w seen)

abbrev pub NewPair : Bounds → Seen → List ℕ → List ℕ → List Token → Type 0
NewPair b seen n p ks = OneName b.lim p ks × ((not b.twice && seen.paired n p) ≡ false)

pair_for : (b : Bounds) (seen : Seen) (n : List ℕ) (k : Token) → FindsFor (paired_choice b seen n k) (λ p more. NewPair b seen n p (k ∷ more))
pair_for b seen n (Name m) = for_if (not b.twice && seen.paired n m) _ _ _ (λ e. tt) (λ e. finds_one (λ p more. NewPair b seen n p (Name m ∷ more)) m ((Name m, refl, refl), e))
pair_for b seen n LongName = for_if (b.lim.lifted limit.Name) _ _ _ (λ l. for_if (not b.twice && seen.paired n []) _ _ _ (λ e. tt) (λ e. finds_one (λ p more. NewPair b seen n p (LongName ∷ more)) [] ((LongName, refl, (l, refl)), e))) (λ l. tt)
pair_for b seen n (Number m) = tt
pair_for b seen n (Words m) = tt
pair_for b seen n (Mark m) = tt
pair_for b seen n LongText = tt

finds_pair : (b : Bounds) (seen : Seen) (n : List ℕ) → Finds (paired_at b seen n) (NewPair b seen n)
finds_pair b seen n = finds_by (paired_choice b seen n) (NewPair b seen n) (pair_for b seen n)

-- a declaration is spelled, and fits after those that are known
abbrev pub DeclLang : Bounds → Seen → Declaration → List Token → Type 0
DeclLang b seen d ks = Declares b.lim b.depth seen.version d ks × Fits b seen d

abbrev pub RestLang : Bounds → Seen → DeclWord → Declaration → List Token → Type 0
RestLang b seen w d ks = DeclLang b seen d (Name (decl_letters w) ∷ ks)

input_of : (b : Bounds) (seen : Seen) (d : Declaration) (ks : List Token) → Then (NewName b decl.Input seen) (λ n. Dressed (λ v. declare.Input (record { name = n; value = v.value; watch = v.watch })) (ValueIs b.lim)) d ks → RestLang b seen decl.Input d ks
input_of b seen d ks (n, k1, k2, parts, ((k, item, name), room, free), (v, is, x)) = rw (is, parts, item) (is_input_decl n v k k2 name x, record { room = room; free = free; terms = omega arith })

pool_of : (b : Bounds) (seen : Seen) (d : Declaration) (ks : List Token) → Then (NewName b decl.Pool seen) (λ n. Then (Keyword (codes "hold")) (λ u. Dressed (λ h. declare.Pool (record { name = n; hold = h })) (OneNumber b.lim limit.Hold))) d ks → RestLang b seen decl.Pool d ks
pool_of b seen d ks (n, k1, k2, parts, ((k, item, name), room, free), (u, a1, a2, e1, f1, (h, is, (l, e2, x)))) = rw (is, parts, item, e1, f1, e2) (is_pool_decl n h k l name x, record { room = room; free = free; terms = omega arith })

client_of : (b : Bounds) (seen : Seen) (d : Declaration) (ks : List Token) → Then (NewName b decl.Client seen) (λ n. Then (NewPair b seen n) (λ p. Dressed (λ r. declare.Client (record { name = n; pool = p; rate = r })) (OneNumber b.lim limit.Rate))) d ks → RestLang b seen decl.Client d ks
client_of b seen d ks (n, k1, k2, parts, ((k, item, name), room, other), (p, a1, a2, e1, ((l, f1, pool), free), (r, is, (j, e2, x)))) = rw (is, parts, item, e1, f1, e2) (is_client_decl n p r k l j name pool x, record { room = room; free = free; terms = omega arith })

worker_of : (b : Bounds) (seen : Seen) (d : Declaration) (ks : List Token) → Then (NewName b decl.Worker seen) (λ n. Then (OneName b.lim) (λ p. Dressed (λ c. declare.Worker (record { name = n; pool = p; capacity = c })) (OneNumber b.lim limit.Capacity))) d ks → RestLang b seen decl.Worker d ks
worker_of b seen d ks (n, k1, k2, parts, ((k, item, name), room, free), (p, a1, a2, e1, (l, f1, pool), (c, is, (j, e2, x)))) = rw (is, parts, item, e1, f1, e2) (is_worker_decl n p c k l j name pool x, record { room = room; free = free; terms = omega arith })

op_decl_of : (b : Bounds) (seen : Seen) (d : Declaration) (ks : List Token) → Then (NewName b decl.Op seen) (λ n. Then (Lettered op_letters) (λ w. Dressed (λ o. declare.Op o) (OpLang b.lim seen.version n w))) d ks → RestLang b seen decl.Op d ks
op_decl_of b seen d ks (n, k1, k2, parts, ((k, item, name), room, free), (w, a1, a2, e1, letters, (o, is, (p, m, e, c, ws, kp, km, ke, kc, kr, o_is, e2, x1, x2, x3, x4, x5)))) =
    rw (is, o_is, parts, item, e1, letters, e2) (is_op_decl n w p m e c ws k kp km ke kc kr name x1 x2 x3 x4 x5, record { room = room; free = free; terms = omega arith })

node_of : (b : Bounds) (seen : Seen) (d : Declaration) (ks : List Token) → Then (NewName b decl.Node seen) (λ n. Dressed {A = Counted} (λ x. declare.Node (record { name = n; term = x.0 }) x.1) (TermLang b.lim b.depth (b.terms - seen.terms))) d ks → RestLang b seen decl.Node d ks
node_of b seen d ks (n, k1, k2, parts, ((k, item, name), room, free), (x, is, (fits, l))) = rw (is, parts, item) (is_node_decl n x.0 x.1 k k2 name l, record { room = room; free = free; terms = fits })

finds_rest : (b : Bounds) (seen : Seen) (w : DeclWord) → Finds (rest_at b seen w) (RestLang b seen w)
unfolding rest_at
finds_rest b seen decl.Input = finds_same _ _ (RestLang b seen decl.Input) (finds_seq (declared_at b decl.Input seen) _ _ _ (finds_new b decl.Input seen) (λ n. finds_as (value_at b.lim) _ _ (finds_value b.lim))) (input_of b seen)
finds_rest b seen decl.Pool = finds_same _ _ (RestLang b seen decl.Pool) (finds_seq (declared_at b decl.Pool seen) _ _ _ (finds_new b decl.Pool seen) (λ n. finds_seq (keyword_at (codes "hold")) _ _ _ (finds_keyword (codes "hold")) (λ u. finds_as (number_at b.lim limit.Hold) _ _ (finds_number b.lim limit.Hold)))) (pool_of b seen)
finds_rest b seen decl.Client = finds_same _ _ (RestLang b seen decl.Client) (finds_seq (declared_at b decl.Client seen) _ _ _ (finds_new b decl.Client seen) (λ n. finds_seq (paired_at b seen n) _ _ _ (finds_pair b seen n) (λ p. finds_as (number_at b.lim limit.Rate) _ _ (finds_number b.lim limit.Rate)))) (client_of b seen)
finds_rest b seen decl.Worker = finds_same _ _ (RestLang b seen decl.Worker) (finds_seq (declared_at b decl.Worker seen) _ _ _ (finds_new b decl.Worker seen) (λ n. finds_seq (name_at b.lim) _ _ _ (finds_name b.lim) (λ p. finds_as (number_at b.lim limit.Capacity) _ _ (finds_number b.lim limit.Capacity)))) (worker_of b seen)
finds_rest b seen decl.Op = finds_same _ _ (RestLang b seen decl.Op) (finds_seq (declared_at b decl.Op seen) _ _ _ (finds_new b decl.Op seen) (λ n. finds_seq (word_at op_word) _ _ _ (finds_letters op_word op_letters op_letters_are) (λ w. finds_as (op_at b.lim seen.version n w) _ _ (finds_op b.lim seen.version n w)))) (op_decl_of b seen)
finds_rest b seen decl.Node = finds_same _ _ (RestLang b seen decl.Node) (finds_seq (declared_at b decl.Node seen) _ _ _ (finds_new b decl.Node seen) (λ n. finds_as (term_at b.lim b.depth (b.terms - seen.terms)) _ _ (finds_term b.lim b.depth (b.terms - seen.terms)))) (node_of b seen)

decl_of : (b : Bounds) (seen : Seen) (d : Declaration) (ks : List Token) → Then (Lettered decl_letters) (RestLang b seen) d ks → DeclLang b seen d ks
decl_of b seen d ks (w, k1, k2, parts, is, l) = rw (parts, is) l

pub finds_decl : (b : Bounds) (seen : Seen) → Finds (decl_at b seen) (DeclLang b seen)
unfolding decl_at
finds_decl b seen = finds_same _ (Then (Lettered decl_letters) (RestLang b seen)) (DeclLang b seen) (finds_seq (word_at decl_word) (rest_at b seen) (Lettered decl_letters) (RestLang b seen) (finds_letters decl_word decl_letters decl_letters_are) (finds_rest b seen)) (decl_of b seen)

-- a declaration has a token
pub some_tokens : (lim : Limits) (depth v : ℕ) (d : Declaration) (ks : List Token) → Declares lim depth v d ks → 0 < length ks
some_tokens lim depth v d ks (is_input_decl n x k more name y) = omega arith
some_tokens lim depth v d ks (is_pool_decl n h k l name x) = omega arith
some_tokens lim depth v d ks (is_client_decl n p r k l j name pool x) = omega arith
some_tokens lim depth v d ks (is_worker_decl n p c k l j name pool x) = omega arith
some_tokens lim depth v d ks (is_op_decl n w p m e c ws k kp km ke kc kr name x1 x2 x3 x4 x5) = omega arith
some_tokens lim depth v d ks (is_node_decl n t m k more name x) = omega arith

-- ---- declarations up to the end

-- The file ends there. The tokens spell declarations, which were put after those before them.
pub record AllRead (b : Bounds) (v : ℕ) (before all : List Declaration) (s : Stop) (ts rest : List TokenAt) : Type 0 where
  pub more : List Declaration
  pub offset : ℕ
  pub stopped : s ≡ stop.End offset
  pub whole : rest ≡ []
  pub spelled : DeclareAll b.lim b.depth v more (tokens_in ts)
  pub is : all ≡ before ++ more
  pub sound : Sound b before → Sound b all

ended_so : (b : Bounds) (v n : ℕ) (before all : List Declaration) (s : Stop) (rest : List TokenAt) → decls_at b v n before s [] ≡ Ok (all, rest) → unless_ended before (give before) s [] ≡ Ok (all, rest)
unfolding decls_at
ended_so b v zero before all (stop.Lex offset) rest e = absurd cc
ended_so b v (suc n) before all (stop.Lex offset) rest e = absurd cc
ended_so b v zero before all (stop.End offset) rest e = e
ended_so b v (suc n) before all (stop.End offset) rest e = e

none_read : (b : Bounds) (v : ℕ) (before all : List Declaration) (s : Stop) (rest : List TokenAt) → unless_ended before (give before) s [] ≡ Ok (all, rest) → AllRead b v before all s [] rest
none_read b v before all (stop.Lex offset) rest e = absurd cc
none_read b v before all (stop.End offset) rest e =
    let parts = ok_is (before, []) (all, rest) e in
    let same : before ≡ all = ap (λ (y : List Declaration × List TokenAt). y.0) parts in
    record { more = []; offset = offset; stopped = refl; whole = ap (λ (y : List Declaration × List TokenAt). y.1) (sym parts); spelled = refl; is = sym same ∙ sym (append-nil before); sound = λ s. subst (Sound b) same s }

read_more : (b : Bounds) (v : ℕ) (before : List Declaration) (d : Declaration) (all : List Declaration) (s : Stop) (front ts rest : List TokenAt) → DeclLang b (seen_in v before) d (tokens_in front) → AllRead b v (before ++ d ∷ []) all s ts rest → AllRead b v before all s (front ++ ts) rest
read_more b v before d all s front ts rest (one_decl, fits) more =
    record {
      more = d ∷ more.more;
      offset = more.offset;
      stopped = more.stopped;
      whole = more.whole;
      spelled = (tokens_in front, tokens_in ts, tokens_in-append front ts, one_decl, more.spelled);
      is = more.is ∙ append_assoc before (d ∷ []) more.more;
      sound = λ s. more.sound (sound_more b v before d s fits);
    }

-- What is read up to the end is spelled so.
pub decls_read : (b : Bounds) (v n : ℕ) (before all : List Declaration) (s : Stop) (ts rest : List TokenAt) → decls_at b v n before s ts ≡ Ok (all, rest) → AllRead b v before all s ts rest
unfolding decls_at
decls_read b v n before all s [] rest e = none_read b v before all s rest (ended_so b v n before all s rest e)
decls_read b v zero before all s (t ∷ ts) rest e = absurd cc
decls_read b v (suc n) before all s (t ∷ ts) rest e =
    let first = bind_ok (decl_at b (seen_in v before) s (t ∷ ts)) (λ y. decls_at b v n (before ++ y.0 ∷ []) s y.1) (all, rest) e in
    let one_decl = (finds_decl b (seen_in v before)).found s (t ∷ ts) first.0.0 first.0.1 first.1 in
    rw one_decl.1 (read_more b v before first.0.0 all s one_decl.0 first.0.1 rest one_decl.2 (decls_read b v n (before ++ first.0.0 ∷ []) all s first.0.1 rest first.2))

-- ---- a loop over declarations

-- a declaration takes a token
pub shorter : (b : Bounds) (seen : Seen) (d : Declaration) (s : Stop) (ts rest : List TokenAt) → decl_at b seen s ts ≡ Ok (d, rest) → length rest < length ts
shorter b seen d s ts rest e =
    let f = (finds_decl b seen).found s ts d rest e in
    let some : 0 < length (tokens_in f.0) = some_tokens b.lim b.depth seen.version d (tokens_in f.0) f.2.0 in
    let same = tokens_in-length f.0 in
    let sum = length-append f.0 rest in
    rw f.1 (omega (arith, some, same, sum))

go_same : (b : Bounds) (v n m size : ℕ) (before : List Declaration) (s : Stop) (r : Result (Declaration × List TokenAt) Fault) → ((d : Declaration) (rest : List TokenAt) → r ≡ Ok (d, rest) → length rest < size)
    → ((ds : List Declaration) (rest : List TokenAt) → length rest < size → decls_at b v n ds s rest ≡ decls_at b v m ds s rest) → (r >>= λ y. decls_at b v n (before ++ y.0 ∷ []) s y.1) ≡ (r >>= λ y. decls_at b v m (before ++ y.0 ∷ []) s y.1)
go_same b v n m size before s (Ok y) short same = same (before ++ y.0 ∷ []) y.1 (short y.0 y.1 refl)
go_same b v n m size before s (Err f) short same = refl

at_end_same : (b : Bounds) (v n m : ℕ) (before : List Declaration) (s : Stop) → decls_at b v n before s [] ≡ decls_at b v m before s []
unfolding decls_at
at_end_same b v zero zero before s = refl
at_end_same b v zero (suc m) before (stop.Lex offset) = refl
at_end_same b v zero (suc m) before (stop.End offset) = refl
at_end_same b v (suc n) zero before (stop.Lex offset) = refl
at_end_same b v (suc n) zero before (stop.End offset) = refl
at_end_same b v (suc n) (suc m) before (stop.Lex offset) = refl
at_end_same b v (suc n) (suc m) before (stop.End offset) = refl

-- the bound on the tokens that are left plays no part
pub enough : (b : Bounds) (v n m : ℕ) (before : List Declaration) (s : Stop) (ts : List TokenAt) → length ts ≤ n → length ts ≤ m → decls_at b v n before s ts ≡ decls_at b v m before s ts
unfolding decls_at
enough b v n m before s [] few also = at_end_same b v n m before s
enough b v zero m before s (t ∷ ts) few also = absurd (omega arith)
enough b v (suc n) zero before s (t ∷ ts) few also = absurd (omega arith)
enough b v (suc n) (suc m) before s (t ∷ ts) few also =
    go_same b v n m (length (t ∷ ts)) before s (decl_at b (seen_in v before) s (t ∷ ts)) (λ d rest e. shorter b (seen_in v before) d s (t ∷ ts) rest e) (λ ds rest short. enough b v n m ds s rest (omega (arith, few, short)) (omega (arith, also, short)))
