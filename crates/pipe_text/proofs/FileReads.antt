-- What declarations are spelled by is read.
use Rattle.std.proofs.Common.{◌≡◌, ℕ, ℤ, zero, suc, ◌-◌, ◌<◌, ◌≤◌, Bool, true, false, List, [], ◌∷◌, ◌++◌, length, length-append, refl, sym, ap, subst, ◌∙◌, append_assoc, arith}
use Rattle.std.specs.Prelude.{◌==◌, ◌&&◌, not, Ok, Option, Some, None, codes}
use Rattle.std.proofs.lemmas.List.{append-nil}
use Rattle.value_core.specs.declared.token.Token.{Token}
use Rattle.value_core.specs.declared.token.Token.TheVariants.{Name, Number, Words, Mark, LongName, LongText}
use Rattle.value_core.specs.declared.value.Value.TheVariants as value
use Rattle.value_core.specs.declared.lexing.TokenAt.{TokenAt}
use Rattle.value_core.specs.declared.lexing.Stop.{Stop}
use Rattle.value_core.specs.declared.lexing.Stop.TheVariants as stop
use Rattle.value_core.specs.Literals.{tokens_in}
use Rattle.op_keys.specs.declared.declarations.Expiry.{Expiry}
use Rattle.op_keys.specs.declared.declarations.Expiry.TheVariants.{Never, After, Daily, Monthly}
use Rattle.op_keys.specs.declared.level.Level.{Level}
use Rattle.op_keys.specs.declared.level.Level.TheVariants as level
use Rattle.pipe_text.specs.declared.declaration.Declaration.{Declaration}
use Rattle.pipe_text.specs.declared.declaration.Declaration.TheVariants as declare
use Rattle.pipe_text.specs.declared.declaration.InputValue.{InputValue}
use Rattle.pipe_text.specs.declared.declaration.Placement.{Placement}
use Rattle.pipe_text.specs.declared.declaration.Settings.{Settings}
use Rattle.pipe_text.specs.declared.declaration.Retention.{Retention}
use Rattle.pipe_text.specs.declared.fault.LimitName.TheVariants as limit
use Rattle.pipe_text.specs.declared.words.DeclWord.{DeclWord}
use Rattle.pipe_text.specs.declared.words.DeclWord.TheVariants as decl
use Rattle.pipe_text.specs.declared.words.ValueWord.TheVariants as form
use Rattle.pipe_text.specs.declared.words.OpWord.{OpWord}
use Rattle.pipe_text.specs.declared.words.PeriodWord.TheVariants as period
use Rattle.pipe_text.specs.Words.{decl_letters, decl_word, value_letters, value_word, op_letters, op_word, period_letters, period_word, side_letters, side_word, level_letters, level_word}
use Rattle.pipe_text.specs.Grammar.{Limits, NameIs, list_of, one}
use Rattle.pipe_text.specs.FileGrammar.{Optional, is_given, is_absent, SomeText, On, Flag, ValueIs, is_text_value, is_num_value, is_list_value, PlacementIs, is_placement, LevelIs, SettingsAre, is_settings, offset_of, OffsetIs, ExpiryIs, is_never, is_after, is_daily, is_monthly, RetentionIs, is_build_retention, is_output_retention, RunIs, is_run, op_of, Declares, is_input_decl, is_pool_decl, is_client_decl, is_worker_decl, is_op_decl, is_node_decl, DeclareAll}
use Rattle.pipe_text.specs.inside.Readers.{Reader, give, seq, mark_at, word_at, only, keyword_at, is_keyword, if_keyword}
use Rattle.pipe_text.specs.inside.TermReading.{Counted, name_at, text_at, number_at, command_word_at, texts_at, items_at, term_at}
use Rattle.std.specs.List.{list_any}
use Rattle.pipe_text.specs.Files.{has_name}
use Rattle.pipe_text.specs.declared.declaration.Declaration.TheVariants.{Input, Pool, Client, Worker, Op, Node}
use Rattle.pipe_text.specs.inside.FileReading.{Bounds, Seen, seen_in, declared_choice, declared_at, paired_choice, paired_at, any_number_choice, any_number_at, optional_text_at, flag_at, value_after, value_at, placement_at, level_at, settings_at, offset_at, period_after, schedule_at, expiry_at, retention_at, run_at, op_at, rest_at, decl_at, decls_at}
use Rattle.pipe_text.proofs.Exactly.{ReadsIf, Any, Takes, reads_if, reads_give, reads_seq, reads_then, reads_as, reads_branch, reads_yes, reads_no, reads_mark, reads_word, Not, split_tokens_in, nil_of, cons_is, tokens_in-length}
use Rattle.pipe_text.proofs.WordLaws.{decl_word_is, value_word_is, op_word_is, period_word_is, side_word_is, level_word_is}
use Rattle.pipe_text.proofs.TermReads.{Under, reads_name, reads_text, reads_number, reads_texts, reads_items, NoString, reads_no_word, reads_one_word, all_read}
use Rattle.pipe_text.proofs.Joined.{Fits, Sound, next_fits}
use Rattle.pipe_text.proofs.FileFinds.{some_tokens}
use Rattle.value_core.proofs.Basics.{is_nat_lt}

-- ---- what comes next

-- the tokens begin with one that passes no such test
abbrev pub Leads : (Token → Bool) → List Token → Type 0
Leads test [] = ⊥
Leads test (k ∷ ks) = test k ≡ false

lead_next : (test : Token → Bool) (front rest : List TokenAt) (ks : List Token) → tokens_in front ≡ ks → Leads test ks → Not test (front ++ rest)
lead_next test [] rest [] e l = absurd l
lead_next test [] rest (k ∷ ks) e l = absurd cc
lead_next test (t ∷ front) rest [] e l = absurd l
lead_next test (t ∷ front) rest (k ∷ ks) e l = rw (cons_is t.token k (tokens_in front) ks e).0 l

leads_optional : {A : Type 0} (test : Token → Bool) (letters : List ℕ) (L : A → List Token → Type 0) (d a : A) (ks more : List Token) → test (Name letters) ≡ false → Optional letters L d a ks → Leads test more → Leads test (ks ++ more)
leads_optional test letters L d a ks more other (is_given b ls l) h = other
leads_optional test letters L d a ks more other is_absent h = h

leads_run : (test : Token → Bool) (lim : Limits) (ws : List (List ℕ)) (ks : List Token) → test (Name (codes "run")) ≡ false → RunIs lim ws ks → Leads test ks
leads_run test lim ws ks other (is_run t ts k more l few rest) = other

leads_expiry : (test : Token → Bool) (lim : Limits) (v : ℕ) (e : Expiry) (ks more : List Token) → test (Name (codes "valid_for")) ≡ false → test (Name (codes "schedule")) ≡ false → ExpiryIs lim v e ks → Leads test more → Leads test (ks ++ more)
leads_expiry test lim v e ks more first second is_never h = h
leads_expiry test lim v e ks more first second (is_after n k l) h = first
leads_expiry test lim v e ks more first second (is_daily m o k ls two l x) h = second
leads_expiry test lim v e ks more first second (is_monthly d m o j k ls two y l x) h = second

leads_retention : (test : Token → Bool) (lim : Limits) (v : ℕ) (w : OpWord) (x : Retention) (ks more : List Token) → test (Name (codes "valid_for")) ≡ false → test (Name (codes "schedule")) ≡ false → test (Name (codes "latched")) ≡ false → RetentionIs lim v w x ks → Leads test more → Leads test (ks ++ more)
leads_retention test lim v w x ks more first second third (is_build_retention e l ke kl y f) h = rw (append_assoc ke kl more) (leads_expiry test lim v e ke (kl ++ more) first second y (leads_optional test (codes "latched") On false l kl more third f h))
leads_retention test lim v w x ks more first second third is_output_retention h = h

-- ---- parts that may be left out

pub reads_keyword : (letters : List ℕ) → only letters letters ≡ Some tt → Takes (keyword_at letters) tt (Name letters ∷ [])
reads_keyword letters e = reads_word (only letters) letters tt e

reads_after : {A : Type 0} (P : List TokenAt → Type 0) (letters : List ℕ) (r q : Reader A) (a : A) (ks : List Token) → only letters letters ≡ Some tt → is_keyword letters (Name letters) ≡ true → ReadsIf P r a ks → ReadsIf P (if_keyword letters r q) a (Name letters ∷ ks)
reads_after P letters r q a ks e is x = reads_yes P (is_keyword letters) (seq (keyword_at letters) (λ u. r)) q (Name letters) a ks is (reads_then P (keyword_at letters) (λ u. r) tt a (Name letters ∷ []) ks (reads_keyword letters e) x)

raw_pass : {A : Type 0} (letters : List ℕ) (r q : Reader A) (a : A) → Takes q a [] → (s : Stop) (front rest : List TokenAt) → tokens_in front ≡ [] → Not (is_keyword letters) rest → if_keyword letters r q s (front ++ rest) ≡ Ok (a, rest)
raw_pass letters r q a x s [] rest e n = rw n (x.reads s [] rest refl tt)
raw_pass letters r q a x s (t ∷ front) rest e n = absurd cc

reads_pass : {A : Type 0} (letters : List ℕ) (r q : Reader A) (a : A) → Takes q a [] → ReadsIf (Not (is_keyword letters)) (if_keyword letters r q) a []
reads_pass letters r q a x = record { reads = raw_pass letters r q a x }

reads_optional : {A : Type 0} (letters : List ℕ) (r : Reader A) (L : A → List Token → Type 0) (d a : A) (ks : List Token) → only letters letters ≡ Some tt → is_keyword letters (Name letters) ≡ true → ((b : A) (more : List Token) → L b more → Takes r b more) → Optional letters L d a ks → ReadsIf (Not (is_keyword letters)) (if_keyword letters r (give d)) a ks
reads_optional letters r L d a ks e is x (is_given b more l) = reads_if (Not (is_keyword letters)) _ _ _ (reads_after Any letters r (give d) b more e is (x b more l))
reads_optional letters r L d a ks e is x is_absent = reads_pass letters r (give d) d (reads_give Any d)

reads_some_text : (lim wide : Limits) (o : Option (List ℕ)) (ks : List Token) → Under lim wide → SomeText lim o ks → Takes (seq (text_at wide) (λ t. give (Some t))) o ks
reads_some_text lim wide o ks u (t, k, is, parts, l) = rw (is, parts) (reads_as Any (text_at wide) (λ x. Some x) t (k ∷ []) (reads_text lim wide t k u l))

reads_on : (b : Bool) (ks : List Token) → On b ks → Takes (give true) b ks
reads_on b ks (is, none) = rw (is, none) (reads_give Any true)

-- ---- an input's value

-- no `watch` comes next
abbrev pub NoWatch : List TokenAt → Type 0
NoWatch = Not (is_keyword (codes "watch"))

reads_value : (lim wide : Limits) (v : InputValue) (ks : List Token) → Under lim wide → ValueIs lim v ks → ReadsIf NoWatch (value_at wide) v ks
unfolding value_at
reads_value lim wide v ks u (is_text_value t k w more l o) =
    reads_then NoWatch (word_at value_word) (λ x. value_after wide x) form.Text (record { value = value.Words t; watch = w }) (Name (value_letters form.Text) ∷ []) (k ∷ more) (reads_word value_word (value_letters form.Text) form.Text (value_word_is form.Text))
    (reads_then NoWatch (text_at wide) _ t (record { value = value.Words t; watch = w }) (k ∷ []) more (reads_text lim wide t k u l)
    (reads_as NoWatch (optional_text_at wide (codes "watch")) (λ x. record { value = value.Words t; watch = x }) w more (reads_optional (codes "watch") (seq (text_at wide) (λ y. give (Some y))) (SomeText lim) None w more refl refl (λ b ls h. reads_some_text lim wide b ls u h) o)))
reads_value lim wide v ks u (is_num_value n) =
    reads_if NoWatch _ _ _ (reads_then Any (word_at value_word) (λ x. value_after wide x) form.Num (record { value = value.Num n; watch = None }) (Name (value_letters form.Num) ∷ []) (Number n ∷ []) (reads_word value_word (value_letters form.Num) form.Num (value_word_is form.Num))
    (reads_as Any any_number_at (λ x. record { value = value.Num x; watch = None }) n (Number n ∷ []) (reads_branch Any any_number_choice (give n) (Number n) n [] refl (reads_give Any n))))
reads_value lim wide v ks u (is_list_value ts more items) =
    reads_if NoWatch _ _ _ (reads_then Any (word_at value_word) (λ x. value_after wide x) form.List (record { value = list_of ts; watch = None }) (Name (value_letters form.List) ∷ []) (Mark 91 ∷ more) (reads_word value_word (value_letters form.List) form.List (value_word_is form.List))
    (reads_then Any (mark_at 91) _ tt (record { value = list_of ts; watch = None }) (Mark 91 ∷ []) more (reads_mark Any 91 refl) (reads_as Any (items_at wide) (λ x. record { value = list_of x; watch = None }) ts more (reads_items lim wide ts more u items))))

-- ---- an operation

reads_placement : (lim wide : Limits) (x : Placement) (ks : List Token) → Under lim wide → PlacementIs lim x ks → Takes (placement_at wide) x ks
unfolding placement_at
reads_placement lim wide x ks u (is_placement p c m n kp kc km kn np nc nm nn) =
    let w : Placement = record { pool = p; client = c; full = m; cached = n } in
    reads_then Any (keyword_at (codes "pool")) _ tt w (Name (codes "pool") ∷ []) (kp ∷ Name (codes "client") ∷ kc ∷ Name (codes "cost") ∷ km ∷ kn ∷ []) (reads_keyword (codes "pool") refl)
    (reads_then Any (name_at wide) _ p w (kp ∷ []) (Name (codes "client") ∷ kc ∷ Name (codes "cost") ∷ km ∷ kn ∷ []) (reads_name lim wide p kp u np)
    (reads_then Any (keyword_at (codes "client")) _ tt w (Name (codes "client") ∷ []) (kc ∷ Name (codes "cost") ∷ km ∷ kn ∷ []) (reads_keyword (codes "client") refl)
    (reads_then Any (name_at wide) _ c w (kc ∷ []) (Name (codes "cost") ∷ km ∷ kn ∷ []) (reads_name lim wide c kc u nc)
    (reads_then Any (keyword_at (codes "cost")) _ tt w (Name (codes "cost") ∷ []) (km ∷ kn ∷ []) (reads_keyword (codes "cost") refl)
    (reads_then Any (number_at wide limit.Cost) _ m w (km ∷ []) (kn ∷ []) (reads_number lim wide limit.Cost m km u nm)
    (reads_as Any (number_at wide limit.Cost) (λ y. record { pool = p; client = c; full = m; cached = y }) n (kn ∷ []) (reads_number lim wide limit.Cost n kn u nn)))))))

-- none of the words of the settings comes next
abbrev NoSetting : List TokenAt → Type 0
NoSetting rest = Not (is_keyword (codes "hint")) rest × Not (is_keyword (codes "urgent")) rest × Not (is_keyword (codes "level")) rest

weaken : {A : Type 0} (P Q : List TokenAt → Type 0) (r : Reader A) (a : A) (ks : List Token) → ((rest : List TokenAt) → P rest → Q rest) → ReadsIf Q r a ks → ReadsIf P r a ks
weaken P Q r a ks to x = record { reads = λ s front rest e p. x.reads s front rest e (to rest p) }

-- after an optional part the token that isn't its word comes next, or that of what follows
next_optional : {A : Type 0} (test : Token → Bool) (letters : List ℕ) (L : A → List Token → Type 0) (d a : A) (ks : List Token) → test (Name letters) ≡ false → Optional letters L d a ks → (front rest : List TokenAt) → tokens_in front ≡ ks → Not test rest → Not test (front ++ rest)
next_optional test letters L d a ks other (is_given b ls l) [] rest e h = absurd cc
next_optional test letters L d a ks other (is_given b ls l) (t ∷ front) rest e h = rw (cons_is t.token (Name letters) (tokens_in front) ls e).0 other
next_optional test letters L d a ks other is_absent [] rest e h = h
next_optional test letters L d a ks other is_absent (t ∷ front) rest e h = absurd cc

reads_level : (l : Level) (ks : List Token) → Optional (codes "level") LevelIs level.Average l ks → ReadsIf (Not (is_keyword (codes "level"))) level_at l ks
reads_level l ks o = reads_optional (codes "level") (word_at level_word) LevelIs level.Average l ks refl refl (λ b more is. rw is (reads_word level_word (level_letters b) b (level_word_is b))) o

reads_flag : (letters : List ℕ) (b : Bool) (ks : List Token) → only letters letters ≡ Some tt → is_keyword letters (Name letters) ≡ true → Flag letters b ks → ReadsIf (Not (is_keyword letters)) (flag_at letters) b ks
reads_flag letters b ks e is o = reads_optional letters (give true) On false b ks e is reads_on o

reads_settings : (lim wide : Limits) (x : Settings) (ks : List Token) → Under lim wide → SettingsAre lim x ks → ReadsIf NoSetting (settings_at wide) x ks
unfolding settings_at
reads_settings lim wide x ks u (is_settings h f l kh ku kl oh ou ol) =
    let hint : Token → Bool = is_keyword (codes "hint") in
    let urgent : Token → Bool = is_keyword (codes "urgent") in
    let m : Settings = record { hint = h; urgent = f; level = l } in
    reads_seq NoSetting (Not hint) (optional_text_at wide (codes "hint")) _ h m kh (ku ++ kl)
    (λ front rest e p. let parts = split_tokens_in front ku kl e in rw (parts.2, append_assoc parts.0 parts.1 rest)
    (next_optional hint (codes "urgent") On false f ku refl ou parts.0 (parts.1 ++ rest) parts.3 (next_optional hint (codes "level") LevelIs level.Average l kl refl ol parts.1 rest parts.4 p.0)))
    (reads_optional (codes "hint") (seq (text_at wide) (λ y. give (Some y))) (SomeText lim) None h kh refl refl (λ b ls g. reads_some_text lim wide b ls u g) oh)
    (reads_seq NoSetting (Not urgent) (flag_at (codes "urgent")) _ f m ku kl
    (λ front rest e p. next_optional urgent (codes "level") LevelIs level.Average l kl refl ol front rest e p.1)
    (reads_flag (codes "urgent") f ku refl refl ou)
    (reads_as NoSetting level_at (λ y. record { hint = h; urgent = f; level = y }) l kl (weaken NoSetting (Not (is_keyword (codes "level"))) level_at l kl (λ rest p. p.2) (reads_level l kl ol))))

reads_offset : (lim wide : Limits) (o : ℤ) (ks : List Token) → Under lim wide → OffsetIs lim o ks → Takes (offset_at wide) o ks
reads_offset lim wide o ks u (s, n, k, is, parts, l) = rw (is, parts) (reads_then Any (word_at side_word) _ s (offset_of s n) (Name (side_letters s) ∷ []) (k ∷ []) (reads_word side_word (side_letters s) s (side_word_is s)) (reads_as Any (number_at wide limit.Offset) (offset_of s) n (k ∷ []) (reads_number lim wide limit.Offset n k u l)))

-- no word of an expiry comes next
abbrev NoExpiry : List TokenAt → Type 0
NoExpiry rest = Not (is_keyword (codes "valid_for")) rest × Not (is_keyword (codes "schedule")) rest

raw_never : (wide : Limits) (v : ℕ) (b : Bool) (s : Stop) (front rest : List TokenAt) → (v == 2) ≡ b → tokens_in front ≡ [] → NoExpiry rest → expiry_at wide v s (front ++ rest) ≡ Ok (Never, rest)
unfolding expiry_at
raw_never wide v true s [] rest is e (first, second) = rw (first, is, second) refl
raw_never wide v false s [] rest is e (first, second) = rw (first, is) refl
raw_never wide v b s (t ∷ front) rest is e p = absurd cc

scheduled_at_two : (wide : Limits) (e : Expiry) (ks : List Token) → Takes (schedule_at wide) e ks → Takes (expiry_at wide 2) e (Name (codes "schedule") ∷ ks)
unfolding expiry_at
scheduled_at_two wide e ks x = reads_no Any (is_keyword (codes "valid_for")) (seq (keyword_at (codes "valid_for")) (λ u. seq (number_at wide limit.ValidFor) (λ n. give (After n)))) (if_keyword (codes "schedule") (schedule_at wide) (give Never)) (Name (codes "schedule")) e ks refl
    (reads_after Any (codes "schedule") (schedule_at wide) (give Never) e ks refl refl x)

reads_scheduled : (wide : Limits) (v : ℕ) (e : Expiry) (ks : List Token) → v ≡ 2 → Takes (schedule_at wide) e ks → Takes (expiry_at wide v) e (Name (codes "schedule") ∷ ks)
reads_scheduled wide v e ks two x = subst (λ (i : ℕ). Takes (expiry_at wide i) e (Name (codes "schedule") ∷ ks)) (sym two) (scheduled_at_two wide e ks x)

reads_expiry : (lim wide : Limits) (v : ℕ) (e : Expiry) (ks : List Token) → Under lim wide → ExpiryIs lim v e ks → ReadsIf NoExpiry (expiry_at wide v) e ks
unfolding expiry_at schedule_at
reads_expiry lim wide v e ks u is_never = record { reads = λ s front rest is p. raw_never wide v (v == 2) s front rest refl is p }
reads_expiry lim wide v e ks u (is_after n k l) = reads_if NoExpiry _ _ _ (reads_after Any (codes "valid_for") (seq (number_at wide limit.ValidFor) (λ y. give (After y))) _ (After n) (k ∷ []) refl refl (reads_as Any (number_at wide limit.ValidFor) (λ y. After y) n (k ∷ []) (reads_number lim wide limit.ValidFor n k u l)))
reads_expiry lim wide v e ks u (is_daily m o k ls two l x) = reads_if NoExpiry _ _ _ (reads_scheduled wide v (Daily m o) (Name (period_letters period.Daily) ∷ k ∷ ls) two
    (reads_then Any (word_at period_word) (λ y. period_after wide y) period.Daily (Daily m o) (Name (period_letters period.Daily) ∷ []) (k ∷ ls) (reads_word period_word (period_letters period.Daily) period.Daily (period_word_is period.Daily))
    (reads_then Any (number_at wide limit.Minute) _ m (Daily m o) (k ∷ []) ls (reads_number lim wide limit.Minute m k u l) (reads_as Any (offset_at wide) (λ y. Daily m y) o ls (reads_offset lim wide o ls u x)))))
reads_expiry lim wide v e ks u (is_monthly d m o j k ls two y l x) = reads_if NoExpiry _ _ _ (reads_scheduled wide v (Monthly d m o) (Name (period_letters period.Monthly) ∷ j ∷ k ∷ ls) two
    (reads_then Any (word_at period_word) (λ z. period_after wide z) period.Monthly (Monthly d m o) (Name (period_letters period.Monthly) ∷ []) (j ∷ k ∷ ls) (reads_word period_word (period_letters period.Monthly) period.Monthly (period_word_is period.Monthly))
    (reads_then Any (number_at wide limit.Day) _ d (Monthly d m o) (j ∷ []) (k ∷ ls) (reads_number lim wide limit.Day d j u y)
    (reads_then Any (number_at wide limit.Minute) _ m (Monthly d m o) (k ∷ []) ls (reads_number lim wide limit.Minute m k u l) (reads_as Any (offset_at wide) (λ z. Monthly d m z) o ls (reads_offset lim wide o ls u x))))))

-- no word of what a build says of its results comes next
abbrev NoRetention : List TokenAt → Type 0
NoRetention rest = Not (is_keyword (codes "valid_for")) rest × Not (is_keyword (codes "schedule")) rest × Not (is_keyword (codes "latched")) rest

reads_retention : (lim wide : Limits) (v : ℕ) (w : OpWord) (x : Retention) (ks : List Token) → Under lim wide → RetentionIs lim v w x ks → ReadsIf NoRetention (retention_at wide v w) x ks
unfolding retention_at
reads_retention lim wide v w x ks u (is_build_retention e l ke kl y f) =
    reads_seq NoRetention NoExpiry (expiry_at wide v) _ e (record { expiry = e; latched = l }) ke kl
    (λ front rest is p. (next_optional (is_keyword (codes "valid_for")) (codes "latched") On false l kl refl f front rest is p.0, next_optional (is_keyword (codes "schedule")) (codes "latched") On false l kl refl f front rest is p.1))
    (reads_expiry lim wide v e ke u y)
    (reads_as NoRetention (flag_at (codes "latched")) (λ z. record { expiry = e; latched = z }) l kl (weaken NoRetention (Not (is_keyword (codes "latched"))) (flag_at (codes "latched")) l kl (λ rest p. p.2) (reads_flag (codes "latched") l kl refl refl f)))
reads_retention lim wide v w x ks u is_output_retention = reads_give NoRetention (record { expiry = Never; latched = false })

reads_run : (lim wide : Limits) (x : List (List ℕ)) (ks : List Token) → Under lim wide → RunIs lim x ks → ReadsIf NoString (run_at wide) x ks
unfolding run_at
reads_run lim wide x ks u (is_run t ts k more l few rest) =
    let fits : length ts ≤ wide.more_words = let w = u.words in omega (arith, w, few) in
    reads_then NoString (keyword_at (codes "run")) _ tt (t ∷ ts) (Name (codes "run") ∷ []) (k ∷ more) (reads_keyword (codes "run") refl)
    (reads_then NoString (text_at wide) _ t (t ∷ ts) (k ∷ []) more (reads_text lim wide t k u l)
    (reads_as NoString (texts_at (command_word_at wide) wide.more_words) (λ y. t ∷ y) ts more (reads_texts NoString [] [] lim (command_word_at wide) (reads_no_word wide) (reads_one_word lim wide u) ts wide.more_words more fits rest)))

no_cancel_lead : (test : Token → Bool) (lim : Limits) (c : Bool) (ws : List (List ℕ)) (kc kr : List Token) → test (Name (codes "no_cancel")) ≡ false → test (Name (codes "run")) ≡ false → Flag (codes "no_cancel") c kc → RunIs lim ws kr → Leads test (kc ++ kr)
no_cancel_lead test lim c ws kc kr first second f r = leads_optional test (codes "no_cancel") On false c kc kr first f (leads_run test lim ws kr second r)

reads_op : (lim wide : Limits) (v : ℕ) (n : List ℕ) (w : OpWord) (p : Placement) (m : Settings) (e : Retention) (c : Bool) (ws : List (List ℕ)) (kp km ke kc kr : List Token) → Under lim wide
    → PlacementIs lim p kp → SettingsAre lim m km → RetentionIs lim v w e ke → Flag (codes "no_cancel") c kc → RunIs lim ws kr → ReadsIf NoString (op_at wide v n w) (op_of n w p m e c ws) (kp ++ (km ++ (ke ++ (kc ++ kr))))
unfolding op_at
reads_op lim wide v n w p m e c ws kp km ke kc kr u xp xm xe xc xr =
    let o = op_of n w p m e c ws in
    reads_then NoString (placement_at wide) _ p o kp (km ++ (ke ++ (kc ++ kr))) (reads_placement lim wide p kp u xp)
    (reads_seq NoString NoSetting (settings_at wide) _ m o km (ke ++ (kc ++ kr))
    (λ front rest is q. (
      lead_next _ front rest (ke ++ (kc ++ kr)) is (leads_retention (is_keyword (codes "hint")) lim v w e ke (kc ++ kr) refl refl refl xe (no_cancel_lead _ lim c ws kc kr refl refl xc xr)),
      lead_next _ front rest (ke ++ (kc ++ kr)) is (leads_retention (is_keyword (codes "urgent")) lim v w e ke (kc ++ kr) refl refl refl xe (no_cancel_lead _ lim c ws kc kr refl refl xc xr)),
      lead_next _ front rest (ke ++ (kc ++ kr)) is (leads_retention (is_keyword (codes "level")) lim v w e ke (kc ++ kr) refl refl refl xe (no_cancel_lead _ lim c ws kc kr refl refl xc xr)),
    ))
    (reads_settings lim wide m km u xm)
    (reads_seq NoString NoRetention (retention_at wide v w) _ e o ke (kc ++ kr)
    (λ front rest is q. (
      lead_next _ front rest (kc ++ kr) is (no_cancel_lead (is_keyword (codes "valid_for")) lim c ws kc kr refl refl xc xr),
      lead_next _ front rest (kc ++ kr) is (no_cancel_lead (is_keyword (codes "schedule")) lim c ws kc kr refl refl xc xr),
      lead_next _ front rest (kc ++ kr) is (no_cancel_lead (is_keyword (codes "latched")) lim c ws kc kr refl refl xc xr),
    ))
    (reads_retention lim wide v w e ke u xe)
    (reads_seq NoString (Not (is_keyword (codes "no_cancel"))) (flag_at (codes "no_cancel")) _ c o kc kr
    (λ front rest is q. lead_next _ front rest kr is (leads_run (is_keyword (codes "no_cancel")) lim ws kr refl xr))
    (reads_flag (codes "no_cancel") c kc refl refl xc)
    (reads_as NoString (run_at wide) (λ y. op_of n w p m e c y) ws kr (reads_run lim wide ws kr u xr)))))

-- ---- a declaration

reads_new : (lim : Limits) (b : Bounds) (w : DeclWord) (seen : Seen) (n : List ℕ) (k : Token) → Under lim b.lim → NameIs lim n k → seen.count w < b.most w → (not b.twice && seen.named w n) ≡ false → Takes (declared_at b w seen) n (k ∷ [])
reads_new lim b w seen n (Name m) u e room free = let other : (not b.twice && seen.named w m) ≡ false = subst (λ (i : List ℕ). (not b.twice && seen.named w i) ≡ false) e free in reads_branch Any (declared_choice b w seen) (give n) (Name m) n [] (rw (is_nat_lt (seen.count w) (b.most w) room, other, e) refl) (reads_give Any n)
reads_new lim b w seen n LongName u (long, none) room free = let other : (not b.twice && seen.named w []) ≡ false = subst (λ (i : List ℕ). (not b.twice && seen.named w i) ≡ false) none free in reads_branch Any (declared_choice b w seen) (give n) LongName n [] (rw (is_nat_lt (seen.count w) (b.most w) room, u.lifted limit.Name long, other, none) refl) (reads_give Any n)
reads_new lim b w seen n (Number m) u e room free = absurd e
reads_new lim b w seen n (Words m) u e room free = absurd e
reads_new lim b w seen n (Mark m) u e room free = absurd e
reads_new lim b w seen n LongText u e room free = absurd e

reads_pair : (lim : Limits) (b : Bounds) (seen : Seen) (n p : List ℕ) (k : Token) → Under lim b.lim → NameIs lim p k → (not b.twice && seen.paired n p) ≡ false → Takes (paired_at b seen n) p (k ∷ [])
reads_pair lim b seen n p (Name m) u e free = let other : (not b.twice && seen.paired n m) ≡ false = subst (λ (i : List ℕ). (not b.twice && seen.paired n i) ≡ false) e free in reads_branch Any (paired_choice b seen n) (give p) (Name m) p [] (rw (other, e) refl) (reads_give Any p)
reads_pair lim b seen n p LongName u (long, none) free = let other : (not b.twice && seen.paired n []) ≡ false = subst (λ (i : List ℕ). (not b.twice && seen.paired n i) ≡ false) none free in reads_branch Any (paired_choice b seen n) (give p) LongName p [] (rw (u.lifted limit.Name long, other, none) refl) (reads_give Any p)
reads_pair lim b seen n p (Number m) u e free = absurd e
reads_pair lim b seen n p (Words m) u e free = absurd e
reads_pair lim b seen n p (Mark m) u e free = absurd e
reads_pair lim b seen n p LongText u e free = absurd e

and_false : (twice : Bool) → (not twice && false) ≡ false
and_false true = refl
and_false false = refl

-- neither a string nor `watch` comes next
abbrev pub DeclEnds : List TokenAt → Type 0
DeclEnds rest = NoString rest × NoWatch rest

starts : (b : Bounds) (seen : Seen) (w : DeclWord) (d : Declaration) (ks : List Token) → ReadsIf DeclEnds (rest_at b seen w) d ks → ReadsIf DeclEnds (decl_at b seen) d (Name (decl_letters w) ∷ ks)
unfolding decl_at
starts b seen w d ks x = reads_then DeclEnds (word_at decl_word) (rest_at b seen) w d (Name (decl_letters w) ∷ []) ks (reads_word decl_word (decl_letters w) w (decl_word_is w)) x

-- What a declaration is spelled by is read, where it fits.
pub reads_decl : (lim : Limits) (depth : ℕ) (b : Bounds) (seen : Seen) (d : Declaration) (ks : List Token) → Under lim b.lim → depth ≤ b.depth → ((n : List ℕ) → seen.named decl.Client n ≡ false) → Declares lim depth seen.version d ks → Fits b seen d → ReadsIf DeclEnds (decl_at b seen) d ks
unfolding rest_at
reads_decl lim depth b seen d ks u deep no_client (is_input_decl n v k more name x) f =
    starts b seen decl.Input (declare.Input (record { name = n; value = v.value; watch = v.watch })) (k ∷ more) (reads_then DeclEnds (declared_at b decl.Input seen) _ n (declare.Input (record { name = n; value = v.value; watch = v.watch })) (k ∷ []) more (reads_new lim b decl.Input seen n k u name f.room f.free)
    (reads_as DeclEnds (value_at b.lim) (λ y. declare.Input (record { name = n; value = y.value; watch = y.watch })) v more (weaken DeclEnds NoWatch (value_at b.lim) v more (λ rest p. p.1) (reads_value lim b.lim v more u x))))
reads_decl lim depth b seen d ks u deep no_client (is_pool_decl n h k l name x) f =
    starts b seen decl.Pool (declare.Pool (record { name = n; hold = h })) (k ∷ Name (codes "hold") ∷ l ∷ []) (reads_if DeclEnds _ _ _ (reads_then Any (declared_at b decl.Pool seen) _ n (declare.Pool (record { name = n; hold = h })) (k ∷ []) (Name (codes "hold") ∷ l ∷ []) (reads_new lim b decl.Pool seen n k u name f.room f.free)
    (reads_then Any (keyword_at (codes "hold")) _ tt (declare.Pool (record { name = n; hold = h })) (Name (codes "hold") ∷ []) (l ∷ []) (reads_keyword (codes "hold") refl) (reads_as Any (number_at b.lim limit.Hold) (λ y. declare.Pool (record { name = n; hold = y })) h (l ∷ []) (reads_number lim b.lim limit.Hold h l u x)))))
reads_decl lim depth b seen d ks u deep no_client (is_client_decl n p r k l j name pool x) f =
    starts b seen decl.Client (declare.Client (record { name = n; pool = p; rate = r })) (k ∷ l ∷ j ∷ []) (reads_if DeclEnds _ _ _ (reads_then Any (declared_at b decl.Client seen) _ n (declare.Client (record { name = n; pool = p; rate = r })) (k ∷ []) (l ∷ j ∷ []) (reads_new lim b decl.Client seen n k u name f.room (rw (no_client n) (and_false b.twice)))
    (reads_then Any (paired_at b seen n) _ p (declare.Client (record { name = n; pool = p; rate = r })) (l ∷ []) (j ∷ []) (reads_pair lim b seen n p l u pool f.free) (reads_as Any (number_at b.lim limit.Rate) (λ y. declare.Client (record { name = n; pool = p; rate = y })) r (j ∷ []) (reads_number lim b.lim limit.Rate r j u x)))))
reads_decl lim depth b seen d ks u deep no_client (is_worker_decl n p c k l j name pool x) f =
    starts b seen decl.Worker (declare.Worker (record { name = n; pool = p; capacity = c })) (k ∷ l ∷ j ∷ []) (reads_if DeclEnds _ _ _ (reads_then Any (declared_at b decl.Worker seen) _ n (declare.Worker (record { name = n; pool = p; capacity = c })) (k ∷ []) (l ∷ j ∷ []) (reads_new lim b decl.Worker seen n k u name f.room f.free)
    (reads_then Any (name_at b.lim) _ p (declare.Worker (record { name = n; pool = p; capacity = c })) (l ∷ []) (j ∷ []) (reads_name lim b.lim p l u pool) (reads_as Any (number_at b.lim limit.Capacity) (λ y. declare.Worker (record { name = n; pool = p; capacity = y })) c (j ∷ []) (reads_number lim b.lim limit.Capacity c j u x)))))
reads_decl lim depth b seen d ks u deep no_client (is_op_decl n w p m e c ws k kp km ke kc kr name x1 x2 x3 x4 x5) f =
    let o = op_of n w p m e c ws in
    starts b seen decl.Op (declare.Op o) (k ∷ Name (op_letters w) ∷ (kp ++ (km ++ (ke ++ (kc ++ kr))))) (reads_then DeclEnds (declared_at b decl.Op seen) _ n (declare.Op o) (k ∷ []) (Name (op_letters w) ∷ (kp ++ (km ++ (ke ++ (kc ++ kr))))) (reads_new lim b decl.Op seen n k u name f.room f.free)
    (reads_then DeclEnds (word_at op_word) _ w (declare.Op o) (Name (op_letters w) ∷ []) (kp ++ (km ++ (ke ++ (kc ++ kr)))) (reads_word op_word (op_letters w) w (op_word_is w))
    (reads_as DeclEnds (op_at b.lim seen.version n w) (λ y. declare.Op y) o (kp ++ (km ++ (ke ++ (kc ++ kr)))) (weaken DeclEnds NoString (op_at b.lim seen.version n w) o (kp ++ (km ++ (ke ++ (kc ++ kr)))) (λ rest q. q.0) (reads_op lim b.lim seen.version n w p m e c ws kp km ke kc kr u x1 x2 x3 x4 x5)))))
reads_decl lim depth b seen d ks u deep no_client (is_node_decl n t m k more name x) f =
    starts b seen decl.Node (declare.Node (record { name = n; term = t }) m) (k ∷ more) (reads_if DeclEnds _ _ _ (reads_then Any (declared_at b decl.Node seen) _ n (declare.Node (record { name = n; term = t }) m) (k ∷ []) more (reads_new lim b decl.Node seen n k u name f.room f.free)
    (reads_as {A = Counted} Any (term_at b.lim b.depth (b.terms - seen.terms)) (λ y. declare.Node (record { name = n; term = y.0 }) y.1) (t, m) more (all_read lim b.lim depth m (one t) more u x b.depth (b.terms - seen.terms) deep f.terms))))

-- ---- declarations up to the end

no_client_name : (n : List ℕ) (d : Declaration) → has_name decl.Client n d ≡ false
no_client_name n (Input d) = refl
no_client_name n (Pool d) = refl
no_client_name n (Client d) = refl
no_client_name n (Worker d) = refl
no_client_name n (Op d) = refl
no_client_name n (Node d m) = refl

-- a client is told by its pool too
pub no_client : (n : List ℕ) (ds : List Declaration) → list_any (has_name decl.Client n) ds ≡ false
no_client n [] = refl
no_client n (d ∷ ds) = rw (no_client_name n d) (no_client n ds)

abbrev First : List Token → Type 0
First ks = (w : DeclWord) × (more : List Token) × (ks ≡ Name (decl_letters w) ∷ more)

first_of : (lim : Limits) (depth v : ℕ) (d : Declaration) (ks : List Token) → Declares lim depth v d ks → First ks
first_of lim depth v d ks (is_input_decl n x k more name y) = (decl.Input, _, refl)
first_of lim depth v d ks (is_pool_decl n h k l name x) = (decl.Pool, _, refl)
first_of lim depth v d ks (is_client_decl n p r k l j name pool x) = (decl.Client, _, refl)
first_of lim depth v d ks (is_worker_decl n p c k l j name pool x) = (decl.Worker, _, refl)
first_of lim depth v d ks (is_op_decl n w p m e c ws k kp km ke kc kr name x1 x2 x3 x4 x5) = (decl.Op, _, refl)
first_of lim depth v d ks (is_node_decl n t m k more name x) = (decl.Node, _, refl)

no_watch_word : (w : DeclWord) → is_keyword (codes "watch") (Name (decl_letters w)) ≡ false
no_watch_word decl.Input = refl
no_watch_word decl.Pool = refl
no_watch_word decl.Client = refl
no_watch_word decl.Worker = refl
no_watch_word decl.Op = refl
no_watch_word decl.Node = refl

following_first : (ts : List TokenAt) (ks more : List Token) (w : DeclWord) → tokens_in ts ≡ ks → ks ≡ Name (decl_letters w) ∷ more → DeclEnds ts
following_first [] ks more w e is = absurd cc
following_first (t ∷ ts) ks more w e is = let first = (cons_is t.token (Name (decl_letters w)) (tokens_in ts) more (e ∙ is)).0 in (rw first refl, rw first (no_watch_word w))

pub following_all : (lim : Limits) (depth v : ℕ) (ds : List Declaration) (ts : List TokenAt) → DeclareAll lim depth v ds (tokens_in ts) → DeclEnds ts
following_all lim depth v [] ts none = rw (nil_of ts none) (refl, refl)
following_all lim depth v (d ∷ ds) ts (k1, k2, parts, x, more) = let f = first_of lim depth v d k1 x in following_first ts (tokens_in ts) (f.1 ++ k2) f.0 refl (parts ∙ (λ i. f.2 i ++ k2))

no_tokens_first : (w : DeclWord) (more : List Token) → [] ≡ Name (decl_letters w) ∷ more → ⊥
no_tokens_first w more e = cc

ends_so : (b : Bounds) (v n : ℕ) (before : List Declaration) (offset : ℕ) → decls_at b v n before (stop.End offset) [] ≡ Ok (before, [])
unfolding decls_at
ends_so b v zero before offset = refl
ends_so b v (suc n) before offset = refl

next_so : (b : Bounds) (v n : ℕ) (before all : List Declaration) (d : Declaration) (offset : ℕ) (f1 f2 : List TokenAt) → 0 < length f1 → decl_at b (seen_in v before) (stop.End offset) (f1 ++ f2) ≡ Ok (d, f2) → decls_at b v n (before ++ d ∷ []) (stop.End offset) f2 ≡ Ok (all, []) → decls_at b v (suc n) before (stop.End offset) (f1 ++ f2) ≡ Ok (all, [])
unfolding decls_at
next_so b v n before all d offset [] f2 some e h = absurd (omega (arith, some))
next_so b v n before all d offset (t ∷ f1) f2 some e h = rw e h

-- Declarations that are spelled so are read up to the end, where they keep the bounds.
pub all_declared : (lim : Limits) (depth : ℕ) (b : Bounds) (v : ℕ) (ds : List Declaration) → Under lim b.lim → depth ≤ b.depth
    → (before : List Declaration) (n offset : ℕ) (ts : List TokenAt) → DeclareAll lim depth v ds (tokens_in ts) → length ts ≤ n → Sound b (before ++ ds) → decls_at b v n before (stop.End offset) ts ≡ Ok (before ++ ds, [])
all_declared lim depth b v [] u deep before n offset ts none few sound = rw (nil_of ts none, append-nil before) (ends_so b v n before offset)
all_declared lim depth b v (d ∷ ds) u deep before zero offset ts (k1, k2, parts, x, more) few sound =
    let some = some_tokens lim depth v d k1 x in
    let same = tokens_in-length ts in
    let sum = length-append k1 k2 in
    let whole : length (tokens_in ts) ≡ length (k1 ++ k2) = ap length parts in
    absurd (omega (arith, some, same, sum, whole, few))
all_declared lim depth b v (d ∷ ds) u deep before (suc n) offset ts (k1, k2, parts, x, more) few sound =
    let split = split_tokens_in ts k1 k2 parts in
    let rest_spelled : DeclareAll lim depth v ds (tokens_in split.1) = rw split.4 more in
    let fits = next_fits b v before d ds sound in
    let read = (reads_decl lim depth b (seen_in v before) d k1 u deep (λ m. no_client m before) x fits).reads (stop.End offset) split.0 split.1 split.3 (following_all lim depth v ds split.1 rest_spelled) in
    let some = some_tokens lim depth v d k1 x in
    let same = tokens_in-length split.0 in
    let kept : length (tokens_in split.0) ≡ length k1 = ap length split.3 in
    let sum = length-append split.0 split.1 in
    let whole : length ts ≡ length (split.0 ++ split.1) = ap length split.2 in
    let shorter : length split.1 ≤ n = omega (arith, some, same, kept, sum, whole, few) in
    let later : decls_at b v n (before ++ d ∷ []) (stop.End offset) split.1 ≡ Ok (before ++ d ∷ ds, []) =
    subst (λ (l : List Declaration). decls_at b v n (before ++ d ∷ []) (stop.End offset) split.1 ≡ Ok (l, [])) (append_assoc before (d ∷ []) ds)
    (all_declared lim depth b v ds u deep (before ++ d ∷ []) n offset split.1 rest_spelled shorter (subst (Sound b) (sym (append_assoc before (d ∷ []) ds)) sound)) in
    rw split.2 (next_so b v n before (before ++ d ∷ ds) d offset split.0 split.1 (omega (arith, some, same, kept)) read later)
