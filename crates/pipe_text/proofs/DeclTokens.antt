-- A declaration of a file is spelled by the tokens that it is printed with too: they differ from the file's where the level is average or an offset is 0.
use Rattle.std.proofs.Common.{◌≡◌, ℕ, ℤ, zero, suc, Bool, List, [], ◌∷◌, ◌++◌, map, refl, sym, ap, subst, ◌∙◌, append_assoc}
use Rattle.std.specs.Prelude.{codes, Option, None, if◌then◌else◌}
use Rattle.std.specs.List.{AllByRecursion}
use Rattle.std.proofs.lemmas.List.{append-nil}
use Rattle.value_core.specs.declared.token.Token.{Token}
use Rattle.value_core.specs.declared.token.Token.TheVariants.{Name, Number, Words, Mark}
use Rattle.value_core.specs.declared.value.Value.{Value-F, out-Value}
use Rattle.value_core.specs.declared.value.Value.TheVariants as value
use Rattle.value_core.specs.Parts.{text_values}
use Rattle.op_keys.specs.declared.declarations.Expiry.{Expiry}
use Rattle.op_keys.specs.declared.level.Level.{Level}
use Rattle.op_keys.specs.declared.level.Level.TheVariants as level
use Rattle.pipe_text.specs.declared.declaration.Declaration.{Declaration}
use Rattle.pipe_text.specs.declared.declaration.Declaration.TheVariants as declare
use Rattle.pipe_text.specs.declared.declaration.InputValue.{InputValue}
use Rattle.pipe_text.specs.declared.declaration.Retention.{Retention}
use Rattle.pipe_text.specs.declared.declaration.Settings.{Settings}
use Rattle.pipe_text.specs.declared.declaration.Placement.{Placement}
use Rattle.pipe_text.specs.declared.fault.LimitName.{LimitName}
use Rattle.pipe_text.specs.declared.fault.LimitName.TheVariants as limit
use Rattle.pipe_text.specs.declared.words.DeclWord.TheVariants as decl
use Rattle.pipe_text.specs.declared.words.OpWord.{OpWord}
use Rattle.pipe_text.specs.declared.words.OpWord.TheVariants as op
use Rattle.pipe_text.specs.declared.words.SideWord.{SideWord}
use Rattle.pipe_text.specs.declared.words.SideWord.TheVariants as side
use Rattle.pipe_text.specs.Words.{decl_letters, op_letters}
use Rattle.pipe_text.specs.Files.{file_limits}
use Rattle.pipe_text.specs.Grammar.{NameIs, NumberIs, Texts, list_of, one}
use Rattle.pipe_text.specs.FileGrammar.{Optional, is_given, is_absent, SomeText, Flag, ValueIs, is_text_value, is_num_value, is_list_value, PlacementIs, is_placement, LevelIs, SettingsAre, is_settings, offset_of, OffsetIs, ExpiryIs, is_never, is_after, is_daily, is_monthly, RetentionIs, is_build_retention, is_output_retention, RunIs, is_run, is_output_word, op_of, Declares, is_input_decl, is_pool_decl, is_client_decl, is_worker_decl, is_op_decl, is_node_decl, DeclareAll}
use Rattle.pipe_text.specs.Printing.{items_tokens, literal_tokens, term_tokens, value_layer_word, text_tokens, flag_tokens, level_tokens, offset_tokens, expiry_tokens, run_tokens, op_tokens}
use Rattle.pipe_text.proofs.GoodTokens.{IsGood, each_left, each_right}
use Rattle.pipe_text.proofs.TermTokens.{IsShort, AllShort, each_both, name_is, text_is, number_is, Are, items_are, words_tokens, num_tokens, list_tokens, following_are, none_are, spelled_are}
use Rattle.pipe_text.proofs.ByKind.{decl_tokens}
use Rattle.value_core.proofs.Layers.{out_at}

abbrev pub AllGood : List Token → Type 0
AllGood = AllByRecursion IsGood

-- tokens of a language, in form and not too long
pub record Part (P : List Token → Type 0) (ks : List Token) : Type 0 where
  pub is : P ks
  pub short : AllShort ks
  pub good : AllGood ks

part_of : (P : List Token → Type 0) (ks ls : List Token) → P ks → AllGood ks → Are ks ls → Part P ls
part_of P ks ls p g (same, short) = record { is = subst P same p; short = subst AllShort same short; good = subst AllGood same g }

same_are : (k : Token) (ks ls : List Token) → IsShort k → Are ks ls → Are (k ∷ ks) (k ∷ ls)
same_are k ks ls short are = following_are k k ks ls (refl, short) are

-- ---- parts that are printed as they stand

optional_are : (letters : List ℕ) (o : Option (List ℕ)) (ks : List Token) → Optional letters (SomeText file_limits) None o ks → Are ks (text_tokens letters o)
optional_are letters o ks (is_given a more (t, k, is, parts, l)) = let word = text_is t k l in rw (is, parts) (same_are (Name letters) (k ∷ []) (Words t ∷ []) tt (following_are k (Words t) [] [] word none_are))
optional_are letters o ks is_absent = none_are

flag_are : (letters : List ℕ) (b : Bool) (ks : List Token) → Flag letters b ks → Are ks (flag_tokens letters b)
flag_are letters b ks (is_given a more (on, none)) = rw (on, none) (refl, (tt, tt))
flag_are letters b ks is_absent = none_are

texts_are : (ts : List (List ℕ)) (ks : List Token) → Texts [] [] file_limits ts ks → Are ks (map Words ts)
texts_are [] ks e = rw e none_are
texts_are (t ∷ ts) ks (k, more, parts, is, rest) = rw parts (following_are k (Words t) more (map Words ts) (text_is t k is) (texts_are ts more rest))

run_are : (ws : List (List ℕ)) (ks : List Token) → RunIs file_limits ws ks → Are ks (run_tokens ws)
run_are ws ks (is_run t ts k more l few rest) = same_are (Name (codes "run")) (k ∷ more) (Words t ∷ map Words ts) tt (following_are k (Words t) more (map Words ts) (text_is t k l) (texts_are ts more rest))

place_tokens : Placement → List Token
place_tokens p = Name (codes "pool") ∷ Name p.pool ∷ Name (codes "client") ∷ Name p.client ∷ Name (codes "cost") ∷ Number p.full ∷ Number p.cached ∷ []

placement_are : (p : Placement) (ks : List Token) → PlacementIs file_limits p ks → Are ks (place_tokens p)
unfolding place_tokens
placement_are p ks (is_placement q c m n kp kc km kn np nc nm nn) =
    let pool = name_is q kp np in
    let client = name_is c kc nc in
    let full = number_is limit.Cost m km nm in
    let cached = number_is limit.Cost n kn nn in
    ((λ i. Name (codes "pool") ∷ pool.0 i ∷ Name (codes "client") ∷ client.0 i ∷ Name (codes "cost") ∷ full.0 i ∷ cached.0 i ∷ []), (tt, (pool.1, (tt, (client.1, (tt, (full.1, (cached.1, tt))))))))

text_word : (t : List ℕ) → value_layer_word (out-Value (value.Words t)) ≡ Name (codes "text") ∷ []
text_word t = ap value_layer_word (out_at (Value-F.Words t) (value.Words t) (value.rolls-Words t))

num_word : (n : ℕ) → value_layer_word (out-Value (value.Num n)) ≡ Name (codes "num") ∷ []
num_word n = ap value_layer_word (out_at (Value-F.Num n) (value.Num n) (value.rolls-Num n))

list_word : (ts : List (List ℕ)) → value_layer_word (out-Value (list_of ts)) ≡ Name (codes "list") ∷ []
list_word ts = ap value_layer_word (out_at (Value-F.List (text_values ts)) (list_of ts) (value.rolls-List (text_values ts)))

abbrev value_tokens : InputValue → List Token
value_tokens v = value_layer_word (out-Value v.value) ++ (literal_tokens v.value ++ text_tokens (codes "watch") v.watch)

value_are : (v : InputValue) (ks : List Token) → ValueIs file_limits v ks → Are ks (value_tokens v)
value_are v ks (is_text_value t k w more l o) =
    let word = text_is t k l in
    let watch = optional_are (codes "watch") w more o in
    ((λ i. Name (codes "text") ∷ word.0 i ∷ watch.0 i) ∙ (λ i. sym (text_word t) i ++ (sym (words_tokens t) i ++ text_tokens (codes "watch") w)), (tt, (word.1, watch.1)))
value_are v ks (is_num_value n) = ((λ i. sym (num_word n) i ++ (sym (num_tokens n) i ++ [])), (tt, (tt, tt)))
value_are v ks (is_list_value ts more items) =
    let are = items_are ts more items in
    ((λ i. Name (codes "list") ∷ Mark 91 ∷ are.0 i) ∙ ap (λ (l : List Token). Name (codes "list") ∷ Mark 91 ∷ l) (sym (append-nil (items_tokens (text_values ts)))) ∙ (λ i. sym (list_word ts) i ++ (sym (list_tokens ts) i ++ [])), (tt, (tt, are.1)))

-- ---- parts that may be printed otherwise

level_part : (l : Level) → Part (Optional (codes "level") LevelIs level.Average l) (level_tokens l)
level_part level.Average = record { is = is_absent; short = tt; good = tt }
level_part level.Harmless = record { is = is_given level.Harmless _ refl; short = (tt, (tt, tt)); good = (refl, (refl, tt)) }
level_part level.MostlyHarmless = record { is = is_given level.MostlyHarmless _ refl; short = (tt, (tt, tt)); good = (refl, (refl, tt)) }
level_part level.AboveAverage = record { is = is_given level.AboveAverage _ refl; short = (tt, (tt, tt)); good = (refl, (refl, tt)) }
level_part level.Dangerous = record { is = is_given level.Dangerous _ refl; short = (tt, (tt, tt)); good = (refl, (refl, tt)) }

settings_part : (m : Settings) (ks : List Token) → SettingsAre file_limits m ks → AllGood ks → Part (SettingsAre file_limits m) (text_tokens (codes "hint") m.hint ++ (flag_tokens (codes "urgent") m.urgent ++ level_tokens m.level))
settings_part m ks (is_settings h u l kh ku kl oh ou ol) g =
    let following = each_right IsGood kh (ku ++ kl) g in
    let hint = part_of (Optional (codes "hint") (SomeText file_limits) None h) kh (text_tokens (codes "hint") h) oh (each_left IsGood kh (ku ++ kl) g) (optional_are (codes "hint") h kh oh) in
    let urgent = part_of (Flag (codes "urgent") u) ku (flag_tokens (codes "urgent") u) ou (each_left IsGood ku kl following) (flag_are (codes "urgent") u ku ou) in
    let how = level_part l in
    record {
      is = is_settings h u l (text_tokens (codes "hint") h) (flag_tokens (codes "urgent") u) (level_tokens l) hint.is urgent.is how.is;
      short = each_both IsShort (text_tokens (codes "hint") h) _ hint.short (each_both IsShort (flag_tokens (codes "urgent") u) (level_tokens l) urgent.short how.short);
      good = each_both IsGood (text_tokens (codes "hint") h) _ hint.good (each_both IsGood (flag_tokens (codes "urgent") u) (level_tokens l) urgent.good how.good);
    }

-- a number as it is printed
number_at : (what : LimitName) (n : ℕ) (k : Token) → NumberIs file_limits what n k → IsGood k → NumberIs file_limits what n (Number n) × IsGood (Number n)
number_at what n k l g = let e = (number_is what n k l).0 in (subst (NumberIs file_limits what n) e l, subst IsGood e g)

side_part : (s : SideWord) (n : ℕ) → NumberIs file_limits limit.Offset n (Number n) → IsGood (Number n) → Part (OffsetIs file_limits (offset_of s n)) (offset_tokens (offset_of s n))
side_part side.East n l g = record { is = (side.East, n, Number n, refl, refl, l); short = (tt, (tt, tt)); good = (refl, (g, tt)) }
side_part side.West zero l g = record { is = (side.East, 0, Number 0, refl, refl, l); short = (tt, (tt, tt)); good = (refl, (g, tt)) }
side_part side.West (suc n) l g = record { is = (side.West, suc n, Number (suc n), refl, refl, l); short = (tt, (tt, tt)); good = (refl, (g, tt)) }

offset_part : (o : ℤ) (ks : List Token) → OffsetIs file_limits o ks → AllGood ks → Part (OffsetIs file_limits o) (offset_tokens o)
offset_part o ks (s, n, k, is, parts, l) g =
    let both = subst AllGood parts g in
    let num = number_at limit.Offset n k l both.1.0 in
    subst (λ (z : ℤ). Part (OffsetIs file_limits z) (offset_tokens z)) (sym is) (side_part s n num.0 num.1)

expiry_part : (v : ℕ) (e : Expiry) (ks : List Token) → ExpiryIs file_limits v e ks → AllGood ks → Part (ExpiryIs file_limits v e) (expiry_tokens e)
expiry_part v e ks is_never g = record { is = is_never; short = tt; good = tt }
expiry_part v e ks (is_after n k l) g = let num = number_at limit.ValidFor n k l g.1.0 in record { is = is_after n (Number n) num.0; short = (tt, (tt, tt)); good = (refl, (num.1, tt)) }
expiry_part v e ks (is_daily m o k more two l x) g =
    let minute = number_at limit.Minute m k l g.1.1.0 in
    let offset = offset_part o more x g.1.1.1 in
    record { is = is_daily m o (Number m) (offset_tokens o) two minute.0 offset.is; short = (tt, (tt, (tt, offset.short))); good = (refl, (refl, (minute.1, offset.good))) }
expiry_part v e ks (is_monthly d m o j k more two y l x) g =
    let day = number_at limit.Day d j y g.1.1.0 in
    let minute = number_at limit.Minute m k l g.1.1.1.0 in
    let offset = offset_part o more x g.1.1.1.1 in
    record { is = is_monthly d m o (Number d) (Number m) (offset_tokens o) two day.0 minute.0 offset.is; short = (tt, (tt, (tt, (tt, offset.short)))); good = (refl, (refl, (day.1, (minute.1, offset.good)))) }

retention_part : (v : ℕ) (w : OpWord) (x : Retention) (ks : List Token) → RetentionIs file_limits v w x ks → AllGood ks → Part (RetentionIs file_limits v w x) (expiry_tokens x.expiry ++ flag_tokens (codes "latched") x.latched)
retention_part v w x ks (is_build_retention e l ke kl y f) g =
    let expiry = expiry_part v e ke y (each_left IsGood ke kl g) in
    let latched = part_of (Flag (codes "latched") l) kl (flag_tokens (codes "latched") l) f (each_right IsGood ke kl g) (flag_are (codes "latched") l kl f) in
    record {
      is = is_build_retention e l (expiry_tokens e) (flag_tokens (codes "latched") l) expiry.is latched.is;
      short = each_both IsShort (expiry_tokens e) (flag_tokens (codes "latched") l) expiry.short latched.short;
      good = each_both IsGood (expiry_tokens e) (flag_tokens (codes "latched") l) expiry.good latched.good;
    }
retention_part v w x ks is_output_retention g = record { is = is_output_retention; short = tt; good = tt }

-- ---- declarations

-- a declaration is spelled by what it is printed with
abbrev pub IsPrinted : ℕ → Declaration → Type 0
IsPrinted v d = Part (Declares file_limits 64 v d) (decl_tokens d)

middle : (a b c d : List Token) → (a ++ b) ++ (c ++ d) ≡ (a ++ (b ++ c)) ++ d
middle a b c d = append_assoc a b (c ++ d) ∙ ap (λ (l : List Token). a ++ l) (sym (append_assoc b c d)) ∙ sym (append_assoc a (b ++ c) d)

kind_word : (w : OpWord) → op_letters w ≡ (if is_output_word w then codes "output" else codes "build")
kind_word op.Build = refl
kind_word op.Output = refl

op_line : (n : List ℕ) (w : OpWord) (p : Placement) (m : Settings) (x : Retention) (c : Bool) (ws : List (List ℕ)) →
    Name (decl_letters decl.Op) ∷ Name n ∷ Name (op_letters w) ∷ (place_tokens p ++ ((text_tokens (codes "hint") m.hint ++ (flag_tokens (codes "urgent") m.urgent ++ level_tokens m.level))
    ++ ((expiry_tokens x.expiry ++ flag_tokens (codes "latched") x.latched) ++ (flag_tokens (codes "no_cancel") c ++ run_tokens ws)))) ≡ op_tokens (op_of n w p m x c ws)
unfolding place_tokens
op_line n w p m x c ws = λ i. Name (codes "op") ∷ Name n ∷ Name (kind_word w i) ∷ (place_tokens p ++ ((text_tokens (codes "hint") m.hint ++ (flag_tokens (codes "urgent") m.urgent ++ level_tokens m.level))
    ++ middle (expiry_tokens x.expiry) (flag_tokens (codes "latched") x.latched) (flag_tokens (codes "no_cancel") c) (run_tokens ws) i))

-- the declaration of an operation by its parts
op_part : (v : ℕ) (n : List ℕ) (w : OpWord) (p : Placement) (m : Settings) (x : Retention) (c : Bool) (ws : List (List ℕ)) (kp km ke kc kr : List Token) → IsGood (Name (decl_letters decl.Op)) → IsGood (Name n) → IsGood (Name (op_letters w))
    → Part (PlacementIs file_limits p) kp → Part (SettingsAre file_limits m) km → Part (RetentionIs file_limits v w x) ke → Part (Flag (codes "no_cancel") c) kc → Part (RunIs file_limits ws) kr
    → Part (Declares file_limits 64 v (declare.Op (op_of n w p m x c ws))) (Name (decl_letters decl.Op) ∷ Name n ∷ Name (op_letters w) ∷ (kp ++ (km ++ (ke ++ (kc ++ kr)))))
op_part v n w p m x c ws kp km ke kc kr g1 g2 g3 pp pm pe pc pr = record {
  is = is_op_decl n w p m x c ws (Name n) kp km ke kc kr refl pp.is pm.is pe.is pc.is pr.is;
  short = (tt, (tt, (tt, each_both IsShort kp (km ++ (ke ++ (kc ++ kr))) pp.short (each_both IsShort km (ke ++ (kc ++ kr)) pm.short (each_both IsShort ke (kc ++ kr) pe.short (each_both IsShort kc kr pc.short pr.short))))));
  good = (g1, (g2, (g3, each_both IsGood kp (km ++ (ke ++ (kc ++ kr))) pp.good (each_both IsGood km (ke ++ (kc ++ kr)) pm.good (each_both IsGood ke (kc ++ kr) pe.good (each_both IsGood kc kr pc.good pr.good))))));
}

declared_op : (v : ℕ) (n : List ℕ) (w : OpWord) (p : Placement) (m : Settings) (x : Retention) (c : Bool) (ws : List (List ℕ)) (k : Token) (kp km ke kc kr : List Token) → NameIs file_limits n k → PlacementIs file_limits p kp → SettingsAre file_limits m km
    → RetentionIs file_limits v w x ke → Flag (codes "no_cancel") c kc → RunIs file_limits ws kr → AllGood (Name (decl_letters decl.Op) ∷ k ∷ Name (op_letters w) ∷ (kp ++ (km ++ (ke ++ (kc ++ kr))))) → IsPrinted v (declare.Op (op_of n w p m x c ws))
declared_op v n w p m x c ws k kp km ke kc kr name x1 x2 x3 x4 x5 (g1, (g2, (g3, g))) =
    let r1 = each_right IsGood kp (km ++ (ke ++ (kc ++ kr))) g in
    let r2 = each_right IsGood km (ke ++ (kc ++ kr)) r1 in
    let r3 = each_right IsGood ke (kc ++ kr) r2 in
    let placement = part_of (PlacementIs file_limits p) kp (place_tokens p) x1 (each_left IsGood kp (km ++ (ke ++ (kc ++ kr))) g) (placement_are p kp x1) in
    let settings = settings_part m km x2 (each_left IsGood km (ke ++ (kc ++ kr)) r1) in
    let retention = retention_part v w x ke x3 (each_left IsGood ke (kc ++ kr) r2) in
    let no_cancel = part_of (Flag (codes "no_cancel") c) kc (flag_tokens (codes "no_cancel") c) x4 (each_left IsGood kc kr r3) (flag_are (codes "no_cancel") c kc x4) in
    let run = part_of (RunIs file_limits ws) kr (run_tokens ws) x5 (each_right IsGood kc kr r3) (run_are ws kr x5) in
    subst (Part (Declares file_limits 64 v (declare.Op (op_of n w p m x c ws)))) (op_line n w p m x c ws) (op_part v n w p m x c ws _ _ _ _ _ g1 (subst IsGood (name_is n k name).0 g2) g3 placement settings retention no_cancel run)

pub declared : (v : ℕ) (d : Declaration) (ks : List Token) → Declares file_limits 64 v d ks → AllGood ks → IsPrinted v d
declared v d ks (is_input_decl n x k more name y) g =
    part_of (Declares file_limits 64 v (declare.Input (record { name = n; value = x.value; watch = x.watch }))) _ _ (is_input_decl n x k more name y) g
    (same_are (Name (codes "input")) (k ∷ more) (Name n ∷ value_tokens x) tt (following_are k (Name n) more (value_tokens x) (name_is n k name) (value_are x more y)))
declared v d ks (is_pool_decl n h k l name x) g =
    let first = name_is n k name in
    let hold = number_is limit.Hold h l x in
    part_of (Declares file_limits 64 v (declare.Pool (record { name = n; hold = h }))) _ _ (is_pool_decl n h k l name x) g ((λ i. Name (codes "pool") ∷ first.0 i ∷ Name (codes "hold") ∷ hold.0 i ∷ []), (tt, (first.1, (tt, (hold.1, tt)))))
declared v d ks (is_client_decl n p r k l j name pool x) g =
    let first = name_is n k name in
    let second = name_is p l pool in
    let rate = number_is limit.Rate r j x in
    part_of (Declares file_limits 64 v (declare.Client (record { name = n; pool = p; rate = r }))) _ _ (is_client_decl n p r k l j name pool x) g ((λ i. Name (codes "client") ∷ first.0 i ∷ second.0 i ∷ rate.0 i ∷ []), (tt, (first.1, (second.1, (rate.1, tt)))))
declared v d ks (is_worker_decl n p c k l j name pool x) g =
    let first = name_is n k name in
    let second = name_is p l pool in
    let capacity = number_is limit.Capacity c j x in
    part_of (Declares file_limits 64 v (declare.Worker (record { name = n; pool = p; capacity = c }))) _ _ (is_worker_decl n p c k l j name pool x) g ((λ i. Name (codes "worker") ∷ first.0 i ∷ second.0 i ∷ capacity.0 i ∷ []), (tt, (first.1, (second.1, (capacity.1, tt)))))
declared v d ks (is_op_decl n w p m e c ws k kp km ke kc kr name x1 x2 x3 x4 x5) g = declared_op v n w p m e c ws k kp km ke kc kr name x1 x2 x3 x4 x5 g
declared v d ks (is_node_decl n t m k more name x) g =
    part_of (Declares file_limits 64 v (declare.Node (record { name = n; term = t }) m)) _ _ (is_node_decl n t m k more name x) g
    (same_are (Name (codes "node")) (k ∷ more) (Name n ∷ term_tokens t) tt (following_are k (Name n) more (term_tokens t) (name_is n k name) (spelled_are 64 m (one t) more x)))

pub all_declared : (v : ℕ) (ds : List Declaration) (ks : List Token) → DeclareAll file_limits 64 v ds ks → AllGood ks → AllByRecursion (IsPrinted v) ds
all_declared v [] ks e g = tt
all_declared v (d ∷ ds) ks (k1, k2, parts, x, more) g = let good : AllGood (k1 ++ k2) = subst AllGood parts g in (declared v d k1 x (each_left IsGood k1 k2 good), all_declared v ds k2 more (each_right IsGood k1 k2 good))
