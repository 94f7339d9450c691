-- A program that some bytes stand for is within the limits.
use Rattle.std.proofs.Common.{◌≡◌, ℕ, ℤ, zero, suc, ◌≤◌, Bool, true, false, List, [], ◌∷◌, ◌++◌, map, length, refl, sym, ap, subst, arith}
use Rattle.std.specs.Prelude.{◌&&◌, ◌||◌, nat_le, sum, Option, Some, None, codes, pos, neg_ℤ, T}
use Rattle.std.specs.List.{AllByRecursion, IsDistinct, list_all, list_any, filter_map, cons_option}
use Rattle.std.specs.Str.{bytes_eq}
use Rattle.std.proofs.lemmas.Bool.Decides.{nat_tests}
use Rattle.std.proofs.lemmas.List.Sums.{sum_by-cons}
use Rattle.value_core.specs.declared.token.Token.{Token}
use Rattle.value_core.specs.declared.token.Token.TheVariants.{Name, Number, Words, Mark, LongName, LongText}
use Rattle.value_core.specs.declared.value.Value.TheVariants as value
use Rattle.value_core.specs.Values.{weight_of}
use Rattle.op_keys.specs.declared.declarations.ClientDecl.{ClientDecl}
use Rattle.op_keys.specs.declared.declarations.Expiry.{Expiry}
use Rattle.term_core.specs.declared.program.Program.{Program}
use Rattle.op_keys.specs.Names.{are_apart, same_client, are_clients_apart}
use Rattle.value_core.specs.Names.{is_name}
use Rattle.term_core.specs.Limits.{is_text as fits_text, is_optional_text, fits_watch, terms_in, IsOffset, IsExpiryWithin, IsInputWithin, IsPoolWithin, IsClientWithin, IsWorkerWithin, IsOpWithin, IsNodeWithin, IsWithinLimits}
use Rattle.pipe_text.specs.declared.declaration.Declaration.{Declaration}
use Rattle.pipe_text.specs.declared.declaration.Declaration.TheVariants.{Input, Pool, Client, Worker, Op, Node}
use Rattle.pipe_text.specs.declared.declaration.InputValue.{InputValue}
use Rattle.pipe_text.specs.declared.declaration.Retention.{Retention}
use Rattle.pipe_text.specs.declared.declaration.Settings.{Settings}
use Rattle.pipe_text.specs.declared.declaration.Placement.{Placement}
use Rattle.pipe_text.specs.declared.fault.LimitName.{LimitName}
use Rattle.pipe_text.specs.declared.fault.LimitName.TheVariants as limit
use Rattle.pipe_text.specs.declared.words.DeclWord.{DeclWord}
use Rattle.pipe_text.specs.declared.words.DeclWord.TheVariants as decl
use Rattle.pipe_text.specs.declared.words.OpWord.{OpWord}
use Rattle.pipe_text.specs.declared.words.SideWord.{SideWord}
use Rattle.pipe_text.specs.declared.words.SideWord.TheVariants as side
use Rattle.pipe_text.specs.LimitTable.{number_of, least_of}
use Rattle.pipe_text.specs.Grammar.{NumberIs, Texts, one}
use Rattle.pipe_text.specs.FileGrammar.{Optional, is_given, is_absent, SomeText, ValueIs, is_text_value, is_num_value, is_list_value, PlacementIs, is_placement, SettingsAre, is_settings, offset_of, OffsetIs, ExpiryIs, is_never, is_after, is_daily, is_monthly, RetentionIs, is_build_retention, is_output_retention, RunIs, is_run, Declares, is_input_decl, is_pool_decl, is_client_decl, is_worker_decl, is_op_decl, is_node_decl, DeclareAll}
use Rattle.pipe_text.specs.Files.{file_limits, input_in, pool_in, client_in, worker_in, op_in, node_in, program_of, all_terms, count_of, same_name, limit_of, IsFileOf}
use Rattle.pipe_text.specs.inside.Known.{count_in}
use Rattle.pipe_text.proofs.GoodTokens.{Good, good_tokens, good_left, good_right, good_rest, good_first}
use Rattle.pipe_text.proofs.TermWithin.{name_good, text_good, list_layer, list_light, words_layer, words_text_layer, words_light, num_layer, num_light, list_within, spelled_within}
use Rattle.pipe_text.proofs.Knowing.{count_is}
use Rattle.value_core.proofs.Basics.{and_both, is_nat_le}

-- ---- numbers and parts

in_range : (a n b : ℕ) → (nat_le a n && nat_le n b) ≡ true → (a ≤ n) × (n ≤ b)
in_range a n b e = (grind (arith, nat_tests, e), grind (arith, nat_tests, e))

number_within : (what : LimitName) (n : ℕ) (k : Token) → NumberIs file_limits what n k → (least_of what ≤ n) × (n ≤ number_of what)
number_within what n (Number m) (is, fits) = in_range (least_of what) n (number_of what) fits
number_within what n (Name m) e = absurd e
number_within what n (Words m) e = absurd e
number_within what n (Mark m) e = absurd e
number_within what n LongName e = absurd e
number_within what n LongText e = absurd e

passes : (b : Bool) → b ≡ true → T b
passes b e = subst T (sym e) tt

west_within : (n : ℕ) → n ≤ 1080 → IsOffset (neg_ℤ (pos n))
west_within zero h = record { west = record { le = tt }; east = record { le = tt } }
west_within (suc n) h = record { west = record { le = passes (nat_le n 1079) (is_nat_le n 1079 (omega (arith, h))) }; east = record { le = tt } }

offset_within : (s : SideWord) (n : ℕ) → n ≤ 1080 → IsOffset (offset_of s n)
offset_within side.East n h = record { west = record { le = tt }; east = record { le = passes (nat_le n 1080) (is_nat_le n 1080 h) } }
offset_within side.West n h = west_within n h

an_offset_within : (o : ℤ) (ks : List Token) → OffsetIs file_limits o ks → IsOffset o
an_offset_within o ks (s, n, k, is, parts, l) = subst IsOffset (sym is) (offset_within s n (number_within limit.Offset n k l).1)

expiry_within : (v : ℕ) (e : Expiry) (ks : List Token) → ExpiryIs file_limits v e ks → IsExpiryWithin e
expiry_within v e ks is_never = tt
expiry_within v e ks (is_after n k l) = number_within limit.ValidFor n k l
expiry_within v e ks (is_daily m o k ls two l x) = ((number_within limit.Minute m k l).1, an_offset_within o ls x)
expiry_within v e ks (is_monthly d m o j k ls two y l x) = let day = number_within limit.Day d j y in (day.0, day.1, (number_within limit.Minute m k l).1, an_offset_within o ls x)

retention_within : (v : ℕ) (w : OpWord) (x : Retention) (ks : List Token) → RetentionIs file_limits v w x ks → IsExpiryWithin x.expiry
retention_within v w x ks (is_build_retention e l ke kl y f) = expiry_within v e ke y
retention_within v w x ks is_output_retention = tt

optional_within : (letters : List ℕ) (o : Option (List ℕ)) (ks : List Token) → Optional letters (SomeText file_limits) None o ks → Good ks → is_optional_text o ≡ true
optional_within letters o ks (is_given a more (t, k, is, parts, l)) g = rw is (text_good t k l (good_first k [] (subst Good parts (good_rest _ more g))))
optional_within letters o ks is_absent g = refl

settings_within : (x : Settings) (ks : List Token) → SettingsAre file_limits x ks → Good ks → is_optional_text x.hint ≡ true
settings_within x ks (is_settings h u l kh ku kl oh ou ol) g = optional_within _ h kh oh (good_left kh (ku ++ kl) g)

texts_good : (ts : List (List ℕ)) (ks : List Token) → Texts [] [] file_limits ts ks → Good ks → list_all fits_text ts ≡ true
texts_good [] ks e g = refl
texts_good (t ∷ ts) ks (k, more, parts, is, rest) g = let good : Good (k ∷ more) = subst Good parts g in and_both _ _ (text_good t k is (good_first k more good)) (texts_good ts more rest (good_rest k more good))

abbrev RunWithin : List (List ℕ) → Type 0
RunWithin ws = (1 ≤ length ws) × (length ws ≤ 64) × (list_all fits_text ws ≡ true)

run_within : (ws : List (List ℕ)) (ks : List Token) → RunIs file_limits ws ks → Good ks → RunWithin ws
run_within ws ks (is_run t ts k more l few rest) g = let good = good_rest _ (k ∷ more) g in (omega arith, omega (arith, few), and_both _ _ (text_good t k l (good_first k more good)) (texts_good ts more rest (good_rest k more good)))

abbrev ValueWithin : InputValue → Type 0
ValueWithin v = (fits_watch v.watch v.value ≡ true) × (weight_of v.value ≤ 1048576)

watch_within : (t : List ℕ) (w : Option (List ℕ)) (ks : List Token) → fits_text t ≡ true → Optional (codes "watch") (SomeText file_limits) None w ks → Good ks → fits_watch w (value.Words t) ≡ true
watch_within t w ks e (is_given a more (p, k, is, parts, l)) g = rw is (and_both _ _ (text_good p k l (good_first k [] (subst Good parts (good_rest _ more g)))) (words_text_layer t e))
watch_within t w ks e is_absent g = words_layer t e

value_within : (v : InputValue) (ks : List Token) → ValueIs file_limits v ks → Good ks → ValueWithin v
value_within v ks (is_text_value t k w more l o) g =
    let good = good_rest _ (k ∷ more) g in
    let short = text_good t k l (good_first k more good) in
    (watch_within t w more short o (good_rest k more good), words_light t short)
value_within v ks (is_num_value n) g = (num_layer n (good_first (Number n) [] (good_rest _ (Number n ∷ []) g)), num_light n)
value_within v ks (is_list_value ts more items) g = let w = list_within ts (Mark 91) more items (good_rest _ (Mark 91 ∷ more) g) in (list_layer ts w, list_light ts w)

-- ---- declarations

abbrev DeclWithin : Declaration → Type 0
DeclWithin (Input d) = IsInputWithin d
DeclWithin (Pool d) = IsPoolWithin d
DeclWithin (Client d) = IsClientWithin d
DeclWithin (Worker d) = IsWorkerWithin d
DeclWithin (Op d) = IsOpWithin d
DeclWithin (Node d n) = IsNodeWithin d × (terms_in d.term ≡ n)

record PlacementWithin (p : Placement) : Type 0 where
  pub pool : is_name p.pool ≡ true
  pub client : is_name p.client ≡ true
  pub full : p.full ≤ 1000000
  pub cached : p.cached ≤ 1000000

placement_within : (p : Placement) (ks : List Token) → PlacementIs file_limits p ks → Good ks → PlacementWithin p
placement_within p ks (is_placement q c m n kp kc km kn np nc nm nn) g =
    let one_good = good_rest _ (kp ∷ _) g in
    let two_good = good_rest _ (kc ∷ _) (good_rest kp _ one_good) in
    record { pool = name_good q kp np (good_first kp _ one_good); client = name_good c kc nc (good_first kc _ two_good); full = (number_within limit.Cost m km nm).1; cached = (number_within limit.Cost n kn nn).1 }

declares_within : (v : ℕ) (d : Declaration) (ks : List Token) → Declares file_limits 64 v d ks → Good ks → DeclWithin d
declares_within v d ks (is_input_decl n x k more name y) g =
    let good = good_rest _ (k ∷ more) g in
    let w = value_within x more y (good_rest k more good) in
    record { name = name_good n k name (good_first k more good); value = w.0; weight = w.1 }
declares_within v d ks (is_pool_decl n h k l name x) g = record { name = name_good n k name (good_first k _ (good_rest _ _ g)); hold = (number_within limit.Hold h l x).1 }
declares_within v d ks (is_client_decl n p r k l j name pool x) g =
    let good = good_rest _ (k ∷ l ∷ j ∷ []) g in
    let range = number_within limit.Rate r j x in
    record { name = name_good n k name (good_first k _ good); pool = name_good p l pool (good_first l _ (good_rest k _ good)); some_rate = range.0; rate = range.1 }
declares_within v d ks (is_worker_decl n p c k l j name pool x) g =
    let good = good_rest _ (k ∷ l ∷ j ∷ []) g in
    let range = number_within limit.Capacity c j x in
    record { name = name_good n k name (good_first k _ good); pool = name_good p l pool (good_first l _ (good_rest k _ good)); some_capacity = range.0; capacity = range.1 }
declares_within v d ks (is_op_decl n w p m e c ws k kp km ke kc kr name x1 x2 x3 x4 x5) g =
    let named = good_rest _ (k ∷ _) g in
    let all = good_rest _ (kp ++ (km ++ (ke ++ (kc ++ kr)))) (good_rest k _ named) in
    let r1 = good_right kp (km ++ (ke ++ (kc ++ kr))) all in
    let r2 = good_right km (ke ++ (kc ++ kr)) r1 in
    let r3 = good_right ke (kc ++ kr) r2 in
    let placement = placement_within p kp x1 (good_left kp (km ++ (ke ++ (kc ++ kr))) all) in
    let run = run_within ws kr x5 (good_right kc kr r3) in
    record {
      name = name_good n k name (good_first k _ named);
      pool = placement.pool;
      client = placement.client;
      full = placement.full;
      cached = placement.cached;
      hint = settings_within m km x2 (good_left km (ke ++ (kc ++ kr)) r1);
      expiry = retention_within v w e ke x3;
      some_words = run.0;
      few_words = run.1;
      words = run.2;
    }
declares_within v d ks (is_node_decl n t m k more name x) g =
    let good = good_rest _ (k ∷ more) g in
    let w = spelled_within 64 m (one t) more x (good_rest k more good) in
    (record { name = name_good n k name (good_first k more good); words = w.2; depth = w.1 }, w.0)

all_within : (v : ℕ) (ds : List Declaration) (ks : List Token) → DeclareAll file_limits 64 v ds ks → Good ks → AllByRecursion DeclWithin ds
all_within v [] ks e g = tt
all_within v (d ∷ ds) ks (k1, k2, parts, x, more) g = let good : Good (k1 ++ k2) = subst Good parts g in (declares_within v d k1 x (good_left k1 k2 good), all_within v ds k2 more (good_right k1 k2 good))

-- ---- the declarations of each kind

inputs_within : (ds : List Declaration) → AllByRecursion DeclWithin ds → AllByRecursion IsInputWithin (filter_map input_in ds)
inputs_within [] h = tt
inputs_within (Input d ∷ ds) (one_is, h) = (one_is, inputs_within ds h)
inputs_within (Pool d ∷ ds) (one_is, h) = inputs_within ds h
inputs_within (Client d ∷ ds) (one_is, h) = inputs_within ds h
inputs_within (Worker d ∷ ds) (one_is, h) = inputs_within ds h
inputs_within (Op d ∷ ds) (one_is, h) = inputs_within ds h
inputs_within (Node d n ∷ ds) (one_is, h) = inputs_within ds h

pools_within : (ds : List Declaration) → AllByRecursion DeclWithin ds → AllByRecursion IsPoolWithin (filter_map pool_in ds)
pools_within [] h = tt
pools_within (Input d ∷ ds) (one_is, h) = pools_within ds h
pools_within (Pool d ∷ ds) (one_is, h) = (one_is, pools_within ds h)
pools_within (Client d ∷ ds) (one_is, h) = pools_within ds h
pools_within (Worker d ∷ ds) (one_is, h) = pools_within ds h
pools_within (Op d ∷ ds) (one_is, h) = pools_within ds h
pools_within (Node d n ∷ ds) (one_is, h) = pools_within ds h

clients_within : (ds : List Declaration) → AllByRecursion DeclWithin ds → AllByRecursion IsClientWithin (filter_map client_in ds)
clients_within [] h = tt
clients_within (Input d ∷ ds) (one_is, h) = clients_within ds h
clients_within (Pool d ∷ ds) (one_is, h) = clients_within ds h
clients_within (Client d ∷ ds) (one_is, h) = (one_is, clients_within ds h)
clients_within (Worker d ∷ ds) (one_is, h) = clients_within ds h
clients_within (Op d ∷ ds) (one_is, h) = clients_within ds h
clients_within (Node d n ∷ ds) (one_is, h) = clients_within ds h

workers_within : (ds : List Declaration) → AllByRecursion DeclWithin ds → AllByRecursion IsWorkerWithin (filter_map worker_in ds)
workers_within [] h = tt
workers_within (Input d ∷ ds) (one_is, h) = workers_within ds h
workers_within (Pool d ∷ ds) (one_is, h) = workers_within ds h
workers_within (Client d ∷ ds) (one_is, h) = workers_within ds h
workers_within (Worker d ∷ ds) (one_is, h) = (one_is, workers_within ds h)
workers_within (Op d ∷ ds) (one_is, h) = workers_within ds h
workers_within (Node d n ∷ ds) (one_is, h) = workers_within ds h

ops_within : (ds : List Declaration) → AllByRecursion DeclWithin ds → AllByRecursion IsOpWithin (filter_map op_in ds)
ops_within [] h = tt
ops_within (Input d ∷ ds) (one_is, h) = ops_within ds h
ops_within (Pool d ∷ ds) (one_is, h) = ops_within ds h
ops_within (Client d ∷ ds) (one_is, h) = ops_within ds h
ops_within (Worker d ∷ ds) (one_is, h) = ops_within ds h
ops_within (Op d ∷ ds) (one_is, h) = (one_is, ops_within ds h)
ops_within (Node d n ∷ ds) (one_is, h) = ops_within ds h

nodes_within : (ds : List Declaration) → AllByRecursion DeclWithin ds → AllByRecursion IsNodeWithin (filter_map node_in ds)
nodes_within [] h = tt
nodes_within (Input d ∷ ds) (one_is, h) = nodes_within ds h
nodes_within (Pool d ∷ ds) (one_is, h) = nodes_within ds h
nodes_within (Client d ∷ ds) (one_is, h) = nodes_within ds h
nodes_within (Worker d ∷ ds) (one_is, h) = nodes_within ds h
nodes_within (Op d ∷ ds) (one_is, h) = nodes_within ds h
nodes_within (Node d n ∷ ds) (one_is, h) = (one_is.0, nodes_within ds h)

terms_within : (ds : List Declaration) → AllByRecursion DeclWithin ds → sum (map (λ d. terms_in d.term) (filter_map node_in ds)) ≡ all_terms ds
terms_within [] h = refl
terms_within (Input d ∷ ds) (one_is, h) = let more = terms_within ds h in omega (arith, more)
terms_within (Pool d ∷ ds) (one_is, h) = let more = terms_within ds h in omega (arith, more)
terms_within (Client d ∷ ds) (one_is, h) = let more = terms_within ds h in omega (arith, more)
terms_within (Worker d ∷ ds) (one_is, h) = let more = terms_within ds h in omega (arith, more)
terms_within (Op d ∷ ds) (one_is, h) = let more = terms_within ds h in omega (arith, more)
terms_within (Node d n ∷ ds) (one_is, h) =
    let more = terms_within ds h in
    let is = one_is.1 in
    let sums = sum_by-cons (λ x. x) (terms_in d.term) (map (λ e. terms_in e.term) (filter_map node_in ds)) in
    omega (arith, more, is, sums)

-- ---- names that stand once

-- two of a kind are the same by its test where their declarations have the same name
abbrev Same : {X : Type 0} → (X → X → Bool) → Option X → Option X → Bool → Type 0
Same eq None o b = Unit {0}
Same eq (Some x) None b = Unit {0}
Same eq (Some x) (Some y) b = eq x y ≡ b

abbrev Decides : {X : Type 0} → (X → X → Bool) → (Declaration → Option X) → Type 0
Decides eq pick = (d e : Declaration) → Same eq (pick d) (pick e) (same_name d e)

none_cons : {X : Type 0} (eq : X → X → Bool) (x : X) (o : Option X) (xs : List X) (b : Bool) → Same eq (Some x) o b → b ≡ false → list_any (eq x) xs ≡ false → list_any (eq x) (cons_option o xs) ≡ false
none_cons eq x None xs b s e h = h
none_cons eq x (Some y) xs b s e h = rw (s, e, h) refl

none_same : {X : Type 0} (eq : X → X → Bool) (pick : Declaration → Option X) → Decides eq pick → (d : Declaration) (x : X) → pick d ≡ Some x → (ds : List Declaration) → AllByRecursion (λ e. same_name d e ≡ false) ds → list_any (eq x) (filter_map pick ds) ≡ false
none_same eq pick reported d x is [] h = refl
none_same eq pick reported d x is (e ∷ ds) (apart, h) = none_cons eq x (pick e) (filter_map pick ds) (same_name d e) (subst (λ o. Same eq o (pick e) (same_name d e)) is (reported d e)) apart (none_same eq pick reported d x is ds h)

any_name : {X : Type 0} (name : X → List ℕ) (n : List ℕ) (xs : List X) → list_any (bytes_eq n) (map name xs) ≡ list_any (λ y. bytes_eq n (name y)) xs
any_name name n [] = refl
any_name name n (x ∷ xs) = ap (λ (b : Bool). bytes_eq n (name x) || b) (any_name name n xs)

abbrev NamesApart : {X : Type 0} → (X → List ℕ) → List X → Type 0
NamesApart name xs = are_apart (map name xs) ≡ true

names_cons : {X : Type 0} (name : X → List ℕ) (o : Option X) (xs : List X) → ((x : X) → o ≡ Some x → list_any (λ y. bytes_eq (name x) (name y)) xs ≡ false) → NamesApart name xs → NamesApart name (cons_option o xs)
names_cons name None xs new h = h
names_cons name (Some x) xs new h = rw (any_name name (name x) xs, new x refl, h) refl

names_apart : {X : Type 0} (name : X → List ℕ) (pick : Declaration → Option X) → Decides (λ x y. bytes_eq (name x) (name y)) pick → (ds : List Declaration) → IsDistinct same_name ds → NamesApart name (filter_map pick ds)
unfolding IsDistinct
names_apart name pick reported [] h = refl
names_apart name pick reported (d ∷ ds) (apart, h) = names_cons name (pick d) (filter_map pick ds) (λ x is. none_same (λ y z. bytes_eq (name y) (name z)) pick reported d x is ds apart) (names_apart name pick reported ds h)

clients_cons : (o : Option ClientDecl) (xs : List ClientDecl) → ((x : ClientDecl) → o ≡ Some x → list_any (same_client x) xs ≡ false) → are_clients_apart xs ≡ true → are_clients_apart (cons_option o xs) ≡ true
clients_cons None xs new h = h
clients_cons (Some x) xs new h = rw (new x refl, h) refl

clients_apart : Decides same_client client_in → (ds : List Declaration) → IsDistinct same_name ds → are_clients_apart (filter_map client_in ds) ≡ true
unfolding IsDistinct
clients_apart reported [] h = refl
clients_apart reported (d ∷ ds) (apart, h) = clients_cons (client_in d) (filter_map client_in ds) (λ x is. none_same same_client client_in reported d x is ds apart) (clients_apart reported ds h)

input_decides : Decides (λ x y. bytes_eq x.name y.name) input_in
input_decides (Input d) (Input e) = refl
input_decides (Input d) (Pool e) = tt
input_decides (Input d) (Client e) = tt
input_decides (Input d) (Worker e) = tt
input_decides (Input d) (Op e) = tt
input_decides (Input d) (Node e m) = tt
input_decides (Pool d) e = tt
input_decides (Client d) e = tt
input_decides (Worker d) e = tt
input_decides (Op d) e = tt
input_decides (Node d n) e = tt

pool_decides : Decides (λ x y. bytes_eq x.name y.name) pool_in
pool_decides (Input d) e = tt
pool_decides (Pool d) (Input e) = tt
pool_decides (Pool d) (Pool e) = refl
pool_decides (Pool d) (Client e) = tt
pool_decides (Pool d) (Worker e) = tt
pool_decides (Pool d) (Op e) = tt
pool_decides (Pool d) (Node e m) = tt
pool_decides (Client d) e = tt
pool_decides (Worker d) e = tt
pool_decides (Op d) e = tt
pool_decides (Node d n) e = tt

client_decides : Decides same_client client_in
client_decides (Input d) e = tt
client_decides (Pool d) e = tt
client_decides (Client d) (Input e) = tt
client_decides (Client d) (Pool e) = tt
client_decides (Client d) (Client e) = refl
client_decides (Client d) (Worker e) = tt
client_decides (Client d) (Op e) = tt
client_decides (Client d) (Node e m) = tt
client_decides (Worker d) e = tt
client_decides (Op d) e = tt
client_decides (Node d n) e = tt

worker_decides : Decides (λ x y. bytes_eq x.name y.name) worker_in
worker_decides (Input d) e = tt
worker_decides (Pool d) e = tt
worker_decides (Client d) e = tt
worker_decides (Worker d) (Input e) = tt
worker_decides (Worker d) (Pool e) = tt
worker_decides (Worker d) (Client e) = tt
worker_decides (Worker d) (Worker e) = refl
worker_decides (Worker d) (Op e) = tt
worker_decides (Worker d) (Node e m) = tt
worker_decides (Op d) e = tt
worker_decides (Node d n) e = tt

op_decides : Decides (λ x y. bytes_eq x.name y.name) op_in
op_decides (Input d) e = tt
op_decides (Pool d) e = tt
op_decides (Client d) e = tt
op_decides (Worker d) e = tt
op_decides (Op d) (Input e) = tt
op_decides (Op d) (Pool e) = tt
op_decides (Op d) (Client e) = tt
op_decides (Op d) (Worker e) = tt
op_decides (Op d) (Op e) = refl
op_decides (Op d) (Node e m) = tt
op_decides (Node d n) e = tt

node_decides : Decides (λ x y. bytes_eq x.name y.name) node_in
node_decides (Input d) e = tt
node_decides (Pool d) e = tt
node_decides (Client d) e = tt
node_decides (Worker d) e = tt
node_decides (Op d) e = tt
node_decides (Node d n) (Input e) = tt
node_decides (Node d n) (Pool e) = tt
node_decides (Node d n) (Client e) = tt
node_decides (Node d n) (Worker e) = tt
node_decides (Node d n) (Op e) = tt
node_decides (Node d n) (Node e m) = refl

-- ---- the program

few_in : (v : ℕ) (ds : List Declaration) (most : ℕ) (w : DeclWord) → count_of w ds ≤ most → count_in (program_of v ds) w ≤ most
few_in v ds most w few = let same = count_is v ds w in omega (arith, same, few)

made_within : (v : ℕ) (ds : List Declaration) → AllByRecursion DeclWithin ds → ((w : DeclWord) → count_of w ds ≤ number_of (limit_of w)) → all_terms ds ≤ 4096 → IsDistinct same_name ds → IsWithinLimits (program_of v ds)
made_within v ds within few few_terms apart = record {
  few_inputs = few_in v ds _ decl.Input (few decl.Input);
  few_pools = few_in v ds _ decl.Pool (few decl.Pool);
  few_clients = few_in v ds _ decl.Client (few decl.Client);
  few_workers = few_in v ds _ decl.Worker (few decl.Worker);
  few_ops = few_in v ds _ decl.Op (few decl.Op);
  few_nodes = few_in v ds _ decl.Node (few decl.Node);
  few_terms = let same = terms_within ds within in omega (arith, same, few_terms);
  inputs_apart = names_apart (λ d. d.name) input_in input_decides ds apart;
  pools_apart = names_apart (λ d. d.name) pool_in pool_decides ds apart;
  clients_apart = clients_apart client_decides ds apart;
  workers_apart = names_apart (λ d. d.name) worker_in worker_decides ds apart;
  ops_apart = names_apart (λ d. d.name) op_in op_decides ds apart;
  nodes_apart = names_apart (λ d. d.name) node_in node_decides ds apart;
  inputs = inputs_within ds within;
  pools = pools_within ds within;
  clients = clients_within ds within;
  workers = workers_within ds within;
  ops = ops_within ds within;
  nodes = nodes_within ds within;
}

-- A program that some bytes stand for is within the limits.
pub standing_within : (bytes : List ℕ) (p : Program) → IsFileOf bytes p → IsWithinLimits p
standing_within bytes p stands =
    let s = stands.spelling in
    let good = subst Good s.spelled.2 (good_tokens bytes stands.few_bytes) in
    subst IsWithinLimits (sym s.is) (made_within s.version s.declarations (all_within s.version s.declarations s.spelled.1 s.spelled.3 (good_rest _ _ (good_rest _ _ good))) s.few s.few_terms s.apart)
