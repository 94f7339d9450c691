-- Which tokens a file is spelled by: one rule for each line of the grammar.
--
-- file  = "pipeline" ( "1" | "2" ) decl*
-- decl  = "input" name "text" string [ "watch" string ]
--       | "input" name "num" number
--       | "input" name "list" list
--       | "pool" name "hold" number
--       | "client" name name number             (client, pool, rate)
--       | "worker" name name number             (worker, pool, capacity)
--       | "op" name "build" where [hint] ["urgent"] [level]
--             ["valid_for" number | schedule] ["latched"] ["no_cancel"] run
--       | "op" name "output" where [hint] ["urgent"] [level]
--             ["no_cancel"] run
--       | "node" name term
-- schedule = "schedule" ( "daily" number | "monthly" number number ) ( "east" | "west" ) number
-- where = "pool" name "client" name "cost" number number   (full, cached)
-- hint  = "hint" string
-- level = "level" LEVEL
-- run   = "run" string string*
use Rattle.std.specs.Prelude.{◌≡◌, ℕ, ◌≤◌, ◌⊎◌, ℤ, pos, neg_ℤ, Bool, true, false, List, [], ◌∷◌, ◌++◌, length, codes, Option, Some, None}
use Rattle.value_core.specs.declared.token.Token.{Token}
use Rattle.value_core.specs.declared.token.Token.TheVariants.{Name, Number, Mark}
use Rattle.value_core.specs.declared.value.Value.TheVariants as value
use Rattle.op_keys.specs.declared.declarations.Expiry.{Expiry}
use Rattle.op_keys.specs.declared.declarations.Expiry.TheVariants.{Never, After, Daily, Monthly}
use Rattle.op_keys.specs.declared.declarations.OpDecl.{OpDecl}
use Rattle.op_keys.specs.declared.level.Level.{Level}
use Rattle.op_keys.specs.declared.level.Level.TheVariants as level
use Rattle.term_core.specs.declared.program.Term.{Term}
use Rattle.pipe_text.specs.declared.declaration.Declaration.{Declaration}
use Rattle.pipe_text.specs.declared.declaration.Declaration.TheVariants as declare
use Rattle.pipe_text.specs.declared.declaration.InputValue.{InputValue}
use Rattle.pipe_text.specs.declared.declaration.Placement.{Placement}
use Rattle.pipe_text.specs.declared.declaration.Settings.{Settings}
use Rattle.pipe_text.specs.declared.declaration.Retention.{Retention}
use Rattle.pipe_text.specs.declared.fault.LimitName.TheVariants as limit
use Rattle.pipe_text.specs.declared.words.DeclWord.TheVariants as decl
use Rattle.pipe_text.specs.declared.words.ValueWord.TheVariants as form
use Rattle.pipe_text.specs.declared.words.OpWord.{OpWord}
use Rattle.pipe_text.specs.declared.words.OpWord.TheVariants as op
use Rattle.pipe_text.specs.declared.words.PeriodWord.TheVariants as period
use Rattle.pipe_text.specs.declared.words.SideWord.{SideWord}
use Rattle.pipe_text.specs.declared.words.SideWord.TheVariants as side
use Rattle.pipe_text.specs.Words.{decl_letters, value_letters, op_letters, period_letters, side_letters, level_letters}
use Rattle.pipe_text.specs.Grammar.{Limits, NameIs, TextIs, NumberIs, Texts, Items, list_of, one, Spells}

-- a part that may be left out, with the word that it begins with and its value if it is left out
pub data Optional {A : Type 0} (letters : List ℕ) (L : A → List Token → Type 0) (absent : A) : A → List Token → Type 0 where
  is_given : (a : A) (ks : List Token) → L a ks → Optional letters L absent a (Name letters ∷ ks)
  is_absent : Optional letters L absent absent []

-- a string with this text
abbrev pub SomeText : Limits → Option (List ℕ) → List Token → Type 0
SomeText lim o ks = (t : List ℕ) × (k : Token) × (o ≡ Some t) × (ks ≡ k ∷ []) × TextIs lim t k

-- nothing after the word of a setting that is on
abbrev pub On : Bool → List Token → Type 0
On b ks = (b ≡ true) × (ks ≡ [])

-- a setting that is on if its word is given
abbrev pub Flag : List ℕ → Bool → List Token → Type 0
Flag letters = Optional letters On false

-- the value of an input, after its name
pub data ValueIs (lim : Limits) : InputValue → List Token → Type 0 where
  is_text_value : (t : List ℕ) (k : Token) (w : Option (List ℕ)) (ks : List Token) → TextIs lim t k → Optional (codes "watch") (SomeText lim) None w ks
      → ValueIs lim (record { value = value.Words t; watch = w }) (Name (value_letters form.Text) ∷ k ∷ ks)
  is_num_value : (n : ℕ) → ValueIs lim (record { value = value.Num n; watch = None }) (Name (value_letters form.Num) ∷ Number n ∷ [])
  is_list_value : (ts : List (List ℕ)) (ks : List Token) → Items lim ts ks → ValueIs lim (record { value = list_of ts; watch = None }) (Name (value_letters form.List) ∷ Mark 91 ∷ ks)

-- the pool and client of an operation's orders, and what they cost
pub data PlacementIs (lim : Limits) : Placement → List Token → Type 0 where
  is_placement : (p c : List ℕ) (m n : ℕ) (kp kc km kn : Token) → NameIs lim p kp → NameIs lim c kc → NumberIs lim limit.Cost m km → NumberIs lim limit.Cost n kn
      → PlacementIs lim (record { pool = p; client = c; full = m; cached = n }) (Name (codes "pool") ∷ kp ∷ Name (codes "client") ∷ kc ∷ Name (codes "cost") ∷ km ∷ kn ∷ [])

-- a level by its word
abbrev pub LevelIs : Level → List Token → Type 0
LevelIs l ks = ks ≡ Name (level_letters l) ∷ []

-- the settings of each operation: the hint, `urgent`, the level, which is average if it isn't given
pub data SettingsAre (lim : Limits) : Settings → List Token → Type 0 where
  is_settings : (h : Option (List ℕ)) (u : Bool) (l : Level) (kh ku kl : List Token) → Optional (codes "hint") (SomeText lim) None h kh → Flag (codes "urgent") u ku → Optional (codes "level") LevelIs level.Average l kl
      → SettingsAre lim (record { hint = h; urgent = u; level = l }) (kh ++ (ku ++ kl))

-- minutes to the east, negative for west
abbrev pub offset_of : SideWord → ℕ → ℤ
offset_of side.East n = pos n
offset_of side.West n = neg_ℤ (pos n)

-- the side and the minutes of an offset
abbrev pub OffsetIs : Limits → ℤ → List Token → Type 0
OffsetIs lim o ks = (s : SideWord) × (n : ℕ) × (k : Token) × (o ≡ offset_of s n) × (ks ≡ Name (side_letters s) ∷ k ∷ []) × NumberIs lim limit.Offset n k

-- when a result expires; in a file of version 2 it may have a schedule
pub data ExpiryIs (lim : Limits) (version : ℕ) : Expiry → List Token → Type 0 where
  is_never : ExpiryIs lim version Never []
  is_after : (n : ℕ) (k : Token) → NumberIs lim limit.ValidFor n k → ExpiryIs lim version (After n) (Name (codes "valid_for") ∷ k ∷ [])
  is_daily : (m : ℕ) (o : ℤ) (k : Token) (ks : List Token) → version ≡ 2 → NumberIs lim limit.Minute m k → OffsetIs lim o ks
      → ExpiryIs lim version (Daily m o) (Name (codes "schedule") ∷ Name (period_letters period.Daily) ∷ k ∷ ks)
  is_monthly : (d m : ℕ) (o : ℤ) (j k : Token) (ks : List Token) → version ≡ 2 → NumberIs lim limit.Day d j → NumberIs lim limit.Minute m k → OffsetIs lim o ks
      → ExpiryIs lim version (Monthly d m o) (Name (codes "schedule") ∷ Name (period_letters period.Monthly) ∷ j ∷ k ∷ ks)

-- how long a build keeps its results; an output has no such words
pub data RetentionIs (lim : Limits) (version : ℕ) : OpWord → Retention → List Token → Type 0 where
  is_build_retention : (e : Expiry) (l : Bool) (ke kl : List Token) → ExpiryIs lim version e ke → Flag (codes "latched") l kl → RetentionIs lim version op.Build (record { expiry = e; latched = l }) (ke ++ kl)
  is_output_retention : RetentionIs lim version op.Output (record { expiry = Never; latched = false }) []

-- the words of a command
pub data RunIs (lim : Limits) : List (List ℕ) → List Token → Type 0 where
  is_run : (t : List ℕ) (ts : List (List ℕ)) (k : Token) (ks : List Token) → TextIs lim t k → length ts ≤ lim.more_words → Texts [] [] lim ts ks → RunIs lim (t ∷ ts) (Name (codes "run") ∷ k ∷ ks)

-- whether the operation sets a key to a value
abbrev pub is_output_word : OpWord → Bool
is_output_word op.Build = false
is_output_word op.Output = true

-- the operation of these parts
abbrev pub op_of : List ℕ → OpWord → Placement → Settings → Retention → Bool → List (List ℕ) → OpDecl
op_of n w p m k c ws = record {
  name = n;
  output = is_output_word w;
  pool = p.pool;
  client = p.client;
  full = p.full;
  cached = p.cached;
  hint = m.hint;
  urgent = m.urgent;
  level = m.level;
  expiry = k.expiry;
  latched = k.latched;
  no_cancel = c;
  words = ws;
}

-- which tokens a declaration is spelled by; a node's has with it how many terms it is made of
pub data Declares (lim : Limits) (depth version : ℕ) : Declaration → List Token → Type 0 where
  is_input_decl : (n : List ℕ) (v : InputValue) (k : Token) (ks : List Token) → NameIs lim n k → ValueIs lim v ks
      → Declares lim depth version (declare.Input (record { name = n; value = v.value; watch = v.watch })) (Name (decl_letters decl.Input) ∷ k ∷ ks)
  is_pool_decl : (n : List ℕ) (h : ℕ) (k l : Token) → NameIs lim n k → NumberIs lim limit.Hold h l
      → Declares lim depth version (declare.Pool (record { name = n; hold = h })) (Name (decl_letters decl.Pool) ∷ k ∷ Name (codes "hold") ∷ l ∷ [])
  is_client_decl : (n p : List ℕ) (r : ℕ) (k l j : Token) → NameIs lim n k → NameIs lim p l → NumberIs lim limit.Rate r j
      → Declares lim depth version (declare.Client (record { name = n; pool = p; rate = r })) (Name (decl_letters decl.Client) ∷ k ∷ l ∷ j ∷ [])
  is_worker_decl : (n p : List ℕ) (c : ℕ) (k l j : Token) → NameIs lim n k → NameIs lim p l → NumberIs lim limit.Capacity c j
      → Declares lim depth version (declare.Worker (record { name = n; pool = p; capacity = c })) (Name (decl_letters decl.Worker) ∷ k ∷ l ∷ j ∷ [])
  is_op_decl : (n : List ℕ) (w : OpWord) (p : Placement) (m : Settings) (e : Retention) (c : Bool) (ws : List (List ℕ)) (k : Token) (kp km ke kc kr : List Token)
      → NameIs lim n k → PlacementIs lim p kp → SettingsAre lim m km → RetentionIs lim version w e ke → Flag (codes "no_cancel") c kc → RunIs lim ws kr
      → Declares lim depth version (declare.Op (op_of n w p m e c ws)) (Name (decl_letters decl.Op) ∷ k ∷ Name (op_letters w) ∷ (kp ++ (km ++ (ke ++ (kc ++ kr)))))
  is_node_decl : (n : List ℕ) (t : Term) (m : ℕ) (k : Token) (ks : List Token) → NameIs lim n k → Spells lim depth m (one t) ks
      → Declares lim depth version (declare.Node (record { name = n; term = t }) m) (Name (decl_letters decl.Node) ∷ k ∷ ks)

-- declarations one after the other
abbrev pub DeclareAll : Limits → ℕ → ℕ → List Declaration → List Token → Type 0
DeclareAll lim depth version [] ks = ks ≡ []
DeclareAll lim depth version (d ∷ ds) ks = (k1 k2 : List Token) × (ks ≡ k1 ++ k2) × Declares lim depth version d k1 × DeclareAll lim depth version ds k2

-- which tokens a whole file is spelled by
abbrev pub FileSpells : Limits → ℕ → ℕ → List Declaration → List Token → Type 0
FileSpells lim depth version ds ks = ((version ≡ 1) ⊎ (version ≡ 2)) × (more : List Token) × (ks ≡ Name (codes "pipeline") ∷ Number version ∷ more) × DeclareAll lim depth version ds more
