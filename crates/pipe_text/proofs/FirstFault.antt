-- The fault of a file's reader is what it says.
use Rattle.std.proofs.Common.{◌≡◌, ℕ, zero, suc, ◌<◌, ◌≤◌, Bool, true, false, cond, List, [], ◌∷◌, ◌++◌, length, Result, refl, sym, ap, subst, ◌∙◌, append_assoc, arith, inl, inr}
use Rattle.std.specs.Prelude.{◌==◌, ◌||◌, ◌⊎◌, max, nat_lt, Ok, Err, codes}
use Rattle.std.proofs.lemmas.List.{append-nil}
use Rattle.value_core.specs.declared.token.Token.{Token}
use Rattle.value_core.specs.declared.token.Token.TheVariants.{Name, Number, Words, Mark, LongName, LongText}
use Rattle.value_core.specs.declared.lexing.TokenAt.{TokenAt}
use Rattle.value_core.specs.declared.lexing.Stop.{Stop}
use Rattle.value_core.specs.declared.lexing.Stop.TheVariants as stop
use Rattle.value_core.specs.Lexing.{lexed}
use Rattle.value_core.specs.Literals.{tokens_in}
use Rattle.term_core.specs.declared.program.Program.{Program}
use Rattle.pipe_text.specs.declared.declaration.Declaration.{Declaration}
use Rattle.pipe_text.specs.declared.declaration.Declaration.TheVariants as declare
use Rattle.pipe_text.specs.declared.fault.Fault.{Fault}
use Rattle.pipe_text.specs.declared.fault.Fault.TheVariants.{Lex, Syntax, Limit, Duplicate}
use Rattle.pipe_text.specs.declared.fault.LimitName.{LimitName}
use Rattle.pipe_text.specs.declared.fault.LimitName.TheVariants as limit
use Rattle.pipe_text.specs.declared.words.DeclWord.TheVariants as decl
use Rattle.pipe_text.specs.Words.{decl_letters}
use Rattle.pipe_text.specs.FileGrammar.{is_pool_decl, DeclareAll, FileSpells}
use Rattle.pipe_text.specs.Files.{program_of, count_of, all_terms}
use Rattle.pipe_text.specs.inside.Readers.{◌>>=◌, Reader, fault_of, seq, keyword_at}
use Rattle.pipe_text.specs.inside.TermReading.{beyond}
use Rattle.pipe_text.specs.inside.FileReading.{Bounds, file_bounds, seen_in, decl_at, decls_at, all_at, version_choice, version_at, made, program_at, read_of}
use Rattle.pipe_text.specs.FirstFault.{Sound, File, FileIs, IsFile, Begins, GoesOn, SameLimit, RightAt, RightAtStop, IsRight, IsRightFault}
use Rattle.pipe_text.proofs.Exactly.{tokens_in-append}
use Rattle.pipe_text.proofs.Finding.{Then}
use Rattle.pipe_text.proofs.FileFinds.{Keyword, shorter, enough}
use Rattle.pipe_text.proofs.WholeFile.{OneVersion, file_read}
use Rattle.pipe_text.proofs.Wider.{Wider, Up, SameNamed}
use Rattle.pipe_text.proofs.Locals.{Local, LocalFor, Says, Taken, AtToken, Ended, SameNext, bind_err, err_stays, ok_goes, says_wider, same_self, next_along, local_branch, local_seq, for_give, for_syntax, which}
use Rattle.pipe_text.proofs.TermLocals.{roomy, local_keyword}
use Rattle.pipe_text.proofs.FileLocals.{DeclG, part_decl}
use Rattle.value_core.proofs.Basics.{nat_is, nat_lt_is, or_left, or_right}

-- ---- declarations up to the end

-- declarations after those before, with room for one more of what is counted
abbrev AllG : Bounds → ℕ → List Declaration → List Declaration → List Token → Type 0
AllG b v before all ks = (more : List Declaration) × (all ≡ before ++ more) × DeclareAll (roomy b.lim) (suc b.depth) v more ks

abbrev AllAt : ℕ → List Declaration → Bounds → Reader (List Declaration)
AllAt v before e = all_at e v before

open_same : (e : Bounds) (v n size : ℕ) (before : List Declaration) (s : Stop) (r : Result (Declaration × List TokenAt) Fault) → ((d : Declaration) (rest : List TokenAt) → r ≡ Ok (d, rest) → length rest < size) → size ≤ suc n
    → (r >>= λ y. decls_at e v n (before ++ y.0 ∷ []) s y.1) ≡ (r >>= λ y. all_at e v (before ++ y.0 ∷ []) s y.1)
unfolding all_at
open_same e v n size before s (Ok y) short fits = let less = short y.0 y.1 refl in enough e v n (length y.1) (before ++ y.0 ∷ []) s y.1 (omega (arith, less, fits)) (omega arith)
open_same e v n size before s (Err f) short fits = refl

-- one declaration, and those after it
pub all_open : (e : Bounds) (v : ℕ) (before : List Declaration) (s : Stop) (u : TokenAt) (more : List TokenAt) → all_at e v before s (u ∷ more) ≡ (decl_at e (seen_in v before) s (u ∷ more) >>= λ y. all_at e v (before ++ y.0 ∷ []) s y.1)
unfolding all_at decls_at
all_open e v before s u more = open_same e v (length more) (length (u ∷ more)) before s (decl_at e (seen_in v before) s (u ∷ more)) (λ d rest h. shorter e (seen_in v before) d s (u ∷ more) rest h) (omega arith)

open_at : (e : Bounds) (v : ℕ) (before : List Declaration) (s : Stop) (ts : List TokenAt) (u : TokenAt) (more : List TokenAt) → ts ≡ u ∷ more → all_at e v before s ts ≡ (decl_at e (seen_in v before) s ts >>= λ y. all_at e v (before ++ y.0 ∷ []) s y.1)
open_at e v before s ts u more is = rw is (all_open e v before s u more)

first_token : (front after : List TokenAt) (t : TokenAt) → (u : TokenAt) × (more : List TokenAt) × (front ++ t ∷ after ≡ u ∷ more)
first_token [] after t = (t, after, refl)
first_token (u ∷ front) after t = (u, front ++ t ∷ after, refl)

begins_one : (b : Bounds) (v : ℕ) (before : List Declaration) (ks : List Token) → Begins (DeclG b v) ks → Begins (AllG b v before) ks
begins_one b v before ks (d, k, rest, g) = (before ++ d ∷ [], k, rest, (d ∷ [], refl, (ks ++ k ∷ rest, [], sym (append-nil (ks ++ k ∷ rest)), g, refl)))

goes_one : (b : Bounds) (v : ℕ) (before : List Declaration) (ks : List Token) → GoesOn (DeclG b v) ks → GoesOn (AllG b v before) ks
goes_one b v before ks (d, rest, g) = (before ++ d ∷ [], rest, (d ∷ [], refl, (ks ++ rest, [], sym (append-nil (ks ++ rest)), g, refl)))

begins_more : (b : Bounds) (v : ℕ) (before : List Declaration) (d : Declaration) (k1 ks : List Token) → DeclG b v d k1 → Begins (AllG b v (before ++ d ∷ [])) ks → Begins (AllG b v before) (k1 ++ ks)
begins_more b v before d k1 ks g (all, k, rest, (more, is, h)) = (all, k, rest, (d ∷ more, is ∙ append_assoc before (d ∷ []) more, (k1, ks ++ k ∷ rest, append_assoc k1 ks (k ∷ rest), g, h)))

goes_more : (b : Bounds) (v : ℕ) (before : List Declaration) (d : Declaration) (k1 ks : List Token) → DeclG b v d k1 → GoesOn (AllG b v (before ++ d ∷ [])) ks → GoesOn (AllG b v before) (k1 ++ ks)
goes_more b v before d k1 ks g (all, rest, (more, is, h)) = (all, rest, (d ∷ more, is ∙ append_assoc before (d ∷ []) more, (k1, ks ++ rest, append_assoc k1 ks rest, g, h)))

begins_all : (b : Bounds) (v : ℕ) (before : List Declaration) → Begins (AllG b v before) []
begins_all b v before =
    let d : Declaration = declare.Pool (record { name = []; hold = 0 }) in
    (before ++ d ∷ [], Name (decl_letters decl.Pool), Name [] ∷ Name (codes "hold") ∷ Number 0 ∷ [], (d ∷ [], refl, (Name (decl_letters decl.Pool) ∷ Name [] ∷ Name (codes "hold") ∷ Number 0 ∷ [], [], refl, is_pool_decl [] 0 (Name []) (Number 0) refl (refl, refl), refl)))

abbrev Judged : Bounds → ℕ → List Declaration → Stop → List TokenAt → Fault → Type 0
Judged b v before s ts f = Ended b (AllAt v before) (AllG b v before) s ts f ⊎ AtToken b (AllAt v before) (AllG b v before) ts f

abbrev refused : Fault → Result (List Declaration × List TokenAt) Fault
refused f = Err f

err_is : (f g : Fault) → refused f ≡ refused g → f ≡ g
err_is f g e = cc

none_judged : (b : Bounds) (v : ℕ) (before : List Declaration) (s : Stop) (f : Fault) → all_at b v before s [] ≡ Err f → Judged b v before s [] f
unfolding all_at decls_at
none_judged b v before (stop.Lex p) f e = inl (sym (err_is (Lex p) f e), begins_all b v before, λ e' w. e)
none_judged b v before (stop.End p) f e = absurd cc

decl_judged : (b : Bounds) (v : ℕ) (before : List Declaration) (s : Stop) (t : TokenAt) (ts : List TokenAt) (f : Fault) → decl_at b (seen_in v before) s (t ∷ ts) ≡ Err f → Judged b v before s (t ∷ ts) f
decl_judged b v before s t ts f one_err = elim ((part_decl b (seen_in v before)).local.err s (t ∷ ts) f one_err) [
  | inl (is, begins, all) ↦ inl (is, begins_one b v before (tokens_in (t ∷ ts)) begins, λ e' w. all_open e' v before s t ts ∙ err_stays _ _ _ (all e' w))
  | inr (front, u, after, parts, says, local) ↦ inr (
    front,
    u,
    after,
    parts,
    says_wider (DeclG b v) (AllG b v before) [] u f (tokens_in front) (begins_one b v before (tokens_in front)) (goes_one b v before (tokens_in front ++ u.token ∷ [])) says,
    λ e' s' after' up. let h = first_token front after' u in open_at e' v before s' (front ++ u ∷ after') h.0 h.1 h.2 ∙ err_stays _ _ _ (local e' s' after' up),
  )
]

later_judged : (b : Bounds) (v : ℕ) (before : List Declaration) (s : Stop) (t : TokenAt) (ts : List TokenAt) (f : Fault) (d : Declaration) (rest : List TokenAt) → Taken b (λ e. decl_at e (seen_in v before)) (DeclG b v) s (t ∷ ts) d rest → Judged b v (before ++ d ∷ []) s rest f → Judged b v before s (t ∷ ts) f
later_judged b v before s t ts f d rest (front, parts, g, on) (inl (is, begins, all)) = inl (
  is,
  subst (λ (l : List TokenAt). Begins (AllG b v before) (tokens_in l)) (sym parts) (rw (tokens_in-append front rest) (begins_more b v before d (tokens_in front) (tokens_in rest) g begins)),
  λ e' w. all_open e' v before s t ts ∙ ok_goes _ _ _ _ (ap (decl_at e' (seen_in v before) s) parts ∙ on e' s rest w (same_self s rest)) (all e' w),
)
later_judged b v before s t ts f d rest (front, parts, g, on) (inr (mid, u, after, split, says, local)) = inr (
  front ++ mid,
  u,
  after,
  parts ∙ ap (λ (l : List TokenAt). front ++ l) split ∙ sym (append_assoc front mid (u ∷ after)),
  rw (tokens_in-append front mid) (says_wider (AllG b v (before ++ d ∷ [])) (AllG b v before) (tokens_in front) u f (tokens_in mid) (begins_more b v before d (tokens_in front) (tokens_in mid) g) (goes_more b v before d (tokens_in front) (tokens_in mid ++ u.token ∷ []) g) says),
  λ e' s' after' up.
      let h = first_token (front ++ mid) after' u in
      open_at e' v before s' ((front ++ mid) ++ u ∷ after') h.0 h.1 h.2
      ∙ rw (append_assoc front mid (u ∷ after')) (ok_goes _ _ _ _ (on e' s' (mid ++ u ∷ after') up.0 (subst (λ (l : List TokenAt). SameNext s l s' (mid ++ u ∷ after')) (sym split) (next_along s s' mid after after' u))) (local e' s' after' up)),
)

decls_judged : (b : Bounds) (v n : ℕ) (before : List Declaration) (s : Stop) (ts : List TokenAt) (f : Fault) → length ts ≤ n → all_at b v before s ts ≡ Err f → Judged b v before s ts f
decls_judged b v n before s [] f few e = none_judged b v before s f e
decls_judged b v zero before s (t ∷ ts) f few e = absurd (omega (arith, few))
decls_judged b v (suc n) before s (t ∷ ts) f few e = elim (bind_err (decl_at b (seen_in v before) s (t ∷ ts)) (λ y. all_at b v (before ++ y.0 ∷ []) s y.1) f (sym (all_open b v before s t ts) ∙ e)) [
  | inl one_err ↦ decl_judged b v before s t ts f one_err
  | inr (z, good, two) ↦
      let less = shorter b (seen_in v before) z.0 s (t ∷ ts) z.1 good in
      later_judged b v before s t ts f z.0 z.1 ((part_decl b (seen_in v before)).local.ok s (t ∷ ts) z.0 z.1 good) (decls_judged b v n (before ++ z.0 ∷ []) s z.1 f (omega (arith, less, few)) two)
]

-- ---- the head of a file

begins_version : Begins OneVersion []
begins_version = (1, Number 1, [], (inl refl, refl))

version_number : (b : Bounds) (m : ℕ) → LocalFor b (λ e. version_choice (Number m)) OneVersion (Number m)
version_number b m = elim (which (m == 1)) [
  | inl first ↦ for_give b (λ e. version_choice (Number m)) OneVersion (Number m) 1 (λ e w. rw first refl) (inl refl, λ i. Number (nat_is m 1 first i) ∷ [])
  | inr other ↦ elim (which (m == 2)) [
    | inl second ↦ for_give b (λ e. version_choice (Number m)) OneVersion (Number m) 2 (λ e w. rw (other, second) refl) (inr refl, λ i. Number (nat_is m 2 second i) ∷ [])
    | inr none ↦ for_syntax b (λ e. version_choice (Number m)) OneVersion (Number m) begins_version (λ e. rw (other, none) refl)
  ]
]

version_for : (b : Bounds) (k : Token) → LocalFor b (λ e. version_choice k) OneVersion k
version_for b (Number m) = version_number b m
version_for b (Name m) = for_syntax b _ OneVersion (Name m) begins_version (λ e. refl)
version_for b (Words m) = for_syntax b _ OneVersion (Words m) begins_version (λ e. refl)
version_for b (Mark m) = for_syntax b _ OneVersion (Mark m) begins_version (λ e. refl)
version_for b LongName = for_syntax b _ OneVersion LongName begins_version (λ e. refl)
version_for b LongText = for_syntax b _ OneVersion LongText begins_version (λ e. refl)

abbrev HeadG : ℕ → List Token → Type 0
HeadG = Then (Keyword (codes "pipeline")) (λ u. OneVersion)

abbrev Head : Bounds → Reader ℕ
Head e = seq (keyword_at (codes "pipeline")) (λ u. version_at)

local_head : (b : Bounds) → Local b Head HeadG
local_head b = local_seq b (λ e. keyword_at (codes "pipeline")) (λ e u. version_at) (Keyword (codes "pipeline")) (λ u. OneVersion) (λ u. (1, Number 1 ∷ [], (inl refl, refl))) (local_keyword b (codes "pipeline")) (λ u can. local_branch b (λ e. version_choice) OneVersion begins_version (version_for b))

-- ---- a whole file

abbrev FileG : Bounds → File → List Token → Type 0
FileG b f ks = FileSpells (roomy b.lim) (suc b.depth) f.0 f.1 ks

begins_head : (b : Bounds) (ks : List Token) → Begins HeadG ks → Begins (FileG b) ks
begins_head b ks (v, k, rest, (u, k1, k2, parts, word, (is, number))) = ((v, []), k, rest, (is, [], rw (parts, word, number) refl, refl))

goes_head : (b : Bounds) (ks : List Token) → GoesOn HeadG ks → GoesOn (FileG b) ks
goes_head b ks (v, rest, (u, k1, k2, parts, word, (is, number))) = ((v, []), rest, (is, [], rw (parts, word, number) refl, refl))

begins_file : (b : Bounds) (v : ℕ) (k1 ks : List Token) → HeadG v k1 → Begins (AllG b v []) ks → Begins (FileG b) (k1 ++ ks)
begins_file b v k1 ks (u, a1, a2, parts, word, (is, number)) (all, k, rest, (more, same, h)) = ((v, more), k, rest, (is, ks ++ k ∷ rest, rw (append_assoc k1 ks (k ∷ rest), parts, word, number) refl, h))

goes_file : (b : Bounds) (v : ℕ) (k1 ks : List Token) → HeadG v k1 → GoesOn (AllG b v []) ks → GoesOn (FileG b) (k1 ++ ks)
goes_file b v k1 ks (u, a1, a2, parts, word, (is, number)) (all, rest, (more, same, h)) = ((v, more), rest, (is, ks ++ rest, rw (append_assoc k1 ks rest, parts, word, number) refl, h))

-- the fault of a file, at these bounds and at wider ones
abbrev FileEnded : Bounds → Stop → List TokenAt → Fault → Type 0
FileEnded b s ts f = (f ≡ fault_of s) × Begins (FileG b) (tokens_in ts) × ((e : Bounds) → Wider b e → program_at e s ts ≡ Err f)

abbrev FileAtToken : Bounds → List TokenAt → Fault → Type 0
FileAtToken b ts f = (front : List TokenAt) × (t : TokenAt) × (after : List TokenAt) × (ts ≡ front ++ t ∷ after) × Says (FileG b) (tokens_in front) t f
    × ((e : Bounds) (s : Stop) (after' : List TokenAt) → Up f b e → program_at e s (front ++ t ∷ after') ≡ Err f)

pub made_err : (v : ℕ) (r : Result (List Declaration × List TokenAt) Fault) (f : Fault) → made v r ≡ Err f → r ≡ Err f
made_err v (Ok x) f e = absurd cc
made_err v (Err g) f e = cc

made_stays : (v : ℕ) (r : Result (List Declaration × List TokenAt) Fault) (f : Fault) → r ≡ Err f → made v r ≡ Err f
made_stays v r f e = rw e refl

head_judged : (b : Bounds) (s : Stop) (ts : List TokenAt) (f : Fault) → Head b s ts ≡ Err f → FileEnded b s ts f ⊎ FileAtToken b ts f
unfolding program_at
head_judged b s ts f e = elim ((local_head b).err s ts f e) [
  | inl (is, begins, all) ↦ inl (is, begins_head b (tokens_in ts) begins, λ e' w. err_stays _ _ _ (all e' w))
  | inr (front, u, after, parts, says, local) ↦ inr (front, u, after, parts, says_wider HeadG (FileG b) [] u f (tokens_in front) (begins_head b (tokens_in front)) (goes_head b (tokens_in front ++ u.token ∷ [])) says, λ e' s' after' up. err_stays _ _ _ (local e' s' after' up))
]

rest_judged : (b : Bounds) (s : Stop) (ts : List TokenAt) (f : Fault) (v : ℕ) (rest : List TokenAt) → Taken b Head HeadG s ts v rest → Judged b v [] s rest f → FileEnded b s ts f ⊎ FileAtToken b ts f
unfolding program_at
rest_judged b s ts f v rest (front, parts, g, on) (inl (is, begins, all)) = inl (
  is,
  rw (parts, tokens_in-append front rest) (begins_file b v (tokens_in front) (tokens_in rest) g begins),
  λ e' w. ok_goes _ _ _ _ (ap (Head e' s) parts ∙ on e' s rest w (same_self s rest)) (made_stays v _ f (all e' w)),
)
rest_judged b s ts f v rest (front, parts, g, on) (inr (mid, u, after, split, says, local)) = inr (
  front ++ mid,
  u,
  after,
  parts ∙ ap (λ (l : List TokenAt). front ++ l) split ∙ sym (append_assoc front mid (u ∷ after)),
  rw (tokens_in-append front mid) (says_wider (AllG b v []) (FileG b) (tokens_in front) u f (tokens_in mid) (begins_file b v (tokens_in front) (tokens_in mid) g) (goes_file b v (tokens_in front) (tokens_in mid ++ u.token ∷ []) g) says),
  λ e' s' after' up. rw (append_assoc front mid (u ∷ after')) (ok_goes _ _ _ _ (on e' s' (mid ++ u ∷ after') up.0 (subst (λ (l : List TokenAt). SameNext s l s' (mid ++ u ∷ after')) (sym split) (next_along s s' mid after after' u))) (made_stays v _ f (local e' s' after' up))),
)

file_judged : (b : Bounds) (s : Stop) (ts : List TokenAt) (f : Fault) → program_at b s ts ≡ Err f → FileEnded b s ts f ⊎ FileAtToken b ts f
unfolding program_at
file_judged b s ts f e = elim (bind_err (Head b s ts) (λ x. made x.0 (all_at b x.0 [] s x.1)) f e) [
  | inl one_err ↦ head_judged b s ts f one_err
  | inr (x, good, two) ↦ rest_judged b s ts f x.0 x.1 ((local_head b).ok s ts x.0 x.1 good) (decls_judged b x.0 (length x.1) [] s x.1 f (omega arith) (made_err x.0 (all_at b x.0 [] s x.1) f two))
]

-- ---- bounds that allow what either of both allows

join : Bounds → Bounds → Bounds
join b c = record {
  lim = record { more_items = max b.lim.more_items c.lim.more_items; more_words = max b.lim.more_words c.lim.more_words; lifted = λ what. b.lim.lifted what || c.lim.lifted what };
  depth = max b.depth c.depth;
  terms = max b.terms c.terms;
  most = λ w. max (b.most w) (c.most w);
  twice = b.twice || c.twice;
}

or_same : (x y : Bool) → x ≡ y → x ≡ (x || y)
or_same true y e = refl
or_same false y e = e

max_same : (m n : ℕ) → m ≡ n → m ≡ max m n
max_same m n h = omega (arith, h)

join_left : (b c : Bounds) → Wider b (join b c)
unfolding join
join_left b c = record { lim = record { items = omega arith; words = omega arith; lifted = λ what. or_left (b.lim.lifted what) (c.lim.lifted what) }; depth = omega arith; terms = omega arith; most = λ w. omega arith; twice = or_left b.twice c.twice }

join_right : (b c : Bounds) → Wider c (join b c)
unfolding join
join_right b c = record { lim = record { items = omega arith; words = omega arith; lifted = λ what. or_right (b.lim.lifted what) (c.lim.lifted what) }; depth = omega arith; terms = omega arith; most = λ w. omega arith; twice = or_right b.twice c.twice }

join_limit : (m : LimitName) (b c : Bounds) → SameLimit m b c → SameLimit m b (join b c)
unfolding join
join_limit limit.File b c h = or_same (b.lim.lifted limit.File) (c.lim.lifted limit.File) h
join_limit limit.Inputs b c h = max_same (b.most decl.Input) (c.most decl.Input) h
join_limit limit.Pools b c h = max_same (b.most decl.Pool) (c.most decl.Pool) h
join_limit limit.Clients b c h = max_same (b.most decl.Client) (c.most decl.Client) h
join_limit limit.Workers b c h = max_same (b.most decl.Worker) (c.most decl.Worker) h
join_limit limit.Ops b c h = max_same (b.most decl.Op) (c.most decl.Op) h
join_limit limit.Nodes b c h = max_same (b.most decl.Node) (c.most decl.Node) h
join_limit limit.Terms b c h = max_same b.terms c.terms h
join_limit limit.Depth b c h = max_same b.depth c.depth h
join_limit limit.Text b c h = or_same (b.lim.lifted limit.Text) (c.lim.lifted limit.Text) h
join_limit limit.Name b c h = or_same (b.lim.lifted limit.Name) (c.lim.lifted limit.Name) h
join_limit limit.List b c h = max_same b.lim.more_items c.lim.more_items h
join_limit limit.Words b c h = max_same b.lim.more_words c.lim.more_words h
join_limit limit.Hold b c h = or_same (b.lim.lifted limit.Hold) (c.lim.lifted limit.Hold) h
join_limit limit.Rate b c h = or_same (b.lim.lifted limit.Rate) (c.lim.lifted limit.Rate) h
join_limit limit.Capacity b c h = or_same (b.lim.lifted limit.Capacity) (c.lim.lifted limit.Capacity) h
join_limit limit.Cost b c h = or_same (b.lim.lifted limit.Cost) (c.lim.lifted limit.Cost) h
join_limit limit.ValidFor b c h = or_same (b.lim.lifted limit.ValidFor) (c.lim.lifted limit.ValidFor) h
join_limit limit.Minute b c h = or_same (b.lim.lifted limit.Minute) (c.lim.lifted limit.Minute) h
join_limit limit.Day b c h = or_same (b.lim.lifted limit.Day) (c.lim.lifted limit.Day) h
join_limit limit.Offset b c h = or_same (b.lim.lifted limit.Offset) (c.lim.lifted limit.Offset) h

join_up : (f : Fault) (b c : Bounds) → SameNamed f b c → Up f b (join b c)
unfolding join
join_up (Limit m n p) b c h = (join_left b c, join_limit m b c h)
join_up (Lex p) b c h = (join_left b c, tt)
join_up (Syntax p) b c h = (join_left b c, tt)
join_up (Duplicate n p) b c h = (join_left b c, or_same b.twice c.twice h)

not_twice : (x y : Bool) → (x ≡ true → y ≡ true) → y ≡ false → x ≡ false
not_twice true y h e = absurd (let wrong = h refl in cc)
not_twice false y h e = refl

sound_wider : (c e : Bounds) (ds : List Declaration) → Wider c e → Sound c ds → Sound e ds
sound_wider c e ds w s = record {
  few = λ x. let few = s.few x in let more = w.most x in omega (arith, few, more);
  terms = let few = s.terms in let more = w.terms in omega (arith, few, more);
  apart = λ once. s.apart (not_twice c.twice e.twice w.twice once);
}

-- ---- the fault is right

placed : List Token → List TokenAt
placed [] = []
placed (k ∷ ks) = record { token = k; offset = 0 } ∷ placed ks

tokens_in-placed : (ks : List Token) → tokens_in (placed ks) ≡ ks
unfolding placed
tokens_in-placed [] = refl
tokens_in-placed (k ∷ ks) = ap (λ (l : List Token). k ∷ l) (tokens_in-placed ks)

with_more : (front : List TokenAt) (t : TokenAt) (more : List Token) → tokens_in (front ++ t ∷ placed more) ≡ tokens_in front ++ t.token ∷ more
with_more front t more = tokens_in-append front (t ∷ placed more) ∙ ap (λ (l : List Token). tokens_in front ++ t.token ∷ l) (tokens_in-placed more)

-- a file within some bounds is read at wider ones
read_wider : (c e : Bounds) (f : File) (offset : ℕ) (ts : List TokenAt) → Wider c e → FileIs c f (tokens_in ts) → program_at e (stop.End offset) ts ≡ Ok (program_of f.0 f.1)
read_wider c e f offset ts w (spelled, sound) = file_read c.lim c.depth e f.0 f.1 offset ts w.lim w.depth spelled (sound_wider c e f.1 w sound)

never_both : (r : Result Program Fault) (p : Program) (f : Fault) → r ≡ Ok p → r ≡ Err f → ⊥
never_both (Ok q) p f e h = cc
never_both (Err g) p f e h = cc

-- A file that went on with the token would be read, at its own bounds.
none_goes_on : (b : Bounds) (front : List TokenAt) (t : TokenAt) (f : Fault) → ((e : Bounds) (s : Stop) (after : List TokenAt) → Up f b e → program_at e s (front ++ t ∷ after) ≡ Err f) → (c : Bounds) → SameNamed f b c → (a : File) (more : List Token) → FileIs c a (tokens_in front ++ t.token ∷ more) → ⊥
none_goes_on b front t f local c same a more is =
    let j = join b c in
    let spelled : FileIs c a (tokens_in (front ++ t ∷ placed more)) = rw (with_more front t more) is in
    never_both (program_at j (stop.End 0) (front ++ t ∷ placed more)) (program_of a.0 a.1) f (read_wider c j a 0 (front ++ t ∷ placed more) (join_right b c) spelled) (local j (stop.End 0) (placed more) (join_up f b c same))

in_file : (b : Bounds) (f : File) (ks : List Token) → FileG b f ks → IsFile f ks
in_file b f ks h = (record { lim = roomy b.lim; depth = suc b.depth; terms = all_terms f.1; most = λ w. count_of w f.1; twice = true }, (h, record { few = λ w. omega arith; terms = omega arith; apart = λ e. absurd cc }))

begins_in : (b : Bounds) (ks : List Token) → Begins (FileG b) ks → Begins IsFile ks
begins_in b ks (x, k, rest, h) = (x, k, rest, in_file b x (ks ++ k ∷ rest) h)

goes_in : (b : Bounds) (ks : List Token) → GoesOn (FileG b) ks → GoesOn IsFile ks
goes_in b ks (x, rest, h) = (x, rest, in_file b x (ks ++ rest) h)

right_at : (b : Bounds) (front : List TokenAt) (t : TokenAt) (f : Fault) → Says (FileG b) (tokens_in front) t f → ((e : Bounds) (s : Stop) (after : List TokenAt) → Up f b e → program_at e s (front ++ t ∷ after) ≡ Err f) → RightAt b (tokens_in front) t f
right_at b front t (Lex p) says local = says
right_at b front t (Syntax p) (is, begins) local = (is, begins_in b (tokens_in front) begins, λ a more (c, stands). none_goes_on b front t (Syntax p) local c tt a more stands)
right_at b front t (Limit m n p) (is, number, goes) local = (is, number, goes_in b (tokens_in front ++ t.token ∷ []) goes, λ a more c same stands. none_goes_on b front t (Limit m n p) local c same a more stands)
right_at b front t (Duplicate n p) (is, goes) local = (is, goes_in b (tokens_in front ++ t.token ∷ []) goes, λ a more c same stands. none_goes_on b front t (Duplicate n p) local c same a more stands)

right_at_stop : (b : Bounds) (s : Stop) (ts : List TokenAt) (f : Fault) → Begins (FileG b) (tokens_in ts) → ((e : Bounds) → Wider b e → program_at e s ts ≡ Err f) → RightAtStop s (tokens_in ts)
right_at_stop b (stop.Lex p) ts f begins all = begins_in b (tokens_in ts) begins
right_at_stop b (stop.End p) ts f begins all = (begins_in b (tokens_in ts) begins, λ a (c, stands). never_both (program_at (join b c) (stop.End p) ts) (program_of a.0 a.1) f (read_wider c (join b c) a p ts (join_right b c) stands) (all (join b c) (join_left b c)))

is_right : (b : Bounds) (s : Stop) (ts : List TokenAt) (f : Fault) → program_at b s ts ≡ Err f → IsRight b s ts f
is_right b s ts f e = elim (file_judged b s ts f e) [
  | inl (is, begins, all) ↦ inl (is, right_at_stop b s ts f begins all)
  | inr (front, t, after, parts, says, local) ↦ inr (front, t, after, parts, right_at b front t f says local)
]

-- ---- the bytes of a file

too_many : (bytes : List ℕ) (b : Bool) (f : Fault) → nat_lt 1048576 (length bytes) ≡ b → cond b (Err (beyond limit.File 0)) (program_at file_bounds (lexed bytes).stop (lexed bytes).tokens) ≡ Err f
    → ((f ≡ Limit limit.File 1048576 0) × (1048576 < length bytes)) ⊎ IsRight file_bounds (lexed bytes).stop (lexed bytes).tokens f
too_many bytes true f long e = inl (cc, nat_lt_is 1048576 (length bytes) long)
too_many bytes false f long e = inr (is_right file_bounds (lexed bytes).stop (lexed bytes).tokens f e)

pub right_fault : (bytes : List ℕ) (f : Fault) → read_of bytes ≡ Err f → IsRightFault bytes f
unfolding read_of
right_fault bytes f e = too_many bytes (nat_lt 1048576 (length bytes)) f refl e
