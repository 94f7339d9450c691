-- What each change leaves of the order of operations and keys.
use Rattle.std.proofs.Common.{◌≡◌, ℕ, ◌+◌, ◌-◌, ◌<◌, ◌≤◌, false, List, [], ◌∷◌, ◌++◌, length, get_or, Option, Some, None, refl, sym, ap, ◌∙◌, subst, arith, Ok, Err}
use Rattle.std.proofs.lemmas.Bool.{both_ways}
use Rattle.std.specs.Prelude.{OnErr, OnOk, Result, insert, max, remove}
use Rattle.fair_pool.proofs.Ordered.{leading_within, length_in_order}
use Rattle.core_rules.specs.Core.{job_numbered, with_job, without_job}
use Rattle.core_rules.specs.Laws.{JobsBelow}
use Rattle.core_rules.specs.Settling.{live_on, on_key}
use Rattle.core_rules.specs.declared.jobs.Job.{Job}
use Rattle.job_core.specs.Keys.{AreKeysKept, by_keys, is_key_before, key_before, key_rank}
use Rattle.job_core.specs.Live.{LiveState}
use Rattle.job_core.proofs.Keys.{live_at, live_rank, map_length, number_pushed, numbers_like, plain_of, plain_with, rank_of}
use Rattle.job_core.proofs.KeptLive.{kept_changed, kept_less, kept_more}

pub keys_changed : (n : ℕ) (f : Job → Job) (js : List Job) (spare : ℕ) (ns : List ℕ) (fit : ℕ) → ((j : Job) → (f j).number ≡ j.number) → ((j : Job) → (f j).triple ≡ j.triple) → ((j : Job) → plain_of (f j) ≡ plain_of j) →
    AreKeysKept js spare ns fit → AreKeysKept (with_job n f js) spare ns fit
keys_changed n f js spare ns fit number triple plain h = record {
  live = kept_changed n f js spare fit number triple h.live;
  in_keys = h.in_keys ∙ sym (numbers_like (with_job n f js) js (plain_with n f js plain));
}

pub keys_more : (js : List Job) (j : Job) (spare : ℕ) (ns : List ℕ) (fit more at : ℕ) → JobsBelow j.number js → live_on js j.triple.op j.triple.key ≡ None → 0 < spare → at ≡ key_rank j.triple.op j.triple.key js → fit ≤ more →
    AreKeysKept js spare ns fit → AreKeysKept (js ++ j ∷ []) (spare - 1) (insert ns at j.number) more
keys_more js j spare ns fit more at below free some e wider h = record {
  live = kept_more js j spare fit more below free some wider h.live;
  in_keys = (λ i. insert (h.in_keys i) (e i) j.number) ∙ sym (number_pushed js j free);
}

pub keys_less : (js : List Job) (n : ℕ) (j : Job) (spare : ℕ) (ns : List ℕ) (fit at : ℕ) → job_numbered js n ≡ Some j → at ≡ key_rank j.triple.op j.triple.key js →
    AreKeysKept js spare ns fit → AreKeysKept (without_job n js) spare (remove ns at) fit
keys_less js n j spare ns fit at found e h = record {
  live = kept_less n js spare fit h.live;
  in_keys = (λ i. remove (h.in_keys i) (e i)) ∙ (rank_of js n j h.live.rising h.live.one_each found).less;
}

-- how many numbers there are
pub keys_length : (js : List Job) (spare : ℕ) (ns : List ℕ) (fit : ℕ) → AreKeysKept js spare ns fit → length ns ≡ length js
keys_length js spare ns fit h = ap length h.in_keys ∙ map_length (λ j. j.number) (by_keys js) ∙ length_in_order key_before js

-- a rank is within them
pub rank_fits : (op : ℕ) (key : List ℕ) (js : List Job) (spare : ℕ) (ns : List ℕ) (fit : ℕ) → AreKeysKept js spare ns fit → key_rank op key js ≤ length ns
rank_fits op key js spare ns fit h = let a = leading_within (is_key_before op key) (by_keys js) in let b = keys_length js spare ns fit h in let c = length_in_order key_before js in omega arith

-- that of a job is below their count
pub rank_within : (js : List Job) (n : ℕ) (j : Job) (spare : ℕ) (ns : List ℕ) (fit : ℕ) → job_numbered js n ≡ Some j → AreKeysKept js spare ns fit → key_rank j.triple.op j.triple.key js < length ns
rank_within js n j spare ns fit found h =
    let a = (rank_of js n j h.live.rising h.live.one_each found).within in
    let b = keys_length js spare ns fit h in
    let c = length_in_order key_before js in
    omega arith

-- ---- where no live job is found

-- past the last number
pub past_none : (js : List Job) (spare : ℕ) (ns : List ℕ) (fit op : ℕ) (key : List ℕ) → AreKeysKept js spare ns fit → length ns ≤ key_rank op key js → None ≡ live_on js op key
past_none js spare ns fit op key h l = elim (live_on js op key) as (λ o. live_on js op key ≡ o → None ≡ o) [
  | None ↦ λ e. refl
  | Some j ↦ λ e.
      let a = (live_rank js op key j h.live.rising h.live.one_each e).0 in
      let b = keys_length js spare ns fit h in
      let c = length_in_order key_before js in
      absurd (omega arith)
] refl

-- where the number's job isn't of the operation and key
pub found_none : (js : List Job) (spare : ℕ) (ns : List ℕ) (fit op : ℕ) (key : List ℕ) (at n : ℕ) → AreKeysKept js spare ns fit → at ≡ key_rank op key js → n ≡ get_or ns at n →
    (o : Option Job) → o ≡ job_numbered js n → ((j : Job) → o ≡ Some j → on_key op key j.triple ≡ false) → None ≡ live_on js op key
found_none js spare ns fit op key at n h e i o f other = elim (live_on js op key) as (λ x. live_on js op key ≡ x → None ≡ x) [
  | None ↦ λ k. refl
  | Some j ↦ λ k.
      let a = live_at js op key j h.live.rising k in
      let r = live_rank js op key j h.live.rising h.live.one_each k in
      let same : n ≡ j.number = i ∙ (λ x. get_or (h.in_keys x) (e x) n) ∙ r.1 n in
      let is : o ≡ Some j = f ∙ ap (job_numbered js) same ∙ a.found in
      absurd (both_ways (on_key op key j.triple) (other j is) a.of_key)
] refl

-- ---- more room

-- the jobs stay, and there is room for more of them
keys_wider : (js : List Job) (spare wide : ℕ) (ns : List ℕ) (fit more : ℕ) → length js + wide ≤ more → AreKeysKept js spare ns fit → AreKeysKept js wide ns more
keys_wider js spare wide ns fit more l h = record { live = record { rising = h.live.rising; one_each = h.live.one_each; room = l }; in_keys = h.in_keys }

pub keys_reserved : {U E : Type 0} (old new : LiveState) (ns : List ℕ) (fit wider more : ℕ) (r : Result U E) → OnOk r (new ≡ record old { spare = max old.spare more }) → OnErr r (new ≡ old) →
    length ns + more ≤ wider → fit ≤ wider → AreKeysKept old.jobs old.spare ns fit → AreKeysKept new.jobs new.spare ns wider
keys_reserved old new ns fit wider more (Ok u) a b l w h =
    let k = keys_length old.jobs old.spare ns fit h in
    let r = h.live.room in
    subst (λ (s : LiveState). AreKeysKept s.jobs s.spare ns wider) (sym a) (keys_wider old.jobs old.spare (max old.spare more) ns fit wider (omega arith) h)
keys_reserved old new ns fit wider more (Err e) a b l w h =
    let r = h.live.room in
    subst (λ (s : LiveState). AreKeysKept s.jobs s.spare ns wider) (sym b) (keys_wider old.jobs old.spare old.spare ns fit wider (omega arith) h)
