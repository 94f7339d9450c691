use Rattle.std.proofs.Common.{rules, of_calls, Ok, Err}
use Rattle.std.proofs.lemmas.Fn.{always_returns_same}
use Rattle.std.specs.List.Sorted.{IsSearchInRange, IsBinarySearchResult}
use Rattle.std.specs.Prelude.{MatchResult, Result, ℕ, length, List}
use Rattle.fair_pool.specs.Hints.{HintKey, hint_key_cmp, hint_key}
use Rattle.fair_pool.specs.Kept.{AreHintsKept, IsKnownAt, IsMissingAt}
use Rattle.fair_pool.proofs.HintTable.{searchable}
use Rattle.fair_pool.specs.declared.ticket.HintWorker.{HintWorker}
use Rattle.fair_pool.proofs.hints.search.Goals as goal

told : (k : HintKey) (hs : List HintWorker) (r : Result ℕ ℕ) → AreHintsKept hs → IsSearchInRange r (length hs) → IsBinarySearchResult (λ h. hint_key_cmp (hint_key h) k) hs r → MatchResult r (IsKnownAt k hs) (IsMissingAt k hs)
told k hs (Ok at) t b h = (b, h)
told k hs (Err at) t b h = (b, h (searchable hs k t))

pub returns : goal.returns
returns c =
    let k : HintKey = record { pool = c.args.pool; hint = c.args.hint.now } in
    told k c.args.known.now c.binary_search_by.result c.requires c.binary_search_by.ensures.bound
    (c.binary_search_by.ensures.position (λ h. hint_key_cmp (hint_key h) k) (always_returns_same _ _ _ (λ a r f e. search (rules, of_calls))))
