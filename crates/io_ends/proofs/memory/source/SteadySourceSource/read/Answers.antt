use Rattle.std.proofs.Common.{◌≡◌, ◌+◌, ◌∙◌, ℕ, List, ◌++◌, take, drop, sym, ap}
use Rattle.std.proofs.lemmas.List.{take-append-drop, drop-drop, nil_from_length}
use Rattle.io_ends.proofs.memory.source.SteadySourceSource.read.Goals as goal

-- what is left is what was given and then the rest
given : (xs room : List ℕ) (at n : ℕ) → take n room ≡ take n (drop at xs) → drop at xs ≡ take n room ++ drop (at + n) xs
given xs room at n front = sym (rw (front, ← drop-drop n at xs) (take-append-drop n (drop at xs)))

pub returns-clause-bytes : goal.returns-clause-bytes
returns-clause-bytes c =
    let rest = c.split_at.ensures.back ∙ ap (drop c.args.self.now.at) c.as_slice.ensures.value in
    let front = rw rest at c.give-count.ensures.front in
    let none = rw rest at c.give-count.ensures.some in (
      given c.args.self.now.bytes.items _ _ _ front,
      λ zero some. rw (← drop-drop c.give-count.result c.args.self.now.at c.args.self.now.bytes.items, zero) (nil_from_length _ (none c.args.self.now.some some zero)),
    )
