-- The changed nodes of a reply, put over the old states, give the new ones.
use Rattle.std.proofs.Common.{◌≡◌, ℕ, ◌+◌, true, false, List, [], ◌∷◌, ◌++◌, length, refl, ap, sym, ◌∙◌, subst, arith}
use Rattle.std.specs.Prelude.{if◌then◌else◌, slice_set}
use Rattle.value_core.specs.declared.value.Value.{Value}
use Rattle.value_core.specs.declared.state.State.{State}
use Rattle.value_core.specs.Codes.{state_code}
use Rattle.core_rules.proofs.Moves.{accepts}
use Rattle.core_rules.proofs.Numbers.{frame_of}
use Rattle.core_rules.proofs.Settling.{same_settled}
use Rattle.core_rules.specs.Core.{CoreState}
use Rattle.core_rules.specs.Entries.{states, world}
use Rattle.core_rules.specs.Laws.{with_changes}
use Rattle.core_rules.specs.Replays.{Replays}
use Rattle.core_rules.specs.declared.log.Logged.{Logged}
use Rattle.core_rules.specs.declared.log.Logged.TheVariants as logged
use Rattle.core_rules.specs.declared.done.Done.{Done}
use Rattle.core_rules.specs.Replies.{changed_from}
use Rattle.core_rules.specs.Settling.{wanted}
use Rattle.core_rules.specs.Steps.{Accepted, Answer, at_time, step}
use Rattle.core_rules.specs.declared.events.Event.{Event}
use Rattle.term_core.specs.Evaluation.{eval, context_of}
use Rattle.term_core.specs.Fresh.{fresh, fresh_from}
use Rattle.term_core.specs.Runs.{Run}
use Rattle.term_core.specs.World.{World}
use Rattle.term_core.specs.declared.program.NodeDecl.{NodeDecl}
use Rattle.term_core.specs.declared.program.Program.{Program}
use Rattle.value_core.proofs.Sames.{same_true}
use Rattle.value_core.specs.Same.{same}

set_at : (xs : List State) (a b : State) (ys : List State) (n : ℕ) → n ≡ length xs → slice_set (xs ++ a ∷ ys) n b ≡ xs ++ b ∷ ys
set_at [] a b ys n e = ap (λ m. slice_set (a ∷ ys) m b) e
set_at (x ∷ xs) a b ys n e = ap (λ m. slice_set (x ∷ (xs ++ a ∷ ys)) m b) e ∙ ap (λ zs. x ∷ zs) (set_at xs a b ys (length xs) refl)

length-push : (xs : List State) (x : State) (n : ℕ) → n ≡ length xs → n + 1 ≡ length (xs ++ x ∷ [])
length-push [] x n e = omega (arith, e)
length-push (y ∷ xs) x n e = let h = length-push xs x (length xs) refl in omega (arith, e, h)

push_in : (xs : List State) (x : State) (ys : List State) → (xs ++ x ∷ []) ++ ys ≡ xs ++ x ∷ ys
push_in [] x ys = refl
push_in (y ∷ xs) x ys = ap (λ zs. y ∷ zs) (push_in xs x ys)

changed_makes : (front old new : List State) (n : ℕ) → n ≡ length front → length old ≡ length new → with_changes (front ++ old) (changed_from n old new) ≡ front ++ new
changed_makes front [] [] n e l = refl
changed_makes front [] (b ∷ bs) n e l = absurd (omega arith)
changed_makes front (a ∷ as') [] n e l = absurd (omega arith)
changed_makes front (a ∷ as') (b ∷ bs) n e l = elim (same state_code a b) as (λ c. same state_code a b ≡ c → with_changes (front ++ a ∷ as') (if c then changed_from (n + 1) as' bs else ((n, b) ∷ changed_from (n + 1) as' bs)) ≡ front ++ b ∷ bs) [
  | true ↦ λ is.
      let same : a ≡ b = same_true state_code a b is in
      ap (λ z. with_changes z (changed_from (n + 1) as' bs)) (sym (push_in front a as'))
      ∙ changed_makes (front ++ a ∷ []) as' bs (n + 1) (length-push front a n e) (omega arith)
      ∙ push_in front a bs ∙ ap (λ x. front ++ x ∷ bs) same
  | false ↦ λ is.
      ap (λ z. with_changes z (changed_from (n + 1) as' bs)) (set_at front a b as' n e ∙ sym (push_in front b as'))
      ∙ changed_makes (front ++ b ∷ []) as' bs (n + 1) (length-push front b n e) (omega arith)
      ∙ push_in front b bs
] refl

states_length : (program : Program) (inputs : List Value) (w : World) (at : ℕ) (earlier : List State) (ds : List NodeDecl) → length (fresh_from program inputs w at earlier ds).states ≡ length ds
states_length program inputs w at earlier [] = refl
states_length program inputs w at earlier (d ∷ ds) =
    let r : Run = eval (context_of program at inputs earlier w) d.term [] in
    let h = states_length program inputs w (at + 1) (earlier ++ r.state ∷ []) ds in
    omega (arith, h)

node_count : (s : CoreState) → length (states s) ≡ length s.program.nodes
unfolding fresh
node_count s = states_length s.program s.inputs (world s) 0 [] s.program.nodes

pub changes_make_states : (s : CoreState) (e : Event) (s' : CoreState) (r : Done) → step s e ≡ Accepted s' r → with_changes (states s) r.changed ≡ states s'
changes_make_states s e s' r h =
    let a = accepts s e s' r h in
    let own = (frame_of (at_time s e.at) a.own.state a.moved).program in
    let settled = (same_settled (wanted a.own.state) a.own.state a.after a.settled).program in
    let lengths : length (states s) ≡ length (states a.after) = node_count s ∙ sym (ap (λ (p : Program). length p.nodes) (settled ∙ own)) ∙ sym (node_count a.after) in
    ap (λ (q : Done). with_changes (states s) q.changed) a.reply
    ∙ changed_makes [] (states s) (states a.after) 0 refl lengths
    ∙ ap states (sym a.new)

one_answer : (s t u : CoreState) (r q : Done) (x : Answer) → x ≡ Accepted t r → x ≡ Accepted u q → t ≡ u
one_answer s t u r q x e f = cc

pub replays_are_one : (s t u : CoreState) (es : List Logged) → Replays s es t → Replays s es u → t ≡ u
replays_are_one s t u [] h k = sym h ∙ k
replays_are_one s t u (logged.Accepted e ∷ es) h k = replays_are_one h.0 t u es h.3 (subst (λ z. Replays z es u) (one_answer s k.0 h.0 k.1 h.1 (step s e) k.2 h.2) k.3)
replays_are_one s t u (logged.Refused e f ∷ es) h k = replays_are_one s t u es h.1 k.1
replays_are_one s t u (logged.Ignored e ∷ es) h k = replays_are_one s t u es h.1 k.1
