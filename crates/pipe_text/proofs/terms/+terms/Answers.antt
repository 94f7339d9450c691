use Rattle.std.proofs.Common.{◌≡◌, ◌<◌, ◌≤◌, ℕ, [], ◌∷◌, ap, ◌-◌, sym, ◌∙◌, subst, arith, length-append}
use Rattle.pipe_text.specs.Files.{file_limits}
use Rattle.pipe_text.specs.inside.TermReading.{term_at, parts_at, following_parts}
use Rattle.pipe_text.specs.inside.Readers.{Fails}
use Rattle.pipe_text.proofs.Loops.{following_parts_more, following_parts_end, following_parts_err, following_none, open_err}
use Rattle.pipe_text.proofs.terms.+terms.Goals as goal

pub take_term-returns-in-Err-clause-gives : goal.take_term-returns-in-Err-clause-gives
take_term-returns-in-Err-clause-gives t c = open_err file_limits c.args.room.depth c.args.room.left c.args.stop c.args.tokens.now c.in-Err.fault c.in-Err.ensures.gives

pub take_parts-returns-in-Err-clause-gives : goal.take_parts-returns-in-Err-clause-gives
take_parts-returns-in-Err-clause-gives t c = subst (Fails c.in-Err.fault) c.parts.invariant.same (following_parts_err (term_at file_limits c.args.room.depth) _ (c.args.room.left - c.parts.used) c.args.stop c.parts.tokens.now c.parts.parts c.parts.used c.in-Err.fault (rw c.without.ensures at c.in-Err.ensures.gives))

pub take_parts-returns-in-None-clause-gives : goal.take_parts-returns-in-None-clause-gives
take_parts-returns-in-None-clause-gives t c = sym c.parts.invariant.same ∙ following_parts_end (term_at file_limits c.args.room.depth) _ (c.args.room.left - c.parts.used) c.args.stop c.parts.tokens.now c.in-Ok.rest.now c.parts.parts c.parts.used (rw (c.in-None.is, c.without.ensures) at c.in-Ok.ensures.gives)

pub take_parts-parts-init : goal.take_parts-parts-init
take_parts-parts-init t c =
    let z : c.args.room.left - 0 ≡ c.args.room.left = omega arith in
    let same : following_parts [] 0 (parts_at (term_at file_limits c.args.room.depth) (c.args.room.left - 0) (c.args.room.left - 0) c.args.stop c.args.tokens.now) ≡ parts_at (term_at file_limits c.args.room.depth) c.args.room.left c.args.room.left c.args.stop c.args.tokens.now
    = ap (λ (n : ℕ). following_parts [] 0 (parts_at (term_at file_limits c.args.room.depth) n n c.args.stop c.args.tokens.now)) z ∙ following_none _ in
    rw c.new-parts.ensures (record { few = omega arith; within = omega arith; same = same })

pub take_parts-parts-preserved : goal.take_parts-parts-preserved
take_parts-parts-preserved t c =
    let used : (0 < c.in-Some.more) × (c.in-Some.more ≤ c.args.room.left - c.parts.used) = rw (c.in-Some.is, c.without.ensures) at c.in-Ok.ensures.used in
    let few = c.parts.invariant.few in
    let within = c.parts.invariant.within in
    let now = following_parts_more (term_at file_limits c.args.room.depth) c.args.room.left c.args.stop c.parts.tokens.now c.in-Ok.rest.now c.in-Some.term c.in-Some.more c.parts.parts c.parts.used few within used.0 used.1 (rw (c.in-Some.is, c.without.ensures) at c.in-Ok.ensures.gives) in
    rw c.in_ok-push-in-Some.ensures.ok (record {
      few = rw (length-append c.parts.parts (c.in-Some.term ∷ [])) (omega (arith, few, used.0));
      within = omega (arith, within, used.1);
      same = sym now ∙ c.parts.invariant.same;
    })
