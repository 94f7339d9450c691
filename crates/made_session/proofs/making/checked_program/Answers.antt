use Rattle.std.proofs.Common.{sym, subst}
use Rattle.term_core.specs.Limits.{IsWithinLimits}
use Rattle.made_session.proofs.Faultless.{made_memory}
use Rattle.made_session.proofs.Within.{made_within}
use Rattle.made_session.proofs.making.checked_program.Goals as goal

pub check-requires : goal.check-requires
check-requires c = record { within = subst IsWithinLimits (sym c.in_ok-program.ensures) (made_within c.args.nodes c.requires.some c.requires.few) }

pub prove-unreachable-requires : goal.prove-unreachable-requires
prove-unreachable-requires c =
    let memory = made_memory c.args.nodes c.in_ok-program.program c.in-Err.fault c.requires.some c.requires.few c.in_ok-program.ensures c.in-Err.ensures.fault in
    let is = c.is_memory-ran_out.ensures memory in
    let isnt = c.if-prove.true in
    cc
