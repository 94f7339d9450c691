use Rattle.std.proofs.Common.{◌≡◌, take}
use Rattle.fair_pool.proofs.tickets.copy_of_tickets.Given as goal

abbrev pub invariant-loop-ticket : goal.invariant-loop-ticket
invariant-loop-ticket l = l.copies.items ≡ take l.ticket-index l.tickets
