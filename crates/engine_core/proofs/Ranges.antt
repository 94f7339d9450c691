-- The expiries of operations are in range.
use Rattle.std.proofs.Common.{◌≡◌, ℕ, Some, arith}
use Rattle.std.specs.Prelude.{slice_get}
use Rattle.op_keys.specs.declared.declarations.Expiry.{Expiry}
use Rattle.op_keys.specs.declared.declarations.Expiry.TheVariants.{Never, After, Daily, Monthly}
use Rattle.op_keys.specs.declared.declarations.OpDecl.{OpDecl}
use Rattle.sched_rows.specs.Validity.{IsInRange}
use Rattle.term_core.specs.Limits.{IsExpiryWithin, IsOpWithin, IsWithinLimits}
use Rattle.term_core.specs.declared.program.Program.{Program}
use Rattle.job_core.proofs.Walks.{all_get}

expiry_range : (e : Expiry) → IsExpiryWithin e → IsInRange e
expiry_range Never h = tt
expiry_range (After n) h = omega arith
expiry_range (Daily minute offset) h = (h.0, h.1.west, h.1.east)
expiry_range (Monthly day minute offset) h = (h.0, h.1, h.2, h.3.west, h.3.east)

pub op_range : (p : Program) (i : ℕ) (d : OpDecl) → IsWithinLimits p → slice_get p.ops i ≡ Some d → IsInRange d.expiry
op_range p i d h e = expiry_range d.expiry (all_get IsOpWithin p.ops i d h.ops e).expiry
