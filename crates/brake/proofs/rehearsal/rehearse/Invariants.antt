use Rattle.std.proofs.Common.{◌||◌, take}
use Rattle.brake.specs.Applying.{Applies}
use Rattle.brake.specs.Rehearsal.{some_low}
use Rattle.brake.proofs.rehearsal.rehearse.Given as goal

-- told the pressures so far, it is as if it was applied just now, and settled at once where one of them was low
abbrev pub invariant-loop-pressure : goal.invariant-loop-pressure
invariant-loop-pressure g l = Applies g.B.Brake.meaning (some_low (take l.pressure-index l.told) || g.B.Brake.SETTLES_AT_ONCE) l.brake
