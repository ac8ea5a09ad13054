-- How far a way can reach, how far one reading can move it, and the order of faults.
use Rattle.std.specs.Prelude.{ℕ, ◌-◌, Bool, cond, Ok, Err, Result, nat_lt}
use Rattle.odometer.specs.declared.fault.Fault.{Fault}
use Rattle.odometer.specs.declared.fault.Fault.TheVariants.{TooFar, Backwards, BeyondRange}

-- the longest way, in millimetres: a million kilometres
abbrev pub way_most : ℕ
way_most = 1000000000000

-- the longest move, in millimetres
abbrev pub move_most : ℕ
move_most = 200000

-- one way is too far from the one before
abbrev pub too_far : (before after : ℕ) → Bool
too_far before after = nat_lt move_most (after - before)

-- what a reading comes to: the first fault that holds, in this order, or the way after it
abbrev pub outcome : (backwards far : Bool) (after : ℕ) → Result ℕ Fault
outcome backwards far after =
    cond backwards (Err Backwards) (cond far (Err TooFar) (cond (nat_lt way_most after) (Err BeyondRange) (Ok after)))
