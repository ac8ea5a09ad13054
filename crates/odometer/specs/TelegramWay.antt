-- The way of a telegram odometer.
use Rattle.std.specs.Prelude.{ℕ, ◌-◌, ◌*◌, Result, nat_lt}
use Rattle.odometer.specs.Way.{outcome, too_far}
use Rattle.odometer.specs.declared.fault.Fault.{Fault}

-- a place is in decimetres, and the way from the first place in millimetres
abbrev pub telegram_way : (first place : ℕ) → ℕ
telegram_way first place = (place - first) * 100

-- what a place comes to where places were read before, the first and the last of them being these
abbrev pub telegram_outcome : (first last place : ℕ) → Result ℕ Fault
telegram_outcome first last place =
    outcome (nat_lt place last) (too_far (telegram_way first last) (telegram_way first place)) (telegram_way first place)
