-- What a wheel means, and what making one and reading it do.
use Rattle.std.specs.Prelude.{◌≡◌, ℕ, ◌+◌, true, false, ◌||◌, Ok, Err, Result, nat_lt}
use Rattle.odometer.specs.Meaning.{OdometerMeaning}
use Rattle.odometer.specs.Way.{outcome, too_far}
use Rattle.odometer.specs.WheelWay.{wheel_limits, wheel_way}
use Rattle.odometer.specs.declared.fault.Fault.{Fault}
use Rattle.odometer.specs.declared.refusal.Refusal.{Refusal}
use Rattle.odometer.specs.declared.refusal.Refusal.TheVariants.{WheelLimits}
use Rattle.odometer.specs.declared.units.Circumference.{Circumference}
use Rattle.odometer.specs.declared.units.Pulses.{Pulses}
use Rattle.odometer.specs.declared.way.Way.{Way}
use Rattle.odometer.specs.declared.wheel.Wheel.{Wheel}

-- the way of so many pulses on that wheel
abbrev pub way_with : Wheel → (pulses : ℕ) → ℕ
way_with w pulses = wheel_way w.circumference.millimetres w.turn.count pulses

-- a reading has 65,535 pulses at most
abbrev pub reading_most : ℕ
reading_most = 65535

-- what a reading comes to, on top of all pulses before it: a wheel never goes backwards
abbrev pub wheel_outcome : Wheel → (reading : ℕ) → Result ℕ Fault
wheel_outcome w reading =
    let before = way_with w w.pulses in
    let after = way_with w (w.pulses + reading) in
    outcome false (nat_lt reading_most reading || too_far before after) after

-- a wheel means the way of all pulses ever
abbrev pub wheel_meaning : OdometerMeaning Wheel Pulses
wheel_meaning = record { way = λ w. way_with w w.pulses; reads = λ w r. wheel_outcome w r.count }

-- a wheel has that circumference and those pulses a turn, and has had so many pulses
abbrev pub IsWheel : Circumference → (turn : Pulses) → (pulses : ℕ) → Wheel → Type 0
IsWheel circumference turn pulses w = (w.circumference ≡ circumference) × (w.turn ≡ turn) × (w.pulses ≡ pulses)

-- a wheel within its limits is made and has had no pulse, and any other is refused
abbrev pub MakesWheel : Circumference → (turn : Pulses) → Result Wheel Refusal → Type 0
MakesWheel circumference turn (Ok w) = (wheel_limits circumference.millimetres turn.count ≡ true) × IsWheel circumference turn 0 w
MakesWheel circumference turn (Err e) = (wheel_limits circumference.millimetres turn.count ≡ false) × (e ≡ WheelLimits)

-- a good reading adds its pulses, and a fault leaves the wheel as it was
abbrev pub AddsPulses : (before : Wheel) → Pulses → Result Way Fault → (after : Wheel) → Type 0
AddsPulses before reading (Ok way) after = IsWheel before.circumference before.turn (before.pulses + reading.count) after
AddsPulses before reading (Err f) after = after ≡ before
