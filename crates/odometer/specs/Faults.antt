-- The number and the layer of each fault and refusal of an odometer.
use Rattle.std.specs.Prelude.{ℕ, List, codes}
use Rattle.odometer.specs.declared.fault.Fault.{Fault}
use Rattle.odometer.specs.declared.fault.Fault.TheVariants.{TooFar, Backwards, BeyondRange}
use Rattle.odometer.specs.declared.refusal.Refusal.{Refusal}
use Rattle.odometer.specs.declared.refusal.Refusal.TheVariants.{WheelLimits}

-- the number by which each fault of a reading is known
abbrev pub fault_number : Fault → ℕ
fault_number TooFar = 15
fault_number Backwards = 16
fault_number BeyondRange = 17

-- the number of a wheel that is not made
abbrev pub refusal_number : Refusal → ℕ
refusal_number WheelLimits = 25

-- the layer of faults and refusals alike
abbrev pub odometer_layer : List ℕ
odometer_layer = codes "odometer"

-- the layer that a fault comes from
abbrev pub fault_layer : Fault → List ℕ
fault_layer f = odometer_layer

-- the layer that refuses
abbrev pub refusal_layer : Refusal → List ℕ
refusal_layer e = odometer_layer
