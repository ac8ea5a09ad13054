-- The sums of a wheel: its way rises with its pulses, and what is reckoned with them fits 64 bits. They are lemmas and no definitions; what
-- an impl names as the proof of a law has to lie in specs/.
use Rattle.std.specs.Prelude.{ℕ, ◌+◌, ◌*◌, ◌^◌, ◌<◌, ◌≤◌}
use Rattle.std.proofs.Common.{arith}
use Rattle.std.proofs.lemmas.Bool.Decides.{nat_tests}
use Rattle.odometer.specs.Wheel.{way_with}
use Rattle.odometer.specs.declared.wheel.Wheel.{Wheel}

-- more pulses are no less way
pub way_rises : (w : Wheel) (more : ℕ) → way_with w w.pulses ≤ way_with w (w.pulses + more)
way_rises w more = grind (arith, nat_tests)

-- with its way in range a wheel has few pulses
few : (w : Wheel) → w.pulses < 2 ^ 38
few w = grind (arith, nat_tests)

-- so few that those of one more reading can be added
pub pulses_few : (w : Wheel) (more : ℕ) → more < 2 ^ 32 → w.pulses + more < 2 ^ 39
pulses_few w more h = omega (arith, few w)

-- and so few that they can be multiplied
pub product_fits : (w : Wheel) (pulses : ℕ) → pulses < 2 ^ 39 → pulses * w.circumference.millimetres < 2 ^ 64
product_fits w pulses h = grind (arith, nat_tests)
