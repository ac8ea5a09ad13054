-- The limits of a wheel, and its way.
use Rattle.std.specs.Prelude.{ℕ, ◌*◌, ◌/◌, Bool, ◌&&◌, nat_le}

-- a circumference of 1,500 to 4,500 millimetres and 16 to 256 pulses a turn
abbrev pub wheel_limits : (circumference turn : ℕ) → Bool
wheel_limits circumference turn = (nat_le 1500 circumference && nat_le circumference 4500) && (nat_le 16 turn && nat_le turn 256)

-- all pulses times the circumference over the pulses a turn, rounded down once
abbrev pub wheel_way : (circumference turn pulses : ℕ) → ℕ
wheel_way circumference turn pulses = pulses * circumference / turn
