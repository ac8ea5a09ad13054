-- What an odometer means.
use Rattle.std.specs.Prelude.{◌≡◌, ℕ, ◌+◌, ◌≤◌, Ok, Err, Result, MatchResult}
use Rattle.odometer.specs.Way.{move_most, way_most}
use Rattle.odometer.specs.declared.fault.Fault.{Fault}
use Rattle.odometer.specs.declared.way.Way.{Way}

-- a way, in millimetres, and for each reading either a fault or the way after it
pub record OdometerMeaning (O R : Type 0) : Type 0 where
  pub way : O → ℕ
  pub reads : O → R → Result ℕ Fault

-- the way stays in its range
abbrev pub InRange : ℕ → Type 0
InRange way = way ≤ way_most

-- a good reading moves the way by 0 to 200,000
abbrev pub MovesALittle : (before : ℕ) → Result ℕ Fault → Type 0
MovesALittle before (Ok after) = (before ≤ after) × (after ≤ before + move_most)
MovesALittle before (Err f) = Unit {0}

-- what is answered, in millimetres
abbrev pub in_millimetres : Result Way Fault → Result ℕ Fault
in_millimetres (Ok w) = Ok w.millimetres
in_millimetres (Err f) = Err f

-- taking a reading answers its fault and alters nothing, or answers the way after it, which the odometer then means
pub record Takes {O R : Type 0} (m : OdometerMeaning O R) (before : O) (reading : R) (answer : Result Way Fault) (after : O) : Type 0 where
  pub answers : in_millimetres answer ≡ m.reads before reading
  pub leaves : MatchResult answer (λ w. m.way after ≡ w.millimetres) (λ fault. after ≡ before)
