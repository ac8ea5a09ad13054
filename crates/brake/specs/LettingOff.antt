-- What telling a pressure and letting off do to a brake.
use Rattle.std.specs.Prelude.{◌≡◌, ℕ, Bool, false, if◌then◌else◌, ◌&&◌, ◌||◌, Ok, Err, Result, MatchResult, nat_lt}
use Rattle.brake.specs.Meaning.{Facts, Off}
use Rattle.brake.specs.declared.refusal.Refusal.{Refusal}
use Rattle.brake.specs.declared.refusal.Refusal.TheVariants.{NotSettled}

-- a pressure that settles an applied brake, in hundredths of a bar
abbrev pub low : (pressure : ℕ) → Bool
low pressure = nat_lt pressure 350

-- being told a pressure below 350 while applied makes it settled and leaves it applied; any other telling alters nothing
pub record Tells {B : Type 0} (f : Facts B) (pressure : ℕ) (before after : B) : Type 0 where
  pub applied : f.applied after ≡ f.applied before
  pub settled : f.settled after ≡ (f.settled before || (f.applied before && low pressure))
  pub any_other : (f.applied before && low pressure) ≡ false → after ≡ before

-- what letting off answers
abbrev pub let_off_answer : (settled : Bool) → Result (Unit {0}) Refusal
let_off_answer settled = if settled then Ok tt else Err NotSettled

-- let off is refused while not settled, altering nothing, and otherwise ends both facts
pub record LetsOff {B : Type 0} (f : Facts B) (before : B) (answer : Result (Unit {0}) Refusal) (after : B) : Type 0 where
  pub answers : answer ≡ let_off_answer (f.settled before)
  pub leaves : MatchResult answer (λ done. Off f after) (λ refusal. after ≡ before)
