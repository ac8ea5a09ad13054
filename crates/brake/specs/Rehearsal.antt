-- When a brake that was applied may be let off.
use Rattle.std.specs.Prelude.{◌≡◌, Bool, true, false, ◌||◌, List, [], Result, MatchResult}
use Rattle.std.specs.List.{list_any}
use Rattle.brake.specs.LettingOff.{let_off_answer, low}
use Rattle.brake.specs.Meaning.{Facts, Off}
use Rattle.brake.specs.declared.pressure.Pressure.{Pressure}
use Rattle.brake.specs.declared.refusal.Refusal.{Refusal}

-- one of the pressures is low
abbrev pub some_low : List Pressure → Bool
some_low = list_any (λ p. low p.hundredths)

-- a brake was applied, then told those pressures in turn, then let off
pub record Rehearses {B : Type 0} (f : Facts B) (at_once : Bool) (told : List Pressure) (answer : Result (Unit {0}) Refusal) (after : B) : Type 0 where
  -- it is settled where it was told a low pressure since it was applied, or where its kind says so
  pub answers : answer ≡ let_off_answer (some_low told || at_once)
  -- told nothing since it was applied, it is settled exactly as its kind says
  pub untold : told ≡ [] → answer ≡ let_off_answer at_once
  -- let off it has neither fact, and refused it is applied and not settled
  pub leaves : MatchResult answer (λ done. Off f after) (λ refusal. (f.applied after ≡ true) × (f.settled after ≡ false))
