-- What a brake that holds its facts and nothing else means.
use Rattle.std.specs.Prelude.{ℕ}
use Rattle.brake.specs.Meaning.{Facts}
use Rattle.brake.specs.declared.plain_brake.PlainBrake.{PlainBrake}

-- the two facts as a plain brake of either kind holds them
abbrev pub plain_facts : {at_once : ℕ} → Facts (PlainBrake at_once)
plain_facts = record { applied = λ b. b.applied; settled = λ b. b.settled }
