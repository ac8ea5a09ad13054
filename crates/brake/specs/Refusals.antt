-- The number and the layer of each refusal of a brake.
use Rattle.std.specs.Prelude.{ℕ, List, codes}
use Rattle.brake.specs.declared.refusal.Refusal.{Refusal}
use Rattle.brake.specs.declared.refusal.Refusal.TheVariants.{NotSettled}

-- the number by which each is known
abbrev pub refusal_number : Refusal → ℕ
refusal_number NotSettled = 24

-- the layer that refuses: all are of the brake
abbrev pub refusal_layer : Refusal → List ℕ
refusal_layer e = codes "brake"
