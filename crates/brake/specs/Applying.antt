-- What applying does to a brake.
use Rattle.std.specs.Prelude.{◌≡◌, Bool, true}
use Rattle.brake.specs.Meaning.{Facts}

-- apply makes it applied; whether it then is settled is a fact of its kind
pub record Applies {B : Type 0} (f : Facts B) (at_once : Bool) (after : B) : Type 0 where
  pub applied : f.applied after ≡ true
  pub settled : f.settled after ≡ at_once
