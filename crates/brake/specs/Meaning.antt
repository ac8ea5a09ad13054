-- What a brake means.
use Rattle.std.specs.Prelude.{◌≡◌, Bool, false}

-- the two facts of a brake
pub record Facts (B : Type 0) : Type 0 where
  -- it is applied
  pub applied : B → Bool
  -- it is settled, so that it may be let off
  pub settled : B → Bool

-- a brake has neither fact
pub record Off {B : Type 0} (f : Facts B) (b : B) : Type 0 where
  pub not_applied : f.applied b ≡ false
  pub not_settled : f.settled b ≡ false
