-- A good reading moves the way by no more than it may.
use Rattle.std.specs.Prelude.{◌≡◌, ℕ, ◌-◌, ◌≤◌, Bool, true, false, Ok, Err, nat_lt, refl}
use Rattle.std.proofs.Common.{arith}
use Rattle.std.proofs.lemmas.Bool.{cond_both, ltb-false}
use Rattle.odometer.specs.Meaning.{MovesALittle}
use Rattle.odometer.specs.Way.{move_most, outcome, too_far, way_most}
use Rattle.odometer.specs.declared.fault.Fault.TheVariants.{BeyondRange}

pub outcome_moves_a_little : (backwards far : Bool) (before after : ℕ) →
    (backwards ≡ false → before ≤ after) → (far ≡ false → too_far before after ≡ false) → MovesALittle before (outcome backwards far after)
outcome_moves_a_little true far before after up near = tt
outcome_moves_a_little false true before after up near = tt
outcome_moves_a_little false false before after up near =
    let rises = up refl in
    let near-enough = ltb-false move_most (after - before) (near refl) in
    cond_both (nat_lt way_most after) (Err BeyondRange) (Ok after) (MovesALittle before) (λ beyond. tt) (λ within. (rises, omega arith))
