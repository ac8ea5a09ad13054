use Rattle.std.proofs.Common.{◌≡◌, take, arith}
use Rattle.std.proofs.lemmas.Bool.Decides.{Decides-eqb}
use Rattle.std.proofs.lemmas.Grind.{common_steps}
use Rattle.std.proofs.lemmas.Slice.Eq.{slice_eq-Decides}
use Rattle.listing.proofs.text.written_back.Goals.{then-eq, else-eq}
use Rattle.listing.proofs.text.written_back.Goals as goal

pub returns-clause-same : goal.returns-clause-same
returns-clause-same c =
    let front : take c.unwrap-length.result c.write.new.buffer ≡ c.args.bytes.now = grind (arith, common_steps) in
    elim c.if-eq.branch [
      | then-eq w ↦ w.verdict-is
      | else-eq w ↦ let same = (slice_eq-Decides Decides-eqb _ _ c.eq.result c.eq.ensures).1 front in cc
    ]
