use Rattle.std.proofs.Common.{◌≡◌, true, ltb}
use Rattle.std.proofs.lemmas.Result.{err_from_is_err_and}
use Rattle.preset.specs.Entries.{name_fits}
use Rattle.preset.specs.Walk.{claimed_by}
use Rattle.preset.proofs.Claims.{claim_within, fit, rows_fail, passes}
use Rattle.preset.proofs.entry.Entry.check.Goals as goal

pub returns-in_err-rows : goal.returns-in_err-rows
returns-in_err-rows c =
    let e = c.args.self.now in
    let p = err_from_is_err_and c.from_residual.result c.from_residual.ensures.1 in
    let rises : ltb c.args.last.value (claimed_by e).number ≡ true = cc in
    let fits : name_fits (claimed_by e) ≡ true = cc in
    rw (p.1, p.2) (rows_fail e.ordinal c.args.last.value (claimed_by e) rises fits _ c.in_err-rows.ensures.1)

pub returns : goal.returns
returns c =
    let e = c.args.self.now in
    let rises : ltb c.args.last.value (claimed_by e).number ≡ true = cc in
    let fits : name_fits (claimed_by e) ≡ true = cc in
    (passes e.ordinal c.args.last.value (claimed_by e) rises fits c.in_ok-rows.ensures.0, claim_within e.name_at e.bytes.now e.names.now (fit (claimed_by e) fits).placed)
