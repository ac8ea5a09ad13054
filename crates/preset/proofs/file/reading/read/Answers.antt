use Rattle.std.proofs.Common.{Err, sym, ap, ◌∙◌, subst}
use Rattle.std.proofs.lemmas.Result.{err_from_is_err_and}
use Rattle.preset.specs.Calls.{OfValidList}
use Rattle.preset.proofs.Claims.{refused, not_refused}
use Rattle.preset.proofs.Trips.{file_of, only_list, no_list}
use Rattle.preset.proofs.file.reading.read.Goals as goal

pub returns-in_err-check-clause-exactly_valid_lists : goal.returns-in_err-check-clause-exactly_valid_lists
returns-in_err-check-clause-exactly_valid_lists c =
    let p = err_from_is_err_and c.from_residual.result c.from_residual.ensures.1 in
    subst (OfValidList c.args.bytes.now) (sym (p.1 ∙ ap Err p.2)) (no_list c.args.bytes.now _ (refused _ _ (sym c.check.ensures ∙ c.in_err-check.was)))

pub returns-clause-exactly_valid_lists : goal.returns-clause-exactly_valid_lists
returns-clause-exactly_valid_lists c =
    let b = c.args.bytes.now in
    (file_of b (λ i. (c.type_inv.bytes i).fits) (not_refused _ (sym c.check.ensures ∙ c.in_ok-check.was)), only_list b)
