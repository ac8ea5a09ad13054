use Rattle.std.proofs.Common.{◌≡◌, ◌+◌, true, length, ltb, ap, sym, ◌∙◌, arith}
use Rattle.std.proofs.lemmas.Bool.{and_from, le-leb}
use Rattle.preset.specs.Names.{is_name}
use Rattle.preset.specs.Presets.{claimed, part, three_rows}
use Rattle.preset.specs.Rule.{rows_keep}
use Rattle.preset.proofs.Claims.{name_fit, name_short, passes}
use Rattle.preset.proofs.Walks.{name_long}
use Rattle.preset.proofs.draft.check.Goals as goal

pub returns-in-Some : goal.returns-in-Some
returns-in-Some c =
    let text = c.args.text.now in
    let p = c.args.preset.now in
    let handed = c.in-Some.ensures in
    let rises : ltb c.args.last.value p.number.value ≡ true = cc in
    let name : is_name (part text p.name) ≡ true = sym (c.if-is_name.ensures ∙ ap is_name handed.1) in
    let placed = le-leb (p.name.offset + p.name.length) (length text) handed.0 in
    let keeps : rows_keep (three_rows p.rows) ≡ true = and_from _ _ p.rows.o.rule (and_from _ _ p.rows.m.rule p.rows.u.rule) in (
      passes c.args.k c.args.last.value (claimed text p) rises (name_fit (claimed text p) (record { placed = placed; name = name })) keeps,
      (omega (arith, name_short (part text p.name) name, name_long text p handed.0), handed.0),
    )
