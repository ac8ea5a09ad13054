use Rattle.std.proofs.Common.{sym, ◌∙◌, arith}
use Rattle.preset.proofs.Writes.{names_more, lies_add, faults_on}
use Rattle.preset.proofs.draft.Draft.of.Goals as goal

pub loop-i-preserved : goal.loop-i-preserved
loop-i-preserved c =
    let text = c.args.text.now in
    let ps = c.args.presets.now in
    let i = c.loop-i.i in
    let x = c.index-presets-i.result in
    let is = c.index-presets-i.is in
    let r = c.in_ok-check.ensures in
    let n = names_more text ps i x (omega arith) is r.1 in
    record {
      short = omega (arith, r.1.0, c.loop-i.invariant.short);
      long = omega (arith, c.loop-i.invariant.long);
      lie = λ f. c.loop-i.invariant.lie (lies_add text ps i x (omega arith) is r.1 f);
      same = λ o. sym (faults_on text ps i x (omega arith) is c.loop-i.last.value r.0 o) ∙ c.loop-i.invariant.same o;
    }
