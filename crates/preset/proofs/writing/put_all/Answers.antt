use Rattle.std.proofs.Common.{◌≡◌, ◌++◌, length, take, drop, sym, ap, ◌∙◌, subst, arith, rules}
use Rattle.std.proofs.lemmas.List.{drop_all}
use Rattle.preset.specs.Format.{base, names, entries, header, encoded}
use Rattle.preset.specs.Presets.{all_named, part}
use Rattle.preset.proofs.Walks.{name_long}
use Rattle.preset.proofs.Writes.{names_more, lies_here, entries_more, names_split, step, finish, encoded_is, total_named, drop_further}
use Rattle.preset.proofs.writing.put_all.Goals as goal

pub loop-preset-preserved : goal.loop-preset-preserved
loop-preset-preserved c =
    let text = c.args.draft.now.text.now in
    let ps = c.args.draft.now.presets.now in
    let i = c.loop-preset.preset-index in
    let x = c.preset-item.result in
    let is = c.preset-item.is in
    let w = lies_here text ps i x (omega arith) is c.args.draft.now.within in
    let n = names_more text ps i x (omega arith) is w in
    let at = c.loop-preset.name_at in
    let more = c.put_entry-at.ensures in
    record {
      at_is = omega (arith, more.end, c.loop-preset.invariant.at_is);
      long = omega (arith, c.loop-preset.invariant.long);
      done = step _ _ _ _ _ more.front (entries_more text ps i x (omega arith) is at w) ∙ c.loop-preset.invariant.done;
      behind = more.back ∙ drop_further c.loop-preset.at c.put_entry-at.result c.loop-preset.buffer c.put-at.new.buffer (omega (arith, more.end)) c.loop-preset.invariant.behind;
    }

-- The check finds it; it stands so that a part put elsewhere is refused by the numbers at which it has no room.
pub put-at-requires-in-loop-named : goal.put-at-requires-in-loop-named
put-at-requires-in-loop-named c =
    let text = c.args.draft.now.text.now in
    let ps = c.args.draft.now.presets.now in
    let x = c.named-item.result in
    let w = lies_here text ps c.loop-named.named-index x (omega arith) c.named-item.is c.args.draft.now.within in
    let n = names_more text ps c.loop-named.named-index x (omega arith) c.named-item.is w in
    let part_is : c.unwrap.result.now ≡ part text x.name = search rules in
    let m = ap length part_is ∙ name_long text x w.1 in
    omega (arith, c.loop-named.invariant.long)

pub loop-named-preserved : goal.loop-named-preserved
loop-named-preserved c =
    let text = c.args.draft.now.text.now in
    let ps = c.args.draft.now.presets.now in
    let i = c.loop-named.named-index in
    let x = c.named-item.result in
    let is = c.named-item.is in
    let w = lies_here text ps i x (omega arith) is c.args.draft.now.within in
    let n = names_more text ps i x (omega arith) is w in
    let part_is : c.unwrap.result.now ≡ part text x.name = search rules in
    let m = ap length part_is ∙ name_long text x w.1 in
    let more = c.put-at-in-loop-named.ensures in
    let f = more.front ∙ ap (λ p. take c.loop-named.at c.loop-named.buffer ++ p) part_is in
    record {
      long = omega (arith, more.end, c.loop-named.invariant.long);
      done = step _ _ _ _ _ f (names_split text ps i x (omega arith) is) ∙ c.loop-named.invariant.done;
      behind = more.back ∙ drop_further c.loop-named.at c.put-at-in-loop-named.result c.loop-named.buffer c.loop-preset.buffer (omega (arith, more.end)) c.loop-named.invariant.behind;
    }

pub returns : goal.returns
returns c =
    let text = c.args.draft.now.text.now in
    let ps = c.args.draft.now.presets.now in
    let extent = c.args.draft.now.extent in
    let N = all_named text ps in
    let start = c.args.buffer.now in
    let ep = drop_all c.loop-preset.preset-index ps (omega arith) in
    let eq = drop_all c.loop-named.named-index ps (omega arith) in
    let E = entries (base (length ps)) N in
    let H = header (length ps) extent in
    let f1 = subst (λ ys. take c.loop-named.at c.loop-named.buffer ++ names (all_named text ys) ≡ take c.loop-preset.at c.loop-preset.buffer ++ names N) eq c.loop-named.invariant.done in
    let f0 = subst (λ ys. take c.loop-preset.at c.loop-preset.buffer ++ entries c.loop-preset.name_at (all_named text ys) ≡ H ++ E) ep c.loop-preset.invariant.done in
    let n = ap (λ ys. length (names (all_named text ys))) eq in
    let at-end : c.loop-named.at ≡ extent = omega (arith, c.loop-named.invariant.long) in
    let six = c.put-at.ensures.end in
    let t = total_named text ps in
    finish c.loop-named.buffer c.loop-preset.buffer c.put-at.new.buffer start H E (names N) c.loop-named.at c.loop-preset.at c.put-at.result (omega (arith, c.args.draft.now.measured, c.loop-preset.invariant.at_is)) (omega (arith, c.loop-preset.invariant.at_is)) f1 f0 c.loop-named.invariant.behind c.loop-preset.invariant.behind c.put-at.ensures.back ∙
    (ap (λ t. t ++ drop c.loop-named.at start) (sym (encoded_is text ps extent c.args.draft.now.measured)) ∙
    ap (λ k. encoded N ++ drop k start) at-end)
