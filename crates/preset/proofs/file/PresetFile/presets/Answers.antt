use Rattle.std.proofs.Common.{[], ◌∷◌, ◌++◌, map, length, sym, ap, ◌∙◌, subst, arith}
use Rattle.std.proofs.lemmas.List.{append-nil, length-append}
use Rattle.std.proofs.lemmas.List.Elements.{All-nil, All-push, All-same}
use Rattle.preset.specs.Presets.{held_as, listed}
use Rattle.preset.specs.Steps.{Lies, Says}
use Rattle.preset.specs.Walk.{Begins}
use Rattle.preset.proofs.Walks.{stands_first, stands_rows, stands_next, lies, held_left, held_first, held_done, held_next, listed_more, lists}
use Rattle.preset.proofs.file.PresetFile.presets.Goals as goal

pub loop-entry-init : goal.loop-entry-init
loop-entry-init c =
    let b = c.args.self.now.bytes.now in
    let s = c.into_iter-entry-iterator.result in
    let f = subst (Begins b) (sym c.into_iter-entry-iterator.ensures.into_iter_gives) c.entries-entry-items.ensures in
    let e = c.empty-presets.ensures in
    record {
      can_next = tt;
      is_finite = tt;
      stands = stands_first b s f c.args.self.now.accepted;
      same = ap (λ xs. map (held_as b) xs ++ held_left s) e ∙ held_first b s f;
      lie = All-same (Lies b) _ [] e (All-nil (Lies b));
      bytes = f.each_a_byte;
      counted = ap length e ∙ sym f.first;
    }

pub preset-requires : goal.preset-requires
preset-requires c =
    stands_rows c.args.self.now.bytes.now c.loop-entry.entry-iterator c.next.new.self c.in-Some.entry c.loop-entry.invariant.stands c.in-Some.ensures.steps

pub loop-entry-preserved : goal.loop-entry-preserved
loop-entry-preserved c =
    let b = c.args.self.now.bytes.now in
    let s = c.loop-entry.entry-iterator in
    let t = c.next.new.self in
    let e = c.in-Some.entry in
    let f = c.in-Some.ensures.steps in
    let h = c.loop-entry.invariant.stands in
    let p = c.preset.result in
    let told = c.preset.ensures in
    let says : Says e.name_at e.bytes.now p = record { number = told.number; offset = omega (arith, told.offset); size = told.size; rows = told.rows } in
    let before = listed c.loop-entry.presets in
    let more = c.push.ensures in
    record {
      can_next = tt;
      is_finite = tt;
      stands = stands_next b s t e h f;
      same = listed_more b _ _ p _ _ more (held_next b s t e h f p says) ∙ c.loop-entry.invariant.same;
      lie = All-same (Lies b) _ _ more (All-push (Lies b) before p c.loop-entry.invariant.lie (lies b s t e h f p says));
      bytes = c.loop-entry.invariant.bytes;
      counted = ap length more ∙ (length-append before (p ∷ []) ∙ omega (arith, c.loop-entry.invariant.counted, f.next));
    }

pub returns : goal.returns
returns c =
    let b = c.args.self.now.bytes.now in
    let ps = listed c.loop-entry.presets in
    let done = held_done c.loop-entry.entry-iterator c.next.new.self c.in-None.ensures.steps in
    let all = sym (append-nil (map (held_as b) ps)) ∙ (ap (λ t. map (held_as b) ps ++ t) (sym done) ∙ c.loop-entry.invariant.same) in
    lists b ps c.loop-entry.invariant.bytes c.args.self.now.accepted all c.loop-entry.invariant.lie
