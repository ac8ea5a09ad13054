use Rattle.std.proofs.Common.{◌≡◌, sym, ap, ◌∙◌, subst, arith}
use Rattle.preset.specs.Entries.{numbered}
use Rattle.std.proofs.lemmas.Bool.{eqb-false, eqb-true}
use Rattle.preset.specs.Walk.{Begins}
use Rattle.preset.specs.Width.{number_of}
use Rattle.preset.proofs.Walks.{stands_first, stands_rows, stands_next, lies, held_first, found, not_here}
use Rattle.preset.proofs.file.PresetFile.lookup.Goals as goal

pub loop-entry-init : goal.loop-entry-init
loop-entry-init c =
    let b = c.args.self.now.bytes.now in
    let s = c.into_iter-entry-iterator.result in
    let f = subst (Begins b) (sym c.into_iter-entry-iterator.ensures.into_iter_gives) c.entries-entry-items.ensures in
    record {
      can_next = tt;
      is_finite = tt;
      stands = stands_first b s f c.args.self.now.accepted;
      same = ap (numbered c.args.number.value) (held_first b s f);
    }

pub preset-requires : goal.preset-requires
preset-requires c =
    stands_rows c.args.self.now.bytes.now c.loop-entry.entry-iterator c.next.new.self c.in-Some.entry c.loop-entry.invariant.stands c.in-Some.ensures.steps

pub returns-then-eq : goal.returns-then-eq
returns-then-eq c =
    let b = c.args.self.now.bytes.now in
    let s = c.loop-entry.entry-iterator in
    let t = c.next.new.self in
    let e = c.in-Some.entry in
    let f = c.in-Some.ensures.steps in
    let h = c.loop-entry.invariant.stands in
    let is : number_of e.bytes.now ≡ c.args.number.value = omega (arith, c.number.ensures, eqb-true _ _ (sym c.eq.ensures ∙ c.if-eq.true)) in (
      sym c.loop-entry.invariant.same ∙ found b s t e h f c.preset.result c.preset.ensures c.args.number.value is,
      (lies b s t e h f c.preset.result c.preset.ensures).1,
    )

pub loop-entry-preserved : goal.loop-entry-preserved
loop-entry-preserved c =
    let b = c.args.self.now.bytes.now in
    let s = c.loop-entry.entry-iterator in
    let t = c.next.new.self in
    let e = c.in-Some.entry in
    let f = c.in-Some.ensures.steps in
    let h = c.loop-entry.invariant.stands in
    record {
      can_next = tt;
      is_finite = tt;
      stands = stands_next b s t e h f;
      same = sym (not_here b s t e h f c.args.number.value (λ is. eqb-false _ _ (sym c.eq.ensures ∙ c.if-eq.false) (c.number.ensures ∙ is))) ∙ c.loop-entry.invariant.same;
    }
