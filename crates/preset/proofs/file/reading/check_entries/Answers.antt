use Rattle.std.proofs.Common.{sym, ap, ◌∙◌, subst, arith}
use Rattle.std.proofs.lemmas.Result.{err_from_is_err_and}
use Rattle.preset.specs.Entries.{faults}
use Rattle.preset.specs.Steps.{unless_refused}
use Rattle.preset.specs.Walk.{Begins}
use Rattle.preset.specs.Width.{size_of}
use Rattle.preset.proofs.Steps.{claims_left, faults_first, names_first, faults_on, faults_stop, names_on}
use Rattle.preset.proofs.file.reading.check_entries.Goals as goal

pub loop-entry-init : goal.loop-entry-init
loop-entry-init c =
    let b = c.args.bytes.now in
    let s = c.into_iter-entry-iterator.result in
    let f = subst (Begins b) (sym c.into_iter-entry-iterator.ensures.into_iter_gives) c.of-entry-items.ensures in
    record {
      can_next = tt;
      is_finite = tt;
      ends = omega (arith, f.name_at, c.names_start-end.ensures);
      long = names_first b s f;
      same = faults_first b s f;
    }

pub returns-in_err-check : goal.returns-in_err-check
returns-in_err-check c =
    let p = err_from_is_err_and c.from_residual.result c.from_residual.ensures.1 in
    let stop = faults_stop c.loop-entry.entry-iterator c.next.new.self c.in-Some.entry c.in-Some.ensures.steps c.loop-entry.last.value _ c.in_err-check.ensures _ in
    rw (p.1, p.2) (ap unless_refused (sym stop ∙ c.loop-entry.invariant.same _))

pub loop-entry-preserved : goal.loop-entry-preserved
loop-entry-preserved c =
    let s = c.loop-entry.entry-iterator in
    let t = c.next.new.self in
    let e = c.in-Some.entry in
    let f = c.in-Some.ensures.steps in
    let p = c.in_ok-check.ensures.0 in
    record {
      can_next = tt;
      is_finite = tt;
      ends = omega (arith, f.name_at_behind, f.name_at, c.name_length.ensures.length, ap size_of f.bytes);
      long = sym (names_on s t e f c.loop-entry.last.value p) ∙ c.loop-entry.invariant.long;
      same = λ o. ap (λ n. faults t.places.start n (claims_left t) o) c.number-last.ensures ∙ (sym (faults_on s t e f c.loop-entry.last.value p o) ∙ c.loop-entry.invariant.same o);
    }
