use Rattle.std.proofs.Common.{◌≡◌}
use Rattle.preset.specs.Entries.{held, numbered}
use Rattle.preset.proofs.Walks.{Stands, held_left}
use Rattle.preset.proofs.file.PresetFile.lookup.Given as goal

abbrev pub invariant-loop-entry : goal.invariant-loop-entry
invariant-loop-entry l =
    record {
      can_next : (goal.iterator-loop-entry).can_next l.entry-iterator;
      is_finite : (goal.iterator-loop-entry).is_finite l.entry-iterator;
      stands : Stands l.self.bytes.now l.entry-iterator;
      same : numbered l.number.value (held_left l.entry-iterator) ≡ numbered l.number.value (held l.self.bytes.now);
    }
