use Rattle.std.proofs.Common.{◌≡◌, ◌++◌, All, map, length}
use Rattle.preset.specs.Entries.{held}
use Rattle.preset.specs.Presets.{held_as, listed}
use Rattle.preset.specs.Steps.{Lies}
use Rattle.preset.proofs.Bytes.{Bytes}
use Rattle.preset.proofs.Walks.{Stands, held_left}
use Rattle.preset.proofs.file.PresetFile.presets.Given as goal

abbrev pub invariant-loop-entry : goal.invariant-loop-entry
invariant-loop-entry l =
    record {
      can_next : (goal.iterator-loop-entry).can_next l.entry-iterator;
      is_finite : (goal.iterator-loop-entry).is_finite l.entry-iterator;
      stands : Stands l.self.bytes.now l.entry-iterator;
      same : map (held_as l.self.bytes.now) (listed l.presets) ++ held_left l.entry-iterator ≡ held l.self.bytes.now;
      lie : All (Lies l.self.bytes.now) (listed l.presets);
      bytes : Bytes l.self.bytes.now;
      counted : length (listed l.presets) ≡ l.entry-iterator.places.start;
    }
