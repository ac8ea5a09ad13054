use Rattle.std.proofs.Common.{◌≡◌, ◌+◌, map, length, Option}
use Rattle.preset.specs.Entries.{claims_in, decoded, plain, faults}
use Rattle.preset.specs.Format.{names, total}
use Rattle.preset.proofs.Steps.{claims_left}
use Rattle.preset.specs.declared.refusal.Refusal.{Refusal}
use Rattle.preset.proofs.file.reading.check_entries.Given as goal

abbrev pub invariant-loop-entry : goal.invariant-loop-entry
invariant-loop-entry l =
    record {
      can_next : (goal.iterator-loop-entry).can_next l.entry-iterator;
      is_finite : (goal.iterator-loop-entry).is_finite l.entry-iterator;
      ends : l.end ≡ l.entry-iterator.name_at;
      long : l.entry-iterator.name_at + length (names (map plain (claims_left l.entry-iterator))) ≡ total (decoded l.bytes);
      same : (o : Option Refusal) → faults l.entry-iterator.places.start l.last.value (claims_left l.entry-iterator) o ≡ faults 0 0 (claims_in l.bytes) o;
    }
