use Rattle.std.proofs.Common.{◌≡◌, ◌+◌, ◌*◌, ◌≤◌, All, map, length, drop, Option}
use Rattle.preset.specs.Entries.{faults}
use Rattle.preset.specs.Format.{names, total}
use Rattle.preset.specs.Presets.{all_named, claimed}
use Rattle.preset.specs.Steps.{Lies}
use Rattle.preset.specs.declared.refusal.Refusal.{Refusal}
use Rattle.preset.proofs.draft.Draft.of.Given as goal

abbrev pub invariant-loop-i : goal.invariant-loop-i
invariant-loop-i l =
    record {
      short : l.extent ≤ 806 + 24 * l.i;
      long : l.extent + length (names (all_named l.text (drop l.i l.presets))) ≡ total (all_named l.text l.presets);
      lie : All (Lies l.text) (drop l.i l.presets) → All (Lies l.text) l.presets;
      same : (o : Option Refusal) → faults l.i l.last.value (map (claimed l.text) (drop l.i l.presets)) o ≡ faults 0 0 (map (claimed l.text) l.presets) o;
    }
