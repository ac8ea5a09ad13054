use Rattle.std.proofs.Common.{◌≡◌, ◌+◌, ◌++◌, length, take, drop}
use Rattle.preset.specs.Format.{base, names, entries, header}
use Rattle.preset.specs.Presets.{all_named}
use Rattle.preset.proofs.writing.put_all.Given as goal

abbrev pub invariant-loop-preset : goal.invariant-loop-preset
invariant-loop-preset l =
    record {
      at_is : l.at ≡ base l.preset-index;
      long : l.name_at + length (names (all_named l.draft.text.now (drop l.preset-index l.draft.presets.now))) ≡ l.draft.extent;
      done : take l.at l.buffer ++ entries l.name_at (all_named l.draft.text.now (drop l.preset-index l.draft.presets.now)) ≡
          header (length l.draft.presets.now) l.draft.extent ++ entries (base (length l.draft.presets.now)) (all_named l.draft.text.now l.draft.presets.now);
      behind : drop l.at l.buffer ≡ drop l.at l.initial.buffer;
    }

abbrev pub invariant-loop-named : goal.invariant-loop-named
invariant-loop-named l =
    record {
      long : l.at + length (names (all_named l.draft.text.now (drop l.named-index l.draft.presets.now))) ≡ l.draft.extent;
      done : take l.at l.buffer ++ names (all_named l.draft.text.now (drop l.named-index l.draft.presets.now)) ≡
          take l.initial.at l.initial.buffer ++ names (all_named l.draft.text.now l.draft.presets.now);
      behind : drop l.at l.buffer ≡ drop l.at l.initial.buffer;
    }
