use Rattle.std.proofs.Common.{◌≡◌, ◌++◌, take, string_bytes}
use Rattle.preset.specs.Presets.{all_named}
use Rattle.listing.specs.Report.{all_lines}
use Rattle.listing.proofs.text.put_presets.Given as goal

abbrev pub invariant-loop-preset : goal.invariant-loop-preset
invariant-loop-preset l =
    string_bytes l.out ≡ string_bytes l.initial.out ++ all_lines (all_named l.file.bytes.now (take l.preset-index l.presets))
