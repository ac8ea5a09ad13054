use Rattle.std.proofs.Common.{◌≡◌, ℕ, ◌+◌, ◌<◌, List, ◌++◌, length, get_or, take, arith}
use Rattle.std.proofs.lemmas.List.{flat_map_more, map_more, get_or-map, length-map}
use Rattle.preset.specs.Format.{Named}
use Rattle.preset.specs.Presets.{all_named, named, part, three_rows}
use Rattle.preset.specs.Valid.{Sound}
use Rattle.preset.specs.declared.preset.Preset.{Preset}
use Rattle.listing.specs.Report.{all_lines, preset_lines}
use Rattle.listing.proofs.text.put_presets.Goals as goal

pub name_of-name-requires-clause-printable : goal.name_of-name-requires-clause-printable
name_of-name-requires-clause-printable c =
    let ps = c.args.presets.now in
    let i = c.loop-preset.preset-index in
    let x = c.preset-item.result in
    let of = named c.args.file.now.bytes.now in
    let sound : Sound (of x) = rw (c.preset-item.is, ← get_or-map of ps i x (of x) (omega arith)) (c.requires.sound i (of x) (simp length-map (omega arith))) in
    sound.name

-- the lines of the next preset, put behind those so far
more : (b before so_far after name : List ℕ) (ps : List Preset) (i : ℕ) (x : Preset) → i < length ps → x ≡ get_or ps i x → name ≡ part b x.name
    → so_far ≡ before ++ all_lines (all_named b (take i ps)) → after ≡ so_far ++ preset_lines x.number.value name (three_rows x.rows)
    → after ≡ before ++ all_lines (all_named b (take (i + 1) ps))
more b before so_far after name ps i x h is e p q =
    let next = map_more (named b) ps i x h in
    let lines = flat_map_more (λ (p : Named). preset_lines p.number p.name p.rows) before (all_named b (take i ps)) (named b x) in
    cc

pub loop-preset-preserved : goal.loop-preset-preserved
loop-preset-preserved c =
    more _ _ _ _ _ _ _ _ (omega arith) c.preset-item.is c.name_of-name.ensures c.loop-preset.invariant c.in_ok-write.ensures.bytes
