-- The code's presets, with their names out of a text.
use Rattle.std.specs.Prelude.{ℕ, ◌+◌, ◌≤◌, All, List, map, length, take, drop, None, Option, nat_le}
use Rattle.preset.specs.Rule.{ThreeRows, in_order}
use Rattle.preset.specs.Format.{Named, Held, total}
use Rattle.preset.specs.Entries.{Claim, unless, faults, count_fits}
use Rattle.preset.specs.declared.row.Row.{Row}
use Rattle.preset.specs.declared.row.RowFields.{RowFields}
use Rattle.preset.specs.declared.preset.Rows.{Rows}
use Rattle.preset.specs.declared.preset.Place.{Place}
use Rattle.preset.specs.declared.preset.Preset.{Preset}
use Rattle.preset.specs.declared.list.PresetList.{PresetList}
use Rattle.preset.specs.declared.refusal.Refusal.{Refusal}
use Rattle.preset.specs.declared.refusal.Refusal.TheVariants.{Count, Room}

-- a row's numbers by their names
abbrev pub row_fields : Row → RowFields
row_fields r = r.fields

-- a row's numbers in the file's order
abbrev pub row_numbers : Row → List ℕ
row_numbers r = in_order (row_fields r)

-- the rows of a preset
abbrev pub three_rows : Rows → ThreeRows
three_rows r = record { o = row_numbers r.o; m = row_numbers r.m; u = row_numbers r.u }

-- the part of a text that a place names
abbrev pub part : List ℕ → Place → List ℕ
part text p = take p.length (drop p.offset text)

-- a place lies in a text
abbrev pub LiesIn : List ℕ → Place → Type 0
LiesIn text p = p.offset + p.length ≤ length text

-- a preset with its name out of the text
abbrev pub named : List ℕ → Preset → Named
named text p = record { number = p.number.value; name = part text p.name; rows = three_rows p.rows }

-- the presets of a list, with their names out of one text
abbrev pub all_named : List ℕ → List Preset → List Named
all_named text ps = map (named text) ps

-- a preset of a file
abbrev pub held_as : List ℕ → Preset → Held
held_as b p = record { at = p.name.offset; preset = named b p }

-- what a preset that is to be written claims: its name has to lie in the text
abbrev pub claimed : List ℕ → Preset → Claim
claimed text p = record {
  number = p.number.value;
  placed = nat_le (p.name.offset + p.name.length) (length text);
  name = part text p.name;
  rows = three_rows p.rows;
}

-- the first refusal of a list that is to be written into `room` bytes
abbrev pub write_refusal : List Preset → List ℕ → ℕ → Option Refusal
write_refusal ps text room =
    unless (count_fits (length ps)) Count
    (faults 0 0 (map (claimed text) ps)
    (unless (nat_le (total (all_named text ps)) room) Room None))

-- each name lies in the text
abbrev pub AllLieIn : List ℕ → List Preset → Type 0
AllLieIn text ps = All (λ p. LiesIn text p.name) ps

-- the presets that a list holds
abbrev pub listed : PresetList → List Preset
listed l = take l.count l.slots
