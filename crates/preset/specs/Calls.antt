-- What the calls answer.
use Rattle.std.specs.Prelude.{◌≡◌, ℕ, ◌≤◌, true, false, List, [], ◌∷◌, ◌++◌, map, length, take, drop, Some, None, Ok, Err, Option, Result, nat_le}
use Rattle.std.specs.Borrow.{Bor}
use Rattle.preset.specs.Rule.{row_rule}
use Rattle.preset.specs.Refusals.{row_refusal}
use Rattle.preset.specs.Format.{Named, encoded, total}
use Rattle.preset.specs.Entries.{first_refusal, decoded, held, numbered, unless}
use Rattle.preset.specs.Valid.{FileOf}
use Rattle.preset.specs.Presets.{row_numbers, all_named, held_as, part, LiesIn, AllLieIn, write_refusal}
use Rattle.preset.specs.declared.row.Row.{Row}
use Rattle.preset.specs.declared.preset.Place.{Place}
use Rattle.preset.specs.declared.preset.Preset.{Preset}
use Rattle.preset.specs.declared.file.PresetFile.{PresetFile}
use Rattle.preset.specs.declared.refusal.Refusal.{Refusal}
use Rattle.preset.specs.declared.refusal.Refusal.TheVariants.{Room}

-- seven numbers that keep the rule make that row, and others are refused with entry 0
abbrev pub Makes : (top low fall high5 low5 rhigh rlow : ℕ) → Result Row Refusal → Type 0
Makes top low fall high5 low5 rhigh rlow (Ok p) =
    (row_rule top low fall high5 low5 rhigh rlow ≡ true) × (row_numbers p ≡ top ∷ low ∷ fall ∷ high5 ∷ low5 ∷ rhigh ∷ rlow ∷ [])
Makes top low fall high5 low5 rhigh rlow (Err e) =
    (row_rule top low fall high5 low5 rhigh rlow ≡ false) × (e ≡ row_refusal 0 (top ∷ low ∷ fall ∷ high5 ∷ low5 ∷ rhigh ∷ rlow ∷ []))

-- bytes that no refusal names are read, and others are answered with the first refusal
abbrev pub Reads : List ℕ → Result PresetFile Refusal → Type 0
Reads b (Ok f) = (first_refusal b ≡ None) × (f.bytes.now ≡ b)
Reads b (Err e) = first_refusal b ≡ Some e

-- bytes are read exactly where they are the file of a valid list, and that one list is what they hold
abbrev pub OfValidList : List ℕ → Result PresetFile Refusal → Type 0
OfValidList b (Ok f) = FileOf b (decoded b) × ((ps : List Named) → FileOf b ps → ps ≡ decoded b)
OfValidList b (Err e) = (ps : List Named) → FileOf b ps → ⊥

-- the presets of a file in order, each with its place; written with the file as their text they give the file again
pub record Lists (b : List ℕ) (ps : List Preset) : Type 0 where
  pub presets : all_named b ps ≡ decoded b
  pub places : map (held_as b) ps ≡ held b
  pub in_file : AllLieIn b ps
  pub bytes_again : encoded (all_named b ps) ≡ b
  pub length_again : total (all_named b ps) ≡ length b
  pub not_refused : (room : ℕ) → write_refusal ps b room ≡ unless (nat_le (length b) room) Room None

-- a look-up answers the one preset of that number, or nothing where no entry has it
abbrev pub Finds : List ℕ → ℕ → Option Preset → Type 0
Finds b n (Some p) = (numbered n (held b) ≡ held_as b p ∷ []) × LiesIn b p.name
Finds b n None = numbered n (held b) ≡ []

-- a place in the file is handed out as that part, and a place that is not in it as nothing
abbrev pub Hands : List ℕ → Place → Option (Bor (List ℕ)) → Type 0
Hands b p (Some s) = LiesIn b p × (s.now ≡ part b p)
Hands b p None = LiesIn b p → ⊥

-- a write puts the file's bytes in front and leaves the rest, or is refused and leaves all
abbrev pub Wrote : List Preset → List ℕ → (before after : List ℕ) → Result ℕ Refusal → Type 0
Wrote ps text before after (Ok n) =
    (write_refusal ps text (length before) ≡ None) × (n ≡ total (all_named text ps)) × (n ≤ length before) ×
    (after ≡ encoded (all_named text ps) ++ drop n before)
Wrote ps text before after (Err e) = (write_refusal ps text (length before) ≡ Some e) × (after ≡ before)

-- what was written is not refused, and holds the presets with their names
abbrev pub ReadBack : List Preset → List ℕ → (after : List ℕ) → Result ℕ Refusal → Type 0
ReadBack ps text after (Ok n) = (first_refusal (take n after) ≡ None) × (decoded (take n after) ≡ all_named text ps)
ReadBack ps text after (Err e) = Unit {0}
