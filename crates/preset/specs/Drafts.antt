-- What comes of presets that are to be written, but for the room that they need.
use Rattle.std.specs.Prelude.{◌≡◌, ℕ, true, List, map, length, Ok, Err, Result, Some, Option}
use Rattle.preset.specs.Entries.{faults, unless, count_fits}
use Rattle.preset.specs.Presets.{claimed}
use Rattle.preset.specs.declared.draft.Draft.{Draft}
use Rattle.preset.specs.declared.preset.Preset.{Preset}
use Rattle.preset.specs.declared.refusal.Refusal.{Refusal}
use Rattle.preset.specs.declared.refusal.Refusal.TheVariants.{Count}

-- nothing is wrong with so many presets, whatever comes next
pub record Drafted (ps : List Preset) (text : List ℕ) (d : Draft) : Type 0 where
  pub presets_are : d.presets.now ≡ ps
  pub text_is : d.text.now ≡ text
  pub counted : count_fits (length ps) ≡ true
  pub passes : (o : Option Refusal) → faults 0 0 (map (claimed text) ps) o ≡ o

-- the presets are refused, whatever comes next, or are those of the draft
abbrev pub Drafts : List Preset → List ℕ → Result Draft Refusal → Type 0
Drafts ps text (Ok d) = Drafted ps text d
Drafts ps text (Err e) = (o : Option Refusal) → unless (count_fits (length ps)) Count (faults 0 0 (map (claimed text) ps) o) ≡ Some e
