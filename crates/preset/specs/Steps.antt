-- What the functions behind the calls answer.
use Rattle.std.specs.Prelude.{◌≡◌, ℕ, ◌≤◌, true, false, List, Some, None, Ok, Err, Option, Result}
use Rattle.preset.specs.Rule.{row_keeps, rows_keep}
use Rattle.preset.specs.Refusals.{row_refusal}
use Rattle.preset.specs.Width.{number_of, size_of, rows_of}
use Rattle.preset.specs.Entries.{Claim, fault, rows_fault}
use Rattle.preset.specs.Presets.{row_numbers, three_rows, claimed, LiesIn}
use Rattle.preset.specs.declared.row.Row.{Row}
use Rattle.preset.specs.declared.preset.Preset.{Preset}
use Rattle.preset.specs.declared.preset.Rows.{Rows as PresetRows}
use Rattle.preset.specs.declared.refusal.Refusal.{Refusal}

-- a first refusal, as a call answers it
abbrev pub unless_refused : Option Refusal → Result (Unit {0}) Refusal
unless_refused None = Ok tt
unless_refused (Some e) = Err e

-- nothing is wrong with the entry k, whatever comes next
abbrev pub Passes : (k last : ℕ) → Claim → Type 0
Passes k last c = (o : Option Refusal) → fault k last c o ≡ o

-- the entry k is refused, whatever comes next
abbrev pub Fails : (k last : ℕ) → Claim → Refusal → Type 0
Fails k last c e = (o : Option Refusal) → fault k last c o ≡ Some e

-- the preset is what the entry at the front of `es` says, with its name at `at`
pub record Says (at : ℕ) (es : List ℕ) (p : Preset) : Type 0 where
  pub number : p.number.value ≡ number_of es
  pub offset : p.name.offset ≡ at
  pub size : p.name.length ≡ size_of es
  pub rows : three_rows p.rows ≡ rows_of es

-- the row of some bytes, in the entry k
abbrev pub ReadsRow : ℕ → List ℕ → Result Row Refusal → Type 0
ReadsRow k b (Ok p) = (row_keeps b ≡ true) × (row_numbers p ≡ b)
ReadsRow k b (Err e) = (row_keeps b ≡ false) × (e ≡ row_refusal k b)

-- the rows of the entry k at the front of `es`
abbrev pub ReadsRows : ℕ → List ℕ → Result PresetRows Refusal → Type 0
ReadsRows k es (Ok r) = (rows_keep (rows_of es) ≡ true) × (three_rows r ≡ rows_of es)
ReadsRows k es (Err e) = (rows_keep (rows_of es) ≡ false) × ((o : Option Refusal) → rows_fault k (rows_of es) o ≡ Some e)

-- a preset's name has at most 24 bytes and lies in the text
abbrev pub Lies : List ℕ → Preset → Type 0
Lies text p = (p.name.length ≤ 24) × LiesIn text p.name

-- the preset k that is to be written is refused or its name lies in the text
abbrev pub Admits : (k last : ℕ) → List ℕ → Preset → Result (Unit {0}) Refusal → Type 0
Admits k last text p (Ok u) = Passes k last (claimed text p) × Lies text p
Admits k last text p (Err e) = Fails k last (claimed text p) e
