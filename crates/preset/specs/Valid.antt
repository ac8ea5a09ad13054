-- The lists of presets that have a file, and the file that each has.
use Rattle.std.specs.Prelude.{◌≡◌, ℕ, All, ◌<◌, ◌≤◌, true, List, [], ◌∷◌, length}
use Rattle.preset.specs.Names.{is_name}
use Rattle.preset.specs.Rule.{rows_keep}
use Rattle.preset.specs.Format.{Named, encoded}

-- a name of 1 to 24 printable bytes, and three rows that keep the rule
pub record Sound (p : Named) : Type 0 where
  pub name : is_name p.name ≡ true
  pub rows : rows_keep p.rows ≡ true

-- each preset of a list is sound
abbrev pub AllSound : List Named → Type 0
AllSound ps = All Sound ps

-- the numbers rise, each above the one before and the first above `last`
abbrev pub Rising : ℕ → List Named → Type 0
Rising last [] = Unit {0}
Rising last (p ∷ ps) = (last < p.number) × Rising p.number ps

-- 1 to 32 sound presets whose numbers rise from 1 on
pub record Valid (ps : List Named) : Type 0 where
  pub some : 1 ≤ length ps
  pub few : length ps ≤ 32
  pub rising : Rising 0 ps
  pub sound : AllSound ps

-- the bytes are the file of that list
pub record FileOf (b : List ℕ) (ps : List Named) : Type 0 where
  pub valid : Valid ps
  pub bytes : encoded ps ≡ b
