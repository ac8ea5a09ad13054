-- The bytes of a file of named presets.
use Rattle.std.specs.Prelude.{ℕ, ◌+◌, ◌*◌, List, [], ◌∷◌, ◌++◌, flat_map, length}
use Rattle.preset.specs.Rule.{ThreeRows}
use Rattle.preset.specs.Width.{version, number_bytes, entry_size, two_bytes}

-- a preset with its name: its number, the bytes of its name, and its rows
pub record Named : Type 0 where
  pub number : ℕ
  pub name : List ℕ
  pub rows : ThreeRows

-- the rows in the order O, M, U
abbrev pub rows_bytes : ThreeRows → List ℕ
rows_bytes r = r.o ++ (r.m ++ r.u)

-- the entry of a preset whose name lies at `at`
abbrev pub entry : ℕ → Named → List ℕ
entry at p = number_bytes p.number ++ (two_bytes at ++ (length p.name ∷ rows_bytes p.rows))

-- the entries, with the first name at `at` and each later one right behind the one before
abbrev pub entries : ℕ → List Named → List ℕ
entries at [] = []
entries at (p ∷ ps) = entry at p ++ entries (at + length p.name) ps

-- the names, back to back
abbrev pub names : List Named → List ℕ
names ps = flat_map (λ p. p.name) ps

-- the header has six bytes, and the entries begin behind it
abbrev pub header_size : ℕ
header_size = 6

-- where the names of n presets begin
abbrev pub base : ℕ → ℕ
base n = header_size + entry_size * n

-- how long the file is
abbrev pub total : List Named → ℕ
total ps = base (length ps) + length (names ps)

-- version, count, the entries' offset, the file's length
abbrev pub header : ℕ → ℕ → List ℕ
header n extent = version ∷ n ∷ (two_bytes header_size ++ two_bytes extent)

-- the file: the header, the entries and the names
abbrev pub encoded : List Named → List ℕ
encoded ps = header (length ps) (total ps) ++ (entries (base (length ps)) ps ++ names ps)

-- a preset with the place of its name in the file
pub record Held : Type 0 where
  pub at : ℕ
  pub preset : Named

-- the presets of a file whose first name lies at `at`, each with its place
abbrev pub located : ℕ → List Named → List Held
located at [] = []
located at (p ∷ ps) = record { at = at; preset = p } ∷ located (at + length p.name) ps
