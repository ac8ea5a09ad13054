-- What a file's version settles: its version byte, and how an entry holds a preset's number.
use Rattle.std.specs.Prelude.{ℕ, ◌+◌, ◌*◌, ◌/◌, ◌%◌, List, [], ◌∷◌, take, drop, slice_index}
use Rattle.preset.specs.Rule.{ThreeRows}

-- the version byte
abbrev pub version : ℕ
version = 1

-- how many bytes of an entry hold the number
abbrev pub number_width : ℕ
number_width = 1

-- the bytes of a number in an entry
abbrev pub number_bytes : ℕ → List ℕ
number_bytes n = n ∷ []

-- the number that an entry begins with
abbrev pub number_of : List ℕ → ℕ
number_of es = slice_index es 0

-- behind the number come the name's offset (two bytes), its length (one) and the rows (21)
abbrev pub entry_size : ℕ
entry_size = number_width + 24

-- two bytes hold a number, the high one first
abbrev pub two_bytes : ℕ → List ℕ
two_bytes n = n / 256 ∷ n % 256 ∷ []

-- the number that two bytes hold
abbrev pub two : ℕ → ℕ → ℕ
two high low = 256 * high + low

-- the parts of the entry that `es` begins with: where its name lies
abbrev pub offset_of : List ℕ → ℕ
offset_of es = two (slice_index es number_width) (slice_index es (number_width + 1))

-- the name's length
abbrev pub size_of : List ℕ → ℕ
size_of es = slice_index es (number_width + 2)

-- the three rows, seven bytes each
abbrev pub rows_of : List ℕ → ThreeRows
rows_of es = record {
  o = take 7 (drop (number_width + 3) es);
  m = take 7 (drop (number_width + 10) es);
  u = take 7 (drop (number_width + 17) es);
}
