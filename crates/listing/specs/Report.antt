-- The report on a preset file: a line for the input, the presets or the refusal, and a line for what was written back.
use Rattle.std.specs.Prelude.{ℕ, List, [], ◌∷◌, ◌++◌, flat_map, length, Some, None, codes, decimal, Option}
use Rattle.preset.specs.Entries.{first_refusal, decoded}
use Rattle.preset.specs.Format.{Named}
use Rattle.preset.specs.Refusals.{refusal_number, refusal_entry, refusal_layer}
use Rattle.preset.specs.Rule.{ThreeRows, row_of}
use Rattle.preset.specs.declared.programme.Programme.{Programme}
use Rattle.preset.specs.declared.programme.Programme.TheVariants.{O, M, U}
use Rattle.preset.specs.declared.refusal.Refusal.{Refusal}
use Rattle.listing.specs.declared.lines.Verdict.{Verdict}
use Rattle.listing.specs.declared.lines.Verdict.TheVariants.{Same, Differs}

-- each line ends in byte 10
abbrev pub line_end : List ℕ
line_end = 10 ∷ []

-- the first line, with the length of the whole input
abbrev pub read_line : ℕ → List ℕ
read_line n = codes "read " ++ (decimal n ++ (codes " bytes" ++ line_end))

-- the numbers of a row, a space before each
abbrev pub spaced : List ℕ → List ℕ
spaced [] = line_end
spaced (n ∷ ns) = codes " " ++ (decimal n ++ spaced ns)

-- the letter that a row begins with
abbrev pub letter_of : Programme → List ℕ
letter_of O = codes "O"
letter_of M = codes "M"
letter_of U = codes "U"

-- the row that the programme chooses
abbrev pub row_line : Programme → ThreeRows → List ℕ
row_line g rows = letter_of g ++ spaced (row_of rows g)

-- a preset's number and name
abbrev pub title_line : ℕ → List ℕ → List ℕ
title_line number name = codes "preset " ++ (decimal number ++ (codes " " ++ (name ++ line_end)))

-- a preset's number and name, and its three rows
abbrev pub preset_lines : ℕ → List ℕ → ThreeRows → List ℕ
preset_lines number name rows = title_line number name ++ (row_line O rows ++ (row_line M rows ++ row_line U rows))

-- the lines of the presets, in order
abbrev pub all_lines : List Named → List ℕ
all_lines ps = flat_map (λ p. preset_lines p.number p.name p.rows) ps

-- the entry that a refusal names, if it names one, up to the end of the line
abbrev pub entry_word : Option ℕ → List ℕ
entry_word None = line_end
entry_word (Some k) = codes " " ++ (decimal k ++ line_end)

-- the refusal's number, its layer, and its entry where it names one
abbrev pub refusal_line : Refusal → List ℕ
refusal_line e = codes "no " ++ (decimal (refusal_number e) ++ (codes " " ++ (refusal_layer e ++ entry_word (refusal_entry e))))

-- how what was written compares with what was read
abbrev pub verdict : Verdict → List ℕ
verdict Same = codes "same"
verdict Differs = codes "differs"

-- the last line, with the length that was written
abbrev pub wrote_line : ℕ → Verdict → List ℕ
wrote_line n v = codes "wrote " ++ (decimal n ++ (codes " bytes, " ++ (verdict v ++ line_end)))

-- what comes after the first line: what was written back is always the same
abbrev pub outcome : List ℕ → Option Refusal → List ℕ
outcome b None = all_lines (decoded b) ++ wrote_line (length b) Same
outcome b (Some e) = refusal_line e

-- the whole report on some bytes
abbrev pub report_of : List ℕ → List ℕ
report_of b = read_line (length b) ++ outcome b (first_refusal b)
