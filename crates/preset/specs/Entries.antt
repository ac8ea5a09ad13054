-- What is wrong with the entries of a file, or with a list of presets that is to be written: the first refusal, in order.
use Rattle.std.specs.Prelude.{ℕ, zero, suc, ◌+◌, Bool, true, false, ◌&&◌, List, [], ◌∷◌, map, length, take, drop, Some, None, Option, ◌==◌, nat_le, nat_lt, slice_index}
use Rattle.std.specs.List.{filter}
use Rattle.preset.specs.Rule.{ThreeRows, row_keeps}
use Rattle.preset.specs.Names.{is_name}
use Rattle.preset.specs.Refusals.{row_refusal}
use Rattle.preset.specs.Width.{version, number_of, offset_of, size_of, rows_of, entry_size, two}
use Rattle.preset.specs.Format.{Named, Held, header_size, base, total, located}
use Rattle.preset.specs.declared.refusal.Refusal.{Refusal}
use Rattle.preset.specs.declared.refusal.Refusal.TheVariants.{Length, Version, Count, Number, Name}

-- what an entry claims: a number, whether its name lies where it has to, the name and the rows
pub record Claim : Type 0 where
  pub number : ℕ
  pub placed : Bool
  pub name : List ℕ
  pub rows : ThreeRows

-- the refusal where a test fails, and else what comes after it
abbrev pub unless : Bool → Refusal → Option Refusal → Option Refusal
unless true e o = o
unless false e o = Some e

-- the name lies where it has to, and can be one
abbrev pub name_fits : Claim → Bool
name_fits c = c.placed && is_name c.name

-- a row of the entry k that breaks its rule is refused
abbrev pub row_fault : ℕ → List ℕ → Option Refusal → Option Refusal
row_fault k r next = unless (row_keeps r) (row_refusal k r) next

-- the rows of the entry k in the order O, M, U: the first that breaks its rule is refused
abbrev pub rows_fault : ℕ → ThreeRows → Option Refusal → Option Refusal
rows_fault k r next = row_fault k r.o (row_fault k r.m (row_fault k r.u next))

-- what is wrong with the entry k, which follows one of the number `last`, and where nothing is, what comes next
abbrev pub fault : (k last : ℕ) → Claim → Option Refusal → Option Refusal
fault k last c next =
    unless (nat_lt last c.number) (Number k)
    (unless (name_fits c) (Name k)
    (rows_fault k c.rows next))

-- the same of the entries behind the k-th, one by one
abbrev pub faults : (k last : ℕ) → List Claim → Option Refusal → Option Refusal
faults k last [] next = next
faults k last (c ∷ cs) next = fault (k + 1) last c (faults (k + 1) c.number cs next)

-- a file has 1 to 32 presets
abbrev pub count_fits : ℕ → Bool
count_fits n = nat_le 1 n && nat_le n 32

-- A FILE THAT IS READ

-- the entry at the front of `es`, whose name has to be at the front of `ns`, which begins at `at` of the file
abbrev pub claim : ℕ → List ℕ → List ℕ → Claim
claim at es ns = record {
  number = number_of es;
  placed = offset_of es == at && nat_le (size_of es) (length ns);
  name = take (size_of es) ns;
  rows = rows_of es;
}

-- the next `left` of them
abbrev pub claims : (left at : ℕ) → (es ns : List ℕ) → List Claim
claims zero at es ns = []
claims (suc left) at es ns = claim at es ns ∷ claims left (at + size_of es) (drop entry_size es) (drop (size_of es) ns)

-- the count in the header
abbrev pub count_in : List ℕ → ℕ
count_in b = slice_index b 1

-- what all entries of a file claim
abbrev pub claims_in : List ℕ → List Claim
claims_in b = claims (count_in b) (base (count_in b)) (drop header_size b) (drop (base (count_in b)) b)

-- the preset of an entry
abbrev pub plain : Claim → Named
plain c = record { number = c.number; name = c.name; rows = c.rows }

-- the presets that a file holds
abbrev pub decoded : List ℕ → List Named
decoded b = map plain (claims_in b)

-- the same with the places of their names
abbrev pub held : List ℕ → List Held
held b = located (base (count_in b)) (decoded b)

-- the first refusal of the entries one by one, and then of bytes left over, which counts as the last entry's
abbrev pub entries_refusal : List ℕ → Option Refusal
entries_refusal b = faults 0 0 (claims_in b) (unless (total (decoded b) == length b) (Name (count_in b)) None)

-- the first refusal of some bytes: length, version, header, and then the entries
abbrev pub first_refusal : List ℕ → Option Refusal
first_refusal b =
    unless (nat_le header_size (length b) && two (slice_index b 4) (slice_index b 5) == length b) Length
    (unless (slice_index b 0 == version) Version
    (unless (count_fits (count_in b) && (two (slice_index b 2) (slice_index b 3) == header_size && nat_le (base (count_in b)) (length b))) Count
    (entries_refusal b)))

-- the presets of that number
abbrev pub numbered : ℕ → List Held → List Held
numbered n hs = filter (λ h. h.preset.number == n) hs
