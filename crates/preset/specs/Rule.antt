-- The rule that every preset row keeps, and the PZB 90 rows.
use Rattle.std.specs.Prelude.{ℕ, Bool, ◌&&◌, List, [], ◌∷◌, length, ◌==◌, nat_le, slice_index}
use Rattle.preset.specs.declared.row.RowFields.{RowFields}
use Rattle.preset.specs.declared.programme.Programme.{Programme}
use Rattle.preset.specs.declared.programme.Programme.TheVariants.{O, M, U}

-- 1 ≤ rlow ≤ rhigh ≤ 45; rlow ≤ low5 ≤ high5 ≤ top; rhigh ≤ high5; 45 ≤ low ≤ top ≤ 250; 1 ≤ fall ≤ 60
abbrev pub row_rule : (top low fall high5 low5 rhigh rlow : ℕ) → Bool
row_rule top low fall high5 low5 rhigh rlow =
    nat_le 1 rlow && (nat_le rlow rhigh && (nat_le rhigh 45 &&
    (nat_le rlow low5 && (nat_le low5 high5 && (nat_le high5 top && (nat_le rhigh high5 &&
    (nat_le 45 low && (nat_le low top && (nat_le top 250 && (nat_le 1 fall && nat_le fall 60))))))))))

-- a list of numbers is a row where it has seven of them, in the order top, low, fall, high5, low5, rhigh, rlow, that keep the rule
abbrev pub row_keeps : List ℕ → Bool
row_keeps r =
    (length r == 7) &&
    row_rule (slice_index r 0) (slice_index r 1) (slice_index r 2) (slice_index r 3) (slice_index r 4) (slice_index r 5) (slice_index r 6)

-- the numbers of a row in that order
abbrev pub in_order : RowFields → List ℕ
in_order f = f.top.value ∷ f.low.value ∷ f.fall.value ∷ f.high5.value ∷ f.low5.value ∷ f.rhigh.value ∷ f.rlow.value ∷ []

-- a row for each programme
pub record ThreeRows : Type 0 where
  pub o : List ℕ
  pub m : List ℕ
  pub u : List ℕ

-- each of the three keeps the rule
abbrev pub rows_keep : ThreeRows → Bool
rows_keep r = row_keeps r.o && (row_keeps r.m && row_keeps r.u)

-- the row that a programme chooses
abbrev pub row_of : ThreeRows → Programme → List ℕ
row_of r O = r.o
row_of r M = r.m
row_of r U = r.u

-- the PZB 90 rows
abbrev pub pzb90 : ThreeRows
pzb90 = record {
  o = 165 ∷ 85 ∷ 23 ∷ 65 ∷ 45 ∷ 45 ∷ 25 ∷ [];
  m = 125 ∷ 70 ∷ 29 ∷ 50 ∷ 35 ∷ 25 ∷ 25 ∷ [];
  u = 105 ∷ 55 ∷ 38 ∷ 40 ∷ 25 ∷ 25 ∷ 25 ∷ [];
}
