-- The bytes of one entry, written and read.
use Rattle.std.proofs.Common.{◌≡◌, ℕ, ◌/◌, ◌%◌, ◌≤◌, true, ◌&&◌, eqb, leb, List, ◌∷◌, ◌++◌, length, get_or, take, drop, sym, refl, ap, ◌∙◌, arith, take-add}
use Rattle.std.proofs.lemmas.List.{append_assoc, length-append, length-take-le, take_at, drop_at, drop-drop}
use Rattle.std.proofs.lemmas.Bool.{and_from, and_parts, eqb-true, eq-eqb, le-leb}
use Rattle.preset.specs.Rule.{ThreeRows, row_keeps, rows_keep}
use Rattle.preset.specs.Width.{number_of, offset_of, size_of, rows_of, entry_size, two}
use Rattle.preset.specs.Format.{Named, rows_bytes, entry}
use Rattle.preset.specs.Entries.{claim, plain}
use Rattle.preset.proofs.Bytes.{Bytes, spells}
use Rattle.preset.proofs.Claims.{whole}

row_long : (r : List ℕ) → row_keeps r ≡ true → length r ≡ 7
row_long r h = eqb-true (length r) 7 (and_parts (eqb (length r) 7) _ h).0

-- rows that keep the rule have seven numbers each
pub record Sevens (r : ThreeRows) : Type 0 where
  pub o_long : length r.o ≡ 7
  pub m_long : length r.m ≡ 7
  pub u_long : length r.u ≡ 7

pub sevens : (r : ThreeRows) → rows_keep r ≡ true → Sevens r
sevens r h =
    let a = and_parts (row_keeps r.o) (row_keeps r.m && row_keeps r.u) h in
    let b = and_parts (row_keeps r.m) (row_keeps r.u) a.1 in
    record { o_long = row_long r.o a.0; m_long = row_long r.m b.0; u_long = row_long r.u b.1 }

pub rows_long : (r : ThreeRows) → Sevens r → length (rows_bytes r) ≡ 21
rows_long r s = omega (arith, length-append r.o (r.m ++ r.u), length-append r.m r.u, s.o_long, s.m_long, s.u_long)

pub entry_long : (at : ℕ) (p : Named) → rows_keep p.rows ≡ true → length (entry at p) ≡ entry_size
entry_long at p h = omega (arith, rows_long p.rows (sevens p.rows h))

-- three rows behind one another, with something behind them
module _ (r : ThreeRows) (s : Sevens r) (more : List ℕ) where
  abbrev X : List ℕ
  X = rows_bytes r ++ more

  regrouped : X ≡ r.o ++ (r.m ++ (r.u ++ more))
  regrouped = append_assoc r.o (r.m ++ r.u) more ∙ ap (λ t. r.o ++ t) (append_assoc r.m r.u more)

  past_o : drop 7 X ≡ r.m ++ (r.u ++ more)
  past_o = ap (drop 7) regrouped ∙ drop_at r.o _ 7 s.o_long

  past_m : drop 14 X ≡ r.u ++ more
  past_m = sym (drop-drop 7 7 X) ∙ (ap (drop 7) past_o ∙ drop_at r.m _ 7 s.m_long)

  pub rows_back : (a b c d : ℕ) → rows_of (a ∷ b ∷ c ∷ d ∷ X) ≡ r
  rows_back a b c d =
      let eo = ap (take 7) regrouped ∙ take_at r.o _ 7 s.o_long in
      let em = ap (take 7) past_o ∙ take_at r.m _ 7 s.m_long in
      let eu = ap (take 7) past_m ∙ take_at r.u _ 7 s.u_long in
      ap (λ t. record { o = t; m = take 7 (drop 7 X); u = take 7 (drop 14 X) }) eo ∙
      (ap (λ t. record { o = r.o; m = t; u = take 7 (drop 14 X) }) em ∙
      ap (λ t. record { o = r.o; m = r.m; u = t }) eu)

-- an entry that was written claims the preset that it was written for
pub claim_back : (at : ℕ) (p : Named) (more rest : List ℕ) → rows_keep p.rows ≡ true → claim at (entry at p ++ more) (p.name ++ rest) ≡ whole p
claim_back at p more rest keeps =
    let n = length p.name in
    let placed : (eqb (two (at / 256) (at % 256)) at && leb n (length (p.name ++ rest))) ≡ true =
    and_from _ _ (eq-eqb (two (at / 256) (at % 256)) at (omega arith)) (le-leb n (length (p.name ++ rest)) (omega (arith, length-append p.name rest))) in
    let rows_are = rows_back p.rows (sevens p.rows keeps) more p.number (at / 256) (at % 256) n in
    ap (λ t. record { number = p.number; placed = t; name = take n (p.name ++ rest); rows = rows_of (entry at p ++ more) }) placed ∙
    (ap (λ t. record { number = p.number; placed = true; name = t; rows = rows_of (entry at p ++ more) }) (take_at p.name rest n refl) ∙
    ap (λ t. record { number = p.number; placed = true; name = p.name; rows = t }) rows_are)

-- the bytes of an entry, part by part
entry_parts : (es : List ℕ) → entry_size ≤ length es →
    take entry_size es ≡ get_or es 0 0 ∷ get_or es 1 0 ∷ get_or es 2 0 ∷ get_or es 3 0 ∷ rows_bytes (rows_of es)
entry_parts es h =
    let X = drop 4 es in
    let three : take 21 X ≡ take 7 X ++ (take 7 (drop 7 X) ++ take 7 (drop 14 X)) =
    take-add 7 14 X ∙ ap (λ t. take 7 X ++ t) (take-add 7 7 (drop 7 X) ∙ ap (λ t. take 7 (drop 7 X) ++ take 7 t) (drop-drop 7 7 X)) in
    let moved = ap (λ t. take 7 X ++ (take 7 t ++ take 7 (drop 14 X))) (drop-drop 7 4 es) ∙ ap (λ t. take 7 X ++ (take 7 (drop 11 es) ++ take 7 t)) (drop-drop 14 4 es) in
    ap (take entry_size) (spells 4 0 es (omega arith)) ∙
    ap (λ t. get_or es 0 0 ∷ get_or es 1 0 ∷ get_or es 2 0 ∷ get_or es 3 0 ∷ t) (three ∙ moved)

-- an entry that was read is the one that is written for the preset that it claims
pub entry_again : (at : ℕ) (es ns : List ℕ) → Bytes es → entry_size ≤ length es → offset_of es ≡ at → size_of es ≤ length ns →
    entry at (plain (claim at es ns)) ≡ take entry_size es
entry_again at es ns y h place within =
    let hi : at / 256 ≡ get_or es 1 0 = omega (arith, place, y 2) in
    let lo : at % 256 ≡ get_or es 2 0 = omega (arith, place, y 2) in
    let E : (hi lo size : ℕ) → List ℕ = λ hi lo size. number_of es ∷ hi ∷ lo ∷ size ∷ rows_bytes (rows_of es) in
    ap (E (at / 256) (at % 256)) (length-take-le (size_of es) ns within) ∙
    (ap (λ t. E t (at % 256) (size_of es)) hi ∙
    (ap (λ t. E (get_or es 1 0) t (size_of es)) lo ∙ sym (entry_parts es h)))
