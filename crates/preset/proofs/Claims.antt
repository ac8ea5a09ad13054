-- What is wrong with a claim, test by test.
use Rattle.std.proofs.Common.{◌≡◌, ℕ, ◌+◌, ◌<◌, ◌≤◌, Bool, true, false, ◌&&◌, eqb, ltb, leb, List, [], ◌∷◌, map, length, Ok, Err, Some, None, Option, sym, refl, ap, ◌∙◌, subst, arith}
use Rattle.std.proofs.lemmas.Bool.{and_from, and_parts, lt-ltb, le-leb, leb-true, ltb-true, eqb-true}
use Rattle.std.proofs.lemmas.List.Elements.{All-cons, All-head, All-nil, All-tail}
use Rattle.preset.specs.Rule.{ThreeRows, row_keeps, rows_keep}
use Rattle.preset.specs.Names.{is_name, printable}
use Rattle.preset.specs.Refusals.{row_refusal}
use Rattle.preset.specs.Width.{offset_of, size_of}
use Rattle.preset.specs.Format.{Named}
use Rattle.preset.specs.Entries.{Claim, unless, fault, faults, row_fault, rows_fault, name_fits, plain, claim, count_fits}
use Rattle.preset.specs.Valid.{Rising, AllSound, Sound, Valid}
use Rattle.preset.specs.Steps.{Passes, Fails, unless_refused}
use Rattle.preset.specs.declared.refusal.Refusal.{Refusal}
use Rattle.preset.specs.declared.refusal.Refusal.TheVariants.{Number, Name}

-- what a check that answers a first refusal says of it
pub refused : (o : Option Refusal) (e : Refusal) → unless_refused o ≡ Err e → o ≡ Some e
refused None e h = absurd (let z : ◌≡◌ {A = ℕ} 0 1 = cc in omega arith)
refused (Some r) e h = cc

pub not_refused : (o : Option Refusal) → unless_refused o ≡ Ok tt → o ≡ None
not_refused None h = refl
not_refused (Some r) h = absurd (let z : ◌≡◌ {A = ℕ} 0 1 = cc in omega arith)

-- an answer cannot be both
pub clash : {o : Option Refusal} {e : Refusal} → o ≡ Some e → o ≡ None → ⊥
clash {o} {e} p q = let z : ◌≡◌ {A = ℕ} 0 1 = cc in omega arith

pub passed : (t : Bool) (e : Refusal) (o : Option Refusal) → unless t e o ≡ None → (t ≡ true) × (o ≡ None)
passed true e o h = (refl, h)
passed false e o h = absurd (clash {o = Some e} refl h)

-- the facts of a name that fits
pub record Fit (c : Claim) : Type 0 where
  pub placed : c.placed ≡ true
  pub name : is_name c.name ≡ true

pub name_fit : (c : Claim) → Fit c → name_fits c ≡ true
name_fit c f = and_from c.placed (is_name c.name) f.placed f.name

pub fit : (c : Claim) → name_fits c ≡ true → Fit c
fit c h = let a = and_parts c.placed (is_name c.name) h in record { placed = a.0; name = a.1 }

-- a name has at most 24 bytes
pub name_short : (n : List ℕ) → is_name n ≡ true → length n ≤ 24
name_short n h =
    let a = and_parts (leb 1 (length n) && leb (length n) 24) (printable n) h in
    leb-true (length n) 24 (and_parts (leb 1 (length n)) (leb (length n) 24) a.0).1

-- the name of an entry in a file
pub claim_place : (at : ℕ) (es ns : List ℕ) → (claim at es ns).placed ≡ true → offset_of es ≡ at
claim_place at es ns h = eqb-true (offset_of es) at (and_parts (eqb (offset_of es) at) (leb (size_of es) (length ns)) h).0

pub claim_within : (at : ℕ) (es ns : List ℕ) → (claim at es ns).placed ≡ true → size_of es ≤ length ns
claim_within at es ns h = leb-true (size_of es) (length ns) (and_parts (eqb (offset_of es) at) (leb (size_of es) (length ns)) h).1

-- three rows that keep the rule are not refused, and back
pub rows_clear : (k : ℕ) (r : ThreeRows) → rows_keep r ≡ true → (o : Option Refusal) → rows_fault k r o ≡ o
rows_clear k r h o =
    let a = and_parts (row_keeps r.o) (row_keeps r.m && row_keeps r.u) h in
    let b = and_parts (row_keeps r.m) (row_keeps r.u) a.1 in
    rw (a.0, b.0, b.1)

rows_kept : (k : ℕ) (r : ThreeRows) (o : Option Refusal) → rows_fault k r o ≡ None → (rows_keep r ≡ true) × (o ≡ None)
rows_kept k r o h =
    let a = passed (row_keeps r.o) (row_refusal k r.o) (row_fault k r.m (row_fault k r.u o)) h in
    let b = passed (row_keeps r.m) (row_refusal k r.m) (row_fault k r.u o) a.1 in
    let c = passed (row_keeps r.u) (row_refusal k r.u) o b.1 in
    (and_from (row_keeps r.o) _ a.0 (and_from (row_keeps r.m) (row_keeps r.u) b.0 c.0), c.1)

-- an entry whose number rises and whose name fits: its rows decide
module _ (k last : ℕ) (c : Claim) (rises : ltb last c.number ≡ true) (fits : name_fits c ≡ true) where
  pub rows_fail : (e : Refusal) → ((o : Option Refusal) → rows_fault k c.rows o ≡ Some e) → Fails k last c e
  rows_fail e f o = rw (rises, fits) (f o)

  pub passes : rows_keep c.rows ≡ true → Passes k last c
  passes keeps o = rw (rises, fits) (rows_clear k c.rows keeps o)

-- what an entry that is not refused meets
pub record Meets (last : ℕ) (c : Claim) : Type 0 where
  pub rising : last < c.number
  pub name : Fit c
  pub rows : rows_keep c.rows ≡ true

pub meets : (k last : ℕ) (c : Claim) (o : Option Refusal) → fault k last c o ≡ None → Meets last c × (o ≡ None)
meets k last c o h =
    let a = passed (ltb last c.number) (Number k) (unless (name_fits c) (Name k) (rows_fault k c.rows o)) h in
    let b = passed (name_fits c) (Name k) (rows_fault k c.rows o) a.1 in
    let d = rows_kept k c.rows o b.1 in
    (record { rising = ltb-true last c.number a.0; name = fit c b.0; rows = d.0 }, d.1)

pub meets_passes : (k last : ℕ) (c : Claim) → Meets last c → Passes k last c
meets_passes k last c s = passes k last c (lt-ltb last c.number s.rising) (name_fit c s.name) s.rows

-- where nothing is wrong with a list of claims, what comes next decides
pub faults_next : (cs : List Claim) (k last : ℕ) (o : Option Refusal) → faults k last cs o ≡ None → o ≡ None
faults_next [] k last o h = h
faults_next (c ∷ cs) k last o h = faults_next cs (k + 1) c.number o (meets (k + 1) last c _ h).1

pub faults_clear : (cs : List Claim) (k last : ℕ) → faults k last cs None ≡ None → (o : Option Refusal) → faults k last cs o ≡ o
faults_clear [] k last h o = refl
faults_clear (c ∷ cs) k last h o =
    let s = meets (k + 1) last c _ h in
    meets_passes (k + 1) last c s.0 _ ∙ faults_clear cs (k + 1) c.number s.1 o

pub faults_none : (cs : List Claim) (k last : ℕ) (o : Option Refusal) → faults k last cs o ≡ None → faults k last cs None ≡ None
faults_none cs k last o h = subst (λ x. faults k last cs x ≡ None) (faults_next cs k last o h) h

-- the claim of a preset whose name is where it has to be
abbrev pub whole : Named → Claim
whole p = record { number = p.number; placed = true; name = p.name; rows = p.rows }

-- a preset is what its claim says, and the claim of a preset says that preset
pub whole_plain : (c : Claim) → c.placed ≡ true → whole (plain c) ≡ c
whole_plain c p = ap (λ t. record { number = c.number; placed = t; name = c.name; rows = c.rows }) (sym p)

pub plain_whole : (ps : List Named) → map plain (map whole ps) ≡ ps
plain_whole [] = refl
plain_whole (p ∷ ps) = ap (λ t. p ∷ t) (plain_whole ps)

-- a valid list is one whose claims are not refused
pub fine_from : (ps : List Named) (k last : ℕ) → Rising last ps → AllSound ps → faults k last (map whole ps) None ≡ None
fine_from [] k last r s = refl
fine_from (p ∷ ps) k last r s =
    let here = All-head Sound p ps s in
    meets_passes (k + 1) last (whole p) (record {
      rising = r.0;
      name = record { placed = refl; name = here.name };
      rows = here.rows;
    }) _ ∙
    fine_from ps (k + 1) p.number r.1 (All-tail Sound p ps s)

pub fine_to : (ps : List Named) (k last : ℕ) → faults k last (map whole ps) None ≡ None → Rising last ps × AllSound ps
fine_to [] k last h = (tt, All-nil Sound)
fine_to (p ∷ ps) k last h =
    let m = meets (k + 1) last (whole p) _ h in
    let r = fine_to ps (k + 1) p.number m.1 in
    ((m.0.rising, r.0), All-cons Sound p ps (record { name = m.0.name.name; rows = m.0.rows }) r.1)

pub valid_from : (ps : List Named) → 1 ≤ length ps → length ps ≤ 32 → faults 0 0 (map whole ps) None ≡ None → Valid ps
valid_from ps some few h = let v = fine_to ps 0 0 h in record { some = some; few = few; rising = v.0; sound = v.1 }

-- a count of 1 to 32
pub count_fit : (n : ℕ) → 1 ≤ n → n ≤ 32 → count_fits n ≡ true
count_fit n some few = and_from _ _ (le-leb 1 n some) (le-leb n 32 few)

pub count_parts : (n : ℕ) → count_fits n ≡ true → (1 ≤ n) × (n ≤ 32)
count_parts n h = let p = and_parts (leb 1 n) (leb n 32) h in (leb-true 1 n p.0, leb-true n 32 p.1)
