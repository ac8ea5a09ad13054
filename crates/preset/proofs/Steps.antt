-- One entry further, in a file that is read.
use Rattle.std.proofs.Common.{◌≡◌, ℕ, zero, suc, ◌+◌, ◌-◌, ◌≤◌, List, [], ◌∷◌, map, length, take, drop, Some, None, Option, sym, refl, ap, ◌∙◌, arith}
use Rattle.std.proofs.lemmas.List.{drop-drop, length-append, length-take-le}
use Rattle.preset.specs.Width.{number_of, size_of, entry_size}
use Rattle.preset.specs.Format.{names, base, total, header_size}
use Rattle.preset.specs.Entries.{Claim, claims, claims_in, count_in, plain, fault, faults, decoded}
use Rattle.preset.specs.Steps.{Passes, Fails}
use Rattle.preset.specs.Walk.{Begins, GoesTo, Goes, claimed_by}
use Rattle.preset.specs.declared.entry.Entry.{Entry}
use Rattle.preset.specs.declared.entries.Entries.{Entries}
use Rattle.preset.specs.declared.refusal.Refusal.{Refusal}
use Rattle.preset.proofs.Claims.{meets, claim_within}

-- the claims of the entries that are left
abbrev pub claims_left : Entries → List Claim
claims_left s = claims (s.places.end - s.places.start) s.name_at (drop (base s.places.start) s.file.now) (drop s.name_at s.file.now)

-- as many claims as entries
pub length-claims : (left at : ℕ) (es ns : List ℕ) → length (map plain (claims left at es ns)) ≡ left
length-claims zero at es ns = refl
length-claims (suc left) at es ns = ap suc (length-claims left (at + size_of es) (drop entry_size es) (drop (size_of es) ns))

-- before the first entry, and behind the last
module _ (b : List ℕ) (s : Entries) (f : Begins b s) where
  pub claims_first : claims_left s ≡ claims_in b
  claims_first =
      let n : s.places.end - s.places.start ≡ count_in b = omega (arith, f.first, f.behind_last) in
      rw (n, f.first, f.file, f.name_at)

  pub faults_first : (o : Option Refusal) → faults s.places.start 0 (claims_left s) o ≡ faults 0 0 (claims_in b) o
  faults_first o = ap (λ k. faults k 0 (claims_left s) o) f.first ∙ ap (λ cs. faults 0 0 cs o) claims_first

  pub names_first : s.name_at + length (names (map plain (claims_left s))) ≡ total (decoded b)
  names_first =
      let n = length-claims (count_in b) (base (count_in b)) (drop header_size b) (drop (base (count_in b)) b) in
      rw (claims_first, f.name_at) (ap (λ m. base m + length (names (decoded b))) (sym n))

pub claims_done : (s t : Entries) → Goes s None t → claims_left s ≡ []
claims_done s t f = let n : s.places.end - s.places.start ≡ 0 = omega (arith, f) in rw n

module _ (s t : Entries) (e : Entry) (f : GoesTo s e t) where
  pub claims_more : claims_left s ≡ claimed_by e ∷ claims_left t
  claims_more =
      let n : s.places.end - s.places.start ≡ suc (t.places.end - t.places.start) = omega (arith, f.left, f.next, f.behind_last) in
      let es = drop (base s.places.start) s.file.now in
      let z : base (s.places.start + 1) ≡ base s.places.start + entry_size = omega arith in
      let behind : drop (base t.places.start) t.file.now ≡ drop entry_size es =
      rw (f.same_file, f.next, z) (sym (drop-drop entry_size (base s.places.start) s.file.now)) in
      let names_behind : drop t.name_at t.file.now ≡ drop (size_of es) (drop s.name_at s.file.now) =
      rw (f.same_file, f.name_at_behind) (sym (drop-drop (size_of es) s.name_at s.file.now)) in
      rw (n, f.bytes, f.names, f.name_at, behind, names_behind, f.name_at_behind)

  -- an entry that nothing is wrong with
  module _ (last : ℕ) (p : Passes e.ordinal last (claimed_by e)) where
    pub faults_on : (o : Option Refusal) → faults s.places.start last (claims_left s) o ≡ faults t.places.start (number_of e.bytes.now) (claims_left t) o
    faults_on o =
        ap (λ cs. faults s.places.start last cs o) claims_more ∙
        (ap (λ k. fault k last (claimed_by e) (faults k (number_of e.bytes.now) (claims_left t) o)) (sym f.ordinal) ∙
        (p _ ∙ ap (λ k. faults k (number_of e.bytes.now) (claims_left t) o) (f.ordinal ∙ sym f.next)))

    -- it has its whole name in the file
    size_within : size_of e.bytes.now ≤ length e.names.now
    size_within = claim_within e.name_at e.bytes.now e.names.now (meets e.ordinal last (claimed_by e) None (p None)).0.name.placed

    pub names_on : s.name_at + length (names (map plain (claims_left s))) ≡ t.name_at + length (names (map plain (claims_left t)))
    names_on =
        let size = size_of e.bytes.now in
        ap (λ cs. s.name_at + length (names (map plain cs))) claims_more ∙
        omega (
          arith,
          length-append (take size e.names.now) (names (map plain (claims_left t))),
          length-take-le size e.names.now size_within,
          ap size_of f.bytes,
          f.name_at_behind,
        )

  pub faults_stop : (last : ℕ) (r : Refusal) → Fails e.ordinal last (claimed_by e) r → (o : Option Refusal) → faults s.places.start last (claims_left s) o ≡ Some r
  faults_stop last r p o =
      ap (λ cs. faults s.places.start last cs o) claims_more ∙
      (ap (λ k. fault k last (claimed_by e) (faults k (number_of e.bytes.now) (claims_left t) o)) (sym f.ordinal) ∙ p _)
