-- Both round trips, over lists.
use Rattle.std.proofs.Common.{◌≡◌, ℕ, zero, suc, ◌+◌, ◌-◌, ◌*◌, ◌/◌, ◌%◌, ◌≤◌, true, eqb, leb, List, [], ◌∷◌, ◌++◌, map, length, get_or, take, drop, Some, None, sym, refl, ap, ◌∙◌, subst, arith, take-add}
use Rattle.std.proofs.lemmas.List.{drop-drop, append_assoc, append-nil, length-append, drop_at, length-drop, length-take-le, take-append-drop, nil_from_length}
use Rattle.std.proofs.lemmas.Bool.{and_parts, and_from, le-leb, eq-eqb, leb-true, eqb-true}
use Rattle.preset.specs.Width.{number_of, size_of, entry_size, two, version}
use Rattle.preset.specs.Format.{Named, entry, entries, names, base, total, header, header_size, encoded}
use Rattle.preset.specs.Entries.{Claim, claim, claims, claims_in, count_in, count_fits, decoded, plain, faults, unless, first_refusal, entries_refusal}
use Rattle.preset.specs.Valid.{Valid, FileOf}
use Rattle.preset.specs.declared.refusal.Refusal.{Refusal}
use Rattle.preset.specs.declared.refusal.Refusal.TheVariants.{Length, Version, Count, Name}
use Rattle.preset.proofs.Bytes.{Bytes, bytes_drop, spells}
use Rattle.preset.proofs.Claims.{clash, passed, meets, claim_place, claim_within, faults_next, faults_none, whole, whole_plain, plain_whole, fine_from, valid_from, count_fit, count_parts}
use Rattle.preset.proofs.EntryBytes.{claim_back, entry_long, entry_again}
use Rattle.preset.proofs.Steps.{length-claims}

-- WRITTEN, THEN READ

pub back : (N : List Named) (k last at : ℕ) (rest : List ℕ) → faults k last (map whole N) None ≡ None →
    claims (length N) at (entries at N ++ rest) (names N) ≡ map whole N
back [] k last at rest h = refl
back (p ∷ N) k last at rest h =
    let s = meets (k + 1) last (whole p) _ h in
    let n = length p.name in
    let more = entries (at + n) N ++ rest in
    let F : List ℕ → List Claim = λ es. claims (suc (length N)) at es (p.name ++ names N) in
    let r = back N (k + 1) p.number (at + n) rest s.1 in
    ap F (append_assoc (entry at p) (entries (at + n) N) rest) ∙
    (ap (λ c. c ∷ claims (length N) (at + n) (drop entry_size (entry at p ++ more)) (drop n (p.name ++ names N))) (claim_back at p more (names N) s.0.rows) ∙
    ap (λ cs. whole p ∷ cs)
    (ap (λ es. claims (length N) (at + n) es (drop n (p.name ++ names N))) (drop_at (entry at p) more entry_size (entry_long at p s.0.rows)) ∙
    (ap (λ ns. claims (length N) (at + n) more ns) (drop_at p.name (names N) n refl) ∙ r)))

pub length-entries : (N : List Named) (k last at : ℕ) → faults k last (map whole N) None ≡ None → length (entries at N) ≡ entry_size * length N
length-entries [] k last at h = refl
length-entries (p ∷ N) k last at h =
    let s = meets (k + 1) last (whole p) _ h in
    let n = length p.name in
    let r = length-entries N (k + 1) p.number (at + n) s.1 in
    let e = entry_long at p s.0.rows in
    let a = length-append (entry at p) (entries (at + n) N) in
    omega arith

pub length-encoded : (N : List Named) → Valid N → length (encoded N) ≡ total N
length-encoded N v =
    let e = length-entries N 0 0 (base (length N)) (fine_from N 0 0 v.rising v.sound) in
    let a = length-append (entries (base (length N)) N) (names N) in
    omega arith

-- the file of a valid list is read as that list
pub record Back (b : List ℕ) (N : List Named) : Type 0 where
  pub accepted : first_refusal b ≡ None
  pub holds : decoded b ≡ N

encoded_back : (N : List Named) → Valid N → Back (encoded N) N
encoded_back N v =
    let n = length N in
    let b = encoded N in
    let fine = fine_from N 0 0 v.rising v.sound in
    let e = length-entries N 0 0 (base n) fine in
    let long = length-encoded N v in
    let behind : drop (base n) b ≡ names N = drop_at (header n (total N) ++ entries (base n) N) (names N) (base n) (omega arith) in
    let cs : claims_in b ≡ map whole N = ap (λ ns. claims n (base n) (entries (base n) N ++ names N) ns) behind ∙ back N 0 0 (base n) (names N) fine in
    let held = ap (map plain) cs ∙ plain_whole N in
    let L = and_from (leb header_size (length b)) (eqb (two (total N / 256) (total N % 256)) (length b)) (le-leb header_size (length b) (omega arith)) (eq-eqb (two (total N / 256) (total N % 256)) (length b) (omega arith)) in
    let K = and_from (count_fits n) (leb (base n) (length b)) (count_fit n v.some v.few) (le-leb (base n) (length b) (omega arith)) in
    let T = ap (λ m. eqb (total m) (length b)) held ∙ eq-eqb (total N) (length b) (sym long) in
    let E : entries_refusal b ≡ None =
    ap (λ x. faults 0 0 x (unless (eqb (total (decoded b)) (length b)) (Name n) None)) cs ∙
    (ap (λ t. faults 0 0 (map whole N) (unless t (Name n) None)) T ∙ fine) in
    record { accepted = rw (L, K) E; holds = held }

pub file_back : (b : List ℕ) (N : List Named) → FileOf b N → Back b N
file_back b N f = subst (λ x. Back x N) f.bytes (encoded_back N f.valid)

-- READ, THEN WRITTEN

-- the claims of entries that are not refused: their presets have these entries and names, and claim the same
pub record Forth (cs : List Claim) (at n : ℕ) (es ns : List ℕ) : Type 0 where
  pub entries_are : entries at (map plain cs) ≡ take n es
  pub names_are : names (map plain cs) ++ drop (length (names (map plain cs))) ns ≡ ns
  pub claims_are : map whole (map plain cs) ≡ cs

pub forth : (left k last at n : ℕ) (es ns : List ℕ) → Bytes es → n ≡ entry_size * left → n ≤ length es → faults k last (claims left at es ns) None ≡ None →
    Forth (claims left at es ns) at n es ns
forth zero k last at n es ns y e h w =
    record { entries_are = ap (λ m. take m es) (let z : 0 ≡ n = omega arith in z); names_are = refl; claims_are = refl }
forth (suc left) k last at n es ns y e h w =
    let s = size_of es in
    let c = claim at es ns in
    let rest = claims left (at + s) (drop entry_size es) (drop s ns) in
    let m = meets (k + 1) last c _ w in
    let place = claim_place at es ns m.0.name.placed in
    let within = claim_within at es ns m.0.name.placed in
    let more : n ≡ entry_size + (n - entry_size) = omega arith in
    let r = forth left (k + 1) (number_of es) (at + s) (n - entry_size) (drop entry_size es) (drop s ns) (bytes_drop entry_size es y) (omega arith) (omega (arith, length-drop entry_size es)) m.1 in
    let size_is : length (take s ns) ≡ s = length-take-le s ns within in
    let N = names (map plain rest) in
    record {
      entries_are =
          ap (λ t. t ++ entries (at + length (take s ns)) (map plain rest)) (entry_again at es ns y (omega arith) place within) ∙
          (ap (λ z. take entry_size es ++ entries (at + z) (map plain rest)) size_is ∙
          (ap (λ t. take entry_size es ++ t) r.entries_are ∙
          (sym (take-add entry_size (n - entry_size) es) ∙ ap (λ t. take t es) (sym more))));
      names_are =
          append_assoc (take s ns) N (drop (length (take s ns ++ N)) ns) ∙
          (ap (λ l. take s ns ++ (N ++ drop l ns)) (length-append (take s ns) N ∙ ap (λ z. z + length N) size_is) ∙
          (ap (λ t. take s ns ++ (N ++ t)) (sym (drop-drop (length N) s ns)) ∙
          (ap (λ t. take s ns ++ t) r.names_are ∙ take-append-drop s ns)));
      claims_are =
          ap (λ t. t ∷ map whole (map plain rest)) (whole_plain c m.0.name.placed) ∙ ap (λ t. c ∷ t) r.claims_are;
    }

-- what bytes that are not refused meet
pub record Accepted (b : List ℕ) : Type 0 where
  pub long : header_size ≤ length b
  pub length_is : two (get_or b 4 0) (get_or b 5 0) ≡ length b
  pub version_is : get_or b 0 0 ≡ version
  pub counted : count_fits (count_in b) ≡ true
  pub few : count_in b ≤ 32
  pub offset_is : two (get_or b 2 0) (get_or b 3 0) ≡ header_size
  pub room : base (count_in b) ≤ length b
  pub fine : faults 0 0 (claims_in b) None ≡ None
  pub total_is : total (decoded b) ≡ length b

pub accepted : (b : List ℕ) → first_refusal b ≡ None → Accepted b
accepted b h =
    let p = passed _ Length _ h in
    let q = passed _ Version _ p.1 in
    let r = passed _ Count _ q.1 in
    let p1 = and_parts _ _ p.0 in
    let r1 = and_parts _ _ r.0 in
    let r2 = and_parts (leb 1 (count_in b)) (leb (count_in b) 32) r1.0 in
    let r3 = and_parts _ _ r1.1 in
    let over = unless (eqb (total (decoded b)) (length b)) (Name (count_in b)) None in
    let t = passed (eqb (total (decoded b)) (length b)) (Name (count_in b)) None (faults_next (claims_in b) 0 0 over r.1) in
    record {
      long = leb-true header_size (length b) p1.0;
      length_is = eqb-true (two (get_or b 4 0) (get_or b 5 0)) (length b) p1.1;
      version_is = eqb-true (get_or b 0 0) version q.0;
      counted = r1.0;
      few = leb-true (count_in b) 32 r2.1;
      offset_is = eqb-true (two (get_or b 2 0) (get_or b 3 0)) header_size r3.0;
      room = leb-true (base (count_in b)) (length b) r3.1;
      fine = faults_none (claims_in b) 0 0 over r.1;
      total_is = eqb-true (total (decoded b)) (length b) t.0;
    }

six_bytes : (b : List ℕ) (n hi lo : ℕ) → header_size ≤ length b → version ≡ get_or b 0 0 → n ≡ get_or b 1 0 → 0 ≡ get_or b 2 0 → 6 ≡ get_or b 3 0 → hi ≡ get_or b 4 0 → lo ≡ get_or b 5 0 →
    version ∷ n ∷ 0 ∷ 6 ∷ hi ∷ lo ∷ drop 6 b ≡ b
six_bytes b n hi lo h e0 e1 e2 e3 e4 e5 = let f = spells 6 0 b h in cc

module _ (b : List ℕ) (y : Bytes b) (h : first_refusal b ≡ None) where
  -- the entries of an accepted file, from its claims
  all_forth : Forth (claims_in b) (base (count_in b)) (entry_size * count_in b) (drop header_size b) (drop (base (count_in b)) b)
  all_forth =
      let a = accepted b h in
      forth (count_in b) 0 0 (base (count_in b)) (entry_size * count_in b) (drop header_size b) (drop (base (count_in b)) b) (bytes_drop header_size b y) refl (omega (arith, length-drop header_size b, a.room)) a.fine

  many : length (decoded b) ≡ count_in b
  many = length-claims (count_in b) (base (count_in b)) (drop header_size b) (drop (base (count_in b)) b)

  pub decoded_fine : faults 0 0 (map whole (decoded b)) None ≡ None
  decoded_fine = ap (λ cs. faults 0 0 cs None) all_forth.claims_are ∙ (accepted b h).fine

  pub decoded_valid : Valid (decoded b)
  decoded_valid =
      let a = accepted b h in
      let n = count_parts (count_in b) a.counted in
      valid_from (decoded b) (omega (arith, many)) (omega (arith, many)) decoded_fine

  pub encoded_decoded : encoded (decoded b) ≡ b
  encoded_decoded =
      let a = accepted b h in
      let n = count_in b in
      let D = decoded b in
      let f = all_forth in
      let l = length (names D) in
      let ns = drop (base n) b in
      let t : base n + l ≡ length b = sym (ap (λ m. base m + l) many) ∙ a.total_is in
      let left = nil_from_length (drop l ns) (omega (arith, length-drop l ns, length-drop (base n) b)) in
      let names-all : names D ≡ ns = sym (append-nil (names D)) ∙ (ap (λ x. names D ++ x) (sym left) ∙ f.names_are) in
      let rest : take (entry_size * n) (drop header_size b) ++ ns ≡ drop header_size b =
      ap (λ x. take (entry_size * n) (drop header_size b) ++ x) (sym (drop-drop (entry_size * n) header_size b)) ∙ take-append-drop (entry_size * n) (drop header_size b) in
      ap (λ m. header m (base m + l) ++ (entries (base m) D ++ names D)) many ∙
      (ap (λ x. header n x ++ (entries (base n) D ++ names D)) t ∙
      (ap (λ x. header n (length b) ++ (x ++ names D)) f.entries_are ∙
      (ap (λ x. header n (length b) ++ (take (entry_size * n) (drop header_size b) ++ x)) names-all ∙
      (ap (λ x. header n (length b) ++ x) rest ∙
      six_bytes b n (length b / 256) (length b % 256) a.long (sym a.version_is) refl (omega (arith, a.offset_is, y 3)) (omega (arith, a.offset_is, y 3)) (omega (arith, a.length_is, y 5)) (omega (arith, a.length_is, y 5))))))

  pub file_of : FileOf b (decoded b)
  file_of = record { valid = decoded_valid; bytes = encoded_decoded }

pub only_list : (b : List ℕ) (N : List Named) → FileOf b N → N ≡ decoded b
only_list b N f = sym (file_back b N f).holds

pub no_list : (b : List ℕ) (e : Refusal) → first_refusal b ≡ Some e → (N : List Named) → FileOf b N → ⊥
no_list b e h N f = clash h (file_back b N f).accepted
