-- A walk over the entries of an accepted file.
use Rattle.std.proofs.Common.{◌≡◌, ℕ, ◌+◌, ◌≤◌, true, leb, List, [], ◌∷◌, ◌++◌, All, map, length, take, drop, None, sym, refl, ap, ◌∙◌, arith}
use Rattle.std.proofs.lemmas.List.{length-drop, length-take-le, map-append, append_assoc, length-map}
use Rattle.std.proofs.lemmas.Simd.{map-map}
use Rattle.std.proofs.lemmas.List.Elements.{All-head, All-tail, All-weaker}
use Rattle.std.proofs.lemmas.Bool.{eq-eqb, ne_eqb, le-leb}
use Rattle.preset.specs.Rule.{rows_keep}
use Rattle.preset.specs.Width.{number_of, size_of, rows_of}
use Rattle.preset.specs.Format.{Named, Held, base, total, located, encoded}
use Rattle.preset.specs.Entries.{Claim, count_in, count_fits, plain, faults, unless, decoded, held, numbered, first_refusal}
use Rattle.preset.specs.Presets.{named, all_named, held_as, part, claimed, LiesIn}
use Rattle.preset.specs.Steps.{Says, Lies}
use Rattle.preset.specs.Walk.{Begins, Goes, GoesTo, claimed_by}
use Rattle.preset.specs.Calls.{Lists}
use Rattle.preset.specs.declared.entry.Entry.{Entry}
use Rattle.preset.specs.declared.entries.Entries.{Entries}
use Rattle.preset.specs.declared.preset.Preset.{Preset}
use Rattle.preset.specs.declared.refusal.Refusal.TheVariants.{Room}
use Rattle.preset.proofs.Claims.{Meets, meets, name_short, claim_within, faults_clear, whole, whole_plain, count_fit}
use Rattle.preset.proofs.Steps.{claims_left, claims_first, faults_first, claims_more, claims_done}
use Rattle.preset.proofs.Bytes.{Bytes}
use Rattle.preset.proofs.Trips.{accepted, decoded_fine, decoded_valid, encoded_decoded}

-- nothing is wrong with the entries that are left
pub record Stands (b : List ℕ) (s : Entries) : Type 0 where
  pub within : s.name_at ≤ length b
  pub file : s.file.now ≡ b
  pub last : ℕ
  pub fine : faults s.places.start last (claims_left s) None ≡ None

pub stands_first : (b : List ℕ) (s : Entries) → Begins b s → first_refusal b ≡ None → Stands b s
stands_first b s f h =
    let a = accepted b h in
    record { within = omega (arith, a.room, f.name_at); file = f.file; last = 0; fine = faults_first b s f None ∙ a.fine }

-- the presets that are left, with their places
abbrev pub held_left : Entries → List Held
held_left s = located s.name_at (map plain (claims_left s))

pub held_first : (b : List ℕ) (s : Entries) → Begins b s → held_left s ≡ held b
held_first b s f = ap (λ n. located n (map plain (claims_left s))) f.name_at ∙ ap (λ cs. located (base (count_in b)) (map plain cs)) (claims_first b s f)

pub held_done : (s t : Entries) → Goes s None t → held_left s ≡ []
held_done s t f = ap (λ cs. located s.name_at (map plain cs)) (claims_done s t f)

-- no entry behind one of a number has it again
none_again : (cs : List Claim) (k last at n : ℕ) → n ≤ last → faults k last cs None ≡ None → numbered n (located at (map plain cs)) ≡ []
none_again [] k last at n l h = refl
none_again (c ∷ cs) k last at n l h =
    let s = meets (k + 1) last c _ h in
    let r = s.0.rising in
    rw (ne_eqb c.number n (λ e. omega arith)) (none_again cs (k + 1) c.number (at + length c.name) n (omega arith) s.1)

-- one entry further
module _ (b : List ℕ) (s t : Entries) (e : Entry) (stands : Stands b s) (f : GoesTo s e t) where
  step : Meets stands.last (claimed_by e) × (faults (s.places.start + 1) (number_of e.bytes.now) (claims_left t) None ≡ None)
  step = meets (s.places.start + 1) stands.last (claimed_by e) _ (sym (ap (λ cs. faults s.places.start stands.last cs None) (claims_more s t e f)) ∙ stands.fine)

  pub stands_rows : rows_keep (rows_of e.bytes.now) ≡ true
  stands_rows = step.0.rows

  names_here : e.names.now ≡ drop e.name_at b
  names_here = f.names ∙ (ap (drop s.name_at) stands.file ∙ ap (λ n. drop n b) (sym f.name_at))

  size_fits : size_of e.bytes.now ≤ length e.names.now
  size_fits = claim_within e.name_at e.bytes.now e.names.now step.0.name.placed

  size_inside : e.name_at + size_of e.bytes.now ≤ length b
  size_inside = omega (arith, size_fits, ap length names_here, length-drop e.name_at b, stands.within, f.name_at)

  pub stands_next : Stands b t
  stands_next =
      let size = ap size_of f.bytes in
      record {
        within = omega (arith, size_inside, size, f.name_at, f.name_at_behind);
        file = f.same_file ∙ stands.file;
        last = number_of e.bytes.now;
        fine = ap (λ k. faults k (number_of e.bytes.now) (claims_left t) None) f.next ∙ step.1;
      }

  held_more : held_left s ≡ record { at = s.name_at; preset = plain (claimed_by e) } ∷ held_left t
  held_more =
      let behind : s.name_at + length (take (size_of e.bytes.now) e.names.now) ≡ t.name_at =
      omega (arith, length-take-le (size_of e.bytes.now) e.names.now size_fits, ap size_of f.bytes, f.name_at_behind) in
      ap (λ cs. located s.name_at (map plain cs)) (claims_more s t e f) ∙
      ap (λ n. record { at = s.name_at; preset = plain (claimed_by e) } ∷ located n (map plain (claims_left t))) behind

  pub not_here : (n : ℕ) → (number_of e.bytes.now ≡ n → ⊥) → numbered n (held_left s) ≡ numbered n (held_left t)
  not_here n other = ap (numbered n) held_more ∙ rw (ne_eqb (number_of e.bytes.now) n other)

  -- the preset that the code made of the entry
  module _ (p : Preset) (says : Says e.name_at e.bytes.now p) where
    pub lies : Lies b p
    lies =
        let short = name_short (take (size_of e.bytes.now) e.names.now) step.0.name.name in
        let long = length-take-le (size_of e.bytes.now) e.names.now size_fits in
        (omega (arith, says.size, short, long), omega (arith, says.size, says.offset, size_inside))

    preset_is : held_as b p ≡ record { at = s.name_at; preset = plain (claimed_by e) }
    preset_is =
        let n = says.number in
        let o : p.name.offset ≡ s.name_at = says.offset ∙ f.name_at in
        let z = says.size in
        let r = says.rows in
        let m : take p.name.length (drop p.name.offset b) ≡ take (size_of e.bytes.now) e.names.now = rw (says.size, says.offset, names_here) in
        cc

    pub held_next : held_left s ≡ held_as b p ∷ held_left t
    held_next = held_more ∙ ap (λ h. h ∷ held_left t) (sym preset_is)

    pub found : (n : ℕ) → number_of e.bytes.now ≡ n → numbered n (held_left s) ≡ held_as b p ∷ []
    found n is =
        ap (numbered n) held_next ∙
        rw (eq-eqb p.number.value n (says.number ∙ is)) (ap (λ hs. held_as b p ∷ hs) (none_again (claims_left t) (s.places.start + 1) (number_of e.bytes.now) t.name_at n (omega arith) step.1))

-- LISTING

presets_of : (at : ℕ) (N : List Named) → map (λ x. x.preset) (located at N) ≡ N
presets_of at [] = refl
presets_of at (p ∷ N) = ap (λ t. p ∷ t) (presets_of (at + length p.name) N)

-- one preset more is listed
pub listed_more : (b : List ℕ) (xs ys : List Preset) (p : Preset) (hs hs' : List Held) → ys ≡ xs ++ (p ∷ []) → hs ≡ held_as b p ∷ hs' → map (held_as b) ys ++ hs' ≡ map (held_as b) xs ++ hs
listed_more b xs ys p hs hs' e d =
    rw (e, d) (ap (λ t. t ++ hs') (map-append (held_as b) xs (p ∷ [])) ∙ append_assoc (map (held_as b) xs) (held_as b p ∷ []) hs')

-- a name that lies in the text is as long as it says
pub name_long : (text : List ℕ) (p : Preset) → LiesIn text p.name → length (part text p.name) ≡ p.name.length
name_long text p h = length-take-le p.name.length (drop p.name.offset text) (omega (arith, length-drop p.name.offset text))

-- a preset whose name lies in the text claims what it is
pub claimed_whole : (text : List ℕ) (ps : List Preset) → All (Lies text) ps → map whole (all_named text ps) ≡ map (claimed text) ps
claimed_whole text [] i = refl
claimed_whole text (p ∷ ps) i =
    let here = All-head (Lies text) p ps i in
    ap (λ t. t ∷ map whole (all_named text ps)) (whole_plain (claimed text p) (le-leb (p.name.offset + p.name.length) (length text) here.1)) ∙
    ap (λ t. claimed text p ∷ t) (claimed_whole text ps (All-tail (Lies text) p ps i))

-- the presets of a file, written with the file as their text
pub lists : (b : List ℕ) (ps : List Preset) → Bytes b → first_refusal b ≡ None → map (held_as b) ps ≡ held b → All (Lies b) ps → Lists b ps
lists b ps y h e i =
    let a = accepted b h in
    let v = decoded_valid b y h in
    let same : all_named b ps ≡ decoded b = sym (map-map (λ x. x.preset) (held_as b) ps) ∙ (ap (map (λ x. x.preset)) e ∙ presets_of (base (count_in b)) (decoded b)) in
    let long : length ps ≡ length (decoded b) = sym (length-map ps (named b)) ∙ ap length same in
    let many : count_fits (length ps) ≡ true = count_fit (length ps) (omega (arith, v.some)) (omega (arith, v.few)) in
    let clear = sym (ap (λ cs. faults 0 0 cs None) (sym (ap (map whole) same) ∙ claimed_whole b ps i)) ∙ decoded_fine b y h in
    record {
      presets = same;
      places = e;
      in_file = All-weaker (Lies b) (λ p. LiesIn b p.name) (λ p l. l.1) ps i;
      bytes_again = ap encoded same ∙ encoded_decoded b y h;
      length_again = ap total same ∙ a.total_is;
      not_refused = λ room. rw many (faults_clear (map (claimed b) ps) 0 0 clear _ ∙ ap (λ n. unless (leb n room) Room None) (ap total same ∙ a.total_is));
    }
