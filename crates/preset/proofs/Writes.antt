-- What the writer's proofs share.
use Rattle.std.proofs.Common.{◌≡◌, ℕ, ◌+◌, ◌-◌, ◌<◌, ◌≤◌, List, [], ◌∷◌, ◌++◌, All, map, length, get_or, take, drop, None, Option, sym, ap, ◌∙◌, subst, arith}
use Rattle.std.proofs.lemmas.List.{drop-drop, append_assoc, length-append, drop_more, length-map, append-nil, take-append-drop, take_at}
use Rattle.std.proofs.lemmas.List.Elements.{All-cons, All-same}
use Rattle.preset.specs.Width.{number_bytes, two_bytes}
use Rattle.preset.specs.Format.{rows_bytes, entries, names, base, total, header, encoded}
use Rattle.preset.specs.Entries.{faults}
use Rattle.preset.specs.Valid.{Valid}
use Rattle.preset.specs.Presets.{named, all_named, claimed, part, three_rows}
use Rattle.preset.specs.Steps.{Passes, Lies}
use Rattle.preset.specs.declared.preset.Preset.{Preset}
use Rattle.preset.specs.declared.refusal.Refusal.{Refusal}
use Rattle.preset.specs.Drafts.{Drafted}
use Rattle.preset.specs.declared.draft.Draft.{Draft}
use Rattle.preset.proofs.Claims.{count_parts, valid_from}
use Rattle.preset.proofs.Trips.{Back, length-encoded, file_back}
use Rattle.preset.proofs.Walks.{name_long, claimed_whole}

pub drop_further : (m n : ℕ) (xs ys : List ℕ) → m ≤ n → drop m xs ≡ drop m ys → drop n xs ≡ drop n ys
drop_further m n xs ys h e =
    let w : n ≡ m + (n - m) = omega arith in
    ap (λ k. drop k xs) w ∙ (sym (drop-drop (n - m) m xs) ∙ (ap (drop (n - m)) e ∙ (drop-drop (n - m) m ys ∙ ap (λ k. drop k ys) (sym w))))

-- a part that was put behind what was there
pub record Put (at end : ℕ) (before after part : List ℕ) : Type 0 where
  pub ends : end ≡ at + length part
  pub front : take end after ≡ take at before ++ part
  pub back : drop end after ≡ drop end before

-- and one more behind it
pub put_two : (a m e : ℕ) (x y z p q : List ℕ) → Put a m x y p → Put m e y z q → Put a e x z (p ++ q)
put_two a m e x y z p q f g =
    let l = length-append p q in
    record {
      ends = omega (arith, f.ends, g.ends);
      front = g.front ∙ (ap (λ t. t ++ q) f.front ∙ append_assoc (take a x) p q);
      back = g.back ∙ drop_further m e y x (omega (arith, g.ends)) f.back;
    }

-- the loops over the presets, one on
module _ (text : List ℕ) (ps : List Preset) (i : ℕ) (x : Preset) (h : i < length ps) (is : x ≡ get_or ps i x) where
  front_of : drop i ps ≡ x ∷ drop (i + 1) ps
  front_of = drop_more ps i x h ∙ ap (λ y. y ∷ drop (i + 1) ps) (sym is)

  pub names_more : Lies text x → length (names (all_named text (drop i ps))) ≡ x.name.length + length (names (all_named text (drop (i + 1) ps)))
  names_more f = rw front_of (length-append (part text x.name) (names (all_named text (drop (i + 1) ps))) ∙ rw (name_long text x f.1))

  pub lies_add : Lies text x → All (Lies text) (drop (i + 1) ps) → All (Lies text) (drop i ps)
  lies_add f r = All-same (Lies text) _ _ front_of (All-cons (Lies text) x _ f r)

  pub lies_here : All (Lies text) ps → Lies text x
  lies_here all = subst (Lies text) (sym is) (all i x h)

  pub entries_more : (at : ℕ) → Lies text x →
      entries at (all_named text (drop i ps)) ≡
      (number_bytes x.number.value ++ (two_bytes at ++ (x.name.length ∷ rows_bytes (three_rows x.rows)))) ++ entries (at + x.name.length) (all_named text (drop (i + 1) ps))
  entries_more at f =
      ap (λ ys. entries at (all_named text ys)) front_of ∙
      ap (λ n. (number_bytes x.number.value ++ (two_bytes at ++ (n ∷ rows_bytes (three_rows x.rows)))) ++ entries (at + n) (all_named text (drop (i + 1) ps))) (name_long text x f.1)

  pub names_split : names (all_named text (drop i ps)) ≡ part text x.name ++ names (all_named text (drop (i + 1) ps))
  names_split = ap (λ ys. names (all_named text ys)) front_of

  pub faults_on : (last : ℕ) → Passes (i + 1) last (claimed text x) → (o : Option Refusal) →
      faults i last (map (claimed text) (drop i ps)) o ≡ faults (i + 1) x.number.value (map (claimed text) (drop (i + 1) ps)) o
  faults_on last f o = ap (λ ys. faults i last (map (claimed text) ys) o) front_of ∙ f _

-- a part more is done, and a part less is left
pub step : (t part e t' e' : List ℕ) → t' ≡ t ++ part → e ≡ part ++ e' → t' ++ e' ≡ t ++ e
step t part e t' e' p q = rw (p, q) (append_assoc t part e')

-- all is done
pub finish : (buf b1 b0 start H E N : List ℕ) (pos pos1 pos0 : ℕ) → pos1 ≤ pos → pos0 ≤ pos → take pos buf ++ [] ≡ take pos1 b1 ++ N → take pos1 b1 ++ [] ≡ H ++ E →
    drop pos buf ≡ drop pos b1 → drop pos1 b1 ≡ drop pos1 b0 → drop pos0 b0 ≡ drop pos0 start → buf ≡ (H ++ (E ++ N)) ++ drop pos start
finish buf b1 b0 start H E N pos pos1 pos0 l1 l0 f1 f0 d2 d1 d0 =
    let f = sym (append-nil (take pos buf)) ∙ (f1 ∙ (ap (λ t. t ++ N) (sym (append-nil (take pos1 b1)) ∙ f0) ∙ append_assoc H E N)) in
    let d = d2 ∙ (drop_further pos1 pos b1 b0 l1 d1 ∙ drop_further pos0 pos b0 start l0 d0) in
    sym (take-append-drop pos buf) ∙ (ap (λ t. t ++ drop pos buf) f ∙ ap (λ t. (H ++ (E ++ N)) ++ t) d)

pub encoded_is : (text : List ℕ) (ps : List Preset) (long : ℕ) → long ≡ total (all_named text ps) →
    encoded (all_named text ps) ≡ header (length ps) long ++ (entries (base (length ps)) (all_named text ps) ++ names (all_named text ps))
encoded_is text ps long e =
    let N = all_named text ps in
    ap (λ n. header (length N) n ++ (entries (base (length N)) N ++ names N)) (sym e) ∙
    ap (λ n. header n long ++ (entries (base n) N ++ names N)) (length-map ps (named text))

pub total_named : (text : List ℕ) (ps : List Preset) → total (all_named text ps) ≡ base (length ps) + length (names (all_named text ps))
total_named text ps = ap (λ n. base n + length (names (all_named text ps))) (length-map ps (named text))

-- what was written is read back
pub read_back : (text : List ℕ) (ps : List Preset) (n : ℕ) (before after : List ℕ) → 1 ≤ length ps → length ps ≤ 32 → All (Lies text) ps →
    ((o : Option Refusal) → faults 0 0 (map (claimed text) ps) o ≡ o) → n ≡ total (all_named text ps) →
    after ≡ encoded (all_named text ps) ++ drop n before → Back (take n after) (all_named text ps)
read_back text ps n before after some few i clear e w =
    let N = all_named text ps in
    let l = length-map ps (named text) in
    let v : Valid N = valid_from N (omega arith) (omega arith) (ap (λ cs. faults 0 0 cs None) (claimed_whole text ps i) ∙ clear None) in
    let same = ap (take n) w ∙ take_at (encoded N) (drop n before) n (length-encoded N v ∙ sym e) in
    file_back (take n after) N (record { valid = v; bytes = sym same })

-- what a draft says of its own fields, it says of what it was made of
pub drafted_back : (text : List ℕ) (ps : List Preset) (d : Draft) (before after : List ℕ) → Drafted ps text d →
    after ≡ encoded (all_named d.text.now d.presets.now) ++ drop d.extent before → Back (take d.extent after) (all_named text ps)
drafted_back text ps d before after k w =
    let n = count_parts (length ps) k.counted in
    let long = ap length k.presets_are in
    let clear : (o : Option Refusal) → faults 0 0 (map (claimed d.text.now) d.presets.now) o ≡ o = λ o.
    ap (λ xs. faults 0 0 (map (claimed d.text.now) xs) o) k.presets_are ∙ (ap (λ x. faults 0 0 (map (claimed x) ps) o) k.text_is ∙ k.passes o) in
    let same = ap (λ xs. all_named d.text.now xs) k.presets_are ∙ ap (λ x. all_named x ps) k.text_is in
    subst (Back (take d.extent after)) same (read_back d.text.now d.presets.now d.extent before after (omega arith) (omega arith) d.within clear d.measured w)
