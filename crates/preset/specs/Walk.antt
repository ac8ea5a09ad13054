-- The walk over the entries of a file.
use Rattle.std.specs.Prelude.{◌≡◌, ℕ, ◌+◌, ◌<◌, ◌≤◌, List, Some, None, Ok, Err, Option, Result, drop, length, slice_index}
use Rattle.preset.specs.Width.{size_of}
use Rattle.preset.specs.Format.{base}
use Rattle.preset.specs.Entries.{Claim, claim, count_in}
use Rattle.preset.specs.Steps.{Passes, Fails}
use Rattle.preset.specs.declared.entry.Entry.{Entry}
use Rattle.preset.specs.declared.entries.Entries.{Entries}
use Rattle.preset.specs.declared.refusal.Refusal.{Refusal}

-- what an entry claims
abbrev pub claimed_by : Entry → Claim
claimed_by e = claim e.name_at e.bytes.now e.names.now

-- an entry that follows one of the number `last` is refused, or nothing is wrong with it and its name lies in the file
abbrev pub Checks : (last : ℕ) → Entry → Result (Unit {0}) Refusal → Type 0
Checks last e (Ok u) = Passes e.ordinal last (claimed_by e) × (size_of e.bytes.now ≤ length e.names.now)
Checks last e (Err r) = Fails e.ordinal last (claimed_by e) r

-- the first entry of a file is next
pub record Begins (b : List ℕ) (s : Entries) : Type 0 where
  pub first : s.places.start ≡ 0
  pub behind_last : s.places.end ≡ count_in b
  pub name_at : s.name_at ≡ base (count_in b)
  pub file : s.file.now ≡ b
  pub each_a_byte : (i : ℕ) → slice_index b i < 256

-- an entry is the next one, and then the one behind it is
pub record GoesTo (s : Entries) (e : Entry) (t : Entries) : Type 0 where
  pub left : s.places.start + 1 ≤ s.places.end
  pub ordinal : e.ordinal ≡ s.places.start + 1
  pub bytes : e.bytes.now ≡ drop (base s.places.start) s.file.now
  pub names : e.names.now ≡ drop s.name_at s.file.now
  pub name_at : e.name_at ≡ s.name_at
  pub next : t.places.start ≡ s.places.start + 1
  pub behind_last : t.places.end ≡ s.places.end
  pub name_at_behind : t.name_at ≡ s.name_at + size_of (drop (base s.places.start) s.file.now)
  pub same_file : t.file.now ≡ s.file.now

-- what comes next, and what is left then
abbrev pub Goes : Entries → Option Entry → Entries → Type 0
Goes s None t = s.places.end ≤ s.places.start
Goes s (Some e) t = GoesTo s e t
