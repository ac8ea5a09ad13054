-- The number, the layer and the entry that each refusal of a preset file names.
use Rattle.std.specs.Prelude.{ℕ, List, Some, None, codes, Option}
use Rattle.preset.specs.declared.refusal.Refusal.{Refusal}
use Rattle.preset.specs.declared.refusal.Refusal.TheVariants.{Length, Version, Count, Number, Name, Rows, Room}

-- the number by which each is known
abbrev pub refusal_number : Refusal → ℕ
refusal_number Length = 1
refusal_number Version = 2
refusal_number Count = 3
refusal_number (Number k) = 4
refusal_number (Name k) = 5
refusal_number (Rows k) = 6
refusal_number Room = 7

-- entries are counted from 1; a row that is made alone has entry 0
abbrev pub refusal_entry : Refusal → Option ℕ
refusal_entry Length = None
refusal_entry Version = None
refusal_entry Count = None
refusal_entry (Number k) = Some k
refusal_entry (Name k) = Some k
refusal_entry (Rows k) = Some k
refusal_entry Room = None

-- the layer that refuses: all are of the file
abbrev pub refusal_layer : Refusal → List ℕ
refusal_layer e = codes "file"

-- what is answered of a row that breaks its rule, in the entry k
abbrev pub row_refusal : ℕ → List ℕ → Refusal
row_refusal k r = Rows k
