-- What a preset's name can be.
use Rattle.std.specs.Prelude.{ℕ, Bool, ◌&&◌, List, length, nat_le}
use Rattle.std.specs.List.{list_all}

-- each byte is 32 to 126
abbrev pub printable : List ℕ → Bool
printable n = list_all (λ b. nat_le 32 b && nat_le b 126) n

-- a name has 1 to 24 bytes, each printable
abbrev pub is_name : List ℕ → Bool
is_name n = (nat_le 1 (length n) && nat_le (length n) 24) && printable n
