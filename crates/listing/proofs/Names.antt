-- A name is text.
use Rattle.std.proofs.Common.{◌≡◌, ℕ, true, ◌&&◌, ◌<◌, List, nat_le, arith}
use Rattle.std.proofs.lemmas.Bool.Decides.{nat_tests}
use Rattle.std.proofs.lemmas.List.Elements.{All-weaker}
use Rattle.std.proofs.lemmas.List.Sums.{AllPass-from_list_all}
use Rattle.std.proofs.lemmas.Str.{IsUtf8-from_ascii}
use Rattle.std.proofs.lemmas.Str.Ascii.{IsAscii-from_all}
use Rattle.std.specs.Str.{IsUtf8}
use Rattle.preset.specs.Names.{is_name, printable}

ascii : (b : ℕ) → (nat_le 32 b && nat_le b 126) ≡ true → b < 128
ascii b p = grind (arith, nat_tests)

-- a name has printable bytes alone
pub name_is_text : (name : List ℕ) → is_name name ≡ true → IsUtf8 name
name_is_text name e = let printed : printable name ≡ true = grind (arith, nat_tests) in
    IsUtf8-from_ascii name (IsAscii-from_all name (All-weaker _ _ ascii name (AllPass-from_list_all _ name printed)))
