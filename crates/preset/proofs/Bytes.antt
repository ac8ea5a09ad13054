-- Lists of bytes, and lists of a known length, element by element.
use Rattle.std.proofs.Common.{◌≡◌, ℕ, zero, suc, ◌+◌, ◌<◌, ◌≤◌, List, ◌∷◌, length, get_or, drop, refl, ap, ◌∙◌, arith}
use Rattle.std.proofs.lemmas.List.{drop_more, get_or-drop}

-- each is a byte
abbrev pub Bytes : List ℕ → Type 0
Bytes b = (i : ℕ) → get_or b i 0 < 256

pub bytes_drop : (n : ℕ) (b : List ℕ) → Bytes b → Bytes (drop n b)
bytes_drop n b y i = rw (get_or-drop n b i 0) (y (n + i))

-- the elements of a list from the k-th on, n of them, and what is behind them
abbrev pub spelled : (n k : ℕ) → List ℕ → List ℕ
spelled zero k xs = drop k xs
spelled (suc n) k xs = get_or xs k 0 ∷ spelled n (k + 1) xs

pub spells : (n k : ℕ) (xs : List ℕ) → n + k ≤ length xs → drop k xs ≡ spelled n k xs
spells zero k xs h = refl
spells (suc n) k xs h = drop_more xs k 0 (omega arith) ∙ ap (λ t. get_or xs k 0 ∷ t) (spells n (k + 1) xs (omega arith))
