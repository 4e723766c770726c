-- Words in hexadecimal.
use Rattle.std.specs.Prelude.{ℕ, ◌*◌, ◌/◌, ◌%◌, ◌^◌, List, [], ◌∷◌, ◌++◌, codes}
use Rattle.std.specs.Char.{digit_char}

-- the digit at a place, counted from the last
abbrev pub digit : ℕ → ℕ → ℕ
digit w k = digit_char (w / 2 ^ (4 * k) % 16)

-- 0x and eight digits
unfoldable pub hex : ℕ → List ℕ
hex w =
    codes "0x"
    ++ (digit w 7 ∷ digit w 6 ∷ digit w 5 ∷ digit w 4 ∷ digit w 3 ∷ digit w 2 ∷ digit w 1 ∷ digit w 0 ∷ [])
