-- The digits of a word, padded with zeros to eight.
use Rattle.std.proofs.Common.{◌≡◌, ℕ, zero, suc, ◌+◌, ◌-◌, ◌/◌, ◌%◌, ◌^◌, ◌<◌, ◌≤◌, true, false, eqb, ◌≢◌, List, [], ◌∷◌, ◌++◌, length, sym, refl, ap, ◌∙◌, codes, ⊎_elim, arith, append_assoc, append-nil, add-one}
use Rattle.std.proofs.Math.ListN.{replicate}
use Rattle.std.proofs.lemmas.Bool.{cases_eq}
use Rattle.std.proofs.lemmas.Bool.Decides.{nat_tests}
use Rattle.std.proofs.lemmas.List.{replicate_more}
use Rattle.std.specs.Char.{digit_char}
use Rattle.std.specs.Fmt.{digits, digits_onto, format_spec, padded_integral, char_count}
use Rattle.lerpuod.specs.Hex.{digit, hex}

-- the last k digits of n, and acc after them
abbrev pub spelled : ℕ → ℕ → List ℕ → List ℕ
spelled zero n acc = acc
spelled (suc k) n acc = spelled k (n / 16) (digit_char (n % 16) ∷ acc)

-- n has at most k digits
abbrev pub Short : ℕ → ℕ → Type 0
Short zero n = n ≡ 0
Short (suc k) n = Short k (n / 16)

zeros : (k : ℕ) (acc : List ℕ) → spelled k 0 acc ≡ replicate k 48 ++ acc
zeros zero acc = refl
zeros (suc k) acc =
    let more : replicate k 48 ++ 48 ∷ [] ≡ replicate (suc k) 48 = replicate_more k 48 ∙ ap (λ (n : ℕ). replicate n 48) (add-one k) in
    zeros k (48 ∷ acc) ∙ sym (append_assoc (replicate k 48) (48 ∷ []) acc) ∙ ap (λ (l : List ℕ). l ++ acc) more

-- a number's digits after zeros, so many in all
abbrev pub filled : ℕ → List ℕ → List ℕ
filled k ds = replicate (k - length ds) 48 ++ ds

module _ (f n : ℕ) (acc : List ℕ) where
  last_digit : n / 16 ≡ 0 → digits_onto (suc f) 16 false n acc ≡ digit_char (n % 16) ∷ acc
  last_digit none = let e : eqb (n / 16) 0 ≡ true = grind (arith, nat_tests) in rw e

  next_digit : n / 16 ≢ 0 → digits_onto (suc f) 16 false n acc ≡ digits_onto f 16 false (n / 16) (digit_char (n % 16) ∷ acc)
  next_digit more = let e : eqb (n / 16) 0 ≡ false = grind (arith, nat_tests) in rw e

module _ (m : ℕ) where
  -- the first digit of a number, with k places before it
  at_first : (k f n : ℕ) (acc : List ℕ) → n / 16 ≡ 0 → suc k + length acc ≡ m → filled m (digits_onto (suc f) 16 false n acc) ≡ spelled (suc k) n acc
  at_first k f n acc none count =
      let left : m - suc (length acc) ≡ k = omega (arith, count) in
      let rest = digit_char (n % 16) ∷ acc in
      ap (filled m) (last_digit f n acc none)
      ∙ ap (λ (i : ℕ). replicate i 48 ++ rest) left
      ∙ sym (ap (λ (i : ℕ). spelled k i rest) none ∙ zeros k rest)

  filled_digits : (k f n : ℕ) (acc : List ℕ) → Short (suc k) n → k ≤ f → suc k + length acc ≡ m → filled m (digits_onto (suc f) 16 false n acc) ≡ spelled (suc k) n acc
  filled_digits zero f n acc short low count = at_first zero f n acc short count
  filled_digits (suc k) zero n acc short low count = absurd (omega arith)
  filled_digits (suc k) (suc f) n acc short low count = ⊎_elim
      (λ (none : n / 16 ≡ 0). at_first (suc k) (suc f) n acc none count)
      (λ (more : n / 16 ≢ 0).
      ap (filled m) (next_digit (suc f) n acc more)
      ∙ filled_digits k f (n / 16) (digit_char (n % 16) ∷ acc) short (omega arith) (omega (arith, count)))
      (cases_eq (n / 16) 0)

-- what `{:08x}` writes of such digits
padded_filled : (ds : List ℕ) → padded_integral (format_spec 32 0 4 8 (2 ^ 64 - 1)) false [] ds ≡ filled 8 ds
unfolding padded_integral char_count
padded_filled ds =
    let left : 8 - length ds - 0 - 0 ≡ 8 - length ds = omega arith in
    ap (λ (i : ℕ). replicate i 48 ++ (ds ++ [])) left ∙ ap (λ (l : List ℕ). replicate (8 - length ds) 48 ++ l) (append-nil ds)

module _ (w : ℕ) (small : w < 2 ^ 32) where
  short : Short 8 w
  short = omega arith

  eight : filled 8 (digits 16 false w) ≡ spelled 8 w []
  unfolding digits
  eight = filled_digits 8 7 63 w [] short (omega arith) refl

  places : spelled 8 w [] ≡ digit w 7 ∷ digit w 6 ∷ digit w 5 ∷ digit w 4 ∷ digit w 3 ∷ digit w 2 ∷ digit w 1 ∷ digit w 0 ∷ []
  places =
      let e1 : w / 1 ≡ w = omega arith in
      let e2 : w / 16 / 16 ≡ w / 2 ^ 8 = omega arith in
      let e3 : w / 2 ^ 8 / 16 ≡ w / 2 ^ 12 = omega arith in
      let e4 : w / 2 ^ 12 / 16 ≡ w / 2 ^ 16 = omega arith in
      let e5 : w / 2 ^ 16 / 16 ≡ w / 2 ^ 20 = omega arith in
      let e6 : w / 2 ^ 20 / 16 ≡ w / 2 ^ 24 = omega arith in
      let e7 : w / 2 ^ 24 / 16 ≡ w / 2 ^ 28 = omega arith in
      rw (e1, e2, e3, e4, e5, e6, e7)

  pub padded_hex : codes "0x" ++ padded_integral (format_spec 32 0 4 8 (2 ^ 64 - 1)) false [] (digits 16 false w) ≡ hex w
  unfolding hex
  padded_hex = ap (λ (l : List ℕ). codes "0x" ++ l) (padded_filled (digits 16 false w) ∙ eight ∙ places)
