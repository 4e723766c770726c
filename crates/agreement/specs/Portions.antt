-- A charge in portions.
use Rattle.std.specs.Prelude.{◌≡◌, ℕ, ◌+◌}
use Rattle.agreement.specs.Board.{Board}
use Rattle.agreement.specs.Turns.{Choice}
use Rattle.agreement.specs.Charge.{At, spend}

-- m units and then n are m + n units
abbrev pub Portions : Type 0
Portions =
    (b : Board) (ch : ℕ → Choice) (m n : ℕ) (a : At) → spend b ch (m + n) a ≡ spend b (λ k. ch (m + k)) n (spend b ch m a)
