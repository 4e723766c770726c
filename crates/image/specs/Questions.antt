-- Questions that a call asks in order: the first no refuses it.
use Rattle.std.specs.Prelude.{◌≡◌, ℕ, Bool, true, cond, List, [], ◌∷◌, Some, None, Option}

-- a refusal: its number and its values
abbrev pub No : Type 0
No = ℕ × List ℕ

-- a test, and the refusal that a no to it gives
abbrev pub Question : Type 0
Question = Bool × No

-- the refusal of the first no, none where every answer is yes
abbrev pub first_no : List Question → Option No
first_no [] = None
first_no (q ∷ qs) = cond q.0 (first_no qs) (Some q.1)

-- every answer is yes
abbrev pub AllYes : List Question → Type 0
AllYes [] = Unit {0}
AllYes (q ∷ qs) = (q.0 ≡ true) × AllYes qs
