-- The write-back layer over a section memory that holds at most h pairs.
use Rattle.std.specs.Prelude.{◌≡◌, ℕ, ◌+◌, ◌-◌, ◌<◌, ◌≤◌, min, ◌⊎◌, List, [], ◌∷◌, ◌++◌, length, Ok, Err, Result}
use Rattle.section.specs.declared.Refusal.{Refusal}
use Rattle.write_back.specs.declared.layer.WriteBack.{WriteBack}
use Rattle.section.specs.Refusals.{number}
use Rattle.section.specs.View.{View, Meant, replaced}

-- the most pairs of the layer and of what is below it
abbrev pub most_over : ℕ → ℕ
most_over h = min 64 (h + 8)

-- the layer's own room
abbrev pub room_over : ℕ → ℕ
room_over h = most_over h - h

-- the lower view, with own pairs after the lower ones
abbrev pub layered : View → List (ℕ × ℕ) → View
layered v ps = record { reads = v.reads; writes = v.writes; pairs = v.pairs ++ ps }

-- the layer's view, by that of the lower section memory
abbrev pub over : {S : Type 0} → (S → View) → WriteBack S → View
over view s = layered (view s.lower) s.own

-- what the layer adds to the facts: those of the lower section memory, and that the own pairs fit the own room
abbrev pub Added : {S : Type 0} → ℕ → (S → View) → (S → Type 0) → WriteBack S → Type 0
Added h view facts s = Meant h (view s.lower) (facts s.lower) × (length s.own ≤ room_over h)

-- where the layer's calls have a meaning
abbrev pub AllFacts : {S : Type 0} → ℕ → (S → View) → (S → Type 0) → WriteBack S → Type 0
AllFacts h view facts s = Meant (most_over h) (over view s) (Added h view facts s)

-- a pair is taken in after the others while there is room, otherwise refused 21
abbrev pub Taken : ℕ → List (ℕ × ℕ) → ℕ × ℕ → Result (Unit {0}) Refusal → List (ℕ × ℕ) → Type 0
Taken room ps p (Ok _) ps' = (length ps < room) × (ps' ≡ ps ++ p ∷ [])
Taken room ps p (Err e) ps' = (number e ≡ 21) × (room ≤ length ps) × (ps' ≡ ps)

-- what a write to i does to the own pairs: nothing, another word in its place, or one pair more at the end
abbrev pub InOrder : List (ℕ × ℕ) → ℕ → List (ℕ × ℕ) → Type 0
InOrder ps i ps' =
    (ps' ≡ ps) ⊎ (((w : ℕ) × (ps' ≡ replaced ps i w)) ⊎ ((w : ℕ) × (ps' ≡ ps ++ (i, w) ∷ [])))

-- a put that is accepted drops the own pairs, one that is refused drops none
abbrev pub Dropped : {E : Type 0} → Result (Unit {0}) E → List (ℕ × ℕ) → List (ℕ × ℕ) → Type 0
Dropped (Ok _) ps ps' = ps' ≡ []
Dropped (Err _) ps ps' = ps' ≡ ps
