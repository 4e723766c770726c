-- The first no among questions, of any call.
use Rattle.std.proofs.Common.{◌≡◌, Bool, true, false, List, [], ◌∷◌, ◌++◌, Some, None, refl, ◌∙◌}
use Rattle.image.specs.Questions.{No, Question, first_no, AllYes}

-- a yes hands on to the questions after it
pub after_yes : (b : Bool) (n : No) (qs : List Question) → b ≡ true → first_no ((b, n) ∷ qs) ≡ first_no qs
after_yes b n qs h = rw h

pub at_no : (b : Bool) (n : No) (qs : List Question) → b ≡ false → first_no ((b, n) ∷ qs) ≡ Some n
at_no b n qs h = rw h

first_yes : (b : Bool) (n : No) (qs : List Question) → first_no ((b, n) ∷ qs) ≡ None → (b ≡ true) × (first_no qs ≡ None)
first_yes true n qs h = (refl, h)
first_yes false n qs h = (cc, cc)

pub all_yes : (qs : List Question) → first_no qs ≡ None → AllYes qs
all_yes [] h = tt
all_yes (q ∷ qs) h = let e = first_yes q.0 q.1 qs h in (e.0, all_yes qs e.1)

pub append_yes : (qs rs : List Question) → first_no qs ≡ None → first_no (qs ++ rs) ≡ first_no rs
append_yes [] rs h = refl
append_yes (q ∷ qs) rs h =
    let e = first_yes q.0 q.1 qs h in
    after_yes q.0 q.1 (qs ++ rs) e.0 ∙ append_yes qs rs e.1

some_first : (b : Bool) (n m : No) (qs rs : List Question) → (first_no qs ≡ Some m → first_no rs ≡ Some m) → first_no ((b, n) ∷ qs) ≡ Some m → first_no ((b, n) ∷ rs) ≡ Some m
some_first true n m qs rs f h = f h
some_first false n m qs rs f h = h

pub append_no : (qs rs : List Question) (n : No) → first_no qs ≡ Some n → first_no (qs ++ rs) ≡ Some n
append_no [] rs n h = cc
append_no (q ∷ qs) rs n h = some_first q.0 q.1 n qs (qs ++ rs) (append_no qs rs n) h

-- where no answer is no, none is before nor after
pub append_parts : (qs rs : List Question) → first_no (qs ++ rs) ≡ None → (first_no qs ≡ None) × (first_no rs ≡ None)
append_parts [] rs h = (refl, h)
append_parts (q ∷ qs) rs h =
    let e = first_yes q.0 q.1 (qs ++ rs) h in
    let p = append_parts qs rs e.1 in
    (after_yes q.0 q.1 qs e.0 ∙ p.0, p.1)
