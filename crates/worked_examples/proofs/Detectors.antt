-- The worked examples of a detector.
use Rattle.std.proofs.Common.{◌≡◌, ℕ, ◌<◌, ◌≤◌, true, false, ◌||◌, List, length, Ok, Err, Result, sym, refl, ap, ◌∙◌, subst, arith, length-set}
use Rattle.std.proofs.lemmas.Bool.{false≢true}
use Rattle.index_sets.specs.Sets.{IndexTest, none, joined, Took}
use Rattle.index_sets.specs.declared.Refusal.{Refusal as SetRefusal}
use Rattle.section.specs.declared.Refusal.{Refusal}
use Rattle.section.specs.Refusals.{Refused}
use Rattle.section.specs.View.{View, fresh}
use Rattle.section.specs.Calls.{known, with_read, Entered, Stored}
use Rattle.worked_examples.specs.Examples.{DetectorRead, DetectorWrite}

-- while R is empty an index enters it
enters : (ws : List ℕ) (v : View) (i : ℕ) (r : Result ℕ Refusal) (v' : View) → v.reads ≡ none → Entered ws v i r v' → v' ≡ with_read v i
enters ws v i (Ok w) v' e h = h.1
enters ws v i (Err x) v' e h = absurd (false≢true (ap (λ (m : IndexTest). m h.1.0) (sym e) ∙ h.1.1))

-- an empty set takes an index in
takes : (i : ℕ) (a : Result (Unit {0}) SetRefusal) (m' : IndexTest) → i < 16384 → Took none i a m' → m' ≡ joined none i
takes i (Ok _) m' h t = t.1 h
takes i (Err x) m' h t = absurd (false≢true (t.1 h).2.1)

-- a first read of 5, then a write of 5
after_read : (ws ws₁ ws₂ : List ℕ) (v v₁ v₂ : View) (r₁ : Result ℕ Refusal) (w lanes : ℕ) (r₂ : Result (Unit {0}) Refusal)
    → 5 < length ws → 0 < lanes → lanes ≤ 15 → v.reads ≡ none → known v 5 ≡ false
    → DetectorRead ws v 5 r₁ ws₁ v₁ → DetectorWrite ws₁ v₁ 5 w lanes r₂ ws₂ v₂ → Refused 21 r₂
after_read ws ws₁ ws₂ v v₁ v₂ r₁ w lanes r₂ h l m e n read write =
    let q : v₁ ≡ with_read v 5 = enters ws v 5 r₁ v₁ e (read.0.first h n) in
    let low : 5 < length ws₁ = subst (λ (xs : List ℕ). 5 < length xs) (sym read.0.words) h in
    write.1.due low l m (ap (λ (u : View). u.reads 5) q)

pub read_write : (ws ws₁ ws₂ : List ℕ) (v₁ v₂ : View) (r₁ : Result ℕ Refusal) (w lanes : ℕ) (r₂ : Result (Unit {0}) Refusal)
    → 5 < length ws → 0 < lanes → lanes ≤ 15
    → DetectorRead ws fresh 5 r₁ ws₁ v₁ → DetectorWrite ws₁ v₁ 5 w lanes r₂ ws₂ v₂ → Refused 21 r₂
read_write ws ws₁ ws₂ v₁ v₂ r₁ w lanes r₂ h l m read write = after_read ws ws₁ ws₂ fresh v₁ v₂ r₁ w lanes r₂ h l m refl refl read write

-- a write outside R keeps the number of words
stays : (ws : List ℕ) (v : View) (i new lanes : ℕ) (r : Result (Unit {0}) Refusal) (ws' : List ℕ) (v' : View) → Stored ws v i new lanes r ws' v' → length ws' ≡ length ws
stays ws v i new lanes r ws' v' s = ap length s.words ∙ length-set ws i new

pub write_read_write : (ws ws₁ ws₂ ws₃ : List ℕ) (v₁ v₂ v₃ : View) (w₁ w₃ lanes : ℕ)
    (r₁ : Result (Unit {0}) Refusal) (r₂ : Result ℕ Refusal) (r₃ : Result (Unit {0}) Refusal)
    → 5 < length ws → 0 < lanes → lanes ≤ 15
    → DetectorWrite ws fresh 5 w₁ 15 r₁ ws₁ v₁ → DetectorRead ws₁ v₁ 5 r₂ ws₂ v₂ → DetectorWrite ws₂ v₂ 5 w₃ lanes r₃ ws₃ v₃ → r₃ ≡ Ok tt
write_read_write ws ws₁ ws₂ ws₃ v₁ v₂ v₃ w₁ w₃ lanes r₁ r₂ r₃ h l m first read write =
    let s = first.0.outside h (omega arith) (omega arith) refl in
    let f = (first.1.whole h refl refl).1 in
    let written : v₁.writes 5 ≡ true = ap (λ (t : IndexTest). t 5) (takes 5 f.0 v₁.writes (omega arith) f.1) in
    let clear : v₁.reads 5 ≡ false = ap (λ (t : IndexTest). t 5) s.reads in
    let low₁ : 5 < length ws₁ = omega (arith, stays _ _ _ _ _ _ _ _ s) in
    let k : known v₁ 5 ≡ true = ap (λ b. b || v₁.writes 5) clear ∙ written in
    let same : v₂ ≡ v₁ = (read.0.again low₁ k).1 in
    let low₂ : 5 < length ws₂ = subst (λ (xs : List ℕ). 5 < length xs) (sym read.0.words) low₁ in
    (write.0.outside low₂ l m (ap (λ (u : View). u.reads 5) same ∙ clear)).accepted

pub byte_read_write : (ws ws₁ ws₂ ws₃ : List ℕ) (v₁ v₂ v₃ : View) (w₁ w₃ lanes : ℕ)
    (r₁ : Result (Unit {0}) Refusal) (r₂ : Result ℕ Refusal) (r₃ : Result (Unit {0}) Refusal)
    → 5 < length ws → 0 < lanes → lanes ≤ 15
    → DetectorWrite ws fresh 5 w₁ 1 r₁ ws₁ v₁ → DetectorRead ws₁ v₁ 5 r₂ ws₂ v₂ → DetectorWrite ws₂ v₂ 5 w₃ lanes r₃ ws₃ v₃ → Refused 21 r₃
byte_read_write ws ws₁ ws₂ ws₃ v₁ v₂ v₃ w₁ w₃ lanes r₁ r₂ r₃ h l m first read write =
    let s = first.0.outside h (omega arith) (omega arith) refl in
    let f : v₁.writes ≡ none = (first.1.part h (omega arith) (omega arith) refl).1 in
    let low₁ : 5 < length ws₁ = omega (arith, stays _ _ _ _ _ _ _ _ s) in
    let k : known v₁ 5 ≡ false = ap (λ (t : IndexTest). t 5 || v₁.writes 5) s.reads ∙ ap (λ (t : IndexTest). t 5) f in
    after_read ws₁ ws₂ ws₃ v₁ v₂ v₃ r₂ w₃ lanes r₃ low₁ l m s.reads k read write
