-- The slots of the checkpoint store: where they stand, and that a slot whose words are all in is read back.
use Rattle.std.proofs.Common.{◌≡◌, ℕ, zero, suc, ◌+◌, ◌-◌, ◌*◌, ◌<◌, ◌≤◌, Bool, true, false, cond, eqb, List, [], ◌∷◌, map, length, get_or, sym, refl, ap, ◌∙◌, subst, arith}
use Rattle.std.specs.List.{range_with_len}
use Rattle.std.proofs.lemmas.List.FromFn.{length-map-range_with_len, get_or-map-range_with_len}
use Rattle.std.proofs.lemmas.List.{get_or_append_left, get_or-append_right}
use Rattle.memory.specs.Contents.{Mem, words_from}
use Rattle.agreement.specs.Pairs.{Pair}
use Rattle.agreement.specs.Store.{Slot, flat, slot_words, slot_size, slot_start, other, pair_at, slot_at}

-- ---- where the slots stand
pub start_positive : (H c : ℕ) → 0 < slot_start H c
unfolding slot_start
start_positive H c = go (eqb c 0)
  where
    go : (x : Bool) → 0 < cond x 1 (37 + 2 * H)
    go true = omega arith
    go false = omega arith

pub start_apart : (H c x j : ℕ) → c ≤ 1 → slot_start H c ≤ x → x < slot_start H c + (36 + 2 * H) → j < 36 + 2 * H → x ≡ slot_start H (other c) + j → ⊥
unfolding slot_start
start_apart H zero x j h p q r e = omega arith
start_apart H (suc zero) x j h p q r e = omega arith
start_apart H (suc (suc c)) x j h p q r e = omega arith

pub start_fits : (H c j : ℕ) → c ≤ 1 → j < 36 + 2 * H → slot_start H (other c) + j < 73 + 4 * H
unfolding slot_start
start_fits H zero j h r = omega arith
start_fits H (suc zero) j h r = omega arith
start_fits H (suc (suc c)) j h r = let x : ⊥ = omega arith in absurd x

-- ---- lists made from a function of the index
counted_same : {A : Type 0} (f g : ℕ → A) (a n : ℕ) → ((x : ℕ) → a ≤ x → x < a + n → f x ≡ g x) → map f (range_with_len a n) ≡ map g (range_with_len a n)
counted_same f g a zero h = refl
counted_same f g a (suc n) h =
    let e = h a (omega arith) (omega arith) in
    let k = counted_same f g (a + 1) n (λ x p q. h x (omega arith) (omega arith)) in
    λ i. e i ∷ k i

counted_back : {A : Type 0} (d : A) (f : ℕ → A) (a : ℕ) (l : List A) → ((j : ℕ) → j < length l → f (a + j) ≡ get_or l j d) →
    map f (range_with_len a (length l)) ≡ l
counted_back d f a [] h = refl
counted_back d f a (x ∷ l) h =
    let e : f a ≡ x = ap f (omega arith) ∙ h 0 (omega arith) in
    let k = counted_back d f (a + 1) l (λ j q. ap f (omega arith) ∙ h (suc j) (omega arith)) in
    λ i. e i ∷ k i

-- ---- pairs as words
pub flat_index : (ps : List Pair) (k : ℕ) → get_or (flat ps) (2 * k) 0 ≡ (get_or ps k (0, 0)).0
flat_index [] k = refl
flat_index (p ∷ ps) zero = refl
flat_index (p ∷ ps) (suc k) = let e : 2 * suc k ≡ suc (suc (2 * k)) = omega arith in ap (λ n. get_or (flat (p ∷ ps)) n 0) e ∙ flat_index ps k

pub flat_word : (ps : List Pair) (k : ℕ) → get_or (flat ps) (2 * k + 1) 0 ≡ (get_or ps k (0, 0)).1
flat_word [] k = refl
flat_word (p ∷ ps) zero = refl
flat_word (p ∷ ps) (suc k) = let e : 2 * suc k + 1 ≡ suc (suc (2 * k + 1)) = omega arith in ap (λ n. get_or (flat (p ∷ ps)) n 0) e ∙ flat_word ps k

-- pair k of a slot is where it stands in the store
pub slot_pair : (m : Mem) (a k : ℕ) → k < length (slot_at m a).pairs → pair_at m a k ≡ get_or (slot_at m a).pairs k (0, 0)
unfolding slot_at
slot_pair m a k h = sym (get_or-map-range_with_len (pair_at m a) 0 (m (a + 35)) k k (0, 0) (omega (arith, length-map-range_with_len (pair_at m a) 0 (m (a + 35)))) (omega arith))

pub slot_pairs : (m : Mem) (a : ℕ) → length (slot_at m a).pairs ≡ m (a + 35)
unfolding slot_at
slot_pairs m a = length-map-range_with_len (pair_at m a) 0 (m (a + 35))

-- ---- a slot is read from its own words
pub slot_same : (f g : Mem) (a : ℕ) → ((x : ℕ) → a ≤ x → x < a + (36 + 2 * f (a + 35)) → f x ≡ g x) → slot_at f a ≡ slot_at g a
unfolding slot_at
slot_same f g a h =
    let hh = counted_same f g a 31 (λ x p q. h x p (omega arith)) in
    let hc = h (a + 31) (omega arith) (omega arith) in
    let hs = h (a + 32) (omega arith) (omega arith) in
    let hz = h (a + 33) (omega arith) (omega arith) in
    let hr = h (a + 34) (omega arith) (omega arith) in
    let hn = h (a + 35) (omega arith) (omega arith) in
    let hp : map (pair_at f a) (range_with_len 0 (f (a + 35))) ≡ map (pair_at g a) (range_with_len 0 (g (a + 35))) =
    counted_same (pair_at f a) (pair_at g a) 0 (f (a + 35)) (λ k p q.
    let ei = h (a + 36 + 2 * k) (omega arith) (omega arith) in
    let ew = h (a + 37 + 2 * k) (omega arith) (omega arith) in
    λ i. (ei i, ew i)) ∙ ap (λ n. map (pair_at g a) (range_with_len 0 n)) hn in
    λ i. record { core = record { hart = record { x = hh i; pc = hc i }; sent = hs i; ran = hr i }; halt = hz i; pairs = hp i }

-- a slot whose words are all in is the slot
module _ (f : Mem) (a : ℕ) (s : Slot) (l : length s.core.hart.x ≡ 31) (h : (j : ℕ) → j < slot_size s → f (a + j) ≡ get_or (slot_words s) j 0) where
  abbrev rest : List ℕ
  rest = s.core.hart.pc ∷ s.core.sent ∷ s.halt ∷ s.core.ran ∷ length s.pairs ∷ flat s.pairs

  past : (j : ℕ) → j < 5 + 2 * length s.pairs → f (a + (31 + j)) ≡ get_or rest j 0
  past j q =
      h (31 + j) (omega arith) ∙ get_or-append_right s.core.hart.x rest 31 (31 + j) 0 l (omega arith)
      ∙ (let e : 31 + j - 31 ≡ j = omega arith in ap (λ n. get_or rest n 0) e)

  after : (j : ℕ) → j < 2 * length s.pairs → f (a + 36 + j) ≡ get_or (flat s.pairs) j 0
  after j q =
      let e : a + 36 + j ≡ a + (31 + (5 + j)) = omega arith in
      let e' : 5 + j ≡ suc (suc (suc (suc (suc j)))) = omega arith in
      ap f e ∙ past (5 + j) (omega arith) ∙ ap (λ n. get_or rest n 0) e'

  pair_back : (k : ℕ) → k < length s.pairs → pair_at f a k ≡ get_or s.pairs k (0, 0)
  pair_back k q =
      let ei = after (2 * k) (omega arith) ∙ flat_index s.pairs k in
      let e : a + 37 + 2 * k ≡ a + 36 + (2 * k + 1) = omega arith in
      let ew = ap f e ∙ after (2 * k + 1) (omega arith) ∙ flat_word s.pairs k in
      λ i. (ei i, ew i)

  pub slot_back : slot_at f a ≡ s
  unfolding slot_at
  slot_back =
      let hh : words_from f a 31 ≡ s.core.hart.x =
      subst (λ n. words_from f a n ≡ s.core.hart.x) l
      (counted_back 0 f a s.core.hart.x (λ j q. h j (omega arith) ∙ get_or_append_left s.core.hart.x rest 0 j q)) in
      let hn : f (a + 35) ≡ length s.pairs = past 4 (omega arith) in
      let hp : map (pair_at f a) (range_with_len 0 (f (a + 35))) ≡ s.pairs =
      ap (λ n. map (pair_at f a) (range_with_len 0 n)) hn
      ∙ counted_back (0, 0) (pair_at f a) 0 s.pairs (λ k q. let e : 0 + k ≡ k = omega arith in ap (pair_at f a) e ∙ pair_back k q) in
      let hc = past 0 (omega arith) in let hs = past 1 (omega arith) in let hz = past 2 (omega arith) in let hr = past 3 (omega arith) in
      λ i. record { core = record { hart = record { x = hh i; pc = hc i }; sent = hs i; ran = hr i }; halt = hz i; pairs = hp i }
