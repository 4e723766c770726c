-- A memory that is filled with the words of an image.
use Rattle.std.proofs.Common.{◌≡◌, ℕ, ◌+◌, ◌*◌, ◌<◌, ◌≤◌, ltb, List, length, drop, None, sym, ◌∙◌, ⊎_elim, arith}
use Rattle.std.proofs.lemmas.Bool.{cases_lt, lt-ltb, le-ltb, cond-true, cond-false}
use Rattle.std.proofs.lemmas.List.{get_or_past, length-drop}
use Rattle.memory.specs.Bytes.{word_at}
use Rattle.memory.specs.Contents.{word}
use Rattle.memory.proofs.Contents.{fronted}
use Rattle.image.specs.Image.{header, given_words, refusal}
use Rattle.image.proofs.Accepted.{accepted}
use Rattle.image.proofs.GivenWords.{word_after, given_length, given_at}
use Rattle.machine.specs.Calls.{Filled, whole_words, with_image}

-- the whole words after an accepted image's header are the given words
pub given_whole : (bs : List ℕ) → refusal bs ≡ None → (k : ℕ) → whole_words (drop 28 bs) k ≡ word (given_words bs) k
given_whole bs ok k =
    let a = accepted bs ok in
    let l : length (drop 28 bs) ≡ 4 * (header bs).given = omega (arith, length-drop 28 bs) in
    ⊎_elim
    (λ (h : k < (header bs).given).
    cond-true (ltb (4 * k + 3) (length (drop 28 bs))) (word_at (drop 28 bs) k) 0 (lt-ltb _ _ (omega arith)) ∙ word_after bs k ∙ sym (given_at bs k h))
    (λ (h : (header bs).given ≤ k).
    cond-false (ltb (4 * k + 3) (length (drop 28 bs))) (word_at (drop 28 bs) k) 0 (le-ltb _ _ (omega arith)) ∙ sym (get_or_past (given_words bs) k 0 (omega (arith, given_length bs))))
    (cases_lt k (header bs).given)

-- so a memory filled with them has the image
pub image_put : (bs ws ws' : List ℕ) → refusal bs ≡ None → (header bs).words ≤ length ws → Filled (whole_words (drop 28 bs)) (header bs).words ws ws' → ws' ≡ with_image bs ws
image_put bs ws ws' ok h d =
    fronted (word (given_words bs)) (header bs).words ws ws' h d.size (λ k l. d.front k l ∙ given_whole bs ok k) d.back
