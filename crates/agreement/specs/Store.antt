-- The checkpoint store as words: the commit word and two slots. What a slot holds, and when it is in order.
use Rattle.std.specs.Prelude.{ℕ, ◌+◌, ◌-◌, ◌*◌, Bool, cond, ◌&&◌, List, [], ◌∷◌, ◌++◌, map, length, ◌==◌, nat_le, slice_index}
use Rattle.std.specs.List.{range_with_len}
use Rattle.memory.specs.Contents.{Mem, word, words_from}
use Rattle.hart.specs.declared.state.Core.{Core}
use Rattle.agreement.specs.Pairs.{Pair, apart, between}
use Rattle.agreement.specs.Board.{Board}

-- a checkpoint: the core, the stop number (0 for none), and the pairs that the section memory held back
pub record Slot : Type 0 where
  pub core : Core
  pub halt : ℕ
  pub pairs : List Pair

abbrev pub flat : List Pair → List ℕ
flat [] = []
flat (p ∷ ps) = p.0 ∷ p.1 ∷ flat ps

-- a slot's words: x1 to x31, pc, the output count, the stop number, the instruction count, the number of pairs, the pairs
abbrev pub slot_words : Slot → List ℕ
slot_words s = s.core.hart.x ++ (s.core.hart.pc ∷ s.core.sent ∷ s.halt ∷ s.core.ran ∷ length s.pairs ∷ flat s.pairs)

abbrev pub slot_size : Slot → ℕ
slot_size s = 36 + 2 * length s.pairs

-- the words of a store for at most H pairs
abbrev pub store_size : ℕ → ℕ
store_size H = 73 + 4 * H

-- where slot c starts
unfoldable pub slot_start : ℕ → ℕ → ℕ
slot_start H c = cond (c == 0) 1 (37 + 2 * H)

-- word 0, the commit word, names the current slot
abbrev pub commit_word : List ℕ → ℕ
commit_word store = slice_index store 0

abbrev pub other : ℕ → ℕ
other c = 1 - c

abbrev pub current_start : ℕ → List ℕ → ℕ
current_start H store = slot_start H (commit_word store)

abbrev pub other_start : ℕ → List ℕ → ℕ
other_start H store = slot_start H (other (commit_word store))

-- pair k of the slot that starts at word a
abbrev pub pair_at : Mem → ℕ → ℕ → Pair
pair_at m a k = (m (a + 36 + 2 * k), m (a + 37 + 2 * k))

-- the checkpoint in the slot that starts at word a
unfoldable pub slot_at : Mem → ℕ → Slot
slot_at m a =
    record {
      core = record { hart = record { x = words_from m a 31; pc = m (a + 31) }; sent = m (a + 32); ran = m (a + 34) };
      halt = m (a + 33);
      pairs = map (pair_at m a) (range_with_len 0 (m (a + 35)));
    }

module _ (b : Board) where
  -- the current checkpoint
  abbrev pub current : List ℕ → Slot
  current store = slot_at (word store) (current_start b.most store)

  -- a checkpoint in order: a core that the board allows, counts and stop number within their bounds, at most H pairs, their indexes
  -- different and those of data
  unfoldable pub slot_in_order : Slot → Bool
  slot_in_order s =
      (b.sane s.core && (nat_le s.core.sent b.room && nat_le s.halt 10))
      && (nat_le (length s.pairs) b.most && (apart s.pairs && between b.text b.size s.pairs))

  -- the commit word is 0 or 1, and the slot that it names is in order; the other slot may hold anything
  abbrev pub in_order : List ℕ → Bool
  in_order store = nat_le (commit_word store) 1 && slot_in_order (current store)
