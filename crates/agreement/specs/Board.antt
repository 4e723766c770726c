-- A processor with the numbers that an intermittent run of it needs, and what the law asks of it.
use Rattle.std.specs.Prelude.{◌≡◌, ℕ, ◌<◌, ◌≤◌, Bool, true, List, length}
use Rattle.memory.specs.Contents.{Mem}
use Rattle.hart.specs.declared.state.Core.{Core}
use Rattle.hart.specs.State.{next, next_sent}
use Rattle.machine.specs.Processor.{Effect, stop, quiet, load, store, emit, Processor}

-- a stop has a number from 1 to 10, data stands from word T to W, there are at most C outputs
abbrev pub Lawful : (T W C : ℕ) → Core → Effect → Type 0
Lawful T W C c (stop z) = (0 < z) × (z ≤ 10)
Lawful T W C c (quiet h) = Unit {0}
Lawful T W C c (load i f) = (T ≤ i) × (i < W)
Lawful T W C c (store i lanes w h) = (T ≤ i) × (i < W)
Lawful T W C c (emit w h) = c.sent < C

-- the next core passes the test
abbrev pub Keeps : (Core → Bool) → Core → Effect → Type 0
Keeps sane c (stop z) = Unit {0}
Keeps sane c (quiet h) = sane (next c h) ≡ true
Keeps sane c (load i f) = (w : ℕ) → sane (next c (f w)) ≡ true
Keeps sane c (store i lanes w h) = sane (next c h) ≡ true
Keeps sane c (emit w h) = sane (next_sent c h) ≡ true

-- a processor with its image's numbers T, W and C, the watchdog's longest period P, the period that a section gets from the
-- checkpoint store's words, the most pairs H that its section memory holds, and the test of a core that a checkpoint must pass
pub record Board : Type 0 where
  pub text : ℕ
  pub size : ℕ
  pub room : ℕ
  pub period : ℕ
  pub due : List ℕ → ℕ
  pub most : ℕ
  pub sane : Core → Bool
  pub act : Processor

-- what the law asks of a board
pub record Laws (b : Board) : Type 0 where
  pub inside : b.text ≤ b.size
  pub beats : (store : List ℕ) → (0 < b.due store) × (b.due store ≤ b.period)
  pub shape : (c : Core) → b.sane c ≡ true → length c.hart.x ≡ 31
  pub lawful : (m : Mem) (c : Core) → Lawful b.text b.size b.room c (b.act m c)
  pub keeps : (m : Mem) (c : Core) → b.sane c ≡ true → Keeps b.sane c (b.act m c)
  pub fetches : (m m' : Mem) (c : Core) → ((i : ℕ) → i < b.text → m i ≡ m' i) → b.act m c ≡ b.act m' c
