-- The four bytes of a word, and lanes: a number whose bits 0 to 3 name some of them.
use Rattle.std.specs.Prelude.{ℕ, ◌+◌, ◌*◌, ◌/◌, ◌%◌, Bool, cond, ◌==◌}

pub data Lane : Type 0 where
  lane0 lane1 lane2 lane3 : Lane

-- a byte of a word; the top one is all that is left, so that the four always tell the word
unfoldable pub byte : ℕ → Lane → ℕ
byte w lane0 = w % 256
byte w lane1 = w / 256 % 256
byte w lane2 = w / 65536 % 256
byte w lane3 = w / 16777216

-- whether the lanes name a byte
unfoldable pub names : ℕ → Lane → Bool
names lanes lane0 = lanes % 2 == 1
names lanes lane1 = lanes / 2 % 2 == 1
names lanes lane2 = lanes / 4 % 2 == 1
names lanes lane3 = lanes / 8 % 2 == 1

-- a byte of the new word if the lanes name it, otherwise of the old
unfoldable pub pick : ℕ → ℕ → ℕ → Lane → ℕ
pick old new lanes k = cond (names lanes k) (byte new k) (byte old k)

-- the old word with the named bytes taken from the new one
unfoldable pub merged : ℕ → ℕ → ℕ → ℕ
merged old new lanes =
    pick old new lanes lane0 + pick old new lanes lane1 * 256 + pick old new lanes lane2 * 65536 + pick old new lanes lane3 * 16777216
