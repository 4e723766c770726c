-- What holds of the bytes of an accepted image.
use Rattle.std.specs.Prelude.{◌≡◌, ℕ, ◌+◌, ◌*◌, ◌%◌, ◌<◌, ◌≤◌, List, length}
use Rattle.image.specs.Image.{header}

pub record Accepted (bs : List ℕ) : Type 0 where
  pub length_multiple : length bs % 4 ≡ 0
  pub long_enough : 28 ≤ length bs
  pub words_low : 1 ≤ (header bs).words
  pub words_high : (header bs).words ≤ 16384
  pub text_low : 1 ≤ (header bs).text
  pub text_high : (header bs).text ≤ (header bs).words
  pub given_low : (header bs).text ≤ (header bs).given
  pub given_high : (header bs).given ≤ (header bs).words
  pub entry_aligned : (header bs).entry % 4 ≡ 0
  pub entry_below : (header bs).entry < 4 * (header bs).text
  pub period_low : 1 ≤ (header bs).period
  pub period_high : (header bs).period ≤ 65535
  pub outputs_high : (header bs).outputs ≤ 16384
  pub limit_low : 1 ≤ (header bs).limit
  pub exact_length : length bs ≡ 28 + 4 * (header bs).given
