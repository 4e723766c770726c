-- The bytes of a word, and of a merged one.
use Rattle.std.proofs.Common.{◌≡◌, ℕ, ◌/◌, ◌%◌, ◌<◌, Bool, true, false, cond, refl, ◌∙◌, arith}
use Rattle.std.proofs.lemmas.Bool.{cond-true, cond-false}
use Rattle.memory.specs.Lanes.{Lane, lane0, lane1, lane2, lane3, byte, names, pick, merged}

pub same : (v w : ℕ) → ((k : Lane) → byte v k ≡ byte w k) → v ≡ w
unfolding byte
same v w h =
    let h0 : v % 256 ≡ w % 256 = h lane0 in
    let h1 : v / 256 % 256 ≡ w / 256 % 256 = h lane1 in
    let h2 : v / 65536 % 256 ≡ w / 65536 % 256 = h lane2 in
    let h3 : v / 16777216 ≡ w / 16777216 = h lane3 in
    omega arith

below : (b : Bool) (x y : ℕ) → x < 256 → y < 256 → cond b x y < 256
below true x y p q = p
below false x y p q = q

pub merge_byte : (l v w : ℕ) (k : Lane) → byte (merged v w l) k ≡ pick v w l k
unfolding byte merged pick
merge_byte l v w lane0 =
    let a = below (names l lane0) (w % 256) (v % 256) (omega arith) (omega arith) in
    omega arith
merge_byte l v w lane1 =
    let a = below (names l lane0) (w % 256) (v % 256) (omega arith) (omega arith) in
    let b = below (names l lane1) (w / 256 % 256) (v / 256 % 256) (omega arith) (omega arith) in
    omega arith
merge_byte l v w lane2 =
    let a = below (names l lane0) (w % 256) (v % 256) (omega arith) (omega arith) in
    let b = below (names l lane1) (w / 256 % 256) (v / 256 % 256) (omega arith) (omega arith) in
    let c = below (names l lane2) (w / 65536 % 256) (v / 65536 % 256) (omega arith) (omega arith) in
    omega arith
merge_byte l v w lane3 =
    let a = below (names l lane0) (w % 256) (v % 256) (omega arith) (omega arith) in
    let b = below (names l lane1) (w / 256 % 256) (v / 256 % 256) (omega arith) (omega arith) in
    let c = below (names l lane2) (w / 65536 % 256) (v / 65536 % 256) (omega arith) (omega arith) in
    omega arith

pub merge_in : (l v w : ℕ) (k : Lane) → names l k ≡ true → byte (merged v w l) k ≡ byte w k
unfolding pick
merge_in l v w k h = merge_byte l v w k ∙ cond-true (names l k) (byte w k) (byte v k) h

pub merge_out : (l v w : ℕ) (k : Lane) → names l k ≡ false → byte (merged v w l) k ≡ byte v k
unfolding pick
merge_out l v w k h = merge_byte l v w k ∙ cond-false (names l k) (byte w k) (byte v k) h

pub full : (k : Lane) → names 15 k ≡ true
unfolding names
full lane0 = refl
full lane1 = refl
full lane2 = refl
full lane3 = refl

pub merge_full : (v w : ℕ) → merged v w 15 ≡ w
merge_full v w = same (merged v w 15) w (λ k. merge_in 15 v w k (full k))
