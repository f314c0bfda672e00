-- The test that `check_len_8` makes on all bytes at once.
use Rattle.std.proofs.Common.{◌≡◌, ℕ, zero, suc, ◌+◌, ◌*◌, ◌/◌, ◌%◌, ◌^◌, ◌<◌, ◌≤◌, true, eqb, refl, ap, ◌∙◌, ap₂, add-zero, arith, lit<}
use lib.Bits.{bit_and, bit_or, bit_xor, and_block, or_block, xor_block, or_lt, xor_lt, and_le_r, and_mod, and_zero_r}
use Rattle.std.specs.Char.{is_ascii_digit}
use Rattle.std.proofs.lemmas.Nat.{mod-pow-add}
use Rattle.std.proofs.lemmas.Bool.{eqb-true, eqb-false}
use Rattle.words.proofs.Filled.{fill, split}
use Rattle.words.proofs.Runs.{Tests}
use Rattle.words.proofs.Table.{same_below}

-- what the function computes, of n bytes
abbrev pub digit_word : ℕ → ℕ → ℕ
digit_word n v = bit_xor (bit_or (bit_and ((v + fill 6 n) % 2 ^ (8 * n)) (fill 240 n) / 16) (bit_and v (fill 240 n))) (fill 51 n)

-- the same of one byte
abbrev digit_byte : ℕ → ℕ
digit_byte b = bit_xor (bit_or (bit_and ((b + 6) % 256) 240 / 16) (bit_and b 240)) 51

-- it is 0 just for a digit
digit_byte_is_zero : (b : ℕ) → b < 256 → eqb (digit_byte b) 0 ≡ is_ascii_digit b
digit_byte_is_zero = same_below (λ b. eqb (digit_byte b) 0) is_ascii_digit 256 refl

high_nibbles : (n : ℕ) → fill 240 n % 16 ≡ 0
high_nibbles zero = refl
high_nibbles (suc n) = omega arith

masked : (a n : ℕ) → bit_and a (fill 240 n) % 16 ≡ 0
masked a n = and_mod a (fill 240 n) 4 ∙ ap (bit_and (a % 16)) (high_nibbles n) ∙ and_zero_r (a % 16)

-- what the sum has above the lowest byte
abbrev above : ℕ → ℕ → ℕ
above n v = (v + fill 6 (suc n)) / 256 % 2 ^ (8 * n)

digit_word_step : (n v : ℕ) → digit_word (suc n) v
    ≡ bit_xor (bit_or (bit_and (above n v) (fill 240 n) / 16) (bit_and (v / 256) (fill 240 n))) (fill 51 n) * 256 + digit_byte (v % 256)
digit_word_step n v =
    let h = v / 256 in
    let b = v % 256 in
    let low : b < 256 = omega arith in
    let s = v + fill 6 (suc n) in
    let a = (b + 6) % 256 in
    let x = bit_and (above n v) (fill 240 n) in
    let y = bit_and a 240 in
    let width : 8 * suc n ≡ 8 * n + 8 = omega arith in
    let lowest : s % 256 ≡ a = omega arith in
    let sum : s % 2 ^ (8 * suc n) ≡ above n v * 256 + a =
    ap (λ k. s % 2 ^ k) width ∙ mod-pow-add s (8 * n) 8 ∙ ap (λ m. above n v * 256 + m) lowest in
    let ands : bit_and (s % 2 ^ (8 * suc n)) (fill 240 (suc n)) ≡ x * 256 + y =
    ap (λ m. bit_and m (fill 240 (suc n))) sum ∙ and_block 8 (above n v) (fill 240 n) a 240 (omega arith) (lit< tt) in
    let even : x % 16 ≡ 0 = masked (above n v) n in
    let y-low : y ≤ 240 = and_le_r a 240 in
    let shifted : bit_and (s % 2 ^ (8 * suc n)) (fill 240 (suc n)) / 16 ≡ x / 16 * 256 + y / 16 = ap (λ m. m / 16) ands ∙ omega arith in
    let lows : bit_and v (fill 240 (suc n)) ≡ bit_and h (fill 240 n) * 256 + bit_and b 240 =
    ap (λ m. bit_and m (fill 240 (suc n))) (split v) ∙ and_block 8 h (fill 240 n) b 240 low (lit< tt) in
    let b-low : bit_and b 240 ≤ 240 = and_le_r b 240 in
    let y16 : y / 16 < 2 ^ 8 = omega arith in
    let b240 : bit_and b 240 < 2 ^ 8 = omega arith in
    ap₂ (λ p q. bit_xor (bit_or p q) (fill 51 (suc n))) shifted lows
    ∙ ap (λ m. bit_xor m (fill 51 (suc n))) (or_block 8 (x / 16) (bit_and h (fill 240 n)) (y / 16) (bit_and b 240) y16 b240)
    ∙ xor_block 8 (bit_or (x / 16) (bit_and h (fill 240 n))) (fill 51 n) (bit_or (y / 16) (bit_and b 240)) 51 (or_lt 8 _ _ y16 b240) (lit< tt)

digit_range : (b : ℕ) → is_ascii_digit b ≡ true → b ≤ 57
digit_range b e = grind arith

byte_below : (b : ℕ) → b < 256 → digit_byte b < 256
byte_below b h =
    let y-low : bit_and ((b + 6) % 256) 240 ≤ 240 = and_le_r ((b + 6) % 256) 240 in
    let b-low : bit_and b 240 ≤ 240 = and_le_r b 240 in
    xor_lt 8 (bit_or (bit_and ((b + 6) % 256) 240 / 16) (bit_and b 240)) 51
    (or_lt 8 (bit_and ((b + 6) % 256) 240 / 16) (bit_and b 240) (omega arith) (omega arith)) (lit< tt)

pub digit_tests : Tests is_ascii_digit digit_word
digit_tests = record {
  passes = λ n v e.
      let z : digit_byte (v % 256) ≡ 0 = eqb-true _ _ (digit_byte_is_zero (v % 256) (omega arith) ∙ e) in
      let r : v % 256 ≤ 57 = digit_range _ e in
      let no-carry : (v + fill 6 (suc n)) / 256 ≡ v / 256 + fill 6 n = omega arith in
      digit_word_step n v
      ∙ ap₂ (λ m k. bit_xor (bit_or (bit_and (m % 2 ^ (8 * n)) (fill 240 n) / 16) (bit_and (v / 256) (fill 240 n))) (fill 51 n) * 256 + k) no-carry z
      ∙ add-zero (digit_word n (v / 256) * 256);
  fails = λ n v e.
      let z : digit_byte (v % 256) ≡ 0 → ⊥ = eqb-false _ _ (digit_byte_is_zero (v % 256) (omega arith) ∙ e) in (
        bit_xor (bit_or (bit_and (above n v) (fill 240 n) / 16) (bit_and (v / 256) (fill 240 n))) (fill 51 n),
        digit_byte (v % 256),
        byte_below (v % 256) (omega arith),
        omega arith,
        digit_word_step n v,
      );
}
