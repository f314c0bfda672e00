-- What the three multiplications of `process_8` make of eight lanes that hold less than 16 each.
use Rattle.std.proofs.Common.{◌≡◌, ℕ, ◌+◌, ◌*◌, ◌/◌, ◌%◌, ◌^◌, ◌<◌, List, [], ◌∷◌, sym, ap, ◌∙◌, arith, lit<}
use lib.Bits.{bit_and, and_mask}
use Rattle.std.specs.Int.Digits.{number_from_digits}
use Rattle.std.proofs.lemmas.Nat.{field_of}
use Rattle.words.proofs.Lanes.{cut, apart, joins}

-- what is computed of the word that has only the low halves
abbrev pub product : ℕ → ℕ
product y =
    bit_and (bit_and (y * 0xA01 % 2 ^ 64 / 2 ^ 8) 0x00FF_00FF_00FF_00FF * 0x64_0001 % 2 ^ 64 / 2 ^ 16) 0x0000_FFFF_0000_FFFF * 0x2710_0000_0001 % 2 ^ 64 / 2 ^ 32

-- Two lanes below 16 join to one below 166, two of these to one below 16666, and two of these to less than 32 bits hold.
pub product_is : (a b c d e f g h : ℕ) → a < 16 → b < 16 → c < 16 → d < 16 → e < 16 → f < 16 → g < 16 → h < 16 →
    product (apart 256 ((a, b) ∷ (c, d) ∷ (e, f) ∷ (g, h) ∷ [])) ≡ number_from_digits 10 (a ∷ b ∷ c ∷ d ∷ e ∷ f ∷ g ∷ h ∷ [])
product_is a b c d e f g h ha hb hc hd he hf hg hh =
    let ones : List (ℕ × ℕ) = (a, b) ∷ (c, d) ∷ (e, f) ∷ (g, h) ∷ [] in
    let tens : List (ℕ × ℕ) = (a * 10 + b, c * 10 + d) ∷ (e * 10 + f, g * 10 + h) ∷ [] in
    let P = (a * 10 + b) * 100 + (c * 10 + d) in
    let Q = (e * 10 + f) * 100 + (g * 10 + h) in
    let hundreds : List (ℕ × ℕ) = (P, Q) ∷ [] in
    let first : bit_and (apart 256 ones * 0xA01 % 2 ^ 64 / 2 ^ 8) 0x00FF_00FF_00FF_00FF ≡ apart (2 ^ 16) tens =
    cut (apart 256 ones * 0xA01) 56 8 0x00FF_00FF_00FF_00FF (lit< tt)
    ∙ joins 8 10 16 (omega arith) (lit< tt) (λ x y hx hy. omega arith) ones ((ha, hb), ((hc, hd), ((he, hf), ((hg, hh), tt)))) in
    let second : bit_and (apart (2 ^ 16) tens * 0x64_0001 % 2 ^ 64 / 2 ^ 16) 0x0000_FFFF_0000_FFFF ≡ apart (2 ^ 32) hundreds =
    cut (apart (2 ^ 16) tens * 0x64_0001) 48 16 0x0000_FFFF_0000_FFFF (lit< tt)
    ∙ joins 16 100 166 (omega arith) (lit< tt) (λ x y hx hy. omega arith) tens ((omega arith, omega arith), ((omega arith, omega arith), tt)) in
    let third : apart (2 ^ 32) hundreds * 0x2710_0000_0001 % 2 ^ 64 / 2 ^ 32 ≡ P * 10000 + Q =
    field_of (apart (2 ^ 32) hundreds * 0x2710_0000_0001) 32 32
    ∙ sym (and_mask (apart (2 ^ 32) hundreds * 0x2710_0000_0001 / 2 ^ 32) 32)
    ∙ joins 32 10000 16666 (omega arith) (lit< tt) (λ x y hx hy. omega arith) hundreds ((omega arith, omega arith), tt)
    ∙ omega arith in
    ap (λ n. bit_and (n * 0x64_0001 % 2 ^ 64 / 2 ^ 16) 0x0000_FFFF_0000_FFFF * 0x2710_0000_0001 % 2 ^ 64 / 2 ^ 32) first
    ∙ ap (λ n. n * 0x2710_0000_0001 % 2 ^ 64 / 2 ^ 32) second
    ∙ third
    ∙ omega arith
