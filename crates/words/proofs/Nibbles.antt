-- The low halves of a word's bytes, and what `process_8` makes of them.
use Rattle.std.proofs.Common.{◌≡◌, ℕ, zero, suc, ◌+◌, ◌-◌, ◌*◌, ◌/◌, ◌%◌, ◌^◌, ◌<◌, ◌≤◌, List, ◌++◌, map, take, replicate, sym, refl, ap, ◌∙◌, ap₂, arith, lit<}
use lib.Bits.{bit_and, and_block, and_mask, and_zero_r}
use Rattle.std.specs.Int.Digits.{number_from_digits}
use Rattle.std.proofs.lemmas.List.{take_all}
use Rattle.words.specs.Bytes.{bytes_le, word_le, nibble, nibble_value}
use Rattle.words.proofs.Filled.{fill, split}
use Rattle.words.proofs.Product.{product, product_is}
use Rattle.words.proofs.Shifted.{length-bytes_le, moved_up}

-- the word without the high halves of its bytes
masked : (n v : ℕ) → bit_and v (fill 15 n) ≡ word_le (map nibble (bytes_le n v))
unfolding bytes_le word_le
masked zero v = and_zero_r v
masked (suc n) v =
    ap (λ x. bit_and x (fill 15 (suc n))) (split v)
    ∙ and_block 8 (v / 256) (fill 15 n) (v % 256) 15 (omega arith) (lit< tt)
    ∙ ap₂ (λ x y. x * 256 + y) (masked n (v / 256)) (and_mask (v % 256) 4)

low_half : (b : ℕ) → nibble b < 16
low_half b = omega arith

product_bytes : (v : ℕ) → product (bit_and v (fill 15 8)) ≡ number_from_digits 10 (map nibble (bytes_le 8 v))
unfolding bytes_le word_le
product_bytes v =
    ap product (masked 8 v)
    ∙ product_is _ _ _ _ _ _ _ _ (low_half _) (low_half _) (low_half _) (low_half _) (low_half _) (low_half _) (low_half _) (low_half _)

-- zeros in front change no value
zeros_in_front : (k : ℕ) (bs : List ℕ) → number_from_digits 10 (map nibble (replicate k 0 ++ bs)) ≡ number_from_digits 10 (map nibble bs)
zeros_in_front zero bs = refl
zeros_in_front (suc k) bs = zeros_in_front k bs

pub processed_none : (v len : ℕ) → len ≡ 0 → product (bit_and 0 (fill 15 8)) ≡ nibble_value len (bytes_le 8 v)
processed_none v len none = sym (ap (λ n. nibble_value n (bytes_le 8 v)) none)

pub processed_some : (v len : ℕ) → len ≤ 8 → product (bit_and (v * 2 ^ (64 - 8 * len) % 2 ^ 64) (fill 15 8)) ≡ nibble_value len (bytes_le 8 v)
processed_some v len most =
    product_bytes (v * 2 ^ (64 - 8 * len) % 2 ^ 64)
    ∙ ap (λ bs. number_from_digits 10 (map nibble bs)) (moved_up v len most)
    ∙ zeros_in_front (8 - len) (take len (bytes_le 8 v))

pub processed_all : (v len : ℕ) → 8 ≤ len → product (bit_and v (fill 15 8)) ≡ nibble_value len (bytes_le 8 v)
processed_all v len all = product_bytes v ∙ ap (λ bs. number_from_digits 10 (map nibble bs)) (sym (take_all len (bytes_le 8 v) (omega (arith, length-bytes_le 8 v))))
