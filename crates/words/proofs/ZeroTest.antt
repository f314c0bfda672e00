-- The test that `len_zeroes` makes on all bytes at once.
use Rattle.std.proofs.Common.{◌≡◌, ℕ, suc, ◌+◌, ◌*◌, ◌/◌, ◌%◌, ◌<◌, eqb, refl, ap, ◌∙◌, arith, lit<}
use lib.Bits.{bit_xor, xor_block, xor_lt}
use Rattle.std.proofs.lemmas.Bool.{eqb-true, eqb-false}
use Rattle.words.specs.Bytes.{is_zero}
use Rattle.words.proofs.Filled.{fill, split}
use Rattle.words.proofs.Runs.{Tests}
use Rattle.words.proofs.Table.{same_below}

-- what the function computes, of n bytes
abbrev pub zero_word : ℕ → ℕ → ℕ
zero_word n v = bit_xor v (fill 48 n)

-- the same of one byte: 0 just for a zero
zero_byte : (b : ℕ) → b < 256 → eqb (bit_xor b 48) 0 ≡ is_zero b
zero_byte = same_below (λ b. eqb (bit_xor b 48) 0) is_zero 256 refl

zero_word_step : (n v : ℕ) → zero_word (suc n) v ≡ zero_word n (v / 256) * 256 + bit_xor (v % 256) 48
zero_word_step n v =
    ap (λ x. bit_xor x (fill 48 (suc n))) (split v)
    ∙ xor_block 8 (v / 256) (fill 48 n) (v % 256) 48 (omega arith) (lit< tt)

pub zero_tests : Tests is_zero zero_word
zero_tests = record {
  passes = λ n v e.
      let z : bit_xor (v % 256) 48 ≡ 0 = eqb-true _ _ (zero_byte (v % 256) (omega arith) ∙ e) in
      zero_word_step n v ∙ omega arith;
  fails = λ n v e.
      let z : bit_xor (v % 256) 48 ≡ 0 → ⊥ = eqb-false _ _ (zero_byte (v % 256) (omega arith) ∙ e) in
      (zero_word n (v / 256), bit_xor (v % 256) 48, xor_lt 8 (v % 256) 48 (omega arith) (lit< tt), omega arith, zero_word_step n v);
}
