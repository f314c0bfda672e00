-- The whole number types of 1 to 8 bytes are regular.
use Rattle.std.proofs.Common.{◌≡◌, ℕ, zero, suc, ◌+◌, ◌-◌, ◌*◌, ◌^◌, ◌≤◌, sym, refl, ap, ◌∙◌, pow-suc, arith, pow_pos, pow-add}
use Rattle.atoi_simd.specs.WholeTypes.{unsigned_whole, signed_whole}
use Rattle.records.specs.FieldType.{Regular, unsigned_of, signed_of}

-- how many codes w bytes have
bytes_codes : (w : ℕ) → 2 ^ (8 * w) ≡ 256 ^ w
bytes_codes zero = refl
bytes_codes (suc w) =
    let more : 8 * suc w ≡ 8 * w + 8 = omega arith in
    ap (λ k. 2 ^ k) more ∙ pow-add 2 (8 * w) 8 ∙ ap (λ n. n * 256) (bytes_codes w) ∙ sym (pow-suc 256 w)

module _ (w : ℕ) (some : 1 ≤ w) (few : w ≤ 8) where
  pub unsigned_regular : Regular (unsigned_of w)
  unsigned_regular = record {
    whole = unsigned_whole (8 * w) (omega arith);
    codes = omega (arith, pow_pos (8 * w), bytes_codes w);
    some = some;
    few = few;
  }

  even : 2 ^ (8 * w) ≡ 2 ^ (8 * w - 1) * 2
  even = let up : 8 * w ≡ suc (8 * w - 1) = omega arith in ap (λ k. 2 ^ k) up ∙ pow-suc 2 (8 * w - 1)

  pub signed_regular : Regular (signed_of w)
  signed_regular = record {
    whole = signed_whole (8 * w) (omega arith);
    codes = omega (arith, even, pow_pos (8 * w - 1), bytes_codes w);
    some = some;
    few = few;
  }
