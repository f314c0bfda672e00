-- A test that is made on all bytes of a word at once: how many bytes pass it from the lowest on.
use Rattle.std.proofs.Common.{◌≡◌, ℕ, zero, suc, ◌+◌, ◌*◌, ◌/◌, ◌%◌, ◌<◌, Bool, true, false, sym, refl, ◌∙◌, ap₂, ⊎_elim, arith}
use lib.Count.{count_trailing_zeros}
use Rattle.std.specs.List.{prefix_len}
use Rattle.std.proofs.lemmas.Bool.{cases_Bool, cond-true, cond-false}
use Rattle.words.specs.Bytes.{bytes_le}
use Rattle.words.proofs.Trailing.{trailing_block, trailing_low}

-- `word n v` is made from the n lowest bytes of v. Its lowest byte is 0 just where the lowest byte of v passes p; then no carry leaves it,
-- and what stands above it is made from the other bytes in the same way.
pub record Tests (p : ℕ → Bool) (word : ℕ → ℕ → ℕ) : Type 0 where
  pub passes : (n v : ℕ) → p (v % 256) ≡ true → word (suc n) v ≡ word n (v / 256) * 256
  pub fails : (n v : ℕ) → p (v % 256) ≡ false → (hi : ℕ) × (lo : ℕ) × (lo < 256) × (0 < lo) × (word (suc n) v ≡ hi * 256 + lo)

module _ (p : ℕ → Bool) (word : ℕ → ℕ → ℕ) (t : Tests p word) where
  pub run_length : (n v : ℕ) → count_trailing_zeros (8 * n) (word n v) / 8 ≡ prefix_len p (bytes_le n v)
  unfolding bytes_le count_trailing_zeros
  run_length zero v = refl
  run_length (suc n) v =
      let width : 8 * suc n ≡ 8 + 8 * n = omega arith in
      ⊎_elim
      (λ e.
      let ih = run_length n (v / 256) in
      let is : count_trailing_zeros (8 * suc n) (word (suc n) v) ≡ 8 + count_trailing_zeros (8 * n) (word n (v / 256)) =
      ap₂ count_trailing_zeros width (t.passes n v e) ∙ trailing_block 8 (8 * n) (word n (v / 256)) in
      let count : count_trailing_zeros (8 * suc n) (word (suc n) v) / 8 ≡ 1 + prefix_len p (bytes_le n (v / 256)) = omega arith in
      count ∙ sym (cond-true (p (v % 256)) _ _ e))
      (λ e.
      let f = t.fails n v e in
      let low : count_trailing_zeros (8 + 8 * n) (f.0 * 256 + f.1) < 8 = trailing_low 8 (8 * n) f.0 f.1 f.2 f.3 in
      let is : count_trailing_zeros (8 * suc n) (word (suc n) v) ≡ count_trailing_zeros (8 + 8 * n) (f.0 * 256 + f.1) = ap₂ count_trailing_zeros width f.4 in
      let count : count_trailing_zeros (8 * suc n) (word (suc n) v) / 8 ≡ 0 = omega arith in
      count ∙ sym (cond-false (p (v % 256)) _ _ e))
      (cases_Bool (p (v % 256)))
