-- Up to sixteen digits in two words of eight bytes.
use Rattle.std.proofs.Common.{◌≡◌, ℕ, ◌+◌, ◌<◌, ◌≤◌, min, Bool, true, false, cond, ◌&&◌, eqb, List, ◌++◌, length, drop, sym, refl, ap, ◌∙◌, ap₂, arith, eq-eqb, ne_eqb}
use lib.Bits.{bit_and, and_mask}
use Rattle.std.specs.Char.{is_ascii_digit}
use Rattle.std.specs.List.{prefix_len}
use Rattle.std.proofs.lemmas.List.Sums.{prefix_len-le-length}
use Rattle.words.specs.Bytes.{bytes_le, front, is_zero, value_of}
use Rattle.words.proofs.Values.{digits_value}
use Rattle.atoi_simd.specs.Digits.{run, zeros}
use Rattle.atoi_simd.specs.Answer.{empty}
use Rattle.atoi_simd.specs.Block.{fault, some, block}
use Rattle.atoi_simd.proofs.Runs.{front_run, front_zeros, front-value, front-append, prefix_len-drop}
use Rattle.atoi_simd.proofs.Blocks.{block_none, block_some, counted, not_full}

-- the first of a word's bytes, a digit
pub one_digit : (w : ℕ) → 1 ≤ prefix_len is_ascii_digit (bytes_le 8 w) → bit_and w 15 ≡ value_of 1 (bytes_le 8 w)
unfolding bytes_le
one_digit w h = and_mask w 4 ∙ omega arith ∙ digits_value 1 (bytes_le 8 w) h

-- w has the first eight bytes, n of which are digits at the front
module _ (count : Bool) (bs : List ℕ) {w : List ℕ} {n : ℕ} (is : w ≡ front 8 bs) (len : n ≡ prefix_len is_ascii_digit w) where
  first_run : n ≡ min 8 (run bs)
  first_run = len ∙ front_run 8 w bs is

  pub none : n ≡ 0 → fault empty ≡ block 16 count bs
  none e = block_none 16 count bs (omega (arith, first_run))

  pub few : (v : ℕ) → 0 < n → n < 8 → v ≡ value_of n w → some false v n 0 ≡ block 16 count bs
  few v h k val =
      ap (λ b. some b v n 0) (sym (ne_eqb n 16 (λ e. omega arith)))
      ∙ block_some 16 count bs v n 0 (omega (arith, first_run)) h (val ∙ front-value 8 w bs is n (omega (arith, first_run))) (not_full 16 count bs n 0 (λ e. omega arith) refl)

  pub eight : 8 ≤ n → (8 ≤ run bs) × (8 ≤ length bs)
  eight h = let l = prefix_len-le-length is_ascii_digit bs in (omega (arith, first_run), omega (arith, first_run))

  -- x has the next eight bytes, m of which are digits at the front
  module _ (h : 8 ≤ n) {x : List ℕ} {m : ℕ} (next : x ≡ front 8 (drop 8 bs)) (more : m ≡ prefix_len is_ascii_digit x) where
    both : w ++ x ≡ front 16 bs
    both = ap₂ ◌++◌ is next ∙ front-append 8 8 bs (eight h).1

    pub total : 8 + m ≡ min 16 (run bs)
    total = omega (arith, more ∙ front_run 8 x (drop 8 bs) next, prefix_len-drop is_ascii_digit 8 bs (eight h).0, (eight h).0)

    pub at_most : 8 + m ≤ 16
    at_most = omega (arith, total)

    pub digits : 8 + m ≤ prefix_len is_ascii_digit (w ++ x)
    digits = omega (arith, front_run 16 (w ++ x) bs both, total)

    value_is : (v : ℕ) → v ≡ value_of (8 + m) (w ++ x) → v ≡ value_of (8 + m) bs
    value_is v val = val ∙ front-value 16 (w ++ x) bs both (8 + m) (omega (arith, total))

    pub part : (v : ℕ) → 8 + m < 16 → v ≡ value_of (8 + m) (w ++ x) → some false v (8 + m) 0 ≡ block 16 count bs
    part v k val =
        ap (λ b. some b v (8 + m) 0) (sym (ne_eqb (8 + m) 16 (λ e. omega arith)))
        ∙ block_some 16 count bs v (8 + m) 0 total (omega arith) (value_is v val) (not_full 16 count bs (8 + m) 0 (λ e. omega arith) refl)

    pub counted_zeros : (z : ℕ) → count ≡ true → z ≡ prefix_len is_zero (w ++ x) → z ≡ cond (count && eqb 16 16) (min 16 (zeros bs)) 0
    counted_zeros z t e = counted 16 count bs 16 z t refl (e ∙ front_zeros 16 (w ++ x) bs both)

    pub whole : (v z : ℕ) → 16 ≤ 8 + m → v ≡ value_of (8 + m) (w ++ x) → z ≡ cond (count && eqb 16 16) (min 16 (zeros bs)) 0 → some true v 16 z ≡ block 16 count bs
    whole v z k val zs =
        let full : 8 + m ≡ 16 = omega (arith, at_most) in
        ap (λ b. some b v 16 z) (sym (eq-eqb 16 16 refl))
        ∙ block_some 16 count bs v 16 z (sym full ∙ total) (omega arith) (value_is v val ∙ ap (λ j. value_of j bs) full) zs
