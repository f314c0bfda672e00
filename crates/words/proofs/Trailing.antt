-- The zeros at the end of a number whose lowest binary digits are known.
use Rattle.std.proofs.Common.{◌≡◌, ℕ, zero, suc, ◌+◌, ◌*◌, ◌/◌, ◌%◌, ◌^◌, ◌<◌, sym, refl, ap, ◌∙◌, subst, ap₂, ⊎_elim, suc-add, pow-suc, zero-add, mul-one, arith}
use lib.Bits.{block_half, block_odd, shifted_half, shifted_even}
use lib.Count.{count_trailing_zeros, under}
use Rattle.std.proofs.lemmas.Bool.{cases_eq}

trailing_step : (k n : ℕ) → count_trailing_zeros (suc k) n ≡ under (n % 2) (count_trailing_zeros k (n / 2))
unfolding count_trailing_zeros
trailing_step k n = refl

trailing_even : (k n : ℕ) → n % 2 ≡ 0 → count_trailing_zeros (suc k) n ≡ suc (count_trailing_zeros k (n / 2))
trailing_even k n e = trailing_step k n ∙ ap (λ d. under d (count_trailing_zeros k (n / 2))) e

trailing_odd : (k n : ℕ) → n % 2 ≡ 1 → count_trailing_zeros (suc k) n ≡ 0
trailing_odd k n e = trailing_step k n ∙ ap (λ d. under d (count_trailing_zeros k (n / 2))) e

-- the j lowest digits are 0
pub trailing_block : (j k x : ℕ) → count_trailing_zeros (j + k) (x * 2 ^ j) ≡ j + count_trailing_zeros k x
trailing_block zero k x = ap₂ count_trailing_zeros (zero-add k) (mul-one x) ∙ sym (zero-add (count_trailing_zeros k x))
trailing_block (suc j) k x =
    ap (λ m. count_trailing_zeros m (x * 2 ^ suc j)) (suc-add j k)
    ∙ trailing_even (j + k) (x * 2 ^ suc j) (shifted_even x j)
    ∙ ap (λ m. suc (count_trailing_zeros (j + k) m)) (shifted_half x j)
    ∙ ap suc (trailing_block j k x)
    ∙ sym (suc-add j (count_trailing_zeros k x))

-- the j lowest digits, which are r, are not all 0
pub trailing_low : (j k x r : ℕ) → r < 2 ^ j → 0 < r → count_trailing_zeros (j + k) (x * 2 ^ j + r) < j
trailing_low zero k x r h p = absurd (omega arith)
trailing_low (suc j) k x r h p =
    let bound : r < 2 ^ j * 2 = subst (λ m. r < m) (pow-suc 2 j) h in
    let n = x * 2 ^ suc j + r in
    ⊎_elim
    (λ e.
    let half : r / 2 < 2 ^ j = omega arith in
    let ih : count_trailing_zeros (j + k) (x * 2 ^ j + r / 2) < j = trailing_low j k x (r / 2) half (omega arith) in
    let is : count_trailing_zeros (suc j + k) n ≡ suc (count_trailing_zeros (j + k) (x * 2 ^ j + r / 2)) =
    ap (λ m. count_trailing_zeros m n) (suc-add j k) ∙ trailing_even (j + k) n (block_odd x j r ∙ e) ∙ ap (λ m. suc (count_trailing_zeros (j + k) m)) (block_half x j r) in
    omega arith)
    (λ e.
    let odd : r % 2 ≡ 1 = omega arith in
    let is : count_trailing_zeros (suc j + k) n ≡ 0 = ap (λ m. count_trailing_zeros m n) (suc-add j k) ∙ trailing_odd (j + k) n (block_odd x j r ∙ odd) in
    omega arith)
    (cases_eq (r % 2) 0)
