-- How many digits the greatest number of 64 bits has.
use Rattle.std.proofs.Common.{◌≡◌, ℕ, ◌+◌, ◌-◌, ◌*◌, ◌^◌, ◌<◌, ◌≤◌, leb, ◌⊎◌, inl, inr, ⊎_elim, arith, pow-add}
use native.Mathlib.Nat.{pow-le-pow_right}
use Rattle.std.proofs.lemmas.Nat.{mul-add-lt}
use Rattle.std.proofs.lemmas.Bool.{cases_lt, cond-true, cond-false, le-leb, lt-leb}
use Rattle.atoi_simd.specs.Calls.{digit_count}

pub count_cases : (max : ℕ) → ((10 ^ 19 ≤ max) × (digit_count max ≡ 20)) ⊎ ((max < 10 ^ 19) × (digit_count max ≡ 19))
count_cases max =
    ⊎_elim (λ low. inr (low, cond-false (leb (10 ^ 19) max) 20 19 (lt-leb (10 ^ 19) max low)))
    (λ high. inl (high, cond-true (leb (10 ^ 19) max) 20 19 (le-leb (10 ^ 19) max high))) (cases_lt max (10 ^ 19))

pub count_least : (max : ℕ) → 19 ≤ digit_count max
count_least max = ⊎_elim (λ c. omega arith) (λ c. omega arith) (count_cases max)

pub count_most : (max : ℕ) → digit_count max ≤ 20
count_most max = ⊎_elim (λ c. omega arith) (λ c. omega arith) (count_cases max)

-- a power of ten that has fewer digits is no larger
pub count_above : (max n : ℕ) → 2 ^ 63 - 1 ≤ max → n < digit_count max → 10 ^ n ≤ max
count_above max n m h =
    ⊎_elim
    (λ c. let d : n ≤ 19 = omega arith in let p : 10 ^ n ≤ 10 ^ 19 = pow-le-pow_right {n = 10} (omega arith) d in omega arith)
    (λ c. let d : n ≤ 18 = omega arith in let p : 10 ^ n ≤ 10 ^ 18 = pow-le-pow_right {n = 10} (omega arith) d in omega arith)
    (count_cases max)

-- a power of ten that has more digits is larger
pub count_over : (max n : ℕ) → max < 2 ^ 64 → digit_count max ≤ n → max < 10 ^ n
count_over max n m h =
    ⊎_elim
    (λ c. let d : 20 ≤ n = omega arith in let p : 10 ^ 20 ≤ 10 ^ n = pow-le-pow_right {n = 10} (omega arith) d in omega arith)
    (λ c. let d : 19 ≤ n = omega arith in let p : 10 ^ 19 ≤ 10 ^ n = pow-le-pow_right {n = 10} (omega arith) d in omega arith)
    (count_cases max)

-- sixteen digits and n more that are fewer than the greatest number's
pub joined_below : (max first more n : ℕ) → 2 ^ 63 - 1 ≤ max → first < 10 ^ 16 → more < 10 ^ n → n + 16 < digit_count max → first * 10 ^ n + more ≤ max
joined_below max first more n m f w h =
    let below : first * 10 ^ n + more < 10 ^ n * 10 ^ 16 = mul-add-lt first (10 ^ n) more (10 ^ 16) f w in
    let all : 10 ^ (n + 16) ≡ 10 ^ n * 10 ^ 16 = pow-add 10 n 16 in
    omega (arith, count_above max (n + 16) m h)
