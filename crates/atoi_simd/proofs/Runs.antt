-- The digits at the front of a text: their run, the zeros that lead it, and their value.
use Rattle.std.proofs.Common.{◌≡◌, ℕ, zero, suc, ◌+◌, ◌-◌, ◌*◌, ◌^◌, ◌<◌, ◌≤◌, min, Bool, true, false, List, [], ◌∷◌, ◌++◌, map, length, get_or, take, drop, sym, refl, ap, ◌∙◌, subst, ⊎_elim, mul-le-mul_right, suc-add, zero-add, zero-mul, arith, eqb-true}
use borrow.Author.Tests.{eqb-false}
use Rattle.std.specs.Char.{is_ascii_digit}
use Rattle.std.specs.List.{prefix_len}
use Rattle.std.specs.Int.Digits.{number_from_digits, number_from_digits_after, AllBelowBase}
use Rattle.std.proofs.lemmas.Int.Digits.{number_after_append, number_after_ge, number_lt}
use Rattle.std.proofs.lemmas.List.{map-append, drop-take, take-take, take-append-drop, length-map, length-take-le, length-drop, get_or_past}
use Rattle.std.proofs.lemmas.List.Sums.{prefix_len-le-length, prefix_len-drop_yes, prefix_len-drop_no}
use Rattle.std.proofs.lemmas.Bool.{both_ways, cases_Bool, cases_lt, cond-true, cond-false}
use Rattle.words.proofs.Leading.{first_passes}
use Rattle.words.proofs.Values.{number_after}
use Rattle.words.specs.Bytes.{front, is_zero, value_of, digit_of}
use Rattle.atoi_simd.specs.Digits.{run, zeros, value}

-- what passes a test at the front of a text, and of its first n bytes
module _ (p : ℕ → Bool) (no : p 0 ≡ false) where
  front_none : (n : ℕ) → prefix_len p (front n []) ≡ 0
  unfolding front
  front_none zero = refl
  front_none (suc n) = cond-false (p 0) _ _ no

  front_prefix_len : (n : ℕ) (bs : List ℕ) → prefix_len p (front n bs) ≡ min n (prefix_len p bs)
  unfolding front
  front_prefix_len zero bs = omega arith
  front_prefix_len (suc n) [] = front_none (suc n) ∙ omega arith
  front_prefix_len (suc n) (b ∷ bs) =
      ⊎_elim
      (λ e.
      let ih = front_prefix_len n bs in
      let l : prefix_len p (b ∷ front n bs) ≡ 1 + prefix_len p (front n bs) = cond-true (p b) _ _ e in
      let r : prefix_len p (b ∷ bs) ≡ 1 + prefix_len p bs = cond-true (p b) _ _ e in
      omega arith)
      (λ e.
      let l : prefix_len p (b ∷ front n bs) ≡ 0 = cond-false (p b) _ _ e in
      let r : prefix_len p (b ∷ bs) ≡ 0 = cond-false (p b) _ _ e in
      omega arith)
      (cases_Bool (p b))

front-take : (n k : ℕ) (bs : List ℕ) → k ≤ n → k ≤ length bs → take k (front n bs) ≡ take k bs
unfolding front
front-take n zero bs h l = refl
front-take zero (suc k) bs h l = absurd (omega arith)
front-take (suc n) (suc k) [] h l = absurd (omega arith)
front-take (suc n) (suc k) (b ∷ bs) h l = ap (λ t. b ∷ t) (front-take n k bs (omega arith) (omega arith))

-- bytes that are the first n of a text
module _ (n : ℕ) (w bs : List ℕ) (is : w ≡ front n bs) where
  pub front_run : prefix_len is_ascii_digit w ≡ min n (run bs)
  front_run = ap (prefix_len is_ascii_digit) is ∙ front_prefix_len is_ascii_digit refl n bs

  pub front_zeros : prefix_len is_zero w ≡ min n (zeros bs)
  front_zeros = ap (prefix_len is_zero) is ∙ front_prefix_len is_zero refl n bs

  pub front-value : (k : ℕ) → k ≤ min n (run bs) → value_of k w ≡ value_of k bs
  front-value k h =
      ap (value_of k) is ∙ ap (λ l. number_from_digits 10 (map digit_of l)) (front-take n k bs (omega arith) (omega (arith, prefix_len-le-length is_ascii_digit bs)))

-- the first bytes of a text in two parts
pub front-append : (m n : ℕ) (bs : List ℕ) → m ≤ length bs → front m bs ++ front n (drop m bs) ≡ front (m + n) bs
unfolding front
front-append zero n bs h = ap (λ k. front k bs) (sym (zero-add n))
front-append (suc m) n [] h = absurd (omega arith)
front-append (suc m) n (b ∷ bs) h = ap (λ l. b ∷ l) (front-append m n bs (omega arith)) ∙ ap (λ k. front k (b ∷ bs)) (sym (suc-add m n))

-- a value in two parts
take_split : (bs : List ℕ) (i k : ℕ) → take (i + k) bs ≡ take i bs ++ take k (drop i bs)
take_split bs i k =
    sym (take-append-drop i (take (i + k) bs))
    ∙ ap (λ l. l ++ drop i (take (i + k) bs)) (take-take i (i + k) bs (omega arith))
    ∙ ap (λ l. take i bs ++ l) (drop-take i k bs)

pub value_split : (bs : List ℕ) (i k : ℕ) → i + k ≤ length bs → value_of (i + k) bs ≡ value_of i bs * 10 ^ k + value_of k (drop i bs)
value_split bs i k h =
    let ds = map digit_of (take k (drop i bs)) in
    let len : length ds ≡ k = length-map (take k (drop i bs)) digit_of ∙ length-take-le k (drop i bs) (omega (arith, length-drop i bs)) in
    ap (λ l. number_from_digits 10 (map digit_of l)) (take_split bs i k)
    ∙ ap (number_from_digits 10) (map-append digit_of (take i bs) (take k (drop i bs)))
    ∙ number_after_append 10 0 (map digit_of (take i bs)) ds
    ∙ number_after (value_of i bs) ds
    ∙ ap (λ n. value_of i bs * 10 ^ n + value_of k (drop i bs)) len

-- more digits never make a lower value
pub value_grows : (bs : List ℕ) (i k : ℕ) → value_of i bs ≤ value_of (i + k) bs
value_grows bs i k =
    let ds = map digit_of (take k (drop i bs)) in
    let whole : value_of (i + k) bs ≡ number_from_digits_after 10 (value_of i bs) ds =
    ap (λ l. number_from_digits 10 (map digit_of l)) (take_split bs i k)
    ∙ ap (number_from_digits 10) (map-append digit_of (take i bs) (take k (drop i bs)))
    ∙ number_after_append 10 0 (map digit_of (take i bs)) ds in
    omega (arith, whole, number_after_ge 10 (value_of i bs) ds (omega arith))

-- a run goes on behind a part of it
module _ (p : ℕ → Bool) where
  pub prefix_len-drop : (k : ℕ) (bs : List ℕ) → k ≤ prefix_len p bs → prefix_len p (drop k bs) ≡ prefix_len p bs - k
  prefix_len-drop zero bs h = omega arith
  prefix_len-drop (suc k) [] h = absurd (omega arith)
  prefix_len-drop (suc k) (b ∷ bs) h =
      ⊎_elim
      (λ e.
      let r : prefix_len p (b ∷ bs) ≡ 1 + prefix_len p bs = cond-true (p b) _ _ e in
      let ih = prefix_len-drop k bs (omega arith) in
      omega arith)
      (λ e.
      let r : prefix_len p (b ∷ bs) ≡ 0 = cond-false (p b) _ _ e in
      absurd (omega arith))
      (cases_Bool (p b))

zero_digit : (b : ℕ) → is_zero b ≡ true → (is_ascii_digit b ≡ true) × (b ≡ 48)
zero_digit b e = let is : b ≡ 48 = eqb-true b 48 e in (ap is_ascii_digit is, is)

-- zeros are digits
pub zeros_le : (bs : List ℕ) → zeros bs ≤ run bs
zeros_le [] = omega arith
zeros_le (b ∷ bs) =
    ⊎_elim
    (λ e.
    let z : zeros (b ∷ bs) ≡ 1 + zeros bs = cond-true (is_zero b) _ _ e in
    let r : run (b ∷ bs) ≡ 1 + run bs = cond-true (is_ascii_digit b) _ _ (zero_digit b e).0 in
    let ih = zeros_le bs in
    omega arith)
    (λ e. let z : zeros (b ∷ bs) ≡ 0 = cond-false (is_zero b) _ _ e in omega arith)
    (cases_Bool (is_zero b))

-- and have no value
zeros_value : (k : ℕ) (bs : List ℕ) → k ≤ zeros bs → value_of k bs ≡ 0
zeros_value zero bs h = refl
zeros_value (suc k) [] h = refl
zeros_value (suc k) (b ∷ bs) h =
    ⊎_elim
    (λ e.
    let z : zeros (b ∷ bs) ≡ 1 + zeros bs = cond-true (is_zero b) _ _ e in
    let d : 0 * 10 + (b - 48) ≡ 0 = omega (arith, (zero_digit b e).1) in
    ap (λ n. number_from_digits_after 10 n (map digit_of (take k bs))) d ∙ zeros_value k bs (omega arith))
    (λ e. let z : zeros (b ∷ bs) ≡ 0 = cond-false (is_zero b) _ _ e in absurd (omega arith))
    (cases_Bool (is_zero b))

-- n digits have a value below 10 ^ n
digits_under : (n : ℕ) (bs : List ℕ) → n ≤ run bs → AllBelowBase 10 (map digit_of (take n bs))
digits_under zero bs h = tt
digits_under (suc n) [] h = tt
digits_under (suc n) (b ∷ bs) h =
    ⊎_elim
    (λ e.
    let r : run (b ∷ bs) ≡ 1 + run bs = cond-true (is_ascii_digit b) _ _ e in
    let lo : 48 ≤ b = grind arith in
    let hi : b ≤ 57 = grind arith in
    (omega arith, digits_under n bs (omega arith)))
    (λ e. let r : run (b ∷ bs) ≡ 0 = cond-false (is_ascii_digit b) _ _ e in absurd (omega arith))
    (cases_Bool (is_ascii_digit b))

pub value_below : (n : ℕ) (bs : List ℕ) → n ≤ run bs → value_of n bs < 10 ^ n
value_below n bs h =
    let l : length (map digit_of (take n bs)) ≡ n = length-map (take n bs) digit_of ∙ length-take-le n bs (omega (arith, prefix_len-le-length is_ascii_digit bs)) in
    subst (λ k. value_of n bs < 10 ^ k) l (number_lt 10 (map digit_of (take n bs)) (digits_under n bs h))

-- zeros in front do not change the value
pub value_zeros : (bs : List ℕ) (y : ℕ) → y ≤ zeros bs → value (drop y bs) ≡ value bs
value_zeros bs y h =
    let z = zeros_le bs in
    let l = prefix_len-le-length is_ascii_digit bs in
    let r : run (drop y bs) ≡ run bs - y = prefix_len-drop is_ascii_digit y bs (omega arith) in
    let t : run bs ≡ y + run (drop y bs) = omega arith in
    let s : value_of (y + run (drop y bs)) bs ≡ value_of y bs * 10 ^ run (drop y bs) + value (drop y bs) = value_split bs y (run (drop y bs)) (omega arith) in
    let n : value_of y bs * 10 ^ run (drop y bs) ≡ 0 = ap (λ v. v * 10 ^ run (drop y bs)) (zeros_value y bs h) ∙ zero-mul (10 ^ run (drop y bs)) in
    sym (ap (λ j. value_of j bs) t ∙ s ∙ omega arith)

-- a first digit that is not 0
pub first_digit : (bs : List ℕ) → 0 < run bs → zeros bs ≡ 0 → 1 ≤ value_of 1 bs
first_digit [] h o = absurd (omega arith)
first_digit (b ∷ bs) h o =
    ⊎_elim
    (λ e.
    let lo : 48 ≤ b = grind arith in
    ⊎_elim
    (λ q. let z : zeros (b ∷ bs) ≡ 1 + zeros bs = cond-true (is_zero b) _ _ q in absurd (omega arith))
    (λ q. let ne = eqb-false b 48 q in omega arith)
    (cases_Bool (is_zero b)))
    (λ e. let r : run (b ∷ bs) ≡ 0 = cond-false (is_ascii_digit b) _ _ e in absurd (omega arith))
    (cases_Bool (is_ascii_digit b))

-- the digit at the front counts in the place above the others
pub value_cons : (b : ℕ) (bs : List ℕ) → is_ascii_digit b ≡ true → value (b ∷ bs) ≡ digit_of b * 10 ^ run bs + value bs
value_cons b bs e =
    let more : run (b ∷ bs) ≡ suc (run bs) = cond-true (is_ascii_digit b) _ _ e ∙ omega arith in
    let ds = map digit_of (take (run bs) bs) in
    let len : length ds ≡ run bs = length-map (take (run bs) bs) digit_of ∙ length-take-le (run bs) bs (prefix_len-le-length is_ascii_digit bs) in
    let first : 0 * 10 + digit_of b ≡ digit_of b = omega arith in
    ap (λ n. value_of n (b ∷ bs)) more ∙ ap (λ n. number_from_digits_after 10 n ds) first ∙ number_after (digit_of b) ds ∙ ap (λ n. digit_of b * 10 ^ n + value bs) len

-- digits after the zeros: the first of them is at least 1
pub value_above : (bs : List ℕ) → zeros bs < run bs → 10 ^ (run bs - zeros bs - 1) ≤ value bs
value_above [] h = absurd (omega arith)
value_above (b ∷ bs) h =
    ⊎_elim
    (λ e.
    let d = zero_digit b e in
    let z : zeros (b ∷ bs) ≡ 1 + zeros bs = cond-true (is_zero b) _ _ e in
    let r : run (b ∷ bs) ≡ 1 + run bs = cond-true (is_ascii_digit b) _ _ d.0 in
    let same : run (b ∷ bs) - zeros (b ∷ bs) - 1 ≡ run bs - zeros bs - 1 = omega arith in
    let none : digit_of b * 10 ^ run bs ≡ 0 = ap (λ x. digit_of x * 10 ^ run bs) d.1 ∙ zero-mul (10 ^ run bs) in
    let ih : 10 ^ (run bs - zeros bs - 1) ≤ value bs = value_above bs (omega arith) in
    subst (λ k. 10 ^ k ≤ value (b ∷ bs)) (sym same) (omega (arith, value_cons b bs d.0)))
    (λ e.
    let d = (first_passes is_ascii_digit b bs 0 (omega arith)).0 in
    let z : zeros (b ∷ bs) ≡ 0 = cond-false (is_zero b) _ _ e in
    let r : run (b ∷ bs) ≡ 1 + run bs = cond-true (is_ascii_digit b) _ _ d in
    let all : run (b ∷ bs) - zeros (b ∷ bs) - 1 ≡ run bs = omega arith in
    let lo : 48 ≤ b = grind arith in
    let some : 1 * 10 ^ run bs ≤ digit_of b * 10 ^ run bs = mul-le-mul_right (10 ^ run bs) (omega (arith, eqb-false b 48 e)) in
    subst (λ k. 10 ^ k ≤ value (b ∷ bs)) (sym all) (omega (arith, value_cons b bs d)))
    (cases_Bool (is_zero b))

-- whether a digit stands at i, behind i digits
pub run_on : (bs : List ℕ) (i : ℕ) → i ≤ run bs → is_ascii_digit (get_or bs i 0) ≡ true → i < run bs
run_on bs i h d = ⊎_elim
    (λ inside. omega (arith, prefix_len-drop is_ascii_digit i bs h, prefix_len-drop_yes is_ascii_digit bs i 0 inside d))
    (λ past. absurd (both_ways (is_ascii_digit 0) refl (subst (λ b. is_ascii_digit b ≡ true) (get_or_past bs i 0 past) d)))
    (cases_lt i (length bs))

pub run_over : (bs : List ℕ) (i : ℕ) → i ≤ run bs → is_ascii_digit (get_or bs i 0) ≡ false → run bs ≡ i
run_over bs i h d = ⊎_elim
    (λ inside. omega (arith, prefix_len-drop is_ascii_digit i bs h, prefix_len-drop_no is_ascii_digit bs i 0 inside d))
    (λ past. omega (arith, prefix_len-le-length is_ascii_digit bs))
    (cases_lt i (length bs))
