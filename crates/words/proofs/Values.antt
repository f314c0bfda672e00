-- The value of low halves in their decimal places: of digits, of two lists one after the other, and how large it can be.
use Rattle.std.proofs.Common.{◌≡◌, ℕ, zero, suc, ◌+◌, ◌-◌, ◌*◌, ◌^◌, ◌<◌, ◌≤◌, min, true, List, [], ◌∷◌, ◌++◌, map, length, take, sym, refl, ap, ◌∙◌, ap₂, ⊎_elim, mul-le-mul_right, mul_assoc, add-mul, arith, lit<}
use native.Mathlib.Nat.{pow-le-pow_right, pow-succ'}
use lib.Seq.{take-append-add}
use Rattle.std.specs.Char.{is_ascii_digit}
use Rattle.std.specs.Int.Digits.{number_from_digits, number_from_digits_after}
use Rattle.std.specs.List.{prefix_len}
use Rattle.std.proofs.lemmas.Int.Digits.{number_after_append}
use Rattle.std.proofs.lemmas.List.{length-map, length-take, length-take-le, map-append, take_all}
use Rattle.std.proofs.lemmas.Bool.{cases_lt}
use Rattle.words.specs.Bytes.{digit_of, nibble, nibble_value, value_of}
use Rattle.words.proofs.Leading.{first_passes}

digit_nibble : (b : ℕ) → is_ascii_digit b ≡ true → nibble b ≡ digit_of b
digit_nibble b e =
    let lo : 48 ≤ b = grind arith in
    let hi : b ≤ 57 = grind arith in
    omega arith

digit_nibbles : (k : ℕ) (bs : List ℕ) → k ≤ prefix_len is_ascii_digit bs → map nibble (take k bs) ≡ map digit_of (take k bs)
digit_nibbles zero bs h = refl
digit_nibbles (suc k) [] h = refl
digit_nibbles (suc k) (b ∷ bs) h =
    let f = first_passes is_ascii_digit b bs k h in
    ap₂ (λ x xs. x ∷ xs) (digit_nibble b f.0) (digit_nibbles k bs f.1)

-- of digits it is their decimal value
pub digits_value : (k : ℕ) (bs : List ℕ) → k ≤ prefix_len is_ascii_digit bs → nibble_value k bs ≡ value_of k bs
digits_value k bs h = ap (number_from_digits 10) (digit_nibbles k bs h)

-- what stands in front counts in the places above
pub number_after : (n : ℕ) (ds : List ℕ) → number_from_digits_after 10 n ds ≡ n * 10 ^ length ds + number_from_digits 10 ds
number_after n [] = omega arith
number_after n (d ∷ ds) =
    let T = 10 ^ length ds in
    omega (
      arith,
      number_after (n * 10 + d) ds,
      number_after (0 * 10 + d) ds,
      add-mul (n * 10) d T,
      mul_assoc n 10 T,
      ap (λ t. n * t) (pow-succ' 10 (length ds)),
    )

value-append : (xs ys : List ℕ) → number_from_digits 10 (map nibble (xs ++ ys)) ≡ number_from_digits 10 (map nibble xs) * 10 ^ length ys + number_from_digits 10 (map nibble ys)
value-append xs ys =
    ap (number_from_digits 10) (map-append nibble xs ys)
    ∙ number_after_append 10 0 (map nibble xs) (map nibble ys)
    ∙ number_after (number_from_digits 10 (map nibble xs)) (map nibble ys)
    ∙ ap (λ k. number_from_digits 10 (map nibble xs) * 10 ^ k + number_from_digits 10 (map nibble ys)) (length-map ys nibble)

-- past a list's length there is nothing to take
take_min : {X : Type 0} (n : ℕ) (xs : List X) → take n xs ≡ take (min n (length xs)) xs
take_min n xs =
    ⊎_elim (λ lt. ap (λ k. take k xs) (omega arith)) (λ ge. take_all n xs ge ∙ sym (take_all (min n (length xs)) xs (omega arith))) (cases_lt n (length xs))

-- the first n of two lists of m elements each, where n reaches into the second
pub value_both : (m n : ℕ) (xs ys : List ℕ) → length xs ≡ m → length ys ≡ m → m ≤ n →
    nibble_value n (xs ++ ys) ≡ nibble_value m xs * 10 ^ min (n - m) m + nibble_value (min (n - m) m) ys
value_both m n xs ys lx ly h =
    let more = min (n - m) m in
    let total : n ≡ length xs + (n - m) = omega arith in
    let rest : take (n - m) ys ≡ take more ys = take_min (n - m) ys ∙ ap (λ k. take (min (n - m) k) ys) ly in
    let first : xs ≡ take m xs = sym (take_all m xs (omega arith)) in
    ap (λ bs. number_from_digits 10 (map nibble bs)) (ap (λ k. take k (xs ++ ys)) total ∙ take-append-add xs ys (n - m) ∙ ap₂ (λ s t. s ++ t) first rest)
    ∙ value-append (take m xs) (take more ys)
    ∙ ap (λ k. nibble_value m xs * 10 ^ k + nibble_value more ys) (length-take-le more ys (omega arith))

-- with at most fifteen in each place, less than five thirds of ten to the number of places is added
value_after_le : (n : ℕ) (bs : List ℕ) → 3 * number_from_digits_after 10 n (map nibble bs) + 5 ≤ (3 * n + 5) * 10 ^ length bs
value_after_le n [] = omega arith
value_after_le n (b ∷ bs) =
    let T = 10 ^ length bs in
    let next = n * 10 + nibble b in
    let ih : 3 * number_from_digits_after 10 next (map nibble bs) + 5 ≤ (3 * next + 5) * T = value_after_le next bs in
    let step : (3 * next + 5) * T ≤ (3 * n + 5) * 10 * T = mul-le-mul_right T (omega arith) in
    omega (arith, mul_assoc (3 * n + 5) 10 T, ap (λ t. (3 * n + 5) * t) (pow-succ' 10 (length bs)))

-- of at most sixteen bytes it fits 64 bits
pub value_below : (n : ℕ) (bs : List ℕ) → length bs ≤ 16 → nibble_value n bs < 2 ^ 64
value_below n bs short =
    let few : length (take n bs) ≤ 16 = omega (arith, length-take n bs) in
    let places : 10 ^ length (take n bs) ≤ 10 ^ 16 = pow-le-pow_right (lit< tt) few in
    omega (arith, value_after_le 0 (take n bs))
