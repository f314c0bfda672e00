-- A number that is read fits its type, and every number that fits has a numeral that is read.
use Rattle.std.proofs.Common.{◌≡◌, ℕ, suc, ◌+◌, ◌-◌, ◌/◌, ◌%◌, ◌^◌, ◌<◌, ◌≤◌, true, false, cond, ◌&&◌, eqb, leb, List, [], ◌∷◌, ◌++◌, map, length, ℤ, pos, negsuc, decimal, refl, ap, ◌∙◌, subst, ap₂, ⊎_elim, arith}
use Rattle.std.specs.Char.{is_ascii_digit}
use Rattle.std.specs.Fmt.{signed_decimal}
use Rattle.std.specs.Int.Digits.{number_from_digits}
use Rattle.std.specs.List.{AllByRecursion}
use Rattle.std.proofs.lemmas.Fmt.{decimal_by_steps, decimal_nonempty, length-decimal-le}
use Rattle.std.proofs.lemmas.Int.Digits.{number_push}
use Rattle.std.proofs.ByRecursion.{All-push, All-weaker}
use Rattle.std.proofs.lemmas.List.{map-append, take_at}
use Rattle.std.proofs.lemmas.Bool.{and_from, and_right, cond_both, cond-false, cond-true, eqb-true, le-leb, ne_eqb}
use Rattle.words.specs.Bytes.{digit_of, value_of}
use Rattle.atoi_simd.specs.Answer.{Answer, ok, empty, size, overflow, invalid}
use Rattle.atoi_simd.specs.Calls.{after_sign, digit_count, front, front_up_to, is_wide, negated, signed_call}
use Rattle.atoi_simd.specs.Digits.{run, value, zeros}
use Rattle.atoi_simd.specs.NumberType.{NumberType, Whole, fits, limit, takes_minus}
use Rattle.atoi_simd.proofs.ByteWise.{is_digit}
use Rattle.atoi_simd.proofs.Counts.{count_cases}
use Rattle.atoi_simd.proofs.Sound.{Sound, front_sound}
use Rattle.records.specs.Kind.{WordByte}
use Rattle.records.specs.Line.{stops}
use Rattle.model.proofs.Fitting.{pos_fits, neg_fits, fits_pos, fits_neg, minus_taken}

-- ---- what is read fits

abbrev Fitting : NumberType → Answer → Type 0
Fitting t (ok v n) = fits t v ≡ true
Fitting t empty = Unit {0}
Fitting t (size n part) = Unit {0}
Fitting t (overflow part) = Unit {0}
Fitting t (invalid v n part) = Unit {0}

module _ (t : NumberType) (w : Whole t) where
  bare_fitting : (len : ℕ) (a : Answer) → Sound (limit t false) len a → Fitting t a
  bare_fitting len (ok (pos v) n) s = pos_fits t w v s.0
  bare_fitting len (ok (negsuc v) n) s = absurd s
  bare_fitting len empty s = tt
  bare_fitting len (size n part) s = tt
  bare_fitting len (overflow part) s = tt
  bare_fitting len (invalid v n part) s = tt

  negated_fitting : (len : ℕ) (a : Answer) → Sound (limit t true) len a → Fitting t (negated a)
  negated_fitting len (ok (pos v) n) s = neg_fits t w v s.0
  negated_fitting len (ok (negsuc v) n) s = absurd s
  negated_fitting len empty s = tt
  negated_fitting len (size n part) s = tt
  negated_fitting len (overflow part) s = tt
  negated_fitting len (invalid v n part) s = tt

  signed_fitting : (a : Answer) → Fitting t a → Fitting t (after_sign a)
  signed_fitting (ok v n) s = s
  signed_fitting empty s = tt
  signed_fitting (size n part) s = tt
  signed_fitting (overflow part) s = tt
  signed_fitting (invalid v n part) s = tt

  prefix_fitting : (bs : List ℕ) → Fitting t (signed_call front t true true bs)
  prefix_fitting [] = tt
  prefix_fitting (b ∷ bs) =
      cond_both (true && eqb b 43) _ _ (Fitting t)
      (λ e. signed_fitting _ (bare_fitting (length bs) _ (front_sound (limit t false) bs true)))
      (λ e. cond_both (takes_minus t && eqb b 45) _ _ (Fitting t)
      (λ f. signed_fitting _ (negated_fitting (length bs) _ (front_sound (limit t true) bs true)))
      (λ f. bare_fitting (length (b ∷ bs)) _ (front_sound (limit t false) (b ∷ bs) true)))

  pub read_fits : (bs : List ℕ) (v : ℤ) (n : ℕ) → signed_call front t true true bs ≡ ok v n → fits t v ≡ true
  read_fits bs v n e = let P : Answer → Type 0 = λ a. Fitting t a in subst P e (prefix_fitting bs)

-- ---- digits

abbrev IsDigit : ℕ → Type 0
IsDigit b = (48 ≤ b) × (b ≤ 57)

-- digits only, of that value
abbrev Spells : ℕ → List ℕ → Type 0
Spells n ds = AllByRecursion IsDigit ds × (number_from_digits 10 (map digit_of ds) ≡ n)

decimal_spells : (n : ℕ) → n < 2 ^ 64 → Spells n (decimal n)
decimal_spells = decimal_by_steps Spells one more
  where
    one : (n : ℕ) → n < 10 → Spells n ((48 + n) ∷ [])
    one n h = (((omega arith, omega arith), tt), omega arith)

    more : (n : ℕ) (ds : List ℕ) → 10 ≤ n → Spells (n / 10) ds → Spells n (ds ++ ((48 + n % 10) ∷ []))
    more n ds h s = (
      All-push IsDigit ds (48 + n % 10) s.0 (omega arith, omega arith),
      ap (number_from_digits 10) (map-append digit_of ds ((48 + n % 10) ∷ [])) ∙ number_push 10 (map digit_of ds) (digit_of (48 + n % 10)) ∙ omega (arith, s.1),
    )

run_whole : (ds rest : List ℕ) → AllByRecursion IsDigit ds → stops rest ≡ true → run (ds ++ rest) ≡ length ds
run_whole [] [] a s = refl
run_whole [] (b ∷ rest) a s = cond-false (is_ascii_digit b) _ _ (ap is_ascii_digit (eqb-true b 32 s))
run_whole (d ∷ ds) rest a s =
    cond-true (is_ascii_digit d) _ _ (is_digit d a.0.0 a.0.1) ∙ ap (λ n. 1 + n) (run_whole ds rest a.1 s) ∙ omega arith

module _ (max n : ℕ) (top : max < 2 ^ 64) (le : n ≤ max) (rest : List ℕ) (s : stops rest ≡ true) where
  spells : Spells n (decimal n)
  spells = decimal_spells n (omega arith)

  run_is : run (decimal n ++ rest) ≡ length (decimal n)
  run_is = run_whole (decimal n) rest spells.0 s

  value_is : value (decimal n ++ rest) ≡ n
  value_is =
      ap (λ k. value_of k (decimal n ++ rest)) run_is
      ∙ ap (λ ds. number_from_digits 10 (map digit_of ds)) (take_at (decimal n) rest (length (decimal n)) refl) ∙ spells.1

  few_digits : length (decimal n) ≤ digit_count max
  few_digits =
      ⊎_elim (λ c. omega (arith, length-decimal-le 20 n (omega arith) (omega arith) (omega arith)))
      (λ c. omega (arith, length-decimal-le 19 n (omega arith) (omega arith) (omega arith))) (count_cases max)

  some_is : eqb (run (decimal n ++ rest)) 0 ≡ false
  some_is = ne_eqb (run (decimal n ++ rest)) 0 (λ e. omega (arith, run_is, decimal_nonempty n (omega arith)))

  within_is : (other : Answer)
      → cond (leb (value (decimal n ++ rest)) max) (ok (pos (value (decimal n ++ rest))) (run (decimal n ++ rest))) other
      ≡ ok (pos n) (length (decimal n))
  within_is other =
      cond-true (leb (value (decimal n ++ rest)) max) _ _ (le-leb (value (decimal n ++ rest)) max (omega (arith, value_is)))
      ∙ ap₂ (λ v k. ok (pos v) k) value_is run_is

  digits_read : front_up_to max true (decimal n ++ rest) ≡ ok (pos n) (length (decimal n))
  digits_read =
      cond_both (is_wide max) _ _ (λ a. a ≡ ok (pos n) (length (decimal n)))
      (λ e.
      cond-false (eqb (run (decimal n ++ rest)) 0) _ _ some_is
      ∙ cond-true (leb (run (decimal n ++ rest) - zeros (decimal n ++ rest)) (digit_count max)) _ _
      (le-leb (run (decimal n ++ rest) - zeros (decimal n ++ rest)) (digit_count max) (omega (arith, run_is, few_digits)))
      ∙ within_is _)
      (λ e. cond-false (eqb (run (decimal n ++ rest)) 0) _ _ some_is ∙ within_is _)

-- ---- numerals

digit_is_word_byte : (b : ℕ) → IsDigit b → WordByte b
digit_is_word_byte b d = (omega arith, λ e. omega arith, λ e. omega arith)

module _ (t : NumberType) (w : Whole t) where
  small_pos : (n : ℕ) → fits t (pos n) ≡ true → n < 2 ^ 64
  small_pos n f = omega (arith, fits_pos t w n f, w.few false)

  small_neg : (n : ℕ) → fits t (negsuc n) ≡ true → suc n < 2 ^ 64
  small_neg n f = omega (arith, fits_neg t w n f, w.few true)

  no_sign : (ds rest : List ℕ) → 0 < length ds → AllByRecursion IsDigit ds
      → signed_call front t true true (ds ++ rest) ≡ front_up_to (limit t false) true (ds ++ rest)
  no_sign [] rest some a = absurd (omega arith)
  no_sign (d ∷ ds) rest some a =
      cond-false (true && eqb d 43) _ _ (ne_eqb d 43 (λ q. omega (arith, a.0.0)))
      ∙ cond-false (takes_minus t && eqb d 45) _ _ (and_right (takes_minus t) (eqb d 45) (ne_eqb d 45 (λ q. omega (arith, a.0.0))))

  -- a numeral is read whole before a space or the text's end
  pub numeral_read : (v : ℤ) (rest : List ℕ) → fits t v ≡ true → stops rest ≡ true
      → signed_call front t true true (signed_decimal v ++ rest) ≡ ok v (length (signed_decimal v))
  numeral_read (pos n) rest f s =
      let h = small_pos n f in
      no_sign (decimal n) rest (decimal_nonempty n h) (decimal_spells n h).0 ∙ digits_read (limit t false) n (w.few false) (fits_pos t w n f) rest s
  numeral_read (negsuc n) rest f s =
      let end : length (decimal (suc n)) + 1 ≡ suc (length (decimal (suc n))) = omega arith in
      cond-true (takes_minus t && true) _ _ (and_from (takes_minus t) true (minus_taken t w n f) refl)
      ∙ ap (λ a. after_sign (negated a)) (digits_read (limit t true) (suc n) (w.few true) (fits_neg t w n f) rest s)
      ∙ ap (ok (negsuc n)) end

  pub numeral_some : (v : ℤ) → fits t v ≡ true → 0 < length (signed_decimal v)
  numeral_some (pos n) f = decimal_nonempty n (small_pos n f)
  numeral_some (negsuc n) f = omega arith

  pub numeral_word : (v : ℤ) → fits t v ≡ true → AllByRecursion WordByte (signed_decimal v)
  numeral_word (pos n) f = All-weaker IsDigit WordByte digit_is_word_byte (decimal n) (decimal_spells n (small_pos n f)).0
  numeral_word (negsuc n) f = (
    (omega arith, λ e. omega arith, λ e. omega arith),
    All-weaker IsDigit WordByte digit_is_word_byte (decimal (suc n)) (decimal_spells (suc n) (small_neg n f)).0,
  )
