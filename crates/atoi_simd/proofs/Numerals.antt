-- A checked call with both skips on accepts the numerals of the type's numbers, and no other text.
use Rattle.std.proofs.Common.{◌≡◌, ℕ, zero, suc, ◌+◌, ◌-◌, ◌*◌, ◌^◌, ◌<◌, ◌≤◌, true, false, cond, ◌&&◌, eqb, leb, List, [], ◌∷◌, length, drop, ℤ, pos, negsuc, neg_ℤ, nat_abs, Ok, Err, Result, sym, refl, ap, ◌∙◌, subst, ap₂, subst₂, ⊎_elim, arith}
use mathlib.Core.Bool.{and-true}
use lib.Dec.{leb-zero, leb-suc-suc}
use lib.Signed.{le_z}
use Rattle.std.specs.Char.{is_ascii_digit}
use Rattle.std.proofs.lemmas.Bool.{and_from, and_parts, and_right, both_ways, cases_lt, cond_both, cond-false, cond-true, eq-eqb, eqb-false, eqb-true, le-leb, leb-true, lt-leb, ne_eqb}
use Rattle.words.specs.Bytes.{digit_of}
use Rattle.words.proofs.Leading.{first_passes}
use Rattle.atoi_simd.specs.declared.error.AtoiSimdError.{AtoiSimdError}
use Rattle.atoi_simd.specs.declared.error.AtoiSimdError.TheVariants.{Empty, Size, Overflow, Invalid64}
use Rattle.atoi_simd.specs.Answer.{Answer, ok, empty, size, overflow, invalid, checked_by, fault_of}
use Rattle.atoi_simd.specs.Digits.{run, zeros, value}
use Rattle.atoi_simd.specs.NumberType.{NumberType, Whole, fits, limit, takes_minus}
use Rattle.atoi_simd.specs.Calls.{after_sign, all, all_up_to, any_length, digit_count, is_wide, negated, signed_call, to_end, unsigned_call, wide}
use Rattle.atoi_simd.specs.Numeral.{Decimal, none, digit, Digits, Numeral, bare, plus, minus, Accepted, Gives, TakesNumerals}
use Rattle.atoi_simd.proofs.ByteWise.{is_digit, any_ok}
use Rattle.atoi_simd.proofs.Counts.{count_over}
use Rattle.atoi_simd.proofs.Runs.{value_above, value_cons}

-- ---- digits only, by the run of digits and its value

decimal_value : (text : List ℕ) (n : ℕ) → Decimal text n → (run text ≡ length text) × (n ≡ value text)
decimal_value text n none = (refl, refl)
decimal_value text n (digit {text = rest} {n = m} d h ds) =
    let is = decimal_value rest m ds in
    let e = is_digit (48 + d) (omega arith) (omega arith) in
    let more : run ((48 + d) ∷ rest) ≡ 1 + run rest = cond-true (is_ascii_digit (48 + d)) _ _ e in
    let first : digit_of (48 + d) ≡ d = omega arith in
    let whole = value_cons (48 + d) rest e in
    (omega arith, cc)

decimal_run : (text : List ℕ) → run text ≡ length text → Decimal text (value text)
decimal_run [] e = none
decimal_run (b ∷ bs) e =
    let f = (first_passes is_ascii_digit b bs (length bs) (omega arith)).0 in
    let more : run (b ∷ bs) ≡ 1 + run bs = cond-true (is_ascii_digit b) _ _ f in
    let rest : run bs ≡ length bs = omega arith in
    let lo : 48 ≤ b = grind arith in
    let hi : b ≤ 57 = grind arith in
    let byte : 48 + digit_of b ≡ b = omega arith in
    let whole : digit_of b * 10 ^ length bs + value bs ≡ value (b ∷ bs) = ap (λ k. digit_of b * 10 ^ k + value bs) (sym rest) ∙ sym (value_cons b bs f) in
    subst₂ Decimal (ap (λ c. c ∷ bs) byte) whole (digit (digit_of b) (omega arith) (decimal_run bs rest))

-- a value of at most max has no more digits after the zeros than max has
few_digits : (max : ℕ) (bs : List ℕ) → max < 2 ^ 64 → value bs ≤ max → run bs - zeros bs ≤ digit_count max
few_digits max bs top h =
    ⊎_elim
    (λ over. absurd (omega (arith, value_above bs (omega arith), count_over max (run bs - zeros bs - 1) top (omega arith))))
    (λ le. le)
    (cases_lt (digit_count max) (run bs - zeros bs))

-- ---- what fits a type, by its limits

fits_pos : (l g : ℤ) (n : ℕ) → le_z l (pos 0) ≡ true → le_z (pos 0) g ≡ true → (le_z l (pos n) && le_z (pos n) g) ≡ leb n (nat_abs g)
fits_pos (pos a) (pos m) n lo hi = ap (λ x. x && leb n m) (le-leb a n (omega (arith, leb-true a 0 lo)))
fits_pos (negsuc a) (pos m) n lo hi = refl
fits_pos l (negsuc m) n lo hi = absurd (both_ways false refl hi)

fits_neg : (l g : ℤ) (n : ℕ) → le_z l (pos 0) ≡ true → le_z (pos 0) g ≡ true → (le_z l (neg_ℤ (pos n)) && le_z (neg_ℤ (pos n)) g) ≡ leb n (nat_abs l)
fits_neg l g zero lo hi = and_from (le_z l (pos 0)) (le_z (pos 0) g) lo hi ∙ sym (leb-zero (nat_abs l))
fits_neg (pos a) g (suc n) lo hi = sym (lt-leb (suc n) a (omega (arith, leb-true a 0 lo)))
fits_neg (negsuc a) (pos m) (suc n) lo hi = and-true (leb n a) ∙ sym (leb-suc-suc n a)
fits_neg (negsuc a) (negsuc m) (suc n) lo hi = absurd (both_ways false refl hi)

-- ---- a text without a sign

module _ (max : ℕ) (top : max < 2 ^ 64) (bs : List ℕ) where
  run_read : 0 < run bs → value bs ≤ max → cond (is_wide max) (wide max true bs) (any_length max bs) ≡ ok (pos (value bs)) (run bs)
  run_read some h =
      cond_both (is_wide max) _ _ (λ a. a ≡ ok (pos (value bs)) (run bs))
      (λ e.
      cond-false (eqb (run bs) 0) _ _ (ne_eqb (run bs) 0 (λ z. omega arith))
      ∙ cond-true (leb (run bs - zeros bs) (digit_count max)) _ _ (le-leb (run bs - zeros bs) (digit_count max) (few_digits max bs top h))
      ∙ cond-true (leb (value bs) max) _ _ (le-leb (value bs) max h))
      (λ e. any_ok max bs some h)

  digits_read : (n : ℕ) → Digits bs n → n ≤ max → all_up_to max true bs ≡ ok (pos n) (length bs)
  digits_read n ds h =
      let is = decimal_value bs n ds.decimal in
      let some = ds.some in
      ap (to_end bs) (run_read (omega arith) (omega arith))
      ∙ cond-true (eqb (run bs) (length bs)) _ _ (eq-eqb (run bs) (length bs) is.0)
      ∙ ap₂ (λ v k. ok (pos v) k) (sym is.1) is.0

-- a number that the answer gives has P
abbrev Given : (ℤ → Type 0) → Answer → Type 0
Given P (ok v n) = P v
Given P empty = Unit {0}
Given P (size n part) = Unit {0}
Given P (overflow part) = Unit {0}
Given P (invalid v n part) = Unit {0}

module _ (max : ℕ) (bs : List ℕ) (P : ℤ → Type 0) (of-digits : (n : ℕ) → Digits bs n → n ≤ max → P (pos n)) where
  abbrev Ends : Answer → Type 0
  Ends a = Given P (to_end bs a)

  run_given : (part : List ℕ) → eqb (run bs) 0 ≡ false → Ends (cond (leb (value bs) max) (ok (pos (value bs)) (run bs)) (overflow part))
  run_given part some =
      cond_both (leb (value bs) max) _ _ Ends
      (λ low. cond_both (eqb (run bs) (length bs)) _ _ (Given P)
      (λ e.
      let whole = eqb-true (run bs) (length bs) e in
      let ds : Digits bs (value bs) = record { some = omega (arith, eqb-false (run bs) 0 some); decimal = decimal_run bs whole } in
      of-digits (value bs) ds (leb-true (value bs) max low))
      (λ e. tt))
      (λ high. tt)

  digits_given : Given P (all_up_to max true bs)
  digits_given =
      cond_both (is_wide max) _ _ Ends
      (λ e. cond_both (eqb (run bs) 0) _ _ Ends (λ f. tt)
      (λ some. cond_both (leb (run bs - zeros bs) (digit_count max)) _ _ Ends (λ few. run_given (drop (zeros bs) bs) some) (λ many. tt)))
      (λ e. cond_both (eqb (run bs) 0) _ _ Ends (λ f. tt) (run_given bs))

-- ---- with a sign

given_negated : (P : ℤ → Type 0) (a : Answer) → Given (λ v. P (neg_ℤ v)) a → Given P (negated a)
given_negated P (ok v n) h = h
given_negated P empty h = tt
given_negated P (size n part) h = tt
given_negated P (overflow part) h = tt
given_negated P (invalid v n part) h = tt

given_after : (P : ℤ → Type 0) (a : Answer) → Given P a → Given P (after_sign a)
given_after P (ok v n) h = h
given_after P empty h = tt
given_after P (size n part) h = tt
given_after P (overflow part) h = tt
given_after P (invalid v n part) h = tt

module _ (t : NumberType) (w : Whole t) where
  pub pos_fits : (n : ℕ) → fits t (pos n) ≡ leb n (limit t false)
  pos_fits n = fits_pos t.least t.greatest n w.low w.high

  pub neg_fits : (n : ℕ) → fits t (neg_ℤ (pos n)) ≡ leb n (limit t true)
  neg_fits n = fits_neg t.least t.greatest n w.low w.high

  no_sign : (text : List ℕ) (n : ℕ) → Decimal text n → 0 < length text → signed_call all t true true text ≡ unsigned_call all t false true text
  no_sign text n none h = absurd (omega arith)
  no_sign text n (digit d k ds) h =
      cond-false (eqb (48 + d) 43) _ _ (ne_eqb (48 + d) 43 (λ e. omega arith))
      ∙ cond-false (takes_minus t && eqb (48 + d) 45) _ _ (and_right (takes_minus t) (eqb (48 + d) 45) (ne_eqb (48 + d) 45 (λ e. omega arith)))

  -- an accepted numeral is read
  numeral_read : (text : List ℕ) (v : ℤ) → Numeral t text v → fits t v ≡ true → signed_call all t true true text ≡ ok v (length text)
  numeral_read text v (bare {n = n} ds) f =
      no_sign text n ds.decimal ds.some ∙ digits_read (limit t false) (w.few false) text n ds (leb-true n (limit t false) (sym (pos_fits n) ∙ f))
  numeral_read text v (plus {text = rest} {n = n} ds) f =
      ap after_sign (digits_read (limit t false) (w.few false) rest n ds (leb-true n (limit t false) (sym (pos_fits n) ∙ f))) ∙ ap (ok (pos n)) (omega arith)
  numeral_read text v (minus {text = rest} {n = n} m ds) f =
      cond-true (takes_minus t && true) _ _ (and_from (takes_minus t) true m refl)
      ∙ ap (λ a. after_sign (negated a)) (digits_read (limit t true) (w.few true) rest n ds (leb-true n (limit t true) (sym (neg_fits n) ∙ f)))
      ∙ ap (ok (neg_ℤ (pos n))) (omega arith)

  -- and what is read is an accepted numeral
  read_numeral : (text : List ℕ) → Given (Accepted t text) (signed_call all t true true text)
  read_numeral [] = tt
  read_numeral (b ∷ bs) =
      cond_both (eqb b 43) _ _ (Given (Accepted t (b ∷ bs)))
      (λ e.
      given_after (Accepted t (b ∷ bs)) _
      (digits_given (limit t false) bs (Accepted t (b ∷ bs))
      (λ n ds h.
      record {
        numeral = subst (λ c. Numeral t (c ∷ bs) (pos n)) (sym (eqb-true b 43 e)) (plus ds);
        fit = pos_fits n ∙ le-leb n (limit t false) h;
      })))
      (λ e. cond_both (takes_minus t && eqb b 45) _ _ (Given (Accepted t (b ∷ bs)))
      (λ f.
      let m = and_parts (takes_minus t) (eqb b 45) f in
      given_after (Accepted t (b ∷ bs)) _
      (given_negated (Accepted t (b ∷ bs)) _
      (digits_given (limit t true) bs (λ v. Accepted t (b ∷ bs) (neg_ℤ v))
      (λ n ds h.
      record {
        numeral = subst (λ c. Numeral t (c ∷ bs) (neg_ℤ (pos n))) (sym (eqb-true b 45 m.1)) (minus m.0 ds);
        fit = neg_fits n ∙ le-leb n (limit t true) h;
      }))))
      (λ f.
      digits_given (limit t false) (b ∷ bs) (Accepted t (b ∷ bs))
      (λ n ds h. record { numeral = bare ds; fit = pos_fits n ∙ le-leb n (limit t false) h })))

-- ---- a call's result

module _ {V : Type 0} (number : V → ℤ) (n : ℕ) (v : ℤ) where
  given_by : (P : ℤ → Type 0) (r : Result V AtoiSimdError) → Given P (checked_by number n r) → Gives number r v → P v
  given_by P (Ok x) h g = subst P g h
  given_by P (Err e) h g = absurd g

  no_fault_gives : (e : AtoiSimdError) → fault_of e ≡ ok v n → ⊥
  no_fault_gives Empty h = let z : ◌≡◌ {A = ℕ} 0 1 = cc in omega arith
  no_fault_gives (Size k part) h = let z : ◌≡◌ {A = ℕ} 0 1 = cc in omega arith
  no_fault_gives (Overflow part) h = let z : ◌≡◌ {A = ℕ} 0 1 = cc in omega arith
  no_fault_gives (Invalid64 k j part) h = let z : ◌≡◌ {A = ℕ} 0 1 = cc in omega arith

  gives_by : (r : Result V AtoiSimdError) → checked_by number n r ≡ ok v n → Gives number r v
  gives_by (Ok x) h = cc
  gives_by (Err e) h = no_fault_gives e h

pub takes_numerals : {V : Type 0} (t : NumberType) → Whole t → (number : V → ℤ) (text : List ℕ) (r : Result V AtoiSimdError) →
    checked_by number (length text) r ≡ signed_call all t true true text → TakesNumerals t number text r
takes_numerals t w number text r e v = (
  given_by number (length text) v (Accepted t text) r (subst (Given (Accepted t text)) (sym e) (read_numeral t w text)),
  λ a. gives_by number (length text) v r (e ∙ numeral_read t w text v a.numeral a.fit),
)
