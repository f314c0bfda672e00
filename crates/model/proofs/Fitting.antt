-- What fits a number type, by the type's limits.
use Rattle.std.proofs.Common.{◌≡◌, ℕ, suc, ◌≤◌, true, false, ℤ, pos, negsuc, neg_ℤ, nat_abs, sym, refl, ◌∙◌, arith}
use lib.Signed.{le_z, lt_z}
use Rattle.std.proofs.lemmas.Bool.{le-leb, leb-true}
use Rattle.atoi_simd.specs.NumberType.{NumberType, Whole, fits, limit, takes_minus}
use Rattle.atoi_simd.proofs.Numerals.{pos_fits as pos-limit, neg_fits as neg-limit}

has_negative : (l : ℤ) (n : ℕ) → le_z l (pos 0) ≡ true → suc n ≤ nat_abs l → lt_z l (pos 0) ≡ true
has_negative (pos a) n lo h = absurd (omega (arith, leb-true a 0 lo))
has_negative (negsuc a) n lo h = refl

module _ (t : NumberType) (w : Whole t) where
  pub pos_fits : (n : ℕ) → n ≤ limit t false → fits t (pos n) ≡ true
  pos_fits n h = pos-limit t w n ∙ le-leb n (limit t false) h

  pub neg_fits : (n : ℕ) → n ≤ limit t true → fits t (neg_ℤ (pos n)) ≡ true
  neg_fits n h = neg-limit t w n ∙ le-leb n (limit t true) h

  pub fits_pos : (n : ℕ) → fits t (pos n) ≡ true → n ≤ limit t false
  fits_pos n h = leb-true n (limit t false) (sym (pos-limit t w n) ∙ h)

  pub fits_neg : (n : ℕ) → fits t (negsuc n) ≡ true → suc n ≤ limit t true
  fits_neg n h = leb-true (suc n) (limit t true) (sym (neg-limit t w (suc n)) ∙ h)

  -- a type with a negative number takes a minus
  pub minus_taken : (n : ℕ) → fits t (negsuc n) ≡ true → takes_minus t ≡ true
  minus_taken n h = has_negative t.least n w.low (fits_neg n h)
