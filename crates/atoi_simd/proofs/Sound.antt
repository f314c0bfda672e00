-- What an answer can be: a value that was read is at most the greatest one, its bytes are there, and no prefix call says that bytes follow.
use Rattle.std.proofs.Common.{◌≡◌, ℕ, suc, ◌-◌, ◌≤◌, min, Bool, true, false, cond, ◌&&◌, eqb, leb, List, [], ◌∷◌, length, pos, negsuc, subst, arith}
use Rattle.std.specs.Char.{is_ascii_digit}
use Rattle.std.proofs.lemmas.List.Sums.{prefix_len-le-length}
use Rattle.std.proofs.lemmas.Bool.{cond_both, leb-true, leb-false}
use Rattle.words.specs.Bytes.{value_of}
use Rattle.atoi_simd.specs.Answer.{Answer, ok, empty, size, overflow, invalid}
use Rattle.atoi_simd.specs.Digits.{run, zeros, value}
use Rattle.atoi_simd.specs.Calls.{narrow, skipping, plain, wide, wide_after, digit_count, is_wide, front_up_to, front, negated, unsigned_call, signed_call, after_sign}
use Rattle.atoi_simd.specs.NumberType.{NumberType, takes_minus, limit}

-- a natural number of at most max, of at most len bytes
abbrev pub Sound : ℕ → ℕ → Answer → Type 0
Sound max len (ok (pos v) n) = (v ≤ max) × (n ≤ len)
Sound max len (ok (negsuc v) n) = ⊥
Sound max len empty = Unit {0}
Sound max len (size n p) = Unit {0}
Sound max len (overflow p) = Unit {0}
Sound max len (invalid v n p) = ⊥

module _ (max : ℕ) (bs : List ℕ) where
  abbrev S : Answer → Type 0
  S a = Sound max (length bs) a

  run_len : run bs ≤ length bs
  run_len = prefix_len-le-length is_ascii_digit bs

  skipping_sound : S (skipping max bs)
  skipping_sound = cond_both (leb (value bs) max) _ _ S (λ e. (leb-true (value bs) max e, run_len)) (λ e. tt)

  plain_sound : S (plain max bs)
  plain_sound =
      cond_both (leb (value_of (min (run bs) 16) bs) max) _ _ S
      (λ e. cond_both (leb 17 (run bs)) _ _ S (λ f. tt)
      (λ f.
      let s : min (run bs) 16 ≡ run bs = omega (arith, leb-false 17 (run bs) f) in
      (subst (λ j. value_of j bs ≤ max) s (leb-true (value_of (min (run bs) 16) bs) max e), run_len)))
      (λ e. tt)

  wide_sound : (z : ℕ) → S (wide_after max z bs)
  wide_sound z =
      cond_both (leb (run bs - z) (digit_count max)) _ _ S
      (λ e. cond_both (leb (value bs) max) _ _ S (λ f. (leb-true (value bs) max f, run_len)) (λ f. tt))
      (λ e. tt)

  narrow_is_sound : (skip : Bool) → S (narrow max skip bs)
  narrow_is_sound true = cond_both (eqb (run bs) 0) _ _ S (λ e. tt) (λ e. skipping_sound)
  narrow_is_sound false = cond_both (eqb (run bs) 0) _ _ S (λ e. tt) (λ e. plain_sound)

  wide_is_sound : (skip : Bool) → S (wide max skip bs)
  wide_is_sound skip = cond_both (eqb (run bs) 0) _ _ S (λ e. tt) (λ e. wide_sound (cond skip (zeros bs) 0))

  pub front_sound : (skip : Bool) → S (front_up_to max skip bs)
  front_sound skip = cond_both (is_wide max) _ _ S (λ e. wide_is_sound skip) (λ e. narrow_is_sound skip)

-- ---- with a sign

-- an answer that has read no more than there is, and does not say that bytes follow
abbrev pub Within : ℕ → Answer → Type 0
Within len (ok v n) = n ≤ len
Within len empty = Unit {0}
Within len (size n p) = Unit {0}
Within len (overflow p) = Unit {0}
Within len (invalid v n p) = ⊥

sound_within : (max len : ℕ) (a : Answer) → Sound max len a → Within len a
sound_within max len (ok (pos v) n) s = s.1
sound_within max len (ok (negsuc v) n) s = absurd s
sound_within max len empty s = tt
sound_within max len (size n p) s = tt
sound_within max len (overflow p) s = tt
sound_within max len (invalid v n p) s = absurd s

negated_within : (len : ℕ) (a : Answer) → Within len a → Within len (negated a)
negated_within len (ok v n) s = s
negated_within len empty s = tt
negated_within len (size n p) s = tt
negated_within len (overflow p) s = tt
negated_within len (invalid v n p) s = s

after_within : (len : ℕ) (a : Answer) → Within len a → Within (suc len) (after_sign a)
after_within len (ok v n) s = omega arith
after_within len empty s = tt
after_within len (size n p) s = tt
after_within len (overflow p) s = tt
after_within len (invalid v n p) s = s

pub unsigned_within : (t : NumberType) (neg skip : Bool) (bs : List ℕ) → Within (length bs) (unsigned_call front t neg skip bs)
unsigned_within t true skip bs = negated_within (length bs) (front_up_to (limit t true) skip bs) (sound_within (limit t true) (length bs) (front_up_to (limit t true) skip bs) (front_sound (limit t true) bs skip))
unsigned_within t false skip bs = sound_within (limit t false) (length bs) (front_up_to (limit t false) skip bs) (front_sound (limit t false) bs skip)

pub prefix_within : (t : NumberType) (skip plus : Bool) (bs : List ℕ) → Within (length bs) (signed_call front t skip plus bs)
prefix_within t skip plus [] = tt
prefix_within t skip plus (b ∷ bs) =
    cond_both (plus && eqb b 43) _ _ (Within (length (b ∷ bs)))
    (λ e. after_within (length bs) _ (unsigned_within t false skip bs))
    (λ e. cond_both (takes_minus t && eqb b 45) _ _ (Within (length (b ∷ bs)))
    (λ f. after_within (length bs) _ (unsigned_within t true skip bs))
    (λ f. unsigned_within t false skip (b ∷ bs)))
