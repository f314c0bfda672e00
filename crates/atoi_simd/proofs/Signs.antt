-- A number behind its sign.
use Rattle.std.proofs.Common.{◌≡◌, ℕ, ◌+◌, ◌-◌, ◌^◌, ◌<◌, ◌≤◌, Bool, true, false, ◌&&◌, eqb, List, [], ◌∷◌, length, get_or, take, drop, ℤ, IfOk, Ok, Err, Result, sym, ap, ◌∙◌, subst, ap₂, arith, eq-eqb, ne_eqb}
use Rattle.std.proofs.lemmas.List.{take_rest, length-drop}
use Rattle.std.proofs.lemmas.Bool.{cond-true, cond-false, and_right}
use Rattle.atoi_simd.specs.declared.error.AtoiSimdError.{AtoiSimdError}
use Rattle.atoi_simd.specs.Answer.{Answer, prefix_by}
use Rattle.atoi_simd.specs.Calls.{Extent, front, unsigned_call, signed_call, after_sign}
use Rattle.atoi_simd.specs.NumberType.{NumberType, takes_minus}
use Rattle.atoi_simd.proofs.Sound.{Within, unsigned_within}

-- what stands behind the first byte, as a slice pattern binds it
abbrev behind : List ℕ → List ℕ
behind bs = take (length bs - 1) (drop 1 bs)

module _ (e : Extent) (t : NumberType) (skip plus : Bool) where
  pub plus_is : (bs : List ℕ) (a : Answer) → 0 < length bs → get_or bs 0 0 ≡ 43 → plus ≡ true → a ≡ unsigned_call e t false skip (behind bs) →
      after_sign a ≡ signed_call e t skip plus bs
  plus_is [] a h f p is = absurd (omega arith)
  plus_is (b ∷ bs) a h f p is =
      ap after_sign (is ∙ ap (unsigned_call e t false skip) (take_rest (b ∷ bs) 1))
      ∙ sym (cond-true (plus && eqb b 43) _ _ (ap₂ ◌&&◌ p (eq-eqb b 43 f)))

  pub minus_is : (bs : List ℕ) (a : Answer) → 0 < length bs → get_or bs 0 0 ≡ 45 → takes_minus t ≡ true → a ≡ unsigned_call e t true skip (behind bs) →
      after_sign a ≡ signed_call e t skip plus bs
  minus_is [] a h f m is = absurd (omega arith)
  minus_is (b ∷ bs) a h f m is =
      ap after_sign (is ∙ ap (unsigned_call e t true skip) (take_rest (b ∷ bs) 1))
      ∙ sym (cond-false (plus && eqb b 43) _ _ (and_right plus (eqb b 43) (ne_eqb b 43 (λ q. omega arith)))
      ∙ cond-true (takes_minus t && eqb b 45) _ _ (ap₂ ◌&&◌ m (eq-eqb b 45 f)))

-- the count with the sign is a count of bytes that are there
pub room : {V : Type 0} (number : V → ℤ) (t : NumberType) (neg skip : Bool) (bs : List ℕ) (r : Result (V × ℕ) AtoiSimdError) → 0 < length bs → length bs < 2 ^ 64 →
    prefix_by number r ≡ unsigned_call front t neg skip (behind bs) → IfOk r (λ p. p.1 + 1 < 2 ^ 64)
room number t neg skip bs (Ok p) h few is =
    let l : length (behind bs) ≡ length bs - 1 = ap length (take_rest bs 1) ∙ length-drop 1 bs in
    let P : Answer → Type 0 = λ a. Within (length (behind bs)) a in
    let n : p.1 ≤ length (behind bs) = subst P (sym is) (unsigned_within t neg skip (behind bs)) in
    omega arith
room number t neg skip bs (Err e) h few is = tt
