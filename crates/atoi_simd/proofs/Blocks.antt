-- How a block of digits is made.
use Rattle.std.proofs.Common.{◌≡◌, ℕ, ◌^◌, ◌<◌, ◌≤◌, min, Bool, true, false, cond, ◌&&◌, eqb, List, sym, ap, ◌∙◌, subst, ap₂, ⊎_elim, arith, eq-eqb, ne_eqb}
use native.Mathlib.Nat.{pow-le-pow_right}
use Rattle.std.proofs.lemmas.Bool.{cond-true, cond-false, cases_eq}
use Rattle.atoi_simd.specs.Answer.{Answer, empty}
use Rattle.words.specs.Bytes.{value_of}
use Rattle.atoi_simd.specs.Digits.{run, zeros}
use Rattle.atoi_simd.specs.Block.{Block, fault, some, block_at, block}
use Rattle.atoi_simd.proofs.Runs.{value_below}

abbrev tag : Block → ℕ
tag (fault a) = 1
tag (some b v n z) = 0

pub block_none : (w : ℕ) (count : Bool) (bs : List ℕ) → min w (run bs) ≡ 0 → fault empty ≡ block w count bs
block_none w count bs e = sym (cond-true _ _ _ (eq-eqb (min w (run bs)) 0 e))

pub block_some : (w : ℕ) (count : Bool) (bs : List ℕ) (v n z : ℕ) → n ≡ min w (run bs) → 0 < n → v ≡ value_of n bs →
    z ≡ cond (count && eqb n w) (min w (zeros bs)) 0 → some (eqb n w) v n z ≡ block w count bs
block_some w count bs v n z e h val zs =
    ap₂ (λ x y. some (eqb n w) x n y) val zs
    ∙ sym (cond-false (eqb n 0) (fault empty) _ (ne_eqb n 0 (λ q. omega arith)))
    ∙ ap (block_at w count bs) e

-- the zeros counted
pub counted : (w : ℕ) (count : Bool) (bs : List ℕ) (n z : ℕ) → count ≡ true → n ≡ w → z ≡ min w (zeros bs) → z ≡ cond (count && eqb n w) (min w (zeros bs)) 0
counted w count bs n z t e is = is ∙ sym (cond-true (count && eqb n w) (min w (zeros bs)) 0 (ap₂ ◌&&◌ t (eq-eqb n w e)))

pub not_full : (w : ℕ) (count : Bool) (bs : List ℕ) (n z : ℕ) → (n ≡ w → ⊥) → z ≡ 0 → z ≡ cond (count && eqb n w) (min w (zeros bs)) 0
not_full w true bs n z e is = is ∙ sym (cond-false (eqb n w) (min w (zeros bs)) 0 (ne_eqb n w e))
not_full w false bs n z e is = is

pub not_asked : (w : ℕ) (count : Bool) (bs : List ℕ) (n z : ℕ) → count ≡ false → z ≡ 0 → z ≡ cond (count && eqb n w) (min w (zeros bs)) 0
not_asked w count bs n z e is = is ∙ sym (ap (λ b. cond (b && eqb n w) (min w (zeros bs)) 0) e)

-- what a block says
pub record Read (w : ℕ) (count : Bool) (bs : List ℕ) (b : Bool) (v n z : ℕ) : Type 0 where
  pub len : n ≡ min w (run bs)
  pub some' : 0 < n
  pub val : v ≡ value_of n bs
  pub zs : z ≡ cond (count && eqb n w) (min w (zeros bs)) 0
  pub full : b ≡ eqb n w

-- the zeros that a full block says
pub zeros_counted : {w : ℕ} {skip : Bool} {rest : List ℕ} {b : Bool} {v n z : ℕ} → Read w skip rest b v n z → skip ≡ true → n ≡ w → z ≡ min w (zeros rest)
zeros_counted {w} {skip} {n = n} r t full = r.zs ∙ cond-true (skip && eqb n w) _ _ (ap₂ ◌&&◌ t (eq-eqb n w full))

pub read : (w : ℕ) (count : Bool) (bs : List ℕ) {b : Bool} {v n z : ℕ} → some b v n z ≡ block w count bs → Read w count bs b v n z
read w count bs {b} {v} {n} {z} e =
    let m = min w (run bs) in
    ⊎_elim
    (λ q. let k : block w count bs ≡ fault empty = cond-true (eqb m 0) _ _ (eq-eqb m 0 q) in
    let x : ◌≡◌ {A = ℕ} 0 1 = ap tag (e ∙ k) in absurd (omega arith))
    (λ q.
    let k : block w count bs ≡ some (eqb m w) (value_of m bs) m (cond (count && eqb m w) (min w (zeros bs)) 0) = cond-false (eqb m 0) _ _ (ne_eqb m 0 q) in
    let t : some b v n z ≡ some (eqb m w) (value_of m bs) m (cond (count && eqb m w) (min w (zeros bs)) 0) = e ∙ k in
    let l : n ≡ m = cc in
    record {
      len = l;
      some' = omega arith;
      val = (let y : v ≡ value_of m bs = cc in y ∙ ap (λ j. value_of j bs) (sym l));
      zs = (let y : z ≡ cond (count && eqb m w) (min w (zeros bs)) 0 = cc in y ∙ ap (λ j. cond (count && eqb j w) (min w (zeros bs)) 0) (sym l));
      full = (let y : b ≡ eqb m w = cc in y ∙ ap (λ j. eqb j w) (sym l));
    })
    (cases_eq m 0)

-- sixteen digits are below 10 ^ 16
pub low_16 : {count : Bool} {bs : List ℕ} {b : Bool} {v n z : ℕ} → Read 16 count bs b v n z → v < 10 ^ 16
low_16 {bs = bs} {v = v} {n = n} r =
    let few : n ≤ 16 = omega (arith, r.len) in
    let below : v < 10 ^ n = subst (λ x. x < 10 ^ n) (sym r.val) (value_below n bs (omega (arith, r.len))) in
    let most : 10 ^ n ≤ 10 ^ 16 = pow-le-pow_right {n = 10} (omega arith) few in
    omega arith

pub unread : (w : ℕ) (count : Bool) (bs : List ℕ) {a : Answer} → fault a ≡ block w count bs → (a ≡ empty) × (min w (run bs) ≡ 0)
unread w count bs {a} e =
    let m = min w (run bs) in
    ⊎_elim
    (λ q. let k : block w count bs ≡ fault empty = cond-true (eqb m 0) _ _ (eq-eqb m 0 q) in
    let t : fault a ≡ fault empty = e ∙ k in (cc, q))
    (λ q.
    let k : block w count bs ≡ some (eqb m w) (value_of m bs) m (cond (count && eqb m w) (min w (zeros bs)) 0) = cond-false (eqb m 0) _ _ (ne_eqb m 0 q) in
    let x : ◌≡◌ {A = ℕ} 1 0 = ap tag (e ∙ k) in absurd (omega arith))
    (cases_eq m 0)
