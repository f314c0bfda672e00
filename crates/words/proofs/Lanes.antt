-- Neighbouring lanes of a word joined by one multiplication, at any width of the lanes.
use Rattle.std.proofs.Common.{◌≡◌, ℕ, ◌+◌, ◌-◌, ◌*◌, ◌/◌, ◌%◌, ◌^◌, ◌<◌, ◌≤◌, List, [], ◌∷◌, sym, ap, ◌∙◌, subst, ap₂, mod-eq_of_lt, mul_assoc, add-mul, div-add-mod', mul-one, mul-add, mul_right_comm, arith, pow_pos, pow_mono, pow-add}
use native.Mathlib.Nat.{mul-add-div_right, zero-mod}
use lib.Bits.{bit_and, and_block, and_mask, and_mod, and_le_r, and_zero_r}
use Rattle.std.specs.List.{AllByRecursion}
use Rattle.std.proofs.lemmas.Nat.{field_of, div-mul-add, mod-mul-add, mul-add-lt}

-- a product that wraps, shifted and masked: what is cut off is not looked at
pub cut : (n j k m : ℕ) → m < 2 ^ j → bit_and (n % 2 ^ (j + k) / 2 ^ k) m ≡ bit_and (n / 2 ^ k) m
cut n j k m h =
    let le : bit_and (n / 2 ^ k) m ≤ m = and_le_r (n / 2 ^ k) m in
    let small : bit_and (n / 2 ^ k) m < 2 ^ j = omega arith in
    ap (λ x. bit_and x m) (field_of n j k)
    ∙ sym (and_mod (n / 2 ^ k) m j ∙ ap (bit_and (n / 2 ^ k % 2 ^ j)) (mod-eq_of_lt h))
    ∙ mod-eq_of_lt small

-- times c at one lane and times 1 at the next, then down by one lane
fold : (B c y : ℕ) → 0 < B → y * (c * B + 1) / B ≡ y * c + y / B
fold B c y pos =
    ap (λ n. n / B) (mul-add y (c * B) 1 ∙ ap₂ (λ p q. p + q) (sym (mul_assoc y c B)) (mul-one y))
    ∙ mul-add-div_right pos (y * c) y

-- lanes u, v, b and a, from the highest: where each product goes
regrouped : (B c u v a b : ℕ) →
    (((u * B + v) * B + b) * B + a) * c + ((u * B + v) * B + b) ≡ ((u * B + v) * c + u) * (B * B) + ((b * c + v) * B + (a * c + b))
regrouped B c u v a b =
    let r = u * B + v in
    let x = r * B + b in
    let inner : x * c ≡ r * c * B + b * c = add-mul (r * B) b c ∙ ap (λ p. p + b * c) (mul_right_comm r B c) in
    let outer : x * B * c ≡ r * c * (B * B) + b * c * B =
    mul_right_comm x B c ∙ ap (λ p. p * B) inner ∙ add-mul (r * c * B) (b * c) B ∙ ap (λ p. p + b * c * B) (mul_assoc (r * c) B B) in
    let left : (x * B + a) * c ≡ r * c * (B * B) + b * c * B + a * c = add-mul (x * B) a c ∙ ap (λ p. p + a * c) outer in
    omega (arith, add-mul (r * c) u (B * B), mul_assoc u B B, add-mul (b * c) v B, add-mul (u * B) v B)

module _ (k c : ℕ) where
  -- two lanes a and b of k bits, below the lanes of r
  pair : (r a b m : ℕ) → a < 2 ^ k → a * c + b < 2 ^ k → b * c + r % 2 ^ k < 2 ^ k →
      bit_and (((r * 2 ^ k + b) * 2 ^ k + a) * (c * 2 ^ k + 1) / 2 ^ k) (m * 2 ^ (k + k) + (2 ^ k - 1))
      ≡ bit_and (r * (c * 2 ^ k + 1) / 2 ^ k) m * 2 ^ (k + k) + (a * c + b)
  pair r a b m ha hab hbr =
      let B = 2 ^ k in
      let BB = 2 ^ (k + k) in
      let y = (r * B + b) * B + a in
      let pos : 0 < B = pow_pos k in
      let square : BB ≡ B * B = pow-add 2 k k in
      let lo = (b * c + r % B) * B + (a * c + b) in
      let is-r : r / B * B + r % B ≡ r = div-add-mod' r B in
      let whole : y * c + (r * B + b) ≡ (r * c + r / B) * (B * B) + lo =
      subst (λ s. ((s * B + b) * B + a) * c + (s * B + b) ≡ (s * c + r / B) * (B * B) + lo) is-r (regrouped B c (r / B) (r % B) a b) in
      let parts : y * (c * B + 1) / B ≡ r * (c * B + 1) / B * BB + lo =
      fold B c y pos
      ∙ ap (λ q. y * c + q) (div-mul-add (r * B + b) B a ha)
      ∙ whole
      ∙ ap₂ (λ p q. p * q + lo) (sym (fold B c r pos)) (sym square) in
      let lo-below : lo < BB = subst (λ n. lo < n) (sym square) (mul-add-lt (b * c + r % B) B (a * c + b) B hbr hab) in
      let mask_below : B - 1 < BB = let wide : B ≤ BB = pow_mono (omega arith) in omega arith in
      ap (λ x. bit_and x (m * BB + (B - 1))) parts
      ∙ and_block (k + k) (r * (c * B + 1) / B) m lo (B - 1) lo-below mask_below
      ∙ ap (λ x. bit_and (r * (c * B + 1) / B) m * BB + x) (and_mask lo k ∙ mod-mul-add (b * c + r % B) B (a * c + b) hab)

-- pairs of lanes as they stand, the lowest first, B being what a lane's width makes
abbrev pub apart : ℕ → List (ℕ × ℕ) → ℕ
apart B [] = 0
apart B (p ∷ ps) = (apart B ps * B + p.1) * B + p.0

-- each pair joined by the factor c in one lane of the double width
abbrev pub joined : ℕ → ℕ → List (ℕ × ℕ) → ℕ
joined BB c [] = 0
joined BB c (p ∷ ps) = joined BB c ps * BB + (p.0 * c + p.1)

-- the lower half of each lane of the double width
abbrev pub mask : ℕ → ℕ → List (ℕ × ℕ) → ℕ
mask B BB [] = 0
mask B BB (p ∷ ps) = mask B BB ps * BB + (B - 1)

-- each lane is below top
abbrev pub Below : ℕ → List (ℕ × ℕ) → Type 0
Below top = AllByRecursion (λ p. (p.0 < top) × (p.1 < top))

module _ (k c top : ℕ) (within : top ≤ 2 ^ k) (some : 0 < top) (fits : (a b : ℕ) → a < top → b < top → a * c + b < 2 ^ k) where
  -- also where there is no lane left
  lowest : (ps : List (ℕ × ℕ)) → Below top ps → apart (2 ^ k) ps % 2 ^ k < top
  lowest [] s = subst (λ n. n < top) (sym (zero-mod (2 ^ k))) some
  lowest (p ∷ ps) s =
      let low : p.0 < 2 ^ k = omega (arith, s.0.0) in
      subst (λ n. n < top) (sym (mod-mul-add (apart (2 ^ k) ps * 2 ^ k + p.1) (2 ^ k) p.0 low)) s.0.0

  pub joins : (ps : List (ℕ × ℕ)) → Below top ps →
      bit_and (apart (2 ^ k) ps * (c * 2 ^ k + 1) / 2 ^ k) (mask (2 ^ k) (2 ^ (k + k)) ps) ≡ joined (2 ^ (k + k)) c ps
  joins [] s = and_zero_r (0 * (c * 2 ^ k + 1) / 2 ^ k)
  joins (p ∷ ps) s =
      pair k c (apart (2 ^ k) ps) p.0 p.1 (mask (2 ^ k) (2 ^ (k + k)) ps)
      (omega (arith, s.0.0))
      (fits _ _ s.0.0 s.0.1)
      (fits _ _ s.0.1 (lowest ps s.1))
      ∙ ap (λ x. x * 2 ^ (k + k) + (p.0 * c + p.1)) (joins ps s.1)
