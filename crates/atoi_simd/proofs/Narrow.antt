-- The steps of the reader of 8 to 32 bits.
use Rattle.std.proofs.Common.{◌≡◌, ℕ, ◌+◌, ◌-◌, ◌*◌, ◌/◌, ◌%◌, ◌^◌, ◌<◌, ◌≤◌, min, Bool, true, false, cond, eqb, leb, ◌⊎◌, List, length, get_or, drop, pos, sym, refl, ap, ◌∙◌, subst, ap₂, ⊎_elim, zero-add, arith, eq-eqb, ne_eqb, eqb-true, le-leb}
use borrow.Author.Tests.{lt-leb, eqb-false}
use Rattle.std.specs.Char.{is_ascii_digit}
use Rattle.std.proofs.lemmas.List.{drop-drop}
use Rattle.std.proofs.lemmas.List.Sums.{prefix_len-le-length}
use Rattle.std.proofs.lemmas.Bool.{cond-true, cond-false, cases_lt, both_ways}
use Rattle.words.specs.Bytes.{is_zero, value_of}
use Rattle.atoi_simd.specs.Answer.{Answer, ok, empty, size, overflow}
use Rattle.atoi_simd.specs.Digits.{run, zeros, value}
use Rattle.atoi_simd.specs.Calls.{passed, skipping, plain, narrow}
use Rattle.atoi_simd.proofs.Runs.{prefix_len-drop, value_split, value_grows, value_zeros, zeros_le, first_digit, run_on, run_over}
use Rattle.atoi_simd.proofs.Blocks.{Read, zeros_counted}
use Rattle.atoi_simd.proofs.Skipped.{Skipped, add_to, by_skip, all_left, some_digits, answers, next}

-- ---- the definition, by cases

-- what a text with a digit is answered
unfoldable pub narrow_body : ℕ → Bool → List ℕ → Answer
narrow_body max skip bs = cond skip (skipping max bs) (plain max bs)

narrow_is : (max : ℕ) (skip : Bool) (bs : List ℕ) → 0 < run bs → narrow_body max skip bs ≡ narrow max skip bs
unfolding narrow_body
narrow_is max skip bs h = sym (cond-false (eqb (run bs) 0) _ _ (ne_eqb (run bs) 0 (λ e. omega arith)))

skip_ok : (max : ℕ) (bs : List ℕ) → value bs ≤ max → narrow_body max true bs ≡ ok (pos (value bs)) (run bs)
unfolding narrow_body
skip_ok max bs h = cond-true (leb (value bs) max) _ _ (le-leb (value bs) max h)

skip_over : (max : ℕ) (bs : List ℕ) → max < value bs → narrow_body max true bs ≡ overflow (drop (passed (run bs) (zeros bs)) bs)
unfolding narrow_body
skip_over max bs h = cond-false (leb (value bs) max) _ _ (lt-leb (value bs) max h)

module _ (max : ℕ) (bs : List ℕ) where
  abbrev first16 : ℕ
  first16 = value_of (min (run bs) 16) bs

  plain_ok : first16 ≤ max → run bs ≤ 16 → narrow_body max false bs ≡ ok (pos (value bs)) (run bs)
  unfolding narrow_body
  plain_ok h few = cond-true (leb first16 max) _ _ (le-leb first16 max h) ∙ cond-false (leb 17 (run bs)) _ _ (lt-leb 17 (run bs) (omega arith))

  plain_size : first16 ≤ max → 16 < run bs → narrow_body max false bs ≡ size 17 bs
  unfolding narrow_body
  plain_size h many = cond-true (leb first16 max) _ _ (le-leb first16 max h) ∙ cond-true (leb 17 (run bs)) _ _ (le-leb 17 (run bs) (omega arith))

  plain_over : max < first16 → narrow_body max false bs ≡ overflow bs
  unfolding narrow_body
  plain_over h = cond-false (leb first16 max) _ _ (lt-leb first16 max h)

-- ---- one step: y zeros are skipped where at least 16 digits stand

passed_none : (r z : ℕ) → z < 16 → (r < 16 → ⊥) → passed r z ≡ z
passed_none r z h g =
    let a : z / 16 * 16 ≡ 0 = omega arith in
    let b : leb 16 (r - z / 16 * 16) ≡ true = le-leb 16 (r - z / 16 * 16) (omega arith) in
    omega (arith, ap (λ x. z / 16 * 16 + x) (cond-true (leb 16 (r - z / 16 * 16)) (z % 16) 0 b))

passed_short : (r z : ℕ) → z ≤ r → r < 16 → passed r z ≡ 0
passed_short r z h g =
    let a : z / 16 * 16 ≡ 0 = omega arith in
    let b : leb 16 (r - z / 16 * 16) ≡ false = lt-leb 16 (r - z / 16 * 16) (omega arith) in
    omega (arith, ap (λ x. z / 16 * 16 + x) (cond-false (leb 16 (r - z / 16 * 16)) (z % 16) 0 b))

passed_zero : (r : ℕ) → passed r 0 ≡ 0
passed_zero r = ap (λ x. 0 + x) (same_cond (leb 16 (r - 0 / 16 * 16)))
  where
    same_cond : (b : Bool) → cond b (0 % 16) 0 ≡ 0
    same_cond true = refl
    same_cond false = refl

passed_step : (r z y : ℕ) → 16 ≤ r → z ≤ r → y ≡ min 16 z → y + passed (r - y) (z - y) ≡ passed r z
passed_step r z y h le e =
    ⊎_elim
    (λ small.
    let is : y ≡ z = omega arith in
    let a : z - y ≡ 0 = omega arith in
    let b : passed (r - y) (z - y) ≡ 0 = ap (passed (r - y)) a ∙ passed_zero (r - y) in
    let c = passed_none r z small (λ x. omega arith) in
    omega arith)
    (λ big.
    let is : y ≡ 16 = omega arith in
    let a : (z - y) / 16 * 16 + 16 ≡ z / 16 * 16 = omega arith in
    let b : (z - y) % 16 ≡ z % 16 = omega arith in
    let t : (r - y) - (z - y) / 16 * 16 ≡ r - z / 16 * 16 = omega arith in
    let d : cond (leb 16 ((r - y) - (z - y) / 16 * 16)) ((z - y) % 16) 0 ≡ cond (leb 16 (r - z / 16 * 16)) (z % 16) 0 =
    ap₂ (λ p q. cond (leb 16 p) q 0) t b in
    omega arith)
    (cases_lt z 16)

step : (max : ℕ) (bs : List ℕ) (y : ℕ) → 16 ≤ run bs → y ≡ min 16 (zeros bs) → add_to y (narrow_body max true (drop y bs)) ≡ narrow_body max true bs
step max bs y h e =
    let z = zeros_le bs in
    let v : value (drop y bs) ≡ value bs = value_zeros bs y (omega arith) in
    let r : run (drop y bs) ≡ run bs - y = prefix_len-drop is_ascii_digit y bs (omega arith) in
    let q : zeros (drop y bs) ≡ zeros bs - y = prefix_len-drop is_zero y bs (omega arith) in
    ⊎_elim
    (λ over.
    let p = passed_step (run bs) (zeros bs) y h z e in
    let o : narrow_body max true (drop y bs) ≡ overflow (drop (passed (run (drop y bs)) (zeros (drop y bs))) (drop y bs)) = skip_over max (drop y bs) (omega arith) in
    let d : drop (passed (run (drop y bs)) (zeros (drop y bs))) (drop y bs) ≡ drop (passed (run bs) (zeros bs)) bs =
    ap₂ (λ a b. drop (passed a b) (drop y bs)) r q ∙ drop-drop (passed (run bs - y) (zeros bs - y)) y bs ∙ ap (λ n. drop n bs) p in
    ap (add_to y) (o ∙ ap overflow d) ∙ sym (skip_over max bs over))
    (λ fits.
    let o : narrow_body max true (drop y bs) ≡ ok (pos (value (drop y bs))) (run (drop y bs)) = skip_ok max (drop y bs) (omega arith) in
    let n : run (drop y bs) + y ≡ run bs = omega arith in
    ap (add_to y) o ∙ ap₂ (λ a b. ok (pos a) b) v n ∙ sym (skip_ok max bs fits))
    (cases_lt max (value bs))

-- how the loop is left with a value v of n digits: sixteen with a zero in front are not among them where zeros are skipped
pub record Out (skip : Bool) (rest : List ℕ) (v n : ℕ) : Type 0 where
  pub full : Bool
  pub zeroes : ℕ
  pub told : Read 16 skip rest full v n zeroes
  pub first : n ≡ 16 → skip ≡ true → zeroes ≡ 0

pub full_out : {skip : Bool} {rest : List ℕ} {v n z : ℕ} → Read 16 skip rest true v n z → ((skip ≡ true) × (z ≤ 0)) ⊎ (skip ≡ false) → Out skip rest v n
full_out {skip} {z = z} r e = record { full = true; zeroes = z; told = r; first = λ _ t. ⊎_elim (λ h. omega arith) (λ h. absurd (both_ways skip h t)) e }

pub part_out : {skip : Bool} {rest : List ℕ} {v n z : ℕ} → Read 16 skip rest false v n z → Out skip rest v n
part_out {n = n} {z = z} r = record { full = false; zeroes = z; told = r; first = λ q t. absurd (eqb-false n 16 (sym r.full) q) }

-- ---- the ways on and out of the loop

module _ (max : ℕ) {skip : Bool} {bs rest : List ℕ} {k : ℕ} (s : Skipped (narrow_body max skip) skip bs rest k) where
  out : (a : Answer) → 0 < run rest → narrow_body max skip rest ≡ a → add_to k a ≡ narrow max skip bs
  out a h e = answers s a e ∙ narrow_is max skip bs (some_digits s h)

  -- the zeros of sixteen digits are skipped
  pub skips : {v n z : ℕ} → Read 16 skip rest true v n z → skip ≡ true → 0 < z →
      (z ≤ length rest) × (k + z ≤ length bs) × Skipped (narrow_body max skip) skip bs (drop z rest) (k + z)
  skips {v} {n} {z} r t h =
      let full : n ≡ 16 = eqb-true n 16 (sym r.full) in
      let q : z ≡ min 16 (zeros rest) = zeros_counted r t full in
      next s z t h (omega arith)
      (by_skip skip (λ b. add_to z (narrow_body max b (drop z rest)) ≡ narrow_body max b rest) (λ _. step max rest z (omega (arith, r.len)) q) (λ e. absurd (both_ways skip e t)))

  pub only_zeros : 0 < k → min 16 (run rest) ≡ 0 → ok (pos 0) k ≡ narrow max skip bs
  only_zeros h none = by_skip skip (λ b. narrow_body max skip rest ≡ narrow_body max b rest → ok (pos 0) k ≡ narrow max skip bs)
      (λ t e.
      let d : run rest ≡ 0 = omega arith in
      let w : value rest ≡ 0 = ap (λ j. value_of j rest) d in
      let o : narrow_body max true rest ≡ ok (pos 0) 0 = skip_ok max rest (omega arith) ∙ ap₂ (λ x j. ok (pos x) j) w d in
      ap (ok (pos 0)) (sym (zero-add k)) ∙ answers s (ok (pos 0) 0) (e ∙ o) ∙ narrow_is max skip bs (s.digits h))
      (λ t e. absurd (omega (arith, s.none t)))
      refl

  pub no_digits : k ≡ 0 → min 16 (run rest) ≡ 0 → empty ≡ narrow max skip bs
  no_digits h none = sym (cond-true (eqb (run bs) 0) _ _ (eq-eqb (run bs) 0 (omega (arith, ap run (all_left s h)))))

  module _ {v n : ℕ} (o : Out skip rest v n) where
    r : Read 16 skip rest o.full v n o.zeroes
    r = o.told

    digits : 0 < run rest
    digits = omega (arith, r.len, r.some')

    grows : v ≤ value rest
    grows =
        let t : run rest ≡ n + (run rest - n) = omega (arith, r.len) in
        subst (λ x. x ≤ value rest) (sym r.val) (subst (λ j. value_of n rest ≤ value_of j rest) (sym t) (value_grows rest n (run rest - n)))

    -- the first sixteen digits, as the definition has them
    sixteen : v ≡ value_of (min (run rest) 16) rest
    sixteen = r.val ∙ ap (λ j. value_of j rest) (omega (arith, r.len))

    no_zero : skip ≡ true → n ≡ 16 → zeros rest ≡ 0
    no_zero t full = omega (arith, zeros_counted r t full, o.first full t)

    -- an overflow leaves out no more zeros
    unpassed : skip ≡ true → passed (run rest) (zeros rest) ≡ 0
    unpassed t =
        ⊎_elim
        (λ short. passed_short (run rest) (zeros rest) (zeros_le rest) short)
        (λ long. ap (passed (run rest)) (no_zero t (omega (arith, r.len))) ∙ passed_zero (run rest))
        (cases_lt (run rest) 16)

    pub over : max < v → overflow rest ≡ narrow max skip bs
    over h = out (overflow rest) digits (by_skip skip (λ b. narrow_body max b rest ≡ overflow rest)
        (λ t. skip_over max rest (omega (arith, grows)) ∙ ap (λ j. overflow (drop j rest)) (unpassed t))
        (λ t. plain_over max rest (omega (arith, sixteen))))

    -- sixteen digits with no zero in front are too many for 32 bits
    large : skip ≡ true → n ≡ 16 → 10 ^ 15 ≤ v
    large t full =
        let l = prefix_len-le-length is_ascii_digit rest in
        let e : value_of (1 + 15) rest ≡ value_of 1 rest * 10 ^ 15 + value_of 15 (drop 1 rest) = value_split rest 1 15 (omega (arith, r.len)) in
        let f : 1 ≤ value_of 1 rest = first_digit rest digits (no_zero t full) in
        let w : v ≡ value_of 16 rest = r.val ∙ ap (λ j. value_of j rest) full in
        omega arith

    pub seventeen : max < 2 ^ 32 → v ≤ max → n ≡ 16 → is_ascii_digit (get_or rest 16 0) ≡ true → size 17 rest ≡ narrow max skip bs
    seventeen m h full d =
        let more : 16 < run rest = run_on rest 16 (omega (arith, r.len)) d in
        by_skip skip (λ b. skip ≡ b → size 17 rest ≡ narrow max skip bs)
        (λ t _. absurd (omega (arith, large t full)))
        (λ t _.
        let k0 : k ≡ 0 = s.none t in
        let b : narrow_body max skip rest ≡ size 17 rest = ap (λ q. narrow_body max q rest) t ∙ plain_size max rest (omega (arith, sixteen)) more in
        ap (λ j. size j rest) (omega arith) ∙ out (size 17 rest) digits b)
        refl

    pub reads : v ≤ max → run rest ≡ n → ok (pos v) (n + k) ≡ narrow max skip bs
    reads h all =
        let w : value rest ≡ v = ap (λ j. value_of j rest) all ∙ sym r.val in
        let found : ok (pos (value rest)) (run rest) ≡ ok (pos v) n = ap₂ (λ x j. ok (pos x) j) w all in
        out (ok (pos v) n) digits (by_skip skip (λ b. narrow_body max b rest ≡ ok (pos v) n)
        (λ t. skip_ok max rest (omega arith) ∙ found)
        (λ t. plain_ok max rest (omega (arith, sixteen)) (omega (arith, r.len)) ∙ found))

    -- no digit follows the sixteenth, or there are fewer
    pub ends_here : n ≡ 16 → is_ascii_digit (get_or rest 16 0) ≡ false → run rest ≡ n
    ends_here full d = run_over rest 16 (omega (arith, r.len)) d ∙ sym full

    pub fewer : (n ≡ 16 → ⊥) → run rest ≡ n
    fewer ne = omega (arith, r.len)
