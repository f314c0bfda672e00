-- The steps of the reader of 64 bits.
use Rattle.std.proofs.Common.{◌≡◌, ℕ, ◌+◌, ◌-◌, ◌*◌, ◌^◌, ◌<◌, ◌≤◌, min, Bool, true, false, cond, ◌&&◌, eqb, leb, List, length, take, drop, pos, sym, refl, ap, ◌∙◌, subst, ap₂, ⊎_elim, zero-add, arith, eq-eqb, ne_eqb, eqb-true, le-leb}
use borrow.Author.Tests.{lt-leb, eqb-false}
use Rattle.std.specs.Char.{is_ascii_digit}
use Rattle.std.proofs.lemmas.List.{drop-drop, take_rest}
use Rattle.std.proofs.lemmas.List.Sums.{prefix_len-le-length}
use Rattle.std.proofs.lemmas.Bool.{cond-true, cond-false, cases_eq, cases_lt, cases_Bool, both_ways}
use Rattle.words.specs.Bytes.{is_zero, value_of}
use Rattle.atoi_simd.specs.Answer.{Answer, ok, size, overflow}
use Rattle.atoi_simd.specs.Block.{fault, some, block}
use Rattle.atoi_simd.specs.Digits.{run, zeros, value}
use Rattle.atoi_simd.specs.Calls.{any_length, digit_count, wide_after, wide}
use Rattle.atoi_simd.proofs.Runs.{prefix_len-drop, value_split, value_below, value_zeros, zeros_le}
use Rattle.atoi_simd.proofs.Blocks.{Read, read, unread, zeros_counted}
use Rattle.atoi_simd.proofs.ByteWise.{any_empty, any_ok}
use Rattle.atoi_simd.proofs.Counts.{count_above, count_least, count_most}
use Rattle.atoi_simd.proofs.Skipped.{Skipped, add_to, by_skip, some_digits, answers, next}

-- what a text with a digit is answered
unfoldable pub wide_body : ℕ → Bool → List ℕ → Answer
wide_body max skip bs = wide_after max (cond skip (zeros bs) 0) bs

-- by cases
after_size : (max z : ℕ) (bs : List ℕ) → digit_count max < run bs - z → wide_after max z bs ≡ size (z + min (run bs - z) 24) (drop z bs)
after_size max z bs h = cond-false (leb (run bs - z) (digit_count max)) _ _ (lt-leb (run bs - z) (digit_count max) h)

after_ok : (max z : ℕ) (bs : List ℕ) → run bs - z ≤ digit_count max → value bs ≤ max → wide_after max z bs ≡ ok (pos (value bs)) (run bs)
after_ok max z bs h v =
    cond-true (leb (run bs - z) (digit_count max)) _ _ (le-leb (run bs - z) (digit_count max) h) ∙ cond-true (leb (value bs) max) _ _ (le-leb (value bs) max v)

after_over : (max z : ℕ) (bs : List ℕ) → run bs - z ≤ digit_count max → max < value bs → wide_after max z bs ≡ overflow (drop (zeros bs) bs)
after_over max z bs h v =
    cond-true (leb (run bs - z) (digit_count max)) _ _ (le-leb (run bs - z) (digit_count max) h) ∙ cond-false (leb (value bs) max) _ _ (lt-leb (value bs) max v)

-- y zeros skipped
wide_step : (max : ℕ) (bs : List ℕ) (y : ℕ) → y ≤ zeros bs → add_to y (wide_after max (zeros (drop y bs)) (drop y bs)) ≡ wide_after max (zeros bs) bs
wide_step max bs y h =
    let z = zeros_le bs in
    let v : value (drop y bs) ≡ value bs = value_zeros bs y h in
    let r : run (drop y bs) ≡ run bs - y = prefix_len-drop is_ascii_digit y bs (omega arith) in
    let q : zeros (drop y bs) ≡ zeros bs - y = prefix_len-drop is_zero y bs h in
    let d : run (drop y bs) - zeros (drop y bs) ≡ run bs - zeros bs = omega arith in
    let t : drop (zeros (drop y bs)) (drop y bs) ≡ drop (zeros bs) bs = drop-drop (zeros (drop y bs)) y bs ∙ ap (λ n. drop n bs) (omega arith) in
    ⊎_elim
    (λ big.
    let a = after_size max (zeros (drop y bs)) (drop y bs) (omega arith) in
    let n : zeros (drop y bs) + min (run (drop y bs) - zeros (drop y bs)) 24 + y ≡ zeros bs + min (run bs - zeros bs) 24 = omega arith in
    ap (add_to y) a ∙ ap₂ size n t ∙ sym (after_size max (zeros bs) bs big))
    (λ small. ⊎_elim
    (λ over. ap (add_to y) (after_over max (zeros (drop y bs)) (drop y bs) (omega arith) (omega arith)) ∙ ap overflow t ∙ sym (after_over max (zeros bs) bs small over))
    (λ fits.
    let n : run (drop y bs) + y ≡ run bs = omega arith in
    ap (add_to y) (after_ok max (zeros (drop y bs)) (drop y bs) (omega arith) (omega arith)) ∙ ap₂ (λ a b. ok (pos a) b) v n ∙ sym (after_ok max (zeros bs) bs small fits))
    (cases_lt max (value bs)))
    (cases_lt (digit_count max) (run bs - zeros bs))

wide_is : (max : ℕ) (skip : Bool) (bs : List ℕ) → 0 < run bs → wide_body max skip bs ≡ wide max skip bs
unfolding wide_body
wide_is max skip bs h = sym (cond-false (eqb (run bs) 0) _ _ (ne_eqb (run bs) 0 (λ e. omega arith)))

-- n digits fit where the greatest number has more
fits_below : (max : ℕ) (skip : Bool) (rest : List ℕ) (n : ℕ) → 2 ^ 63 - 1 ≤ max → run rest ≡ n → n < digit_count max → wide_body max skip rest ≡ ok (pos (value_of n rest)) n
unfolding wide_body
fits_below max skip rest n m e h =
    let b : value rest < 10 ^ n = subst (λ j. value_of j rest < 10 ^ n) (sym e) (value_below n rest (omega arith)) in
    let low : value rest ≤ max = omega (arith, count_above max n m h) in
    after_ok max (cond skip (zeros rest) 0) rest (omega arith) low ∙ ap₂ (λ x j. ok (pos x) j) (ap (λ j. value_of j rest) e) e

-- a text of few bytes cannot be too long or too large
pub short_is_wide : (max : ℕ) (skip : Bool) (bs : List ℕ) → 2 ^ 63 - 1 ≤ max → length bs < 5 → any_length max bs ≡ wide max skip bs
unfolding wide_body
short_is_wide max skip bs m h = ⊎_elim
    (λ e. any_empty max bs e ∙ sym (cond-true (eqb (run bs) 0) _ _ (eq-eqb (run bs) 0 e)))
    (λ e.
    let l = prefix_len-le-length is_ascii_digit bs in
    let few : run bs < digit_count max = omega (arith, count_least max) in
    let low : value bs < 10 ^ run bs = value_below (run bs) bs (omega arith) in
    any_ok max bs (omega arith) (omega (arith, count_above max (run bs) m few)) ∙ sym (fits_below max skip bs (run bs) m refl few) ∙ wide_is max skip bs (omega arith))
    (cases_eq (run bs) 0)

-- ---- what stands behind the first sixteen bytes, as a part of the text

abbrev behind : List ℕ → List ℕ
behind rest = take (length rest - 16) (drop 16 rest)

pub read_8 : (skip : Bool) (rest : List ℕ) {b : Bool} {v n z : ℕ} → some b v n z ≡ block 8 skip (behind rest) → Read 8 skip (drop 16 rest) b v n z
read_8 skip rest e = read 8 skip (drop 16 rest) (e ∙ ap (block 8 skip) (take_rest rest 16))

pub unread_8 : (skip : Bool) (rest : List ℕ) {a : Answer} → fault a ≡ block 8 skip (behind rest) → min 8 (run (drop 16 rest)) ≡ 0
unread_8 skip rest e = (unread 8 skip (drop 16 rest) (e ∙ ap (block 8 skip) (take_rest rest 16))).1

-- ---- the ways on and out of the loop

module _ (max : ℕ) {skip : Bool} {bs rest : List ℕ} {k : ℕ} (s : Skipped (wide_body max skip) skip bs rest k) where
  out : (a : Answer) → 0 < run rest → wide_body max skip rest ≡ a → add_to k a ≡ wide max skip bs
  out a h e = answers s a e ∙ wide_is max skip bs (some_digits s h)

  pub only_zeros : 0 < k → min 16 (run rest) ≡ 0 → ok (pos 0) k ≡ wide max skip bs
  unfolding wide_body
  only_zeros h e =
      let r : run rest ≡ 0 = omega arith in
      let v : value rest ≡ 0 = ap (λ j. value_of j rest) r in
      let o : wide_body max skip rest ≡ ok (pos 0) 0 = after_ok max (cond skip (zeros rest) 0) rest (omega arith) (omega arith) ∙ ap₂ (λ x j. ok (pos x) j) v r in
      ap (ok (pos 0)) (sym (zero-add k)) ∙ answers s (ok (pos 0) 0) o ∙ wide_is max skip bs (s.digits h)

  module _ (m : 2 ^ 63 - 1 ≤ max) where
    -- n digits that are fewer than the greatest number's
    few : {v : ℕ} (n : ℕ) → 0 < n → run rest ≡ n → v ≡ value_of n rest → n < digit_count max → ok (pos v) (n + k) ≡ wide max skip bs
    few {v} n some' e is h =
        out (ok (pos v) n) (omega arith) (fits_below max skip rest n m e h ∙ ap (λ x. ok (pos x) n) (sym is))

    pub fewer : {v n z : ℕ} → Read 16 skip rest false v n z → ok (pos v) (n + k) ≡ wide max skip bs
    fewer {v} {n} r =
        let ne : n ≡ 16 → ⊥ = eqb-false n 16 (sym r.full) in
        few n r.some' (omega (arith, r.len)) r.val (omega (arith, r.len, count_least max))

    module _ {v n z : ℕ} (r : Read 16 skip rest true v n z) where
      full : n ≡ 16
      full = eqb-true n 16 (sym r.full)

      pub long : (16 ≤ run rest) × (16 ≤ length rest)
      long = let f = full in let l = prefix_len-le-length is_ascii_digit rest in (omega (arith, r.len), omega (arith, r.len))

      first_value : v ≡ value_of 16 rest
      first_value = r.val ∙ ap (λ j. value_of j rest) full

      pub sixteen : min 8 (run (drop 16 rest)) ≡ 0 → ok (pos v) (16 + k) ≡ wide max skip bs
      sixteen none =
          let d = prefix_len-drop is_ascii_digit 16 rest long.0 in
          few 16 (omega arith) (omega (arith, long.0)) first_value (omega (arith, count_least max))

      module _ {b : Bool} {w l y : ℕ} (q : Read 8 skip (drop 16 rest) b w l y) where
        rest_run : run (drop 16 rest) ≡ run rest - 16
        rest_run = prefix_len-drop is_ascii_digit 16 rest long.0

        pub rest_low : w < 10 ^ l
        rest_low = let e : l ≤ run (drop 16 rest) = omega (arith, q.len) in subst (λ x. x < 10 ^ l) (sym q.val) (value_below l (drop 16 rest) e)

        -- more digits than the greatest number has
        pub too_long : (lm : ℕ) → lm + 16 ≡ digit_count max → lm < l → (skip ≡ true → z ≡ 0) → size (l + 16 + k) rest ≡ wide max skip bs
        unfolding wide_body
        too_long lm e h first =
            let a = rest_run in
            let n0 : cond skip (zeros rest) 0 ≡ 0 = by_skip skip (λ t. cond t (zeros rest) 0 ≡ 0) (λ t. omega (arith, zeros_counted r t full, first t)) (λ t. refl) in
            let g : digit_count max < run rest - 0 = omega (arith, q.len, long.0) in
            let f : wide_body max skip rest ≡ size (l + 16) rest =
            ap (λ j. wide_after max j rest) n0 ∙ after_size max 0 rest g ∙ ap (λ j. size j rest) (omega (arith, q.len, long.0)) in
            out (size (l + 16) rest) (omega (arith, long.0)) f

        -- the zeros that are skipped: those of the first word, and of the second where the first has no other digit
        pub skips : (x : ℕ) → skip ≡ true → 0 < z → x ≡ cond (eqb z 16) (16 + y) z →
            (x ≤ length rest) × (k + x ≤ length bs) × Skipped (wide_body max skip) skip bs (drop x rest) (k + x)
        unfolding wide_body
        skips x t h e =
            let a : z ≡ min 16 (zeros rest) = zeros_counted r t full in
            let found : (0 < x) × (x ≤ zeros rest) = ⊎_elim
            (λ g.
            let c : x ≡ 16 + y = e ∙ cond-true (eqb z 16) (16 + y) z (eq-eqb z 16 g) in
            let d = prefix_len-drop is_zero 16 rest (omega arith) in
            let u : y ≤ zeros (drop 16 rest) = ⊎_elim
            (λ f. omega (arith, q.zs ∙ cond-true (skip && eqb l 8) _ _ f))
            (λ f. omega (arith, q.zs ∙ cond-false (skip && eqb l 8) _ _ f))
            (cases_Bool (skip && eqb l 8)) in
            (omega arith, omega arith))
            (λ g. let c : x ≡ z = e ∙ cond-false (eqb z 16) (16 + y) z (ne_eqb z 16 g) in (omega arith, omega arith))
            (cases_eq z 16) in
            next s x t found.0 found.1
            (by_skip skip (λ c. add_to x (wide_body max c (drop x rest)) ≡ wide_body max c rest) (λ _. wide_step max rest x found.1) (λ f. absurd (both_ways skip f t)))

        -- all digits are read
        module _ (lm : ℕ) (e : lm + 16 ≡ digit_count max) (h : l ≤ lm) where
          total : run rest ≡ 16 + l
          total = let a = rest_run in omega (arith, q.len, long.0, count_most max)

          joined : v * 10 ^ l + w ≡ value rest
          joined =
              let c = prefix_len-le-length is_ascii_digit rest in
              ap₂ (λ p x. p * 10 ^ l + x) first_value q.val ∙ sym (value_split rest 16 l (omega (arith, total))) ∙ ap (λ j. value_of j rest) (sym total)

          inside : run rest - cond skip (zeros rest) 0 ≤ digit_count max
          inside = let t = total in omega arith

          pub reads : v * 10 ^ l + w ≤ max → ok (pos (v * 10 ^ l + w)) (l + 16 + k) ≡ wide max skip bs
          unfolding wide_body
          reads g =
              let f : wide_body max skip rest ≡ ok (pos (v * 10 ^ l + w)) (l + 16) =
              after_ok max (cond skip (zeros rest) 0) rest inside (omega (arith, joined)) ∙ ap₂ (λ x j. ok (pos x) j) (sym joined) (omega (arith, total)) in
              out (ok (pos (v * 10 ^ l + w)) (l + 16)) (omega (arith, long.0)) f

          -- a leading zero leaves too few digits to be above max
          no_zero : max < v * 10 ^ l + w → zeros rest ≡ 0
          no_zero g = ⊎_elim (λ z0. z0)
              (λ ne.
              let vz : value (drop 1 rest) ≡ value rest = value_zeros rest 1 (omega arith) in
              let rz : run (drop 1 rest) ≡ run rest - 1 = prefix_len-drop is_ascii_digit 1 rest (omega (arith, long.0)) in
              let rn : run (drop 1 rest) ≡ 15 + l = omega (arith, total) in
              let b' : value (drop 1 rest) < 10 ^ (15 + l) = subst (λ j. value_of j (drop 1 rest) < 10 ^ (15 + l)) (sym rn) (value_below (15 + l) (drop 1 rest) (omega arith)) in
              absurd (omega (arith, joined, count_above max (15 + l) m (omega arith))))
              (cases_eq (zeros rest) 0)

          pub over : max < v * 10 ^ l + w → overflow rest ≡ wide max skip bs
          unfolding wide_body
          over g =
              let f : wide_body max skip rest ≡ overflow rest =
              after_over max (cond skip (zeros rest) 0) rest inside (omega (arith, joined)) ∙ ap (λ j. overflow (drop j rest)) (no_zero g) in
              out (overflow rest) (omega (arith, long.0)) f
