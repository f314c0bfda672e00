-- A loop that skips zeros at the front of a text: what is left, and how the answer for it is the answer for the whole.
use Rattle.std.proofs.Common.{◌≡◌, ℕ, ◌+◌, ◌-◌, ◌<◌, ◌≤◌, Bool, true, false, List, length, drop, sym, refl, ap, ◌∙◌, subst, ⊎_elim, arith}
use Rattle.std.specs.Char.{is_ascii_digit}
use Rattle.std.proofs.lemmas.List.{drop-drop, length-drop}
use Rattle.std.proofs.lemmas.List.Sums.{prefix_len-le-length}
use Rattle.std.proofs.lemmas.Bool.{both_ways, cases_eq}
use Rattle.atoi_simd.specs.Answer.{Answer, ok, empty, size, overflow, invalid}
use Rattle.atoi_simd.specs.Digits.{run, zeros}
use Rattle.atoi_simd.proofs.Runs.{zeros_le}

-- k bytes more were read
abbrev pub add_to : ℕ → Answer → Answer
add_to k (ok v n) = ok v (n + k)
add_to k empty = empty
add_to k (size n p) = size (n + k) p
add_to k (overflow p) = overflow p
add_to k (invalid v n p) = invalid v n p

add_add : (a : Answer) (j k : ℕ) → add_to k (add_to j a) ≡ add_to (k + j) a
add_add (ok v n) j k = ap (ok v) (omega arith)
add_add empty j k = refl
add_add (size n p) j k = ap (λ m. size m p) (omega arith)
add_add (overflow p) j k = refl
add_add (invalid v n p) j k = refl

pub by_skip : (t : Bool) (P : Bool → Type 0) → (t ≡ true → P true) → (t ≡ false → P false) → P t
by_skip true P y n = y refl
by_skip false P y n = n refl

-- k zeros at the front of bs were skipped and rest is left, `answer` being what a text with a digit is answered
pub record Skipped (answer : List ℕ → Answer) (skip : Bool) (bs rest : List ℕ) (k : ℕ) : Type 0 where
  pub within : k ≤ length bs
  pub split : rest ≡ drop k bs
  pub none : skip ≡ false → k ≡ 0
  pub digits : 0 < k → 0 < run bs
  pub same : add_to k (answer rest) ≡ answer bs

module _ {answer : List ℕ → Answer} {skip : Bool} {bs rest : List ℕ} {k : ℕ} (s : Skipped answer skip bs rest k) where
  -- where nothing was skipped, all is left
  pub all_left : k ≡ 0 → rest ≡ bs
  all_left e = s.split ∙ ap (λ j. drop j bs) e

  pub some_digits : 0 < run rest → 0 < run bs
  some_digits h = ⊎_elim (λ e. subst (λ l. 0 < run l) (all_left e) h) (λ e. s.digits (omega arith)) (cases_eq k 0)

  -- an answer for what is left
  pub answers : (a : Answer) → answer rest ≡ a → add_to k a ≡ answer bs
  answers a e = ap (add_to k) (sym e) ∙ s.same

  -- y zeros more
  pub next : (y : ℕ) → skip ≡ true → 0 < y → y ≤ zeros rest → add_to y (answer (drop y rest)) ≡ answer rest →
      (y ≤ length rest) × (k + y ≤ length bs) × Skipped answer skip bs (drop y rest) (k + y)
  next y t p h step =
      let z = zeros_le rest in
      let r = prefix_len-le-length is_ascii_digit rest in
      let l : length rest ≡ length bs - k = ap length s.split ∙ length-drop k bs in
      let inside : k + y ≤ length bs = omega (arith, s.within) in (
        omega arith,
        inside,
        record {
          within = inside;
          split = ap (drop y) s.split ∙ drop-drop y k bs;
          none = λ e. absurd (both_ways skip e t);
          digits = λ _. some_digits (omega arith);
          same = sym (add_add (answer (drop y rest)) y k) ∙ ap (add_to k) step ∙ s.same;
        },
      )
