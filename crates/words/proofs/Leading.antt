-- How many elements of a list pass a test from the front on.
use Rattle.std.proofs.Common.{◌≡◌, ℕ, suc, ◌+◌, ◌<◌, ◌≤◌, Bool, true, List, [], ◌∷◌, ◌++◌, length, sym, ap, ◌∙◌, ⊎_elim, arith}
use Rattle.std.specs.List.{prefix_len}
use Rattle.std.proofs.lemmas.Bool.{cases_Bool, cond-true, cond-false}

module _ {X : Type 0} (p : X → Bool) where
  pub first_passes : (x : X) (xs : List X) (k : ℕ) → suc k ≤ prefix_len p (x ∷ xs) → (p x ≡ true) × (k ≤ prefix_len p xs)
  first_passes x xs k h =
      ⊎_elim
      (λ e. let is : prefix_len p (x ∷ xs) ≡ 1 + prefix_len p xs = cond-true (p x) (1 + prefix_len p xs) 0 e in (e, omega arith))
      (λ e. let is : prefix_len p (x ∷ xs) ≡ 0 = cond-false (p x) (1 + prefix_len p xs) 0 e in absurd (omega arith))
      (cases_Bool (p x))

  -- where the whole first list passes, the run goes on into the second
  pub prefix_len-append_all : (xs ys : List X) → length xs ≤ prefix_len p xs → prefix_len p (xs ++ ys) ≡ length xs + prefix_len p ys
  prefix_len-append_all [] ys h = omega arith
  prefix_len-append_all (x ∷ xs) ys h =
      let f = first_passes x xs (length xs) h in
      let ih : prefix_len p (xs ++ ys) ≡ length xs + prefix_len p ys = prefix_len-append_all xs ys f.1 in
      cond-true (p x) (1 + prefix_len p (xs ++ ys)) 0 f.0 ∙ omega arith

  pub prefix_len-append_some : (xs ys : List X) → prefix_len p xs < length xs → prefix_len p (xs ++ ys) ≡ prefix_len p xs
  prefix_len-append_some [] ys h = absurd (omega arith)
  prefix_len-append_some (x ∷ xs) ys h =
      ⊎_elim
      (λ e.
      let is = cond-true (p x) (1 + prefix_len p xs) 0 e in
      cond-true (p x) (1 + prefix_len p (xs ++ ys)) 0 e ∙ ap (λ n. 1 + n) (prefix_len-append_some xs ys (omega arith)) ∙ sym is)
      (λ e. cond-false (p x) (1 + prefix_len p (xs ++ ys)) 0 e ∙ sym (cond-false (p x) (1 + prefix_len p xs) 0 e))
      (cases_Bool (p x))
