-- Rows that moved by one place, as lists.
use Rattle.std.proofs.Common.{◌≡◌, ℕ, ◌+◌, ◌<◌, ◌≤◌, List, length, set, arith, rules}
use Rattle.std.specs.List.{copy_within}
use Rattle.std.proofs.lemmas.List.{same_lists, places, get_or-set_same}
use Rattle.std.proofs.lemmas.Bool.{cases_eq}
use Rattle.recipes.specs.Slots.{with_entered, with_struck}

module _ {X : Type 0} (xs : List X) (n p : ℕ) where
  pub entered_is : (x : X) → p ≤ n → n < length xs → set (copy_within xs p n (p + 1)) p x ≡ with_entered xs n p x
  entered_is x ord within =
      same_lists _ _ (search (rules, places)) (λ k d h. grind (arith, places, get_or-set_same, cases_eq k p))

  pub struck_is : p < n → n ≤ length xs → copy_within xs (p + 1) n p ≡ with_struck xs n p
  struck_is ord within =
      same_lists _ _ (search (rules, places)) (λ k d h. grind (arith, places))
