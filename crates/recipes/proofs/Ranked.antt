-- The place of a record among records in rising order.
use Rattle.std.proofs.Common.{◌≡◌, suc, Bool, true, false, ◌⊎◌, List, [], ◌∷◌, drop, sym, refl, ap, ◌∙◌, subst, inl, inr, ⊎_elim, arith}
use Rattle.std.specs.List.{insert as inserted, remove, AllByRecursion}
use Rattle.std.specs.Ordering.{is_eq}
use Rattle.std.proofs.lemmas.Bool.{both_ways, cond-true, cond-false}
use Rattle.records.specs.Kind.{Kind, IsRecord, Lawful, ordering}
use Rattle.model.specs.History.{Rising, Holds}
use Rattle.model.proofs.Orders.{Row, row_discrete, holds_all, asym, insert, keep, delete}
use Rattle.recipes.specs.Slots.{place_of, begins, is_among}

module _ (k : Kind) (law : Lawful k) (r : Row) (rr : IsRecord k r) where
  eq_itself : is_eq (ordering k r r) ≡ true
  eq_itself = rw (law.irreflexive r rr) refl

  eq_same : (x : Row) → IsRecord k x → is_eq (ordering k x r) ≡ true → x ≡ r
  eq_same x rx e = go (row_discrete x r)
    where
      other : (b : Bool) → k.before x r ≡ b → k.before r x ≡ true → ⊥
      other true p h = both_ways (is_eq (ordering k x r)) (rw p refl) e
      other false p h = both_ways (is_eq (ordering k x r)) (rw (p, h) refl) e

      go : Dec (x ≡ r) → x ≡ r
      go (yes p) = p
      go (no f) = absurd (⊎_elim (λ h. both_ways (is_eq (ordering k x r)) (rw h refl) e) (λ h. other (k.before x r) refl h) (law.total x r rx rr f))

  -- the place goes on past a record that comes before
  place_next : (x : Row) (xs : List Row) → k.before x r ≡ true → place_of k r (x ∷ xs) ≡ suc (place_of k r xs)
  place_next x xs e = cond-true (k.before x r) _ _ e ∙ omega arith

  place_here : (x : Row) (xs : List Row) → k.before x r ≡ false → place_of k r (x ∷ xs) ≡ 0
  place_here x xs e = cond-false (k.before x r) _ _ e

  among_next : (x : Row) (xs : List Row) → k.before x r ≡ true → is_among k r (x ∷ xs) ≡ is_among k r xs
  among_next x xs e = ap (λ p. begins k r (drop p (x ∷ xs))) (place_next x xs e)

  among_here : (x : Row) (xs : List Row) → k.before x r ≡ false → is_among k r (x ∷ xs) ≡ is_eq (ordering k x r)
  among_here x xs e = ap (λ p. begins k r (drop p (x ∷ xs))) (place_here x xs e)

  pub among_holds : (xs : List Row) → AllByRecursion (IsRecord k) xs → is_among k r xs ≡ true → Holds xs r
  among_holds [] rs e = absurd (both_ways false refl e)
  among_holds (x ∷ xs) rs e = go (k.before x r) refl (λ h. among_holds xs rs.1 h)
    where
      go : (b : Bool) → k.before x r ≡ b → (is_among k r xs ≡ true → Holds xs r) → (x ≡ r) ⊎ Holds xs r
      go true p ih = inr (ih (sym (among_next x xs p) ∙ e))
      go false p ih = inl (eq_same x rs.0 (sym (among_here x xs p) ∙ e))

  pub holds_among : (xs : List Row) → Rising k xs → Holds xs r → is_among k r xs ≡ true
  holds_among [] up h = absurd h
  holds_among (x ∷ xs) up h = go (k.before x r) refl h (λ g. holds_among xs up.1 g)
    where
      go : (b : Bool) → k.before x r ≡ b → (x ≡ r) ⊎ Holds xs r → (Holds xs r → is_among k r xs ≡ true) → is_among k r (x ∷ xs) ≡ true
      go true p (inl e) ih = absurd (both_ways (k.before r r) (law.irreflexive r rr) (subst (λ y. k.before y r ≡ true) e p))
      go true p (inr g) ih = among_next x xs p ∙ ih g
      go false p (inl e) ih = among_here x xs p ∙ ap (λ y. is_eq (ordering k y r)) e ∙ eq_itself
      go false p (inr g) ih = absurd (both_ways (k.before x r) p (holds_all (λ y. k.before x y ≡ true) xs r up.0 g))

  -- put in at its place, the record is inserted
  pub insert_place : (xs : List Row) → AllByRecursion (IsRecord k) xs → (Holds xs r → ⊥) → inserted xs (place_of k r xs) r ≡ insert k r xs
  insert_place [] rs new = refl
  insert_place (x ∷ xs) rs new = go (k.before x r) refl (insert_place xs rs.1 (λ h. new (inr h)))
    where
      not_both : k.before x r ≡ true → (b : Bool) → k.before r x ≡ b → k.before r x ≡ false
      not_both p true h = absurd (asym k law x r rs.0 rr p h)
      not_both p false h = h

      go : (b : Bool) → k.before x r ≡ b → inserted xs (place_of k r xs) r ≡ insert k r xs → inserted (x ∷ xs) (place_of k r (x ∷ xs)) r ≡ insert k r (x ∷ xs)
      go true p ih =
          let q : k.before r x ≡ false = not_both p (k.before r x) refl in
          ap (λ i. inserted (x ∷ xs) i r) (place_next x xs p) ∙ ap (λ t. x ∷ t) ih ∙ sym (rw q refl)
      go false p ih =
          let q : k.before r x ≡ true = ⊎_elim (λ h. absurd (both_ways (k.before x r) p h)) (λ h. h) (law.total x r rs.0 rr (λ e. new (inl e))) in
          ap (λ i. inserted (x ∷ xs) i r) (place_here x xs p) ∙ sym (rw q refl)

  gone : (xs : List Row) → (Holds xs r → ⊥) → delete r xs ≡ xs
  gone [] f = refl
  gone (x ∷ xs) f = go (row_discrete x r) (gone xs (λ h. f (inr h)))
    where
      go : (d : Dec (x ≡ r)) → delete r xs ≡ xs → keep d x (delete r xs) ≡ x ∷ xs
      go (yes e) ih = absurd (f (inl e))
      go (no g) ih = ap (λ t. x ∷ t) ih

  -- taken out at its place, the record is deleted
  pub delete_place : (xs : List Row) → AllByRecursion (IsRecord k) xs → Rising k xs → is_among k r xs ≡ true → remove xs (place_of k r xs) ≡ delete r xs
  delete_place [] rs up e = absurd (both_ways false refl e)
  delete_place (x ∷ xs) rs up e = go (k.before x r) refl (row_discrete x r) (λ h. delete_place xs rs.1 up.1 h)
    where
      go : (b : Bool) → k.before x r ≡ b → (d : Dec (x ≡ r)) → (is_among k r xs ≡ true → remove xs (place_of k r xs) ≡ delete r xs)
          → remove (x ∷ xs) (place_of k r (x ∷ xs)) ≡ keep d x (delete r xs)
      go true p (yes q) ih = absurd (both_ways (k.before r r) (law.irreflexive r rr) (subst (λ y. k.before y r ≡ true) q p))
      go true p (no f) ih = ap (λ i. remove (x ∷ xs) i) (place_next x xs p) ∙ ap (λ t. x ∷ t) (ih (sym (among_next x xs p) ∙ e))
      go false p (yes q) ih =
          ap (λ i. remove (x ∷ xs) i) (place_here x xs p) ∙ sym (gone xs (λ h. both_ways (k.before x r) p (holds_all (λ y. k.before x y ≡ true) xs r up.0 h)))
      go false p (no f) ih = absurd (f (eq_same x rs.0 (sym (among_here x xs p) ∙ e)))
