-- Rising lists of records: one for each set of records, with one more, and with one less.
use Rattle.std.proofs.Common.{◌≡◌, ℕ, zero, suc, ◌<◌, Bool, true, false, cond, ◌≢◌, ◌⊎◌, ◌↔◌, List, [], ◌∷◌, ◌++◌, length, get_or, take, drop, ℤ, sym, refl, ap, ◌∙◌, subst, ap₂, inl, inr, ⊎_elim, arith}
use mathlib.Core.List.{List-discrete}
use lib.IntN.{ℤ_discrete}
use Rattle.std.specs.List.{AllByRecursion}
use Rattle.std.proofs.lemmas.Bool.{both_ways}
use Rattle.records.specs.Kind.{Kind, IsRecord, Lawful}
use Rattle.model.specs.History.{Rising, Holds}

abbrev pub Row : Type 0
Row = List ℤ

pub row_discrete : (r q : Row) → Dec (r ≡ q)
row_discrete r q = List-discrete ℤ_discrete r q

pub holds_all : (P : Row → Type 0) (xs : List Row) (r : Row) → AllByRecursion P xs → Holds xs r → P r
holds_all P [] r a h = absurd h
holds_all P (x ∷ xs) r a (inl e) = subst P e a.0
holds_all P (x ∷ xs) r a (inr h) = holds_all P xs r a.1 h

pub all_holds : (P : Row → Type 0) (xs : List Row) → ((r : Row) → Holds xs r → P r) → AllByRecursion P xs
all_holds P [] f = tt
all_holds P (x ∷ xs) f = (f x (inl refl), all_holds P xs (λ r h. f r (inr h)))

pub holds_dec : (xs : List Row) (r : Row) → Dec (Holds xs r)
holds_dec [] r = no (λ h. h)
holds_dec (x ∷ xs) r = go (row_discrete x r) (holds_dec xs r)
  where
    go : Dec (x ≡ r) → Dec (Holds xs r) → Dec ((x ≡ r) ⊎ Holds xs r)
    go (yes e) d = yes (inl e)
    go (no f) (yes h) = yes (inr h)
    go (no f) (no g) = no (⊎_elim f g)

module _ (k : Kind) (law : Lawful k) where
  pub asym : (x y : Row) → IsRecord k x → IsRecord k y → k.before x y ≡ true → k.before y x ≡ true → ⊥
  asym x y rx ry p q = both_ways (k.before x x) (law.irreflexive x rx) (law.transitive x y x rx ry rx p q)

  pub not_later : (x : Row) (xs : List Row) → IsRecord k x → AllByRecursion (λ y. k.before x y ≡ true) xs → Holds xs x → ⊥
  not_later x xs rx a h = both_ways (k.before x x) (law.irreflexive x rx) (holds_all (λ y. k.before x y ≡ true) xs x a h)

  -- what comes before a record comes before all that it comes before
  pub before_all : (x y : Row) (zs : List Row) → IsRecord k x → IsRecord k y → AllByRecursion (IsRecord k) zs → k.before x y ≡ true
      → AllByRecursion (λ z. k.before y z ≡ true) zs → AllByRecursion (λ z. k.before x z ≡ true) zs
  before_all x y [] rx ry rs e a = tt
  before_all x y (z ∷ zs) rx ry rs e a = (law.transitive x y z rx ry rs.0 e a.0, before_all x y zs rx ry rs.1 e a.1)

  -- lists with equal heads, the second of which holds what the first does
  tails : (x y : Row) (xs ys : List Row) → x ≡ y → IsRecord k x → AllByRecursion (λ z. k.before x z ≡ true) xs
      → ((r : Row) → Holds (x ∷ xs) r → Holds (y ∷ ys) r) → (r : Row) → Holds xs r → Holds ys r
  tails x y xs ys same rx up f r h =
      ⊎_elim (λ e. absurd (not_later x xs rx up (subst (Holds xs) (sym e ∙ sym same) h))) (λ p. p) (f r (inr h))

  -- a rising list is known by what it holds
  pub rising_unique : (xs ys : List Row) → AllByRecursion (IsRecord k) xs → AllByRecursion (IsRecord k) ys → Rising k xs → Rising k ys
      → ((r : Row) → Holds xs r → Holds ys r) → ((r : Row) → Holds ys r → Holds xs r) → xs ≡ ys
  rising_unique [] [] rx ry ux uy f g = refl
  rising_unique [] (y ∷ ys) rx ry ux uy f g = absurd (g y (inl refl))
  rising_unique (x ∷ xs) [] rx ry ux uy f g = absurd (f x (inl refl))
  rising_unique (x ∷ xs) (y ∷ ys) rx ry ux uy f g =
      let same : x ≡ y = heads (f x (inl refl)) (g y (inl refl)) in
      ap₂ (λ p q. p ∷ q) same
      (rising_unique xs ys rx.1 ry.1 ux.1 uy.1 (tails x y xs ys same rx.0 ux.0 f)
      (tails y x ys xs (sym same) ry.0 uy.0 g))
    where
      heads : Holds (y ∷ ys) x → Holds (x ∷ xs) y → x ≡ y
      heads (inl e) h = sym e
      heads (inr p) (inl e) = e
      heads (inr p) (inr q) =
          absurd
          (asym x y rx.0 ry.0 (holds_all (λ z. k.before x z ≡ true) xs y ux.0 q) (holds_all (λ z. k.before y z ≡ true) ys x uy.0 p))

-- ---- one more

abbrev pub insert : Kind → Row → List Row → List Row
insert k r [] = r ∷ []
insert k r (x ∷ xs) = cond (k.before r x) (r ∷ (x ∷ xs)) (x ∷ insert k r xs)

pub holds_insert : (k : Kind) (r : Row) (xs : List Row) (q : Row) → Holds (insert k r xs) q ↔ ((r ≡ q) ⊎ Holds xs q)
holds_insert k r [] q = (λ h. h, λ h. h)
holds_insert k r (x ∷ xs) q = go (k.before r x) (holds_insert k r xs q)
  where
    go : (b : Bool) → Holds (insert k r xs) q ↔ ((r ≡ q) ⊎ Holds xs q)
        → Holds (cond b (r ∷ (x ∷ xs)) (x ∷ insert k r xs)) q ↔ ((r ≡ q) ⊎ ((x ≡ q) ⊎ Holds xs q))
    go true ih = (λ h. h, λ h. h)
    go false ih = (
      ⊎_elim (λ e. inr (inl e)) (λ h. ⊎_elim (λ e. inl e) (λ p. inr (inr p)) (ih.0 h)),
      ⊎_elim (λ e. inr (ih.1 (inl e))) (⊎_elim (λ e. inl e) (λ p. inr (ih.1 (inr p)))),
    )

pub length-insert : (k : Kind) (r : Row) (xs : List Row) → length (insert k r xs) ≡ suc (length xs)
length-insert k r [] = refl
length-insert k r (x ∷ xs) = go (k.before r x) (length-insert k r xs)
  where
    go : (b : Bool) → length (insert k r xs) ≡ suc (length xs) → length (cond b (r ∷ (x ∷ xs)) (x ∷ insert k r xs)) ≡ suc (suc (length xs))
    go true ih = refl
    go false ih = ap suc ih

pub rising_insert : (k : Kind) → Lawful k → (r : Row) (xs : List Row) → IsRecord k r → AllByRecursion (IsRecord k) xs → Rising k xs → (Holds xs r → ⊥)
    → Rising k (insert k r xs)
rising_insert k law r [] rr rx u new = (tt, tt)
rising_insert k law r (x ∷ xs) rr rx u new = go (k.before r x) refl (rising_insert k law r xs rr rx.1 u.1 (λ h. new (inr h)))
  where
    less : k.before r x ≡ false → k.before x r ≡ true
    less e = ⊎_elim (λ p. absurd (both_ways (k.before r x) e p)) (λ q. q) (law.total r x rr rx.0 (λ p. new (inl (sym p))))

    after : k.before x r ≡ true → (z : Row) → Holds (insert k r xs) z → k.before x z ≡ true
    after e z h =
        ⊎_elim (λ p. subst (λ y. k.before x y ≡ true) p e) (holds_all (λ y. k.before x y ≡ true) xs z u.0) ((holds_insert k r xs z).0 h)

    go : (b : Bool) → k.before r x ≡ b → Rising k (insert k r xs) → Rising k (cond b (r ∷ (x ∷ xs)) (x ∷ insert k r xs))
    go true e ih = ((e, before_all k law r x xs rr rx.0 rx.1 e u.0), u)
    go false e ih = (all_holds (λ z. k.before x z ≡ true) (insert k r xs) (after (less e)), ih)

-- the record put into its place
pub insert_at : (k : Kind) (r : Row) (xs : List Row) (i : ℕ) → AllByRecursion (λ x. k.before r x ≡ false) (take i xs)
    → AllByRecursion (λ x. k.before r x ≡ true) (drop i xs) → insert k r xs ≡ take i xs ++ (r ∷ drop i xs)
insert_at k r [] zero p q = refl
insert_at k r [] (suc i) p q = refl
insert_at k r (x ∷ xs) zero p q = rw q.0 refl
insert_at k r (x ∷ xs) (suc i) p q = rw (p.0, insert_at k r xs i p.1 q) refl

-- ---- one less

abbrev pub keep : {P : Type 0} → Dec P → Row → List Row → List Row
keep (yes e) x xs = xs
keep (no f) x xs = x ∷ xs

abbrev pub delete : Row → List Row → List Row
delete r [] = []
delete r (x ∷ xs) = keep (row_discrete x r) x (delete r xs)

pub holds_delete : (r : Row) (xs : List Row) (q : Row) → Holds (delete r xs) q ↔ ((r ≢ q) × Holds xs q)
holds_delete r [] q = (λ h. absurd h, λ h. h.1)
holds_delete r (x ∷ xs) q = go (row_discrete x r) (holds_delete r xs q)
  where
    go : (d : Dec (x ≡ r)) → Holds (delete r xs) q ↔ ((r ≢ q) × Holds xs q)
        → Holds (keep d x (delete r xs)) q ↔ ((r ≢ q) × ((x ≡ q) ⊎ Holds xs q))
    go (yes e) ih = (
      λ h. ((ih.0 h).0, inr (ih.0 h).1),
      λ p. ⊎_elim (λ f. absurd (p.0 (sym e ∙ f))) (λ h. ih.1 (p.0, h)) p.1,
    )
    go (no f) ih = (
      ⊎_elim (λ e. (λ g. f (e ∙ sym g), inl e)) (λ h. ((ih.0 h).0, inr (ih.0 h).1)),
      λ p. ⊎_elim (λ e. inl e) (λ h. inr (ih.1 (p.0, h))) p.1,
    )

pub rising_delete : (k : Kind) (r : Row) (xs : List Row) → Rising k xs → Rising k (delete r xs)
rising_delete k r [] u = tt
rising_delete k r (x ∷ xs) u = go (row_discrete x r) (rising_delete k r xs u.1)
  where
    go : (d : Dec (x ≡ r)) → Rising k (delete r xs) → Rising k (keep d x (delete r xs))
    go (yes e) ih = ih
    go (no f) ih = (
      all_holds (λ z. k.before x z ≡ true) (delete r xs) (λ z h. holds_all (λ y. k.before x y ≡ true) xs z u.0 ((holds_delete r xs z).0 h).1),
      ih,
    )

delete_none : (r : Row) (xs : List Row) → (Holds xs r → ⊥) → delete r xs ≡ xs
delete_none r [] f = refl
delete_none r (x ∷ xs) f = go (row_discrete x r) (delete_none r xs (λ h. f (inr h)))
  where
    go : (d : Dec (x ≡ r)) → delete r xs ≡ xs → keep d x (delete r xs) ≡ x ∷ xs
    go (yes e) ih = absurd (f (inl e))
    go (no g) ih = ap (λ t. x ∷ t) ih

pub holds_at : (xs : List Row) (i : ℕ) (d : Row) → i < length xs → Holds xs (get_or xs i d)
holds_at [] i d h = absurd (omega arith)
holds_at (x ∷ xs) zero d h = inl refl
holds_at (x ∷ xs) (suc i) d h = inr (holds_at xs i d (omega arith))

-- the record at a place taken out
pub delete_at : (k : Kind) → Lawful k → (xs : List Row) (i : ℕ) (d : Row) → AllByRecursion (IsRecord k) xs → Rising k xs → i < length xs
    → delete (get_or xs i d) xs ≡ take i xs ++ drop (suc i) xs
delete_at k law [] i d rs up h = absurd (omega arith)
delete_at k law (x ∷ xs) zero d rs up h = go (row_discrete x x)
  where
    go : (e : Dec (x ≡ x)) → keep e x (delete x xs) ≡ xs
    go (yes e) = delete_none x xs (not_later k law x xs rs.0 up.0)
    go (no f) = absurd (f refl)
delete_at k law (x ∷ xs) (suc i) d rs up h = go (row_discrete x (get_or xs i d)) (delete_at k law xs i d rs.1 up.1 (omega arith))
  where
    go : (e : Dec (x ≡ get_or xs i d)) → delete (get_or xs i d) xs ≡ take i xs ++ drop (suc i) xs
        → keep e x (delete (get_or xs i d) xs) ≡ x ∷ (take i xs ++ drop (suc i) xs)
    go (yes e) ih = absurd (not_later k law x xs rs.0 up.0 (subst (Holds xs) (sym e) (holds_at xs i d (omega arith))))
    go (no f) ih = ap (λ t. x ∷ t) ih

-- so there is one less
pub length-delete : (k : Kind) → Lawful k → (r : Row) (xs : List Row) → AllByRecursion (IsRecord k) xs → Rising k xs → Holds xs r
    → suc (length (delete r xs)) ≡ length xs
length-delete k law r [] rs up h = absurd h
length-delete k law r (x ∷ xs) rs up h = go (row_discrete x r) h (length-delete k law r xs rs.1 up.1)
  where
    go : (e : Dec (x ≡ r)) → Holds (x ∷ xs) r → (Holds xs r → suc (length (delete r xs)) ≡ length xs)
        → suc (length (keep e x (delete r xs))) ≡ suc (length xs)
    go (yes e) p ih = ap (λ t. suc (length t)) (delete_none r xs (λ q. not_later k law x xs rs.0 up.0 (subst (Holds xs) (sym e) q)))
    go (no f) (inl e) ih = absurd (f e)
    go (no f) (inr q) ih = ap suc (ih q)
