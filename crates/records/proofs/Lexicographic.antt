-- The lexicographic order of lists of numbers: it is irreflexive and transitive, and total on lists of one length.
use Rattle.std.proofs.Common.{◌≡◌, suc, true, false, ◌≢◌, ◌⊎◌, List, [], ◌∷◌, length, ℤ, pos, negsuc, sym, refl, ap, ◌∙◌, inl, inr, ⊎_elim, arith}
use lib.Signed.{lt_z}
use Rattle.std.proofs.lemmas.Int.{ints}
use Rattle.std.proofs.lemmas.Bool.{and_parts, cases_order, lt-ltb}
use Rattle.records.specs.FieldType.{FieldType, holds}
use Rattle.records.specs.Kind.{Kind, IsRecord, fit_all}
use Rattle.records.specs.Lexicographic.{lex_before}

-- one number comes before another, or they are equal
int_lt_cases : (x y : ℤ) → (x ≡ y) ⊎ ((lt_z x y ≡ true) ⊎ (lt_z y x ≡ true))
int_lt_cases (pos a) (pos b) = ⊎_elim (λ e. inl (ap pos e)) (⊎_elim (λ l. inr (inl (lt-ltb a b l))) (λ l. inr (inr (lt-ltb b a l)))) (cases_order a b)
int_lt_cases (pos a) (negsuc b) = inr (inr refl)
int_lt_cases (negsuc a) (pos b) = inr (inl refl)
int_lt_cases (negsuc a) (negsuc b) = ⊎_elim (λ e. inl (ap negsuc e)) (⊎_elim (λ l. inr (inr (lt-ltb a b l))) (λ l. inr (inl (lt-ltb b a l)))) (cases_order a b)

-- ---- lists

pub lex_irrefl : (xs : List ℤ) → lex_before xs xs ≡ false
lex_irrefl [] = refl
lex_irrefl (x ∷ xs) = grind (arith, ints, lex_irrefl xs)

pub lex_trans : (xs ys zs : List ℤ) → lex_before xs ys ≡ true → lex_before ys zs ≡ true → lex_before xs zs ≡ true
lex_trans [] ys zs p q = cc
lex_trans (x ∷ xs) [] zs p q = cc
lex_trans (x ∷ xs) (y ∷ ys) [] p q = cc
lex_trans (x ∷ xs) (y ∷ ys) (z ∷ zs) p q = grind (arith, ints, lex_trans xs ys zs)

lex_total : (xs ys : List ℤ) → length xs ≡ length ys → xs ≢ ys → (lex_before xs ys ≡ true) ⊎ (lex_before ys xs ≡ true)
lex_total [] [] l f = absurd (f refl)
lex_total [] (y ∷ ys) l f = absurd (omega arith)
lex_total (x ∷ xs) [] l f = absurd (omega arith)
lex_total (x ∷ xs) (y ∷ ys) l f = go (int_lt_cases x y) (λ g. lex_total xs ys (omega arith) g)
  where
    go : (x ≡ y) ⊎ ((lt_z x y ≡ true) ⊎ (lt_z y x ≡ true)) → (xs ≢ ys → (lex_before xs ys ≡ true) ⊎ (lex_before ys xs ≡ true)) →
        (lex_before (x ∷ xs) (y ∷ ys) ≡ true) ⊎ (lex_before (y ∷ ys) (x ∷ xs) ≡ true)
    go (inl e) ih = ⊎_elim (λ p. inl (grind (arith, ints))) (λ p. inr (grind (arith, ints))) (ih (λ g. f (λ i. e i ∷ g i)))
    go (inr (inl a)) ih = inl (grind (arith, ints))
    go (inr (inr a)) ih = inr (grind (arith, ints))

-- ---- records of one kind have one length

fit_length : (ts : List FieldType) (vs : List ℤ) → fit_all ts vs ≡ true → length vs ≡ length ts
fit_length [] [] h = refl
fit_length [] (v ∷ vs) h = cc
fit_length (t ∷ ts) [] h = cc
fit_length (t ∷ ts) (v ∷ vs) h = ap suc (fit_length ts vs (and_parts (holds t v) (fit_all ts vs) h).1)

pub lex_total_records : (k : Kind) (r s : List ℤ) → IsRecord k r → IsRecord k s → r ≢ s → (lex_before r s ≡ true) ⊎ (lex_before s r ≡ true)
lex_total_records k r s p q = lex_total r s (fit_length k.types r p.fitting ∙ sym (fit_length k.types s q.fitting))
