-- What is live: records, of which there is one rising list, and what an accepted call changes.
use Rattle.std.proofs.Common.{◌≡◌, ℕ, ◌≢◌, ◌⊎◌, ◌↔◌, List, [], ◌∷◌, refl, ap, ◌∙◌, inl, inr, ⊎_elim, arith}
use mathlib.Core.Logic.Iff
use Rattle.std.specs.List.{AllByRecursion}
use Rattle.records.specs.Kind.{Kind, IsRecord, Lawful}
use Rattle.records.specs.Line.{Section, first, second, InSection}
use Rattle.records.specs.Outcome.{Outcome}
use Rattle.model.specs.History.{Call, enter, strike, clear, History, Layout, over, kind, reading, named, Listed, Names, Accepted, Live}
use Rattle.model.proofs.LinesRead.{line_is}
use Rattle.model.proofs.Orders.{Row, row_discrete, all_holds, rising_unique}
use Rattle.model.proofs.Outcomes.{got_same}

pub first_not_second : first ≢ second
first_not_second e = let z : ◌≡◌ {A = ℕ} 0 1 = cc in omega arith

pub second_not_first : second ≢ first
second_not_first e = let z : ◌≡◌ {A = ℕ} 0 1 = cc in omega arith

pub section_discrete : (s t : Section) → Dec (s ≡ t)
section_discrete first first = yes refl
section_discrete first second = no first_not_second
section_discrete second first = no second_not_first
section_discrete second second = yes refl

pub laws_over : (a b : Kind) → Lawful a → Lawful b → (m n : ℕ) (s : Section) → Lawful (kind (over a b m n) s)
laws_over a b la lb m n first = la
laws_over a b la lb m n second = lb

-- ---- lists of records

pub listed_by : (k : Kind) (P Q : Row → Type 0) (xs : List Row) → ((r : Row) → P r ↔ Q r) → Listed k P xs → Listed k Q xs
listed_by k P Q xs f l = record { rising = l.rising; just = λ r. Iff.trans (l.just r) (f r) }

pub listed_records : (k : Kind) (P : Row → Type 0) (xs : List Row) → ((r : Row) → P r → IsRecord k r) → Listed k P xs → AllByRecursion (IsRecord k) xs
listed_records k P xs f l = all_holds (IsRecord k) xs (λ r h. f r ((l.just r).0 h))

pub listed_unique : (k : Kind) → Lawful k → (P : Row → Type 0) → ((r : Row) → P r → IsRecord k r) → (xs ys : List Row) → Listed k P xs → Listed k P ys
    → xs ≡ ys
listed_unique k law P f xs ys l m =
    rising_unique k law xs ys (listed_records k P xs f l) (listed_records k P ys f m) l.rising m.rising
    (λ r h. (m.just r).1 ((l.just r).0 h)) (λ r h. (l.just r).1 ((m.just r).0 h))

-- ---- what a line names

-- a line names one record, in one section
pub named_same : (o : Outcome InSection) (s t : Section) (r q : Row) → o ≡ named s r → o ≡ named t q → (s ≡ t) × (r ≡ q)
named_same o s t r q e f =
    let same = got_same o (record { section = s; numbers = r }) (record { section = t; numbers = q }) e f in
    (ap (λ n. n.section) same, ap (λ n. n.numbers) same)

pub live_records : (c : Layout) → ((s : Section) → Lawful (kind c s)) → (h : History) (s : Section) (r : Row) → Live c h s r → IsRecord (kind c s) r
live_records c laws [] s r l = absurd l
live_records c laws (enter line ∷ h) s r (inl p) = line_is c laws line (record { section = s; numbers = r }) p.0.1
live_records c laws (strike line ∷ h) s r (inl p) = absurd p.1
live_records c laws (clear ∷ h) s r (inl p) = absurd p.1
live_records c laws (call ∷ h) s r (inr p) = live_records c laws h s r p.1

-- ---- one call more

module _ (c : Layout) where
  -- a call that is refused, or names none of the section's records, leaves the section
  pub live_same : (call : Call) (h : History) (s : Section) → ((r : Row) → Accepted c (Live c h) call → Names c call s r → ⊥)
      → (r : Row) → Live c h s r ↔ Live c (call ∷ h) s r
  live_same call h s f r = (λ l. inr (λ p. f r p.0 p.1, l), ⊎_elim (λ p. absurd (f r p.0.0 p.0.1)) (λ p. p.1))

  -- an accepted enter
  pub live_entered : (line : List ℕ) (h : History) (s : Section) (r : Row) → reading c line ≡ named s r → Accepted c (Live c h) (enter line)
      → (q : Row) → ((r ≡ q) ⊎ Live c h s q) ↔ Live c (enter line ∷ h) s q
  live_entered line h s r e acc q = (there (row_discrete r q), back)
    where
      there : Dec (r ≡ q) → ((r ≡ q) ⊎ Live c h s q) → Live c (enter line ∷ h) s q
      there (yes p) l = inl ((acc, e ∙ ap (named s) p), tt)
      there (no f) (inl p) = absurd (f p)
      there (no f) (inr l) = inr (λ p. f (named_same (reading c line) s s r q e p.1).1, l)

      back : Live c (enter line ∷ h) s q → (r ≡ q) ⊎ Live c h s q
      back (inl p) = inl (named_same (reading c line) s s r q e p.0.1).1
      back (inr p) = inr p.1

  -- an accepted strike
  pub live_struck : (line : List ℕ) (h : History) (s : Section) (r : Row) → reading c line ≡ named s r → Accepted c (Live c h) (strike line)
      → (q : Row) → ((r ≢ q) × Live c h s q) ↔ Live c (strike line ∷ h) s q
  live_struck line h s r e acc q = (there, back)
    where
      there : ((r ≢ q) × Live c h s q) → Live c (strike line ∷ h) s q
      there p = inr (λ n. p.0 (named_same (reading c line) s s r q e n.1).1, p.1)

      back : Live c (strike line ∷ h) s q → (r ≢ q) × Live c h s q
      back (inl p) = absurd p.1
      back (inr p) = (λ x. p.0 (acc, e ∙ ap (named s) x), p.1)
