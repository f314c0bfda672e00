-- For two lists of records a history after which just these are live.
use Rattle.std.proofs.Common.{◌≡◌, ◌≤◌, ◌≢◌, ◌↔◌, List, [], ◌∷◌, length, subst, arith}
use mathlib.Core.Logic.Iff
use Rattle.std.specs.List.{AllByRecursion}
use Rattle.records.specs.Kind.{Kind, IsRecord, Lawful}
use Rattle.records.specs.Line.{Section}
use Rattle.model.specs.History.{enter, History, Layout, kind, provided, usable, reading, named, Rising, Listed, Live}
use Rattle.model.specs.Law.{Proper}
use Rattle.model.proofs.Orders.{Row, not_later, insert_at}
use Rattle.model.proofs.Spelled.{line_of, line_read, line_bytes}
use Rattle.model.proofs.Steps.{enter_new, enter_other}

-- the records entered, the last one first, after h
abbrev pub entered : Kind → List Row → History → History
entered k [] h = h
entered k (x ∷ xs) h = enter (line_of k x) ∷ entered k xs h

pub entered_proper : (k : Kind) → Lawful k → (xs : List Row) (h : History) → AllByRecursion (IsRecord k) xs → AllByRecursion Proper h → AllByRecursion Proper (entered k xs h)
entered_proper k law [] h rs p = p
entered_proper k law (x ∷ xs) h rs p = (line_bytes k law x rs.0, entered_proper k law xs h rs.1 p)

module _ (c : Layout) (laws : (s : Section) → Lawful (kind c s)) (apart : c.kind₁.word ≢ c.kind₂.word) (s : Section) where
  -- just the records entered are live in their section, if none was and there are slots enough
  pub entered_listed : (xs : List Row) (h : History) → AllByRecursion (IsRecord (kind c s)) xs → Rising (kind c s) xs → length xs ≤ usable (provided c s)
      → ((q : Row) → Live c h s q → ⊥) → Listed (kind c s) (Live c (entered (kind c s) xs h) s) xs
  entered_listed [] h rs up room none = record { rising = tt; just = λ q. (λ x. absurd x, none q) }
  entered_listed (x ∷ xs) h rs up room none =
      let k = kind c s in
      let h' = entered k xs h in
      let line = line_of k x in
      let e : reading c line ≡ named s x = line_read c laws apart s x rs.0 in
      let l = entered_listed xs h rs.1 up.1 (omega arith) none in
      let new = not_later k (laws s) x xs rs.0 up.0 in
      subst (Listed k (Live c (enter line ∷ h') s)) (insert_at k x xs 0 tt up.0) (enter_new c laws h' line s x e xs l new (λ p. omega arith)).0

  -- the other section is left
  pub entered_other : (t : Section) → s ≢ t → (xs : List Row) (h : History) → AllByRecursion (IsRecord (kind c s)) xs
      → (q : Row) → Live c h t q ↔ Live c (entered (kind c s) xs h) t q
  entered_other t ne [] h rs q = (λ l. l, λ l. l)
  entered_other t ne (x ∷ xs) h rs q =
      Iff.trans (entered_other t ne xs h rs.1 q)
      (enter_other c laws (entered (kind c s) xs h) (line_of (kind c s) x) s x (line_read c laws apart s x rs.0) t ne q)
