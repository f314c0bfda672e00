-- A recipe's history, and what is live after it.
use Rattle.std.specs.Prelude.{◌≡◌, ℕ, min, true, ◌≢◌, ◌⊎◌, ◌↔◌, List, [], ◌∷◌, ◌++◌, length, ℤ}
use Rattle.std.specs.List.{AllByRecursion}
use Rattle.records.specs.Kind.{Kind}
use Rattle.records.specs.Line.{Section, first, second, InSection, read_line}
use Rattle.records.specs.Outcome.{Outcome, got}

-- enter a line, strike a line, or clear
pub data Call : Type 0 where
  enter strike : List ℕ → Call
  clear : Call

-- the calls since open, the last one first, refused ones included
abbrev pub History : Type 0
History = List Call

-- What a recipe was opened with: its two kinds, and how many slots each section was provided with.
pub record Layout : Type 0 where
  pub kind₁ : Kind
  pub kind₂ : Kind
  pub slots₁ : ℕ
  pub slots₂ : ℕ

abbrev pub over : Kind → Kind → ℕ → ℕ → Layout
over a b m n = record { kind₁ = a; kind₂ = b; slots₁ = m; slots₂ = n }

abbrev pub kind : Layout → Section → Kind
kind c first = c.kind₁
kind c second = c.kind₂

abbrev pub provided : Layout → Section → ℕ
provided c first = c.slots₁
provided c second = c.slots₂

-- of the slots that are provided a section uses 4,096 at most
abbrev pub usable : ℕ → ℕ
usable n = min n 4096

-- what a line reads as, over the recipe's kinds
abbrev pub reading : Layout → List ℕ → Outcome InSection
reading c line = read_line c.kind₁ c.kind₂ line

abbrev pub named : Section → List ℤ → Outcome InSection
named s r = got (record { section = s; numbers = r })

-- ---- lists of records

-- the list holds the record
abbrev pub Holds : List (List ℤ) → List ℤ → Type 0
Holds [] r = ⊥
Holds (x ∷ xs) r = (x ≡ r) ⊎ Holds xs r

-- each record comes before all later ones
abbrev pub Rising : Kind → List (List ℤ) → Type 0
Rising k [] = Unit {0}
Rising k (x ∷ xs) = AllByRecursion (λ y. k.before x y ≡ true) xs × Rising k xs

-- the list holds just the records of which P holds, in rising order
pub record Listed (k : Kind) (P : List ℤ → Type 0) (xs : List (List ℤ)) : Type 0 where
  pub rising : Rising k xs
  pub just : (r : List ℤ) → Holds xs r ↔ P r

-- ---- what is live

-- Enter and strike name the record that their line reads as, in the section of its word; a line that is refused names none. Clear names all.
abbrev pub Names : Layout → Call → Section → List ℤ → Type 0
Names c (enter line) s r = reading c line ≡ named s r
Names c (strike line) s r = reading c line ≡ named s r
Names c clear s r = Unit {0}

-- The call gets no refusal, where L is live just before it. An enter's line has to read as a record that is live already or whose section's count is not
-- that of its usable slots, a strike's line as one that is live. Clear is always accepted.
abbrev pub Accepted : Layout → (Section → List ℤ → Type 0) → Call → Type 0
Accepted c L (enter line) =
    (s : Section) × (r : List ℤ) × Names c (enter line) s r
    × (L s r ⊎ ((xs : List (List ℤ)) × Listed (kind c s) (L s) xs × (length xs ≢ usable (provided c s))))
Accepted c L (strike line) = (s : Section) × (r : List ℤ) × Names c (strike line) s r × L s r
Accepted c L clear = Unit {0}

abbrev pub IsEnter : Call → Type 0
IsEnter (enter line) = Unit {0}
IsEnter (strike line) = ⊥
IsEnter clear = ⊥

-- A record is live if the last accepted call that names it was an enter: the last call of all, if it was accepted and names the record, and otherwise
-- the last such call before it.
abbrev pub Live : Layout → History → Section → List ℤ → Type 0
Live c [] s r = ⊥
Live c (call ∷ h) s r =
    ((Accepted c (Live c h) call × Names c call s r) × IsEnter call)
    ⊎ (((Accepted c (Live c h) call × Names c call s r) → ⊥) × Live c h s r)

-- The same by splitting the history: it has an accepted enter that names the record, and no accepted call after that one names it.
pub record LastEntered (c : Layout) (h : History) (s : Section) (r : List ℤ) : Type 0 where
  pub later : History
  pub line : List ℕ
  pub earlier : History
  pub split : h ≡ later ++ (enter line ∷ earlier)
  pub accepted : Accepted c (Live c earlier) (enter line)
  pub names : Names c (enter line) s r
  pub last : (l₂ : History) (call : Call) (l₁ : History) → later ≡ l₂ ++ (call ∷ l₁)
      → Accepted c (Live c (l₁ ++ (enter line ∷ earlier))) call → Names c call s r → ⊥
