-- What enter, strike and clear answer after a history.
use Rattle.std.specs.Prelude.{◌≡◌, ℕ, ◌+◌, ◌⊎◌, ◌↔◌, List, ◌∷◌, length, ℤ}
use Rattle.records.specs.Line.{Section, first, second}
use Rattle.records.specs.Outcome.{Refused, plain, Outcome, got, refused}
use Rattle.model.specs.History.{enter, strike, History, Layout, kind, provided, usable, reading, named, Listed, Live}

-- a section by its number
abbrev pub number_of : Section → ℕ
number_of first = 1
number_of second = 2

-- the section's number, and its count of live records afterwards
pub record Done : Type 0 where
  pub section : ℕ
  pub count : ℕ

abbrev pub done : Section → ℕ → Outcome Done
done s n = got (record { section = number_of s; count = n })

-- n records of the section are live after the history
abbrev pub Count : Layout → History → Section → ℕ → Type 0
Count c h s n = (xs : List (List ℤ)) × Listed (kind c s) (Live c h s) xs × (length xs ≡ n)

-- An enter after the history: the line's own refusal; 31 where the record is not live and the section's count is that of its usable slots; and otherwise
-- the section and its count with this call.
pub data EnterAnswers (c : Layout) (h : History) (line : List ℕ) : Outcome Done → Type 0 where
  unread : (f : Refused) → reading c line ≡ refused f → EnterAnswers c h line (refused f)
  full : (s : Section) (r : List ℤ) → reading c line ≡ named s r → (Live c h s r → ⊥) → Count c h s (usable (provided c s))
      → EnterAnswers c h line (refused (plain 31 0))
  entered : (s : Section) (r : List ℤ) (n : ℕ) → reading c line ≡ named s r → Live c h s r ⊎ (Count c h s (usable (provided c s)) → ⊥)
      → Count c (enter line ∷ h) s n → EnterAnswers c h line (done s n)

-- A strike after the history: the line's own refusal; 32 where the record is not live; and otherwise the section and its count with this call.
pub data StrikeAnswers (c : Layout) (h : History) (line : List ℕ) : Outcome Done → Type 0 where
  unread : (f : Refused) → reading c line ≡ refused f → StrikeAnswers c h line (refused f)
  absent : (s : Section) (r : List ℤ) → reading c line ≡ named s r → (Live c h s r → ⊥) → StrikeAnswers c h line (refused (plain 32 0))
  struck : (s : Section) (r : List ℤ) (n : ℕ) → reading c line ≡ named s r → Live c h s r → Count c (strike line ∷ h) s n
      → StrikeAnswers c h line (done s n)

-- how many records were live in all
abbrev pub ClearAnswers : Layout → History → ℕ → Type 0
ClearAnswers c h all = (m : ℕ) × (n : ℕ) × Count c h first m × Count c h second n × (all ≡ m + n)

-- a call has one answer, which is no refusal exactly where the call is accepted
pub record OneAnswer (Answers : Outcome Done → Type 0) (accepted : Type 0) : Type 0 where
  pub some : (o : Outcome Done) × Answers o
  pub only : (o o' : Outcome Done) → Answers o → Answers o' → o ≡ o'
  pub accepts : ((d : Done) × Answers (got d)) ↔ accepted
