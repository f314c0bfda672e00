-- What it is for two sections to have had a history.
use Rattle.std.specs.Prelude.{◌≡◌, ℕ, ◌≤◌, List, ◌∷◌, length}
use Rattle.records.specs.Kind.{Kind}
use Rattle.records.specs.Line.{Section, first, second}
use Rattle.records.specs.Outcome.{Outcome}
use Rattle.model.specs.Answers.{Done, EnterAnswers, StrikeAnswers, ClearAnswers}
use Rattle.model.specs.History.{enter, strike, clear, History, Layout, over, kind, provided, usable, Listed, Live}
use Rattle.model.specs.Sheet.{Sheet, Writes}
use Rattle.recipes.specs.Calls.{Sections}
use Rattle.recipes.specs.Slots.{State, live}

-- the section's first slots hold its live records after the history, in rising order
pub record Holding (c : Layout) (h : History) (x : Section) (s : State) : Type 0 where
  pub sized : length s.slots ≡ provided c x
  pub within : s.count ≤ usable (provided c x)
  pub listed : Listed (kind c x) (Live c h x) (live s)

-- the two sections are those of a recipe that was opened with c and has had the history since
pub record Reached (c : Layout) (h : History) (s : Sections) : Type 0 where
  pub one : Holding c h first s.one
  pub two : Holding c h second s.two

-- For every history that brought the sections here: the answer is the one that the history defines, and the sections have then had that history with
-- this call.
abbrev pub Enters : Kind → Kind → List ℕ → Sections → Outcome Done → Sections → Type 0
Enters a b line s answer t =
    (m n : ℕ) (h : History) → Reached (over a b m n) h s → EnterAnswers (over a b m n) h line answer × Reached (over a b m n) (enter line ∷ h) t

abbrev pub Strikes : Kind → Kind → List ℕ → Sections → Outcome Done → Sections → Type 0
Strikes a b line s answer t =
    (m n : ℕ) (h : History) → Reached (over a b m n) h s → StrikeAnswers (over a b m n) h line answer × Reached (over a b m n) (strike line ∷ h) t

abbrev pub Clears : Kind → Kind → Sections → ℕ → Sections → Type 0
Clears a b s answer t =
    (m n : ℕ) (h : History) → Reached (over a b m n) h s → ClearAnswers (over a b m n) h answer × Reached (over a b m n) (clear ∷ h) t

-- the sheet of the history goes into the buffer, unless that is too short
pub record WritesSheet (c : Layout) (h : History) (buffer : List ℕ) (answer : Outcome ℕ) (after : List ℕ) : Type 0 where
  pub sheet : List ℕ
  pub is : Sheet c h sheet
  pub writes : Writes sheet buffer answer after
