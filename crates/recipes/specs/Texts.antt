-- A text's lines entered in turn, empty ones left out, up to the first that is refused.
use Rattle.std.specs.Prelude.{◌≡◌, ℕ, suc, ◌<◌, ◌≤◌, ◌≢◌, List, [], ◌∷◌, ◌++◌, length, drop, ℤ}
use Rattle.records.specs.Kind.{Kind}
use Rattle.records.specs.Outcome.{Refused, refused}
use Rattle.records.specs.Text.{lines_of}
use Rattle.model.specs.Answers.{EnterAnswers}
use Rattle.model.specs.History.{enter, History, Layout, over, Accepted, Live}
use Rattle.model.specs.Sheet.{frame, Sheet}
use Rattle.recipes.specs.Calls.{after_all, begun}

-- the history that the lines make, after another
abbrev pub entering : List (List ℕ) → History → History
entering [] h = h
entering ([] ∷ ls) h = entering ls h
entering ((b ∷ bs) ∷ ls) h = entering ls (enter (b ∷ bs) ∷ h)

-- each line that is not empty is accepted in its turn, after a history
abbrev pub AllAccepted : Layout → List (List ℕ) → History → Type 0
AllAccepted c [] h = Unit {0}
AllAccepted c ([] ∷ ls) h = AllAccepted c ls h
AllAccepted c ((b ∷ bs) ∷ ls) h = Accepted c (Live c h) (enter (b ∷ bs)) × AllAccepted c ls (enter (b ∷ bs) ∷ h)

-- The line of this number, counted from 1 with empty lines, is the first that is refused, with this refusal; h is the history of the lines before it.
pub record FirstRefused (c : Layout) (lines : List (List ℕ)) (number : ℕ) (f : Refused) (h : History) : Type 0 where
  pub before : List (List ℕ)
  pub line : List ℕ
  pub behind : List (List ℕ)
  pub split : lines ≡ before ++ (line ∷ behind)
  pub counted : number ≡ suc (length before)
  pub some : line ≢ []
  pub history : h ≡ entering before []
  pub accepted : AllAccepted c before []
  pub answer : EnterAnswers c h line (refused f)

-- the two frames of the history's sheet
pub record Frames (c : Layout) (h : History) (f g : List ℕ) : Type 0 where
  pub sheet : Sheet c h (f ++ g)
  pub first : f ≡ frame c.kind₁ sheet.records₁
  pub second : g ≡ frame c.kind₂ sheet.records₂

-- what comes of a text: the lengths of the sheet's two frames, a refused line, or a buffer that is too short
pub data Ending : Type 0 where
  sheet : ℕ → ℕ → Ending
  stopped : ℕ → Refused → Ending
  short : Ending

-- How a text ends, after which history, and what the buffer holds then. The buffer is altered only where the sheet is written into its first bytes.
pub data Ends (c : Layout) (text buffer : List ℕ) : History → Ending → List ℕ → Type 0 where
  written : (f g : List ℕ) → AllAccepted c (lines_of text) [] → Frames c (entering (lines_of text) []) f g → length (f ++ g) ≤ length buffer
      → Ends c text buffer (entering (lines_of text) []) (sheet (length f) (length g)) ((f ++ g) ++ drop (length (f ++ g)) buffer)
  refused_at : (n : ℕ) (e : Refused) (h : History) → FirstRefused c (lines_of text) n e h → Ends c text buffer h (stopped n e) buffer
  no_room : (f g : List ℕ) → AllAccepted c (lines_of text) [] → Frames c (entering (lines_of text) []) f g → length buffer < length (f ++ g)
      → Ends c text buffer (entering (lines_of text) []) short buffer

-- What a text does to a recipe that is opened over these slots: how it ends, what the buffer holds then, and that every slot holds what the lines entered
-- left there.
pub record TakesText (a b : Kind) (slots₁ slots₂ : List (List ℤ)) (text buffer : List ℕ) (ending : Ending) (slots₁' slots₂' : List (List ℤ)) (after : List ℕ) : Type 0 where
  pub history : History
  pub ends : Ends (over a b (length slots₁) (length slots₂)) text buffer history ending after
  pub first : slots₁' ≡ (after_all a b history (begun slots₁ slots₂)).one.slots
  pub second : slots₂' ≡ (after_all a b history (begun slots₁ slots₂)).two.slots
