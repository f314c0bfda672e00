-- What the law of sheets says of texts and their outputs.
use Rattle.std.specs.Prelude.{◌≡◌, ℕ, ◌≤◌, ◌↔◌, List, [], length}
use Rattle.records.specs.Text.{lines_of}
use Rattle.model.specs.History.{History, Layout, over}
use Rattle.model.specs.Law.{SameLive}
use Rattle.recipes.specs.Texts.{AllAccepted}
use Rattle.bench.specs.Kinds.{step, limit}
use Rattle.station.specs.Output.{Output}

-- the text is not too long, and none of its lines is refused
pub record AcceptedWhole (c : Layout) (text : List ℕ) : Type 0 where
  pub few : length text ≤ 32768
  pub lines : AllAccepted c (lines_of text) []

pub record OutputsIdentifyRecipes : Type 0 where
  -- every text has one output, with one history
  pub one_output : (m n : ℕ) (text : List ℕ) → (h : History) × (o : List ℕ) × Output (over step limit m n) text h o
      × ((h' : History) (o' : List ℕ) → Output (over step limit m n) text h' o' → (h' ≡ h) × (o' ≡ o))
  -- a text has the output of one that is accepted whole exactly when it is accepted whole too and the same records are live after its lines
  pub same_outputs : (m n m' n' : ℕ) (text text' : List ℕ) (h h' : History) (o o' : List ℕ)
      → Output (over step limit m n) text h o → Output (over step limit m' n') text' h' o' → AcceptedWhole (over step limit m n) text
      → (o ≡ o') ↔ (AcceptedWhole (over step limit m' n') text' × SameLive (over step limit m n) h (over step limit m' n') h')
