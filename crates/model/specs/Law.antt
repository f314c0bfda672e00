-- The law of recipes and their sheets, over two kinds.
use Rattle.std.specs.Prelude.{◌≡◌, ℕ, ◌<◌, ◌≢◌, ◌↔◌, List, ℤ}
use Rattle.std.specs.List.{AllByRecursion}
use Rattle.records.specs.Kind.{Kind}
use Rattle.records.specs.Line.{Section, first, second}
use Rattle.records.specs.Outcome.{got}
use Rattle.model.specs.History.{Call, enter, strike, clear, History, Layout, over, Listed, Accepted, Live, LastEntered}
use Rattle.model.specs.Answers.{OneAnswer, EnterAnswers, StrikeAnswers, ClearAnswers}
use Rattle.model.specs.Sheet.{Sheet}
use Rattle.model.specs.Reading.{Both, read_sheet}

abbrev pub Byte : ℕ → Type 0
Byte b = b < 256

-- the call's line is bytes
abbrev pub Proper : Call → Type 0
Proper (enter line) = AllByRecursion Byte line
Proper (strike line) = AllByRecursion Byte line
Proper clear = Unit {0}

-- each call has one answer, which is no refusal exactly where the call is accepted
pub record CallsAnswer (c : Layout) (h : History) : Type 0 where
  pub enters : (line : List ℕ) → OneAnswer (EnterAnswers c h line) (Accepted c (Live c h) (enter line))
  pub strikes : (line : List ℕ) → OneAnswer (StrikeAnswers c h line) (Accepted c (Live c h) (strike line))
  pub clears : (all : ℕ) × ClearAnswers c h all × ((k : ℕ) → ClearAnswers c h k → k ≡ all)

-- every history has a sheet, and just one
pub record OneSheet (c : Layout) (h : History) : Type 0 where
  pub some : (bs : List ℕ) × Sheet c h bs
  pub only : (bs cs : List ℕ) → Sheet c h bs → Sheet c h cs → bs ≡ cs

-- section by section, the same records are live after both histories
abbrev pub SameLive : Layout → History → Layout → History → Type 0
SameLive c h c' h' = (s : Section) (r : List ℤ) → Live c h s r ↔ Live c' h' s r

module _ (a b : Kind) where
  -- two sheets are equal bytes exactly when the same records are live
  abbrev pub SameSheets : Type 0
  SameSheets =
      (m n m' n' : ℕ) (h h' : History) (bs bs' : List ℕ) → Sheet (over a b m n) h bs → Sheet (over a b m' n') h' bs'
      → (bs ≡ bs') ↔ SameLive (over a b m n) h (over a b m' n') h'

  -- the bytes are the sheet of some recipe, on some slots and after some history
  abbrev pub SomeSheet : List ℕ → Type 0
  SomeSheet bs = (m : ℕ) × (n : ℕ) × (h : History) × AllByRecursion Proper h × Sheet (over a b m n) h bs

  -- the reader accepts just what some recipe writes, and gives that recipe's live records in rising order
  pub record ReadsSheets : Type 0 where
    pub accepts : (bs : List ℕ) → AllByRecursion Byte bs → ((both : Both) × (read_sheet a b bs ≡ got both)) ↔ SomeSheet bs
    pub gives : (m n : ℕ) (h : History) (bs : List ℕ) (both : Both) → Sheet (over a b m n) h bs → read_sheet a b bs ≡ got both
        → Listed a (Live (over a b m n) h first) both.in₁ × Listed b (Live (over a b m n) h second) both.in₂

  -- The law. Only that a sheet that is read belongs to some recipe needs the kinds' words to differ.
  pub record SheetsIdentifyRecipes : Type 0 where
    pub live_means : (m n : ℕ) (h : History) (s : Section) (r : List ℤ) → Live (over a b m n) h s r ↔ LastEntered (over a b m n) h s r
    pub calls_answer : (m n : ℕ) (h : History) → CallsAnswer (over a b m n) h
    pub one_sheet : (m n : ℕ) (h : History) → OneSheet (over a b m n) h
    pub same_sheets : SameSheets
    pub reads_sheets : a.word ≢ b.word → ReadsSheets
