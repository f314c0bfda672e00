-- What a recipe text is answered with at a station of the bench.
use Rattle.std.specs.Prelude.{◌≡◌, ℕ, ◌+◌, ◌/◌, ◌%◌, ◌<◌, ◌≤◌, cond, List, [], ◌∷◌, ◌++◌, length, take, drop, ℤ, codes, decimal, nat_lt}
use Rattle.records.specs.Outcome.{Refused, plain, Outcome, got, refused}
use Rattle.records.specs.Text.{lines_of}
use Rattle.model.specs.History.{History, Layout, over}
use Rattle.recipes.specs.Calls.{begun, after_all}
use Rattle.recipes.specs.Texts.{entering, AllAccepted, FirstRefused, Frames}
use Rattle.bench.specs.Kinds.{step, limit}

-- a digit of base sixteen: `0` to `9`, then `a` to `f`
abbrev pub hex_digit : ℕ → ℕ
hex_digit d = cond (nat_lt d 10) (48 + d) (87 + d)

-- two digits for each byte, the higher first
abbrev pub hex_of : List ℕ → List ℕ
hex_of [] = []
hex_of (b ∷ bs) = hex_digit (b / 16) ∷ (hex_digit (b % 16) ∷ hex_of bs)

-- each frame in hexadecimal, with an LF behind it
abbrev pub sheet_lines : List ℕ → List ℕ → List ℕ
sheet_lines f g = hex_of f ++ (10 ∷ (hex_of g ++ (10 ∷ [])))

-- `line N refused R at P` and an LF, the numbers in decimal
abbrev pub refusal_line : ℕ → ℕ → ℕ → List ℕ
refusal_line n r p = codes "line " ++ (decimal n ++ (codes " refused " ++ (decimal r ++ (codes " at " ++ (decimal p ++ (10 ∷ []))))))

-- The output of a text: 19 on line 0 where the text is longer than 32,768 bytes; the refusal of the first line that is refused; or the sheet that all
-- lines lead to. The history is that of the lines entered.
pub data Output (c : Layout) (text : List ℕ) : History → List ℕ → Type 0 where
  too_long : 32768 < length text → Output c text [] (refusal_line 0 19 0)
  refused_line : (n : ℕ) (e : Refused) (h : History) → length text ≤ 32768 → FirstRefused c (lines_of text) n e h
      → Output c text h (refusal_line n e.number e.place)
  whole_sheet : (f g : List ℕ) → length text ≤ 32768 → AllAccepted c (lines_of text) [] → Frames c (entering (lines_of text) []) f g
      → Output c text (entering (lines_of text) []) (sheet_lines f g)

-- The text's output over slots that are all used: it stands in the buffer's first bytes, n of them, the rest of the buffer is as before, and every slot
-- holds what the lines entered left there.
pub record Gives (text : List ℕ) (steps limits : List (List ℤ)) (buffer : List ℕ) (n : ℕ) (steps' limits' : List (List ℤ)) (after : List ℕ) : Type 0 where
  pub history : History
  pub output : List ℕ
  pub is : Output (over step limit (length steps) (length limits)) text history output
  pub size : n ≡ length output
  pub front : after ≡ output ++ drop (length output) buffer
  pub first : steps' ≡ (after_all step limit history (begun steps limits)).one.slots
  pub second : limits' ≡ (after_all step limit history (begun steps limits)).two.slots

-- A buffer under 65,536 bytes gets 33, and nothing is altered. Otherwise the call always accepts: of each section's slots the first 1,024 are used, and
-- the others are as before.
pub record PutsOut (text : List ℕ) (steps limits : List (List ℤ)) (buffer : List ℕ) (answer : Outcome ℕ) (steps' limits' : List (List ℤ)) (after : List ℕ) : Type 0 where
  pub short : length buffer < 65536 → (answer ≡ refused (plain 33 0)) × (steps' ≡ steps) × (limits' ≡ limits) × (after ≡ buffer)
  pub done : 65536 ≤ length buffer → (n : ℕ) × (used₁ : List (List ℤ)) × (used₂ : List (List ℤ))
      × Gives text (take 1024 steps) (take 1024 limits) buffer n used₁ used₂ after
      × (answer ≡ got n) × (steps' ≡ used₁ ++ drop 1024 steps) × (limits' ≡ used₂ ++ drop 1024 limits)
