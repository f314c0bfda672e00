-- Frames, the sheet of a history, and what writing a sheet leaves.
use Rattle.std.specs.Prelude.{◌≡◌, ℕ, cond, List, [], ◌∷◌, ◌++◌, length, drop, ℤ, nat_lt}
use Rattle.words.specs.Bytes.{bytes_le}
use Rattle.records.specs.Kind.{Kind}
use Rattle.records.specs.Line.{first, second}
use Rattle.records.specs.Outcome.{plain, Outcome, got, refuse_if}
use Rattle.records.specs.Payload.{payload}
use Rattle.model.specs.History.{History, Layout, Listed, Live}

-- the payloads of records, one after another
abbrev pub payloads : Kind → List (List ℤ) → List ℕ
payloads k [] = []
payloads k (x ∷ xs) = payload k.types x ++ payloads k xs

-- four bytes for the payload's length, two for the kind's number, both with the lowest byte first, then the payload
abbrev pub frame : Kind → List (List ℤ) → List ℕ
frame k xs = bytes_le 4 (length (payloads k xs)) ++ (bytes_le 2 k.number ++ payloads k xs)

-- The bytes are the sheet of the recipe after the history: section 1's frame, then section 2's, each of the section's live records in rising order.
pub record Sheet (c : Layout) (h : History) (bytes : List ℕ) : Type 0 where
  pub records₁ : List (List ℤ)
  pub records₂ : List (List ℤ)
  pub listed₁ : Listed c.kind₁ (Live c h first) records₁
  pub listed₂ : Listed c.kind₂ (Live c h second) records₂
  pub written : bytes ≡ frame c.kind₁ records₁ ++ frame c.kind₂ records₂

-- Writing a sheet into a buffer: the sheet takes the buffer's first bytes and no others, and the answer is how many; 33 where the buffer is shorter than
-- the sheet, and then it is left as it was.
pub record Writes (sheet buffer : List ℕ) (answer : Outcome ℕ) (after : List ℕ) : Type 0 where
  pub answers : answer ≡ refuse_if (nat_lt (length buffer) (length sheet)) (plain 33 0) (got (length sheet))
  pub bytes : after ≡ cond (nat_lt (length buffer) (length sheet)) buffer (sheet ++ drop (length sheet) buffer)
