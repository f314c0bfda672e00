-- How a sheet is read, with the refusals 21 to 28 and their places. Places are offsets in the sheet, from 0.
use Rattle.std.specs.Prelude.{ℕ, zero, suc, ◌+◌, ◌/◌, ◌%◌, Bool, true, cond, not, ◌||◌, List, [], ◌∷◌, length, take, drop, ℤ, Some, None, Option, ◌==◌, nat_lt}
use Rattle.words.specs.Bytes.{word_le}
use Rattle.records.specs.Kind.{Kind}
use Rattle.records.specs.Line.{InSection, first, second}
use Rattle.records.specs.Outcome.{plain, Outcome, got, refused, refuse_if, and_then}
use Rattle.records.specs.Payload.{payload_size, numbers_of}
use Rattle.model.specs.History.{named}

-- the record stands after the one before it, if there is one
abbrev pub after : Kind → Option (List ℤ) → List ℤ → Bool
after k None r = true
after k (Some x) r = k.before x r

-- n records from the place on, `last` being the one before them: 25 where a record's condition fails, 26 where it is not after the record before it
abbrev pub read_records : Kind → List ℕ → ℕ → ℕ → Option (List ℤ) → Outcome (List (List ℤ))
read_records k bytes zero at last = got []
read_records k bytes (suc n) at last =
    let r = numbers_of k.types (drop at bytes) in
    refuse_if (not (k.condition r)) (plain 25 at)
    (refuse_if (not (after k last r)) (plain 26 at)
    (and_then (read_records k bytes n (at + payload_size k.types) (Some r)) (λ rs. got (r ∷ rs))))

-- the payload's length and the kind's number that the frame at the place gives
abbrev pub length_at : List ℕ → ℕ → ℕ
length_at bytes at = word_le (take 4 (drop at bytes))

abbrev pub number_at : List ℕ → ℕ → ℕ
number_at bytes at = word_le (take 2 (drop (at + 4) bytes))

-- the place behind the frame
abbrev pub behind : List ℕ → ℕ → ℕ
behind bytes at = at + 6 + length_at bytes at

-- The frame at the place. 21: under 6 bytes are left. 22: the kind is another. 23: the length is no multiple of one record's bytes, or that of more than
-- 4,096 records. 24: the payload is cut short. Then its records.
abbrev pub read_frame : Kind → List ℕ → ℕ → Outcome (List (List ℤ))
read_frame k bytes at =
    let size = payload_size k.types in
    refuse_if (nat_lt (length bytes) (at + 6)) (plain 21 at)
    (refuse_if (not (number_at bytes at == k.number)) (plain 22 (at + 4))
    (refuse_if (not (length_at bytes at % size == 0) || nat_lt 4096 (length_at bytes at / size)) (plain 23 at)
    (refuse_if (nat_lt (length bytes) (behind bytes at)) (plain 24 (at + 6))
    (read_records k bytes (length_at bytes at / size) (at + 6) None))))

-- the records of both sections; their counts are the lists' lengths
pub record Both : Type 0 where
  pub in₁ : List (List ℤ)
  pub in₂ : List (List ℤ)

-- A whole sheet: its first frame, its second, and 27 where bytes follow that one.
abbrev pub read_sheet : Kind → Kind → List ℕ → Outcome Both
read_sheet a b bytes =
    and_then (read_frame a bytes 0) (λ xs.
    and_then (read_frame b bytes (behind bytes 0)) (λ ys.
    refuse_if (nat_lt (behind bytes (behind bytes 0)) (length bytes)) (plain 27 (behind bytes (behind bytes 0)))
    (got (record { in₁ = xs; in₂ = ys }))))

-- how many records the sections have
abbrev pub counts : Both → ℕ × ℕ
counts both = (length both.in₁, length both.in₂)

-- record i of a list, counted from 0; 28 where there is none
abbrev pub nth : List (List ℤ) → ℕ → Outcome (List ℤ)
nth [] i = refused (plain 28 0)
nth (x ∷ xs) zero = got x
nth (x ∷ xs) (suc i) = nth xs i

-- record i of the section asked for; 28 where that section is not 1 or 2
abbrev pub record_at : Both → ℕ → ℕ → Outcome InSection
record_at both asked i =
    cond (asked == 1) (and_then (nth both.in₁ i) (named first))
    (cond (asked == 2) (and_then (nth both.in₂ i) (named second))
    (refused (plain 28 0)))
