-- How a line is read, with the refusals 11 to 17 and their places. Places are offsets in the line, from 0.
use Rattle.std.specs.Prelude.{ℕ, ◌+◌, Bool, true, cond, not, List, [], ◌∷◌, length, take, drop, ℤ, Some, ◌==◌, nat_lt}
use Rattle.std.specs.List.{prefix_len}
use Rattle.std.specs.Str.{bytes_eq}
use Rattle.atoi_simd.specs.Answer.{Answer, ok, empty, size, overflow, invalid}
use Rattle.records.specs.FieldType.{FieldType, reads}
use Rattle.records.specs.Kind.{Kind}
use Rattle.records.specs.Outcome.{Outcome, got, refused, plain, refuse_if, and_then}

abbrev pub is_space : ℕ → Bool
is_space b = b == 32

-- the first place from `at` on where no space stands, or the line's end
abbrev pub past_spaces : List ℕ → ℕ → ℕ
past_spaces line at = at + prefix_len is_space (drop at line)

-- a number that was read, and the place behind it
pub record Numeral : Type 0 where
  pub value : ℤ
  pub behind : ℕ

-- What the prefix rule answers, at a place of the line. Its faults are the refusals 12 (no digit), 13 (too many digits) and 14 (the number does not
-- fit); it has no other.
abbrev pub placed : ℕ → Answer → Outcome Numeral
placed at (ok v n) = got (record { value = v; behind = at + n })
placed at empty = refused (record { number = 12; place = at; fault = Some empty })
placed at (size n part) = refused (record { number = 13; place = at; fault = Some (size n part) })
placed at (overflow part) = refused (record { number = 14; place = at; fault = Some (overflow part) })
placed at (invalid v n part) = refused (record { number = 0; place = at; fault = Some (invalid v n part) })

-- a space stands first, or nothing
abbrev pub stops : List ℕ → Bool
stops [] = true
stops (b ∷ bs) = is_space b

-- 15 where the byte behind a number is no space
abbrev pub stopped : List ℕ → Numeral → Outcome Numeral
stopped line n = refuse_if (not (stops (drop n.behind line))) (plain 15 n.behind) (got n)

-- the number that starts at the place
abbrev pub number_at : FieldType → List ℕ → ℕ → Outcome Numeral
number_at t line at = placed at (reads t (drop at line))

-- the next number, from a place where a space stands or the line ends
abbrev pub next : FieldType → List ℕ → ℕ → Outcome Numeral
next t line at = and_then (number_at t line (past_spaces line at)) (stopped line)

-- a number for each type; 16 where the line goes on behind the last one
abbrev pub read_numbers : List FieldType → List ℕ → ℕ → Outcome (List ℤ)
read_numbers [] line at = refuse_if (nat_lt at (length line)) (plain 16 at) (got [])
read_numbers (t ∷ ts) line at =
    and_then (next t line at) (λ n.
    and_then (read_numbers ts line n.behind) (λ vs. got (n.value ∷ vs)))

-- what stands behind the word; 17 where the line is read to its end and the condition fails
abbrev pub read_behind : Kind → List ℕ → ℕ → Outcome (List ℤ)
read_behind k line at = and_then (read_numbers k.types line at) (λ vs. refuse_if (not (k.condition vs)) (plain 17 0) (got vs))

-- the place of the first space, or the line's end
abbrev pub word_end : List ℕ → ℕ
word_end line = prefix_len (λ b. not (is_space b)) line

abbrev pub word_of : List ℕ → List ℕ
word_of line = take (word_end line) line

pub data Section : Type 0 where
  first second : Section

-- a record in a section
pub record InSection : Type 0 where
  pub section : Section
  pub numbers : List ℤ

-- the line, known to begin with the kind's word, as a record of the section
abbrev pub read_in : Section → Kind → List ℕ → Outcome InSection
read_in s k line = and_then (read_behind k line (word_end line)) (λ vs. got (record { section = s; numbers = vs }))

-- A line of one of two kinds; 11 where its word is neither's.
abbrev pub read_line : Kind → Kind → List ℕ → Outcome InSection
read_line a b line =
    cond (bytes_eq (word_of line) a.word) (read_in first a line)
    (cond (bytes_eq (word_of line) b.word) (read_in second b line)
    (refused (plain 11 0)))
