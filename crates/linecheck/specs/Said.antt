-- What is said of a line, and how many lines of each sort a text has.
use Rattle.std.specs.Prelude.{ℕ, ◌+◌, List, [], ◌∷◌, Some, None, Option}
use Rattle.records.specs.Line.{InSection, Section, first, second, read_line}
use Rattle.records.specs.Outcome.{Outcome, got, refused}
use Rattle.bench.specs.Kinds.{step, limit}

-- nothing of an empty line, and of any other what it reads as
abbrev pub said : List ℕ → Option (Outcome InSection)
said [] = None
said (b ∷ bs) = Some (read_line step limit (b ∷ bs))

abbrev pub of_step : Section → ℕ
of_step first = 1
of_step second = 0

abbrev pub of_limit : Section → ℕ
of_limit first = 0
of_limit second = 1

-- what it counts for in each column of the account
abbrev pub as_step : Option (Outcome InSection) → ℕ
as_step None = 0
as_step (Some (got r)) = of_step r.section
as_step (Some (refused r)) = 0

abbrev pub as_limit : Option (Outcome InSection) → ℕ
as_limit None = 0
as_limit (Some (got r)) = of_limit r.section
as_limit (Some (refused r)) = 0

abbrev pub as_refused : Option (Outcome InSection) → ℕ
as_refused None = 0
as_refused (Some (got r)) = 0
as_refused (Some (refused r)) = 1

abbrev pub as_empty : Option (Outcome InSection) → ℕ
as_empty None = 1
as_empty (Some o) = 0

-- how many of the lines count in the column
abbrev pub count : (Option (Outcome InSection) → ℕ) → List (List ℕ) → ℕ
count column [] = 0
count column (l ∷ ls) = column (said l) + count column ls
