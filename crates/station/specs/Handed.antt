-- The records of the bench that a sheet hands out.
use Rattle.std.specs.Prelude.{ℕ, List, [], ◌∷◌, pos}
use Rattle.records.specs.Line.{InSection, first, second}
use Rattle.records.specs.Outcome.{Outcome, and_then}
use Rattle.model.specs.Reading.{read_sheet, record_at}
use Rattle.bench.specs.Kinds.{step, limit}
use Rattle.bench.specs.Rows.{step_numbers}
use Rattle.station.specs.declared.sheet.BenchRecord.{BenchRecord}
use Rattle.station.specs.declared.sheet.BenchRecord.TheVariants.{OfStep, OfLimit}

-- a record by its section and its numbers
abbrev pub record_means : BenchRecord → InSection
record_means (OfStep s) = record { section = first; numbers = step_numbers s }
record_means (OfLimit l) = record { section = second; numbers = pos l.lever ∷ l.low ∷ l.high ∷ [] }

-- record i of the section asked for, of the sheet that the bytes are; or why they are none
abbrev pub record_of_sheet : List ℕ → ℕ → ℕ → Outcome InSection
record_of_sheet bytes asked i = and_then (read_sheet step limit bytes) (λ both. record_at both asked i)
