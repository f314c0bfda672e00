-- What a verdict says.
use Rattle.std.specs.Prelude.{Some, None, Option}
use Rattle.records.specs.Line.{InSection, first, second}
use Rattle.records.specs.Meaning.{refused_of}
use Rattle.records.specs.Outcome.{Outcome, got, refused}
use Rattle.bench.specs.Rows.{step_numbers, limit_numbers}
use Rattle.linecheck.specs.declared.verdict.Verdict.{Verdict}
use Rattle.linecheck.specs.declared.verdict.Verdict.TheVariants.{Empty, Step, Limit, Refused}

abbrev pub said_by : Verdict → Option (Outcome InSection)
said_by Empty = None
said_by (Step s) = Some (got (record { section = first; numbers = step_numbers s }))
said_by (Limit l) = Some (got (record { section = second; numbers = limit_numbers l }))
said_by (Refused e) = Some (refused (refused_of e))
