use Rattle.records.specs.Meaning.{row_by}
use Rattle.sheets.proofs.Records.{Left}
use Rattle.sheets.proofs.reader.read_records.Given as goal

abbrev pub invariant-loop-i : goal.invariant-loop-i
invariant-loop-i g l = Left g.K.RecordKind.means l.bytes l.n l.at l.i (row_by g.K.RecordKind.numbers l.last)
