use Rattle.records.specs.Meaning.{row_by}
use Rattle.sheets.proofs.Records.{record_read}
use Rattle.sheets.proofs.reader.read_records.Goals as goal

pub loop-i-preserved : goal.loop-i-preserved
loop-i-preserved g c =
    record_read g.K.RecordKind.means c.args.bytes.now c.args.n c.args.at c.loop-i.i (row_by g.K.RecordKind.numbers c.loop-i.last)
    c.loop-i.invariant c.loop-i-test.true c.record_size-size.result c.record_size-size.ensures.value c.tail.result.now c.tail.ensures
    (g.K.RecordKind.numbers c.in-Some.row) c.in-Some.ensures.value c.follows.result c.follows.ensures c.if-not-follows.false
