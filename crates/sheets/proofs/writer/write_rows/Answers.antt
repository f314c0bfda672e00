use Rattle.std.proofs.Common.{◌+◌, ◌*◌, length, arith}
use Rattle.records.specs.Payload.{payload, payload_size}
use Rattle.sheets.proofs.Puts.{written_room}
use Rattle.sheets.proofs.Sizes.{record_room}
use Rattle.sheets.proofs.Writing.{row_written}
use Rattle.sheets.proofs.writer.write_rows.Goals as goal

pub loop-i-preserved : goal.loop-i-preserved
loop-i-preserved g c =
    let k = g.K.RecordKind.means in
    let i = c.loop-i.i in
    let x = c.index-rows-i.result in
    let size = c.record_size-size.result in
    let wide = c.record_size-size.ensures.value in
    let room = record_room c.args.at i (length c.args.rows.now) size (payload_size k.types) (length c.args.out.now) wide c.loop-i-test.true c.requires in
    let kept = c.loop-i.auto.out in
    row_written k g.K.RecordKind.numbers g.met.K.SheetKind.shape c.args.rows.now c.args.out.now c.args.at i size x
    c.loop-i.out c.write_payload.new.out (omega arith) (omega arith) c.index-rows-i.is wide c.loop-i.invariant
    (written_room (payload_size k.types) (payload k.types (g.K.RecordKind.numbers x)) c.loop-i.out (c.args.at + i * size)
    c.write_payload.result c.write_payload.new.out c.write_payload.ensures (omega arith))
