use Rattle.std.proofs.Common.{arith}
use Rattle.sheets.proofs.Writing.{frame_written}
use Rattle.sheets.proofs.writer.write_frame.Goals as goal

pub returns : goal.returns
returns g c =
    let room = c.requires in
    frame_written g.K.RecordKind.means g.K.RecordKind.numbers g.met.K.SheetKind.shape c.args.rows.now c.args.out.now c.args.at
    c.record_size.result c.number.result c.write_header.new.out c.write_rows.new.out
    (omega arith) c.record_size.ensures.value c.number.ensures c.write_header.ensures c.write_rows.ensures
