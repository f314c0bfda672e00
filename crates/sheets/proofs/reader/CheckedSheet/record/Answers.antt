use Rattle.sheets.proofs.Standing.{handed}
use Rattle.sheets.proofs.reader.CheckedSheet.record.Goals as goal

pub returns-clause-checked : goal.returns-clause-checked
returns-clause-checked g c =
    let s = c.args.self.now in
    handed g.A.RecordKind.means g.B.RecordKind.means s.bytes.now s.first s.second c.args.section c.args.i _ s.checked c.find_record.ensures.checked
