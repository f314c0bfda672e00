use Rattle.std.proofs.Common.{◌^◌, ◌<◌, map, length, ap, ◌∙◌, arith, rules}
use Rattle.records.specs.Payload.{put}
use Rattle.model.specs.Sheet.{frame}
use Rattle.sheets.proofs.Frames.{length-frame}
use Rattle.sheets.proofs.Writing.{sheet_written, sheet_refused}
use Rattle.sheets.proofs.writer.write_sheet.Goals as goal

pub returns-then-out-size : goal.returns-then-out-size
returns-then-out-size g c =
    let a = g.A.RecordKind in
    let b = g.B.RecordKind in
    let p = length-frame a.means a.numbers g.met.A.SheetKind.shape c.args.first.now in
    let q = length-frame b.means b.numbers g.met.B.SheetKind.shape c.args.second.now in
    let middle = c.frame_size-middle.ensures in
    let last = c.frame_size.ensures in
    let size = c.saturating_add-size.ensures in
    sheet_refused (frame a.means (map a.numbers c.args.first.now)) (frame b.means (map b.numbers c.args.second.now)) c.args.out.now (omega arith)

pub returns : goal.returns
returns g c =
    let a = g.A.RecordKind in
    let b = g.B.RecordKind in
    let f = frame a.means (map a.numbers c.args.first.now) in
    let h = frame b.means (map b.numbers c.args.second.now) in
    let p = length-frame a.means a.numbers g.met.A.SheetKind.shape c.args.first.now in
    let q = length-frame b.means b.numbers g.met.B.SheetKind.shape c.args.second.now in
    let middle = c.frame_size-middle.ensures in
    let last = c.frame_size.ensures in
    let size = c.saturating_add-size.ensures in
    let few : length c.args.out.now < 2 ^ 63 = search rules in
    let two = c.write_frame-2.ensures ∙ ap (λ o. put o c.frame_size-middle.result h) c.write_frame.ensures in
    rw two (sheet_written f h c.args.out.now c.frame_size-middle.result c.saturating_add-size.result (omega arith) (omega arith) c.if-out-size.false)
