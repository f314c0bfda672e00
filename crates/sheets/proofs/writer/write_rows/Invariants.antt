use Rattle.std.proofs.Common.{◌≡◌, map, take}
use Rattle.records.specs.Payload.{put}
use Rattle.model.specs.Sheet.{payloads}
use Rattle.sheets.proofs.writer.write_rows.Given as goal

abbrev pub invariant-loop-i : goal.invariant-loop-i
invariant-loop-i g l =
    l.out ≡ put l.initial.out l.at (payloads g.K.RecordKind.means (map g.K.RecordKind.numbers (take l.i l.rows)))
