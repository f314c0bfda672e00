use Rattle.std.proofs.Common.{◌≡◌, ◌+◌, ◌*◌, take, drop}
use Rattle.records.specs.Payload.{put}
use Rattle.station.specs.Output.{hex_of}
use Rattle.station.proofs.digits.spread.Given as goal

abbrev pub invariant-loop-i : goal.invariant-loop-i
invariant-loop-i l = l.out ≡ put l.initial.out (l.to + 2 * l.i) (hex_of (drop l.i (take l.len (drop l.from l.initial.out))))
