use Rattle.atoi_simd.proofs.ByteWise.{Sofar}
use Rattle.atoi_simd.proofs.short.parse_short_pos.Given as goal

abbrev pub invariant-loop-i : goal.invariant-loop-i
invariant-loop-i l = Sofar l.max l.s l.i l.res
