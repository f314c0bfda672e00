use Rattle.std.proofs.Common.{length}
use Rattle.atoi_simd.proofs.Skipped.{Skipped}
use Rattle.atoi_simd.proofs.Wide.{wide_body}
use Rattle.atoi_simd.proofs.fallback.parse_fb_64_pos.Given as goal

abbrev pub invariant-loop-v : goal.invariant-loop-v
invariant-loop-v l = Skipped (wide_body l.limit.max l.skip_zeroes) l.skip_zeroes l.s l.rest l.skipped

abbrev pub decreases-loop-v : goal.decreases-loop-v
decreases-loop-v l = length l.rest
