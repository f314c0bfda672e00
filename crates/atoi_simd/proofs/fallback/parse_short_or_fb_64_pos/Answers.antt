use Rattle.std.proofs.Common.{◌∙◌}
use Rattle.atoi_simd.proofs.Wide.{short_is_wide}
use Rattle.atoi_simd.proofs.fallback.parse_short_or_fb_64_pos.Goals as goal

pub returns-then-s-lt-SHORT-clause-value : goal.returns-then-s-lt-SHORT-clause-value
returns-then-s-lt-SHORT-clause-value c = c.parse_short_pos.ensures.value ∙ short_is_wide c.args.limit.max c.args.skip_zeroes c.args.s.now c.args.limit.wide c.if-s-lt-SHORT.true
