use Rattle.std.proofs.Common.{◌+◌, ◌*◌, ◌^◌, ◌≤◌, ap, arith}
use borrow.Author.Tests.{false-ltb}
use Rattle.atoi_simd.proofs.Counts.{joined_below}
use Rattle.atoi_simd.proofs.limit.WideLimit.joined.Goals as goal
use Rattle.atoi_simd.proofs.limit.WideLimit.joined.Goals.{else-len-self-via-then-len-self+else-overflows, else-len-self-via-else-len-self}

pub returns : goal.returns
returns c =
    let value = ap (λ x. c.args.first * x + c.args.more) c.pow-shift.ensures in
    let fit : c.args.first * 10 ^ c.args.len + c.args.more ≤ c.args.self.max = elim c.else-len-self.branch [
      | else-len-self-via-then-len-self+else-overflows w ↦ omega (arith, false-ltb _ _ w.if-overflows.ensures)
      | else-len-self-via-else-len-self w ↦ joined_below _ _ _ _ c.args.self.wide c.requires.first c.requires.more (omega (arith, c.args.self.digits, w.if-len-self.false))
    ] in
    (fit, value)
