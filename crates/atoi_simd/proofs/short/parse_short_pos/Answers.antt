use Rattle.std.proofs.Common.{◌≡◌, ◌+◌, ◌*◌, true, get_or, sym, subst, arith}
use lib.Bits.{bit_and}
use borrow.Author.Tests.{true-ltb, false-ltb}
use Rattle.std.specs.Char.{is_ascii_digit}
use Rattle.words.specs.Bytes.{digit_of}
use Rattle.atoi_simd.proofs.ByteWise.{Sofar, digit_and, more, over}
use Rattle.atoi_simd.proofs.short.parse_short_pos.Goals as goal

pub returns-then-overflows-clause-value : goal.returns-then-overflows-clause-value
returns-then-overflows-clause-value c =
    let b = get_or c.args.s.now c.loop-i.i 0 in
    let d : is_ascii_digit b ≡ true = cc in
    let e : bit_and b 15 ≡ digit_of b = digit_and b d in
    over _ _ _ _ c.loop-i.invariant (omega arith) d (omega (arith, true-ltb _ _ c.if-overflows.ensures))

pub loop-i-preserved : goal.loop-i-preserved
loop-i-preserved c =
    let b = get_or c.args.s.now c.loop-i.i 0 in
    let d : is_ascii_digit b ≡ true = cc in
    let e : bit_and b 15 ≡ digit_of b = digit_and b d in
    subst (λ d. Sofar c.args.max c.args.s.now (c.loop-i.i + 1) (c.loop-i.res * 10 + d)) (sym e)
    (more _ _ _ _ c.loop-i.invariant (omega arith) d (omega (arith, false-ltb _ _ c.if-overflows.ensures)))
