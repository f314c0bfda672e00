use Rattle.std.proofs.Common.{◌≡◌, ◌≤◌, min, cond, ◌&&◌, eqb, sym, ◌∙◌, arith}
use Rattle.std.specs.Char.{is_ascii_digit}
use Rattle.std.specs.List.{prefix_len}
use Rattle.words.specs.Bytes.{bytes_le}
use Rattle.atoi_simd.specs.Digits.{run, zeros}
use Rattle.atoi_simd.proofs.Runs.{front_run, front_zeros, front-value}
use Rattle.atoi_simd.proofs.Blocks.{block_none, block_some, counted, not_full, not_asked}
use Rattle.atoi_simd.proofs.fallback.parse_8.Goals as goal
use Rattle.atoi_simd.proofs.fallback.parse_8.Goals.{then-count_zeroes+then-len-eq8, else-count_zeroes, else-count_zeroes-via-then-count_zeroes+else-len-eq8, else-count_zeroes-via-else-count_zeroes}

pub returns-then-len-eq0 : goal.returns-then-len-eq0
returns-then-len-eq0 c =
    let l = c.check_len_8-len.ensures ∙ front_run 8 (bytes_le 8 c.load_8-val.result) c.args.s.now c.load_8-val.ensures in
    block_none 8 c.args.count_zeroes c.args.s.now (sym l ∙ c.if-len-eq0.true)

pub returns : goal.returns
returns c =
    let bs = c.args.s.now in
    let n = c.check_len_8-len.result in
    let w = bytes_le 8 c.load_8-val.result in
    let is = c.load_8-val.ensures in
    let l : n ≡ min 8 (run bs) = c.check_len_8-len.ensures ∙ front_run 8 w bs is in
    let zs : c.if-count_zeroes.zeroes ≡ cond (c.args.count_zeroes && eqb n 8) (min 8 (zeros bs)) 0 =
    elim c.if-count_zeroes.branch [
      | then-count_zeroes+then-len-eq8 u ↦ counted 8 _ bs n _ u.if-count_zeroes.true u.if-len-eq8.true (u.zeroes-is ∙ u.len_zeroes-zeroes.ensures ∙ front_zeros 8 w bs is)
      | else-count_zeroes u ↦ elim u.else-count_zeroes.branch [
        | else-count_zeroes-via-then-count_zeroes+else-len-eq8 x ↦ not_full 8 _ bs n _ x.if-len-eq8.false u.zeroes-is
        | else-count_zeroes-via-else-count_zeroes x ↦ not_asked 8 _ bs n _ x.if-count_zeroes.false u.zeroes-is
      ]
    ] in
    let digits : n ≤ prefix_len is_ascii_digit w = omega (arith, c.check_len_8-len.ensures) in
    block_some 8 _ bs _ n _ l (omega (arith, c.if-len-eq0.false)) (c.process_8.ensures.digits digits ∙ front-value 8 w bs is n (omega arith)) zs
