use Rattle.std.proofs.Common.{◌≡◌, ℕ, ◌+◌, ◌≤◌, length, sym, ◌∙◌, subst, arith, rules}
use Rattle.std.proofs.lemmas.List.{take_rest}
use Rattle.atoi_simd.specs.Digits.{run}
use Rattle.atoi_simd.proofs.Blocks.{read, unread}
use Rattle.atoi_simd.proofs.Skipped.{Skipped}
use Rattle.atoi_simd.proofs.Narrow.{narrow_body, Out, full_out, part_out, skips, over, seventeen, reads, only_zeros, no_digits, ends_here, fewer}
use Rattle.atoi_simd.proofs.fallback.parse_fb_pos.Goals as goal
use Rattle.atoi_simd.proofs.fallback.parse_fb_pos.Goals.{in-Ok+else-skip_zeroes, in-Ret, else-len-eq16-via-then-len-eq16+else-goes_on, else-len-eq16-via-else-len-eq16}

pub slice_bounds-rest-count : goal.slice_bounds-rest-count
slice_bounds-rest-count c = (skips c.args.limit.max c.loop-v.invariant (read 16 c.args.skip_zeroes c.loop-v.rest.now c.in-Ok.ensures) c.if-skip_zeroes.true c.if-zeroes-gt0.true).0

pub slice_bounds-rest-start : goal.slice_bounds-rest-start
slice_bounds-rest-start c =
    let h : c.in-Ok.zeroes ≤ length c.loop-v.rest.now = (skips c.args.limit.max c.loop-v.invariant (read 16 c.args.skip_zeroes c.loop-v.rest.now c.in-Ok.ensures) c.if-skip_zeroes.true c.if-zeroes-gt0.true).0 in
    search rules

pub loop-v-preserved : goal.loop-v-preserved
loop-v-preserved c =
    subst (λ l. Skipped (narrow_body c.args.limit.max c.args.skip_zeroes) c.args.skip_zeroes c.args.s.now l (c.loop-v.skipped + c.in-Ok.zeroes)) (sym (take_rest c.loop-v.rest.now c.in-Ok.zeroes))
    (skips c.args.limit.max c.loop-v.invariant (read 16 c.args.skip_zeroes c.loop-v.rest.now c.in-Ok.ensures) c.if-skip_zeroes.true c.if-zeroes-gt0.true).2

pub returns-then-skipped-gt0-clause-value : goal.returns-then-skipped-gt0-clause-value
returns-then-skipped-gt0-clause-value c =
    let e = unread 16 c.args.skip_zeroes c.loop-v.rest.now c.in-Err.ensures in
    only_zeros c.args.limit.max c.loop-v.invariant c.if-skipped-gt0.true e.1

pub returns-in-Err-clause-value : goal.returns-in-Err-clause-value
returns-in-Err-clause-value c =
    let e = unread 16 c.args.skip_zeroes c.loop-v.rest.now c.in-Err.ensures in
    e.0 ∙ no_digits c.args.limit.max c.loop-v.invariant (omega (arith, c.if-skipped-gt0.false)) e.1

pub returns-then-val-limit-clause-value : goal.returns-then-val-limit-clause-value
returns-then-val-limit-clause-value c =
    let o : Out c.args.skip_zeroes c.loop-v.rest.now c.match-parse_16_by_8.val.0 c.match-parse_16_by_8.val.1 =
    elim c.match-parse_16_by_8.branch [
      | in-Ok+else-skip_zeroes w ↦ subst (λ (p : ℕ × ℕ). Out c.args.skip_zeroes c.loop-v.rest.now p.0 p.1) (sym w.val-is) (full_out (read 16 c.args.skip_zeroes c.loop-v.rest.now w.in-Ok.ensures) w.else-skip_zeroes.either)
      | in-Ret w ↦ subst (λ (p : ℕ × ℕ). Out c.args.skip_zeroes c.loop-v.rest.now p.0 p.1) (sym w.val-is) (part_out (read 16 c.args.skip_zeroes c.loop-v.rest.now w.in-Ret.ensures))
    ] in
    over c.args.limit.max c.loop-v.invariant o c.if-val-limit.true

pub returns-then-goes_on-clause-value : goal.returns-then-goes_on-clause-value
returns-then-goes_on-clause-value c =
    let o : Out c.args.skip_zeroes c.loop-v.rest.now c.match-parse_16_by_8.val.0 c.match-parse_16_by_8.val.1 =
    elim c.match-parse_16_by_8.branch [
      | in-Ok+else-skip_zeroes w ↦ subst (λ (p : ℕ × ℕ). Out c.args.skip_zeroes c.loop-v.rest.now p.0 p.1) (sym w.val-is) (full_out (read 16 c.args.skip_zeroes c.loop-v.rest.now w.in-Ok.ensures) w.else-skip_zeroes.either)
      | in-Ret w ↦ subst (λ (p : ℕ × ℕ). Out c.args.skip_zeroes c.loop-v.rest.now p.0 p.1) (sym w.val-is) (part_out (read 16 c.args.skip_zeroes c.loop-v.rest.now w.in-Ret.ensures))
    ] in
    seventeen c.args.limit.max c.loop-v.invariant o c.args.limit.narrow c.if-val-limit.false c.if-len-eq16.true (sym c.if-goes_on.ensures)

pub returns-clause-value : goal.returns-clause-value
returns-clause-value c =
    let o : Out c.args.skip_zeroes c.loop-v.rest.now c.match-parse_16_by_8.val.0 c.match-parse_16_by_8.val.1 =
    elim c.match-parse_16_by_8.branch [
      | in-Ok+else-skip_zeroes w ↦ subst (λ (p : ℕ × ℕ). Out c.args.skip_zeroes c.loop-v.rest.now p.0 p.1) (sym w.val-is) (full_out (read 16 c.args.skip_zeroes c.loop-v.rest.now w.in-Ok.ensures) w.else-skip_zeroes.either)
      | in-Ret w ↦ subst (λ (p : ℕ × ℕ). Out c.args.skip_zeroes c.loop-v.rest.now p.0 p.1) (sym w.val-is) (part_out (read 16 c.args.skip_zeroes c.loop-v.rest.now w.in-Ret.ensures))
    ] in
    let all : run c.loop-v.rest.now ≡ c.match-parse_16_by_8.val.1 = elim c.else-len-eq16.branch [
      | else-len-eq16-via-then-len-eq16+else-goes_on w ↦ ends_here c.args.limit.max c.loop-v.invariant o w.if-len-eq16.true (sym w.if-goes_on.ensures)
      | else-len-eq16-via-else-len-eq16 w ↦ fewer c.args.limit.max c.loop-v.invariant o w.if-len-eq16.false
    ] in
    reads c.args.limit.max c.loop-v.invariant o c.if-val-limit.false all
