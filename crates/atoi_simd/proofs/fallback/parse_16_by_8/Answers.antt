use Rattle.std.proofs.Common.{◌≡◌, ◌≤◌, min, false, cond, ◌&&◌, eqb, length, sym, ap, ◌∙◌, arith, rules}
use lib.Bits.{bit_and}
use Rattle.std.proofs.lemmas.List.{take_rest}
use Rattle.words.specs.Bytes.{bytes_le, front, value_of}
use Rattle.atoi_simd.specs.Block.{some}
use Rattle.atoi_simd.specs.Digits.{zeros}
use Rattle.atoi_simd.proofs.Blocks.{not_asked}
use Rattle.atoi_simd.proofs.TwoWords.{one_digit, none, few, eight, at_most, digits, part, counted_zeros, whole}
use Rattle.atoi_simd.proofs.fallback.parse_16_by_8.Goals as goal
use Rattle.atoi_simd.proofs.fallback.parse_16_by_8.Goals.{then-count_zeroes, else-count_zeroes}

pub slice_bounds-load_8-count : goal.slice_bounds-load_8-count
slice_bounds-load_8-count c = (eight c.args.count_zeroes c.args.s.now c.load_8-val.ensures c.check_len_8-len.ensures (omega arith)).1

pub slice_bounds-load_8-start : goal.slice_bounds-load_8-start
slice_bounds-load_8-start c = let h : 8 ≤ length c.args.s.now = (eight c.args.count_zeroes c.args.s.now c.load_8-val.ensures c.check_len_8-len.ensures (omega arith)).1 in search rules

pub overflow_add-len : goal.overflow_add-len
overflow_add-len c =
    let next = c.load_8-val_h.ensures ∙ ap (front 8) (take_rest c.args.s.now 8) in
    record { fits = omega (arith, at_most c.args.count_zeroes c.args.s.now c.load_8-val.ensures c.check_len_8-len.ensures (omega arith) next c.check_len_8-len-in_default.ensures) }

pub returns-in-0 : goal.returns-in-0
returns-in-0 c = none c.args.count_zeroes c.args.s.now c.load_8-val.ensures c.check_len_8-len.ensures (omega arith)

pub returns-in-1 : goal.returns-in-1
returns-in-1 c =
    let one : c.check_len_8-len.result ≡ 1 = c.in-1.is in
    let digit : bit_and c.load_8-val.result 15 ≡ value_of c.check_len_8-len.result (bytes_le 8 c.load_8-val.result) =
    one_digit c.load_8-val.result (omega (arith, c.check_len_8-len.ensures)) ∙ ap (λ k. value_of k (bytes_le 8 c.load_8-val.result)) (sym one) in
    ap (λ k. some false (bit_and c.load_8-val.result 15) k 0) (sym one) ∙ few c.args.count_zeroes c.args.s.now c.load_8-val.ensures c.check_len_8-len.ensures _ (omega arith) (omega arith) digit

pub returns-in-2-to-7 : goal.returns-in-2-to-7
returns-in-2-to-7 c = few c.args.count_zeroes c.args.s.now c.load_8-val.ensures c.check_len_8-len.ensures _ (omega arith) (omega arith) (c.process_8.ensures.digits (omega (arith, c.check_len_8-len.ensures)))

pub returns-then-len-lt16 : goal.returns-then-len-lt16
returns-then-len-lt16 c =
    let next = c.load_8-val_h.ensures ∙ ap (front 8) (take_rest c.args.s.now 8) in
    part c.args.count_zeroes c.args.s.now c.load_8-val.ensures c.check_len_8-len.ensures (omega arith) next c.check_len_8-len-in_default.ensures _ c.if-len-lt16.true (c.process_16-value.ensures.digits (digits c.args.count_zeroes c.args.s.now c.load_8-val.ensures c.check_len_8-len.ensures (omega arith) next c.check_len_8-len-in_default.ensures))

pub returns-after-count_zeroes : goal.returns-after-count_zeroes
returns-after-count_zeroes c =
    let next = c.load_8-val_h.ensures ∙ ap (front 8) (take_rest c.args.s.now 8) in
    let zs : c.if-count_zeroes.zeroes ≡ cond (c.args.count_zeroes && eqb 16 16) (min 16 (zeros c.args.s.now)) 0 = elim c.if-count_zeroes.branch [
      | then-count_zeroes w ↦ counted_zeros c.args.count_zeroes c.args.s.now c.load_8-val.ensures c.check_len_8-len.ensures (omega arith) next c.check_len_8-len-in_default.ensures _ w.if-count_zeroes.true (w.zeroes-is ∙ w.len_zeroes_16-zeroes.ensures)
      | else-count_zeroes w ↦ not_asked 16 _ c.args.s.now 16 _ w.if-count_zeroes.false w.zeroes-is
    ] in
    whole c.args.count_zeroes c.args.s.now c.load_8-val.ensures c.check_len_8-len.ensures (omega arith) next c.check_len_8-len-in_default.ensures _ _ c.if-len-lt16.false (c.process_16-value.ensures.digits (digits c.args.count_zeroes c.args.s.now c.load_8-val.ensures c.check_len_8-len.ensures (omega arith) next c.check_len_8-len-in_default.ensures)) zs
