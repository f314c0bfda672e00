use Rattle.std.proofs.Common.{sym, ◌∙◌, arith}
use Rattle.std.proofs.lemmas.List.Sums.{prefix_len-le-length}
use Rattle.words.specs.Bytes.{bytes_le, is_zero}
use Rattle.words.proofs.Leading.{prefix_len-append_all, prefix_len-append_some}
use Rattle.words.proofs.Shifted.{length-bytes_le}
use Rattle.words.proofs.len_zeroes_16.Goals as goal

pub overflow_add-result : goal.overflow_add-result
overflow_add-result c = omega (arith, prefix_len-le-length is_zero (bytes_le 8 c.args.val_h), length-bytes_le 8 c.args.val_h)

pub returns-then-zeroes-eq8 : goal.returns-then-zeroes-eq8
returns-then-zeroes-eq8 c =
    let first = bytes_le 8 c.args.val in
    let len = length-bytes_le 8 c.args.val in
    omega (arith, prefix_len-append_all is_zero first (bytes_le 8 c.args.val_h) (omega arith))

pub returns-else-zeroes-eq8 : goal.returns-else-zeroes-eq8
returns-else-zeroes-eq8 c =
    let first = bytes_le 8 c.args.val in
    let len = length-bytes_le 8 c.args.val in
    let most = prefix_len-le-length is_zero first in
    c.len_zeroes-zeroes.ensures ∙ sym (prefix_len-append_some is_zero first (bytes_le 8 c.args.val_h) (omega arith))
