use Rattle.std.proofs.Common.{◌≡◌, ℕ, ap, ◌∙◌, arith}
use lib.Bits.{bit_and}
use Rattle.words.specs.Bytes.{bytes_le, nibble_value}
use Rattle.words.proofs.Filled.{fill}
use Rattle.words.proofs.Nibbles.{processed_none, processed_some, processed_all}
use Rattle.words.proofs.Product.{product}
use Rattle.words.proofs.Values.{digits_value}
use Rattle.words.proofs.process_8.Goals as goal
use Rattle.words.proofs.process_8.Goals.{in-0, in-1-to-8, in_default}

pub returns : goal.returns
returns c =
    let v = c.args.val in
    let len = c.args.len in
    let made : ℕ → ℕ = λ x. product (bit_and x (fill 15 8)) in
    let is : made c.match-len.val ≡ nibble_value len (bytes_le 8 v) =
    elim c.match-len.branch [
      | in-0 w ↦ ap made w.val-is ∙ processed_none v len w.in-0.is
      | in-1-to-8 w ↦ ap made w.val-is ∙ processed_some v len (omega arith)
      | in_default w ↦ ap made w.val-is ∙ processed_all v len (omega arith)
    ] in
    record {
      value = is;
      digits = λ all. is ∙ digits_value len (bytes_le 8 v) all;
    }
