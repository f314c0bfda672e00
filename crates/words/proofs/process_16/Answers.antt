use Rattle.std.proofs.Common.{◌≡◌, ◌+◌, ◌-◌, ◌*◌, ◌^◌, min, ◌++◌, map, sym, ap, ◌∙◌, ap₂, arith}
use Rattle.std.specs.Int.Digits.{number_from_digits}
use Rattle.std.proofs.lemmas.List.{length-append, take-append-le}
use Rattle.words.specs.Bytes.{bytes_le, nibble, nibble_value}
use Rattle.words.proofs.Shifted.{length-bytes_le}
use Rattle.words.proofs.Values.{digits_value, value_below, value_both}
use Rattle.words.proofs.process_16.Goals as goal

pub returns-then-len-le8 : goal.returns-then-len-le8
returns-then-len-le8 c =
    let first = bytes_le 8 c.args.val in
    let second = bytes_le 8 c.args.val_h in
    let is : c.process_8.result ≡ nibble_value c.args.len (first ++ second) =
    c.process_8.ensures.value
    ∙ sym (ap (λ bs. number_from_digits 10 (map nibble bs)) (take-append-le c.args.len first second (omega (arith, length-bytes_le 8 c.args.val)))) in
    record {
      value = is;
      digits = λ all. is ∙ digits_value c.args.len (first ++ second) all;
    }

-- the sum has the value of both words
both : (c : goal.After-process_8-3) →
    c.process_8-2.result * c.pow.result + c.process_8-3.result ≡ nibble_value c.args.len (bytes_le 8 c.args.val ++ bytes_le 8 c.args.val_h)
both c =
    let first = bytes_le 8 c.args.val in
    let second = bytes_le 8 c.args.val_h in
    let more : c.min-more.result ≡ min (c.args.len - 8) 8 = omega arith in
    ap₂ (λ p t. p * t + c.process_8-3.result) c.process_8-2.ensures.value c.pow.ensures
    ∙ ap (λ q. nibble_value 8 first * 10 ^ c.min-more.result + q) c.process_8-3.ensures.value
    ∙ ap (λ k. nibble_value 8 first * 10 ^ k + nibble_value k second) more
    ∙ sym (value_both 8 c.args.len first second (length-bytes_le 8 c.args.val) (length-bytes_le 8 c.args.val_h) (omega arith))

pub overflow_add-result : goal.overflow_add-result
overflow_add-result c =
    let first = bytes_le 8 c.args.val in
    let second = bytes_le 8 c.args.val_h in
    omega (
      arith,
      both c,
      value_below c.args.len (first ++ second) (omega (arith, length-append first second, length-bytes_le 8 c.args.val, length-bytes_le 8 c.args.val_h)),
    )

pub returns : goal.returns
returns c =
    record {
      value = both c;
      digits = λ all. both c ∙ digits_value c.args.len (bytes_le 8 c.args.val ++ bytes_le 8 c.args.val_h) all;
    }
