use Rattle.std.proofs.Common.{take, ap, ◌∙◌, arith}
use Rattle.std.proofs.lemmas.Grind.{common_steps}
use Rattle.words.proofs.Shifted.{length-bytes_le}
use Rattle.records.proofs.Payloads.{lowest_bytes}
use Rattle.records.proofs.payload.put_code.Goals as goal

pub returns : goal.returns
returns c =
    let w = c.args.width in
    let bits = c.args.bits in
    let lowest = c.copy_from_slice.ensures.after ∙ ap (take w) c.to_le_bytes.ensures ∙ lowest_bytes w 8 bits c.requires.few in
    grind (arith, common_steps, lowest, length-bytes_le w bits)
