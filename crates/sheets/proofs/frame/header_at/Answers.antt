use Rattle.std.proofs.Common.{[], ◌∷◌, ap, ◌∙◌}
use Rattle.records.specs.FieldType.{unsigned_of}
use Rattle.records.specs.Payload.{numbers_of}
use Rattle.sheets.proofs.Headers.{header_numbers}
use Rattle.sheets.proofs.frame.header_at.Goals as goal

pub returns-clause-number : goal.returns-clause-number
returns-clause-number c =
    let is = c.of_bytes-size.ensures ∙ ap (numbers_of (unsigned_of 4 ∷ (unsigned_of 2 ∷ []))) c.tail.ensures in
    (header_numbers c.args.bytes.now c.args.at _ _ is).1
