use Rattle.std.proofs.Common.{◌≡◌, length, sym, ap, ◌∙◌, subst, arith}
use Rattle.std.specs.List.{AllByRecursion}
use Rattle.records.specs.FieldType.{Regular}
use Rattle.records.specs.Payload.{payload_size}
use Rattle.sheets.proofs.Sizes.{size_some, size_few}
use Rattle.sheets.proofs.frame.record_size.Goals as goal

pub returns : goal.returns
returns g c =
    let k = g.K.RecordKind.means in
    let law = g.met.K.RecordKind.lawful in
    let types = g.met.K.RecordKind.types in
    let few = law.types_few in
    let value : c.size.result ≡ payload_size k.types =
    c.size.ensures.exact (subst (AllByRecursion Regular) (sym types) law.types_regular) (omega (arith, ap length types)) ∙ ap payload_size types in
    record { value = value; some = omega (arith, size_some k law); few = omega (arith, size_few k law) }
