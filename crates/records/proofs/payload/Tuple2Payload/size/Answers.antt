use Rattle.std.proofs.Common.{◌∷◌, arith}
use Rattle.records.specs.FieldType.{in_bytes}
use Rattle.records.proofs.Payloads.{size_exact}
use Rattle.records.proofs.payload.Tuple2Payload.size.Goals as goal

pub returns-clause-exact : goal.returns-clause-exact
returns-clause-exact g c =
    let wide = c.WIDTH.ensures in
    let rest = c.size.ensures.value in
    size_exact (in_bytes g.T.Field.WIDTH g.T.Number.means ∷ g.R.Numbers.types) c.saturating_add.result (omega arith)
