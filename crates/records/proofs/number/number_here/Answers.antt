use Rattle.std.proofs.Common.{◌≡◌, ◌^◌, ◌<◌, length, drop, arith, rules}
use Rattle.std.proofs.lemmas.List.{length-drop}
use Rattle.std.proofs.iter.Serving.{serving}
use Rattle.atoi_simd.specs.Answer.{ok, prefix_by}
use Rattle.records.specs.FieldType.{in_bytes, reads}
use Rattle.records.proofs.Numbering.{read_within, prefixed}
use Rattle.records.proofs.number.number_here.Goals as goal

pub overflow_add-result : goal.overflow_add-result
overflow_add-result g c =
    let rest = drop c.args.at c.args.line.now in
    let read : ok (g.T.Number.number c.in_ok-value.value) c.in_ok-value.count ≡ reads (in_bytes g.T.Field.WIDTH g.T.Number.means) (drop c.args.at c.args.line.now) = search rules in
    let few : length c.args.line.now < 2 ^ 64 = search rules in
    record { fits = omega (arith, read_within (in_bytes g.T.Field.WIDTH g.T.Number.means) rest _ _ read, length-drop c.args.at c.args.line.now) }

pub map_err-requires : goal.map_err-requires
map_err-requires g c =
    let t = in_bytes g.T.Field.WIDTH g.T.Number.means in
    let rest = drop c.args.at c.args.line.now in
    let read : prefix_by g.T.Number.number c.parse_prefix-read.result ≡ reads (in_bytes g.T.Field.WIDTH g.T.Number.means) (drop c.args.at c.args.line.now) = search rules in
    λ e f. let three = prefixed g.T.Number.number t rest c.parse_prefix-read.result e read f in grind serving
