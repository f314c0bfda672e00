use Rattle.records.proofs.Payloads.{low_word}
use Rattle.records.proofs.payload.Tuple2Payload.of_bytes.Goals as goal

pub returns : goal.returns
returns g c =
    let first = low_word g.T.Field.WIDTH 8 c.load_8.result c.args.bytes.now g.met.T.PayloadField.few c.load_8.ensures in
    let code = c.of_code-first.ensures in
    let is = c.WIDTH.ensures in
    let rest = c.of_bytes-rest.ensures in
    cc
