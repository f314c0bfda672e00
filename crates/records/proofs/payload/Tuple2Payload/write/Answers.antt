use Rattle.std.proofs.Common.{◌≡◌, ◌+◌, ◌≤◌, length, arith}
use Rattle.words.specs.Bytes.{bytes_le}
use Rattle.words.proofs.Shifted.{length-bytes_le}
use Rattle.records.specs.Payload.{payload, payload_size}
use Rattle.records.proofs.Payloads.{put_before}
use Rattle.records.proofs.payload.Tuple2Payload.write.Goals as goal

pub returns : goal.returns
returns g c =
    let w = c.WIDTH-2.result in
    let bits = c.to_code.result in
    let rest = payload g.R.Numbers.types (g.R.Numbers.list c.args.self.now.1) in
    let wide = c.WIDTH-2.ensures in
    let from : c.in_ok-checked_add.field-0 ≡ c.args.at + c.WIDTH-2.result = omega (arith, c.in_ok-checked_add.ensures, c.WIDTH.ensures) in
    let behind : c.in_ok-behind.behind ≡ c.in_ok-checked_add.field-0 + payload_size g.R.Numbers.types = c.in_ok-behind.ensures.0 in
    let within : c.in_ok-behind.behind ≤ length c.args.out.now = c.in_ok-behind.ensures.1 in
    let after = c.in_ok-behind.ensures.2 in
    let whole = put_before c.args.out.now c.args.at w (bytes_le w bits) rest (length-bytes_le w bits) (omega arith) in
    (omega arith, within, cc)
