use Rattle.std.proofs.Common.{◌≡◌, ◌^◌, ◌<◌, false, length, get_or, ◌∙◌, rules}
use Rattle.atoi_simd.specs.Calls.{front}
use Rattle.atoi_simd.proofs.Signs.{plus_is, room}
use Rattle.atoi_simd.proofs.linker.atoi_simd_parse_prefix_unsigned.Goals as goal

pub after_sign-requires : goal.after_sign-requires
after_sign-requires g c =
    let some : 0 < length c.args.s.now = search rules in
    let few : length c.args.s.now < 2 ^ 64 = search rules in
    room g.T.Number.number g.T.Number.means false c.args.skip_zeroes c.args.s.now c.atoi_simd_parse_prefix_pos.result some few c.atoi_simd_parse_prefix_pos.ensures

pub returns-in-43 : goal.returns-in-43
returns-in-43 g c =
    let some : 0 < length c.args.s.now = search rules in
    let sign : get_or c.args.s.now 0 0 ≡ 43 = search rules in
    c.after_sign.ensures g.T.Number.number
    ∙ plus_is front g.T.Number.means c.args.skip_zeroes c.args.skip_plus c.args.s.now _ some sign c.if-skip_plus.true c.atoi_simd_parse_prefix_pos.ensures
