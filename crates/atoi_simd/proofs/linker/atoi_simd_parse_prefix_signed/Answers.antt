use Rattle.std.proofs.Common.{◌≡◌, ◌^◌, ◌<◌, true, false, length, get_or, ◌∙◌, rules}
use Rattle.atoi_simd.specs.Calls.{front}
use Rattle.atoi_simd.proofs.Signs.{plus_is, minus_is, room}
use Rattle.atoi_simd.proofs.linker.atoi_simd_parse_prefix_signed.Goals as goal

pub after_sign-requires : goal.after_sign-requires
after_sign-requires g c =
    let some : 0 < length c.args.s.now = search rules in
    let few : length c.args.s.now < 2 ^ 64 = search rules in
    room g.T.Number.number g.T.Number.means false c.args.skip_zeroes c.args.s.now c.atoi_simd_parse_prefix_pos.result some few c.atoi_simd_parse_prefix_pos.ensures

pub returns-in-43 : goal.returns-in-43
returns-in-43 g c =
    let some : 0 < length c.args.s.now = search rules in
    let sign : get_or c.args.s.now 0 0 ≡ 43 = search rules in
    c.after_sign.ensures g.T.Number.number
    ∙ plus_is front g.T.Number.means c.args.skip_zeroes c.args.skip_plus c.args.s.now _ some sign c.if-skip_plus.true c.atoi_simd_parse_prefix_pos.ensures

pub after_sign-requires-in-45 : goal.after_sign-requires-in-45
after_sign-requires-in-45 g c =
    let some : 0 < length c.args.s.now = search rules in
    let few : length c.args.s.now < 2 ^ 64 = search rules in
    room g.T.Number.number g.T.Number.means true c.args.skip_zeroes c.args.s.now c.atoi_simd_parse_prefix_neg.result some few c.atoi_simd_parse_prefix_neg.ensures

pub returns-in-45 : goal.returns-in-45
returns-in-45 g c =
    let some : 0 < length c.args.s.now = search rules in
    let sign : get_or c.args.s.now 0 0 ≡ 45 = search rules in
    c.after_sign-in-45.ensures g.T.Number.number
    ∙ minus_is front g.T.Number.means c.args.skip_zeroes c.args.skip_plus c.args.s.now _ some sign c.requires c.atoi_simd_parse_prefix_neg.ensures
