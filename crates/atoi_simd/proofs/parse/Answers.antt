use Rattle.std.proofs.Common.{◌∙◌, ap₂}
use Rattle.atoi_simd.specs.Calls.{all, signed_call}
use Rattle.atoi_simd.proofs.Numerals.{takes_numerals}
use Rattle.atoi_simd.proofs.parse.Goals as goal

pub returns-clause-numerals : goal.returns-clause-numerals
returns-clause-numerals g c = λ z p.
    takes_numerals g.T.Number.means g.T.Number.whole g.T.Number.number c.args.s.now c.atoi_simd_parse.result
    (c.atoi_simd_parse.ensures ∙ ap₂ (λ zeroes plus. signed_call all g.T.Number.means zeroes plus c.args.s.now) z p)
