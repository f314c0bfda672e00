use Rattle.std.proofs.Common.{◌≡◌, ℕ, List, [], ◌∷◌, ◌++◌, codes, decimal, subst, append_assoc, arith}
use Rattle.station.specs.Output.{refusal_line}
use Rattle.station.proofs.Puts.{Stands, stands_more, decimal_short}
use Rattle.station.proofs.digits.put_refusal.Goals as goal

pub put_text-at-requires-2 : goal.put_text-at-requires-2
put_text-at-requires-2 c = omega (arith, decimal_short c.args.line c.ranges.line.fits)

pub put_decimal-at-requires-2 : goal.put_decimal-at-requires-2
put_decimal-at-requires-2 c = omega (arith, decimal_short c.args.line c.ranges.line.fits)

pub put_text-at-requires-3 : goal.put_text-at-requires-3
put_text-at-requires-3 c =
    omega (arith, decimal_short c.args.line c.ranges.line.fits, decimal_short c.args.number (omega arith))

pub put_decimal-at-requires-3 : goal.put_decimal-at-requires-3
put_decimal-at-requires-3 c =
    omega (arith, decimal_short c.args.line c.ranges.line.fits, decimal_short c.args.number (omega arith))

pub put_text-requires : goal.put_text-requires
put_text-requires c =
    omega (
      arith,
      decimal_short c.args.line c.ranges.line.fits,
      decimal_short c.args.number (omega arith),
      decimal_short c.args.place c.ranges.place.fits,
    )

regroup : (a b c d e f g : List ℕ) → (((((a ++ b) ++ c) ++ d) ++ e) ++ f) ++ g ≡ a ++ (b ++ (c ++ (d ++ (e ++ (f ++ g)))))
regroup a b c d e f g = simp append_assoc

pub returns-clause-after : goal.returns-clause-after
returns-clause-after c =
    let xs = c.args.out.now in
    let line = decimal c.args.line in
    let number = decimal c.args.number in
    let place = decimal c.args.place in
    let one : Stands xs 0 (codes "line ") c.put_text-at.new.out c.put_text-at.result =
    record { after = c.put_text-at.ensures.after; behind = c.put_text-at.ensures.behind } in
    let two = stands_more (omega arith) line _ _ one c.put_decimal-at.ensures.after c.put_decimal-at.ensures.behind in
    let three = stands_more (omega arith) (codes " refused ") _ _ two c.put_text-at-2.ensures.after c.put_text-at-2.ensures.behind in
    let four = stands_more (omega arith) number _ _ three c.put_decimal-at-2.ensures.after c.put_decimal-at-2.ensures.behind in
    let five = stands_more (omega arith) (codes " at ") _ _ four c.put_text-at-3.ensures.after c.put_text-at-3.ensures.behind in
    let six = stands_more (omega arith) place _ _ five c.put_decimal-at-3.ensures.after c.put_decimal-at-3.ensures.behind in
    let seven = stands_more (omega arith) (10 ∷ []) _ _ six c.put_text.ensures.after c.put_text.ensures.behind in
    let all : Stands xs 0 (refusal_line c.args.line c.args.number c.args.place) c.put_text.new.out c.put_text.result =
    subst (λ t. Stands xs 0 t c.put_text.new.out c.put_text.result)
    (regroup (codes "line ") line (codes " refused ") number (codes " at ") place (10 ∷ [])) seven in
    all.after
