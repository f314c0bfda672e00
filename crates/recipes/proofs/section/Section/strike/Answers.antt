use Rattle.std.proofs.Common.{◌-◌, map, sym, ap, ◌∙◌, arith, rules}
use Rattle.std.specs.Result.{result_ok}
use Rattle.recipes.specs.Rows.{seen}
use Rattle.recipes.proofs.Changes.{strike_absent, strike_live}
use Rattle.recipes.proofs.Places.{struck_numbers, absent, found}
use Rattle.recipes.proofs.section.Section.strike.Goals as goal

pub returns-in_err-p : goal.returns-in_err-p
returns-in_err-p g c =
    let m = g.R.RecordKind in
    let r = m.numbers c.args.row in
    let rows = c.args.self.now.slots.now in
    let n = c.args.self.now.count in
    let h = absent m.numbers m.means r rows n (sym c.in_err-p.was ∙ c.ok.ensures.value ∙ ap result_ok c.look_up.ensures) in
    let e = strike_absent m.means r (seen m.numbers rows n) h in
    rw c.from_residual.ensures (record { answer = e.answers; state = e.state; slots = search rules })

pub returns : goal.returns
returns g c =
    let m = g.R.RecordKind in
    let r = m.numbers c.args.row in
    let rows = c.args.self.now.slots.now in
    let n = c.args.self.now.count in
    let p = c.in_ok-p.p in
    let h = found m.numbers m.means r rows n p (omega (arith, c.args.self.now.within)) (sym c.in_ok-p.was ∙ c.ok.ensures.value ∙ ap result_ok c.look_up.ensures) in
    let e = strike_live m.means r (seen m.numbers rows n) p h in
    record {
      answer = e.answers;
      state = ap (λ l. record { slots = l; count = n - 1 }) (ap (map m.numbers) c.remove_at.ensures ∙ struck_numbers m.numbers rows n p) ∙ e.state;
      slots = search rules;
    }
