use Rattle.std.proofs.Common.{◌≡◌, ◌+◌, map, length, sym, ap, ◌∙◌, arith, rules}
use Rattle.std.specs.Result.{result_ok}
use Rattle.std.proofs.lemmas.List.{length-map}
use Rattle.model.specs.History.{usable}
use Rattle.recipes.specs.Rows.{seen}
use Rattle.recipes.proofs.Changes.{enter_held, enter_full, enter_new}
use Rattle.recipes.proofs.Places.{entered_numbers, found, missed}
use Rattle.recipes.proofs.section.Section.enter.Goals as goal

pub returns-in-Ok : goal.returns-in-Ok
returns-in-Ok g c =
    let m = g.R.RecordKind in
    let r = m.numbers c.args.row in
    let rows = c.args.self.now.slots.now in
    let n = c.args.self.now.count in
    let h = found m.numbers m.means r rows n c.in-Ok.field-0 (omega (arith, c.args.self.now.within)) (ap result_ok c.in-Ok.ensures) in
    let e = enter_held m.means r (seen m.numbers rows n) c.in-Ok.field-0 h in
    record { answer = e.answers; state = e.state; slots = search rules }

pub returns-in-Err : goal.returns-in-Err
returns-in-Err g c =
    let m = g.R.RecordKind in
    let r = m.numbers c.args.row in
    let rows = c.args.self.now.slots.now in
    let n = c.args.self.now.count in
    let long : usable (length (map m.numbers rows)) ≡ c.min.result = ap usable (length-map rows m.numbers) ∙ sym c.min.ensures in
    let h = missed m.numbers m.means r rows n c.in-Err.field-0 (omega (arith, c.args.self.now.within)) c.in-Err.ensures in
    let e = enter_full m.means r (seen m.numbers rows n) c.in-Err.field-0 h (c.if-self-min.true ∙ sym long) in
    record { answer = e.answers; state = e.state; slots = search rules }

pub insert_at-requires : goal.insert_at-requires
insert_at-requires g c =
    let m = g.R.RecordKind in
    let r = m.numbers c.args.row in
    let h = missed m.numbers m.means r c.args.self.now.slots.now c.args.self.now.count c.in-Err.field-0 (omega (arith, c.args.self.now.within)) c.in-Err.ensures in
    (h.within, omega (arith, c.args.self.now.within, c.if-self-min.false, c.min.ensures))

pub returns-in-Err-2 : goal.returns-in-Err-2
returns-in-Err-2 g c =
    let m = g.R.RecordKind in
    let r = m.numbers c.args.row in
    let rows = c.args.self.now.slots.now in
    let n = c.args.self.now.count in
    let p = c.in-Err.field-0 in
    let long : usable (length (map m.numbers rows)) ≡ c.min.result = ap usable (length-map rows m.numbers) ∙ sym c.min.ensures in
    let h = missed m.numbers m.means r rows n p (omega (arith, c.args.self.now.within)) c.in-Err.ensures in
    let e = enter_new m.means r (seen m.numbers rows n) p h (λ q. c.if-self-min.false (q ∙ long)) in
    record {
      answer = e.answers;
      state = ap (λ l. record { slots = l; count = n + 1 }) (ap (map m.numbers) c.insert_at.ensures ∙ entered_numbers m.numbers rows n p c.args.row) ∙ e.state;
      slots = search rules;
    }
