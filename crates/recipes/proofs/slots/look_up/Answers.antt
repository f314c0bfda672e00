use Rattle.std.proofs.Common.{length, sym, ap, ◌∙◌}
use Rattle.std.specs.Ordering.{is_eq}
use Rattle.std.proofs.lemmas.Bool.{ltb-true}
use Rattle.recipes.proofs.Places.{looked_here, looked_other}
use Rattle.recipes.proofs.slots.look_up.Goals as goal

pub returns-in-Some : goal.returns-in-Some
returns-in-Some g c =
    let m = g.R.RecordKind in
    let rows = c.args.rows.now in
    let p = c.place-p.result in
    let h = c.in-Some.ensures.lookup in
    looked_here m.numbers m.means (m.numbers c.args.row.now) rows p c.place-p.ensures
    c.in-Some.other.now (ltb-true p (length rows) (sym h.0)) h.1 (sym (c.is_eq.ensures ∙ ap is_eq c.compare.ensures) ∙ c.if-is_eq.true)

pub returns-in_default : goal.returns-in_default
returns-in_default g c =
    let m = g.R.RecordKind in
    let rows = c.args.rows.now in
    let p = c.place-p.result in
    let h = c.in-Some.ensures.lookup in
    looked_other m.numbers m.means (m.numbers c.args.row.now) rows p c.place-p.ensures
    c.in-Some.other.now (ltb-true p (length rows) (sym h.0)) h.1 (sym (c.is_eq.ensures ∙ ap is_eq c.compare.ensures) ∙ c.if-is_eq.false)
