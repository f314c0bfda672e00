use Rattle.std.proofs.Common.{◌∙◌, rules, tests}
use Rattle.std.specs.Ordering.{is_lt}
use Rattle.std.proofs.lemmas.Iterator.{YieldsList-from_slice}
use Rattle.std.proofs.lemmas.Iterator.Consumers.{count_from_yields_List}
use Rattle.std.proofs.lemmas.Iterator.Search.{YieldsList-from_take_while}
use Rattle.std.proofs.lemmas.List.Folds.{length-prefix_len}
use Rattle.records.specs.Kind.{ordering}
use Rattle.recipes.proofs.Places.{place_rows}
use Rattle.recipes.proofs.slots.place.Goals as goal

pub returns : goal.returns
returns g c =
    let m = g.R.RecordKind in
    let r = m.numbers c.args.row.now in
    count_from_yields_List c.take_while.result c.count.result c.count.ensures.ran
    (YieldsList-from_take_while _ (λ y. is_lt (ordering m.means (m.numbers y) r)) (YieldsList-from_slice c.args.rows.now (cc)) c.take_while.ensures.closure c.take_while.ensures.done
    (λ x b q k. search (rules, tests)))
    ∙ length-prefix_len (λ y. is_lt (ordering m.means (m.numbers y) r)) c.args.rows.now
    ∙ place_rows m.numbers m.means r c.args.rows.now
