use Rattle.std.proofs.Common.{map, rules}
use Rattle.std.proofs.lemmas.Result.{err_from_is_err_and}
use Rattle.recipes.specs.Rows.{both}
use Rattle.recipes.proofs.Ended.{takes_refused, takes_written, takes_short}
use Rattle.recipes.proofs.text.enter_text.Goals as goal

pub returns-in_err-enter_lines : goal.returns-in_err-enter_lines
returns-in_err-enter_lines g c =
    let a = g.A.RecordKind in
    let b = g.B.RecordKind in
    let p = err_from_is_err_and c.from_residual.result c.from_residual.ensures.1 in
    let ran = c.in_err-enter_lines.ensures.lines in
    rw (p.1, p.2)
    (takes_refused a.means b.means g.met.A.RecordKind.lawful g.met.B.RecordKind.lawful (map a.numbers c.args.first.now) (map b.numbers c.args.second.now)
    c.args.text.now c.args.out.now ran.0 (both a.numbers b.numbers c.open-recipe.result) (both a.numbers b.numbers c.enter_lines.new.recipe)
    c.open-recipe.ensures.sections ran.2 _ _ (search rules) (search rules) c.in_err-enter_lines.field-0.0 ran.1)

pub returns-in_err-size : goal.returns-in_err-size
returns-in_err-size g c =
    let a = g.A.RecordKind in
    let b = g.B.RecordKind in
    let p = err_from_is_err_and c.from_residual-in_err-size.result c.from_residual-in_err-size.ensures.1 in
    let ran = c.in_ok-enter_lines.ensures.lines in
    rw (p.1, p.2)
    (takes_short a.means b.means g.met.A.RecordKind.lawful g.met.B.RecordKind.lawful (map a.numbers c.args.first.now) (map b.numbers c.args.second.now)
    c.args.text.now c.args.out.now ran.0 (both a.numbers b.numbers c.open-recipe.result) (both a.numbers b.numbers c.enter_lines.new.recipe)
    c.open-recipe.ensures.sections ran.2 _ _ (search rules) (search rules) ran.1 _ c.write.new.out c.in_err-size.ensures.sheet)

pub returns : goal.returns
returns g c =
    let a = g.A.RecordKind in
    let b = g.B.RecordKind in
    let ran = c.in_ok-enter_lines.ensures.lines in
    takes_written a.means b.means g.met.A.RecordKind.lawful g.met.B.RecordKind.lawful (map a.numbers c.args.first.now) (map b.numbers c.args.second.now)
    c.args.text.now c.args.out.now ran.0 (both a.numbers b.numbers c.open-recipe.result) (both a.numbers b.numbers c.enter_lines.new.recipe)
    c.open-recipe.ensures.sections ran.2 _ _ (search rules) (search rules) ran.1 c.in_ok-size.size c.first_frame_size-first.result c.write.new.out
    c.first_frame_size-first.ensures c.in_ok-size.ensures.sheet
