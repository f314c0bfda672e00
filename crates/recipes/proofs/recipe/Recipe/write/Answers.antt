use Rattle.std.proofs.Common.{◌++◌, subst, ap₂}
use Rattle.model.specs.Sheet.{frame, Writes}
use Rattle.sheets.specs.Refusals.{wrote}
use Rattle.recipes.specs.Rows.{both}
use Rattle.recipes.proofs.Written.{live_rows, writes_sheet}
use Rattle.recipes.proofs.recipe.Recipe.write.Goals as goal

pub returns : goal.returns
returns g c =
    let a = g.A.RecordKind in
    let b = g.B.RecordKind in
    let r = c.args.self.now in
    let written =
    subst (λ bs. Writes bs c.args.out.now (wrote c.write_sheet.result) c.write_sheet.new.out)
    (ap₂ (λ x y. frame a.means x ++ frame b.means y) (live_rows a.numbers r.first.now r.first_count) (live_rows b.numbers r.second.now r.second_count))
    c.write_sheet.ensures in
    record {
      sheet = written;
      history = λ m n h i. writes_sheet a.means b.means m n h (both a.numbers b.numbers r) i c.args.out.now (wrote c.write_sheet.result) c.write_sheet.new.out written;
    }
