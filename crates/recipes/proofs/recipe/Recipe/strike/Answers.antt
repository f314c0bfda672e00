use Rattle.std.proofs.Common.{rules}
use Rattle.recipes.proofs.Reaches.{strikes}
use Rattle.recipes.proofs.recipe.Recipe.strike.Goals as goal

pub returns-in_err-read_line-clause-history : goal.returns-in_err-read_line-clause-history
returns-in_err-read_line-clause-history g c =
    let a = g.A.RecordKind in
    let b = g.B.RecordKind in
    strikes a.means b.means g.met.A.RecordKind.lawful g.met.B.RecordKind.lawful _ _ c.args.line.now _ (search rules) (search rules)

pub returns-clause-history : goal.returns-clause-history
returns-clause-history g c =
    let a = g.A.RecordKind in
    let b = g.B.RecordKind in
    strikes a.means b.means g.met.A.RecordKind.lawful g.met.B.RecordKind.lawful _ _ c.args.line.now _ (search rules) (search rules)
