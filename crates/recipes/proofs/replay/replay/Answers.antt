use Rattle.std.proofs.Common.{[], map, length}
use Rattle.std.proofs.lemmas.List.{length-map}
use Rattle.model.proofs.Law.{sheets_identify_recipes}
use Rattle.recipes.specs.Commands.{making}
use Rattle.recipes.specs.Rows.{both}
use Rattle.recipes.proofs.Made.{made_all}
use Rattle.recipes.proofs.Written.{reached_from}
use Rattle.recipes.proofs.replay.replay.Goals as goal

pub returns-clause-sheet : goal.returns-clause-sheet
returns-clause-sheet g c =
    let a = g.A.RecordKind in
    let b = g.B.RecordKind in
    let xs = c.args.first.now in
    let ys = c.args.second.now in
    let h = making c.args.commands.now [] in
    let start = both a.numbers b.numbers c.open-recipe.result in
    let now = both a.numbers b.numbers c.loop-command.recipe in
    let end = made_all a.means b.means c.args.commands.now start c.loop-command.command-index now c.loop-command-test.false c.loop-command.invariant.1 in
    c.write.ensures.history (length xs) (length ys) h
    (reached_from a.means b.means (map a.numbers xs) (map b.numbers ys) start c.open-recipe.ensures.sections h now end
    g.met.A.RecordKind.lawful g.met.B.RecordKind.lawful (length xs) (length ys) (length-map xs a.numbers) (length-map ys b.numbers))

pub returns-clause-sheets_identify_recipes : goal.returns-clause-sheets_identify_recipes
returns-clause-sheets_identify_recipes g c =
    sheets_identify_recipes g.A.RecordKind.means g.B.RecordKind.means g.met.A.RecordKind.lawful g.met.B.RecordKind.lawful
