use Rattle.recipes.specs.Rows.{both, SameSlots}
use Rattle.recipes.proofs.Made.{Made}
use Rattle.recipes.proofs.replay.replay.Given as goal

-- the sections are what the commands so far lead to
abbrev pub invariant-loop-command : goal.invariant-loop-command
invariant-loop-command g l =
    let a = g.A.RecordKind in
    let b = g.B.RecordKind in
    SameSlots l.recipe l.initial.recipe
    × Made a.means b.means l.commands (both a.numbers b.numbers l.initial.recipe) l.command-index (both a.numbers b.numbers l.recipe)
