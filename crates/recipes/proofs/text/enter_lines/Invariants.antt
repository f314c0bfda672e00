use Rattle.std.proofs.Common.{drop}
use Rattle.records.specs.Text.{lines_of}
use Rattle.recipes.specs.Rows.{both, SameSlots}
use Rattle.recipes.proofs.Taken.{Progress}
use Rattle.recipes.proofs.text.enter_lines.Given as goal

-- the lines so far were taken, and the sections are what these lead to
abbrev pub invariant-loop-i : goal.invariant-loop-i
invariant-loop-i g l =
    let a = g.A.RecordKind in
    let b = g.B.RecordKind in
    let start = both a.numbers b.numbers l.initial.recipe in
    let reader = l.i-iterator.iter in
    (goal.iterator-loop-i g).can_next l.i-iterator × (goal.iterator-loop-i g).is_finite l.i-iterator
    × SameSlots l.recipe l.initial.recipe
    × Progress a.means b.means (lines_of l.text) (lines_of (drop reader.at reader.text.now)) l.i-iterator.count start (both a.numbers b.numbers l.recipe)
