use Rattle.std.proofs.Common.{◌≡◌, ◌+◌, ap, ◌∙◌, rules}
use Rattle.std.specs.List.{prefix_len}
use Rattle.records.specs.FieldType.{in_bytes}
use Rattle.records.specs.Line.{is_space, next, stopped, number_at}
use Rattle.records.specs.Outcome.{and_then}
use Rattle.records.proofs.Numbering.{next_from}
use Rattle.records.proofs.number.number_at.Goals as goal
use Rattle.records.proofs.number.number_at.Goals.{After-number_here}
use Rattle.records.proofs.number.number_at.Given.{Over}

spaces : (g : Over) (c : After-number_here g)
    → next (in_bytes g.T.Field.WIDTH g.T.Number.means) c.args.line.now c.args.at
    ≡ and_then (number_at (in_bytes g.T.Field.WIDTH g.T.Number.means) c.args.line.now (c.args.at + c.count_of.result)) (stopped c.args.line.now)
spaces g c = next_from (in_bytes g.T.Field.WIDTH g.T.Number.means) c.args.line.now c.args.at c.count_of.result (c.count_of.ensures.value ∙ ap (prefix_len is_space) c.tail.ensures)

pub returns-in_err-value : goal.returns-in_err-value
returns-in_err-value g c = let from = spaces g (goal.at.returns-in_err-value g c).After-number_here in search rules

pub returns-then-not-stops : goal.returns-then-not-stops
returns-then-not-stops g c = let from = spaces g (goal.at.returns-then-not-stops g c).After-number_here in search rules

pub returns : goal.returns
returns g c = let from = spaces g (goal.at.returns g c).After-number_here in search rules
