-- The numbers that the bench's rows stand for.
use Rattle.std.specs.Prelude.{List, [], ◌∷◌, ℤ, pos}
use Rattle.bench.specs.declared.limits.LimitRow.{LimitRow}
use Rattle.bench.specs.declared.steps.StepRow.{StepRow}

abbrev pub step_numbers : StepRow → List ℤ
step_numbers x = pos x.start ∷ pos x.lever ∷ pos x.force ∷ pos x.hold ∷ []

abbrev pub limit_numbers : LimitRow → List ℤ
limit_numbers x = pos x.lever ∷ x.low ∷ x.high ∷ []
