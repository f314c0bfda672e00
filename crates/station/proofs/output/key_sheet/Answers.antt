use Rattle.std.proofs.Common.{map, refl, subst₂, arith}
use Rattle.bench.specs.Rows.{step_numbers, limit_numbers}
use Rattle.station.specs.Output.{Gives}
use Rattle.station.proofs.Given.{used_numbers, rest_numbers}
use Rattle.station.proofs.Identified.{outputs_identify_recipes}
use Rattle.station.proofs.output.key_sheet.Goals as goal

pub returns-then-out-lt-BUFFER_LEAST-clause-outputs_identify_recipes : goal.returns-then-out-lt-BUFFER_LEAST-clause-outputs_identify_recipes
returns-then-out-lt-BUFFER_LEAST-clause-outputs_identify_recipes c = outputs_identify_recipes

pub returns-clause-output : goal.returns-clause-output
returns-clause-output c =
    let steps = c.args.steps.now in
    let limits = c.args.limits.now in
    let call = c.put_output in
    let m = c.min-m.ensures in
    let n = c.min-n.ensures in
    record {
      short = λ h. absurd (omega (arith, h, c.if-out-lt-BUFFER_LEAST.false));
      done = λ h. (
        call.result,
        map step_numbers call.new.steps,
        map limit_numbers call.new.limits,
        subst₂ (λ xs ys. Gives c.args.text.now xs ys c.args.out.now call.result (map step_numbers call.new.steps) (map limit_numbers call.new.limits) call.new.out)
            (used_numbers step_numbers steps c.min-m.result m) (used_numbers limit_numbers limits c.min-n.result n) call.ensures,
        refl,
        rest_numbers step_numbers steps c.min-m.result m call.new.steps,
        rest_numbers limit_numbers limits c.min-n.result n call.new.limits,
      );
    }

pub returns-clause-outputs_identify_recipes : goal.returns-clause-outputs_identify_recipes
returns-clause-outputs_identify_recipes c = outputs_identify_recipes
