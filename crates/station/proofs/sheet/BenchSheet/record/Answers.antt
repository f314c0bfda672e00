use Rattle.std.proofs.Common.{◌≡◌, ℕ, true, ℤ, Some, None, Err, Option, subst, arith}
use Rattle.std.proofs.lemmas.Result.{err_from_is_err_and}
use Rattle.records.specs.Outcome.{refused}
use Rattle.sheets.specs.Refusals.{refused_of}
use Rattle.station.specs.Handed.{record_of_sheet}
use Rattle.std.specs.Prelude.{◌<ℤ◌, int_le, MatchOption}
use Rattle.std.specs.Option.{ok_or}
use borrow.Author.Differences.{ints}
use Rattle.bench.specs.Kinds.{step, limit}
use Rattle.bench.specs.Rows.{limit_numbers}
use Rattle.sheets.specs.declared.refusal.SheetRefusal.{SheetRefusal}
use Rattle.sheets.proofs.Standing.{second_meets}
use Rattle.station.proofs.sheet.BenchSheet.record.Goals as goal

-- what is missing where it was asked for
missing : {X : Type 0} (o : Option X) (f e : SheetRefusal) (none : Type 0) (some : X → Type 0) → MatchOption o none some → ok_or o f ≡ Err e → none
missing None f e none some m is = m
missing (Some x) f e none some m is = let z : ◌≡◌ {A = ℕ} 0 1 = cc in absurd (omega arith)

-- a limit's ends in the wrong order
not_ordered : (low high : ℤ) → high <ℤ low → int_le low high ≡ true → ⊥
not_ordered low high lt le = grind (arith, ints)

pub returns-in_err-limit-in-Second : goal.returns-in_err-limit-in-Second
returns-in_err-limit-in-Second c =
    let row = c.in-Second.row in
    absurd (not_ordered row.low row.high (missing _ _ _ _ _ c.of_row.ensures (rw c.ok_or.ensures.value at c.in_err-limit-in-Second.was))
    (second_meets step limit c.in_ok-self.field-0.bytes.now c.args.section c.args.i (limit_numbers row) (rw c.in-Second.is at c.in_ok-row.ensures.checked)))

pub returns-in_err-row : goal.returns-in_err-row
returns-in_err-row c =
    let p = err_from_is_err_and c.from_residual-in_err-row.result c.from_residual-in_err-row.ensures.1 in
    let same : c.in_ok-self.field-0.bytes.now ≡ c.args.self.now.bytes.now = rw c.in_ok-self.was at c.args.self.now.whole in
    rw (p.1, p.2)
    (subst (λ bs. refused (refused_of c.in_err-row.field-0.0) ≡ record_of_sheet bs c.args.section c.args.i) same c.in_err-row.ensures.checked)
