-- Sheets identify recipes.
use Rattle.std.proofs.Common.{◌≡◌, ℕ, ◌≢◌, List, [], ℤ, subst, arith}
use Rattle.std.specs.List.{AllByRecursion}
use Rattle.records.specs.Kind.{Kind, Lawful}
use Rattle.records.specs.Line.{first, second}
use Rattle.records.specs.Outcome.{got}
use Rattle.model.specs.History.{over, Listed, Live}
use Rattle.model.specs.Law.{Byte, SomeSheet, ReadsSheets, SheetsIdentifyRecipes}
use Rattle.model.specs.Reading.{Both, read_sheet}
use Rattle.model.proofs.Answered.{calls_answer}
use Rattle.model.proofs.Entered.{entered, entered_proper, entered_listed, entered_other}
use Rattle.model.proofs.Last.{live_means}
use Rattle.model.proofs.Live.{first_not_second, second_not_first, laws_over, listed_by}
use Rattle.model.proofs.Outcomes.{got_same}
use Rattle.model.proofs.Sheets.{one_sheet, same_sheets, sheet_reads, sheet_sound}

module _ (a b : Kind) (la : Lawful a) (lb : Lawful b) where
  module _ (apart : a.word ≢ b.word) where
    -- the history that enters what was read
    read_some : (bs : List ℕ) (z : Both) → AllByRecursion Byte bs → read_sheet a b bs ≡ got z → SomeSheet a b bs
    read_some bs z all e =
        let s = sheet_sound a b la lb bs z all e in
        let c = over a b 4096 4096 in
        let laws = laws_over a b la lb 4096 4096 in
        let xs = z.in₁ in
        let ys = z.in₂ in
        let few₁ = s.0.few in
        let few₂ = s.1.few in
        let h = entered a xs [] in
        let none : (q : List ℤ) → Live c h second q → ⊥ =
        λ q. (entered_other c laws apart first second first_not_second xs [] s.0.records q).1 in (
          4096,
          4096,
          entered b ys h,
          entered_proper b lb ys h s.1.records (entered_proper a la xs [] s.0.records tt),
          record {
            records₁ = xs;
            records₂ = ys;
            listed₁ = listed_by a _ _ xs (entered_other c laws apart second first second_not_first ys h s.1.records)
                (entered_listed c laws apart first xs [] s.0.records s.0.rising (omega arith) (λ q l. l));
            listed₂ = entered_listed c laws apart second ys h s.1.records s.1.rising (omega arith) none;
            written = s.2;
          },
        )

    reads_sheets : ReadsSheets a b
    reads_sheets = record {
      accepts = λ bs all. (
        λ p. read_some bs p.0 all p.1,
        λ w. (_, sheet_reads (over a b w.0 w.1) (laws_over a b la lb w.0 w.1) w.2 bs w.4),
      );
      gives = λ m n h bs z sh e.
          subst (λ y. Listed a (Live (over a b m n) h first) y.in₁ × Listed b (Live (over a b m n) h second) y.in₂)
          (got_same (read_sheet a b bs) _ z (sheet_reads (over a b m n) (laws_over a b la lb m n) h bs sh) e) (sh.listed₁, sh.listed₂);
    }

pub sheets_identify_recipes : (a b : Kind) → Lawful a → Lawful b → SheetsIdentifyRecipes a b
sheets_identify_recipes a b la lb = record {
  live_means = λ m n. live_means (over a b m n);
  calls_answer = λ m n. calls_answer (over a b m n) (laws_over a b la lb m n);
  one_sheet = λ m n. one_sheet (over a b m n) (laws_over a b la lb m n);
  same_sheets = same_sheets a b la lb;
  reads_sheets = reads_sheets a b la lb;
}
