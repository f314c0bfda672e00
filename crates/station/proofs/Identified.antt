-- Outputs identify recipes.
use Rattle.std.proofs.Common.{◌≡◌, ℕ, ◌↔◌, List, arith}
use Rattle.records.specs.Text.{lines_of}
use Rattle.model.specs.History.{History, over}
use Rattle.model.specs.Law.{SameLive}
use Rattle.bench.specs.Kinds.{step, limit}
use Rattle.bench.specs.Lawful.{step_lawful, limit_lawful}
use Rattle.station.specs.Identified.{AcceptedWhole, OutputsIdentifyRecipes}
use Rattle.station.specs.Output.{Output, too_long, refused_line, whole_sheet}
use Rattle.station.proofs.Hex.{no_sheet_line}
use Rattle.station.proofs.Outputs.{frames_bytes, lines_same, never_refused, output_some, output_only}

same_outputs : (m n m' n' : ℕ) (text text' : List ℕ) {h h' : History} {o o' : List ℕ} → Output (over step limit m n) text h o
    → Output (over step limit m' n') text' h' o' → AcceptedWhole (over step limit m n) text
    → (o ≡ o') ↔ (AcceptedWhole (over step limit m' n') text' × SameLive (over step limit m n) h (over step limit m' n') h')
same_outputs m n m' n' text text' (too_long l) out w = let few = w.few in absurd (omega arith)
same_outputs m n m' n' text text' (refused_line k e h few p) out w =
    absurd (never_refused step limit step_lawful limit_lawful m n (lines_of text) k e h p w.lines)
same_outputs m n m' n' text text' (whole_sheet f g few all fr) (too_long l) w =
    (λ e. absurd (no_sheet_line f g 0 19 0 (frames_bytes _ _ f g fr).0 e), λ p. let few' = p.0.few in absurd (omega arith))
same_outputs m n m' n' text text' (whole_sheet f g few all fr) (refused_line k r h few' p) w = (
  λ e. absurd (no_sheet_line f g k r.number r.place (frames_bytes _ _ f g fr).0 e),
  λ q. absurd (never_refused step limit step_lawful limit_lawful m' n' (lines_of text') k r h p q.0.lines),
)
same_outputs m n m' n' text text' (whole_sheet f g few all fr) (whole_sheet f' g' few' all' fr') w =
    let same = lines_same step limit step_lawful limit_lawful _ _ _ _ _ _ f g f' g' fr fr' in
    (λ e. (record { few = few'; lines = all' }, same.0 e), λ p. same.1 p.1)

pub outputs_identify_recipes : OutputsIdentifyRecipes
outputs_identify_recipes = record {
  one_output = λ m n text.
      let some = output_some step limit step_lawful limit_lawful m n text in
      (some.0, some.1, some.2, λ h o out. output_only step limit step_lawful limit_lawful m n text out some.2);
  same_outputs = λ m n m' n' text text' h h' o o'. same_outputs m n m' n' text text';
}
