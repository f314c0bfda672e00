-- What the code's endings of a text mean, and how far a run of lines went.
use Rattle.std.specs.Prelude.{◌≡◌, ℕ, suc, ◌≢◌, List, [], ◌∷◌, ◌++◌, length, Ok, Err, Result}
use Rattle.records.specs.Kind.{Kind}
use Rattle.records.specs.Outcome.{got, refused}
use Rattle.model.specs.Answers.{Done}
use Rattle.model.specs.History.{enter}
use Rattle.recipes.specs.Calls.{Sections, after, after_all, enter_answer}
use Rattle.recipes.specs.Rows.{refused_of}
use Rattle.recipes.specs.Texts.{entering, Ending, sheet, stopped, short}
use Rattle.recipes.specs.declared.text.FrameLengths.{FrameLengths}
use Rattle.recipes.specs.declared.text.RefusedLine.{RefusedLine}
use Rattle.recipes.specs.declared.text.TextRefusal.{TextRefusal}
use Rattle.recipes.specs.declared.text.TextRefusal.TheVariants.{Line, TooShort}

-- a refused line's number and refusal
abbrev pub stopped_by : RefusedLine → Ending
stopped_by l = stopped l.line (refused_of l.refusal)

abbrev pub ending_of : Result FrameLengths TextRefusal → Ending
ending_of (Ok f) = sheet f.first f.second
ending_of (Err (Line l)) = stopped_by l
ending_of (Err TooShort) = short

-- each line that is not empty is entered into the sections in its turn, with no refusal
abbrev pub AllTaken : Kind → Kind → List (List ℕ) → Sections → Type 0
AllTaken a b [] s = Unit {0}
AllTaken a b ([] ∷ ls) s = AllTaken a b ls s
AllTaken a b ((x ∷ xs) ∷ ls) s = ((d : Done) × (enter_answer a b (x ∷ xs) s ≡ got d)) × AllTaken a b ls (after a b (enter (x ∷ xs)) s)

-- a run of the lines that took these and came to this end
abbrev pub Ran : Kind → Kind → List (List ℕ) → Sections → List (List ℕ) → Result (Unit {0}) RefusedLine → Type 0
Ran a b lines s taken (Ok u) = (lines ≡ taken) × AllTaken a b taken s
Ran a b lines s taken (Err l) =
    (line : List ℕ) × (behind : List (List ℕ)) × (lines ≡ taken ++ (line ∷ behind)) × (line ≢ []) × (l.line ≡ suc (length taken)) × AllTaken a b taken s
    × (enter_answer a b line (after_all a b (entering taken []) s) ≡ refused (refused_of l.refusal))
