-- A text has one output, with one history, and a sheet's lines say what is live.
use Rattle.std.proofs.Common.{◌≡◌, ℕ, ◌≤◌, ◌↔◌, List, [], ◌++◌, length, sym, refl, ap, ◌∙◌, subst, ap₂, ⊎_elim, arith}
use Rattle.std.specs.List.{AllByRecursion}
use Rattle.std.proofs.lemmas.Bool.{cases_lt}
use Rattle.records.specs.Kind.{Kind, Lawful}
use Rattle.records.specs.Line.{Section, first, second}
use Rattle.records.specs.Outcome.{Refused}
use Rattle.records.specs.Text.{lines_of}
use Rattle.model.specs.Answers.{EnterAnswers, OneAnswer}
use Rattle.model.specs.History.{enter, History, Layout, over, kind, Listed, Accepted, Live}
use Rattle.model.specs.Law.{Byte, SameLive}
use Rattle.model.specs.Sheet.{frame}
use Rattle.model.proofs.Law.{sheets_identify_recipes}
use Rattle.model.proofs.Live.{laws_over, listed_by, listed_unique, live_records}
use Rattle.model.proofs.Orders.{Row}
use Rattle.recipes.specs.Texts.{entering, AllAccepted, FirstRefused, Frames}
use Rattle.station.specs.Output.{sheet_lines, refusal_line, Output, too_long, refused_line, whole_sheet}
use Rattle.station.proofs.Hex.{sheet_lines_same, frame-bytes}
use Rattle.station.proofs.TextsRun.{all_or_refused, never_all, first_refused_one}

-- ---- frames

pub frames_bytes : (c : Layout) (h : History) (f g : List ℕ) → Frames c h f g → AllByRecursion Byte f × AllByRecursion Byte g
frames_bytes c h f g fr = (
  subst (AllByRecursion Byte) (sym fr.first) (frame-bytes c.kind₁ fr.sheet.records₁),
  subst (AllByRecursion Byte) (sym fr.second) (frame-bytes c.kind₂ fr.sheet.records₂),
)

module _ (a b : Kind) (la : Lawful a) (lb : Lawful b) where
  module _ (m n m' n' : ℕ) (h h' : History) (f g f' g' : List ℕ) (p : Frames (over a b m n) h f g) (q : Frames (over a b m' n') h' f' g') where
    -- where the same is live, each frame is the same
    frames_same : SameLive (over a b m n) h (over a b m' n') h' → (f ≡ f') × (g ≡ g')
    frames_same live = (
      p.first ∙ ap (frame a) (listed first p.sheet.records₁ q.sheet.records₁ p.sheet.listed₁ q.sheet.listed₁) ∙ sym q.first,
      p.second ∙ ap (frame b) (listed second p.sheet.records₂ q.sheet.records₂ p.sheet.listed₂ q.sheet.listed₂) ∙ sym q.second,
    )
      where
        listed : (s : Section) (xs ys : List Row) → Listed (kind (over a b m' n') s) (Live (over a b m n) h s) xs
            → Listed (kind (over a b m' n') s) (Live (over a b m' n') h' s) ys → xs ≡ ys
        listed s xs ys l k =
            let c = over a b m' n' in
            let laws = laws_over a b la lb m' n' in
            listed_unique (kind c s) (laws s) (Live c h' s) (live_records c laws h' s) xs ys
            (listed_by (kind c s) (Live (over a b m n) h s) (Live c h' s) xs (live s) l) k

    pub lines_same : (sheet_lines f g ≡ sheet_lines f' g') ↔ SameLive (over a b m n) h (over a b m' n') h'
    lines_same =
        let bytes = frames_bytes (over a b m n) h f g p in
        let bytes' = frames_bytes (over a b m' n') h' f' g' q in
        let sheets = (sheets_identify_recipes a b la lb).same_sheets m n m' n' h h' (f ++ g) (f' ++ g') p.sheet q.sheet in (
          λ e. let same = sheet_lines_same f g f' g' bytes.0 bytes.1 bytes'.0 bytes'.1 e in sheets.0 (ap₂ (λ x y. x ++ y) same.0 same.1),
          λ live. let same = frames_same live in ap₂ sheet_lines same.0 same.1,
        )

  module _ (m n : ℕ) where
    frames_some : (h : History) → (f : List ℕ) × (g : List ℕ) × Frames (over a b m n) h f g
    frames_some h =
        let s = ((sheets_identify_recipes a b la lb).one_sheet m n h).some.1 in
        let f = frame a s.records₁ in
        let g = frame b s.records₂ in (
          f,
          g,
          record {
            sheet = record { records₁ = s.records₁; records₂ = s.records₂; listed₁ = s.listed₁; listed₂ = s.listed₂; written = refl };
            first = refl;
            second = refl;
          },
        )

    enters : (h : History) (line : List ℕ) → OneAnswer (EnterAnswers (over a b m n) h line) (Accepted (over a b m n) (Live (over a b m n) h) (enter line))
    enters h line = ((sheets_identify_recipes a b la lb).calls_answer m n h).enters line

    -- a line that is refused comes first in no text that is accepted whole
    pub never_refused : (ls : List (List ℕ)) (k : ℕ) (e : Refused) (h : History) → FirstRefused (over a b m n) ls k e h
        → AllAccepted (over a b m n) ls [] → ⊥
    never_refused = never_all (over a b m n) enters

    output_few : (text : List ℕ) → length text ≤ 32768 → (h : History) × (o : List ℕ) × Output (over a b m n) text h o
    output_few text few =
        let fr = frames_some (entering (lines_of text) []) in
        ⊎_elim (λ all. (_, _, whole_sheet fr.0 fr.1 few all fr.2)) (λ r. (_, _, refused_line r.0 r.1 r.2 few r.3))
        (all_or_refused (over a b m n) enters (lines_of text))

    pub output_some : (text : List ℕ) → (h : History) × (o : List ℕ) × Output (over a b m n) text h o
    output_some text = ⊎_elim (λ long. (_, _, too_long long)) (output_few text) (cases_lt 32768 (length text))

    pub output_only : (text : List ℕ) {h h' : History} {o o' : List ℕ} → Output (over a b m n) text h o → Output (over a b m n) text h' o'
        → (h ≡ h') × (o ≡ o')
    output_only text (too_long l) (too_long l') = (refl, refl)
    output_only text (too_long l) (refused_line k e h few p) = absurd (omega arith)
    output_only text (too_long l) (whole_sheet f g few all fr) = absurd (omega arith)
    output_only text (refused_line k e h few p) (too_long l) = absurd (omega arith)
    output_only text (refused_line k e h few p) (refused_line k' e' h' few' p') =
        let one = first_refused_one (over a b m n) enters (lines_of text) k k' e e' h h' p p' in
        (one.2, ap₂ (λ i r. refusal_line i r.number r.place) one.0 one.1)
    output_only text (refused_line k e h few p) (whole_sheet f g few' all fr) = absurd (never_refused (lines_of text) k e h p all)
    output_only text (whole_sheet f g few all fr) (too_long l) = absurd (omega arith)
    output_only text (whole_sheet f g few all fr) (refused_line k e h few' p) = absurd (never_refused (lines_of text) k e h p all)
    output_only text (whole_sheet f g few all fr) (whole_sheet f' g' few' all' fr') =
        let h = entering (lines_of text) [] in
        (refl, (lines_same m n m n h h f g f' g' fr fr').1 (λ s r. (λ l. l, λ l. l)))
