-- What is written of two sections is the sheet of their history.
use Rattle.std.proofs.Common.{◌≡◌, ℕ, List, ◌++◌, map, length, take, ℤ, sym, refl, ap, ◌∙◌, subst}
use Rattle.std.proofs.lemmas.List.{take-map}
use Rattle.records.specs.Kind.{Kind, Lawful}
use Rattle.records.specs.Outcome.{Outcome}
use Rattle.model.specs.History.{History, over}
use Rattle.model.specs.Sheet.{frame, Sheet, Writes}
use Rattle.recipes.specs.Calls.{Sections, begun, after_all}
use Rattle.recipes.specs.Reached.{Reached, WritesSheet}
use Rattle.recipes.specs.Rows.{seen}
use Rattle.recipes.specs.Slots.{live}
use Rattle.recipes.specs.Texts.{Frames}
use Rattle.recipes.proofs.Reaches.{reached_start, reached_all}

-- a section's live records are those of its first rows
pub live_rows : {X : Type 0} (f : X → List ℤ) (rows : List X) (n : ℕ) → map f (take n rows) ≡ live (seen f rows n)
live_rows f rows n = sym (take-map f n rows)

module _ (a b : Kind) (m n : ℕ) (h : History) (s : Sections) (i : Reached (over a b m n) h s) where
  pub sheet_of : Sheet (over a b m n) h (frame a (live s.one) ++ frame b (live s.two))
  sheet_of = record { records₁ = live s.one; records₂ = live s.two; listed₁ = i.one.listed; listed₂ = i.two.listed; written = refl }

  pub frames_of : Frames (over a b m n) h (frame a (live s.one)) (frame b (live s.two))
  unfolding sheet_of
  frames_of = record { sheet = sheet_of; first = refl; second = refl }

  pub writes_sheet : (buffer : List ℕ) (o : Outcome ℕ) (after : List ℕ) → Writes (frame a (live s.one) ++ frame b (live s.two)) buffer o after
      → WritesSheet (over a b m n) h buffer o after
  writes_sheet buffer o after w = record { sheet = frame a (live s.one) ++ frame b (live s.two); is = sheet_of; writes = w }

-- ---- from the slots that were lent to what they hold at the end

module _ (a b : Kind) (xs ys : List (List ℤ)) (start : Sections) (is : start ≡ begun xs ys) (h : History) (now : Sections) (e : now ≡ after_all a b h start) where
  pub from_start : now ≡ after_all a b h (begun xs ys)
  from_start = e ∙ ap (after_all a b h) is

  pub reached_from : Lawful a → Lawful b → (m n : ℕ) → length xs ≡ m → length ys ≡ n → Reached (over a b m n) h now
  reached_from la lb m n i j =
      subst (Reached (over a b m n) h) (sym from_start) (reached_all a b la lb m n (begun xs ys) (reached_start a b la lb m n xs ys i j) h)
