-- How a text ends, from what its lines led to and what was written.
use Rattle.std.proofs.Common.{◌≡◌, ℕ, ◌-◌, ◌<◌, ◌≤◌, Bool, true, false, cond, ltb, List, [], ◌++◌, length, drop, ℤ, Ok, Err, sym, refl, ap, ◌∙◌, subst, arith, length-append}
use Rattle.std.proofs.lemmas.Bool.{ltb-true, ltb-false}
use Rattle.records.specs.Kind.{Kind, Lawful}
use Rattle.records.specs.Outcome.{Refused, plain, got, refused, refuse_if}
use Rattle.records.specs.Text.{lines_of}
use Rattle.model.specs.History.{Layout, over}
use Rattle.model.specs.Sheet.{frame, Writes}
use Rattle.recipes.specs.Calls.{Sections, begun, after_all}
use Rattle.recipes.specs.Reached.{Reached}
use Rattle.recipes.specs.Rows.{refused_of}
use Rattle.recipes.specs.Slots.{live}
use Rattle.recipes.specs.Taken.{Ran, stopped_by}
use Rattle.recipes.specs.Texts.{entering, AllAccepted, Frames, Ending, sheet, short, Ends, written, refused_at, no_room, TakesText}
use Rattle.recipes.specs.declared.text.RefusedLine.{RefusedLine}
use Rattle.recipes.proofs.Reaches.{reached_start}
use Rattle.recipes.proofs.Taken.{taken_accepted, ran_refused}
use Rattle.recipes.proofs.Written.{from_start, reached_from, frames_of}

-- ---- what was written

pub record Fits (bytes buffer : List ℕ) (n : ℕ) (after : List ℕ) : Type 0 where
  pub size : n ≡ length bytes
  pub room : length bytes ≤ length buffer
  pub front : after ≡ bytes ++ drop (length bytes) buffer

pub writes_fits : (bytes buffer : List ℕ) (n : ℕ) (after : List ℕ) → Writes bytes buffer (got n) after → Fits bytes buffer n after
writes_fits bytes buffer n after w = go (ltb (length buffer) (length bytes)) refl w.answers w.bytes
  where
    go : (b : Bool) → ltb (length buffer) (length bytes) ≡ b → got n ≡ refuse_if b (plain 33 0) (got (length bytes)) → after ≡ cond b buffer (bytes ++ drop (length bytes) buffer)
        → Fits bytes buffer n after
    go true e p q = let z : ◌≡◌ {A = ℕ} 0 1 = cc in absurd (omega arith)
    go false e p q = record { size = cc; room = ltb-false (length buffer) (length bytes) e; front = q }

pub writes_short : (bytes buffer : List ℕ) (f : Refused) (after : List ℕ) → Writes bytes buffer (refused f) after → (length buffer < length bytes) × (after ≡ buffer)
writes_short bytes buffer f after w = go (ltb (length buffer) (length bytes)) refl w.answers w.bytes
  where
    go : (b : Bool) → ltb (length buffer) (length bytes) ≡ b → refused f ≡ refuse_if b (plain 33 0) (got (length bytes)) → after ≡ cond b buffer (bytes ++ drop (length bytes) buffer)
        → (length buffer < length bytes) × (after ≡ buffer)
    go true e p q = (ltb-true (length buffer) (length bytes) e, q)
    go false e p q = let z : ◌≡◌ {A = ℕ} 0 1 = cc in absurd (omega arith)

-- ---- how the text ends

module _ (a b : Kind) (la : Lawful a) (lb : Lawful b) (xs ys : List (List ℤ)) (text buffer : List ℕ) (taken : List (List ℕ)) (start now : Sections)
    (is : start ≡ begun xs ys) (e : now ≡ after_all a b (entering taken []) start)
    (zs ws : List (List ℤ)) (k : zs ≡ now.one.slots) (l : ws ≡ now.two.slots) where
  abbrev c : Layout
  c = over a b (length xs) (length ys)

  begin : Reached (over a b (length xs) (length ys)) [] start
  begin = subst (Reached c []) (sym is) (reached_start a b la lb (length xs) (length ys) xs ys refl refl)

  reached : Reached (over a b (length xs) (length ys)) (entering taken []) now
  reached = reached_from a b xs ys start is (entering taken []) now e la lb (length xs) (length ys) refl refl

  takes : (ending : Ending) (after : List ℕ) → Ends (over a b (length xs) (length ys)) text buffer (entering taken []) ending after
      → TakesText a b xs ys text buffer ending zs ws after
  takes ending after d =
      let whole = from_start a b xs ys start is (entering taken []) now e in
      record {
        history = entering taken [];
        ends = d;
        first = k ∙ ap (λ s. s.one.slots) whole;
        second = l ∙ ap (λ s. s.two.slots) whole;
      }

  -- at a line that is refused
  pub takes_refused : (r : RefusedLine) → Ran a b (lines_of text) start taken (Err r) → TakesText a b xs ys text buffer (stopped_by r) zs ws buffer
  takes_refused r ran =
      takes (stopped_by r) buffer
      (refused_at r.line (refused_of r.refusal) (entering taken []) (ran_refused a b la lb (length xs) (length ys) (lines_of text) start begin taken r ran))

  module _ (ran : Ran a b (lines_of text) start taken (Ok tt)) where
    abbrev one : List ℕ
    one = frame a (live now.one)

    abbrev two : List ℕ
    two = frame b (live now.two)

    accepted : AllAccepted (over a b (length xs) (length ys)) (lines_of text) []
    accepted = subst (λ ls. AllAccepted c ls []) (sym ran.0) (taken_accepted a b la lb (length xs) (length ys) taken [] start begin ran.1)

    frames : Frames (over a b (length xs) (length ys)) (entering (lines_of text) []) (frame a (live now.one)) (frame b (live now.two))
    frames = subst (λ ls. Frames c (entering ls []) one two) (sym ran.0) (frames_of a b (length xs) (length ys) (entering taken []) now reached)

    history : (ending : Ending) (after : List ℕ) → Ends (over a b (length xs) (length ys)) text buffer (entering (lines_of text) []) ending after
        → Ends (over a b (length xs) (length ys)) text buffer (entering taken []) ending after
    history ending after d = subst (λ ls. Ends c text buffer (entering ls []) ending after) ran.0 d

    -- with its sheet
    pub takes_written : (n m : ℕ) (after : List ℕ) → m ≡ length (frame a (live now.one)) → Writes (frame a (live now.one) ++ frame b (live now.two)) buffer (got n) after
        → TakesText a b xs ys text buffer (sheet m (n - m)) zs ws after
    takes_written n m after is v =
        let fit = writes_fits (one ++ two) buffer n after v in
        let second : length (frame b (live now.two)) ≡ n - m = omega (arith, fit.size, is, length-append (frame a (live now.one)) (frame b (live now.two))) in
        takes (sheet m (n - m)) after
        (history (sheet m (n - m)) after
        (subst (λ o. Ends c text buffer (entering (lines_of text) []) (sheet m (n - m)) o) (sym fit.front)
        (subst (λ j. Ends c text buffer (entering (lines_of text) []) (sheet m j) ((one ++ two) ++ drop (length (one ++ two)) buffer)) second
        (subst (λ j. Ends c text buffer (entering (lines_of text) []) (sheet j (length two)) ((one ++ two) ++ drop (length (one ++ two)) buffer)) (sym is)
        (written one two accepted frames fit.room)))))

    -- or a buffer that is too short
    pub takes_short : (r : Refused) (after : List ℕ) → Writes (frame a (live now.one) ++ frame b (live now.two)) buffer (refused r) after
        → TakesText a b xs ys text buffer short zs ws after
    takes_short r after v =
        let none = writes_short (one ++ two) buffer r after v in
        takes short after (history short after (subst (λ o. Ends c text buffer (entering (lines_of text) []) short o) (sym none.1) (no_room one two accepted frames none.0)))
