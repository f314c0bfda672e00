-- A text's output, from how the text ends.
use Rattle.std.proofs.Common.{◌≡◌, ℕ, ◌+◌, ◌-◌, ◌*◌, ◌<◌, ◌≤◌, min, ◌⊎◌, List, [], ◌++◌, map, length, take, drop, ℤ, sym, refl, ap, ◌∙◌, subst, ap₂, inl, inr, ⊎_elim, append_assoc, arith}
use Rattle.std.proofs.lemmas.List.{length-append, take_all, take_at, take-map, drop_all, drop_at, drop-drop, drop-map, map-append}
use Rattle.std.proofs.lemmas.Bool.{cases_lt}
use Rattle.words.proofs.Shifted.{length-bytes_le}
use Rattle.words.specs.Bytes.{bytes_le}
use Rattle.records.specs.Kind.{Kind, Lawful}
use Rattle.records.specs.Line.{Section, first, second}
use Rattle.records.specs.Outcome.{Refused}
use Rattle.records.specs.Payload.{put, payload_size}
use Rattle.records.specs.Text.{lines_of}
use Rattle.model.specs.History.{History, Layout, over, kind, provided, usable, Listed, Live}
use Rattle.model.specs.Sheet.{frame, payloads}
use Rattle.model.proofs.Live.{laws_over, listed_records, listed_unique, live_records}
use Rattle.model.proofs.Payloads.{length-payloads}
use Rattle.model.proofs.States.{state}
use Rattle.recipes.specs.Texts.{entering, AllAccepted, FirstRefused, Frames, Ending, sheet, stopped, short, Ends, written, refused_at, no_room, TakesText}
use Rattle.bench.specs.Kinds.{step, limit}
use Rattle.bench.specs.Lawful.{step_lawful, limit_lawful}
use Rattle.station.specs.Output.{sheet_lines, refusal_line, Output, too_long, refused_line, whole_sheet, Gives}
use Rattle.station.proofs.Spread.{put_front, length-lines}

-- ---- how long a sheet of the bench is

-- a frame has six bytes and those of its records, of which there are no more than slots
frame-length : (k : Kind) (xs : List (List ℤ)) → length (frame k xs) ≡ 6 + length (payloads k xs)
frame-length k xs =
    let a = length-append (bytes_le 4 (length (payloads k xs))) (bytes_le 2 k.number ++ payloads k xs) in
    let b = length-append (bytes_le 2 k.number) (payloads k xs) in
    omega (arith, length-bytes_le 4 (length (payloads k xs)), length-bytes_le 2 k.number)

module _ (m n : ℕ) (h : History) (few₁ : m ≤ 1024) (few₂ : n ≤ 1024) where
  abbrev c : Layout
  c = over step limit m n

  laws : (s : Section) → Lawful (kind (over step limit m n) s)
  laws = laws_over step limit step_lawful limit_lawful m n

  counted : (s : Section) (xs : List (List ℤ)) → Listed (kind (over step limit m n) s) (Live (over step limit m n) h s) xs → length xs ≤ usable (provided (over step limit m n) s)
  counted s xs l =
      let st = state c laws h s in
      omega (arith, ap length (listed_unique (kind c s) (laws s) (Live c h s) (live_records c laws h s) xs st.list l st.listed), st.few)

  size : (s : Section) (xs : List (List ℤ)) → Listed (kind (over step limit m n) s) (Live (over step limit m n) h s) xs
      → length (payloads (kind (over step limit m n) s) xs) ≡ length xs * payload_size (kind (over step limit m n) s).types
  size s xs l = length-payloads (kind c s) xs (listed_records (kind c s) (Live c h s) xs (live_records c laws h s) l)

  pub frames_short : (f g : List ℕ) → Frames (over step limit m n) h f g → length f + length g ≤ 20492
  frames_short f g fr =
      let xs = fr.sheet.records₁ in
      let ys = fr.sheet.records₂ in
      let p : length (payloads step xs) ≡ length xs * 15 = size first xs fr.sheet.listed₁ in
      let q : length (payloads limit ys) ≡ length ys * 5 = size second ys fr.sheet.listed₂ in
      let u : length xs ≤ usable m = counted first xs fr.sheet.listed₁ in
      let v : length ys ≤ usable n = counted second ys fr.sheet.listed₂ in
      let a : length f ≡ 6 + length (payloads step xs) = ap length fr.first ∙ frame-length step xs in
      let b : length g ≡ 6 + length (payloads limit ys) = ap length fr.second ∙ frame-length limit ys in
      omega arith

-- ---- how a text ends, by its ending

module _ (c : Layout) (text buffer : List ℕ) where
  pub ends_refused : (h : History) (n : ℕ) (e : Refused) (ending : Ending) (after : List ℕ) → ending ≡ stopped n e → Ends c text buffer h ending after
      → FirstRefused c (lines_of text) n e h × (after ≡ buffer)
  ends_refused h n e ending after is (written f g all fr room) = let z : ◌≡◌ {A = ℕ} 0 1 = cc in absurd (omega arith)
  ends_refused h n e ending after is (refused_at n' e' h' r) =
      let p : n' ≡ n = cc in
      let q : e' ≡ e = cc in
      (subst (λ k. FirstRefused c (lines_of text) k e h) p (subst (λ k. FirstRefused c (lines_of text) n' k h) q r), refl)
  ends_refused h n e ending after is (no_room f g all fr room) = let z : ◌≡◌ {A = ℕ} 0 1 = cc in absurd (omega arith)

  pub record Written (h : History) (p q : ℕ) (after : List ℕ) : Type 0 where
    pub one : List ℕ
    pub two : List ℕ
    pub history : h ≡ entering (lines_of text) []
    pub accepted : AllAccepted c (lines_of text) []
    pub frames : Frames c h one two
    pub first : p ≡ length one
    pub second : q ≡ length two
    pub bytes : after ≡ (one ++ two) ++ drop (length (one ++ two)) buffer

  pub ends_written : (h : History) (p q : ℕ) (ending : Ending) (after : List ℕ) → ending ≡ sheet p q → Ends c text buffer h ending after → Written h p q after
  ends_written h p q ending after is (written f g all fr room) =
      record { one = f; two = g; history = refl; accepted = all; frames = fr; first = cc; second = cc; bytes = refl }
  ends_written h p q ending after is (refused_at n e h' r) = let z : ◌≡◌ {A = ℕ} 0 1 = cc in absurd (omega arith)
  ends_written h p q ending after is (no_room f g all fr room) = let z : ◌≡◌ {A = ℕ} 0 1 = cc in absurd (omega arith)

  pub ends_short : (h : History) (ending : Ending) (after : List ℕ) → ending ≡ short → Ends c text buffer h ending after
      → (f : List ℕ) × (g : List ℕ) × Frames c h f g × (length buffer < length (f ++ g))
  ends_short h ending after is (written f g all fr room) = let z : ◌≡◌ {A = ℕ} 0 1 = cc in absurd (omega arith)
  ends_short h ending after is (refused_at n e h' r) = let z : ◌≡◌ {A = ℕ} 0 1 = cc in absurd (omega arith)
  ends_short h ending after is (no_room f g all fr room) = (f, g, fr, room)

-- ---- the output

module _ (text : List ℕ) (steps limits : List (List ℤ)) (buffer : List ℕ) where
  abbrev used : Layout
  used = over step limit (length steps) (length limits)

  pub gives_too_long : (n : ℕ) (after : List ℕ) → 32768 < length text → n ≡ length (refusal_line 0 19 0) → after ≡ put buffer 0 (refusal_line 0 19 0)
      → Gives text steps limits buffer n steps limits after
  gives_too_long n after long e f = record {
    history = [];
    output = refusal_line 0 19 0;
    is = too_long long;
    size = e;
    front = f ∙ put_front buffer (refusal_line 0 19 0);
    first = refl;
    second = refl;
  }

  module _ (few : length text ≤ 32768) (steps' limits' : List (List ℤ)) (ending : Ending) (between : List ℕ) (t : TakesText step limit steps limits text buffer ending steps' limits' between) where
    pub gives_refused : (line : ℕ) (e : Refused) (n : ℕ) (after : List ℕ) → ending ≡ stopped line e → n ≡ length (refusal_line line e.number e.place)
        → after ≡ put between 0 (refusal_line line e.number e.place) → Gives text steps limits buffer n steps' limits' after
    gives_refused line e n after is count f =
        let r = ends_refused used text buffer t.history line e ending between is t.ends in
        record {
          history = t.history;
          output = refusal_line line e.number e.place;
          is = refused_line line e t.history few r.0;
          size = count;
          front = f ∙ ap (λ o. put o 0 (refusal_line line e.number e.place)) r.1 ∙ put_front buffer (refusal_line line e.number e.place);
          first = t.first;
          second = t.second;
        }

    module _ (few₁ : length steps ≤ 1024) (few₂ : length limits ≤ 1024) (room : 65536 ≤ length buffer) where
      pub never_short : ending ≡ short → ⊥
      never_short is =
          let s = ends_short used text buffer t.history ending between is t.ends in
          omega (arith, s.3, frames_short (length steps) (length limits) t.history few₁ few₂ s.0 s.1 s.2, length-append s.0 s.1)

      module _ (p q : ℕ) (is : ending ≡ sheet p q) where
        wrote : Written used text buffer t.history p q between
        wrote = ends_written used text buffer t.history p q ending between is t.ends

        pub lines_fit : 2 * p + 2 * q + 2 ≤ length buffer
        lines_fit =
            let w = wrote in
            let few' = frames_short (length steps) (length limits) t.history few₁ few₂ w.one w.two w.frames in
            omega (arith, w.first, w.second)

        pub gives_sheet : (n : ℕ) (after : List ℕ) → n ≡ 2 * p + 2 * q + 2 → after ≡ sheet_lines (take p between) (take q (drop p between)) ++ drop n between
            → Gives text steps limits buffer n steps' limits' after
        gives_sheet n after count f =
            let w = wrote in
            let rest = drop (length (w.one ++ w.two)) buffer in
            let whole : between ≡ w.one ++ (w.two ++ rest) = w.bytes ∙ append_assoc w.one w.two rest in
            let one : take p between ≡ w.one = ap (take p) whole ∙ take_at w.one (w.two ++ rest) p (sym w.first) in
            let behind : drop p between ≡ w.two ++ rest = ap (drop p) whole ∙ drop_at w.one (w.two ++ rest) p (sym w.first) in
            let two : take q (drop p between) ≡ w.two = ap (take q) behind ∙ take_at w.two rest q (sym w.second) in
            let both : length (w.one ++ w.two) ≡ p + q = omega (arith, length-append w.one w.two, w.first, w.second) in
            let past : n ≡ length (w.one ++ w.two) + (p + q + 2) = omega arith in
            let far : drop n between ≡ drop n buffer =
            ap (λ k. drop k between) past ∙ sym (drop-drop (p + q + 2) (length (w.one ++ w.two)) between)
            ∙ ap (drop (p + q + 2)) (ap (drop (length (w.one ++ w.two))) w.bytes ∙ drop_at (w.one ++ w.two) rest (length (w.one ++ w.two)) refl)
            ∙ drop-drop (p + q + 2) (length (w.one ++ w.two)) buffer ∙ ap (λ k. drop k buffer) (sym past) in
            let long : n ≡ length (sheet_lines w.one w.two) = omega (arith, length-lines w.one w.two, w.first, w.second) in
            record {
              history = t.history;
              output = sheet_lines w.one w.two;
              is = subst (λ h. Output used text h (sheet_lines w.one w.two)) (sym w.history)
                  (whole_sheet w.one w.two few w.accepted (subst (λ h. Frames used h w.one w.two) w.history w.frames));
              size = long;
              front = f ∙ ap₂ (λ x y. sheet_lines x y ++ drop n between) one two ∙ ap (λ o. sheet_lines w.one w.two ++ o) (far ∙ ap (λ k. drop k buffer) long);
              first = t.first;
              second = t.second;
            }

-- ---- the slots that are used, and the others

-- the first k of a list, or all where it has fewer
module _ {X : Type 0} (xs : List X) (k m : ℕ) (e : m ≡ min (length xs) k) where
  same_front : (m ≡ k) ⊎ ((length xs ≤ k) × (length xs ≤ m))
  same_front = ⊎_elim (λ (h : k < length xs). inl (omega arith)) (λ (h : length xs ≤ k). inr (h, omega arith)) (cases_lt k (length xs))

  pub take_used : take m xs ≡ take k xs
  take_used = ⊎_elim (λ f. ap (λ j. take j xs) f) (λ h. take_all m xs h.1 ∙ sym (take_all k xs h.0)) same_front

  pub drop_used : drop m xs ≡ drop k xs
  drop_used = ⊎_elim (λ f. ap (λ j. drop j xs) f) (λ h. drop_all m xs h.1 ∙ sym (drop_all k xs h.0)) same_front

-- rows of which the first ones were handed on, by their numbers
module _ {X : Type 0} (f : X → List ℤ) (xs : List X) (m : ℕ) (e : m ≡ min (length xs) 1024) where
  pub used_numbers : map f (take (m - 0) xs) ≡ take 1024 (map f xs)
  used_numbers =
      let z : m - 0 ≡ m = omega arith in
      ap (λ j. map f (take j xs)) z ∙ ap (map f) (take_used xs 1024 m e) ∙ sym (take-map f 1024 xs)

  pub rest_numbers : (ys : List X) → map f (ys ++ drop (m - 0) xs) ≡ map f ys ++ drop 1024 (map f xs)
  rest_numbers ys =
      let z : m - 0 ≡ m = omega arith in
      map-append f ys (drop (m - 0) xs) ∙ ap (λ t. map f ys ++ t) (ap (λ j. map f (drop j xs)) z ∙ ap (map f) (drop_used xs 1024 m e) ∙ sym (drop-map f 1024 xs))
