-- A call leads from sections that a history reached to those that the longer history reaches, and its answer is the one that the history defines.
use Rattle.std.proofs.Common.{◌≡◌, ℕ, suc, ◌+◌, ◌-◌, ◌≤◌, Bool, true, false, cond, not, ◌&&◌, ◌||◌, ◌≢◌, ◌↔◌, List, [], ◌∷◌, ◌++◌, length, take, drop, ℤ, sym, refl, ap, ◌∙◌, subst, arith}
use Rattle.std.specs.List.{AllByRecursion}
use Rattle.std.proofs.lemmas.List.{length-take-le, take_at, length-append, length-drop}
use Rattle.std.proofs.lemmas.Bool.{both_ways, eqb-true, eqb-false}
use Rattle.records.specs.Kind.{Kind, IsRecord, Lawful}
use Rattle.records.specs.Line.{Section, first, second, InSection, read_line}
use Rattle.records.specs.Outcome.{Refused, plain, Outcome, got, refused, refuse_if}
use Rattle.model.specs.Answers.{Done, done, Count, EnterAnswers, StrikeAnswers, ClearAnswers}
use Rattle.model.specs.History.{Call, enter, strike, clear, History, Layout, over, kind, provided, usable, reading, named, Holds, Listed, Live}
use Rattle.model.proofs.LinesRead.{line_is}
use Rattle.model.proofs.Live.{first_not_second, second_not_first, listed_by, listed_records, live_records}
use Rattle.model.proofs.Orders.{Row, insert, delete, length-insert, length-delete}
use Rattle.model.proofs.Steps.{NamesBy, clear_all, unread_left, other_left, enter_held, enter_full, enter_new, strike_held, strike_absent}
use Rattle.recipes.specs.Calls.{Sections, changed_by, after, after_all, answered_by, enter_in, strike_in, enter_answer, strike_answer, clear_answer}
use Rattle.recipes.specs.Reached.{Holding, Reached, Enters, Strikes}
use Rattle.recipes.specs.Slots.{State, live, place_of, is_among, is_full, turns_away, entered, struck, cleared, opened, with_entered, with_struck}
use Rattle.recipes.proofs.Ranked.{among_holds, holds_among, insert_place, delete_place}

-- a section whose records stay as live as they were
kept : (c : Layout) (h : History) (call : Call) (x : Section) (s : State) → ((q : Row) → Live c h x q ↔ Live c (call ∷ h) x q) → Holding c h x s → Holding c (call ∷ h) x s
kept c h call x s f i = record { sized = i.sized; within = i.within; listed = listed_by (kind c x) (Live c h x) (Live c (call ∷ h) x) (live s) f i.listed }

pub live_length : (c : Layout) (h : History) (x : Section) (s : State) → Holding c h x s → length (live s) ≡ s.count
live_length c h x s i = length-take-le s.count s.slots (few s.count (provided c x) (length s.slots) i.within i.sized)
  where
    few : (n p l : ℕ) → n ≤ usable p → l ≡ p → n ≤ l
    few n p l a b = omega arith

module _ (c : Layout) (laws : (s : Section) → Lawful (kind c s)) (h : History) (line : List ℕ) (x : Section) (r : Row) (e : reading c line ≡ named x r) (s : State)
    (i : Holding c h x s) where
  is_record : IsRecord (kind c x) r
  is_record = line_is c laws line (record { section = x; numbers = r }) e

  records : AllByRecursion (IsRecord (kind c x)) (live s)
  records = listed_records (kind c x) (Live c h x) (live s) (live_records c laws h x) i.listed

  absent : is_among (kind c x) r (live s) ≡ false → Holds (live s) r → ⊥
  absent p q = both_ways (is_among (kind c x) r (live s)) p (holds_among (kind c x) (laws x) r is_record (live s) i.listed.rising q)

  present : is_among (kind c x) r (live s) ≡ true → Holds (live s) r
  present p = among_holds (kind c x) (laws x) r is_record (live s) records p

  abbrev Entering : State → Outcome Done → Type 0
  Entering t o = EnterAnswers c h line o × Holding c (enter line ∷ h) x t

  pub enter_holding : Entering (entered (kind c x) r s) (refuse_if (turns_away (kind c x) r s) (plain 31 0) (done x (entered (kind c x) r s).count))
  enter_holding = go (is_among (kind c x) r (live s)) refl (is_full s) refl
    where
      place : ℕ
      place = place_of (kind c x) r (live s)

      new : State
      new = record { slots = with_entered s.slots s.count place r; count = s.count + 1 }

      room : (n p : ℕ) → n ≤ usable p → n ≢ usable p → n + 1 ≤ usable p
      room n p a b = omega arith

      all : (y n p l d : ℕ) → y ≡ n + 1 → l ≡ p → d ≡ l - (n + 1) → n + 1 ≤ usable p → y + d ≡ p
      all y n p l d a b f g = omega arith

      go : (b : Bool) → is_among (kind c x) r (live s) ≡ b → (d : Bool) → is_full s ≡ d
          → Entering (cond (b || d) s new) (refuse_if (not b && d) (plain 31 0) (done x (cond (b || d) s new).count))
      go true p d q =
          let t = enter_held c laws h line x r e (live s) i.listed (present p) in
          (subst (λ n. EnterAnswers c h line (done x n)) (live_length c h x s i) t.1, record { sized = i.sized; within = i.within; listed = t.0 })
      go false p true q =
          let full : length (live s) ≡ usable (provided c x) = live_length c h x s i ∙ eqb-true s.count (usable (length s.slots)) q ∙ ap usable i.sized in
          let t = enter_full c laws h line x r e (live s) i.listed (absent p) full in
          (t.1, kept c h (enter line) x s t.0 i)
      go false p false q =
          let len = live_length c h x s i in
          let ne : s.count ≢ usable (provided c x) = λ f. eqb-false s.count (usable (length s.slots)) q (f ∙ ap usable (sym i.sized)) in
          let t = enter_new c laws h line x r e (live s) i.listed (absent p) (λ f. ne (sym len ∙ f)) in
          let xs = insert (kind c x) r (live s) in
          let long : length xs ≡ s.count + 1 = length-insert (kind c x) r (live s) ∙ ap suc len ∙ omega arith in
          let whole : with_entered s.slots s.count place r ≡ xs ++ drop (s.count + 1) s.slots =
          ap (λ z. z ++ drop (s.count + 1) s.slots) (insert_place (kind c x) (laws x) r is_record (live s) records (absent p)) in
          let front : live new ≡ xs = ap (take (s.count + 1)) whole ∙ take_at xs (drop (s.count + 1) s.slots) (s.count + 1) long in
          let fits = room s.count (provided c x) i.within ne in (
            subst (λ n. EnterAnswers c h line (done x n)) (ap suc len ∙ omega arith) t.1,
            record {
              sized = ap length whole ∙ length-append xs (drop (s.count + 1) s.slots)
                  ∙ all (length xs) s.count (provided c x) (length s.slots) (length (drop (s.count + 1) s.slots)) long i.sized (length-drop (s.count + 1) s.slots) fits;
              within = fits;
              listed = subst (Listed (kind c x) (Live c (enter line ∷ h) x)) (sym front) t.0;
            },
          )

  abbrev Striking : State → Outcome Done → Type 0
  Striking t o = StrikeAnswers c h line o × Holding c (strike line ∷ h) x t

  pub strike_holding : Striking (struck (kind c x) r s) (refuse_if (not (is_among (kind c x) r (live s))) (plain 32 0) (done x (struck (kind c x) r s).count))
  strike_holding = go (is_among (kind c x) r (live s)) refl
    where
      place : ℕ
      place = place_of (kind c x) r (live s)

      less : State
      less = record { slots = with_struck s.slots s.count place; count = s.count - 1 }

      fewer : (n p : ℕ) → n ≤ usable p → n - 1 ≤ usable p
      fewer n p a = omega arith

      all : (y n p l d : ℕ) → y ≡ n - 1 → l ≡ p → d ≡ l - (n - 1) → n ≤ usable p → y + d ≡ p
      all y n p l d a b f g = omega arith

      go : (b : Bool) → is_among (kind c x) r (live s) ≡ b → Striking (cond b less s) (refuse_if (not b) (plain 32 0) (done x (cond b less s).count))
      go false p =
          let t = strike_absent c laws h line x r e (live s) i.listed (absent p) in
          (t.1, kept c h (strike line) x s t.0 i)
      go true p =
          let t = strike_held c laws h line x r e (live s) i.listed (present p) in
          let xs = delete r (live s) in
          let one = length-delete (kind c x) (laws x) r (live s) records i.listed.rising (present p) in
          let len = live_length c h x s i in
          let long : length xs ≡ s.count - 1 = omega (arith, one, len) in
          let whole : with_struck s.slots s.count place ≡ xs ++ drop (s.count - 1) s.slots =
          ap (λ z. z ++ drop (s.count - 1) s.slots) (delete_place (kind c x) (laws x) r is_record (live s) records i.listed.rising p) in
          let front : live less ≡ xs = ap (take (s.count - 1)) whole ∙ take_at xs (drop (s.count - 1) s.slots) (s.count - 1) long in (
            subst (λ n. StrikeAnswers c h line (done x n)) long t.1,
            record {
              sized = ap length whole ∙ length-append xs (drop (s.count - 1) s.slots)
                  ∙ all (length xs) s.count (provided c x) (length s.slots) (length (drop (s.count - 1) s.slots)) long i.sized (length-drop (s.count - 1) s.slots) i.within;
              within = fewer s.count (provided c x) i.within;
              listed = subst (Listed (kind c x) (Live c (strike line ∷ h) x)) (sym front) t.0;
            },
          )

-- ---- both sections

module _ (a b : Kind) (la : Lawful a) (lb : Lawful b) (m n : ℕ) where
  abbrev c : Layout
  c = over a b m n

  pub laws : (s : Section) → Lawful (kind (over a b m n) s)
  laws first = la
  laws second = lb

  pub reached_start : (xs ys : List Row) → length xs ≡ m → length ys ≡ n → Reached (over a b m n) [] (record { one = opened xs; two = opened ys })
  reached_start xs ys p q = record {
    one = record { sized = p; within = omega arith; listed = record { rising = tt; just = λ r. (λ z. z, λ z. z) } };
    two = record { sized = q; within = omega arith; listed = record { rising = tt; just = λ r. (λ z. z, λ z. z) } };
  }

  module _ (h : History) (s : Sections) (i : Reached (over a b m n) h s) where
    -- a call that names what its line reads as, by what it does to a section that its line names
    module _ (line : List ℕ) (call : Call) (names : NamesBy (over a b m n) line call) (change : Kind → List ℤ → State → State)
        (answer : Section → Kind → List ℤ → State → Outcome Done) (Answers : Outcome Done → Type 0)
        (unread : (f : Refused) → read_line a b line ≡ refused f → Answers (refused f))
        (holding : (x : Section) (r : Row) → read_line a b line ≡ named x r → (t : State) → Holding (over a b m n) h x t
        → Answers (answer x (kind (over a b m n) x) r t) × Holding (over a b m n) (call ∷ h) x (change (kind (over a b m n) x) r t)) where
      abbrev Leads : Outcome InSection → Type 0
      Leads o = Answers (answered_by answer a b o s) × Reached (over a b m n) (call ∷ h) (changed_by change a b o s)

      in_section : (x : Section) (r : Row) → read_line a b line ≡ named x r → Leads (named x r)
      in_section first r e =
          let t = holding first r e s.one i.one in
          (t.0, record { one = t.1; two = kept c h call second s.two (other_left c laws h line first r e call names second first_not_second) i.two })
      in_section second r e =
          let t = holding second r e s.two i.two in
          (t.0, record { one = kept c h call first s.one (other_left c laws h line second r e call names first second_not_first) i.one; two = t.1 })

      reached_by : (o : Outcome InSection) → read_line a b line ≡ o → Leads o
      reached_by (got z) e = in_section z.section z.numbers e
      reached_by (refused f) e =
          let left = unread_left c laws h line f e call names in
          (unread f e, record { one = kept c h call first s.one (left first) i.one; two = kept c h call second s.two (left second) i.two })

    pub reached_enter : (line : List ℕ) → EnterAnswers (over a b m n) h line (enter_answer a b line s) × Reached (over a b m n) (enter line ∷ h) (after a b (enter line) s)
    reached_enter line =
        reached_by line (enter line) (λ x q e. e) entered enter_in (EnterAnswers c h line) (λ f e. EnterAnswers.unread f e)
        (λ x r e t j. enter_holding c laws h line x r e t j) (read_line a b line) refl

    pub reached_strike : (line : List ℕ) → StrikeAnswers (over a b m n) h line (strike_answer a b line s) × Reached (over a b m n) (strike line ∷ h) (after a b (strike line) s)
    reached_strike line =
        reached_by line (strike line) (λ x q e. e) struck strike_in (StrikeAnswers c h line) (λ f e. StrikeAnswers.unread f e)
        (λ x r e t j. strike_holding c laws h line x r e t j) (read_line a b line) refl

    clear_holding : (x : Section) (t : State) → Holding (over a b m n) h x t → Holding (over a b m n) (clear ∷ h) x (cleared t)
    clear_holding x t j = record { sized = j.sized; within = omega arith; listed = clear_all c laws h x }

    counted : (x : Section) (t : State) → Holding (over a b m n) h x t → Count (over a b m n) h x t.count
    counted x t j = (live t, j.listed, live_length c h x t j)

    pub reached_clear : ClearAnswers (over a b m n) h (clear_answer s) × Reached (over a b m n) (clear ∷ h) (after a b clear s)
    reached_clear = (
      (s.one.count, s.two.count, counted first s.one i.one, counted second s.two i.two, refl),
      record { one = clear_holding first s.one i.one; two = clear_holding second s.two i.two },
    )

  -- all calls of a history in turn
  pub reached_all : (s : Sections) → Reached (over a b m n) [] s → (h : History) → Reached (over a b m n) h (after_all a b h s)
  reached_all s i [] = i
  reached_all s i (enter line ∷ h) = (reached_enter h (after_all a b h s) (reached_all s i h) line).1
  reached_all s i (strike line ∷ h) = (reached_strike h (after_all a b h s) (reached_all s i h) line).1
  reached_all s i (clear ∷ h) = (reached_clear h (after_all a b h s) (reached_all s i h)).1

-- ---- what a call's answer and sections say of every history

module _ (a b : Kind) (la : Lawful a) (lb : Lawful b) (s t : Sections) where
  pub enters : (line : List ℕ) (o : Outcome Done) → o ≡ enter_answer a b line s → t ≡ after a b (enter line) s → Enters a b line s o t
  enters line o e f m n h i =
      let z = reached_enter a b la lb m n h s i line in
      (subst (EnterAnswers (over a b m n) h line) (sym e) z.0, subst (Reached (over a b m n) (enter line ∷ h)) (sym f) z.1)

  pub strikes : (line : List ℕ) (o : Outcome Done) → o ≡ strike_answer a b line s → t ≡ after a b (strike line) s → Strikes a b line s o t
  strikes line o e f m n h i =
      let z = reached_strike a b la lb m n h s i line in
      (subst (StrikeAnswers (over a b m n) h line) (sym e) z.0, subst (Reached (over a b m n) (strike line ∷ h)) (sym f) z.1)
