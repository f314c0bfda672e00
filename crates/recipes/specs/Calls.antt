-- What each call answers and leaves, of two sections of any content.
use Rattle.std.specs.Prelude.{ℕ, ◌+◌, not, List, [], ◌∷◌, ℤ}
use Rattle.records.specs.Kind.{Kind}
use Rattle.records.specs.Line.{Section, first, second, InSection, read_line}
use Rattle.records.specs.Outcome.{plain, Outcome, got, refused, refuse_if, and_then}
use Rattle.model.specs.Answers.{Done, done}
use Rattle.model.specs.History.{Call, enter, strike, clear, History}
use Rattle.recipes.specs.Slots.{State, live, is_among, turns_away, entered, struck, cleared, opened}

pub record Sections : Type 0 where
  pub one : State
  pub two : State

-- both as they are opened over these slots
abbrev pub begun : List (List ℤ) → List (List ℤ) → Sections
begun xs ys = record { one = opened xs; two = opened ys }

abbrev pub state_of : Section → Sections → State
state_of first s = s.one
state_of second s = s.two

abbrev pub kind_of : Section → Kind → Kind → Kind
kind_of first a b = a
kind_of second a b = b

-- one section changed, the other as it was
abbrev pub changed : Section → (State → State) → Sections → Sections
changed first f s = record { one = f s.one; two = s.two }
changed second f s = record { one = s.one; two = f s.two }

-- the section that the line names changed, and none where the line is refused
abbrev pub changed_by : (Kind → List ℤ → State → State) → Kind → Kind → Outcome InSection → Sections → Sections
changed_by f a b (got n) s = changed n.section (f (kind_of n.section a b) n.numbers) s
changed_by f a b (refused e) s = s

-- what the sections are after a call
abbrev pub after : Kind → Kind → Call → Sections → Sections
after a b (enter line) s = changed_by entered a b (read_line a b line) s
after a b (strike line) s = changed_by struck a b (read_line a b line) s
after a b clear s = record { one = cleared s.one; two = cleared s.two }

-- and after all calls of a history, the last of which stands first
abbrev pub after_all : Kind → Kind → History → Sections → Sections
after_all a b [] s = s
after_all a b (call ∷ h) s = after a b call (after_all a b h s)

-- the answer of the section that the line names, or the line's refusal
abbrev pub answered_by : (Section → Kind → List ℤ → State → Outcome Done) → Kind → Kind → Outcome InSection → Sections → Outcome Done
answered_by f a b o s = and_then o (λ n. f n.section (kind_of n.section a b) n.numbers (state_of n.section s))

-- 31, or the section and its count afterwards
abbrev pub enter_in : Section → Kind → List ℤ → State → Outcome Done
enter_in x k r s = refuse_if (turns_away k r s) (plain 31 0) (done x (entered k r s).count)

-- 32, or the section and its count afterwards
abbrev pub strike_in : Section → Kind → List ℤ → State → Outcome Done
strike_in x k r s = refuse_if (not (is_among k r (live s))) (plain 32 0) (done x (struck k r s).count)

abbrev pub enter_answer : Kind → Kind → List ℕ → Sections → Outcome Done
enter_answer a b line s = answered_by enter_in a b (read_line a b line) s

abbrev pub strike_answer : Kind → Kind → List ℕ → Sections → Outcome Done
strike_answer a b line s = answered_by strike_in a b (read_line a b line) s

-- how many were live in all
abbrev pub clear_answer : Sections → ℕ
clear_answer s = s.one.count + s.two.count
