-- What enter and strike do to one section's slots, whatever these hold. A row is spoken of by its numbers.
use Rattle.std.specs.Prelude.{ℕ, ◌+◌, ◌-◌, Bool, false, cond, not, ◌&&◌, ◌||◌, List, [], ◌∷◌, ◌++◌, length, take, drop, ℤ, ◌==◌}
use Rattle.std.specs.List.{insert, remove, prefix_len}
use Rattle.std.specs.Ordering.{is_eq}
use Rattle.records.specs.Kind.{Kind, ordering}
use Rattle.model.specs.History.{usable}

-- what the slots hold, and how many of them, from the first on, are live
pub record State : Type 0 where
  pub slots : List (List ℤ)
  pub count : ℕ

abbrev pub live : State → List (List ℤ)
live s = take s.count s.slots

-- a record's place: how many live records stand before it in the order
abbrev pub place_of : Kind → List ℤ → List (List ℤ) → ℕ
place_of k r xs = prefix_len (λ x. k.before x r) xs

-- the record that stands first is r
abbrev pub begins : Kind → List ℤ → List (List ℤ) → Bool
begins k r [] = false
begins k r (x ∷ xs) = is_eq (ordering k x r)

-- r stands at its place
abbrev pub is_among : Kind → List ℤ → List (List ℤ) → Bool
is_among k r xs = begins k r (drop (place_of k r xs) xs)

-- the count equals the usable slots
abbrev pub is_full : State → Bool
is_full s = s.count == usable (length s.slots)

-- the slots, of which the first n are live, with x at place p: the live ones from there on are one slot higher
abbrev pub with_entered : {X : Type 0} → List X → ℕ → ℕ → X → List X
with_entered slots n p x = insert (take n slots) p x ++ drop (n + 1) slots

-- the slots without what stood at place p of the first n: later live ones are one slot lower, and the last one's slot keeps its old content
abbrev pub with_struck : {X : Type 0} → List X → ℕ → ℕ → List X
with_struck slots n p = remove (take n slots) p ++ drop (n - 1) slots

-- an enter is turned away
abbrev pub turns_away : Kind → List ℤ → State → Bool
turns_away k r s = not (is_among k r (live s)) && is_full s

-- after an enter: as before, if the record is live or no slot is free
abbrev pub entered : Kind → List ℤ → State → State
entered k r s =
    cond (is_among k r (live s) || is_full s) s
    (record { slots = with_entered s.slots s.count (place_of k r (live s)) r; count = s.count + 1 })

-- after a strike: as before, if the record is not live
abbrev pub struck : Kind → List ℤ → State → State
struck k r s =
    cond (is_among k r (live s))
    (record { slots = with_struck s.slots s.count (place_of k r (live s)); count = s.count - 1 }) s

-- after clear
abbrev pub cleared : State → State
cleared s = record { slots = s.slots; count = 0 }

-- when opened over these slots
abbrev pub opened : List (List ℤ) → State
opened slots = record { slots = slots; count = 0 }
