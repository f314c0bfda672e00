-- What enter and strike answer and leave in one section, case by case.
use Rattle.std.proofs.Common.{◌≡◌, ℕ, ◌+◌, ◌-◌, Bool, false, cond, not, ◌≢◌, List, length, ℤ, Some, None, Option, unwrap_or, ap}
use Rattle.std.proofs.lemmas.Bool.{eq-eqb, ne_eqb}
use Rattle.records.specs.Kind.{Kind}
use Rattle.model.specs.History.{usable}
use Rattle.recipes.specs.Slots.{State, live, is_among, turns_away, entered, struck, with_entered, with_struck}
use Rattle.recipes.proofs.Places.{Found, Missed}

-- a call's answer and slots are those of the state afterwards, and where it is refused the count stays
pub record Leaves (refused : Bool) (before after : State) (answer : Option ℕ) (slots : List (List ℤ)) : Type 0 where
  pub answers : answer ≡ cond refused None (Some after.count)
  pub state : record { slots = slots; count = unwrap_or answer before.count } ≡ after

module _ (k : Kind) (r : List ℤ) (s : State) (p : ℕ) where
  pub enter_held : Found k r s p → Leaves (turns_away k r s) s (entered k r s) (Some s.count) s.slots
  enter_held h = let f = h.among in record { answers = rw f; state = rw f }

  pub enter_full : Missed k r s p → s.count ≡ usable (length s.slots) → Leaves (turns_away k r s) s (entered k r s) None s.slots
  enter_full h e =
      let f = h.among in
      let b = eq-eqb s.count (usable (length s.slots)) e in
      record { answers = rw (f, b); state = rw (f, b) }

  pub enter_new : Missed k r s p → s.count ≢ usable (length s.slots) → Leaves (turns_away k r s) s (entered k r s) (Some (s.count + 1)) (with_entered s.slots s.count p r)
  enter_new h ne =
      let f = h.among in
      let b = ne_eqb s.count (usable (length s.slots)) ne in
      record { answers = rw (f, b); state = rw (f, b) (ap (λ q. record { slots = with_entered s.slots s.count q r; count = s.count + 1 }) h.at) }

  pub strike_live : Found k r s p → Leaves (not (is_among k r (live s))) s (struck k r s) (Some (s.count - 1)) (with_struck s.slots s.count p)
  strike_live h =
      let f = h.among in
      record { answers = rw f; state = rw f (ap (λ q. record { slots = with_struck s.slots s.count q; count = s.count - 1 }) h.at) }

pub strike_absent : (k : Kind) (r : List ℤ) (s : State) → is_among k r (live s) ≡ false → Leaves (not (is_among k r (live s))) s (struck k r s) None s.slots
strike_absent k r s f = record { answers = rw f; state = rw f }
