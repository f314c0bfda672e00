-- After every history each section has a rising list of its live records, no longer than its usable slots.
use Rattle.std.proofs.Common.{◌≡◌, ℕ, suc, ◌≤◌, ◌↔◌, List, [], ◌∷◌, length, refl, ap, ◌∙◌, arith}
use native.Mathlib.Decide.{ℕ_discrete}
use Rattle.records.specs.Kind.{Lawful}
use Rattle.records.specs.Line.{Section, InSection}
use Rattle.records.specs.Outcome.{plain, Outcome, got, refused}
use Rattle.model.specs.Answers.{Done, done, EnterAnswers, StrikeAnswers}
use Rattle.model.specs.History.{Call, enter, strike, clear, History, Layout, kind, provided, usable, reading, named, Holds, Listed, Live}
use Rattle.model.proofs.Live.{section_discrete, listed_by, listed_records, live_records}
use Rattle.model.proofs.Orders.{Row, holds_dec, insert, length-insert, delete, length-delete}
use Rattle.model.proofs.Steps.{NamesBy, clear_all, unread_left, other_left, enter_held, enter_full, enter_new, strike_held, strike_absent}

pub record State (c : Layout) (h : History) (s : Section) : Type 0 where
  pub list : List Row
  pub listed : Listed (kind c s) (Live c h s) list
  pub few : length list ≤ usable (provided c s)

module _ (c : Layout) (laws : (s : Section) → Lawful (kind c s)) where
  kept : (call : Call) (h : History) (s : Section) → ((q : Row) → Live c h s q ↔ Live c (call ∷ h) s q) → State c h s → State c (call ∷ h) s
  kept call h s same st =
      record { list = st.list; listed = listed_by (kind c s) (Live c h s) (Live c (call ∷ h) s) st.list same st.listed; few = st.few }

  module _ (h : History) (line : List ℕ) (s : Section) (r : Row) (e : reading c line ≡ named s r) (st : State c h s) where
    -- the section after the call, and the call's answer
    pub enter_step : State c (enter line ∷ h) s × ((o : Outcome Done) × EnterAnswers c h line o)
    enter_step = go (holds_dec st.list r) (ℕ_discrete (length st.list) (usable (provided c s)))
      where
        go : Dec (Holds st.list r) → Dec (length st.list ≡ usable (provided c s))
            → State c (enter line ∷ h) s × ((o : Outcome Done) × EnterAnswers c h line o)
        go (yes held) d =
            let p = enter_held c laws h line s r e st.list st.listed held in
            (record { list = st.list; listed = p.0; few = st.few }, (done s (length st.list), p.1))
        go (no new) (yes eq) =
            let p = enter_full c laws h line s r e st.list st.listed new eq in
            (kept (enter line) h s p.0 st, (refused (plain 31 0), p.1))
        go (no new) (no ne) =
            let p = enter_new c laws h line s r e st.list st.listed new ne in (
              record {
                list = insert (kind c s) r st.list;
                listed = p.0;
                few = omega (arith, length-insert (kind c s) r st.list, st.few, ne);
              },
              (done s (suc (length st.list)), p.1),
            )

    pub strike_step : State c (strike line ∷ h) s × ((o : Outcome Done) × StrikeAnswers c h line o)
    strike_step = go (holds_dec st.list r)
      where
        go : Dec (Holds st.list r) → State c (strike line ∷ h) s × ((o : Outcome Done) × StrikeAnswers c h line o)
        go (yes held) =
            let p = strike_held c laws h line s r e st.list st.listed held in
            let recs = listed_records (kind c s) (Live c h s) st.list (live_records c laws h s) st.listed in (
              record {
                list = delete r st.list;
                listed = p.0;
                few = omega (arith, length-delete (kind c s) (laws s) r st.list recs st.listed.rising held, st.few);
              },
              (done s (length (delete r st.list)), p.1),
            )
        go (no new) =
            let p = strike_absent c laws h line s r e st.list st.listed new in
            (kept (strike line) h s p.0 st, (refused (plain 32 0), p.1))

  -- by what the line reads as
  by_line : (h : History) (line : List ℕ) (call : Call) → NamesBy c line call → (s : Section)
      → ((r : Row) → reading c line ≡ named s r → State c h s → State c (call ∷ h) s) → State c h s → State c (call ∷ h) s
  by_line h line call names s step st = go (reading c line) refl
    where
      at : (n : InSection) → reading c line ≡ got n → Dec (n.section ≡ s) → State c (call ∷ h) s
      at n e (yes same) = step n.numbers (e ∙ ap (λ t. named t n.numbers) same) st
      at n e (no ne) = kept call h s (other_left c laws h line n.section n.numbers e call names s ne) st

      go : (o : Outcome InSection) → reading c line ≡ o → State c (call ∷ h) s
      go (got n) e = at n e (section_discrete n.section s)
      go (refused f) e = kept call h s (unread_left c laws h line f e call names s) st

  pub state : (h : History) (s : Section) → State c h s
  state [] s = record { list = []; listed = record { rising = tt; just = λ r. (λ x. x, λ x. x) }; few = omega arith }
  state (enter line ∷ h) s = by_line h line (enter line) (λ t q n. n) s (λ r e st. (enter_step h line s r e st).0) (state h s)
  state (strike line ∷ h) s = by_line h line (strike line) (λ t q n. n) s (λ r e st. (strike_step h line s r e st).0) (state h s)
  state (clear ∷ h) s = record { list = []; listed = clear_all c laws h s; few = omega arith }
