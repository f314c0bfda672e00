-- Each call has one answer, which is no refusal exactly where the call is accepted.
use Rattle.std.proofs.Common.{◌≡◌, ℕ, ◌+◌, ◌⊎◌, List, ◌∷◌, length, refl, ap, ◌∙◌, subst, ap₂, subst₂, inl, inr, ⊎_elim}
use Rattle.records.specs.Kind.{Lawful}
use Rattle.records.specs.Line.{Section, first, second, InSection}
use Rattle.records.specs.Outcome.{Refused, plain, Outcome, got, refused}
use Rattle.model.specs.Answers.{number_of, Done, done, Count, EnterAnswers, StrikeAnswers, ClearAnswers, OneAnswer}
use Rattle.model.specs.History.{Call, enter, strike, History, Layout, kind, provided, usable, reading, named, Accepted, Live}
use Rattle.model.specs.Law.{CallsAnswer}
use Rattle.model.proofs.Live.{named_same}
use Rattle.model.proofs.Orders.{Row}
use Rattle.model.proofs.Outcomes.{got_refused}
use Rattle.model.proofs.States.{state, enter_step, strike_step}
use Rattle.model.proofs.Steps.{count_is}

module _ (c : Layout) (laws : (s : Section) → Lawful (kind c s)) where
  count_some : (h : History) (s : Section) → (n : ℕ) × Count c h s n
  count_some h s = let st = state c laws h s in (length st.list, (st.list, st.listed, refl))

  count_same : (h : History) (s : Section) (m n : ℕ) → Count c h s m → Count c h s n → m ≡ n
  count_same h s m n p q = count_is c laws h s q.0 q.1 m p ∙ q.2

  module _ (h : History) (line : List ℕ) where
    abbrev Reads : Section → Row → Type 0
    Reads s r = reading c line ≡ named s r

    refused_same : (f g : Refused) → reading c line ≡ refused f → reading c line ≡ refused g → ◌≡◌ {A = Outcome Done} (refused f) (refused g)
    refused_same f g e e' = let same : f ≡ g = cc in ap refused same

    live_at : (s t : Section) (r q : Row) → Reads s r → Reads t q → Live c h s r → Live c h t q
    live_at s t r q e e' l = let same = named_same (reading c line) s t r q e e' in subst₂ (Live c h) same.0 same.1 l

    done_same : (call : Call) (s t : Section) (r q : Row) (m n : ℕ) → Reads s r → Reads t q → Count c (call ∷ h) s m → Count c (call ∷ h) t n
        → done s m ≡ done t n
    done_same call s t r q m n e e' p w =
        let same = (named_same (reading c line) s t r q e e').0 in
        ap₂ done same (count_same (call ∷ h) t m n (subst (λ x. Count c (call ∷ h) x m) same p) w)

    -- ---- enter

    enter_some : (o : Outcome InSection) → reading c line ≡ o → (a : Outcome Done) × EnterAnswers c h line a
    enter_some (refused f) e = (refused f, EnterAnswers.unread f e)
    enter_some (got n) e = (enter_step c laws h line n.section n.numbers e (state c laws h n.section)).1

    full_not_open : (s t : Section) (r q : Row) → Reads s r → Reads t q → (Live c h s r → ⊥) → Count c h s (usable (provided c s))
        → Live c h t q ⊎ (Count c h t (usable (provided c t)) → ⊥) → ⊥
    full_not_open s t r q e e' f n d =
        ⊎_elim (λ l. f (live_at t s q r e' e l))
        (λ g. g (subst (λ x. Count c h x (usable (provided c x))) (named_same (reading c line) s t r q e e').0 n)) d

    enter_only : (o o' : Outcome Done) → EnterAnswers c h line o → EnterAnswers c h line o' → o ≡ o'
    enter_only o o' (EnterAnswers.unread f e) (EnterAnswers.unread g e') = refused_same f g e e'
    enter_only o o' (EnterAnswers.unread f e) (EnterAnswers.full s r e' x y) = absurd (got_refused (reading c line) _ f e' e)
    enter_only o o' (EnterAnswers.unread f e) (EnterAnswers.entered s r m e' d y) = absurd (got_refused (reading c line) _ f e' e)
    enter_only o o' (EnterAnswers.full s r e x y) (EnterAnswers.unread g e') = absurd (got_refused (reading c line) _ g e e')
    enter_only o o' (EnterAnswers.full s r e x y) (EnterAnswers.full t q e' x' y') = refl
    enter_only o o' (EnterAnswers.full s r e x y) (EnterAnswers.entered t q m e' d y') = absurd (full_not_open s t r q e e' x y d)
    enter_only o o' (EnterAnswers.entered s r m e d y) (EnterAnswers.unread g e') = absurd (got_refused (reading c line) _ g e e')
    enter_only o o' (EnterAnswers.entered s r m e d y) (EnterAnswers.full t q e' x' y') = absurd (full_not_open t s q r e' e x' y' d)
    enter_only o o' (EnterAnswers.entered s r m e d y) (EnterAnswers.entered t q n e' d' y') = done_same (enter line) s t r q m n e e' y y'

    enter_accepted : (o : Outcome Done) (d : Done) → o ≡ got d → EnterAnswers c h line o → Accepted c (Live c h) (enter line)
    enter_accepted o d e (EnterAnswers.unread f x) = absurd (got_refused _ d f e refl)
    enter_accepted o d e (EnterAnswers.full s r x f y) = absurd (got_refused _ d (plain 31 0) e refl)
    enter_accepted o d e (EnterAnswers.entered s r n x w y) =
        let st = state c laws h s in
        (s, r, x, ⊎_elim inl (λ g. inr (st.list, st.listed, λ q. g (st.list, st.listed, q))) w)

    enter_answered : Accepted c (Live c h) (enter line) → (d : Done) × EnterAnswers c h line (got d)
    enter_answered acc =
        let s = acc.0 in
        let after = count_some (enter line ∷ h) s in (
          record { section = number_of s; count = after.0 },
          EnterAnswers.entered s acc.1 after.0 acc.2
              (⊎_elim inl (λ p. inr (λ n. p.2 (count_same h s _ _ (p.0, p.1, refl) n))) acc.3) after.1,
        )

    pub enter_one : OneAnswer (EnterAnswers c h line) (Accepted c (Live c h) (enter line))
    enter_one = record {
      some = enter_some (reading c line) refl;
      only = enter_only;
      accepts = (λ p. enter_accepted (got p.0) p.0 refl p.1, enter_answered);
    }

    -- ---- strike

    strike_some : (o : Outcome InSection) → reading c line ≡ o → (a : Outcome Done) × StrikeAnswers c h line a
    strike_some (refused f) e = (refused f, StrikeAnswers.unread f e)
    strike_some (got n) e = (strike_step c laws h line n.section n.numbers e (state c laws h n.section)).1

    strike_only : (o o' : Outcome Done) → StrikeAnswers c h line o → StrikeAnswers c h line o' → o ≡ o'
    strike_only o o' (StrikeAnswers.unread f e) (StrikeAnswers.unread g e') = refused_same f g e e'
    strike_only o o' (StrikeAnswers.unread f e) (StrikeAnswers.absent s r e' x) = absurd (got_refused (reading c line) _ f e' e)
    strike_only o o' (StrikeAnswers.unread f e) (StrikeAnswers.struck s r m e' l y) = absurd (got_refused (reading c line) _ f e' e)
    strike_only o o' (StrikeAnswers.absent s r e x) (StrikeAnswers.unread g e') = absurd (got_refused (reading c line) _ g e e')
    strike_only o o' (StrikeAnswers.absent s r e x) (StrikeAnswers.absent t q e' x') = refl
    strike_only o o' (StrikeAnswers.absent s r e x) (StrikeAnswers.struck t q m e' l y) = absurd (x (live_at t s q r e' e l))
    strike_only o o' (StrikeAnswers.struck s r m e l y) (StrikeAnswers.unread g e') = absurd (got_refused (reading c line) _ g e e')
    strike_only o o' (StrikeAnswers.struck s r m e l y) (StrikeAnswers.absent t q e' x') = absurd (x' (live_at s t r q e e' l))
    strike_only o o' (StrikeAnswers.struck s r m e l y) (StrikeAnswers.struck t q n e' l' y') = done_same (strike line) s t r q m n e e' y y'

    strike_accepted : (o : Outcome Done) (d : Done) → o ≡ got d → StrikeAnswers c h line o → Accepted c (Live c h) (strike line)
    strike_accepted o d e (StrikeAnswers.unread f x) = absurd (got_refused _ d f e refl)
    strike_accepted o d e (StrikeAnswers.absent s r x f) = absurd (got_refused _ d (plain 32 0) e refl)
    strike_accepted o d e (StrikeAnswers.struck s r n x l y) = (s, r, x, l)

    strike_answered : Accepted c (Live c h) (strike line) → (d : Done) × StrikeAnswers c h line (got d)
    strike_answered acc =
        let after = count_some (strike line ∷ h) acc.0 in
        (record { section = number_of acc.0; count = after.0 }, StrikeAnswers.struck acc.0 acc.1 after.0 acc.2 acc.3 after.1)

    pub strike_one : OneAnswer (StrikeAnswers c h line) (Accepted c (Live c h) (strike line))
    strike_one = record {
      some = strike_some (reading c line) refl;
      only = strike_only;
      accepts = (λ p. strike_accepted (got p.0) p.0 refl p.1, strike_answered);
    }

  -- ---- clear

  pub clear_one : (h : History) → (all : ℕ) × ClearAnswers c h all × ((k : ℕ) → ClearAnswers c h k → k ≡ all)
  clear_one h =
      let m = count_some h first in
      let n = count_some h second in (
        m.0 + n.0,
        (m.0, n.0, m.1, n.1, refl),
        λ k p. p.4 ∙ ap₂ (λ x y. x + y) (count_same h first _ _ p.2 m.1) (count_same h second _ _ p.3 n.1),
      )

  pub calls_answer : (h : History) → CallsAnswer c h
  calls_answer h = record { enters = enter_one h; strikes = strike_one h; clears = clear_one h }
