-- What each call does to the rising lists of the live records, and what it answers.
use Rattle.std.proofs.Common.{◌≡◌, ℕ, suc, ◌≢◌, ◌⊎◌, ◌↔◌, List, [], ◌∷◌, length, sym, refl, ap, ◌∙◌, subst, subst₂, inl, inr, ⊎_elim}
use mathlib.Core.Logic.Iff
use Rattle.records.specs.Kind.{Lawful}
use Rattle.records.specs.Line.{Section}
use Rattle.records.specs.Outcome.{Refused, plain, refused}
use Rattle.model.specs.Answers.{Count, done, EnterAnswers, StrikeAnswers}
use Rattle.model.specs.History.{Call, enter, strike, clear, History, Layout, kind, provided, usable, reading, named, Holds, Listed, Names, Accepted, Live}
use Rattle.model.proofs.LinesRead.{line_is}
use Rattle.model.proofs.Live.{listed_by, listed_records, listed_unique, named_same, live_records, live_same, live_entered, live_struck}
use Rattle.model.proofs.Orders.{Row, insert, holds_insert, length-insert, rising_insert, delete, holds_delete, rising_delete}
use Rattle.model.proofs.Outcomes.{got_refused}

-- the call names nothing but what the line reads as
abbrev pub NamesBy : Layout → List ℕ → Call → Type 0
NamesBy c line call = (s : Section) (q : Row) → Names c call s q → reading c line ≡ named s q

module _ (c : Layout) (laws : (s : Section) → Lawful (kind c s)) (h : History) where
  -- a rising list of the live has as many as any other
  pub count_is : (s : Section) (xs : List Row) → Listed (kind c s) (Live c h s) xs → (n : ℕ) → Count c h s n → n ≡ length xs
  count_is s xs l n p = sym p.2 ∙ ap length (listed_unique (kind c s) (laws s) (Live c h s) (live_records c laws h s) p.0 xs p.1 l)

  -- ---- clear

  pub clear_all : (s : Section) → Listed (kind c s) (Live c (clear ∷ h) s) []
  clear_all s = record { rising = tt; just = λ r. (λ x. absurd x, ⊎_elim (λ p. absurd p.1) (λ p. absurd (p.0 (tt, tt)))) }

  -- ---- a line that is refused

  module _ (line : List ℕ) (f : Refused) (e : reading c line ≡ refused f) where
    -- both sections are left
    pub unread_left : (call : Call) → NamesBy c line call → (s : Section) (q : Row) → Live c h s q ↔ Live c (call ∷ h) s q
    unread_left call names s = live_same c call h s (λ q acc n. got_refused (reading c line) _ f (names s q n) e)

    pub enter_unread : (s : Section) (q : Row) → Live c h s q ↔ Live c (enter line ∷ h) s q
    enter_unread = unread_left (enter line) (λ s q n. n)

    pub strike_unread : (s : Section) (q : Row) → Live c h s q ↔ Live c (strike line ∷ h) s q
    strike_unread = unread_left (strike line) (λ s q n. n)

  -- ---- a line that reads as a record

  module _ (line : List ℕ) (s : Section) (r : Row) (e : reading c line ≡ named s r) where
    -- the other section is left
    pub other_left : (call : Call) → NamesBy c line call → (t : Section) → s ≢ t → (q : Row) → Live c h t q ↔ Live c (call ∷ h) t q
    other_left call names t ne = live_same c call h t (λ q acc n. ne (named_same (reading c line) s t r q e (names t q n)).0)

    pub enter_other : (t : Section) → s ≢ t → (q : Row) → Live c h t q ↔ Live c (enter line ∷ h) t q
    enter_other = other_left (enter line) (λ t q n. n)

    pub strike_other : (t : Section) → s ≢ t → (q : Row) → Live c h t q ↔ Live c (strike line ∷ h) t q
    strike_other = other_left (strike line) (λ t q n. n)

    module _ (xs : List Row) (l : Listed (kind c s) (Live c h s) xs) where
      pub enter_held : Holds xs r → Listed (kind c s) (Live c (enter line ∷ h) s) xs × EnterAnswers c h line (done s (length xs))
      enter_held held =
          let live : Live c h s r = (l.just r).0 held in
          let acc : Accepted c (Live c h) (enter line) = (s, r, e, inl live) in
          let same : (q : Row) → Live c h s q ↔ Live c (enter line ∷ h) s q =
          λ q. Iff.trans (inr, ⊎_elim (λ p. subst (Live c h s) p live) (λ m. m)) (live_entered c line h s r e acc q) in
          let l' = listed_by (kind c s) (Live c h s) (Live c (enter line ∷ h) s) xs same l in
          (l', EnterAnswers.entered s r (length xs) e (inl live) (xs, l', refl))

      pub enter_full : (Holds xs r → ⊥) → length xs ≡ usable (provided c s)
          → ((q : Row) → Live c h s q ↔ Live c (enter line ∷ h) s q) × EnterAnswers c h line (refused (plain 31 0))
      enter_full new eq = (
        live_same c (enter line) h s (λ q acc n. refute acc),
        EnterAnswers.full s r e (λ x. new ((l.just r).1 x)) (xs, l, eq),
      )
        where
          refute : Accepted c (Live c h) (enter line) → ⊥
          refute acc =
              let Open : Section → Row → Type 0 =
              λ t q. Live c h t q ⊎ ((ys : List Row) × Listed (kind c t) (Live c h t) ys × (length ys ≢ usable (provided c t))) in
              let same = named_same (reading c line) acc.0 s acc.1 r acc.2 e in
              ⊎_elim (λ x. new ((l.just r).1 x)) (λ p. p.2 (count_is s xs l (length p.0) (p.0, p.1, refl) ∙ eq))
              (subst₂ Open same.0 same.1 acc.3)

      pub enter_new : (Holds xs r → ⊥) → length xs ≢ usable (provided c s)
          → Listed (kind c s) (Live c (enter line ∷ h) s) (insert (kind c s) r xs) × EnterAnswers c h line (done s (suc (length xs)))
      enter_new new ne =
          let k = kind c s in
          let acc : Accepted c (Live c h) (enter line) = (s, r, e, inr (xs, l, ne)) in
          let recs = listed_records k (Live c h s) xs (live_records c laws h s) l in
          let l' : Listed (kind c s) (Live c (enter line ∷ h) s) (insert (kind c s) r xs) =
          record {
            rising = rising_insert (kind c s) (laws s) r xs (line_is c laws line (record { section = s; numbers = r }) e) recs l.rising new;
            just = λ q. Iff.trans (holds_insert (kind c s) r xs q)
                (Iff.trans (⊎_elim inl (λ x. inr ((l.just q).0 x)), ⊎_elim inl (λ x. inr ((l.just q).1 x))) (live_entered c line h s r e acc q));
          } in
          let free : Count c h s (usable (provided c s)) → ⊥ = λ n. ne (sym (count_is s xs l (usable (provided c s)) n)) in
          (l', EnterAnswers.entered s r (suc (length xs)) e (inr free) (insert k r xs, l', length-insert k r xs))

      pub strike_held : Holds xs r
          → Listed (kind c s) (Live c (strike line ∷ h) s) (delete r xs) × StrikeAnswers c h line (done s (length (delete r xs)))
      strike_held held =
          let acc : Accepted c (Live c h) (strike line) = (s, r, e, (l.just r).0 held) in
          let l' : Listed (kind c s) (Live c (strike line ∷ h) s) (delete r xs) =
          record {
            rising = rising_delete (kind c s) r xs l.rising;
            just = λ q. Iff.trans (holds_delete r xs q)
                (Iff.trans (λ x. (x.0, (l.just q).0 x.1), λ x. (x.0, (l.just q).1 x.1)) (live_struck c line h s r e acc q));
          } in
          (l', StrikeAnswers.struck s r (length (delete r xs)) e ((l.just r).0 held) (delete r xs, l', refl))

      pub strike_absent : (Holds xs r → ⊥)
          → ((q : Row) → Live c h s q ↔ Live c (strike line ∷ h) s q) × StrikeAnswers c h line (refused (plain 32 0))
      strike_absent new = (
        live_same c (strike line) h s (λ q acc n. refute acc),
        StrikeAnswers.absent s r e (λ x. new ((l.just r).1 x)),
      )
        where
          refute : Accepted c (Live c h) (strike line) → ⊥
          refute acc =
              let same = named_same (reading c line) acc.0 s acc.1 r acc.2 e in
              new ((l.just r).1 (subst₂ (Live c h) same.0 same.1 acc.3))
