-- Of a text's lines all are accepted in their turn, or one is the first that is refused, and never both.
use Rattle.std.proofs.Common.{◌≡◌, ℕ, suc, ◌≢◌, ◌⊎◌, List, [], ◌∷◌, ◌++◌, length, sym, refl, ap, ◌∙◌, subst, ap₂, subst₂, inl, inr, ⊎_elim, arith}
use Rattle.records.specs.Outcome.{Refused, Outcome, got, refused}
use Rattle.model.specs.Answers.{Done, EnterAnswers, OneAnswer}
use Rattle.model.specs.History.{enter, History, Layout, Accepted, Live}
use Rattle.model.proofs.Outcomes.{got_refused}
use Rattle.recipes.specs.Texts.{entering, AllAccepted, FirstRefused}

-- two places in one list: the same, or one before the other
data Places {X : Type 0} (xs ys : List X) (x y : X) : Type 0 where
  same : xs ≡ ys → x ≡ y → Places xs ys x y
  earlier : (ws : List X) → ys ≡ xs ++ (x ∷ ws) → Places xs ys x y
  later : (ws : List X) → xs ≡ ys ++ (y ∷ ws) → Places xs ys x y

places_past : {X : Type 0} {xs ys : List X} {x y a b : X} → a ≡ b → Places xs ys x y → Places (a ∷ xs) (b ∷ ys) x y
places_past e (same l m) = same (ap₂ (λ z zs. z ∷ zs) e l) m
places_past e (earlier ws l) = earlier ws (ap₂ (λ z zs. z ∷ zs) (sym e) l)
places_past e (later ws l) = later ws (ap₂ (λ z zs. z ∷ zs) e l)

places : {X : Type 0} (xs ys us vs : List X) (x y : X) → xs ++ (x ∷ us) ≡ ys ++ (y ∷ vs) → Places xs ys x y
places [] [] us vs x y e = same refl (cc)
places [] (b ∷ ys) us vs x y e = earlier ys (cc)
places (a ∷ xs) [] us vs x y e = later xs (cc)
places (a ∷ xs) (b ∷ ys) us vs x y e = let first : a ≡ b = cc in places_past first (places xs ys us vs x y (cc))

module _ (c : Layout) (enters : (h : History) (line : List ℕ) → OneAnswer (EnterAnswers c h line) (Accepted c (Live c h) (enter line))) where
  refused_not_accepted : (h : History) (line : List ℕ) (f : Refused) → EnterAnswers c h line (refused f) → Accepted c (Live c h) (enter line) → ⊥
  refused_not_accepted h line f a acc =
      let got-one = (enters h line).accepts.1 acc in
      got_refused (got got-one.0) got-one.0 f refl ((enters h line).only (got got-one.0) (refused f) got-one.1 a)

  refusal_same : (h : History) (line : List ℕ) (e f : Refused) → EnterAnswers c h line (refused e) → EnterAnswers c h line (refused f) → e ≡ f
  refusal_same h line e f p q = let one = (enters h line).only (refused e) (refused f) p q in cc

  -- ---- a first refused line

  -- the first line that is refused, after a history
  record Stop (lines : List (List ℕ)) (g : History) : Type 0 where
    before : List (List ℕ)
    line : List ℕ
    behind : List (List ℕ)
    split : lines ≡ before ++ (line ∷ behind)
    some : line ≢ []
    accepted : AllAccepted c before g
    refusal : Refused
    answer : EnterAnswers c (entering before g) line (refused refusal)

  -- one line more in front, after which the history is another
  stop_past : (l : List ℕ) (ls : List (List ℕ)) (g g' : History) → ((bs : List (List ℕ)) → AllAccepted c bs g' → AllAccepted c (l ∷ bs) g)
      → ((bs : List (List ℕ)) → entering bs g' ≡ entering (l ∷ bs) g) → Stop ls g' → Stop (l ∷ ls) g
  stop_past l ls g g' keeps moves s = record {
    before = l ∷ s.before;
    line = s.line;
    behind = s.behind;
    split = ap (λ m. l ∷ m) s.split;
    some = s.some;
    accepted = keeps s.before s.accepted;
    refusal = s.refusal;
    answer = subst (λ h. EnterAnswers c h s.line (refused s.refusal)) (moves s.before) s.answer;
  }

  -- a line that is answered, and what comes of the lines behind it
  line_or_stop : (b : ℕ) (bs : List ℕ) (ls : List (List ℕ)) (g : History) (o : Outcome Done) → EnterAnswers c g (b ∷ bs) o
      → AllAccepted c ls (enter (b ∷ bs) ∷ g) ⊎ Stop ls (enter (b ∷ bs) ∷ g) → AllAccepted c ((b ∷ bs) ∷ ls) g ⊎ Stop ((b ∷ bs) ∷ ls) g
  line_or_stop b bs ls g (refused f) a rest =
      inr (record {
        before = [];
        line = b ∷ bs;
        behind = ls;
        split = refl;
        some = λ e. let z : ◌≡◌ {A = ℕ} 0 1 = cc in omega arith;
        accepted = tt;
        refusal = f;
        answer = a;
      })
  line_or_stop b bs ls g (got d) a rest =
      let acc = (enters g (b ∷ bs)).accepts.0 (d, a) in
      ⊎_elim (λ all. inl (acc, all)) (λ s. inr (stop_past (b ∷ bs) ls g (enter (b ∷ bs) ∷ g) (λ l all. (acc, all)) (λ l. refl) s)) rest

  all_or_stop : (ls : List (List ℕ)) (g : History) → AllAccepted c ls g ⊎ Stop ls g
  all_or_stop [] g = inl tt
  all_or_stop ([] ∷ ls) g = ⊎_elim inl (λ s. inr (stop_past [] ls g g (λ l all. all) (λ l. refl) s)) (all_or_stop ls g)
  all_or_stop ((b ∷ bs) ∷ ls) g =
      let one = (enters g (b ∷ bs)).some in
      line_or_stop b bs ls g one.0 one.1 (all_or_stop ls (enter (b ∷ bs) ∷ g))

  pub all_or_refused : (ls : List (List ℕ)) → AllAccepted c ls [] ⊎ ((n : ℕ) × (f : Refused) × (h : History) × FirstRefused c ls n f h)
  all_or_refused ls =
      ⊎_elim inl
      (λ s. inr (
        suc (length s.before),
        s.refusal,
        entering s.before [],
        record {
          before = s.before;
          line = s.line;
          behind = s.behind;
          split = s.split;
          counted = refl;
          some = s.some;
          history = refl;
          accepted = s.accepted;
          answer = s.answer;
        },
      ))
      (all_or_stop ls [])

  -- ---- only one

  accepted_at : (xs : List (List ℕ)) (x : List ℕ) (us : List (List ℕ)) (g : History) → x ≢ [] → AllAccepted c (xs ++ (x ∷ us)) g
      → Accepted c (Live c (entering xs g)) (enter x)
  accepted_at [] [] us g some all = absurd (some refl)
  accepted_at [] (b ∷ bs) us g some all = all.0
  accepted_at ([] ∷ xs) x us g some all = accepted_at xs x us g some all
  accepted_at ((b ∷ bs) ∷ xs) x us g some all = accepted_at xs x us (enter (b ∷ bs) ∷ g) some all.1

  module _ (ls : List (List ℕ)) (n : ℕ) (f : Refused) (h : History) (p : FirstRefused c ls n f h) where
    -- no lines are all accepted that have the refused line in its place
    never_there : (ys us : List (List ℕ)) → ys ≡ p.before ++ (p.line ∷ us) → AllAccepted c ys [] → ⊥
    never_there ys us e all =
        refused_not_accepted (entering p.before []) p.line f (subst (λ x. EnterAnswers c x p.line (refused f)) p.history p.answer)
        (accepted_at p.before p.line us [] p.some (subst (λ l. AllAccepted c l []) e all))

    pub never_all : AllAccepted c ls [] → ⊥
    never_all = never_there ls p.behind p.split

  pub first_refused_one : (ls : List (List ℕ)) (n n' : ℕ) (f f' : Refused) (h h' : History) → FirstRefused c ls n f h → FirstRefused c ls n' f' h'
      → (n ≡ n') × (f ≡ f') × (h ≡ h')
  first_refused_one ls n n' f f' h h' p q =
      by_places (places p.before q.before p.behind q.behind p.line q.line (sym p.split ∙ q.split))
    where
      here : p.before ≡ q.before → p.line ≡ q.line → (n ≡ n') × (f ≡ f') × (h ≡ h')
      here e l =
          let histories : h ≡ h' = p.history ∙ ap (λ xs. entering xs []) e ∙ sym q.history in (
            p.counted ∙ ap (λ xs. suc (length xs)) e ∙ sym q.counted,
            refusal_same h' q.line f f' (subst₂ (λ g line. EnterAnswers c g line (refused f)) histories l p.answer) q.answer,
            histories,
          )

      by_places : Places p.before q.before p.line q.line → (n ≡ n') × (f ≡ f') × (h ≡ h')
      by_places (same e l) = here e l
      by_places (earlier ws e) = absurd (never_there ls n f h p q.before ws e q.accepted)
      by_places (later ws e) = absurd (never_there ls n' f' h' q p.before ws e p.accepted)
