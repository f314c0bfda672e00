-- Lines entered one after another: what they lead to, and that they are accepted in their history.
use Rattle.std.proofs.Common.{◌≡◌, ℕ, ◌+◌, Bool, true, false, cond, not, ◌&&◌, ◌||◌, ◌≢◌, List, [], ◌∷◌, ◌++◌, length, ℤ, Err, sym, refl, ap, ◌∙◌, subst, append_assoc, arith, length-append}
use Rattle.records.specs.Kind.{Kind, Lawful}
use Rattle.records.specs.Line.{Section, first, second, InSection, read_line}
use Rattle.records.specs.Outcome.{Refused, plain, Outcome, got, refused, refuse_if}
use Rattle.model.specs.Answers.{Done, done, EnterAnswers}
use Rattle.model.specs.History.{enter, History, over}
use Rattle.model.proofs.Answered.{enter_one}
use Rattle.recipes.specs.Calls.{Sections, state_of, kind_of, changed, changed_by, answered_by, enter_in, after, after_all, enter_answer}
use Rattle.recipes.specs.Reached.{Reached}
use Rattle.recipes.specs.Rows.{refused_of}
use Rattle.recipes.specs.Slots.{State, live, place_of, is_among, is_full, entered, with_entered}
use Rattle.recipes.specs.Taken.{AllTaken, Ran}
use Rattle.recipes.specs.Texts.{entering, AllAccepted, FirstRefused}
use Rattle.recipes.specs.declared.text.RefusedLine.{RefusedLine}
use Rattle.recipes.proofs.Reaches.{laws, reached_enter, reached_all}

-- one line more
pub entering_more : (taken : List (List ℕ)) (b : ℕ) (bs : List ℕ) (h : History) → entering (taken ++ ((b ∷ bs) ∷ [])) h ≡ enter (b ∷ bs) ∷ entering taken h
entering_more [] b bs h = refl
entering_more ([] ∷ taken) b bs h = entering_more taken b bs h
entering_more ((x ∷ xs) ∷ taken) b bs h = entering_more taken b bs (enter (x ∷ xs) ∷ h)

pub entering_empty : (taken : List (List ℕ)) (h : History) → entering (taken ++ ([] ∷ [])) h ≡ entering taken h
entering_empty [] h = refl
entering_empty ([] ∷ taken) h = entering_empty taken h
entering_empty ((x ∷ xs) ∷ taken) h = entering_empty taken (enter (x ∷ xs) ∷ h)

module _ (a b : Kind) where
  -- what the lines lead to after a history is what they lead to from its sections
  pub after_entering : (ls : List (List ℕ)) (h : History) (s : Sections) → after_all a b (entering ls h) s ≡ after_all a b (entering ls []) (after_all a b h s)
  after_entering [] h s = refl
  after_entering ([] ∷ ls) h s = after_entering ls h s
  after_entering ((x ∷ xs) ∷ ls) h s = after_entering ls (enter (x ∷ xs) ∷ h) s ∙ sym (after_entering ls (enter (x ∷ xs) ∷ []) (after_all a b h s))

  pub taken_empty : (ls : List (List ℕ)) (s : Sections) → AllTaken a b ls s → AllTaken a b (ls ++ ([] ∷ [])) s
  taken_empty [] s t = tt
  taken_empty ([] ∷ ls) s t = taken_empty ls s t
  taken_empty ((x ∷ xs) ∷ ls) s t = (t.0, taken_empty ls (after a b (enter (x ∷ xs)) s) t.1)

  pub taken_more : (ls : List (List ℕ)) (y : ℕ) (ys : List ℕ) (s : Sections) (d : Done) → AllTaken a b ls s
      → enter_answer a b (y ∷ ys) (after_all a b (entering ls []) s) ≡ got d → AllTaken a b (ls ++ ((y ∷ ys) ∷ [])) s
  taken_more [] y ys s d t e = ((d, e), tt)
  taken_more ([] ∷ ls) y ys s d t e = taken_more ls y ys s d t e
  taken_more ((x ∷ xs) ∷ ls) y ys s d t e =
      (t.0, taken_more ls y ys (after a b (enter (x ∷ xs)) s) d t.1 (ap (enter_answer a b (y ∷ ys)) (sym (after_entering ls (enter (x ∷ xs) ∷ []) s)) ∙ e))

  module _ (la : Lawful a) (lb : Lawful b) (m n : ℕ) where
    -- lines that are taken are accepted
    pub taken_accepted : (ls : List (List ℕ)) (h : History) (s : Sections) → Reached (over a b m n) h s → AllTaken a b ls s → AllAccepted (over a b m n) ls h
    taken_accepted [] h s i t = tt
    taken_accepted ([] ∷ ls) h s i t = taken_accepted ls h s i t
    taken_accepted ((x ∷ xs) ∷ ls) h s i t =
        let z = reached_enter a b la lb m n h s i (x ∷ xs) in
        let answers = subst (EnterAnswers (over a b m n) h (x ∷ xs)) t.0.1 z.0 in (
          (enter_one (over a b m n) (laws a b la lb m n) h (x ∷ xs)).accepts.0 (t.0.0, answers),
          taken_accepted ls (enter (x ∷ xs) ∷ h) (after a b (enter (x ∷ xs)) s) z.1 t.1,
        )

    -- a run that came to a refusal found the first line that is refused
    pub ran_refused : (lines : List (List ℕ)) (s : Sections) → Reached (over a b m n) [] s → (taken : List (List ℕ)) (l : RefusedLine) → Ran a b lines s taken (Err l)
        → FirstRefused (over a b m n) lines l.line (refused_of l.refusal) (entering taken [])
    ran_refused lines s i taken l (line, behind, split, some, counted, all, answer) = record {
      before = taken;
      line = line;
      behind = behind;
      split = split;
      counted = counted;
      some = some;
      history = refl;
      accepted = taken_accepted taken [] s i all;
      answer = subst (EnterAnswers (over a b m n) (entering taken []) line) answer
          (reached_enter a b la lb m n (entering taken []) (after_all a b (entering taken []) s) (reached_all a b la lb m n s i (entering taken [])) line).0;
    }

-- ---- a run, line by line

-- an enter that is refused leaves the sections
entered_same : (k : Kind) (r : List ℤ) (s : State) (f : Refused) (x : Section) → enter_in x k r s ≡ refused f → entered k r s ≡ s
entered_same k r s f x e = go (is_among k r (live s)) (is_full s) e
  where
    new : State
    new = record { slots = with_entered s.slots s.count (place_of k r (live s)) r; count = s.count + 1 }

    go : (p q : Bool) → refuse_if (not p && q) (plain 31 0) (done x (cond (p || q) s new).count) ≡ refused f → cond (p || q) s new ≡ s
    go true q g = refl
    go false true g = refl
    go false false g = let z : ◌≡◌ {A = ℕ} 0 1 = cc in absurd (omega arith)

pub refused_same : (a b : Kind) (line : List ℕ) (s : Sections) (f : Refused) → enter_answer a b line s ≡ refused f → after a b (enter line) s ≡ s
refused_same a b line s f e = go (read_line a b line) e
  where
    in_section : (x : Section) (r : List ℤ) → enter_in x (kind_of x a b) r (state_of x s) ≡ refused f → changed x (entered (kind_of x a b) r) s ≡ s
    in_section first r g = ap (λ t. record { one = t; two = s.two }) (entered_same a r s.one f first g)
    in_section second r g = ap (λ t. record { one = s.one; two = t }) (entered_same b r s.two f second g)

    go : (o : Outcome InSection) → answered_by enter_in a b o s ≡ refused f → changed_by entered a b o s ≡ s
    go (got n) g = in_section n.section n.numbers g
    go (refused x) g = refl

-- so many lines of the text were taken, those that `left` leaves, and the sections are what they lead to
pub record Progress (a b : Kind) (lines left : List (List ℕ)) (number : ℕ) (start now : Sections) : Type 0 where
  pub taken : List (List ℕ)
  pub split : lines ≡ taken ++ left
  pub counted : number ≡ length taken
  pub all : AllTaken a b taken start
  pub sections : now ≡ after_all a b (entering taken []) start

module _ (a b : Kind) (lines : List (List ℕ)) (number : ℕ) (start now now' : Sections) where
  one_more : (taken left left' : List (List ℕ)) (line : List ℕ) → lines ≡ taken ++ left → left ≡ line ∷ left' → lines ≡ (taken ++ (line ∷ [])) ++ left'
  one_more taken left left' line e f = e ∙ ap (λ t. taken ++ t) f ∙ sym (append_assoc taken (line ∷ []) left')

  count_more : (taken : List (List ℕ)) (line : List ℕ) → number ≡ length taken → number + 1 ≡ length (taken ++ (line ∷ []))
  count_more taken line e = omega (arith, e, length-append taken (line ∷ []))

  pub progress_empty : (left left' : List (List ℕ)) (line : List ℕ) → left ≡ line ∷ left' → line ≡ [] → Progress a b lines left number start now
      → Progress a b lines left' (number + 1) start now
  progress_empty left left' line f z p =
      let f' : left ≡ [] ∷ left' = f ∙ ap (λ l. l ∷ left') z in
      record {
        taken = p.taken ++ ([] ∷ []);
        split = one_more p.taken left left' [] p.split f';
        counted = count_more p.taken [] p.counted;
        all = taken_empty a b p.taken start p.all;
        sections = p.sections ∙ ap (λ h. after_all a b h start) (sym (entering_empty p.taken []));
      }

  pub progress_more : (left left' : List (List ℕ)) (line : List ℕ) → left ≡ line ∷ left' → line ≢ [] → (d : Done) → enter_answer a b line now ≡ got d → now' ≡ after a b (enter line) now
      → Progress a b lines left number start now → Progress a b lines left' (number + 1) start now'
  progress_more left left' [] f some d e g p = absurd (some refl)
  progress_more left left' (y ∷ ys) f some d e g p = record {
    taken = p.taken ++ ((y ∷ ys) ∷ []);
    split = one_more p.taken left left' (y ∷ ys) p.split f;
    counted = count_more p.taken (y ∷ ys) p.counted;
    all = taken_more a b p.taken y ys start d p.all (ap (enter_answer a b (y ∷ ys)) (sym p.sections) ∙ e);
    sections = g ∙ ap (after a b (enter (y ∷ ys))) p.sections ∙ ap (λ h. after_all a b h start) (sym (entering_more p.taken y ys []));
  }

  -- the run ends with a refusal, which leaves the sections
  pub progress_refused : (left left' : List (List ℕ)) (line : List ℕ) (l : RefusedLine) → left ≡ line ∷ left' → line ≢ [] → l.line ≡ number + 1
      → enter_answer a b line now ≡ refused (refused_of l.refusal) → now' ≡ after a b (enter line) now → Progress a b lines left number start now
      → (taken : List (List ℕ)) × Ran a b lines start taken (Err l) × (now' ≡ after_all a b (entering taken []) start)
  progress_refused left left' line l f some e r g p = (
    p.taken,
    (line, left', p.split ∙ ap (λ t. p.taken ++ t) f, some, e ∙ ap (λ k. k + 1) p.counted ∙ omega arith, p.all, ap (enter_answer a b line) (sym p.sections) ∙ r),
    g ∙ refused_same a b line now (refused_of l.refusal) r ∙ p.sections,
  )
