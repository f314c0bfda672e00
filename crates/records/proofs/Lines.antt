-- The lines of a text, by places.
use Rattle.std.proofs.Common.{◌≡◌, ℕ, suc, ◌+◌, ◌-◌, ◌<◌, ◌≤◌, min, Bool, true, false, not, eqb, ◌≢◌, List, [], ◌∷◌, ◌++◌, length, take, drop, sym, refl, ap, ◌∙◌, subst, ap₂, inl, inr, ⊎_elim, arith}
use Rattle.std.specs.List.{prefix_len, between}
use Rattle.std.proofs.lemmas.List.{drop-drop, drop_all, length-drop}
use Rattle.std.proofs.lemmas.Bool.{eqb-true, eqb-false, cond-true, cond-false, cases_lt}
use Rattle.std.proofs.lemmas.Bool.Decides.{nat_tests}
use Rattle.records.specs.Text.{before, lines_of, line_end, next_start, Split}

-- the byte is part of a line, and no LF
abbrev is_line : ℕ → Bool
is_line b = not (eqb b 10)

abbrev First : List ℕ → List (List ℕ) → Type 0
First bs ls = ls ≡ take (prefix_len is_line bs) bs ∷ lines_of (drop (suc (prefix_len is_line bs)) bs)

-- the first line and what follows it
pub first_line : (b : ℕ) (bs : List ℕ) → First (b ∷ bs) (lines_of (b ∷ bs))
first_line b [] = grind (arith, nat_tests)
first_line b (c ∷ cs) = go (eqb b 10) refl (first_line c cs)
  where
    go : (t : Bool) → eqb b 10 ≡ t → First (c ∷ cs) (lines_of (c ∷ cs)) → First (b ∷ c ∷ cs) (lines_of (b ∷ c ∷ cs))
    go true e ih = cond-true (eqb b 10) _ _ e ∙ ap (λ n. take n (b ∷ c ∷ cs) ∷ lines_of (drop (suc n) (b ∷ c ∷ cs))) (sym (cond-false (is_line b) _ _ (ap not e)))
    go false e ih =
        let one : prefix_len is_line (b ∷ c ∷ cs) ≡ suc (prefix_len is_line (c ∷ cs)) = cond-true (is_line b) _ _ (ap not e) ∙ omega arith in
        cond-false (eqb b 10) _ _ e ∙ ap (before b) ih ∙ ap (λ n. take n (b ∷ c ∷ cs) ∷ lines_of (drop (suc n) (b ∷ c ∷ cs))) (sym one)

-- the line that starts at a place, and the place where the next one starts
pub line_at : (text : List ℕ) (at : ℕ) → at < length text
    → lines_of (drop at text) ≡ between at (line_end text at) text ∷ lines_of (drop (next_start text at) text)
line_at text at lt = go (drop at text) refl
  where
    n : ℕ
    n = prefix_len is_line (drop at text)

    last : (k : ℕ) → drop k text ≡ drop (min k (length text)) text
    last k = ⊎_elim (λ l. let e : k ≡ min k (length text) = omega arith in ap (λ m. drop m text) e) (λ l. drop_all k text l ∙ sym (drop_all (min k (length text)) text (omega arith))) (cases_lt k (length text))

    go : (bs : List ℕ) → drop at text ≡ bs → lines_of (drop at text) ≡ between at (line_end text at) text ∷ lines_of (drop (next_start text at) text)
    go [] e = absurd (omega (arith, length-drop at text, ap length e))
    go (b ∷ bs) e =
        let size : prefix_len is_line (drop at text) ≡ line_end text at - at = omega arith in
        let far : drop (suc (prefix_len is_line (drop at text))) (drop at text) ≡ drop (suc (line_end text at)) text =
        let sum : at + suc (prefix_len is_line (drop at text)) ≡ suc (line_end text at) = omega arith in
        drop-drop (suc (prefix_len is_line (drop at text))) at text ∙ ap (λ m. drop m text) sum in
        subst (λ cs. First cs (lines_of cs)) (sym e) (first_line b bs)
        ∙ ap₂ (λ m ls. take m (drop at text) ∷ lines_of ls) size (far ∙ last (suc (line_end text at)))

-- ---- the lines are the text

lf : List ℕ → List ℕ
lf l = l ++ (10 ∷ [])

pub split_lines : (text : List ℕ) → Split text (lines_of text)
split_lines [] = record { bare = tt; whole = inl refl }
split_lines (b ∷ bs) = go (eqb b 10) refl (split_lines bs)
  where
    held : (ls : List (List ℕ)) → b ≢ 10 → Split bs ls → Split (b ∷ bs) (before b ls)
    held [] ne s = record {
      bare = ((ne, tt), tt);
      whole = ⊎_elim (λ e. inr (ap (λ t. b ∷ (t ++ (10 ∷ []))) e)) (λ e. absurd (none bs e)) s.whole;
    }
      where
        none : (cs : List ℕ) → [] ≡ cs ++ (10 ∷ []) → ⊥
        none [] e = cc
        none (c ∷ cs) e = cc
    held (l ∷ ls) ne s = record {
      bare = ((ne, s.bare.0), s.bare.1);
      whole = ⊎_elim (λ e. inl (ap (λ t. b ∷ t) e)) (λ e. inr (ap (λ t. b ∷ t) e)) s.whole;
    }

    go : (t : Bool) → eqb b 10 ≡ t → Split bs (lines_of bs) → Split (b ∷ bs) (lines_of (b ∷ bs))
    go true e s =
        let is : b ≡ 10 = eqb-true b 10 e in
        rw e
        (record {
          bare = (tt, s.bare);
          whole = ⊎_elim (λ f. inl cc) (λ f. inr cc) s.whole;
        })
    go false e s = rw e (held (lines_of bs) (eqb-false b 10 e) s)

-- a text has no more lines than bytes
pub lines_few : (text : List ℕ) → length (lines_of text) ≤ length text
lines_few [] = omega arith
lines_few (b ∷ bs) = grind (arith, nat_tests, lines_few bs, before_few (lines_of bs))
  where
    before_few : (ls : List (List ℕ)) → length ls ≤ length bs → length (before b ls) ≤ suc (length bs)
    before_few [] h = omega arith
    before_few (l ∷ ls) h = omega arith
