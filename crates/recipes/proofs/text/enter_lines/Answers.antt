use Rattle.std.proofs.Common.{◌≡◌, ℕ, ◌+◌, ◌≢◌, List, [], ◌∷◌, length, drop, Ok, Err, Result, sym, refl, ap, ◌∙◌, subst, arith, rules, tests}
use Rattle.std.specs.Result.{MatchResult, IsErrAnd}
use Rattle.std.proofs.lemmas.Bool.{eqb-true, eqb-false}
use Rattle.std.proofs.lemmas.Result.{err_from_is_err_and}
use Rattle.records.specs.Text.{lines_of}
use Rattle.recipes.specs.Rows.{both, told}
use Rattle.recipes.specs.declared.refusal.Counted.{Counted}
use Rattle.recipes.specs.declared.refusal.RecipeRefusal.{RecipeRefusal}
use Rattle.recipes.specs.declared.text.RefusedLine.{RefusedLine}
use Rattle.recipes.proofs.Taken.{progress_empty, progress_more, progress_refused}
use Rattle.recipes.proofs.text.enter_lines.Goals as goal

no_bytes : (line : List ℕ) → length line ≡ 0 → line ≡ []
no_bytes [] e = refl
no_bytes (b ∷ bs) e = absurd (omega arith)

-- what `map_err` was given, by what it answers
stopped : (P : RecipeRefusal → RefusedLine → Type 0) (n : ℕ) → ((e : RecipeRefusal) (l : RefusedLine) → P e l → l ≡ record { line = n; refusal = e })
    → (r : Result Counted RecipeRefusal) (m : Result Counted RefusedLine) (l : RefusedLine) → m ≡ Err l
    → MatchResult r (λ x. m ≡ Ok x) (λ e. IsErrAnd m (P e)) → (l.line ≡ n) × (r ≡ Err l.refusal)
stopped P n is (Ok x) m l q h = let z : ◌≡◌ {A = ℕ} 0 1 = cc in absurd (omega arith)
stopped P n is (Err e) m l q h = let f = is e l (subst (λ o. IsErrAnd o (P e)) q h) in (ap (λ j. j.line) f, sym (ap (λ j. Err j.refusal) f))

went_on : (P : RecipeRefusal → RefusedLine → Type 0) (r : Result Counted RecipeRefusal) (m : Result Counted RefusedLine) (d : Counted) → m ≡ Ok d
    → MatchResult r (λ x. m ≡ Ok x) (λ e. IsErrAnd m (P e)) → r ≡ Ok d
went_on P (Ok x) m d q h = cc
went_on P (Err e) m d q h = absurd (subst (λ o. IsErrAnd o (P e)) q h)

pub returns-in_err-map_err-clause-lines : goal.returns-in_err-map_err-clause-lines
returns-in_err-map_err-clause-lines g c =
    let a = g.A.RecordKind in
    let b = g.B.RecordKind in
    let steps = c.in-Some.ensures.steps in
    let text = c.args.text.now in
    let p = err_from_is_err_and c.from_residual.result c.from_residual.ensures.1 in
    let w = stopped _ (c.in-Some.i + 1) (λ e l p. search (rules, tests)) c.enter.result c.map_err.result c.in_err-map_err.field-0.0 c.in_err-map_err.was c.map_err.ensures.cases in
    let some : c.in-Some.line.now ≢ [] = λ e. eqb-false (length c.in-Some.line.now) 0 (sym c.is_empty.ensures ∙ c.if-not-is_empty.true) (ap length e) in
    rw (p.1, p.2)
    (progress_refused a.means b.means (lines_of text) c.loop-i.i-iterator.count
    (both a.numbers b.numbers c.args.recipe.now)
    (both a.numbers b.numbers c.loop-i.recipe)
    (both a.numbers b.numbers c.enter.new.self)
    (lines_of (drop c.loop-i.i-iterator.iter.at c.loop-i.i-iterator.iter.text.now)) (lines_of (drop c.next.new.self.iter.at c.next.new.self.iter.text.now))
    c.in-Some.line.now c.in_err-map_err.field-0.0
    steps.0 some (w.0 ∙ ap (λ n. n + 1) steps.1)
    (sym c.enter.ensures.answer ∙ ap told w.1) c.enter.ensures.sections c.loop-i.invariant.3)

pub loop-i-preserved-in_ok-map_err : goal.loop-i-preserved-in_ok-map_err
loop-i-preserved-in_ok-map_err g c =
    let a = g.A.RecordKind in
    let b = g.B.RecordKind in
    let inv = c.loop-i.invariant in
    let steps = c.in-Some.ensures.steps in
    let some : c.in-Some.line.now ≢ [] = λ e. eqb-false (length c.in-Some.line.now) 0 (sym c.is_empty.ensures ∙ c.if-not-is_empty.true) (ap length e) in
    let w = went_on _ c.enter.result c.map_err.result c.in_ok-map_err.field-0 c.in_ok-map_err.was c.map_err.ensures.cases in (
      search rules,
      search rules,
      (c.enter.ensures.slots.0 ∙ inv.2.0, c.enter.ensures.slots.1 ∙ inv.2.1),
      rw steps.2
          (progress_more a.means b.means (lines_of c.args.text.now) c.loop-i.i-iterator.count
          (both a.numbers b.numbers c.args.recipe.now)
          (both a.numbers b.numbers c.loop-i.recipe)
          (both a.numbers b.numbers c.enter.new.self)
          (lines_of (drop c.loop-i.i-iterator.iter.at c.loop-i.i-iterator.iter.text.now)) (lines_of (drop c.next.new.self.iter.at c.next.new.self.iter.text.now))
          c.in-Some.line.now
          steps.0 some _
          (sym c.enter.ensures.answer ∙ ap told w) c.enter.ensures.sections inv.3),
    )

pub loop-i-preserved : goal.loop-i-preserved
loop-i-preserved g c =
    let a = g.A.RecordKind in
    let b = g.B.RecordKind in
    let inv = c.loop-i.invariant in
    let steps = c.in-Some.ensures.steps in
    let none = no_bytes c.in-Some.line.now (eqb-true (length c.in-Some.line.now) 0 (sym c.is_empty.ensures ∙ c.if-not-is_empty.false)) in
    let now = both a.numbers b.numbers c.loop-i.recipe in (
      search rules,
      search rules,
      inv.2,
      rw steps.2
          (progress_empty a.means b.means (lines_of c.args.text.now) c.loop-i.i-iterator.count (both a.numbers b.numbers c.args.recipe.now) now now
          (lines_of (drop c.loop-i.i-iterator.iter.at c.loop-i.i-iterator.iter.text.now)) (lines_of (drop c.next.new.self.iter.at c.next.new.self.iter.text.now))
          c.in-Some.line.now
          steps.0 none inv.3),
    )
