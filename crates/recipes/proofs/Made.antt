-- Commands made one after another.
use Rattle.std.proofs.Common.{◌≡◌, ℕ, ◌≤◌, List, [], length, drop, sym, ap, ◌∙◌}
use Rattle.std.proofs.lemmas.List.{drop_all}
use Rattle.records.specs.Kind.{Kind}
use Rattle.model.specs.History.{History}
use Rattle.recipes.specs.Calls.{Sections, after_all}
use Rattle.recipes.specs.Commands.{making}
use Rattle.recipes.specs.declared.replay.Command.{Command}

-- the first i commands led from the one pair of sections to the other
pub record Made (a b : Kind) (commands : List Command) (start : Sections) (i : ℕ) (now : Sections) : Type 0 where
  pub history : History
  pub rest : making (drop i commands) history ≡ making commands []
  pub sections : now ≡ after_all a b history start

module _ (a b : Kind) (commands : List Command) (start : Sections) where
  pub made_all : (i : ℕ) (s : Sections) → length commands ≤ i → Made a b commands start i s → s ≡ after_all a b (making commands []) start
  made_all i s past m =
      let all : m.history ≡ making commands [] = sym (ap (λ ys. making ys m.history) (drop_all i commands past)) ∙ m.rest in
      m.sections ∙ ap (λ h. after_all a b h start) all
