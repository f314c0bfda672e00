-- Two functions that agree at every number below n, by one computation.
use Rattle.std.proofs.Common.{◌≡◌, ℕ, zero, suc, ◌<◌, List, [], ◌∷◌, sym, subst, ⊎_elim, arith}
use Rattle.std.proofs.lemmas.Bool.{cases_eq}

-- f at each number below n, the largest first
abbrev pub table : {X : Type 0} → (ℕ → X) → ℕ → List X
table f zero = []
table f (suc n) = f n ∷ table f n

pub same_below : {X : Type 0} (f g : ℕ → X) (n : ℕ) → table f n ≡ table g n → (k : ℕ) → k < n → f k ≡ g k
same_below f g zero e k h = absurd (omega arith)
same_below f g (suc n) e k h =
    let first : f n ≡ g n = cc in
    let rest : table f n ≡ table g n = cc in
    ⊎_elim (λ is. subst (λ m. f m ≡ g m) (sym is) first) (λ not. same_below f g n rest k (omega arith)) (cases_eq k n)
