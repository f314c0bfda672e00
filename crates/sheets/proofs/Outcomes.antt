-- What a reading came to, taken apart.
use Rattle.std.proofs.Common.{◌≡◌, ℕ, refl, ap, arith}
use Rattle.records.specs.Outcome.{Outcome, got, refused, and_then}
use Rattle.sheets.specs.Handed.{mapped}

pub mapped_got : {X Y : Type 0} (f : X → Y) (o : Outcome X) (y : Y) → got y ≡ mapped f o → (x : X) × (o ≡ got x) × (f x ≡ y)
mapped_got f (got x) y e = (x, refl, cc)
mapped_got f (refused r) y e = let z : ◌≡◌ {A = ℕ} 0 1 = cc in absurd (omega arith)

pub mapped_same : {X Y : Type 0} (f g : X → Y) → ((x : X) → f x ≡ g x) → (o : Outcome X) → mapped f o ≡ mapped g o
mapped_same f g h (got x) = ap got (h x)
mapped_same f g h (refused r) = refl

pub mapped_then : {X Y Z : Type 0} (f : Y → Z) (g : X → Y) (o : Outcome X) → mapped f (and_then o (λ x. got (g x))) ≡ mapped (λ x. f (g x)) o
mapped_then f g (got x) = refl
mapped_then f g (refused r) = refl
