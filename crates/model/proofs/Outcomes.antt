-- Outcomes of a test, and of one reading after another.
use Rattle.std.proofs.Common.{◌≡◌, ℕ, Bool, true, false, refl, arith}
use Rattle.records.specs.Outcome.{Refused, Outcome, got, refused, refuse_if, and_then}

pub got_same : {X : Type 0} (o : Outcome X) (x y : X) → o ≡ got x → o ≡ got y → x ≡ y
got_same o x y e f = cc

pub got_refused : {X : Type 0} (o : Outcome X) (x : X) (f : Refused) → o ≡ got x → o ≡ refused f → ⊥
got_refused o x f e g = let z : ◌≡◌ {A = ℕ} 0 1 = cc in omega arith

pub refuse_got : {X : Type 0} (t : Bool) (f : Refused) (o : Outcome X) (x : X) → refuse_if t f o ≡ got x → (t ≡ false) × (o ≡ got x)
refuse_got true f o x e = absurd (got_refused (refused f) x f e refl)
refuse_got false f o x e = (refl, e)

pub refuse_pass : {X : Type 0} (t : Bool) (f : Refused) (o : Outcome X) → t ≡ false → refuse_if t f o ≡ o
refuse_pass t f o e = rw e

pub then_got : {X Y : Type 0} (o : Outcome X) (f : X → Outcome Y) (y : Y) → and_then o f ≡ got y → (x : X) × (o ≡ got x) × (f x ≡ got y)
then_got (got x) f y e = (x, refl, e)
then_got (refused r) f y e = absurd (got_refused (refused r) y r e refl)

pub then_pass : {X Y : Type 0} (o : Outcome X) (f : X → Outcome Y) (x : X) → o ≡ got x → and_then o f ≡ f x
then_pass o f x e = rw e
