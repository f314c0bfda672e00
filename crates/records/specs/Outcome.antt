-- What a reading comes to: a value, or a refusal with its number, its place and the fault that it carries.
use Rattle.std.specs.Prelude.{ℕ, Bool, true, false, None, Option}
use Rattle.atoi_simd.specs.Answer.{Answer}

pub record Refused : Type 0 where
  pub number : ℕ
  pub place : ℕ
  -- a number's fault, with the bytes that it carries
  pub fault : Option Answer

-- a refusal that carries no fault
abbrev pub plain : ℕ → ℕ → Refused
plain n p = record { number = n; place = p; fault = None }

pub data Outcome (X : Type 0) : Type 0 where
  got : X → Outcome X
  refused : Refused → Outcome X

-- the refusal if the test passes, and otherwise what follows
abbrev pub refuse_if : {X : Type 0} → Bool → Refused → Outcome X → Outcome X
refuse_if true f next = refused f
refuse_if false f next = next

-- the first refusal, or what the second reading makes of the first one's value
abbrev pub and_then : {X Y : Type 0} → Outcome X → (X → Outcome Y) → Outcome Y
and_then (got x) f = f x
and_then (refused r) f = refused r
