-- What the code's refusals and results mean.
use Rattle.std.specs.Prelude.{ℕ, List, ℤ, Some, None, Ok, Err, Option, Result}
use Rattle.atoi_simd.specs.Answer.{Answer, ok, empty, size, overflow, invalid}
use Rattle.records.specs.Outcome.{Refused, plain, Outcome, got, refused}
use Rattle.records.specs.Line.{Numeral, InSection, first, second}
use Rattle.records.specs.declared.line.Named.{Named}
use Rattle.records.specs.declared.line.Named.TheVariants.{First, Second}
use Rattle.records.specs.declared.refusal.Refusal.{Refusal}
use Rattle.records.specs.declared.refusal.Refusal.TheVariants.{UnknownWord, NoNumber, TooManyDigits, OutOfRange, NoSpace, SpaceAfterLast, ConditionFails}

-- a refusal's number, place and fault, case by case
abbrev pub refused_of : Refusal → Refused
refused_of UnknownWord = plain 11 0
refused_of (NoNumber at) = record { number = 12; place = at; fault = Some empty }
refused_of (TooManyDigits at n part) = record { number = 13; place = at; fault = Some (size n part.now) }
refused_of (OutOfRange at part) = record { number = 14; place = at; fault = Some (overflow part.now) }
refused_of (NoSpace at) = plain 15 at
refused_of (SpaceAfterLast at) = plain 16 at
refused_of ConditionFails = plain 17 0

-- what a call's result comes to, whose value means what `mean` says
abbrev pub outcome_by : {V X : Type 0} → (V → X) → Result V Refusal → Outcome X
outcome_by mean (Ok v) = got (mean v)
outcome_by mean (Err e) = refused (refused_of e)

-- a number and the place behind it
abbrev pub numeral_by : {V : Type 0} → (V → ℤ) → V × ℕ → Numeral
numeral_by number p = record { value = number p.0; behind = p.1 }

-- the numbers of a row, if there is one
abbrev pub row_by : {V : Type 0} → (V → List ℤ) → Option V → Option (List ℤ)
row_by numbers (Some v) = Some (numbers v)
row_by numbers None = None

-- a row in a section
abbrev pub named_by : {A B : Type 0} → (A → List ℤ) → (B → List ℤ) → Named A B → InSection
named_by fa fb (First a) = record { section = first; numbers = fa a }
named_by fa fb (Second b) = record { section = second; numbers = fb b }

-- an answer that a prefix call can give
abbrev pub Prefixed : Answer → Type 0
Prefixed (ok v n) = Unit {0}
Prefixed empty = Unit {0}
Prefixed (size n part) = Unit {0}
Prefixed (overflow part) = Unit {0}
Prefixed (invalid v n part) = ⊥
