-- What the refusals and results of sheets mean.
use Rattle.std.specs.Prelude.{ℕ, Ok, Err, Result}
use Rattle.records.specs.Outcome.{Refused, plain, Outcome, got, refused}
use Rattle.sheets.specs.declared.refusal.SheetRefusal.{SheetRefusal}
use Rattle.sheets.specs.declared.refusal.SheetRefusal.TheVariants.{NoHeader, OtherKind, BadLength, CutShort, ConditionFails, NotAfter, BytesAfter, NoRecord}
use Rattle.sheets.specs.declared.refusal.TooShort.{TooShort}

-- a refusal's number and place, case by case
abbrev pub refused_of : SheetRefusal → Refused
refused_of (NoHeader at) = plain 21 at
refused_of (OtherKind at) = plain 22 at
refused_of (BadLength at) = plain 23 at
refused_of (CutShort at) = plain 24 at
refused_of (ConditionFails at) = plain 25 at
refused_of (NotAfter at) = plain 26 at
refused_of (BytesAfter at) = plain 27 at
refused_of NoRecord = plain 28 0

abbrev pub too_short : Refused
too_short = plain 33 0

-- what a reading's result comes to, whose value means what `mean` says
abbrev pub read_by : {V X : Type 0} → (V → X) → Result V SheetRefusal → Outcome X
read_by mean (Ok v) = got (mean v)
read_by mean (Err e) = refused (refused_of e)

-- what a writing's result comes to
abbrev pub wrote : Result ℕ TooShort → Outcome ℕ
wrote (Ok n) = got n
wrote (Err e) = refused too_short
