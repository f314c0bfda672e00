-- What a call answers, with the bytes that a fault carries.
use Rattle.std.specs.Prelude.{ℕ, List, ℤ, Ok, Err, Result}
use Rattle.atoi_simd.specs.declared.error.AtoiSimdError.{AtoiSimdError}
use Rattle.atoi_simd.specs.declared.error.AtoiSimdError.TheVariants.{Empty, Size, Overflow, Invalid64}

pub data Answer : Type 0 where
  -- a number, and how many bytes of the text were read
  ok : ℤ → ℕ → Answer
  -- no digit where one has to stand
  empty : Answer
  -- more digits than are looked at: a count, and the text from where it was given up
  size : ℕ → List ℕ → Answer
  -- a number past the type's least or greatest value: the text from where it starts to count
  overflow : List ℕ → Answer
  -- bytes after the digits: the digits' magnitude, their count, and the text after the sign
  invalid : ℕ → ℕ → List ℕ → Answer

-- a fault of the code, by the bytes that it borrows
abbrev pub fault_of : AtoiSimdError → Answer
fault_of Empty = empty
fault_of (Size n part) = size n part.now
fault_of (Overflow part) = overflow part.now
fault_of (Invalid64 v n part) = invalid v n part.now

-- the result of a prefix call, `number` being what a value of the type stands for
abbrev pub prefix_by : {V : Type 0} → (V → ℤ) → Result (V × ℕ) AtoiSimdError → Answer
prefix_by number (Ok p) = ok (number p.0) p.1
prefix_by number (Err e) = fault_of e

-- the result of a checked call on a text of n bytes, all of which it has read where it gives a value
abbrev pub checked_by : {V : Type 0} → (V → ℤ) → ℕ → Result V AtoiSimdError → Answer
checked_by number n (Ok v) = ok (number v) n
checked_by number n (Err e) = fault_of e
