-- What the inner functions read in one go: up to w digits at the front of a text. Only contracts inside the crate cite this.
use Rattle.std.specs.Prelude.{ℕ, min, Bool, true, false, cond, ◌&&◌, List, Ok, Err, Result, ◌==◌}
use Rattle.words.specs.Bytes.{value_of}
use Rattle.atoi_simd.specs.declared.error.AtoiSimdError.{AtoiSimdError}
use Rattle.atoi_simd.specs.declared.fallback.EarlyReturn.{EarlyReturn}
use Rattle.atoi_simd.specs.declared.fallback.EarlyReturn.TheVariants.{Ok as Full, Err as Fault, Ret as Part}
use Rattle.atoi_simd.specs.Answer.{Answer, empty, fault_of}
use Rattle.atoi_simd.specs.Digits.{run, zeros}

pub data Block : Type 0 where
  fault : Answer → Block
  -- whether all w bytes are digits, the value, the count of digits, and the leading zeros where they were counted
  some : Bool → ℕ → ℕ → ℕ → Block

abbrev pub block_of_8 : Result (ℕ × ℕ × ℕ) AtoiSimdError → Block
block_of_8 (Ok p) = some (p.1 == 8) p.0 p.1 p.2
block_of_8 (Err e) = fault (fault_of e)

abbrev pub block_of_16 : EarlyReturn (ℕ × ℕ × ℕ) AtoiSimdError → Block
block_of_16 (Full p) = some true p.0 p.1 p.2
block_of_16 (Fault e) = fault (fault_of e)
block_of_16 (Part p) = some false p.0 p.1 p.2

-- the first n of w bytes are digits; zeros are counted only where they were asked for and all w bytes are digits
abbrev pub block_at : ℕ → Bool → List ℕ → ℕ → Block
block_at w count bs n = cond (n == 0) (fault empty) (some (n == w) (value_of n bs) n (cond (count && n == w) (min w (zeros bs)) 0))

abbrev pub block : ℕ → Bool → List ℕ → Block
block w count bs = block_at w count bs (min w (run bs))
