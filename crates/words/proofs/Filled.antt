-- Words of one byte repeated, as the masks are.
use Rattle.std.proofs.Common.{◌≡◌, ℕ, zero, suc, ◌+◌, ◌*◌, ◌/◌, ◌%◌, arith}

-- the byte c, n times
abbrev pub fill : ℕ → ℕ → ℕ
fill c zero = 0
fill c (suc n) = fill c n * 256 + c

-- a word as its lowest byte and what stands above it, which is the form that `fill` has too
pub split : (v : ℕ) → v ≡ v / 256 * 256 + v % 256
split v = omega arith
