-- What the limits of the code stand for.
use Rattle.std.specs.Prelude.{ℕ}
use Rattle.atoi_simd.specs.declared.limit.Limit.{Limit}
use Rattle.atoi_simd.specs.declared.limit.Limit.TheVariants.{Narrow, Wide}

-- the largest magnitude that a number may have
abbrev pub magnitude : Limit → ℕ
magnitude (Narrow l) = l.max
magnitude (Wide l) = l.max
