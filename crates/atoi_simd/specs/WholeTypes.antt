-- The types of up to 64 bits are whole. These are proofs, which the types' impls cite.
use Rattle.std.specs.Prelude.{ℕ, ◌^◌, ◌-◌, ◌/◌, ◌<◌, ◌≤◌, Bool, true, false}
use Rattle.std.proofs.Common.{refl, arith, pow_pos}
use native.Mathlib.Nat.{pow-le-pow_right}
use lib.Dec.{leb-zero}
use Rattle.atoi_simd.specs.NumberType.{Whole, unsigned, signed, limit}

most : (bits : ℕ) → bits ≤ 64 → 2 ^ bits ≤ 2 ^ 64
most bits few = pow-le-pow_right {n = 2} (omega arith) few

pub unsigned_whole : (bits : ℕ) → bits ≤ 64 → Whole (unsigned bits)
unsigned_whole bits few = record { low = refl; high = leb-zero (2 ^ bits - 1); few = within }
  where
    within : (negated : Bool) → limit (unsigned bits) negated < 2 ^ 64
    within true = omega arith
    within false = omega (arith, most bits few, pow_pos bits)

pub signed_whole : (bits : ℕ) → bits ≤ 64 → Whole (signed bits)
signed_whole bits few = record { low = refl; high = leb-zero (2 ^ bits / 2 - 1); few = within }
  where
    within : (negated : Bool) → limit (signed bits) negated < 2 ^ 64
    within true = omega (arith, most bits few)
    within false = omega (arith, most bits few)
