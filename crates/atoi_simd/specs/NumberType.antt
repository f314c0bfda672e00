-- What a number type means: its least and its greatest value.
use Rattle.std.specs.Prelude.{◌≡◌, ℕ, ◌-◌, ◌/◌, ◌^◌, ◌<◌, Bool, true, false, ◌&&◌, ℤ, pos, negsuc, int_le, int_lt, unsigned_abs}

pub record NumberType : Type 0 where
  pub least : ℤ
  pub greatest : ℤ

-- the unsigned type of so many bits
abbrev pub unsigned : ℕ → NumberType
unsigned bits = record { least = pos 0; greatest = pos (2 ^ bits - 1) }

-- the signed type of so many bits: negsuc n is the number -1 - n
abbrev pub signed : ℕ → NumberType
signed bits = record { least = negsuc (2 ^ bits / 2 - 1); greatest = pos (2 ^ bits / 2 - 1) }

-- the number is one of the type's
abbrev pub fits : NumberType → ℤ → Bool
fits t v = int_le t.least v && int_le v t.greatest

-- the type has negative numbers, so a `-` is a sign for it
abbrev pub takes_minus : NumberType → Bool
takes_minus t = int_lt t.least (pos 0)

-- the largest magnitude that a number of the type may have, negated or not
abbrev pub limit : NumberType → Bool → ℕ
limit t true = unsigned_abs t.least
limit t false = unsigned_abs t.greatest

-- 0 is a number of the type, so that the limits say what fits; and no number of it needs more than 64 bits
pub record Whole (t : NumberType) : Type 0 where
  pub low : int_le t.least (pos 0) ≡ true
  pub high : int_le (pos 0) t.greatest ≡ true
  pub few : (negated : Bool) → limit t negated < 2 ^ 64

-- a value of a signed type stands for itself
abbrev pub itself : ℤ → ℤ
itself v = v
