-- A number type as a kind lists it: what its numbers are, and how many bytes one takes in a record's payload.
use Rattle.std.specs.Prelude.{◌≡◌, ℕ, suc, ◌+◌, ◌*◌, ◌^◌, ◌≤◌, Bool, true, List, ℤ, unsigned_abs}
use Rattle.atoi_simd.specs.Answer.{Answer}
use Rattle.atoi_simd.specs.Calls.{front, signed_call}
use Rattle.atoi_simd.specs.NumberType.{NumberType, Whole, unsigned, signed, fits}

pub record FieldType : Type 0 where
  pub numbers : NumberType
  pub width : ℕ

-- the type of these numbers, each in so many bytes
abbrev pub in_bytes : ℕ → NumberType → FieldType
in_bytes w t = record { numbers = t; width = w }

-- the unsigned and the signed type of so many bytes; u8 is `unsigned_of 1`
abbrev pub unsigned_of : ℕ → FieldType
unsigned_of w = record { numbers = unsigned (8 * w); width = w }

abbrev pub signed_of : ℕ → FieldType
signed_of w = record { numbers = signed (8 * w); width = w }

-- the number is one of the type's
abbrev pub holds : FieldType → ℤ → Bool
holds t v = fits t.numbers v

-- the number at the front of a text: the prefix rule with zero and plus skipping on
abbrev pub reads : FieldType → List ℕ → Answer
reads t bs = signed_call front t.numbers true true bs

-- as many numbers as there are codes of the width, 0 among them
pub record Regular (t : FieldType) : Type 0 where
  pub whole : Whole t.numbers
  pub codes : suc (unsigned_abs t.numbers.greatest) + unsigned_abs t.numbers.least ≡ 256 ^ t.width
  pub some : 1 ≤ t.width
  pub few : t.width ≤ 8
