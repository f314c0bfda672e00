-- Worked cases of the definition, as one table.
use Rattle.std.specs.Prelude.{◌≡◌, ℕ, Bool, true, false, List, [], ◌∷◌, ◌++◌, map, replicate, pos, neg_ℤ, codes}
use Rattle.atoi_simd.specs.Answer.{Answer, ok, empty, size, overflow, invalid}
use Rattle.atoi_simd.specs.NumberType.{NumberType, unsigned, signed}
use Rattle.atoi_simd.specs.Calls.{Extent, front, all, signed_call}

-- a call of `parse_prefix` (front) or `parse` (all), and what it has to answer
pub record Case : Type 0 where
  pub call : Extent
  pub type : NumberType
  pub zeroes : Bool
  pub plus : Bool
  pub text : List ℕ
  pub answer : Answer

-- zero skipping and plus skipping both on
abbrev skipping : Extent → NumberType → List ℕ → Answer → Case
skipping e t bs a = record { call = e; type = t; zeroes = true; plus = true; text = bs; answer = a }

-- both off
abbrev plain : Extent → NumberType → List ℕ → Answer → Case
plain e t bs a = record { call = e; type = t; zeroes = false; plus = false; text = bs; answer = a }

-- so many digits `0`
abbrev noughts : ℕ → List ℕ
noughts n = replicate n 48

abbrev pub table : List Case
table =
    -- any number of zeros is skipped, and counts as read
    skipping front (unsigned 64) (noughts 30 ++ codes "7") (ok (pos 7) 31)
    -- u64's greatest number, and one more
    ∷ plain front (unsigned 64) (codes "18446744073709551615") (ok (pos 18446744073709551615) 20)
    ∷ plain front (unsigned 64) (codes "18446744073709551616") (overflow (codes "18446744073709551616"))
    -- without zero skipping a zero is a digit as any other
    ∷ plain front (unsigned 64) (noughts 20) (ok (pos 0) 20)
    ∷ plain front (unsigned 64) (noughts 21) (size 21 (noughts 21))
    ∷ plain front (unsigned 8) (noughts 16 ++ codes "1") (size 17 (noughts 16 ++ codes "1"))
    -- the least numbers of i64 and i8, and one less
    ∷ plain front (signed 64) (codes "-9223372036854775808") (ok (neg_ℤ (pos 9223372036854775808)) 20)
    ∷ plain front (signed 8) (codes "-128;") (ok (neg_ℤ (pos 128)) 4)
    ∷ plain front (signed 8) (codes "-129") (overflow (codes "129"))
    -- a sign that the type takes, and one that it does not
    ∷ skipping front (signed 32) (codes "+12;") (ok (pos 12) 3)
    ∷ skipping front (signed 16) (codes "-0") (ok (pos 0) 2)
    ∷ skipping front (unsigned 16) (codes "-0") empty
    -- `parse` refuses bytes after the digits, unless the number is too large already
    ∷ plain all (signed 64) (codes "-9223372036854775808;") (invalid 9223372036854775808 19 (codes "9223372036854775808;"))
    ∷ plain all (unsigned 8) (codes "25;") (invalid 25 2 (codes "25;"))
    ∷ plain all (unsigned 8) (codes "256;") (overflow (codes "256;"))
    ∷ []

abbrev pub answered : Case → Answer
answered c = signed_call c.call c.type c.zeroes c.plus c.text

abbrev pub expected : Case → Answer
expected c = c.answer

-- the definition answers every case as the table says
abbrev pub WorkedCasesHold : Type 0
WorkedCasesHold = map answered table ≡ map expected table
