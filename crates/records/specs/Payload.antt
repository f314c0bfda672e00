-- A record's payload: each number in its type's width, the lowest byte first, a negative one in two's complement.
use Rattle.std.specs.Prelude.{◌≡◌, ℕ, suc, ◌+◌, ◌-◌, ◌^◌, ◌<◌, ◌≤◌, cond, List, [], ◌∷◌, ◌++◌, length, take, drop, ℤ, pos, negsuc, Some, None, Option, nat_le, unsigned_abs}
use Rattle.words.specs.Bytes.{bytes_le, word_le}
use Rattle.records.specs.FieldType.{FieldType}
use Rattle.records.specs.Kind.{Kind, IsRecord}

-- the number's code: itself, or in two's complement
abbrev pub code : FieldType → ℤ → ℕ
code t (pos n) = n
code t (negsuc n) = 256 ^ t.width - suc n

-- the number of that code
abbrev pub decode : FieldType → ℕ → ℤ
decode t n = cond (nat_le n (unsigned_abs t.numbers.greatest)) (pos n) (negsuc (256 ^ t.width - suc n))

abbrev pub payload : List FieldType → List ℤ → List ℕ
payload [] vs = []
payload (t ∷ ts) [] = []
payload (t ∷ ts) (v ∷ vs) = bytes_le t.width (code t v) ++ payload ts vs

-- how many bytes it has
abbrev pub payload_size : List FieldType → ℕ
payload_size [] = 0
payload_size (t ∷ ts) = t.width + payload_size ts

-- the numbers that a payload's bytes write
abbrev pub numbers_of : List FieldType → List ℕ → List ℤ
numbers_of [] bs = []
numbers_of (t ∷ ts) bs = decode t (word_le (take t.width bs)) ∷ numbers_of ts (drop t.width bs)

-- the record whose payload the bytes begin with, or none where the condition fails
abbrev pub record_of : Kind → List ℕ → Option (List ℤ)
record_of k bs = cond (k.condition (numbers_of k.types bs)) (Some (numbers_of k.types bs)) None

-- bytes that begin with a record's payload give that record
abbrev pub ReadsBack : Kind → List ℕ → Option (List ℤ) → Type 0
ReadsBack k bs got = (r : List ℤ) (more : List ℕ) → IsRecord k r → bs ≡ payload k.types r ++ more → got ≡ Some r

-- the buffer with the bytes at a place of it, and no other byte changed
abbrev pub put : List ℕ → ℕ → List ℕ → List ℕ
put xs at ys = take at xs ++ (ys ++ drop (at + length ys) xs)

-- The outcome of writing so many bytes into a buffer at a place: the place behind them and the buffer with them in it, or where there is no room the
-- buffer as it was.
abbrev pub Written : ℕ → List ℕ → List ℕ → ℕ → Option ℕ → List ℕ → Type 0
Written size ys xs at (Some behind) zs = (behind ≡ at + size) × (behind ≤ length xs) × (zs ≡ put xs at ys)
Written size ys xs at None zs = (length xs < at + size) × (zs ≡ xs)
