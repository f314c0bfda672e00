-- The bytes of a word, and what digits among them say.
use Rattle.std.specs.Prelude.{ℕ, zero, suc, ◌+◌, ◌-◌, ◌*◌, ◌/◌, ◌%◌, Bool, List, [], ◌∷◌, map, take, ◌==◌}
use Rattle.std.specs.Int.Digits.{number_from_digits}

-- the n lowest bytes of a word, the lowest first
unfoldable pub bytes_le : ℕ → ℕ → List ℕ
bytes_le zero v = []
bytes_le (suc n) v = v % 256 ∷ bytes_le n (v / 256)

-- the word that has these bytes, the lowest first
unfoldable pub word_le : List ℕ → ℕ
word_le [] = 0
word_le (b ∷ bs) = word_le bs * 256 + b

-- the first n bytes of a text, with a 0 for each byte that it is short of
unfoldable pub front : ℕ → List ℕ → List ℕ
front zero bs = []
front (suc n) [] = 0 ∷ front n []
front (suc n) (b ∷ bs) = b ∷ front n bs

-- the byte is the digit `0`
abbrev pub is_zero : ℕ → Bool
is_zero b = b == 48

-- the number that a digit's byte stands for
abbrev pub digit_of : ℕ → ℕ
digit_of b = b - 48

-- the decimal value of the first n bytes, where they are digits
abbrev pub value_of : ℕ → List ℕ → ℕ
value_of n bs = number_from_digits 10 (map digit_of (take n bs))

-- the low half of a byte; for a digit it is the number that the digit stands for
abbrev pub nibble : ℕ → ℕ
nibble b = b % 16

-- the low halves of the first n bytes, each in its decimal place; for digits this is their decimal value
abbrev pub nibble_value : ℕ → List ℕ → ℕ
nibble_value n bs = number_from_digits 10 (map nibble (take n bs))
