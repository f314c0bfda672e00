-- What a decimal text means, in the words of Rust's document of `from_str_radix` at radix ten: an optional sign that the type takes, followed by one or
-- more digits and nothing else.
use Rattle.std.specs.Prelude.{◌≡◌, ℕ, ◌+◌, ◌*◌, ◌^◌, ◌<◌, true, ◌↔◌, List, [], ◌∷◌, length, ℤ, pos, neg_ℤ, Ok, Err, Result}
use Rattle.atoi_simd.specs.declared.error.AtoiSimdError.{AtoiSimdError}
use Rattle.atoi_simd.specs.NumberType.{NumberType, takes_minus, fits}

-- The text is digits only, and the number is the sum of each digit times ten to the power of its place. The digit d is the byte 48 + d, and its place
-- is the length of the text behind it.
pub data Decimal : List ℕ → ℕ → Type 0 where
  none : Decimal [] 0
  digit : {text : List ℕ} {n : ℕ} (d : ℕ) → d < 10 → Decimal text n → Decimal ((48 + d) ∷ text) (d * 10 ^ length text + n)

-- one or more digits
pub record Digits (text : List ℕ) (n : ℕ) : Type 0 where
  pub some : 0 < length text
  pub decimal : Decimal text n

-- an optional sign that the type takes, then one or more digits: 43 is `+`, which every type takes, and 45 is `-`
pub data Numeral (t : NumberType) : List ℕ → ℤ → Type 0 where
  bare : {text : List ℕ} {n : ℕ} → Digits text n → Numeral t text (pos n)
  plus : {text : List ℕ} {n : ℕ} → Digits text n → Numeral t (43 ∷ text) (pos n)
  minus : {text : List ℕ} {n : ℕ} → takes_minus t ≡ true → Digits text n → Numeral t (45 ∷ text) (neg_ℤ (pos n))

-- a numeral of one of the type's numbers
pub record Accepted (t : NumberType) (text : List ℕ) (v : ℤ) : Type 0 where
  pub numeral : Numeral t text v
  pub fit : fits t v ≡ true

-- the call gave the number v, `number` being what a value of the type stands for
abbrev pub Gives : {V : Type 0} → (V → ℤ) → Result V AtoiSimdError → ℤ → Type 0
Gives number (Ok x) v = number x ≡ v
Gives number (Err e) v = ⊥

-- the call accepts the numerals of the type's numbers and no other text, and gives the numeral's number
abbrev pub TakesNumerals : {V : Type 0} → NumberType → (V → ℤ) → List ℕ → Result V AtoiSimdError → Type 0
TakesNumerals t number text r = (v : ℤ) → Gives number r v ↔ Accepted t text v
