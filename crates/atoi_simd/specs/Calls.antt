-- What the six calls answer, for every number type: in the run of digits r (`run`), its leading zeros z (`zeros`), and the magnitude of its value V
-- (`value`). `most` is the largest magnitude that V may have, and `zeroes` says whether leading zeros are skipped.
use Rattle.std.specs.Prelude.{ℕ, ◌+◌, ◌-◌, ◌*◌, ◌/◌, ◌%◌, ◌^◌, min, Bool, true, false, cond, ◌&&◌, List, [], ◌∷◌, length, drop, pos, neg_ℤ, ◌==◌, nat_le, unsigned_abs}
use Rattle.words.specs.Bytes.{value_of}
use Rattle.atoi_simd.specs.Answer.{Answer, ok, empty, size, overflow, invalid}
use Rattle.atoi_simd.specs.Digits.{run, zeros, value}
use Rattle.atoi_simd.specs.NumberType.{NumberType, takes_minus, limit}

-- ---- digits without a sign, as a number of at most `most`

-- Up to 32 bits, zeros skipped. With z = 16q + t and t below 16, an overflow's bytes start after 16q zeros, and after t more where at least 16 digits
-- are left there.
abbrev pub passed : ℕ → ℕ → ℕ
passed r z = z / 16 * 16 + cond (nat_le 16 (r - z / 16 * 16)) (z % 16) 0

abbrev pub skipping : ℕ → List ℕ → Answer
skipping most bs = cond (nat_le (value bs) most) (ok (pos (value bs)) (run bs)) (overflow (drop (passed (run bs) (zeros bs)) bs))

-- Up to 32 bits, no zeros skipped: the first 16 digits have to fit, and there may be no more.
abbrev pub plain : ℕ → List ℕ → Answer
plain most bs =
    cond (nat_le (value_of (min (run bs) 16) bs) most) (cond (nat_le 17 (run bs)) (size 17 bs) (ok (pos (value bs)) (run bs))) (overflow bs)

abbrev pub narrow : ℕ → Bool → List ℕ → Answer
narrow most zeroes bs = cond (run bs == 0) empty (cond zeroes (skipping most bs) (plain most bs))

-- L: how many digits the greatest number of 64 bits has, 20 for u64 and 19 for i64
abbrev pub digit_count : ℕ → ℕ
digit_count most = cond (nat_le (10 ^ 19) most) 20 19

-- 64 bits, with the first z zeros left out of the count of digits
abbrev pub wide_after : ℕ → ℕ → List ℕ → Answer
wide_after most z bs =
    cond (nat_le (run bs - z) (digit_count most)) (cond (nat_le (value bs) most) (ok (pos (value bs)) (run bs)) (overflow (drop (zeros bs) bs)))
    (size (z + min (run bs - z) 24) (drop z bs))

abbrev pub wide : ℕ → Bool → List ℕ → Answer
wide most zeroes bs = cond (run bs == 0) empty (wide_after most (cond zeroes (zeros bs) 0) bs)

-- the number is of 64 bits
abbrev pub is_wide : ℕ → Bool
is_wide most = nat_le (2 ^ 32) most

-- the number at the front of a text
abbrev pub front_up_to : ℕ → Bool → List ℕ → Answer
front_up_to most zeroes bs = cond (is_wide most) (wide most zeroes bs) (narrow most zeroes bs)

-- up to 32 bits, any count of digits
abbrev pub any_length : ℕ → List ℕ → Answer
any_length most bs = cond (run bs == 0) empty (cond (nat_le (value bs) most) (ok (pos (value bs)) (run bs)) (overflow bs))

-- no byte may follow the digits
abbrev pub to_end : List ℕ → Answer → Answer
to_end bs (ok v n) = cond (n == length bs) (ok v n) (invalid (unsigned_abs v) n bs)
to_end bs empty = empty
to_end bs (size n part) = size n part
to_end bs (overflow part) = overflow part
to_end bs (invalid v n part) = invalid v n part

-- a text that is all one number
abbrev pub all_up_to : ℕ → Bool → List ℕ → Answer
all_up_to most zeroes bs = to_end bs (cond (is_wide most) (wide most zeroes bs) (any_length most bs))

-- ---- the calls

-- how much of the text a call takes: the number at its front (the prefix calls), or all of it (the checked calls)
pub data Extent : Type 0 where
  front : Extent
  all : Extent

abbrev pub up_to : Extent → ℕ → Bool → List ℕ → Answer
up_to front most zeroes bs = front_up_to most zeroes bs
up_to all most zeroes bs = all_up_to most zeroes bs

-- the number with the other sign
abbrev pub negated : Answer → Answer
negated (ok v n) = ok (neg_ℤ v) n
negated empty = empty
negated (size n part) = size n part
negated (overflow part) = overflow part
negated (invalid v n part) = invalid v n part

-- Digits with no sign before them, their value negated or not: `parse_pos`, `parse_neg`, `parse_prefix_pos` and `parse_prefix_neg`.
abbrev pub unsigned_call : Extent → NumberType → Bool → Bool → List ℕ → Answer
unsigned_call e t true zeroes bs = negated (up_to e (limit t true) zeroes bs)
unsigned_call e t false zeroes bs = up_to e (limit t false) zeroes bs

-- the sign is one more byte that was read
abbrev pub after_sign : Answer → Answer
after_sign (ok v n) = ok v (n + 1)
after_sign empty = empty
after_sign (size n part) = size n part
after_sign (overflow part) = overflow part
after_sign (invalid v n part) = invalid v n part

-- At most one sign before the digits, a `+` (43) where plus skipping is on and a `-` (45) where the type has negative numbers: `parse` and `parse_prefix`.
abbrev pub signed_call : Extent → NumberType → Bool → Bool → List ℕ → Answer
signed_call e t zeroes plus [] = empty
signed_call e t zeroes plus (b ∷ bs) =
    cond (plus && b == 43) (after_sign (unsigned_call e t false zeroes bs))
    (cond (takes_minus t && b == 45) (after_sign (unsigned_call e t true zeroes bs)) (unsigned_call e t false zeroes (b ∷ bs)))
