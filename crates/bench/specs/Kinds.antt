-- The two kinds of the bench.
use Rattle.std.specs.Prelude.{Bool, true, false, List, [], ◌∷◌, ℤ, codes, int_le}
use Rattle.records.specs.FieldType.{unsigned_of, signed_of}
use Rattle.records.specs.Kind.{Kind}
use Rattle.records.specs.Lexicographic.{lex_before}

-- start, lever, force and hold
abbrev pub step : Kind
step = record {
  word = codes "step";
  number = 1;
  types = unsigned_of 8 ∷ unsigned_of 1 ∷ unsigned_of 2 ∷ unsigned_of 4 ∷ [];
  condition = λ vs. true;
  before = lex_before;
}

-- the second of three numbers is at most the third
abbrev pub low_at_most_high : List ℤ → Bool
low_at_most_high [] = false
low_at_most_high (lever ∷ []) = false
low_at_most_high (lever ∷ (low ∷ [])) = false
low_at_most_high (lever ∷ (low ∷ (high ∷ vs))) = int_le low high

-- lever, low and high
abbrev pub limit : Kind
limit = record {
  word = codes "limit";
  number = 2;
  types = unsigned_of 1 ∷ signed_of 2 ∷ signed_of 2 ∷ [];
  condition = low_at_most_high;
  before = lex_before;
}
