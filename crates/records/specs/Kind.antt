-- What a record kind means, and which kinds are lawful.
use Rattle.std.specs.Prelude.{◌≡◌, ℕ, ◌^◌, ◌<◌, ◌≤◌, Bool, true, false, cond, ◌&&◌, ◌≢◌, ◌⊎◌, List, [], ◌∷◌, length, ℤ}
use Rattle.std.specs.declared.cmp.Ordering.TheVariants.{Less, Equal, Greater}
use Rattle.std.specs.declared.cmp.Ordering.{Ordering}
use Rattle.std.specs.List.{AllByRecursion}
use Rattle.records.specs.FieldType.{FieldType, Regular, holds}

-- The word that a line of the kind begins with, the kind's number on a sheet, the types of a record's numbers, the condition that they meet together,
-- and which of two records comes first.
pub record Kind : Type 0 where
  pub word : List ℕ
  pub number : ℕ
  pub types : List FieldType
  pub condition : List ℤ → Bool
  pub before : List ℤ → List ℤ → Bool

-- one number for each type, and fitting it
abbrev pub fit_all : List FieldType → List ℤ → Bool
fit_all [] [] = true
fit_all [] (v ∷ vs) = false
fit_all (t ∷ ts) [] = false
fit_all (t ∷ ts) (v ∷ vs) = holds t v && fit_all ts vs

-- the numbers are a record of the kind
pub record IsRecord (k : Kind) (r : List ℤ) : Type 0 where
  pub fitting : fit_all k.types r ≡ true
  pub meets : k.condition r ≡ true

-- which of two comes first; equal where neither does
abbrev pub order_by : {X : Type 0} → (X → X → Bool) → X → X → Ordering
order_by before x y = cond (before x y) Less (cond (before y x) Greater Equal)

-- the same of two records of the kind
abbrev pub ordering : Kind → List ℤ → List ℤ → Ordering
ordering k x y = order_by k.before x y

-- a word's byte: neither space nor LF
abbrev pub WordByte : ℕ → Type 0
WordByte b = (b < 256) × (b ≢ 32) × (b ≢ 10)

-- The word has 1 to 16 bytes, the number two, there are 1 to 8 types, and the order is total on records: of two that differ exactly one comes first,
-- none comes before itself, and the order carries over a third.
pub record Lawful (k : Kind) : Type 0 where
  pub word_some : 1 ≤ length k.word
  pub word_short : length k.word ≤ 16
  pub word_bytes : AllByRecursion WordByte k.word
  pub number_fits : k.number < 2 ^ 16
  pub types_some : 1 ≤ length k.types
  pub types_few : length k.types ≤ 8
  pub types_regular : AllByRecursion Regular k.types
  pub irreflexive : (r : List ℤ) → IsRecord k r → k.before r r ≡ false
  pub total : (r s : List ℤ) → IsRecord k r → IsRecord k s → r ≢ s → (k.before r s ≡ true) ⊎ (k.before s r ≡ true)
  pub transitive : (r s u : List ℤ) → IsRecord k r → IsRecord k s → IsRecord k u → k.before r s ≡ true → k.before s u ≡ true → k.before r u ≡ true
