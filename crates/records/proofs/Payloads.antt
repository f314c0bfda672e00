-- The size of a payload, bytes put into a buffer, and the words that bytes make.
use Rattle.std.proofs.Common.{◌≡◌, ℕ, zero, suc, ◌+◌, ◌-◌, ◌*◌, ◌/◌, ◌%◌, ◌^◌, ◌<◌, ◌≤◌, min, true, List, [], ◌∷◌, ◌++◌, length, take, drop, set, ℤ, sym, refl, ap, ◌∙◌, ap₂, append_assoc, mul_comm, arith}
use native.Mathlib.Nat.{pow-succ'}
use lib.Arith.{mod-mul}
use Rattle.std.proofs.Math.Nat.{div-div-eq-div-mul}
use Rattle.std.specs.Int.{byte_at, bytes_low_first}
use Rattle.std.proofs.lemmas.List.{set_at, drop_more, length-append, length-take-le}
use Rattle.std.specs.List.{AllByRecursion}
use Rattle.std.proofs.lemmas.Grind.{common_steps}
use Rattle.std.proofs.lemmas.Bool.{and_parts}
use Rattle.words.specs.Bytes.{bytes_le, word_le, front}
use Rattle.words.proofs.Shifted.{length-bytes_le}
use Rattle.records.specs.FieldType.{FieldType, Regular, holds}
use Rattle.records.specs.Kind.{fit_all}
use Rattle.records.specs.Payload.{code, payload, payload_size, put}

pub size_most : (ts : List FieldType) → AllByRecursion Regular ts → payload_size ts ≤ 8 * length ts
size_most [] rs = omega arith
size_most (t ∷ ts) rs = let few = rs.0.few in omega (arith, size_most ts rs.1)

-- a size that is cut off at the greatest `usize` is exact for eight types and fewer
pub size_exact : (ts : List FieldType) (r : ℕ) → r ≡ min (payload_size ts) (2 ^ 64 - 1) → AllByRecursion Regular ts → length ts ≤ 8 → r ≡ payload_size ts
size_exact ts r e rs few = omega (arith, size_most ts rs)

pub length-payload : (ts : List FieldType) (vs : List ℤ) → fit_all ts vs ≡ true → length (payload ts vs) ≡ payload_size ts
length-payload [] [] h = refl
length-payload [] (v ∷ vs) h = refl
length-payload (t ∷ ts) [] h = cc
length-payload (t ∷ ts) (v ∷ vs) h =
    length-append (bytes_le t.width (code t v)) (payload ts vs)
    ∙ ap₂ (λ m n. m + n) (length-bytes_le t.width (code t v)) (length-payload ts vs (and_parts (holds t v) (fit_all ts vs) h).1)

-- byte i of what is left of a number above its lowest byte
byte_above : (i v : ℕ) → byte_at (suc i) v ≡ byte_at i (v / 256)
byte_above zero v = refl
byte_above (suc i) v = ap (λ n. n % 256) (ap (λ m. v / m) (pow-succ' 256 (suc i)) ∙ sym (div-div-eq-div-mul v 256 (256 ^ suc i)))

bytes_above : (i k v : ℕ) → bytes_low_first (suc i) k v ≡ bytes_low_first i k (v / 256)
bytes_above i zero v = refl
bytes_above i (suc k) v = ap₂ (λ b bs. b ∷ bs) (byte_above i v) (bytes_above (suc i) k v)

-- the first bytes of those that the library writes are the lowest
pub lowest_bytes : (w k v : ℕ) → w ≤ k → take w (bytes_low_first 0 k v) ≡ bytes_le w v
unfolding bytes_le
lowest_bytes zero k v h = refl
lowest_bytes (suc w) zero v h = absurd (omega arith)
lowest_bytes (suc w) (suc k) v h = ap (λ bs. v % 256 ∷ bs) (ap (take w) (bytes_above 0 k v) ∙ lowest_bytes w k (v / 256) (omega arith))

pub put_none : (xs : List ℕ) (at : ℕ) → put xs at [] ≡ xs
put_none xs at = grind (arith, common_steps)

-- one byte more
pub put_more : (xs : List ℕ) (at : ℕ) (ys : List ℕ) (n b : ℕ) → length ys ≡ n → at + n < length xs → set (put xs at ys) (at + n) b ≡ put xs at (ys ++ (b ∷ []))
put_more xs at ys n b l h =
    let before = take at xs ++ ys in
    let k : length (take at xs ++ ys) ≡ at + n = length-append (take at xs) ys ∙ ap₂ (λ p q. p + q) (length-take-le at xs (omega arith)) l in
    let one : drop (at + length ys) xs ≡ _ = ap (λ m. drop (at + m) xs) l ∙ drop_more xs (at + n) 0 h in
    let last : at + n + 1 ≡ at + length (ys ++ (b ∷ [])) = omega (arith, length-append ys (b ∷ [])) in
    ap (λ t. set (take at xs ++ (ys ++ t)) (at + n) b) one
    ∙ ap (λ t. set t (at + n) b) (sym (append_assoc (take at xs) ys _))
    ∙ set_at before _ (drop (at + n + 1) xs) b (at + n) k
    ∙ append_assoc (take at xs) ys _
    ∙ ap (λ t. take at xs ++ t) (sym (append_assoc ys (b ∷ []) (drop (at + n + 1) xs)))
    ∙ ap (λ m. take at xs ++ ((ys ++ (b ∷ [])) ++ drop m xs)) last

-- two runs of bytes, the second put first
pub put_before : (xs : List ℕ) (at n : ℕ) (ys zs : List ℕ) → length ys ≡ n → at + n ≤ length xs → put (put xs (at + n) zs) at ys ≡ put xs at (ys ++ zs)
put_before xs at n ys zs l h = grind (arith, common_steps)

codes_some : (w : ℕ) → 0 < 256 ^ w
codes_some zero = omega arith
codes_some (suc w) = omega (arith, pow-succ' 256 w, codes_some w)

-- a number's lowest byte and the bytes above it
low_byte : (w v : ℕ) → v % 256 ^ suc w ≡ (v / 256 % 256 ^ w) * 256 + v % 256
low_byte w v = ap (λ m. v % m) (pow-succ' 256 w ∙ mul_comm 256 (256 ^ w)) ∙ mod-mul v (codes_some w) (omega arith)

word_none : (w : ℕ) → word_le (take w []) ≡ 0
unfolding word_le
word_none zero = refl
word_none (suc w) = refl

-- the w lowest bytes of a word that has a text's first n
pub low_word : (w n v : ℕ) (bs : List ℕ) → w ≤ n → bytes_le n v ≡ front n bs → v % 256 ^ w ≡ word_le (take w bs)
unfolding bytes_le word_le front
low_word zero n v bs h e = omega arith
low_word (suc w) zero v bs h e = absurd (omega arith)
low_word (suc w) (suc n) v [] h e =
    let first : v % 256 ≡ 0 = cc in
    let rest : bytes_le n (v / 256) ≡ front n [] = cc in
    low_byte w v ∙ ap₂ (λ p q. p * 256 + q) (low_word w n (v / 256) [] (omega arith) rest ∙ word_none w) first
low_word (suc w) (suc n) v (b ∷ bs) h e =
    let first : v % 256 ≡ b = cc in
    let rest : bytes_le n (v / 256) ≡ front n bs = cc in
    low_byte w v ∙ ap₂ (λ p q. p * 256 + q) (low_word w n (v / 256) bs (omega arith) rest) first
