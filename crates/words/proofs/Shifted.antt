-- The bytes of a word that is shifted up by whole bytes or cut off above.
use Rattle.std.proofs.Common.{◌≡◌, ℕ, zero, suc, ◌+◌, ◌-◌, ◌*◌, ◌/◌, ◌%◌, ◌^◌, ◌≤◌, ◌∷◌, ◌++◌, length, take, replicate, sym, refl, ap, ◌∙◌, ap₂, mul_assoc, suc-add, zero-add, mul-one, arith, pow-add}
use Rattle.std.proofs.lemmas.Nat.{mod-pow-add}
use Rattle.words.specs.Bytes.{bytes_le}

-- a shift by one more byte
pub shift_more : (v k : ℕ) → v * 2 ^ (8 * suc k) ≡ v * 2 ^ (8 * k) * 256
shift_more v k =
    let width : 8 * suc k ≡ 8 * k + 8 = omega arith in
    ap (λ j. v * 2 ^ j) width ∙ ap (λ m. v * m) (pow-add 2 (8 * k) 8) ∙ sym (mul_assoc v (2 ^ (8 * k)) 256)

pub length-bytes_le : (n v : ℕ) → length (bytes_le n v) ≡ n
unfolding bytes_le
length-bytes_le zero v = refl
length-bytes_le (suc n) v = ap suc (length-bytes_le n (v / 256))

bytes_take : (k n v : ℕ) → k ≤ n → take k (bytes_le n v) ≡ bytes_le k v
unfolding bytes_le
bytes_take zero n v h = refl
bytes_take (suc k) zero v h = absurd (omega arith)
bytes_take (suc k) (suc n) v h = ap (λ l. v % 256 ∷ l) (bytes_take k n (v / 256) (omega arith))

-- a word cut to n bytes has the same n bytes
bytes_mod : (n v : ℕ) → bytes_le n (v % 2 ^ (8 * n)) ≡ bytes_le n v
unfolding bytes_le
bytes_mod zero v = refl
bytes_mod (suc n) v =
    let width : 8 * suc n ≡ 8 * n + 8 = omega arith in
    let whole : v % 2 ^ (8 * suc n) ≡ (v / 256 % 2 ^ (8 * n)) * 256 + v % 256 = ap (λ k. v % 2 ^ k) width ∙ mod-pow-add v (8 * n) 8 in
    let low : v % 2 ^ (8 * suc n) % 256 ≡ v % 256 = omega arith in
    let high : v % 2 ^ (8 * suc n) / 256 ≡ v / 256 % 2 ^ (8 * n) = omega arith in
    ap₂ (λ b w. b ∷ bytes_le n w) low high ∙ ap (λ l. v % 256 ∷ l) (bytes_mod n (v / 256))

bytes_shifted : (k n v : ℕ) → bytes_le (k + n) (v * 2 ^ (8 * k)) ≡ replicate k 0 ++ bytes_le n v
unfolding bytes_le
bytes_shifted zero n v = ap₂ bytes_le (zero-add n) (mul-one v)
bytes_shifted (suc k) n v =
    let w = v * 2 ^ (8 * k) in
    let low : w * 256 % 256 ≡ 0 = omega arith in
    let high : w * 256 / 256 ≡ w = omega arith in
    ap₂ bytes_le (suc-add k n) (shift_more v k) ∙ ap₂ (λ b m. b ∷ bytes_le (k + n) m) low high ∙ ap (λ l. 0 ∷ l) (bytes_shifted k n v)

-- the first len of eight bytes moved up to the end, with zeros in front
pub moved_up : (v len : ℕ) → len ≤ 8 → bytes_le 8 (v * 2 ^ (64 - 8 * len) % 2 ^ 64) ≡ replicate (8 - len) 0 ++ take len (bytes_le 8 v)
moved_up v len most =
    let shift : 64 - 8 * len ≡ 8 * (8 - len) = omega arith in
    let total : 8 ≡ 8 - len + len = omega arith in
    bytes_mod 8 (v * 2 ^ (64 - 8 * len))
    ∙ ap₂ (λ n j. bytes_le n (v * 2 ^ j)) total shift
    ∙ bytes_shifted (8 - len) len v
    ∙ ap (λ l. replicate (8 - len) 0 ++ l) (sym (bytes_take len 8 v most))
