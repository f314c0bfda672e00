-- A word put together by `|` from its bytes, or from parts of it that may overlap.
use Rattle.std.proofs.Common.{◌≡◌, ℕ, zero, suc, ◌+◌, ◌-◌, ◌*◌, ◌/◌, ◌%◌, ◌^◌, ◌<◌, ◌≤◌, List, [], ◌∷◌, length, get_or, take, drop, sym, refl, ap, ◌∙◌, ap₂, add-zero, zero-mul, mul-one, arith, pow-suc, mul_assoc, w8, Fits}
use lib.Bits.{bit_or, or_block, or_self, or_zero_l, or_zero_r}
use Rattle.std.specs.Int.{byte_worth, sum_through}
use Rattle.std.specs.List.{AllByRecursion}
use Rattle.std.proofs.lemmas.Nat.{shl_whole}
use Rattle.std.proofs.ByRecursion.{All-drop, All-from_get_or}
use Rattle.std.proofs.lemmas.List.{length-drop, length-take-le, take_all, take_rest}
use Rattle.words.specs.Bytes.{word_le, bytes_le, front}
use Rattle.words.proofs.Shifted.{shift_more}

abbrev pub Bytes : List ℕ → Type 0
Bytes = AllByRecursion (λ b. b < 256)

pub bytes : (bs : List ℕ) → ((i : ℕ) → Fits w8 (get_or bs i 0)) → Bytes bs
bytes bs h = All-from_get_or (λ b. b < 256) bs 0 (λ i in'. omega (arith, h i))

word_below : (bs : List ℕ) → Bytes bs → word_le bs < 2 ^ (8 * length bs)
unfolding word_le
word_below [] h = omega arith
word_below (b ∷ bs) h = omega (arith, h.0, word_below bs h.1, shift_more 1 (length bs))

-- the bytes before m are those of the whole already
front_within : (bs : List ℕ) (m : ℕ) → Bytes bs → bit_or (word_le bs) (word_le (take m bs)) ≡ word_le bs
unfolding word_le
front_within bs zero h = or_zero_r (word_le bs)
front_within [] (suc m) h = refl
front_within (b ∷ bs) (suc m) h =
    or_block 8 (word_le bs) (word_le (take m bs)) b b h.0 h.0
    ∙ ap₂ (λ x y. x * 256 + y) (front_within bs m h.1) (or_self b)

-- the bytes from j on and the bytes before m make the whole word
parts : (bs : List ℕ) (j m : ℕ) → Bytes bs → j ≤ m → bit_or (word_le (drop j bs) * 2 ^ (8 * j)) (word_le (take m bs)) ≡ word_le bs
unfolding word_le
parts bs zero m h le = ap (λ w. bit_or w (word_le (take m bs))) (mul-one (word_le bs)) ∙ front_within bs m h
parts bs (suc j) zero h le = absurd (omega arith)
parts [] (suc j) (suc m) h le = ap (λ w. bit_or w 0) (zero-mul (2 ^ (8 * suc j)))
parts (b ∷ bs) (suc j) (suc m) h le =
    let w = word_le (drop j bs) in
    let t = word_le (take m bs) in
    ap (λ x. bit_or x (t * 256 + b)) (shift_more w j ∙ sym (add-zero (w * 2 ^ (8 * j) * 256)))
    ∙ or_block 8 (w * 2 ^ (8 * j)) t 0 b (omega arith) h.0
    ∙ ap₂ (λ x y. x * 256 + y) (parts bs j m h.1 (omega arith)) (or_zero_l b)

-- the same with a shift at 64 bits, which loses nothing where there are at most eight bytes
parts_shifted : (bs : List ℕ) (j m : ℕ) → Bytes bs → length bs ≤ 8 → j ≤ length bs → j ≤ m →
    bit_or (word_le (drop j bs) * 2 ^ (8 * j) % 2 ^ 64) (word_le (take m bs)) ≡ word_le bs
parts_shifted bs j m h short in' le =
    let high = drop j bs in
    let whole : word_le high * 2 ^ (8 * j) % 2 ^ 64 ≡ word_le high * 2 ^ (8 * j) =
    shl_whole (word_le high) (8 * length high) (8 * j) 64 (word_below high (All-drop (λ b. b < 256) j bs h)) (omega (arith, length-drop j bs)) in
    ap (λ w. bit_or w (word_le (take m bs))) whole ∙ parts bs j m h le

-- one more byte has the next place
word_more : (n : ℕ) (bs : List ℕ) → n < length bs → word_le (take (suc n) bs) ≡ word_le (take n bs) + get_or bs n 0 * 256 ^ n
unfolding word_le
word_more n [] h = absurd (omega arith)
word_more zero (b ∷ bs) h = omega arith
word_more (suc n) (b ∷ bs) h =
    let g = get_or bs n 0 in
    let place : g * 256 ^ suc n ≡ g * 256 ^ n * 256 = ap (λ m. g * m) (pow-suc 256 n) ∙ sym (mul_assoc g (256 ^ n) 256) in
    omega (arith, word_more n bs (omega arith))

-- the library's sum of the bytes 0 to n is their word
pub word_sum : (n : ℕ) (bs : List ℕ) → n < length bs → sum_through (λ i. byte_worth i (get_or bs i 0)) n ≡ word_le (take (suc n) bs)
unfolding word_le
word_sum zero bs h = omega (arith, word_more 0 bs h)
word_sum (suc n) bs h = omega (arith, word_sum n bs (omega arith), word_more (suc n) bs h)

-- the number that `from_le_bytes` makes of the first n + 1 bytes
pub word_of : (n : ℕ) (bs : List ℕ) → n < length bs → sum_through (λ i. byte_worth i (get_or (take (suc n) bs) i 0)) n ≡ word_le (take (suc n) bs)
word_of n bs h =
    let t = take (suc n) bs in
    word_sum n t (omega (arith, length-take-le (suc n) bs h)) ∙ ap word_le (take_all (suc n) t (omega (arith, length-take-le (suc n) bs h)))

padding : (n : ℕ) → bytes_le n 0 ≡ front n []
unfolding bytes_le front
padding zero = refl
padding (suc n) = ap (λ l. 0 ∷ l) (padding n)

-- the bytes of the word that a text's front makes
pub word_bytes : (n : ℕ) (bs : List ℕ) → Bytes bs → bytes_le n (word_le (take n bs)) ≡ front n bs
unfolding word_le bytes_le front
word_bytes zero bs h = refl
word_bytes (suc n) [] h = ap (λ l. 0 ∷ l) (padding n)
word_bytes (suc n) (b ∷ bs) h =
    let w = word_le (take n bs) in
    let byte : b < 256 = h.0 in
    let low : (w * 256 + b) % 256 ≡ b = omega arith in
    let high : (w * 256 + b) / 256 ≡ w = omega arith in
    ap₂ (λ x y. x ∷ bytes_le n y) low high ∙ ap (λ l. b ∷ l) (word_bytes n bs h.1)

-- a text of at most eight bytes
pub loaded : (bs : List ℕ) (w : ℕ) → Bytes bs → length bs ≤ 8 → w ≡ word_le bs → bytes_le 8 w ≡ front 8 bs
loaded bs w h short e = ap (bytes_le 8) (e ∙ ap word_le (sym (take_all 8 bs short))) ∙ word_bytes 8 bs h

-- the same, where its last n bytes, which begin at j, are joined to the bytes before m
pub loaded_parts : (bs : List ℕ) (j n m high low : ℕ) → Bytes bs → length bs ≡ j + n → j + n ≤ 8 → j ≤ m →
    high ≡ word_le (take n (take (length bs - j) (drop j bs))) → low ≡ word_le (take m bs) → bytes_le 8 (bit_or (high * 2 ^ (8 * j) % 2 ^ 64) low) ≡ front 8 bs
loaded_parts bs j n m high low h len short le is-high is-low =
    let all : take n (take (length bs - j) (drop j bs)) ≡ drop j bs = ap (take n) (take_rest bs j) ∙ take_all n (drop j bs) (omega (arith, length-drop j bs)) in
    loaded bs _ h (omega arith)
    (ap₂ (λ x y. bit_or (x * 2 ^ (8 * j) % 2 ^ 64) y) (is-high ∙ ap word_le all) is-low ∙ parts_shifted bs j m h (omega arith) (omega arith) le)
