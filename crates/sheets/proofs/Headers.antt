-- A frame's first six bytes.
use Rattle.std.proofs.Common.{◌≡◌, ℕ, suc, ◌+◌, ◌-◌, ◌*◌, ◌/◌, ◌%◌, ◌^◌, Bool, true, false, cond, leb, List, [], ◌∷◌, take, drop, pos, negsuc, nat_abs, ap, ◌∙◌, arith}
use Rattle.std.proofs.lemmas.List.{drop-drop}
use Rattle.words.specs.Bytes.{bytes_le, word_le}
use Rattle.records.specs.FieldType.{FieldType, unsigned_of}
use Rattle.records.specs.Payload.{decode, numbers_of}
use Rattle.model.specs.Reading.{length_at, number_at}

same_low : (high x y : ℕ) → y ≡ high * 256 + x → x % 256 ≡ y % 256
same_low high x y e = omega arith

-- four bytes keep nothing above them
pub four_bytes : (v : ℕ) → bytes_le 4 (v % 2 ^ 32) ≡ bytes_le 4 v
unfolding bytes_le
four_bytes v =
    let r = v % 2 ^ 32 in
    let q = v / 2 ^ 32 in
    let a = same_low (q * 2 ^ 24) r v (omega arith) in
    let b = same_low (q * 2 ^ 16) (r / 256) (v / 256) (omega arith) in
    let c = same_low (q * 2 ^ 8) (r / 256 / 256) (v / 256 / 256) (omega arith) in
    let d = same_low q (r / 256 / 256 / 256) (v / 256 / 256 / 256) (omega arith) in
    cc

-- a number that is not negative is its own code
decode_pos : (t : FieldType) (m n : ℕ) → pos m ≡ decode t n → m ≡ n
decode_pos t m n e = go (leb n (nat_abs t.numbers.greatest)) e
  where
    go : (b : Bool) → pos m ≡ cond b (pos n) (negsuc (256 ^ t.width - suc n)) → m ≡ n
    go true e = cc
    go false e = let z : ◌≡◌ {A = ℕ} 0 1 = cc in absurd (omega arith)

-- what the numbers of a header say of the frame at the place
pub header_numbers : (bytes : List ℕ) (at size number : ℕ)
    → pos size ∷ (pos number ∷ []) ≡ numbers_of (unsigned_of 4 ∷ (unsigned_of 2 ∷ [])) (drop at bytes)
    → (size ≡ length_at bytes at) × (number ≡ number_at bytes at)
header_numbers bytes at size number e =
    let n = word_le (take 2 (drop 4 (drop at bytes))) in
    let one : pos size ≡ decode (unsigned_of 4) (length_at bytes at) = cc in
    let two : pos number ≡ decode (unsigned_of 2) (word_le (take 2 (drop 4 (drop at bytes)))) = cc in
    (decode_pos (unsigned_of 4) size (length_at bytes at) one, decode_pos (unsigned_of 2) number n two ∙ ap (λ bs. word_le (take 2 bs)) (drop-drop 4 at bytes))
