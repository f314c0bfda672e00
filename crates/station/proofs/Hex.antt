-- Lines in hexadecimal give back the bytes that they write, and no refusal's line is among them.
use Rattle.std.proofs.Common.{◌≡◌, ℕ, zero, suc, ◌/◌, ◌%◌, ◌<◌, ◌≤◌, List, [], ◌∷◌, ◌++◌, ℤ, refl, ap₂, arith}
use Rattle.std.specs.List.{AllByRecursion}
use Rattle.std.proofs.ByRecursion.{All-append}
use Rattle.std.proofs.lemmas.Bool.Decides.{nat_tests}
use Rattle.words.specs.Bytes.{bytes_le}
use Rattle.records.specs.FieldType.{FieldType}
use Rattle.records.specs.Kind.{Kind}
use Rattle.records.specs.Payload.{code, payload}
use Rattle.model.specs.Law.{Byte}
use Rattle.model.specs.Sheet.{payloads, frame}
use Rattle.station.specs.Output.{hex_digit, hex_of, sheet_lines, refusal_line}

-- ---- digits

digit_least : (d : ℕ) → 48 ≤ hex_digit d
digit_least d = grind (arith, nat_tests)

digit_most : (d : ℕ) → d < 16 → hex_digit d ≤ 102
digit_most d h = grind (arith, nat_tests)

digit_same : (c d : ℕ) → c < 16 → d < 16 → hex_digit c ≡ hex_digit d → c ≡ d
digit_same c d hc hd e = grind (arith, nat_tests)

-- ---- lines

-- what stands before the first LF, and what behind it
line_same : (xs ys us vs : List ℕ) → AllByRecursion Byte xs → AllByRecursion Byte ys → hex_of xs ++ (10 ∷ us) ≡ hex_of ys ++ (10 ∷ vs) → (xs ≡ ys) × (us ≡ vs)
line_same [] [] us vs p q e = (refl, cc)
line_same [] (y ∷ ys) us vs p q e = let z : hex_digit (y / 16) ≡ 10 = cc in absurd (omega (arith, digit_least (y / 16)))
line_same (x ∷ xs) [] us vs p q e = let z : hex_digit (x / 16) ≡ 10 = cc in absurd (omega (arith, digit_least (x / 16)))
line_same (x ∷ xs) (y ∷ ys) us vs p q e =
    let small = p.0 in
    let small' = q.0 in
    let high : hex_digit (x / 16) ≡ hex_digit (y / 16) = cc in
    let low : hex_digit (x % 16) ≡ hex_digit (y % 16) = cc in
    let rest = line_same xs ys us vs p.1 q.1 (cc) in
    let same-high = digit_same (x / 16) (y / 16) (omega arith) (omega arith) high in
    let same_low = digit_same (x % 16) (y % 16) (omega arith) (omega arith) low in
    (ap₂ (λ b bs. b ∷ bs) (omega arith) rest.0, rest.1)

pub sheet_lines_same : (f g f' g' : List ℕ) → AllByRecursion Byte f → AllByRecursion Byte g → AllByRecursion Byte f' → AllByRecursion Byte g' → sheet_lines f g ≡ sheet_lines f' g'
    → (f ≡ f') × (g ≡ g')
sheet_lines_same f g f' g' pf pg pf' pg' e =
    let one = line_same f f' (hex_of g ++ (10 ∷ [])) (hex_of g' ++ (10 ∷ [])) pf pf' e in
    (one.0, (line_same g g' [] [] pg pg' one.1).0)

-- a refusal's line begins with `l`
pub no_sheet_line : (f g : List ℕ) (n r p : ℕ) → AllByRecursion Byte f → sheet_lines f g ≡ refusal_line n r p → ⊥
no_sheet_line [] g n r p bytes e = let z : ◌≡◌ {A = ℕ} 10 108 = cc in omega arith
no_sheet_line (b ∷ bs) g n r p bytes e =
    let small = bytes.0 in
    let z : hex_digit (b / 16) ≡ 108 = cc in
    omega (arith, digit_most (b / 16) (omega arith))

-- ---- a frame is bytes

bytes_all : (n v : ℕ) → AllByRecursion Byte (bytes_le n v)
unfolding bytes_le
bytes_all zero v = tt
bytes_all (suc n) v = (omega arith, bytes_all n (v / 256))

payload-bytes : (ts : List FieldType) (vs : List ℤ) → AllByRecursion Byte (payload ts vs)
payload-bytes [] vs = tt
payload-bytes (t ∷ ts) [] = tt
payload-bytes (t ∷ ts) (v ∷ vs) = All-append Byte (bytes_le t.width (code t v)) (payload ts vs) (bytes_all t.width (code t v)) (payload-bytes ts vs)

payloads-bytes : (k : Kind) (xs : List (List ℤ)) → AllByRecursion Byte (payloads k xs)
payloads-bytes k [] = tt
payloads-bytes k (x ∷ xs) = All-append Byte (payload k.types x) (payloads k xs) (payload-bytes k.types x) (payloads-bytes k xs)

pub frame-bytes : (k : Kind) (xs : List (List ℤ)) → AllByRecursion Byte (frame k xs)
frame-bytes k xs =
    All-append Byte (bytes_le 4 _) _ (bytes_all 4 _)
    (All-append Byte (bytes_le 2 k.number) (payloads k xs) (bytes_all 2 k.number) (payloads-bytes k xs))
