-- The payloads of records and their frames: how long they are, and one record more.
use Rattle.std.proofs.Common.{◌≡◌, ◌+◌, ◌*◌, List, [], ◌∷◌, ◌++◌, map, length, ℤ, sym, refl, ap, ◌∙◌, ap₂, append_assoc, append-nil, suc-mul, arith}
use Rattle.std.proofs.lemmas.List.{length-append}
use Rattle.words.specs.Bytes.{bytes_le}
use Rattle.words.proofs.Shifted.{length-bytes_le}
use Rattle.records.specs.FieldType.{FieldType}
use Rattle.records.specs.Kind.{Kind}
use Rattle.records.specs.Payload.{code, payload, payload_size}
use Rattle.model.specs.Sheet.{payloads, frame}

-- a number for each type
length-numbers : (ts : List FieldType) (vs : List ℤ) → length vs ≡ length ts → length (payload ts vs) ≡ payload_size ts
length-numbers [] vs h = refl
length-numbers (t ∷ ts) [] h = absurd (omega arith)
length-numbers (t ∷ ts) (v ∷ vs) h =
    length-append (bytes_le t.width (code t v)) (payload ts vs)
    ∙ ap₂ (λ m n. m + n) (length-bytes_le t.width (code t v)) (length-numbers ts vs (omega arith))

pub payloads_push : (k : Kind) (xs : List (List ℤ)) (x : List ℤ) → payloads k (xs ++ x ∷ []) ≡ payloads k xs ++ payload k.types x
payloads_push k [] x = append-nil (payload k.types x)
payloads_push k (y ∷ ys) x =
    ap (λ t. payload k.types y ++ t) (payloads_push k ys x) ∙ sym (append_assoc (payload k.types y) (payloads k ys) (payload k.types x))

module _ {X : Type 0} (k : Kind) (numbers : X → List ℤ) (shape : (x : X) → length (numbers x) ≡ length k.types) where
  pub length-payloads : (xs : List X) → length (payloads k (map numbers xs)) ≡ length xs * payload_size k.types
  length-payloads [] = omega arith
  length-payloads (x ∷ xs) =
      let one = length-numbers k.types (numbers x) (shape x) in
      let more = length-payloads xs in
      length-append (payload k.types (numbers x)) (payloads k (map numbers xs)) ∙ rw suc-mul (omega arith)

  pub length-frame : (xs : List X) → length (frame k (map numbers xs)) ≡ 6 + length xs * payload_size k.types
  length-frame xs =
      let p = payloads k (map numbers xs) in
      let a = length-append (bytes_le 4 (length p)) (bytes_le 2 k.number ++ p) in
      let b = length-append (bytes_le 2 k.number) p in
      omega (arith, length-bytes_le 4 (length p), length-bytes_le 2 k.number, length-payloads xs)
