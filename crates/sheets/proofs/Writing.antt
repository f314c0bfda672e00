-- Rows, frames and sheets, written one after another.
use Rattle.std.proofs.Common.{◌≡◌, ℕ, ◌+◌, ◌*◌, ◌%◌, ◌^◌, ◌<◌, ◌≤◌, true, false, ltb, List, [], ◌∷◌, ◌++◌, map, length, get_or, take, drop, ℤ, sym, ap, ◌∙◌, ap₂, append_assoc, arith}
use Rattle.std.proofs.lemmas.List.{map_more, length-append, length-take-le}
use Rattle.std.proofs.lemmas.Bool.{lt-ltb, le-ltb}
use Rattle.words.specs.Bytes.{bytes_le}
use Rattle.words.proofs.Shifted.{length-bytes_le}
use Rattle.records.specs.Kind.{Kind}
use Rattle.records.specs.Outcome.{plain, got, refused}
use Rattle.records.specs.Payload.{payload, payload_size, put}
use Rattle.model.specs.Sheet.{payloads, frame, Writes}
use Rattle.sheets.proofs.Frames.{payloads_push, length-payloads}
use Rattle.sheets.proofs.Headers.{four_bytes}
use Rattle.sheets.proofs.Puts.{put_behind}

module _ {X : Type 0} (k : Kind) (numbers : X → List ℤ) (shape : (x : X) → length (numbers x) ≡ length k.types) (rows : List X) where
  length-rows : (n : ℕ) → n ≤ length rows → length (payloads k (map numbers (take n rows))) ≡ n * payload_size k.types
  length-rows n h = length-payloads k numbers shape (take n rows) ∙ ap (λ m. m * payload_size k.types) (length-take-le n rows h)

  -- one row more, written where size bytes are taken for each
  pub row_written : (out : List ℕ) (at i size : ℕ) (x : X) (before after : List ℕ) → at ≤ length out → i < length rows → x ≡ get_or rows i x → size ≡ payload_size k.types
      → before ≡ put out at (payloads k (map numbers (take i rows))) → after ≡ put before (at + i * size) (payload k.types (numbers x))
      → after ≡ put out at (payloads k (map numbers (take (i + 1) rows)))
  row_written out at i size x before after room h is wide b e =
      let xs = map numbers (take i rows) in
      let more : map numbers (take (i + 1) rows) ≡ xs ++ numbers x ∷ [] = map_more numbers rows i x h ∙ ap (λ y. xs ++ numbers y ∷ []) (sym is) in
      let next : at + i * size ≡ at + length (payloads k xs) = ap (λ n. at + n) (ap (λ w. i * w) wide ∙ sym (length-rows i (omega arith))) in
      e
      ∙ ap (λ o. put o (at + i * size) (payload k.types (numbers x))) b
      ∙ put_behind out at (payloads k xs) (payload k.types (numbers x)) (at + i * size) room next
      ∙ ap (put out at) (sym (payloads_push k xs (numbers x)) ∙ ap (payloads k) (sym more))

  -- a header, and the rows behind it
  pub frame_written : (out : List ℕ) (at size number : ℕ) (before after : List ℕ) → at ≤ length out → size ≡ payload_size k.types → number ≡ k.number
      → before ≡ put out at (bytes_le 4 (length rows * size % 2 ^ 32) ++ bytes_le 2 number) → after ≡ put before (at + 6) (payloads k (map numbers rows))
      → after ≡ put out at (frame k (map numbers rows))
  frame_written out at size number before after room wide is b e =
      let p = payloads k (map numbers rows) in
      let first = bytes_le 4 (length p) in
      let second = bytes_le 2 k.number in
      let len : bytes_le 4 (length rows * size % 2 ^ 32) ≡ bytes_le 4 (length p) =
      four_bytes (length rows * size) ∙ ap (bytes_le 4) (ap (λ w. length rows * w) wide ∙ sym (length-payloads k numbers shape rows)) in
      let six : at + 6 ≡ at + length (first ++ second) = omega (arith, length-append first second, length-bytes_le 4 (length p), length-bytes_le 2 k.number) in
      e
      ∙ ap (λ o. put o (at + 6) p) (b ∙ ap₂ (λ s q. put out at (s ++ bytes_le 2 q)) len is)
      ∙ put_behind out at (first ++ second) p (at + 6) room six
      ∙ ap (put out at) (append_assoc first second p)

module _ (f g out : List ℕ) where
  -- two frames, the second right behind the first
  pub sheet_written : (middle total : ℕ) → middle ≡ length f → total ≡ length f + length g → total ≤ length out
      → Writes (f ++ g) out (got total) (put (put out 0 f) middle g)
  sheet_written middle total m t room =
      let len : total ≡ length (f ++ g) = t ∙ sym (length-append f g) in
      let zero : 0 + length (f ++ g) ≡ length (f ++ g) = omega arith in
      let enough : ltb (length out) (length (f ++ g)) ≡ false = le-ltb (length out) (length (f ++ g)) (omega arith) in
      let bytes : put (put out 0 f) middle g ≡ (f ++ g) ++ drop (length (f ++ g)) out =
      put_behind out 0 f g middle (omega arith) (omega arith) ∙ ap (λ n. (f ++ g) ++ drop n out) zero in
      record { answers = rw enough (ap got len); bytes = rw enough bytes }

  pub sheet_refused : length out < length f + length g → Writes (f ++ g) out (refused (plain 33 0)) out
  sheet_refused h =
      let short : ltb (length out) (length (f ++ g)) ≡ true = lt-ltb (length out) (length (f ++ g)) (omega (arith, length-append f g)) in
      record { answers = rw short; bytes = rw short }
