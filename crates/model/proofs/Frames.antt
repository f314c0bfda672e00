-- Frames at a place of a sheet: a frame that was written is read back, and one that is read was written.
use Rattle.std.proofs.Common.{◌≡◌, ℕ, ◌+◌, ◌-◌, ◌*◌, ◌/◌, ◌%◌, ◌^◌, ◌<◌, ◌≤◌, true, not, ◌||◌, eqb, ltb, List, [], ◌∷◌, ◌++◌, length, take, drop, ℤ, None, sym, refl, ap, ◌∙◌, ap₂, append_assoc, mul-le-mul_left, div-add-mod', mul-div_cancel, arith}
use native.Mathlib.Nat.{mul-mod_left}
use Rattle.std.specs.List.{AllByRecursion}
use Rattle.std.proofs.ByRecursion.{All-drop}
use Rattle.std.proofs.lemmas.List.{drop_at, drop-drop, length-append, length-drop, take-append-drop}
use Rattle.std.proofs.lemmas.Bool.{eq-eqb, eqb-true, le-ltb, ltb-false, not-false, not_from_true, or_from, or_parts}
use Rattle.words.specs.Bytes.{bytes_le, word_le}
use Rattle.words.proofs.Shifted.{length-bytes_le}
use Rattle.records.specs.FieldType.{FieldType, Regular}
use Rattle.records.specs.Kind.{Kind, IsRecord, Lawful}
use Rattle.records.specs.Outcome.{plain, got}
use Rattle.records.specs.Payload.{payload_size}
use Rattle.records.proofs.Payloads.{size_most}
use Rattle.records.proofs.RoundTrip.{word_bytes}
use Rattle.model.specs.History.{Rising}
use Rattle.model.specs.Law.{Byte}
use Rattle.model.specs.Reading.{after, read_records, length_at, number_at, behind, read_frame}
use Rattle.model.specs.Sheet.{payloads, frame}
use Rattle.model.proofs.Outcomes.{refuse_got, refuse_pass}
use Rattle.model.proofs.Payloads.{Run, bytes_word, chain_rising, length-payloads, records_read, records_sound}

-- what a frame may hold
pub record Content (k : Kind) (xs : List (List ℤ)) : Type 0 where
  pub records : AllByRecursion (IsRecord k) xs
  pub rising : Rising k xs
  pub few : length xs ≤ 4096

size_least : (ts : List FieldType) → AllByRecursion Regular ts → length ts ≤ payload_size ts
size_least [] regs = omega arith
size_least (t ∷ ts) regs = let some = regs.0.some in omega (arith, size_least ts regs.1)

module _ (k : Kind) (law : Lawful k) where
  size_some : 0 < payload_size k.types
  size_some = omega (arith, size_least k.types law.types_regular, law.types_some)

  -- at most 4,096 records of at most 64 bytes
  payloads_fit : (xs : List (List ℤ)) → Content k xs → length (payloads k xs) < 256 ^ 4
  payloads_fit xs run =
      let size : payload_size k.types ≤ 64 = omega (arith, size_most k.types law.types_regular, law.types_few) in
      let most : length xs * payload_size k.types ≤ length xs * 64 = mul-le-mul_left (length xs) size in
      omega (arith, length-payloads k xs run.records, run.few)

  module _ (bytes : List ℕ) (at : ℕ) (xs : List (List ℤ)) (run : Content k xs) (rest : List ℕ) (here : drop at bytes ≡ frame k xs ++ rest) where
    split : drop at bytes ≡ bytes_le 4 (length (payloads k xs)) ++ (bytes_le 2 k.number ++ (payloads k xs ++ rest))
    split = here ∙ simp append_assoc

    length_is : length_at bytes at ≡ length (payloads k xs)
    length_is = ap (λ bs. word_le (take 4 bs)) split ∙ word_bytes 4 (length (payloads k xs)) _ (payloads_fit xs run)

    from_4 : drop (at + 4) bytes ≡ bytes_le 2 k.number ++ (payloads k xs ++ rest)
    from_4 =
        let n = length (payloads k xs) in
        sym (drop-drop 4 at bytes) ∙ ap (drop 4) split ∙ drop_at (bytes_le 4 n) _ 4 (length-bytes_le 4 n)

    from_6 : drop (at + 6) bytes ≡ payloads k xs ++ rest
    from_6 =
        let sum : at + 6 ≡ at + 4 + 2 = omega arith in
        ap (λ n. drop n bytes) sum ∙ sym (drop-drop 2 (at + 4) bytes) ∙ ap (drop 2) from_4
        ∙ drop_at (bytes_le 2 k.number) _ 2 (length-bytes_le 2 k.number)

    number_is : number_at bytes at ≡ k.number
    number_is = ap (λ bs. word_le (take 2 bs)) from_4 ∙ word_bytes 2 k.number _ law.number_fits

    pub frame_behind : drop (behind bytes at) bytes ≡ rest
    frame_behind =
        sym (drop-drop (length_at bytes at) (at + 6) bytes) ∙ ap₂ (λ n bs. drop n bs) length_is from_6
        ∙ drop_at (payloads k xs) rest (length (payloads k xs)) refl

    frame-length : length bytes - at ≡ 6 + length (payloads k xs) + length rest
    frame-length = sym (length-drop at bytes) ∙ ap length split ∙ simp (length-append, length-bytes_le) (omega arith)

    pub frame_read : read_frame k bytes at ≡ got xs
    frame_read =
        let w = payload_size k.types in
        let g = length_at bytes at in
        let long = frame-length in
        let is : length_at bytes at ≡ length xs * payload_size k.types = length_is ∙ length-payloads k xs run.records in
        let rem : length_at bytes at % payload_size k.types ≡ 0 = ap (λ n. n % w) is ∙ mul-mod_left (length xs) w in
        let quo : length_at bytes at / payload_size k.types ≡ length xs = ap (λ n. n / w) is ∙ mul-div_cancel (length xs) size_some in
        refuse_pass (ltb (length bytes) (at + 6)) (plain 21 at) _ (le-ltb (length bytes) (at + 6) (omega arith))
        ∙ refuse_pass (not (eqb (number_at bytes at) k.number)) (plain 22 (at + 4)) _
        (not_from_true _ (eq-eqb (number_at bytes at) k.number number_is))
        ∙ refuse_pass (not (eqb (g % w) 0) || ltb 4096 (g / w)) (plain 23 at) _
        (or_from _ _ (not_from_true _ (eq-eqb (g % w) 0 rem)) (le-ltb 4096 (g / w) (omega (arith, run.few))))
        ∙ refuse_pass (ltb (length bytes) (behind bytes at)) (plain 24 (at + 6)) _
        (le-ltb (length bytes) (behind bytes at) (omega (arith, length_is)))
        ∙ ap (λ n. read_records k bytes n (at + 6) None) quo
        ∙ records_read k bytes rest xs (at + 6) None law.types_regular run.records run.rising (all_after xs) from_6
      where
        all_after : (ys : List (List ℤ)) → AllByRecursion (λ y. after k None y ≡ true) ys
        all_after [] = tt
        all_after (y ∷ ys) = (refl, all_after ys)

  pub frame_sound : (bytes : List ℕ) (at : ℕ) (xs : List (List ℤ)) → AllByRecursion Byte bytes → read_frame k bytes at ≡ got xs
      → Content k xs × (drop at bytes ≡ frame k xs ++ drop (behind bytes at) bytes)
  frame_sound bytes at xs all e =
      let w = payload_size k.types in
      let g = length_at bytes at in
      let a21 = refuse_got (ltb (length bytes) (at + 6)) (plain 21 at) _ xs e in
      let a22 = refuse_got (not (eqb (number_at bytes at) k.number)) (plain 22 (at + 4)) _ xs a21.1 in
      let a23 = refuse_got (not (eqb (g % w) 0) || ltb 4096 (g / w)) (plain 23 at) _ xs a22.1 in
      let a24 = refuse_got (ltb (length bytes) (behind bytes at)) (plain 24 (at + 6)) _ xs a23.1 in
      let long : at + 6 ≤ length bytes = ltb-false (length bytes) (at + 6) a21.0 in
      let number = eqb-true (number_at bytes at) k.number (not-false _ a22.0) in
      let parts = or_parts (not (eqb (g % w) 0)) (ltb 4096 (g / w)) a23.0 in
      let rem : g % w ≡ 0 = eqb-true (g % w) 0 (not-false _ parts.0) in
      let few : g / w ≤ 4096 = ltb-false 4096 (g / w) parts.1 in
      let room : behind bytes at ≤ length bytes = ltb-false (length bytes) (behind bytes at) a24.0 in
      let whole : g / w * w ≡ g = omega (arith, div-add-mod' g w) in
      let run : Run k bytes (g / w) (at + 6) None xs =
      records_sound k bytes (g / w) (at + 6) None xs law.types_regular all (omega arith) a24.1 in
      let size : g ≡ length (payloads k xs) = sym (length-payloads k xs run.records ∙ ap (λ n. n * w) run.count ∙ whole) in
      let head : take 4 (drop at bytes) ≡ bytes_le 4 (length (payloads k xs)) =
      sym (bytes_word 4 (drop at bytes) (All-drop Byte at bytes all) (omega (arith, length-drop at bytes))) ∙ ap (bytes_le 4) size in
      let mid : take 2 (drop (at + 4) bytes) ≡ bytes_le 2 k.number =
      sym (bytes_word 2 (drop (at + 4) bytes) (All-drop Byte (at + 4) bytes all) (omega (arith, length-drop (at + 4) bytes)))
      ∙ ap (bytes_le 2) number in
      let sum : at + 4 + 2 ≡ at + 6 = omega arith in
      let tail : drop 2 (drop (at + 4) bytes) ≡ payloads k xs ++ drop (behind bytes at) bytes =
      drop-drop 2 (at + 4) bytes ∙ ap (λ n. drop n bytes) sum ∙ run.here ∙ ap (λ n. payloads k xs ++ drop (at + 6 + n) bytes) whole in
      let behind-4 : drop 4 (drop at bytes) ≡ bytes_le 2 k.number ++ (payloads k xs ++ drop (behind bytes at) bytes) =
      drop-drop 4 at bytes ∙ sym (take-append-drop 2 (drop (at + 4) bytes)) ∙ ap₂ (λ x y. x ++ y) mid tail in (
        record { records = run.records; rising = chain_rising k law None xs run.records run.chain; few = omega (arith, run.count) },
        sym (take-append-drop 4 (drop at bytes)) ∙ ap₂ (λ x y. x ++ y) head behind-4 ∙ sym (simp append_assoc),
      )
