-- What a frame and a sheet are that were read.
use Rattle.std.proofs.Common.{◌≡◌, ℕ, ◌+◌, ◌*◌, ◌/◌, ◌%◌, ◌≤◌, not, ◌||◌, eqb, ltb, List, length, ℤ, None, sym, ap, ◌∙◌, div-add-mod', arith}
use Rattle.std.proofs.lemmas.Bool.{ltb-false, eqb-true, not-false, or_parts}
use Rattle.records.specs.Kind.{Kind}
use Rattle.records.specs.Outcome.{plain, got}
use Rattle.records.specs.Payload.{payload_size}
use Rattle.model.specs.Reading.{length_at, number_at, behind, read_records, read_frame, Both, read_sheet}
use Rattle.model.proofs.Outcomes.{refuse_got, then_got}
use Rattle.sheets.proofs.Records.{records_count}

-- the bytes of as many whole records as a length has
pub whole_records : (l size : ℕ) → l % size ≡ 0 → l / size * size ≡ l
whole_records l size e = omega (arith, div-add-mod' l size)

module _ (k : Kind) (bytes : List ℕ) (at : ℕ) where
  pub record Frame (xs : List (List ℤ)) : Type 0 where
    pub end : behind bytes at ≡ at + 6 + length xs * payload_size k.types
    pub room : behind bytes at ≤ length bytes
    pub records : read_records k bytes (length xs) (at + 6) None ≡ got xs

  frame_read : (xs : List (List ℤ)) → read_frame k bytes at ≡ got xs → Frame xs
  frame_read xs e =
      let size = payload_size k.types in
      let l = length_at bytes at in
      let a = refuse_got (ltb (length bytes) (at + 6)) (plain 21 at) _ xs e in
      let b = refuse_got (not (eqb (number_at bytes at) k.number)) (plain 22 (at + 4)) _ xs a.1 in
      let c = refuse_got (not (eqb (l % size) 0) || ltb 4096 (l / size)) (plain 23 at) _ xs b.1 in
      let d = refuse_got (ltb (length bytes) (behind bytes at)) (plain 24 (at + 6)) _ xs c.1 in
      let even = eqb-true (l % size) 0 (not-false _ (or_parts (not (eqb (l % size) 0)) (ltb 4096 (l / size)) c.0).0) in
      let count = records_count k bytes (l / size) (at + 6) None xs d.1 in
      record {
        end = ap (λ n. at + 6 + n) (sym (whole_records l size even) ∙ ap (λ n. n * size) (sym count));
        room = ltb-false _ _ d.0;
        records = ap (λ n. read_records k bytes n (at + 6) None) count ∙ d.1;
      }

module _ (a b : Kind) (bytes : List ℕ) where
  pub record Sheet (both : Both) : Type 0 where
    pub first : Frame a bytes 0 both.in₁
    pub second : Frame b bytes (behind bytes 0) both.in₂

  pub sheet_read : (both : Both) → read_sheet a b bytes ≡ got both → Sheet both
  sheet_read both e =
      let one = then_got (read_frame a bytes 0) _ both e in
      let two = then_got (read_frame b bytes (behind bytes 0)) _ both one.2 in
      let end = refuse_got (ltb (behind bytes (behind bytes 0)) (length bytes)) _ _ both two.2 in
      let xs : one.0 ≡ both.in₁ = cc end.1 in
      let ys : two.0 ≡ both.in₂ = cc end.1 in
      record {
        first = frame_read a bytes 0 both.in₁ (one.1 ∙ ap got xs);
        second = frame_read b bytes (behind bytes 0) both.in₂ (two.1 ∙ ap got ys);
      }
