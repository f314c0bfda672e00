-- A sheet's two lines, put into the buffer where the sheet stands.
use Rattle.std.proofs.Common.{◌≡◌, ℕ, ◌+◌, ◌*◌, ◌≤◌, List, [], ◌∷◌, ◌++◌, length, take, drop, sym, refl, ap, ◌∙◌, ap₂, zero-add, arith}
use Rattle.std.proofs.lemmas.List.{length-append, length-drop, length-take-le, take-append-le, take-take}
use Rattle.records.specs.Payload.{put}
use Rattle.records.proofs.Payloads.{put_before}
use Rattle.sheets.proofs.Puts.{put_behind}
use Rattle.station.specs.Output.{hex_of, sheet_lines}

pub length-hex_of : (bs : List ℕ) → length (hex_of bs) ≡ 2 * length bs
length-hex_of [] = refl
length-hex_of (b ∷ bs) = omega (arith, length-hex_of bs)

pub length-lines : (f g : List ℕ) → length (sheet_lines f g) ≡ 2 * length f + 2 * length g + 2
length-lines f g = omega (arith, length-append (hex_of f) (10 ∷ (hex_of g ++ (10 ∷ []))), length-append (hex_of g) (10 ∷ []), length-hex_of f, length-hex_of g)

-- a run at the front
pub put_front : (xs ys : List ℕ) → put xs 0 ys ≡ ys ++ drop (length ys) xs
put_front xs ys = ap (λ n. ys ++ drop n xs) (zero-add (length ys))

-- what stands before a run is as it was
take_put : (k at : ℕ) (xs ys : List ℕ) → k ≤ at → at ≤ length xs → take k (put xs at ys) ≡ take k xs
take_put k at xs ys h fits =
    take-append-le k (take at xs) (ys ++ drop (at + length ys) xs) (omega (arith, length-take-le at xs fits)) ∙ take-take k at xs h

module _ (xs : List ℕ) (m n : ℕ) (fits : 2 * m + 2 * n + 2 ≤ length xs) where
  pub lines_put : (out₁ out₂ out₃ out₄ : List ℕ) (end : ℕ) → out₁ ≡ put xs (2 * m + 1) (hex_of (take n (drop m xs))) → out₂ ≡ put out₁ (2 * m + 1 + 2 * n) (10 ∷ [])
      → out₃ ≡ put out₂ (2 * m) (10 ∷ []) → out₄ ≡ put out₃ 0 (hex_of (take m (drop 0 out₃))) → end ≡ 2 * m + 1 + 2 * n + 1
      → out₄ ≡ sheet_lines (take m xs) (take n (drop m xs)) ++ drop end xs
  lines_put out₁ out₂ out₃ out₄ end e₁ e₂ e₃ e₄ b =
      let f = take m xs in
      let g = take n (drop m xs) in
      let lf : length (take m xs) ≡ m = length-take-le m xs (omega arith) in
      let lg : length (take n (drop m xs)) ≡ n = length-take-le n (drop m xs) (omega (arith, length-drop m xs)) in
      let second : out₂ ≡ put xs (2 * m + 1) (hex_of g ++ (10 ∷ [])) =
      e₂ ∙ ap (λ o. put o (2 * m + 1 + 2 * n) (10 ∷ [])) e₁
      ∙ put_behind xs (2 * m + 1) (hex_of g) (10 ∷ []) (2 * m + 1 + 2 * n) (omega arith) (omega (arith, length-hex_of g)) in
      let both : out₃ ≡ put xs (2 * m) (10 ∷ (hex_of g ++ (10 ∷ []))) =
      e₃ ∙ ap (λ o. put o (2 * m) (10 ∷ [])) second ∙ put_before xs (2 * m) 1 (10 ∷ []) (hex_of g ++ (10 ∷ [])) refl (omega arith) in
      let source : take m (drop 0 out₃) ≡ take m xs = ap (take m) both ∙ take_put m (2 * m) xs (10 ∷ (hex_of g ++ (10 ∷ []))) (omega arith) (omega arith) in
      let zero : 2 * m ≡ 0 + 2 * m = omega arith in
      let all : out₄ ≡ put xs 0 (sheet_lines f g) =
      e₄ ∙ ap₂ (λ o s. put o 0 (hex_of s)) (both ∙ ap (λ k. put xs k (10 ∷ (hex_of g ++ (10 ∷ [])))) zero) source
      ∙ put_before xs 0 (2 * m) (hex_of f) (10 ∷ (hex_of g ++ (10 ∷ []))) (length-hex_of f ∙ ap (λ k. 2 * k) lf) (omega arith) in
      let size : end ≡ length (sheet_lines (take m xs) (take n (drop m xs))) = omega (arith, b, length-lines f g, lf, lg) in
      all ∙ put_front xs (sheet_lines f g) ∙ ap (λ k. sheet_lines f g ++ drop k xs) (sym size)
