use Rattle.std.proofs.Common.{◌≡◌, ℕ, ◌+◌, ◌-◌, ◌*◌, ◌/◌, ◌%◌, ◌<◌, ◌≤◌, List, [], ◌∷◌, length, get_or, take, drop, set, sym, refl, ap, ◌∙◌, ap₂, arith}
use Rattle.std.proofs.lemmas.List.{drop_more, get_or-drop, get_or-take, length-drop, length-take}
use Rattle.records.specs.Payload.{put}
use Rattle.records.proofs.Payloads.{put_before}
use Rattle.station.specs.Output.{hex_digit, hex_of}
use Rattle.station.proofs.Puts.{put_two, get_or-put_before}
use Rattle.station.proofs.digits.spread.Goals as goal

module _ (xs : List ℕ) (from len to j : ℕ) (room : to + 2 * len ≤ length xs) (behind : from ≤ to) (more : j < len) where
  -- the byte that is read is still the old one
  byte_old : (ys zs : List ℕ) → ys ≡ put xs (to + 2 * j + 2) zs → get_or ys (from + j) 0 ≡ get_or xs (from + j) 0
  byte_old ys zs e = ap (λ l. get_or l (from + j) 0) e ∙ get_or-put_before xs (to + 2 * j + 2) (from + j) zs (omega arith) (omega arith)

  -- one byte more in hexadecimal, in front of the others
  turn : (ys : List ℕ) → ys ≡ put xs (to + 2 * j + 2) (hex_of (drop (j + 1) (take len (drop from xs)))) → length ys ≡ length xs
      → set (set ys (to + 2 * j) (hex_digit (get_or ys (from + j) 0 / 16))) (to + 2 * j + 1) (hex_digit (get_or ys (from + j) 0 % 16))
      ≡ put xs (to + 2 * j) (hex_of (drop j (take len (drop from xs))))
  turn ys e long =
      let at = to + 2 * j in
      let s = take len (drop from xs) in
      let rest = hex_of (drop (j + 1) s) in
      let b = get_or xs (from + j) 0 in
      let two = hex_digit (b / 16) ∷ (hex_digit (b % 16) ∷ []) in
      let old = byte_old ys rest e in
      let here : get_or s j 0 ≡ b = get_or-take len (drop from xs) j 0 more ∙ get_or-drop from xs j 0 in
      let front : drop j s ≡ b ∷ drop (j + 1) s =
      drop_more s j 0 (simp (length-take, length-drop) (omega arith)) ∙ ap (λ v. v ∷ drop (j + 1) s) here in
      ap (λ v. set (set ys at (hex_digit (v / 16))) (at + 1) (hex_digit (v % 16))) old
      ∙ put_two ys at (hex_digit (b / 16)) (hex_digit (b % 16)) (omega arith)
      ∙ ap (λ l. put l at two) e
      ∙ put_before xs at 2 two rest refl (omega arith)
      ∙ ap (λ l. put xs at (hex_of l)) (sym front)

pub loop-i-preserved : goal.loop-i-preserved
loop-i-preserved c =
    let i = c.loop-i.i in
    let xs = c.args.out.now in
    let from = c.args.from in
    let to = c.args.to in
    let len = c.args.len in
    let ys = c.loop-i.out in
    let next : i ≡ i - 1 + 1 = omega arith in
    let place : to + 2 * i ≡ to + 2 * (i - 1) + 2 = omega arith in
    let inv : ys ≡ put xs (to + 2 * (i - 1) + 2) (hex_of (drop (i - 1 + 1) (take len (drop from xs)))) =
    c.loop-i.invariant ∙ ap₂ (λ p k. put xs p (hex_of (drop k (take len (drop from xs))))) place next in
    ap₂ (λ p q. set (set ys (to + 2 * (i - 1)) p) (to + 2 * (i - 1) + 1) q) c.hex_digit.ensures c.hex_digit-in-loop-i.ensures
    ∙ turn xs from len to (i - 1) c.requires.room c.requires.behind (omega arith) ys inv (omega arith)
