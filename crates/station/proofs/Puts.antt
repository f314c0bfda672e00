-- Bytes put into a buffer: one or two, a text behind another, and what stands before a run.
use Rattle.std.proofs.Common.{◌≡◌, ℕ, ◌+◌, ◌^◌, ◌<◌, ◌≤◌, List, [], ◌∷◌, ◌++◌, length, get_or, take, set, decimal, sym, refl, ap, ◌∙◌, ap₂, arith}
use Rattle.std.proofs.lemmas.Fmt.{length-decimal-le}
use Rattle.std.proofs.lemmas.List.{get_or_append_left, get_or-take, length-append, length-take-le}
use Rattle.records.specs.Payload.{put}
use Rattle.records.proofs.Payloads.{put_none, put_more}
use Rattle.sheets.proofs.Puts.{put_behind}

-- a byte set is a run of one
pub put_one : (xs : List ℕ) (at b : ℕ) → at < length xs → set xs at b ≡ put xs at (b ∷ [])
put_one xs at b h =
    let z : at + 0 ≡ at = omega arith in
    ap₂ (λ l k. set l k b) (sym (put_none xs at)) (sym z) ∙ put_more xs at [] 0 b refl (omega arith)

-- two bytes set one behind the other are a run of two
pub put_two : (xs : List ℕ) (at b c : ℕ) → at + 1 < length xs → set (set xs at b) (at + 1) c ≡ put xs at (b ∷ (c ∷ []))
put_two xs at b c h = ap (λ l. set l (at + 1) c) (put_one xs at b (omega arith)) ∙ put_more xs at (b ∷ []) 1 c refl h

-- what stands before the run is as it was
pub get_or-put_before : (xs : List ℕ) (at k : ℕ) (ys : List ℕ) → k < at → at ≤ length xs → get_or (put xs at ys) k 0 ≡ get_or xs k 0
get_or-put_before xs at k ys h fits =
    get_or_append_left (take at xs) _ 0 k (omega (arith, length-take-le at xs fits)) ∙ get_or-take at xs k 0 h

-- the buffer is another with the text put in at a place, and r is the place behind the text
pub record Stands (xs : List ℕ) (at : ℕ) (text ys : List ℕ) (r : ℕ) : Type 0 where
  pub after : ys ≡ put xs at text
  pub behind : r ≡ at + length text

-- a further text, put behind the first
pub stands_more : {xs : List ℕ} {at : ℕ} {text ys : List ℕ} {r : ℕ} → at ≤ length xs → (more zs : List ℕ) (q : ℕ) → Stands xs at text ys r
    → zs ≡ put ys r more → q ≡ r + length more → Stands xs at (text ++ more) zs q
stands_more {xs} {at} {text} fits more zs q s e b = record {
  after = e ∙ ap₂ (λ l k. put l k more) s.after s.behind ∙ put_behind xs at text more _ fits refl;
  behind = omega (arith, b, s.behind, length-append text more);
}

-- a number of 64 bits has 20 digits at most
pub decimal_short : (n : ℕ) → n < 2 ^ 64 → length (decimal n) ≤ 20
decimal_short n h = length-decimal-le 20 n (omega arith) (omega arith) h
