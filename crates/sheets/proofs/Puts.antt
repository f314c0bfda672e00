-- Bytes put into a buffer, one run behind another.
use Rattle.std.proofs.Common.{◌≡◌, ℕ, ◌+◌, ◌≤◌, List, ◌++◌, length, Some, None, Option, sym, refl, ap, ◌∙◌, arith}
use lib.Seq.{paste}
use Rattle.std.proofs.lemmas.List.{length-append}
use Rattle.std.proofs.lemmas.List.Edits.{paste_all, paste-paste}
use Rattle.records.specs.Payload.{put, Written}

put_paste : (xs : List ℕ) (at : ℕ) (ys : List ℕ) → put xs at ys ≡ paste xs at ys (length ys)
put_paste xs at ys = sym (paste_all xs at ys (length ys) refl)

pub put_behind : (xs : List ℕ) (at : ℕ) (ys zs : List ℕ) (next : ℕ) → at ≤ length xs → next ≡ at + length ys → put (put xs at ys) next zs ≡ put xs at (ys ++ zs)
put_behind xs at ys zs next h e =
    ap (λ p. put (put xs at ys) p zs) e
    ∙ put_paste (put xs at ys) (at + length ys) zs
    ∙ ap (λ t. paste t (at + length ys) zs (length zs)) (put_paste xs at ys)
    ∙ paste-paste xs at ys zs (length ys) (length zs) refl refl h
    ∙ ap (paste xs at (ys ++ zs)) (sym (length-append ys zs))
    ∙ sym (put_paste xs at (ys ++ zs))

-- where there is room the bytes are written
pub written_room : (size : ℕ) (ys xs : List ℕ) (at : ℕ) (r : Option ℕ) (zs : List ℕ) → Written size ys xs at r zs → at + size ≤ length xs → zs ≡ put xs at ys
written_room size ys xs at (Some behind) zs w h = w.2
written_room size ys xs at None zs w h = let short = w.0 in absurd (omega arith)
