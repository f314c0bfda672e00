use Rattle.std.proofs.Common.{◌≡◌, ◌-◌, [], length, take, drop, sym, ap, ◌∙◌, arith, w16, w64}
use Rattle.std.specs.Int.{from_le_bytes}
use Rattle.std.proofs.lemmas.List.{drop_all, length-drop, length-take, take_all}
use Rattle.words.specs.Bytes.{word_le, bytes_le}
use Rattle.words.proofs.Load.{bytes, word_sum, word_bytes, word_of, loaded, loaded_parts}
use Rattle.words.proofs.load_8.Goals as goal

pub returns-in-8-to-max : goal.returns-in-8-to-max
returns-in-8-to-max c =
    let s = c.args.s.now in
    ap (bytes_le 8) (c.from_le_bytes-in-8-to-max.ensures ∙ ap (from_le_bytes w64) c.chunk-in-8-to-max.ensures ∙ word_of 7 s (omega arith))
    ∙ word_bytes 8 s (bytes s c.type_inv.s)

pub returns-in-7 : goal.returns-in-7
returns-in-7 c =
    let s = c.args.s.now in
    loaded_parts s 3 4 4 _ _ (bytes s c.type_inv.s) (omega arith) (omega arith) (omega arith) c.load_4.ensures c.load_4-in-7.ensures

pub returns-in-6 : goal.returns-in-6
returns-in-6 c =
    let s = c.args.s.now in
    loaded_parts s 2 4 4 _ _ (bytes s c.type_inv.s) (omega arith) (omega arith) (omega arith) c.load_4-in-6.ensures c.load_4-in-6-2.ensures

pub returns-in-5 : goal.returns-in-5
returns-in-5 c =
    let s = c.args.s.now in
    loaded_parts s 1 4 1 _ _ (bytes s c.type_inv.s) (omega arith) (omega arith) (omega arith) c.load_4-in-5.ensures (word_sum 0 s (omega arith))

pub returns-in-4 : goal.returns-in-4
returns-in-4 c =
    let s = c.args.s.now in
    loaded s _ (bytes s c.type_inv.s) (omega arith) (c.load_4-in-4.ensures ∙ ap word_le (take_all 4 s (omega arith)))

pub returns-in-3 : goal.returns-in-3
returns-in-3 c =
    let s = c.args.s.now in
    let rest = take (length s - 1) (drop 1 s) in
    let high = c.from_le_bytes.ensures ∙ ap (from_le_bytes w16) c.chunk.ensures ∙ word_of 1 rest (omega (arith, length-take (length s - 1) (drop 1 s), length-drop 1 s)) in
    loaded_parts s 1 2 1 _ _ (bytes s c.type_inv.s) (omega arith) (omega arith) (omega arith) high (word_sum 0 s (omega arith))

pub returns-in-2 : goal.returns-in-2
returns-in-2 c =
    let s = c.args.s.now in
    let word = c.from_le_bytes-in-2.ensures ∙ ap (from_le_bytes w16) c.chunk-in-2.ensures ∙ word_of 1 s (omega arith) in
    loaded s _ (bytes s c.type_inv.s) (omega arith) (word ∙ ap word_le (take_all 2 s (omega arith)))

pub returns-in-1 : goal.returns-in-1
returns-in-1 c =
    let s = c.args.s.now in
    loaded s _ (bytes s c.type_inv.s) (omega arith) (word_sum 0 s (omega arith) ∙ ap word_le (take_all 1 s (omega arith)))

pub returns-in_default : goal.returns-in_default
unfolding word_le
returns-in_default c =
    let s = c.args.s.now in
    let none : s ≡ [] = drop_all 0 s (omega arith) in
    loaded s 0 (bytes s c.type_inv.s) (omega arith) (sym (ap word_le none))
