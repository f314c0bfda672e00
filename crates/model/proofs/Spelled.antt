-- For each record a line of bytes that reads as it.
use Rattle.std.proofs.Common.{◌≡◌, ℕ, ◌+◌, ◌<◌, true, false, not, ltb, ◌≢◌, List, [], ◌∷◌, ◌++◌, length, take, drop, ℤ, sym, refl, ap, ◌∙◌, ⊎_elim, append_assoc, arith}
use Rattle.std.specs.Fmt.{signed_decimal}
use Rattle.std.specs.List.{prefix_len, AllByRecursion}
use Rattle.std.specs.Str.{bytes_eq}
use Rattle.std.proofs.ByRecursion.{All-append, All-weaker}
use Rattle.std.proofs.lemmas.Slice.Eq.{bytes_eq-Decides}
use Rattle.std.proofs.lemmas.List.{drop_at, drop-drop, length-append, take_at}
use Rattle.std.proofs.lemmas.Bool.{and_parts, cases_Bool, cond-false, cond-true, false≢true, le-ltb, ne_eqb, not_from_false, not_from_true}
use Rattle.records.specs.FieldType.{FieldType, Regular, holds, reads}
use Rattle.records.specs.Kind.{Kind, IsRecord, Lawful, WordByte, fit_all}
use Rattle.records.specs.Line.{is_space, past_spaces, placed, stops, stopped, number_at, next, read_numbers, read_behind, word_end, word_of, Section, first, second, read_in}
use Rattle.records.specs.Outcome.{plain, got}
use Rattle.model.specs.History.{Layout, kind, reading, named}
use Rattle.model.specs.Law.{Byte}
use Rattle.model.proofs.Numerals.{numeral_read, numeral_some, numeral_word}
use Rattle.model.proofs.Outcomes.{refuse_pass, then_pass}

-- ---- the numbers of a line

-- each number behind a space
abbrev spelled : List ℤ → List ℕ
spelled [] = []
spelled (v ∷ vs) = 32 ∷ (signed_decimal v ++ spelled vs)

spelled_stops : (vs : List ℤ) → stops (spelled vs) ≡ true
spelled_stops [] = refl
spelled_stops (v ∷ vs) = refl

word_first : (w rest : List ℕ) → 0 < length w → AllByRecursion WordByte w → prefix_len is_space (w ++ rest) ≡ 0
word_first [] rest some a = absurd (omega arith)
word_first (b ∷ w) rest some a = cond-false (is_space b) _ _ (ne_eqb b 32 a.0.1)

-- the line is what stands before the place, and the numbers from it on
numbers_read : (ts : List FieldType) → AllByRecursion Regular ts → (vs : List ℤ) (line before : List ℕ) (at : ℕ) → length before ≡ at
    → line ≡ before ++ spelled vs → fit_all ts vs ≡ true → read_numbers ts line at ≡ got vs
numbers_read [] regs [] line before at l e h =
    let len : length line ≡ at = ap length e ∙ length-append before [] ∙ omega arith in
    refuse_pass (ltb at (length line)) (plain 16 at) _ (le-ltb at (length line) (omega arith))
numbers_read [] regs (v ∷ vs) line before at l e h = absurd (false≢true h)
numbers_read (t ∷ ts) regs [] line before at l e h = absurd (false≢true h)
numbers_read (t ∷ ts) regs (v ∷ vs) line before at l e h =
    let p = and_parts (holds t v) (fit_all ts vs) h in
    let whole = regs.0.whole in
    let num = signed_decimal v in
    let here : drop at line ≡ 32 ∷ (num ++ spelled vs) = ap (drop at) e ∙ drop_at before (spelled (v ∷ vs)) at l in
    let from : past_spaces line at ≡ at + 1 =
    ap (λ bs. at + prefix_len is_space bs) here
    ∙ ap (λ n. at + (1 + n)) (word_first num (spelled vs) (numeral_some t.numbers whole v p.0) (numeral_word t.numbers whole v p.0)) in
    let rest : drop (at + 1) line ≡ num ++ spelled vs = sym (drop-drop 1 at line) ∙ ap (drop 1) here in
    let end = at + 1 + length num in
    let far : drop end line ≡ spelled vs =
    sym (drop-drop (length num) (at + 1) line) ∙ ap (drop (length num)) rest ∙ drop_at num (spelled vs) (length num) refl in
    let split : line ≡ (before ++ (32 ∷ num)) ++ spelled vs = e ∙ sym (append_assoc before (32 ∷ num) (spelled vs)) in
    let len : length (before ++ (32 ∷ num)) ≡ end = length-append before (32 ∷ num) ∙ omega arith in
    let ih = numbers_read ts regs.1 vs line (before ++ (32 ∷ num)) end len split p.1 in
    let read : number_at t line (past_spaces line at) ≡ got (record { value = v; behind = end }) =
    ap (number_at t line) from
    ∙ ap (λ bs. placed (at + 1) (reads t bs)) rest
    ∙ ap (placed (at + 1)) (numeral_read t.numbers whole v (spelled vs) p.0 (spelled_stops vs)) in
    let one : next t line at ≡ got (record { value = v; behind = end }) =
    then_pass (number_at t line (past_spaces line at)) (stopped line) (record { value = v; behind = end }) read
    ∙ refuse_pass (not (stops (drop end line))) (plain 15 end) _ (not_from_true (stops (drop end line)) (ap stops far ∙ spelled_stops vs)) in
    then_pass (next t line at) _ (record { value = v; behind = end }) one
    ∙ then_pass (read_numbers ts line end) (λ ws. got (v ∷ ws)) vs ih

-- ---- the line

abbrev pub line_of : Kind → List ℤ → List ℕ
line_of k r = k.word ++ spelled r

word_end_spelled : (w rest : List ℕ) → AllByRecursion WordByte w → stops rest ≡ true → word_end (w ++ rest) ≡ length w
word_end_spelled [] [] a s = refl
word_end_spelled [] (b ∷ rest) a s = cond-false (not (is_space b)) _ _ (not_from_true (is_space b) s)
word_end_spelled (c ∷ w) rest a s =
    cond-true (not (is_space c)) _ _ (not_from_false (is_space c) (ne_eqb c 32 a.0.1)) ∙ ap (λ n. 1 + n) (word_end_spelled w rest a.1 s) ∙ omega arith

module _ (k : Kind) (law : Lawful k) (r : List ℤ) where
  end_is : word_end (line_of k r) ≡ length k.word
  end_is = word_end_spelled k.word (spelled r) law.word_bytes (spelled_stops r)

  word_is : word_of (line_of k r) ≡ k.word
  word_is = ap (λ n. take n (line_of k r)) end_is ∙ take_at k.word (spelled r) (length k.word) refl

  begins : bytes_eq (word_of (line_of k r)) k.word ≡ true
  begins = (bytes_eq-Decides (word_of (line_of k r)) k.word).1 word_is

  begins_other : (w : List ℕ) → k.word ≢ w → bytes_eq (word_of (line_of k r)) w ≡ false
  begins_other w ne =
      ⊎_elim (λ e. absurd (ne (sym word_is ∙ (bytes_eq-Decides (word_of (line_of k r)) w).0 e))) (λ e. e) (cases_Bool (bytes_eq (word_of (line_of k r)) w))

  in_section : (s : Section) → IsRecord k r → read_in s k (line_of k r) ≡ named s r
  in_section s is =
      let line = line_of k r in
      let one = numbers_read k.types law.types_regular r line k.word (word_end line) (sym end_is) refl is.fitting in
      let two : read_behind k line (word_end line) ≡ got r =
      then_pass (read_numbers k.types line (word_end line)) _ r one
      ∙ refuse_pass (not (k.condition r)) (plain 17 0) _ (not_from_true (k.condition r) is.meets) in
      then_pass (read_behind k line (word_end line)) _ r two

pub line_read : (c : Layout) → ((s : Section) → Lawful (kind c s)) → c.kind₁.word ≢ c.kind₂.word → (s : Section) (r : List ℤ)
    → IsRecord (kind c s) r → reading c (line_of (kind c s) r) ≡ named s r
line_read c laws apart first r is = cond-true _ _ _ (begins c.kind₁ (laws first) r) ∙ in_section c.kind₁ (laws first) r first is
line_read c laws apart second r is =
    cond-false _ _ _ (begins_other c.kind₂ (laws second) r c.kind₁.word (λ e. apart (sym e)))
    ∙ cond-true _ _ _ (begins c.kind₂ (laws second) r) ∙ in_section c.kind₂ (laws second) r second is

-- ---- the line is bytes

word_is_bytes : (w : List ℕ) → AllByRecursion WordByte w → AllByRecursion Byte w
word_is_bytes w a = All-weaker WordByte Byte (λ b p. p.0) w a

spelled_bytes : (ts : List FieldType) (vs : List ℤ) → AllByRecursion Regular ts → fit_all ts vs ≡ true → AllByRecursion Byte (spelled vs)
spelled_bytes [] [] regs h = tt
spelled_bytes [] (v ∷ vs) regs h = absurd (false≢true h)
spelled_bytes (t ∷ ts) [] regs h = absurd (false≢true h)
spelled_bytes (t ∷ ts) (v ∷ vs) regs h =
    let p = and_parts (holds t v) (fit_all ts vs) h in
    let num : AllByRecursion Byte (signed_decimal v) = word_is_bytes (signed_decimal v) (numeral_word t.numbers regs.0.whole v p.0) in
    (omega arith, All-append Byte (signed_decimal v) (spelled vs) num (spelled_bytes ts vs regs.1 p.1))

pub line_bytes : (k : Kind) → Lawful k → (r : List ℤ) → IsRecord k r → AllByRecursion Byte (line_of k r)
line_bytes k law r is =
    All-append Byte k.word (spelled r) (word_is_bytes k.word law.word_bytes) (spelled_bytes k.types r law.types_regular is.fitting)
