-- What a line reads as is a record of its section's kind.
use Rattle.std.proofs.Common.{◌≡◌, ℕ, Bool, true, false, cond, not, ltb, List, [], ◌∷◌, length, drop, ℤ, sym, refl, ap, ◌∙◌, subst}
use Rattle.std.specs.List.{AllByRecursion}
use Rattle.std.specs.Str.{bytes_eq}
use Rattle.std.proofs.lemmas.Bool.{and_from, not-false}
use Rattle.atoi_simd.specs.Answer.{Answer, ok, empty, size, overflow, invalid}
use Rattle.records.specs.FieldType.{FieldType, Regular, holds, reads}
use Rattle.records.specs.Kind.{Kind, IsRecord, Lawful, fit_all}
use Rattle.records.specs.Line.{Numeral, past_spaces, placed, stops, stopped, number_at, next, read_numbers, read_behind, word_end, word_of, Section, first, second, InSection, read_in}
use Rattle.records.specs.Outcome.{plain, got, refused}
use Rattle.model.specs.History.{Layout, kind, reading}
use Rattle.model.proofs.Numerals.{read_fits}
use Rattle.model.proofs.Outcomes.{got_same, got_refused, refuse_got, then_got}

placed_got : (at : ℕ) (a : Answer) (n : Numeral) → placed at a ≡ got n → (k : ℕ) × (a ≡ ok n.value k)
placed_got at (ok v k) n e = (k, ap (λ m. ok m.value k) (got_same (placed at (ok v k)) _ n refl e))
placed_got at empty n e = absurd (got_refused _ n _ e refl)
placed_got at (size k p) n e = absurd (got_refused _ n _ e refl)
placed_got at (overflow p) n e = absurd (got_refused _ n _ e refl)
placed_got at (invalid v k p) n e = absurd (got_refused _ n _ e refl)

next_fits : (t : FieldType) → Regular t → (line : List ℕ) (at : ℕ) (n : Numeral) → next t line at ≡ got n → holds t n.value ≡ true
next_fits t reg line at n e =
    let from = past_spaces line at in
    let a = then_got (number_at t line from) (stopped line) n e in
    let b = refuse_got (not (stops (drop a.0.behind line))) (plain 15 a.0.behind) (got a.0) n a.2 in
    let c = placed_got from (reads t (drop from line)) a.0 a.1 in
    subst (λ m. holds t m.value ≡ true) (got_same (got a.0) a.0 n refl b.1)
    (read_fits t.numbers reg.whole (drop from line) a.0.value c.0 c.1)

numbers_fit : (ts : List FieldType) → AllByRecursion Regular ts → (line : List ℕ) (at : ℕ) (vs : List ℤ) → read_numbers ts line at ≡ got vs → fit_all ts vs ≡ true
numbers_fit [] regs line at vs e =
    let a = refuse_got (ltb at (length line)) (plain 16 at) (got []) vs e in
    ap (fit_all []) (got_same (got []) vs [] a.1 refl)
numbers_fit (t ∷ ts) regs line at vs e =
    let a = then_got (next t line at) _ vs e in
    let n = a.0 in
    let b = then_got (read_numbers ts line n.behind) (λ ws. got (n.value ∷ ws)) vs a.2 in
    ap (fit_all (t ∷ ts)) (got_same (got vs) vs (n.value ∷ b.0) refl (sym b.2))
    ∙ and_from (holds t n.value) (fit_all ts b.0) (next_fits t regs.0 line at n a.1)
    (numbers_fit ts regs.1 line n.behind b.0 b.1)

behind_is : (k : Kind) → Lawful k → (line : List ℕ) (at : ℕ) (vs : List ℤ) → read_behind k line at ≡ got vs → IsRecord k vs
behind_is k law line at vs e =
    let a = then_got (read_numbers k.types line at) _ vs e in
    let b = refuse_got (not (k.condition a.0)) (plain 17 0) (got a.0) vs a.2 in
    subst (IsRecord k) (got_same (got a.0) a.0 vs refl b.1)
    (record { fitting = numbers_fit k.types law.types_regular line at a.0 a.1; meets = not-false (k.condition a.0) b.0 })

in_section_is : (c : Layout) (s : Section) → Lawful (kind c s) → (line : List ℕ) (n : InSection) → read_in s (kind c s) line ≡ got n
    → IsRecord (kind c n.section) n.numbers
in_section_is c s law line n e =
    let a = then_got (read_behind (kind c s) line (word_end line)) _ n e in
    subst (λ m. IsRecord (kind c m.section) m.numbers) (got_same (got n) (record { section = s; numbers = a.0 }) n (sym a.2) refl)
    (behind_is (kind c s) law line (word_end line) a.0 a.1)

pub line_is : (c : Layout) → ((s : Section) → Lawful (kind c s)) → (line : List ℕ) (n : InSection) → reading c line ≡ got n
    → IsRecord (kind c n.section) n.numbers
line_is c laws line n e = go (bytes_eq (word_of line) c.kind₁.word) (bytes_eq (word_of line) c.kind₂.word) e
  where
    go : (p q : Bool) → cond p (read_in first c.kind₁ line) (cond q (read_in second c.kind₂ line) (refused (plain 11 0))) ≡ got n
        → IsRecord (kind c n.section) n.numbers
    go true q g = in_section_is c first (laws first) line n g
    go false true g = in_section_is c second (laws second) line n g
    go false false g = absurd (got_refused _ n (plain 11 0) g refl)
