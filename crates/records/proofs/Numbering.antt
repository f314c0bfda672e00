-- The next number of a line, step by step.
use Rattle.std.proofs.Common.{◌≡◌, ℕ, ◌+◌, ◌≤◌, true, List, length, drop, ℤ, Err, Result, sym, ap, ◌∙◌, subst}
use Rattle.std.specs.List.{prefix_len}
use Rattle.atoi_simd.specs.Answer.{Answer, ok, empty, size, overflow, invalid, fault_of, prefix_by}
use Rattle.atoi_simd.specs.declared.error.AtoiSimdError.{AtoiSimdError}
use Rattle.atoi_simd.proofs.Sound.{Within, prefix_within}
use Rattle.records.specs.FieldType.{FieldType, reads}
use Rattle.records.specs.Line.{is_space, stopped, number_at, next}
use Rattle.records.specs.Meaning.{Prefixed}
use Rattle.records.specs.Outcome.{and_then}

-- no more bytes are read than there are
pub read_within : (t : FieldType) (bs : List ℕ) (v : ℤ) (n : ℕ) → ok v n ≡ reads t bs → n ≤ length bs
read_within t bs v n e = let P : Answer → Type 0 = λ a. Within (length bs) a in subst P (sym e) (prefix_within t.numbers true true bs)

-- a prefix call gives no fault but the three that a number has
pub prefixed : {V : Type 0} (number : V → ℤ) (t : FieldType) (bs : List ℕ) (r : Result (V × ℕ) AtoiSimdError) (e : AtoiSimdError)
    → prefix_by number r ≡ reads t bs → r ≡ Err e → Prefixed (fault_of e)
prefixed number t bs r e is f =
    let P : Answer → Type 0 = λ a. Within (length bs) a in
    only (length bs) (fault_of e) (subst P (sym is ∙ ap (prefix_by number) f) (prefix_within t.numbers true true bs))
  where
    only : (n : ℕ) (a : Answer) → Within n a → Prefixed a
    only n (ok v k) s = tt
    only n empty s = tt
    only n (size k p) s = tt
    only n (overflow p) s = tt
    only n (invalid v k p) s = s

-- the number is read from the first place behind the spaces
pub next_from : (t : FieldType) (line : List ℕ) (at spaces : ℕ) → spaces ≡ prefix_len is_space (drop at line) → next t line at ≡ and_then (number_at t line (at + spaces)) (stopped line)
next_from t line at spaces e = ap (λ n. and_then (number_at t line (at + n)) (stopped line)) (sym e)
