-- The steps of a reader that goes byte by byte.
use Rattle.std.proofs.Common.{◌≡◌, ℕ, ◌+◌, ◌*◌, ◌<◌, ◌≤◌, true, eqb, leb, List, map, length, get_or, take, drop, pos, sym, ap, ◌∙◌, subst, arith, eq-eqb, ne_eqb, le-leb}
use borrow.Author.Tests.{lt-leb}
use lib.Bits.{bit_and, and_mask}
use Rattle.std.specs.Char.{is_ascii_digit}
use Rattle.std.specs.Int.Digits.{number_from_digits}
use Rattle.std.proofs.lemmas.Int.Digits.{number_push}
use Rattle.std.proofs.lemmas.List.{map_more}
use Rattle.std.proofs.lemmas.Bool.{cond-true, cond-false}
use Rattle.std.proofs.lemmas.List.Sums.{prefix_len-drop_yes}
use Rattle.atoi_simd.specs.Answer.{ok, empty, overflow}
use Rattle.words.specs.Bytes.{digit_of, value_of}
use Rattle.atoi_simd.specs.Digits.{run, value}
use Rattle.atoi_simd.specs.Calls.{any_length}
use Rattle.atoi_simd.proofs.Runs.{value_grows}

-- the byte of a digit
pub is_digit : (b : ℕ) → 48 ≤ b → b ≤ 57 → is_ascii_digit b ≡ true
is_digit b h k = grind arith

pub digit_and : (b : ℕ) → is_ascii_digit b ≡ true → bit_and b 15 ≡ digit_of b
digit_and b d =
    let low : 48 ≤ b = grind arith in
    let high : b ≤ 57 = grind arith in
    and_mask b 4 ∙ omega arith

value_step : (bs : List ℕ) (i : ℕ) → i < length bs → value_of (i + 1) bs ≡ value_of i bs * 10 + digit_of (get_or bs i 0)
value_step bs i h = ap (number_from_digits 10) (map_more digit_of bs i 0 h) ∙ number_push 10 (map digit_of (take i bs)) (digit_of (get_or bs i 0))

pub any_empty : (max : ℕ) (bs : List ℕ) → run bs ≡ 0 → any_length max bs ≡ empty
any_empty max bs e = cond-true (eqb (run bs) 0) _ _ (eq-eqb (run bs) 0 e)

pub any_ok : (max : ℕ) (bs : List ℕ) → 0 < run bs → value bs ≤ max → any_length max bs ≡ ok (pos (value bs)) (run bs)
any_ok max bs h k =
    cond-false (eqb (run bs) 0) _ _ (ne_eqb (run bs) 0 (λ z. omega arith)) ∙ cond-true (leb (value bs) max) _ _ (le-leb (value bs) max k)

any_over : (max : ℕ) (bs : List ℕ) → 0 < run bs → max < value bs → any_length max bs ≡ overflow bs
any_over max bs h k =
    cond-false (eqb (run bs) 0) _ _ (ne_eqb (run bs) 0 (λ z. omega arith)) ∙ cond-false (leb (value bs) max) _ _ (lt-leb (value bs) max k)

-- the first i bytes are digits, i is at least 1, and res is their value, at most max
pub record Sofar (max : ℕ) (bs : List ℕ) (i res : ℕ) : Type 0 where
  pub some : 1 ≤ i
  pub within : i ≤ length bs
  pub split : run bs ≡ i + run (drop i bs)
  pub val : res ≡ value_of i bs
  pub low : res ≤ max

pub more : (max : ℕ) (bs : List ℕ) (i res : ℕ) → Sofar max bs i res → i < length bs → is_ascii_digit (get_or bs i 0) ≡ true →
    res * 10 + digit_of (get_or bs i 0) ≤ max → Sofar max bs (i + 1) (res * 10 + digit_of (get_or bs i 0))
more max bs i res s h d low = record {
  some = omega arith;
  within = omega arith;
  split = s.split ∙ omega (arith, prefix_len-drop_yes is_ascii_digit bs i 0 h d);
  val = ap (λ v. v * 10 + digit_of (get_or bs i 0)) s.val ∙ sym (value_step bs i h);
  low = low;
}

pub over : (max : ℕ) (bs : List ℕ) (i res : ℕ) → Sofar max bs i res → i < length bs → is_ascii_digit (get_or bs i 0) ≡ true →
    max < res * 10 + digit_of (get_or bs i 0) → overflow bs ≡ any_length max bs
over max bs i res s h d high =
    let step : run (drop i bs) ≡ 1 + run (drop (i + 1) bs) = prefix_len-drop_yes is_ascii_digit bs i 0 h d in
    let all : run bs ≡ (i + 1) + run (drop (i + 1) bs) = omega (arith, s.split, step) in
    let grow : value_of (i + 1) bs ≤ value bs = subst (λ n. value_of (i + 1) bs ≤ value_of n bs) (sym all) (value_grows bs (i + 1) (run (drop (i + 1) bs))) in
    let same : res * 10 + digit_of (get_or bs i 0) ≡ value_of (i + 1) bs = ap (λ v. v * 10 + digit_of (get_or bs i 0)) s.val ∙ sym (value_step bs i h) in
    sym (any_over max bs (omega arith) (omega arith))
