-- Records read one after another.
use Rattle.std.proofs.Common.{◌≡◌, ℕ, zero, suc, ◌+◌, ◌-◌, ◌*◌, ◌<◌, Bool, true, false, cond, not, List, [], ◌∷◌, length, drop, ℤ, Some, None, Option, sym, refl, ap, ◌∙◌, ap₂, suc-mul, arith}
use Rattle.std.proofs.lemmas.Bool.{not-false}
use Rattle.records.specs.Kind.{Kind}
use Rattle.records.specs.Outcome.{plain, got, and_then}
use Rattle.records.specs.Payload.{payload_size, numbers_of, record_of}
use Rattle.model.specs.Reading.{after, read_records, nth}
use Rattle.sheets.specs.Handed.{mapped}
use Rattle.model.proofs.Outcomes.{refuse_got, then_got}
use Rattle.sheets.proofs.Outcomes.{mapped_same, mapped_then}
use Rattle.sheets.proofs.Sizes.{one_more}

-- the numbers that stand at the place
abbrev pub numbers_at : Kind → List ℕ → ℕ → List ℤ
numbers_at k bytes at = numbers_of k.types (drop at bytes)

-- ---- one record

a_record : (k : Kind) (bs : List ℕ) (r : List ℤ) → Some r ≡ record_of k bs → (k.condition (numbers_of k.types bs) ≡ true) × (r ≡ numbers_of k.types bs)
a_record k bs r e = go (k.condition (numbers_of k.types bs)) refl e
  where
    go : (b : Bool) → k.condition (numbers_of k.types bs) ≡ b → Some r ≡ cond b (Some (numbers_of k.types bs)) None
        → (k.condition (numbers_of k.types bs) ≡ true) × (r ≡ numbers_of k.types bs)
    go true is e = (is, cc)
    go false is e = let z : ◌≡◌ {A = ℕ} 0 1 = cc in absurd (omega arith)

-- ---- after i records of n

-- i records and those to come
abbrev more : ℕ → List (List ℤ) → ℕ
more i rs = i + length rs

module _ (k : Kind) (bytes : List ℕ) (n at i : ℕ) (last : Option (List ℤ)) where
  -- the whole reading comes to what the rest of it comes to
  abbrev pub Left : Type 0
  Left = mapped length (read_records k bytes n at None) ≡ mapped (more i) (read_records k bytes (n - i) (at + i * payload_size k.types) last)

  -- the next record, read where size bytes are taken for each
  module _ (inv : Left) (in-range : i < n) (size : ℕ) (wide : size ≡ payload_size k.types) (bs : List ℕ) (from : bs ≡ drop (at + i * size) bytes) where
    place : at + i * payload_size k.types ≡ at + i * size
    place = ap (λ w. at + i * w) (sym wide)

    here : numbers_of k.types bs ≡ numbers_at k bytes (at + i * size)
    here = ap (numbers_of k.types) from

    stepped : mapped length (read_records k bytes n at None) ≡ mapped (more i) (read_records k bytes (suc (n - (i + 1))) (at + i * size) last)
    stepped =
        let one : n - i ≡ suc (n - (i + 1)) = omega arith in
        inv ∙ ap₂ (λ q p. mapped (more i) (read_records k bytes q p last)) one place

    module _ (r : List ℤ) (some : Some r ≡ record_of k bs) (late : Bool) (is-late : late ≡ after k last r) where
      is : r ≡ numbers_at k bytes (at + i * size)
      is = (a_record k bs r some).1 ∙ here

      met : k.condition (numbers_at k bytes (at + i * size)) ≡ true
      met = ap k.condition (sym here) ∙ (a_record k bs r some).0

      order : after k last (numbers_at k bytes (at + i * size)) ≡ late
      order = ap (after k last) (sym is) ∙ sym is-late

      pub record_read : late ≡ true
          → mapped length (read_records k bytes n at None) ≡ mapped (more (i + 1)) (read_records k bytes (n - (i + 1)) (at + (i + 1) * payload_size k.types) (Some r))
      record_read e =
          let x = numbers_at k bytes (at + i * size) in
          let on-time = order ∙ e in
          let rest = read_records k bytes (n - (i + 1)) (at + i * size + payload_size k.types) (Some x) in
          let step : mapped (more i) (read_records k bytes (suc (n - (i + 1))) (at + i * size) last) ≡ mapped (more i) (and_then rest (λ rs. got (x ∷ rs))) =
          rw (met, on-time) refl in
          let on : at + i * size + payload_size k.types ≡ at + (i + 1) * payload_size k.types = omega (arith, one_more i (payload_size k.types), place) in
          stepped ∙ step ∙ mapped_then (more i) (λ rs. x ∷ rs) rest
          ∙ mapped_same (λ rs. more i (x ∷ rs)) (more (i + 1)) (λ rs. omega arith) rest
          ∙ ap₂ (λ p y. mapped (more (i + 1)) (read_records k bytes (n - (i + 1)) p (Some y))) on (sym is)

-- ---- records that were read

module _ (k : Kind) (bytes : List ℕ) where
  -- the first record met the condition, and the others were read behind it
  record Behind (n at : ℕ) (xs : List (List ℤ)) : Type 0 where
    met : k.condition (numbers_at k bytes at) ≡ true
    others : List (List ℤ)
    are : xs ≡ numbers_at k bytes at ∷ others
    read : read_records k bytes n (at + payload_size k.types) (Some (numbers_at k bytes at)) ≡ got others

  first_read : (n at : ℕ) (last : Option (List ℤ)) (xs : List (List ℤ)) → read_records k bytes (suc n) at last ≡ got xs → Behind n at xs
  first_read n at last xs e =
      let r = numbers_at k bytes at in
      let a = refuse_got (not (k.condition r)) (plain 25 at) _ xs e in
      let b = refuse_got (not (after k last r)) (plain 26 at) _ xs a.1 in
      let c = then_got (read_records k bytes n (at + payload_size k.types) (Some r)) (λ rs. got (r ∷ rs)) xs b.1 in
      record { met = not-false _ a.0; others = c.0; are = cc c.2; read = c.1 }

  pub records_count : (n at : ℕ) (last : Option (List ℤ)) (xs : List (List ℤ)) → read_records k bytes n at last ≡ got xs → length xs ≡ n
  records_count zero at last xs e = let is : xs ≡ [] = cc in ap length is
  records_count (suc n) at last xs e =
      let b = first_read n at last xs e in
      ap length b.are ∙ ap suc (records_count n (at + payload_size k.types) _ b.others b.read)

  -- record i stands at its place, and meets the condition
  pub record_found : (n at : ℕ) (last : Option (List ℤ)) (xs : List (List ℤ)) (i : ℕ) → read_records k bytes n at last ≡ got xs → i < n
      → (nth xs i ≡ got (numbers_at k bytes (at + i * payload_size k.types))) × (k.condition (numbers_at k bytes (at + i * payload_size k.types)) ≡ true)
  record_found zero at last xs i e h = absurd (omega arith)
  record_found (suc n) at last xs zero e h =
      let b = first_read n at last xs e in
      let p : at ≡ at + 0 * payload_size k.types = omega arith in
      (ap (λ ys. nth ys 0) b.are ∙ ap (λ a. got (numbers_at k bytes a)) p, ap (λ a. k.condition (numbers_at k bytes a)) (sym p) ∙ b.met)
  record_found (suc n) at last xs (suc i) e h =
      let size = payload_size k.types in
      let b = first_read n at last xs e in
      let p : at + payload_size k.types + i * payload_size k.types ≡ at + suc i * payload_size k.types = rw suc-mul (omega arith) in
      let r = record_found n (at + size) _ b.others i b.read (omega arith) in
      (ap (λ ys. nth ys (suc i)) b.are ∙ r.0 ∙ ap (λ a. got (numbers_at k bytes a)) p, ap (λ a. k.condition (numbers_at k bytes a)) (sym p) ∙ r.1)
