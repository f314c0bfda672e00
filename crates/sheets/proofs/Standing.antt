-- The records of a sheet by their places in its bytes.
use Rattle.std.proofs.Common.{◌≡◌, ℕ, zero, suc, ◌+◌, ◌-◌, ◌*◌, ◌<◌, ◌≤◌, ◌^◌, min, Bool, true, false, cond, ◌&&◌, eqb, ltb, List, [], ◌∷◌, length, drop, ℤ, Some, None, sym, refl, ap, ◌∙◌, subst, ⊎_elim, arith}
use Rattle.std.proofs.lemmas.Bool.{lt-ltb, le-ltb, eq-eqb, ne_eqb, and_from, and_left, and_right, cond-true, cond-false, cases_eq, cases_lt}
use Rattle.records.specs.Kind.{Kind}
use Rattle.records.specs.Line.{InSection, Section, first, second}
use Rattle.records.specs.Outcome.{plain, Outcome, got, refused, and_then}
use Rattle.records.specs.Payload.{payload_size, record_of}
use Rattle.model.specs.History.{named}
use Rattle.model.specs.Reading.{behind, Both, counts, read_sheet, nth, record_at}
use Rattle.sheets.specs.Handed.{mapped, found, standing, record_in}
use Rattle.model.proofs.Live.{first_not_second}
use Rattle.model.proofs.Outcomes.{got_same, got_refused, then_got, then_pass}
use Rattle.sheets.proofs.Outcomes.{mapped_got}
use Rattle.sheets.proofs.Reading.{Frame, sheet_read}
use Rattle.sheets.proofs.Records.{numbers_at, record_found}
use Rattle.sheets.proofs.Sizes.{record_within}

module _ (s : Section) (k : Kind) (bytes : List ℕ) (from i : ℕ) where
  standing_short : length bytes < from + i * payload_size k.types + payload_size k.types → standing s k bytes from i ≡ refused (plain 28 0)
  standing_short h = let t : ltb (length bytes) (from + i * payload_size k.types + payload_size k.types) ≡ true = lt-ltb _ _ h in rw t refl

  standing_whole : from + i * payload_size k.types + payload_size k.types ≤ length bytes → standing s k bytes from i ≡ found s (record_of k (drop (from + i * payload_size k.types) bytes))
  standing_whole h = let t : ltb (length bytes) (from + i * payload_size k.types + payload_size k.types) ≡ false = le-ltb _ _ h in rw t refl

-- a place that is cut off at the greatest `usize` is past the bytes as well
standing_saturated : (s : Section) (k : Kind) (bytes : List ℕ) (from far i : ℕ) → from ≡ min far (2 ^ 64 - 1) → length bytes < 2 ^ 63
    → standing s k bytes from i ≡ standing s k bytes far i
standing_saturated s k bytes from far i e few =
    ⊎_elim
    (λ h. ap (λ q. standing s k bytes q i) (omega arith))
    (λ h. standing_short s k bytes from i (omega arith) ∙ sym (standing_short s k bytes far i (omega arith)))
    (cases_lt far (2 ^ 63))

-- ---- what is asked for

module _ (a b : Kind) (bytes : List ℕ) (m n asked i : ℕ) where
  pub in_first : {o : Outcome InSection} → asked ≡ 1 → i < m → o ≡ standing first a bytes 6 i → o ≡ record_in a b bytes m n asked i
  in_first is h e = e ∙ sym (cond-true (eqb asked 1 && ltb i m) _ _ (and_from _ _ (eq-eqb asked 1 is) (lt-ltb i m h)))

  pub in_second : {o : Outcome InSection} (from : ℕ) → asked ≡ 2 → i < n → from ≡ min (12 + m * payload_size a.types) (2 ^ 64 - 1) → length bytes < 2 ^ 63
      → o ≡ standing second b bytes from i → o ≡ record_in a b bytes m n asked i
  in_second from is h place few e =
      e
      ∙ standing_saturated second b bytes from (12 + m * payload_size a.types) i place few
      ∙ sym (cond-false (eqb asked 1 && ltb i m) _ _ (and_left _ _ (ne_eqb asked 1 (λ e. omega arith)))
      ∙ cond-true (eqb asked 2 && ltb i n) _ _ (and_from _ _ (eq-eqb asked 2 is) (lt-ltb i n h)))

  pub in_neither : (asked ≡ 1 → m ≤ i) → (asked ≡ 2 → n ≤ i) → refused (plain 28 0) ≡ record_in a b bytes m n asked i
  in_neither f g = sym (cond-false (eqb asked 1 && ltb i m) _ _ (past 1 m f) ∙ cond-false (eqb asked 2 && ltb i n) _ _ (past 2 n g))
    where
      past : (q l : ℕ) → (asked ≡ q → l ≤ i) → (eqb asked q && ltb i l) ≡ false
      past q l h = ⊎_elim (λ e. and_right (eqb asked q) (ltb i l) (le-ltb i l (h e))) (λ ne. and_left (eqb asked q) (ltb i l) (ne_eqb asked q ne)) (cases_eq asked q)

-- ---- in a sheet that was read

nth_past : (xs : List (List ℤ)) (i : ℕ) → length xs ≤ i → nth xs i ≡ refused (plain 28 0)
nth_past [] i h = refl
nth_past (x ∷ xs) zero h = absurd (omega arith)
nth_past (x ∷ xs) (suc i) h = nth_past xs i (omega arith)

module _ (s : Section) (k : Kind) (bytes : List ℕ) (at : ℕ) (xs : List (List ℤ)) (read : Frame k bytes at xs) where
  -- record i of a frame
  standing_nth : (from i : ℕ) → from ≡ at + 6 → i < length xs → standing s k bytes from i ≡ and_then (nth xs i) (named s)
  standing_nth from i e h =
      let size = payload_size k.types in
      let p = record_found k bytes (length xs) (at + 6) None xs i read.records h in
      let to : from + i * payload_size k.types ≡ at + 6 + i * payload_size k.types = ap (λ q. q + i * size) e in
      let end = read.end in
      let room = read.room in
      let ns = numbers_at k bytes (at + 6 + i * size) in
      standing_whole s k bytes from i (omega (arith, record_within i (length xs) (payload_size k.types) h))
      ∙ ap (λ q. found s (record_of k (drop q bytes))) to
      ∙ ap (found s) (cond-true (k.condition ns) (Some ns) None p.1)
      ∙ sym (ap (λ o. and_then o (named s)) p.0)

  section_nth : (from i : ℕ) → from ≡ at + 6 → cond (ltb i (length xs)) (standing s k bytes from i) (refused (plain 28 0)) ≡ and_then (nth xs i) (named s)
  section_nth from i e =
      ⊎_elim
      (λ h. cond-true (ltb i (length xs)) _ _ (lt-ltb i (length xs) h) ∙ standing_nth from i e h)
      (λ h. cond-false (ltb i (length xs)) _ _ (le-ltb i (length xs) h) ∙ sym (ap (λ o. and_then o (named s)) (nth_past xs i h)))
      (cases_lt i (length xs))

pub record_checked : (a b : Kind) (bytes : List ℕ) (m n asked i : ℕ) (o : Outcome InSection) → o ≡ record_in a b bytes m n asked i
    → (both : Both) → read_sheet a b bytes ≡ got both → counts both ≡ (m, n) → o ≡ record_at both asked i
record_checked a b bytes m n asked i o is both e c =
    is ∙ subst (λ q. record_in a b bytes q.0 q.1 asked i ≡ record_at both asked i) c (⊎_elim first_of (λ not-1. ⊎_elim second_of (none_of not-1) (cases_eq asked 2)) (cases_eq asked 1))
  where
    first_of : asked ≡ 1 → record_in a b bytes (length both.in₁) (length both.in₂) asked i ≡ record_at both asked i
    first_of is =
        subst (λ q. record_in a b bytes (length both.in₁) (length both.in₂) q i ≡ record_at both q i) (sym is)
        (section_nth first a bytes 0 both.in₁ (sheet_read a b bytes both e).first 6 i refl)

    second_of : asked ≡ 2 → record_in a b bytes (length both.in₁) (length both.in₂) asked i ≡ record_at both asked i
    second_of is =
        subst (λ q. record_in a b bytes (length both.in₁) (length both.in₂) q i ≡ record_at both q i) (sym is)
        (section_nth second b bytes (behind bytes 0) both.in₂ (sheet_read a b bytes both e).second (12 + length both.in₁ * payload_size a.types) i
        (omega (arith, (sheet_read a b bytes both e).first.end)))

    none_of : (asked ≡ 1 → ⊥) → (asked ≡ 2 → ⊥) → record_in a b bytes (length both.in₁) (length both.in₂) asked i ≡ record_at both asked i
    none_of not-1 not-2 =
        let f : eqb asked 1 ≡ false = ne_eqb asked 1 not-1 in
        let g : eqb asked 2 ≡ false = ne_eqb asked 2 not-2 in
        rw (f, g) refl

-- what is handed out of a sheet that was read, where the stored counts are its own
pub handed : (a b : Kind) (bytes : List ℕ) (m n asked i : ℕ) (o : Outcome InSection) → mapped counts (read_sheet a b bytes) ≡ got (m, n)
    → ((both : Both) → read_sheet a b bytes ≡ got both → counts both ≡ (m, n) → o ≡ record_at both asked i)
    → o ≡ and_then (read_sheet a b bytes) (λ both. record_at both asked i)
handed a b bytes m n asked i o checked f =
    let p = mapped_got counts (read_sheet a b bytes) (m, n) (sym checked) in
    f p.0 p.1 p.2 ∙ sym (then_pass (read_sheet a b bytes) (λ both. record_at both asked i) p.0 p.1)

-- a record that is handed out of the second section meets its condition
module _ (a b : Kind) (bytes : List ℕ) (asked i : ℕ) (r : List ℤ) where
  met : (both : Both) → read_sheet a b bytes ≡ got both → record_at both asked i ≡ named second r → b.condition r ≡ true
  met both read e = go (eqb asked 1) (eqb asked 2) e
    where
      in₂_met : (x : List ℤ) → nth both.in₂ i ≡ got x → b.condition x ≡ true
      in₂_met x is =
          let frame = (sheet_read a b bytes both read).second in
          ⊎_elim
          (λ h.
          let p = record_found b bytes (length both.in₂) (behind bytes 0 + 6) None both.in₂ i frame.records h in
          subst (λ q. b.condition q ≡ true) (got_same (nth both.in₂ i) _ _ p.0 is) p.1)
          (λ h. absurd (got_refused (nth both.in₂ i) x (plain 28 0) is (nth_past both.in₂ i h)))
          (cases_lt i (length both.in₂))

      go : (t u : Bool) → cond t (and_then (nth both.in₁ i) (named first)) (cond u (and_then (nth both.in₂ i) (named second)) (refused (plain 28 0))) ≡ named second r
          → b.condition r ≡ true
      go true u f =
          let p = then_got (nth both.in₁ i) (named first) (record { section = second; numbers = r }) f in
          absurd (first_not_second (ap (λ n. n.section) (got_same (named first p.0) _ _ refl p.2)))
      go false true f =
          let p = then_got (nth both.in₂ i) (named second) (record { section = second; numbers = r }) f in
          subst (λ q. b.condition q ≡ true) (ap (λ n. n.numbers) (got_same (named second p.0) _ _ refl p.2)) (in₂_met p.0 p.1)
      go false false f = absurd (got_refused (refused (plain 28 0)) (record { section = second; numbers = r }) (plain 28 0) f refl)

  pub second_meets : named second r ≡ and_then (read_sheet a b bytes) (λ both. record_at both asked i) → b.condition r ≡ true
  second_meets e =
      let p = then_got (read_sheet a b bytes) (λ both. record_at both asked i) (record { section = second; numbers = r }) (sym e) in
      met p.0 p.1 p.2
