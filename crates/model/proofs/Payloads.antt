-- Payloads of records, one after another: written and read back, and read and written back.
use Rattle.std.proofs.Common.{◌≡◌, ℕ, zero, suc, ◌+◌, ◌-◌, ◌*◌, ◌^◌, ◌<◌, ◌≤◌, Bool, true, false, not, leb, List, [], ◌∷◌, ◌++◌, length, take, drop, ℤ, pos, negsuc, nat_abs, Some, Option, sym, refl, ap, ◌∙◌, subst, ap₂, append_assoc, mod-lt, suc-mul, arith}
use Rattle.std.specs.List.{AllByRecursion}
use Rattle.std.proofs.ByRecursion.{All-drop}
use Rattle.std.proofs.lemmas.List.{drop_at, drop-drop, length-append, length-drop, take-append-drop}
use Rattle.std.proofs.lemmas.Bool.{and_from, cond-false, cond-true, leb-false, leb-true, not-false}
use Rattle.words.specs.Bytes.{bytes_le, word_le, front}
use Rattle.words.proofs.Load.{word_bytes}
use Rattle.records.specs.FieldType.{FieldType, Regular, holds}
use Rattle.records.specs.Kind.{Kind, IsRecord, Lawful, fit_all}
use Rattle.records.specs.Outcome.{plain, got}
use Rattle.records.specs.Payload.{code, decode, payload, payload_size, numbers_of}
use Rattle.records.proofs.Payloads.{length-payload, low_word}
use Rattle.records.proofs.RoundTrip.{read_back}
use Rattle.model.specs.History.{Rising}
use Rattle.model.specs.Law.{Byte}
use Rattle.model.specs.Reading.{after, read_records}
use Rattle.model.specs.Sheet.{payloads}
use Rattle.model.proofs.Fitting.{pos_fits, neg_fits}
use Rattle.model.proofs.Orders.{before_all}
use Rattle.model.proofs.Outcomes.{got_same, refuse_got, then_got}

-- ---- one payload

front-take : (w : ℕ) (bs : List ℕ) → w ≤ length bs → front w bs ≡ take w bs
unfolding front
front-take zero bs h = refl
front-take (suc w) [] h = absurd (omega arith)
front-take (suc w) (b ∷ bs) h = ap (λ l. b ∷ l) (front-take w bs (omega arith))

-- the bytes of the word that bytes make
pub bytes_word : (w : ℕ) (bs : List ℕ) → AllByRecursion Byte bs → w ≤ length bs → bytes_le w (word_le (take w bs)) ≡ take w bs
bytes_word w bs all h = word_bytes w bs all ∙ front-take w bs h

word_below : (w : ℕ) (bs : List ℕ) → AllByRecursion Byte bs → 0 < 256 ^ w → word_le (take w bs) < 256 ^ w
word_below w bs all some =
    subst (λ n. n < 256 ^ w) (low_word w w (word_le (take w bs)) bs (omega arith) (word_bytes w bs all)) (mod-lt (word_le (take w bs)) some)

-- every code is that of a number that fits
code-decode : (t : FieldType) → Regular t → (n : ℕ) → n < 256 ^ t.width → (code t (decode t n) ≡ n) × (holds t (decode t n) ≡ true)
code-decode t reg n h = go (leb n (nat_abs t.numbers.greatest)) refl
  where
    go : (b : Bool) → leb n (nat_abs t.numbers.greatest) ≡ b → (code t (decode t n) ≡ n) × (holds t (decode t n) ≡ true)
    go true e =
        let d : decode t n ≡ pos n = cond-true (leb n (nat_abs t.numbers.greatest)) _ _ e in
        (ap (code t) d, ap (holds t) d ∙ pos_fits t.numbers reg.whole n (leb-true n (nat_abs t.numbers.greatest) e))
    go false e =
        let m = 256 ^ t.width - suc n in
        let d : decode t n ≡ negsuc m = cond-false (leb n (nat_abs t.numbers.greatest)) _ _ e in
        let codes = reg.codes in
        let over = leb-false n (nat_abs t.numbers.greatest) e in
        let back : 256 ^ t.width - suc (256 ^ t.width - suc n) ≡ n = omega arith in
        let near : suc (256 ^ t.width - suc n) ≤ nat_abs t.numbers.least = omega arith in
        (ap (code t) d ∙ back, ap (holds t) d ∙ neg_fits t.numbers reg.whole (suc m) near)

-- bytes that are long enough begin with a payload
pub numbers-payload : (ts : List FieldType) (bs : List ℕ) → AllByRecursion Regular ts → AllByRecursion Byte bs → payload_size ts ≤ length bs
    → (bs ≡ payload ts (numbers_of ts bs) ++ drop (payload_size ts) bs) × (fit_all ts (numbers_of ts bs) ≡ true)
numbers-payload [] bs regs all h = (refl, refl)
numbers-payload (t ∷ ts) bs regs all h =
    let w = t.width in
    let n = word_le (take w bs) in
    let codes = regs.0.codes in
    let here = code-decode t regs.0 n (word_below w bs all (omega arith)) in
    let ih = numbers-payload ts (drop w bs) regs.1 (All-drop Byte w bs all) (omega (arith, length-drop w bs)) in
    let far = drop (w + payload_size ts) bs in
    let first : bytes_le w (code t (decode t n)) ≡ take w bs = ap (bytes_le w) here.0 ∙ bytes_word w bs all (omega arith) in
    let later = payload ts (numbers_of ts (drop w bs)) in
    let rest : drop w bs ≡ later ++ far = ih.0 ∙ ap (λ l. later ++ l) (drop-drop (payload_size ts) w bs) in (
      sym (take-append-drop w bs) ∙ ap₂ (λ x y. x ++ y) (sym first) rest ∙ sym (append_assoc (bytes_le w (code t (decode t n))) later far),
      and_from (holds t (decode t n)) (fit_all ts (numbers_of ts (drop w bs))) here.1 ih.1,
    )

-- ---- one after another

pub length-payloads : (k : Kind) (xs : List (List ℤ)) → AllByRecursion (IsRecord k) xs → length (payloads k xs) ≡ length xs * payload_size k.types
length-payloads k [] rs = omega arith
length-payloads k (x ∷ xs) rs =
    let e = length-payload k.types x rs.0.fitting in
    let f = length-payloads k xs rs.1 in
    length-append (payload k.types x) (payloads k xs) ∙ rw suc-mul (omega arith)

-- rising records are read back where their payloads stand
pub records_read : (k : Kind) (bytes rest : List ℕ) (xs : List (List ℤ)) (at : ℕ) (last : Option (List ℤ)) → AllByRecursion Regular k.types
    → AllByRecursion (IsRecord k) xs → Rising k xs → AllByRecursion (λ y. after k last y ≡ true) xs → drop at bytes ≡ payloads k xs ++ rest
    → read_records k bytes (length xs) at last ≡ got xs
records_read k bytes rest [] at last regs rs up past e = refl
records_read k bytes rest (x ∷ xs) at last regs rs up past e =
    let ts = k.types in
    let w = payload_size ts in
    let more = payloads k xs ++ rest in
    let here : drop at bytes ≡ payload ts x ++ more = e ∙ append_assoc (payload ts x) (payloads k xs) rest in
    let is : numbers_of ts (drop at bytes) ≡ x = ap (numbers_of ts) here ∙ read_back ts x more regs rs.0.fitting in
    let there : drop (at + w) bytes ≡ more =
    sym (drop-drop w at bytes) ∙ ap (drop w) here ∙ drop_at (payload ts x) more w (length-payload ts x rs.0.fitting) in
    let ih = records_read k bytes rest xs (at + w) (Some x) regs rs.1 up.1 up.0 there in
    rw (is, rs.0.meets, past.0, ih) refl

-- each record after the one before it
abbrev pub Chain : Kind → Option (List ℤ) → List (List ℤ) → Type 0
Chain k last [] = Unit {0}
Chain k last (x ∷ xs) = (after k last x ≡ true) × Chain k (Some x) xs

-- what n records are that were read at a place
pub record Run (k : Kind) (bytes : List ℕ) (n at : ℕ) (last : Option (List ℤ)) (xs : List (List ℤ)) : Type 0 where
  pub count : length xs ≡ n
  pub records : AllByRecursion (IsRecord k) xs
  pub chain : Chain k last xs
  pub here : drop at bytes ≡ payloads k xs ++ drop (at + n * payload_size k.types) bytes

pub records_sound : (k : Kind) (bytes : List ℕ) (n at : ℕ) (last : Option (List ℤ)) (xs : List (List ℤ)) → AllByRecursion Regular k.types → AllByRecursion Byte bytes
    → at + n * payload_size k.types ≤ length bytes → read_records k bytes n at last ≡ got xs → Run k bytes n at last xs
records_sound k bytes zero at last xs regs all room e =
    let none : [] ≡ xs = got_same (got []) [] xs refl e in
    let z : at ≡ at + 0 * payload_size k.types = omega arith in
    subst (Run k bytes 0 at last) none (record { count = refl; records = tt; chain = tt; here = ap (λ m. drop m bytes) z })
records_sound k bytes (suc n) at last xs regs all room e =
    let ts = k.types in
    let w = payload_size ts in
    let r = numbers_of ts (drop at bytes) in
    let step : at + w + n * w ≡ at + suc n * w = rw suc-mul (omega arith) in
    let a = refuse_got (not (k.condition r)) (plain 25 at) _ xs e in
    let b = refuse_got (not (after k last r)) (plain 26 at) _ xs a.1 in
    let c = then_got (read_records k bytes n (at + w) (Some r)) (λ rs. got (r ∷ rs)) xs b.1 in
    let ys = c.0 in
    let one = numbers-payload ts (drop at bytes) regs (All-drop Byte at bytes all) (omega (arith, length-drop at bytes)) in
    let ih = records_sound k bytes n (at + w) (Some r) ys regs all (omega arith) c.1 in
    let far = drop (at + suc n * w) bytes in
    let rest : drop w (drop at bytes) ≡ payloads k ys ++ far = drop-drop w at bytes ∙ ih.here ∙ ap (λ m. payloads k ys ++ drop m bytes) step in
    subst (Run k bytes (suc n) at last) (got_same (got (r ∷ ys)) (r ∷ ys) xs refl c.2)
    (record {
      count = ap suc ih.count;
      records = (record { fitting = one.1; meets = not-false (k.condition r) a.0 }, ih.records);
      chain = (not-false (after k last r) b.0, ih.chain);
      here = one.0 ∙ ap (λ l. payload ts r ++ l) rest ∙ sym (append_assoc (payload ts r) (payloads k ys) far);
    })

pub chain_rising : (k : Kind) → Lawful k → (last : Option (List ℤ)) (xs : List (List ℤ)) → AllByRecursion (IsRecord k) xs → Chain k last xs → Rising k xs
chain_rising k law last [] rs c = tt
chain_rising k law last (x ∷ xs) rs c = let up = chain_rising k law (Some x) xs rs.1 c.1 in (later xs rs.1 c.1 up, up)
  where
    later : (ys : List (List ℤ)) → AllByRecursion (IsRecord k) ys → Chain k (Some x) ys → Rising k ys → AllByRecursion (λ y. k.before x y ≡ true) ys
    later [] rys d up = tt
    later (y ∷ ys) rys d up = (d.0, before_all k law x y ys rs.0 rys.0 rys.1 d.0 up.0)
