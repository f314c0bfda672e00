-- A payload read back.
use Rattle.std.proofs.Common.{◌≡◌, ℕ, zero, suc, ◌-◌, ◌/◌, ◌%◌, ◌^◌, ◌<◌, ◌≤◌, true, leb, List, [], ◌∷◌, ◌++◌, take, ℤ, pos, negsuc, nat_abs, Some, None, Option, sym, refl, ap, ◌∙◌, ap₂, append_assoc, mod-eq_of_lt, arith}
use lib.Signed.{le_z}
use Rattle.std.proofs.lemmas.Int.{ints}
use Rattle.std.specs.List.{AllByRecursion}
use Rattle.std.proofs.lemmas.List.{drop_at}
use Rattle.std.proofs.lemmas.Bool.{and_parts, cond-false, cond-true, le-leb, lt-leb}
use Rattle.words.specs.Bytes.{bytes_le, word_le, front}
use Rattle.words.proofs.Shifted.{length-bytes_le}
use Rattle.records.specs.FieldType.{FieldType, Regular, holds}
use Rattle.records.specs.Kind.{Kind, Lawful, fit_all}
use Rattle.records.specs.Payload.{code, decode, payload, numbers_of, record_of, ReadsBack}
use Rattle.records.proofs.Payloads.{low_word}

at_most : (n : ℕ) (g : ℤ) → le_z (pos n) g ≡ true → n ≤ nat_abs g
at_most n g h = grind (arith, ints)

at_least : (n : ℕ) (l : ℤ) → le_z l (negsuc n) ≡ true → suc n ≤ nat_abs l
at_least n l h = grind (arith, ints)

-- a code takes no more than the type's bytes
pub code_below : (t : FieldType) (v : ℤ) → Regular t → holds t v ≡ true → code t v < 256 ^ t.width
code_below t (pos n) r h =
    let codes = r.codes in
    omega (arith, at_most n t.numbers.greatest (and_parts (le_z t.numbers.least (pos n)) (le_z (pos n) t.numbers.greatest) h).1)
code_below t (negsuc n) r h =
    let codes = r.codes in
    omega (arith, at_least n t.numbers.least (and_parts (le_z t.numbers.least (negsuc n)) (le_z (negsuc n) t.numbers.greatest) h).0)

pub decode-code : (t : FieldType) (v : ℤ) → Regular t → holds t v ≡ true → decode t (code t v) ≡ v
decode-code t (pos n) r h =
    let g = t.numbers.greatest in
    cond-true (leb n (nat_abs g)) _ _ (le-leb n (nat_abs g) (at_most n g (and_parts (le_z t.numbers.least (pos n)) (le_z (pos n) g) h).1))
decode-code t (negsuc n) r h =
    let g = t.numbers.greatest in
    let l = t.numbers.least in
    let c = 256 ^ t.width - suc n in
    let least = at_least n l (and_parts (le_z l (negsuc n)) (le_z (negsuc n) g) h).0 in
    let codes = r.codes in
    let same : 256 ^ t.width - suc (256 ^ t.width - suc n) ≡ n = omega arith in
    cond-false (leb c (nat_abs g)) _ _ (lt-leb c (nat_abs g) (omega arith)) ∙ ap negsuc same

front_at : (w v : ℕ) (more : List ℕ) → front w (bytes_le w v ++ more) ≡ bytes_le w v
unfolding bytes_le front
front_at zero v more = refl
front_at (suc w) v more = ap (λ bs. v % 256 ∷ bs) (front_at w (v / 256) more)

-- the word of a code's bytes
pub word_bytes : (w v : ℕ) (more : List ℕ) → v < 256 ^ w → word_le (take w (bytes_le w v ++ more)) ≡ v
word_bytes w v more h = sym (low_word w w v (bytes_le w v ++ more) (omega arith) (sym (front_at w v more))) ∙ mod-eq_of_lt h

pub read_back : (ts : List FieldType) (vs : List ℤ) (more : List ℕ) → AllByRecursion Regular ts → fit_all ts vs ≡ true → numbers_of ts (payload ts vs ++ more) ≡ vs
read_back [] [] more rs h = refl
read_back [] (v ∷ vs) more rs h = cc
read_back (t ∷ ts) [] more rs h = cc
read_back (t ∷ ts) (v ∷ vs) more rs h =
    let fit = and_parts (holds t v) (fit_all ts vs) h in
    let bytes = bytes_le t.width (code t v) in
    let rest = payload ts vs ++ more in
    ap (numbers_of (t ∷ ts)) (append_assoc bytes (payload ts vs) more)
    ∙ ap₂ (λ n bs. decode t n ∷ numbers_of ts bs)
    (word_bytes t.width (code t v) rest (code_below t v rs.0 fit.0))
    (drop_at bytes rest t.width (length-bytes_le t.width (code t v)))
    ∙ ap₂ (λ n ns. n ∷ ns) (decode-code t v rs.0 fit.0) (read_back ts vs more rs.1 fit.1)

pub reads_back : (k : Kind) (bs : List ℕ) (got : Option (List ℤ)) → Lawful k → got ≡ record_of k bs → ReadsBack k bs got
reads_back k bs got law e r more is begins =
    let ns : numbers_of k.types bs ≡ r = ap (numbers_of k.types) begins ∙ read_back k.types r more law.types_regular is.fitting in
    e ∙ cond-true (k.condition (numbers_of k.types bs)) (Some (numbers_of k.types bs)) None (ap k.condition ns ∙ is.meets) ∙ ap Some ns
