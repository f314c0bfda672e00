-- How many bytes records take.
use Rattle.std.proofs.Common.{◌≡◌, ℕ, ◌+◌, ◌*◌, ◌<◌, ◌≤◌, List, [], ◌∷◌, length, ap, mul-le-mul_right, add-mul, arith}
use Rattle.std.specs.List.{AllByRecursion}
use Rattle.records.specs.FieldType.{FieldType, Regular}
use Rattle.records.specs.Kind.{Kind, Lawful}
use Rattle.records.specs.Payload.{payload_size}
use Rattle.records.proofs.Payloads.{size_most}

-- a byte for each type at least
size_least : (ts : List FieldType) → AllByRecursion Regular ts → length ts ≤ payload_size ts
size_least [] rs = omega arith
size_least (t ∷ ts) rs = let some = rs.0.some in omega (arith, size_least ts rs.1)

pub size_some : (k : Kind) → Lawful k → 1 ≤ payload_size k.types
size_some k law = let some = law.types_some in omega (arith, size_least k.types law.types_regular)

pub size_few : (k : Kind) → Lawful k → payload_size k.types ≤ 64
size_few k law = let few = law.types_few in omega (arith, size_most k.types law.types_regular)

-- the bytes of one record more
pub one_more : (i s : ℕ) → (i + 1) * s ≡ i * s + s
one_more i s = let e : (i + 1) * s ≡ i * s + 1 * s = add-mul i 1 s in omega arith

-- record i is within n records
pub record_within : (i n s : ℕ) → i < n → i * s + s ≤ n * s
record_within i n s h = let e : (i + 1) * s ≤ n * s = mul-le-mul_right s (omega arith) in omega (arith, one_more i s)

-- record i of n has room where they have
pub record_room : (at i n s size end : ℕ) → s ≡ size → i < n → at + n * size ≤ end → at + i * s + s ≤ end
record_room at i n s size end e h room = let same : n * s ≡ n * size = ap (λ w. n * w) e in omega (arith, record_within i n s h)
