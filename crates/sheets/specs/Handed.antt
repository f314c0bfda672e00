-- What a sheet that was read hands out.
use Rattle.std.specs.Prelude.{ℕ, ◌+◌, ◌*◌, cond, ◌&&◌, List, length, drop, ℤ, Some, None, Option, ◌==◌, nat_lt}
use Rattle.records.specs.Kind.{Kind}
use Rattle.records.specs.Line.{InSection, Section, first, second}
use Rattle.records.specs.Outcome.{plain, Outcome, got, refused, refuse_if}
use Rattle.records.specs.Payload.{payload_size, record_of}
use Rattle.model.specs.History.{named}

-- the outcome with `f` of its value
abbrev pub mapped : {X Y : Type 0} → (X → Y) → Outcome X → Outcome Y
mapped f (got x) = got (f x)
mapped f (refused r) = refused r

-- the record in the section, or 28 where there is none
abbrev pub found : Section → Option (List ℤ) → Outcome InSection
found s (Some r) = named s r
found s None = refused (plain 28 0)

-- record i of those that stand in the bytes from the place on, as far as these reach
abbrev pub standing : Section → Kind → List ℕ → ℕ → ℕ → Outcome InSection
standing s k bytes from i =
    let at = from + i * payload_size k.types in
    refuse_if (nat_lt (length bytes) (at + payload_size k.types)) (plain 28 0) (found s (record_of k (drop at bytes)))

-- record i of the section asked for, in bytes taken for a sheet of m and n records
abbrev pub record_in : Kind → Kind → List ℕ → ℕ → ℕ → ℕ → ℕ → Outcome InSection
record_in a b bytes m n asked i =
    cond (asked == 1 && nat_lt i m) (standing first a bytes 6 i)
    (cond (asked == 2 && nat_lt i n) (standing second b bytes (12 + m * payload_size a.types) i)
    (refused (plain 28 0)))
