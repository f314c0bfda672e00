-- What the digits at the front of a text say: how many there are, how many zeros lead them, and their value.
use Rattle.std.specs.Prelude.{ℕ, List}
use Rattle.std.specs.Char.{is_ascii_digit}
use Rattle.std.specs.List.{prefix_len}
use Rattle.words.specs.Bytes.{is_zero, value_of}

-- r: how many digits stand at the front
abbrev pub run : List ℕ → ℕ
run bs = prefix_len is_ascii_digit bs

-- z: how many of them are zeros that stand before any other digit
abbrev pub zeros : List ℕ → ℕ
zeros bs = prefix_len is_zero bs

-- the magnitude of V: the decimal value of all r digits
abbrev pub value : List ℕ → ℕ
value bs = value_of (run bs) bs
