-- Lists of numbers compared number by number, from the first on.
use Rattle.std.specs.Prelude.{Bool, false, not, ◌&&◌, ◌||◌, List, [], ◌∷◌, ℤ, int_lt}

-- the first number that differs decides
abbrev pub lex_before : List ℤ → List ℤ → Bool
lex_before [] ys = false
lex_before (x ∷ xs) [] = false
lex_before (x ∷ xs) (y ∷ ys) = int_lt x y || (not (int_lt y x) && lex_before xs ys)
