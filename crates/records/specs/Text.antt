-- The lines of a text.
use Rattle.std.specs.Prelude.{◌≡◌, ℕ, suc, ◌+◌, min, cond, not, ◌≢◌, ◌⊎◌, List, [], ◌∷◌, ◌++◌, length, drop, ◌==◌}
use Rattle.std.specs.List.{prefix_len, flat_map, AllByRecursion}

-- the byte in front of the first line, or as a line of its own where there is none
abbrev pub before : ℕ → List (List ℕ) → List (List ℕ)
before b [] = (b ∷ []) ∷ []
before b (l ∷ ls) = (b ∷ l) ∷ ls

-- An LF (10) ends a line, and a last line needs none. No line starts at the text's end.
abbrev pub lines_of : List ℕ → List (List ℕ)
lines_of [] = []
lines_of (b ∷ bs) = cond (b == 10) ([] ∷ lines_of bs) (before b (lines_of bs))

-- where the line that starts at the place ends: at its LF, or at the text's end
abbrev pub line_end : List ℕ → ℕ → ℕ
line_end text at = at + prefix_len (λ b. not (b == 10)) (drop at text)

-- where the next line starts
abbrev pub next_start : List ℕ → ℕ → ℕ
next_start text at = min (suc (line_end text at)) (length text)

-- No line holds an LF, and the lines with an LF behind each are the text, or the text with an LF behind its last line.
pub record Split (text : List ℕ) (lines : List (List ℕ)) : Type 0 where
  pub bare : AllByRecursion (λ l. AllByRecursion (λ b. b ≢ 10) l) lines
  pub whole : (flat_map (λ l. l ++ (10 ∷ [])) lines ≡ text) ⊎ (flat_map (λ l. l ++ (10 ∷ [])) lines ≡ text ++ (10 ∷ []))
