-- The words of a line.
--   blank c      a byte that parts words: space, tab, carriage return, line feed
--   solid c      a byte of a word: neither blank nor '#', which begins a comment
--   pieces xs    what stands between blanks before the first '#', empty pieces too
--   words xs     the pieces that are not empty
use Rattle.std.specs.Prelude.{ℕ, Bool, cond, not, ◌&&◌, ◌||◌, List, [], ◌∷◌, ◌==◌}

abbrev pub blank : ℕ → Bool
blank c = c == 32 || (c == 9 || (c == 13 || c == 10))

abbrev pub solid : ℕ → Bool
solid c = not (blank c) && not (c == 35)

-- one byte more in front of the first piece
abbrev pub longer : ℕ → List (List ℕ) → List (List ℕ)
longer c [] = (c ∷ []) ∷ []
longer c (w ∷ ws) = (c ∷ w) ∷ ws

unfoldable pub pieces : List ℕ → List (List ℕ)
pieces [] = [] ∷ []
pieces (c ∷ cs) = cond (c == 35) ([] ∷ []) (cond (blank c) ([] ∷ pieces cs) (longer c (pieces cs)))

unfoldable pub some : List (List ℕ) → List (List ℕ)
some [] = []
some ([] ∷ ws) = some ws
some ((c ∷ w) ∷ ws) = (c ∷ w) ∷ some ws

unfoldable pub words : List ℕ → List (List ℕ)
words xs = some (pieces xs)
