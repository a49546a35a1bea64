-- The sheet that document 01 prints ("The program `check`").
use Rattle.std.specs.Prelude.{List, [], ◌∷◌, ℕ}

abbrev pub printed : List ℕ
printed = 3 ∷ 0 ∷ 0 ∷ 1 ∷ 3 ∷ 1 ∷ 0 ∷ 1 ∷ 2 ∷ 1 ∷ 4 ∷ 1 ∷ 0 ∷ 2 ∷ 1 ∷ 2 ∷ 2 ∷ 0 ∷ 3 ∷ 1 ∷ 4 ∷ 2 ∷ 2 ∷ 5 ∷ 1 ∷ 1 ∷ 0 ∷ 2 ∷ 0 ∷ 0 ∷ []
