-- The pictures among the worked examples, and all examples of a table in one theorem. For TH10. Assumes nothing.
use mathlib.Core.Path.{◌≡◌, refl}
use mathlib.Core.List.{[], ◌∷◌}
use mathlib.Core.Option.{some}
use Rattle.sheet.specs.Literals.{has, mem, within, consistent, join, single, sign, literal, contains, members_from, members}
use Rattle.table.specs.Minimal.{put}
use Rattle.table.proofs.laws.examples.BenchExamples.{set, Bench, bench}
use Rattle.table.specs.Picture.{units, unions, fold, primes, precedes, insert, sort_onto, sort, picture}

-- propositions f, g, h are 0, 1, 2
pub record PictureMarks : Type 0 where
  -- f ¬g ¬h, ¬f g ¬h, ¬f ¬g h
  pub m4 : picture (set 1 6 ∷ set 2 5 ∷ set 4 3 ∷ []) ≡ some (set 0 3 ∷ set 0 5 ∷ set 0 6 ∷ set 7 0 ∷ [])
  -- f ¬g ¬h, ¬f g ¬h
  pub m5 : picture (set 1 6 ∷ set 2 5 ∷ []) ≡ some (set 0 3 ∷ set 0 4 ∷ set 3 0 ∷ [])
  -- the empty entry: no clause
  pub m11 : picture (set 0 0 ∷ []) ≡ some []
  -- f; ¬f g: the clause f or g, and nothing of the pair f, ¬f
  pub m13 : picture (set 1 0 ∷ set 2 1 ∷ []) ≡ some (set 3 0 ∷ [])

pub picture_marks : PictureMarks
unfolding has mem within consistent join single sign literal contains members_from members put units unions fold primes precedes insert
    sort_onto sort picture
picture_marks = record { m4 = refl; m5 = refl; m11 = refl; m13 = refl }

-- the lists of m4 and m5 are those of m1 and m2: the start and the first step
pub all_marks : Bench × PictureMarks
all_marks = (bench, picture_marks)
