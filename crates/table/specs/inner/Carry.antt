-- What is carried down where a piece is split by the conditions of effects in order.
use Rattle.std.specs.Prelude.{◌≡◌, true, false, List, ℕ, zero, suc, ◌≤◌, ◌<◌, length, get_or, take, drop}
use Rattle.sheet.specs.declared.Literals.{Literals}
use Rattle.sheet.specs.declared.Effect.{Effect}
use Rattle.sheet.specs.Literals.{within, clash, consistent, join, flip, literal}
use Rattle.sheet.specs.Lists.{All}
use Rattle.sheet.specs.inner.Packed.{no_effect}
use Rattle.table.specs.declared.steps.Undecided.{Undecided}
use Rattle.table.specs.Worlds.{results}
use Rattle.table.specs.Step.{pieces}

-- each condition is consistent
abbrev pub Steady : List Effect → Type 0
Steady es = All (λ e. consistent e.condition ≡ true) es

-- down to place `at`: the effects before it give each consistent set that contains the piece the results `sum`
pub record Carried (es : List Effect) (at : ℕ) (piece sum : Literals) : Type 0 where
  pub piece_steady : consistent piece ≡ true
  pub steady : Steady es
  pub sum_is : (q : Literals) → consistent q ≡ true → within piece q ≡ true → results (take at es) q ≡ sum

-- the condition c splits the piece: it neither lies in it nor contradicts it
pub record Splits (c piece : Literals) : Type 0 where
  pub lacking : within c piece ≡ false
  pub apart : clash c piece ≡ false

-- from `at` on to the place of r no condition splits the piece, and r has the results up to there
pub record Skips (es : List Effect) (at : ℕ) (piece : Literals) (r : Undecided) : Type 0 where
  pub upto : at ≤ r.at
  pub carried : Carried es r.at piece r.results
  pub whole : pieces (drop r.at es) piece ≡ pieces (drop at es) piece

-- what a split asks: the undecided condition splits the piece
pub record SplitFits (es : List Effect) (u : Undecided) (piece : Literals) : Type 0 where
  pub below : u.at < length es
  pub splits : Splits (get_or es u.at no_effect).condition piece
  pub carried : Carried es u.at piece u.results

-- ---- the parts of a piece that a condition splits
-- part 0 is d with all of c, part l + 1 is d with the complement of the literal l
unfoldable pub part_at : Literals → Literals → ℕ → Literals
part_at d c zero = join d c
part_at d c (suc l) = join d (flip (literal l))

-- the results in part t, where those of the effect are r
unfoldable pub carried_at : Literals → Literals → ℕ → Literals
carried_at sum r zero = join r sum
carried_at sum r (suc l) = sum
