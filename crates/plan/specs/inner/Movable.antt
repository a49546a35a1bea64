-- What runs and searches ask of their moves, their goal and the table that they are at.
use Rattle.std.specs.Prelude.{◌≡◌, List, ℕ, ◌≤◌, ◌<◌, length}
use Rattle.sheet.specs.inner.Widths.{most_propositions, most_moves, packed_length}
use Rattle.sheet.specs.Limits.{most_entries}
use Rattle.sheet.specs.declared.Literals.{Literals}
use Rattle.sheet.specs.declared.Plan.{Plan}
use Rattle.sheet.specs.Lists.{All}
use Rattle.sheet.specs.Encoding.{ProperAction}
use Rattle.sheet.specs.inner.Decoded.{plan_in}
use Rattle.sheet.specs.inner.Packed.{goal_in, moves_in, SetsFit, count_of, action_of}
use Rattle.table.specs.Minimal.{Described}

-- so many moves, a goal and the entries of a table over the same n propositions, within their slots
pub record Movable (packed : List ℕ) (count : ℕ) (es : List Literals) : Type 0 where
  pub n : ℕ
  pub n_most : n ≤ most_propositions
  pub least : 1 ≤ count
  pub most : count ≤ most_moves
  pub long : length packed ≡ packed_length
  pub effects_most : (i : ℕ) → i < count → count_of (moves_in packed) i ≤ 8
  pub actions : (i : ℕ) → i < count → ProperAction n (action_of (moves_in packed) i)
  pub goal_fits : SetsFit (goal_in packed)
  pub described : Described most_entries n es

-- the same with a plan of these moves
pub record Runnable (plan : Plan) (packed : List ℕ) (es : List Literals) : Type 0 where
  pub count : ℕ
  pub fits : Movable packed count es
  pub most : plan.count ≤ 64
  pub numbers : All (λ i. i < count) (plan_in plan)
