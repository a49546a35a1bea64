-- What `try_move` returns, by what its step gave: the plans after the move, none of them, or full. For `searches::try_move`. Assumes
-- nothing.
use mathlib.Core.Path.{◌≡◌, sym, ap, ◌∙◌}
use mathlib.Core.Bool.{true, false}
use mathlib.Core.List.{List, ◌∷◌}
use Prim.Native.Nat.{ℕ, ◌+◌, ◌-◌}
use native.Mathlib.Omega.{arith}
use lib.ListN.{replicate}
use Rattle.sheet.specs.declared.Literals.{Literals}
use Rattle.sheet.specs.inner.Packed.{sets_in, goal_in, moves_in, action_of}
use Rattle.table.specs.Minimal.{Outcome, refused, table}
use Rattle.table.specs.Step.{step_table}
use Rattle.plan.specs.declared.SearchAnswer.{SearchAnswer}
use Rattle.plan.specs.Search.{full_at, nothing}
use Rattle.plan.specs.Calls.{answered}
use Rattle.plan.specs.inner.Searches.{answered_at, is_end, NoShorterFrom, plans_tried, move_tried}
use Rattle.plan.specs.inner.Memory.{Underway, MoveUnderway}
use Rattle.plan.specs.declared.searches.Depth.{Depth}
use Rattle.plan.proofs.laws.runs.Moving.{moved_on}
use Rattle.plan.proofs.laws.searches.NoShorterPlans.{quiet_after, unchanged}
use Rattle.plan.proofs.laws.searches.SearchReturns.{written, onward_ended, onward_not, at_stop, at_full}

module _ {packed : List ℕ} {depth : Depth} {m : ℕ} {es : List Literals} {memory : List ℕ} (h : MoveUnderway packed depth m es memory) where
  abbrev goal : List Literals
  goal = sets_in (goal_in packed)

  abbrev k : ℕ
  k = depth.moves

  abbrev at : ℕ
  at = depth.at

  abbrev left : ℕ
  left = depth.left - 1

  abbrev outcome : Outcome
  outcome = step_table 128 (action_of (moves_in packed) m) es

  -- no plan with fewer moves than are left, this one among them, has an answer
  none_shorter : NoShorterFrom packed k at es (left + 1)
  none_shorter p i l = h.underway.no_shorter p i (omega (arith, l, h.some_left))

  -- ---- the step gave a table
  module _ {us : List Literals} (to : outcome ≡ table us) where
    -- the search goes on from it: no shorter plan has an answer there either
    pub underway_after : Underway packed (record { moves = k; at = at + 1; left = left }) us memory
    underway_after = record {
      can = moved_on h.underway.can h.below to;
      most = omega (arith, h.underway.most, h.some_left);
      no_shorter = quiet_after goal (action_of (moves_in packed)) k at es m left us to none_shorter h.below;
      remembers = h.underway.remembers;
    }

    -- it is the table that was
    pub tried_same : us ≡ es → {a : SearchAnswer} → a ≡ answered nothing → a ≡ move_tried packed k es at left m
    unfolding answered_at
    tried_same z w = w ∙ sym (ap (answered_at at) (unchanged goal (action_of (moves_in packed)) k at es m left us to none_shorter z))

    -- the plans after the move were tried, with an answer or without
    module _ {a : SearchAnswer} (w : a ≡ plans_tried packed k us (at + 1) left) where
      pub tried_ended : is_end a.kind ≡ true → written a at m ≡ move_tried packed k es at left m
      tried_ended b = onward_ended goal (action_of (moves_in packed)) k at es left m us a to w b

      pub tried_not : is_end a.kind ≡ false → a ≡ move_tried packed k es at left m
      tried_not b = onward_not goal (action_of (moves_in packed)) k at es left m us a to w b

  -- ---- the step was refused
  module _ {code : ℕ} (halts : outcome ≡ refused code) where
    pub tried_full : code ≡ 21 → {a : SearchAnswer} → a ≡ answered_at at (full_at (m ∷ replicate left 0) (at + 1))
        → a ≡ move_tried packed k es at left m
    tried_full z {a} w = at_full goal (action_of (moves_in packed)) k at es left m a h.underway.can.least (halts ∙ ap refused z) w

    pub tried_stopped : (code ≡ 21 → ⊥) → {a : SearchAnswer} → a ≡ answered nothing → a ≡ move_tried packed k es at left m
    tried_stopped z {a} w = at_stop goal (action_of (moves_in packed)) k at es left m code a halts z w
