-- What `try_plans` and `lengths` return, and the invariants of their loops: no move, or no length, tried so far has an answer, and what the
-- memory says is so. For `searches::try_plans` and `searches::lengths`. Assumes nothing.
use mathlib.Core.Path.{◌≡◌, refl, sym, ap, ◌∙◌}
use mathlib.Core.Bool.{Bool, true, false}
use mathlib.Core.List.{List}
use Prim.Native.Nat.{ℕ, ◌+◌, ◌-◌, ◌≤◌, ◌<◌}
use native.Mathlib.Omega.{arith}
use lib.ListN.{replicate}
use Rattle.sheet.specs.declared.Literals.{Literals}
use Rattle.sheet.specs.Lists.{all_of}
use Rattle.sheet.specs.Problem.{Action}
use Rattle.sheet.specs.inner.Packed.{sets_in, goal_in, moves_in, action_of}
use Rattle.plan.specs.declared.SearchAnswer.{SearchAnswer}
use Rattle.plan.specs.declared.Kind.TheVariants as kind
use Rattle.plan.specs.declared.searches.Depth.{Depth}
use Rattle.plan.specs.Run.{in_goal}
use Rattle.plan.specs.Search.{nothing}
use Rattle.plan.specs.Calls.{answered}
use Rattle.plan.specs.inner.Movable.{Movable}
use Rattle.plan.specs.inner.Searches.{first_from, first_by, is_end, NoShorterFrom, plans_tried, move_tried, searched_by}
use Rattle.plan.specs.inner.Memory.{Remembers, Recalls, Underway, MoveUnderway}
use Rattle.plan.proofs.laws.searches.FirstByMove.{first_below}
use Rattle.plan.proofs.laws.searches.NoShorterPlans.{quiet_lengths}
use Rattle.plan.proofs.laws.searches.MemorySlots.{skip, entered, tried}
use Rattle.plan.proofs.laws.searches.SearchReturns.{no_answer, at_goal, at_short, not_yet, found_now, none_at_all}
use Rattle.plan.proofs.laws.searches.SearchReturns.{length_found, length_next, length_none}

-- ---- the plans of a table
-- no move below index has an answer, and what the memory says is so
pub record Trying (packed : List ℕ) (depth : Depth) (es : List Literals) (memory : List ℕ) (index : ℕ) : Type 0 where
  pub none : first_below (first_by (sets_in (goal_in packed)) (action_of (moves_in packed)) depth.moves depth.at es (depth.left - 1)) index
      ≡ nothing
  pub remembers : Remembers packed depth.moves memory

module _ {packed : List ℕ} {depth : Depth} {es : List Literals} {memory : List ℕ} (h : Underway packed depth es memory) where
  abbrev goal : List Literals
  goal = sets_in (goal_in packed)

  abbrev f : ℕ → Action
  f = action_of (moves_in packed)

  abbrev k : ℕ
  k = depth.moves

  abbrev at : ℕ
  at = depth.at

  abbrev left : ℕ
  left = depth.left

  -- no move is left: the goal decides
  module _ (z : left ≡ 0) {b : Bool} {gs : List Literals} (same : gs ≡ goal) (is : b ≡ all_of (in_goal gs) es) where
    told : b ≡ all_of (in_goal goal) es
    told = is ∙ ap (λ (g : List Literals). all_of (in_goal g) es) same

    pub tried_reached : b ≡ true → record { kind = kind.Reached; plan = replicate 8 0; length = at } ≡ plans_tried packed k es at left
    tried_reached t = at_goal goal f k at es left z (sym told ∙ t)

    pub tried_short : {r : SearchAnswer} → b ≡ false → r ≡ answered nothing → r ≡ plans_tried packed k es at left
    tried_short {r} t w = at_short goal f k at es left z r (sym told ∙ t) w

  -- the memory says that there is none
  pub tried_recalled : {r : SearchAnswer} → Recalls memory es left → r ≡ answered nothing → r ≡ plans_tried packed k es at left
  tried_recalled m w = no_answer goal f k at es left (skip packed k at h.remembers m) w

  -- ---- the loop over the moves
  pub trying_start : {after : List ℕ} → (Remembers packed k memory → NoShorterFrom packed k 0 es left → Remembers packed k after)
      → Trying packed depth es after 0
  trying_start keeps = record { none = refl; remembers = keeps h.remembers (entered packed k es at left h.no_shorter) }

  module _ (some : left ≡ 0 → ⊥) {now : List ℕ} {index : ℕ} (g : Trying packed depth es now index) where
    pub move_underway : index < k → MoveUnderway packed depth index es now
    move_underway l = record {
      underway = record { can = h.can; most = h.most; no_shorter = h.no_shorter; remembers = g.remembers };
      some_left = omega (arith, some);
      below = l;
    }

    module _ {r : SearchAnswer} (w : r ≡ move_tried packed k es at (left - 1) index) where
      pub trying_found : index < k → is_end r.kind ≡ true → r ≡ plans_tried packed k es at left
      trying_found l e = found_now goal f k at es (left - 1) index r g.none left (omega (arith, some)) l w e

      pub trying_next : {after : List ℕ} → is_end r.kind ≡ false → Remembers packed k after → Trying packed depth es after (index + 1)
      trying_next e m = record { none = not_yet goal f k at es (left - 1) index r g.none w e; remembers = m }

    -- no move has an answer
    module _ (all : index ≡ k) {r : SearchAnswer} (w : r ≡ answered nothing) where
      nowhere : first_from goal f k at es left ≡ nothing
      nowhere = none_at_all goal f k at es (left - 1) index r g.none left (omega (arith, some)) all

      pub tried_none : r ≡ plans_tried packed k es at left
      tried_none = no_answer goal f k at es left nowhere w

      pub none_known : NoShorterFrom packed k 0 es (left + 1)
      none_known = tried packed k es at left h.no_shorter nowhere

-- ---- the loop over the lengths
-- no plan of fewer moves has an answer, and what the memory says is so
pub record Lengths (packed : List ℕ) (moves : ℕ) (es : List Literals) (memory : List ℕ) (length : ℕ) : Type 0 where
  pub none : first_below (first_from (sets_in (goal_in packed)) (action_of (moves_in packed)) moves 0 es) length ≡ nothing
  pub remembers : Remembers packed moves memory

pub lengths_start : {packed memory : List ℕ} {moves : ℕ} {es : List Literals} → Remembers packed moves memory
    → Lengths packed moves es memory 0
lengths_start m = record { none = refl; remembers = m }

module _ {packed memory : List ℕ} {moves length : ℕ} {es : List Literals} (g : Lengths packed moves es memory length) where
  abbrev sets : List Literals
  sets = sets_in (goal_in packed)

  abbrev move : ℕ → Action
  move = action_of (moves_in packed)

  pub length_underway : Movable packed moves es → length ≤ 8
      → Underway packed (record { moves = moves; at = 0; left = length }) es memory
  length_underway h l = record {
    can = h;
    most = omega (arith, l);
    no_shorter = quiet_lengths sets move moves es length g.none;
    remembers = g.remembers;
  }

  module _ (limit : ℕ) {r : SearchAnswer} where
    pub lengths_found : length ≤ limit → r ≡ plans_tried packed moves es 0 length → is_end r.kind ≡ true
        → r ≡ searched_by packed moves es limit
    lengths_found l w e = length_found sets move moves es limit length r g.none l w e

    pub lengths_next : {after : List ℕ} → r ≡ plans_tried packed moves es 0 length → is_end r.kind ≡ false → Remembers packed moves after
        → Lengths packed moves es after (length + 1)
    lengths_next w e m = record { none = length_next sets move moves es limit length r g.none w e; remembers = m }

    pub lengths_none : length ≡ limit + 1 → r ≡ answered nothing → r ≡ searched_by packed moves es limit
    lengths_none e w = length_none sets move moves es limit length r g.none (omega (arith, e)) w
