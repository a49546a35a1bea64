-- A sheet that was read, its moves and goal in a packed array: the run from the table of its start is that of its problem. For
-- `runs::run_sheet` and SheetSearches. Assumes nothing.
use mathlib.Core.Path.{◌≡◌, refl, sym, ap, ap₂, subst, ◌∙◌}
use mathlib.Core.List.{List, [], ◌∷◌, map}
use Prim.Native.Nat.{ℕ, ◌<◌}
use native.Mathlib.Omega.{arith}
use lib.ListN.{length, get_or, take, drop}
use Rattle.sheet.specs.declared.Literals.{Literals}
use Rattle.sheet.specs.Literals.{no_literal}
use Rattle.sheet.specs.Lists.{All}
use Rattle.sheet.specs.Problem.{Action, Problem}
use Rattle.sheet.specs.Encoding.{ProperAction, ProperProblem}
use Rattle.sheet.specs.inner.Decoded.{plan_in, problem_in, statement_in, Filled}
use Rattle.sheet.specs.inner.Packed.{item_at, sets_in, count_in, action_from, action_of, goal_in, moves_in}
use Rattle.sheet.specs.declared.Sheet.{Sheet}
use Rattle.sheet.proofs.laws.reader.PackedParts.{part_long, sets_long, effects_long, item_at_lem, items_length}
use Rattle.sheet.proofs.laws.reader.ReadSheets.{numbers_below}
use Rattle.table.specs.Minimal.{refused, table}
use Rattle.table.specs.Start.{start_table}
use Rattle.table.specs.Calls.{action_at}
use Rattle.table.proofs.Demands.{start_table_lem}
use Rattle.table.proofs.laws.steps.StepWorlds.{at_proper}
use Rattle.plan.specs.Run.{actions_of}
use Rattle.plan.specs.Calls.{planned, planned_rows}
use Rattle.plan.specs.inner.Course.{course_from, refused_course, planned_course}
use Rattle.plan.specs.inner.Movable.{Movable, Runnable}

map_below : (f g : ℕ → Action) (k : ℕ) → ((i : ℕ) → i < k → f i ≡ g i) → (q : List ℕ) → All (λ i. i < k) q → map f q ≡ map g q
map_below f g k h [] l = refl
map_below f g k h (i ∷ q) l = ap₂ {C = List Action} (λ (a : Action) (b : List Action). a ∷ b) (h i l.0) (map_below f g k h q l.1)

-- how many sets or effects there are
sets_count : (xs : List ℕ) → length (sets_in xs) ≡ get_or xs 0 0
unfolding sets_in
sets_count xs = sets_long (get_or xs 0 0) (drop 1 xs)

effects_count : (xs : List ℕ) → length (action_from xs).effects ≡ count_in xs
unfolding action_from
effects_count xs = effects_long (count_in xs) (take 32 (drop 3 xs))

module _ (x : Sheet) (packed : List ℕ) (h : Filled x packed) where
  abbrev p : Problem
  p = problem_in x packed

  proper : ProperProblem p
  unfolding statement_in
  proper = h.proper.problem

  -- as many moves as the sheet says
  pub count_is : length p.actions ≡ x.moves
  unfolding problem_in
  count_is = items_length 35 action_from x.moves (moves_in packed)

  -- ---- the moves and the goal of the problem in the packed array
  pub goal_is : sets_in (goal_in packed) ≡ p.goal
  unfolding problem_in
  goal_is = refl

  laid : (i : ℕ) → i < x.moves → action_of (moves_in packed) i ≡ action_at p i
  unfolding action_at problem_in
  laid i lt =
      let d : Action = record { precondition = no_literal; effects = [] } in
      sym (item_at_lem 35 action_from x.moves (moves_in packed) i d lt)

  move : (i : ℕ) → i < x.moves → ProperAction p.n (action_of (moves_in packed) i)
  move i lt = subst (ProperAction p.n) (sym (laid i lt)) (at_proper p proper i (omega (arith, count_is, lt)))

  pub plan_laid : (q : List ℕ) → All (λ i. i < x.moves) q → map (action_of (moves_in packed)) q ≡ actions_of p q
  unfolding actions_of
  plan_laid q l = map_below (action_of (moves_in packed)) (action_at p) x.moves laid q l

  numbers : All (λ i. i < x.moves) (plan_in x.plan)
  numbers = numbers_below x packed h.proper

  -- ---- its start gave a table
  module _ {us : List Literals} (e : start_table 128 p ≡ table us) where
    pub movable : Movable packed x.moves us
    movable = record {
      n = p.n;
      n_most = proper.n_most;
      least = omega (arith, count_is, proper.actions.least);
      most = omega (arith, count_is, proper.actions.most);
      long = h.long;
      effects_most = λ i lt. omega (arith, effects_count (item_at 35 (moves_in packed) i), (move i lt).effects.most);
      actions = move;
      goal_fits = (
        part_long 272 17 packed (omega (arith, h.long)),
        omega (arith, sets_count (goal_in packed), ap length goal_is, proper.goal.most),
      );
      described = (start_table_lem p proper 128 us e).0 (omega arith);
    }

    pub runnable : Runnable x.plan packed us
    runnable = record { count = x.moves; fits = movable; most = h.plan_most; numbers = numbers }

    pub run_is : course_from (sets_in (goal_in packed)) [] 0 (map (action_of (moves_in packed)) (plan_in x.plan)) us
        ≡ planned_course p (plan_in x.plan) (start_table 128 p)
    unfolding course_from planned_course planned planned_rows
    run_is =
        ap₂ (λ (g : List Literals) (q : List Action). course_from g [] 0 q us) goal_is (plan_laid (plan_in x.plan) numbers)
        ∙ sym (ap (planned_course p (plan_in x.plan)) e)

  -- ---- its start was refused
  pub run_stops : {k : ℕ} → start_table 128 p ≡ refused k → refused_course k 0 ≡ planned_course p (plan_in x.plan) (start_table 128 p)
  unfolding refused_course planned_course planned planned_rows
  run_stops e = sym (ap (planned_course p (plan_in x.plan)) e)
