-- The move from a table that can be taken, and the table that its step gives. For `runs::run_from` and RunLoop. Assumes nothing.
use mathlib.Core.Path.{◌≡◌}
use mathlib.Core.List.{List}
use Prim.Native.Nat.{ℕ, ◌<◌}
use native.Mathlib.Omega.{arith}
use Rattle.sheet.specs.declared.Literals.{Literals}
use Rattle.sheet.specs.inner.Packed.{moves_in, action_of}
use Rattle.table.specs.Minimal.{table}
use Rattle.table.specs.Step.{step_table}
use Rattle.table.specs.inner.Steps.{MoveFits}
use Rattle.table.proofs.Demands.{step_table_lem}
use Rattle.plan.specs.inner.Movable.{Movable}

module _ {packed : List ℕ} {k : ℕ} {es : List Literals} (h : Movable packed k es) {m : ℕ} (lt : m < k) where
  pub move_fits : MoveFits packed m es
  move_fits = record {
    long = h.long;
    move_most = omega (arith, lt, h.most);
    effects_few = h.effects_most m lt;
    fits = record {
      n = h.n;
      n_most = h.n_most;
      entries_most = h.described.most;
      action = h.actions m lt;
      proper = h.described.proper;
    };
  }

  pub moved_on : {us : List Literals} → step_table 128 (action_of (moves_in packed) m) es ≡ table us → Movable packed k us
  moved_on {us} e = record {
    n = h.n;
    n_most = h.n_most;
    least = h.least;
    most = h.most;
    long = h.long;
    effects_most = h.effects_most;
    actions = h.actions;
    goal_fits = h.goal_fits;
    described = (step_table_lem h.n h.n_most (action_of (moves_in packed) m) (h.actions m lt) es h.described 128 us e).0;
  }
