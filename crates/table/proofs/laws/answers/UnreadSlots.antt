-- Calls on tables read their entries alone: unused slots are not read. For plan/proofs/Demands. Assumes nothing.
use mathlib.Core.Path.{◌≡◌, refl}
use mathlib.Core.Bool.{Bool, true, false}
use mathlib.Core.List.{List}
use Prim.Native.Nat.{ℕ}
use native.Mathlib.Omega.{arith}
use lib.Dec.{ltb}
use lib.ListN.{length}
use Rattle.sheet.specs.Calls.{Answer, Accepted, Refused}
use Rattle.sheet.specs.Problem.{Action}
use Rattle.sheet.specs.Format.{Judgement, accepted, refused}
use Rattle.table.specs.declared.Table.{Table}
use Rattle.table.specs.declared.TableAnswer.{TableAnswer}
use Rattle.table.specs.Minimal.{described, Outcome}
use Rattle.table.specs.Step.{step_table}
use Rattle.table.specs.Entries.{entries}
use Rattle.table.specs.Calls.{or_given, action_at, step_known, step_move, step_of}
use Rattle.table.specs.PictureCalls.{picture_of, buffer_of}

abbrev Same : TableAnswer → TableAnswer → Type 0
Same r q = (r.answer ≡ q.answer) × (r.answer ≡ Accepted → r.table ≡ q.table)

no : {X : Type 0} {k p : ℕ} → ◌≡◌ {A = Answer} (Refused k p) Accepted → X
no e = absurd (let z : ◌≡◌ {A = ℕ} 0 1 = cc in omega arith)

module _ (t u : Table) (e : entries t ≡ entries u) where
  same_outcome : (o : Outcome) → Same (or_given t o) (or_given u o)
  unfolding or_given
  same_outcome (Outcome.refused k) = (refl, λ f. no f)
  same_outcome (Outcome.table v) = (refl, λ f. refl)

  same_known : (b : Bool) (a : Action) → Same (step_known b a t) (step_known b a u)
  same_known false a = (refl, λ f. no f)
  same_known true a = rw e (same_outcome (step_table 128 a (entries u)))

  same_move : (b : Bool) (n : ℕ) (a : Action) → Same (step_move b n a t) (step_move b n a u)
  same_move false n a = (refl, λ f. no f)
  same_move true n a = rw e (same_known (described 128 n (entries u)) a)

  pub step_unread : (j : Judgement) (m : ℕ) → Same (step_of j t m) (step_of j u m)
  unfolding step_of
  step_unread (refused k p) m = (refl, λ f. no f)
  step_unread (accepted x) m = same_move (ltb m (length x.problem.actions)) x.problem.n (action_at x.problem m)

  pub picture_unread : (j : Judgement) (len : ℕ) → picture_of j t len ≡ picture_of j u len
  unfolding picture_of
  picture_unread (refused k p) len = refl
  picture_unread (accepted x) len = rw e

  pub buffer_unread : (j : Judgement) (buffer : List ℕ) → buffer_of j t buffer ≡ buffer_of j u buffer
  unfolding buffer_of
  buffer_unread (refused k p) buffer = refl
  buffer_unread (accepted x) buffer = rw e
