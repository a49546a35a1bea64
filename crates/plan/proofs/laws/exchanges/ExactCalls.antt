-- The call `run` as an exact run (`Called`), and two of its answers on one problem: one class, one picture. For ExchangeDemands
-- (TH7, TH9) and FinalPictures. Assumes nothing.
use mathlib.Core.Path.{◌≡◌, sym, ap, subst, ◌∙◌}
use mathlib.Core.Bool.{false, true≢false}
use mathlib.Core.List.{List}
use mathlib.Core.Logic.{inl, inr, ◌↔◌}
use mathlib.Core.Option.{Option, some}
use Prim.Native.Nat.{ℕ, ◌^◌, ◌≤◌, ◌<◌}
use Rattle.sheet.specs.declared.Literals.{Literals}
use Rattle.sheet.specs.Problem.{Action, Problem, Statement}
use Rattle.sheet.specs.Format.{accepted, sheet_of}
use Rattle.sheet.proofs.Demands.{statement_proper}
use Rattle.table.specs.Worlds.{run_world, Starting}
use Rattle.table.specs.Minimal.{table}
use Rattle.table.specs.Start.{start_table}
use Rattle.table.specs.Picture.{picture, picture_bytes}
use Rattle.table.proofs.Demands.{start_20, start_kind}
use Rattle.table.proofs.laws.slots.PutInvariants.{then_some}
use Rattle.plan.specs.declared.RunAnswer.{RunAnswer}
use Rattle.plan.specs.declared.Verdict as case
use Rattle.plan.specs.Run.{actions_of, Verdict, run_from, last_table}
use Rattle.plan.specs.Calls.{verdict_of, refused_run, run_of}
use Rattle.plan.specs.Meaning.{Comes}
use Rattle.plan.specs.Demand3.{class_of, taken_by, full_verdict, run_full, run_refused}
use Rattle.plan.specs.inner.RunEnds.{final_clauses, final_picture, SameEnd}
use Rattle.plan.proofs.laws.runs.CallVerdicts.{not_full}
use Rattle.plan.proofs.laws.runs.CallRuns.{run_call, last_clauses, refused_call}
use Rattle.plan.proofs.laws.exchanges.ExactRuns.{Exact, table_exact, same_bytes, same_class}
use Rattle.plan.proofs.laws.runs.StartRuns.{verdict_means, last_arrives}
use Rattle.plan.proofs.laws.runs.StartOutcomes.{Kinds}
use Rattle.plan.proofs.laws.runs.RunRefusals.{run_starts}

-- an answer of the call as an exact run
pub record Called (p : Problem) (plan : List Action) (r : RunAnswer) : Type 0 where
  pub answer : Verdict
  pub clauses : Option (List Literals)
  pub exact : Exact p plan answer clauses
  pub verdict_is : r.verdict ≡ verdict_of answer
  pub clauses_are : final_clauses r ≡ clauses

-- the bytes are those of the clauses
pub final_bytes : (r : RunAnswer) (b : List ℕ) → final_picture r ≡ some b → (s : List Literals) × (final_clauses r ≡ some s)
    × (picture_bytes s ≡ b)
unfolding final_picture
final_bytes r b e =
    let k = then_some (final_clauses r) (λ s. some (picture_bytes s)) b e in
    (k.0, k.1, cc k.2)

-- ---- two answers on one problem
module _ (p : Problem) (hn : p.n ≤ 32) (plan other : List Action) (r₁ r₂ : RunAnswer) (k₁ : Called p plan r₁) (k₂ : Called p other r₂)
  where
    -- the worlds that the starting worlds come to by the moves taken
    abbrev One : ℕ → Type 0
    One = Comes p.n (Starting p) (taken_by r₁.verdict plan)

    abbrev Two : ℕ → Type 0
    Two = Comes p.n (Starting p) (taken_by r₂.verdict other)

    pub called_class : ((w : ℕ) → w < 2 ^ p.n → run_world p.n other w ≡ run_world p.n plan w) → run_full r₁ ≡ false → run_full r₂ ≡ false
        → SameEnd r₁ r₂
    unfolding run_full
    called_class alike f₁ f₂ =
        let m = same_class p hn plan other k₁.answer k₂.answer k₁.clauses k₂.clauses k₁.exact k₂.exact alike
        (not_full k₁.answer (sym (ap full_verdict k₁.verdict_is) ∙ f₁))
        (not_full k₂.answer (sym (ap full_verdict k₂.verdict_is) ∙ f₂)) in
        record {
          class = m.0;
          first = ap class_of k₁.verdict_is ∙ m.1.0;
          second = ap class_of k₂.verdict_is ∙ m.1.1;
          pictures = λ h b₁ b₂ q₁ q₂.
              let i = final_bytes r₁ b₁ q₁ in
              let j = final_bytes r₂ b₂ q₂ in
              sym i.2 ∙ m.1.2 h i.0 j.0 (sym k₁.clauses_are ∙ i.1) (sym k₂.clauses_are ∙ j.1) ∙ j.2;
        }

    pub called_both_ways : (b₁ b₂ : List ℕ) → final_picture r₁ ≡ some b₁ → final_picture r₂ ≡ some b₂ → (b₁ ≡ b₂)
        ↔ ((v : ℕ) → v < 2 ^ p.n → One v ↔ Two v)
    called_both_ways b₁ b₂ q₁ q₂ =
        let i = final_bytes r₁ b₁ q₁ in
        let j = final_bytes r₂ b₂ q₂ in
        let m = same_bytes p hn plan other k₁.answer k₂.answer k₁.clauses k₂.clauses k₁.exact k₂.exact i.0 j.0
        (sym k₁.clauses_are ∙ i.1) (sym k₂.clauses_are ∙ j.1) in (
          λ e v l. subst (λ (a : ℕ → Type 0). a v ↔ Two v) (sym one)
              (subst (λ (a : ℕ → Type 0). Answered v ↔ a v) (sym two) (m.0 (i.2 ∙ e ∙ sym j.2) v l)),
          λ h. sym i.2 ∙ m.1 (λ v l. subst (λ (a : ℕ → Type 0). a v ↔ Answering v) one
              (subst (λ (a : ℕ → Type 0). One v ↔ a v) two (h v l))) ∙ j.2,
        )
      where
        Answered : ℕ → Type 0
        Answered = Comes p.n (Starting p) (taken_by (verdict_of k₁.answer) plan)

        Answering : ℕ → Type 0
        Answering = Comes p.n (Starting p) (taken_by (verdict_of k₂.answer) other)

        one : One ≡ Answered
        one = ap (λ (v : case.Verdict). Comes p.n (Starting p) (taken_by v plan)) k₁.verdict_is

        two : Two ≡ Answering
        two = ap (λ (v : case.Verdict). Comes p.n (Starting p) (taken_by v other)) k₂.verdict_is

-- ---- the call on an accepted sheet
module _ (s : List ℕ) (x : Statement) (says : sheet_of s ≡ accepted x) (rows : ℕ) (enough : 65 ≤ rows) where
  abbrev p : Problem
  p = x.problem

  called_table : (t : List Literals) → start_table 128 x.problem ≡ table t → Called p (actions_of p x.plan) (run_of (sheet_of s) rows)
  called_table t starts = record {
    answer = run_from 128 p.goal 0 (actions_of p x.plan) t;
    clauses = picture (last_table 128 (actions_of p x.plan) t);
    exact =
        let h = statement_proper s x says in
        table_exact p h.problem.n_most (actions_of p x.plan) t (verdict_means p h.problem t starts x.plan h.plan.each)
        (last_arrives p h.problem t starts x.plan h.plan.each);
    verdict_is = ap (λ (r : RunAnswer). r.verdict) (run_call s x says rows enough t starts);
    clauses_are = last_clauses s x says rows enough t starts;
  }

  -- ---- a run that is not refused is exact
  pub called : run_refused (run_of (sheet_of s) rows) ≡ false → Called p (actions_of p x.plan) (run_of (sheet_of s) rows)
  called f = let k = run_starts s x says rows f in called_table k.0 k.1

  -- ---- so is one that is not full, where there is a starting world
  pub called_unless_full : (w : ℕ) → w < 2 ^ p.n → Starting p w → run_full (run_of (sheet_of s) rows) ≡ false
      → Called p (actions_of p x.plan) (run_of (sheet_of s) rows)
  called_unless_full w l st f = go (start_kind 128 x.problem)
    where
      go : Kinds x.problem → Called p (actions_of p x.plan) (run_of (sheet_of s) rows)
      go (inl e) = absurd (start_20 p (statement_proper s x says).problem 128 e w l st)
      go (inr (inl e)) = unfold run_full full_verdict refused_run in
          absurd (true≢false (sym (ap run_full (refused_call s x says rows enough 21 e)) ∙ f))
      go (inr (inr k)) = called_table k.0 k.1
