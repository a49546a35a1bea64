-- TH5 by the calls start, step and picture: what a run stops at, the table it returns, its rows. For `run` in proofs/Demands. Assumes
-- nothing.
use mathlib.Core.Path.{◌≡◌, refl, sym, ap, subst, ◌∙◌}
use mathlib.Core.Bool.{Bool, true, false, cond}
use mathlib.Core.List.{List, [], ◌∷◌, ◌++◌, map}
use mathlib.Core.Logic.{◌⊎◌, ◌↔◌}
use mathlib.Core.Option.{Option, none, some, some-injective, none-ne-some}
use Prim.Native.Nat.{ℕ, zero, suc, ◌+◌, ◌-◌, ◌*◌, ◌≤◌, ◌<◌}
use native.Mathlib.Omega.{arith}
use lib.ListN.{length, take, drop, get_or, length-map, length-drop, length-append, get_or-append}
use lib.Seq.{length-take-le, take-length, get_or-drop, get_or-append-add}
use borrow.Author.Tests.{lt-ltb, le-ltb}
use Rattle.sheet.specs.declared.Literals.{Literals}
use Rattle.sheet.specs.Calls.{Answer, Accepted, Refused}
use Rattle.sheet.proofs.laws.reader.ReadSheets.{same_fault}
use Rattle.sheet.specs.Lists.{All}
use Rattle.sheet.specs.Problem.{Action, Problem, Statement}
use Rattle.sheet.specs.Format.{Judgement, accepted, refused, sheet_of}
use Rattle.sheet.specs.Faults.{Says}
use Rattle.sheet.specs.Encoding.{ProperProblem}
use Rattle.sheet.proofs.laws.base.ListFacts.{map_take, map_drop, all_drop}
use Rattle.sheet.proofs.Demands.{statement_proper}
use Rattle.table.specs.declared.Table.{Table}
use Rattle.table.specs.declared.TableAnswer.{TableAnswer}
use Rattle.table.specs.declared.PictureAnswer.{PictureAnswer}
use Rattle.table.specs.Worlds.{and_then, InGoal}
use Rattle.table.specs.Minimal.{In, Described, Outcome}
use Rattle.table.specs.Start.{start_table}
use Rattle.table.specs.Step.{step_table}
use Rattle.table.specs.Picture.{picture, size_of}
use Rattle.table.specs.Entries.{entries, table_of}
use Rattle.table.specs.Calls.{or_given, start_of, action_at, step_of}
use Rattle.table.specs.PictureCalls.{refusal, too_long, picture_of}
use Rattle.table.specs.PictureCalls as pictured
use Rattle.table.specs.CallWords.{OnSheet, WorldOf}
use Rattle.table.proofs.Demands as tables
use Rattle.table.proofs.laws.steps.StepWorlds.{at_proper}
use Rattle.table.proofs.laws.answers.CallTables.{entries_table}
use Rattle.plan.specs.declared.Row.{Row}
use Rattle.plan.specs.declared.RunAnswer.{RunAnswer}
use Rattle.plan.specs.declared.Verdict as case
use Rattle.plan.specs.declared.Verdict.TheVariants as ran
use Rattle.plan.specs.Run.{actions_of, Verdict, reached, short, stopped, full, run_from, last_table, row_of, rows_from}
use Rattle.plan.specs.inner.TableRuns.{moves_taken, then_table, table_at, Refuses}
use Rattle.plan.specs.Calls.{verdict_of, run_of, rows_of, rows_after}
use Rattle.plan.specs.Demand3.{taken_by, run_refused}
use Rattle.plan.specs.DemandWords.{taken, when_accepted, stepped, arrived, StepRefused, clauses_or}
use Rattle.plan.proofs.laws.runs.RunTables.{last_at}
use Rattle.plan.proofs.laws.runs.RunTables as running
use Rattle.plan.proofs.laws.runs.StartRuns.{taken_by_lem, place_arrives, by_stopped, by_full, by_reached, by_short}
use Rattle.plan.proofs.laws.runs.PlanWorlds.{all_take}
use Rattle.plan.proofs.laws.runs.CallRuns.{run_call, rows_call}
use Rattle.plan.proofs.laws.runs.RunRefusals.{run_fault_rows, run_number, run_rows_kept, rows_enough, run_starts}
use Rattle.plan.proofs.laws.runs.CallVerdicts.{verdict_injective, refused_is, not_refused}
use Rattle.plan.proofs.laws.runs.StartOutcomes.{by_outcome}

-- ---- the table at place i of a plan is that of its first i moves
at_take : (i : ℕ) (plan : List Action) (t : List Literals) → table_at 128 i (take i plan) t ≡ table_at 128 i plan t
at_take zero plan t = refl
at_take (suc i) [] t = refl
at_take (suc i) (a ∷ plan) t = go (step_table 128 a t) (at_take i plan)
  where
    go : (o : Outcome) → ((u : List Literals) → table_at 128 i (take i plan) u ≡ table_at 128 i plan u)
        → then_table o (λ u. table_at 128 i (take i plan) u) ≡ then_table o (λ u. table_at 128 i plan u)
    go (Outcome.refused k) ih = refl
    go (Outcome.table u) ih = ih u

-- ---- outcomes as calls
tabled : Option (List Literals) → Option Table
tabled o = and_then o (λ u. some (table_of u))

number_of : (t : Table) (o : Outcome) (N : ℕ) → (or_given t o).answer ≡ Refused N 0 → o ≡ Outcome.refused N
unfolding or_given
number_of t (Outcome.refused k) N e = ap Outcome.refused (same_fault e).0
number_of t (Outcome.table u) N e = absurd (let z : ◌≡◌ {A = ℕ} 0 1 = cc in omega arith)

-- row i after the run, of the table that the first i moves arrive at
abbrev RowAt : List ℕ → Statement → List Row → ℕ → Row → Type 0
RowAt s x rows i d = (u : Table) × (arrived s (take i x.plan) ≡ some u)
    × (get_or (rows_after (sheet_of s) rows) i d
    ≡ record {
      place = i;
      entries = u.count;
      clauses = clauses_or (picture_of (sheet_of s) u 2050).answer (picture_of (sheet_of s) u 2050).clauses;
    })

module _ (s : List ℕ) (x : Statement) (says : Says s x) where
  abbrev p : Problem
  p = x.problem

  abbrev plan : List Action
  plan = actions_of x.problem x.plan

  hp : ProperProblem p
  hp = (statement_proper s x says).problem

  hq : All (λ i. i < length p.actions) x.plan
  hq = (statement_proper s x says).plan.each

  size : length x.plan ≡ length plan
  unfolding actions_of
  size = sym (length-map x.plan (action_at p))

  -- the call step on a table as described
  step_call : (u : List Literals) → Described 128 p.n u → (m : ℕ) → OnSheet x m
      → step_of (sheet_of s) (table_of u) m ≡ or_given (table_of u) (step_table 128 (action_at p m) u)
  unfolding step_of
  step_call u d m on = rw (
    says,
    lt-ltb m (length x.problem.actions) on,
    entries_table u d.most,
    (tables.described_iff 128 x.problem.n u).1 d,
  )
      (ap (λ (es : List Literals). or_given (table_of u) (step_table 128 (action_at p m) es)) (entries_table u d.most))

  -- the table after some moves
  stepped_at : (ms : List ℕ) → All (λ m. m < length x.problem.actions) ms → (u : List Literals) → Described 128 p.n u
      → stepped s ms (table_of u) ≡ tabled (table_at 128 (length ms) (actions_of p ms) u)
  unfolding tabled actions_of
  stepped_at [] h u d = refl
  stepped_at (m ∷ ms) h u d = ap (λ (r : TableAnswer). and_then (when_accepted r.answer r.table) (λ v. stepped s ms v))
      (step_call u d m h.0) ∙ go (step_table 128 (action_at p m) u) refl (stepped_at ms h.1)
    where
      go : (o : Outcome) → step_table 128 (action_at p m) u ≡ o
          → ((v : List Literals) → Described 128 p.n v → stepped s ms (table_of v) ≡ tabled
          (table_at 128 (length ms) (map (action_at p) ms) v))
          → and_then (when_accepted (or_given (table_of u) o).answer (or_given (table_of u) o).table) (λ v. stepped s ms v)
          ≡ tabled (then_table o (λ v. table_at 128 (length ms) (map (action_at p) ms) v))
      go (Outcome.refused k) e ih = unfold or_given in refl
      go (Outcome.table v) e ih = unfold or_given in ih v
          (tables.step_table_lem p.n hp.n_most (action_at p m) (at_proper p hp m h.0) u d 128 v e).0

  -- ---- from the start table
  module _ (t : List Literals) (starts : start_table 128 x.problem ≡ Outcome.table t) where
    first : Described 128 p.n t
    first = (tables.start_table_lem p hp 128 t starts).0 (omega arith)

    start_call : start_of (sheet_of s) ≡ record { answer = Accepted; table = table_of t }
    unfolding start_of or_given
    start_call = rw (says, starts)

    arrived_at : (i : ℕ) → i ≤ length x.plan → arrived s (take i x.plan) ≡ tabled (table_at 128 i plan t)
    arrived_at i l =
        ap (λ (r : TableAnswer). and_then (when_accepted r.answer r.table) (λ v. stepped s (take i x.plan) v)) start_call
        ∙ stepped_at (take i x.plan) (all_take (λ m. m < length x.problem.actions) i x.plan hq) t first
        ∙ ap tabled (place ∙ at_take i plan t)
      where
        place : table_at 128 (length (take i x.plan)) (actions_of p (take i x.plan)) t ≡ table_at 128 i (take i plan) t
        place = unfold actions_of in
            ap (λ (j : ℕ). table_at 128 j (map (action_at p) (take i x.plan)) t) (length-take-le i x.plan l)
            ∙ ap (λ (a : List Action). table_at 128 i a t) (map_take (action_at p) i x.plan)

    arrived_some : (i : ℕ) (u : List Literals) → i ≤ length x.plan → table_at 128 i plan t ≡ some u
        → arrived s (take i x.plan) ≡ some (table_of u)
    unfolding tabled
    arrived_some i u l e = arrived_at i l ∙ ap tabled e

    place_described : (i : ℕ) (u : List Literals) → table_at 128 i plan t ≡ some u → Described 128 p.n u
    place_described i u e = (place_arrives p hp t starts x.plan hq i u e).described

    -- ---- a step that is refused, by the tables and by the calls
    refuses_call : (j N : ℕ) → Refuses 128 plan t j N → StepRefused s x.plan (suc j) N
    refuses_call j N r = go (drop j x.plan) refl
      where
        low : j < length x.plan
        low = omega (arith, size, running.refuses_within 128 plan t j N r)

        next : map (action_at p) (drop j x.plan) ≡ r.move ∷ r.later
        next = unfold actions_of in map_drop (action_at p) j x.plan ∙ r.next

        go : (l : List ℕ) → drop j x.plan ≡ l → StepRefused s x.plan (suc j) N
        go [] e = absurd (omega (arith, low, length-drop j x.plan, ap length e))
        go (m ∷ ms) e = record {
          before = j;
          place = refl;
          move = m;
          later = ms;
          next = e;
          last = table_of r.last;
          arrives = arrived_some j r.last (omega (arith, low)) r.arrives;
          gives = refuses;
        }
          where
            on : OnSheet x m
            on = (subst (All (λ i. i < length p.actions)) e (all_drop (λ i. i < length p.actions) j x.plan hq)).0

            move : action_at p m ≡ r.move
            move = let q : map (action_at p) (m ∷ ms) ≡ r.move ∷ r.later = ap (map (action_at p)) (sym e) ∙ next in cc

            refuses : (step_of (sheet_of s) (table_of r.last) m).answer ≡ Refused N 0
            refuses = unfold or_given in
                ap (λ (z : TableAnswer). z.answer)
                (step_call r.last (place_described j r.last r.arrives) m on
                ∙ ap (or_given (table_of r.last)) (ap (λ (a : Action). step_table 128 a r.last) move ∙ r.gives))

    call_refuses : (k N : ℕ) → StepRefused s x.plan k N → (j : ℕ) × (k ≡ suc j) × Refuses 128 plan t j N
    call_refuses k N r = (
      r.before,
      r.place,
      go (table_at 128 r.before plan t) refl
          (sym (arrived_at r.before (omega (arith, low))) ∙ r.arrives),
    )
      where
        low : r.before < length x.plan
        low = omega (arith, length-drop r.before x.plan, ap length r.next)

        on : OnSheet x r.move
        on = (subst (All (λ i. i < length p.actions)) r.next (all_drop (λ i. i < length p.actions) r.before x.plan hq)).0

        go : (o : Option (List Literals)) → table_at 128 r.before plan t ≡ o → tabled o ≡ some r.last
            → Refuses 128 plan t r.before N
        go none e f = unfold tabled in absurd (none-ne-some r.last f)
        go (some u) e f = record {
          last = u;
          arrives = e;
          move = action_at p r.move;
          later = map (action_at p) r.later;
          next = unfold actions_of in sym (map_drop (action_at p) r.before x.plan) ∙ ap (map (action_at p)) r.next;
          gives = number_of (table_of u) (step_table 128 (action_at p r.move) u) N
              (ap (λ (z : TableAnswer). z.answer) (sym (step_call u (place_described r.before u e) r.move on))
              ∙ ap (λ (l : Table). (step_of (sheet_of s) l r.move).answer) is ∙ r.gives);
        }
          where
            is : table_of u ≡ r.last
            is = unfold tabled in some-injective (table_of u) r.last f

    -- ---- the table at the end
    arrived_all : arrived s x.plan ≡ tabled (table_at 128 (length plan) plan t)
    arrived_all =
        ap (arrived s) (sym (take-length x.plan))
        ∙ arrived_at (length x.plan) (omega arith)
        ∙ ap (λ (i : ℕ). tabled (table_at 128 i plan t)) size

    arrived_end : (u : List Literals) → table_at 128 (length plan) plan t ≡ some u → arrived s x.plan ≡ some (table_of u)
    unfolding tabled
    arrived_end u e = arrived_all ∙ ap tabled e

    end_arrived : (u : Table) → arrived s x.plan ≡ some u → (v : List Literals) × (table_at 128 (length plan) plan t ≡ some v)
        × (table_of v ≡ u)
    end_arrived u e = go (table_at 128 (length plan) plan t) refl (sym arrived_all ∙ e)
      where
        go : (o : Option (List Literals)) → table_at 128 (length plan) plan t ≡ o → tabled o ≡ some u → (v : List Literals)
            × (table_at 128 (length plan) plan t ≡ some v) × (table_of v ≡ u)
        go none f g = unfold tabled in absurd (none-ne-some u g)
        go (some v) f g = (v, f, unfold tabled in some-injective (table_of v) u g)

    held : (u : List Literals) → table_at 128 (length plan) plan t ≡ some u → entries (table_of u) ≡ u
    held u e = entries_table u (place_described (length plan) u e).most

    -- ---- verdicts
    module _ (rows : ℕ) (enough : 65 ≤ rows) where
      abbrev verdict : Verdict
      verdict = run_from 128 x.problem.goal 0 (actions_of x.problem x.plan) t

      call_verdict : (run_of (sheet_of s) rows).verdict ≡ verdict_of verdict
      call_verdict = ap (λ (r : RunAnswer). r.verdict) (run_call s x says rows enough t starts)

      stopped_is : (k N : ℕ) → ((run_of (sheet_of s) rows).verdict ≡ ran.Stopped k N) ↔ (StepRefused s x.plan k N × ((N ≡ 24) ⊎ (N ≡ 25)))
      unfolding verdict_of
      stopped_is k N = (
        λ e.
            let r = (by_stopped p hp t starts x.plan hq k N).0 (verdict_injective verdict (stopped k N) (sym call_verdict ∙ e)) in
            (subst (λ (i : ℕ). StepRefused s x.plan i N) (sym r.1) (refuses_call r.0 N r.2), r.3),
        λ h. let r = call_refuses k N h.0 in call_verdict
            ∙ ap verdict_of ((by_stopped p hp t starts x.plan hq k N).1 (r.0, r.1, r.2, h.1)),
      )

      full_is : (k : ℕ) → ((run_of (sheet_of s) rows).verdict ≡ ran.Full k) ↔ StepRefused s x.plan k 21
      unfolding verdict_of
      full_is k = (
        λ e.
            let r = (by_full p hp t starts x.plan hq k).0 (verdict_injective verdict (full k) (sym call_verdict ∙ e)) in
            subst (λ (i : ℕ). StepRefused s x.plan i 21) (sym r.1) (refuses_call r.0 21 r.2),
        λ h. let r = call_refuses k 21 h in call_verdict ∙ ap verdict_of ((by_full p hp t starts x.plan hq k).1 (r.0, r.1, r.2)),
      )

      reached_is : ((run_of (sheet_of s) rows).verdict ≡ ran.Reached)
          ↔ ((u : Table) × (arrived s x.plan ≡ some u) × ((w : ℕ) → WorldOf x u w → InGoal p.n p.goal w))
      unfolding verdict_of
      reached_is = (
        λ e.
            let r = (by_reached p hp t starts x.plan hq).0 (verdict_injective verdict reached (sym call_verdict ∙ e)) in (
              table_of r.0,
              arrived_end r.0 r.1,
              λ w h. r.2 w h.0
                  (subst (λ (es : List Literals). In p.n es w) (held r.0 r.1) h.1),
            ),
        λ h.
            let r = end_arrived h.0 h.1 in
            call_verdict ∙ ap verdict_of
            ((by_reached p hp t starts x.plan hq).1 (
              r.0,
              r.1,
              λ w l i. h.2 w
                  (l, subst (λ (es : List Literals). In p.n es w) (sym (ap entries (sym r.2) ∙ held r.0 r.1)) i),
            )),
      )

      short_is : ((run_of (sheet_of s) rows).verdict ≡ ran.Short)
          ↔ ((u : Table) × (arrived s x.plan ≡ some u) × ((w : ℕ) × WorldOf x u w × (InGoal p.n p.goal w → ⊥)))
      unfolding verdict_of
      short_is = (
        λ e.
            let r = (by_short p hp t starts x.plan hq).0 (verdict_injective verdict short (sym call_verdict ∙ e)) in
            let k = r.2 in (
              table_of r.0,
              arrived_end r.0 r.1,
              (k.0, (k.1, subst (λ (es : List Literals). In p.n es k.0) (sym (held r.0 r.1)) k.2), k.3),
            ),
        λ h.
            let r = end_arrived h.0 h.1 in
            let k = h.2 in
            call_verdict
            ∙ ap verdict_of ((by_short p hp t starts x.plan hq).1 (
              r.0,
              r.1,
              (
                k.0,
                k.1.0,
                subst (λ (es : List Literals). In p.n es k.0)
                    (ap entries (sym r.2) ∙ held r.0 r.1) k.1.1,
                k.2,
              ),
            )),
      )

      -- ---- the moves taken
      taken_first : taken s x rows ≡ take (moves_taken 128 plan t) x.plan
      taken_first = ap (λ (v : case.Verdict). taken_by v x.plan) call_verdict ∙ taken_by_lem 128 x.problem.goal plan t x.plan size

      taken_count : length (taken s x rows) ≡ moves_taken 128 plan t
      taken_count =
          ap length taken_first ∙ length-take-le (moves_taken 128 plan t) x.plan (omega (arith, size, running.taken_within 128 plan t))

      last_is : arrived s (taken s x rows) ≡ some (run_of (sheet_of s) rows).table
      last_is =
          ap (arrived s) taken_first
          ∙ arrived_some (moves_taken 128 plan t) (last_table 128 plan t) (omega (arith, size, running.taken_within 128 plan t))
          (last_at 128 plan t)
          ∙ ap some (sym (ap (λ (r : RunAnswer). r.table) (run_call s x says rows enough t starts)))

      -- ---- the rows
      rows_are : rows_of (sheet_of s) rows ≡ rows_from 128 0 plan t
      rows_are = rows_call s x says rows enough t starts

      rows_many : length (rows_of (sheet_of s) rows) ≡ suc (moves_taken 128 plan t)
      rows_many = ap length rows_are ∙ running.rows_length 128 0 plan t

      rows_fit : length (rows_of (sheet_of s) rows) ≤ 65
      rows_fit = omega (arith, rows_many, running.taken_within 128 plan t, size, (statement_proper s x says).plan.most)

    -- the clauses of a row, by the picture call
    row_clauses : (u : List Literals) → Described 128 p.n u
        → clauses_or (picture_of (sheet_of s) (table_of u) 2050).answer (picture_of (sheet_of s) (table_of u) 2050).clauses ≡ size_of
        (picture u)
    row_clauses u d = ap (λ (r : PictureAnswer). clauses_or r.answer r.clauses) call ∙ go (picture u) refl
      where
        call : picture_of (sheet_of s) (table_of u) 2050 ≡ pictured.given (picture u) 2050
        call = unfold picture_of in rw (says, entries_table u d.most, (tables.described_iff 128 x.problem.n u).1 d) refl

        go : (o : Option (List Literals)) → picture u ≡ o → clauses_or (pictured.given o 2050).answer (pictured.given o 2050).clauses
            ≡ size_of o
        go none e = unfold pictured.given refusal size_of in refl
        go (some c) e = unfold pictured.given size_of in ap
            (λ (b : Bool). clauses_or (cond b (refusal 23 0) (record { answer = Accepted; clauses = length c })).answer
            (cond b (refusal 23 0) (record { answer = Accepted; clauses = length c })).clauses) fits
          where
            fits : too_long c 2050 ≡ false
            fits = unfold too_long in le-ltb 2050 (2 + 8 * length c) (omega (arith, (tables.picture_ascending hp.n_most d e).1))

    -- ---- the lent rows after the run
    module _ (rows : List Row) (enough : 65 ≤ length rows) where
      abbrev wrote : List Row
      wrote = rows_of (sheet_of s) (length rows)

      row_is : (i : ℕ) → i ≤ length (taken s x (length rows)) → (d : Row) → RowAt s x rows i d
      row_is i l d = (table_of k.0, arrived_some i k.0 below k.1, inside ∙ row)
        where
          below : i ≤ length x.plan
          below = omega (arith, l, taken_count (length rows) enough, running.taken_within 128 plan t, size)

          k : (u : List Literals) × (table_at 128 i plan t ≡ some u)
          k = (running.arrived 128 plan t i).0 (omega (arith, l, taken_count (length rows) enough))

          inside : get_or (rows_after (sheet_of s) rows) i d ≡ get_or wrote i d
          inside = unfold rows_after in get_or-append wrote (drop (length wrote) rows) d i
              (omega (arith, l, taken_count (length rows) enough, rows_many (length rows) enough))

          row : get_or wrote i d ≡ record {
            place = i;
            entries = (table_of k.0).count;
            clauses = clauses_or (picture_of (sheet_of s) (table_of k.0) 2050).answer
                (picture_of (sheet_of s) (table_of k.0) 2050).clauses;
          }
          row = unfold table_of row_of in
              ap (λ (r : List Row). get_or r i d) (rows_are (length rows) enough)
              ∙ running.row_at_lem 128 0 plan t i k.0 d k.1
              ∙ ap (λ (j : ℕ). row_of j k.0) (omega arith)
              ∙ ap {B = Row} (λ (c : ℕ). record { place = i; entries = length k.0; clauses = c })
              (sym (row_clauses k.0 (place_described i k.0 k.1)))

      rest_is : (i : ℕ) → length (taken s x (length rows)) < i → (d : Row) → get_or (rows_after (sheet_of s) rows) i d ≡ get_or rows i d
      unfolding rows_after
      rest_is i l d =
          ap (λ (j : ℕ). get_or (wrote ++ drop (length wrote) rows) j d) far
          ∙ get_or-append-add wrote (drop (length wrote) rows) (i - length wrote) d
          ∙ get_or-drop (length wrote) rows (i - length wrote) d
          ∙ ap (λ (j : ℕ). get_or rows j d) (sym far)
        where
          far : i ≡ length wrote + (i - length wrote)
          far = omega (arith, l, taken_count (length rows) enough, rows_many (length rows) enough)

      as_many : length (rows_after (sheet_of s) rows) ≡ length rows
      unfolding rows_after
      as_many = omega (
        arith,
        length-append wrote (drop (length wrote) rows),
        length-drop (length wrote) rows,
        rows_fit (length rows) enough,
        enough,
      )

  -- ---- the start is refused
  module _ (N : ℕ) (starts : start_table 128 x.problem ≡ Outcome.refused N) where
    nowhere : (ms : List ℕ) → arrived s ms ≡ none
    nowhere ms = ap (λ (a : Answer). and_then (when_accepted a (start_of (sheet_of s)).table) (λ v. stepped s ms v))
        ((tables.start_number s x says N 0).1 (refl, starts))

    no_step : {X : Type 0} (k M : ℕ) → StepRefused s x.plan k M → X
    no_step k M r = absurd (none-ne-some r.last (sym (nowhere (take r.before x.plan)) ∙ r.arrives))

    no_end : (u : Table) → arrived s x.plan ≡ some u → ⊥
    no_end u e = none-ne-some u (sym (nowhere x.plan) ∙ e)

  no_verdict : (rows : ℕ) → 65 ≤ rows → (v : Verdict) (N : ℕ) → start_table 128 x.problem ≡ Outcome.refused N
      → (run_of (sheet_of s) rows).verdict ≡ verdict_of v → ⊥
  no_verdict rows h v N starts e = not_refused v N 0 (sym e ∙ (run_number s x says rows h N 0).1 (refl, starts))

  -- ---- both together
  pub run_stopped_at : (rows : ℕ) → 65 ≤ rows → (k N : ℕ) → ((run_of (sheet_of s) rows).verdict ≡ ran.Stopped k N)
      ↔ (StepRefused s x.plan k N × ((N ≡ 24) ⊎ (N ≡ 25)))
  unfolding verdict_of
  run_stopped_at rows h k N =
      by_outcome x.problem (no_verdict rows h (stopped k N)) (λ M e a. no_step M e k N a.0) (λ t e. stopped_is t e rows h k N)

  pub run_full_at : (rows : ℕ) → 65 ≤ rows → (k : ℕ) → ((run_of (sheet_of s) rows).verdict ≡ ran.Full k) ↔ StepRefused s x.plan k 21
  unfolding verdict_of
  run_full_at rows h k =
      by_outcome x.problem (no_verdict rows h (full k)) (λ M e a. no_step M e k 21 a) (λ t e. full_is t e rows h k)

  pub run_reached_at : (rows : ℕ) → 65 ≤ rows
      → ((run_of (sheet_of s) rows).verdict ≡ ran.Reached)
      ↔ ((u : Table) × (arrived s x.plan ≡ some u) × ((w : ℕ) → WorldOf x u w → InGoal p.n p.goal w))
  unfolding verdict_of
  run_reached_at rows h =
      by_outcome x.problem (no_verdict rows h reached) (λ M e a. no_end M e a.0 a.1) (λ t e. reached_is t e rows h)

  pub run_short_at : (rows : ℕ) → 65 ≤ rows
      → ((run_of (sheet_of s) rows).verdict ≡ ran.Short)
      ↔ ((u : Table) × (arrived s x.plan ≡ some u) × ((w : ℕ) × WorldOf x u w × (InGoal p.n p.goal w → ⊥)))
  unfolding verdict_of
  run_short_at rows h =
      by_outcome x.problem (no_verdict rows h short) (λ M e a. no_end M e a.0 a.1) (λ t e. short_is t e rows h)

  pub run_last : (rows : ℕ) → run_refused (run_of (sheet_of s) rows) ≡ false
      → arrived s (taken s x rows) ≡ some (run_of (sheet_of s) rows).table
  run_last rows f = last_is (run_starts s x says rows f).0 (run_starts s x says rows f).1 rows (rows_enough s x says rows f)

  pub run_row : (rows : List Row) → run_refused (run_of (sheet_of s) (length rows)) ≡ false → (i : ℕ) → i ≤ length (taken s x (length rows))
      → (d : Row) → RowAt s x rows i d
  run_row rows f = row_is (run_starts s x says (length rows) f).0 (run_starts s x says (length rows) f).1 rows
      (rows_enough s x says (length rows) f)

  -- a refused run keeps all rows
  kept : (rows : List Row) → run_refused (run_of (sheet_of s) (length rows)) ≡ true → rows_after (sheet_of s) rows ≡ rows
  unfolding run_refused
  kept rows f = let r = refused_is (run_of (sheet_of s) (length rows)).verdict f in run_rows_kept s rows r.0 r.1 r.2

  pub run_rest : (rows : List Row) (i : ℕ) → length (taken s x (length rows)) < i → (d : Row)
      → get_or (rows_after (sheet_of s) rows) i d ≡ get_or rows i d
  run_rest rows i l d = go (run_refused (run_of (sheet_of s) (length rows))) refl
    where
      go : (b : Bool) → run_refused (run_of (sheet_of s) (length rows)) ≡ b → get_or (rows_after (sheet_of s) rows) i d ≡ get_or rows i d
      go true f = ap (λ (r : List Row). get_or r i d) (kept rows f)
      go false f = rest_is (run_starts s x says (length rows) f).0 (run_starts s x says (length rows) f).1 rows
          (rows_enough s x says (length rows) f) i l d

  same_length : (rows : List Row) → length (rows_after (sheet_of s) rows) ≡ length rows
  same_length rows = go (run_refused (run_of (sheet_of s) (length rows))) refl
    where
      go : (b : Bool) → run_refused (run_of (sheet_of s) (length rows)) ≡ b → length (rows_after (sheet_of s) rows) ≡ length rows
      go true f = ap length (kept rows f)
      go false f = as_many (run_starts s x says (length rows) f).0 (run_starts s x says (length rows) f).1 rows
          (rows_enough s x says (length rows) f)

pub rows_length : (s : List ℕ) (rows : List Row) → length (rows_after (sheet_of s) rows) ≡ length rows
rows_length s rows = go (sheet_of s) refl
  where
    go : (j : Judgement) → sheet_of s ≡ j → length (rows_after (sheet_of s) rows) ≡ length rows
    go (refused k q) e = ap length (run_fault_rows s rows k q e)
    go (accepted x) e = same_length s x e rows
