-- The loop of a run: one row and one move more, its invariant (`Going`: what is left of the plan gives, after the rows so far, the whole),
-- and how it ends. For `runs::run_from`. Assumes nothing.
use mathlib.Core.Path.{◌≡◌, refl, sym, ap, ◌∙◌}
use mathlib.Core.List.{List, [], ◌∷◌, ◌++◌, map, map-append, append_assoc}
use Prim.Native.Nat.{ℕ, ◌+◌, ◌≤◌, ◌<◌, suc}
use native.Mathlib.Numerals.{add-one}
use native.Mathlib.Omega.{arith}
use lib.Dec.{eqb}
use lib.ListN.{length, get_or, drop, length-append, set, length-map, length-take, drop_of_length-le}
use lib.Seq.{drop-cons}
use Rattle.sheet.specs.Lists.{All, all_of, pad}
use Rattle.sheet.specs.Problem.{Action}
use Rattle.sheet.specs.declared.Plan.{Plan}
use Rattle.sheet.specs.inner.Decoded.{plan_in}
use Rattle.sheet.specs.inner.Packed.{sets_in, goal_in, moves_in, action_of}
use Rattle.sheet.specs.declared.Literals.{Literals}
use Rattle.sheet.proofs.laws.base.ListFacts.{all_at}
use Rattle.sheet.proofs.laws.base.Padding.{pad_set}
use Rattle.table.specs.Minimal.{Outcome, refused, table}
use Rattle.table.specs.Step.{step_table}
use Rattle.table.specs.Entries.{table_of}
use Rattle.plan.specs.declared.Row.{Row}
use Rattle.plan.specs.declared.Counts.{Counts}
use Rattle.plan.specs.declared.Course.{Course}
use Rattle.plan.specs.declared.Verdict as case
use Rattle.plan.specs.Run.{in_goal, ended_in, halted_by, row_of, onward, run_from, table_or, last_table, rows_or, rows_from}
use Rattle.plan.specs.Calls.{verdict_of}
use Rattle.plan.specs.inner.Course.{counts_of, course_in, noted, course_from}
use Rattle.plan.specs.inner.Movable.{Movable, Runnable}
use Rattle.plan.proofs.laws.runs.Moving.{moved_on}

-- ---- one row more
note_row : (rows : List Row) (place : ℕ) (t : List Literals) → length rows < 65
    → noted (counts_of rows) t ≡ counts_of (rows ++ row_of place t ∷ [])
unfolding noted counts_of row_of
note_row rows place t lt = λ j. record
    { count = n j; entries = pushed (λ (r : Row). r.entries) j; clauses = pushed (λ (r : Row). r.clauses) j }
  where
    n : length rows + 1 ≡ length (rows ++ row_of place t ∷ [])
    n = sym (length-append rows (row_of place t ∷ []))

    pushed : (f : Row → ℕ) → set (pad 65 0 (map f rows)) (length rows) (f (row_of place t)) ≡ pad 65 0 (map f (rows ++ row_of place t ∷ []))
    pushed f = pad_set 65 0 (map f rows) (f (row_of place t)) (length rows) (length-map rows f) lt
        ∙ ap (pad 65 0) (sym (map-append f rows (row_of place t ∷ [])))

-- ---- one move more
module _ (goal : List Literals) (rows : List Row) (place : ℕ) (a : Action) (plan : List Action) (t : List Literals) where
  taken : (u : List Literals) → step_table 128 a t ≡ table u
      → course_from goal rows place (a ∷ plan) t ≡ course_from goal (rows ++ row_of place t ∷ []) (suc place) plan u
  unfolding course_from
  taken u e =
      (λ j. record {
        ran = record {
          verdict = verdict_of (onward (e j) (suc place) (λ v. run_from 128 goal (suc place) plan v));
          table = table_of (table_or (e j) t (λ v. last_table 128 plan v));
        };
        counts = counts_of (rows ++ row_of place t ∷ rows_or (e j) (λ v. rows_from 128 (suc place) plan v));
      })
      ∙ ap (λ (r : List Row). record {
        ran = record { verdict = verdict_of (run_from 128 goal (suc place) plan u); table = table_of (last_table 128 plan u) };
        counts = counts_of r;
      })
      (sym (append_assoc rows (row_of place t ∷ []) (rows_from 128 (suc place) plan u)))

  halted : (k : ℕ) → step_table 128 a t ≡ refused k
      → course_from goal rows place (a ∷ plan) t ≡ course_in (verdict_of (halted_by (eqb k 21) (suc place) k)) t
      (counts_of (rows ++ row_of place t ∷ []))
  unfolding course_from
  halted k e = λ j. record {
    ran = record {
      verdict = verdict_of (onward (e j) (suc place) (λ v. run_from 128 goal (suc place) plan v));
      table = table_of (table_or (e j) t (λ v. last_table 128 plan v));
    };
    counts = counts_of (rows ++ row_of place t ∷ rows_or (e j) (λ v. rows_from 128 (suc place) plan v));
  }

-- ---- the loop
-- the moves of some numbers from place i on
abbrev pub left : List ℕ → List ℕ → ℕ → List Action
left numbers packed i = map (action_of (moves_in packed)) (drop i numbers)

-- what is left of the plan gives, after the rows so far, what the whole gives
pub record Going (numbers packed : List ℕ) (whole : Course) (i : ℕ) (es : List Literals) (c : Counts) : Type 0 where
  pub count : ℕ
  pub fits : Movable packed count es
  pub few : length numbers ≤ 64
  pub below : All (λ j. j < count) numbers
  pub rows : List Row
  pub so_far : length rows ≡ i
  pub counts_are : c ≡ counts_of rows
  pub onwards : course_from (sets_in (goal_in packed)) rows i (left numbers packed i) es ≡ whole

pub going_start : {packed : List ℕ} {plan : Plan} {es : List Literals} {c : Counts} → Runnable plan packed es
    → c ≡ counts_of []
    → Going (plan_in plan) packed (course_from (sets_in (goal_in packed)) [] 0 (left (plan_in plan) packed 0) es) 0 es c
unfolding plan_in
going_start {plan = plan} h e = record {
  count = h.count;
  fits = h.fits;
  few = omega (arith, length-take plan.count plan.numbers, h.most);
  below = h.numbers;
  rows = [];
  so_far = refl;
  counts_are = e;
  onwards = refl;
}

module _ {numbers packed : List ℕ} {whole : Course} {i : ℕ} {es : List Literals} {c : Counts} (h : Going numbers packed whole i es c)
  where
    -- there is room for a row
    pub going_room : i ≤ length numbers → c.count < 65
    unfolding counts_of
    going_room k = let e = ap (λ (y : Counts). y.count) h.counts_are in omega (arith, e, h.so_far, h.few, k)

    module _ {d : Counts} (ed : d ≡ noted c es) where
      noted_rows : i < 65 → d ≡ counts_of (h.rows ++ row_of i es ∷ [])
      noted_rows k = ed ∙ ap (λ (y : Counts). noted y es) h.counts_are ∙ note_row h.rows i es (omega (arith, h.so_far, k))

      -- after the last move
      pub going_end : i ≤ length numbers → length numbers ≤ i → {v : case.Verdict}
          → v ≡ verdict_of (ended_in (all_of (in_goal (sets_in (goal_in packed))) es)) → course_in v es d ≡ whole
      unfolding course_from
      going_end le k ev =
          (λ j. course_in (ev j) es (noted_rows (omega (arith, le, h.few)) j))
          ∙ sym (ap (λ (p : List ℕ). course_from (sets_in (goal_in packed)) h.rows i (map (action_of (moves_in packed)) p) es)
          (drop_of_length-le numbers k))
          ∙ h.onwards

      module _ (lt : i < length numbers) where
        abbrev m : ℕ
        m = get_or numbers i 0

        -- the number of the next move is that of a move
        pub next_below : m < h.count
        next_below = all_at (λ n. n < h.count) numbers i 0 lt h.below

        unrolled : course_from (sets_in (goal_in packed)) h.rows i (action_of (moves_in packed) m ∷ left numbers packed (i + 1)) es ≡ whole
        unrolled =
            sym (ap (λ (p : List ℕ). course_from (sets_in (goal_in packed)) h.rows i (map (action_of (moves_in packed)) p) es)
            (drop-cons numbers i 0 lt ∙ ap (λ (j : ℕ). m ∷ drop j numbers) (sym (add-one i))))
            ∙ h.onwards

        rows_are : d ≡ counts_of (h.rows ++ row_of i es ∷ [])
        rows_are = noted_rows (omega (arith, lt, h.few))

        -- the step by a number that is the next one
        next_step : {n : ℕ} → n ≡ m → step_table 128 (action_of (moves_in packed) n) es ≡ step_table 128 (action_of (moves_in packed) m) es
        next_step = ap (λ (k : ℕ). step_table 128 (action_of (moves_in packed) k) es)

        -- such a step gave a table
        pub going_on : {us : List Literals} {n : ℕ} → table us ≡ step_table 128 (action_of (moves_in packed) n) es → n ≡ m
            → Going numbers packed whole (i + 1) us d
        going_on {us} by is = let e = by ∙ next_step is in record {
          count = h.count;
          fits = moved_on h.fits next_below (sym e);
          few = h.few;
          below = h.below;
          rows = h.rows ++ row_of i es ∷ [];
          so_far = omega (arith, h.so_far, length-append h.rows (row_of i es ∷ []));
          counts_are = rows_are;
          onwards =
              ap (λ (n : ℕ). course_from (sets_in (goal_in packed)) (h.rows ++ row_of i es ∷ []) n (left numbers packed (i + 1)) us)
              (add-one i)
              ∙ sym (taken (sets_in (goal_in packed)) h.rows i (action_of (moves_in packed) m) (left numbers packed (i + 1)) es us (sym e))
              ∙ unrolled;
        }

        -- such a step was refused, and the table kept
        pub going_halt : {k : ℕ} {us : List Literals} {n : ℕ} → refused k ≡ step_table 128 (action_of (moves_in packed) n) es
            → us ≡ table_or (step_table 128 (action_of (moves_in packed) n) es) es (λ u. u) → n ≡ m → {v : case.Verdict}
            → v ≡ verdict_of (halted_by (eqb k 21) d.count k) → course_in v us d ≡ whole
        unfolding counts_of
        going_halt {k} by kept is ev =
            let e = by ∙ next_step is in
            let at : d.count ≡ suc i = omega
            (arith, ap (λ (y : Counts). y.count) rows_are, h.so_far, length-append h.rows (row_of i es ∷ [])) in
            (λ j. course_in ((ev ∙ ap (λ (n : ℕ). verdict_of (halted_by (eqb k 21) n k)) at) j)
            ((kept ∙ ap (λ (o : Outcome). table_or o es (λ u. u)) (sym by)) j) (rows_are j))
            ∙ sym (halted (sets_in (goal_in packed)) h.rows i (action_of (moves_in packed) m) (left numbers packed (i + 1)) es k (sym e))
            ∙ unrolled
