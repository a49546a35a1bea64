-- TH7, TH9: exchanged plans are plans on the sheet; the final picture by the picture call and by its clauses; two plans on one sheet, one
-- what a list of exchanges makes of the other, or any two. For `demand_3` in proofs/Demands. Assumes nothing.
use mathlib.Core.Path.{◌≡◌, refl, sym, ap, subst, ◌∙◌}
use mathlib.Core.Bool.{Bool, true, false, cond}
use mathlib.Core.List.{List, [], ◌++◌}
use mathlib.Core.Logic.{◌⊎◌, inl, inr, ◌↔◌}
use mathlib.Core.Option.{Option, none, some, some-injective, none-ne-some, some-ne-none}
use Prim.Native.Nat.{ℕ, ◌+◌, ◌*◌, ◌^◌, ◌≤◌, ◌<◌}
use native.Mathlib.Omega.{arith}
use lib.ListN.{length, take, drop, replicate, length-replicate}
use lib.Seq.{take-append_seam}
use Rattle.sheet.specs.declared.Literals.{Literals}
use Rattle.sheet.specs.Calls.{Accepted, Refused}
use Rattle.sheet.specs.Problem.{Action, Problem, Statement}
use Rattle.sheet.specs.Format.{accepted, sheet_of}
use Rattle.sheet.specs.Faults.{Says}
use Rattle.sheet.specs.Encoding.{ProperAction, ProperProblem, ProperStatement, encode}
use Rattle.sheet.proofs.laws.base.ListFacts.{all_map}
use Rattle.sheet.proofs.Demands.{accepted_encoding, statement_proper}
use Rattle.table.specs.declared.Table.{Table}
use Rattle.table.specs.declared.PictureAnswer.{PictureAnswer}
use Rattle.table.specs.Worlds.{step_world, and_then, run_world, Starting}
use Rattle.table.specs.Picture.{picture, picture_bytes}
use Rattle.table.specs.Entries.{entries}
use Rattle.table.specs.Calls.{action_at}
use Rattle.table.specs.PictureCalls.{picture_of, buffer_of}
use Rattle.table.specs.CallWords.{AsDescribed, Starts}
use Rattle.table.proofs.laws.steps.StepWorlds.{at_proper}
use Rattle.table.proofs.laws.answers.CallTables.{entries_table}
use Rattle.table.proofs.Demands as tables
use Rattle.plan.specs.declared.RunAnswer.{RunAnswer}
use Rattle.plan.specs.declared.Verdict.TheVariants as ran
use Rattle.plan.specs.Run.{actions_of}
use Rattle.plan.specs.Calls.{run_of}
use Rattle.plan.specs.Meaning.{Comes}
use Rattle.plan.specs.Exchange.{touch, exchanges_by, exchanges}
use Rattle.plan.specs.Demand3.{Class, is_stopped, class_of, taken_by, run_full, run_refused, SamePlanSheet}
use Rattle.plan.specs.inner.RunEnds.{final_clauses, final_picture, SameEnd}
use Rattle.plan.specs.DemandWords.{taken, Becomes, final_of}
use Rattle.plan.proofs.laws.exchanges.CommutingMoves.{commute}
use Rattle.plan.proofs.laws.exchanges.ExchangedWorlds.{exchanges_all, exchanges_length, exchanges_world}
use Rattle.plan.proofs.laws.exchanges.ExactCalls.{called_class, called_both_ways, called, called_unless_full}
use Rattle.plan.proofs.laws.runs.CallRuns.{last_described, last_entries}
use Rattle.plan.proofs.laws.runs.RunRefusals.{run_back, rows_enough, run_starts}
use Rattle.plan.proofs.laws.exchanges.FinalPictures.{bytes_length, picture_written}
use Rattle.plan.proofs.laws.runs.CallVerdicts.{refused_is, taken_actions}

-- ---- the exchanged plan is again on a sheet
pub exchanged_sheet : (s : List ℕ) (x : Statement) → Says s x → (ks : List ℕ)
    → (r : List ℕ) × (y : Statement) × SamePlanSheet s r x y × (y.plan ≡ exchanges (action_at x.problem) ks x.plan)
exchanged_sheet s x says ks = (
  encode y,
  y,
  record
      { first = says; second = (accepted_encoding (encode y) y).1 (proper, refl); alike = refl },
  refl,
)
  where
    y : Statement
    y = record { problem = x.problem; plan = exchanges (action_at x.problem) ks x.plan }

    h : ProperStatement x
    h = statement_proper s x says

    f : ℕ → Action
    f = action_at x.problem

    size : length (exchanges f ks x.plan) ≡ length x.plan
    size = exchanges_length touch f ks x.plan

    proper : ProperStatement y
    proper = record {
      problem = h.problem;
      plan = record {
        least = omega arith;
        most = omega (arith, size, h.plan.most);
        each = exchanges_all touch f (λ b. b < length x.problem.actions) ks x.plan h.plan.each;
      };
    }

-- ---- the final picture
module _ (s : List ℕ) (x : Statement) (says : Says s x) (rows : ℕ) where
  abbrev run : RunAnswer
  run = run_of (sheet_of s) rows

  abbrev drawn : PictureAnswer
  drawn = picture_of (sheet_of s) (run_of (sheet_of s) rows).table 2050

  zeros : length {A = ℕ} (replicate 2050 0) ≡ 2050
  zeros = length-replicate {A = ℕ} 2050 0

  -- a refused run has an empty table, and no picture
  none_refused : run_refused run ≡ true → drawn.answer ≡ Refused 22 0
  none_refused f = rw zeros at ((tables.picture_22 s x says run.table (replicate 2050 0)).1 (λ d. absurd (omega (arith, d.least, size))))
    where
      r : (k : ℕ) × (q : ℕ) × (run.verdict ≡ ran.Refused k q)
      r = unfold run_refused in refused_is run.verdict f

      size : length (entries run.table) ≡ 0
      size = ap (λ (t : Table). length (entries t)) (run_back s rows r.0 r.1 r.2) ∙ ap length (entries_table [] (omega arith))

  refused_final : run_refused run ≡ true → final_picture run ≡ none
  unfolding final_picture final_clauses
  refused_final f = ap (λ (b : Bool). and_then (cond b none (picture (entries run.table))) (λ c. some (picture_bytes c))) f

  given_final : run_refused run ≡ false → final_picture run ≡ and_then (picture (entries run.table)) (λ c. some (picture_bytes c))
  unfolding final_picture final_clauses
  given_final f = ap (λ (b : Bool). and_then (cond b none (picture (entries run.table))) (λ c. some (picture_bytes c))) f

  none_of : drawn.answer ≡ Refused 22 0 → final_of s rows ≡ none
  unfolding final_of
  none_of e = rw e

  none_full : drawn.answer ≡ Refused 21 0 → final_of s rows ≡ none
  unfolding final_of
  none_full e = rw e

  some_of : (c : List Literals) → drawn.answer ≡ Accepted → drawn.clauses ≡ length c
      → buffer_of (sheet_of s) run.table (replicate 2050 0) ≡ picture_bytes c ++ drop (2 + 8 * length c) (replicate 2050 0)
      → final_of s rows ≡ some (picture_bytes c)
  unfolding final_of
  some_of c e f g =
      rw (e, f, g) (ap some (ap (λ (i : ℕ). take i (picture_bytes c ++ drop (2 + 8 * length c) (replicate 2050 0))) (sym (bytes_length c))
      ∙ take-append_seam (picture_bytes c) (drop (2 + 8 * length c) (replicate 2050 0))))

  -- a run that is not refused
  module _ (f : run_refused run ≡ false) where
    enough : 65 ≤ rows
    enough = rows_enough s x says rows f

    fits : AsDescribed x run.table
    fits = rw (last_entries s x says rows enough (run_starts s x says rows f).0 (run_starts s x says rows f).1)
        (last_described s x says rows enough (run_starts s x says rows f).0 (run_starts s x says rows f).1)

    final_given : final_of s rows ≡ and_then (picture (entries run.table)) (λ c. some (picture_bytes c))
    final_given = go (picture (entries run.table)) refl
      where
        go : (o : Option (List Literals)) → picture (entries run.table) ≡ o → final_of s rows ≡ and_then o (λ c. some (picture_bytes c))
        go none e = none_full (rw zeros at ((tables.picture_21 s x says run.table (replicate 2050 0)).1 (fits, e)))
        go (some c) e = some_of c (rw zeros at got) (rw zeros at k.3 ∙ ap length same)
            (k.4 ∙ ap (λ (d : List Literals). picture_bytes d ++ drop (2 + 8 * length d) (replicate 2050 0)) same)
          where
            got : (picture_of (sheet_of s) run.table (length {A = ℕ} (replicate 2050 0))).answer ≡ Accepted
            got = (picture_written s x says rows enough (run_starts s x says rows f).0 (run_starts s x says rows f).1 (replicate 2050 0)
                (picture_bytes c)
                (given_final f ∙ ap (λ (o : Option (List Literals)). and_then o (λ c. some (picture_bytes c))) e)
                (omega (arith, zeros, bytes_length c, (tables.picture_ascending (statement_proper s x says).problem.n_most fits e).1))).0

            k : (d : List Literals) × (picture (entries run.table) ≡ some d) × (2 + 8 * length d ≤ length {A = ℕ} (replicate 2050 0))
                × ((picture_of (sheet_of s) run.table (length {A = ℕ} (replicate 2050 0))).clauses ≡ length d)
                × (buffer_of (sheet_of s) run.table (replicate 2050 0) ≡ picture_bytes d ++ drop (2 + 8 * length d) (replicate 2050 0))
            k = ((tables.picture_accepted s x says run.table (replicate 2050 0)).0 got).1

            same : k.0 ≡ c
            same = some-injective k.0 c (sym k.1 ∙ e)

  -- by the call as by the clauses
  pub final_is : final_of s rows ≡ final_picture run
  final_is = go (run_refused run) refl
    where
      go : (b : Bool) → run_refused run ≡ b → final_of s rows ≡ final_picture run
      go true f = none_of (none_refused f) ∙ sym (refused_final f)
      go false f = final_given f ∙ sym (given_final f)

  pub final_none : (final_of s rows ≡ none) ↔ ((run_refused run ≡ true) ⊎ (drawn.answer ≡ Refused 21 0))
  final_none = (λ e. go (run_refused run) refl e, back)
    where
      none_at : run_refused run ≡ false → final_of s rows ≡ none → (o : Option (List Literals)) → picture (entries run.table) ≡ o
          → drawn.answer ≡ Refused 21 0
      none_at f e none k = rw zeros at ((tables.picture_21 s x says run.table (replicate 2050 0)).1 (fits f, k))
      none_at f e (some c) k = absurd
          (some-ne-none (picture_bytes c)
          (sym (final_given f ∙ ap (λ (o : Option (List Literals)). and_then o (λ d. some (picture_bytes d))) k) ∙ e))

      go : (b : Bool) → run_refused run ≡ b → final_of s rows ≡ none → (run_refused run ≡ true) ⊎ (drawn.answer ≡ Refused 21 0)
      go true f e = inl f
      go false f e = inr (none_at f e (picture (entries run.table)) refl)

      back : (run_refused run ≡ true) ⊎ (drawn.answer ≡ Refused 21 0) → final_of s rows ≡ none
      back (inl f) = none_of (none_refused f)
      back (inr e) = none_full e

  -- a final picture is that of a run which is not refused
  final_given_run : (b : List ℕ) → final_of s rows ≡ some b → run_refused run ≡ false
  final_given_run b e = go (run_refused run) refl
    where
      go : (c : Bool) → run_refused run ≡ c → run_refused run ≡ false
      go true f = absurd (none-ne-some b (sym (none_of (none_refused f)) ∙ e))
      go false f = f

  pub final_written : (b : List ℕ) → final_of s rows ≡ some b → (buffer : List ℕ) → length b ≤ length buffer
      → buffer_of (sheet_of s) run.table buffer ≡ b ++ drop (length b) buffer
  final_written b e buffer l =
      let f = final_given_run b e in
      (picture_written s x says rows (rows_enough s x says rows f) (run_starts s x says rows f).0 (run_starts s x says rows f).1 buffer b
      (sym final_is ∙ e) l).1

-- ---- two plans on one sheet, by the clauses of their final pictures
module _ (s₁ s₂ : List ℕ) (x y : Statement) (same : SamePlanSheet s₁ s₂ x y) (rows₁ rows₂ : ℕ) (h₁ : 65 ≤ rows₁) (h₂ : 65 ≤ rows₂) where
  abbrev σ : Problem
  σ = x.problem

  abbrev run₁ : RunAnswer
  run₁ = run_of (sheet_of s₁) rows₁

  abbrev run₂ : RunAnswer
  run₂ = run_of (sheet_of s₂) rows₂

  -- the second sheet says the first one's problem
  abbrev other : Statement
  other = record { problem = x.problem; plan = y.plan }

  second : Says s₂ other
  second = same.second ∙ ap (λ (q : Problem). accepted (record { problem = q; plan = y.plan })) (sym same.alike)

  hσ : ProperProblem σ
  hσ = (statement_proper s₁ x same.first).problem

  -- by any test under which moves that do not touch commute in every world
  pub exchange_runs_by : (touches : Action → Action → Bool)
      → ((a b : Action) → ProperAction σ.n a → ProperAction σ.n b → touches a b ≡ false → (w : ℕ) → w < 2 ^ σ.n
      → and_then (step_world σ.n a w) (step_world σ.n b) ≡ and_then (step_world σ.n b w) (step_world σ.n a))
      → (w : ℕ) → w < 2 ^ σ.n → Starting σ w → (ks : List ℕ) → y.plan ≡ exchanges_by touches (action_at σ) ks x.plan
      → run_full run₁ ≡ false → run_full run₂ ≡ false → SameEnd run₁ run₂
  exchange_runs_by touches commutes w l st ks e f₁ f₂ =
      called_class σ hσ.n_most (actions_of σ x.plan) (actions_of σ y.plan) run₁ run₂
      (called_unless_full s₁ x same.first rows₁ h₁ w l st f₁)
      (called_unless_full s₂ other second rows₂ h₂ w l st f₂) alike f₁ f₂
    where
      alike : (v : ℕ) → v < 2 ^ σ.n → run_world σ.n (actions_of σ y.plan) v ≡ run_world σ.n (actions_of σ x.plan) v
      alike v lv = unfold actions_of in
          ap (λ (q : List ℕ). run_world σ.n (actions_of σ q) v) e
          ∙ exchanges_world touches (action_at σ) σ.n commutes ks x.plan
          (all_map (λ i. i < length σ.actions) (λ i. ProperAction σ.n (action_at σ i)) (at_proper σ hσ) x.plan
          (statement_proper s₁ x same.first).plan.each) v lv

  -- TH7: the second plan is what a list of exchanges makes of the first
  exchange_runs : (w : ℕ) → w < 2 ^ σ.n → Starting σ w → (ks : List ℕ) → y.plan ≡ exchanges (action_at σ) ks x.plan
      → run_full run₁ ≡ false → run_full run₂ ≡ false → SameEnd run₁ run₂
  exchange_runs w l st ks e = exchange_runs_by touch (commute σ.n) w l st ks e

  -- TH9: for any two plans and any verdicts
  pub pictures_both_ways : run_refused run₁ ≡ false → run_refused run₂ ≡ false → (b₁ b₂ : List ℕ) → final_picture run₁ ≡ some b₁
      → final_picture run₂ ≡ some b₂
      → (b₁ ≡ b₂) ↔ ((v : ℕ) → v < 2 ^ σ.n
      → Comes σ.n (Starting σ) (taken_by run₁.verdict (actions_of σ x.plan)) v
      ↔ Comes σ.n (Starting σ) (taken_by run₂.verdict (actions_of σ y.plan)) v)
  pictures_both_ways f₁ f₂ b₁ b₂ q₁ q₂ =
      called_both_ways σ hσ.n_most (actions_of σ x.plan) (actions_of σ y.plan) run₁ run₂ (called s₁ x same.first rows₁ h₁ f₁)
      (called s₂ other second rows₂ h₂ f₂) b₁ b₂ q₁ q₂

-- ---- two plans on one sheet, by what the picture call writes
module _ (s₁ s₂ : List ℕ) (x y : Statement) (same : SamePlanSheet s₁ s₂ x y) (rows₁ rows₂ : ℕ) where
  module _ (w : ℕ) (st : Starts x.problem w) (ks : List ℕ) (e : y.plan ≡ exchanges (action_at x.problem) ks x.plan)
      (h₁ : 65 ≤ rows₁) (h₂ : 65 ≤ rows₂)
      (f₁ : run_full (run_of (sheet_of s₁) rows₁) ≡ false) (f₂ : run_full (run_of (sheet_of s₂) rows₂) ≡ false) where
    ends : SameEnd (run_of (sheet_of s₁) rows₁) (run_of (sheet_of s₂) rows₂)
    ends = exchange_runs s₁ s₂ x y same rows₁ rows₂ h₁ h₂ w st.0 st.1 ks e f₁ f₂

    pub exchange_class : (c : Class) × (class_of (run_of (sheet_of s₁) rows₁).verdict ≡ some c)
        × (class_of (run_of (sheet_of s₂) rows₂).verdict ≡ some c)
    exchange_class = (ends.class, ends.first, ends.second)

    pub exchange_pictures : (class_of (run_of (sheet_of s₁) rows₁).verdict ≡ some is_stopped → ⊥)
        → (b₁ b₂ : List ℕ) → final_of s₁ rows₁ ≡ some b₁ → final_of s₂ rows₂ ≡ some b₂ → b₁ ≡ b₂
    exchange_pictures g b₁ b₂ q₁ q₂ =
        ends.pictures (λ i. g (ends.first ∙ ap some i)) b₁ b₂ (sym (final_is s₁ x same.first rows₁) ∙ q₁)
        (sym (final_is s₂ y same.second rows₂) ∙ q₂)

  -- the worlds, by the moves of either problem
  becomes : (v : ℕ) → Comes x.problem.n (Starting x.problem)
      (taken_by (run_of (sheet_of s₂) rows₂).verdict (actions_of x.problem y.plan)) v ≡ Becomes s₂ y rows₂ v
  becomes v =
      ap (λ (a : List Action). Comes x.problem.n (Starting x.problem) a v)
      (sym (taken_actions x.problem (run_of (sheet_of s₂) rows₂).verdict y.plan))
      ∙ ap (λ (p : Problem). Comes p.n (Starting p) (actions_of p (taken s₂ y rows₂)) v) same.alike

  become : (v : ℕ) → Comes x.problem.n (Starting x.problem)
      (taken_by (run_of (sheet_of s₁) rows₁).verdict (actions_of x.problem x.plan)) v ≡ Becomes s₁ x rows₁ v
  become v = ap (λ (a : List Action). Comes x.problem.n (Starting x.problem) a v)
      (sym (taken_actions x.problem (run_of (sheet_of s₁) rows₁).verdict x.plan))

  pub pictures_worlds : (b₁ b₂ : List ℕ) → final_of s₁ rows₁ ≡ some b₁ → final_of s₂ rows₂ ≡ some b₂
      → (b₁ ≡ b₂) ↔ ((v : ℕ) → v < 2 ^ x.problem.n → Becomes s₁ x rows₁ v ↔ Becomes s₂ y rows₂ v)
  pictures_worlds b₁ b₂ q₁ q₂ = (
    λ e v l. subst (λ (A : Type 0). A ↔ Becomes s₂ y rows₂ v) (become v) (subst (λ (B : Type 0). One v ↔ B) (becomes v) (law.0 e v l)),
    λ h. law.1 (λ v l. subst (λ (A : Type 0). A ↔ Two v) (sym (become v))
        (subst (λ (B : Type 0). Becomes s₁ x rows₁ v ↔ B) (sym (becomes v)) (h v l))),
  )
    where
      One : ℕ → Type 0
      One v = Comes x.problem.n (Starting x.problem)
          (taken_by (run_of (sheet_of s₁) rows₁).verdict (actions_of x.problem x.plan)) v

      Two : ℕ → Type 0
      Two v = Comes x.problem.n (Starting x.problem)
          (taken_by (run_of (sheet_of s₂) rows₂).verdict (actions_of x.problem y.plan)) v

      r₁ : run_refused (run_of (sheet_of s₁) rows₁) ≡ false
      r₁ = final_given_run s₁ x same.first rows₁ b₁ q₁

      r₂ : run_refused (run_of (sheet_of s₂) rows₂) ≡ false
      r₂ = final_given_run s₂ y same.second rows₂ b₂ q₂

      law : (b₁ ≡ b₂) ↔ ((v : ℕ) → v < 2 ^ x.problem.n → One v ↔ Two v)
      law = pictures_both_ways s₁ s₂ x y same rows₁ rows₂ (rows_enough s₁ x same.first rows₁ r₁)
          (rows_enough s₂ y same.second rows₂ r₂) r₁ r₂ b₁ b₂
          (sym (final_is s₁ x same.first rows₁) ∙ q₁) (sym (final_is s₂ y same.second rows₂) ∙ q₂)
