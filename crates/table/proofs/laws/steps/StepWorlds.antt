-- A step of a table is exactly the step of each of its worlds. For TH3 (`step_24` to `step_kind` in proofs/Demands), TH4 and the crate
-- plan. Assumes nothing.
use mathlib.Core.Path.{◌≡◌, refl, sym, subst, ap, ◌∙◌}
use mathlib.Core.Bool.{Bool, true, false, not}
use mathlib.Core.List.{List, [], ◌∷◌, map}
use mathlib.Core.Logic.{◌⊎◌, inl, inr, ◌↔◌}
use mathlib.Core.Option.{Option, none, some, some-injective, none-ne-some, some-ne-none}
use Prim.Native.Nat.{ℕ, ◌^◌, ◌≤◌, ◌<◌}
use native.Mathlib.Omega.{arith}
use lib.Dec.{T}
use lib.ListN.{length}
use Rattle.sheet.specs.declared.Literals.{Literals}
use Rattle.sheet.specs.declared.Effect.{Effect}
use Rattle.sheet.specs.inner.Masks as masks
use Rattle.sheet.specs.Literals.{within, consistent, replace, state, below, Proper}
use Rattle.sheet.specs.Lists.{All, all_of, collect}
use Rattle.sheet.specs.Problem.{Action, Problem}
use Rattle.sheet.specs.Encoding.{ProperEffect, ProperAction, ProperProblem}
use Rattle.sheet.proofs.laws.base.Bools.{test, both, T_true, T_false, true_T, false_T, and_l, and_r, and_in, not_in}
use Rattle.sheet.proofs.laws.base.ListFacts.{all_map, all_at, any_with, all_with, any_out, any_image, any_imaged, all_imaged, any_collect, any_collected, all_collected, any_choose, all_test, all_fails}
use Rattle.sheet.proofs.laws.literals.LiteralSets.{below_join, proper_consistent, proper_below, within_trans}
use Rattle.sheet.proofs.laws.literals.Results.{replace_mono}
use Rattle.sheet.proofs.laws.literals.Worlds.{after_lt, replace_state, before_world}
use Rattle.sheet.proofs.laws.literals.ProperSets.{below_none, replace_proper, some_world, lacking_world}
use Rattle.table.specs.Worlds.{add_result, results, takes, world_after, when, step_world}
use Rattle.table.specs.Minimal.{In, Described, put_all, Outcome, refused, table}
use Rattle.table.specs.Calls.{action_at}
use Rattle.table.specs.Step.{pieces, image, or_full, step_clear, step_sure, step_table}
use Rattle.table.proofs.laws.slots.PutInvariants.{put_all_all, put_all_antichain, put_all_size, put_all_in, put_all_out}
use Rattle.table.proofs.laws.steps.PieceWorlds.{Decides, Part, pieces_parts, pieces_in, pieces_out, results_same}

-- ---- the moves of a problem are proper
pub at_proper : (p : Problem) → ProperProblem p → (i : ℕ) → i < length p.actions → ProperAction p.n (action_at p i)
unfolding action_at
at_proper p hp i l = all_at (ProperAction p.n) p.actions i _ l hp.actions.each

-- ---- the step of a world
pub step_goes : (n : ℕ) (a : Action) (w : ℕ) → T (takes n a w) → step_world n a w ≡ some (world_after n a w)
unfolding step_world
step_goes n a w t = ap (λ (b : Bool). when b (world_after n a w)) (T_true (takes n a w) t)

pub step_stays : (n : ℕ) (a : Action) (w : ℕ) → T (not (takes n a w)) → step_world n a w ≡ none
unfolding step_world
step_stays n a w t = ap (λ (b : Bool). when b (world_after n a w)) (T_false (takes n a w) t)

step_some : (n : ℕ) (a : Action) (w v : ℕ) → step_world n a w ≡ some v → world_after n a w ≡ v
step_some n a w v e = go (test (takes n a w))
  where
    go : T (takes n a w) ⊎ T (not (takes n a w)) → world_after n a w ≡ v
    go (inl t) = some-injective (world_after n a w) v (sym (step_goes n a w t) ∙ e)
    go (inr t) = absurd (none-ne-some v (sym (step_stays n a w t) ∙ e))

step_none : (n : ℕ) (a : Action) (w : ℕ) → step_world n a w ≡ none → T (not (takes n a w))
step_none n a w e = not_in (takes n a w) (λ t. some-ne-none (world_after n a w) (sym (step_goes n a w t) ∙ e))

takes_pre : (n : ℕ) (a : Action) (w : ℕ) → T (takes n a w) → T (within a.precondition (state n w))
unfolding takes
takes_pre n a w t = and_l (within a.precondition (state n w)) (consistent (results a.effects (state n w))) t

takes_clear : (n : ℕ) (a : Action) (w : ℕ) → T (takes n a w) → T (consistent (results a.effects (state n w)))
unfolding takes
takes_clear n a w t = and_r (within a.precondition (state n w)) (consistent (results a.effects (state n w))) t

takes_by : (n : ℕ) (a : Action) (w : ℕ) → T (within a.precondition (state n w)) → T (consistent (results a.effects (state n w)))
    → T (takes n a w)
unfolding takes
takes_by n a w p c = and_in (within a.precondition (state n w)) (consistent (results a.effects (state n w))) p c

-- the results of a proper move name no proposition at n or above
results_below : (n : ℕ) (es : List Effect) → All (ProperEffect n) es → (d : Literals) → below n (results es d) ≡ true
results_below n [] he d = below_none n
results_below n (e ∷ es) he d = go (within e.condition d) (results_below n es he.1 d)
  where
    go : (b : Bool) → below n (results es d) ≡ true → below n (add_result b e.result (results es d)) ≡ true
    go true k = below_join n e.result (results es d) ∙ rw (proper_below n e.result he.0.result.proper, k)
    go false k = k

-- a world that takes a proper move comes to a world
pub after_world : (n : ℕ) (a : Action) → ProperAction n a → (w : ℕ) → w < 2 ^ n → T (takes n a w)
    → (world_after n a w < 2 ^ n) × (replace (state n w) (results a.effects (state n w)) ≡ state n (world_after n a w))
unfolding world_after masks.overridden replace state
after_world n a ha w b t = (
  after_lt n w b r (T_true (consistent r) (takes_clear n a w t)) low,
  replace_state n w b r (T_true (consistent r) (takes_clear n a w t)) low,
)
  where
    r : Literals
    r = results a.effects (state n w)

    low : below n (results a.effects (state n w)) ≡ true
    low = results_below n a.effects ha.effects.each (state n w)

-- worlds step to worlds
pub step_below : (n : ℕ) (a : Action) → ProperAction n a → (w v : ℕ) → w < 2 ^ n → step_world n a w ≡ some v → v < 2 ^ n
step_below n a ha w v l e = go (test (takes n a w))
  where
    go : T (takes n a w) ⊎ T (not (takes n a w)) → v < 2 ^ n
    go (inl t) = rw (← step_some n a w v e) (after_world n a ha w l t).0
    go (inr t) = absurd (none-ne-some v (sym (step_stays n a w t) ∙ e))

-- ---- outcomes told apart
pub code_is : {a b : ℕ} → refused a ≡ refused b → a ≡ b
code_is e = cc

pub table_refused : {X : Type 0} (t : List Literals) (k : ℕ) → table t ≡ refused k → X
table_refused t k e = let z : ◌≡◌ {A = ℕ} 0 1 = cc in absurd (omega arith)

pub table_is : (t u : List Literals) → table t ≡ table u → t ≡ u
table_is t u e = cc

-- ---- what the numbers say of the worlds of a table
abbrev pub SomeUnsure : ℕ → Action → List Literals → Type 0
SomeUnsure n a t = (w : ℕ) × (In n t w × ((w < 2 ^ n) × T (not (within a.precondition (state n w)))))

abbrev pub AllSure : ℕ → Action → List Literals → Type 0
AllSure n a t = (w : ℕ) → w < 2 ^ n → In n t w → T (within a.precondition (state n w))

abbrev pub SomeUnclear : ℕ → Action → List Literals → Type 0
SomeUnclear n a t = (w : ℕ) × (In n t w × ((w < 2 ^ n) × T (not (consistent (results a.effects (state n w))))))

-- some world of t cannot take the move; some world of t comes to v
abbrev pub SomeUndefined : ℕ → Action → List Literals → Type 0
SomeUndefined n a t = (w : ℕ) × (In n t w × ((w < 2 ^ n) × (step_world n a w ≡ none)))

abbrev pub SomeTo : ℕ → Action → List Literals → ℕ → Type 0
SomeTo n a t v = (w : ℕ) × (In n t w × ((w < 2 ^ n) × (step_world n a w ≡ some v)))

-- 24, 25, 21 or a table
abbrev pub Kind : Outcome → Type 0
Kind o = (o ≡ refused 24) ⊎ ((o ≡ refused 25) ⊎ ((o ≡ refused 21) ⊎ ((u : List Literals) × (o ≡ table u))))

-- ---- the whole table
module _ (n : ℕ) (hn : n ≤ 32) (a : Action) (ha : ProperAction n a) (t : List Literals) (ht : All (Proper n) t) where
  abbrev es : List Effect
  es = a.effects

  abbrev ps : List Literals
  ps = collect (pieces es) t

  -- a piece, whichever entry it comes from
  Ready : Literals → Type 0
  Ready q = Proper n q × All (λ e. Decides e.condition q) es

  ready : All Ready ps
  unfolding Ready
  ready =
      all_collected (pieces es) Ready t
      (all_map (Proper n) (λ d. All Ready (pieces es d))
      (λ d hd. all_map (Part n es d) Ready (λ q k. (k.proper, k.decided)) (pieces es d) (pieces_parts n es ha.effects.each d hd)) t
      ht)

  -- the worlds of the pieces are those of the table
  parts_in : (w : ℕ) → w < 2 ^ n → In n t w → In n ps w
  parts_in w b i =
      any_collected (pieces es) (λ q. T (within q (state n w))) t
      (any_with (Proper n) (λ d. T (within d (state n w))) (λ d. In n (pieces es d) w)
      (λ d hd h. pieces_in n hn es ha.effects.each d hd w b h) t ht i)

  parts_out : (w : ℕ) → In n ps w → In n t w
  parts_out w i =
      any_with (Proper n) (λ d. In n (pieces es d) w) (λ d. T (within d (state n w)))
      (λ d hd j. pieces_out n es ha.effects.each d hd w j) t ht
      (any_collect (pieces es) (λ q. T (within q (state n w))) t i)

  abbrev Sure : Type 0
  Sure = T (all_of (λ d. within a.precondition d) t)

  abbrev Clear : Type 0
  Clear = T (all_of (λ d. consistent (results es d)) ps)

  sure_each : Sure → AllSure n a t
  sure_each h w b i =
      any_out (λ d. T (within a.precondition d)) (λ d. T (within d (state n w)))
      (λ d k j. within_trans a.precondition d (state n w) k j) t (all_test (λ d. within a.precondition d) t h) i

  not_sure : T (not (all_of (λ d. within a.precondition d) t)) → SomeUnsure n a t
  not_sure h =
      any_choose (λ d w. T (within d (state n w))) (λ w. (w < 2 ^ n) × T (not (within a.precondition (state n w)))) t
      (any_with (Proper n) (λ d. T (not (within a.precondition d)))
      (λ d. (w : ℕ) × (T (within d (state n w)) × ((w < 2 ^ n) × T (not (within a.precondition (state n w))))))
      (λ d hd k. lacking_world n a.precondition d ha.precondition.proper hd k) t ht
      (all_fails (λ d. within a.precondition d) t h))

  -- each piece with its results
  each_clear : Clear → All (λ q. Ready q × T (consistent (results es q))) ps
  each_clear h =
      all_with Ready (λ q. T (consistent (results es q))) (λ q. Ready q × T (consistent (results es q))) (λ q x y. (x, y)) ps ready
      (all_test (λ d. consistent (results es d)) ps h)

  clear_each : Clear → (w : ℕ) → w < 2 ^ n → In n t w → T (consistent (results es (state n w)))
  unfolding Ready
  clear_each h w b i =
      any_out (λ q. Ready q × T (consistent (results es q))) (λ q. T (within q (state n w)))
      (λ q k j. subst (λ (r : Literals). T (consistent r)) (results_same n w b es q j k.0.1) k.1) ps (each_clear h) (parts_in w b i)

  all_take : Sure → Clear → (w : ℕ) → w < 2 ^ n → In n t w → T (takes n a w)
  all_take hs hc w b i = takes_by n a w (sure_each hs w b i) (clear_each hc w b i)

  not_clear : T (not (all_of (λ d. consistent (results es d)) ps)) → SomeUnclear n a t
  unfolding Ready
  not_clear h =
      let x = any_choose (λ q w. T (within q (state n w))) (λ w. (w < 2 ^ n) × T (not (consistent (results es (state n w))))) ps
      (any_with Ready (λ q. T (not (consistent (results es q))))
      (λ q. (w : ℕ) × (T (within q (state n w)) × ((w < 2 ^ n) × T (not (consistent (results es (state n w)))))))
      (λ q k c. let y = some_world n q k.0 in (
        y.0,
        (
          y.1.1,
          (
            y.1.0,
            subst (λ (r : Literals). T (not (consistent r))) (results_same n y.0 y.1.0 es q y.1.1 k.1)
                c,
          ),
        ),
      ))
      ps ready (all_fails (λ d. consistent (results es d)) ps h)) in
      (x.0, (parts_out x.0 x.1.0, x.1.1))

  -- ---- images
  -- the worlds of a piece come to worlds of its image
  image_in : Sure → Clear → (w : ℕ) → w < 2 ^ n → In n t w → In n (map (image es) ps) (world_after n a w)
  unfolding Ready image
  image_in hs hc w b i =
      any_imaged (image es) (λ q. T (within q (state n (world_after n a w)))) ps
      (any_with Ready (λ q. T (within q (state n w))) (λ q. T (within (image es q) (state n (world_after n a w))))
      (λ q k j. subst (λ (x : Literals). T (within (image es q) x)) (after_world n a ha w b (all_take hs hc w b i)).1
      (subst (λ (r : Literals). T (within (replace q (results es q)) (replace (state n w) r))) (results_same n w b es q j k.1)
      (true_T (within (replace q (results es q)) (replace (state n w) (results es q)))
      (replace_mono q (state n w) (results es q) (T_true (within q (state n w)) j)))))
      ps ready (parts_in w b i))

  -- a world of a piece's image comes from one of the piece's worlds
  came_from : (v : ℕ) → v < 2 ^ n → (q : Literals) → Ready q → T (within (image es q) (state n v))
      → (w : ℕ) × (T (within q (state n w)) × ((w < 2 ^ n) × (world_after n a w ≡ v)))
  unfolding Ready image world_after
  came_from v b q k h =
      let x = before_world n q (results es q) (proper_consistent n q k.0) (proper_below n q k.0) v b
      (T_true (within (replace q (results es q)) (state n v)) h) in
      let j = true_T (within q (state n x.0)) x.2 in (
        x.0,
        (
          j,
          (
            x.1,
            ap (λ (r : Literals). (replace (state n x.0) r).trues) (sym (results_same n x.0 x.1 es q j k.1))
                ∙ ap (λ (y : Literals). y.trues) x.3 ∙ world_of,
          ),
        ),
      )
    where
      world_of : (state n v).trues ≡ v
      world_of = unfold state in refl

  image_out : Sure → Clear → (v : ℕ) → v < 2 ^ n → In n (map (image es) ps) v → SomeTo n a t v
  image_out hs hc v b i =
      let x = any_choose (λ q w. T (within q (state n w))) (λ w. (w < 2 ^ n) × (world_after n a w ≡ v)) ps
      (any_with Ready (λ q. T (within (image es q) (state n v)))
      (λ q. (w : ℕ) × (T (within q (state n w)) × ((w < 2 ^ n) × (world_after n a w ≡ v))))
      (λ q k j. came_from v b q k j) ps ready (any_image (image es) (λ q. T (within q (state n v))) ps i)) in
      let it = parts_out x.0 x.1.0 in
      (x.0, (it, (x.1.1.0, step_goes n a x.0 (all_take hs hc x.0 x.1.1.0 it) ∙ ap {B = Option ℕ} some x.1.1.1)))

  image_proper : Clear → All (Proper n) (map (image es) ps)
  unfolding Ready image
  image_proper hc =
      all_imaged (image es) (Proper n) ps
      (all_map (λ q. Ready q × T (consistent (results es q))) (λ q. Proper n (image es q))
      (λ q k. replace_proper n q (results es q) k.0.0 k.1 (results_below n es ha.effects.each q)) ps (each_clear hc))

  -- ---- the outcome
  abbrev images : ℕ → Option (List Literals)
  images cap = put_all cap (map (image es) ps) []

  data Case (cap : ℕ) (o : Outcome) : Type 0 where
    unsure : SomeUnsure n a t → o ≡ refused 24 → Case cap o
    unclear : AllSure n a t → SomeUnclear n a t → o ≡ refused 25 → Case cap o
    full : Sure → Clear → images cap ≡ none → o ≡ refused 21 → Case cap o
    stepped : (u : List Literals) → Sure → Clear → images cap ≡ some u → o ≡ table u → Case cap o

  step_case : (cap : ℕ) → Case cap (step_table cap a t)
  unfolding step_table
  step_case cap = go (all_of (λ d. within a.precondition d) t) refl
    where
      done : Sure → Clear → (o : Option (List Literals)) → images cap ≡ o → Case cap (or_full o)
      done h k none e = full h k e refl
      done h k (some u) e = stepped u h k e refl

      clear : Sure → (b : Bool) → all_of (λ d. consistent (results es d)) ps ≡ b → Case cap (step_clear b cap es ps)
      clear h true e = done h (true_T (all_of (λ d. consistent (results es d)) ps) e) (images cap) refl
      clear h false e = unclear (sure_each h) (not_clear (false_T (all_of (λ d. consistent (results es d)) ps) e)) refl

      go : (b : Bool) → all_of (λ d. within a.precondition d) t ≡ b → Case cap (step_sure b cap es t)
      go true e = clear (true_T (all_of (λ d. within a.precondition d) t) e) (all_of (λ d. consistent (results es d)) ps) refl
      go false e = unsure (not_sure (false_T (all_of (λ d. within a.precondition d) t) e)) refl

  -- the cases exclude each other
  sure_unsure : {X : Type 0} → AllSure n a t → SomeUnsure n a t → X
  sure_unsure h x = both (within a.precondition (state n x.0)) (h x.0 x.1.1.0 x.1.0) x.1.1.1

  clear_unclear : {X : Type 0} → Clear → SomeUnclear n a t → X
  clear_unclear h x = both (consistent (results es (state n x.0))) (clear_each h x.0 x.1.1.0 x.1.0) x.1.1.1

  -- 24 exactly if some world does not meet the precondition
  pub step_24 : (cap : ℕ) → (step_table cap a t ≡ refused 24) ↔ SomeUnsure n a t
  step_24 cap = (λ e. go e (step_case cap), λ x. back x (step_case cap))
    where
      go : step_table cap a t ≡ refused 24 → Case cap (step_table cap a t) → SomeUnsure n a t
      go e (unsure x f) = x
      go e (unclear h x f) = absurd (omega (arith, code_is (sym f ∙ e)))
      go e (full h k g f) = absurd (omega (arith, code_is (sym f ∙ e)))
      go e (stepped u h k g f) = table_refused u 24 (sym f ∙ e)

      back : SomeUnsure n a t → Case cap (step_table cap a t) → step_table cap a t ≡ refused 24
      back x (unsure y f) = f
      back x (unclear h y f) = sure_unsure h x
      back x (full h k g f) = sure_unsure (sure_each h) x
      back x (stepped u h k g f) = sure_unsure (sure_each h) x

  -- 25 exactly if every world meets the precondition, and in some the results contradict
  pub step_25 : (cap : ℕ) → (step_table cap a t ≡ refused 25) ↔ (AllSure n a t × SomeUnclear n a t)
  step_25 cap = (λ e. go e (step_case cap), λ x. back x (step_case cap))
    where
      go : step_table cap a t ≡ refused 25 → Case cap (step_table cap a t) → AllSure n a t × SomeUnclear n a t
      go e (unsure x f) = absurd (omega (arith, code_is (sym f ∙ e)))
      go e (unclear h x f) = (h, x)
      go e (full h k g f) = absurd (omega (arith, code_is (sym f ∙ e)))
      go e (stepped u h k g f) = table_refused u 25 (sym f ∙ e)

      back : AllSure n a t × SomeUnclear n a t → Case cap (step_table cap a t) → step_table cap a t ≡ refused 25
      back x (unsure y f) = sure_unsure x.0 y
      back x (unclear h y f) = f
      back x (full h k g f) = clear_unclear k x.1
      back x (stepped u h k g f) = clear_unclear k x.1

  -- neither holds, and the images in order do not fit
  abbrev Overflow : ℕ → Type 0
  Overflow cap = (SomeUnsure n a t → ⊥) × ((AllSure n a t × SomeUnclear n a t → ⊥) × (images cap ≡ none))

  -- 21 exactly then
  pub step_21 : (cap : ℕ) → (step_table cap a t ≡ refused 21) ↔ Overflow cap
  step_21 cap = (λ e. go e (step_case cap), λ x. back x (step_case cap))
    where
      go : step_table cap a t ≡ refused 21 → Case cap (step_table cap a t) → Overflow cap
      go e (unsure x f) = absurd (omega (arith, code_is (sym f ∙ e)))
      go e (unclear h x f) = absurd (omega (arith, code_is (sym f ∙ e)))
      go e (full h k g f) = (sure_unsure (sure_each h), (λ x. clear_unclear k x.1, g))
      go e (stepped u h k g f) = table_refused u 21 (sym f ∙ e)

      back : Overflow cap → Case cap (step_table cap a t) → step_table cap a t ≡ refused 21
      back x (unsure y f) = absurd (x.0 y)
      back x (unclear h y f) = absurd (x.1.0 (h, y))
      back x (full h k g f) = f
      back x (stepped u h k g f) = absurd (none-ne-some u (sym x.1.1 ∙ g))

  -- the step is undefined exactly if some world cannot take the move
  pub step_undefined : (cap : ℕ) → ((step_table cap a t ≡ refused 24) ⊎ (step_table cap a t ≡ refused 25)) ↔ SomeUndefined n a t
  step_undefined cap = (go, λ x. back x (step_case cap))
    where
      go : (step_table cap a t ≡ refused 24) ⊎ (step_table cap a t ≡ refused 25) → SomeUndefined n a t
      go (inl e) =
          let x = (step_24 cap).0 e in
          let stays = not_in (takes n a x.0)
          (λ k. both (within a.precondition (state n x.0)) (takes_pre n a x.0 k) x.1.1.1) in
          (x.0, (x.1.0, (x.1.1.0, step_stays n a x.0 stays)))
      go (inr e) =
          let x = ((step_25 cap).0 e).1 in
          let stays = not_in (takes n a x.0)
          (λ k. both (consistent (results es (state n x.0))) (takes_clear n a x.0 k) x.1.1.1) in
          (x.0, (x.1.0, (x.1.1.0, step_stays n a x.0 stays)))

      back : SomeUndefined n a t → Case cap (step_table cap a t) → (step_table cap a t ≡ refused 24) ⊎ (step_table cap a t ≡ refused 25)
      back x (unsure y f) = inl f
      back x (unclear h y f) = inr f
      back x (full h k g f) = both (takes n a x.0) (all_take h k x.0 x.1.1.0 x.1.0) (step_none n a x.0 x.1.1.1)
      back x (stepped u h k g f) = both (takes n a x.0) (all_take h k x.0 x.1.1.0 x.1.0) (step_none n a x.0 x.1.1.1)

  -- there is no other outcome
  pub step_kind : (cap : ℕ) → Kind (step_table cap a t)
  step_kind cap = go (step_case cap)
    where
      go : Case cap (step_table cap a t) → Kind (step_table cap a t)
      go (unsure x f) = inl f
      go (unclear h x f) = inr (inl f)
      go (full h k g f) = inr (inr (inl f))
      go (stepped u h k g f) = inr (inr (inr (u, f)))

  -- ---- a table came of it: then all was sure and clear, and the images were put in turn
  module _ (cap : ℕ) (u : List Literals) (e : step_table cap a t ≡ table u) where
    pub put_images_lem : Sure × (Clear × (images cap ≡ some u))
    put_images_lem = go (step_case cap)
      where
        go : Case cap (step_table cap a t) → Sure × (Clear × (images cap ≡ some u))
        go (unsure x f) = table_refused u 24 (sym e ∙ f)
        go (unclear h x f) = table_refused u 25 (sym e ∙ f)
        go (full h k g f) = table_refused u 21 (sym e ∙ f)
        go (stepped v h k g f) = (h, (k, g ∙ ap {B = Option (List Literals)} some (table_is v u (sym f ∙ e))))

    -- its worlds are exactly what the worlds of the old one come to
    pub step_worlds : (v : ℕ) → v < 2 ^ n → In n u v ↔ SomeTo n a t v
    step_worlds v b = (
      λ i. image_out x.0 x.1.0 v b (put_all_out n v cap (map (image es) ps) u x.1.1 i),
      λ y. put_all_in n v cap (map (image es) ps) u x.1.1
          (subst (λ (z : ℕ). In n (map (image es) ps) z) (step_some n a y.0 v y.1.1.1)
          (image_in x.0 x.1.0 y.0 y.1.1.0 y.1.0)),
    )
      where
        x : Sure × (Clear × (images cap ≡ some u))
        x = put_images_lem

    -- every world takes the move
    pub step_taken : (w : ℕ) → w < 2 ^ n → In n t w → step_world n a w ≡ some (world_after n a w)
    step_taken w b i = step_goes n a w (all_take put_images_lem.0 put_images_lem.1.0 w b i)

    -- and it is as described
    pub step_described : 1 ≤ length t → Described cap n u
    step_described h = record {
      least = filled t ht h u goes;
      most = put_all_size cap (map (image es) ps) [] u put_images_lem.1.1 (omega arith);
      proper = put_all_all (Proper n) cap (map (image es) ps) [] u put_images_lem.1.1 tt (image_proper put_images_lem.1.0);
      apart = put_all_antichain cap (map (image es) ps) [] u put_images_lem.1.1 tt;
    }
      where
        goes : (w : ℕ) → w < 2 ^ n → In n t w → In n u (world_after n a w)
        goes w b i =
            let k = all_take put_images_lem.0 put_images_lem.1.0 w b i in
            (step_worlds (world_after n a w) (after_world n a ha w b k).0).1 (w, (i, (b, step_goes n a w k)))

        some_entry : (x : List Literals) (v : ℕ) → In n x v → 1 ≤ length x
        some_entry [] v i = absurd i
        some_entry (d ∷ x) v i = omega arith

        filled : (x : List Literals) → All (Proper n) x → 1 ≤ length x → (y : List Literals)
            → ((w : ℕ) → w < 2 ^ n → In n x w → In n y (world_after n a w)) → 1 ≤ length y
        filled [] hx h y f = absurd (omega arith)
        filled (d ∷ x) hx h y f = let k = some_world n d hx.0 in some_entry y (world_after n a k.0)
            (f k.0 k.1.0 (inl k.1.1))
