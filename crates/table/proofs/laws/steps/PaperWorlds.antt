-- The step of a world is equations (1) and (2) of source document 000, section 2, literal by literal. For plan/proofs/Demands.
-- Assumes nothing.
use mathlib.Core.Path.{◌≡◌, refl, sym, ap, ◌∙◌}
use mathlib.Core.Bool.{Bool, true, false, not, ◌&&◌, ◌||◌}
use mathlib.Core.List.{List, [], ◌∷◌}
use mathlib.Core.Logic.{◌⊎◌, inl, inr, ◌↔◌}
use mathlib.Core.Option.{none, some, some-injective, none-ne-some, some-ne-none}
use Prim.Native.Nat.{ℕ, ◌^◌, ◌<◌}
use lib.Dec.{T}
use Rattle.sheet.specs.declared.Literals.{Literals}
use Rattle.sheet.specs.declared.Effect.{Effect}
use Rattle.sheet.specs.Literals.{no_literal, mem, within, consistent, join, state}
use Rattle.sheet.specs.Lists.{Any}
use Rattle.sheet.specs.Problem.{Action}
use Rattle.sheet.specs.Encoding.{ProperAction}
use Rattle.sheet.proofs.laws.base.Bools.{test, true_T, and_l, and_r, and_in, or_l, or_r, or_out}
use Rattle.sheet.proofs.laws.literals.LiteralSets.{mem_none, mem_join, mem_replace, set_ext}
use Rattle.table.specs.Worlds.{add_result, results, takes, world_after, step_world}
use Rattle.table.proofs.laws.steps.StepWorlds.{step_goes, step_stays, after_world}

-- ---- equation (1)
none_in : (sign : Bool) (p : ℕ) → T (mem no_literal sign p) → ⊥
none_in sign p h = rw mem_none at h

pub results_are : (es : List Effect) (d : Literals) (sign : Bool) (p : ℕ)
    → T (mem (results es d) sign p) ↔ Any (λ e. T (within e.condition d) × T (mem e.result sign p)) es
results_are [] d sign p = (none_in sign p, λ h. absurd h)
results_are (e ∷ es) d sign p = go (within e.condition d) refl (results_are es d sign p)
  where
    Rest : Type 0
    Rest = Any (λ f. T (within f.condition d) × T (mem f.result sign p)) es

    go : (b : Bool) → within e.condition d ≡ b → T (mem (results es d) sign p) ↔ Rest
        → T (mem (add_result b e.result (results es d)) sign p) ↔ ((T (within e.condition d) × T (mem e.result sign p)) ⊎ Rest)
    go true k ih = (there, back)
      where
        there : T (mem (join e.result (results es d)) sign p) → (T (within e.condition d) × T (mem e.result sign p)) ⊎ Rest
        there h = pick (or_out (mem e.result sign p) (mem (results es d) sign p) (rw mem_join at h))
          where
            pick : T (mem e.result sign p) ⊎ T (mem (results es d) sign p) → (T (within e.condition d) × T (mem e.result sign p))
                ⊎ Rest
            pick (inl i) = inl (true_T (within e.condition d) k, i)
            pick (inr i) = inr (ih.0 i)

        back : (T (within e.condition d) × T (mem e.result sign p)) ⊎ Rest → T (mem (join e.result (results es d)) sign p)
        back (inl i) = rw mem_join (or_l (mem e.result sign p) (mem (results es d) sign p) i.1)
        back (inr i) = rw mem_join (or_r (mem e.result sign p) (mem (results es d) sign p) (ih.1 i))
    go false k ih = (λ h. inr (ih.0 h), back)
      where
        back : (T (within e.condition d) × T (mem e.result sign p)) ⊎ Rest → T (mem (results es d) sign p)
        back (inl i) = absurd (rw k at i.0)
        back (inr i) = ih.1 i

-- ---- equation (2)
module _ (n : ℕ) (a : Action) (ha : ProperAction n a) (w : ℕ) (l : w < 2 ^ n) where
  abbrev before : Literals
  before = state n w

  abbrev e : Literals
  e = results a.effects (state n w)

  abbrev Defined : Type 0
  Defined = T (within a.precondition (state n w)) × T (consistent (results a.effects (state n w)))

  abbrev Update : ℕ → Type 0
  Update v = (sign : Bool) (p : ℕ) → mem (state n v) sign p ≡ ((mem before sign p && not (mem e (not sign) p)) || mem e sign p)

  defined : T (takes n a w) ↔ Defined
  unfolding takes
  defined = (
    λ t. (and_l (within a.precondition before) (consistent e) t, and_r (within a.precondition before) (consistent e) t),
    λ d. and_in (within a.precondition before) (consistent e) d.0 d.1,
  )

  updated : T (takes n a w) → Update (world_after n a w)
  updated t sign p = ap (λ (d : Literals). mem d sign p) (sym (after_world n a ha w l t).1) ∙ mem_replace before e sign p

  trues_of : (v : ℕ) → (state n v).trues ≡ v
  unfolding state
  trues_of v = refl

  only : T (takes n a w) → (v : ℕ) → Update v → world_after n a w ≡ v
  only t v u =
      sym (trues_of (world_after n a w))
      ∙ ap (λ (d : Literals). d.trues) (set_ext (state n (world_after n a w)) (state n v) (λ sign p. updated t sign p ∙ sym (u sign p)))
      ∙ trues_of v

  pub step_some : (v : ℕ) → (step_world n a w ≡ some v) ↔ (T (within a.precondition before) × T (consistent e) × (v < 2 ^ n) × Update v)
  step_some v = (λ h. there h (test (takes n a w)), λ h. let t = defined.1 (h.0, h.1) in step_goes n a w t ∙ ap some (only t v h.3))
    where
      there : step_world n a w ≡ some v → T (takes n a w) ⊎ T (not (takes n a w)) → T (within a.precondition before) × T (consistent e)
          × (v < 2 ^ n) × Update v
      there h (inl t) =
          let d = defined.0 t in
          rw (← some-injective (world_after n a w) v (sym (step_goes n a w t) ∙ h))
          (d.0, d.1, (after_world n a ha w l t).0, updated t)
      there h (inr t) = absurd (none-ne-some v (sym (step_stays n a w t) ∙ h))

  pub step_none : (step_world n a w ≡ none) ↔ (Defined → ⊥)
  step_none = (λ h d. some-ne-none (world_after n a w) (sym (step_goes n a w (defined.1 d)) ∙ h), λ h. by h (test (takes n a w)))
    where
      by : (Defined → ⊥) → T (takes n a w) ⊎ T (not (takes n a w)) → step_world n a w ≡ none
      by h (inl t) = absurd (h (defined.0 t))
      by h (inr t) = step_stays n a w t
