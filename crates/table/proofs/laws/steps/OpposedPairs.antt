-- Contradictory results by pairs: some piece has them exactly if two effects with clashing results can hold together. For
-- `pairs_contradict` in proofs/Demands and for `steps::step_at` (`steps/StepOutcomes`). Assumes nothing.
use mathlib.Core.Path.{◌≡◌, refl, sym, subst, ap₂, ◌∙◌, ap}
use mathlib.Core.Bool.{Bool, true, false, not, ◌&&◌, ◌||◌, and-false}
use mathlib.Core.List.{List, [], ◌∷◌, ◌++◌}
use mathlib.Core.Logic.{◌⊎◌, inl, inr}
use Prim.Native.Nat.{ℕ, ◌^◌, ◌≤◌, ◌<◌}
use lib.Dec.{T}
use Rattle.sheet.specs.declared.Literals.{Literals}
use Rattle.sheet.specs.declared.Effect.{Effect}
use Rattle.sheet.specs.Literals.{no_literal, within, join, clash, consistent, state, Proper}
use Rattle.sheet.specs.Lists.{All, any_of, all_of, collect}
use Rattle.sheet.specs.Encoding.{ProperEffect}
use Rattle.sheet.proofs.laws.base.Bools.{test, both, T_true, T_false, true_T, false_T, T-ext, and_l, and_r, and_in, or_l, or_r, or_out, not_in}
use Rattle.sheet.proofs.laws.base.ListFacts.{all_map, any_with, all_with, any_out, any_choose, any_test, all_test, all_fails, any_tested}
use Rattle.sheet.proofs.laws.literals.LiteralSets.{of_apart, clash_sym, clash_join, of_consistent, consistent_join, consistent_within, below_join, proper_of, proper_below, within_trans, within_join_l, within_join_r, mem_none}
use Rattle.sheet.proofs.laws.literals.ProperSets.{join_within, some_world}
use Rattle.table.specs.Worlds.{add_result, results}
use Rattle.table.specs.Step.{pieces}
use Rattle.table.specs.inner.Pairs.{contradicts}
use Rattle.table.proofs.laws.steps.PieceWorlds.{Part, pieces_parts, pieces_in, results_same}

-- the results of e and f clash, and their conditions can hold together in d
abbrev pair : Literals → Effect → Effect → Bool
pair d e f = clash e.result f.result && consistent (join d (join e.condition f.condition))

-- the results of the piece q do not contradict
abbrev clear : List Effect → Literals → Bool
clear es q = consistent (results es q)

-- what clashes with the results clashes with that of an effect whose condition holds
clash_results : (r : Literals) (es : List Effect) (q : Literals)
    → clash r (results es q) ≡ any_of (λ f. within f.condition q && clash r f.result) es
clash_results r [] q = of_apart r no_literal (λ s p m. mem_none (not s) p)
clash_results r (f ∷ es) q = go (within f.condition q) (clash_results r es q)
  where
    go : (b : Bool) → clash r (results es q) ≡ any_of (λ f. within f.condition q && clash r f.result) es
        → clash r (add_result b f.result (results es q))
        ≡ (b && clash r f.result || any_of (λ f. within f.condition q && clash r f.result) es)
    go true k =
        clash_sym r (join f.result (results es q)) ∙ clash_join f.result (results es q) r
        ∙ ap₂ ◌||◌ (clash_sym f.result r) (clash_sym (results es q) r ∙ k)
    go false k = k

-- the results of one effect and of the rest contradict if the rest does or if they clash
joined_apart : (a b : Literals) → T (consistent a) → T (not (consistent (join a b))) → T (not (consistent b)) ⊎ T (clash a b)
joined_apart a b h k = go (test (consistent b)) (test (clash a b))
  where
    go : T (consistent b) ⊎ T (not (consistent b)) → T (clash a b) ⊎ T (not (clash a b)) → T (not (consistent b)) ⊎ T (clash a b)
    go (inr x) y = inl x
    go (inl x) (inl y) = inr y
    go (inl x) (inr y) =
        both (consistent (join a b))
        (true_T (consistent (join a b))
        (consistent_join a b ∙ rw (T_true (consistent a) h, T_true (consistent b) x, T_false (clash a b) y))) k

clash_joined : (a b : Literals) → T (clash a b) → T (not (consistent (join a b)))
clash_joined a b h = false_T (consistent (join a b))
    (consistent_join a b ∙ rw (T_true (clash a b) h) (and-false (consistent a && consistent b)))

rest_joined : (a b : Literals) → T (not (consistent b)) → T (not (consistent (join a b)))
rest_joined a b h =
    not_in (consistent (join a b))
    (λ t. both (consistent b)
    (true_T (consistent b) (consistent_within b (join a b) (T_true (within b (join a b)) (within_join_r a b))
    (T_true (consistent (join a b)) t))) h)

-- where the results contradict in q, some two effects do in every d within q
pair_of : (es : List Effect) (d q : Literals) → T (within d q) → T (consistent q) → All (λ e. T (consistent e.result)) es
    → T (not (consistent (results es q))) → T (contradicts es d)
unfolding contradicts
pair_of [] d q h c he k = both (consistent no_literal)
    (true_T (consistent no_literal) (of_consistent no_literal (λ s p m. mem_none (not s) p))) k
pair_of (e ∷ es) d q h c he k = go (within e.condition q) refl k (pair_of es d q h c he.1)
  where
    together : T (within e.condition q) → (f : Effect) → T (within f.condition q && clash e.result f.result) → T (pair d e f)
    together x f y =
        and_in (clash e.result f.result) (consistent (join d (join e.condition f.condition)))
        (and_r (within f.condition q) (clash e.result f.result) y)
        (true_T (consistent (join d (join e.condition f.condition)))
        (consistent_within (join d (join e.condition f.condition)) q
        (T_true (within (join d (join e.condition f.condition)) q) (join_within d (join e.condition f.condition) q h
        (join_within e.condition f.condition q x (and_l (within f.condition q) (clash e.result f.result) y))))
        (T_true (consistent q) c)))

    go : (b : Bool) → within e.condition q ≡ b → T (not (consistent (add_result b e.result (results es q))))
        → (T (not (consistent (results es q))) → T (contradicts es d)) → T (any_of (pair d e) es || contradicts es d)
    go false b k ih = or_r (any_of (pair d e) es) (contradicts es d) (ih k)
    go true b k ih = part (joined_apart e.result (results es q) he.0 k)
      where
        part : T (not (consistent (results es q))) ⊎ T (clash e.result (results es q)) → T (any_of (pair d e) es || contradicts es d)
        part (inl x) = or_r (any_of (pair d e) es) (contradicts es d) (ih x)
        part (inr x) =
            or_l (any_of (pair d e) es) (contradicts es d)
            (any_tested (pair d e) (λ f. T (within f.condition q && clash e.result f.result))
            (together (true_T (within e.condition q) b)) es
            (any_test (λ f. within f.condition q && clash e.result f.result) es (subst T (clash_results e.result es q) x)))

-- two effects that can hold together in d do so in a world of d
module _ (n : ℕ) where
  abbrev Clashing : List Effect → Literals → Type 0
  Clashing es d = (w : ℕ) × ((w < 2 ^ n) × (T (within d (state n w)) × T (not (consistent (results es (state n w))))))

  world_of : (es : List Effect) → All (ProperEffect n) es → (d : Literals) → Proper n d → T (contradicts es d) → Clashing es d
  unfolding contradicts
  world_of [] he d hd t = absurd t
  world_of (e ∷ es) he d hd t =
      go (or_out (any_of (pair d e) es) (contradicts es d) t) (world_of es he.1 d hd)
    where
      more : (b : Bool) (x : Literals) → T (not (consistent (results es x))) → T (not (consistent (add_result b e.result (results es x))))
      more true x k = rest_joined e.result (results es x) k
      more false x k = k

      -- both conditions hold in w, and the results clash
      Here : Effect → ℕ → Type 0
      Here f w = T (within f.condition (state n w) && clash e.result f.result)

      At : ℕ → Type 0
      At w = (w < 2 ^ n) × (T (within d (state n w)) × T (within e.condition (state n w)))

      found : (f : Effect) → ProperEffect n f → T (pair d e f) → (w : ℕ) × (Here f w × At w)
      found f hf k =
          let j = join e.condition f.condition in
          let x = some_world n (join d j)
          (proper_of n (join d j) (T_true (consistent (join d j)) (and_r (clash e.result f.result) (consistent (join d j)) k))
          (below_join n d j
          ∙ rw (
            proper_below n d hd,
            below_join n e.condition f.condition,
            proper_below n e.condition he.0.condition.proper,
            proper_below n f.condition hf.condition.proper,
          ))) in
          let i = within_trans j (join d j) (state n x.0) (within_join_r d j) x.1.1 in (
            x.0,
            (
              and_in (within f.condition (state n x.0)) (clash e.result f.result)
                  (within_trans f.condition j (state n x.0) (within_join_r e.condition f.condition) i)
                  (and_l (clash e.result f.result) (consistent (join d j)) k),
              (
                x.1.0,
                (
                  within_trans d (join d j) (state n x.0) (within_join_l d j) x.1.1,
                  within_trans e.condition j (state n x.0) (within_join_l e.condition f.condition) i,
                ),
              ),
            ),
          )

      go : T (any_of (pair d e) es) ⊎ T (contradicts es d)
          → (T (contradicts es d) → Clashing es d) → Clashing (e ∷ es) d
      go (inr h) ih = let x = ih h in
          (x.0, (x.1.0, (x.1.1.0, more (within e.condition (state n x.0)) (state n x.0) x.1.1.1)))
      go (inl h) ih =
          let x = any_choose Here At es
          (any_with (ProperEffect n) (λ f. T (pair d e f)) (λ f. (w : ℕ) × (Here f w × At w)) found es he.1
          (any_test (pair d e) es h)) in (
            x.0,
            (
              x.1.1.0,
              (
                x.1.1.1.0,
                subst (λ (b : Bool). T (not (consistent (add_result b e.result (results es (state n x.0))))))
                    (sym (T_true (within e.condition (state n x.0)) x.1.1.1.1))
                    (clash_joined e.result (results es (state n x.0))
                    (subst T (sym (clash_results e.result es (state n x.0)))
                    (any_tested (λ f. within f.condition (state n x.0) && clash e.result f.result) (λ f. Here f x.0)
                    (λ f y. y) es x.1.0))),
              ),
            ),
          )

  -- the test by pairs is the test of every piece
  pub pairs_contradict : n ≤ 32 → (es : List Effect) → All (ProperEffect n) es → (d : Literals) → Proper n d
      → not (contradicts es d) ≡ all_of (λ q. consistent (results es q)) (pieces es d)
  pairs_contradict hn es he d hd = T-ext (not (contradicts es d)) (all_of (clear es) (pieces es d)) fore back
    where
      steady : All (λ e. T (consistent e.result)) es
      steady = all_map (ProperEffect n) (λ e. T (consistent e.result)) (λ e x. x.result.proper.steady) es he

      fore : T (not (contradicts es d)) → T (all_of (clear es) (pieces es d))
      fore k = go (test (all_of (clear es) (pieces es d)))
        where
          go : T (all_of (clear es) (pieces es d)) ⊎ T (not (all_of (clear es) (pieces es d))) → T (all_of (clear es) (pieces es d))
          go (inl y) = y
          go (inr z) =
              any_out (Part n es d) (λ q. T (not (consistent (results es q))))
              (λ q m c. both (contradicts es d) (pair_of es d q m.over m.proper.steady steady c) k)
              (pieces es d) (pieces_parts n es he d hd) (all_fails (clear es) (pieces es d) z)

      back : T (all_of (clear es) (pieces es d)) → T (not (contradicts es d))
      back k =
          not_in (contradicts es d) (λ t.
          let x = world_of es he d hd t in
          any_out (λ q. Part n es d q × T (consistent (results es q))) (λ q. T (within q (state n x.0)))
          (λ q m i. both (consistent (results es (state n x.0)))
          (subst (λ (r : Literals). T (consistent r)) (results_same n x.0 x.1.0 es q i m.0.decided) m.1) x.1.1.1)
          (pieces es d)
          (all_with (Part n es d) (λ q. T (consistent (results es q))) (λ q. Part n es d q × T (consistent (results es q)))
          (λ q m c. (m, c)) (pieces es d)
          (pieces_parts n es he d hd) (all_test (clear es) (pieces es d) k))
          (pieces_in n hn es he d hd x.0 x.1.0 x.1.1.0))

-- ---- over all entries: 25 by pairs of effects is 25 by pieces
all_both : {A : Type 0} (f : A → Bool) (xs ys : List A) → all_of f (xs ++ ys) ≡ (all_of f xs && all_of f ys)
all_both f [] ys = refl
all_both f (x ∷ xs) ys = ap (λ (b : Bool). f x && b) (all_both f xs ys) ∙ regroup (f x) (all_of f xs) (all_of f ys)
  where
    regroup : (a b c : Bool) → (a && (b && c)) ≡ ((a && b) && c)
    regroup true b c = refl
    regroup false b c = refl

neither : (a b : Bool) → (not a && not b) ≡ not (a || b)
neither true b = refl
neither false b = refl

pub all_clear : (n : ℕ) → n ≤ 32 → (es : List Effect) → All (ProperEffect n) es → (t : List Literals) → All (Proper n) t
    → all_of (λ d. consistent (results es d)) (collect (pieces es) t) ≡ not (any_of (λ d. contradicts es d) t)
all_clear n hn es he [] h = refl
all_clear n hn es he (d ∷ t) h =
    all_both (λ q. consistent (results es q)) (pieces es d) (collect (pieces es) t)
    ∙ ap₂ (λ (a b : Bool). a && b) (sym (pairs_contradict n hn es he d h.0)) (all_clear n hn es he t h.1)
    ∙ neither (contradicts es d) (any_of (λ q. contradicts es q) t)
