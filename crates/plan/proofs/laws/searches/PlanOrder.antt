-- The plans tried are those within the limit, in their order, and what the first answer among them says. For TH6 (StartSearches),
-- FirstByMove and NoShorterPlans; `collect_append` for unit too. Assumes nothing.
use mathlib.Core.Path.{◌≡◌, refl, sym, ap, subst, ◌∙◌}
use mathlib.Core.List.{List, [], ◌∷◌, ◌++◌, map, append_assoc, append-nil}
use mathlib.Core.Logic.{◌⊎◌, inl, inr, ◌↔◌}
use Prim.Native.Nat.{ℕ, zero, suc, ◌<◌}
use native.Mathlib.Omega.{arith}
use native.Mathlib.Decide.{ℕ_discrete}
use lib.ListN.{length}
use Rattle.sheet.specs.Lists.{Any, All, collect}
use Rattle.sheet.proofs.laws.base.ListFacts.{any_map, all_map, any_out, all_by, all_with, any_append, any_append_l, any_append_r}
use Rattle.sheet.proofs.laws.base.ListFacts.{all_append, all_parts, any_imaged, all_imaged, any_collected, all_collected}
use Rattle.plan.specs.Run.{Verdict, reached, short, stopped, full}
use Rattle.plan.specs.Search.{upto, plans_of, plans_up_to, Answer, found, full_at, nothing, or_next, first_of}
use Rattle.plan.specs.Order.{Lower, Earlier, PlanOf}
use Rattle.plan.specs.inner.FirstPlans.{Fails, FirstPlan}

-- ---- the numbers below k
in_upto : (k i : ℕ) → i < k → Any (λ j. j ≡ i) (upto k)
in_upto zero i h = absurd (omega arith)
in_upto (suc k) i h = go (ℕ_discrete k i) (in_upto k i)
  where
    go : Dec (k ≡ i) → (i < k → Any (λ j. j ≡ i) (upto k)) → Any (λ j. j ≡ i) (upto k ++ (k ∷ []))
    go (yes e) ih = any_append_r (λ j. j ≡ i) (upto k) (k ∷ []) (inl e)
    go (no f) ih = any_append_l (λ j. j ≡ i) (upto k) (k ∷ []) (ih (omega arith))

upto_below : (k : ℕ) → All (λ j. j < k) (upto k)
upto_below zero = tt
upto_below (suc k) =
    all_append (λ j. j < suc k) (upto k) (k ∷ []) (all_map (λ j. j < k) (λ j. j < suc k) (λ j h. omega arith) (upto k) (upto_below k))
    (omega arith, tt)

pub collect_append : {A B : Type 0} (f : A → List B) (xs ys : List A) → collect f (xs ++ ys) ≡ collect f xs ++ collect f ys
collect_append f [] ys = refl
collect_append {A} {B} f (x ∷ xs) ys = ap {B = List B} (λ r. f x ++ r) (collect_append f xs ys)
    ∙ sym (append_assoc (f x) (collect f xs) (collect f ys))

-- ---- the plans are those within the limit
pub plans_in : (k : ℕ) (p : List ℕ) → All (λ i. i < k) p → Any (λ q. q ≡ p) (plans_of k (length p))
plans_in k [] h = inl refl
plans_in k (i ∷ p) h =
    any_collected (λ j. map (λ q. j ∷ q) (plans_of k (length p))) (λ q. q ≡ i ∷ p) (upto k)
    (any_map (λ j. j ≡ i) (λ j. Any (λ q. q ≡ i ∷ p) (map (λ q. j ∷ q) (plans_of k (length p))))
    (λ j e. any_imaged (λ q. j ∷ q) (λ q. q ≡ i ∷ p) (plans_of k (length p))
    (any_map (λ q. q ≡ p) (λ q. j ∷ q ≡ i ∷ p) (λ q f. cc) (plans_of k (length p)) (plans_in k p h.1)))
    (upto k) (in_upto k i h.0))

pub plans_out : (k m : ℕ) → All (λ p. All (λ i. i < k) p × (length p ≡ m)) (plans_of k m)
plans_out k zero = ((tt, refl), tt)
plans_out k (suc m) =
    all_collected (λ i. map (λ p. i ∷ p) (plans_of k m)) (λ p. All (λ i. i < k) p × (length p ≡ suc m)) (upto k)
    (all_map (λ i. i < k) (λ i. All (λ p. All (λ j. j < k) p × (length p ≡ suc m)) (map (λ p. i ∷ p) (plans_of k m)))
    (λ i l. all_imaged (λ p. i ∷ p) (λ p. All (λ j. j < k) p × (length p ≡ suc m)) (plans_of k m)
    (all_map (λ p. All (λ j. j < k) p × (length p ≡ m)) (λ p. All (λ j. j < k) (i ∷ p) × (length (i ∷ p) ≡ suc m))
    (λ p h. ((l, h.0), ap suc h.1)) (plans_of k m) (plans_out k m)))
    (upto k) (upto_below k))

pub in_plans : (k limit : ℕ) (p : List ℕ) → PlanOf k limit p → Any (λ q. q ≡ p) (plans_up_to k limit)
in_plans k limit p h =
    any_collected (plans_of k) (λ q. q ≡ p) (upto (suc limit))
    (any_map (λ m. m ≡ length p) (λ m. Any (λ q. q ≡ p) (plans_of k m))
    (λ m e. subst (λ (x : ℕ). Any (λ q. q ≡ p) (plans_of k x)) (sym e) (plans_in k p h.0))
    (upto (suc limit)) (in_upto (suc limit) (length p) (omega (arith, h.1))))

pub out_plans : (k limit : ℕ) → All (PlanOf k limit) (plans_up_to k limit)
out_plans k limit =
    all_collected (plans_of k) (PlanOf k limit) (upto (suc limit))
    (all_map (λ m. m < suc limit) (λ m. All (PlanOf k limit) (plans_of k m))
    (λ m l. all_map (λ p. All (λ i. i < k) p × (length p ≡ m)) (PlanOf k limit) (λ p h. (h.0, omega (arith, h.1))) (plans_of k m)
    (plans_out k m))
    (upto (suc limit)) (upto_below (suc limit)))

-- ---- each comes before those after it
abbrev Ordered : List (List ℕ) → Type 0
Ordered [] = Unit {0}
Ordered (p ∷ ps) = All (Earlier p) ps × Ordered ps

ordered_append : (ps qs : List (List ℕ)) → Ordered ps → Ordered qs → All (λ p. All (Earlier p) qs) ps → Ordered (ps ++ qs)
ordered_append [] qs h k l = k
ordered_append (p ∷ ps) qs h k l = (all_append (Earlier p) ps qs h.0 l.0, ordered_append ps qs h.1 k l.1)

module _ (f : ℕ → List (List ℕ)) (each : (i : ℕ) → Ordered (f i)) (rising : (i j : ℕ) → i < j → All (λ p. All (Earlier p) (f j)) (f i))
  where
    ordered_collect : (k : ℕ) → Ordered (collect f (upto k))
    ordered_collect zero = tt
    ordered_collect (suc k) =
        subst Ordered (sym (collect_append f (upto k) (k ∷ [])))
        (ordered_append (collect f (upto k)) (f k ++ []) (ordered_collect k)
        (ordered_append (f k) [] (each k) tt (all_by (λ p. All (Earlier p) []) (λ p. tt) (f k)))
        (all_collected f (λ p. All (Earlier p) (f k ++ [])) (upto k)
        (all_map (λ i. i < k) (λ i. All (λ p. All (Earlier p) (f k ++ [])) (f i))
        (λ i l. all_map (λ p. All (Earlier p) (f k)) (λ p. All (Earlier p) (f k ++ [])) (λ p h. all_append (Earlier p) (f k) [] h tt) (f i)
        (rising i k l)) (upto k) (upto_below k))))

ordered_map : (i : ℕ) (ps : List (List ℕ)) → Ordered ps → Ordered (map (λ p. i ∷ p) ps)
ordered_map i [] h = tt
ordered_map i (p ∷ ps) h = (
  all_imaged (λ q. i ∷ q) (Earlier (i ∷ p)) ps
      (all_map (Earlier p) (λ q. Earlier (i ∷ p) (i ∷ q)) (λ q k. onto q k) ps h.0),
  ordered_map i ps h.1,
)
  where
    onto : (q : List ℕ) → Earlier p q → Earlier (i ∷ p) (i ∷ q)
    onto q (inl l) = inl (omega arith)
    onto q (inr k) = inr (ap suc k.0, inr (refl, k.1))

plans_ordered : (k m : ℕ) → Ordered (plans_of k m)
plans_ordered k zero = (tt, tt)
plans_ordered k (suc m) = ordered_collect (λ i. map (λ p. i ∷ p) (plans_of k m)) (λ i. ordered_map i (plans_of k m) (plans_ordered k m))
    rising k
  where
    rising : (i j : ℕ) → i < j → All (λ p. All (Earlier p) (map (λ q. j ∷ q) (plans_of k m))) (map (λ p. i ∷ p) (plans_of k m))
    rising i j l =
        all_imaged (λ p. i ∷ p) (λ p. All (Earlier p) (map (λ q. j ∷ q) (plans_of k m))) (plans_of k m)
        (all_map (λ p. All (λ x. x < k) p × (length p ≡ m)) (λ p. All (Earlier (i ∷ p)) (map (λ q. j ∷ q) (plans_of k m)))
        (λ p hp. all_imaged (λ q. j ∷ q) (Earlier (i ∷ p)) (plans_of k m)
        (all_map (λ q. All (λ x. x < k) q × (length q ≡ m)) (λ q. Earlier (i ∷ p) (j ∷ q))
        (λ q hq. inr (ap suc (hp.1 ∙ sym hq.1), inl l)) (plans_of k m) (plans_out k m)))
        (plans_of k m) (plans_out k m))

pub ordered : (k limit : ℕ) → Ordered (plans_up_to k limit)
ordered k limit =
    ordered_collect (plans_of k) (plans_ordered k)
    (λ i j l. all_map (λ p. All (λ x. x < k) p × (length p ≡ i)) (λ p. All (Earlier p) (plans_of k j))
    (λ p hp. all_map (λ q. All (λ x. x < k) q × (length q ≡ j)) (Earlier p) (λ q hq. inl (omega (arith, hp.1, hq.1))) (plans_of k j)
    (plans_out k j)) (plans_of k i) (plans_out k i))
    (suc limit)

-- no two come before each other
lower_once : (p q : List ℕ) → Lower p q → Lower q p → ⊥
lower_once [] q h k = h
lower_once (i ∷ p) [] h k = h
lower_once (i ∷ p) (j ∷ q) (inl a) (inl b) = omega arith
lower_once (i ∷ p) (j ∷ q) (inl a) (inr b) = omega (arith, b.0)
lower_once (i ∷ p) (j ∷ q) (inr a) (inl b) = omega (arith, a.0)
lower_once (i ∷ p) (j ∷ q) (inr a) (inr b) = lower_once p q a.1 b.1

once : (p q : List ℕ) → Earlier p q → Earlier q p → ⊥
once p q (inl a) (inl b) = omega arith
once p q (inl a) (inr b) = omega (arith, b.0)
once p q (inr a) (inl b) = omega (arith, a.0)
once p q (inr a) (inr b) = lower_once p q a.1 b.1

-- ---- a plan among others
any_split : (p : List ℕ) (ps : List (List ℕ)) → Any (λ q. q ≡ p) ps → (before : List (List ℕ)) × (rest : List (List ℕ))
    × (ps ≡ before ++ (p ∷ rest))
any_split p [] h = absurd h
any_split p (q ∷ ps) (inl e) = ([], ps, ap {B = List (List ℕ)} (λ x. x ∷ ps) e)
any_split p (q ∷ ps) (inr h) = let r = any_split p ps h in (q ∷ r.0, r.1, ap {B = List (List ℕ)} (λ x. q ∷ x) r.2)

ordered_parts : (before : List (List ℕ)) (p : List ℕ) (rest : List (List ℕ)) → Ordered (before ++ (p ∷ rest))
    → All (λ q. Earlier q p) before × All (Earlier p) rest
ordered_parts [] p rest h = (tt, h.0)
ordered_parts (q ∷ before) p rest h =
    let r = ordered_parts before p rest h.1 in
    (((all_parts (Earlier q) before (p ∷ rest) h.0).1.0, r.0), r.1)

-- ---- the first answer in a list
module _ (run : List ℕ → Verdict) where
  abbrev FirstIn : List (List ℕ) → List ℕ → Verdict → Type 0
  FirstIn ps p v =
      (before : List (List ℕ)) × (rest : List (List ℕ)) × (ps ≡ before ++ (p ∷ rest)) × All (λ q. Fails (run q)) before × (run p ≡ v)

  Says : List (List ℕ) → Answer → Type 0
  Says ps (found p) = FirstIn ps p reached
  Says ps (full_at p k) = FirstIn ps p (full k)
  Says ps nothing = All (λ q. Fails (run q)) ps

  first_says : (ps : List (List ℕ)) → Says ps (first_of run ps)
  unfolding Says
  first_says [] = tt
  first_says (p ∷ ps) = go (run p) refl (first_of run ps) (first_says ps)
    where
      first_in : (v : Verdict) → Fails (run p) → (q : List ℕ) → FirstIn ps q v → FirstIn (p ∷ ps) q v
      first_in v f q a = (p ∷ a.0, a.1, ap {B = List (List ℕ)} (λ x. p ∷ x) a.2, (f, a.3), a.4)

      later : Fails (run p) → (r : Answer) → Says ps r → Says (p ∷ ps) r
      later f (found q) a = first_in reached f q a
      later f (full_at q k) a = first_in (full k) f q a
      later f nothing a = (f, a)

      go : (v : Verdict) → run p ≡ v → (r : Answer) → Says ps r → Says (p ∷ ps) (or_next v p r)
      go reached e r a = ([], ps, refl, tt, e)
      go short e r a = later (subst Fails (sym e) tt) r a
      go (stopped k N) e r a = later (subst Fails (sym e) tt) r a
      go (full k) e r a = ([], ps, refl, tt, e)

  skip : (before rest : List (List ℕ)) → All (λ q. Fails (run q)) before → first_of run (before ++ rest) ≡ first_of run rest
  skip [] rest h = refl
  skip (p ∷ before) rest h = go (run p) h.0 ∙ skip before rest h.1
    where
      go : (v : Verdict) → Fails v → or_next v p (first_of run (before ++ rest)) ≡ first_of run (before ++ rest)
      go reached f = absurd f
      go short f = refl
      go (stopped k N) f = refl
      go (full k) f = absurd f

  first_is : (ps : List (List ℕ)) (p : List ℕ) (v : Verdict) → (a : FirstIn ps p v) → first_of run ps ≡ or_next v p (first_of run a.1)
  first_is ps p v a = ap (first_of run) a.2 ∙ skip a.0 (p ∷ a.1) a.3 ∙ ap (λ (u : Verdict). or_next u p (first_of run a.1)) a.4

  pub none_is : (ps : List (List ℕ)) → All (λ q. Fails (run q)) ps → first_of run ps ≡ nothing
  none_is ps h = ap (first_of run) (sym (append-nil ps)) ∙ skip ps [] h

  pub none_each : (ps : List (List ℕ)) → first_of run ps ≡ nothing → All (λ q. Fails (run q)) ps
  unfolding Says
  none_each ps e = subst (Says ps) e (first_says ps)

  -- ---- among the plans within a limit
  module _ (k limit : ℕ) where
    abbrev plans : List (List ℕ)
    plans = plans_up_to k limit

    first_plan : (p : List ℕ) (v : Verdict) → FirstIn plans p v → FirstPlan run k limit p v
    first_plan p v a = record {
      plan = (all_parts (PlanOf k limit) a.0 (p ∷ a.1) (subst (All (PlanOf k limit)) a.2 (out_plans k limit))).1.0;
      gives = a.4;
      earlier = earlier;
    }
      where
        parts : All (λ q. Earlier q p) a.0 × All (Earlier p) a.1
        parts = ordered_parts a.0 p a.1 (subst Ordered a.2 (ordered k limit))

        earlier : (q : List ℕ) → PlanOf k limit q → Earlier q p → Fails (run q)
        earlier q h l = go (any_append (λ r. r ≡ q) a.0 (p ∷ a.1) (subst (Any (λ r. r ≡ q)) a.2 (in_plans k limit q h)))
          where
            go : Any (λ r. r ≡ q) a.0 ⊎ Any (λ r. r ≡ q) (p ∷ a.1) → Fails (run q)
            go (inl i) = any_out (λ r. Fails (run r)) (λ r. r ≡ q) (λ r f e. subst (λ (z : List ℕ). Fails (run z)) e f) a.0 a.3 i
            go (inr (inl e)) = absurd (once q q (subst (Earlier q) e l) (subst (Earlier q) e l))
            go (inr (inr i)) = any_out (Earlier p) (λ r. r ≡ q) (λ r f e. absurd (once p q (subst (Earlier p) e f) l)) a.1 parts.1 i

    plan_first : (p : List ℕ) (v : Verdict) → FirstPlan run k limit p v → FirstIn plans p v
    plan_first p v f =
        let r = any_split p plans (in_plans k limit p f.plan) in
        let o = ordered_parts r.0 p r.1 (subst Ordered r.2 (ordered k limit)) in
        let i = all_parts (PlanOf k limit) r.0 (p ∷ r.1) (subst (All (PlanOf k limit)) r.2 (out_plans k limit)) in (
          r.0,
          r.1,
          r.2,
          all_with (λ q. Earlier q p) (PlanOf k limit) (λ q. Fails (run q)) (λ q l h. f.earlier q h l) r.0 o.0
              i.0,
          f.gives,
        )

    says : (r : Answer) → first_of run plans ≡ r → Says plans r
    says r e = subst (Says plans) e (first_says plans)

    -- the first plan that is reached or full, and none exactly if every plan fails
    pub search_found : (p : List ℕ) → (first_of run plans ≡ found p) ↔ FirstPlan run k limit p reached
    unfolding Says
    search_found p = (λ e. first_plan p reached (says (found p) e), λ f. first_is plans p reached (plan_first p reached f))

    pub search_full : (p : List ℕ) (i : ℕ) → (first_of run plans ≡ full_at p i) ↔ FirstPlan run k limit p (full i)
    unfolding Says
    search_full p i = (λ e. first_plan p (full i) (says (full_at p i) e), λ f. first_is plans p (full i) (plan_first p (full i) f))

    pub search_nothing : (first_of run plans ≡ nothing) ↔ ((p : List ℕ) → PlanOf k limit p → Fails (run p))
    unfolding Says
    search_nothing = (
      λ e p h. any_out (λ q. Fails (run q)) (λ q. q ≡ p) (λ q f i. subst (λ (z : List ℕ). Fails (run z)) i f) plans (says nothing e)
          (in_plans k limit p h),
      λ f. none_is plans (all_map (PlanOf k limit) (λ q. Fails (run q)) f plans (out_plans k limit)),
    )
