-- What a verdict means for worlds holds of one verdict alone (`one_verdict`), and of one class (`one_class`), also of two plans that every
-- world ends alike. For StartRuns, StartSearches and ExactRuns. Assumes nothing.
use mathlib.Core.Path.{◌≡◌, refl, sym, ap, subst, ◌∙◌}
use mathlib.Core.Bool.{not}
use mathlib.Core.List.{List, head-eq_of_cons-eq}
use mathlib.Core.Logic.{◌⊎◌, inl, inr}
use mathlib.Core.Option.{Option, some-injective, some-ne-none}
use Prim.Native.Nat.{ℕ, suc, ◌^◌, ◌<◌}
use native.Mathlib.Omega.{arith}
use lib.Dec.{T, ltb, ltb→lt, nltb→le}
use lib.ListN.{take, drop}
use Rattle.sheet.specs.declared.Literals.{Literals}
use Rattle.sheet.specs.Problem.{Action}
use Rattle.sheet.proofs.laws.base.Bools.{test}
use Rattle.table.specs.Worlds.{run_world, InGoal}
use Rattle.plan.specs.Run.{Verdict, reached, short, stopped, full}
use Rattle.plan.specs.Meaning.{Ends, Undefined, Inside, Outside, Lacking, Every, Some, StopsAt}
use Rattle.plan.specs.inner.RunEnds.{Means}
use Rattle.plan.specs.Demand3.{Class, is_reached, is_short, is_stopped}
use Rattle.plan.proofs.laws.runs.PlanWorlds.{take_none, prefix_none}

-- ---- the three kinds of end exclude each other, also of two plans that every world ends alike
abbrev pub ClassMeans : ℕ → List Literals → (ℕ → Type 0) → List Action → Class → Type 0
ClassMeans n goal S plan is_reached = Every n S (Inside n goal) plan
ClassMeans n goal S plan is_short = Every n S Ends plan × Some n S (Outside n goal) plan
ClassMeans n goal S plan is_stopped = Some n S Undefined plan

pub one_end : {X : Type 0} (n : ℕ) (goal : List Literals) (o : Option ℕ) → Inside n goal o → Outside n goal o → X
one_end n goal o x y = absurd (y.2 (subst (InGoal n goal) (some-injective x.0 y.0 (sym x.1 ∙ y.1)) x.2))

ends_not : {X : Type 0} (o : Option ℕ) → Ends o → Undefined o → X
ends_not o x e = absurd (some-ne-none x.0 (sym x.1 ∙ e))

pub one_class : (n : ℕ) (goal : List Literals) (S : ℕ → Type 0) (plan : List Action) (c d : Class)
    → ClassMeans n goal S plan c → ClassMeans n goal S plan d → c ≡ d
one_class n goal S plan is_reached is_reached h k = refl
one_class n goal S plan is_reached is_short h k = let x = k.1 in one_end n goal (run_world n plan x.0) (h x.0 x.1 x.2) x.3
one_class n goal S plan is_reached is_stopped h k = let y = h k.0 k.1 k.2 in ends_not (run_world n plan k.0) (y.0, y.1) k.3
one_class n goal S plan is_short is_reached h k = let x = h.1 in one_end n goal (run_world n plan x.0) (k x.0 x.1 x.2) x.3
one_class n goal S plan is_short is_short h k = refl
one_class n goal S plan is_short is_stopped h k = ends_not (run_world n plan k.0) (h.0 k.0 k.1 k.2) k.3
one_class n goal S plan is_stopped is_reached h k = let y = k h.0 h.1 h.2 in ends_not (run_world n plan h.0) (y.0, y.1) h.3
one_class n goal S plan is_stopped is_short h k = ends_not (run_world n plan h.0) (k.0 h.0 h.1 h.2) h.3
one_class n goal S plan is_stopped is_stopped h k = refl

pub class_other : (n : ℕ) (goal : List Literals) (S : ℕ → Type 0) (plan other : List Action)
    → ((w : ℕ) → w < 2 ^ n → run_world n other w ≡ run_world n plan w)
    → (c : Class) → ClassMeans n goal S other c → ClassMeans n goal S plan c
class_other n goal S plan other e is_reached h = λ w l s. subst (Inside n goal) (e w l) (h w l s)
class_other n goal S plan other e is_short h =
    let x = h.1 in
    (λ w l s. subst Ends (e w l) (h.0 w l s), (x.0, x.1, x.2, subst (Outside n goal) (e x.0 x.1) x.3))
class_other n goal S plan other e is_stopped h = (h.0, h.1, h.2, sym (e h.0 h.1) ∙ h.3)

-- ---- a stop has one place and one number
module _ (n : ℕ) (S : ℕ → Type 0) (plan : List Action) where
  pub stop_class : (k N : ℕ) → StopsAt n S plan k N → Some n S Undefined plan
  stop_class k N m = let x = m.lost in (x.0, x.1, x.2, prefix_none n k plan x.0 x.3)

  earlier : {X : Type 0} (i j : ℕ) → i < j → Some n S Undefined (take (suc i) plan) → Every n S Ends (take j plan) → X
  earlier i j h x every = ends_not (run_world n (take j plan) x.0) (every x.0 x.1 x.2)
      (take_none n (suc i) j plan x.0 h x.3)

  one_place : (i j : ℕ) → Every n S Ends (take i plan) → Some n S Undefined (take (suc i) plan) → Every n S Ends (take j plan)
      → Some n S Undefined (take (suc j) plan) → i ≡ j
  one_place i j ei ui ej uj = go (test (ltb i j)) (test (ltb j i))
    where
      go : T (ltb i j) ⊎ T (not (ltb i j)) → T (ltb j i) ⊎ T (not (ltb j i)) → i ≡ j
      go (inl x) y = earlier i j (ltb→lt i j x) ui ej
      go (inr x) (inl y) = earlier j i (ltb→lt j i y) uj ei
      go (inr x) (inr y) = omega (arith, nltb→le i j x, nltb→le j i y)

  one_stop : (k N k' N' : ℕ) → StopsAt n S plan k N → StopsAt n S plan k' N' → (k ≡ k') × (N ≡ N')
  one_stop k N k' N' m m' = (
    m.place ∙ ap suc e ∙ sym m'.place,
    numbers m.number (subst (λ (a : Action). Number a N') (sym same_move) there),
  )
    where
      e : m.before ≡ m'.before
      e = one_place m.before m'.before m.taken (subst (λ (i : ℕ). Some n S Undefined (take i plan)) m.place m.lost)
          m'.taken
          (subst (λ (i : ℕ). Some n S Undefined (take i plan)) m'.place m'.lost)

      same_move : m.move ≡ m'.move
      same_move = head-eq_of_cons-eq (sym m.next ∙ ap (λ (i : ℕ). drop i plan) e ∙ m'.next)

      Number : Action → ℕ → Type 0
      Number a c = ((c ≡ 24) × Some n S (Lacking n a) (take m.before plan))
          ⊎ ((c ≡ 25) × (Some n S (Lacking n a) (take m.before plan) → ⊥))

      there : Number m'.move N'
      there = subst (λ (i : ℕ). ((N' ≡ 24) × Some n S (Lacking n m'.move) (take i plan))
          ⊎ ((N' ≡ 25) × (Some n S (Lacking n m'.move) (take i plan) → ⊥))) (sym e) m'.number

      numbers : Number m.move N → Number m.move N' → N ≡ N'
      numbers (inl x) (inl y) = x.0 ∙ sym y.0
      numbers (inl x) (inr y) = absurd (y.1 x.1)
      numbers (inr x) (inl y) = absurd (x.1 y.1)
      numbers (inr x) (inr y) = x.0 ∙ sym y.0

-- ---- so two verdicts that mean the same are the same, unless one is full
module _ (n : ℕ) (goal : List Literals) (S : ℕ → Type 0) (plan : List Action) where
  unlike : {X : Type 0} (c d : Class) → (c ≡ d → ◌≡◌ {A = ℕ} 0 1) → ClassMeans n goal S plan c → ClassMeans n goal S plan d → X
  unlike c d f h k = absurd (omega (arith, f (one_class n goal S plan c d h k)))

  pub one_verdict : (v u : Verdict) → ((k : ℕ) → v ≡ full k → ⊥) → ((k : ℕ) → u ≡ full k → ⊥) → Means n goal S plan v
      → Means n goal S plan u → v ≡ u
  one_verdict reached reached f g h k = refl
  one_verdict reached short f g h k = unlike is_reached is_short (λ e. cc) h k
  one_verdict reached (stopped i N) f g h k = unlike is_reached is_stopped (λ e. cc) h (stop_class n S plan i N k)
  one_verdict reached (full i) f g h k = absurd (g i refl)
  one_verdict short reached f g h k = unlike is_short is_reached (λ e. cc) h k
  one_verdict short short f g h k = refl
  one_verdict short (stopped i N) f g h k = unlike is_short is_stopped (λ e. cc) h (stop_class n S plan i N k)
  one_verdict short (full i) f g h k = absurd (g i refl)
  one_verdict (stopped i N) reached f g h k = unlike is_stopped is_reached (λ e. cc) (stop_class n S plan i N h) k
  one_verdict (stopped i N) short f g h k = unlike is_stopped is_short (λ e. cc) (stop_class n S plan i N h) k
  one_verdict (stopped i N) (stopped j M) f g h k = let q = one_stop n S plan i N j M h k in cc
  one_verdict (stopped i N) (full j) f g h k = absurd (g j refl)
  one_verdict (full i) u f g h k = absurd (f i refl)
