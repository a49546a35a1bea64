-- Touching moves by their literals and propositions, and moves that share the lamp. For `exchange` in proofs/Demands (demand 3) and W2.
-- Assumes nothing.
use mathlib.Core.Path.{◌≡◌, refl, sym, ap, subst, ◌∙◌}
use mathlib.Core.Bool.{Bool, true, false, not, ◌&&◌, ◌||◌, true≢false}
use mathlib.Core.List.{List, [], ◌∷◌}
use mathlib.Core.Logic.{◌⊎◌, inl, inr, ◌↔◌}
use Prim.Native.Nat.{ℕ}
use lib.Dec.{T, eqb}
use lib.Bits.{bit_and}
use borrow.Author.Tests.{eq-eqb, eqb-true}
use Rattle.sheet.specs.declared.Literals.{Literals}
use Rattle.sheet.specs.declared.Effect.{Effect}
use Rattle.sheet.specs.Literals.{has, mem, clash, names}
use Rattle.sheet.specs.Lists.{Any}
use Rattle.sheet.specs.Problem.{Action}
use Rattle.sheet.proofs.laws.literals.MaskBits.{has_or, has_none, disjoint_of, not_disjoint}
use Rattle.sheet.proofs.laws.base.Bools.{T_true, true_T, or_cases, or_left, or_right}
use Rattle.sheet.proofs.laws.literals.LiteralSets.{mem_join, clash_at, clash_here, mem_none}
use Rattle.sheet.proofs.laws.base.ListFacts.{any_map}
use Rattle.sheet.proofs.laws.literals.Results.{has_names}
use Rattle.plan.specs.Exchange.{results_by, named_by, read_by, changed, reads, named, touch, touch_anywhere}
use Rattle.plan.specs.DemandWords.{Names, ResultOf, InResult, ReadIn, NamedIn, TouchesAt, PutsOut}

-- ---- tests, as what they say
test_iff : (x : Bool) → (x ≡ true) ↔ T x
test_iff x = (true_T x, T_true x)

or_iff : (z x y : Bool) (P Q : Type 0) → z ≡ (x || y) → (x ≡ true) ↔ P → (y ≡ true) ↔ Q → (z ≡ true) ↔ (P ⊎ Q)
or_iff z x y P Q e p q = (λ h. there (or_cases x y (sym e ∙ h)), λ h. e ∙ back h)
  where
    there : (x ≡ true) ⊎ (y ≡ true) → P ⊎ Q
    there (inl h) = inl (p.0 h)
    there (inr h) = inr (q.0 h)

    back : P ⊎ Q → (x || y) ≡ true
    back (inl h) = or_left x y (p.1 h)
    back (inr h) = or_right x y (q.1 h)

-- at some proposition
or_at : (z x y : Bool) (P Q : ℕ → Type 0) → z ≡ (x || y) → (x ≡ true) ↔ ((q : ℕ) × P q) → (y ≡ true) ↔ ((q : ℕ) × Q q) → (z ≡ true)
    ↔ ((q : ℕ) × (P q ⊎ Q q))
or_at z x y P Q e p q = (
  λ h. there ((or_iff z x y ((i : ℕ) × P i) ((i : ℕ) × Q i) e p q).0 h),
  λ h. (or_iff z x y ((i : ℕ) × P i) ((i : ℕ) × Q i) e p q).1 (back h.0 h.1),
)
  where
    there : ((i : ℕ) × P i) ⊎ ((i : ℕ) × Q i) → (i : ℕ) × (P i ⊎ Q i)
    there (inl h) = (h.0, inl h.1)
    there (inr h) = (h.0, inr h.1)

    back : (i : ℕ) → P i ⊎ Q i → ((i : ℕ) × P i) ⊎ ((i : ℕ) × Q i)
    back i (inl h) = inl (i, h)
    back i (inr h) = inr (i, h)

-- a test of some effects that asks each of them
any_iff : (f : List Effect → Bool) (t : Effect → Bool) (P : Effect → Type 0) → f [] ≡ false
    → ((e : Effect) (es : List Effect) → f (e ∷ es) ≡ (t e || f es))
    → ((e : Effect) → (t e ≡ true) ↔ P e) → (es : List Effect) → (f es ≡ true) ↔ Any P es
any_iff f t P z s k [] = (λ h. absurd (true≢false (sym h ∙ z)), λ h. absurd h)
any_iff f t P z s k (e ∷ es) = or_iff (f (e ∷ es)) (t e) (f es) (P e) (Any P es) (s e es) (k e) (any_iff f t P z s k es)

-- a bit in common
common_iff : (m k : ℕ) (P Q : ℕ → Type 0) → ((q : ℕ) → (has m q ≡ true) ↔ P q) → ((q : ℕ) → (has k q ≡ true) ↔ Q q)
    → (not (eqb (bit_and m k) 0) ≡ true) ↔ ((q : ℕ) × (P q × Q q))
common_iff m k P Q f g = (there, λ h. back h.0 ((f h.0).1 h.1.0) ((g h.0).1 h.1.1))
  where
    there : not (eqb (bit_and m k) 0) ≡ true → (q : ℕ) × (P q × Q q)
    there e =
        let r = not_disjoint m k (λ z. true≢false (sym e ∙ ap not (eq-eqb (bit_and m k) 0 z))) in
        (r.0, ((f r.0).0 r.1, (g r.0).0 r.2))

    back : (q : ℕ) → has m q ≡ true → has k q ≡ true → not (eqb (bit_and m k) 0) ≡ true
    back q h l = go (eqb (bit_and m k) 0) refl
      where
        go : (t : Bool) → eqb (bit_and m k) 0 ≡ t → not (eqb (bit_and m k) 0) ≡ true
        go false e = ap not e
        go true e = absurd (true≢false (sym l ∙ disjoint_of m k (eqb-true (bit_and m k) 0 e) q h))

-- ---- the propositions that are named, and the results
names_iff : (d : Literals) (q : ℕ) → (has (names d) q ≡ true) ↔ Names d q
names_iff d q =
    or_iff (has (names d) q) (mem d true q) (mem d false q) (T (mem d true q)) (T (mem d false q)) (has_names d q)
    (test_iff (mem d true q)) (test_iff (mem d false q))

-- in one part of some effects
named_iff : (part : Effect → Literals) (es : List Effect) (q : ℕ) → (has (named_by part es) q ≡ true) ↔ Any (λ e. Names (part e) q) es
named_iff part es q =
    any_iff (λ fs. has (named_by part fs) q) (λ e. has (names (part e)) q) (λ e. Names (part e) q) (has_none q)
    (λ e fs. has_or (names (part e)) (named_by part fs) q) (λ e. names_iff (part e) q) es

results_iff : (a : Action) (s : Bool) (q : ℕ) → (mem (results_by a.effects) s q ≡ true) ↔ ResultOf a s q
results_iff a s q =
    any_iff (λ fs. mem (results_by fs) s q) (λ e. mem e.result s q) (λ e. T (mem e.result s q)) (mem_none s q)
    (λ e fs. mem_join e.result (results_by fs) s q) (λ e. test_iff (mem e.result s q)) a.effects

in_result : (a : Action) (q : ℕ) → (has (changed a) q ≡ true) ↔ InResult a q
unfolding changed
in_result a q = named_iff (λ e. e.result) a.effects q

read_in : (a : Action) (q : ℕ) → (has (reads a) q ≡ true) ↔ ReadIn a q
unfolding reads
read_in a q =
    or_iff (has (reads a) q) (has (names a.precondition) q) (has (read_by a.effects) q) (Names a.precondition q)
    (Any (λ e. Names e.condition q) a.effects)
    (has_or (names a.precondition) (read_by a.effects) q) (names_iff a.precondition q)
    (named_iff (λ e. e.condition) a.effects q)

named_in : (a : Action) (q : ℕ) → (has (named a) q ≡ true) ↔ NamedIn a q
unfolding named
named_in a q = or_iff (has (named a) q) (has (reads a) q) (has (changed a) q) (ReadIn a q) (InResult a q) (has_or (reads a) (changed a) q)
    (read_in a q) (in_result a q)

-- ---- moves that touch
-- a result of a has its complement among b's results
clash_iff : (a b : Action) → (clash (results_by a.effects) (results_by b.effects) ≡ true)
    ↔ ((q : ℕ) × ((s : Bool) × ResultOf a s q × ResultOf b (not s) q))
clash_iff a b = (there, λ h. back h.0 h.1.0 h.1.1 h.1.2)
  where
    ra : Literals
    ra = results_by a.effects

    rb : Literals
    rb = results_by b.effects

    there : clash ra rb ≡ true → (q : ℕ) × ((s : Bool) × ResultOf a s q × ResultOf b (not s) q)
    there e = let k = clash_at ra rb e in (k.1, (k.0, (results_iff a k.0 k.1).0 k.2, (results_iff b (not k.0) k.1).0 k.3))

    back : (q : ℕ) (s : Bool) → ResultOf a s q → ResultOf b (not s) q → clash ra rb ≡ true
    back q s h k = clash_here ra rb s q ((results_iff a s q).1 h) ((results_iff b (not s) q).1 k)

pub touching : (a b : Action) → (touch a b ≡ true) ↔ ((q : ℕ) × TouchesAt a b q)
unfolding touch
touching a b =
    or_at (touch a b) (clash (results_by a.effects) (results_by b.effects)) (x || y)
    (λ q. (s : Bool) × ResultOf a s q × ResultOf b (not s) q)
    (λ q. (InResult a q × ReadIn b q) ⊎ (InResult b q × ReadIn a q)) refl (clash_iff a b)
    (or_at (x || y) x y (λ q. InResult a q × ReadIn b q) (λ q. InResult b q × ReadIn a q) refl
    (common_iff (changed a) (reads b) (InResult a) (ReadIn b) (in_result a) (read_in b))
    (common_iff (changed b) (reads a) (InResult b) (ReadIn a) (in_result b) (read_in a)))
  where
    x : Bool
    x = not (eqb (bit_and (changed a) (reads b)) 0)

    y : Bool
    y = not (eqb (bit_and (changed b) (reads a)) 0)

-- by document 01's wording
pub touching_anywhere : (a b : Action) → (touch_anywhere a b ≡ true)
    ↔ ((q : ℕ) × ((InResult a q × NamedIn b q) ⊎ (InResult b q × NamedIn a q)))
unfolding touch_anywhere
touching_anywhere a b =
    or_at (touch_anywhere a b) (not x) (not y) (λ q. InResult a q × NamedIn b q) (λ q. InResult b q × NamedIn a q) (not_both x y)
    (common_iff (changed a) (named b) (InResult a) (NamedIn b) (in_result a) (named_in b))
    (common_iff (changed b) (named a) (InResult b) (NamedIn a) (in_result b) (named_in a))
  where
    x : Bool
    x = eqb (bit_and (changed a) (named b)) 0

    y : Bool
    y = eqb (bit_and (changed b) (named a)) 0

    not_both : (c d : Bool) → not (c && d) ≡ (not c || not d)
    not_both true d = refl
    not_both false d = refl

-- ---- moves that both put the lamp out
result_in : (a : Action) (s : Bool) (q : ℕ) → ResultOf a s q → InResult a q
result_in a true q h = any_map (λ e. T (mem e.result true q)) (λ e. Names e.result q) (λ e k. inl k) a.effects h
result_in a false q h = any_map (λ e. T (mem e.result false q)) (λ e. Names e.result q) (λ e k. inr k) a.effects h

pub touch_before : (a b : Action) (lamp : ℕ) → PutsOut a lamp → PutsOut b lamp → touch_anywhere a b ≡ true
touch_before a b lamp h k = (touching_anywhere a b).1 (lamp, inl (result_in a false lamp h.0, inr (result_in b false lamp k.0)))

pub touch_lamp : (a b : Action) (lamp : ℕ) → PutsOut a lamp → PutsOut b lamp → (ReadIn a lamp → ⊥) → (ReadIn b lamp → ⊥)
    → ((q : ℕ) → TouchesAt a b q → q ≡ lamp) → touch a b ≡ false
touch_lamp a b lamp h k u v else = go (touch a b) refl
  where
    at : TouchesAt a b lamp → ⊥
    at (inl (true, m, o)) = h.1 m
    at (inl (false, m, o)) = k.1 o
    at (inr (inl m)) = v m.1
    at (inr (inr m)) = u m.1

    go : (t : Bool) → touch a b ≡ t → touch a b ≡ false
    go false e = e
    go true e = let r = (touching a b).0 e in absurd (at (subst (TouchesAt a b) (else r.0 r.1) r.1))
