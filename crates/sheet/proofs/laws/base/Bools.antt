-- Tests as propositions: what a truth value says, by `T` and by equations. For proofs about tests, here and in table, plan and unit.
-- Assumes nothing.
use mathlib.Core.Path.{◌≡◌, refl, sym, ap, subst}
use mathlib.Core.Bool.{Bool, true, false, not, ◌&&◌, ◌||◌, cond}
use mathlib.Core.Logic.{◌⊎◌, inl, inr}
use lib.Dec.{T}

pub test : (b : Bool) → T b ⊎ T (not b)
test true = inl tt
test false = inr tt

-- a test and its negation
pub both : {X : Type 0} (b : Bool) → T b → T (not b) → X
both true p q = absurd q
both false p q = absurd p

pub T_true : (b : Bool) → T b → b ≡ true
T_true true t = refl
T_true false t = absurd t

pub T_false : (b : Bool) → T (not b) → b ≡ false
T_false true t = absurd t
T_false false t = refl

pub true_T : (b : Bool) → b ≡ true → T b
true_T b e = subst T (sym e) tt

pub false_T : (b : Bool) → b ≡ false → T (not b)
false_T b e = subst (λ (x : Bool). T (not x)) (sym e) tt

pub T-ext : (a b : Bool) → (T a → T b) → (T b → T a) → a ≡ b
T-ext true true f g = refl
T-ext true false f g = absurd (f tt)
T-ext false true f g = absurd (g tt)
T-ext false false f g = refl

pub and_l : (a b : Bool) → T (a && b) → T a
and_l true b t = tt
and_l false b t = t

pub and_r : (a b : Bool) → T (a && b) → T b
and_r true b t = t
and_r false b t = absurd t

pub and_in : (a b : Bool) → T a → T b → T (a && b)
and_in true b p q = q
and_in false b p q = p

pub and_not : (a b : Bool) → T (not (a && b)) → T (not a) ⊎ T (not b)
and_not true b t = inr t
and_not false b t = inl tt

pub or_l : (a b : Bool) → T a → T (a || b)
or_l true b t = tt
or_l false b t = absurd t

pub or_r : (a b : Bool) → T b → T (a || b)
or_r true b t = tt
or_r false b t = t

pub or_out : (a b : Bool) → T (a || b) → T a ⊎ T b
or_out true b t = inl tt
or_out false b t = inr t

pub or_not_l : (a b : Bool) → T (not (a || b)) → T (not a)
or_not_l true b t = t
or_not_l false b t = tt

pub or_not_r : (a b : Bool) → T (not (a || b)) → T (not b)
or_not_r true b t = absurd t
or_not_r false b t = t

pub not_in : (b : Bool) → (T b → ⊥) → T (not b)
not_in true f = f tt
not_in false f = tt

pub not_not : (b : Bool) → T (not (not b)) → T b
not_not true t = tt
not_not false t = t

-- two tests that hold together
pub iff_eq : (x y : Bool) → (x ≡ true → y ≡ true) → (y ≡ true → x ≡ true) → x ≡ y
iff_eq true y f g = sym (f refl)
iff_eq false true f g = g refl
iff_eq false false f g = refl

-- where p is true, q decides
pub kept : {p : Bool} (q : Bool) → p ≡ true → q ≡ (p && q)
kept q e = sym (ap (λ (b : Bool). b && q) e)

-- a test that is known picks its case
pub cond_true : {A : Type 0} {b : Bool} (x y : A) → b ≡ true → x ≡ cond b x y
cond_true {A} x y e = sym (ap (λ (p : Bool). cond {A = A} p x y) e)

pub cond_false : {A : Type 0} {b : Bool} (x y : A) → b ≡ false → y ≡ cond b x y
cond_false {A} x y e = sym (ap (λ (p : Bool). cond {A = A} p x y) e)

-- ---- tests as equations
pub or_cases : (x y : Bool) → (x || y) ≡ true → (x ≡ true) ⊎ (y ≡ true)
or_cases true y e = inl refl
or_cases false y e = inr e

pub or_left : (x y : Bool) → x ≡ true → (x || y) ≡ true
or_left x y e = rw e

pub or_right : (x y : Bool) → y ≡ true → (x || y) ≡ true
or_right true y e = refl
or_right false y e = e

pub and_true : (x y : Bool) → x ≡ true → y ≡ true → (x && y) ≡ true
and_true x y e f = rw (e, f)

pub not_twice : (s : Bool) → not (not s) ≡ s
not_twice true = refl
not_twice false = refl
