-- The tests on sets of literals, literal by literal: what the masks say.
-- For `within_iff`, `consistent_iff`, `meets_iff` and `state_iff` in proofs/Demands. Assumes nothing.
use mathlib.Core.Path.{◌≡◌, refl, sym, subst}
use mathlib.Core.Bool.{Bool, true, false, not, ◌&&◌, beq, true≢false, false≢true}
use mathlib.Core.Logic.{◌↔◌}
use Prim.Native.Nat.{ℕ, ◌^◌, ◌<◌}
use lib.Dec.{T, ltb}
use borrow.Author.Tests.{lt-ltb, ltb-true}
use Rattle.sheet.specs.declared.Literals.{Literals}
use Rattle.sheet.specs.Literals.{has, mem, within, consistent, meets, state}
use Rattle.sheet.proofs.laws.base.Bools.{T_true, T_false, true_T, false_T, not_in, both, and_l, and_r, and_in}
use Rattle.sheet.proofs.laws.literals.LiteralSets.{mem_state, within_of, of_within, consistent_of, of_consistent, meet_at, meet_here}

pub within_iff : (a b : Literals) → T (within a b) ↔ ((sign : Bool) (p : ℕ) → T (mem a sign p) → T (mem b sign p))
within_iff a b = (
  λ h sign p m. true_T (mem b sign p) (within_of a b (T_true (within a b) h) sign p (T_true (mem a sign p) m)),
  λ f. true_T (within a b) (of_within a b (λ sign p e. T_true (mem b sign p) (f sign p (true_T (mem a sign p) e)))),
)

pub consistent_iff : (a : Literals) → T (consistent a) ↔ ((p : ℕ) → T (mem a true p) → T (mem a false p) → ⊥)
consistent_iff a = (
  λ h p m k. both (mem a false p) k (false_T (mem a false p) (consistent_of a (T_true (consistent a) h) true p (T_true (mem a true p) m))),
  λ f. true_T (consistent a) (of_consistent a (apart f)),
)
  where
    apart : ((p : ℕ) → T (mem a true p) → T (mem a false p) → ⊥) → (sign : Bool) (p : ℕ) → mem a sign p ≡ true → mem a (not sign) p ≡ false
    apart f true p e = T_false (mem a false p) (not_in (mem a false p) (f p (true_T (mem a true p) e)))
    apart f false p e = T_false (mem a true p) (not_in (mem a true p) (λ m. f p m (true_T (mem a false p) e)))

pub meets_iff : (c d : Literals) → T (meets c d) ↔ ((sign : Bool) × (p : ℕ) × T (mem c sign p) × T (mem d sign p))
unfolding meets
meets_iff c d = (
  λ h. let r = meet_at c d (T_true (meets c d) h) in (r.0, r.1, true_T (mem c r.0 r.1) r.2, true_T (mem d r.0 r.1) r.3),
  λ r. true_T (meets c d) (meet_here c d r.0 r.1 (T_true (mem c r.0 r.1) r.2) (T_true (mem d r.0 r.1) r.3)),
)

pub state_iff : (n w : ℕ) → w < 2 ^ n → (sign : Bool) (p : ℕ) → T (mem (state n w) sign p) ↔ ((p < n) × (has w p ≡ sign))
state_iff n w h sign p =
    (λ t. (go (has w p) sign).0 (subst T (mem_state n w h sign p) t), λ r. subst T (sym (mem_state n w h sign p)) ((go (has w p) sign).1 r))
  where
    low : (t : Bool) → T (ltb p n && t) → p < n
    low t k = ltb-true p n (T_true (ltb p n) (and_l (ltb p n) t k))

    here : p < n → T (ltb p n && true)
    here l = and_in (ltb p n) true (true_T (ltb p n) (lt-ltb p n l)) tt

    go : (b c : Bool) → T (ltb p n && beq b c) ↔ ((p < n) × (b ≡ c))
    go true true = (λ t. (low true t, refl), λ r. here r.0)
    go true false = (λ t. absurd (and_r (ltb p n) false t), λ r. absurd (true≢false r.1))
    go false true = (λ t. absurd (and_r (ltb p n) false t), λ r. absurd (false≢true r.1))
    go false false = (λ t. (low true t, refl), λ r. here r.0)
