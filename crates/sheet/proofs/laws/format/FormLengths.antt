-- How many bytes a form takes at most. For `judge_longest` and `first_bytes` in proofs/Demands, by Judgements. Assumes nothing.
use mathlib.Core.Path.{◌≡◌, ap}
use mathlib.Core.List.{List, [], ◌∷◌}
use mathlib.Core.Logic.{◌⊎◌, inl, inr}
use mathlib.Core.Option.{Option, none, some}
use Prim.Native.Nat.{ℕ, zero, suc, ◌+◌, ◌*◌, ◌≤◌}
use native.Mathlib.Nat.{zero-mul, suc-mul, mul-le-mul_right}
use native.Mathlib.Omega.{arith}
use lib.ListN.{length, length-append}
use Rattle.sheet.specs.Form.{Form, done, ◌>>=◌, judged, times, due}
use Rattle.sheet.specs.Format.{count_fault, literal_fault, list_of, ascending, literals, set_of}
use Rattle.sheet.proofs.laws.format.DueForms.{passed_some, due_judged, due_split, Parts, Inside}
use Rattle.sheet.proofs.laws.format.ByteRules.{count_0}

-- f takes at most d bytes
unfoldable pub Bounded : {A : Type 0} → Form A → ℕ → Type 0
Bounded {A} f d = (bs : List ℕ) (g : Form A) → due f bs ≡ some g → length bs ≤ d

bounded_le : {A : Type 0} (f : Form A) (d e : ℕ) → d ≤ e → Bounded f d → Bounded f e
unfolding Bounded
bounded_le f d e l h bs g p = omega (arith, h bs g p)

pub bounded_done : {A : Type 0} (a : A) → Bounded (done a) 0
unfolding Bounded due
bounded_done a [] g p = omega arith
bounded_done a (b ∷ bs) g p = let z : ◌≡◌ {A = ℕ} 0 1 = cc in absurd (omega arith)

pub bounded_judged : (rule : ℕ → ℕ) → Bounded (judged rule) 1
unfolding Bounded due judged
bounded_judged rule [] g p = omega arith
bounded_judged rule (b ∷ bs) g p = omega (arith, bounded_done b bs g (passed_some (rule b) p).1)

-- the second bound is asked only for values that were read
pub bounded_then : {A B : Type 0} (f : Form A) (g : A → Form B) (d e : ℕ) → Bounded f d
    → ((a : A) (bs : List ℕ) → due f bs ≡ some (done a) → Bounded (g a) e) → Bounded (f >>= g) (d + e)
unfolding Bounded
bounded_then f g d e p q bs h u = go (due_split f g bs u)
  where
    go : Parts f g bs h ⊎ Inside f g bs h → length bs ≤ d + e
    go (inl r) =
        omega (
          arith,
          simp length-append at (ap length r.whole),
          p r.first _ r.of_first,
          q r.value r.first r.of_first r.second h r.of_second,
        )
    go (inr r) = omega (arith, p bs _ r.of_first)

bounded_times : {A : Type 0} (one : Form A) (d : ℕ) → Bounded one d → (k : ℕ) → Bounded (times k one) (k * d)
unfolding times
bounded_times one d h zero = rw zero-mul (bounded_done [])
bounded_times one d h (suc k) =
    bounded_le _ _ _ (omega (arith, suc-mul k d))
    (bounded_then one _ d (k * d + 0) h
    (λ x bs p. bounded_then (times k one) _ (k * d) 0 (bounded_times one d h k) (λ xs cs q. bounded_done (x ∷ xs))))

pub bounded_list : {A : Type 0} (low high : ℕ) (one : Form A) (d : ℕ) → Bounded one d → Bounded (list_of low high one) (1 + high * d)
unfolding list_of
bounded_list low high one d h =
    bounded_then (judged (count_fault low high)) _ 1 (high * d) (bounded_judged (count_fault low high))
    (λ k bs p. bounded_le _ _ _ (mul-le-mul_right d ((count_0 low high k).0 (due_judged _ bs p).1).1) (bounded_times one d h k))

bounded_ascending : (n : ℕ) (last : Option ℕ) (k : ℕ) → Bounded (ascending n last k) k
unfolding ascending
bounded_ascending n last zero = bounded_done []
bounded_ascending n last (suc k) =
    bounded_le _ _ _ (omega arith)
    (bounded_then (judged (literal_fault n last)) _ 1 (k + 0) (bounded_judged _)
    (λ b bs p. bounded_then (ascending n (some b) k) _ k 0 (bounded_ascending n (some b) k) (λ xs cs q. bounded_done (b ∷ xs))))

pub bounded_literals : (n low high : ℕ) → Bounded (literals n low high) (1 + high)
unfolding literals
bounded_literals n low high =
    bounded_then (judged (count_fault low high)) _ 1 high (bounded_judged (count_fault low high))
    (λ k bs p. bounded_le _ _ _ (omega (arith, ((count_0 low high k).0 (due_judged _ bs p).1).1))
    (bounded_then (ascending n none k) _ k 0 (bounded_ascending n none k) (λ xs cs q. bounded_done (set_of xs))))
