-- What each return of the search's functions says of the plans that are left. For `searches::try_move`, `try_plans`, `lengths` and `full`,
-- and for TriedMoves. Assumes nothing.
use mathlib.Core.Path.{◌≡◌, refl, sym, ap, ap₂, ◌∙◌}
use mathlib.Core.Bool.{Bool, true, false, true≢false}
use mathlib.Core.List.{List, [], ◌∷◌, ◌++◌}
use Prim.Native.Nat.{ℕ, zero, suc, ◌+◌, ◌≤◌, ◌<◌}
use native.Mathlib.Numerals.{add-one}
use native.Mathlib.Omega.{arith}
use lib.ListN.{length, set, replicate, length-replicate}
use Rattle.sheet.specs.declared.Literals.{Literals}
use Rattle.sheet.specs.Lists.{all_of, pad}
use Rattle.sheet.specs.Problem.{Action}
use Rattle.table.specs.Minimal.{refused, table}
use Rattle.table.specs.Step.{step_table}
use Rattle.plan.specs.declared.SearchAnswer.{SearchAnswer}
use Rattle.plan.specs.declared.Kind.TheVariants as kind
use Rattle.plan.specs.Run.{in_goal, ended_in}
use Rattle.plan.specs.Search.{plans_of, plans_up_to, Answer, found, full_at, nothing, or_next, first_of}
use Rattle.plan.specs.Calls.{answered}
use Rattle.plan.specs.inner.Searches.{ran_from, first_from, first_by, answered_at, is_end}
use Rattle.plan.proofs.laws.searches.FirstByMove.{some, is_nothing, first_below, first_below_lem, none_next, found_here, consed}
use Rattle.plan.proofs.laws.searches.FirstByMove.{first_by_moves, by_table, by_stop, by_full}

-- ---- the bytes of a plan, written on the way back
pad_zeros : (n a b : ℕ) → pad n 0 (replicate a 0 ++ replicate b 0) ≡ replicate {A = ℕ} n 0
unfolding pad
pad_zeros zero a b = refl
pad_zeros (suc n) zero zero = ap {B = List ℕ} (λ l. 0 ∷ l) (pad_zeros n zero zero)
pad_zeros (suc n) zero (suc b) = ap {B = List ℕ} (λ l. 0 ∷ l) (pad_zeros n zero b)
pad_zeros (suc n) (suc a) b = ap {B = List ℕ} (λ l. 0 ∷ l) (pad_zeros n a b)

pad_write : (n at m : ℕ) (p : List ℕ) → set (pad n 0 (replicate (suc at) 0 ++ p)) at m ≡ pad n 0 (replicate at 0 ++ (m ∷ p))
unfolding pad
pad_write zero at m p = refl
pad_write (suc n) zero m p = refl
pad_write (suc n) (suc at) m p = ap {B = List ℕ} (λ l. 0 ∷ l) (pad_write n at m p)

-- an answer with byte `at` set
abbrev pub written : SearchAnswer → ℕ → ℕ → SearchAnswer
written a at m = record { kind = a.kind; plan = set a.plan at m; length = a.length }

bytes_set : (at m : ℕ) (p : List ℕ) → set (pad 8 0 (replicate (at + 1) 0 ++ p)) at m ≡ pad 8 0 (replicate at 0 ++ (m ∷ p))
bytes_set at m p = ap (λ (i : ℕ). set (pad 8 0 (replicate i 0 ++ p)) at m) (add-one at) ∙ pad_write 8 at m p

written_consed : (at m : ℕ) (f : Answer) → some f ≡ true → written (answered_at (at + 1) f) at m ≡ answered_at at (consed m f)
unfolding answered_at
written_consed at m (found p) e =
    let q : at + 1 + length p ≡ at + suc (length p) = omega arith in
    ap₂ {C = SearchAnswer} (λ (l : List ℕ) (n : ℕ). record { kind = kind.Reached; plan = l; length = n }) (bytes_set at m p) q
written_consed at m (full_at p k) e =
    let q : at + 1 + length p ≡ at + suc (length p) = omega arith in
    ap₂ {C = SearchAnswer} (λ (l : List ℕ) (n : ℕ). record { kind = kind.Full k; plan = l; length = n }) (bytes_set at m p) q
written_consed at m nothing e = absurd (true≢false (sym e))

-- a full step: the rest of the plan is move 0, whose bytes are zero already
pub full_here : (at left m : ℕ) → record { kind = kind.Full (at + 1); plan = set (replicate 8 0) at m; length = at + 1 + left }
    ≡ answered_at at (full_at (m ∷ replicate left 0) (at + 1))
unfolding answered_at
full_here at left m =
    let q : at + 1 + left ≡ at + suc (length {A = ℕ} (replicate left 0)) = omega (arith, length-replicate {A = ℕ} left 0) in
    ap₂ {C = SearchAnswer} (λ (l : List ℕ) (n : ℕ). record { kind = kind.Full (at + 1); plan = l; length = n })
    (ap (λ (l : List ℕ). set l at m) (sym (pad_zeros 8 (suc at) left)) ∙ pad_write 8 at m (replicate left 0)) q

-- from the first byte on, it is the answer of the call
from_start : (f : Answer) → answered_at 0 f ≡ answered f
unfolding answered_at answered
from_start (found p) = let q : 0 + length p ≡ length p = omega arith in ap
    (λ (n : ℕ). record { kind = kind.Reached; plan = pad 8 0 p; length = n }) q
from_start (full_at p k) = let q : 0 + length p ≡ length p = omega arith in ap
    (λ (n : ℕ). record { kind = kind.Full k; plan = pad 8 0 p; length = n }) q
from_start nothing = refl

-- ---- what the code tells of an answer tells of what it stands for
ended_some : (at : ℕ) (f : Answer) → is_end (answered_at at f).kind ≡ some f
unfolding answered_at answered
ended_some at (found p) = refl
ended_some at (full_at p k) = refl
ended_some at nothing = refl

told : (at : ℕ) (f : Answer) (r : SearchAnswer) (b : Bool) → r ≡ answered_at at f → is_end r.kind ≡ b → some f ≡ b
told at f r b k t = sym (ended_some at f) ∙ ap (λ (x : SearchAnswer). is_end x.kind) (sym k) ∙ t

nothing_at : (at : ℕ) → answered nothing ≡ answered_at at nothing
unfolding answered_at
nothing_at at = refl

module _ (goal : List Literals) (f : ℕ → Action) (k at : ℕ) (t : List Literals) where
  -- ---- the plans that begin with move m
  module _ (left m : ℕ) where
    module _ (u : List Literals) (r : SearchAnswer) (e : step_table 128 (f m) t ≡ table u)
        (q : r ≡ answered_at (at + 1) (first_from goal f k (at + 1) u left)) where
      pub onward_ended : is_end r.kind ≡ true → written r at m ≡ answered_at at (first_by goal f k at t left m)
      onward_ended b =
          let g = first_from goal f k (at + 1) u left in
          ap (λ (x : SearchAnswer). written x at m) q ∙ written_consed at m g (told (at + 1) g r true q b)
          ∙ ap (answered_at at) (sym (by_table goal f k at t m left u e))

      pub onward_not : is_end r.kind ≡ false → r ≡ answered_at at (first_by goal f k at t left m)
      onward_not b =
          let g = first_from goal f k (at + 1) u left in
          let n : g ≡ nothing = is_nothing g (told (at + 1) g r false q b) in
          q ∙ ap (answered_at (at + 1)) n ∙ sym (nothing_at (at + 1)) ∙ nothing_at at
          ∙ ap (answered_at at) (sym (by_table goal f k at t m left u e ∙ ap (consed m) n))

    pub at_stop : (code : ℕ) (r : SearchAnswer) → step_table 128 (f m) t ≡ refused code → (code ≡ 21 → ⊥) → r ≡ answered nothing
        → r ≡ answered_at at (first_by goal f k at t left m)
    at_stop code r e n q = q ∙ nothing_at at ∙ ap (answered_at at) (sym (by_stop goal f k at t m left code e n))

    pub at_full : (r : SearchAnswer) → 0 < k → step_table 128 (f m) t ≡ refused 21
        → r ≡ answered_at at (full_at (m ∷ replicate left 0) (at + 1))
        → r ≡ answered_at at (first_by goal f k at t left m)
    at_full r h e q = q ∙ ap (answered_at at) (sym (by_full goal f k at t m left h e))

  -- no plan with so many moves more has an answer
  pub no_answer : (left : ℕ) {r : SearchAnswer} → first_from goal f k at t left ≡ nothing → r ≡ answered nothing
      → r ≡ answered_at at (first_from goal f k at t left)
  no_answer left e q = q ∙ nothing_at at ∙ sym (ap (answered_at at) e)

  -- ---- no move left
  module _ (left : ℕ) (z : left ≡ 0) where
    last_is : (x : Bool) → all_of (in_goal goal) t ≡ x → first_from goal f k at t left ≡ or_next (ended_in x) [] nothing
    last_is x e = ap (first_from goal f k at t) z ∙ ap (λ (y : Bool). or_next (ended_in y) [] nothing) e

    pub at_goal : all_of (in_goal goal) t ≡ true → record { kind = kind.Reached; plan = replicate 8 0; length = at } ≡ answered_at at
        (first_from goal f k at t left)
    unfolding answered_at
    at_goal e =
        let n : at ≡ at + 0 = omega arith in
        ap₂ {C = SearchAnswer} (λ (l : List ℕ) (i : ℕ). record { kind = kind.Reached; plan = l; length = i }) (sym (pad_zeros 8 at 0)) n
        ∙ sym (ap (answered_at at) (last_is true e))

    pub at_short : (r : SearchAnswer) → all_of (in_goal goal) t ≡ false → r ≡ answered nothing
        → r ≡ answered_at at (first_from goal f k at t left)
    at_short r e q = no_answer left (last_is false e) q

  -- ---- the loop over the moves: a turn without an answer, a turn with one, and the end
  module _ (fewer m : ℕ) (r : SearchAnswer) (h : first_below (first_by goal f k at t fewer) m ≡ nothing) where
    pub not_yet : r ≡ answered_at at (first_by goal f k at t fewer m) → is_end r.kind ≡ false
        → first_below (first_by goal f k at t fewer) (m + 1) ≡ nothing
    not_yet q b = none_next (first_by goal f k at t fewer) m h (told at _ r false q b)

    module _ (left : ℕ) (z : left ≡ suc fewer) where
      whole : first_from goal f k at t left ≡ first_below (first_by goal f k at t fewer) k
      whole = ap (first_from goal f k at t) z ∙ first_by_moves goal f k at t fewer

      pub found_now : m < k → r ≡ answered_at at (first_by goal f k at t fewer m) → is_end r.kind ≡ true
          → r ≡ answered_at at (first_from goal f k at t left)
      found_now l q b =
          let g = first_by goal f k at t fewer in
          q ∙ ap (answered_at at) (sym (whole ∙ found_here g m k h l (told at (g m) r true q b)))

      pub none_at_all : m ≡ k → first_from goal f k at t left ≡ nothing
      none_at_all e = whole ∙ ap (first_below (first_by goal f k at t fewer)) (sym e) ∙ h

-- ---- the loop over the lengths
module _ (goal : List Literals) (f : ℕ → Action) (k : ℕ) (t : List Literals) (limit n : ℕ) (r : SearchAnswer)
    (h : first_below (first_from goal f k 0 t) n ≡ nothing) where
  all_lengths : first_of (ran_from goal f 0 t) (plans_up_to k limit) ≡ first_below (first_from goal f k 0 t) (suc limit)
  all_lengths = first_below_lem (ran_from goal f 0 t) (plans_of k) (suc limit)

  pub length_found : n ≤ limit → r ≡ answered_at 0 (first_from goal f k 0 t n) → is_end r.kind ≡ true
      → r ≡ answered (first_of (ran_from goal f 0 t) (plans_up_to k limit))
  length_found l q b =
      let g = first_from goal f k 0 t in
      q ∙ from_start (g n) ∙ ap answered (sym (all_lengths ∙ found_here g n (suc limit) h (omega arith) (told 0 (g n) r true q b)))

  pub length_next : r ≡ answered_at 0 (first_from goal f k 0 t n) → is_end r.kind ≡ false
      → first_below (first_from goal f k 0 t) (n + 1) ≡ nothing
  length_next q b = none_next (first_from goal f k 0 t) n h (told 0 _ r false q b)

  pub length_none : n ≡ suc limit → r ≡ answered nothing → r ≡ answered (first_of (ran_from goal f 0 t) (plans_up_to k limit))
  length_none e q = q ∙ sym (ap answered (all_lengths ∙ ap (first_below (first_from goal f k 0 t)) (sym e) ∙ h))
