-- The test of a table is what document 01 says of tables. For `described_iff` in proofs/Demands, `steps/StepCall`, `pictures/HandedClauses`
-- and TH4. Assumes nothing.
use mathlib.Core.Path.{◌≡◌, refl, sym, ap, ◌∙◌}
use mathlib.Core.Bool.{Bool, true, false, not, ◌&&◌, ◌||◌, cond}
use mathlib.Core.List.{List, [], ◌∷◌}
use mathlib.Core.Logic.{◌↔◌, ⊎_elim}
use Prim.Native.Nat.{ℕ, ◌≤◌}
use native.Mathlib.Omega.{arith}
use lib.Dec.{T, leb, leb→le, le→leb}
use lib.ListN.{length}
use Rattle.std.specs.Prelude.{Option, Some, None}
use Rattle.std.proofs.lemmas.Option.{none-some, same_Some}
use Rattle.sheet.specs.declared.Literals.{Literals}
use Rattle.sheet.specs.Literals.{within, consistent, below, Proper}
use Rattle.sheet.specs.Lists.{all_of}
use Rattle.sheet.proofs.laws.base.Bools.{both, T_true, true_T, and_l, and_r, and_in, or_out, or_not_l, or_not_r, not_in}
use Rattle.sheet.proofs.laws.base.ListFacts.{all_map, all_test, all_tested}
use Rattle.sheet.proofs.laws.literals.LiteralSets.{proper_of, proper_below}
use Rattle.table.specs.Minimal.{Antichain, Described, proper, apart, antichain, described}

proper_at : (n : ℕ) (e : Literals) → T (proper n e) → Proper n e
unfolding proper
proper_at n e t = proper_of n e (T_true (consistent e) (and_l (consistent e) (below n e) t))
    (T_true (below n e) (and_r (consistent e) (below n e) t))

proper_by : (n : ℕ) (e : Literals) → Proper n e → T (proper n e)
unfolding proper
proper_by n e h = and_in (consistent e) (below n e) h.steady (true_T (below n e) (proper_below n e h))

antichain_at : (t : List Literals) → T (antichain t) → Antichain t
unfolding antichain apart
antichain_at [] k = tt
antichain_at (e ∷ t) k = (
  all_map (λ f. T (not (within e f || within f e))) (λ f. T (not (within e f)) × T (not (within f e)))
      (λ f x. (or_not_l (within e f) (within f e) x, or_not_r (within e f) (within f e) x)) t
      (all_test (λ f. not (within e f || within f e)) t (and_l (all_of (λ f. not (within e f || within f e)) t) (antichain t) k)),
  antichain_at t (and_r (all_of (λ f. not (within e f || within f e)) t) (antichain t) k),
)

antichain_by : (t : List Literals) → Antichain t → T (antichain t)
unfolding antichain apart
antichain_by [] k = tt
antichain_by (e ∷ t) k =
    and_in (all_of (λ f. not (within e f || within f e)) t) (antichain t)
    (all_tested (λ f. not (within e f || within f e)) t
    (all_map (λ f. T (not (within e f)) × T (not (within f e))) (λ f. T (not (within e f || within f e)))
    (λ f x. not_in (within e f || within f e)
    (λ y. ⊎_elim (λ z. both (within e f) z x.0) (λ z. both (within f e) z x.1) (or_out (within e f) (within f e) y))) t k.0))
    (antichain_by t k.1)

pub described_iff : (cap n : ℕ) (t : List Literals) → (described cap n t ≡ true) ↔ Described cap n t
unfolding described
described_iff cap n t = (λ e. go (true_T (described cap n t) e), λ d. T_true (described cap n t) (back d))
  where
    go : T (leb 1 (length t) && (leb (length t) cap && (all_of (proper n) t && antichain t))) → Described cap n t
    go k =
        let r = and_r (leb 1 (length t)) (leb (length t) cap && (all_of (proper n) t && antichain t)) k in
        let s = and_r (leb (length t) cap) (all_of (proper n) t && antichain t) r in
        record {
          least = leb→le 1 (length t) (and_l (leb 1 (length t)) (leb (length t) cap && (all_of (proper n) t && antichain t)) k);
          most = leb→le (length t) cap (and_l (leb (length t) cap) (all_of (proper n) t && antichain t) r);
          proper = all_map (λ e. T (proper n e)) (Proper n) (proper_at n) t
              (all_test (proper n) t (and_l (all_of (proper n) t) (antichain t) s));
          apart = antichain_at t (and_r (all_of (proper n) t) (antichain t) s);
        }

    back : Described cap n t → T (leb 1 (length t) && (leb (length t) cap && (all_of (proper n) t && antichain t)))
    back d =
        and_in (leb 1 (length t)) (leb (length t) cap && (all_of (proper n) t && antichain t)) (le→leb 1 (length t) d.least)
        (and_in (leb (length t) cap) (all_of (proper n) t && antichain t) (le→leb (length t) cap d.most)
        (and_in (all_of (proper n) t) (antichain t)
        (all_tested (proper n) t (all_map (Proper n) (λ e. T (proper n e)) (proper_by n) t d.proper)) (antichain_by t d.apart)))

-- the entries that the test hands out are one or more
pub least_handed : (cap n : ℕ) (t u : List Literals) (o : Option (List Literals)) → o ≡ cond (described cap n t) (Some t) None → o ≡ Some u
    → 1 ≤ length u
least_handed cap n t u o h q = go (described cap n t) refl (sym q ∙ h)
  where
    go : (b : Bool) → described cap n t ≡ b → Some u ≡ cond b (Some t) None → 1 ≤ length u
    go true e k = omega (arith, ((described_iff cap n t).0 e).least, ap length (same_Some u t k))
    go false e k = absurd (none-some u (sym k))
