-- Candidates that all contain one of them: it alone is what they leave, where there is room for all. For `picture_clauses::distribute`.
-- Assumes nothing.
use mathlib.Core.Path.{◌≡◌, refl, sym, ap, ◌∙◌, subst}
use mathlib.Core.Bool.{Bool, true, false, not}
use mathlib.Core.List.{List, [], ◌∷◌, ◌++◌, map, append-nil}
use mathlib.Core.Logic.{◌⊎◌, inl, inr}
use mathlib.Core.Option.{Option, none, some, none-ne-some}
use Prim.Native.Nat.{ℕ, ◌+◌, ◌≤◌, ◌<◌}
use native.Mathlib.Omega.{arith}
use lib.Dec.{T, eqb}
use lib.ListN.{length, length-append, length-map}
use borrow.Author.Tests.{ne_eqb}
use Rattle.std.specs.Prelude.{Result}
use Rattle.sheet.specs.declared.Literals.{Literals}
use Rattle.sheet.specs.Literals.{within, consistent, join}
use Rattle.sheet.specs.Lists.{Any, All, any_of, add_if, keep}
use Rattle.sheet.proofs.laws.base.Bools.{test, both, T_true, true_T, not_in}
use Rattle.sheet.proofs.laws.base.ListFacts.{all_map, all_by, any_map, any_append_r, all_append, all_imaged, any_imaged, any_test, any_tested, any_none, none_any, all_keep}
use Rattle.sheet.proofs.laws.literals.LiteralSets as sets
use Rattle.sheet.proofs.laws.base.ListMembers.{any_passed}
use Rattle.sheet.proofs.laws.literals.LiteralSets.{within_refl, within_trans, within_join_l}
use Rattle.table.specs.declared.slots.Full.{Full}
use Rattle.table.specs.Worlds.{and_then}
use Rattle.table.specs.Minimal.{put_last, put_new, put, put_all}
use Rattle.table.specs.inner.Puts.{Grew, Puts}
use Rattle.table.proofs.laws.arrays.KeptMembers.{keep_length, keep_append}
use Rattle.table.proofs.laws.slots.PutFates.{put_dropped, put_added}
use Rattle.table.proofs.laws.slots.PutInvariants.{others, Placed, put_cases}
use Rattle.table.proofs.laws.slots.LeastCandidates.{within_equal}
use Rattle.table.proofs.laws.slots.ConsistentCandidates.{left_out, stays_inconsistent}

-- ---- c, and candidates that contain it
module _ (cap : ℕ) (c : Literals) where
  -- some member lies in c
  abbrev Covered : List Literals → Type 0
  Covered t = T (any_of (λ e. within e c) t)

  -- then every such candidate is dropped
  all_dropped : (ds t : List Literals) → All (λ d. T (within c d)) ds → Covered t → put_all cap ds t ≡ some t
  all_dropped [] t h k = refl
  all_dropped (d ∷ ds) t h k =
      ap (λ (o : Option (List Literals)). and_then o (λ u. put_all cap ds u))
      (put_dropped cap t d (T_true (any_of (λ e. within e d) t)
      (any_tested (λ e. within e d) (λ e. T (within e c)) (λ e i. within_trans e c d i h.0) t (any_test (λ e. within e c) t k))))
      ∙ all_dropped ds t h.1 k

  -- so it is once c was put
  covers : (t u : List Literals) → put cap t c ≡ some u → Covered u
  covers t u h = go (put_cases cap t c u h)
    where
      go : Placed cap t c u → Covered u
      go (inl l) = subst Covered l.1 l.0
      go (inr r) =
          subst Covered r.1.0
          (any_tested (λ e. within e c) (λ e. T (within e c)) (λ e i. i) (others c t ++ (c ∷ []))
          (any_append_r (λ e. T (within e c)) (others c t) (c ∷ []) (inl (within_refl c))))

  -- what d removes, c removes
  others_twice : (d : Literals) → T (within c d) → (t : List Literals) → others c (others d t) ≡ others c t
  others_twice d k [] = refl
  others_twice d k (e ∷ t) = go (within d e) refl (others_twice d k t)
    where
      go : (b : Bool) → within d e ≡ b → others c (others d t) ≡ others c t → others c (add_if (not b) e (others d t)) ≡ others c (e ∷ t)
      go true q rec = rec ∙ sym
          (ap (λ (b : Bool). add_if (not b) e (others c t)) (T_true (within c e) (within_trans c d e k (true_T (within d e) q))))
      go false q rec = ap (add_if (not (within c e)) e) rec

  -- and d itself
  others_again : (d : Literals) → T (within c d) → (t : List Literals) → others c (others d t ++ (d ∷ [])) ≡ others c t
  others_again d k t =
      keep_append (λ e. not (within c e)) (others d t) (d ∷ [])
      ∙ ap (λ (b : Bool). others c (others d t) ++ add_if (not b) d []) (T_true (within c d) k)
      ∙ append-nil (others c (others d t))
      ∙ others_twice d k t

  -- d was put, and then c: as if c alone
  put_over : (t : List Literals) (d : Literals) (v : List Literals) → T (within c d) → put cap t d ≡ some v → put cap v c ≡ put cap t c
  unfolding put
  put_over t d v k h = go (put_cases cap t d v h)
    where
      go : Placed cap t d v → put cap v c ≡ put cap t c
      go (inl l) = ap (λ (x : List Literals). put cap x c) (sym l.1)
      go (inr r) = at (test (within d c))
        where
          at : T (within d c) ⊎ T (not (within d c)) → put cap v c ≡ put cap t c
          at (inl q) =
              let e : put cap t c ≡ some v = ap (put cap t) (sym (within_equal d c q k)) ∙ h in
              put_dropped cap v c (T_true (any_of (λ e. within e c) v) (covers t v e)) ∙ sym e
          at (inr q) =
              let apart : All (λ e. T (not (within e c))) t =
              all_map (λ e. T (not (within e d))) (λ e. T (not (within e c)))
              (λ e i. not_in (within e c) (λ j. both (within e d) (within_trans e c d j k) i)) t
              (any_none (λ e. within e d) t r.0) in
              let old : any_of (λ e. within e c) t ≡ false = none_any (λ e. within e c) t apart in
              let new : any_of (λ e. within e c) (others d t ++ (d ∷ [])) ≡ false =
              none_any (λ e. within e c) (others d t ++ (d ∷ []))
              (all_append (λ e. T (not (within e c))) (others d t) (d ∷ [])
              (all_map (λ e. T (not (within e c)) × T (not (within d e))) (λ e. T (not (within e c))) (λ e i. i.0) (others d t)
              (all_keep (λ e. not (within d e)) (λ e. T (not (within e c))) t apart))
              (q, tt)) in
              ap (λ (x : List Literals). put cap x c) (sym r.1.0)
              ∙ ap (λ (b : Bool). put_new b cap (others d t ++ (d ∷ [])) c) new
              ∙ ap (λ (s : List Literals). put_last (eqb (length s) cap) s c) (others_again d k t)
              ∙ sym (ap (λ (b : Bool). put_new b cap t c) old)

  -- where there is room, a candidate fits
  room_for : (t : List Literals) (d : Literals) → length t < cap → (put cap t d ≡ none) → ⊥
  room_for t d l h = go (any_of (λ e. within e d) t) refl
    where
      go : (b : Bool) → any_of (λ e. within e d) t ≡ b → ⊥
      go true q = none-ne-some t (sym h ∙ put_dropped cap t d q)
      go false q =
          none-ne-some (others d t ++ (d ∷ []))
          (sym h ∙ put_added cap t d q (ne_eqb (length (others d t)) cap (λ e. omega (arith, l, e, keep_length (λ x. not (within d x)) t))))

  -- and makes the list one longer at most
  one_longer : (t : List Literals) (d : Literals) (v : List Literals) → put cap t d ≡ some v → length v ≤ length t + 1
  one_longer t d v h = go (put_cases cap t d v h)
    where
      go : Placed cap t d v → length v ≤ length t + 1
      go (inl l) = omega (arith, ap length l.1)
      go (inr r) = omega (arith, ap length r.1.0, length-append (others d t) (d ∷ []), keep_length (λ x. not (within d x)) t)

  -- candidates that contain c, and c among them
  pub absorbed : (ds t : List Literals) → All (λ d. T (within c d)) ds → Any (λ d. d ≡ c) ds → length t + length ds ≤ cap
      → put_all cap ds t ≡ put cap t c
  absorbed [] t h a l = absurd a
  absorbed (d ∷ ds) t h (inl e) l = ap (λ (x : Literals). and_then (put cap t x) (λ u. put_all cap ds u)) e ∙ last (put cap t c) refl
    where
      last : (o : Option (List Literals)) → put cap t c ≡ o → and_then o (λ u. put_all cap ds u) ≡ o
      last none q = refl
      last (some u) q = all_dropped ds u h.1 (covers t u q)
  absorbed (d ∷ ds) t h (inr a) l = go (put cap t d) refl (λ v k. absorbed ds v h.1 a k)
    where
      go : (o : Option (List Literals)) → put cap t d ≡ o
          → ((v : List Literals) → length v + length ds ≤ cap → put_all cap ds v ≡ put cap v c)
          → and_then o (λ u. put_all cap ds u) ≡ put cap t c
      go none q rec = absurd (room_for t d (omega (arith, l)) q)
      go (some v) q rec = rec v (omega (arith, l, one_longer t d v q)) ∙ put_over t d v h.0 q

-- ---- a clause joined with clauses of which one lies in it
module _ (c : Literals) (us : List Literals) (h : Any (λ u. T (within u c)) us) where
  abbrev joined : List Literals
  joined = keep consistent (map (join c) us)

  joined_contain : All (λ d. T (within c d)) joined
  joined_contain =
      all_map (λ d. T (within c d) × T (consistent d)) (λ d. T (within c d)) (λ d i. i.0) joined
      (all_keep consistent (λ d. T (within c d)) (map (join c) us)
      (all_imaged (join c) (λ d. T (within c d)) us (all_by (λ u. T (within c (join c u))) (λ u. within_join_l c u) us)))

  joined_has : consistent c ≡ true → Any (λ d. d ≡ c) joined
  joined_has q =
      any_passed consistent (λ d. d ≡ c) (map (join c) us)
      (any_imaged (join c) (λ d. (d ≡ c) × T (consistent d)) us
      (any_map (λ u. T (within u c)) (λ u. (join c u ≡ c) × T (consistent (join c u)))
      (λ u i. let e = sets.join_same c u (T_true (within u c) i) in (e, true_T (consistent (join c u)) (ap consistent e ∙ q))) us h))

  joined_few : length joined ≤ length us
  joined_few = omega (arith, keep_length consistent (map (join c) us), length-map us (join c))

  none_joined : consistent c ≡ false → joined ≡ []
  none_joined q = each us
    where
      each : (xs : List Literals) → keep consistent (map (join c) xs) ≡ []
      each [] = refl
      each (x ∷ xs) = ap (λ (b : Bool). add_if b (join c x) (keep consistent (map (join c) xs))) (stays_inconsistent c x q) ∙ each xs

  alone : (cap : ℕ) (t : List Literals) → length t + length us ≤ cap → put_all cap (keep consistent (c ∷ [])) t ≡ put_all cap joined t
  alone cap t l = go (consistent c) refl
    where
      then_is : (o : Option (List Literals)) → and_then o (λ u. put_all cap [] u) ≡ o
      then_is none = refl
      then_is (some u) = refl

      go : (b : Bool) → consistent c ≡ b → put_all cap (keep consistent (c ∷ [])) t ≡ put_all cap joined t
      go true q =
          ap (λ (b : Bool). put_all cap (add_if b c []) t) q
          ∙ then_is (put cap t c)
          ∙ sym (absorbed cap c joined t joined_contain (joined_has q) (omega (arith, l, joined_few)))
      go false q = ap (λ (x : List Literals). put_all cap x t) (left_out c q ∙ sym (none_joined q))

  -- where there is room for all, the clause alone is put
  pub puts_alone : {cap : ℕ} {t vs : List Literals} {r : Result Unit Full} → length t + length us ≤ cap
      → Puts cap (keep consistent (c ∷ [])) t r vs → Puts cap joined t r vs
  puts_alone {cap} {t} {vs} {r} l w = record { grew = subst (λ (o : Option (List Literals)). Grew o r vs) (alone cap t l) w.grew }
