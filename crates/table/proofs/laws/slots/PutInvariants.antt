-- What putting candidates keeps: a fact of all entries, the antichain, the room in the table, the worlds. For `put_worlds`,
-- `put_antichain` and `put_proper` in proofs/Demands, TH2, TH3 and TH8. Assumes nothing.
use mathlib.Core.Path.{◌≡◌, refl, sym, subst}
use mathlib.Core.Bool.{Bool, true, false, not}
use mathlib.Core.List.{List, [], ◌∷◌, ◌++◌}
use mathlib.Core.Logic.{◌⊎◌, inl, inr}
use mathlib.Core.Option.{Option, none, some, some-injective, none-ne-some}
use Prim.Native.Nat.{ℕ, ◌≤◌}
use native.Mathlib.Omega.{arith}
use lib.Dec.{T, eqb}
use lib.ListN.{length, length-append}
use borrow.Author.Tests.{eqb-false}
use Rattle.sheet.specs.declared.Literals.{Literals}
use Rattle.sheet.specs.Literals.{within, state}
use Rattle.sheet.specs.Lists.{Any, All, any_of, add_if, keep}
use Rattle.sheet.proofs.laws.base.Bools.{true_T, false_T, not_not}
use Rattle.sheet.proofs.laws.base.ListFacts.{any_map, all_map, any_out, all_by, any_append_l, any_append_r, any_append, all_append, any_test, any_none, any_keep, any_kept, all_keep}
use Rattle.sheet.proofs.laws.literals.LiteralSets.{within_trans}
use Rattle.table.proofs.laws.arrays.KeptMembers.{keep_length}
use Rattle.table.specs.Worlds.{and_then}
use Rattle.table.specs.Minimal.{In, Antichain, put_last, put_new, put, put_all}

-- the entries that stay when c is put
abbrev pub others : Literals → List Literals → List Literals
others c t = keep (λ e. not (within c e)) t

-- c was dropped, or it went last after the others, which left room
abbrev pub Placed : ℕ → List Literals → Literals → List Literals → Type 0
Placed cap t c u =
    (T (any_of (λ e. within e c) t) × (t ≡ u))
    ⊎ (T (not (any_of (λ e. within e c) t)) × ((others c t ++ (c ∷ []) ≡ u) × (eqb (length (others c t)) cap ≡ false)))

pub put_cases : (cap : ℕ) (t : List Literals) (c : Literals) (u : List Literals) → put cap t c ≡ some u → Placed cap t c u
unfolding put
put_cases cap t c u h = go (any_of (λ e. within e c) t) refl h
  where
    last : (b : Bool) → eqb (length (others c t)) cap ≡ b → put_last b (others c t) c ≡ some u
        → (others c t ++ (c ∷ []) ≡ u) × (eqb (length (others c t)) cap ≡ false)
    last true e h = absurd (none-ne-some u h)
    last false e h = (some-injective (others c t ++ (c ∷ [])) u h, e)

    go : (b : Bool) → any_of (λ e. within e c) t ≡ b → put_new b cap t c ≡ some u → Placed cap t c u
    go true e h = inl (true_T (any_of (λ x. within x c) t) e, some-injective t u h)
    go false e h = inr (false_T (any_of (λ x. within x c) t) e, last (eqb (length (others c t)) cap) refl h)

-- where something comes of two steps, something came of the first
pub then_some : {A B : Type 0} (o : Option A) (f : A → Option B) (r : B) → and_then o f ≡ some r → (q : A) × (o ≡ some q) × (f q ≡ some r)
then_some none f r e = absurd (none-ne-some r e)
then_some (some q) f r e = (q, refl, e)

-- what each put keeps, of the candidates to come and the table, the whole keeps
put_all_keeps : (Q : List Literals → List Literals → Type 0) (cap : ℕ)
    → ((c : Literals) (cs t u : List Literals) → put cap t c ≡ some u → Q (c ∷ cs) t → Q cs u)
    → (cs t u : List Literals) → put_all cap cs t ≡ some u → Q cs t → Q [] u
put_all_keeps Q cap f [] t u h q = subst (Q []) (some-injective t u h) q
put_all_keeps Q cap f (c ∷ cs) t u h q = go (put cap t c) refl h (λ v k. put_all_keeps Q cap f cs v u k)
  where
    go : (o : Option (List Literals)) → put cap t c ≡ o → and_then o (λ v. put_all cap cs v) ≡ some u
        → ((v : List Literals) → put_all cap cs v ≡ some u → Q cs v → Q [] u) → Q [] u
    go none e h k = absurd (none-ne-some u h)
    go (some v) e h k = k v h (f c cs t v e q)

-- ---- a fact of the entries and of the candidates is a fact of the new entries
pub put_all_lem : (P : Literals → Type 0) (cap : ℕ) (t : List Literals) (c : Literals) (u : List Literals) → put cap t c ≡ some u → All P t
    → P c → All P u
put_all_lem P cap t c u h a pc = go (put_cases cap t c u h)
  where
    go : Placed cap t c u → All P u
    go (inl l) = subst (All P) l.1 a
    go (inr r) =
        subst (All P) r.1.0
        (all_append P (others c t) (c ∷ [])
        (all_map (λ e. P e × T (not (within c e))) P (λ e q. q.0) (others c t) (all_keep (λ e. not (within c e)) P t a)) (pc, tt))

pub put_all_all : (P : Literals → Type 0) (cap : ℕ) (cs t u : List Literals) → put_all cap cs t ≡ some u → All P t → All P cs → All P u
put_all_all P cap cs t u h a b =
    (put_all_keeps (λ cs t. All P t × All P cs) cap (λ c cs t u e q. (put_all_lem P cap t c u e q.0 q.1.0, q.1.1)) cs t u h (a, b)).0

-- ---- the antichain
keep_antichain : (f : Literals → Bool) (t : List Literals) → Antichain t → Antichain (keep f t)
keep_antichain f [] a = tt
keep_antichain f (e ∷ t) a = go (f e) (keep_antichain f t a.1)
  where
    Apart : Literals → Type 0
    Apart g = T (not (within e g)) × T (not (within g e))

    go : (b : Bool) → Antichain (keep f t) → Antichain (add_if b e (keep f t))
    go true k = (all_map (λ g. Apart g × T (f g)) Apart (λ g q. q.0) (keep f t) (all_keep f Apart t a.0), k)
    go false k = k

last_antichain : (c : Literals) (t : List Literals) → Antichain t → All (λ e. T (not (within e c)) × T (not (within c e))) t
    → Antichain (t ++ (c ∷ []))
last_antichain c [] a b = (tt, tt)
last_antichain c (e ∷ t) a b =
    (all_append (λ f. T (not (within e f)) × T (not (within f e))) t (c ∷ []) a.0 (b.0, tt), last_antichain c t a.1 b.1)

pub put_antichain : (cap : ℕ) (t : List Literals) (c : Literals) (u : List Literals) → put cap t c ≡ some u → Antichain t → Antichain u
put_antichain cap t c u h a = go (put_cases cap t c u h)
  where
    go : Placed cap t c u → Antichain u
    go (inl l) = subst Antichain l.1 a
    go (inr r) =
        subst Antichain r.1.0
        (last_antichain c (others c t) (keep_antichain (λ e. not (within c e)) t a)
        (all_keep (λ e. not (within c e)) (λ e. T (not (within e c))) t (any_none (λ e. within e c) t r.0)))

pub put_all_antichain : (cap : ℕ) (cs t u : List Literals) → put_all cap cs t ≡ some u → Antichain t → Antichain u
put_all_antichain cap cs t u h a = put_all_keeps (λ cs t. Antichain t) cap (λ c cs t u e q. put_antichain cap t c u e q) cs t u h a

-- ---- no more entries than the capacity
pub put_size : (cap : ℕ) (t : List Literals) (c : Literals) (u : List Literals) → put cap t c ≡ some u → length t ≤ cap → length u ≤ cap
put_size cap t c u h b = go (put_cases cap t c u h)
  where
    go : Placed cap t c u → length u ≤ cap
    go (inl l) = subst (λ (x : List Literals). length x ≤ cap) l.1 b
    go (inr r) =
        subst (λ (x : List Literals). length x ≤ cap) r.1.0
        (omega (
          arith,
          keep_length (λ e. not (within c e)) t,
          length-append (others c t) (c ∷ []),
          eqb-false (length (others c t)) cap r.1.1,
        ))

pub put_all_size : (cap : ℕ) (cs t u : List Literals) → put_all cap cs t ≡ some u → length t ≤ cap → length u ≤ cap
put_all_size cap cs t u h b = put_all_keeps (λ cs t. length t ≤ cap) cap (λ c cs t u e q. put_size cap t c u e q) cs t u h b

-- ---- a set that has a member or a candidate within it goes on having one
module _ (x : Literals) where
  abbrev Inside : Literals → Type 0
  Inside e = T (within e x)

  put_inside : (cap : ℕ) (t : List Literals) (c : Literals) (u : List Literals) → put cap t c ≡ some u → Any Inside t ⊎ Inside c
      → Any Inside u
  put_inside cap t c u h = go (put_cases cap t c u h)
    where
      stay : Any (λ e. Inside e × T (not (not (within c e)))) t ⊎ Any Inside (others c t) → Any Inside (others c t ++ (c ∷ []))
      stay (inl gone) =
          any_append_r Inside (others c t) (c ∷ [])
          (inl (any_out (λ e. Unit {0}) (λ e. Inside e × T (not (not (within c e))))
          (λ e _ k. within_trans c e x (not_not (within c e) k.1) k.0) t (all_by (λ e. Unit {0}) (λ e. tt) t) gone))
      stay (inr k) = any_append_l Inside (others c t) (c ∷ []) k

      go : Placed cap t c u → Any Inside t ⊎ Inside c → Any Inside u
      go (inl l) (inl i) = subst (Any Inside) l.1 i
      go (inl l) (inr i) =
          subst (Any Inside) l.1
          (any_map (λ e. T (within e c)) Inside (λ e k. within_trans e c x k i) t (any_test (λ e. within e c) t l.0))
      go (inr r) (inl i) = subst (Any Inside) r.1.0 (stay (any_kept (λ e. not (within c e)) Inside t i))
      go (inr r) (inr i) = subst (Any Inside) r.1.0 (any_append_r Inside (others c t) (c ∷ []) (inl i))

  pub put_all_inside : (cap : ℕ) (cs t u : List Literals) → put_all cap cs t ≡ some u → Any Inside t ⊎ Any Inside cs → Any Inside u
  put_all_inside cap cs t u h i = done (put_all_keeps (λ cs t. Any Inside t ⊎ Any Inside cs) cap next cs t u h i)
    where
      next : (c : Literals) (cs t u : List Literals) → put cap t c ≡ some u → Any Inside t ⊎ Any Inside (c ∷ cs)
          → Any Inside u ⊎ Any Inside cs
      next c cs t u e (inl j) = inl (put_inside cap t c u e (inl j))
      next c cs t u e (inr (inl j)) = inl (put_inside cap t c u e (inr j))
      next c cs t u e (inr (inr j)) = inr j

      done : Any Inside u ⊎ ⊥ → Any Inside u
      done (inl j) = j
      done (inr j) = absurd j

-- ---- the worlds of the new table are those of the old and of the candidates
module _ (n w : ℕ) where
  abbrev Holds : Literals → Type 0
  Holds e = T (within e (state n w))

  pub put_in : (cap : ℕ) (t : List Literals) (c : Literals) (u : List Literals) → put cap t c ≡ some u → In n t w ⊎ Holds c → In n u w
  put_in = put_inside (state n w)

  pub put_out : (cap : ℕ) (t : List Literals) (c : Literals) (u : List Literals) → put cap t c ≡ some u → In n u w → In n t w ⊎ Holds c
  put_out cap t c u h i = go (put_cases cap t c u h)
    where
      go : Placed cap t c u → In n t w ⊎ Holds c
      go (inl l) = inl (subst (λ (x : List Literals). In n x w) (sym l.1) i)
      go (inr r) = part (any_append Holds (others c t) (c ∷ []) (subst (λ (x : List Literals). In n x w) (sym r.1.0) i))
        where
          part : Any Holds (others c t) ⊎ Any Holds (c ∷ []) → In n t w ⊎ Holds c
          part (inl k) = inl (any_keep (λ e. not (within c e)) Holds t k)
          part (inr (inl k)) = inr k
          part (inr (inr k)) = absurd k

  -- from an empty table
  pub put_all_in : (cap : ℕ) (cs u : List Literals) → put_all cap cs [] ≡ some u → In n cs w → In n u w
  put_all_in cap cs u h i = put_all_inside (state n w) cap cs [] u h (inr i)

  pub put_all_out : (cap : ℕ) (cs u : List Literals) → put_all cap cs [] ≡ some u → In n u w → In n cs w
  put_all_out cap all u h i = put_all_keeps (λ cs t. In n t w ⊎ In n cs w → In n all w) cap next all [] u h first (inl i)
    where
      first : ⊥ ⊎ In n all w → In n all w
      first (inl j) = absurd j
      first (inr j) = j

      next : (c : Literals) (cs t u : List Literals) → put cap t c ≡ some u → (In n t w ⊎ In n (c ∷ cs) w → In n all w) → In n u w
          ⊎ In n cs w → In n all w
      next c cs t u e k (inr j) = k (inr (inr j))
      next c cs t u e k (inl j) = from (put_out cap t c u e j)
        where
          from : In n t w ⊎ Holds c → In n all w
          from (inl x) = k (inl x)
          from (inr x) = k (inr (inl x))
