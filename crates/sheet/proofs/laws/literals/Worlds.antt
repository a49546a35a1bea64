-- Literal sets and worlds: a world is a complete set, a consistent set has a completion, and results take a world to a world.
-- For the starts, steps and pictures of table and the goals of plan. Assumes nothing.
use mathlib.Core.Path.{◌≡◌, refl, sym, ap, ap₂, ◌∙◌, subst}
use mathlib.Core.Logic.{⊎_elim}
use mathlib.Core.Bool.{Bool, true, false, not, ◌&&◌, beq, and-eq-true_iff, true≢false}
use Prim.Native.Nat.{ℕ, ◌^◌, ◌<◌}
use lib.Dec.{T, ltb}
use borrow.Author.Tests.{lt-ltb, ltb-true, not-true, not-false}
use Rattle.sheet.specs.declared.Literals.{Literals}
use Rattle.sheet.specs.Literals.{has, mem, within, clash, consistent, join, flip, replace, single, state, below}
use Rattle.sheet.specs.inner.Masks.{overridden}
use Rattle.sheet.proofs.laws.base.Bools.{T_true, true_T, not_twice}
use Rattle.sheet.proofs.laws.literals.LiteralSets.{mem_state, within_of, of_within, not_within, of_apart, clash_at, clash_here, clash_sym, clash_single, consistent_of, of_consistent, consistent_join, below_of, of_below, below_trues, below_join, below_single, within_join, within_join_l, within_join_r, within_trans, within_single, within_antisym, consistent_single, consistent_within, consistent_flip, below_within, below_flip}
use Rattle.sheet.proofs.laws.literals.Results.{consistent_replace, below_replace, within_replace, replace_cases, replace_kept}

-- ---- what holds in a world

module _ (n w : ℕ) (h : w < 2 ^ n) where
  beq_not : (t s : Bool) → beq t (not s) ≡ not (beq t s)
  beq_not true true = refl
  beq_not true false = refl
  beq_not false true = refl
  beq_not false false = refl

  -- each proposition has one of its two literals
  pub state_not : (s : Bool) (p : ℕ) → p < n → mem (state n w) (not s) p ≡ not (mem (state n w) s p)
  state_not s p l =
      mem_state n w h (not s) p ∙ rw (lt-ltb p n l) (beq_not (has w p) s)
      ∙ ap (λ (t : Bool). not (t && beq (has w p) s)) (sym (lt-ltb p n l)) ∙ ap not (sym (mem_state n w h s p))

  pub state_below : below n (state n w) ≡ true
  state_below = of_below n _ (λ s p m. ltb-true p n ((and-eq-true_iff _ _).0 (sym (mem_state n w h s p) ∙ m)).0)

  pub state_consistent : consistent (state n w) ≡ true
  state_consistent = of_consistent _ (λ s p m. state_not s p (below_of n _ state_below s p m) ∙ ap not m)

  -- a set holds in a world, or has a literal that is false there
  pub within_state : (c : Literals) → below n c ≡ true → within c (state n w) ≡ not (clash c (state n w))
  within_state c b = go (within c (state n w)) refl
    where
      go : (t : Bool) → within c (state n w) ≡ t → within c (state n w) ≡ not (clash c (state n w))
      go true e =
          e ∙ ap not (sym (of_apart c _ (λ s p m. consistent_of _ state_consistent s p (within_of c _ e s p m))))
      go false e =
          let r = not_within c (state n w) e in
          e ∙ ap not (sym (clash_here c _ r.0 r.1 r.2
          (state_not r.0 r.1 (below_of n c b r.0 r.1 r.2) ∙ ap not r.3)))

  -- a set that fails in the world has a literal that is false there, and the other way round
  pub fails_at : (c : Literals) → below n c ≡ true → within c (state n w) ≡ false
      → (s : Bool) × (p : ℕ) × (mem c s p ≡ true) × (mem (state n w) (not s) p ≡ true)
  fails_at c b e = clash_at c (state n w) (not-false _ (sym (within_state c b) ∙ e))

  pub fails_here : (c : Literals) (s : Bool) (p : ℕ) → mem c s p ≡ true → mem (state n w) (not s) p ≡ true → within c (state n w) ≡ false
  fails_here c s p e f = go (within c (state n w)) refl
    where
      go : (t : Bool) → within c (state n w) ≡ t → within c (state n w) ≡ false
      go true k = absurd (true≢false (sym f ∙ consistent_of _ state_consistent s p (within_of c _ k s p e)))
      go false k = k

-- ---- completions

-- the world in which just the true literals of c are true
pub completion : (n : ℕ) (c : Literals) → consistent c ≡ true → below n c ≡ true → within c (state n c.trues) ≡ true
unfolding mem
completion n c e b = of_within c _ (λ s p m. mem_state n c.trues (below_trues n c b) s p ∙ holds s p m)
  where
    holds : (s : Bool) (p : ℕ) → mem c s p ≡ true → (ltb p n && beq (has c.trues p) s) ≡ true
    holds true p m = rw (lt-ltb p n (below_of n c b true p m), m)
    holds false p m = rw (lt-ltb p n (below_of n c b false p m), consistent_of c e false p m)

-- two sets that do not clash have a world in common
pub common_world : (n : ℕ) (a b : Literals) → consistent a ≡ true → consistent b ≡ true → clash a b ≡ false → below n a ≡ true
    → below n b ≡ true
    → (w : ℕ) × (w < 2 ^ n) × (within a (state n w) ≡ true) × (within b (state n w) ≡ true)
common_world n a b e f k ba bb =
    ((join a b).trues, below_trues n _ bj, over a (within_join_l a b), over b (within_join_r a b))
  where
    bj : below n (join a b) ≡ true
    bj = below_join n a b ∙ ap₂ ◌&&◌ ba bb

    done : within (join a b) (state n (join a b).trues) ≡ true
    done = completion n _ (consistent_join a b ∙ ap₂ ◌&&◌ (ap₂ ◌&&◌ e f) (ap not k)) bj

    over : (c : Literals) → T (within c (join a b)) → within c (state n (join a b).trues) ≡ true
    over c w =
        T_true (within c (state n (join a b).trues))
        (within_trans c (join a b) (state n (join a b).trues) w (true_T (within (join a b) (state n (join a b).trues)) done))

-- a world of c that has a literal whose complement is not in c
pub completion_with : (n : ℕ) (c : Literals) (s : Bool) (p : ℕ) → consistent c ≡ true → below n c ≡ true → p < n → mem c (not s) p ≡ false
    → (w : ℕ) × (w < 2 ^ n) × (within c (state n w) ≡ true) × (mem (state n w) s p ≡ true)
completion_with n c s p e b l f =
    let r = common_world n c (single s p) e (consistent_single s p) (clash_sym c (single s p) ∙ clash_single s p c ∙ f) b
    (below_single n s p l) in
    (r.0, r.1, r.2, sym (within_single s p _) ∙ r.3)

-- a clause c that shares no literal with d is false in a world of d
pub counter_world : (n : ℕ) (c d : Literals) → consistent c ≡ true → consistent d ≡ true → clash (flip c) d ≡ false → below n c ≡ true
    → below n d ≡ true
    → (w : ℕ) × (w < 2 ^ n) × (within d (state n w) ≡ true) × (clash (flip c) (state n w) ≡ false)
counter_world n c d e f k bc bd =
    let r = common_world n (flip c) d (consistent_flip c ∙ e) f k (below_flip n c ∙ bc) bd in
    (r.0, r.1, r.3, not-true _ (sym (within_state n r.0 r.1 (flip c) (below_flip n c ∙ bc)) ∙ r.2))

-- a clause that holds in all worlds of d shares a literal with d
pub implied_clause : (n : ℕ) (c d : Literals) → consistent c ≡ true → consistent d ≡ true → below n c ≡ true → below n d ≡ true
    → ((w : ℕ) → w < 2 ^ n → within d (state n w) ≡ true → clash (flip c) (state n w) ≡ true) → clash (flip c) d ≡ true
implied_clause n c d e f bc bd all = go (clash (flip c) d) refl
  where
    go : (t : Bool) → clash (flip c) d ≡ t → clash (flip c) d ≡ true
    go true k = k
    go false k =
        let r = counter_world n c d e f k bc bd in
        absurd (true≢false (sym (all r.0 r.1 r.2) ∙ r.3))

-- ---- splitting: a world of d in which c fails has the complement of a literal of c that d leaves open

pub split_world : (n w : ℕ) → w < 2 ^ n → (c d : Literals) → below n c ≡ true → within d (state n w) ≡ true → within c (state n w) ≡ false
    → (s : Bool) × (p : ℕ) × (mem c s p ≡ true) × (mem d s p ≡ false) × (within (join d (single (not s) p)) (state n w) ≡ true)
split_world n w h c d b i e =
    let r = fails_at n w h c b e in (
      r.0,
      r.1,
      r.2,
      unknown r.0 r.1 r.3 (mem d r.0 r.1) refl,
      within_join d (single (not r.0) r.1) (state n w) ∙ ap₂ ◌&&◌ i (within_single (not r.0) r.1 (state n w) ∙ r.3),
    )
  where
    unknown : (s : Bool) (p : ℕ) → mem (state n w) (not s) p ≡ true → (t : Bool) → mem d s p ≡ t → mem d s p ≡ false
    unknown s p m true f =
        absurd (true≢false (sym m ∙ consistent_of _ (state_consistent n w h) s p (within_of d _ i s p f)))
    unknown s p m false f = f

-- ---- complete sets are worlds

-- a has a literal of each proposition below n
abbrev pub Full : ℕ → Literals → Type 0
Full n a = (s : Bool) (p : ℕ) → p < n → mem a s p ≡ false → mem a (not s) p ≡ true

-- a full set that lies in a consistent one below n is that one
pub full_within : (n : ℕ) (a b : Literals) → Full n a → consistent b ≡ true → below n b ≡ true → within a b ≡ true → a ≡ b
full_within n a b f e l w = within_antisym a b w (of_within b a (λ s p m. go s p m (mem a s p) refl))
  where
    go : (s : Bool) (p : ℕ) → mem b s p ≡ true → (t : Bool) → mem a s p ≡ t → mem a s p ≡ true
    go s p m true k = k
    go s p m false k =
        absurd (true≢false (sym (within_of a b w (not s) p (f s p (below_of n b l s p m) k)) ∙ consistent_of b e s p m))

pub state_full : (n w : ℕ) → w < 2 ^ n → Full n (state n w)
state_full n w h s p l e = state_not n w h s p l ∙ ap not e

pub full_state : (n : ℕ) (a : Literals) → Full n a → consistent a ≡ true → below n a ≡ true → a ≡ state n a.trues
full_state n a f e b =
    full_within n a (state n a.trues) f (state_consistent n _ (below_trues n a b)) (state_below n _ (below_trues n a b))
    (completion n a e b)

-- a world that lies in another is that one
pub state_within : (n u v : ℕ) → u < 2 ^ n → v < 2 ^ n → within (state n u) (state n v) ≡ true → u ≡ v
unfolding state
state_within n u v hu hv e =
    ap (λ (a : Literals). a.trues)
    (full_within n (state n u) (state n v) (state_full n u hu) (state_consistent n v hv) (state_below n v hv) e)

-- ---- results take a world to a world

module _ (n w : ℕ) (h : w < 2 ^ n) (r : Literals) (e : consistent r ≡ true) (b : below n r ≡ true) where
  full_after : Full n (replace (state n w) r)
  full_after s p l f = here (mem r (not s) p) refl
    where
      keep : mem r (not s) p ≡ false → (t : Bool) → mem (state n w) s p ≡ t → mem (state n w) (not s) p ≡ true
      keep k true m = absurd (true≢false (sym (replace_kept (state n w) r s p m k) ∙ f))
      keep k false m = state_full n w h s p l m

      there : (t : Bool) → mem r s p ≡ t → mem r s p ≡ false
      there true m = absurd (true≢false (sym (within_of _ _ (within_replace (state n w) r) s p m) ∙ f))
      there false m = m

      here : (t : Bool) → mem r (not s) p ≡ t → mem (replace (state n w) r) (not s) p ≡ true
      here true m = within_of _ _ (within_replace (state n w) r) (not s) p m
      here false m =
          replace_kept (state n w) r (not s) p (keep m (mem (state n w) s p) refl)
          (ap (λ (t : Bool). mem r t p) (not_twice s) ∙ there (mem r s p) refl)

  pub after_lt : overridden w r < 2 ^ n
  unfolding overridden replace state
  after_lt = below_trues n _ (below_replace n (state n w) r (state_below n w h) b)

  pub replace_state : replace (state n w) r ≡ state n (overridden w r)
  unfolding overridden replace state
  replace_state =
      full_state n _ full_after (consistent_replace (state n w) r (state_consistent n w h) e)
      (below_replace n (state n w) r (state_below n w h) b)

-- each world of the replaced set is what some world of d becomes
pub before_world : (n : ℕ) (d r : Literals) → consistent d ≡ true → below n d ≡ true → (v : ℕ) → v < 2 ^ n
    → within (replace d r) (state n v) ≡ true
    → (w : ℕ) × (w < 2 ^ n) × (within d (state n w) ≡ true) × (replace (state n w) r ≡ state n v)
before_world n d r e b v h i = (
  w,
  hw,
  subst (λ (a : Literals). within d a ≡ true) is (within_replace (state n v) d),
  full_within n _ _ (subst (Full n) (sym (replace_state n w hw r er br)) (state_full n _ (after_lt n w hw r er br)))
      (state_consistent n v h) (state_below n v h)
      (subst (λ (a : Literals). within (replace a r) (state n v) ≡ true) is inside),
)
  where
    w : ℕ
    w = overridden v d

    hw : overridden v d < 2 ^ n
    hw = after_lt n v h d e b

    is : replace (state n v) d ≡ state n (overridden v d)
    is = replace_state n v h d e b

    ir : within r (state n v) ≡ true
    ir =
        T_true (within r (state n v))
        (within_trans r (replace d r) (state n v) (true_T (within r (replace d r)) (within_replace d r))
        (true_T (within (replace d r) (state n v)) i))

    er : consistent r ≡ true
    er = consistent_within r _ ir (state_consistent n v h)

    br : below n r ≡ true
    br = below_within n r _ ir (state_below n v h)

    inside : within (replace (replace (state n v) d) r) (state n v) ≡ true
    inside =
        of_within _ _ (λ s p m.
        ⊎_elim
        (λ k.
        ⊎_elim (λ j. j.0) (λ j. within_of _ _ i s p (replace_kept d r s p j k.1)) (replace_cases (state n v) d s p k.0))
        (within_of _ _ ir s p)
        (replace_cases (replace (state n v) d) r s p m))
