-- Sets of literals by their members: `mem` of each operation, `within`, `clash`, `consistent`, `below`; none looks at a mask's digits.
-- For all laws of literal sets, here and in table and plan. Assumes nothing.
use mathlib.Core.Path.{◌≡◌, refl, sym, ap, ap₂, ◌∙◌, subst}
use mathlib.Core.Logic.{⊎_elim}
use mathlib.Core.Bool.{Bool, true, false, not, ◌&&◌, ◌||◌, beq, and-eq-true_iff, or_comm, or_assoc, true≢false, false≢true}
use Prim.Native.Nat.{ℕ, ◌^◌, ◌<◌}
use lib.Dec.{T, eqb, ltb}
use lib.Bits.{bit_and, and_comm}
use borrow.Author.Tests.{eq-eqb, eqb-true, eqb-false, lt-ltb, ltb-true, not-true, not-false}
use Rattle.sheet.specs.declared.Literals.{Literals}
use Rattle.sheet.specs.Literals.{has, no_literal, side, mem, within, clash, consistent, join, flip, replace, single, state, below, Proper}
use Rattle.sheet.proofs.laws.base.Bools.{T_true, true_T, iff_eq, or_cases, or_left, or_right, and_true, not_twice}
use Rattle.sheet.proofs.laws.literals.MaskBits.{has_or, has_minus, has_pow, has_none, has_not, has_below, below_has, ext, sub_of, of_sub, not_sub, disjoint_of, of_disjoint, not_disjoint}

-- ---- the members of each set

pub mem_none : (s : Bool) (p : ℕ) → mem no_literal s p ≡ false
unfolding mem no_literal
mem_none true p = has_none p
mem_none false p = has_none p

pub mem_join : (a b : Literals) (s : Bool) (p : ℕ) → mem (join a b) s p ≡ (mem a s p || mem b s p)
unfolding mem join
mem_join a b true p = has_or a.trues b.trues p
mem_join a b false p = has_or a.falses b.falses p

pub mem_flip : (a : Literals) (s : Bool) (p : ℕ) → mem (flip a) s p ≡ mem a (not s) p
unfolding mem flip
mem_flip a true p = refl
mem_flip a false p = refl

pub mem_replace : (a r : Literals) (s : Bool) (p : ℕ)
    → mem (replace a r) s p ≡ ((mem a s p && not (mem r (not s) p)) || mem r s p)
unfolding mem replace
mem_replace a r true p =
    has_or _ r.trues p ∙ ap (λ (t : Bool). t || has r.trues p) (has_minus a.trues r.falses p)
mem_replace a r false p =
    has_or _ r.falses p ∙ ap (λ (t : Bool). t || has r.falses p) (has_minus a.falses r.trues p)

pub mem_single : (t : Bool) (q : ℕ) (s : Bool) (p : ℕ) → mem (single t q) s p ≡ (beq t s && eqb p q)
unfolding mem single
mem_single true q true p = has_pow p q
mem_single true q false p = has_none p
mem_single false q true p = has_none p
mem_single false q false p = has_pow p q

-- in the world w: the literals that hold there, of the n propositions
pub mem_state : (n w : ℕ) → w < 2 ^ n → (s : Bool) (p : ℕ) → mem (state n w) s p ≡ (ltb p n && beq (has w p) s)
unfolding mem state
mem_state n w h false p = has_not n w p h ∙ ap (λ (t : Bool). ltb p n && t) (is_false (has w p))
  where
    is_false : (t : Bool) → not t ≡ beq t false
    is_false true = refl
    is_false false = refl
mem_state n w h true p = go (has w p) refl
  where
    is_true : (x t : Bool) → (t ≡ true → x ≡ true) → t ≡ (x && beq t true)
    is_true x true k = rw (k refl)
    is_true true false k = refl
    is_true false false k = refl

    go : (t : Bool) → has w p ≡ t → has w p ≡ (ltb p n && beq (has w p) true)
    go t e = is_true (ltb p n) (has w p) (λ f. lt-ltb p n (has_below h f))

-- the members decide the set
pub set_ext : (a b : Literals) → ((s : Bool) (p : ℕ) → mem a s p ≡ mem b s p) → a ≡ b
unfolding mem
set_ext a b h =
    ap₂ {C = Literals} (λ (x y : ℕ). record { trues = x; falses = y }) (ext a.trues b.trues (h true))
    (ext a.falses b.falses (h false))

-- ---- within

-- each member of a is one of b
abbrev pub Within : Literals → Literals → Type 0
Within a b = (s : Bool) (p : ℕ) → mem a s p ≡ true → mem b s p ≡ true

pub within_of : (a b : Literals) → within a b ≡ true → Within a b
unfolding mem within
within_of a b e true = sub_of _ _ (eqb-true _ _ ((and-eq-true_iff _ _).0 e).0)
within_of a b e false = sub_of _ _ (eqb-true _ _ ((and-eq-true_iff (eqb (bit_and a.trues b.trues) a.trues) _).0 e).1)

pub of_within : (a b : Literals) → Within a b → within a b ≡ true
unfolding mem within
of_within a b h = ap₂ ◌&&◌ (eq-eqb _ _ (of_sub _ _ (h true))) (eq-eqb _ _ (of_sub _ _ (h false)))

-- a member of a that is none of b
pub not_within : (a b : Literals) → within a b ≡ false → (s : Bool) × (p : ℕ) × (mem a s p ≡ true) × (mem b s p ≡ false)
unfolding mem within
not_within a b e = go (eqb (bit_and a.trues b.trues) a.trues) refl
  where
    go : (t : Bool) → eqb (bit_and a.trues b.trues) a.trues ≡ t
        → (s : Bool) × (p : ℕ) × (has (side a s) p ≡ true) × (has (side b s) p ≡ false)
    go true f =
        let r = not_sub a.falses b.falses
        (eqb-false _ _ (ap (λ (t : Bool). t && eqb (bit_and a.falses b.falses) a.falses) (sym f) ∙ e)) in
        (false, r.0, r.1, r.2)
    go false f = let r = not_sub a.trues b.trues (eqb-false _ _ f) in (true, r.0, r.1, r.2)

-- ---- clash

-- no member of a has its complement in b
abbrev pub Apart : Literals → Literals → Type 0
Apart a b = (s : Bool) (p : ℕ) → mem a s p ≡ true → mem b (not s) p ≡ false

pub apart_of : (a b : Literals) → clash a b ≡ false → Apart a b
unfolding mem clash
apart_of a b e true = disjoint_of _ _ (eqb-true _ _ ((and-eq-true_iff _ _).0 (not-false _ e)).0)
apart_of a b e false = disjoint_of _ _ (eqb-true _ _ ((and-eq-true_iff (eqb (bit_and a.trues b.falses) 0) _).0 (not-false _ e)).1)

pub of_apart : (a b : Literals) → Apart a b → clash a b ≡ false
unfolding mem clash
of_apart a b h =
    ap₂ (λ (x y : Bool). not (x && y)) (eq-eqb _ _ (of_disjoint _ _ (h true))) (eq-eqb _ _ (of_disjoint _ _ (h false)))

-- a member of a with its complement in b
pub clash_at : (a b : Literals) → clash a b ≡ true → (s : Bool) × (p : ℕ) × (mem a s p ≡ true) × (mem b (not s) p ≡ true)
unfolding mem clash
clash_at a b e = go (eqb (bit_and a.trues b.falses) 0) refl
  where
    go : (t : Bool) → eqb (bit_and a.trues b.falses) 0 ≡ t
        → (s : Bool) × (p : ℕ) × (has (side a s) p ≡ true) × (has (side b (not s)) p ≡ true)
    go true f =
        let r = not_disjoint a.falses b.trues
        (eqb-false _ _ (ap (λ (t : Bool). t && eqb (bit_and a.falses b.trues) 0) (sym f) ∙ not-true _ e)) in
        (false, r.0, r.1, r.2)
    go false f = let r = not_disjoint a.trues b.falses (eqb-false _ _ f) in (true, r.0, r.1, r.2)

pub clash_here : (a b : Literals) (s : Bool) (p : ℕ) → mem a s p ≡ true → mem b (not s) p ≡ true → clash a b ≡ true
clash_here a b s p e f = go (clash a b) refl
  where
    go : (t : Bool) → clash a b ≡ t → clash a b ≡ true
    go true h = h
    go false h = absurd (true≢false (sym f ∙ apart_of a b h s p e))

-- ---- truth values

-- ---- the order

pub within_refl : (a : Literals) → T (within a a)
within_refl a = true_T (within a a) (of_within a a (λ s p e. e))

pub within_trans : (a b c : Literals) → T (within a b) → T (within b c) → T (within a c)
within_trans a b c f g =
    true_T (within a c) (of_within a c (λ s p e. within_of b c (T_true (within b c) g) s p (within_of a b (T_true (within a b) f) s p e)))

pub within_antisym : (a b : Literals) → within a b ≡ true → within b a ≡ true → a ≡ b
within_antisym a b f g = set_ext a b (λ s p. iff_eq _ _ (within_of a b f s p) (within_of b a g s p))

pub within_join_l : (a b : Literals) → T (within a (join a b))
within_join_l a b = true_T (within a (join a b)) (of_within _ _ (λ s p e. mem_join a b s p ∙ or_left _ _ e))

pub within_join_r : (a b : Literals) → T (within b (join a b))
within_join_r a b = true_T (within b (join a b)) (of_within _ _ (λ s p e. mem_join a b s p ∙ or_right (mem a s p) _ e))

-- the join is the least set that holds and-true
pub within_join : (a b c : Literals) → within (join a b) c ≡ (within a c && within b c)
within_join a b c =
    iff_eq _ _
    (λ e. let w = true_T (within (join a b) c) e in
    and_true _ _ (T_true (within a c) (within_trans a (join a b) c (within_join_l a b) w))
    (T_true (within b c) (within_trans b (join a b) c (within_join_r a b) w)))
    (λ e.
    of_within _ _ (λ s p m.
    ⊎_elim (within_of a c ((and-eq-true_iff _ _).0 e).0 s p) (within_of b c ((and-eq-true_iff (within a c) _).0 e).1 s p)
    (or_cases _ _ (sym (mem_join a b s p) ∙ m))))

pub join_same : (a b : Literals) → within b a ≡ true → join a b ≡ a
join_same a b e =
    within_antisym _ _ (within_join a b a ∙ and_true _ _ (T_true (within a a) (within_refl a)) e)
    (T_true (within a (join a b)) (within_join_l a b))

pub join_comm : (a b : Literals) → join a b ≡ join b a
join_comm a b = set_ext _ _ (λ s p. simp mem_join (or_comm (mem a s p) (mem b s p)))

pub join_assoc : (a b c : Literals) → join (join a b) c ≡ join a (join b c)
join_assoc a b c = set_ext _ _ (λ s p. simp mem_join (or_assoc (mem a s p) (mem b s p) (mem c s p)))

-- ---- clashes

pub clash_sym : (a b : Literals) → clash a b ≡ clash b a
clash_sym a b = iff_eq _ _ (turn a b) (turn b a)
  where
    turn : (a b : Literals) → clash a b ≡ true → clash b a ≡ true
    turn a b e =
        let r = clash_at a b e in
        clash_here b a (not r.0) r.1 r.3 (ap (λ (t : Bool). mem a t r.1) (not_twice r.0) ∙ r.2)

pub clash_within : (a b c : Literals) → within a b ≡ true → clash a c ≡ true → clash b c ≡ true
clash_within a b c w e = let r = clash_at a c e in clash_here b c r.0 r.1 (within_of a b w r.0 r.1 r.2) r.3

pub clash_join : (a b c : Literals) → clash (join a b) c ≡ (clash a c || clash b c)
clash_join a b c =
    iff_eq _ _
    (λ e.
    let r = clash_at (join a b) c e in
    ⊎_elim (λ m. or_left _ _ (clash_here a c r.0 r.1 m r.3)) (λ m. or_right (clash a c) _ (clash_here b c r.0 r.1 m r.3))
    (or_cases (mem a r.0 r.1) (mem b r.0 r.1) (sym (mem_join a b r.0 r.1) ∙ r.2)))
    (λ e.
    ⊎_elim (clash_within a (join a b) c (T_true (within a (join a b)) (within_join_l a b)))
    (clash_within b (join a b) c (T_true (within b (join a b)) (within_join_r a b))) (or_cases (clash a c) (clash b c) e))

pub consistent_clash : (a : Literals) → consistent a ≡ not (clash a a)
unfolding consistent clash
consistent_clash a =
    twice (eqb (bit_and a.trues a.falses) 0)
    ∙ ap (λ (x : ℕ). not (not (eqb (bit_and a.trues a.falses) 0 && eqb x 0))) (and_comm a.trues a.falses)
  where
    twice : (x : Bool) → x ≡ not (not (x && x))
    twice true = refl
    twice false = refl

pub consistent_of : (a : Literals) → consistent a ≡ true → Apart a a
consistent_of a e = apart_of a a (not-true _ (sym (consistent_clash a) ∙ e))

pub of_consistent : (a : Literals) → Apart a a → consistent a ≡ true
of_consistent a h = consistent_clash a ∙ ap not (of_apart a a h)

pub consistent_within : (a b : Literals) → within a b ≡ true → consistent b ≡ true → consistent a ≡ true
consistent_within a b w e = of_consistent a (λ s p m. go s p (within_of a b w s p m) (mem a (not s) p) refl)
  where
    go : (s : Bool) (p : ℕ) → mem b s p ≡ true → (t : Bool) → mem a (not s) p ≡ t → mem a (not s) p ≡ false
    go s p m true f = absurd (true≢false (sym (within_of a b w (not s) p f) ∙ consistent_of b e s p m))
    go s p m false f = f

pub consistent_join : (a b : Literals) → consistent (join a b) ≡ ((consistent a && consistent b) && not (clash a b))
consistent_join a b =
    consistent_clash (join a b)
    ∙ ap not (clash_join a b (join a b) ∙ ap₂ ◌||◌ (right a) (right b))
    ∙ ap (λ (t : Bool). not ((clash a a || clash a b) || (t || clash b b))) (clash_sym b a)
    ∙ four (clash a a) (clash b b) (clash a b)
    ∙ ap₂ (λ (x y : Bool). (x && y) && not (clash a b)) (sym (consistent_clash a)) (sym (consistent_clash b))
  where
    right : (c : Literals) → clash c (join a b) ≡ (clash c a || clash c b)
    right c = clash_sym c (join a b) ∙ clash_join a b c ∙ ap₂ ◌||◌ (clash_sym a c) (clash_sym b c)

    four : (x y z : Bool) → not ((x || z) || (z || y)) ≡ ((not x && not y) && not z)
    four true y z = refl
    four false true true = refl
    four false true false = refl
    four false false true = refl
    four false false false = refl

-- ---- one literal

same_sign : (s : Bool) → beq s s ≡ true
same_sign true = refl
same_sign false = refl

pub mem_self : (s : Bool) (p : ℕ) → mem (single s p) s p ≡ true
mem_self s p = mem_single s p s p ∙ and_true _ _ (same_sign s) (eq-eqb p p refl)

-- a member of the set of one literal is that literal
pub single_is : (s : Bool) (p : ℕ) (t : Bool) (q : ℕ) → mem (single s p) t q ≡ true → (t ≡ s) × (q ≡ p)
single_is s p t q e =
    let h : (beq s t ≡ true) × (eqb q p ≡ true) = (and-eq-true_iff (beq s t) (eqb q p)).0 (sym (mem_single s p t q) ∙ e) in
    (go s t h.0, eqb-true q p h.1)
  where
    go : (s t : Bool) → beq s t ≡ true → t ≡ s
    go true true f = refl
    go true false f = absurd (false≢true f)
    go false true f = absurd (false≢true f)
    go false false f = refl

pub within_single : (s : Bool) (p : ℕ) (a : Literals) → within (single s p) a ≡ mem a s p
within_single s p a =
    iff_eq _ _ (λ e. within_of _ a e s p (mem_self s p))
    (λ e. of_within _ a (λ t q m. ap₂ (mem a) (single_is s p t q m).0 (single_is s p t q m).1 ∙ e))

pub clash_single : (s : Bool) (p : ℕ) (a : Literals) → clash (single s p) a ≡ mem a (not s) p
clash_single s p a =
    iff_eq _ _
    (λ e.
    let r = clash_at (single s p) a e in
    let i : (r.0 ≡ s) × (r.1 ≡ p) = single_is s p r.0 r.1 r.2 in
    ap₂ (λ (t : Bool) (q : ℕ). mem a (not t) q) (sym i.0) (sym i.1) ∙ r.3)
    (λ e. clash_here (single s p) a s p (mem_self s p) e)

pub consistent_single : (s : Bool) (p : ℕ) → consistent (single s p) ≡ true
consistent_single s p =
    consistent_clash (single s p) ∙ ap not
    (clash_single s p (single s p) ∙ mem_single s p (not s) p ∙ ap (λ (t : Bool). t && eqb p p) (other s))
  where
    other : (s : Bool) → beq s (not s) ≡ false
    other true = refl
    other false = refl

-- ---- a literal in common: a clause a and a set b that makes it true

pub meet_at : (a b : Literals) → clash (flip a) b ≡ true → (s : Bool) × (p : ℕ) × (mem a s p ≡ true) × (mem b s p ≡ true)
meet_at a b e =
    let r = clash_at (flip a) b e in
    (not r.0, r.1, sym (mem_flip a r.0 r.1) ∙ r.2, r.3)

pub meet_here : (a b : Literals) (s : Bool) (p : ℕ) → mem a s p ≡ true → mem b s p ≡ true → clash (flip a) b ≡ true
meet_here a b s p e f =
    clash_here (flip a) b (not s) p (mem_flip a (not s) p ∙ ap (λ (t : Bool). mem a t p) (not_twice s) ∙ e)
    (ap (λ (t : Bool). mem b t p) (not_twice s) ∙ f)

-- ---- the propositions named

-- each proposition named in a is below n
abbrev pub Below : ℕ → Literals → Type 0
Below n a = (s : Bool) (p : ℕ) → mem a s p ≡ true → p < n

pub below_of : (n : ℕ) (a : Literals) → below n a ≡ true → Below n a
unfolding mem below
below_of n a e true p m = has_below (ltb-true _ _ ((and-eq-true_iff _ _).0 e).0) m
below_of n a e false p m = has_below (ltb-true _ _ ((and-eq-true_iff (ltb a.trues (2 ^ n)) _).0 e).1) m

pub of_below : (n : ℕ) (a : Literals) → Below n a → below n a ≡ true
unfolding mem below
of_below n a h = and_true _ _ (lt-ltb _ _ (below_has n a.trues (h true))) (lt-ltb _ _ (below_has n a.falses (h false)))

pub below_trues : (n : ℕ) (a : Literals) → below n a ≡ true → a.trues < 2 ^ n
unfolding below
below_trues n a e = ltb-true _ _ ((and-eq-true_iff _ _).0 e).0

pub below_falses : (n : ℕ) (a : Literals) → below n a ≡ true → a.falses < 2 ^ n
unfolding below
below_falses n a e = ltb-true _ _ ((and-eq-true_iff (ltb a.trues (2 ^ n)) _).0 e).1

pub below_within : (n : ℕ) (a b : Literals) → within a b ≡ true → below n b ≡ true → below n a ≡ true
below_within n a b w e = of_below n a (λ s p m. below_of n b e s p (within_of a b w s p m))

pub below_join : (n : ℕ) (a b : Literals) → below n (join a b) ≡ (below n a && below n b)
below_join n a b =
    iff_eq _ _
    (λ e. and_true _ _ (below_within n a _ (T_true (within a (join a b)) (within_join_l a b)) e)
    (below_within n b _ (T_true (within b (join a b)) (within_join_r a b)) e))
    (λ e.
    of_below n _ (λ s p m.
    ⊎_elim (below_of n a ((and-eq-true_iff _ _).0 e).0 s p) (below_of n b ((and-eq-true_iff (below n a) _).0 e).1 s p)
    (or_cases (mem a s p) (mem b s p) (sym (mem_join a b s p) ∙ m))))

pub below_single : (n : ℕ) (s : Bool) (p : ℕ) → p < n → below n (single s p) ≡ true
below_single n s p h = of_below n _ (λ t q m. subst (λ (x : ℕ). x < n) (sym (single_is s p t q m).1) h)

-- ---- complements keep and-true

pub consistent_flip : (a : Literals) → consistent (flip a) ≡ consistent a
unfolding consistent flip
consistent_flip a = ap (λ (x : ℕ). eqb x 0) (and_comm a.falses a.trues)

pub below_flip : (n : ℕ) (a : Literals) → below n (flip a) ≡ below n a
unfolding below flip
below_flip n a = swap (ltb a.falses (2 ^ n)) (ltb a.trues (2 ^ n))
  where
    swap : (x y : Bool) → (x && y) ≡ (y && x)
    swap true true = refl
    swap true false = refl
    swap false true = refl
    swap false false = refl

-- ---- proper sets

pub proper_of : (n : ℕ) (a : Literals) → consistent a ≡ true → below n a ≡ true → Proper n a
proper_of n a e b = record { steady = true_T (consistent a) e; trues_below = below_trues n a b; falses_below = below_falses n a b }

pub proper_consistent : (n : ℕ) (a : Literals) → Proper n a → consistent a ≡ true
proper_consistent n a h = T_true (consistent a) h.steady

pub proper_below : (n : ℕ) (a : Literals) → Proper n a → below n a ≡ true
unfolding below
proper_below n a h = and_true _ _ (lt-ltb _ _ h.trues_below) (lt-ltb _ _ h.falses_below)
