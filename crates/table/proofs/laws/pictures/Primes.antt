-- Prime implicates: the fold of the picture lists those of the table's worlds, and they say which worlds these are. For TH8
-- (`pictures/PictureWorlds`) and for the crate plan. Assumes nothing.
use mathlib.Core.Path.{◌≡◌, refl, sym, ap, ap₂, ◌∙◌, subst}
use mathlib.Core.Logic.{◌⊎◌, inl, inr, ◌↔◌}
use mathlib.Core.Bool.{Bool, true, false, not, cond, true≢false}
use mathlib.Core.Option.{some}
use mathlib.Core.List.Memᴰ
use mathlib.Core.List.{List, [], ◌∷◌, map, Memᴰ}
use Prim.Native.Nat.{ℕ, zero, suc, ◌+◌, ◌/◌, ◌^◌, ◌≤◌, ◌<◌}
use native.Mathlib.Omega.{arith}
use lib.Dec.{T, eqb, ltb, eqb→eq, ltb→lt, nltb→le}
use lib.Bits.{bit_and, and_le_r}
use lib.ListN.{length}
use borrow.Author.Tests.{not-true}
use Rattle.sheet.specs.declared.Literals.{Literals}
use Rattle.sheet.specs.Literals.{no_literal, mem, within, clash, consistent, join, flip, sign, literal, contains, state, meets, Proper, members_from, members}
use Rattle.sheet.specs.inner.Masks.{byte}
use Rattle.sheet.specs.Lists.{All, any_of, collect}
use Rattle.sheet.proofs.laws.base.Bools.{test, both, T_true, true_T, and_l, and_r, not_in}
use Rattle.sheet.proofs.laws.base.ListFacts.{any_test, any_none, any_out, all_map, all_imaged}
use Rattle.sheet.proofs.laws.literals.LiteralSets.{of_within, within_of, of_consistent, consistent_within, consistent_clash, mem_self, single_is, consistent_single, consistent_flip, meet_at, meet_here, below_within, below_join, below_flip, proper_of, proper_consistent, proper_below, within_refl, within_trans, within_join_l, within_join_r, mem_none}
use Rattle.sheet.proofs.laws.literals.LiteralBytes.{byte_of, contains_byte, contains_lt, within_literal, down, members_end, members_here, members_step, of_member, member_of}
use Rattle.sheet.proofs.laws.literals.Worlds.{state_below, state_consistent, within_state, state_within, implied_clause}
use Rattle.sheet.proofs.laws.literals.ProperSets.{below_none, join_within}
use Rattle.sheet.proofs.laws.base.ListMembers.{all_members, some_member, each_member, keep_member, member_keep, collect_member, member_collect}
use Rattle.table.specs.Minimal.{In, Antichain, put_all}
use Rattle.table.specs.Picture.{units, unions, fold, primes}
use Rattle.table.specs.Prime.{Implicate, Prime, Exactly}
use Rattle.table.proofs.laws.slots.PutInvariants.{then_some, put_all_antichain, put_all_size}
use Rattle.table.proofs.laws.slots.LeastCandidates.{within_equal, Besides, antichain_equal, put_from, put_covers}
use Rattle.table.proofs.laws.pictures.ClauseOrder.{same_masks}

-- ---- clauses that hold

meets_more : (a b d : Literals) → T (within a b) → T (meets a d) → T (meets b d)
unfolding meets
meets_more a b d i t =
    let r = meet_at a d (T_true _ t) in
    true_T _ (meet_here b d r.0 r.1 (within_of a b (T_true _ i) r.0 r.1 r.2) r.3)

proper_join : (n : ℕ) (a b : Literals) → Proper n a → Proper n b → T (consistent (join a b)) → Proper n (join a b)
proper_join n a b p q t = proper_of n (join a b) (T_true _ t) (below_join n a b ∙ rw (proper_below n a p, proper_below n b q))

-- the clause of all literals that are false in w fails in that world alone
module _ (n w : ℕ) (h : w < 2 ^ n) where
  opposite_proper : Proper n (flip (state n w))
  opposite_proper = proper_of n _ (consistent_flip (state n w) ∙ state_consistent n w h) (below_flip n (state n w) ∙ state_below n w h)

  opposite_fails : T (meets (flip (state n w)) (state n w)) → ⊥
  unfolding meets flip
  opposite_fails t =
      true≢false (sym (T_true (clash (state n w) (state n w)) t) ∙ not-true _ (sym (consistent_clash (state n w)) ∙ state_consistent n w h))

  opposite_holds : (v : ℕ) → v < 2 ^ n → (w ≡ v → ⊥) → T (meets (flip (state n w)) (state n v))
  unfolding meets flip
  opposite_holds v k f = pick (clash (state n w) (state n v)) refl
    where
      pick : (b : Bool) → clash (state n w) (state n v) ≡ b → T (clash (state n w) (state n v))
      pick true e = true_T _ e
      pick false e = absurd (f (state_within n w v h k (within_state n v k (state n w) (state_below n w h) ∙ ap not e)))

-- ---- the literals of an entry

units_member : (e x : Literals) → Memᴰ x (units e) → (l : ℕ) × (contains e l ≡ true) × (literal l ≡ x)
unfolding units
units_member e x m =
    let r = Memᴰ.of_map literal (members e 0) m in
    (r.0, (of_member e r.0 0 r.1).2, r.2)

member_units : (e : Literals) (l : ℕ) → l < 64 → contains e l ≡ true → Memᴰ (literal l) (units e)
unfolding units
member_units e l h c = Memᴰ.map literal (member_of e l h c 0 (omega arith))

pub units_length : (e : Literals) → length (units e) ≤ 64
unfolding units members members_from
units_length e = each 64 0
  where
    each : (k l : ℕ) → length (map literal (members_from k e l)) ≤ k
    each zero l = omega arith
    each (suc k) l = pick (contains e l) (each k (suc l))
      where
        pick : (b : Bool) → length (map literal (members_from k e (suc l))) ≤ k
            → length (map literal (cond b (l ∷ members_from k e (suc l)) (members_from k e (suc l)))) ≤ suc k
        pick true h = omega arith
        pick false h = omega arith

literal_equal : (j k : ℕ) → T (within (literal j) (literal k)) → j ≡ k
unfolding literal contains
literal_equal j k t =
    let r = single_is (sign k) (k / 2) (sign j) (j / 2) (sym (within_literal j (literal k)) ∙ T_true _ t) in
    sym (byte_of j) ∙ ap₂ byte r.0 r.1 ∙ byte_of k

units_antichain : (e : Literals) → Antichain (units e)
unfolding units
units_antichain e = down P (λ l h. subst Q (sym (members_end e l h)) tt) (λ l h r. pick l h r (contains e l) refl) 0
  where
    Q : List ℕ → Type 0
    Q ls = Antichain (map literal ls)

    P : ℕ → Type 0
    P l = Q (members e l)

    other : (j k : ℕ) → j < k → Besides (literal j) (literal k)
    other j k h = (
      not_in (within (literal j) (literal k)) (λ t. omega (arith, literal_equal j k t)),
      not_in (within (literal k) (literal j)) (λ t. omega (arith, literal_equal k j t)),
    )

    pick : (l : ℕ) → l < 64 → P (l + 1) → (b : Bool) → contains e l ≡ b → P l
    pick l h r true c =
        subst Q (sym (members_here e l h c)) (
          all_imaged literal (Besides (literal l)) (members e (l + 1))
              (all_members (λ k. Besides (literal l) (literal k)) (members e (l + 1))
              (λ k m. other l k (omega (arith, (of_member e k (l + 1) m).0)))),
          r,
        )
    pick l h r false c = subst Q (sym (members_step e l h c)) r

-- ---- lists of prime implicates

-- each clause is an implicate; every implicate has a clause within; no clause lies in another
pub record PrimeList (n : ℕ) (worlds : ℕ → Type 0) (s : List Literals) : Type 0 where
  pub sound : (c : Literals) → Memᴰ c s → Implicate n worlds c
  pub complete : (d : Literals) → Implicate n worlds d → (c : Literals) × Memᴰ c s × T (within c d)
  pub apart : Antichain s

pub list_exactly : (n : ℕ) (worlds : ℕ → Type 0) (s : List Literals) → PrimeList n worlds s → Exactly n worlds s
list_exactly n worlds s p c = (there, back)
  where
    there : Memᴰ c s → Prime n worlds c
    there m = record {
      implicate = p.sound c m;
      least = λ d i t.
          (let r = p.complete d i in
          let e : r.0 ≡ c = antichain_equal s p.apart r.0 c r.1 m (within_trans r.0 d c r.2 t) in
          within_equal d c t (subst (λ (z : Literals). T (within z d)) e r.2));
    }

    back : Prime n worlds c → Memᴰ c s
    back q = let r = p.complete c q.implicate in Memᴰ.cast (sym (q.least r.0 (p.sound r.0 r.1) r.2)) r.1

-- a set that lies in another is the same or smaller
smaller : (a b : Literals) → T (within a b) → T (not (within b a)) → a.trues + a.falses < b.trues + b.falses
unfolding within
smaller a b t f = pick (test (ltb (a.trues + a.falses) (b.trues + b.falses)))
  where
    le : (x y : ℕ) → T (eqb (bit_and x y) x) → x ≤ y
    le x y e = omega (arith, and_le_r x y, eqb→eq (bit_and x y) x e)

    trues_le : a.trues ≤ b.trues
    trues_le = le a.trues b.trues
        (and_l (eqb (bit_and a.trues b.trues) a.trues) (eqb (bit_and a.falses b.falses) a.falses) t)

    falses_le : a.falses ≤ b.falses
    falses_le = le a.falses b.falses
        (and_r (eqb (bit_and a.trues b.trues) a.trues) (eqb (bit_and a.falses b.falses) a.falses) t)

    pick : T (ltb (a.trues + a.falses) (b.trues + b.falses)) ⊎ T (not (ltb (a.trues + a.falses) (b.trues + b.falses)))
        → a.trues + a.falses < b.trues + b.falses
    pick (inl u) = ltb→lt (a.trues + a.falses) (b.trues + b.falses) u
    pick (inr u) =
        let k : b.trues + b.falses ≤ a.trues + a.falses = nltb→le (a.trues + a.falses) (b.trues + b.falses) u in
        let x : a.trues ≡ b.trues = omega (arith, trues_le, falses_le) in
        let y : a.falses ≡ b.falses = omega (arith, trues_le, falses_le) in
        both (within b a) (subst (λ (z : Literals). T (within b z)) (sym (same_masks x y)) (within_refl b)) f

-- an implicate that has no prime implicate within would be prime
pub exactly_list : (n : ℕ) (worlds : ℕ → Type 0) (s : List Literals) → Antichain s → Exactly n worlds s → PrimeList n worlds s
exactly_list n worlds s a f = record {
  sound = λ c m. ((f c).0 m).implicate;
  complete = λ d i. elim (test (any_of (λ c. within c d) s)) [
    | inl t ↦ some_member (λ c. T (within c d)) s (any_test (λ c. within c d) s t)
    | inr t ↦ absurd (never (suc (d.trues + d.falses)) d (omega arith) i (any_none (λ c. within c d) s t))
  ];
  apart = a;
}
  where
    never : (k : ℕ) (d : Literals) → d.trues + d.falses < k → Implicate n worlds d → All (λ c. T (not (within c d))) s → ⊥
    never zero d h i u = omega arith
    never (suc k) d h i u = both (within d d) (within_refl d) (each_member (λ c. T (not (within c d))) s u d ((f d).1 (prime (never k))))
      where
        prime : ((x : Literals) → x.trues + x.falses < k → Implicate n worlds x → All (λ c. T (not (within c x))) s → ⊥)
            → Prime n worlds d
        prime rec = record {
          implicate = i;
          least = λ x j t. elim (test (within d x)) [
            | inl v ↦ within_equal x d t v
            | inr v ↦ absurd
                (rec x (omega (arith, smaller x d t v)) j
                (all_map (λ c. T (not (within c d))) (λ c. T (not (within c x)))
                (λ c q. not_in (within c x) (λ z. both (within c d) (within_trans c x d z t) q)) s u))
          ];
        }

-- implicates of more worlds hold in fewer, and the same worlds have the same lists
implicate_fewer : {n : ℕ} {v w : ℕ → Type 0} {c : Literals} → ((x : ℕ) → x < 2 ^ n → v x → w x) → Implicate n w c → Implicate n v c
implicate_fewer f i = record { proper = i.proper; sure = λ x h t. i.sure x h (f x h t) }

pub prime_list_same : {n : ℕ} {v w : ℕ → Type 0} {s : List Literals} → ((x : ℕ) → x < 2 ^ n → v x ↔ w x) → PrimeList n v s → PrimeList n w s
prime_list_same f p = record {
  sound = λ c m. implicate_fewer (λ x h. (f x h).1) (p.sound c m);
  complete = λ d i. p.complete d (implicate_fewer (λ x h. (f x h).0) i);
  apart = p.apart;
}

-- ---- one entry, no entry

pub units_prime_list : (n : ℕ) → n ≤ 32 → (e : Literals) → Proper n e → PrimeList n (λ w. T (within e (state n w))) (units e)
unfolding literal contains meets
units_prime_list n b e v = record {
  sound = λ x m.
      (let r = units_member e x m in
      subst (Implicate n (λ w. T (within e (state n w)))) r.2 (one r.0 r.1));
  complete = λ d i. found d (meet_at d e
      (implied_clause n d e (proper_consistent n d i.proper) (proper_consistent n e v) (proper_below n d i.proper)
      (proper_below n e v)
      (λ w h t. T_true _ (i.sure w h (true_T _ t)))));
  apart = units_antichain e;
}
  where
    one : (l : ℕ) → contains e l ≡ true → Implicate n (λ w. T (within e (state n w))) (literal l)
    one l c = record {
      proper = proper_of n (literal l) (consistent_single (sign l) (l / 2))
          (below_within n (literal l) e (within_literal l e ∙ c) (proper_below n e v));
      sure = λ w h t. true_T _ (meet_here (literal l) (state n w) (sign l) (l / 2) (mem_self (sign l) (l / 2))
          (within_of e _ (T_true _ t) (sign l) (l / 2) c));
    }

    found : (d : Literals) → (s : Bool) × (p : ℕ) × (mem d s p ≡ true) × (mem e s p ≡ true)
        → (c : Literals) × Memᴰ c (units e) × T (within c d)
    found d r =
        let c : contains e (byte r.0 r.1) ≡ true = contains_byte e r.0 r.1 ∙ r.3 in
        let k : contains d (byte r.0 r.1) ≡ true = contains_byte d r.0 r.1 ∙ r.2 in (
          literal (byte r.0 r.1),
          member_units e (byte r.0 r.1) (omega (arith, contains_lt n e (proper_below n e v) (byte r.0 r.1) c)) c,
          true_T _ (within_literal (byte r.0 r.1) d ∙ k),
        )

-- no world at all: the empty clause alone
none_prime_list : (n : ℕ) → PrimeList n (λ w. ⊥) (no_literal ∷ [])
none_prime_list n = record {
  sound = λ c m. subst (Implicate n (λ w. ⊥)) (sym (Memᴰ.eq_of_singleton m)) (record {
    proper = proper_of n no_literal (of_consistent no_literal (λ s p k. absurd (nothing s p k))) (below_none n);
    sure = λ w h t. absurd t;
  });
  complete = λ d i. (no_literal, Memᴰ.head refl, true_T _ (of_within no_literal d (λ s p k. absurd (nothing s p k))));
  apart = (tt, tt);
}
  where
    nothing : (s : Bool) (p : ℕ) → mem no_literal s p ≡ true → ⊥
    nothing s p k = true≢false (sym k ∙ mem_none s p)

-- ---- the union of two sets of worlds

-- a joined clause, by the two that it joins
unions_member : (s u : List Literals) (x : Literals) → Memᴰ x (unions s u)
    → (c : Literals) × (l : Literals) × Memᴰ c s × Memᴰ l u × (join c l ≡ x) × T (consistent x)
unfolding unions
unions_member s u x m =
    let k = keep_member consistent (collect (λ c. map (join c) u) s) x m in
    let c = collect_member (λ c. map (join c) u) s x k.0 in
    let l = Memᴰ.of_map (join c.0) u c.2 in
    (c.0, l.0, c.1, l.1, l.2, k.1)

member_unions : (s u : List Literals) (c l : Literals) → Memᴰ c s → Memᴰ l u → T (consistent (join c l))
    → Memᴰ (join c l) (unions s u)
unfolding unions
member_unions s u c l m k t =
    member_keep consistent (collect (λ c. map (join c) u) s) (join c l)
    (member_collect (λ c. map (join c) u) s c (join c l) m (Memᴰ.map (join c) k)) t

-- the clauses of the one joined with those of the other are a list of the union
pub union_prime_list : (cap n : ℕ) (v u : ℕ → Type 0) (s t r : List Literals) → PrimeList n v s → PrimeList n u t
    → put_all cap (unions s t) [] ≡ some r → PrimeList n (λ w. v w ⊎ u w) r
union_prime_list cap n v u s t r p q e = record {
  sound = λ x m. added x (put_from cap (unions s t) r e x m);
  complete = λ d i. least d i (p.complete d (implicate_fewer (λ w h k. inl k) i)) (q.complete d (implicate_fewer (λ w h k. inr k) i));
  apart = put_all_antichain cap (unions s t) [] r e tt;
}
  where
    either : (c l : Literals) (w : ℕ) → Implicate n v c → Implicate n u l → w < 2 ^ n → v w ⊎ u w → T (meets (join c l) (state n w))
    either c l w i j h (inl k) = meets_more c (join c l) (state n w) (within_join_l c l) (i.sure w h k)
    either c l w i j h (inr k) = meets_more l (join c l) (state n w) (within_join_r c l) (j.sure w h k)

    added : (x : Literals) → Memᴰ x (unions s t) → Implicate n (λ w. v w ⊎ u w) x
    added x m =
        let c = unions_member s t x m in
        let i = p.sound c.0 c.2 in
        let j = q.sound c.1 c.3 in
        subst (Implicate n (λ w. v w ⊎ u w)) c.4 (record {
          proper = proper_join n c.0 c.1 i.proper j.proper (subst (λ (z : Literals). T (consistent z)) (sym c.4) c.5);
          sure = λ w h k. either c.0 c.1 w i j h k;
        })

    least : (d : Literals) → Implicate n (λ w. v w ⊎ u w) d → (c : Literals) × Memᴰ c s × T (within c d)
        → (l : Literals) × Memᴰ l t × T (within l d) → (x : Literals) × Memᴰ x r × T (within x d)
    least d i c l =
        let x = join c.0 l.0 in
        let j : T (within x d) = join_within c.0 l.0 d c.2 l.2 in
        let y = put_covers cap (unions s t) r e x (member_unions s t c.0 l.0 c.1 l.1
        (true_T (consistent x) (consistent_within x d (T_true (within x d) j) (proper_consistent n d i.proper)))) in
        (y.0, y.1, within_trans y.0 x d y.2 j)

-- ---- the fold

pub fold_prime_list : (cap n : ℕ) → n ≤ 32 → (worlds : ℕ → Type 0) (s es r : List Literals) → All (Proper n) es → PrimeList n worlds s
    → fold cap s es ≡ some r → PrimeList n (λ w. worlds w ⊎ In n es w) r
unfolding fold
fold_prime_list cap n b worlds s [] r v p e =
    let q : s ≡ r = cc in
    prime_list_same (λ w h. (λ k. inl k, λ k. elim k [ inl a ↦ a | inr a ↦ absurd a ])) (subst (PrimeList n worlds) q p)
fold_prime_list cap n b worlds s (x ∷ es) r v p e =
    let k = then_some (put_all cap (unions s (units x)) []) (λ q. fold cap q es) r e in
    let q = union_prime_list cap n worlds (λ w. T (within x (state n w))) s (units x) k.0 p (units_prime_list n b x v.0) k.1 in
    prime_list_same (λ w h. (regroup w, group w))
    (fold_prime_list cap n b (λ w. worlds w ⊎ T (within x (state n w))) k.0 es r v.1 q k.2)
  where
    regroup : (w : ℕ) → (worlds w ⊎ T (within x (state n w))) ⊎ In n es w → worlds w ⊎ In n (x ∷ es) w
    regroup w (inl (inl a)) = inl a
    regroup w (inl (inr a)) = inr (inl a)
    regroup w (inr a) = inr (inr a)

    group : (w : ℕ) → worlds w ⊎ In n (x ∷ es) w → (worlds w ⊎ T (within x (state n w))) ⊎ In n es w
    group w (inl a) = inl (inl a)
    group w (inr (inl a)) = inl (inr a)
    group w (inr (inr a)) = inr a

fold_length : (cap : ℕ) (s es r : List Literals) → length s ≤ cap → fold cap s es ≡ some r → length r ≤ cap
unfolding fold
fold_length cap s [] r h e = let q : s ≡ r = cc in omega (arith, ap length q)
fold_length cap s (x ∷ es) r h e =
    let k = then_some (put_all cap (unions s (units x)) []) (λ q. fold cap q es) r e in
    fold_length cap k.0 es r (put_all_size cap (unions s (units x)) [] k.0 k.1 (omega arith)) k.2

-- a fold that is never full lists the prime implicates of the table's worlds, at most cap of them
pub primes_prime_list : (cap n : ℕ) → n ≤ 32 → (t s : List Literals) → All (Proper n) t → primes cap t ≡ some s → PrimeList n (In n t) s
unfolding primes
primes_prime_list cap n b [] s v e = let q : no_literal ∷ [] ≡ s = cc in subst (PrimeList n (λ w. ⊥)) q (none_prime_list n)
primes_prime_list cap n b (x ∷ es) s v e =
    fold_prime_list cap n b (λ w. T (within x (state n w))) (units x) es s v.1 (units_prime_list n b x v.0) e

pub primes_length : (cap : ℕ) → 64 ≤ cap → (t s : List Literals) → primes cap t ≡ some s → length s ≤ cap
unfolding primes
primes_length cap h [] s e = let q : no_literal ∷ [] ≡ s = cc in omega (arith, ap length q)
primes_length cap h (x ∷ es) s e = fold_length cap (units x) es s (omega (arith, units_length x)) e

-- ---- back to the worlds

-- a world is outside where the clause that fails in it alone is an implicate
pub clauses_world : (n : ℕ) (worlds : ℕ → Type 0) (s : List Literals) → PrimeList n worlds s → (w : ℕ) → w < 2 ^ n
    → worlds w ⊎ (worlds w → ⊥) → All (λ c. T (meets c (state n w))) s → worlds w
clauses_world n worlds s p w h (inl k) f = k
clauses_world n worlds s p w h (inr g) f =
    let r = p.complete (flip (state n w)) (record {
      proper = opposite_proper n w h;
      sure = λ v k u. opposite_holds n w h v k (λ e. g (subst worlds (sym e) u));
    }) in
    absurd (opposite_fails n w h
    (meets_more r.0 (flip (state n w)) (state n w) r.2 (each_member (λ c. T (meets c (state n w))) s f r.0 r.1)))

pub in_or_not : (n : ℕ) (t : List Literals) (w : ℕ) → In n t w ⊎ (In n t w → ⊥)
in_or_not n t w = elim (test (any_of (λ e. within e (state n w)) t)) [
  | inl a ↦ inl (any_test (λ e. within e (state n w)) t a)
  | inr a ↦ inr (any_out (λ e. T (not (within e (state n w)))) (λ e. T (within e (state n w))) (λ e f g. both (within e (state n w)) g f) t
      (any_none (λ e. within e (state n w)) t a))
]
