-- The candidates of a clause: their worlds are the entry's worlds that meet the clause. For TH2 (`starts/StartWorlds`). Assumes nothing.
use mathlib.Core.Path.{◌≡◌, refl, sym, subst, ap, ◌∙◌}
use mathlib.Core.Bool.{Bool, true, false, not}
use mathlib.Core.List.{List, [], ◌∷◌, ◌++◌}
use mathlib.Core.Logic.{inl, inr}
use Prim.Native.Nat.{ℕ, suc, ◌/◌, ◌^◌, ◌≤◌, ◌<◌}
use native.Mathlib.Omega.{arith}
use lib.Dec.{T}
use Rattle.sheet.specs.declared.Literals.{Literals}
use Rattle.sheet.specs.Literals.{within, join, flip, single, sign, literal, contains, state, below, members, Proper}
use Rattle.sheet.specs.Lists.{Any, All}
use Rattle.sheet.proofs.laws.base.Bools.{T_true, T_false, true_T, false_T, and_true}
use Rattle.sheet.proofs.laws.base.ListFacts.{any_map, all_map, any_with, any_out, all_append, all_parts, any_image, any_imaged, all_imaged, any_collect, any_collected, all_collected}
use Rattle.sheet.proofs.laws.literals.LiteralSets.{within_single, below_of, below_join, below_single, proper_below, within_trans, within_join_l, within_join_r}
use Rattle.sheet.proofs.laws.literals.Worlds.{fails_at, fails_here}
use Rattle.sheet.proofs.laws.literals.ProperSets.{join_within, members_all, members_any, flip_literal, flip_byte}
use Rattle.table.specs.Worlds.{add_one, how_many}
use Rattle.table.specs.Minimal.{In}
use Rattle.table.specs.Start.{Clause, or_of, one_of, falsify, Pick, picks, candidates}

-- ---- what a clause says of a world
abbrev pub Meets : ℕ → Clause → ℕ → Type 0
Meets n (or_of alts) w = Any (λ a. T (within a (state n w))) alts
Meets n (one_of alts) w = how_many (λ a. within a (state n w)) alts ≡ 1

-- its alternatives are proper
abbrev pub Alternatives : ℕ → Clause → Type 0
Alternatives n (or_of alts) = All (Proper n) alts
Alternatives n (one_of alts) = All (Proper n) alts

-- what holds beside any member
first_of : {A : Type 0} (X : Type 0) (P : A → Type 0) (xs : List A) → Any (λ x. X × P x) xs → X × Any P xs
first_of X P [] h = absurd h
first_of X P (x ∷ xs) (inl h) = (h.0, inl h.1)
first_of X P (x ∷ xs) (inr h) = let r = first_of X P xs h in (r.0, inr r.1)

-- ---- counting
none_counted : {A : Type 0} (f : A → Bool) (xs : List A) → how_many f xs ≡ 0 → All (λ x. T (not (f x))) xs
none_counted f [] e = tt
none_counted f (x ∷ xs) e = go (f x) refl e (none_counted f xs)
  where
    go : (b : Bool) → f x ≡ b → add_one b (how_many f xs) ≡ 0 → (how_many f xs ≡ 0 → All (λ y. T (not (f y))) xs)
        → All (λ y. T (not (f y))) (x ∷ xs)
    go true e h k = absurd (omega arith)
    go false e h k = (false_T (f x) e, k h)

counted_none : {A : Type 0} (f : A → Bool) (xs : List A) → All (λ x. T (not (f x))) xs → how_many f xs ≡ 0
counted_none f [] h = refl
counted_none f (x ∷ xs) h = ap (λ (b : Bool). add_one b (how_many f xs)) (T_false (f x) h.0) ∙ counted_none f xs h.1

-- one alternative passes the test and the others do not
abbrev Single : (Literals → Bool) → Pick → Type 0
Single f k = T (f k.chosen) × All (λ o. T (not (f o))) k.rest

pick_one : (f : Literals → Bool) (before alts : List Literals) → Any (Single f) (picks before alts) → All (λ o. T (not (f o))) before
    × (how_many f alts ≡ 1)
pick_one f before [] h = absurd h
pick_one f before (a ∷ alts) (inl h) =
    let r = all_parts (λ o. T (not (f o))) before alts h.1 in
    (r.0, ap (λ (b : Bool). add_one b (how_many f alts)) (T_true (f a) h.0) ∙ ap suc (counted_none f alts r.1))
pick_one f before (a ∷ alts) (inr h) =
    let r = pick_one f (before ++ (a ∷ [])) alts h in
    let q = all_parts (λ o. T (not (f o))) before (a ∷ []) r.0 in
    (q.0, ap (λ (b : Bool). add_one b (how_many f alts)) (T_false (f a) q.1.0) ∙ r.1)

one_pick : (f : Literals → Bool) (before alts : List Literals) → All (λ o. T (not (f o))) before → how_many f alts ≡ 1
    → Any (Single f) (picks before alts)
one_pick f before [] h e = absurd (omega arith)
one_pick f before (a ∷ alts) h e = go (f a) refl e (one_pick f (before ++ (a ∷ [])) alts)
  where
    go : (b : Bool) → f a ≡ b → add_one b (how_many f alts) ≡ 1
        → (All (λ o. T (not (f o))) (before ++ (a ∷ [])) → how_many f alts ≡ 1 → Any (Single f) (picks (before ++ (a ∷ [])) alts))
        → Any (Single f) (picks before (a ∷ alts))
    go true e c k = inl (true_T (f a) e, all_append (λ o. T (not (f o))) before alts h (none_counted f alts (omega arith)))
    go false e c k = inr (k (all_append (λ o. T (not (f o))) before (a ∷ []) h (false_T (f a) e, tt)) c)

picks_all : (P : Literals → Type 0) (before alts : List Literals) → All P before → All P alts
    → All (λ k. P k.chosen × All P k.rest) (picks before alts)
picks_all P before [] h k = tt
picks_all P before (a ∷ alts) h k =
    ((k.0, all_append P before alts h k.1), picks_all P (before ++ (a ∷ [])) alts (all_append P before (a ∷ []) h (k.0, tt)) k.1)

module _ (n : ℕ) where
  -- ---- no proposition at n or above
  abbrev pub Low : Literals → Type 0
  Low d = below n d ≡ true

  join_low : (a b : Literals) → Low a → Low b → Low (join a b)
  join_low a b ha hb = below_join n a b ∙ and_true (below n a) (below n b) ha hb

  flip_low : (o : Literals) (l : ℕ) → Proper n o → contains o l ≡ true → Low (flip (literal l))
  unfolding contains
  flip_low o l ho e = rw flip_literal (below_single n (not (sign l)) (l / 2) (below_of n o (proper_below n o ho) (sign l) (l / 2) e))

  falsify_low : (os : List Literals) → All (Proper n) os → (d : Literals) → Low d → All Low (falsify os d)
  falsify_low [] ho d h = (h, tt)
  falsify_low (o ∷ os) ho d h =
      all_collected (λ l. falsify os (join d (flip (literal l)))) Low (members o 0)
      (all_map (λ l. contains o l ≡ true) (λ l. All Low (falsify os (join d (flip (literal l)))))
      (λ l k. falsify_low os ho.1 (join d (flip (literal l))) (join_low d (flip (literal l)) h (flip_low o l ho.0 k)))
      (members o 0) (members_all o))

  pub candidates_low : (c : Clause) → Alternatives n c → (d : Literals) → Low d → All Low (candidates c d)
  candidates_low (or_of alts) hc d h =
      all_imaged (λ a. join d a) Low alts (all_map (Proper n) (λ a. Low (join d a)) (λ a k. join_low d a h (proper_below n a k)) alts hc)
  candidates_low (one_of alts) hc d h =
      all_collected (λ k. falsify k.rest (join d k.chosen)) Low (picks [] alts)
      (all_map (λ k. Proper n k.chosen × All (Proper n) k.rest) (λ k. All Low (falsify k.rest (join d k.chosen)))
      (λ k q. falsify_low k.rest q.1 (join d k.chosen) (join_low d k.chosen h (proper_below n k.chosen q.0)))
      (picks [] alts) (picks_all (Proper n) [] alts tt hc))

  -- ---- the worlds
  module _ (w : ℕ) (b : w < 2 ^ n) where
    abbrev st : Literals
    st = state n w

    -- a conjunction fails in the world exactly if the complement of one of its literals holds
    fails_some : n ≤ 32 → (o : Literals) → Proper n o → T (not (within o st)) → Any (λ l. T (within (flip (literal l)) st)) (members o 0)
    fails_some hn o ho h =
        let r = fails_at n w b o (proper_below n o ho) (T_false (within o st) h) in
        members_any n hn o ho (λ l. T (within (flip (literal l)) st)) r.0 r.1 r.2
        (subst (λ (x : Literals). T (within x st)) (sym (flip_byte r.0 r.1))
        (true_T (within (single (not r.0) r.1) st) (within_single (not r.0) r.1 st ∙ r.3)))

    some_fails : (o : Literals) (l : ℕ) → contains o l ≡ true → T (within (flip (literal l)) st) → T (not (within o st))
    unfolding contains
    some_fails o l h k =
        false_T (within o st)
        (fails_here n w b o (sign l) (l / 2) h
        (sym (within_single (not (sign l)) (l / 2) st) ∙ ap (λ (x : Literals). within x st) (sym (flip_literal l))
        ∙ T_true (within (flip (literal l)) st) k))

    falsify_in : n ≤ 32 → (os : List Literals) → All (Proper n) os → (d : Literals) → T (within d st) → All (λ o. T (not (within o st))) os
        → In n (falsify os d) w
    falsify_in hn [] ho d h k = inl h
    falsify_in hn (o ∷ os) ho d h k =
        any_collected (λ l. falsify os (join d (flip (literal l)))) (λ q. T (within q st)) (members o 0)
        (any_map (λ l. T (within (flip (literal l)) st)) (λ l. In n (falsify os (join d (flip (literal l)))) w)
        (λ l m. falsify_in hn os ho.1 (join d (flip (literal l))) (join_within d (flip (literal l)) st h m) k.1)
        (members o 0) (fails_some hn o ho.0 k.0))

    falsify_out : (os : List Literals) (d : Literals) → In n (falsify os d) w → T (within d st) × All (λ o. T (not (within o st))) os
    falsify_out [] d (inl h) = (h, tt)
    falsify_out [] d (inr h) = absurd h
    falsify_out (o ∷ os) d i =
        any_out (λ l. contains o l ≡ true) (λ l. In n (falsify os (join d (flip (literal l)))) w)
        (λ l k j.
        let r = falsify_out os (join d (flip (literal l))) j in (
          within_trans d (join d (flip (literal l))) st (within_join_l d (flip (literal l))) r.0,
          (
            some_fails o l k (within_trans (flip (literal l)) (join d (flip (literal l))) st (within_join_r d (flip (literal l))) r.0),
            r.1,
          ),
        ))
        (members o 0) (members_all o)
        (any_collect (λ l. falsify os (join d (flip (literal l)))) (λ q. T (within q st)) (members o 0) i)

    pub candidates_in : n ≤ 32 → (c : Clause) → Alternatives n c → (d : Literals) → T (within d st) → Meets n c w → In n (candidates c d) w
    candidates_in hn (or_of alts) hc d h k =
        any_imaged (λ a. join d a) (λ q. T (within q st)) alts
        (any_map (λ a. T (within a st)) (λ a. T (within (join d a) st)) (λ a m. join_within d a st h m) alts k)
    candidates_in hn (one_of alts) hc d h k =
        any_collected (λ q. falsify q.rest (join d q.chosen)) (λ q. T (within q st)) (picks [] alts)
        (any_with (λ q. Proper n q.chosen × All (Proper n) q.rest) (Single (λ a. within a st))
        (λ q. In n (falsify q.rest (join d q.chosen)) w)
        (λ q m s. falsify_in hn q.rest m.1 (join d q.chosen) (join_within d q.chosen st h s.0) s.1)
        (picks [] alts) (picks_all (Proper n) [] alts tt hc) (one_pick (λ a. within a st) [] alts tt k))

    -- and-true parts of what holds where d and a are joined
    apart_in : (d a : Literals) → T (within (join d a) st) → T (within d st) × T (within a st)
    apart_in d a h = (within_trans d (join d a) st (within_join_l d a) h, within_trans a (join d a) st (within_join_r d a) h)

    pub candidates_out : (c : Clause) → (d : Literals) → In n (candidates c d) w → T (within d st) × Meets n c w
    candidates_out (or_of alts) d i =
        first_of (T (within d st)) (λ a. T (within a st)) alts
        (any_map (λ a. T (within (join d a) st)) (λ a. T (within d st) × T (within a st)) (λ a h. apart_in d a h) alts
        (any_image (λ a. join d a) (λ q. T (within q st)) alts i))
    candidates_out (one_of alts) d i =
        let r = first_of (T (within d st)) (Single (λ a. within a st)) (picks [] alts)
        (any_map (λ q. In n (falsify q.rest (join d q.chosen)) w) (λ q. T (within d st) × Single (λ a. within a st) q)
        (λ q j.
        let f = falsify_out q.rest (join d q.chosen) j in
        let g = apart_in d q.chosen f.0 in
        (g.0, (g.1, f.1)))
        (picks [] alts) (any_collect (λ q. falsify q.rest (join d q.chosen)) (λ q. T (within q st)) (picks [] alts) i)) in
        (r.0, (pick_one (λ a. within a st) [] alts r.1).1)
