-- What is carried down where a piece is split, one condition after the other: the results of the conditions that were passed. For
-- `steps::skip_decided`, `steps::split`, `steps::branch` and `steps::branch_all`. Assumes nothing.
use mathlib.Core.Path.{◌≡◌, refl, sym, ap, ap₂, ◌∙◌}
use mathlib.Core.Bool.{Bool, true, false, not, ◌||◌, and-eq-true_iff, true≢false}
use mathlib.Core.List.{List, [], ◌∷◌, ◌++◌, map, append-nil}
use Prim.Native.Nat.{ℕ, zero, suc, ◌+◌, ◌/◌, ◌<◌, ◌≤◌}
use native.Mathlib.Numerals.{add-one}
use native.Mathlib.Omega.{arith}
use borrow.Author.Tests.{not-true}
use lib.ListN.{length, get_or, take, drop, take-append-drop, drop_of_length-le}
use Rattle.std.proofs.lemmas.List.{drop_more, take_more}
use Rattle.std.specs.Prelude.{Result}
use Rattle.sheet.specs.declared.Literals.{Literals}
use Rattle.sheet.specs.declared.Effect.{Effect}
use Rattle.sheet.specs.Literals.{no_literal, mem, within, clash, consistent, join, flip, replace, single, sign, literal, contains}
use Rattle.sheet.proofs.laws.base.ListFacts.{all_at}
use lib.Dec.{T}
use Rattle.sheet.proofs.laws.base.Bools.{T_true, true_T, or_right, not_twice}
use Rattle.sheet.proofs.laws.literals.LiteralSets.{within_of, within_refl, within_trans, within_join_l, within_join_r, join_comm, join_assoc, clash_here, clash_sym, clash_within, clash_single, consistent_clash, consistent_join, consistent_single, mem_self}
use Rattle.sheet.proofs.laws.literals.LiteralBytes.{next_found}
use Rattle.sheet.proofs.laws.literals.ProperSets.{flip_literal}
use Rattle.table.specs.Worlds.{add_result, results}
use Rattle.table.specs.Step.{pieces, image}
use Rattle.table.specs.declared.slots.Full.{Full}
use Rattle.table.specs.declared.steps.Undecided.{Undecided}
use Rattle.table.specs.inner.Puts.{Puts}
use Rattle.table.specs.inner.Carry.{Steady, Carried, Splits, Skips, SplitFits, part_at, carried_at}
use Rattle.sheet.specs.inner.Masks.{minus}
use Rattle.sheet.specs.inner.Packed.{no_effect}
use Rattle.table.proofs.laws.slots.Putting.{puts_is}
use Rattle.table.proofs.laws.starts.LackedLiterals.{contains_lacks}
use Rattle.table.proofs.laws.steps.PieceWalk.{Turn, parts_from, parts_start, at_leaf, at_whole}

-- ---- the results of one effect more
swapped : (a b : Bool) (r s t : Literals) → add_result a r (add_result b s t) ≡ add_result b s (add_result a r t)
swapped true true r s t = sym (join_assoc r s t) ∙ ap (λ (x : Literals). join x t) (join_comm r s) ∙ join_assoc s r t
swapped true false r s t = refl
swapped false b r s t = refl

results_more : (es : List Effect) (e : Effect) (q : Literals)
    → results (es ++ e ∷ []) q ≡ add_result (within e.condition q) e.result (results es q)
results_more [] e q = refl
results_more (f ∷ es) e q =
    ap (add_result (within f.condition q) f.result) (results_more es e q)
    ∙ swapped (within f.condition q) (within e.condition q) f.result e.result (results es q)

-- a consistent set contains nothing that clashes with a part of it
outside : (c p q : Literals) → clash c p ≡ true → consistent q ≡ true → within p q ≡ true → within c q ≡ false
outside c p q k s w = go (within c q) refl
  where
    go : (b : Bool) → within c q ≡ b → within c q ≡ false
    go false e = e
    go true e =
        absurd (true≢false (sym s ∙ consistent_clash q
        ∙ ap not (clash_within p q q w (clash_sym p q ∙ clash_within c q p e k))))

-- no effect was passed
pub carried_start : (es : List Effect) (d : Literals) → Steady es → consistent d ≡ true → Carried es 0 d (record { trues = 0; falses = 0 })
unfolding no_literal
carried_start es d h s = record { piece_steady = s; steady = h; sum_is = λ q t k. refl }

-- ---- past the effect at i, to a piece p that contains the piece d
module _ (es : List Effect) (i : ℕ) (e : Effect) (lt : i < length es) (is : e ≡ get_or es i no_effect) (d sum : Literals)
    (c : Carried es i d sum) where
  here : drop i es ≡ e ∷ drop (i + 1) es
  here = rw is (drop_more es i no_effect lt)

  past : (b : Bool) (p : Literals) → consistent p ≡ true → T (within d p)
      → ((q : Literals) → consistent q ≡ true → within p q ≡ true → within e.condition q ≡ b)
      → Carried es (i + 1) p (add_result b e.result sum)
  past b p s w f =
      record {
        piece_steady = s;
        steady = c.steady;
        sum_is = λ q t k.
            ap (λ (x : List Effect). results x q) (take_more es i no_effect lt ∙ ap (λ (x : Effect). take i es ++ x ∷ []) (sym is))
            ∙ results_more (take i es) e q
            ∙ ap₂ (λ (x : Bool) (r : Literals). add_result x e.result r) (f q t k)
            (c.sum_is q t (T_true (within d q) (within_trans d p q w (true_T (within p q) k))));
      }

  -- the condition lies in the piece
  past_within : within e.condition d ≡ true → Carried es (i + 1) d (join e.result sum)
  past_within h = past true d c.piece_steady (within_refl d)
      (λ q t k. T_true (within e.condition q)
      (within_trans e.condition d q (true_T (within e.condition d) h) (true_T (within d q) k)))

  -- it contradicts the piece
  past_clash : clash e.condition d ≡ true → Carried es (i + 1) d sum
  past_clash h = past false d c.piece_steady (within_refl d) (λ q t k. outside e.condition d q h t k)

  condition_steady : consistent e.condition ≡ true
  condition_steady = rw is (all_at (λ e. consistent e.condition ≡ true) es i no_effect lt c.steady)

  -- the piece is joined with the whole condition
  past_joined : clash e.condition d ≡ false → (w more : Literals) → w ≡ join d e.condition → more ≡ join e.result sum
      → Carried es (i + 1) w more
  past_joined h w more p m =
      rw (p, m)
      (past true (join d e.condition)
      (consistent_join d e.condition ∙ rw (c.piece_steady, condition_steady, clash_sym d e.condition, h))
      (within_join_l d e.condition)
      (λ q t k.
      T_true (within e.condition q)
      (within_trans e.condition (join d e.condition) q (within_join_r d e.condition)
      (true_T (within (join d e.condition) q) k))))

  -- it is joined with the complement of a literal of the condition that it lacks
  past_denied : (s : Bool) (p : ℕ) → mem e.condition s p ≡ true → mem d s p ≡ false → Carried es (i + 1) (join d (single (not s) p)) sum
  past_denied s p h n =
      past false (join d (single (not s) p))
      (consistent_join d (single (not s) p)
      ∙ rw (c.piece_steady, consistent_single (not s) p, clash_sym d (single (not s) p), clash_single (not s) p d, not_twice s, n))
      (within_join_l d (single (not s) p))
      (λ q t k. outside e.condition (join d (single (not s) p)) q
      (clash_here e.condition (join d (single (not s) p)) s p h
      (within_of _ _ (T_true (within (single (not s) p) (join d (single (not s) p))) (within_join_r d (single (not s) p))) (not s) p
      (mem_self (not s) p))) t k)

  past_without : (l : ℕ) → contains e.condition l ≡ true → contains d l ≡ false → Carried es (i + 1) (join d (flip (literal l))) sum
  unfolding contains
  past_without l h n = rw flip_literal (past_denied (sign l) (l / 2) h n)

  -- it becomes part t, where it lacks the literals m of the condition
  pub past_part : (m : Literals) → m ≡ minus e.condition d → clash e.condition d ≡ false → (t : ℕ) → t < 65 → Turn m t
      → (w more : Literals)
      → w ≡ part_at d e.condition t → more ≡ carried_at sum e.result t → Carried es (i + 1) w more
  unfolding part_at carried_at
  past_part m q k zero h f w more p r = past_joined k w more p r
  past_part m q k (suc l) h f w more p r =
      let a = f l (sym (add-one l)) in
      let found : contains m l ≡ true = ap (contains m) (sym a) ∙ next_found m l (rw a (omega (arith, h))) in
      let both = (and-eq-true_iff _ _).0 (sym (contains_lacks e.condition d l) ∙ ap (λ (x : Literals). contains x l) (sym q) ∙ found) in
      rw (p, r) (past_without l both.0 (not-true _ both.1))

-- ---- a piece that the effect e, the one at u, splits; it lacks the literals m of its condition
module _ {es : List Effect} {u : Undecided} {d : Literals} (f : SplitFits es u d) {e : Effect} (is : e ≡ get_or es u.at no_effect)
    {m : Literals} (q : m ≡ minus e.condition d) where
  splits : Splits e.condition d
  splits = rw is f.splits

  -- what becomes of it, by all parts
  pub split_parts : map (image es) (pieces (drop u.at es) d) ≡ parts_from es (drop (u.at + 1) es) e.condition d m 0
  split_parts =
      parts_start es (drop u.at es) (drop (u.at + 1) es) e d (here es u.at e f.below is d u.results f.carried) m
      (rw (splits.lacking, splits.apart)) q

  -- what is carried into part t
  pub split_carried : {t : ℕ} → t < 65 → Turn m t → {w more : Literals} → w ≡ part_at d e.condition t
      → more ≡ carried_at u.results e.result t → Carried es (u.at + 1) w more
  split_carried {t} h g {w} {more} p r = past_part es u.at e f.below is d u.results f.carried m q splits.apart t h g w more p r

-- ---- a walk from `at` on that left the piece whole
pub settles_start : (es : List Effect) (at : ℕ) (d sum : Literals) → Carried es at d sum → Skips es at d (record { at = at; results = sum })
settles_start es at d sum c = record { upto = omega arith; carried = c; whole = refl }

module _ (es : List Effect) (at : ℕ) (d : Literals) (r : Undecided) (g : Skips es at d r) where
  pub settles_puts : {cap : ℕ} {xs us : List Literals} {o : Result Unit Full}
      → Puts cap (map (image es) (pieces (drop r.at es) d)) xs o us
      → Puts cap (map (image es) (pieces (drop at es) d)) xs o us
  settles_puts w = puts_is (ap (map (image es)) g.whole) w

  -- no effect is left
  pub settles_leaf : length es ≤ r.at → (w : Literals) → w ≡ replace d r.results
      → {cap : ℕ} {xs us : List Literals} {o : Result Unit Full}
      → Puts cap (w ∷ []) xs o us → Puts cap (map (image es) (pieces (drop at es) d)) xs o us
  unfolding image
  settles_leaf h w e p =
      settles_puts (puts_is (ap (λ (x : Literals). x ∷ []) (e ∙ ap (replace d) (sym last)) ∙ at_leaf es (drop r.at es) d q) p)
    where
      q : drop r.at es ≡ []
      q = drop_of_length-le es {i = r.at} h

      all : take r.at es ≡ es
      all = sym (append-nil (take r.at es)) ∙ ap (λ (x : List Effect). take r.at es ++ x) (sym q) ∙ take-append-drop r.at es

      last : results es d ≡ r.results
      last = ap (λ (x : List Effect). results x d) (sym all)
          ∙ g.carried.sum_is d g.carried.piece_steady (T_true (within d d) (within_refl d))

  module _ (e : Effect) (lt : r.at < length es) (is : e ≡ get_or es r.at no_effect) where
    on : (more : Literals) → (within e.condition d || clash e.condition d) ≡ true → Carried es (r.at + 1) d more
        → Skips es at d (record { at = r.at + 1; results = more })
    on more t c =
        record {
          upto = omega (arith, g.upto);
          carried = c;
          whole = at_whole es (drop r.at es) (drop (r.at + 1) es) e d (here es r.at e lt is d r.results g.carried) t ∙ g.whole;
        }

    pub on_within : (more : Literals) → within e.condition d ≡ true → more ≡ join e.result r.results
        → Skips es at d (record { at = r.at + 1; results = more })
    on_within more h m = on more (rw h) (rw m (past_within es r.at e lt is d r.results g.carried h))

    pub on_clash : (more : Literals) → clash e.condition d ≡ true → more ≡ r.results
        → Skips es at d (record { at = r.at + 1; results = more })
    on_clash more h m =
        on more (or_right (within e.condition d) (clash e.condition d) h) (rw m (past_clash es r.at e lt is d r.results g.carried h))
