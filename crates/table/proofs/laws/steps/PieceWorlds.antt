-- The pieces of an entry: the same worlds, each piece proper, each condition decided. For TH3 (`steps/StepWorlds`) and
-- `steps/OpposedPairs`. Assumes nothing.
use mathlib.Core.Path.{◌≡◌, refl, sym, subst, ap₂, ◌∙◌}
use mathlib.Core.Bool.{Bool, true, false, not, ◌||◌}
use mathlib.Core.List.{List, [], ◌∷◌}
use mathlib.Core.Logic.{◌⊎◌, inl, inr}
use Prim.Native.Nat.{ℕ, ◌/◌, ◌^◌, ◌≤◌, ◌<◌}
use lib.Dec.{T}
use Rattle.sheet.specs.declared.Literals.{Literals}
use Rattle.sheet.specs.declared.Effect.{Effect}
use Rattle.sheet.specs.Literals.{mem, within, clash, join, flip, single, sign, literal, contains, state, members, Proper}
use Rattle.sheet.specs.inner.Masks.{byte}
use Rattle.sheet.specs.Lists.{All}
use Rattle.sheet.specs.Encoding.{ProperEffect}
use Rattle.sheet.proofs.laws.base.Bools.{test, both, T_true, T_false, true_T, false_T, T-ext, or_out, or_not_r}
use Rattle.sheet.proofs.laws.base.ListFacts.{all_map, any_with, any_out, all_keep, any_imaged, all_imaged, any_collected, all_collected}
use Rattle.sheet.proofs.laws.literals.LiteralSets.{within_of, mem_self, clash_at, clash_here, clash_sym, clash_within, below_of, proper_below, within_refl, within_trans, within_join_l, within_join_r}
use Rattle.sheet.proofs.laws.literals.Worlds.{fails_here, split_world}
use Rattle.sheet.proofs.laws.literals.LiteralBytes.{contains_byte}
use Rattle.sheet.proofs.laws.base.ListMembers.{any_passed}
use Rattle.sheet.proofs.laws.literals.ProperSets.{join_within, join_proper, deny_proper, members_all, members_any, flip_literal, flip_byte}
use Rattle.table.specs.Worlds.{add_result, results}
use Rattle.table.specs.Minimal.{In}
use Rattle.table.specs.Step.{missing, split_by, split, pieces}

-- the condition lies in q or contradicts it
abbrev pub Decides : Literals → Literals → Type 0
Decides c q = T (within c q) ⊎ T (clash c q)

-- what is true of each member of `split c d`
pub record Piece (n : ℕ) (c d q : Literals) : Type 0 where
  pub proper : Proper n q
  pub over : T (within d q)
  pub decided : Decides c q

-- what is true of each member of `pieces es d`
pub record Part (n : ℕ) (es : List Effect) (d q : Literals) : Type 0 where
  pub proper : Proper n q
  pub over : T (within d q)
  pub decided : All (λ e. Decides e.condition q) es

-- ---- one split
module _ (n : ℕ) (c d : Literals) (hc : Proper n c) (hd : Proper n d) where
  piece_of : (l : ℕ) → contains c l ≡ true → T (not (contains d l)) → Piece n c d (join d (flip (literal l)))
  unfolding contains
  piece_of l h k =
      subst (λ (x : Literals). Piece n c d (join d x)) (sym (flip_literal l))
      (record {
        proper = deny_proper n d (sign l) (l / 2) hd (below_of n c (proper_below n c hc) (sign l) (l / 2) h)
            (T_false (mem d (sign l) (l / 2)) k);
        over = within_join_l d (single (not (sign l)) (l / 2));
        decided = inr (true_T (clash c (join d (single (not (sign l)) (l / 2))))
            (clash_here c (join d (single (not (sign l)) (l / 2))) (sign l) (l / 2) h
            (within_of _ _ (T_true (within (single (not (sign l)) (l / 2)) (join d (single (not (sign l)) (l / 2))))
            (within_join_r d (single (not (sign l)) (l / 2)))) (not (sign l)) (l / 2) (mem_self (not (sign l)) (l / 2)))));
      })

  pub split_pieces : All (Piece n c d) (split c d)
  unfolding split missing
  split_pieces = go (within c d || clash c d) refl
    where
      go : (b : Bool) → (within c d || clash c d) ≡ b → All (Piece n c d) (split_by b c d)
      go true e = (
        record {
          proper = hd;
          over = within_refl d;
          decided = or_out (within c d) (clash c d) (true_T (within c d || clash c d) e);
        },
        tt,
      )
      go false e = (
        record {
          proper = join_proper n d c hd hc (or_not_r (within c d) (clash c d) (false_T (within c d || clash c d) e));
          over = within_join_l d c;
          decided = inl (within_join_r d c);
        },
        all_imaged (λ l. join d (flip (literal l))) (Piece n c d) (missing c d)
            (all_map (λ l. (contains c l ≡ true) × T (not (contains d l))) (λ l. Piece n c d (join d (flip (literal l))))
            (λ l h. piece_of l h.0 h.1) (missing c d)
            (all_keep (λ l. not (contains d l)) (λ l. contains c l ≡ true) (members c 0) (members_all c))),
      )

  pub split_in : n ≤ 32 → (w : ℕ) → w < 2 ^ n → T (within d (state n w)) → In n (split c d) w
  unfolding split missing
  split_in hn w b h = go (within c d || clash c d)
    where
      go : (x : Bool) → In n (split_by x c d) w
      go true = inl h
      go false = part (test (within c (state n w)))
        where
          part : T (within c (state n w)) ⊎ T (not (within c (state n w))) → In n (split_by false c d) w
          part (inl y) = inl (join_within d c (state n w) h y)
          part (inr z) =
              let r = split_world n w b c d (proper_below n c hc) (T_true (within d (state n w)) h) (T_false (within c (state n w)) z) in
              inr (any_imaged (λ l. join d (flip (literal l))) (λ q. T (within q (state n w))) (missing c d)
              (any_passed (λ l. not (contains d l)) (λ l. T (within (join d (flip (literal l))) (state n w))) (members c 0)
              (members_any n hn c hc (λ l. T (within (join d (flip (literal l))) (state n w)) × T (not (contains d l))) r.0 r.1
              r.2 (
                subst (λ (x : Literals). T (within (join d x) (state n w))) (sym (flip_byte r.0 r.1))
                    (true_T (within (join d (single (not r.0) r.1)) (state n w)) r.4),
                false_T (contains d (byte r.0 r.1)) (contains_byte d r.0 r.1 ∙ r.3),
              ))))

-- ---- the pieces by all conditions
mono : (c x q : Literals) → T (within x q) → Decides c x → Decides c q
mono c x q h (inl k) = inl (within_trans c x q k h)
mono c x q h (inr k) =
    inr (true_T (clash c q) (clash_sym c q ∙ clash_within x q c (T_true (within x q) h) (clash_sym x c ∙ T_true (clash c x) k)))

pub pieces_parts : (n : ℕ) (es : List Effect) → All (ProperEffect n) es → (d : Literals) → Proper n d → All (Part n es d) (pieces es d)
pieces_parts n [] he d hd = (record { proper = hd; over = within_refl d; decided = tt }, tt)
pieces_parts n (e ∷ es) he d hd =
    all_collected (pieces es) (Part n (e ∷ es) d) (split e.condition d)
    (all_map (Piece n e.condition d) (λ x. All (Part n (e ∷ es) d) (pieces es x))
    (λ x h. all_map (Part n es x) (Part n (e ∷ es) d)
    (λ q k. record {
      proper = k.proper;
      over = within_trans d x q h.over k.over;
      decided = (mono e.condition x q k.over h.decided, k.decided);
    })
    (pieces es x) (pieces_parts n es he.1 x h.proper))
    (split e.condition d) (split_pieces n e.condition d he.0.condition.proper hd))

pub pieces_in : (n : ℕ) → n ≤ 32 → (es : List Effect) → All (ProperEffect n) es → (d : Literals) → Proper n d
    → (w : ℕ) → w < 2 ^ n → T (within d (state n w)) → In n (pieces es d) w
pieces_in n hn [] he d hd w b h = inl h
pieces_in n hn (e ∷ es) he d hd w b h =
    any_collected (pieces es) (λ q. T (within q (state n w))) (split e.condition d)
    (any_with (Piece n e.condition d) (λ x. T (within x (state n w))) (λ x. In n (pieces es x) w)
    (λ x k i. pieces_in n hn es he.1 x k.proper w b i)
    (split e.condition d) (split_pieces n e.condition d he.0.condition.proper hd)
    (split_in n e.condition d he.0.condition.proper hd hn w b h))

pub pieces_out : (n : ℕ) (es : List Effect) → All (ProperEffect n) es → (d : Literals) → Proper n d → (w : ℕ) → In n (pieces es d) w
    → T (within d (state n w))
pieces_out n es he d hd w i =
    any_out (Part n es d) (λ q. T (within q (state n w))) (λ q k h. within_trans d q (state n w) k.over h) (pieces es d)
    (pieces_parts n es he d hd) i

-- a condition that q decides lies in q exactly if it holds in any one of q's worlds
decided_same : (n w : ℕ) → w < 2 ^ n → (c q : Literals) → T (within q (state n w)) → Decides c q → within c q ≡ within c (state n w)
decided_same n w b c q h (inl k) = T-ext (within c q) (within c (state n w)) (λ _. within_trans c q (state n w) k h) (λ _. k)
decided_same n w b c q h (inr k) =
    let r = clash_at c q (T_true (clash c q) k) in
    T-ext (within c q) (within c (state n w)) (λ t. within_trans c q (state n w) t h)
    (λ t. both (within c (state n w)) t (false_T (within c (state n w))
    (fails_here n w b c r.0 r.1 r.2 (within_of q (state n w) (T_true (within q (state n w)) h) (not r.0) r.1 r.3))))

pub results_same : (n w : ℕ) → w < 2 ^ n → (es : List Effect) (q : Literals) → T (within q (state n w))
    → All (λ e. Decides e.condition q) es
    → results es q ≡ results es (state n w)
results_same n w b [] q h k = refl
results_same n w b (e ∷ es) q h k =
    ap₂ (λ (x : Bool) (r : Literals). add_result x e.result r) (decided_same n w b e.condition q h k.0)
    (results_same n w b es q h k.1)
