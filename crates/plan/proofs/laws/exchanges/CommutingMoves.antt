-- Two moves that do not touch, in either order, in every world: the same end, or none in both. For TH7 (ExchangeDemands) and W2. Assumes
-- nothing.
use mathlib.Core.Path.{◌≡◌, refl, sym, ap, ap₂, ◌∙◌}
use mathlib.Core.Bool.{Bool, true, false, not, ◌&&◌, ◌||◌, true≢false, and_comm}
use mathlib.Core.List.{List, [], ◌∷◌}
use mathlib.Core.Logic.{⊎_elim}
use Prim.Native.Nat.{ℕ, ◌^◌, ◌<◌}
use lib.Dec.{T, eqb, eqb→eq}
use lib.Bits as bits
use lib.Bits.{bit_and, bit_or}
use borrow.Author.Tests.{eq-eqb}
use Rattle.sheet.specs.declared.Literals.{Literals}
use Rattle.sheet.specs.declared.Effect.{Effect}
use Rattle.sheet.specs.Literals.{has, mem, within, join, clash, consistent, replace, names, state}
use Rattle.sheet.specs.Problem.{Action}
use Rattle.sheet.specs.Encoding.{ProperAction}
use Rattle.sheet.proofs.laws.base.Bools.{T_false, true_T, false_T, and_l, and_r, or_not_l, or_not_r, not_not, or_cases, or_left, or_right}
use Rattle.sheet.proofs.laws.literals.MaskBits.{Sub, has_or, disjoint_of, of_disjoint}
use Rattle.sheet.proofs.laws.literals.LiteralSets.{Within, mem_join, join_comm, clash_sym, apart_of, of_apart, mem_none}
use Rattle.sheet.proofs.laws.literals.Results.{has_names, named, within_other, replace_join}
use Rattle.table.specs.Worlds.{add_result, results, takes, world_after, when, step_world, and_then}
use Rattle.table.proofs.laws.steps.StepWorlds.{after_world}
use Rattle.plan.specs.Exchange as spec
use Rattle.plan.specs.Exchange.{results_by, changed_by, read_by, changed, reads, touch, touch_anywhere}

-- ---- masks without a bit in common
fewer : (a b c : ℕ) → Sub a b → bit_and b c ≡ 0 → bit_and a c ≡ 0
fewer a b c h e = of_disjoint a c (λ p k. disjoint_of b c e p (h p k))

or_sub_l : (a b : ℕ) → Sub a (bit_or a b)
or_sub_l a b p h = has_or a b p ∙ or_left (has a p) (has b p) h

or_sub_r : (a b : ℕ) → Sub b (bit_or a b)
or_sub_r a b p h = has_or a b p ∙ or_right (has a p) (has b p) h

-- ---- what a move changes and reads
-- the results in a state are among all results
results_among : (es : List Effect) (x : Literals) → Within (results es x) (results_by es)
results_among [] x s p m = m
results_among (e ∷ es) x s p m = go (within e.condition x) m (results_among es x s p)
  where
    go : (b : Bool) → mem (add_result b e.result (results es x)) s p ≡ true
        → (mem (results es x) s p ≡ true → mem (results_by es) s p ≡ true)
        → mem (join e.result (results_by es)) s p ≡ true
    go true m k =
        mem_join e.result (results_by es) s p
        ∙ ⊎_elim (or_left (mem e.result s p) (mem (results_by es) s p))
        (λ h. or_right (mem e.result s p) (mem (results_by es) s p) (k h))
        (or_cases (mem e.result s p) (mem (results es x) s p) (sym (mem_join e.result (results es x) s p) ∙ m))
    go false m k = mem_join e.result (results_by es) s p ∙ or_right (mem e.result s p) (mem (results_by es) s p) (k m)

-- and the propositions of these are changed
all_changed : (es : List Effect) (s : Bool) (p : ℕ) → mem (results_by es) s p ≡ true → has (changed_by es) p ≡ true
all_changed [] s p m = absurd (true≢false (sym m ∙ mem_none s p))
all_changed (e ∷ es) s p m =
    ⊎_elim (λ h. or_sub_l (names e.result) (changed_by es) p (named e.result s p h))
    (λ h. or_sub_r (names e.result) (changed_by es) p (all_changed es s p h))
    (or_cases (mem e.result s p) (mem (results_by es) s p) (sym (mem_join e.result (results_by es) s p) ∙ m))

results_changed : (es : List Effect) (x : Literals) → Sub (names (results es x)) (changed_by es)
results_changed es x p h =
    ⊎_elim (λ m. all_changed es true p (results_among es x true p m)) (λ m. all_changed es false p (results_among es x false p m))
    (or_cases (mem (results es x) true p) (mem (results es x) false p) (sym (has_names (results es x) p) ∙ h))

-- results that name nothing that the effects read change none of their results
same_results : (es : List Effect) (x r : Literals) → bit_and (read_by es) (names r) ≡ 0 → results es (replace x r) ≡ results es x
same_results [] x r h = refl
same_results (e ∷ es) x r h =
    ap₂ (λ (b : Bool) (y : Literals). add_result b e.result y)
    (within_other x e.condition r
    (fewer (names e.condition) (read_by (e ∷ es)) (names r) (or_sub_l (names e.condition) (read_by es)) h))
    (same_results es x r (fewer (read_by es) (read_by (e ∷ es)) (names r) (or_sub_r (names e.condition) (read_by es)) h))

-- ---- moves that do not touch
-- nothing that a changes is read by b
abbrev pub Unseen : Action → Action → Type 0
Unseen a b = bit_and (changed a) (reads b) ≡ 0

-- what b reads, in the state that a leaves
module _ (a b : Action) (f : Unseen a b) (x : Literals) where
  abbrev ra : Literals
  ra = results a.effects x

  unread : bit_and (reads b) (names ra) ≡ 0
  unfolding changed
  unread = bits.and_comm (reads b) (names ra) ∙ fewer (names ra) (changed a) (reads b) (results_changed a.effects x) f

  unseen_results : results b.effects (replace x ra) ≡ results b.effects x
  unfolding reads
  unseen_results = same_results b.effects x ra
      (fewer (read_by b.effects) (reads b) (names ra) (or_sub_r (names b.precondition) (read_by b.effects)) unread)

  unseen_precondition : within b.precondition (replace x ra) ≡ within b.precondition x
  unfolding reads
  unseen_precondition = within_other x b.precondition ra
      (fewer (names b.precondition) (reads b) (names ra) (or_sub_l (names b.precondition) (read_by b.effects)) unread)

-- both moves, in one world
module _ (n : ℕ) (a b : Action) (ha : ProperAction n a) (f : Unseen a b) (w : ℕ) (l : w < 2 ^ n) where
  abbrev st : Literals
  st = state n w

  then_takes : T (takes n a w) → takes n b (world_after n a w) ≡ takes n b w
  unfolding takes
  then_takes t =
      ap (λ (y : Literals). within b.precondition y && consistent (results b.effects y)) (sym (after_world n a ha w l t).1)
      ∙ ap₂ (λ (c : Bool) (r : Literals). c && consistent r) (unseen_precondition a b f st) (unseen_results a b f st)

  then_after : T (takes n a w) → world_after n b (world_after n a w)
      ≡ (replace (replace st (results a.effects st)) (results b.effects st)).trues
  unfolding world_after
  then_after t =
      ap (λ (y : Literals). (replace y (results b.effects y)).trues) (sym (after_world n a ha w l t).1)
      ∙ ap (λ (r : Literals). (replace (replace st (results a.effects st)) r).trues) (unseen_results a b f st)

  -- defined exactly if each is in w
  in_turn : and_then (step_world n a w) (step_world n b)
      ≡ when (takes n a w && takes n b w) (replace (replace st (results a.effects st)) (results b.effects st)).trues
  unfolding step_world
  in_turn = go (takes n a w) refl
    where
      go : (t : Bool) → takes n a w ≡ t
          → and_then (when t (world_after n a w)) (step_world n b)
          ≡ when (t && takes n b w) (replace (replace st (results a.effects st)) (results b.effects st)).trues
      go false e = refl
      go true e = ap₂ when (then_takes (true_T (takes n a w) e)) (then_after (true_T (takes n a w) e))

-- the results of a and of b do not clash, and neither reads what the other changes
touch_parts : (a b : Action) → touch a b ≡ false → (clash (results_by a.effects) (results_by b.effects) ≡ false) × Unseen a b
    × Unseen b a
unfolding touch
touch_parts a b h = (
  T_false c (or_not_l c (not x || not y) t),
  eqb→eq (bit_and (changed a) (reads b)) 0 (not_not x (or_not_l (not x) (not y) r)),
  eqb→eq (bit_and (changed b) (reads a)) 0 (not_not y (or_not_r (not x) (not y) r)),
)
  where
    c : Bool
    c = clash (results_by a.effects) (results_by b.effects)

    x : Bool
    x = eqb (bit_and (changed a) (reads b)) 0

    y : Bool
    y = eqb (bit_and (changed b) (reads a)) 0

    t : T (not (c || (not x || not y)))
    t = false_T (c || (not x || not y)) h

    r : T (not (not x || not y))
    r = or_not_r c (not x || not y) t

-- moves whose results do not clash, and of which neither reads what the other changes, do not touch
pub touch_apart : (a b : Action) → clash (results_by a.effects) (results_by b.effects) ≡ false
    → bit_and (changed a) (reads b) ≡ 0 → bit_and (changed b) (reads a) ≡ 0 → touch a b ≡ false
unfolding touch
touch_apart a b c f g = rw (c, eq-eqb (bit_and (changed a) (reads b)) 0 f, eq-eqb (bit_and (changed b) (reads a)) 0 g)

-- two moves that do not touch may change places, in every world
pub commute : (n : ℕ) (a b : Action) → ProperAction n a → ProperAction n b → touch a b ≡ false → (w : ℕ) → w < 2 ^ n
    → and_then (step_world n a w) (step_world n b) ≡ and_then (step_world n b w) (step_world n a)
commute n a b ha hb h w l =
    in_turn n a b ha k.1 w l
    ∙ ap₂ (λ (t : Bool) (y : Literals). when t y.trues) (and_comm (takes n a w) (takes n b w))
    (sym (replace_join x ra rb apart) ∙ ap (replace x) (join_comm ra rb) ∙ replace_join x rb ra (clash_sym rb ra ∙ apart))
    ∙ sym (in_turn n b a hb k.2 w l)
  where
    k : (clash (results_by a.effects) (results_by b.effects) ≡ false) × Unseen a b × Unseen b a
    k = touch_parts a b h

    x : Literals
    x = state n w

    ra : Literals
    ra = results a.effects x

    rb : Literals
    rb = results b.effects x

    go : (s : Bool) (p : ℕ) → mem ra s p ≡ true → (t : Bool) → mem rb (not s) p ≡ t → mem rb (not s) p ≡ false
    go s p m true e =
        absurd (true≢false (sym (results_among b.effects x (not s) p e)
        ∙ apart_of (results_by a.effects) (results_by b.effects) k.0 s p (results_among a.effects x s p m)))
    go s p m false e = e

    apart : clash ra rb ≡ false
    apart = of_apart ra rb (λ s p m. go s p m (mem rb (not s) p) refl)

-- what does not touch by document 01's wording before W2 does not touch
pub touch_fewer : (a b : Action) → touch_anywhere a b ≡ false → touch a b ≡ false
unfolding touch_anywhere spec.named
touch_fewer a b h =
    touch_apart a b (of_apart (results_by a.effects) (results_by b.effects)
    (λ s p m. go s p m (mem (results_by b.effects) (not s) p) refl))
    (part (changed a) (reads b) (changed b) (or_sub_l (reads b) (changed b)) f)
    (part (changed b) (reads a) (changed a) (or_sub_l (reads a) (changed a)) g)
  where
    x : Bool
    x = eqb (bit_and (changed a) (bit_or (reads b) (changed b))) 0

    y : Bool
    y = eqb (bit_and (changed b) (bit_or (reads a) (changed a))) 0

    t : T (x && y)
    t = not_not (x && y) (false_T (not (x && y)) h)

    f : bit_and (changed a) (bit_or (reads b) (changed b)) ≡ 0
    f = eqb→eq (bit_and (changed a) (bit_or (reads b) (changed b))) 0 (and_l x y t)

    g : bit_and (changed b) (bit_or (reads a) (changed a)) ≡ 0
    g = eqb→eq (bit_and (changed b) (bit_or (reads a) (changed a))) 0 (and_r x y t)

    part : (c d e : ℕ) → Sub d (bit_or d e) → bit_and c (bit_or d e) ≡ 0 → bit_and c d ≡ 0
    part c d e k q = bits.and_comm c d ∙ fewer d (bit_or d e) c k (bits.and_comm (bit_or d e) c ∙ q)

    go : (s : Bool) (p : ℕ) → mem (results_by a.effects) s p ≡ true → (t : Bool) → mem (results_by b.effects) (not s) p ≡ t
        → mem (results_by b.effects) (not s) p ≡ false
    go s p m true e = unfold changed in absurd (true≢false
        (sym (or_sub_r (reads b) (changed b) p (all_changed b.effects (not s) p e))
        ∙ disjoint_of (changed a) (bit_or (reads b) (changed b)) f p (all_changed a.effects s p m)))
    go s p m false e = e
