-- Alternatives made false, one literal of each at a time: what is left to choose, and that an inconsistent branch may be cut. For
-- `starts::choose` and `starts::widen_one`. Assumes nothing.
use Prim.Native.Nat.{ℕ, ◌/◌, ◌≤◌, ◌<◌}
use mathlib.Core.Path.{◌≡◌, refl, sym, ap, ap₂, ◌∙◌}
use mathlib.Core.Bool.{Bool, true, false, not, and-eq-true_iff}
use mathlib.Core.List.{List, [], ◌∷◌, ◌++◌}
use native.Mathlib.Omega.{arith}
use lib.ListN.{length, drop}
use Rattle.std.proofs.lemmas.List.{drop_all}
use borrow.Author.Tests.{not-true}
use Rattle.sheet.specs.declared.Literals.{Literals}
use Rattle.sheet.specs.Literals.{single, sign, join, consistent, flip, literal, contains, members}
use Rattle.sheet.specs.inner.Masks.{next, minus}
use Rattle.sheet.specs.Lists.{add_if, keep, collect}
use Rattle.sheet.proofs.laws.literals.ProperSets.{flip_literal}
use Rattle.sheet.proofs.laws.literals.LiteralSets.{consistent_join, consistent_single, clash_sym, clash_single}
use Rattle.sheet.proofs.laws.base.Bools.{not_twice}
use Rattle.sheet.proofs.laws.literals.LiteralBytes.{next_found, members_nil}
use Rattle.table.specs.Start.{falsify}
use Rattle.table.specs.Step.{missing}
use Rattle.table.proofs.laws.starts.LackedLiterals.{contains_lacks, members_lacks, members_first}
use Rattle.table.proofs.laws.arrays.KeptMembers.{keep_append}
use Rattle.table.proofs.laws.slots.ConsistentCandidates.{kept_one, left_out, stays_inconsistent, keep_split}

-- ---- no alternative is left, or the piece is inconsistent
pub chosen_all : (xs : List Literals) (i : ℕ) {d : Literals} {n : ℕ} → n ≡ length xs → n ≤ i → consistent d ≡ true
    → d ∷ [] ≡ keep consistent (falsify (drop i xs) d)
chosen_all xs i {d} l h e = sym (ap (λ (x : List Literals). keep consistent (falsify x d)) (drop_all i xs (omega arith)) ∙ kept_one d e)

keep_none : {A : Type 0} (f : Literals → Bool) (g : A → List Literals) → ((x : A) → keep f (g x) ≡ []) → (xs : List A)
    → keep f (collect g xs) ≡ []
keep_none f g h [] = refl
keep_none f g h (x ∷ xs) = keep_append f (g x) (collect g xs) ∙ ap₂ (λ (a b : List Literals). a ++ b) (h x) (keep_none f g h xs)

-- from an inconsistent set on, nothing is put
pub cut : (os : List Literals) (d : Literals) → consistent d ≡ false → keep consistent (falsify os d) ≡ []
cut [] d h = left_out d h
cut (o ∷ os) d h =
    keep_none consistent (λ l. falsify os (join d (flip (literal l))))
    (λ l. cut os (join d (flip (literal l))) (stays_inconsistent d (flip (literal l)) h)) (members o 0)

-- ---- the literals of an alternative that are left
-- no literal of `rest` is in d
abbrev pub Free : Literals → Literals → Type 0
Free rest d = (j : ℕ) → contains rest j ≡ true → contains d j ≡ false

pub free_start : (a d rest : Literals) → rest ≡ minus a d → Free rest d
free_start a d rest q j e =
    not-true (contains d j) ((and-eq-true_iff (contains a j) (not (contains d j))).0
    (sym (contains_lacks a d j) ∙ ap (λ (x : Literals). contains x j) (sym q) ∙ e)).1

pub free_on : (rest one d less : Literals) → Free rest d → less ≡ minus rest one → Free less d
free_on rest one d less h q j e =
    h j ((and-eq-true_iff (contains rest j) (not (contains one j))).0
    (sym (contains_lacks rest one j) ∙ ap (λ (x : Literals). contains x j) (sym q) ∙ e)).0

-- d with the complement of a literal: inconsistent if it has the literal, consistent if it has not
denied : (d : Literals) (l : ℕ) → consistent d ≡ true → consistent (join d (flip (literal l))) ≡ not (contains d l)
unfolding contains
denied d l h =
    ap (λ (x : Literals). consistent (join d x)) (flip_literal l)
    ∙ consistent_join d (single (not (sign l)) (l / 2))
    ∙ rw (
      h,
      consistent_single (not (sign l)) (l / 2),
      clash_sym d (single (not (sign l)) (l / 2)),
      clash_single (not (sign l)) (l / 2) d,
      not_twice (sign l),
    ) refl

-- the first literal l of those left is chosen: w is d with its complement
pub record Chosen (d rest : Literals) (l : ℕ) (w : Literals) : Type 0 where
  pub least : l ≡ next rest 0
  pub found : l < 64
  pub is : w ≡ join d (flip (literal l))

pub chosen_by : {d rest one f w : Literals} {l : ℕ} → l ≡ next rest 0 → l < 64 → one ≡ literal l → f ≡ flip one → w ≡ join d f
    → Chosen d rest l w
chosen_by {d} e h p q r = record { least = e; found = h; is = r ∙ ap (join d) (q ∙ ap flip p) }

-- it is consistent
pub chosen_steady : {d rest w : Literals} {l : ℕ} → Chosen d rest l w → consistent d ≡ true → Free rest d → consistent w ≡ true
chosen_steady {d} {rest} {w} {l} k h g =
    let e = k.least in
    let found : contains rest l ≡ true = ap (contains rest) e ∙ next_found rest 0 (omega (arith, k.found)) in
    ap consistent k.is ∙ denied d l h ∙ ap not (g l found)

-- what is left out has nothing to be kept
keep_less : (f : Literals → Bool) (g : ℕ → List Literals) (b : ℕ → Bool) → ((x : ℕ) → b x ≡ false → keep f (g x) ≡ []) → (xs : List ℕ)
    → keep f (collect g xs) ≡ keep f (collect g (keep b xs))
keep_less f g b h [] = refl
keep_less f g b h (x ∷ xs) = keep_append f (g x) (collect g xs) ∙ ap (λ (r : List Literals). keep f (g x) ++ r) (keep_less f g b h xs)
    ∙ at (b x) refl
  where
    at : (t : Bool) → b x ≡ t → keep f (g x) ++ keep f (collect g (keep b xs)) ≡ keep f (collect g (add_if (b x) x (keep b xs)))
    at true e = rw e (sym (keep_append f (g x) (collect g (keep b xs))))
    at false e = rw e (ap (λ (r : List Literals). r ++ keep f (collect g (keep b xs))) (h x e))

unfoldable pub choices_of : List Literals → Literals → Literals → List Literals
choices_of os rest d = collect (λ j. falsify os (join d (flip (literal j)))) (members rest 0)

module _ (os : List Literals) (d : Literals) where
  pub choices_start : (bs : List Literals) (a rest : Literals) → consistent d ≡ true → bs ≡ a ∷ os → rest ≡ minus a d
      → keep consistent (falsify bs d) ≡ keep consistent (choices_of os rest d)
  unfolding choices_of missing
  choices_start bs a rest h q e =
      ap (λ (x : List Literals). keep consistent (falsify x d)) q
      ∙ keep_less consistent (λ j. falsify os (join d (flip (literal j)))) (λ j. not (contains d j))
      (λ j k. cut os (join d (flip (literal j))) (denied d j h ∙ k)) (members a 0)
      ∙ ap (λ (x : List ℕ). keep consistent (collect (λ j. falsify os (join d (flip (literal j)))) x))
      (sym (ap (λ (x : Literals). members x 0) e ∙ members_lacks a d))

  pub choices_step : {rest less w : Literals} {l : ℕ} → Chosen d rest l w → less ≡ minus rest (literal l)
      → keep consistent (choices_of os rest d) ≡ keep consistent (falsify os w) ++ keep consistent (choices_of os less d)
  unfolding choices_of
  choices_step {rest} {less} {w} {l} k s = keep_split (choices_of os rest d) (falsify os w) (choices_of os less d) split_up
    where
      split_up : choices_of os rest d ≡ falsify os w ++ choices_of os less d
      split_up =
          ap (collect (λ j. falsify os (join d (flip (literal j))))) (members_first rest l k.least k.found)
          ∙ ap₂ (λ (x y : Literals). falsify os x ++ collect (λ j. falsify os (join d (flip (literal j)))) (members y 0))
          (sym k.is) (sym s)

  pub choices_end : (rest : Literals) (l : ℕ) → l ≡ next rest 0 → 64 ≤ l → keep consistent (choices_of os rest d) ≡ []
  unfolding choices_of
  choices_end rest l e h = ap (λ (x : List ℕ). keep consistent (collect (λ j. falsify os (join d (flip (literal j)))) x))
      (members_nil rest 0 (omega (arith, e, h)))

-- there are fewer literals
pub choices_less : {d rest w less : Literals} {l : ℕ} → Chosen d rest l w → less ≡ minus rest (literal l)
    → length (members less 0) < length (members rest 0)
choices_less {rest = rest} {l = l} k s =
    let a = ap length (members_first rest l k.least k.found) in
    let b = ap (λ (x : Literals). length (members x 0)) s in
    omega (arith, a, b)
