-- The walk over the pieces of an entry, one condition and one part at a time, and over the entries. For `steps::split`,
-- `steps::branch_all` and `steps/CarriedResults`. Assumes nothing.
use mathlib.Core.Path.{◌≡◌, sym, ap, ◌∙◌, subst}
use mathlib.Core.Bool.{Bool, true, false, ◌||◌}
use mathlib.Core.List.{List, [], ◌∷◌, ◌++◌, map, map-append, append-nil}
use Prim.Native.Nat.{ℕ, zero, suc, ◌+◌, ◌≤◌, ◌<◌}
use native.Mathlib.Numerals.{add-one}
use native.Mathlib.Omega.{arith}
use Rattle.sheet.specs.declared.Literals.{Literals}
use Rattle.sheet.specs.declared.Effect.{Effect}
use Rattle.sheet.specs.Literals.{join, flip, literal, within, clash, members}
use Rattle.sheet.specs.inner.Masks.{next, minus}
use Rattle.sheet.specs.Lists.{collect}
use Rattle.sheet.proofs.laws.literals.LiteralBytes.{scan, next_end, next_here, next_step, next_next, next_ge, members_next, members_loop, members_end}
use Rattle.table.specs.Step.{split_by, split, pieces, image}
use Rattle.table.specs.inner.Carry.{part_at}
use Rattle.table.proofs.laws.starts.LackedLiterals.{members_lacks}
use lib.ListN.{length, get_or, drop, drop_of_length-le}
use Rattle.std.proofs.lemmas.List.{at_drop_more}

-- the next literal is one
next_fixed : (c : Literals) (l m : ℕ) → m ≡ next c l → next c m ≡ m
next_fixed c l m e = ap (next c) e ∙ next_next c l ∙ sym e

-- turn t is 0, or comes after a literal of m
abbrev pub Turn : Literals → ℕ → Type 0
Turn m t = (l : ℕ) → t ≡ l + 1 → next m l ≡ l

pub turn_start : (m : Literals) → Turn m 0
turn_start m l e = absurd (omega (arith, e))

pub turn_on : (m : Literals) (t n : ℕ) → n ≡ next m t → Turn m (n + 1)
turn_on m t n q l e = let k : n ≡ l = omega (arith, e) in subst (λ (x : ℕ). next m x ≡ x) k (next_fixed m t n q)

pub turn_less : (m : Literals) (t n : ℕ) → n ≡ next m t → t ≤ n
turn_less m t n q = rw q (next_ge m t)

pub turn_most : (m : Literals) (t n : ℕ) → n ≡ next m t → t < 65 → n ≤ 64
turn_most m t n q h = rw q (most t (omega (arith, h)))
  where
    most : (l : ℕ) → l ≤ 64 → next m l ≤ 64
    most =
        scan m (λ (l : ℕ). l ≤ 64 → next m l ≤ 64) (λ l h k. omega (arith, next_end m l h)) (λ l h e k. omega (arith, next_here m l h e))
        (λ l h e r k. omega (arith, r (omega (arith, h)), next_step m l h e))

-- ---- the effects that are left: none, or e and those after it
pub at_leaf : (es gs : List Effect) (d : Literals) → gs ≡ [] → image es d ∷ [] ≡ map (image es) (pieces gs d)
at_leaf es gs d q = sym (ap (λ (x : List Effect). map (image es) (pieces x d)) q)

-- the parts of d by c from turn t on, where d lacks the literals m of c
unfoldable pub part_list : Literals → Literals → Literals → ℕ → List Literals
part_list c d m zero = join d c ∷ map (λ j. join d (flip (literal j))) (members m 0)
part_list c d m (suc l) = map (λ j. join d (flip (literal j))) (members m l)

-- what becomes of d in them
unfoldable pub parts_from : List Effect → List Effect → Literals → Literals → Literals → ℕ → List Literals
parts_from es hs c d m t = map (image es) (collect (pieces hs) (part_list c d m t))

module _ (es gs hs : List Effect) (e : Effect) (d : Literals) (q : gs ≡ e ∷ hs) where
  pub at_whole : (within e.condition d || clash e.condition d) ≡ true → pieces hs d ≡ pieces gs d
  unfolding split
  at_whole t =
      sym
      (ap (λ (x : List Effect). pieces x d) q ∙ ap (λ (x : Bool). collect (pieces hs) (split_by x e.condition d)) t
      ∙ append-nil (pieces hs d))

  -- all parts come, where the condition splits the piece
  pub parts_start : (m : Literals) → (within e.condition d || clash e.condition d) ≡ false → m ≡ minus e.condition d
      → map (image es) (pieces gs d) ≡ parts_from es hs e.condition d m 0
  unfolding split parts_from part_list
  parts_start m t is =
      ap (λ (x : List Effect). map (image es) (pieces x d)) q
      ∙ ap (λ (x : Bool). map (image es) (collect (pieces hs) (split_by x e.condition d))) t
      ∙ ap (λ (x : List ℕ). map (image es) (collect (pieces hs) (join d e.condition ∷ map (λ j. join d (flip (literal j))) x)))
      (sym (ap (λ (x : Literals). members x 0) is ∙ members_lacks e.condition d))

-- ---- one part after the other
module _ (c d m : Literals) where
  list_turn : (t n : ℕ) → t < 65 → Turn m t → n ≡ next m t → part_list c d m t ≡ part_at d c t ∷ part_list c d m (n + 1)
  unfolding part_list part_at
  list_turn zero n h f q =
      ap (λ (x : List ℕ). join d c ∷ map (λ j. join d (flip (literal j))) x) (members_next m 0 ∙ ap (members m) (sym q))
      ∙ ap (λ (x : ℕ). join d c ∷ part_list c d m x) (sym (add-one n))
  list_turn (suc l) n h f q =
      ap (λ (x : List ℕ). map (λ j. join d (flip (literal j))) x)
      (members_loop m l (f l (sym (add-one l))) (omega (arith, h)) ∙ ap (λ (x : ℕ). l ∷ members m x) (ap (next m) (add-one l) ∙ sym q))
      ∙ ap (λ (x : ℕ). join d (flip (literal l)) ∷ part_list c d m x) (sym (add-one n))

-- ---- the parts from turn t on
module _ (es hs : List Effect) (c d m : Literals) (t : ℕ) where
  pub parts_turn : t < 65 → Turn m t → {n : ℕ} → n ≡ next m t → {w : Literals} → w ≡ part_at d c t
      → parts_from es hs c d m t ≡ map (image es) (pieces hs w) ++ parts_from es hs c d m (n + 1)
  unfolding parts_from
  parts_turn h f {n} q {w} p =
      ap (λ (x : List Literals). map (image es) (collect (pieces hs) x)) (list_turn c d m t n h f q)
      ∙ map-append (image es) (pieces hs (part_at d c t)) (collect (pieces hs) (part_list c d m (n + 1)))
      ∙ ap (λ (x : Literals). map (image es) (pieces hs x) ++ parts_from es hs c d m (n + 1)) (sym p)

pub parts_end : (es hs : List Effect) (c d m : Literals) (t : ℕ) → 65 ≤ t → parts_from es hs c d m t ≡ []
unfolding parts_from part_list
parts_end es hs c d m zero h = absurd (omega (arith, h))
parts_end es hs c d m (suc l) h =
    ap (λ (x : List ℕ). map (image es) (collect (pieces hs) (map (λ j. join d (flip (literal j))) x)))
    (members_end m l (omega (arith, h)))

-- ---- the entries from i on, one after the other
module _ (es : List Effect) (xs : List Literals) (i : ℕ) where
  abbrev images : List Literals → List Literals
  images ys = map (image es) (collect (pieces es) ys)

  pub images_at : (d : Literals) → i < length xs → {e : Literals} → e ≡ get_or xs i d
      → images (drop i xs) ≡ map (image es) (pieces es e) ++ images (drop (i + 1) xs)
  images_at d h {e} is =
      at_drop_more images xs i d h
      ∙ map-append (image es) (pieces es (get_or xs i d)) (collect (pieces es) (drop (i + 1) xs))
      ∙ ap (λ (x : Literals). map (image es) (pieces es x) ++ images (drop (i + 1) xs)) (sym is)

  pub images_done : length xs ≤ i → images (drop i xs) ≡ []
  images_done h = ap images (drop_of_length-le xs {i = i} h)
