-- Numbers in a packed array: what stands there, read part by part; and parts, sets, effects and items laid there.
-- For src/packed.rt, for the functions of src/reader.rt that lay out, and for the packed arrays of table and plan. Assumes nothing.
use mathlib.Core.Path.{◌≡◌, refl, sym, ap, ap₂, subst, ◌∙◌}
use mathlib.Core.List.{List, [], ◌∷◌, ◌++◌, append-nil}
use Prim.Native.Nat.{ℕ, zero, suc, ◌+◌, ◌-◌, ◌*◌, ◌≤◌, ◌<◌}
use native.Mathlib.Nat.{not-suc-le-zero, le_of_suc-le-suc}
use native.Mathlib.Numerals.{add-one}
use native.Mathlib.Omega.{arith}
use borrow.Author.Tests.{ltb-true, ltb-false}
use mathlib.Core.Bool.{Bool, true, false}
use lib.Dec.{ltb}
use lib.ListN.{length, set, get_or, take, drop, length-append, length-drop, take-append-drop, drop_of_length-le}
use lib.Seq.{get_or-drop, take_at, drop_at, drop-drop, take-append-le, drop-append-le, length-take-le}
use Rattle.sheet.specs.declared.Literals.{Literals}
use Rattle.sheet.specs.declared.Effect.{Effect}
use Rattle.sheet.specs.Lists.{All}
use Rattle.sheet.specs.inner.Packed.{part, set_from, sets_at, sets_in, masks_of, effect_at, effects_at, action_by, item_at, items_at, action_from}

-- ---- reading
pub from_later : (zs : List ℕ) (i j k : ℕ) → i + j ≡ k → set_from (drop i zs) j ≡ set_from zs k
unfolding set_from
from_later zs i j k e =
    let a = get_or-drop i zs j 0 ∙ ap (λ (z : ℕ). get_or zs z 0) e in
    let f : i + (j + 1) ≡ k + 1 = omega arith in
    let b = get_or-drop i zs (j + 1) 0 ∙ ap (λ (z : ℕ). get_or zs z 0) f in
    (λ z. record { trues = a z; falses = b z })

-- `parts n zs` are the first n parts of a zs, w numbers to a part, and `part zs i` is the one of number i
module _ {A : Type 0} (w : ℕ) (part : List ℕ → ℕ → A) (parts : ℕ → List ℕ → List A) (none : (zs : List ℕ) → parts 0 zs ≡ [])
    (more : (n : ℕ) (zs : List ℕ) → parts (suc n) zs ≡ part zs 0 ∷ parts n (drop w zs))
    (later : (zs : List ℕ) (i : ℕ) → part (drop w zs) i ≡ part zs (suc i)) where
  pub parts_long : (n : ℕ) (zs : List ℕ) → length (parts n zs) ≡ n
  parts_long zero zs = ap length (none zs)
  parts_long (suc n) zs = ap length (more n zs) ∙ ap suc (parts_long n (drop w zs))

  ahead : (n : ℕ) (zs : List ℕ) (i : ℕ) → i < n → drop i (parts n zs) ≡ part zs i ∷ drop (suc i) (parts n zs)
  ahead zero zs i h = absurd (not-suc-le-zero h)
  ahead (suc n) zs zero h = more n zs ∙ ap (λ (x : List A). part zs 0 ∷ drop 1 x) (sym (more n zs))
  ahead (suc n) zs (suc i) h =
      ap (drop (suc i)) (more n zs)
      ∙ ahead n (drop w zs) i (le_of_suc-le-suc h)
      ∙ ap₂ (λ (e : A) (x : List A). e ∷ drop (suc (suc i)) x) (later zs i) (sym (more n zs))

  pub part_ahead : (n : ℕ) (zs : List ℕ) (i : ℕ) (e : A) → i < n → e ≡ part zs i → drop i (parts n zs) ≡ e ∷ drop (i + 1) (parts n zs)
  part_ahead n zs i e h q = ahead n zs i h ∙ ap₂ (λ (x : A) (j : ℕ). x ∷ drop j (parts n zs)) (sym q) (sym (add-one i))

  pub parts_end : (n : ℕ) (zs : List ℕ) (i : ℕ) → n ≤ i → drop i (parts n zs) ≡ []
  parts_end n zs i h = let l : length (parts n zs) ≤ i = omega (arith, parts_long n zs) in drop_of_length-le (parts n zs) l

  pub part_at : (n : ℕ) (zs : List ℕ) (i : ℕ) (d : A) → i < n → get_or (parts n zs) i d ≡ part zs i
  part_at zero zs i d h = absurd (not-suc-le-zero h)
  part_at (suc n) zs zero d h = ap (λ (x : List A). get_or x 0 d) (more n zs)
  part_at (suc n) zs (suc i) d h = ap (λ (x : List A). get_or x (suc i) d) (more n zs) ∙ part_at n (drop w zs) i d (le_of_suc-le-suc h)
      ∙ later zs i

  pub part_of_all : (P : A → Type 0) (n : ℕ) (zs : List ℕ) (i : ℕ) → i < n → All P (parts n zs) → P (part zs i)
  part_of_all P zero zs i h g = absurd (not-suc-le-zero h)
  part_of_all P (suc n) zs zero h g = (subst (All P) (more n zs) g).0
  part_of_all P (suc n) zs (suc i) h g = subst P (later zs i)
      (part_of_all P n (drop w zs) i (le_of_suc-le-suc h) (subst (All P) (more n zs) g).1)

  -- the last of them
  pub parts_last : (n : ℕ) (zs : List ℕ) → parts (suc n) zs ≡ parts n zs ++ (part zs n ∷ [])
  parts_last zero zs = more 0 zs ∙ ap (λ (x : List A). part zs 0 ∷ x) (none (drop w zs))
      ∙ ap (λ (x : List A). x ++ (part zs 0 ∷ [])) (sym (none zs))
  parts_last (suc n) zs =
      more (suc n) zs
      ∙ ap (λ (x : List A). part zs 0 ∷ x) (parts_last n (drop w zs))
      ∙ ap₂ (λ (x : List A) (e : A). x ++ (e ∷ [])) (sym (more n zs)) (later zs n)

-- ---- w numbers from `at` on
pub part_long : (at w : ℕ) (xs : List ℕ) → at + w ≤ length xs → length (part at w xs) ≡ w
part_long at w xs room = length-take-le w (drop at xs) (simp length-drop (omega (arith, room)))

-- ---- w numbers from `at` on written anew, as a borrow of them leaves the whole
abbrev pub anew : List ℕ → List ℕ → ℕ → ℕ → List ℕ
anew xs ys at w = take at xs ++ (ys ++ drop w (drop at xs))

module _ (xs ys : List ℕ) (at w : ℕ) (room : at + w ≤ length xs) (long : length ys ≡ w) where
  front_long : length (take at xs) ≡ at
  front_long = length-take-le at xs (omega (arith, room))

  pub anew_long : length (anew xs ys at w) ≡ length xs
  anew_long = simp (length-append, length-drop) (omega (arith, room, long, front_long))

  -- they are there
  pub part_same : part at w (anew xs ys at w) ≡ ys
  part_same = ap (take w) (drop_at (take at xs) (ys ++ drop w (drop at xs)) at front_long) ∙ take_at ys (drop w (drop at xs)) w long

  -- the numbers before them are kept
  pub part_before : (b v : ℕ) → b + v ≤ at → part b v (anew xs ys at w) ≡ part b v xs
  part_before b v h =
      kept (ys ++ drop w (drop at xs)) ∙ sym (kept (drop at xs)) ∙ ap (part b v) (take-append-drop at xs)
    where
      kept : (q : List ℕ) → part b v (take at xs ++ q) ≡ part b v (take at xs)
      kept q =
          ap (take v) (drop-append-le b (take at xs) q (omega (arith, h, front_long)))
          ∙ take-append-le v (drop b (take at xs)) q (simp length-drop (omega (arith, h, front_long)))

  -- and those after them
  pub part_after : (b v : ℕ) → at + w ≤ b → part b v (anew xs ys at w) ≡ part b v xs
  part_after b v h = ap (take v) (kept (anew xs ys at w) ∙ ap (drop (b - (at + w))) same ∙ sym (kept xs))
    where
      kept : (l : List ℕ) → drop b l ≡ drop (b - (at + w)) (drop w (drop at l))
      kept l =
          let e : (at + w) + (b - (at + w)) ≡ b = omega (arith, h) in
          sym (ap (drop (b - (at + w))) (drop-drop w at l) ∙ drop-drop (b - (at + w)) (at + w) l ∙ ap (λ (k : ℕ). drop k l) e)

      same : drop w (drop at (anew xs ys at w)) ≡ drop w (drop at xs)
      same = ap (drop w) (drop_at (take at xs) (ys ++ drop w (drop at xs)) at front_long) ∙ drop_at ys (drop w (drop at xs)) w long

-- ---- items of w numbers each
-- the numbers of item i, as a borrow of them says it
pub item_lent : (w i : ℕ) (xs : List ℕ) → take (i * w + w - i * w) (drop (i * w) xs) ≡ item_at w xs i
unfolding item_at
item_lent w i xs = let e : i * w + w - i * w ≡ w = omega arith in ap (λ (k : ℕ). take k (drop (i * w) xs)) e

-- an item ends where a later one begins, or before
next_item : (i j w : ℕ) → i < j → i * w + w ≤ j * w
next_item i zero w l = absurd (not-suc-le-zero l)
next_item zero (suc j) w l = omega arith
next_item (suc i) (suc j) w l = let r = next_item i j w (le_of_suc-le-suc l) in omega (arith, r)

-- ---- item j of w numbers written anew, as a borrow of it leaves the whole
abbrev pub item_anew : List ℕ → List ℕ → ℕ → ℕ → List ℕ
item_anew xs ys w j = take (j * w) xs ++ (ys ++ drop (j * w + w - j * w) (drop (j * w) xs))

module _ (xs ys : List ℕ) (w j : ℕ) (room : j * w + w ≤ length xs) (long : length ys ≡ w) where
  item_anew_lem : (item_anew xs ys w j) ≡ anew xs ys (j * w) w
  item_anew_lem = let e : j * w + w - j * w ≡ w = omega arith in ap (λ (k : ℕ). take (j * w) xs ++ (ys ++ drop k (drop (j * w) xs))) e

  pub item_anew_long : length (item_anew xs ys w j) ≡ length xs
  item_anew_long = ap length item_anew_lem ∙ anew_long xs ys (j * w) w room long

  pub item_same : item_at w (item_anew xs ys w j) j ≡ ys
  unfolding item_at
  item_same = ap (part (j * w) w) item_anew_lem ∙ part_same xs ys (j * w) w room long

  pub item_other : (i : ℕ) → (i ≡ j → ⊥) → item_at w (item_anew xs ys w j) i ≡ item_at w xs i
  unfolding item_at
  item_other i ne = ap (part (i * w) w) item_anew_lem ∙ by (ltb i j) refl
    where
      by : (b : Bool) → ltb i j ≡ b → part (i * w) w (anew xs ys (j * w) w) ≡ part (i * w) w xs
      by true e = part_before xs ys (j * w) w room long (i * w) w (next_item i j w (ltb-true i j e))
      by false e = part_after xs ys (j * w) w room long (i * w) w (next_item j i w (let l = ltb-false i j e in omega (arith, l, ne)))

-- the masks of a move's effects
pub effects_room : (i : ℕ) (xs : List ℕ) → i * 35 + 35 ≤ length xs → length (part 3 32 (item_at 35 xs i)) ≡ 32
unfolding item_at
effects_room i xs room = part_long 3 32 (part (i * 35) 35 xs) (omega (arith, part_long (i * 35) 35 xs room))

module _ {A : Type 0} (w : ℕ) (f : List ℕ → A) where
  items_none : (zs : List ℕ) → items_at w f 0 zs ≡ []
  unfolding items_at
  items_none zs = refl

  items_more : (n : ℕ) (zs : List ℕ) → items_at w f (suc n) zs ≡ f (item_at w zs 0) ∷ items_at w f n (drop w zs)
  unfolding items_at item_at
  items_more n zs = let e : 0 ≡ 0 * w = omega arith in ap (λ (k : ℕ). f (take w (drop k zs)) ∷ items_at w f n (drop w zs)) e

  item_later : (zs : List ℕ) (i : ℕ) → f (item_at w (drop w zs) i) ≡ f (item_at w zs (suc i))
  unfolding item_at
  item_later zs i =
      let e : w + i * w ≡ suc i * w = omega arith in
      ap (λ (x : List ℕ). f (take w x)) (drop-drop (i * w) w zs ∙ ap (λ (k : ℕ). drop k zs) e)

  pub items_length : (k : ℕ) (xs : List ℕ) → length (items_at w f k xs) ≡ k
  items_length = parts_long w (λ zs i. f (item_at w zs i)) (items_at w f) items_none items_more item_later

  pub item_at_lem : (k : ℕ) (xs : List ℕ) (i : ℕ) (d : A) → i < k → get_or (items_at w f k xs) i d ≡ f (item_at w xs i)
  item_at_lem = part_at w (λ zs i. f (item_at w zs i)) (items_at w f) items_none items_more item_later

  pub item_of_all : (P : A → Type 0) (k : ℕ) (xs : List ℕ) (i : ℕ) → i < k → All P (items_at w f k xs) → P (f (item_at w xs i))
  item_of_all = part_of_all w (λ zs i. f (item_at w zs i)) (items_at w f) items_none items_more item_later

  pub items_step : (k : ℕ) (xs : List ℕ) (i : ℕ) (a : A) → i < k → a ≡ f (item_at w xs i)
      → drop i (items_at w f k xs) ≡ a ∷ drop (i + 1) (items_at w f k xs)
  items_step = part_ahead w (λ zs i. f (item_at w zs i)) (items_at w f) items_none items_more item_later

  pub items_end : (k : ℕ) (xs : List ℕ) (i : ℕ) → k ≤ i → drop i (items_at w f k xs) ≡ []
  items_end = parts_end w (λ zs i. f (item_at w zs i)) (items_at w f) items_none items_more item_later

  pub items_last : (k : ℕ) (xs : List ℕ) → items_at w f (suc k) xs ≡ items_at w f k xs ++ (f (item_at w xs k) ∷ [])
  items_last = parts_last w (λ zs i. f (item_at w zs i)) (items_at w f) items_none items_more item_later

  -- the items of the numbers in front
  pub items_front : (k : ℕ) (p q : List ℕ) → k * w ≤ length p → items_at w f k (p ++ q) ≡ items_at w f k p
  unfolding items_at
  items_front zero p q h = refl
  items_front (suc k) p q h =
      let a : w + k * w ≤ length p = omega arith in
      ap₂ (λ (x : List ℕ) (r : List A). f x ∷ r) (take-append-le w p q (omega arith))
      (ap (items_at w f k) (drop-append-le w p q (omega arith)) ∙ items_front k (drop w p) q (simp length-drop (omega arith)))

  -- one item more is laid out after i, by a borrow of its numbers
  pub items_laid : (i : ℕ) (xs zs : List ℕ) → i * w + w ≤ length xs → length zs ≡ w
      → items_at w f (i + 1) (take (i * w) xs ++ (zs ++ drop (i * w + w - i * w) (drop (i * w) xs))) ≡ items_at w f i xs ++ (f zs ∷ [])
  unfolding item_at
  items_laid i xs zs h l =
      let p = take (i * w) xs in
      let q = zs ++ drop (i * w + w - i * w) (drop (i * w) xs) in
      let n : length p ≡ i * w = length-take-le (i * w) xs (omega arith) in
      ap (λ (k : ℕ). items_at w f k (p ++ q)) (add-one i)
      ∙ items_last i (p ++ q)
      ∙ ap₂ (λ (x : List A) (a : A). x ++ (a ∷ []))
      (items_front i p q (omega arith) ∙ sym (items_front i p (drop (i * w) xs) (omega arith))
      ∙ ap (items_at w f i) (take-append-drop (i * w) xs))
      (ap (λ (x : List ℕ). f (take w x)) (drop_at p q (i * w) n) ∙ ap f (take_at zs _ w l))

-- ---- sets, two masks to a set
set_later : (zs : List ℕ) (i : ℕ) → set_from (drop 2 zs) (2 * i) ≡ set_from zs (2 * suc i)
set_later zs i = from_later zs 2 (2 * i) (2 * suc i) (omega arith)

pub sets_long : (n : ℕ) (zs : List ℕ) → length (sets_at n zs) ≡ n
unfolding sets_at
sets_long = parts_long 2 (λ zs i. set_from zs (2 * i)) sets_at (λ zs. refl) (λ n zs. refl) set_later

pub sets_get : (n : ℕ) (zs : List ℕ) (i : ℕ) (d : Literals) → i < n → get_or (sets_at n zs) i d ≡ set_from zs (2 * i)
unfolding sets_at
sets_get = part_at 2 (λ zs i. set_from zs (2 * i)) sets_at (λ zs. refl) (λ n zs. refl) set_later

-- one set more is laid out after k
pub sets_more : (k : ℕ) (zs : List ℕ) (a : Literals) → 2 * k + 2 ≤ length zs
    → sets_at (suc k) (set (set zs (2 * k) a.trues) (2 * k + 1) a.falses) ≡ sets_at k zs ++ (a ∷ [])
unfolding sets_at set_from
sets_more k [] a h = absurd (omega arith)
sets_more k (x ∷ []) a h = absurd (omega arith)
sets_more zero (x ∷ y ∷ zs) a h = refl
sets_more (suc k) (x ∷ y ∷ zs) a h =
    let p : 2 * suc k ≡ suc (suc (2 * k)) = omega arith in
    let q : 2 * suc k + 1 ≡ suc (suc (2 * k + 1)) = omega arith in
    (λ z. sets_at (suc (suc k)) (set (set (x ∷ y ∷ zs) (p z) a.trues) (q z) a.falses))
    ∙ ap (λ (r : List Literals). set_from (x ∷ y ∷ zs) 0 ∷ r) (sets_more k zs a (omega arith))

-- the same, where a count stands before the sets
pub sets_next : (k : ℕ) (zs : List ℕ) (a : Literals) → 2 * k + 3 ≤ length zs
    → let ys = set (set zs (2 * k + 1) a.trues) (2 * k + 2) a.falses in
    (sets_at (k + 1) (drop 1 ys) ≡ sets_at k (drop 1 zs) ++ (a ∷ [])) × (get_or ys 0 0 ≡ get_or zs 0 0)
sets_next k [] a h = absurd (omega arith)
sets_next k (x ∷ zs) a h =
    let p : 2 * k + 1 ≡ suc (2 * k) = omega arith in
    let q : 2 * k + 2 ≡ suc (2 * k + 1) = omega arith in (
      (λ z. sets_at (k + 1) (drop 1 (set (set (x ∷ zs) (p z) a.trues) (q z) a.falses)))
          ∙ ap (λ (n : ℕ). sets_at n (set (set zs (2 * k) a.trues) (2 * k + 1) a.falses)) (add-one k) ∙ sets_more k zs a (omega arith),
      λ z. get_or (set (set (x ∷ zs) (p z) a.trues) (q z) a.falses) 0 0,
    )

-- ---- effects, four masks to an effect
at_later : (zs : List ℕ) (i : ℕ) → effect_at (drop 4 zs) i ≡ effect_at zs (suc i)
unfolding effect_at
at_later zs i =
    let a = from_later zs 4 (4 * i) (4 * suc i) (omega arith) in
    let b = from_later zs 4 (4 * i + 2) (4 * suc i + 2) (omega arith) in
    (λ k. record { condition = a k; result = b k })

pub effects_long : (n : ℕ) (zs : List ℕ) → length (effects_at n zs) ≡ n
unfolding effects_at
effects_long = parts_long 4 effect_at effects_at (λ zs. refl) (λ n zs. refl) at_later

pub effects_get : (n : ℕ) (zs : List ℕ) (i : ℕ) (d : Effect) → i < n → get_or (effects_at n zs) i d ≡ effect_at zs i
unfolding effects_at
effects_get = part_at 4 effect_at effects_at (λ zs. refl) (λ n zs. refl) at_later

-- one effect more is laid out after k
effects_laid : (k : ℕ) (zs : List ℕ) (e : Effect) → 4 * k + 4 ≤ length zs
    → effects_at (suc k) (take (4 * k) zs ++ (masks_of e ++ drop (4 * k + 4) zs)) ≡ effects_at k zs ++ (e ∷ [])
unfolding effects_at effect_at set_from masks_of
effects_laid k [] e h = absurd (omega arith)
effects_laid k (a ∷ []) e h = absurd (omega arith)
effects_laid k (a ∷ b ∷ []) e h = absurd (omega arith)
effects_laid k (a ∷ b ∷ c ∷ []) e h = absurd (omega arith)
effects_laid zero (a ∷ b ∷ c ∷ d ∷ zs) e h = refl
effects_laid (suc k) (a ∷ b ∷ c ∷ d ∷ zs) e h =
    let p : 4 * suc k ≡ suc (suc (suc (suc (4 * k)))) = omega arith in
    let q : 4 * suc k + 4 ≡ suc (suc (suc (suc (4 * k + 4)))) = omega arith in
    (λ z. effects_at (suc (suc k)) (take (p z) (a ∷ b ∷ c ∷ d ∷ zs) ++ (masks_of e ++ drop (q z) (a ∷ b ∷ c ∷ d ∷ zs))))
    ∙ ap (λ (r : List Effect). effect_at (a ∷ b ∷ c ∷ d ∷ zs) 0 ∷ r) (effects_laid k zs e (omega arith))

pub effects_more : (k : ℕ) (zs : List ℕ) (e : Effect) → 4 * k + 4 ≤ length zs
    → effects_at (k + 1) (take (4 * k) zs ++ (masks_of e ++ drop (4 * k + 4) zs)) ≡ effects_at k zs ++ (e ∷ [])
effects_more k zs e h = rw (add-one k) (effects_laid k zs e h)

-- ---- a count, and after it a borrow of its sets or effects
pub sets_laid : (xs ys : List ℕ) (k : ℕ) → length xs ≡ 17 → let zs = set xs 0 k in sets_in (take 1 zs ++ (ys ++ drop 16 (drop 1 zs)))
    ≡ sets_at k ys
unfolding sets_in
sets_laid [] ys k h = absurd (omega arith)
sets_laid (x ∷ xs) ys k h =
    let l : length xs ≤ 16 = omega arith in
    ap (λ (z : List ℕ). sets_at k (ys ++ z)) (drop_of_length-le xs l) ∙ ap (sets_at k) (append-nil ys)

pub action_laid : (xs ys : List ℕ) (p : Literals) (k : ℕ) → length xs ≡ 35 → length ys ≡ 32
    → let zs = set (set (set xs 0 p.trues) 1 p.falses) 2 k in action_from (take 3 zs ++ (ys ++ drop 32 (drop 3 zs))) ≡ action_by p k ys
unfolding action_from set_from
action_laid [] ys p k h l = absurd (omega arith)
action_laid (a ∷ []) ys p k h l = absurd (omega arith)
action_laid (a ∷ b ∷ []) ys p k h l = absurd (omega arith)
action_laid (a ∷ b ∷ c ∷ xs) ys p k h l = ap (action_by p k) (take_at ys (drop 32 xs) 32 l)
