-- A scan from the last member to the first. For W3 (`request_w3` in proofs/Demands), `Entries::last_within` and what it calls, and
-- `Slots::put`. Assumes nothing.
use mathlib.Core.Path.{◌≡◌, refl, sym, ap, ◌∙◌, subst}
use mathlib.Core.Bool.{Bool, true, false, not, ◌||◌, cond, true≢false}
use mathlib.Core.List.{List, [], ◌∷◌, ◌++◌}
use mathlib.Core.Logic.{◌↔◌}
use Prim.Native.Nat.{ℕ, zero, suc, ◌+◌, ◌-◌, ◌≤◌, ◌<◌}
use native.Mathlib.Nat.{not-suc-le-zero, le_of_suc-le-suc}
use native.Mathlib.Omega.{arith}
use lib.Dec.{T}
use lib.ListN.{length, get_or, take, drop}
use lib.Seq.{take-add, length-take-le}
use Rattle.sheet.specs.declared.Literals.{Literals}
use Rattle.std.specs.Prelude.{Option, Some, None}
use Rattle.std.specs.Option.{is_some}
use Rattle.sheet.specs.Lists.{All, any_of}
use Rattle.table.specs.Fates.{shifted, last_of}
use Rattle.sheet.specs.Literals.{no_literal, within}
use Rattle.sheet.proofs.laws.base.Bools.{T_true, T_false, true_T, false_T}
use Rattle.sheet.proofs.laws.base.ListFacts.{all_at, all_places, any_none}
use Rattle.std.proofs.lemmas.List.{take_more, at_drop_more}

-- one member more at the end
last_more : (f : Literals → Bool) (xs : List Literals) (x : Literals) → last_of f (xs ++ x ∷ []) ≡ cond (f x) (Some (length xs))
    (last_of f xs)
unfolding last_of shifted
last_more f [] x = refl
last_more f (y ∷ ys) x = ap (shifted (f y)) (last_more f ys x) ∙ at (f x)
  where
    at : (b : Bool) → shifted (f y) (cond b (Some (length ys)) (last_of f ys))
        ≡ cond b (Some (suc (length ys))) (shifted (f y) (last_of f ys))
    at true = refl
    at false = refl

is_some_shifted : (b : Bool) (r : Option ℕ) → is_some (shifted b r) ≡ (b || is_some r)
unfolding shifted
is_some_shifted true (Some j) = refl
is_some_shifted true None = refl
is_some_shifted false (Some j) = refl
is_some_shifted false None = refl

-- a place is found exactly if some member passes
found_any : (f : Literals → Bool) (xs : List Literals) → is_some (last_of f xs) ≡ any_of f xs
unfolding last_of
found_any f [] = refl
found_any f (x ∷ xs) = is_some_shifted (f x) (last_of f xs) ∙ ap (λ (b : Bool). f x || b) (found_any f xs)

pub found_some : (f : Literals → Bool) (xs : List Literals) (r : Option ℕ) (i : ℕ) → r ≡ last_of f xs → r ≡ Some i → any_of f xs ≡ true
found_some f xs r i e q = sym (found_any f xs) ∙ ap is_some (sym e ∙ q)

-- whether a place is found, by the names that the list and the result have
pub found_is : (f : Literals → Bool) {xs ys : List Literals} {r : Option ℕ} {b : Bool} → b ≡ is_some r → r ≡ last_of f ys → ys ≡ xs
    → any_of f xs ≡ b
found_is f {xs} p q e = sym (p ∙ ap is_some q ∙ found_any f _ ∙ ap (any_of f) e)

pub found_none : (f : Literals → Bool) (xs : List Literals) (r : Option ℕ) → r ≡ last_of f xs → r ≡ None → any_of f xs ≡ false
found_none f xs r e q = sym (found_any f xs) ∙ ap is_some (sym e ∙ q)

-- ---- the first i members, by the last of them
pub last_down : (f : Literals → Bool) (xs : List Literals) (i : ℕ) → 0 < i → i ≤ length xs
    → last_of f (take i xs) ≡ cond (f (get_or xs (i - 1) no_literal)) (Some (i - 1)) (last_of f (take (i - 1) xs))
last_down f xs i pos le =
    let back : i ≡ (i - 1) + 1 = omega arith in
    ap (λ (j : ℕ). last_of f (take j xs)) back
    ∙ ap (last_of f) (take_more xs (i - 1) no_literal (omega arith))
    ∙ last_more f (take (i - 1) xs) (get_or xs (i - 1) no_literal)
    ∙ ap (λ (j : ℕ). cond (f (get_or xs (i - 1) no_literal)) (Some j) (last_of f (take (i - 1) xs)))
    (length-take-le (i - 1) xs (omega arith))

pub last_nothing : (f : Literals → Bool) (xs : List Literals) (i : ℕ) → i ≤ 0 → last_of f (take i xs) ≡ None
unfolding last_of
last_nothing f xs i z = let e : i ≡ 0 = omega arith in ap (λ (j : ℕ). last_of f (take j xs)) e

-- ---- the last four of the first k members at once
module _ (f : Literals → Bool) where
  is_none : (r : Option ℕ) → is_some r ≡ false → r ≡ None
  is_none (Some j) e = absurd (true≢false e)
  is_none None e = refl

  last_before : (xs ys : List Literals) → any_of f ys ≡ false → last_of f (xs ++ ys) ≡ last_of f xs
  unfolding last_of
  last_before [] ys e = is_none (last_of f ys) (found_any f ys ∙ e)
  last_before (x ∷ xs) ys e = ap (shifted (f x)) (last_before xs ys e)

  -- the tests of four members from place i on
  front_tested : (n : ℕ) (xs : List Literals) (i j : ℕ) → j ≡ i + 1 → i < length xs
      → any_of f (take (suc n) (drop i xs)) ≡ (f (get_or xs i no_literal) || any_of f (take n (drop j xs)))
  front_tested n xs i j is lt =
      at_drop_more (λ ys. any_of f (take (suc n) ys)) xs i no_literal lt
      ∙ ap (λ (k : ℕ). f (get_or xs i no_literal) || any_of f (take n (drop k xs))) (sym is)

  in_turn : (a b c d : Bool) → (a || (b || (c || (d || false)))) ≡ (a || b || c || d)
  in_turn true b c d = refl
  in_turn false true c d = refl
  in_turn false false true d = refl
  in_turn false false false true = refl
  in_turn false false false false = refl

  pub four_tested : (xs : List Literals) (k : ℕ) → 4 ≤ k → k ≤ length xs → any_of f (take 4 (drop (k - 4) xs))
      ≡ (f (get_or xs (k - 4) no_literal) || f (get_or xs (k - 3) no_literal) || f (get_or xs (k - 2) no_literal)
      || f (get_or xs (k - 1) no_literal))
  four_tested xs k h le =
      let t : ℕ → Bool = λ i. f (get_or xs (k - i) no_literal) in
      front_tested 3 xs (k - 4) (k - 3) (omega arith) (omega arith)
      ∙ ap (λ b. t 4 || b) (front_tested 2 xs (k - 3) (k - 2) (omega arith) (omega arith)
      ∙ ap (λ b. t 3 || b) (front_tested 1 xs (k - 2) (k - 1) (omega arith) (omega arith)
      ∙ ap (λ b. t 2 || b) (front_tested 0 xs (k - 1) k (omega arith) (omega arith))))
      ∙ in_turn (t 4) (t 3) (t 2) (t 1)

  pub four_missed : (xs : List Literals) (i j k : ℕ) → any_of f (take 4 (drop (k - 4) xs)) ≡ false → i + 4 ≡ k → j ≡ k
      → last_of f (take i xs) ≡ last_of f (take j xs)
  four_missed xs i j k e is js =
      let back : i ≡ k - 4 = omega arith in
      sym (last_before (take i xs) (take 4 (drop i xs)) (ap (λ (h : ℕ). any_of f (take 4 (drop h xs))) back ∙ e))
      ∙ ap (last_of f) (sym (take-add i 4 xs))
      ∙ ap (λ (h : ℕ). last_of f (take h xs)) (is ∙ sym js)

  -- the first i + 1 members, where the last of them passes, and where it does not
  here : (xs : List Literals) (i j : ℕ) → j ≡ i + 1 → j ≤ length xs → last_of f (take j xs)
      ≡ cond (f (get_or xs i no_literal)) (Some i) (last_of f (take i xs))
  here xs i j is le =
      let back : j - 1 ≡ i = omega arith in
      last_down f xs j (omega arith) le
      ∙ ap (λ (h : ℕ). cond (f (get_or xs h no_literal)) (Some h) (last_of f (take h xs))) back

  hit : (xs : List Literals) (i j : ℕ) → j ≡ i + 1 → j ≤ length xs → f (get_or xs i no_literal) ≡ true → last_of f (take j xs) ≡ Some i
  hit xs i j is le t = here xs i j is le ∙ ap (λ (b : Bool). cond b (Some i) (last_of f (take i xs))) t

  missed : (xs : List Literals) (i j : ℕ) → j ≡ i + 1 → j ≤ length xs → f (get_or xs i no_literal) ≡ false
      → last_of f (take j xs) ≡ last_of f (take i xs)
  missed xs i j is le t = here xs i j is le ∙ ap (λ (b : Bool). cond b (Some i) (last_of f (take i xs))) t

-- the last of four members before place k that passes, tested from the last one down
module _ (f : Literals → Bool) (xs : List Literals) (k : ℕ) (h : 4 ≤ k) (le : k ≤ length xs) where
  abbrev test : ℕ → Bool
  test i = f (get_or xs (k - i) no_literal)

  past_3 : test 1 ≡ false → last_of f (take k xs) ≡ last_of f (take (k - 1) xs)
  past_3 = missed f xs (k - 1) k (omega arith) le

  past_2 : test 1 ≡ false → test 2 ≡ false → last_of f (take k xs) ≡ last_of f (take (k - 2) xs)
  past_2 c b = past_3 c ∙ missed f xs (k - 2) (k - 1) (omega arith) (omega arith) b

  past_1 : test 1 ≡ false → test 2 ≡ false → test 3 ≡ false → last_of f (take k xs) ≡ last_of f (take (k - 3) xs)
  past_1 c b a = past_2 c b ∙ missed f xs (k - 3) (k - 2) (omega arith) (omega arith) a

  pub last_3 : test 1 ≡ true → last_of f (take k xs) ≡ Some (k - 1)
  last_3 = hit f xs (k - 1) k (omega arith) le

  pub last_2 : test 1 ≡ false → test 2 ≡ true → last_of f (take k xs) ≡ Some (k - 2)
  last_2 c t = past_3 c ∙ hit f xs (k - 2) (k - 1) (omega arith) (omega arith) t

  pub last_1 : test 1 ≡ false → test 2 ≡ false → test 3 ≡ true → last_of f (take k xs) ≡ Some (k - 3)
  last_1 c b t = past_2 c b ∙ hit f xs (k - 3) (k - 2) (omega arith) (omega arith) t

  pub last_0 : test 1 ≡ false → test 2 ≡ false → test 3 ≡ false → any_of f (take 4 (drop (k - 4) xs)) ≡ true
      → last_of f (take k xs) ≡ Some (k - 4)
  last_0 c b a e = past_1 c b a ∙ hit f xs (k - 4) (k - 3) (omega arith) (omega arith)
      (first (test 4) _ _ _ a b c (sym (four_tested f xs k h le) ∙ e))
    where
      first : (x p q r : Bool) → p ≡ false → q ≡ false → r ≡ false → (x || p || q || r) ≡ true → x ≡ true
      first true p q r u v w e = refl
      first false p q r u v w e = (λ i. sym u i || sym v i || sym w i) ∙ e

-- what a test of a member that was read says
pub shown : {r b : Bool} {e x : Literals} (l : Literals) → r ≡ within e l → e ≡ x → r ≡ b → within x l ≡ b
shown l p q k = sym (p ∙ ap (λ (y : Literals). within y l) q) ∙ k

-- ---- what the scan gives, by places, for any test and any list
-- nothing is found exactly if no member passes
none_found : (f : Literals → Bool) (xs : List Literals) → last_of f xs ≡ None → All (λ x. T (not (f x))) xs
none_found f xs e = any_none f xs (false_T (any_of f xs) (found_none f xs None (sym e) refl))

found_nothing : (f : Literals → Bool) (xs : List Literals) → All (λ x. T (not (f x))) xs → last_of f xs ≡ None
unfolding last_of shifted
found_nothing f [] h = refl
found_nothing f (x ∷ xs) h = ap (shifted (f x)) (found_nothing f xs h.1)
    ∙ ap (λ (b : Bool). cond b (Some 0) None) (T_false (f x) h.0)

pub last_none : (f : Literals → Bool) (xs : List Literals) → (last_of f xs ≡ None) ↔ All (λ x. T (not (f x))) xs
last_none f xs = (none_found f xs, found_nothing f xs)

-- the member at place i passes, and none after it does
abbrev LastAt : (Literals → Bool) → List Literals → ℕ → Type 0
LastAt f xs i = (i < length xs) × T (f (get_or xs i no_literal)) × ((j : ℕ) → i < j → j < length xs → T (not (f (get_or xs j no_literal))))

-- the same with one member more in front
last_behind : (f : Literals → Bool) (x : Literals) (xs : List Literals) (i : ℕ) → LastAt f xs i → LastAt f (x ∷ xs) (suc i)
last_behind f x xs i h = (omega (arith, h.0), h.1, later)
  where
    later : (j : ℕ) → suc i < j → j < length (x ∷ xs) → T (not (f (get_or (x ∷ xs) j no_literal)))
    later zero a b = absurd (not-suc-le-zero a)
    later (suc j) a b = h.2 j (le_of_suc-le-suc a) (le_of_suc-le-suc b)

last_front : (f : Literals → Bool) (x : Literals) (xs : List Literals) → f x ≡ true → last_of f xs ≡ None → LastAt f (x ∷ xs) 0
last_front f x xs t e = (omega arith, true_T (f x) t, later)
  where
    later : (j : ℕ) → 0 < j → j < length (x ∷ xs) → T (not (f (get_or (x ∷ xs) j no_literal)))
    later zero a b = absurd (not-suc-le-zero a)
    later (suc j) a b = all_at (λ y. T (not (f y))) xs j no_literal (le_of_suc-le-suc b) (none_found f xs e)

-- the place that was found
abbrev place : Option ℕ → ℕ
place (Some j) = j
place None = 0

found_last : (f : Literals → Bool) (xs : List Literals) (i : ℕ) → last_of f xs ≡ Some i → LastAt f xs i
unfolding last_of shifted
found_last f [] i e = absurd (true_T false (ap is_some e))
found_last f (x ∷ xs) i e = go (last_of f xs) refl (found_last f xs) e
  where
    front : (b : Bool) → f x ≡ b → last_of f xs ≡ None → cond b (Some 0) None ≡ Some i → LastAt f (x ∷ xs) i
    front true t q e = subst (LastAt f (x ∷ xs)) (ap place e) (last_front f x xs t q)
    front false t q e = absurd (true_T false (ap is_some e))

    go : (r : Option ℕ) → last_of f xs ≡ r → ((k : ℕ) → last_of f xs ≡ Some k → LastAt f xs k) → shifted (f x) r ≡ Some i
        → LastAt f (x ∷ xs) i
    go (Some k) q more e = subst (LastAt f (x ∷ xs)) (ap place e) (last_behind f x xs k (more k q))
    go None q more e = front (f x) refl q e

last_found : (f : Literals → Bool) (xs : List Literals) (i : ℕ) → LastAt f xs i → last_of f xs ≡ Some i
unfolding last_of shifted
last_found f [] i h = absurd (not-suc-le-zero h.0)
last_found f (x ∷ xs) zero h =
    ap (shifted (f x)) (found_nothing f xs (all_places (λ y. T (not (f y))) xs no_literal (λ j l. h.2 (suc j) (omega arith) (omega arith))))
    ∙ ap (λ (b : Bool). cond b (Some 0) None) (T_true (f x) h.1)
last_found f (x ∷ xs) (suc i) h =
    ap (shifted (f x)) (last_found f xs i (le_of_suc-le-suc h.0, h.1, λ j a b. h.2 (suc j) (omega arith) (omega arith)))

pub last_at : (f : Literals → Bool) (xs : List Literals) (i : ℕ) → (last_of f xs ≡ Some i) ↔ LastAt f xs i
last_at f xs i = (found_last f xs i, last_found f xs i)

-- where some member passes, a place is found
pub some_found : (f : Literals → Bool) (xs : List Literals) → any_of f xs ≡ true → (i : ℕ) × (last_of f xs ≡ Some i)
some_found f xs e = go (last_of f xs) refl
  where
    go : (r : Option ℕ) → last_of f xs ≡ r → (i : ℕ) × (last_of f xs ≡ Some i)
    go (Some i) q = (i, q)
    go None q = absurd (true_T false (sym (found_none f xs None (sym q) refl) ∙ e))
