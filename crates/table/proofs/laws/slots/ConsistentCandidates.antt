-- The consistent ones of candidates, one by one and part by part; a turn and the end of a loop that puts them. For `Slots::admit`,
-- `starts::widen_or`, `starts::widen_all`, `picture_clauses::put_joined` and `picture_clauses::join_lists`. Assumes nothing.
use Prim.Native.Nat.{ℕ, ◌+◌, ◌≤◌, ◌<◌}
use mathlib.Core.Path.{◌≡◌, sym, ap, ◌∙◌}
use mathlib.Core.Bool.{Bool, true, false}
use mathlib.Core.List.{List, [], ◌∷◌, ◌++◌, map}
use lib.ListN.{length, get_or, drop}
use Rattle.std.proofs.lemmas.List.{drop_more, drop_all}
use Rattle.sheet.specs.declared.Literals.{Literals}
use Rattle.sheet.specs.Literals.{no_literal, join, consistent}
use Rattle.sheet.specs.Lists.{add_if, keep, collect}
use Rattle.sheet.proofs.laws.literals.LiteralSets.{consistent_join}
use Rattle.table.proofs.laws.arrays.KeptMembers.{keep_append}

-- ---- one candidate

pub kept_one : (c : Literals) → consistent c ≡ true → keep consistent (c ∷ []) ≡ c ∷ []
kept_one c e = ap (λ (b : Bool). add_if b c []) e

pub left_out : (c : Literals) → consistent c ≡ false → keep consistent (c ∷ []) ≡ []
left_out c e = ap (λ (b : Bool). add_if b c []) e

pub stays_inconsistent : (d e : Literals) → consistent d ≡ false → consistent (join d e) ≡ false
stays_inconsistent d e h = consistent_join d e ∙ rw h

-- ---- what is split is kept part by part

pub keep_split : (bs cs ds : List Literals) → bs ≡ cs ++ ds → keep consistent bs ≡ keep consistent cs ++ keep consistent ds
keep_split bs cs ds e = ap (keep consistent) e ∙ keep_append consistent cs ds

-- ---- d joined with the members of a list, one after the other

pub joined_step : (d a w : Literals) (xs ys : List Literals) → xs ≡ a ∷ ys → w ≡ join d a
    → keep consistent (map (λ x. join d x) xs) ≡ keep consistent (w ∷ []) ++ keep consistent (map (λ x. join d x) ys)
joined_step d a w xs ys e q =
    keep_split (map (λ x. join d x) xs) (w ∷ []) (map (λ x. join d x) ys)
    (ap (map (λ (x : Literals). join d x)) e ∙ ap (λ (y : Literals). y ∷ map (λ x. join d x) ys) (sym q))

pub joined_end : (d : Literals) (xs : List Literals) → xs ≡ [] → keep consistent (map (λ x. join d x) xs) ≡ []
joined_end d xs e = ap (λ (r : List Literals). keep consistent (map (λ x. join d x) r)) e

-- ---- what f makes of the members, one after the other
module _ (f : Literals → List Literals) where
  pub collect_step : (e : Literals) (xs ys : List Literals) → xs ≡ e ∷ ys → keep consistent (collect f xs) ≡ keep consistent (f e)
      ++ keep consistent (collect f ys)
  collect_step e xs ys q = keep_split (collect f xs) (f e) (collect f ys) (ap (collect f) q)

  pub collect_end : (xs : List Literals) → xs ≡ [] → keep consistent (collect f xs) ≡ []
  collect_end xs q = ap (λ (r : List Literals). keep consistent (collect f r)) q

-- ---- the same over the members from number i on
module _ (xs : List Literals) (i : ℕ) where
  pub joined_here : (d : Literals) {a x : Literals} → i < length xs → a ≡ get_or xs i no_literal → x ≡ join d a
      → keep consistent (map (λ y. join d y) (drop i xs))
      ≡ keep consistent (x ∷ []) ++ keep consistent (map (λ y. join d y) (drop (i + 1) xs))
  joined_here d lt e q = joined_step d _ _ _ _ (drop_more xs i no_literal lt) (q ∙ ap (join d) e)

  pub joined_past : (d : Literals) → length xs ≤ i → keep consistent (map (λ y. join d y) (drop i xs)) ≡ []
  joined_past d le = joined_end d _ (drop_all i xs le)

  pub collect_here : (f : Literals → List Literals) {e : Literals} → i < length xs → e ≡ get_or xs i no_literal
      → keep consistent (collect f (drop i xs)) ≡ keep consistent (f e) ++ keep consistent (collect f (drop (i + 1) xs))
  collect_here f lt q =
      collect_step f _ _ _ (drop_more xs i no_literal lt ∙ ap (λ (x : Literals). x ∷ drop (i + 1) xs) (sym q))

  pub collect_past : (f : Literals → List Literals) → length xs ≤ i → keep consistent (collect f (drop i xs)) ≡ []
  collect_past f le = collect_end f _ (drop_all i xs le)
