-- Loops over the pairs of a list's entries by their places: what a turn at i adds, and what is left at the end. For `tables::is_antichain`.
-- Assumes nothing.
use Rattle.std.proofs.Common.{◌≡◌, ℕ, ◌+◌, ◌<◌, ◌≤◌, List, Bool, true, false, ◌&&◌, ◌||◌, not, length, get_or, drop, ap, sym, ◌∙◌}
use Rattle.std.proofs.lemmas.List.{at_drop_more}
use lib.ListN.{drop_of_length-le}
use Rattle.sheet.specs.declared.Literals.{Literals}
use Rattle.sheet.specs.Literals.{within}
use Rattle.table.specs.Minimal.{apart, antichain}

module _ (es : List Literals) (i : ℕ) where
  pub antichain_at : (d : Literals) → i < length es → antichain (drop i es)
      ≡ (apart (get_or es i d) (drop (i + 1) es) && antichain (drop (i + 1) es))
  unfolding antichain
  antichain_at d h = at_drop_more antichain es i d h

  pub antichain_done : length es ≤ i → antichain (drop i es) ≡ true
  unfolding antichain
  antichain_done h = ap antichain (drop_of_length-le es {i = i} h)

  apart_at : (a d : Literals) → i < length es → apart a (drop i es)
      ≡ (not (within a (get_or es i d) || within (get_or es i d) a) && apart a (drop (i + 1) es))
  unfolding apart
  apart_at a d h = at_drop_more (apart a) es i d h

  -- the entry at i, x, is tested with a
  pub apart_ends : (a d x : Literals) → x ≡ get_or es i d → i < length es → (within a x || within x a) ≡ true → apart a (drop i es) ≡ false
  apart_ends a d x e h t = apart_at a d h ∙ ap (λ (y : Literals). not (within a y || within y a) && apart a (drop (i + 1) es)) (sym e)
      ∙ ap (λ (b : Bool). not b && apart a (drop (i + 1) es)) t

  pub apart_goes_on : (a d x : Literals) → x ≡ get_or es i d → i < length es → (within a x || within x a) ≡ false
      → apart a (drop i es) ≡ apart a (drop (i + 1) es)
  apart_goes_on a d x e h t = apart_at a d h ∙ ap (λ (y : Literals). not (within a y || within y a) && apart a (drop (i + 1) es)) (sym e)
      ∙ ap (λ (b : Bool). not b && apart a (drop (i + 1) es)) t

  pub apart_done : (a : Literals) → length es ≤ i → apart a (drop i es) ≡ true
  unfolding apart
  apart_done a h = ap (apart a) (drop_of_length-le es {i = i} h)

pub ruleset pairs_tested = (antichain_at, antichain_done, apart_ends, apart_goes_on, apart_done)
