-- What becomes of a candidate that is put (document 02, W3): the entry that it is tested against, and whether it is dropped or added.
use Rattle.std.specs.Prelude.{Bool, not, cond, List, [], ◌∷◌, ℕ, suc, ◌+◌, ◌-◌, eqb, length}
use Rattle.sheet.specs.declared.Literals.{Literals}
use Rattle.sheet.specs.Literals.{within}
use Rattle.sheet.specs.Lists.{any_of, keep}
use Rattle.std.specs.Prelude.{Option, Some, None}
use Rattle.table.specs.declared.slots.Fate.{Fate}
use Rattle.table.specs.declared.slots.Fate.TheVariants.{Dropped, Added, Full}

-- one place further, or at place 0 if b
unfoldable pub shifted : Bool → Option ℕ → Option ℕ
shifted b (Some i) = Some (suc i)
shifted b None = cond b (Some 0) None

-- the place of the last member that passes the test; nothing exactly if none does
unfoldable pub last_of : (Literals → Bool) → List Literals → Option ℕ
last_of f [] = None
last_of f (x ∷ xs) = shifted (f x) (last_of f xs)

-- the last entry of t whose literals all lie in c (document 02, W3); nothing exactly if there is none
abbrev pub last_within : List Literals → Literals → Option ℕ
last_within t c = last_of (λ e. within e c) t

-- the members that do not contain c
abbrev pub left : List Literals → Literals → List Literals
left s c = keep (λ e. not (within c e)) s

-- dropped; added, with so many removed, and the new count; full
unfoldable pub fate_of : ℕ → List Literals → Literals → Fate
fate_of cap s c =
    cond (any_of (λ e. within e c) s) Dropped
    (cond (eqb (length (left s c)) cap) Full (Added (length s - length (left s c)) (length (left s c) + 1)))
