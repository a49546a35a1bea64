-- The bytes of a picture give its clauses back. For TH8 (`bytes_worlds` in `pictures/PictureWorlds`) and the crate plan. Assumes nothing.
use mathlib.Core.Path.{◌≡◌, refl, sym, ap₂, ◌∙◌}
use mathlib.Core.List.{List, [], ◌∷◌}
use Prim.Native.Nat.{ℕ, ◌+◌, ◌*◌, ◌/◌, ◌%◌, ◌^◌, ◌<◌}
use native.Mathlib.Omega.{arith}
use native.Mathlib.Nat.{div-add-mod'}
use lib.Pow.{shr-shr, shr_mod}
use Rattle.sheet.specs.declared.Literals.{Literals}
use Rattle.sheet.specs.Lists.{All}
use Rattle.table.specs.Picture.{mask_bytes, clause_bytes, picture_bytes}
use Rattle.table.proofs.laws.pictures.ClauseOrder.{same_masks}

-- four bytes give a mask back
four : (a b : ℕ) → a < 2 ^ 32 → b < 2 ^ 32 → a / 2 ^ 24 % 256 ≡ b / 2 ^ 24 % 256 → a / 2 ^ 16 % 256 ≡ b / 2 ^ 16 % 256
    → a / 2 ^ 8 % 256 ≡ b / 2 ^ 8 % 256 → a % 256 ≡ b % 256 → a ≡ b
four a b h k p q r s =
    let u : a / 2 ^ 24 ≡ b / 2 ^ 24 = sym (shr_mod 8 24 h) ∙ p ∙ shr_mod 8 24 k in
    let v : a / 2 ^ 16 ≡ b / 2 ^ 16 = up (a / 2 ^ 16) (b / 2 ^ 16) (shr-shr a 16 8 ∙ u ∙ sym (shr-shr b 16 8)) q in
    let w : a / 2 ^ 8 ≡ b / 2 ^ 8 = up (a / 2 ^ 8) (b / 2 ^ 8) (shr-shr a 8 8 ∙ v ∙ sym (shr-shr b 8 8)) r in
    up a b w s
  where
    up : (x y : ℕ) → x / 256 ≡ y / 256 → x % 256 ≡ y % 256 → x ≡ y
    up x y e f = sym (div-add-mod' x 256) ∙ ap₂ (λ (i j : ℕ). i * 256 + j) e f ∙ div-add-mod' y 256

mask_injective : (a b : ℕ) (x y : List ℕ) → a < 2 ^ 32 → b < 2 ^ 32 → mask_bytes a x ≡ mask_bytes b y → (a ≡ b) × (x ≡ y)
unfolding mask_bytes
mask_injective a b x y h k e = (four a b h k (cc) (cc) (cc) (cc), cc)

-- the masks of a clause fit four bytes
abbrev pub Fit : Literals → Type 0
Fit c = (c.trues < 2 ^ 32) × (c.falses < 2 ^ 32)

clauses_injective : (s r : List Literals) → All Fit s → All Fit r → clause_bytes s ≡ clause_bytes r → s ≡ r
unfolding clause_bytes mask_bytes
clauses_injective [] [] f g e = refl
clauses_injective [] (d ∷ r) f g e = absurd (let z : ◌≡◌ {A = ℕ} 0 1 = cc in omega arith)
clauses_injective (c ∷ s) [] f g e = absurd (let z : ◌≡◌ {A = ℕ} 0 1 = cc in omega arith)
clauses_injective (c ∷ s) (d ∷ r) f g e =
    let p = mask_injective c.trues d.trues _ _ f.0.0 g.0.0 e in
    let q = mask_injective c.falses d.falses _ _ f.0.1 g.0.1 p.1 in
    ap₂ (λ (z : Literals) (t : List Literals). z ∷ t) (same_masks p.0 q.0) (clauses_injective s r f.1 g.1 q.1)

-- the clauses alone tell the two lists apart, so the count may be anything
pub bytes_injective : (s r : List Literals) → All Fit s → All Fit r → picture_bytes s ≡ picture_bytes r → s ≡ r
unfolding picture_bytes
bytes_injective s r f g e = clauses_injective s r f g (cc)
