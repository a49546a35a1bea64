-- What is left of candidates that are put is the least of them (source document 001, Definition 1). For TH8 (`pictures/Primes`) and the
-- tables that calls return (`answers/CallTables`). Assumes nothing.
use mathlib.Core.Path.{◌≡◌, sym, ◌∙◌, subst}
use mathlib.Core.Logic.{◌⊎◌, inl, inr, ◌↔◌}
use mathlib.Core.Bool.{not}
use mathlib.Core.Option.{some}
use mathlib.Core.List.Memᴰ
use mathlib.Core.List.{List, [], ◌∷◌, Memᴰ}
use Prim.Native.Nat.{ℕ}
use lib.Dec.{T}
use Rattle.sheet.specs.declared.Literals.{Literals}
use Rattle.sheet.specs.Literals.{within}
use Rattle.sheet.proofs.laws.base.Bools.{both, T_true}
use Rattle.sheet.proofs.laws.literals.LiteralSets.{within_antisym, within_refl, within_trans}
use Rattle.sheet.proofs.laws.base.ListMembers.{any_member, all_members, some_member, each_member}
use Rattle.table.specs.Minimal.{Antichain, put_all, Least}
use Rattle.table.proofs.laws.slots.PutInvariants.{put_all_all, put_all_antichain, put_all_inside}

-- ---- no member lies in another

pub within_equal : (a b : Literals) → T (within a b) → T (within b a) → a ≡ b
within_equal a b f g = within_antisym a b (T_true (within a b) f) (T_true (within b a) g)

abbrev pub Besides : Literals → Literals → Type 0
Besides c d = T (not (within c d)) × T (not (within d c))

-- two members of which one lies in the other are one
pub antichain_equal : (s : List Literals) → Antichain s → (c d : Literals) → Memᴰ c s → Memᴰ d s → T (within c d) → c ≡ d
antichain_equal [] a c d m k t = absurd (Memᴰ.not-nil m)
antichain_equal (x ∷ s) a c d m k t = pick (Memᴰ.cases_cons m) (Memᴰ.cases_cons k) (λ u v. antichain_equal s a.1 c d u v t)
  where
    pick : (c ≡ x) ⊎ Memᴰ c s → (d ≡ x) ⊎ Memᴰ d s → (Memᴰ c s → Memᴰ d s → c ≡ d) → c ≡ d
    pick (inl p) (inl q) rec = p ∙ sym q
    pick (inl p) (inr v) rec =
        both (within x d) (subst (λ (z : Literals). T (within z d)) p t) (each_member (Besides x) s a.0 d v).0
    pick (inr u) (inl q) rec =
        both (within c x) (subst (λ (z : Literals). T (within c z)) q t) (each_member (Besides x) s a.0 c u).1
    pick (inr u) (inr v) rec = rec u v

-- ---- what stays of the candidates

-- nothing else comes in
pub put_from : (cap : ℕ) (cs r : List Literals) → put_all cap cs [] ≡ some r → (x : Literals) → Memᴰ x r → Memᴰ x cs
put_from cap cs r e =
    each_member (λ x. Memᴰ x cs) r
    (put_all_all (λ x. Memᴰ x cs) cap cs [] r e tt (all_members (λ x. Memᴰ x cs) cs (λ x m. m)))

-- so a member of the new list lies in each candidate
pub put_covers : (cap : ℕ) (cs r : List Literals) → put_all cap cs [] ≡ some r → (x : Literals) → Memᴰ x cs → (y : Literals)
    × Memᴰ y r × T (within y x)
put_covers cap cs r e x m =
    some_member (λ y. T (within y x)) r (put_all_inside x cap cs [] r e (inr (any_member (λ y. T (within y x)) cs x m (within_refl x))))

-- and the new list is the least candidates (source document 001, Definition 1)
pub put_least : (cap : ℕ) (cs r : List Literals) → put_all cap cs [] ≡ some r → (d : Literals) → Memᴰ d r ↔ Least cs d
put_least cap cs r e d = (there, back)
  where
    there : Memᴰ d r → Least cs d
    there m = (put_from cap cs r e d m, least)
      where
        least : (c : Literals) → Memᴰ c cs → T (within c d) → c ≡ d
        least c k t =
            let y = put_covers cap cs r e c k in
            let q = antichain_equal r (put_all_antichain cap cs [] r e tt) y.0 d y.1 m (within_trans y.0 c d y.2 t) in
            within_equal c d t (subst (λ (z : Literals). T (within z c)) q y.2)

    back : Least cs d → Memᴰ d r
    back h =
        let y = put_covers cap cs r e d h.0 in
        Memᴰ.cast (sym (h.1 y.0 (put_from cap cs r e y.0 y.1) y.2)) y.1
