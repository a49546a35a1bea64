-- The literals of an entry, listed as one-literal clauses. For `picture_clauses::units`. Assumes nothing.
use mathlib.Core.Path.{◌≡◌, sym, ap, ◌∙◌}
use mathlib.Core.List.{List, [], ◌∷◌, ◌++◌, map, append-nil}
use Prim.Native.Nat.{ℕ, ◌+◌, ◌-◌, ◌≤◌, ◌<◌}
use native.Mathlib.Omega.{arith}
use lib.ListN.{length, length-append}
use lib.Seq.{append_snoc}
use Rattle.sheet.specs.declared.Literals.{Literals}
use Rattle.sheet.specs.Literals.{literal, members}
use Rattle.sheet.specs.inner.Masks.{next}
use Rattle.sheet.proofs.laws.literals.LiteralBytes.{next_next, next_ge, members_next, members_loop, members_end}
use Rattle.table.specs.Picture.{units}

-- l is the next literal of e, and us are those before it
pub record Listed (e : Literals) (l : ℕ) (us : List Literals) : Type 0 where
  pub here : next e l ≡ l
  pub few : length us ≤ l
  pub onwards : us ++ map literal (members e l) ≡ units e

pub listed_start : (e : Literals) {l : ℕ} {us : List Literals} → us ≡ [] → l ≡ next e 0 → Listed e l us
unfolding units
listed_start e {l} p q = record {
  here = ap (next e) q ∙ next_next e 0 ∙ sym q;
  few = omega (arith, ap length p);
  onwards =
      ap (λ (x : List Literals). x ++ map literal (members e l)) p
      ∙ ap (λ (k : ℕ). map literal (members e k)) q ∙ ap (map literal) (sym (members_next e 0));
}

module _ {e : Literals} {l : ℕ} {us : List Literals} (g : Listed e l us) where
  pub listed_on : l < 64 → {one : Literals} → one ≡ literal l → {m : ℕ} → m ≡ next e (l + 1) → {vs : List Literals} → vs ≡ us ++ one ∷ []
      → Listed e m vs
  listed_on lt {one} is {m} q {vs} p = record {
    here = ap (next e) q ∙ next_next e (l + 1) ∙ sym q;
    few = omega (arith, g.few, q, next_ge e (l + 1), ap length p, length-append us (one ∷ []));
    onwards =
        ap (λ (x : List Literals). x ++ map literal (members e m)) p
        ∙ append_snoc us one (map literal (members e m))
        ∙ ap (λ (x : Literals). us ++ (x ∷ map literal (members e m))) is
        ∙ ap (λ (k : ℕ). us ++ (literal l ∷ map literal (members e k))) q
        ∙ ap (λ (r : List ℕ). us ++ map literal r) (sym (members_loop e l g.here lt))
        ∙ g.onwards;
  }

  pub listed_end : 64 ≤ l → us ≡ units e
  listed_end le = sym (append-nil us) ∙ ap (λ (r : List ℕ). us ++ map literal r) (sym (members_end e l le)) ∙ g.onwards

-- the next literal is a later one
pub listed_less : (a : Literals) (l m : ℕ) → l < 64 → m ≡ next a (l + 1) → 64 - m < 64 - l
listed_less a l m h e = omega (arith, next_ge a (l + 1))
