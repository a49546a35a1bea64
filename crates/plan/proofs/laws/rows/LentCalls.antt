-- A call that is handed a lent slice which the caller still wants returns with the slice at its last list (`lent_call`). For RowCalls and
-- the call `run`. Assumes `Logic`, and that the table of calls is monotone under a frame.
use mathlib.Core.Path.{◌≡◌, refl, sym, ◌∙◌, subst}
use Prim.Native.Nat.{ℕ}
use mathlib.Core.List.{[], List, ◌∷◌}
use lib.ListN.{length}
use seplogic.Ra.Ura.{Ura}
use base.Fraction.{full_share}
use mir.Syntax.{Callee, Lifetime}
use mir.Val.{Val}
use base.Logic.{SProp, ent, emp, sep, guard, via, mono_l, mono∗, emp∗, comm∗}
use base.Fml.{Lft, GName, Share, Fml, flft}
use prog.Wp.{Calls}
use types.Logic.{Logic, sem}
use contract.Monad.{fact, fact_i}
use sound.WpLaws.{FmC}
use types.Kit.{Item, Step, step, prop, mean, ‵, raw, ◌⊛◌, some, given, later, ◌$◌, ◌∵◌, !, qed, by, move, use2, use3, split, pick}
use types.Kit.{learn, rewrite, await, updating, now as at_once, show, check, done}
use types.Tokens.{lft_new, lft_end}
use denote.RattleType.{RattleType}
use denote.Ref.{MutBor}
use denote.Slice.{slice_val, MutSlice, Room, finally}
use denote.Triple.Statement.{Contract, Triple}
use Rattle.plan.proofs.laws.rows.RelentRows.{LentAgain, lends_again, comes_back}

-- a goal P with two facts: both are shown, and P is left
pub says_both : {M : Type 1} {𝓤 : Ura M} {𝓛 : Logic 𝓤} {K : Type 0} {Γ : List (Item 𝓤)} → K
    → {φ ψ : Type 0} {P : SProp 𝓤} → φ → ψ
    → Step K 𝓛 Γ (prop P) Γ (prop (sep 𝓤 P (sep 𝓤 (fact 𝓤 φ) (fact 𝓤 ψ))))
says_both {𝓤 = 𝓤} t {φ} {ψ} {P} x y =
    step
    (λ s.
    record {
      prf = via 𝓤 P s.prf (via 𝓤 (sep 𝓤 (emp 𝓤) P) (emp∗ 𝓤 P)
          (via 𝓤 (sep 𝓤 (sep 𝓤 (fact 𝓤 φ) (fact 𝓤 ψ)) P) (mono_l 𝓤 P both) (comm∗ 𝓤 (sep 𝓤 (fact 𝓤 φ) (fact 𝓤 ψ)) P)));
    })
  where
    both : ent 𝓤 (emp 𝓤) (sep 𝓤 (fact 𝓤 φ) (fact 𝓤 ψ))
    both = via 𝓤 (sep 𝓤 (emp 𝓤) (emp 𝓤)) (emp∗ 𝓤 (emp 𝓤)) (mono∗ 𝓤 (fact_i 𝓤 φ (emp 𝓤) x) (fact_i 𝓤 ψ (emp 𝓤) y))

module _ (R : RattleType) (ℓ : Lifetime) (κ : Lft) (q : Share) (γ : GName) (b o m : ℕ) where
  abbrev pub at_list : GName → List R.Denot → MutBor (List R.Denot)
  at_list δ ys = record { ref_ptr = (b, o); ghost_name = δ; now = ys }

  abbrev pub Own : List R.Denot → Fml
  Own zs = (MutSlice ℓ κ R).own_val (at_list γ zs) (slice_val (b, o) m ∷ [])

  -- the slice as the callee has it
  abbrev pub Lent : ℕ → GName → List R.Denot → Fml
  Lent ν δ ys = (MutSlice ℓ (ν ∷ []) R).own_val (at_list δ ys) (slice_val (b, o) m ∷ [])

  module _ {M : Type 1} {𝓤 : Ura M} (𝓛 : Logic 𝓤) where
    open 𝓛 use {H, A}

    abbrev pub Back : (Val → List R.Denot → Type 0) → Val → Item 𝓤
    Back φ w = later (some (λ (zs : List R.Denot). given (φ w zs) (‵ (Own zs) ⊛ ‵ (flft κ q))))

    -- what the callee's `post` gives
    abbrev pub Said : (Val → List R.Denot → Type 0) → ℕ → GName → Val → Item 𝓤
    Said φ ν δ w = later (some
        (λ (zs : List R.Denot). given ((length zs ≡ m) × φ w zs) (‵ (flft (ν ∷ []) full_share) ⊛ ‵ (finally R δ zs))))

    module _ (room : Room R m) (ys : List R.Denot) (e : length ys ≡ m) (φ : Val → List R.Denot → Type 0) where
      returned : (ν : ℕ) (δ : GName) (w : Val) → ent 𝓤
          (sep 𝓤 (mean 𝓛 (Said φ ν δ w)) (sem 𝓛 (LentAgain R κ (ν ∷ []) q γ b o δ ys))) (mean 𝓛 (Back φ w))
      returned ν δ w =
          qed 𝓛 (Said φ ν δ w ∷ ‵ (LentAgain R κ (ν ∷ []) q γ b o δ ys) ∷ []) ∵ updating ! $ await ! tt $ pick !
          (λ zs. learn ! (λ f. split ! $ lft_end ! tt $ move ! (0 ∷ 2 ∷ 1 ∷ []) $
          use3 𝓛 (later (‵ ((MutSlice ℓ κ R).own_val (at_list γ zs) (slice_val (b, o) (length ys) ∷ [])) ⊛ ‵ (flft κ q)))
          (comes_back R κ (ν ∷ []) q γ b o 𝓛 ℓ ℓ ys δ zs (subst (Room R) (sym e) room) (f.0 ∙ sym e)) $ await ! tt $ split ! $
          rewrite ! 0 (λ (k : ℕ). ‵ ((MutSlice ℓ κ R).own_val (at_list γ zs) (slice_val (b, o) k ∷ []))) e refl $
          at_once ! $ show ! (λ (l : List R.Denot). guard 𝓤 (φ w l) (sep 𝓤 (sem 𝓛 (Own l)) (A.lft κ q))) zs $ check ! f.1 $ done
          !))

      pub lent_call : (C : Calls 𝓤 H) → FmC 𝓤 H 𝓛.laws C → (f : Callee) (vs : List Val) (c : Contract 𝓤) → Triple 𝓤 (C f) c
          → (x : ℕ → GName → c.Ghost) → ((ν : ℕ) (δ : GName) → c.args (x ν δ) ≡ vs)
          → ((ν : ℕ) (δ : GName) → ent 𝓤 (sep 𝓤 (A.lft (ν ∷ []) full_share) (sem 𝓛 (Lent ν δ ys))) (c.pre (x ν δ)))
          → ((ν : ℕ) (δ : GName) (w : Val) → ent 𝓤 (c.post (x ν δ) w) (mean 𝓛 (Said φ ν δ w)))
          → ent 𝓤 (sep 𝓤 (sem 𝓛 (Own ys)) (A.lft κ q)) (H.⇛ (C f vs (λ w. mean 𝓛 (Back φ w))))
      lent_call C fm f vs c known x args goes gets =
          qed 𝓛 (‵ (Own ys) ∷ ‵ (flft κ q) ∷ []) ∵ updating ! $ rewrite ! 0
          (λ (k : ℕ). ‵ ((MutSlice ℓ κ R).own_val (at_list γ ys) (slice_val (b, o) k ∷ []))) (sym e) refl $
          lft_new ! tt (λ ν. move ! (1 ∷ 2 ∷ []) $
          use2 𝓛 (later (some (λ (δ : GName). ‵ ((MutSlice ℓ (ν ∷ []) R).own_val (at_list δ ys) (slice_val (b, o) (length ys) ∷ [])) ⊛ ‵
          (LentAgain R κ (ν ∷ []) q γ b o δ ys)))) (lends_again R κ (ν ∷ []) q γ b o 𝓛 ℓ ℓ ys) $ await ! tt $ pick !
          (λ δ. split ! $
          rewrite ! 0 (λ (k : ℕ). ‵ ((MutSlice ℓ (ν ∷ []) R).own_val (at_list δ ys) (slice_val (b, o) k ∷ []))) e refl $
          move ! (2 ∷ 0 ∷ []) $ use2 𝓛 (raw (c.pre (x ν δ))) (goes ν δ) $ at_once ! $
          by ! (via 𝓤 (sep 𝓤 (C f (c.args (x ν δ)) (c.post (x ν δ))) (sem 𝓛 (LentAgain R κ (ν ∷ []) q γ b o δ ys)))
          (mono_l 𝓤 (sem 𝓛 (LentAgain R κ (ν ∷ []) q γ b o δ ys)) (known (x ν δ)))
          (subst (λ (us : List Val). ent 𝓤
          (sep 𝓤 (C f (c.args (x ν δ)) (c.post (x ν δ))) (sem 𝓛 (LentAgain R κ (ν ∷ []) q γ b o δ ys)))
          (C f us (λ w. mean 𝓛 (Back φ w)))) (args ν δ)
          (fm f (c.args (x ν δ)) (c.post (x ν δ)) (λ w. mean 𝓛 (Back φ w)) (sem 𝓛 (LentAgain R κ (ν ∷ []) q γ b o δ ys))
          (λ w. via 𝓤 (sep 𝓤 (mean 𝓛 (Said φ ν δ w)) (sem 𝓛 (LentAgain R κ (ν ∷ []) q γ b o δ ys)))
          (mono_l 𝓤 (sem 𝓛 (LentAgain R κ (ν ∷ []) q γ b o δ ys)) (gets ν δ w)) (returned ν δ w)))))))
