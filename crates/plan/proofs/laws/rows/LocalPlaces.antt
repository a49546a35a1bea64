-- The locals of a function allocated all at once: a place for each, the environment with these places, and their rooms. For
-- `rows::write_rows`, the call `run`, and plan_cases. Assumes `Logic`.
use Prim.Native.Nat.{ℕ, zero}
use mathlib.Core.List.{[], List, ◌∷◌}
use seplogic.Ra.Ura.{Ura}
use mir.Syntax.{Local, local, Fn}
use mir.Val.{Val}
use base.Logic.{SProp, ent}
use base.Fml.{froom, fdies}
use prog.Wp.{Env, Calls, Loops, WpFn}
use types.Logic.{Logic}
use types.Kit.{Item, ‵, ⋆, Goal, runs, params', at_ret, allocs, Sq, ◌$◌, ◌∵◌, !, qed}
use types.Run.{enter, alloc1, alloc0}

abbrev pub Places : List Local → Type 0
Places [] = Unit {0}
Places (l ∷ ls) = ℕ × Places ls

module _ {M : Type 1} {𝓤 : Ura M} (𝓛 : Logic 𝓤) where
  open 𝓛 use {H}

  abbrev pub env_of : (ls : List Local) → Places ls → Env 𝓤 H
  env_of [] bs = []
  env_of (local τ h ∷ ls) bs = (τ, bs.0) ∷ env_of ls bs.1

  abbrev pub rooms : (ls : List Local) → Places ls → List (Item 𝓤) → List (Item 𝓤)
  rooms [] bs Γ = Γ
  rooms (local τ h ∷ ls) bs Γ = rooms ls bs.1 (‵ (froom τ bs.0 zero) ∷ ‵ (fdies τ bs.0) ∷ Γ)

  module _ where
    pub allocated : (ls : List Local) (Γ : List (Item 𝓤)) (Kt : Env 𝓤 H → Goal 𝓤 H)
        → ((bs : Places ls) → Sq 𝓛 (rooms ls bs Γ) (Kt (env_of ls bs))) → Sq 𝓛 Γ (allocs ls Kt)
    allocated [] Γ Kt k = alloc0 ! $ k tt
    allocated (local τ h ∷ ls) Γ Kt k = alloc1 !
        (λ b. allocated ls (‵ (froom τ b zero) ∷ ‵ (fdies τ b) ∷ Γ) (λ E. Kt ((τ, b) ∷ E)) (λ bs. k (b, bs)))

    pub enters : (C : Calls 𝓤 H) (Λ : Loops 𝓤 H) (f : Fn) (vs : List Val) (Kf : Val → SProp 𝓤) (Γ : List (Item 𝓤))
        → ((bs : Places f.locals) → Sq 𝓛 (rooms f.locals bs Γ)
        (params' (env_of f.locals bs) vs (runs C Λ (env_of f.locals bs) f.body (at_ret (env_of f.locals bs) Kf))))
        → ent 𝓤 (⋆ 𝓛 Γ) (WpFn 𝓤 H C Λ f vs Kf)
    enters C Λ f vs Kf Γ k = qed 𝓛 Γ ∵ enter ! C Λ f vs Kf $ allocated f.locals Γ
        (λ E. params' E vs (runs C Λ E f.body (at_ret E Kf))) k
