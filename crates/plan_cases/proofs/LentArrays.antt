-- A local array lent as a slice for a call: its cell as its elements (`home_in`) and back (`home_out`), and the call (`home_call`). For
-- `run_here`. Assumes `Logic`, and that the table of calls is monotone under a frame.
use mathlib.Core.Path.{◌≡◌, refl, subst}
use Prim.Native.Nat.{ℕ, zero, suc}
use mathlib.Core.List.{[], List, ◌∷◌}
use lib.ListN.{length, replicate, length-replicate}
use seplogic.Ra.Ura.{Ura}
use base.Fraction.{full_share}
use mir.Syntax.{Callee, Lifetime, ty_array}
use mir.Val.{Val}
use base.Logic.{SProp, ent, sep, ex, guard, via, mono_l}
use base.Fml.{GName, Fml, fsep, fat, flft, flent}
use prog.Wp.{Calls}
use types.Logic.{Logic, sem}
use sound.WpLaws.{FmC}
use types.Kit.{Item, mean, ‵, raw, ◌⊛◌, some, given, later, ◌$◌, ◌∵◌, !, qed, by, move, drop, use1, use3, split, pick, learn}
use types.Kit.{rewrite, fsplit, fjoin, fpick, fpack, feq_i, await, updating, now as at_once, show, check, done}
use types.Tokens.{lft_new, lft_end}
use types.SemTy.{cells, Arr}
use types.Share.{arr_parts}
use denote.RattleType.{RattleType}
use denote.Shadow.{shadow}
use denote.Laws.{Is, Makes, shows}
use denote.Memory.{cell_at, part_at, mem, shares, lone, part_of}
use denote.Array.{Array, each, array_val, Array-Makes}
use denote.ArrayMemory.{Single, Array-apart, Array-whole}
use denote.Index.{row, whole_in, whole_out}
use denote.Slice.{slice_val, MutSlice, Room, finally}
use denote.Lend.{Held, lends_slice, slice_back}
use denote.Steps.{owned, peeks}
use denote.Triple.Statement.{Contract, Triple}

module _ (R : RattleType) where
  each_same : (n : ℕ) (x : R.Denot) (u : Val) → Is R x (u ∷ []) → shadow (each R.Denot R.own_val (replicate n x) (replicate n u))
  each_same zero x u is = tt
  each_same (suc n) x u is = (is, each_same n x u is)

  pub repeated : (n : ℕ) (x : R.Denot) (u : Val) → Is R x (u ∷ []) → Is (Array R n) (replicate n x) (array_val (replicate n u) ∷ [])
  repeated n x u is = (replicate n u, ((refl, length-replicate n x), each_same n x u is))

  module _ {M : Type 1} {𝓤 : Ura M} (𝓛 : Logic 𝓤) (n : ℕ) (b o : ℕ) where
    open 𝓛 use {H}

    pub home_in : Single R.mir → Makes 𝓛 R (Is R) → (xs : List R.Denot) (us : List Val) → Is (Array R n) xs (array_val us ∷ [])
        → ent 𝓤 (H.at full_share (ty_array (lone R.mir) n) b o (array_val us)) (sem 𝓛 (cells (mem R) xs b o))
    unfolding part_of
    home_in single mk xs us is =
        qed 𝓛 (‵ (fat full_share (ty_array (lone R.mir) n) b o (array_val us)) ∷ []) ∵
        use1 𝓛 (‵ (cell_at full_share (Array R n).mir (array_val us ∷ []) b o))
        (𝓛.laws.at_raw full_share (ty_array (lone R.mir) n) b o (array_val us)) $
        owned ! (Array R n) (Is (Array R n)) (Array-Makes 𝓛 R mk n) xs _ is $ move ! (1 ∷ 0 ∷ []) $ fjoin ! $
        fpack ! (List Val) (λ vs. fsep (cell_at full_share (Array R n).mir vs b o) ((Array R n).own_val xs vs)) (array_val us ∷ []) $
        use1 𝓛 (‵ ((arr_parts (shares R) n).part full_share xs b o)) (Array-apart 𝓛 R full_share single n xs b o) $ fsplit ! $ drop ! $
        use1 𝓛 (‵ (cells (mem R) xs b o)) (whole_in 𝓛 R xs b o) $ done !

    pub home_out : (xs : List R.Denot) → length xs ≡ n
        → ent 𝓤 (sem 𝓛 (cells (mem R) xs b o))
        (ex 𝓤 (λ (us : List Val). guard 𝓤 (shadow (each R.Denot R.own_val xs us))
        (H.at full_share (ty_array (lone R.mir) n) b o (array_val us))))
    unfolding part_of
    home_out xs l =
        qed 𝓛 (‵ (cells (mem R) xs b o) ∷ []) ∵ use1 𝓛 (‵ (row R full_share xs b o)) (whole_out 𝓛 R xs b o) $
        feq_i ! ℕ (length xs) n l $ fjoin ! $
        use1 𝓛 (‵ (part_at (Array R n) full_share xs b o)) (Array-whole 𝓛 R full_share n xs b o) $
        fpick ! (λ vs. fsplit ! $ move ! (1 ∷ []) $
        peeks ! (Array R n) (Is (Array R n)) (shows 𝓛 (Array R n)) xs vs (λ is. drop ! $
        rewrite ! 0 (λ (ws : List Val). ‵ (cell_at full_share (Array R n).mir ws b o)) is.1.0.0 refl $
        use1 𝓛 (‵ (fat full_share (ty_array (lone R.mir) n) b o (array_val is.0)))
        (𝓛.laws.raw_at full_share (ty_array (lone R.mir) n) b o (array_val is.0)) $
        show ! (λ (us : List Val). guard 𝓤 (shadow (each R.Denot R.own_val xs us))
        (H.at full_share (ty_array (lone R.mir) n) b o (array_val us))) is.0 $ check ! is.1.1 $ done !))

module _ (R : RattleType) (ℓ : Lifetime) (b o : ℕ) {M : Type 1} {𝓤 : Ura M} (𝓛 : Logic 𝓤) where
  -- the slice as the callee has it
  open 𝓛 use {H, A}

  abbrev pub LentHome : ℕ → GName → List R.Denot → Fml
  LentHome ν δ ys = (MutSlice ℓ (ν ∷ []) R).own_val (record { ref_ptr = (b, o); ghost_name = δ; now = ys })
      (slice_val (b, o) (length ys) ∷ [])

  module _ (ys : List R.Denot) (φ : Val → List R.Denot → Type 0) (P X : SProp 𝓤) where
    abbrev pub Home : Val → Item 𝓤
    Home w = later (some (λ (zs : List R.Denot). given ((length zs ≡ length ys) × φ w zs) (‵ (cells (mem R) zs b o) ⊛ raw X)))

    abbrev pub SaidHome : ℕ → GName → Val → Item 𝓤
    SaidHome ν δ w = later (some (λ (zs : List R.Denot). given ((length zs ≡ length ys) × φ w zs)
        (‵ (flft (ν ∷ []) full_share) ⊛ ‵ (finally R δ zs) ⊛ raw X)))

    module _ (room : Room R (length ys)) where
      returned : (ν : ℕ) (δ : GName) (w : Val)
          → ent 𝓤 (sep 𝓤 (mean 𝓛 (SaidHome ν δ w)) (sem 𝓛 (flent (ν ∷ []) (Held R (length ys) b o δ)))) (mean 𝓛 (Home w))
      returned ν δ w =
          qed 𝓛 (SaidHome ν δ w ∷ ‵ (flent (ν ∷ []) (Held R (length ys) b o δ)) ∷ []) ∵ updating ! $ await ! tt $
          pick ! (λ zs. learn ! (λ f. split ! $ lft_end ! tt $ move ! (1 ∷ []) $ split ! $ move ! (2 ∷ 3 ∷ 0 ∷ []) $
          use3 𝓛 (later (‵ ((Arr (mem R) (length ys)).own_at zs b o))) (slice_back 𝓛 R (ν ∷ []) δ zs (length ys) b o) $ await ! tt $
          fsplit ! $ drop ! $
          at_once ! $ show ! (λ (l : List R.Denot). guard 𝓤 ((length l ≡ length ys) × φ w l)
          (sep 𝓤 (sem 𝓛 (cells (mem R) l b o)) X)) zs $ check ! f $ done !))

      pub home_call : (C : Calls 𝓤 H) → FmC 𝓤 H 𝓛.laws C → (f : Callee) (vs : List Val) (c : Contract 𝓤) → Triple 𝓤 (C f) c
          → (x : ℕ → GName → c.Ghost) → ((ν : ℕ) (δ : GName) → c.args (x ν δ) ≡ vs)
          → ((ν : ℕ) (δ : GName) → ent 𝓤 (sep 𝓤 (A.lft (ν ∷ []) full_share) (sep 𝓤 (sem 𝓛 (LentHome ν δ ys)) P)) (c.pre (x ν δ)))
          → ((ν : ℕ) (δ : GName) (w : Val) → ent 𝓤 (c.post (x ν δ) w) (mean 𝓛 (SaidHome ν δ w)))
          → ent 𝓤 (sep 𝓤 (sem 𝓛 (cells (mem R) ys b o)) P) (H.⇛ (C f vs (λ w. mean 𝓛 (Home w))))
      home_call C fm f vs c known x args goes gets =
          qed 𝓛 (‵ (cells (mem R) ys b o) ∷ raw P ∷ []) ∵ updating ! $
          lft_new ! tt (λ ν. move ! (1 ∷ []) $
          use1 𝓛 (later (some (λ (δ : GName). ‵ (LentHome ν δ ys) ⊛ ‵ (flent (ν ∷ []) (Held R (length ys) b o δ)))))
          (lends_slice 𝓛 R ℓ (ν ∷ []) ys b o room) $ await ! tt $ pick ! (λ δ. split ! $
          -- [the slice; the lender's part; the token; P]
          move ! (2 ∷ 0 ∷ 3 ∷ []) $ use3 𝓛 (raw (c.pre (x ν δ))) (goes ν δ) $ at_once ! $
          by ! (via 𝓤 (sep 𝓤 (C f (c.args (x ν δ)) (c.post (x ν δ))) (sem 𝓛 (flent (ν ∷ []) (Held R (length ys) b o δ))))
          (mono_l 𝓤 (sem 𝓛 (flent (ν ∷ []) (Held R (length ys) b o δ))) (known (x ν δ)))
          (subst (λ (us : List Val). ent 𝓤 (sep 𝓤 (C f (c.args (x ν δ)) (c.post (x ν δ)))
          (sem 𝓛 (flent (ν ∷ []) (Held R (length ys) b o δ)))) (C f us (λ w. mean 𝓛 (Home w)))) (args ν δ)
          (fm f (c.args (x ν δ)) (c.post (x ν δ)) (λ w. mean 𝓛 (Home w)) (sem 𝓛 (flent (ν ∷ []) (Held R (length ys) b o δ)))
          (λ w. via 𝓤 (sep 𝓤 (mean 𝓛 (SaidHome ν δ w)) (sem 𝓛 (flent (ν ∷ []) (Held R (length ys) b o δ))))
          (mono_l 𝓤 (sem 𝓛 (flent (ν ∷ []) (Held R (length ys) b o δ))) (gets ν δ w)) (returned ν δ w)))))))
