-- The call of `write_row` by a function that still wants the rows: what `lent_call` asks. For `rows::write_rows`. Assumes `Logic`, and
-- that the table of calls is monotone under a frame.
use mathlib.Core.Path.{◌≡◌, refl, ◌∙◌, ap}
use Prim.Native.Nat.{ℕ, ◌<◌, ◌^◌}
use mathlib.Core.List.{[], ◌∷◌, List}
use lib.ListN.{length, set}
use seplogic.Ra.Ura.{Ura}
use base.Fraction.{full_share}
use mir.Syntax.{named, w64}
use mir.Val.{Val, vunit, vint}
use base.Logic.{SProp, ent, sep, guard, id⊢}
use base.Fml.{Lft, Share, GName, ftrue, flft}
use prog.Memory.{Memory}
use prog.Routine.{Routine}
use prog.Wp.{Calls}
use types.Logic.{Logic, sem}
use contract.Monad.{Fun, fact}
use types.Kit.{drop, mean, ‵, raw, ◌⊛◌, some, later, ◌$◌, ◌∵◌, !, qed, move, keep, use1, split, join, pick, check, fsplit, fjoin, feq_l}
use types.Kit.{show, frame, await, updating, now as at_once, done}
use sound.WpLaws.{FmC}
use denote.Laws.{Is}
use denote.Plain.{uint_Makes}
use denote.Builtin.{usize, unit}
use denote.Ref.{MutBor}
use denote.Slice.{slice_val, Room, finally}
use denote.Steps.{owned, heard, nothing, only}
use denote.Struct.Laws as LL
use denote.Triple.Statement.{Contract, Triple}
use denote.Triple.Spec.{triple_of}
use denote.Triple.Clauses.{Lasts, lasts}
use denote.Triple.Walked.{says}
use Rattle.plan.specs.declared.Row.{Row}
use Rattle.plan.specs.contracts.Row as T
use Rattle.plan.proofs.Row.TheLaws as T'
use Rattle.plan.proofs.laws.rows.LentCalls.{Own, Lent, Back, Said, lent_call}
use Rattle.plan.specs.contracts.rows.write_row as write-row
use Rattle.plan.proofs.rows.write_row.Symbol.{name as #plan·rows·write-row}

abbrev pub WriteRow : {M : Type 1} {𝓤 : Ura M} (𝓛 : Logic 𝓤) (mem : Memory → SProp 𝓤) (run : Routine → Fun 𝓤) → Contract 𝓤
WriteRow 𝓛 mem run = triple_of 𝓛 write-row.signature (write-row.spec 𝓛 mem run)

abbrev pub Stored : List Row → ℕ → Row → Val → List Row → Type 0
Stored l i r w zs = (w ≡ vunit) × (zs ≡ set l i r)

module _ {M : Type 1} {𝓤 : Ura M} (𝓛 : Logic 𝓤) (mem : Memory → SProp 𝓤) (run : Routine → Fun 𝓤) (κ : Lft)
    (q : Share) (γ : GName) (b o m : ℕ) (l : List Row) (i : ℕ) (r : Row) (v : Val) where
  open 𝓛 use {H, A}

  abbrev s : Val
  s = slice_val (b, o) m

  abbrev Args : Type 0
  Args = MutBor (List Row) × (ℕ × (Row × Unit {0}))

  abbrev args : GName → Args
  args δ = (record { ref_ptr = (b, o); ghost_name = δ; now = l }, (i, (r, tt)))

  abbrev to : ℕ → GName → (WriteRow 𝓛 mem run).Ghost
  to ν δ = (((ν ∷ [], tt), (full_share, tt), tt, args δ, (s ∷ [], (vint w64 i ∷ [], (v ∷ [], tt)))), tt)

  goes : Is T.the_row r (v ∷ []) → i < 2 ^ 64 → i < length l → (ν : ℕ) (δ : GName)
      → ent 𝓤 (sep 𝓤 (A.lft (ν ∷ []) full_share) (sem 𝓛 (Lent T.the_row (named 0) κ q γ b o m ν δ l)))
      ((WriteRow 𝓛 mem run).pre (to ν δ))
  goes is fits within ν δ =
      qed 𝓛 (‵ (flft (ν ∷ []) full_share) ∷ ‵ (Lent T.the_row (named 0) κ q γ b o m ν δ l) ∷ []) ∵ says ! within $ nothing ! $ move !
      (1 ∷ 0 ∷ []) $ join ! $ frame ! $
      nothing ! $ owned ! T.the_row (Is T.the_row) ((LL.makes T.the_type T'.the_plain) 𝓛) r _ is $ fjoin ! $ owned ! usize (Is usize)
      (uint_Makes 𝓛 w64) i _ (refl, fits) $ fjoin ! $ move ! (1 ∷ 0 ∷ []) $ fjoin ! $ done !

  gets : length l ≡ m → (ν : ℕ) (δ : GName) (w : Val) → ent 𝓤 ((WriteRow 𝓛 mem run).post (to ν δ) w)
      (mean 𝓛 (Said T.the_row (named 0) κ q γ b o m 𝓛 (Stored l i r) ν δ w))
  gets e ν δ w =
      qed 𝓛 (raw ((WriteRow 𝓛 mem run).post (to ν δ) w) ∷ []) ∵ updating ! $
      use1 𝓛 (later (some (λ (u : Unit {0}). ((‵ (flft (ν ∷ []) full_share) ⊛ ‵ ftrue) ⊛ ‵ (unit.own_val u (w ∷ [])))
      ⊛ some (λ (ws : Lasts write-row.ended (ν ∷ [], tt) (args δ)). ‵ (lasts write-row.ended (ν ∷ [], tt) (args δ) ws) ⊛ raw
      (fact 𝓤 (ws.0 ≡ set l i r)))))) (id⊢ 𝓤 _) $ await ! tt $ pick ! (λ u.
      split ! $ move ! (1 ∷ []) $ pick !
      (λ ws. split ! $ move ! (1 ∷ []) $ heard ! (ws.0 ≡ set l i r) (λ f. fsplit ! $ fsplit ! $ fsplit ! $
      move ! (1 ∷ []) $ feq_l ! (λ len. move ! (1 ∷ []) $ drop ! $
      -- [the last list; true; the tokens and the result]
      move ! (2 ∷ []) $ split ! $ split ! $ move ! (2 ∷ []) $ feq_l ! (λ is.
      at_once ! $ show ! (λ (zs : List Row). guard 𝓤 ((length zs ≡ m) × Stored l i r w zs)
      (sep 𝓤 (A.lft (ν ∷ []) full_share) (sem 𝓛 (finally T.the_row δ zs)))) ws.0 $ check ! (len ∙ e, (ap only is, f)) $ keep !
      (0 ∷ 2 ∷ []) $ done !)))))

  pub row_call : (C : Calls 𝓤 H) → FmC 𝓤 H 𝓛.laws C → Triple 𝓤 (C #plan·rows·write-row) (WriteRow 𝓛 mem run) → Room T.the_row m
      → length l ≡ m → Is T.the_row r (v ∷ []) → i < 2 ^ 64 → i < length l
      → ent 𝓤 (sep 𝓤 (sem 𝓛 (Own T.the_row (named 0) κ q γ b o m l)) (A.lft κ q))
      (H.⇛ (C #plan·rows·write-row (s ∷ vint w64 i ∷ v ∷ [])
      (λ w. mean 𝓛 (Back T.the_row (named 0) κ q γ b o m 𝓛 (Stored l i r) w))))
  row_call C fm known room e is fits within =
      lent_call T.the_row (named 0) κ q γ b o m 𝓛 room l e (Stored l i r) C fm #plan·rows·write-row (s ∷ vint w64 i ∷ v ∷ [])
      (WriteRow 𝓛 mem run) known to (λ ν δ. refl) (goes is fits within) (gets e)
