-- What came of a step: its tests in their order, on the move that was read. For `steps::step_at`. Assumes nothing.
use Rattle.std.proofs.Common.{◌≡◌, ℕ, ◌+◌, ◌-◌, ◌*◌, ◌≤◌, List, [], map, Bool, true, false, not, length, get_or, take, drop, refl, sym, ap, ap₂, ◌∙◌, subst, arith}
use Rattle.std.specs.Prelude.{Result, Ok, Err, IsErrAnd}
use Rattle.std.proofs.lemmas.Result.{err_from_is_err_and}
use Rattle.sheet.specs.declared.Literals.{Literals}
use Rattle.sheet.specs.declared.Effect.{Effect}
use Rattle.sheet.specs.declared.Fault.{Fault}
use Rattle.sheet.specs.Literals.{consistent, within, Proper}
use Rattle.sheet.specs.Lists.{All, any_of, all_of, collect}
use Rattle.sheet.specs.Problem.{Action}
use Rattle.sheet.specs.Encoding.{ProperEffect}
use Rattle.sheet.specs.inner.Packed.{set_from, effects_at, moves_in, action_from, action_of}
use Rattle.sheet.proofs.laws.base.ListFacts.{all_map}
use Rattle.sheet.proofs.laws.literals.LiteralSets.{proper_consistent}
use Rattle.sheet.proofs.laws.reader.PackedParts.{item_lent, part_long, effects_room}
use Rattle.table.specs.declared.slots.Full.{Full}
use Rattle.table.specs.Minimal.{put_all, Outcome}
use Rattle.table.specs.Step.{pieces, image, or_full, step_clear, step_sure, step_table}
use Rattle.table.specs.inner.Pairs.{contradicts}
use Rattle.table.specs.inner.Puts.{Grew, Puts}
use Rattle.table.specs.inner.Steps.{Fits, MoveFits}
use Rattle.table.specs.inner.Outcomes.{Came}
use Rattle.table.specs.inner.Carry.{Steady}
use Rattle.table.proofs.laws.steps.OpposedPairs.{all_clear}

-- ---- the outcome, by the tests in their order
module _ (a : Action) (t : List Literals) (h : Fits a t) where
  abbrev outcome : Outcome
  outcome = step_table 128 a t

  abbrev ps : List Literals
  ps = collect (pieces a.effects) t

  by_sure : (b : Bool) → all_of (within a.precondition) t ≡ b → outcome ≡ step_sure b 128 a.effects t
  unfolding step_table
  by_sure b e = ap (λ (x : Bool). step_sure x 128 a.effects t) e

  by_clear : all_of (within a.precondition) t ≡ true → (b : Bool) → any_of (contradicts a.effects) t ≡ b
      → outcome ≡ step_clear (not b) 128 a.effects ps
  by_clear s b e =
      by_sure true s
      ∙ ap (λ (x : Bool). step_clear x 128 a.effects ps)
      (all_clear h.n h.n_most a.effects h.action.effects.each t h.proper ∙ ap not e)

-- ---- the move of a number, by what was read of its numbers
module _ {packed : List ℕ} {i : ℕ} {t : List Literals} (f : MoveFits packed i t) where
  -- its numbers, lent
  abbrev item : List ℕ
  item = take (i * 35 + 35 - i * 35) (drop (i * 35) (moves_in packed))

  pub read_room : 4 * get_or item 2 0 ≤ length (take 32 (drop 3 item))
  read_room =
      let room = part_long 289 1120 packed (omega (arith, f.long)) in
      let e = effects_room i (moves_in packed) (omega (arith, room, f.move_most)) in
      rw (item_lent 35 i (moves_in packed)) (omega (arith, e, f.effects_few))

  module _ {p : Literals} (reads : p ≡ set_from item 0) {es : List Effect}
      (lends : es ≡ effects_at (get_or item 2 0) (take 32 (drop 3 item))) where
    abbrev move : Action
    move = record { precondition = p; effects = es }

    is : move ≡ action_of (moves_in packed) i
    unfolding action_from
    is =
        ap₂ (λ (q : Literals) (x : List Effect). record { precondition = q; effects = x }) reads lends
        ∙ ap action_from (item_lent 35 i (moves_in packed))

    fits : Fits move t
    fits = subst (λ (x : Action). Fits x t) (sym is) f.fits

    abbrev due : Outcome
    due = step_table 128 (action_of (moves_in packed) i) t

    due_is : step_table 128 move t ≡ due
    due_is = ap (λ (x : Action). step_table 128 x t) is

    -- no condition contradicts itself
    pub effects_steady : Steady es
    effects_steady = all_map (ProperEffect fits.n) (λ e. consistent e.condition ≡ true)
        (λ e x. proper_consistent fits.n e.condition x.condition.proper) es fits.action.effects.each

    pub came_unsure : {us : List Literals} → all_of (within p) t ≡ false → Came (Err (record { number = 24; position = 0 })) us due
    came_unsure s = record { outcome = sym (by_sure move t fits false s) ∙ due_is; position = refl }

    module _ (s : all_of (within p) t ≡ true) where
      pub came_unclear : {us : List Literals} → any_of (contradicts es) t ≡ true → Came (Err (record { number = 25; position = 0 })) us due
      came_unclear u = record { outcome = sym (by_clear move t fits s true u) ∙ due_is; position = refl }

      module _ (u : any_of (contradicts es) t ≡ false) {xs us : List Literals} (empty : xs ≡ []) {r : Result Unit Full}
          (w : Puts 128 (map (image es) (collect (pieces es) t)) xs r us) where
        grew : {x : Result Unit Full} → r ≡ x → Grew (put_all 128 (map (image es) (collect (pieces es) t)) []) x us
        grew {x} e =
            subst (λ (ys : List Literals). Grew (put_all 128 (map (image es) (collect (pieces es) t)) ys) x us) empty
            (subst (λ (y : Result Unit Full). Grew (put_all 128 (map (image es) (collect (pieces es) t)) xs) y us) e w.grew)

        pub came_table : {done : Unit} → r ≡ Ok done → Came (Ok tt) us due
        came_table {done} e = record {
          outcome = sym (by_clear move t fits s false u ∙ ap or_full (grew {x = Ok done} e)) ∙ due_is;
          position = refl;
        }

        pub came_full : {full : Full} {q : Result Unit Fault} {vs : List Literals} → r ≡ Err full
            → IsErrAnd q (λ y. y ≡ record { number = 21; position = 0 }) → Came q vs due
        came_full {full} {q} e h =
            let o = by_clear move t fits s false u ∙ ap or_full (grew {x = Err full} e) in
            let y = err_from_is_err_and q h in
            rw (y.1, y.2) (record { outcome = sym o ∙ due_is; position = refl })

-- no entry contradicts itself
pub entries_steady : {a : Action} {t : List Literals} → Fits a t → All (λ d. consistent d ≡ true) t
entries_steady {t = t} h = all_map (Proper h.n) (λ d. consistent d ≡ true) (proper_consistent h.n) t h.proper
