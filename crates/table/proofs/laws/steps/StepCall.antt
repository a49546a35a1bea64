-- The call `step` from its parts: on bytes, and on the move of a number. For `step_lent`. Assumes nothing.
use Rattle.std.proofs.Common.{◌≡◌, ℕ, ◌≤◌, ◌<◌, List, Bool, true, false, cond, length, take, drop, refl, sym, ap, ◌∙◌, subst, arith}
use Rattle.std.specs.Prelude.{Result, Ok, Err, Option, Some, None}
use Rattle.std.proofs.lemmas.Option.{cond_some, none-some}
use lib.Dec.{ltb}
use borrow.Author.Tests.{lt-ltb, le-ltb, ltb-true}
use Rattle.sheet.specs.Calls.{Refused}
use Rattle.sheet.specs.declared.Fault.{Fault}
use Rattle.sheet.specs.declared.Literals.{Literals}
use Rattle.sheet.specs.declared.Sheet.{Sheet}
use Rattle.sheet.specs.Encoding.{ProperAction, ProperStatement}
use Rattle.sheet.specs.Format.{Judgement, sheet_of}
use Rattle.sheet.specs.Problem.{Action}
use Rattle.sheet.specs.inner.Decoded.{problem_in, statement_in, judgement_in}
use Rattle.sheet.specs.inner.Packed.{moves_in, item_at, action_from, count_of, action_of}
use Rattle.sheet.specs.inner.Widths.{packed_length}
use Rattle.sheet.proofs.laws.reader.PackedParts.{items_length, item_at_lem, item_of_all, effects_long}
use Rattle.sheet.proofs.laws.reader.ReadSheets.{refused_says, accepted_says, accepted_proper, n_few, moves_few, moves_proper}
use Rattle.table.specs.declared.Table.{Table}
use Rattle.table.specs.Calls.{or_given, action_at, step_known, step_move, step_of}
use Rattle.table.specs.Entries.{entries}
use Rattle.table.specs.Minimal.{described, Outcome}
use Rattle.table.specs.Step.{step_table}
use Rattle.table.specs.inner.Outcomes.{Came}
use Rattle.table.specs.inner.Steps.{step_answer, Fits, MoveFits}
use Rattle.table.proofs.laws.slots.DescribedTables.{described_iff}

-- what came of a step, as the answer of the call
given_came : (t : Table) (r : Result Unit Fault) (us : List Literals) (o : Outcome) → Came r us o → step_answer t r us ≡ or_given t o
unfolding or_given
given_came t (Ok done) us o w = ap (or_given t) w.outcome
given_came t (Err f) us o w =
    ap (λ (p : ℕ). record { answer = Refused f.number p; table = t }) w.position ∙ ap (or_given t) w.outcome

module _ (s : List ℕ) {d : Result Sheet Fault} (packed : List ℕ) (e : judgement_in d packed ≡ sheet_of s) (t : Table) (i : ℕ) where
  pub call_fault : {f : Fault} → d ≡ Err f → record { answer = Refused f.number f.position; table = t } ≡ step_of (sheet_of s) t i
  unfolding step_of
  call_fault a = sym (ap (λ (j : Judgement). step_of j t i) (refused_says packed s e a))

  -- a sheet that was read: 7, 22, then the step
  module _ {x : Sheet} (a : d ≡ Ok x) where
    abbrev its : Action
    its = action_of (moves_in packed) i

    abbrev proper : ProperStatement (statement_in x packed)
    proper = accepted_proper packed s e a

    by_move : (b : Bool) → ltb i x.moves ≡ b → step_move b x.n its t ≡ step_of (sheet_of s) t i
    unfolding step_of statement_in problem_in action_at
    by_move b q =
        known b q
        ∙ ap (λ (z : Bool). step_move z x.n (action_at (problem_in x packed) i) t)
        (sym q ∙ sym (ap (ltb i) (items_length 35 action_from x.moves (moves_in packed))))
        ∙ sym (ap (λ (j : Judgement). step_of j t i) (accepted_says packed s e a))
      where
        known : (z : Bool) → ltb i x.moves ≡ z → step_move z x.n its t ≡ step_move z x.n (action_at (problem_in x packed) i) t
        known true q = ap (λ (y : Action). step_move true x.n y t)
            (sym (item_at_lem 35 action_from x.moves (moves_in packed) i _ (ltb-true i x.moves q)))
        known false q = refl

    pub off_sheet : x.moves ≤ i → record { answer = Refused 7 0; table = t } ≡ step_of (sheet_of s) t i
    off_sheet k = by_move false (le-ltb i x.moves k)

    module _ (lt : i < x.moves) where
      its_action : ProperAction x.n its
      its_action = item_of_all 35 action_from (ProperAction x.n) x.moves (moves_in packed) i lt (moves_proper x packed proper)

      its_most : i < 32
      its_most = omega (arith, lt, (moves_few x packed proper).1)

      its_count : count_of (moves_in packed) i ≤ 8
      unfolding action_from
      its_count = subst (λ (k : ℕ). k ≤ 8) (effects_long (count_of (moves_in packed) i) (take 32 (drop 3 (item_at 35 (moves_in packed) i))))
          its_action.effects.most

      by_known : (b : Bool) → described 128 x.n (entries t) ≡ b → step_known b its t ≡ step_of (sheet_of s) t i
      by_known b k = ap (λ (z : Bool). step_known z its t) (sym k) ∙ by_move true (lt-ltb i x.moves lt)

      -- the entries o, if they are as described
      module _ {o : Option (List Literals)} (is : o ≡ cond (described 128 x.n (entries t)) (Some (entries t)) None) where
        pub undescribed : o ≡ None → record { answer = Refused 22 0; table = t } ≡ step_of (sheet_of s) t i
        undescribed h = go (described 128 x.n (entries t)) refl
          where
            go : (b : Bool) → described 128 x.n (entries t) ≡ b → record { answer = Refused 22 0; table = t } ≡ step_of (sheet_of s) t i
            go false k = by_known false k
            go true k = absurd (none-some (entries t) (sym h ∙ is ∙ ap (λ (b : Bool). cond b (Some (entries t)) None) k))

        module _ {es : List Literals} (some : o ≡ Some es) where
          its_entries : (described 128 x.n (entries t) ≡ true) × (entries t ≡ es)
          its_entries = cond_some (described 128 x.n (entries t)) (entries t) es (sym is ∙ some)

          its_fits : Fits its (entries t)
          its_fits =
              let w = (described_iff 128 x.n (entries t)).0 its_entries.0 in
              record { n = x.n; n_most = (n_few x packed proper).1; entries_most = w.most; action = its_action; proper = w.proper }

          pub its_move : length packed ≡ packed_length → MoveFits packed i es
          its_move long = subst (λ (ys : List Literals). MoveFits packed i ys) its_entries.1
              (record { long = long; move_most = its_most; effects_few = its_count; fits = its_fits })

          pub known_step : {r : Result Unit Fault} {us : List Literals} → Came r us (step_table 128 its es)
              → step_answer t r us ≡ step_of (sheet_of s) t i
          known_step {r} {us} w =
              given_came t r us (step_table 128 its es) w
              ∙ ap (λ (ys : List Literals). or_given t (step_table 128 its ys)) (sym its_entries.1)
              ∙ by_known true its_entries.0
