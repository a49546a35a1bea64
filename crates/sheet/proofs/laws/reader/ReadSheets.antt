-- What was read of a sheet, by its answer; its sections laid in the packed array; what an accepted sheet keeps within its slots.
-- For `facts`, `sheet_in` and `judge`, and for the callers of `decode` in table and plan. Assumes nothing.
use mathlib.Core.Path.{◌≡◌, sym, ap, ap₂, ◌∙◌}
use mathlib.Core.List.{List}
use Prim.Native.Nat.{ℕ, ◌+◌, ◌≤◌, ◌<◌}
use native.Mathlib.Omega.{arith}
use lib.ListN.{length}
use Rattle.std.specs.Prelude.{Result, Ok, Err, IsErrAnd}
use Rattle.sheet.specs.declared.Fault.{Fault}
use Rattle.sheet.specs.declared.Literals.{Literals}
use Rattle.sheet.specs.declared.Plan.{Plan}
use Rattle.sheet.specs.declared.Sheet.{Sheet}
use Rattle.sheet.specs.Lists.{All}
use Rattle.sheet.specs.Problem.{Facts, Problem, problem_of}
use Rattle.sheet.specs.declared.reader.Facts as read
use Rattle.sheet.specs.Format.{accepted, refused, sheet_of}
use Rattle.sheet.specs.inner.Decoded.{plan_of, plan_in, problem_in, statement_in, judgement_in, Filled}
use Rattle.sheet.specs.inner.Packed.{part, ors_in, oneofs_in, moves_in, sets_in, clauses_at, action_from, actions_at}
use Rattle.sheet.specs.inner.Reads.{facts_in}
use Rattle.sheet.specs.Calls.{Answer, Accepted, Refused, answer_of, judge_of}
use Rattle.sheet.specs.Encoding.{Counted, ProperClause, ProperAction, ProperStatement}
use Rattle.sheet.proofs.laws.base.ListFacts.{all_map}
use Rattle.sheet.proofs.laws.base.Padding.{take_pad}
use Rattle.sheet.proofs.laws.format.Encodings.{encoded_iff}
use Rattle.sheet.proofs.laws.format.Judgements.{accepted_iff}
use Rattle.sheet.proofs.laws.reader.PackedParts.{items_length, part_long, anew, anew_long, part_same, part_before, part_after}

-- a plan in its slots, read back
pub plan_slots : (ks : List ℕ) → length ks ≤ 64 → plan_in (plan_of ks) ≡ ks
unfolding plan_in plan_of
plan_slots ks h = take_pad 64 0 ks h

pub not_both : {X : Type 0} (a : Answer) (k p : ℕ) → a ≡ Accepted → a ≡ Refused k p → X
not_both a k p e f = absurd (let z : ◌≡◌ {A = ℕ} 0 1 = cc in omega arith)

pub same_fault : {k p j q : ℕ} → Refused k p ≡ Refused j q → (k ≡ j) × (p ≡ q)
same_fault {k} {p} {j} {q} e =
    let f : ◌≡◌ {A = Fault} (record { number = k; position = p }) (record { number = j; position = q }) = cc in
    (ap (λ (x : Fault). x.number) f, ap (λ (x : Fault). x.position) f)

-- an error goes out of a `?` as it came
pub exit : {B : Type 0} {e : Fault} (r : Result B Fault) → IsErrAnd r (λ y. y ≡ e) → r ≡ Err e
exit (Ok v) h = absurd h
exit (Err f) h = ap Err h

-- ---- what a sheet that was read says
module _ {r : Result Sheet Fault} (packed s : List ℕ) (e : judgement_in r packed ≡ sheet_of s) where
  pub refused_says : {f : Fault} → r ≡ Err f → sheet_of s ≡ refused f.number f.position
  unfolding judgement_in
  refused_says h = sym e ∙ ap (λ (q : Result Sheet Fault). judgement_in q packed) h

  pub refused_answer : {f : Fault} → r ≡ Err f → Err f ≡ judge_of s
  unfolding judge_of answer_of
  refused_answer h = ap answer_of (sym (refused_says h))

  module _ {x : Sheet} (h : r ≡ Ok x) where
    pub accepted_says : sheet_of s ≡ accepted (statement_in x packed)
    unfolding judgement_in
    accepted_says = sym e ∙ ap (λ (q : Result Sheet Fault). judgement_in q packed) h

    pub accepted_answer : Accepted ≡ judge_of s
    unfolding judge_of answer_of
    accepted_answer = ap answer_of (sym accepted_says)

    pub accepted_proper : ProperStatement (statement_in x packed)
    accepted_proper = ((encoded_iff s _).0 ((accepted_iff s _).0 accepted_says)).0

    -- what `decode` gave of an accepted sheet
    pub filled : x.plan.count ≤ 64 → length packed ≡ 1409 → Filled x packed
    filled most l = record { long = l; plan_most = most; proper = accepted_proper }

-- ---- the sections laid in the packed array, each by a borrow of its numbers
-- the clauses
module _ (xs ors : List ℕ) (long : length xs ≡ 1409) (ors-lent : length ors ≡ length (part 0 136 xs)) where
  ors_long : length ors ≡ 136
  ors_long = ors-lent ∙ part_long 0 136 xs (omega (arith, long))

  pub ors_kept : length (anew xs ors 0 136) ≡ 1409
  ors_kept = anew_long xs ors 0 136 (omega (arith, long)) ors_long ∙ long

  module _ (oneofs : List ℕ) (oneofs-lent : length oneofs ≡ length (part 136 136 (anew xs ors 0 136))) where
    oneofs_long : length oneofs ≡ 136
    oneofs_long = oneofs-lent ∙ part_long 136 136 (anew xs ors 0 136) (omega (arith, ors_kept))

    pub facts_laid : (n : ℕ) (known : Literals) (a b : ℕ)
        → let whole = anew (anew xs ors 0 136) oneofs 136 136 in
        ◌≡◌ {A = Facts} (record { n = n; known = known; ors = clauses_at a ors; oneofs = clauses_at b oneofs })
        (record { n = n; known = known; ors = clauses_at a (ors_in whole); oneofs = clauses_at b (oneofs_in whole) })
    facts_laid n known a b =
        ap₂ (λ (p q : List ℕ). record { n = n; known = known; ors = clauses_at a p; oneofs = clauses_at b q })
        (sym (part_before (anew xs ors 0 136) oneofs 136 136 (omega (arith, ors_kept)) oneofs_long 0 136 (omega arith)
        ∙ part_same xs ors 0 136 (omega (arith, long)) ors_long))
        (sym (part_same (anew xs ors 0 136) oneofs 136 136 (omega (arith, ors_kept)) oneofs_long))

-- the moves, then the goal
module _ (xs moves : List ℕ) (long : length xs ≡ 1409) (moves-lent : length moves ≡ length (part 289 1120 xs)) where
  abbrev one : List ℕ
  one = anew xs moves 289 1120

  moves_long : length moves ≡ 1120
  moves_long = moves-lent ∙ part_long 289 1120 xs (omega (arith, long))

  moves_kept : length one ≡ 1409
  moves_kept = anew_long xs moves 289 1120 (omega (arith, long)) moves_long ∙ long

  module _ (goal : List ℕ) (goal-lent : length goal ≡ length (part 272 17 one)) where
    abbrev whole : List ℕ
    whole = anew one goal 272 17

    goal_long : length goal ≡ 17
    goal_long = goal-lent ∙ part_long 272 17 one (omega (arith, moves_kept))

    pub goal_kept : length whole ≡ 1409
    goal_kept = anew_long one goal 272 17 (omega (arith, moves_kept)) goal_long ∙ moves_kept

    -- the clauses before both are kept
    clauses_kept : (at : ℕ) → at + 136 ≤ 272 → part at 136 xs ≡ part at 136 whole
    clauses_kept at h =
        sym (part_before one goal 272 17 (omega (arith, moves_kept)) goal_long at 136 h
        ∙ part_before xs moves 289 1120 (omega (arith, long)) moves_long at 136 (omega (arith, h)))

    pub problem_laid : (f : read.Facts) (k : ℕ) (plan : Plan) → problem_of (facts_in f xs) (actions_at k moves) (sets_in goal)
        ≡ problem_in (record { n = f.n.count; known = f.known; ors = f.ors; oneofs = f.oneofs; moves = k; plan = plan }) whole
    unfolding problem_in problem_of
    problem_laid f k plan =
        ap₂ (λ (a b : List ℕ). made a b moves goal) (clauses_kept 0 (omega arith)) (clauses_kept 136 (omega arith))
        ∙ ap₂ (made (ors_in whole) (oneofs_in whole))
        (sym (part_after one goal 272 17 (omega (arith, moves_kept)) goal_long 289 1120 (omega arith)
        ∙ part_same xs moves 289 1120 (omega (arith, long)) moves_long))
        (sym (part_same one goal 272 17 (omega (arith, moves_kept)) goal_long))
      where
        made : List ℕ → List ℕ → List ℕ → List ℕ → Problem
        made a b c d =
            record {
              n = f.n.count;
              known = f.known;
              ors = clauses_at f.ors a;
              oneofs = clauses_at f.oneofs b;
              actions = actions_at k c;
              goal = sets_in d;
            }

-- ---- what a proper statement keeps within its slots
-- at most eight clauses, and the alternatives of each within theirs
abbrev pub Few : ℕ → List ℕ → Type 0
Few k xs = (k ≤ 8) × All (λ (c : List Literals). length c ≤ 8) (clauses_at k xs)

few : (n k : ℕ) (xs : List ℕ) → Counted 0 8 (ProperClause n) (clauses_at k xs) → Few k xs
few n k xs h = (
  rw (items_length 17 sets_in k xs) at h.most,
  all_map (ProperClause n) (λ c. length c ≤ 8) (λ c g. g.most) (clauses_at k xs)
      h.each,
)

module _ (x : Sheet) (packed : List ℕ) (h : ProperStatement (statement_in x packed)) where
  pub n_few : (1 ≤ x.n) × (x.n ≤ 32)
  unfolding statement_in problem_in
  n_few = (h.problem.n_least, h.problem.n_most)

  pub ors_few : Few x.ors (ors_in packed)
  unfolding statement_in problem_in
  ors_few = few x.n x.ors (ors_in packed) h.problem.ors

  pub oneofs_few : Few x.oneofs (oneofs_in packed)
  unfolding statement_in problem_in
  oneofs_few = few x.n x.oneofs (oneofs_in packed) h.problem.oneofs

  moves_are : length (actions_at x.moves (moves_in packed)) ≡ x.moves
  moves_are = items_length 35 action_from x.moves (moves_in packed)

  pub moves_few : (1 ≤ x.moves) × (x.moves ≤ 32)
  unfolding statement_in problem_in
  moves_few = (rw moves_are at h.problem.actions.least, rw moves_are at h.problem.actions.most)

  pub moves_proper : All (ProperAction x.n) (actions_at x.moves (moves_in packed))
  unfolding statement_in problem_in
  moves_proper = h.problem.actions.each

  pub numbers_below : All (λ b. b < x.moves) (plan_in x.plan)
  unfolding statement_in problem_in
  numbers_below = rw moves_are at h.plan.each
