-- The bench examples M1 to M3, M6 to M10 and M12 of document 01 in one theorem, computed by the definitions. For TH10
-- (`examples/PictureExamples`) and for the examples in the crate plan. Assumes nothing.
use mathlib.Core.Path.{◌≡◌, refl}
use mathlib.Core.List.{List, [], ◌∷◌}
use mathlib.Core.Option.{some}
use Prim.Native.Nat.{ℕ, ◌≤◌}
use native.Mathlib.Omega.{arith}
use Rattle.sheet.specs.declared.Literals.{Literals}
use Rattle.sheet.specs.declared.Effect.{Effect}
use Rattle.sheet.specs.Literals.{has, no_literal, mem, within, clash, consistent, join, flip, replace, single, sign, literal, contains, members_from, members}
use Rattle.sheet.specs.Problem.{Action, Statement, problem_of}
use Rattle.sheet.specs.Form.{◌>>=◌, judged, times, byte_at, read}
use Rattle.sheet.specs.Printed.{printed}
use Rattle.sheet.specs.Format.{accepted, count_fault, literal_fault, number_fault, list_of, ascending, set_of, literals, clause, effect, action, clauses, actions, goal, plan, facts, sheet, at_end, sheet_of}
use Rattle.sheet.specs.Encoding.{ProperAction, ProperProblem, ProperStatement}
use Rattle.sheet.proofs.laws.format.Encodings.{encoded_iff}
use Rattle.sheet.proofs.laws.format.Judgements.{accepted_iff}
use Rattle.table.specs.Minimal.{Described, put, refused, table}
use Rattle.table.specs.Start.{start_clauses, grow, start_table}
use Rattle.table.specs.Step.{missing, split, image, step_table}
use Rattle.table.specs.Calls.{action_at}
use Rattle.table.proofs.laws.starts.StartWorlds.{start_described}

-- the literals of two masks; f, g, h are bits 0, 1, 2
abbrev pub set : ℕ → ℕ → Literals
set t f = record { trues = t; falses = f }

abbrev pub when : Literals → Literals → Effect
when c r = record { condition = c; result = r }

-- a move without precondition
abbrev pub always : List Effect → Action
always es = record { precondition = set 0 0; effects = es }

-- ---- what the sheet of document 01 says
abbrev pub paper : Statement
paper = record {
  problem = record {
    n = 3;
    known = set 0 0;
    ors = [];
    oneofs = (set 1 0 ∷ set 2 0 ∷ set 4 0 ∷ []) ∷ [];
    actions = always (when (set 2 0) (set 1 2) ∷ when (set 4 0) (set 2 4) ∷ []) ∷ [];
    goal = set 1 0 ∷ [];
  };
  plan = 0 ∷ 0 ∷ [];
}

pub record Bench : Type 0 where
  pub says : sheet_of printed ≡ accepted paper
  pub M1 : start_table 128 paper.problem ≡ table (set 1 6 ∷ set 2 5 ∷ set 4 3 ∷ [])
  pub M2 : step_table 128 (action_at paper.problem 0) (set 1 6 ∷ set 2 5 ∷ set 4 3 ∷ []) ≡ table (set 1 6 ∷ set 2 5 ∷ [])
  pub M3 : step_table 128 (action_at paper.problem 0) (set 1 6 ∷ set 2 5 ∷ []) ≡ table (set 1 6 ∷ [])
  pub M6 : step_table 128 (always (when (set 1 0) (set 4 0) ∷ when (set 0 1) (set 2 0) ∷ [])) (set 1 4 ∷ set 2 0 ∷ [])
      ≡ table (set 5 0 ∷ set 2 1 ∷ [])
  pub M7 : split (set 3 0) (set 0 0) ≡ set 3 0 ∷ set 0 1 ∷ set 0 2 ∷ []
  pub M8 : step_table 128 (always (when (set 0 0) (set 1 0) ∷ [])) (set 0 0 ∷ []) ≡ table (set 1 0 ∷ [])
  pub M9 : put 128 (set 3 0 ∷ set 4 0 ∷ []) (set 1 0) ≡ some (set 4 0 ∷ set 1 0 ∷ [])
  pub M10 : put 128 (set 1 0 ∷ []) (set 3 0) ≡ some (set 1 0 ∷ [])
  pub M12 : step_table 128 (always (when (set 0 0) (set 1 0) ∷ when (set 0 0) (set 0 1) ∷ [])) (set 0 0 ∷ []) ≡ refused 25

says : sheet_of printed ≡ accepted paper
unfolding sheet_of at_end read byte_at sheet facts plan goal actions clauses action effect clause literals set_of ascending list_of
    number_fault
    literal_fault count_fault times judged ◌>>=◌ problem_of no_literal join literal single sign
says = refl

pub bench : Bench
unfolding start_table start_clauses grow step_table action_at split missing image put within join clash consistent flip literal single sign
    replace no_literal members members_from contains mem has
bench = record { says = says; M1 = refl; M2 = refl; M3 = refl; M6 = refl; M7 = refl; M8 = refl; M9 = refl; M10 = refl; M12 = refl }

-- ---- what the theorems of the start and the step ask for is met by this sheet, its move and its start table
pub paper_proper : ProperStatement paper
paper_proper = ((encoded_iff printed paper).0 ((accepted_iff printed paper).0 says)).0

pub paper_asks : ProperProblem paper.problem
    × ((3 ≤ 32) × (ProperAction 3 (action_at paper.problem 0) × Described 128 3 (set 1 6 ∷ set 2 5 ∷ set 4 3 ∷ [])))
unfolding action_at
paper_asks =
    let h = paper_proper.problem in (
      h,
      (
        h.n_most,
        (
          h.actions.each.0,
          start_described paper.problem h 128 (set 1 6 ∷ set 2 5 ∷ set 4 3 ∷ []) (omega arith)
              bench.M1,
        ),
      ),
    )
