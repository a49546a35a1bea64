-- The format of a sheet (document 01, "The sheet"): seven sections in fixed order, each after its count byte.
use Rattle.std.specs.Prelude.{cond, List, [], ◌∷◌, ℕ, zero, suc, ◌*◌, ◌/◌, ltb, leb, eqb, length}
use Rattle.std.proofs.Math.Option.{Option, none, some}
use Rattle.sheet.specs.declared.Literals.{Literals}
use Rattle.sheet.specs.declared.Effect.{Effect}
use Rattle.sheet.specs.Literals.{no_literal, join, literal}
use Rattle.sheet.specs.Problem.{Action, Facts, Statement, problem_of}
use Rattle.sheet.specs.Form.{Form, done, ◌>>=◌, judged, times, Read, item, fault, read}

-- ---- the rules of single bytes (document 01, "Numbers and their order")
-- 2: count out of its range
unfoldable pub count_fault : ℕ → ℕ → ℕ → ℕ
count_fault low high b = cond (ltb b low) 2 (cond (ltb high b) 2 0)

-- 3: literal of 2n or more; 4: literal not above the one before; 5: literal complements the one before
unfoldable pub literal_fault : ℕ → Option ℕ → ℕ → ℕ
literal_fault n none b = cond (leb (2 * n) b) 3 0
literal_fault n (some l) b = cond (leb (2 * n) b) 3 (cond (leb b l) 4 (cond (eqb (b / 2) (l / 2)) 5 0))

-- 7: move number not on the sheet
unfoldable pub number_fault : ℕ → ℕ → ℕ
number_fault m b = cond (leb m b) 7 0

-- ---- lists
abbrev pub count : ℕ → ℕ → Form ℕ
count low high = judged (count_fault low high)

-- a count from low to high, then that many items
unfoldable pub list_of : {A : Type 0} → ℕ → ℕ → Form A → Form (List A)
list_of low high one = do
  k ← count low high
  times k one

-- k literals of n propositions, strictly ascending and none with its complement, after the literal `last`, if any
unfoldable pub ascending : ℕ → Option ℕ → ℕ → Form (List ℕ)
ascending n last zero = done []
ascending n last (suc k) = do
  b ← judged (literal_fault n last)
  bs ← ascending n (some b) k
  done (b ∷ bs)

-- the set of some literals
unfoldable pub set_of : List ℕ → Literals
set_of [] = no_literal
set_of (b ∷ bs) = join (literal b) (set_of bs)

-- a list of low to high literals, as their set
unfoldable pub literals : ℕ → ℕ → ℕ → Form Literals
literals n low high = do
  k ← count low high
  bs ← ascending n none k
  done (set_of bs)

-- ---- the items of the sections
-- a clause of section 3 or 4: 1 to 8 alternatives of 1 to 4 literals
unfoldable pub clause : ℕ → Form (List Literals)
clause n = list_of 1 8 (literals n 1 4)

-- an effect of section 5: a condition of 0 to 4 literals, a result of 1 to 4
unfoldable pub effect : ℕ → Form Effect
effect n = do
  c ← literals n 0 4
  r ← literals n 1 4
  done (record { condition = c; result = r })

-- a move of section 5: a precondition of 0 to 8 literals, then 0 to 8 effects
unfoldable pub action : ℕ → Form Action
action n = do
  p ← literals n 0 8
  es ← list_of 0 8 (effect n)
  done (record { precondition = p; effects = es })

-- ---- the sections
-- 3 or 4: 0 to 8 clauses
unfoldable pub clauses : ℕ → Form (List (List Literals))
clauses n = list_of 0 8 (clause n)

-- 5: 1 to 32 moves
unfoldable pub actions : ℕ → Form (List Action)
actions n = list_of 1 32 (action n)

-- 6: a goal of 0 to 8 clauses of 1 to 8 literals
unfoldable pub goal : ℕ → Form (List Literals)
goal n = list_of 0 8 (literals n 1 8)

-- 7: a plan of 0 to 64 numbers of the m moves
unfoldable pub plan : ℕ → Form (List ℕ)
plan m = list_of 0 64 (judged (number_fault m))

-- sections 1 to 4: the propositions, and what is known of the starting worlds
unfoldable pub facts : Form Facts
facts = do
  n ← count 1 32
  known ← literals n 0 32
  ors ← clauses n
  oneofs ← clauses n
  done (record { n = n; known = known; ors = ors; oneofs = oneofs })

-- the seven sections
unfoldable pub sheet : Form Statement
sheet = do
  f ← facts
  moves ← actions f.n
  g ← goal f.n
  p ← plan (length moves)
  done (record { problem = problem_of f moves g; plan = p })

-- ---- the sheet ends after its plan
-- accepted, with what the sheet says; or refused, with the number and position of its first fault
pub data Judgement : Type 0 where
  accepted : Statement → Judgement
  refused : ℕ → ℕ → Judgement

-- 6: bytes after the plan, at the first of them
unfoldable pub at_end : List ℕ → Read Statement → Judgement
at_end s (item x end) = cond (ltb end (length s)) (refused 6 end) (accepted x)
at_end s (fault k p) = refused k p

-- what the bytes s say
unfoldable pub sheet_of : List ℕ → Judgement
sheet_of s = at_end s (read s sheet 0)
