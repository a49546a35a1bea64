-- The first table (document 01, "Start"): the known literals, refined by each or-clause, then by each oneof-clause.
use Rattle.std.specs.Prelude.{◌≡◌, List, [], ◌∷◌, ◌++◌, map, ℕ}
use Rattle.std.proofs.Math.Option.{Option, none, some}
use Rattle.sheet.specs.declared.Literals.{Literals}
use Rattle.sheet.specs.Literals.{join, consistent, flip, literal, members}
use Rattle.sheet.specs.Lists.{keep, collect}
use Rattle.sheet.specs.Problem.{Problem}
use Rattle.table.specs.Minimal.{put_all, Outcome, refused, table}

-- a clause of section 3 or 4, by its alternatives
pub data Clause : Type 0 where
  or_of one_of : List Literals → Clause

unfoldable pub start_clauses : Problem → List Clause
start_clauses p = map or_of p.ors ++ map one_of p.oneofs

-- d with each of the others made false: one literal of each is chosen and its complement added, choices in lexicographic
-- order, the first of the others varying slowest
abbrev pub falsify : List Literals → Literals → List Literals
falsify [] d = d ∷ []
falsify (o ∷ os) d = collect (λ l. falsify os (join d (flip (literal l)))) (members o 0)

-- an alternative, and the others
pub record Pick : Type 0 where
  pub chosen : Literals
  pub rest : List Literals

-- each alternative with the others, in order
abbrev pub picks : List Literals → List Literals → List Pick
picks before [] = []
picks before (a ∷ alts) = record { chosen = a; rest = before ++ alts } ∷ picks (before ++ (a ∷ [])) alts

-- what a clause makes of the entry d: for each alternative in order, d with it added
abbrev pub candidates : Clause → Literals → List Literals
candidates (or_of alts) d = map (λ a. join d a) alts
candidates (one_of alts) d = collect (λ k. falsify k.rest (join d k.chosen)) (picks [] alts)

-- a fresh table: 21 if it is full, 20 if it is left empty
abbrev pub fresh : Option (List Literals) → Outcome
fresh none = refused 21
fresh (some []) = refused 20
fresh (some (d ∷ t)) = table (d ∷ t)

-- for each entry, the consistent candidates are put in order
unfoldable pub grow : ℕ → Clause → List Literals → Outcome
grow cap c t = fresh (put_all cap (keep consistent (collect (candidates c) t)) [])

abbrev pub on_table : Outcome → (List Literals → Outcome) → Outcome
on_table (refused number) next = refused number
on_table (table t) next = next t

abbrev pub grow_all : ℕ → List Clause → List Literals → Outcome
grow_all cap [] t = table t
grow_all cap (c ∷ cs) t = on_table (grow cap c t) (λ u. grow_all cap cs u)

-- the start of a problem, in tables of at most cap entries
unfoldable pub start_table : ℕ → Problem → Outcome
start_table cap p = grow_all cap (start_clauses p) (p.known ∷ [])

-- "21 or 20, whichever the start meets first": some clause comes to o in its fresh table, where every clause before it gave a table; left
-- empty, some [], is 20, full, none, is 21
pub record Stops (cap : ℕ) (o : Option (List Literals)) (cs : List Clause) (t : List Literals) : Type 0 where
  pub before : List Clause
  pub clause : Clause
  pub later : List Clause
  pub parts : cs ≡ before ++ (clause ∷ later)
  pub entries : List Literals
  pub tables : grow_all cap before t ≡ table entries
  pub comes_to : put_all cap (keep consistent (collect (candidates clause) entries)) [] ≡ o
