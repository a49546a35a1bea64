-- The step of a table (source document 001, Definitions 2 to 4; document 01, "Step"). In 001's text the overlines are lost: the
-- split adds the complement of a literal. Where 001 and 000 differ, 000 decides: contradictory results make a move undefined.
use Rattle.std.specs.Prelude.{Bool, true, false, not, ◌||◌, List, [], ◌∷◌, map, ℕ}
use Rattle.std.proofs.Math.Option.{Option, none, some}
use Rattle.sheet.specs.declared.Literals.{Literals}
use Rattle.sheet.specs.declared.Effect.{Effect}
use Rattle.sheet.specs.Literals.{within, join, clash, consistent, flip, literal, contains, replace, members}
use Rattle.sheet.specs.Lists.{all_of, keep, collect}
use Rattle.sheet.specs.Problem.{Action}
use Rattle.table.specs.Worlds.{results}
use Rattle.table.specs.Minimal.{put_all, Outcome, refused, table}

-- the literals of c that are not yet in d, ascending
unfoldable pub missing : Literals → Literals → List ℕ
missing c d = keep (λ l. not (contains d l)) (members c 0)

abbrev pub split_by : Bool → Literals → Literals → List Literals
split_by true c d = d ∷ []
split_by false c d = join d c ∷ map (λ l. join d (flip (literal l))) (missing c d)

-- the piece d split by the condition c (Definition 2): it stays if c lies in it or contradicts it; otherwise come d with the whole
-- of c, then d with the complement of each literal not yet in it
unfoldable pub split : Literals → Literals → List Literals
split c d = split_by (within c d || clash c d) c d

-- the pieces of d by the conditions of the effects in order, as document 01 splits them: pieces of a piece come before the next piece. (exp
-- of 001 takes min after each condition too, and so can have fewer.)
abbrev pub pieces : List Effect → Literals → List Literals
pieces [] d = d ∷ []
pieces (e ∷ es) d = collect (pieces es) (split e.condition d)

-- res: the results of satisfied conditions replace their complements (Definition 4)
unfoldable pub image : List Effect → Literals → Literals
image es d = replace d (results es d)

abbrev pub or_full : Option (List Literals) → Outcome
or_full none = refused 21
or_full (some t) = table t

-- 25 if the results of some piece contradict, before 21
abbrev pub step_clear : Bool → ℕ → List Effect → List Literals → Outcome
step_clear false cap es ps = refused 25
step_clear true cap es ps = or_full (put_all cap (map (image es) ps) [])

-- 24 unless the precondition lies in every entry
abbrev pub step_sure : Bool → ℕ → List Effect → List Literals → Outcome
step_sure false cap es t = refused 24
step_sure true cap es t =
    let ps = collect (pieces es) t in
    step_clear (all_of (λ d. consistent (results es d)) ps) cap es ps

-- Φ_DNF(a, t), in tables of at most cap entries
unfoldable pub step_table : ℕ → Action → List Literals → Outcome
step_table cap a t = step_sure (all_of (λ d. within a.precondition d) t) cap a.effects t
