-- The tables that the calls start and step return on an accepted sheet: as described, unused slots zero, and their worlds. For
-- `answers/CallDemands` and for the crate plan. Assumes nothing.
use mathlib.Core.Path.{◌≡◌, sym, ap, ◌∙◌}
use mathlib.Core.List.{List, [], ◌∷◌, Memᴰ}
use mathlib.Core.Logic.{inl, ◌↔◌}
use mathlib.Core.Option.{some}
use Prim.Native.Nat.{ℕ, ◌^◌, ◌≤◌, ◌<◌}
use native.Mathlib.Omega.{arith}
use lib.ListN.{length}
use borrow.Author.Tests.{lt-ltb}
use Rattle.sheet.specs.declared.Literals.{Literals}
use Rattle.sheet.specs.Calls.{Accepted}
use Rattle.sheet.specs.Problem.{Action, Problem, Statement}
use Rattle.sheet.specs.Format.{sheet_of}
use Rattle.sheet.specs.Faults.{Says}
use Rattle.sheet.specs.Lists.{All}
use Rattle.sheet.specs.Literals.{Proper}
use Rattle.sheet.specs.Encoding.{ProperProblem}
use Rattle.sheet.proofs.laws.literals.ProperSets.{some_world}
use Rattle.sheet.proofs.Demands.{statement_proper}
use Rattle.table.specs.declared.Table.{Table}
use Rattle.table.specs.declared.TableAnswer.{TableAnswer}
use Rattle.table.specs.Worlds.{step_world, Starting}
use Rattle.table.specs.Minimal.{In, Described, Least, Outcome}
use Rattle.table.specs.Start.{start_table}
use Rattle.table.specs.Step.{step_table}
use Rattle.table.specs.Entries.{entries, table_of}
use Rattle.table.specs.Calls.{or_given, start_of, action_at, step_of}
use Rattle.table.specs.CallWords.{AsDescribed, ZeroAfter, Starts, WorldOf, images}
use Rattle.table.proofs.laws.arrays.HeldLists.{entries_of_pad}
use Rattle.table.proofs.laws.steps.StepWorlds.{at_proper, step_below, put_images_lem}
use Rattle.table.proofs.laws.slots.LeastCandidates.{put_least}
use Rattle.table.proofs.Demands as tables

-- ---- a table in its slots
pub entries_table : (es : List Literals) → length es ≤ 128 → entries (table_of es) ≡ es
unfolding entries table_of
entries_table es h = entries_of_pad 128 es h

pub zero_after : (u : List Literals) → length u ≤ 128 → ZeroAfter (table_of u)
zero_after u h = sym (ap table_of (entries_table u h))

-- ---- an accepted sheet
module _ (s : List ℕ) (x : Statement) (says : Says s x) where
  abbrev p : Problem
  p = x.problem

  hp : ProperProblem p
  hp = (statement_proper s x says).problem

  -- the start
  start_call : start_of (sheet_of s) ≡ or_given (table_of []) (start_table 128 x.problem)
  unfolding start_of
  start_call = rw says

  pub started : (start_of (sheet_of s)).answer ≡ Accepted → (t : List Literals) × (start_table 128 x.problem ≡ Outcome.table t)
      × ((start_of (sheet_of s)).table ≡ table_of t)
  started e =
      let k = (tables.start_accepted s x says).0 e in
      (k.0, k.1, unfold or_given in ap (λ (r : TableAnswer). r.table) (start_call ∙ ap (or_given (table_of [])) k.1))

  start_described : (t : List Literals) → start_table 128 x.problem ≡ Outcome.table t → Described 128 p.n t
  start_described t e = (tables.start_table_lem p hp 128 t e).0 (omega arith)

  pub start_fits : (start_of (sheet_of s)).answer ≡ Accepted → AsDescribed x (start_of (sheet_of s)).table
      × ZeroAfter (start_of (sheet_of s)).table
  start_fits e = rw (started e).2 (rw (entries_table (started e).0 d.most) d, zero_after (started e).0 d.most)
    where
      d : Described 128 p.n (started e).0
      d = start_described (started e).0 (started e).1

  pub start_worlds : (start_of (sheet_of s)).answer ≡ Accepted → (w : ℕ) → WorldOf x (start_of (sheet_of s)).table w ↔ Starts x.problem w
  start_worlds e w = rw ((started e).2, entries_table (started e).0 (start_described (started e).0 (started e).1).most) (
    λ h. (h.0, ((tables.start_table_lem p hp 128 (started e).0 (started e).1).1 w h.0).0 h.1),
    λ h. (h.0, ((tables.start_table_lem p hp 128 (started e).0 (started e).1).1 w h.0).1 h.1),
  )

  -- an accepted start has a starting world
  pub start_some : (t : List Literals) → start_table 128 x.problem ≡ Outcome.table t → (w : ℕ) × Starts x.problem w
  start_some t e = go t (start_described t e).least (start_described t e).proper (tables.start_table_lem p hp 128 t e).1
    where
      go : (u : List Literals) → 1 ≤ length u → All (Proper p.n) u → ((w : ℕ) → w < 2 ^ p.n → In p.n u w ↔ Starting p w) → (w : ℕ)
          × Starts p w
      go [] l h f = absurd (omega arith)
      go (d ∷ u) l h f = let k = some_world p.n d h.0 in (k.0, (k.1.0, (f k.0 k.1.0).0 (inl k.1.1)))

  -- the step
  module _ (t : Table) (m : ℕ) where
    abbrev a : Action
    a = action_at x.problem m

    pub stepped_to : (step_of (sheet_of s) t m).answer ≡ Accepted → (u : List Literals) × (step_table 128 a (entries t) ≡ Outcome.table u)
        × ((step_of (sheet_of s) t m).table ≡ table_of u)
    unfolding step_of or_given
    stepped_to e =
        let k = (tables.step_accepted s x says t m).0 e in (
          k.2.0,
          k.2.1,
          rw (
            says,
            lt-ltb m (length x.problem.actions) k.0,
            (tables.described_iff 128 x.problem.n (entries t)).1 k.1,
            k.2.1,
          ),
        )

    module _ (e : (step_of (sheet_of s) t m).answer ≡ Accepted) where
      abbrev on_sheet : m < length x.problem.actions
      on_sheet = ((tables.step_accepted s x says t m).0 e).0

      abbrev was : AsDescribed x t
      was = ((tables.step_accepted s x says t m).0 e).1

      law : Described 128 p.n (stepped_to e).0
          × ((v : ℕ) → v < 2 ^ p.n → In p.n (stepped_to e).0 v
          ↔ ((w : ℕ) × (In p.n (entries t) w × ((w < 2 ^ p.n) × (step_world p.n a w ≡ some v)))))
      law = tables.step_table_lem p.n hp.n_most a (at_proper p hp m on_sheet) (entries t) was 128 (stepped_to e).0 (stepped_to e).1

      pub step_fits : AsDescribed x (step_of (sheet_of s) t m).table × ZeroAfter (step_of (sheet_of s) t m).table
      step_fits = rw (stepped_to e).2
          (rw (entries_table (stepped_to e).0 law.0.most) law.0, zero_after (stepped_to e).0 law.0.most)

      pub step_worlds : (v : ℕ) → WorldOf x (step_of (sheet_of s) t m).table v ↔ ((w : ℕ) × WorldOf x t w × (step_world p.n a w ≡ some v))
      step_worlds v = rw ((stepped_to e).2, entries_table (stepped_to e).0 law.0.most) (
        λ h. (let k = (law.1 v h.0).0 h.1 in (k.0, (k.1.1.0, k.1.0), k.1.1.1)),
        λ h. (let l = step_below p.n a (at_proper p hp m on_sheet) h.0 v h.1.0 h.2 in
            (l, (law.1 v l).1 (h.0, (h.1.1, (h.1.0, h.2))))),
      )

      -- its entries are the least images of the pieces
      pub step_least : (d : Literals) → Memᴰ d (entries (step_of (sheet_of s) t m).table) ↔ Least (images x t m) d
      step_least d = rw ((stepped_to e).2, entries_table (stepped_to e).0 law.0.most)
          (put_least 128 (images x t m) (stepped_to e).0
          (put_images_lem p.n hp.n_most a (at_proper p hp m on_sheet) (entries t) was.proper 128 (stepped_to e).0
          (stepped_to e).1).1.1 d)
