-- The theorems about tables: putting, the start (TH2), the step (TH3), each number on its own condition (TH4), the picture (TH8), the test
-- of a table, contradictory results by pairs, and the requests that specs/Demands states (W3: the test of a candidate). TH4 and TH8 are
-- passed on from `laws/answers` and `laws/pictures/PictureWorlds`. Assumes nothing.
use mathlib.Core.Path.{◌≡◌, refl, sym}
use mathlib.Core.Bool.{true, false, not}
use mathlib.Core.List.{List, [], ◌∷◌, map}
use mathlib.Core.Logic.{◌⊎◌, ◌↔◌}
use mathlib.Core.Option.{none, some}
use Prim.Native.Nat.{ℕ, ◌^◌, ◌≤◌, ◌<◌}
use lib.Dec.{T}
use lib.ListN.{length, get_or}
use borrow.Author.Tests.{eq-eqb, ne_eqb}
use Rattle.sheet.specs.declared.Literals.{Literals}
use Rattle.sheet.specs.declared.Effect.{Effect}
use Rattle.sheet.specs.Literals.{no_literal, within, consistent, state, Proper}
use Rattle.sheet.specs.Lists.{All, any_of, all_of, collect}
use Rattle.sheet.specs.Problem.{Action, Problem}
use Rattle.sheet.specs.Encoding.{ProperEffect, ProperAction, ProperProblem}
use Rattle.std.specs.Prelude.{Some, None}
use Rattle.table.specs.declared.slots.Fate.TheVariants.{Dropped}
use Rattle.table.specs.Worlds.{results, step_world, Starting}
use Rattle.table.specs.Minimal.{In, Antichain, Described, described, put, put_all, refused, table}
use Rattle.table.specs.Start.{start_clauses, start_table, Stops}
use Rattle.table.specs.Step.{pieces, image, step_table}
use Rattle.table.specs.inner.Pairs.{contradicts}
use Rattle.table.specs.Fates.{last_within, left, fate_of}
use Rattle.table.specs.Demands.{RequestW3}
use Rattle.table.proofs.laws.slots.LastWithin as scan
use Rattle.table.proofs.laws.slots.PutFates as slots
use Rattle.table.proofs.laws.slots.PutInvariants as putting
use Rattle.table.proofs.laws.steps.StepWorlds as stepping
use Rattle.table.proofs.laws.starts.StartWorlds as starting
use Rattle.table.proofs.laws.slots.DescribedTables as describing
use Rattle.table.proofs.laws.steps.OpposedPairs as pairs
pub use Rattle.table.proofs.laws.answers.StartStepAnswers.{start_fault, start_number, start_accepted, start_back, step_fault, step_7, step_22, step_number, step_accepted, step_back}
pub use Rattle.table.proofs.laws.answers.PictureAnswers.{picture_fault, picture_22, picture_21, picture_23, picture_accepted, picture_back}
pub use Rattle.table.proofs.laws.pictures.PictureWorlds.{union_primes, picture_primes, picture_ascending, picture_worlds, prime_unique, bytes_worlds}

-- ---- a table is as described exactly if its test passes
pub described_iff : (cap n : ℕ) (t : List Literals) → (described cap n t ≡ true) ↔ Described cap n t
described_iff = describing.described_iff

-- ---- putting a candidate keeps the worlds, the antichain, and proper entries
pub put_worlds : (n w cap : ℕ) (t : List Literals) (c : Literals) (u : List Literals) → put cap t c ≡ some u → In n u w
    ↔ (In n t w ⊎ T (within c (state n w)))
put_worlds n w cap t c u h = (putting.put_out n w cap t c u h, putting.put_in n w cap t c u h)

pub put_antichain : (cap : ℕ) (t : List Literals) (c : Literals) (u : List Literals) → put cap t c ≡ some u → Antichain t → Antichain u
put_antichain = putting.put_antichain

pub put_proper : (n cap : ℕ) (t : List Literals) (c : Literals) (u : List Literals) → put cap t c ≡ some u → All (Proper n) t → Proper n c
    → All (Proper n) u
put_proper n = putting.put_all_lem (Proper n)

-- ---- TH2: the start
module _ (p : Problem) (hp : ProperProblem p) (cap : ℕ) where
  -- a table stands for exactly the starting worlds
  pub start_table_lem : (t : List Literals) → start_table cap p ≡ table t
      → (1 ≤ cap → Described cap p.n t) × ((w : ℕ) → w < 2 ^ p.n → In p.n t w ↔ Starting p w)
  start_table_lem t e = (λ h. starting.start_described p hp cap t h e, starting.start_worlds p hp cap t e)

  -- 20: there is no starting world
  pub start_20 : start_table cap p ≡ refused 20 → (w : ℕ) → w < 2 ^ p.n → Starting p w → ⊥
  start_20 = starting.start_20 p hp cap

  -- where there is none: 20 or 21
  pub start_none : ((w : ℕ) → w < 2 ^ p.n → Starting p w → ⊥) → (start_table cap p ≡ refused 20) ⊎ (start_table cap p ≡ refused 21)
  start_none = starting.start_none p hp cap

-- 20 exactly if some clause leaves its fresh table empty, 21 exactly if one overflows it; every clause before it gave a table
pub start_first : (cap : ℕ) (p : Problem)
    → ((start_table cap p ≡ refused 20) ↔ Stops cap (some []) (start_clauses p) (p.known ∷ []))
    × ((start_table cap p ≡ refused 21) ↔ Stops cap none (start_clauses p) (p.known ∷ []))
start_first cap p = (starting.first_20 cap p, starting.first_21 cap p)

pub start_kind : (cap : ℕ) (p : Problem) → (start_table cap p ≡ refused 20)
    ⊎ ((start_table cap p ≡ refused 21) ⊎ ((t : List Literals) × (start_table cap p ≡ table t)))
start_kind = starting.start_kind

-- ---- TH3: the step
module _ (n : ℕ) (hn : n ≤ 32) (a : Action) (ha : ProperAction n a) (t : List Literals) (ht : Described 128 n t) (cap : ℕ) where
  -- 24 exactly if some world lacks the precondition
  pub step_24 : (step_table cap a t ≡ refused 24) ↔ ((w : ℕ) × (In n t w × ((w < 2 ^ n) × T (not (within a.precondition (state n w))))))
  step_24 = stepping.step_24 n hn a ha t ht.proper cap

  -- 25 exactly if every world has it, and the results in some world contradict
  pub step_25 : (step_table cap a t ≡ refused 25)
      ↔ (((w : ℕ) → w < 2 ^ n → In n t w → T (within a.precondition (state n w)))
      × ((w : ℕ) × (In n t w × ((w < 2 ^ n) × T (not (consistent (results a.effects (state n w))))))))
  step_25 = stepping.step_25 n hn a ha t ht.proper cap

  -- a table is as described, and its worlds are exactly what the worlds of t come to
  pub step_table_lem : (u : List Literals) → step_table cap a t ≡ table u
      → Described cap n u × ((v : ℕ) → v < 2 ^ n → In n u v ↔ ((w : ℕ) × (In n t w × ((w < 2 ^ n) × (step_world n a w ≡ some v)))))
  step_table_lem u e = (
    stepping.step_described n hn a ha t ht.proper cap u e ht.least,
    stepping.step_worlds n hn a ha t ht.proper cap u e,
  )

  -- 21 exactly if neither condition holds and the images in working order do not fit
  pub step_21 : (step_table cap a t ≡ refused 21)
      ↔ (((w : ℕ) × (In n t w × ((w < 2 ^ n) × T (not (within a.precondition (state n w))))) → ⊥)
      × ((((w : ℕ) → w < 2 ^ n → In n t w → T (within a.precondition (state n w)))
      × ((w : ℕ) × (In n t w × ((w < 2 ^ n) × T (not (consistent (results a.effects (state n w))))))) → ⊥)
      × (put_all cap (map (image a.effects) (collect (pieces a.effects) t)) [] ≡ none)))
  step_21 = stepping.step_21 n hn a ha t ht.proper cap

  -- undefined exactly if some world cannot take the move
  pub step_undefined : ((step_table cap a t ≡ refused 24) ⊎ (step_table cap a t ≡ refused 25))
      ↔ ((w : ℕ) × (In n t w × ((w < 2 ^ n) × (step_world n a w ≡ none))))
  step_undefined = stepping.step_undefined n hn a ha t ht.proper cap

  pub step_kind : (step_table cap a t ≡ refused 24) ⊎
      ((step_table cap a t ≡ refused 25) ⊎ ((step_table cap a t ≡ refused 21) ⊎ ((u : List Literals) × (step_table cap a t ≡ table u))))
  step_kind = stepping.step_kind n hn a ha t ht.proper cap

-- ---- contradictory results, found by pairs of effects
pub pairs_contradict : (n : ℕ) → n ≤ 32 → (es : List Effect) → All (ProperEffect n) es → (d : Literals) → Proper n d
    → not (contradicts es d) ≡ all_of (λ q. consistent (results es q)) (pieces es d)
pairs_contradict = pairs.pairs_contradict

-- ---- W3: the test of a candidate, from the last entry to the first
-- by whether some entry lies in the candidate
found : (t : List Literals) (c : Literals) (i : ℕ) → last_within t c ≡ Some i → any_of (λ e. within e c) t ≡ true
found t c i e = scan.found_some (λ e. within e c) t (Some i) i (sym e) refl

unfound : (t : List Literals) (c : Literals) → last_within t c ≡ None → any_of (λ e. within e c) t ≡ false
unfound t c e = scan.found_none (λ e. within e c) t None (sym e) refl

pub last_within_lem : (t : List Literals) (c : Literals) (i : ℕ)
    → (last_within t c ≡ Some i)
    ↔ ((i < length t) × T (within (get_or t i no_literal) c) ×
    ((j : ℕ) → i < j → j < length t → T (not (within (get_or t j no_literal) c))))
last_within_lem t c = scan.last_at (λ e. within e c) t

pub last_none : (t : List Literals) (c : Literals) → (last_within t c ≡ None) ↔ All (λ e. T (not (within e c))) t
last_none t c = scan.last_none (λ e. within e c) t

-- a candidate is dropped exactly if the test finds an entry
pub dropped_found : (cap : ℕ) (t : List Literals) (c : Literals) → (fate_of cap t c ≡ Dropped) ↔ ((i : ℕ) × (last_within t c ≡ Some i))
dropped_found cap t c = (
  λ e. scan.some_found (λ e. within e c) t (slots.dropped_within cap t c e),
  λ h. slots.fate_dropped cap t c (found t c h.0 h.1),
)

pub request_w3 : (t : List Literals) (c : Literals) → RequestW3 t c
request_w3 t c = record {
  last_within_lem = last_within_lem t c;
  last_none = last_none t c;
  dropped_found = λ cap. dropped_found cap t c;
  kept = λ cap i e. slots.put_dropped cap t c (found t c i e);
  full = λ cap e q. slots.put_full cap t c (unfound t c e) (eq-eqb (length (left t c)) cap q);
  added = λ cap e q. slots.put_added cap t c (unfound t c e) (ne_eqb (length (left t c)) cap q);
}
