-- The final picture of a run is what the picture call writes for the table that the run returns. For `final_written` in ExchangeDemands.
-- Assumes nothing.
use mathlib.Core.Path.{◌≡◌, sym, ap, ap₂, ◌∙◌}
use mathlib.Core.Bool.{Bool, true, false, cond}
use mathlib.Core.List.{List, ◌++◌}
use mathlib.Core.Option.{Option, some}
use Prim.Native.Nat.{ℕ, ◌+◌, ◌*◌, ◌≤◌}
use native.Mathlib.Omega.{arith}
use lib.ListN.{length, drop}
use borrow.Author.Tests.{le-ltb}
use Rattle.sheet.specs.declared.Literals.{Literals}
use Rattle.sheet.specs.Calls.{Accepted}
use Rattle.sheet.specs.Problem.{Statement}
use Rattle.sheet.specs.Format.{Judgement, accepted, sheet_of}
use Rattle.table.specs.declared.PictureAnswer.{PictureAnswer}
use Rattle.table.specs.Minimal.{described, table}
use Rattle.table.specs.Start.{start_table}
use Rattle.table.specs.Picture.{picture, picture_bytes}
use Rattle.table.specs.Entries.{entries}
use Rattle.table.specs.PictureCalls.{refusal, too_long, given, picture_of, written, buffer_of}
use Rattle.table.proofs.Demands.{described_iff}
use Rattle.table.proofs.laws.pictures.MaskBytes.{clause_bytes_length}
use Rattle.plan.specs.declared.RunAnswer.{RunAnswer}
use Rattle.plan.specs.Run.{actions_of, last_table}
use Rattle.plan.specs.Calls.{run_of}
use Rattle.plan.specs.inner.RunEnds.{final_clauses, final_picture}
use Rattle.plan.proofs.laws.exchanges.ExactCalls.{final_bytes}
use Rattle.plan.proofs.laws.runs.CallRuns.{last_described, last_entries, last_clauses}

pub bytes_length : (s : List Literals) → length (picture_bytes s) ≡ 2 + 8 * length s
unfolding picture_bytes
bytes_length s = omega (arith, clause_bytes_length s)

module _ (s : List ℕ) (x : Statement) (says : sheet_of s ≡ accepted x) (rows : ℕ) (enough : 65 ≤ rows) (t : List Literals)
    (starts : start_table 128 x.problem ≡ table t)
    (buffer : List ℕ) where
  abbrev run : RunAnswer
  run = run_of (sheet_of s) rows

  abbrev last : List Literals
  last = last_table 128 (actions_of x.problem x.plan) t

  its_entries : entries run.table ≡ last
  its_entries = last_entries s x says rows enough t starts

  passes : described 128 x.problem.n (entries run.table) ≡ true
  passes = ap (described 128 x.problem.n) its_entries ∙ (described_iff 128 x.problem.n last).1
      (last_described s x says rows enough t starts)

  call_gives : picture_of (sheet_of s) run.table (length buffer) ≡ given (picture last) (length buffer)
  unfolding picture_of
  call_gives =
      ap (λ (j : Judgement). picture_of j run.table (length buffer)) says
      ∙ ap₂ (λ (b : Bool) (es : List Literals). cond b (given (picture es) (length buffer)) (refusal 22 0)) passes its_entries

  call_writes : buffer_of (sheet_of s) run.table buffer ≡ written (picture last) buffer
  unfolding buffer_of
  call_writes =
      ap (λ (j : Judgement). buffer_of j run.table buffer) says
      ∙ ap₂ (λ (b : Bool) (es : List Literals). cond b (written (picture es) buffer) buffer) passes its_entries

  -- a buffer that the picture fits into gets its bytes; those after it are kept
  pub picture_written : (b : List ℕ) → final_picture run ≡ some b → length b ≤ length buffer
      → ((picture_of (sheet_of s) run.table (length buffer)).answer ≡ Accepted)
      × (buffer_of (sheet_of s) run.table buffer ≡ b ++ drop (length b) buffer)
  picture_written b e long = (
    ap (λ (r : PictureAnswer). r.answer) (call_gives ∙ ap (λ (o : Option (List Literals)). given o (length buffer)) here ∙ gives),
    call_writes ∙ ap (λ (o : Option (List Literals)). written o buffer) here ∙ writes
        ∙ ap (λ (c : List ℕ). c ++ drop (length c) buffer) k.2,
  )
    where
      k : (r : List Literals) × (final_clauses run ≡ some r) × (picture_bytes r ≡ b)
      k = final_bytes run b e

      here : picture last ≡ some k.0
      here = sym (last_clauses s x says rows enough t starts) ∙ k.1

      fits : too_long k.0 (length buffer) ≡ false
      fits = unfold too_long in le-ltb (length buffer) (2 + 8 * length k.0) (omega (arith, long, bytes_length k.0, ap length k.2))

      gives : given (some k.0) (length buffer) ≡ record { answer = Accepted; clauses = length k.0 }
      gives = unfold given in ap (λ (t : Bool). cond t (refusal 23 0) (record { answer = Accepted; clauses = length k.0 })) fits

      writes : written (some k.0) buffer ≡ picture_bytes k.0 ++ drop (length (picture_bytes k.0)) buffer
      writes = unfold written in
          ap (λ (t : Bool). cond t buffer (picture_bytes k.0 ++ drop (2 + 8 * length k.0) buffer)) fits
          ∙ ap (λ (i : ℕ). picture_bytes k.0 ++ drop i buffer) (sym (bytes_length k.0))
