-- A sheet that was read to its end, or to the fault of a section. For `sheet_in` of src/reader.rt. Assumes nothing.
use mathlib.Core.Path.{◌≡◌}
use mathlib.Core.List.{List}
use Prim.Native.Nat.{ℕ, ◌≤◌, ◌<◌}
use lib.ListN.{length}
use borrow.Author.Tests.{lt-ltb, le-ltb}
use Rattle.std.specs.Prelude.{Result, Ok, Err}
use Rattle.std.specs.Result.{IsErrAnd}
use Rattle.sheet.specs.declared.Fault.{Fault}
use Rattle.sheet.specs.declared.Sheet.{Sheet}
use Rattle.sheet.specs.declared.reader.Reader.{Reader}
use Rattle.sheet.specs.Problem.{Statement}
use Rattle.sheet.specs.Form.{Form, done, ◌>>=◌, read}
use Rattle.sheet.specs.Format.{sheet, at_end, sheet_of}
use Rattle.sheet.specs.inner.Decoded.{statement_in, judgement_in}
use Rattle.sheet.specs.inner.Reads.{ReadsAs}
use Rattle.sheet.proofs.laws.reader.ReadSheets.{exit}
use Rattle.sheet.proofs.laws.reader.ReadParts.{Left, left_stop, got_fault}

module _ (packed : List ℕ) {before here : Reader} (start : before.at ≡ 0) where
  -- a section at fault
  pub sheet_stop : {B C : Type 0} {x : Form B} (f : B → Form Statement) {says : C → B} {r : Result C Fault} {after : Reader}
      (out : Result Sheet Fault) {e : Fault} → Left sheet before (x >>= f) here → ReadsAs says x here r after → r ≡ Err e
      → IsErrAnd out (λ y. y ≡ e) → judgement_in out packed ≡ sheet_of before.bytes.now
  unfolding judgement_in sheet_of at_end
  sheet_stop f {after = after} out t g e k =
      let stop : ReadsAs (λ (x : Sheet). statement_in x packed) sheet before out after = left_stop f t g e k in
      rw (exit out k, ← start, got_fault _ _ _ stop.gives (exit out k))

  -- bytes after the plan
  pub sheet_longer : {x : Statement} → Left sheet before (done x) here → here.at < length before.bytes.now
      → judgement_in (Err (record { number = 6; position = here.at })) packed ≡ sheet_of before.bytes.now
  unfolding judgement_in sheet_of at_end read
  sheet_longer t h = rw (← start, t.so, lt-ltb here.at (length before.bytes.now) h)

  pub sheet_whole : (x : Sheet) → Left sheet before (done (statement_in x packed)) here → length before.bytes.now ≤ here.at
      → judgement_in (Ok x) packed ≡ sheet_of before.bytes.now
  unfolding judgement_in sheet_of at_end read
  sheet_whole x t h = rw (← start, t.so, le-ltb here.at (length before.bytes.now) h)
