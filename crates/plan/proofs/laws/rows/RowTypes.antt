-- The types of locals that hold a word, lent rows, or rows lent again for a call. For `rows::write_rows` and the call `run`. Assumes
-- nothing.
use Prim.Native.Nat.{ℕ}
use mir.Syntax.{Ty, named, erased, mut, w64, ty_int, ty_ref}
use denote.Memory.{pointee}
use denote.Slice.{slice_ty}
use Rattle.plan.specs.contracts.Row as T

abbrev pub word : Ty
word = ty_int w64

abbrev pub slice_rows : ℕ → Ty
slice_rows i = slice_ty (ty_ref (named i) mut (pointee (T.the_row).written))

abbrev pub ref_again : Ty
ref_again = ty_ref erased mut (pointee (T.the_row).written)

abbrev pub slice_again : Ty
slice_again = slice_ty ref_again
