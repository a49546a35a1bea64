-- What a writer leaves in the buffer that is lent to it.
use Rattle.std.specs.Prelude.{◌≡◌, ◌≤◌, List, ◌++◌, ℕ, ◌+◌, length, take, drop}
use Rattle.plan.specs.declared.text.Writer.{Writer}

-- the bytes s stand where the next text was to go, which is then after them, in the same buffer; its other bytes are kept
pub record Wrote (before : Writer) (s : List ℕ) (after : Writer) : Type 0 where
  pub buffer : after.out.ghost_name ≡ before.out.ghost_name
  pub long : length after.out.now ≡ length before.out.now
  pub place : after.at ≡ before.at + length s
  pub within : after.at ≤ length after.out.now
  pub bytes : after.out.now ≡ take before.at before.out.now ++ (s ++ drop after.at before.out.now)

-- the bytes s stand at the front, the others are kept, and r is how many s are
pub record WroteFirst (before s : List ℕ) (r : ℕ) (after : List ℕ) : Type 0 where
  pub place : r ≡ length s
  pub bytes : after ≡ s ++ drop r before
