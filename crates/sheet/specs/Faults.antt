-- What a sheet says, and where its first fault is (document 01, "Numbers and their order"): words for statements about the call `judge`.
use Rattle.std.specs.Prelude.{◌≡◌, List, ◌∷◌, ℕ, ◌≤◌, length, take, drop}
use Rattle.std.proofs.Math.Option.{some}
use Rattle.sheet.specs.Problem.{Statement}
use Rattle.sheet.specs.Form.{Form, byte, due, fault_of}
use Rattle.sheet.specs.Format.{sheet, accepted, sheet_of}

-- the bytes s are a sheet, and say x
abbrev pub Says : List ℕ → Statement → Type 0
Says s x = sheet_of s ≡ accepted x

-- "The sheet is judged byte by byte": the bytes before position p are admissible in their roles, and what follows breaks rule k where the
-- next role is due
pub record FirstFault (s : List ℕ) (k p : ℕ) : Type 0 where
  pub within : p ≤ length s
  pub form : Form Statement
  pub before : due sheet (take p s) ≡ some form
  pub number : fault_of form (drop p s) ≡ k
  pub wrong : k ≡ 0 → ⊥

-- after bytes without fault a byte is due at position p by the rule of its role, and b stands there
pub record ByteDue (s : List ℕ) (p : ℕ) (rule : ℕ → ℕ) (b : ℕ) : Type 0 where
  pub next : ℕ → Form Statement
  pub before : due sheet (take p s) ≡ some (byte rule next)
  pub later : List ℕ
  pub here : drop p s ≡ b ∷ later
