-- Reading bytes one after the other. Each byte has a role, which the bytes before it decide; a role is a rule that gives the
-- number of a byte's fault, 0 for none.
use Rattle.std.specs.Prelude.{cond, List, [], ◌∷◌, ℕ, zero, suc, ◌+◌, ltb, length, get_or}
use Rattle.std.proofs.Math.Option.{Option, none, some}

infixl 20 ◌>>=◌
-- what is to be read: nothing more, with the value read; or one byte under a rule, and what is to be read after it
pub data Form (A : Type 0) : Type 0 where
  done : A → Form A
  byte : (ℕ → ℕ) → (ℕ → Form A) → Form A

-- one form after the other
unfoldable pub ◌>>=◌ : {A B : Type 0} → Form A → (A → Form B) → Form B
◌>>=◌ (done a) f = f a
◌>>=◌ (byte rule next) f = byte rule (λ b. next b >>= f)

-- one byte under a rule
unfoldable pub judged : (ℕ → ℕ) → Form ℕ
judged rule = byte rule done

-- k times the same form
unfoldable pub times : {A : Type 0} → ℕ → Form A → Form (List A)
times zero one = done []
times (suc k) one = do
  x ← one
  xs ← times k one
  done (x ∷ xs)

-- ---- reading the bytes s from a position on
-- an item, with the position after it; or a fault, with its number and position
pub data Read (A : Type 0) : Type 0 where
  item : A → ℕ → Read A
  fault : ℕ → ℕ → Read A

-- the fault; else what f reads after the item
abbrev pub then_read : {A B : Type 0} → Read A → (A → ℕ → Read B) → Read B
then_read (item a next) f = f a next
then_read (fault k p) f = fault k p

-- the byte b at a position, by the number of its fault
abbrev pub admit : ℕ → ℕ → ℕ → Read ℕ
admit zero b at = item b (at + 1)
admit (suc k) b at = fault (suc k) at

-- the byte at a position: 1 at the length where the bytes end too early
unfoldable pub byte_at : List ℕ → (ℕ → ℕ) → ℕ → Read ℕ
byte_at s rule at = cond (ltb at (length s)) (admit (rule (get_or s at 0)) (get_or s at 0) at) (fault 1 (length s))

unfoldable pub read : {A : Type 0} → List ℕ → Form A → ℕ → Read A
read s (done a) at = item a at
read s (byte rule next) at = then_read (byte_at s rule at) (λ b rest. read s (next b) rest)

-- ---- the role of the next byte
abbrev pub passed : {B : Type 0} → ℕ → Option B → Option B
passed zero x = x
passed (suc k) x = none

-- what is due after the bytes bs; none if one of them is at fault, or stands after the end
unfoldable pub due : {A : Type 0} → Form A → List ℕ → Option (Form A)
due f [] = some f
due (done a) (b ∷ bs) = none
due (byte rule next) (b ∷ bs) = passed (rule b) (due (next b) bs)

-- the fault of what follows where f is due: 1 for nothing though a byte is due, the number by the byte's rule, and
-- 6 for a byte after the end; 0 for none
abbrev pub fault_of : {A : Type 0} → Form A → List ℕ → ℕ
fault_of (done a) [] = 0
fault_of (done a) (b ∷ bs) = 6
fault_of (byte rule next) [] = 1
fault_of (byte rule next) (b ∷ bs) = rule b
