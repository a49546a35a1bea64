-- What a function of the reader gives: a result, and where reading stands after it.
use Rattle.std.specs.Prelude.{◌≡◌, List, ℕ, zero, suc, Result, Ok, Err}
use Rattle.std.specs.Prelude as std
use Rattle.std.proofs.Math.Option.{Option, none, some}
use Rattle.sheet.specs.declared.Fault.{Fault}
use Rattle.sheet.specs.declared.reader.Reader.{Reader}
use Rattle.sheet.specs.declared.reader.Facts as slots
use Rattle.sheet.specs.Form.{Form, Read, item, fault, read}
use Rattle.sheet.specs.Problem.{Facts}
use Rattle.sheet.specs.inner.Packed.{clauses_at, ors_in, oneofs_in}

-- what x has read: a value that says the item, by `says`, and the position after it; or the fault
abbrev pub Gives : {A B : Type 0} → (B → A) → Read A → Result B Fault → ℕ → Type 0
Gives says x (Ok value) after = x ≡ item (says value) after
Gives says x (Err at) after = x ≡ fault at.number at.position

-- a form is read from where reading stood before: the bytes are kept, and the result is what they say
pub record ReadsAs {A B : Type 0} (says : B → A) (form : Form A) (before : Reader) (result : Result B Fault) (after : Reader) : Type 0
  where
    pub bytes : after.bytes.now ≡ before.bytes.now
    pub gives : Gives says (read before.bytes.now form before.at) result after.at

abbrev pub same : {A : Type 0} → A → A
same a = a

-- the value is the item itself
abbrev pub Reads : {A : Type 0} → Form A → Reader → Result A Fault → Reader → Type 0
Reads = ReadsAs same

-- the literal before, by one more than it; 0 for the first
abbrev pub literal_before : ℕ → Option ℕ
literal_before zero = none
literal_before (suc l) = some l

-- the number of a byte's fault; none for 0
abbrev pub fault_in : ℕ → std.Option ℕ
fault_in zero = std.None
fault_in (suc k) = std.Some (suc k)

-- sections 1 to 4, with the packed array of the clauses
abbrev pub facts_in : slots.Facts → List ℕ → Facts
facts_in f packed =
    record { n = f.n.count; known = f.known; ors = clauses_at f.ors (ors_in packed); oneofs = clauses_at f.oneofs (oneofs_in packed) }
