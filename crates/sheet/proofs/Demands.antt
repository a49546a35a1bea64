-- What is proved of the sheet layer, over the definition that the contract of `judge` cites (`judge_of`, by `sheet_of`), for every
-- list of bytes and with no hypothesis. Read the definitions in specs/ beside them. Each number of the call on its own condition is passed
-- on from `FaultNumbers`, sheets alike in sections 1 to 6 from `AlikeSheets`. Assumes nothing.
use mathlib.Core.Path.{◌≡◌, ap}
use mathlib.Core.Logic.{◌↔◌}
use mathlib.Core.List.{List, ◌∷◌, ◌++◌}
use Prim.Native.Nat.{ℕ, ◌+◌, ◌≤◌, ◌<◌}
use lib.ListN.{length, take}
use Rattle.sheet.specs.Problem.{Statement}
use Rattle.sheet.specs.Format.{refused, sheet_of}
use Rattle.sheet.specs.Encoding.{ProperStatement, encode}
use Rattle.sheet.specs.Calls.{Accepted, answer_of, judge_of}
use Rattle.sheet.specs.Faults.{Says}
use Rattle.sheet.proofs.laws.format.Judgements as J
use Rattle.sheet.proofs.laws.format.Encodings as E
use Rattle.sheet.proofs.laws.format.FaultNumbers as F
pub use Rattle.sheet.proofs.laws.format.FaultNumbers.{judge_says, judge_refuses, judge_refused, judge_numbers, judge_1, judge_2, judge_3, judge_4, judge_5, judge_6, judge_7}
pub use Rattle.sheet.proofs.laws.format.AlikeSheets.{alike}
pub use Rattle.sheet.proofs.laws.literals.LiteralTests.{within_iff, consistent_iff, meets_iff, state_iff}

-- ---- TH1 (a): accepted exactly for the encodings of statements within document 01's ranges and list rules; these are unique, and
-- no longer than 3,711 bytes. So an accepted sheet's literal sets are consistent and below n, its counts in range, and its plan's
-- numbers on the sheet.
pub accepted_encoding : (s : List ℕ) (x : Statement) → Says s x ↔ (ProperStatement x × (s ≡ encode x))
accepted_encoding s x =
    (λ e. (E.encoded_iff s x).0 ((J.accepted_iff s x).0 e), λ h. (J.accepted_iff s x).1 ((E.encoded_iff s x).1 h))

pub judge_accepted : (s : List ℕ) → (judge_of s ≡ Accepted) ↔ ((x : Statement) × ProperStatement x × (s ≡ encode x))
judge_accepted s = (
  λ e. let r = (F.judge_says s).0 e in let k = (accepted_encoding s r.0).0 r.1 in (r.0, k.0, k.1),
  λ r. (F.judge_says s).1 (r.0, (accepted_encoding s r.0).1 (r.1, r.2)),
)

pub statement_proper : (s : List ℕ) (x : Statement) → Says s x → ProperStatement x
statement_proper s x e = ((accepted_encoding s x).0 e).0

pub encoding_unique : (x y : Statement) → ProperStatement x → ProperStatement y → encode x ≡ encode y → x ≡ y
encoding_unique = E.encode_unique

pub judge_longest : (s : List ℕ) → judge_of s ≡ Accepted → length s ≤ 3711
judge_longest s e = let r = (F.judge_says s).0 e in J.longest s r.0 r.1

-- TH1 (b), the first fault by the roles of bytes, has its own file: `judge_refused`, `judge_1` to `judge_7` in FaultNumbers

-- ---- TH1 (c): the first fault is local
pub local : (s : List ℕ) (k p : ℕ) → sheet_of s ≡ refused k p → (k ≡ 1 → ⊥) → (t : List ℕ) → take (p + 1) t ≡ take (p + 1) s
    → sheet_of t ≡ refused k p
local = J.local

-- bytes that end too early have no fault in any continuation before their end
pub short_open : (s : List ℕ) (p : ℕ) → sheet_of s ≡ refused 1 p → (t : List ℕ) (k q : ℕ) → sheet_of (s ++ t) ≡ refused k q → length s ≤ q
short_open = J.short_open

-- ---- TH1 (d): prefixes and extensions of an accepted sheet
pub prefix : (s : List ℕ) (x : Statement) → Says s x → (i : ℕ) → i < length s → sheet_of (take i s) ≡ refused 1 i
prefix = J.prefix

pub longer : (s : List ℕ) (x : Statement) → Says s x → (c : ℕ) (t : List ℕ) → sheet_of (s ++ (c ∷ t)) ≡ refused 6 (length s)
longer = J.longer

-- ---- TH1 (e): the first 4,096 bytes decide
pub first_bytes : (s : List ℕ) → sheet_of (take 4096 s) ≡ sheet_of s
first_bytes = J.first_bytes

pub judge_first : (s : List ℕ) → judge_of (take 4096 s) ≡ judge_of s
unfolding judge_of
judge_first s = ap answer_of (J.first_bytes s)
