-- The loop over k literals: what is left of a list after those joined to a set. For `literals` of src/reader.rt. Assumes nothing.
use mathlib.Core.Path.{◌≡◌, refl, sym, ap, ◌∙◌}
use mathlib.Core.Option.{Option, none, some}
use Prim.Native.Nat.{ℕ, suc, ◌+◌, ◌-◌, ◌≤◌, ◌<◌}
use native.Mathlib.Nat.{sub-zero}
use native.Mathlib.Numerals.{add-one}
use native.Mathlib.Omega.{arith}
use lib.Bits.{or_zero_r}
use Rattle.std.specs.Prelude.{Result, Ok, Err}
use Rattle.std.specs.Result.{IsErrAnd}
use Rattle.sheet.specs.declared.Fault.{Fault}
use Rattle.sheet.specs.declared.reader.Reader.{Reader}
use Rattle.sheet.specs.declared.Literals.{Literals}
use Rattle.sheet.specs.Literals.{no_literal, join, literal}
use Rattle.sheet.specs.Form.{Form, done, ◌>>=◌, judged}
use Rattle.sheet.specs.Format.{literal_fault, ascending, set_of}
use Rattle.sheet.specs.inner.Reads.{Reads, literal_before}
use Rattle.sheet.proofs.laws.literals.LiteralSets.{join_assoc}
use Rattle.sheet.proofs.laws.reader.ReadParts.{Left, left_as, left_after, left_stop, left_end}
use Rattle.sheet.proofs.laws.reader.ReadLoops.{listed}

-- j literals after `last`, joined to the set l
abbrev pub joined : ℕ → Option ℕ → ℕ → Literals → Form Literals
joined n last j l = ascending n last j >>= (λ bs. done (join l (set_of bs)))

joined_more : (n : ℕ) (last : Option ℕ) (j : ℕ) (l : Literals)
    → joined n last (suc j) l ≡ judged (literal_fault n last) >>= (λ b. joined n (some b) j (join l (literal b)))
unfolding ascending set_of
joined_more n last j l =
    listed (judged (literal_fault n last)) (λ b. ascending n (some b) j) (λ bs. done (join l (set_of bs)))
    ∙ (λ z. judged (literal_fault n last) >>= (λ b. ascending n (some b) j
    >>= (λ bs. done (sym (join_assoc l (literal b) (set_of bs)) z))))

joined_none : (n : ℕ) (last : Option ℕ) (l : Literals) → joined n last 0 l ≡ done l
unfolding ascending ◌>>=◌ join no_literal set_of
joined_none n last l = rw (or_zero_r l.trues, or_zero_r l.falses)

-- i of k literals are read: their set is l, and floor is one more than the last of them
pub record Ahead (whole : Form Literals) (before : Reader) (n k i : ℕ) (l : Literals) (floor : ℕ) (here : Reader) : Type 0 where
  pub left : Left whole before (joined n (literal_before floor) (k - i) l) here

module _ {whole : Form Literals} {before : Reader} {n k : ℕ} where
  pub ahead_begin : {here : Reader} → Left whole before (ascending n none k >>= (λ bs. done (set_of bs))) here
      → Ahead whole before n k 0 no_literal 0 here
  unfolding join no_literal
  ahead_begin t = record { left = rw sub-zero t }

  module _ {i : ℕ} {l : Literals} {floor : ℕ} {here : Reader} (t : Ahead whole before n k i l floor here) where
    pub ahead_end : k ≤ i → Reads whole before (Ok l) here
    ahead_end h =
        let j : k - i ≡ 0 = omega arith in
        left_end (left_as t.left (ap (λ (m : ℕ). joined n (literal_before floor) m l) j ∙ joined_none n (literal_before floor) l)) refl

    module _ (h : i < k) {r : Result ℕ Fault} {after : Reader} (g : Reads (judged (literal_fault n (literal_before floor))) here r after)
      where
        one_more : Left whole before
            (judged (literal_fault n (literal_before floor)) >>= (λ b. joined n (some b) (k - (i + 1)) (join l (literal b)))) here
        one_more =
            let j : k - i ≡ suc (k - (i + 1)) = omega arith in
            left_as t.left
            (ap (λ (m : ℕ). joined n (literal_before floor) m l) j ∙ joined_more n (literal_before floor) (k - (i + 1)) l)

        pub ahead_stop : {out : Result Literals Fault} {e : Fault} → r ≡ Err e → IsErrAnd out (λ y. y ≡ e)
            → Reads whole before out after
        ahead_stop e q = left_stop _ one_more g e q

        pub ahead_more : {b : ℕ} {x y : Literals} → r ≡ Ok b → x ≡ literal b → y ≡ join l x → Ahead whole before n k (i + 1) y (b + 1) after
        ahead_more {b} e f q = record { left = rw (q, f, add-one b) (left_after _ one_more g e) }
