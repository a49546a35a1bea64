-- Ascending lists of literal bytes, as a sheet has them, are the sets of literals without a complement pair.
-- For the bytes of a statement (Encodings). Assumes nothing.
use mathlib.Core.Path.{◌≡◌, refl, sym, ap, ap₂, ◌∙◌, subst}
use mathlib.Core.Logic.{◌↔◌, ⊎_elim}
use mathlib.Core.Bool.{Bool, true, false, not, ◌||◌, true≢false, false≢true}
use mathlib.Core.List.Memᴰ
use mathlib.Core.List.{List, [], ◌∷◌, Memᴰ}
use mathlib.Core.Option.{Option, none, some}
use Prim.Native.Nat.{ℕ, zero, suc, ◌+◌, ◌*◌, ◌/◌, ◌%◌, ◌≤◌, ◌<◌}
use native.Mathlib.Omega.{arith}
use lib.Dec.{eqb, ltb}
use lib.ListN.{length}
use borrow.Author.Tests.{eq-eqb, ne_eqb, eqb-true, ltb-true, ltb-false}
use Rattle.sheet.specs.declared.Literals.{Literals}
use Rattle.sheet.specs.Literals.{mem, no_literal, single, sign, literal, contains, consistent, below, members}
use Rattle.sheet.specs.inner.Masks.{byte, next}
use Rattle.sheet.specs.Form.{Form, done, ◌>>=◌, judged, due}
use Rattle.sheet.specs.Format.{literal_fault, ascending, set_of}
use Rattle.sheet.proofs.laws.base.Bools.{iff_eq, or_cases, or_left, or_right, and_true}
use Rattle.sheet.proofs.laws.literals.LiteralSets.{mem_none, mem_join, set_ext, mem_self, single_is, consistent_of, of_consistent, consistent_join, consistent_single, clash_single, of_below, below_join, below_single}
use Rattle.sheet.proofs.laws.literals.LiteralBytes.{next_is, byte_place, byte_of, contains_byte, contains_lt, down, next_found, next_ge, members_here, members_step, members_end, members_cons, members_nil, of_member, member_of}
use Rattle.sheet.proofs.laws.format.ByteRules.{beyond, least, literal_0}
use Rattle.sheet.proofs.laws.format.DueForms.{run_byte, run_done, run_map}

-- ---- the rule of a literal

-- each byte in order has no fault after the one before, the first after `last`
abbrev pub Listed : ℕ → Option ℕ → List ℕ → Type 0
Listed n last [] = Unit {0}
Listed n last (b ∷ bs) = (literal_fault n last b ≡ 0) × Listed n (some b) bs

-- each byte in order is at or above what the one before asks for, the first at or above l, and below 2n
abbrev pub From : ℕ → ℕ → List ℕ → Type 0
From n l [] = Unit {0}
From n l (b ∷ bs) = (l ≤ b) × (b < 2 * n) × From n (beyond b) bs

-- the two say the same
pub listed_from : (n : ℕ) (last : Option ℕ) (bs : List ℕ) → Listed n last bs ↔ From n (least last) bs
listed_from n last [] = (λ h. h, λ h. h)
listed_from n last (b ∷ bs) =
    let f : (literal_fault n last b ≡ 0) ↔ ((least last ≤ b) × (b < 2 * n)) = literal_0 n last b in
    let r : Listed n (some b) bs ↔ From n (beyond b) bs = listed_from n (some b) bs in
    (λ h. ((f.0 h.0).0, (f.0 h.0).1, r.0 h.1), λ h. (f.1 (h.0, h.1), r.1 h.2))

from_lower : (n l m : ℕ) (bs : List ℕ) → l ≤ m → From n m bs → From n l bs
from_lower n l m [] i h = h
from_lower n l m (b ∷ bs) i h = (omega arith, h.1, h.2)

-- ---- the set of a list

contains_literal : (b m : ℕ) → contains (literal b) m ≡ eqb m b
unfolding contains literal
contains_literal b m =
    iff_eq _ _
    (λ e. let i : (sign m ≡ sign b) × (m / 2 ≡ b / 2) = single_is (sign b) (b / 2) (sign m) (m / 2) e in eq-eqb m b
    (sym (byte_of m) ∙ ap₂ byte i.0 i.1 ∙ byte_of b))
    (λ e. ap (λ (x : ℕ). mem (single (sign b) (b / 2)) (sign x) (x / 2)) (eqb-true m b e) ∙ mem_self (sign b) (b / 2))

contains_nil : (m : ℕ) → contains (set_of []) m ≡ false
unfolding contains set_of
contains_nil m = mem_none (sign m) (m / 2)

contains_cons : (b : ℕ) (bs : List ℕ) (m : ℕ) → contains (set_of (b ∷ bs)) m ≡ (eqb m b || contains (set_of bs) m)
unfolding contains set_of
contains_cons b bs m = mem_join (literal b) (set_of bs) (sign m) (m / 2)
    ∙ ap (λ (t : Bool). t || mem (set_of bs) (sign m) (m / 2)) (contains_literal b m)

-- a literal is in the set if it is in the list
of_contains : (bs : List ℕ) (m : ℕ) → contains (set_of bs) m ≡ true → Memᴰ m bs
of_contains [] m e = absurd (false≢true (sym (contains_nil m) ∙ e))
of_contains (b ∷ bs) m e =
    ⊎_elim (λ (q : eqb m b ≡ true). Memᴰ.head (eqb-true m b q))
    (λ (q : contains (set_of bs) m ≡ true). Memᴰ.tail (of_contains bs m q))
    (or_cases _ _ (sym (contains_cons b bs m) ∙ e))

contains_of : (bs : List ℕ) (m : ℕ) → Memᴰ m bs → contains (set_of bs) m ≡ true
contains_of [] m i = absurd (Memᴰ.not-nil i)
contains_of (b ∷ bs) m i =
    contains_cons b bs m
    ∙ ⊎_elim (λ (q : m ≡ b). or_left _ _ (eq-eqb m b q)) (λ (j : Memᴰ m bs). or_right (eqb m b) _ (contains_of bs m j))
    (Memᴰ.cases_cons i)

-- no literal of the set is below the list's start
from_least : (n l : ℕ) (bs : List ℕ) → From n l bs → (m : ℕ) → contains (set_of bs) m ≡ true → l ≤ m
from_least n l [] h m e = absurd (false≢true (sym (contains_nil m) ∙ e))
from_least n l (b ∷ bs) h m e =
    ⊎_elim (λ (q : eqb m b ≡ true). omega (arith, eqb-true m b q))
    (λ (q : contains (set_of bs) m ≡ true). omega (arith, from_least n (beyond b) bs h.2 m q))
    (or_cases _ _ (sym (contains_cons b bs m) ∙ e))

-- ---- from a list to its set

from_below : (n l : ℕ) (bs : List ℕ) → From n l bs → below n (set_of bs) ≡ true
unfolding set_of literal
from_below n l [] h = of_below n no_literal (λ s p m. absurd (false≢true (sym (mem_none s p) ∙ m)))
from_below n l (b ∷ bs) h =
    below_join n (literal b) (set_of bs) ∙ and_true _ _ (below_single n (sign b) (b / 2) (omega arith)) (from_below n (beyond b) bs h.2)

from_consistent : (n l : ℕ) (bs : List ℕ) → From n l bs → consistent (set_of bs) ≡ true
unfolding set_of literal
from_consistent n l [] h = of_consistent no_literal (λ s p m. mem_none (not s) p)
from_consistent n l (b ∷ bs) h =
    consistent_join (literal b) (set_of bs)
    ∙ and_true _ _ (and_true _ _ (consistent_single (sign b) (b / 2)) (from_consistent n (beyond b) bs h.2))
    (ap not (clash_single (sign b) (b / 2) (set_of bs) ∙ go (mem (set_of bs) (not (sign b)) (b / 2)) refl))
  where
    go : (t : Bool) → mem (set_of bs) (not (sign b)) (b / 2) ≡ t → mem (set_of bs) (not (sign b)) (b / 2) ≡ false
    go true q =
        let c : ℕ = byte (not (sign b)) (b / 2) in
        absurd (omega (
          arith,
          byte_place (not (sign b)) (b / 2),
          from_least n (beyond b) bs h.2 c (contains_byte (set_of bs) (not (sign b)) (b / 2) ∙ q),
        ))
    go false q = q

-- a set that has the literals of the list from l on lists them
from_members : (n : ℕ) → n ≤ 32 → (l : ℕ) (bs : List ℕ) (a : Literals) → From n l bs
    → ((m : ℕ) → l ≤ m → contains a m ≡ contains (set_of bs) m) → members a l ≡ bs
from_members n k l [] a h same = members_nil a l (go (ltb (next a l) 64) refl)
  where
    go : (t : Bool) → ltb (next a l) 64 ≡ t → 64 ≤ next a l
    go true q = absurd (true≢false (sym (next_found a l (ltb-true _ _ q)) ∙ same (next a l) (next_ge a l) ∙ contains_nil _))
    go false q = ltb-false _ _ q
from_members n k l (b ∷ bs) a h same =
    members_cons a l (subst (λ (x : ℕ). x < 64) (sym at_b) (omega arith))
    ∙ ap (λ (x : ℕ). x ∷ members a (x + 1)) at_b
    ∙ ap (λ (r : List ℕ). b ∷ r)
    (from_members n k (b + 1) bs a (from_lower n (b + 1) (beyond b) bs (omega arith) h.2)
    (λ m i. same m (omega arith) ∙ contains_cons b bs m ∙ rw (ne_eqb m b (λ (q : m ≡ b). omega arith))))
  where
    none_before : (m : ℕ) → l ≤ m → m < b → (t : Bool) → contains a m ≡ t → contains a m ≡ false
    none_before m i j true e = absurd (omega (arith, from_least n b (b ∷ bs) (omega arith, h.1, h.2) m (sym (same m i) ∙ e)))
    none_before m i j false e = e

    at_b : next a l ≡ b
    at_b =
        sym (next_is a l b h.0 (omega arith) (λ q. same b h.0 ∙ contains_of (b ∷ bs) b (Memᴰ.head refl))
        (λ m i j. none_before m i j (contains a m) refl))

-- ---- from a set to its list

-- two literals of a consistent set are of two propositions
apart : (a : Literals) → consistent a ≡ true → (l m : ℕ) → contains a l ≡ true → contains a m ≡ true → l < m → beyond l ≤ m
unfolding contains sign
apart a c l m e f h = go (ltb m (beyond l)) refl
  where
    go : (t : Bool) → ltb m (beyond l) ≡ t → beyond l ≤ m
    go true q =
        let i : m < beyond l = ltb-true _ _ q in
        let even : eqb (l % 2) 0 ≡ true = eq-eqb (l % 2) 0 (omega arith) in
        let odd : eqb (m % 2) 0 ≡ false = ne_eqb (m % 2) 0 (λ (z : m % 2 ≡ 0). omega arith) in
        let half : m / 2 ≡ l / 2 = omega arith in
        absurd (true≢false (sym (rw (odd, half) at f) ∙ consistent_of a c true (l / 2) (rw even at e)))
    go false q = ltb-false _ _ q

-- so none of them is the complement of l, where l is one
from_apart : (a : Literals) → consistent a ≡ true → (n l : ℕ) → contains a l ≡ true → (bs : List ℕ)
    → ((m : ℕ) → Memᴰ m bs → contains a m ≡ true) → From n (l + 1) bs → From n (beyond l) bs
from_apart a c n l e [] is h = h
from_apart a c n l e (b ∷ bs) is h = (apart a c l b e (is b (Memᴰ.head refl)) (omega arith), h.1, h.2)

members_from_lem : (n : ℕ) (a : Literals) → consistent a ≡ true → below n a ≡ true → (l : ℕ) → From n l (members a l)
members_from_lem n a c b = down (λ (l : ℕ). From n l (members a l)) (λ l h. rw (members_end a l h) tt)
    (λ l h r. pick l h r (contains a l) refl)
  where
    pick : (l : ℕ) → l < 64 → From n (l + 1) (members a (l + 1)) → (t : Bool) → contains a l ≡ t → From n l (members a l)
    pick l h r true e =
        rw (members_here a l h e)
        (omega arith, contains_lt n a b l e, from_apart a c n l e (members a (l + 1)) (λ m i. (of_member a m (l + 1) i).2) r)
    pick l h r false e = rw (members_step a l h e) (from_lower n l (l + 1) (members a (l + 1)) (omega arith) r)

-- the set of the list of a set is the set
pub set_members : (n : ℕ) → n ≤ 32 → (a : Literals) → below n a ≡ true → set_of (members a 0) ≡ a
set_members n h a b = set_ext _ _ (λ s p. sym (contains_byte _ s p) ∙ same s p ∙ contains_byte a s p)
  where
    same : (s : Bool) (p : ℕ) → contains (set_of (members a 0)) (byte s p) ≡ contains a (byte s p)
    same s p =
        iff_eq _ _ (λ e. (of_member a (byte s p) 0 (of_contains (members a 0) (byte s p) e)).2)
        (λ e. contains_of (members a 0) (byte s p)
        (member_of a (byte s p) (omega (arith, contains_lt n a b (byte s p) e)) e 0 (omega arith)))

-- ---- lists without fault are the lists of consistent sets

pub listed_members : (n : ℕ) → n ≤ 32 → (bs : List ℕ) → Listed n none bs → members (set_of bs) 0 ≡ bs
listed_members n h bs l = from_members n h 0 bs (set_of bs) ((listed_from n none bs).0 l) (λ m i. refl)

pub listed_consistent : (n : ℕ) (bs : List ℕ) → Listed n none bs → consistent (set_of bs) ≡ true
listed_consistent n bs l = from_consistent n 0 bs ((listed_from n none bs).0 l)

pub listed_below : (n : ℕ) (bs : List ℕ) → Listed n none bs → below n (set_of bs) ≡ true
listed_below n bs l = from_below n 0 bs ((listed_from n none bs).0 l)

pub members_listed : (n : ℕ) (a : Literals) → consistent a ≡ true → below n a ≡ true → Listed n none (members a 0)
members_listed n a c b = (listed_from n none (members a 0)).1 (members_from_lem n a c b 0)

-- ---- the form reads the lists of k literals without fault

pub ascending_iff : (n : ℕ) (last : Option ℕ) (k : ℕ) (bs cs : List ℕ)
    → (due (ascending n last k) bs ≡ some (done cs)) ↔ ((cs ≡ bs) × (length bs ≡ k) × Listed n last bs)
unfolding due ascending judged ◌>>=◌
ascending_iff n last zero bs cs = (λ e. to bs (run_done [] cs bs e), from bs)
  where
    to : (bs : List ℕ) → (bs ≡ []) × ([] ≡ cs) → (cs ≡ bs) × (length bs ≡ 0) × Listed n last bs
    to [] r = (sym r.1, refl, tt)
    to (b ∷ bs) r = let z : ◌≡◌ {A = ℕ} 0 1 = cc in absurd (omega arith)

    from : (bs : List ℕ) → (cs ≡ bs) × (length bs ≡ 0) × Listed n last bs → due (done []) bs ≡ some (done cs)
    from [] h = ap (λ (x : List ℕ). some (done x)) (sym h.0)
    from (b ∷ bs) h = absurd (omega arith)
ascending_iff n last (suc k) [] cs = (λ e. let z : ◌≡◌ {A = ℕ} 0 1 = cc in absurd (omega arith), λ h. absurd (omega arith))
ascending_iff n last (suc k) (b ∷ bs) cs = (
  λ e.
      let p = (run_byte rule then b bs (done cs)).0 e in
      let m = (run_map (ascending n (some b) k) (λ (ds : List ℕ). b ∷ ds) bs cs).0 p.1 in
      let r = (ascending_iff n (some b) k bs m.0).0 m.1 in
      (cc (m.2, r.0), ap suc r.1, (p.0, r.2)),
  λ h.
      (run_byte rule then b bs (done cs)).1 (
        h.2.0,
        (run_map (ascending n (some b) k) (λ (ds : List ℕ). b ∷ ds) bs cs).1
            (bs, (ascending_iff n (some b) k bs bs).1 (refl, omega arith, h.2.1), sym h.0),
      ),
)
  where
    rule : ℕ → ℕ
    rule = literal_fault n last

    then : ℕ → Form (List ℕ)
    then c = ascending n (some c) k >>= (λ ds. done (c ∷ ds))
