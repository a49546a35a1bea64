-- Proper sets of literals: joined, replaced and denied, their worlds, their literals one by one; and members of lists.
-- For the tables and pictures of table, and the runs of plan. Assumes nothing.
use mathlib.Core.Path.{◌≡◌, refl, sym, ap, ◌∙◌}
use mathlib.Core.Bool.{Bool, true, false, not, true≢false}
use Prim.Native.Nat.{ℕ, ◌/◌, ◌^◌, ◌≤◌, ◌<◌}
use native.Mathlib.Omega.{arith}
use lib.Dec.{T}
use Rattle.sheet.specs.declared.Literals.{Literals}
use Rattle.sheet.specs.Literals.{no_literal, mem, within, clash, consistent, join, flip, replace, single, sign, literal, contains, state, below, members, Proper}
use Rattle.sheet.specs.inner.Masks.{byte}
use Rattle.sheet.specs.Lists.{Any, All}
use Rattle.sheet.proofs.laws.base.ListMembers.{any_member, all_members}
use Rattle.sheet.proofs.laws.base.Bools.{and_true, T_true, T_false, true_T, false_T, not_twice}
use Rattle.sheet.proofs.laws.literals.LiteralSets as sets
use Rattle.sheet.proofs.laws.literals.LiteralSets.{consistent_join, below_join, below_of, clash_sym, clash_single, consistent_single, below_single, proper_of, proper_consistent, proper_below, mem_none}
use Rattle.sheet.proofs.laws.literals.Results.{consistent_replace, below_replace}
use Rattle.sheet.proofs.laws.literals.Worlds.{completion, completion_with, fails_here}
use Rattle.sheet.proofs.laws.literals.LiteralBytes.{byte_lt, contains_byte, literal_byte, of_member, member_of}

-- ---- lists
-- ---- within
pub join_within : (a b c : Literals) → T (within a c) → T (within b c) → T (within (join a b) c)
join_within a b c h k =
    true_T (within (join a b) c)
    (sets.within_join a b c ∙ and_true (within a c) (within b c) (T_true (within a c) h) (T_true (within b c) k))

-- ---- no literal
pub below_none : (n : ℕ) → below n no_literal ≡ true
below_none n = sets.of_below n no_literal (λ s p m. absurd (true≢false (sym m ∙ mem_none s p)))

-- ---- proper sets
pub join_proper : (n : ℕ) (a b : Literals) → Proper n a → Proper n b → T (not (clash b a)) → Proper n (join a b)
join_proper n a b ha hb k =
    proper_of n (join a b)
    (consistent_join a b ∙ rw (proper_consistent n a ha, proper_consistent n b hb, clash_sym a b, T_false (clash b a) k))
    (below_join n a b ∙ rw (proper_below n a ha, proper_below n b hb))

pub replace_proper : (n : ℕ) (a r : Literals) → Proper n a → T (consistent r) → below n r ≡ true → Proper n (replace a r)
replace_proper n a r ha hr b =
    proper_of n (replace a r) (consistent_replace a r (proper_consistent n a ha) (T_true (consistent r) hr))
    (below_replace n a r (proper_below n a ha) b)

-- a literal that d lacks can be made false in it
pub deny_proper : (n : ℕ) (d : Literals) (s : Bool) (p : ℕ) → Proper n d → p < n → mem d s p ≡ false → Proper n (join d (single (not s) p))
deny_proper n d s p hd l e =
    join_proper n d (single (not s) p) hd (proper_of n (single (not s) p) (consistent_single (not s) p) (below_single n (not s) p l))
    (false_T (clash (single (not s) p) d) (clash_single (not s) p d ∙ ap (λ (t : Bool). mem d t p) (not_twice s) ∙ e))

-- every proper set has a world
pub some_world : (n : ℕ) (q : Literals) → Proper n q → (w : ℕ) × ((w < 2 ^ n) × T (within q (state n w)))
some_world n q h =
    (q.trues, (h.trues_below, true_T (within q (state n q.trues)) (completion n q (proper_consistent n q h) (proper_below n q h))))

-- a set that does not lie in d fails in some world of d
pub lacking_world : (n : ℕ) (c d : Literals) → Proper n c → Proper n d → T (not (within c d))
    → (w : ℕ) × (T (within d (state n w)) × ((w < 2 ^ n) × T (not (within c (state n w)))))
lacking_world n c d hc hd k =
    let r = sets.not_within c d (T_false (within c d) k) in
    let x = completion_with n d (not r.0) r.1 (proper_consistent n d hd) (proper_below n d hd)
    (below_of n c (proper_below n c hc) r.0 r.1 r.2)
    (ap (λ (t : Bool). mem d t r.1) (not_twice r.0) ∙ r.3) in (
      x.0,
      (
        true_T (within d (state n x.0)) x.2,
        (x.1, false_T (within c (state n x.0)) (fails_here n x.0 x.1 c r.0 r.1 r.2 x.3)),
      ),
    )

-- ---- the literals of a set
pub members_all : (a : Literals) → All (λ l. contains a l ≡ true) (members a 0)
members_all a = all_members (λ l. contains a l ≡ true) (members a 0) (λ l m. (of_member a l 0 m).2)

pub members_any : (n : ℕ) → n ≤ 32 → (a : Literals) → Proper n a → (P : ℕ → Type 0) (s : Bool) (p : ℕ) → mem a s p ≡ true → P (byte s p)
    → Any P (members a 0)
members_any n h a ha P s p e =
    any_member P (members a 0) (byte s p)
    (member_of a (byte s p) (omega (arith, byte_lt n s p (below_of n a (proper_below n a ha) s p e))) (contains_byte a s p ∙ e) 0
    (omega arith))

flip_single : (s : Bool) (p : ℕ) → flip (single s p) ≡ single (not s) p
unfolding flip single
flip_single true p = refl
flip_single false p = refl

pub flip_literal : (l : ℕ) → flip (literal l) ≡ single (not (sign l)) (l / 2)
unfolding literal
flip_literal l = flip_single (sign l) (l / 2)

pub flip_byte : (s : Bool) (p : ℕ) → flip (literal (byte s p)) ≡ single (not s) p
flip_byte s p = ap flip (literal_byte s p) ∙ flip_single s p
