-- The roles of a sheet's bytes: each is a count, a literal or a move number, and each gives only its own numbers.
-- For TH1 (b), by Judgements and FaultNumbers. Assumes nothing.
use mathlib.Core.Path.{◌≡◌, refl}
use mathlib.Core.Bool.{Bool, true, false, cond}
use mathlib.Core.List.{List, [], ◌∷◌}
use mathlib.Core.Option.{Option, none, some}
use Prim.Native.Nat.{ℕ, zero, suc, ◌*◌, ◌/◌, ◌≤◌}
use native.Mathlib.Omega.{arith}
use lib.Dec.{ltb, leb, eqb}
use lib.ListN.{length}
use Rattle.sheet.specs.Form.{Form, done, byte, ◌>>=◌, judged, times, due}
use Rattle.sheet.specs.Format.{count_fault, literal_fault, number_fault, list_of, ascending, literals, clause, effect, action, clauses, actions, goal, plan, facts, sheet}
use Rattle.sheet.proofs.laws.format.DueForms.{passed_some}

-- a rule of the format gives k for some byte: 0, or the number of a fault, which tells the role
pub data TellsRole (rule : ℕ → ℕ) (k : ℕ) : Type 0 where
  fine : k ≡ 0 → TellsRole rule k
  of_count : (low high : ℕ) → rule ≡ count_fault low high → k ≡ 2 → TellsRole rule k
  of_literal : (n : ℕ) (last : Option ℕ) → rule ≡ literal_fault n last → 3 ≤ k → k ≤ 5 → TellsRole rule k
  of_number : (m : ℕ) → rule ≡ number_fault m → k ≡ 7 → TellsRole rule k

pub not_one : {rule : ℕ → ℕ} {k : ℕ} → TellsRole rule k → k ≡ 1 → ⊥
not_one (fine e) f = omega arith
not_one (of_count low high r e) f = omega arith
not_one (of_literal n last r l h) f = omega arith
not_one (of_number m r e) f = omega arith

pub not_six : {rule : ℕ → ℕ} {k : ℕ} → TellsRole rule k → k ≡ 6 → ⊥
not_six (fine e) f = omega arith
not_six (of_count low high r e) f = omega arith
not_six (of_literal n last r l h) f = omega arith
not_six (of_number m r e) f = omega arith

pub at_most_seven : {rule : ℕ → ℕ} {k : ℕ} → TellsRole rule k → k ≤ 7
at_most_seven (fine e) = omega arith
at_most_seven (of_count low high r e) = omega arith
at_most_seven (of_literal n last r l h) = omega arith
at_most_seven (of_number m r e) = omega arith

-- ---- each rule
told_count : (low high b : ℕ) → TellsRole (count_fault low high) (count_fault low high b)
told_count low high b = unfold count_fault in go (ltb b low) (ltb high b)
  where
    go : (c d : Bool) → TellsRole (count_fault low high) (cond c 2 (cond d 2 0))
    go true d = of_count low high refl refl
    go false true = of_count low high refl refl
    go false false = fine refl

told_literal : (n : ℕ) (last : Option ℕ) (b : ℕ) → TellsRole (literal_fault n last) (literal_fault n last b)
told_literal n none b = unfold literal_fault in go (leb (2 * n) b)
  where
    go : (c : Bool) → TellsRole (literal_fault n none) (cond c 3 0)
    go true = of_literal n none refl (omega arith) (omega arith)
    go false = fine refl
told_literal n (some l) b = unfold literal_fault in go (leb (2 * n) b) (leb b l) (eqb (b / 2) (l / 2))
  where
    go : (c d e : Bool) → TellsRole (literal_fault n (some l)) (cond c 3 (cond d 4 (cond e 5 0)))
    go true d e = of_literal n (some l) refl (omega arith) (omega arith)
    go false true e = of_literal n (some l) refl (omega arith) (omega arith)
    go false false true = of_literal n (some l) refl (omega arith) (omega arith)
    go false false false = fine refl

told_number : (m b : ℕ) → TellsRole (number_fault m) (number_fault m b)
told_number m b = unfold number_fault in go (leb m b)
  where
    go : (c : Bool) → TellsRole (number_fault m) (cond c 7 0)
    go true = of_number m refl refl
    go false = fine refl

-- ---- every rule of a form has a role
abbrev pub Roles : {A : Type 0} → Form A → Type 0
Roles (done a) = Unit {0}
Roles (byte rule next) = ((b : ℕ) → TellsRole rule (rule b)) × ((b : ℕ) → Roles (next b))

pub roles_due : {A : Type 0} (f : Form A) (bs : List ℕ) {g : Form A} → Roles f → due f bs ≡ some g → Roles g
unfolding due
roles_due f [] {g} h e = let q : f ≡ g = cc in rw q at h
roles_due (done a) (b ∷ bs) h e = let z : ◌≡◌ {A = ℕ} 0 1 = cc in absurd (omega arith)
roles_due (byte rule next) (b ∷ bs) h e = roles_due (next b) bs (h.1 b) (passed_some (rule b) e).1

roles_judged : (rule : ℕ → ℕ) → ((b : ℕ) → TellsRole rule (rule b)) → Roles (judged rule)
unfolding judged
roles_judged rule h = (h, λ b. tt)

roles_then : {A B : Type 0} (f : Form A) (g : A → Form B) → Roles f → ((a : A) → Roles (g a)) → Roles (f >>= g)
unfolding ◌>>=◌
roles_then (done a) g h k = k a
roles_then (byte rule next) g h k = (h.0, λ b. roles_then (next b) g (h.1 b) k)

roles_times : {A : Type 0} (one : Form A) → Roles one → (k : ℕ) → Roles (times k one)
unfolding times
roles_times one h zero = tt
roles_times one h (suc k) = roles_then one _ h (λ x. roles_then (times k one) _ (roles_times one h k) (λ xs. tt))

roles_count : (low high : ℕ) → Roles (judged (count_fault low high))
roles_count low high = roles_judged (count_fault low high) (told_count low high)

roles_list : {A : Type 0} (low high : ℕ) (one : Form A) → Roles one → Roles (list_of low high one)
unfolding list_of
roles_list low high one h = roles_then _ _ (roles_count low high) (roles_times one h)

roles_ascending : (n : ℕ) (last : Option ℕ) (k : ℕ) → Roles (ascending n last k)
unfolding ascending
roles_ascending n last zero = tt
roles_ascending n last (suc k) =
    roles_then _ _ (roles_judged (literal_fault n last) (told_literal n last))
    (λ b. roles_then _ _ (roles_ascending n (some b) k) (λ bs. tt))

roles_literals : (n low high : ℕ) → Roles (literals n low high)
unfolding literals
roles_literals n low high = roles_then _ _ (roles_count low high) (λ k. roles_then _ _ (roles_ascending n none k) (λ bs. tt))

-- ---- the sections
roles_clauses : (n : ℕ) → Roles (clauses n)
unfolding clauses clause
roles_clauses n = roles_list 0 8 _ (roles_list 1 8 _ (roles_literals n 1 4))

roles_actions : (n : ℕ) → Roles (actions n)
unfolding actions action effect
roles_actions n =
    roles_list 1 32 _
    (roles_then _ _ (roles_literals n 0 8) (λ p.
    roles_then _ _ (roles_list 0 8 _ (roles_then _ _ (roles_literals n 0 4) (λ c. roles_then _ _ (roles_literals n 1 4) (λ r. tt))))
    (λ es. tt)))

roles_facts : Roles facts
unfolding facts
roles_facts =
    roles_then _ _ (roles_count 1 32) (λ n.
    roles_then _ _ (roles_literals n 0 32) (λ known.
    roles_then _ _ (roles_clauses n) (λ ors. roles_then _ _ (roles_clauses n) (λ oneofs. tt))))

pub roles_sheet : Roles sheet
unfolding sheet goal plan
roles_sheet =
    roles_then _ _ roles_facts (λ f.
    roles_then _ _ (roles_actions f.n) (λ moves.
    roles_then _ _ (roles_list 0 8 _ (roles_literals f.n 1 8)) (λ g.
    roles_then _ _ (roles_list 0 64 _ (roles_judged (number_fault (length moves)) (told_number (length moves)))) (λ p. tt))))
