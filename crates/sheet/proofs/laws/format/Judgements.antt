-- Judgements: which fault is named, that no later byte changes it, that nothing accepted is cut or continued, how many bytes decide.
-- For TH1 (a) and (c) to (e): `judge_longest`, `local`, `short_open`, `prefix`, `longer`, `first_bytes` in proofs/Demands.
-- Assumes nothing.
use mathlib.Core.Path.{◌≡◌, refl, sym, ap, ◌∙◌}
use mathlib.Core.List.{List, [], ◌∷◌, ◌++◌, append-nil}
use mathlib.Core.Logic.{◌↔◌, ◌⊎◌, inl, inr, ⊎_elim}
use mathlib.Core.Option.{some}
use Prim.Native.Nat.{ℕ, zero, suc, ◌+◌, ◌≤◌, ◌<◌}
use native.Mathlib.Nat.{zero-add, le_of_eq}
use native.Mathlib.Numerals.{add-one}
use native.Mathlib.Omega.{arith}
use lib.ListN.{length, get_or, take, drop, length-append, length-drop, take-append-drop, drop_of_length-le}
use lib.Seq.{length-take-le, take_all, drop-cons, split_at, take-suc, append_snoc, take-append_seam, drop-append_seam, take-append-le, drop-append-le, take-take}
use borrow.Author.Tests.{lt-ltb, le-ltb}
use Rattle.sheet.specs.Problem.{Statement}
use Rattle.sheet.specs.Form.{Form, done, byte, read, due, fault_of}
use Rattle.sheet.specs.Format.{sheet, accepted, refused, at_end, sheet_of, clause, effect, action, clauses, actions, goal, plan, facts}
use Rattle.sheet.specs.Faults.{FirstFault}
use Rattle.sheet.proofs.laws.format.DueForms.{due_append, due_prefix, due_fine, Stop, stop}
use Rattle.sheet.proofs.laws.format.FormReads.{read_due, read_stop}
use Rattle.sheet.proofs.laws.format.FormLengths.{Bounded, bounded_done, bounded_judged, bounded_then, bounded_list, bounded_literals}
use Rattle.sheet.proofs.laws.format.ByteRoles.{not_one, Roles, roles_due, roles_sheet}

-- ---- the judgement by what is due

-- after bytes without fault, what is due decides
judged_at : (bs rest : List ℕ) {g : Form Statement} → due sheet bs ≡ some g
    → sheet_of (bs ++ rest) ≡ at_end (bs ++ rest) (read (bs ++ rest) g (length bs))
unfolding sheet_of
judged_at bs rest e = ap (at_end (bs ++ rest)) (simp zero-add at (read_due [] sheet bs rest e))

refused_at : (bs rest : List ℕ) (g : Form Statement) (k : ℕ) → due sheet bs ≡ some g → fault_of g rest ≡ k → (k ≡ 0 → ⊥)
    → sheet_of (bs ++ rest) ≡ refused k (length bs)
unfolding at_end read
refused_at bs rest g zero e q h = absurd (h refl)
refused_at bs [] (done x) (suc k) e q h = cc
refused_at bs (c ∷ cs) (done x) (suc k) e q h =
    let l : length bs < length (bs ++ (c ∷ cs)) = simp length-append (omega arith) in
    judged_at bs (c ∷ cs) e ∙ rw (lt-ltb _ _ l, q)
refused_at bs rest (byte rule next) (suc k) e q h = judged_at bs rest e ∙ ap (at_end (bs ++ rest)) (read_stop bs rest rule next k q)

accepted_at : (s : List ℕ) {x : Statement} → due sheet s ≡ some (done x) → sheet_of s ≡ accepted x
unfolding at_end read
accepted_at s {x} e =
    let l : length (s ++ []) ≤ length s = simp append-nil (omega arith) in
    let r : sheet_of (s ++ []) ≡ accepted x = judged_at s [] e ∙ rw (le-ltb (length s) (length (s ++ [])) l) in
    rw append-nil at r

-- every list of bytes is a sheet or has a first fault
abbrev Judged : List ℕ → Type 0
Judged s = ((x : Statement) × (due sheet s ≡ some (done x))) ⊎ ((k : ℕ) × (p : ℕ) × FirstFault s (suc k) p)

judgement : (s : List ℕ) → Judged s
judgement s = go (stop sheet s)
  where
    here : (bs rest : List ℕ) (g : Form Statement) (k : ℕ) → s ≡ bs ++ rest → due sheet bs ≡ some g → fault_of g rest ≡ suc k
        → FirstFault s (suc k) (length bs)
    here bs rest g k w e q = rw w (record {
      within = simp length-append (omega arith);
      form = g;
      before = rw take-append_seam e;
      number = rw drop-append_seam q;
      wrong = λ z. omega arith;
    })

    at_end_lem : (bs rest : List ℕ) (x : Statement) → s ≡ bs ++ rest → due sheet bs ≡ some (done x) → Judged s
    at_end_lem bs [] x w e = inl (x, rw (w, append-nil) e)
    at_end_lem bs (c ∷ cs) x w e = inr (5, length bs, here bs (c ∷ cs) (done x) 5 w e refl)

    go : Stop sheet s → Judged s
    go r =
        ⊎_elim (λ d. at_end_lem r.taken r.left d.0 r.whole (rw d.1 at r.before))
        (λ d. inr (d.2, length r.taken, here r.taken r.left r.form d.2 r.whole r.before d.4))
        r.why

fault_refused : (s : List ℕ) (k p : ℕ) → FirstFault s k p → sheet_of s ≡ refused k p
fault_refused s k p r =
    rw (take-append-drop, length-take-le p s r.within) at
    (refused_at (take p s) (drop p s) r.form k r.before r.number r.wrong)

pub refused_iff : (s : List ℕ) (k p : ℕ) → (sheet_of s ≡ refused k p) ↔ FirstFault s k p
refused_iff s k p = (λ e. go e (judgement s), fault_refused s k p)
  where
    go : sheet_of s ≡ refused k p → Judged s → FirstFault s k p
    go e (inl r) = let z : ◌≡◌ {A = ℕ} 0 1 = cc (accepted_at s r.1) in absurd (omega arith)
    go e (inr r) =
        let f = fault_refused s (suc r.0) r.1 r.2 in
        let a : suc r.0 ≡ k = cc in let b : r.1 ≡ p = cc in rw (a, b) at r.2

pub accepted_iff : (s : List ℕ) (x : Statement) → (sheet_of s ≡ accepted x) ↔ (due sheet s ≡ some (done x))
accepted_iff s x = (λ e. go e (judgement s), accepted_at s)
  where
    go : sheet_of s ≡ accepted x → Judged s → due sheet s ≡ some (done x)
    go e (inl r) = cc (accepted_at s r.1, r.1)
    go e (inr r) = cc (fault_refused s (suc r.0) r.1 r.2)

-- nothing but the end of the bytes is too early
pub early : (s : List ℕ) (p : ℕ) → sheet_of s ≡ refused 1 p → p ≡ length s
early s p e = go r.form (drop p s) refl (roles_due sheet (take p s) roles_sheet r.before) r.number
  where
    r : FirstFault s 1 p
    r = (refused_iff s 1 p).0 e

    go : (g : Form Statement) (l : List ℕ) → drop p s ≡ l → Roles g → fault_of g l ≡ 1 → p ≡ length s
    go (done x) [] d n q = absurd (omega arith)
    go (done x) (c ∷ cs) d n q = absurd (omega arith)
    go (byte rule next) [] d n q = omega (arith, r.within, length-drop p s, ap length d)
    go (byte rule next) (c ∷ cs) d n q = absurd (not_one (n.0 c) q)

-- ---- the bytes after the first fault do not matter

fault_none : (g : Form Statement) → fault_of g [] ≤ 1
fault_none (done x) = omega arith
fault_none (byte rule next) = omega arith

fault_first : (g : Form Statement) (c : ℕ) (cs ds : List ℕ) → fault_of g (c ∷ cs) ≡ fault_of g (c ∷ ds)
fault_first (done x) c cs ds = refl
fault_first (byte rule next) c cs ds = refl

-- t begins as s does up to the byte at p
agree : (s : List ℕ) (p : ℕ) → p < length s → (t : List ℕ) → take (p + 1) t ≡ take (p + 1) s → t ≡ take p s ++
    (get_or s p 0 ∷ drop (suc p) t)
agree s p l t w =
    let start : take (suc p) t ≡ take p s ++ (get_or s p 0 ∷ []) = (rw add-one at w) ∙ take-suc s p 0 l in
    sym (take-append-drop (suc p) t) ∙ rw start (append_snoc (take p s) (get_or s p 0) (drop (suc p) t))

-- a fault other than 1 is decided by the bytes up to it
pub local : (s : List ℕ) (k p : ℕ) → sheet_of s ≡ refused k p → (k ≡ 1 → ⊥) → (t : List ℕ) → take (p + 1) t ≡ take (p + 1) s
    → sheet_of t ≡ refused k p
local s k p e h t w =
    rw (length-take-le p s r.within) at
    (ap sheet_of (agree s p inside t w) ∙ refused_at (take p s) _ r.form k r.before number r.wrong)
  where
    r : FirstFault s k p
    r = (refused_iff s k p).0 e

    inside : p < length s
    inside =
        let n : p ≡ length s → ⊥ = λ q. omega
        (arith, fault_none r.form, r.wrong, rw (drop_of_length-le s (le_of_eq (sym q))) at r.number) in
        omega (arith, r.within)

    number : fault_of r.form (get_or s p 0 ∷ drop (suc p) t) ≡ k
    number = fault_first r.form (get_or s p 0) _ _ ∙ (rw (drop-cons s p 0 inside) at r.number)

-- where the bytes end too early, those before the end have no fault whatever follows
pub short_open : (s : List ℕ) (p : ℕ) → sheet_of s ≡ refused 1 p → (t : List ℕ) (k q : ℕ) → sheet_of (s ++ t) ≡ refused k q → length s ≤ q
short_open s p e t k q f = omega (arith, before)
  where
    one : FirstFault s 1 p
    one = (refused_iff s 1 p).0 e

    r : FirstFault (s ++ t) k q
    r = (refused_iff (s ++ t) k q).0 f

    all : due sheet s ≡ some one.form
    all = rw (take_all p s (omega (arith, early s p e))) at one.before

    before : q < length s → ⊥
    before l =
        let start : due sheet (take q s) ≡ some r.form = rw (take-append-le q s t (omega arith)) at r.before in
        let rest = sym (due_append sheet (take q s) (get_or s q 0 ∷ drop (suc q) s) start) ∙ ap (due sheet) (sym (split_at s q 0 l)) ∙ all
        in
        let number = rw (drop-append-le q s t (omega arith), drop-cons s q 0 l) at r.number in
        r.wrong (sym number ∙ due_fine r.form (get_or s q 0) (drop (suc q) s) (drop (suc q) s ++ t) rest)

-- ---- nothing accepted can be cut or continued

pub prefix : (s : List ℕ) (x : Statement) → sheet_of s ≡ accepted x → (i : ℕ) → i < length s → sheet_of (take i s) ≡ refused 1 i
prefix s x e i h =
    let d = due_prefix sheet (take i s) (get_or s i 0) (drop (suc i) s) (ap (due sheet) (sym (split_at s i 0 h)) ∙ (accepted_iff s x).0 e)
    in
    rw (append-nil, length-take-le i s (omega arith)) at (refused_at (take i s) [] (byte d.0 d.1) 1 d.2 refl (λ z. omega arith))

pub longer : (s : List ℕ) (x : Statement) → sheet_of s ≡ accepted x → (c : ℕ) (t : List ℕ) → sheet_of (s ++ (c ∷ t)) ≡ refused 6 (length s)
longer s x e c t = refused_at s (c ∷ t) (done x) 6 ((accepted_iff s x).0 e) refl (λ z. omega arith)

-- ---- how many bytes decide

bounded_clauses : (n : ℕ) → Bounded (clauses n) 329
unfolding clauses clause
bounded_clauses n = bounded_list 0 8 _ 41 (bounded_list 1 8 _ 5 (bounded_literals n 1 4))

bounded_effect : (n : ℕ) → Bounded (effect n) 10
unfolding effect
bounded_effect n =
    bounded_then _ _ 5 5 (bounded_literals n 0 4) (λ c bs p. bounded_then _ _ 5 0 (bounded_literals n 1 4) (λ r cs q. bounded_done _))

bounded_actions : (n : ℕ) → Bounded (actions n) 2881
unfolding actions action
bounded_actions n =
    bounded_list 1 32 _ 90
    (bounded_then _ _ 9 81 (bounded_literals n 0 8)
    (λ c bs p. bounded_then _ _ 81 0 (bounded_list 0 8 _ 10 (bounded_effect n)) (λ r cs q. bounded_done _)))

bounded_facts : Bounded facts 692
unfolding facts
bounded_facts =
    bounded_then _ _ 1 691 (bounded_judged _) (λ n _ _.
    bounded_then _ _ 33 658 (bounded_literals n 0 32) (λ known _ _.
    bounded_then _ _ 329 329 (bounded_clauses n) (λ ors _ _. bounded_then _ _ 329 0 (bounded_clauses n) (λ oneofs _ _. bounded_done _))))

pub bounded_sheet : Bounded sheet 3711
unfolding sheet goal plan
bounded_sheet =
    bounded_then _ _ 692 3019 bounded_facts (λ f _ _.
    bounded_then _ _ 2881 138 (bounded_actions f.n) (λ moves _ _.
    bounded_then _ _ 73 65 (bounded_list 0 8 _ 9 (bounded_literals f.n 1 8)) (λ g _ _.
    bounded_then _ _ 65 0 (bounded_list 0 64 _ 1 (bounded_judged _)) (λ p _ _. bounded_done _))))

pub longest : (s : List ℕ) (x : Statement) → sheet_of s ≡ accepted x → length s ≤ 3711
unfolding Bounded
longest s x e = bounded_sheet s (done x) ((accepted_iff s x).0 e)

pub first_bytes : (s : List ℕ) → sheet_of (take 4096 s) ≡ sheet_of s
unfolding Bounded
first_bytes s = go (judgement s)
  where
    short : length s ≤ 3711 → sheet_of (take 4096 s) ≡ sheet_of s
    short l = ap sheet_of (take_all 4096 s (omega arith))

    first : (k p : ℕ) → FirstFault s (suc k) p → p ≤ 3711 → sheet_of (take 4096 s) ≡ sheet_of s
    first zero p r l = short (omega (arith, early s p (fault_refused s 1 p r)))
    first (suc k) p r l =
        let e = fault_refused s (suc (suc k)) p r in
        local s (suc (suc k)) p e (λ z. omega arith) (take 4096 s) (take-take (p + 1) 4096 s (omega arith)) ∙ sym e

    go : Judged s → sheet_of (take 4096 s) ≡ sheet_of s
    go (inl r) = short (bounded_sheet s (done r.0) r.1)
    go (inr r) =
        let f = r.2 in
        first r.0 r.1 f (omega (arith, length-take-le r.1 s f.within, bounded_sheet (take r.1 s) f.form f.before))
