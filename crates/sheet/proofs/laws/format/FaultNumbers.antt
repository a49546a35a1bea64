-- The call `judge`, number by number: each of 1 to 7 exactly on its own condition.
-- For TH1 (b), `judge_refused`, `judge_numbers` and `judge_1` to `judge_7` in proofs/Demands. Assumes nothing.
use mathlib.Core.Path.{◌≡◌, refl, sym, ap, subst, ◌∙◌}
use mathlib.Core.List.{List, [], ◌∷◌, ◌++◌}
use mathlib.Core.Logic.{◌⊎◌, ◌↔◌}
use mathlib.Core.Option.{Option, none, some}
use Prim.Native.Nat.{ℕ, ◌*◌, ◌/◌, ◌≤◌, ◌<◌}
use native.Mathlib.Omega.{arith}
use lib.ListN.{length, take, drop, length-drop, take-append-drop}
use lib.Seq.{length-take-le, take-length}
use Rattle.sheet.specs.declared.Fault.{Fault}
use Rattle.sheet.specs.Problem.{Statement}
use Rattle.sheet.specs.Form.{Form, done, byte, due, fault_of}
use Rattle.sheet.specs.Format.{count_fault, literal_fault, number_fault, sheet, Judgement, accepted, refused, sheet_of}
use Rattle.sheet.specs.Calls.{Accepted, Refused, answer_of, judge_of}
use Rattle.sheet.specs.Faults.{FirstFault, ByteDue}
use Rattle.sheet.proofs.laws.format.ByteRoles.{TellsRole, fine, of_count, of_literal, of_number, not_one, not_six, at_most_seven, Roles, roles_due, roles_sheet}
use Rattle.sheet.proofs.laws.format.ByteRules.{count_2, first_most, literal_3, literal_4, literal_5, number_7}
use Rattle.sheet.proofs.laws.format.Judgements as judging

-- ---- the call gives what `sheet_of` says
pub judge_says : (s : List ℕ) → (judge_of s ≡ Accepted) ↔ ((x : Statement) × (sheet_of s ≡ accepted x))
unfolding judge_of answer_of
judge_says s = (λ e. go (sheet_of s) refl e, λ r. ap answer_of r.1)
  where
    go : (j : Judgement) → sheet_of s ≡ j → answer_of j ≡ Accepted → (x : Statement) × (sheet_of s ≡ accepted x)
    go (accepted x) p e = (x, p)
    go (refused k q) p e = absurd (let z : ◌≡◌ {A = ℕ} 0 1 = cc in omega arith)

pub judge_refuses : (s : List ℕ) (k p : ℕ) → (judge_of s ≡ Refused k p) ↔ (sheet_of s ≡ refused k p)
unfolding judge_of answer_of
judge_refuses s k p = (λ e. go (sheet_of s) refl e, λ e. ap answer_of e)
  where
    go : (j : Judgement) → sheet_of s ≡ j → answer_of j ≡ Refused k p → sheet_of s ≡ refused k p
    go (accepted x) q e = absurd (let z : ◌≡◌ {A = ℕ} 0 1 = cc in omega arith)
    go (refused i r) q e =
        let f : ◌≡◌ {A = Fault} (record { number = i; position = r }) (record { number = k; position = p }) = cc in
        q ∙ ap (λ (x : Fault). refused x.number x.position) f

-- ---- any number
pub judge_refused : (s : List ℕ) (k p : ℕ) → (judge_of s ≡ Refused k p) ↔ FirstFault s k p
judge_refused s k p = (
  λ e. (judging.refused_iff s k p).0 ((judge_refuses s k p).0 e),
  λ r. (judge_refuses s k p).1 ((judging.refused_iff s k p).1 r),
)

module _ (s : List ℕ) where
  -- the roles of what is due at the first fault
  roles_at : (k p : ℕ) (r : FirstFault s k p) → Roles r.form
  roles_at k p r = roles_due sheet (take p s) roles_sheet r.before

  pub judge_numbers : (k p : ℕ) → judge_of s ≡ Refused k p → (1 ≤ k) × (k ≤ 7)
  judge_numbers k p e = (least, go r.form (drop p s) (roles_at k p r) r.number)
    where
      r : FirstFault s k p
      r = (judge_refused s k p).0 e

      least : 1 ≤ k
      least = let z = r.wrong in omega arith

      go : (g : Form Statement) (l : List ℕ) → Roles g → fault_of g l ≡ k → k ≤ 7
      go (done x) [] n q = omega arith
      go (done x) (c ∷ cs) n q = omega arith
      go (byte rule next) [] n q = omega arith
      go (byte rule next) (c ∷ cs) n q = omega (arith, at_most_seven (n.0 c))

  -- ---- 1: the bytes end too early
  pub judge_1 : (p : ℕ) → (judge_of s ≡ Refused 1 p)
      ↔ ((p ≡ length s) × ((rule : ℕ → ℕ) × (next : ℕ → Form Statement) × (due sheet s ≡ some (byte rule next))))
  judge_1 p = (there, back)
    where
      there : judge_of s ≡ Refused 1 p → (p ≡ length s)
          × ((rule : ℕ → ℕ) × (next : ℕ → Form Statement) × (due sheet s ≡ some (byte rule next)))
      there e = (end, go r.form (drop p s) r.before (roles_at 1 p r) r.number)
        where
          r : FirstFault s 1 p
          r = (judge_refused s 1 p).0 e

          end : p ≡ length s
          end = judging.early s p ((judge_refuses s 1 p).0 e)

          whole : take p s ≡ s
          whole = ap (λ (i : ℕ). take i s) end ∙ take-length s

          go : (g : Form Statement) (l : List ℕ) → due sheet (take p s) ≡ some g → Roles g → fault_of g l ≡ 1 → (rule : ℕ → ℕ)
              × (next : ℕ → Form Statement) × (due sheet s ≡ some (byte rule next))
          go (done x) [] b n q = absurd (omega arith)
          go (done x) (c ∷ cs) b n q = absurd (omega arith)
          go (byte rule next) [] b n q = (rule, next, ap (due sheet) (sym whole) ∙ b)
          go (byte rule next) (c ∷ cs) b n q = absurd (not_one (n.0 c) q)

      back : (p ≡ length s) × ((rule : ℕ → ℕ) × (next : ℕ → Form Statement) × (due sheet s ≡ some (byte rule next)))
          → judge_of s ≡ Refused 1 p
      back h = go (drop p s) refl
        where
          go : (l : List ℕ) → drop p s ≡ l → judge_of s ≡ Refused 1 p
          go [] d = (judge_refused s 1 p).1 (record {
            within = omega (arith, h.0);
            form = byte h.1.0 h.1.1;
            before = ap (due sheet) (ap (λ (i : ℕ). take i s) h.0 ∙ take-length s) ∙ h.1.2;
            number = ap (fault_of (byte h.1.0 h.1.1)) d;
            wrong = λ z. omega arith;
          })
          go (c ∷ cs) d = absurd (omega (arith, h.0, length-drop p s, ap length d))

  -- ---- 6: bytes after the plan
  pub judge_6 : (p : ℕ) → (judge_of s ≡ Refused 6 p) ↔ ((p < length s) × (judge_of (take p s) ≡ Accepted))
  judge_6 p = (there, back)
    where
      there : judge_of s ≡ Refused 6 p → (p < length s) × (judge_of (take p s) ≡ Accepted)
      there e = go r.form (drop p s) refl r.before (roles_at 6 p r) r.number
        where
          r : FirstFault s 6 p
          r = (judge_refused s 6 p).0 e

          go : (g : Form Statement) (l : List ℕ) → drop p s ≡ l → due sheet (take p s) ≡ some g → Roles g → fault_of g l ≡ 6
              → (p < length s) × (judge_of (take p s) ≡ Accepted)
          go (done x) [] d b n q = absurd (omega arith)
          go (done x) (c ∷ cs) d b n
              q = (omega (arith, length-drop p s, ap length d), (judge_says (take p s)).1 (x, (judging.accepted_iff (take p s) x).1 b))
          go (byte rule next) [] d b n q = absurd (omega arith)
          go (byte rule next) (c ∷ cs) d b n q = absurd (not_six (n.0 c) q)

      back : (p < length s) × (judge_of (take p s) ≡ Accepted) → judge_of s ≡ Refused 6 p
      back h = go (drop p s) refl
        where
          r : (x : Statement) × (sheet_of (take p s) ≡ accepted x)
          r = (judge_says (take p s)).0 h.1

          go : (l : List ℕ) → drop p s ≡ l → judge_of s ≡ Refused 6 p
          go [] d = absurd (omega (arith, h.0, length-drop p s, ap length d))
          go (c ∷ cs) d =
              (judge_refuses s 6 p).1
              (ap sheet_of (sym (ap (λ (l : List ℕ). take p s ++ l) (sym d) ∙ take-append-drop p s))
              ∙ judging.longer (take p s) r.0 r.1 c cs ∙ ap (refused 6) (length-take-le p s (omega (arith, h.0))))

  -- ---- 2, 3, 4, 5, 7: the byte at p breaks the rule of its role
  record Broken (k p : ℕ) : Type 0 where
    rule : ℕ → ℕ
    value : ℕ
    at : ByteDue s p rule value
    gives : rule value ≡ k
    tells : TellsRole rule k

  broken : (k p : ℕ) → (k ≡ 1 → ⊥) → (k ≡ 6 → ⊥) → judge_of s ≡ Refused k p → Broken k p
  broken k p h i e = go r.form (drop p s) refl r.before (roles_at k p r) r.number
    where
      r : FirstFault s k p
      r = (judge_refused s k p).0 e

      go : (g : Form Statement) (l : List ℕ) → drop p s ≡ l → due sheet (take p s) ≡ some g → Roles g → fault_of g l ≡ k → Broken k p
      go (done x) [] d b n q = absurd (r.wrong (sym q))
      go (done x) (c ∷ cs) d b n q = absurd (i (sym q))
      go (byte rule next) [] d b n q = absurd (h (sym q))
      go (byte rule next) (c ∷ cs) d b n q =
          record {
            rule = rule;
            value = c;
            at = record { next = next; before = b; later = cs; here = d };
            gives = q;
            tells = subst (TellsRole rule) q (n.0 c);
          }

  breaks : (k p : ℕ) (rule : ℕ → ℕ) (b : ℕ) → (k ≡ 0 → ⊥) → ByteDue s p rule b → rule b ≡ k → judge_of s ≡ Refused k p
  breaks k p rule b h d e =
      (judge_refused s k p).1 (record {
        within = omega (arith, length-drop p s, ap length d.here);
        form = byte rule d.next;
        before = d.before;
        number = ap (fault_of (byte rule d.next)) d.here ∙ e;
        wrong = h;
      })

  -- a byte that breaks the rule f is due by f
  abbrev Due : ℕ → ℕ → (ℕ → ℕ) → Type 0
  Due k p f = (b : ℕ) × ByteDue s p f b × (f b ≡ k)

  due_by : (k p : ℕ) (r : Broken k p) (f : ℕ → ℕ) → r.rule ≡ f → Due k p f
  due_by k p r f e = (
    r.value,
    subst (λ (g : ℕ → ℕ). ByteDue s p g r.value) e r.at,
    ap (λ (g : ℕ → ℕ). g r.value) (sym e)
        ∙ r.gives,
  )

  pub judge_2 : (p : ℕ) → (judge_of s ≡ Refused 2 p)
      ↔ ((low : ℕ) × (high : ℕ) × (b : ℕ) × ByteDue s p (count_fault low high) b × ((b < low) ⊎ (high < b)))
  judge_2 p = (
    λ e. let r = broken 2 p (λ z. omega arith) (λ z. omega arith) e in go r r.tells,
    λ h. breaks 2 p (count_fault h.0 h.1) h.2 (λ z. omega arith) h.3 ((count_2 h.0 h.1 h.2).1 h.4),
  )
    where
      go : (r : Broken 2 p) → TellsRole r.rule 2 → (low : ℕ) × (high : ℕ) × (b : ℕ) × ByteDue s p (count_fault low high) b
          × ((b < low) ⊎ (high < b))
      go r (fine e) = absurd (omega arith)
      go r (of_count low high f e) = let d = due_by 2 p r (count_fault low high) f in
          (low, high, d.0, d.1, (count_2 low high d.0).0 d.2)
      go r (of_literal n last f l h) = absurd (omega arith)
      go r (of_number m f e) = absurd (omega arith)

  pub judge_7 : (p : ℕ) → (judge_of s ≡ Refused 7 p) ↔ ((m : ℕ) × (b : ℕ) × ByteDue s p (number_fault m) b × (m ≤ b))
  judge_7 p = (
    λ e. let r = broken 7 p (λ z. omega arith) (λ z. omega arith) e in go r r.tells,
    λ h. breaks 7 p (number_fault h.0) h.1 (λ z. omega arith) h.2 ((number_7 h.0 h.1).1 h.3),
  )
    where
      go : (r : Broken 7 p) → TellsRole r.rule 7 → (m : ℕ) × (b : ℕ) × ByteDue s p (number_fault m) b × (m ≤ b)
      go r (fine e) = absurd (omega arith)
      go r (of_count low high f e) = absurd (omega arith)
      go r (of_literal n last f l h) = absurd (omega arith)
      go r (of_number m f e) = let d = due_by 7 p r (number_fault m) f in (m, d.0, d.1, (number_7 m d.0).0 d.2)

  -- a literal is due where one of its own numbers is given
  abbrev Literal : ℕ → ℕ → Type 0
  Literal k p = (n : ℕ) × (last : Option ℕ) × Due k p (literal_fault n last)

  literal_at : (k p : ℕ) → 3 ≤ k → k ≤ 5 → judge_of s ≡ Refused k p → Literal k p
  literal_at k p low high e = go r.tells
    where
      r : Broken k p
      r = broken k p (λ z. omega arith) (λ z. omega arith) e

      go : TellsRole r.rule k → Literal k p
      go (fine z) = absurd (omega arith)
      go (of_count a b f z) = absurd (omega arith)
      go (of_literal n last f l h) = (n, last, due_by k p r (literal_fault n last) f)
      go (of_number m f z) = absurd (omega arith)

  -- a literal after another is due where one of its own numbers is given
  later_at : (k p : ℕ) → 4 ≤ k → k ≤ 5 → judge_of s ≡ Refused k p → (n : ℕ) × (l : ℕ) × Due k p (literal_fault n (some l))
  later_at k p low high e = let r = literal_at k p (omega arith) high e in go r.0 r.1 r.2
    where
      go : (n : ℕ) (last : Option ℕ) → Due k p (literal_fault n last) → (n : ℕ) × (l : ℕ) × Due k p (literal_fault n (some l))
      go n none d = absurd (omega (arith, first_most n d.0, d.2))
      go n (some l) d = (n, l, d)

  pub judge_3 : (p : ℕ) → (judge_of s ≡ Refused 3 p)
      ↔ ((n : ℕ) × (last : Option ℕ) × (b : ℕ) × ByteDue s p (literal_fault n last) b × (2 * n ≤ b))
  judge_3 p = (
    λ e. let k = literal_at 3 p (omega arith) (omega arith) e in let d = k.2 in
        (k.0, k.1, d.0, d.1, (literal_3 k.0 k.1 d.0).0 d.2),
    λ h. breaks 3 p (literal_fault h.0 h.1) h.2 (λ z. omega arith) h.3 ((literal_3 h.0 h.1 h.2).1 h.4),
  )

  pub judge_4 : (p : ℕ) → (judge_of s ≡ Refused 4 p)
      ↔ ((n : ℕ) × (l : ℕ) × (b : ℕ) × ByteDue s p (literal_fault n (some l)) b × (b < 2 * n) × (b ≤ l))
  judge_4 p = (
    λ e.
        let k = later_at 4 p (omega arith) (omega arith) e in
        let d = k.2 in
        let i = (literal_4 k.0 k.1 d.0).0 d.2 in
        (k.0, k.1, d.0, d.1, i.0, i.1),
    λ h. breaks 4 p (literal_fault h.0 (some h.1)) h.2 (λ z. omega arith) h.3
        ((literal_4 h.0 h.1 h.2).1 (h.4, h.5)),
  )

  pub judge_5 : (p : ℕ) → (judge_of s ≡ Refused 5 p)
      ↔ ((n : ℕ) × (l : ℕ) × (b : ℕ) × ByteDue s p (literal_fault n (some l)) b × (b < 2 * n) × (l < b) × (b / 2 ≡ l / 2))
  judge_5 p = (
    λ e.
        let k = later_at 5 p (omega arith) (omega arith) e in
        let d = k.2 in
        let i = (literal_5 k.0 k.1 d.0).0 d.2 in
        (k.0, k.1, d.0, d.1, i.0, i.1, i.2),
    λ h. breaks 5 p (literal_fault h.0 (some h.1)) h.2 (λ z. omega arith) h.3
        ((literal_5 h.0 h.1 h.2).1 (h.4, h.5, h.6)),
  )
