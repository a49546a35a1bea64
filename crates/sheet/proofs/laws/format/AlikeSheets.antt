-- Two sheets alike in sections 1 to 6 are two that say the same problem. For `alike` in proofs/Demands. Assumes nothing.
use mathlib.Core.Path.{◌≡◌, refl, sym, ap, ◌∙◌}
use mathlib.Core.List.{List, [], ◌∷◌, ◌++◌, append_assoc, append_cancel_right}
use mathlib.Core.Logic.{◌↔◌}
use Prim.Native.Nat.{ℕ}
use native.Mathlib.Omega.{arith}
use lib.ListN.{length}
use Rattle.sheet.specs.Lists.{collect}
use Rattle.sheet.specs.Problem.{Problem, Statement}
use Rattle.sheet.specs.Encoding.{ProperProblem, ProperStatement, set_bytes, list_bytes, action_bytes, clauses_bytes, encode}
use Rattle.sheet.specs.Faults.{Says}
use Rattle.sheet.proofs.laws.format.Encodings.{encoded_iff, encode_unique}
use Rattle.sheet.proofs.laws.format.Judgements.{accepted_iff}

-- ---- sections 1 to 6
sections : Problem → List ℕ
sections p =
    (p.n ∷ []) ++ (set_bytes p.known ++
    (clauses_bytes p.ors ++ (clauses_bytes p.oneofs ++ (list_bytes action_bytes p.actions ++ list_bytes set_bytes p.goal))))

single_bytes : (q : List ℕ) → collect (λ b. b ∷ []) q ≡ q
single_bytes [] = refl
single_bytes (b ∷ q) = ap (λ (r : List ℕ). b ∷ r) (single_bytes q)

-- a sheet is these bytes and the plan's section
encode_parts : (p : Problem) (q : List ℕ) → encode (record { problem = p; plan = q }) ≡ sections p ++ (length q ∷ q)
unfolding encode sections
encode_parts p q = simp append_assoc
    (ap (λ (r : List ℕ). p.n ∷
    (set_bytes p.known ++ (clauses_bytes p.ors ++
    (clauses_bytes p.oneofs ++ (list_bytes action_bytes p.actions ++ (list_bytes set_bytes p.goal ++ r))))))
    (unfold list_bytes in ap (λ (r : List ℕ). length q ∷ r) (single_bytes q)))

-- they say the problem
sections_say : (p r : Problem) → ProperProblem p → ProperProblem r → sections p ≡ sections r → p ≡ r
sections_say p r hp hr e =
    ap (λ (x : Statement). x.problem)
    (encode_unique (record { problem = p; plan = [] }) (record { problem = r; plan = [] }) (whole p hp) (whole r hr)
    (encode_parts p [] ∙ ap (λ (b : List ℕ). b ++ (0 ∷ [])) e ∙ sym (encode_parts r [])))
  where
    whole : (q : Problem) → ProperProblem q → ProperStatement (record { problem = q; plan = [] })
    whole q h = record { problem = h; plan = record { least = omega arith; most = omega arith; each = tt } }

sheet_parts : (s : List ℕ) (x : Statement) → Says s x → s ≡ sections x.problem ++ (length x.plan ∷ x.plan)
sheet_parts s x says = ((encoded_iff s x).0 ((accepted_iff s x).0 says)).1 ∙ encode_parts x.problem x.plan

proper : (s : List ℕ) (x : Statement) → Says s x → ProperProblem x.problem
proper s x says = ((encoded_iff s x).0 ((accepted_iff s x).0 says)).0.problem

pub alike : (s₁ s₂ : List ℕ) (x y : Statement) → Says s₁ x → Says s₂ y
    → (x.problem ≡ y.problem) ↔ ((b : List ℕ) × (s₁ ≡ b ++ (length x.plan ∷ x.plan)) × (s₂ ≡ b ++ (length y.plan ∷ y.plan)))
alike s₁ s₂ x y h k = (
  λ e. (
    sections x.problem,
    sheet_parts s₁ x h,
    sheet_parts s₂ y k
        ∙ ap (λ (p : Problem). sections p ++ (length y.plan ∷ y.plan)) (sym e),
  ),
  λ r. sections_say x.problem y.problem (proper s₁ x h) (proper s₂ y k)
      (append_cancel_right (sections x.problem) r.0 (length x.plan ∷ x.plan) (sym (sheet_parts s₁ x h) ∙ r.1)
      ∙ sym (append_cancel_right (sections y.problem) r.0 (length y.plan ∷ y.plan) (sym (sheet_parts s₂ y k) ∙ r.2))),
)
