-- One clause, the clauses of a section, and the first table, as outcomes in lists. For `starts::grow`, `starts::grow_all` and
-- `starts::first_into`. Assumes nothing.
use Rattle.std.proofs.Common.{◌≡◌, List, [], ◌∷◌, ◌++◌, length, refl, sym, ap, ◌∙◌, subst}
use Rattle.std.specs.Prelude.{Result, Ok, Err}
use Rattle.std.proofs.Math.Option.{some}
use Rattle.sheet.specs.declared.Fault.{Fault}
use Rattle.sheet.specs.declared.Literals.{Literals}
use Rattle.sheet.specs.Literals.{consistent}
use Rattle.sheet.specs.Lists.{keep, collect}
use Rattle.table.specs.declared.slots.Full.{Full}
use Rattle.table.specs.Minimal.{put_all, Outcome, refused, table}
use Rattle.table.specs.Start.{Clause, candidates, fresh, grow, on_table, grow_all}
use Rattle.table.specs.inner.Puts.{Grew, Puts}
use Rattle.table.specs.inner.Outcomes.{Came}

-- ---- what came of it

module _ {o : Outcome} {us : List Literals} where
  pub came_table : {done : Unit} → o ≡ table us → Came (Ok done) us o
  came_table e = record { outcome = sym e; position = refl }

  pub came_refused : {f : Fault} → o ≡ refused f.number → f.position ≡ 0 → Came (Err f) us o
  came_refused e p = record { outcome = sym e; position = p }

  module _ {r : Result Unit Fault} (w : Came r us o) where
    at : (x : Result Unit Fault) → r ≡ x → Came x us o
    at x e = subst (λ (y : Result Unit Fault). Came y us o) e w

    -- a table: the outcome is the list
    pub came_ok : {done : Unit} → r ≡ Ok done → o ≡ table us
    came_ok {done} e = sym (at (Ok done) e).outcome

    -- a refusal stays
    pub came_err : (next : List Literals → Outcome) {f : Fault} {vs : List Literals} → r ≡ Err f → Came (Err f) vs (on_table o next)
    came_err next {f} e =
        let q = at (Err f) e in
        record { outcome = ap (λ (x : Outcome). on_table x next) q.outcome; position = q.position }

-- ---- one clause

fresh_some : (es : List Literals) → (length es ≡ 0 → ⊥) → fresh (some es) ≡ table es
fresh_some [] h = absurd (h refl)
fresh_some (e ∷ es) h = refl

fresh_none : (es : List Literals) → length es ≡ 0 → fresh (some es) ≡ refused 20
fresh_none [] h = refl
fresh_none (e ∷ es) h = absurd cc

module _ (c : Clause) (es : List Literals) {us : List Literals} {r : Result Unit Full}
    (w : Puts 128 (keep consistent (collect (candidates c) es)) [] r us) where
  told : (x : Result Unit Full) → r ≡ x → Grew (put_all 128 (keep consistent (collect (candidates c) es)) []) x us
  told x e = subst (λ (y : Result Unit Full). Grew (put_all 128 (keep consistent (collect (candidates c) es)) []) y us) e w.grew

  pub grown_full : {full : Full} → r ≡ Err full → grow 128 c es ≡ refused 21
  unfolding grow
  grown_full {full} e = ap fresh (told (Err full) e)

  module _ {done : Unit} (e : r ≡ Ok done) where
    pub grown_empty : length us ≡ 0 → grow 128 c es ≡ refused 20
    unfolding grow
    grown_empty z = ap fresh (told (Ok done) e) ∙ fresh_none us z

    pub grown_table : (length us ≡ 0 → ⊥) → grow 128 c es ≡ table us
    unfolding grow
    grown_table z = ap fresh (told (Ok done) e) ∙ fresh_some us z

-- ---- the clauses of a section: those still to come, from the table on, give o
module _ {o : Outcome} {c : Clause} {cs bs : List Clause} (es : List Literals) {us : List Literals} (g : grow_all 128 bs es ≡ o)
    (is : bs ≡ c ∷ cs)
    {r : Result Unit Fault} (w : Came r us (grow 128 c es)) where
  unrolled : on_table (grow 128 c es) (λ u. grow_all 128 cs u) ≡ o
  unrolled = sym (ap (λ (x : List Clause). grow_all 128 x es) is) ∙ g

  pub section_on : {done : Unit} → r ≡ Ok done → grow_all 128 cs us ≡ o
  section_on e = sym (ap (λ (x : Outcome). on_table x (λ u. grow_all 128 cs u)) (came_ok w e)) ∙ unrolled

  pub section_refused : {f : Fault} {vs : List Literals} → r ≡ Err f → Came (Err f) vs o
  section_refused {f} {vs} e = subst (λ (x : Outcome). Came (Err f) vs x) unrolled (came_err w (λ u. grow_all 128 cs u) e)

-- ---- the clauses of two sections

grow_all_append : (cs ds : List Clause) (t : List Literals) → grow_all 128 (cs ++ ds) t ≡ on_table (grow_all 128 cs t)
    (λ u. grow_all 128 ds u)
grow_all_append [] ds t = refl
grow_all_append (c ∷ cs) ds t = at (grow 128 c t) (λ u. grow_all_append cs ds u)
  where
    at : (o : Outcome) → ((u : List Literals) → grow_all 128 (cs ++ ds) u ≡ on_table (grow_all 128 cs u) (λ v. grow_all 128 ds v))
        → on_table o (λ u. grow_all 128 (cs ++ ds) u) ≡ on_table (on_table o (λ u. grow_all 128 cs u)) (λ v. grow_all 128 ds v)
    at (refused k) rec = refl
    at (table u) rec = rec u

-- the first section was refused, or gave a table from which the second goes on
module _ (cs ds : List Clause) (es : List Literals) {us : List Literals} {r : Result Unit Fault} (w : Came r us (grow_all 128 cs es)) where
  pub sections_refused : {f : Fault} {vs : List Literals} → r ≡ Err f → Came (Err f) vs (grow_all 128 (cs ++ ds) es)
  sections_refused e = rw (grow_all_append cs ds es) (came_err w (λ u. grow_all 128 ds u) e)

  pub sections_on : {q : Result Unit Fault} {done : Unit} {vs : List Literals} → r ≡ Ok done → Came q vs (grow_all 128 ds us)
      → Came q vs (grow_all 128 (cs ++ ds) es)
  sections_on e v = rw (grow_all_append cs ds es, came_ok w e) v
