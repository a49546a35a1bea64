-- The start table stands for exactly the starting worlds; 20 says that there are none; which clause gives 20 or 21. For TH2
-- (proofs/Demands). Assumes nothing.
use mathlib.Core.Path.{◌≡◌, refl, sym, subst, ap, ◌∙◌}
use mathlib.Core.List.{List, [], ◌∷◌, ◌++◌, map}
use mathlib.Core.Logic.{◌⊎◌, inl, inr, ◌↔◌}
use mathlib.Core.Option.{Option, none, some}
use Prim.Native.Nat.{ℕ, ◌+◌, ◌^◌, ◌≤◌, ◌<◌}
use native.Mathlib.Omega.{arith}
use lib.Dec.{T}
use lib.ListN.{length}
use Rattle.sheet.specs.declared.Literals.{Literals}
use Rattle.sheet.specs.Literals.{within, consistent, state, Proper}
use Rattle.sheet.specs.Lists.{Any, All, keep, collect}
use Rattle.sheet.specs.Problem.{Problem}
use Rattle.sheet.specs.Encoding.{ProperList, ProperClause, ProperProblem}
use Rattle.sheet.proofs.laws.base.Bools.{T_true, true_T}
use Rattle.sheet.proofs.laws.base.ListFacts.{any_map, all_map, all_append, all_parts, all_imaged, any_keep, all_keep, any_collect, any_collected, all_collected}
use Rattle.sheet.proofs.laws.literals.LiteralSets.{consistent_within, proper_of, proper_below}
use Rattle.sheet.proofs.laws.literals.Worlds.{state_consistent}
use Rattle.sheet.proofs.laws.base.ListMembers.{any_passed}
use Rattle.sheet.proofs.laws.literals.ProperSets.{some_world}
use Rattle.table.specs.Worlds.{Starting}
use Rattle.table.specs.Minimal.{In, Described, put_all, Outcome, refused, table}
use Rattle.table.specs.Start.{Clause, or_of, one_of, start_clauses, candidates, fresh, grow, on_table, grow_all, start_table, Stops}
use Rattle.table.proofs.laws.slots.PutInvariants.{put_all_all, put_all_antichain, put_all_size, put_all_in, put_all_out}
use Rattle.table.proofs.laws.steps.StepWorlds.{code_is, table_refused, table_is}
use Rattle.table.proofs.laws.starts.ClauseCandidates.{Meets, Alternatives, Low, candidates_low, candidates_in, candidates_out}

-- ---- a fresh table
fresh_table : (o : Option (List Literals)) (u : List Literals) → fresh o ≡ table u → (o ≡ some u) × (1 ≤ length u)
fresh_table none u e = table_refused u 21 (sym e)
fresh_table (some []) u e = table_refused u 20 (sym e)
fresh_table (some (d ∷ t)) u e =
    let q : d ∷ t ≡ u = table_is (d ∷ t) u e in
    (ap {B = Option (List Literals)} some q, subst (λ (x : List Literals). 1 ≤ length x) q (omega arith))

pub fresh_20 : (o : Option (List Literals)) → fresh o ≡ refused 20 → o ≡ some []
fresh_20 none e = absurd (omega (arith, code_is e))
fresh_20 (some []) e = refl
fresh_20 (some (d ∷ t)) e = table_refused (d ∷ t) 20 e

pub fresh_21 : (o : Option (List Literals)) → fresh o ≡ refused 21 → o ≡ none
fresh_21 none e = refl
fresh_21 (some []) e = absurd (omega (arith, code_is e))
fresh_21 (some (d ∷ t)) e = table_refused (d ∷ t) 21 e

-- 20, 21 or a table
abbrev pub Kind : Outcome → Type 0
Kind o = (o ≡ refused 20) ⊎ ((o ≡ refused 21) ⊎ ((t : List Literals) × (o ≡ table t)))

fresh_kind : (o : Option (List Literals)) → Kind (fresh o)
fresh_kind none = inr (inl refl)
fresh_kind (some []) = inl refl
fresh_kind (some (d ∷ t)) = inr (inr (d ∷ t, refl))

pub grow_all_kind : (cap : ℕ) (cs : List Clause) (t : List Literals) → Kind (grow_all cap cs t)
unfolding grow
grow_all_kind cap [] t = inr (inr (t, refl))
grow_all_kind cap (c ∷ cs) t =
    go (fresh (put_all cap (keep consistent (collect (candidates c) t)) []))
    (fresh_kind (put_all cap (keep consistent (collect (candidates c) t)) [])) (grow_all_kind cap cs)
  where
    go : (o : Outcome) → Kind o → ((v : List Literals) → Kind (grow_all cap cs v)) → Kind (on_table o (λ v. grow_all cap cs v))
    go o (inl e) ih = inl (ap (λ (x : Outcome). on_table x (λ v. grow_all cap cs v)) e)
    go o (inr (inl e)) ih = inr (inl (ap (λ (x : Outcome). on_table x (λ v. grow_all cap cs v)) e))
    go o (inr (inr k)) ih = subst (λ (x : Outcome). Kind (on_table x (λ v. grow_all cap cs v))) (sym k.1) (ih k.0)

-- ---- one clause
module _ (n : ℕ) (hn : n ≤ 32) (cap : ℕ) (c : Clause) (hc : Alternatives n c) (t : List Literals) (ht : All (Proper n) t) where
  abbrev all : List Literals
  all = collect (candidates c) t

  abbrev cs : List Literals
  cs = keep consistent (collect (candidates c) t)

  cs_in : (w : ℕ) → w < 2 ^ n → In n t w → Meets n c w → In n cs w
  cs_in w b i k =
      any_passed consistent (λ q. T (within q (state n w))) all
      (any_map (λ q. T (within q (state n w))) (λ q. T (within q (state n w)) × T (consistent q))
      (λ q h. (h, true_T (consistent q) (consistent_within q (state n w) (T_true (within q (state n w)) h) (state_consistent n w b)))) all
      (any_collected (candidates c) (λ q. T (within q (state n w))) t
      (any_map (λ d. T (within d (state n w))) (λ d. In n (candidates c d) w) (λ d h. candidates_in n w b hn c hc d h k) t i)))

  cs_out : (w : ℕ) → w < 2 ^ n → In n cs w → In n t w × Meets n c w
  cs_out w b i = go t (any_collect (candidates c) (λ q. T (within q (state n w))) t
      (any_keep consistent (λ q. T (within q (state n w))) all i))
    where
      go : (x : List Literals) → Any (λ d. In n (candidates c d) w) x → In n x w × Meets n c w
      go [] h = absurd h
      go (d ∷ x) (inl h) = let r = candidates_out n w b c d h in (inl r.0, r.1)
      go (d ∷ x) (inr h) = let r = go x h in (inr r.0, r.1)

  cs_proper : All (Proper n) cs
  cs_proper =
      all_map (λ q. Low n q × T (consistent q)) (Proper n) (λ q k. proper_of n q (T_true (consistent q) k.1) k.0) cs
      (all_keep consistent (Low n) all
      (all_collected (candidates c) (Low n) t
      (all_map (Proper n) (λ d. All (Low n) (candidates c d)) (λ d k. candidates_low n c hc d (proper_below n d k)) t ht)))

  grow_table : (u : List Literals) → grow cap c t ≡ table u → Described cap n u
      × ((w : ℕ) → w < 2 ^ n → In n u w ↔ (In n t w × Meets n c w))
  unfolding grow
  grow_table u e =
      let p = fresh_table (put_all cap cs []) u e in (
        record {
          least = p.1;
          most = put_all_size cap cs [] u p.0 (omega arith);
          proper = put_all_all (Proper n) cap cs [] u p.0 tt cs_proper;
          apart = put_all_antichain cap cs [] u p.0 tt;
        },
        λ w b. (λ i. cs_out w b (put_all_out n w cap cs u p.0 i), λ x. put_all_in n w cap cs u p.0 (cs_in w b x.0 x.1)),
      )

  grow_20 : grow cap c t ≡ refused 20 → (w : ℕ) → w < 2 ^ n → In n t w → Meets n c w → ⊥
  unfolding grow
  grow_20 e w b i k = put_all_in n w cap cs [] (fresh_20 (put_all cap cs []) e) (cs_in w b i k)

-- ---- all clauses
module _ (n : ℕ) (hn : n ≤ 32) (cap : ℕ) where
  abbrev GrownTo : List Clause → List Literals → List Literals → Type 0
  GrownTo cs t u =
      ((k : ℕ) → cap ≤ k → Described k n t → Described k n u) × ((w : ℕ) → w < 2 ^ n → In n u w ↔ (In n t w × All (λ c. Meets n c w) cs))

  grow_all_table : (cs : List Clause) → All (Alternatives n) cs → (t : List Literals) → All (Proper n) t → (u : List Literals)
      → grow_all cap cs t ≡ table u → GrownTo cs t u
  grow_all_table [] hc t ht u e =
      let q : t ≡ u = table_is t u e in (
        λ k l d. subst (λ (x : List Literals). Described k n x) q d,
        λ w b. (λ i. (subst (λ (x : List Literals). In n x w) (sym q) i, tt), λ x. subst (λ (y : List Literals). In n y w) q x.0),
      )
  grow_all_table (c ∷ cs) hc t ht u e = go (grow cap c t) refl e (λ v hv. grow_all_table cs hc.1 v hv u)
    where
      go : (o : Outcome) → grow cap c t ≡ o → on_table o (λ v. grow_all cap cs v) ≡ table u
          → ((v : List Literals) → All (Proper n) v → grow_all cap cs v ≡ table u → GrownTo cs v u) → GrownTo (c ∷ cs) t u
      go (refused k) g e ih = table_refused u k (sym e)
      go (table v) g e ih =
          let x = grow_table n hn cap c hc.0 t ht v g in
          let h = ih v x.0.proper e in (
            λ k l d. h.0 k l (record
                { least = x.0.least; most = omega (arith, x.0.most); proper = x.0.proper; apart = x.0.apart }),
            λ w b. (
              λ i. let y = (h.1 w b).0 i in let z = (x.1 w b).0 y.0 in (z.0, (z.1, y.1)),
              λ y. (h.1 w b).1 ((x.1 w b).1 (y.0, y.1.0), y.1.1),
            ),
          )

  grow_all_20 : (cs : List Clause) → All (Alternatives n) cs → (t : List Literals) → All (Proper n) t → grow_all cap cs t ≡ refused 20
      → (w : ℕ) → w < 2 ^ n → In n t w → All (λ c. Meets n c w) cs → ⊥
  grow_all_20 [] hc t ht e w b i k = table_refused t 20 e
  grow_all_20 (c ∷ cs) hc t ht e w b i k = go (grow cap c t) refl e (λ v hv q j. grow_all_20 cs hc.1 v hv q w b j)
    where
      go : (o : Outcome) → grow cap c t ≡ o → on_table o (λ v. grow_all cap cs v) ≡ refused 20
          → ((v : List Literals) → All (Proper n) v → grow_all cap cs v ≡ refused 20 → In n v w → All (λ x. Meets n x w) cs → ⊥) → ⊥
      go (refused k') g e ih = grow_20 n hn cap c hc.0 t ht (g ∙ e) w b i k.0
      go (table v) g e ih = let x = grow_table n hn cap c hc.0 t ht v g in ih v x.0.proper e ((x.1 w b).1 (i, k.0)) k.1

-- ---- which clause gives the number
grow_all_append : (cap : ℕ) (xs ys : List Clause) (t : List Literals)
    → grow_all cap (xs ++ ys) t ≡ on_table (grow_all cap xs t) (λ u. grow_all cap ys u)
grow_all_append cap [] ys t = refl
grow_all_append cap (c ∷ xs) ys t = go (grow cap c t) (grow_all_append cap xs ys)
  where
    go : (o : Outcome) → ((v : List Literals) → grow_all cap (xs ++ ys) v ≡ on_table (grow_all cap xs v) (λ u. grow_all cap ys u))
        → on_table o (λ v. grow_all cap (xs ++ ys) v) ≡ on_table (on_table o (λ v. grow_all cap xs v)) (λ u. grow_all cap ys u)
    go (refused k) ih = refl
    go (table v) ih = ih v

-- k is the number of the outcome o alone
module _ (cap k : ℕ) (o : Option (List Literals)) (only : (x : Option (List Literals)) → fresh x ≡ refused k → x ≡ o)
    (number : fresh o ≡ refused k) where
  stops_of : (cs : List Clause) (t : List Literals) → grow_all cap cs t ≡ refused k → Stops cap o cs t
  unfolding grow
  stops_of [] t e = table_refused t k e
  stops_of (c ∷ cs) t e = go (grow cap c t) refl e (stops_of cs)
    where
      go : (x : Outcome) → grow cap c t ≡ x → on_table x (λ v. grow_all cap cs v) ≡ refused k
          → ((v : List Literals) → grow_all cap cs v ≡ refused k → Stops cap o cs v) → Stops cap o (c ∷ cs) t
      go (refused j) g e ih = record {
        before = [];
        clause = c;
        later = cs;
        parts = refl;
        entries = t;
        tables = refl;
        comes_to = only (put_all cap (keep consistent (collect (candidates c) t)) []) (g ∙ e);
      }
      go (table v) g e ih =
          let s = ih v e in
          record {
            before = c ∷ s.before;
            clause = s.clause;
            later = s.later;
            parts = ap (λ (x : List Clause). c ∷ x) s.parts;
            entries = s.entries;
            tables = ap (λ (x : Outcome). on_table x (λ u. grow_all cap s.before u)) g ∙ s.tables;
            comes_to = s.comes_to;
          }

  of_stops : (cs : List Clause) (t : List Literals) → Stops cap o cs t → grow_all cap cs t ≡ refused k
  unfolding grow
  of_stops cs t s =
      ap (λ (x : List Clause). grow_all cap x t) s.parts ∙ grow_all_append cap s.before (s.clause ∷ s.later) t
      ∙ ap (λ (x : Outcome). on_table x (λ u. grow_all cap (s.clause ∷ s.later) u)) s.tables
      ∙ ap (λ (x : Option (List Literals)). on_table (fresh x) (λ u. grow_all cap s.later u)) s.comes_to
      ∙ ap (λ (x : Outcome). on_table x (λ u. grow_all cap s.later u)) number

-- ---- the start
all_image : {A B : Type 0} (f : A → B) (P : B → Type 0) (xs : List A) → All P (map f xs) → All (λ x. P (f x)) xs
all_image f P [] h = tt
all_image f P (x ∷ xs) h = (h.0, all_image f P xs h.1)

pub start_kind : (cap : ℕ) (p : Problem) → Kind (start_table cap p)
unfolding start_table
start_kind cap p = grow_all_kind cap (start_clauses p) (p.known ∷ [])

module _ (p : Problem) (hp : ProperProblem p) where
  start_of : (w : ℕ) → Starting p w ↔ (In p.n (p.known ∷ []) w × All (λ c. Meets p.n c w) (start_clauses p))
  unfolding start_clauses
  start_of w = (
    λ s. (
      inl s.known,
      all_append (λ c. Meets p.n c w) (map or_of p.ors) (map one_of p.oneofs)
          (all_imaged or_of (λ c. Meets p.n c w) p.ors s.ors)
          (all_imaged one_of (λ c. Meets p.n c w) p.oneofs s.oneofs),
    ),
    λ x. let r = all_parts (λ c. Meets p.n c w) (map or_of p.ors) (map one_of p.oneofs) x.1 in
        record {
          known = the_one x.0;
          ors = all_image or_of (λ c. Meets p.n c w) p.ors r.0;
          oneofs = all_image one_of (λ c. Meets p.n c w) p.oneofs r.1;
        },
  )
    where
      the_one : In p.n (p.known ∷ []) w → T (within p.known (state p.n w))
      the_one (inl h) = h
      the_one (inr h) = absurd h

  clauses_proper : All (Alternatives p.n) (start_clauses p)
  unfolding start_clauses
  clauses_proper =
      all_append (Alternatives p.n) (map or_of p.ors) (map one_of p.oneofs)
      (all_imaged or_of (Alternatives p.n) p.ors (each p.ors hp.ors.each))
      (all_imaged one_of (Alternatives p.n) p.oneofs (each p.oneofs hp.oneofs.each))
    where
      each : (cs : List (List Literals)) → All (ProperClause p.n) cs → All (All (Proper p.n)) cs
      each cs h =
          all_map (ProperClause p.n) (All (Proper p.n))
          (λ alts k. all_map (ProperList p.n 1 4) (Proper p.n) (λ a q. q.proper) alts k.each) cs h

  grown : (cap : ℕ) (t : List Literals) → start_table cap p ≡ table t → GrownTo p.n hp.n_most cap (start_clauses p) (p.known ∷ []) t
  unfolding start_table
  grown cap t e = grow_all_table p.n hp.n_most cap (start_clauses p) clauses_proper (p.known ∷ []) (hp.known.proper, tt) t e

  first_described : (k : ℕ) → 1 ≤ k → Described k p.n (p.known ∷ [])
  first_described k h = record { least = omega arith; most = omega arith; proper = (hp.known.proper, tt); apart = (tt, tt) }

  pub start_described : (cap : ℕ) (t : List Literals) → 1 ≤ cap → start_table cap p ≡ table t → Described cap p.n t
  start_described cap t h e = (grown cap t e).0 cap (omega arith) (first_described cap h)

  pub start_worlds : (cap : ℕ) (t : List Literals) → start_table cap p ≡ table t → (w : ℕ) → w < 2 ^ p.n → In p.n t w ↔ Starting p w
  start_worlds cap t e w b =
      let g = (grown cap t e).1 w b in
      (λ i. (start_of w).1 (g.0 i), λ s. g.1 ((start_of w).0 s))

  -- 20: there is no starting world
  pub start_20 : (cap : ℕ) → start_table cap p ≡ refused 20 → (w : ℕ) → w < 2 ^ p.n → Starting p w → ⊥
  unfolding start_table
  start_20 cap e w b s =
      let x = (start_of w).0 s in
      grow_all_20 p.n hp.n_most cap (start_clauses p) clauses_proper (p.known ∷ []) (hp.known.proper, tt) e w b x.0 x.1

  -- a table: there is one
  pub start_some : (cap : ℕ) (t : List Literals) → start_table cap p ≡ table t → (w : ℕ) × ((w < 2 ^ p.n) × Starting p w)
  start_some cap t e = go t (start_worlds cap t e) ((grown cap t e).0 (cap + 1) (omega arith) (first_described (cap + 1) (omega arith)))
    where
      go : (t : List Literals) → ((w : ℕ) → w < 2 ^ p.n → In p.n t w ↔ Starting p w) → Described (cap + 1) p.n t → (w : ℕ)
          × ((w < 2 ^ p.n) × Starting p w)
      go [] f d = absurd (omega (arith, d.least))
      go (e ∷ t) f d = let x = some_world p.n e d.proper.0 in (x.0, (x.1.0, (f x.0 x.1.0).0 (inl x.1.1)))

  pub start_none : (cap : ℕ) → ((w : ℕ) → w < 2 ^ p.n → Starting p w → ⊥) → (start_table cap p ≡ refused 20)
      ⊎ (start_table cap p ≡ refused 21)
  start_none cap f = go (start_kind cap p)
    where
      go : Kind (start_table cap p) → (start_table cap p ≡ refused 20) ⊎ (start_table cap p ≡ refused 21)
      go (inl e) = inl e
      go (inr (inl e)) = inr e
      go (inr (inr k)) = let x = start_some cap k.0 k.1 in absurd (f x.0 x.1.0 x.1.1)

-- 20 (21) exactly if some clause leaves its fresh table empty (does not fit), every clause before it having given a table
pub first_20 : (cap : ℕ) (p : Problem) → (start_table cap p ≡ refused 20) ↔ Stops cap (some []) (start_clauses p) (p.known ∷ [])
unfolding start_table
first_20 cap p = (
  stops_of cap 20 (some []) fresh_20 refl (start_clauses p) (p.known ∷ []),
  of_stops cap 20 (some []) fresh_20 refl (start_clauses p) (p.known ∷ []),
)

pub first_21 : (cap : ℕ) (p : Problem) → (start_table cap p ≡ refused 21) ↔ Stops cap none (start_clauses p) (p.known ∷ [])
unfolding start_table
first_21 cap p = (
  stops_of cap 21 none fresh_21 refl (start_clauses p) (p.known ∷ []),
  of_stops cap 21 none fresh_21 refl (start_clauses p) (p.known ∷ []),
)
