-- A run told by the starting worlds alone (`Exact`): its verdict and its final clauses; so are runs from a start table, and two such
-- runs on one problem agree. For ExactCalls (TH7, TH9). Assumes nothing.
use mathlib.Core.Path.{◌≡◌, refl, sym, ap, subst, ◌∙◌}
use mathlib.Core.List.{List}
use mathlib.Core.Logic.{◌↔◌}
use mathlib.Core.Option.{Option, some}
use Prim.Native.Nat.{ℕ, ◌^◌, ◌≤◌, ◌<◌}
use native.Mathlib.Nat.{lt_of_lt_of_le}
use lib.Dec.{T}
use lib.Pow.{pow_mono}
use lib.ListN.{take}
use Rattle.sheet.specs.declared.Literals.{Literals}
use Rattle.sheet.specs.Literals.{state, meets}
use Rattle.sheet.specs.Lists.{All}
use Rattle.sheet.specs.Problem.{Action, Problem}
use Rattle.sheet.proofs.laws.base.ListMembers.{all_members}
use Rattle.table.specs.Worlds.{run_world, Starting}
use Rattle.table.specs.Picture.{Ascending, picture_bytes, picture}
use Rattle.table.specs.Minimal.{In}
use Rattle.table.proofs.laws.pictures.Primes.{PrimeList, list_exactly, prime_list_same}
use Rattle.table.proofs.laws.pictures.PictureWorlds.{prime_unique, picture_list, picture_ascending, picture_worlds}
use Rattle.table.proofs.laws.pictures.PictureBytes.{Fit, bytes_injective}
use Rattle.plan.specs.Run.{Verdict, reached, short, stopped, full, run_from, last_table}
use Rattle.plan.specs.Calls.{verdict_of}
use Rattle.plan.specs.Meaning.{Ends, Every, Comes}
use Rattle.plan.specs.inner.RunEnds.{Means}
use Rattle.plan.specs.Demand3.{Class, is_reached, is_short, is_stopped, class_of, taken_by}
use Rattle.plan.specs.inner.TableRuns.{moves_taken}
use Rattle.plan.proofs.laws.runs.VerdictClasses.{ClassMeans, one_class, class_other, stop_class}
use Rattle.plan.proofs.laws.runs.StartRuns.{taken_by_lem}
use Rattle.plan.proofs.laws.runs.ArrivedWorlds.{Arrives}

-- the verdict v and the final clauses of a run of the plan on the problem p: v means what the starting worlds do; they all take the moves
-- taken; and the clauses, if any, are the prime implicates, ascending, of the worlds that they then come to
pub record Exact (p : Problem) (plan : List Action) (v : Verdict) (clauses : Option (List Literals)) : Type 0 where
  pub means : Means p.n p.goal (Starting p) plan v
  pub defined : Every p.n (Starting p) Ends (taken_by (verdict_of v) plan)
  pub ascending : (s : List Literals) → clauses ≡ some s → Ascending s
  pub primes : (s : List Literals) → clauses ≡ some s → PrimeList p.n (Comes p.n (Starting p) (taken_by (verdict_of v) plan)) s
  pub worlds : (s : List Literals) → clauses ≡ some s → (w : ℕ) → w < 2 ^ p.n
      → Comes p.n (Starting p) (taken_by (verdict_of v) plan) w ↔ All (λ c. T (meets c (state p.n w))) s

-- ---- a run from a table is exact, by what its verdict means and by its last table
module _ (p : Problem) (hn : p.n ≤ 32) (plan : List Action) (t : List Literals)
    (meant : Means p.n p.goal (Starting p) plan (run_from 128 p.goal 0 plan t))
    (last : Arrives 128 p.n (Starting p) plan (moves_taken 128 plan t) (last_table 128 plan t)) where
  abbrev verdict : Verdict
  verdict = run_from 128 p.goal 0 plan t

  pub table_exact : Exact p plan verdict (picture (last_table 128 plan t))
  table_exact = record {
    means = meant;
    defined = subst (Every p.n (Starting p) Ends) (sym taken) last.defined;
    ascending = λ s e. (picture_ascending hn last.described e).0;
    primes = λ s e. prime_list_same same (picture_list hn last.described e);
    worlds = λ s e w l.
        let x = same w l in
        let y = picture_worlds hn last.described e w l in
        (λ i. y.0 (x.1 i), λ i. x.0 (y.1 i));
  }
    where
      taken : taken_by (verdict_of verdict) plan ≡ take (moves_taken 128 plan t) plan
      taken = taken_by_lem 128 p.goal plan t plan refl

      same : (w : ℕ) → w < 2 ^ p.n → In p.n (last_table 128 plan t) w ↔ Comes p.n (Starting p) (taken_by (verdict_of verdict) plan) w
      same w l = subst (λ (a : List Action). In p.n (last_table 128 plan t) w ↔ Comes p.n (Starting p) a w) (sym taken)
          (last.worlds w l)

-- ---- the class of a verdict that is not full; where it is not stopped, all moves are taken
class_of_lem : (n : ℕ) (goal : List Literals) (S : ℕ → Type 0) (plan : List Action) (v : Verdict) → ((k : ℕ) → v ≡ full k → ⊥)
    → Means n goal S plan v
    → (c : Class) × (class_of (verdict_of v) ≡ some c) × ClassMeans n goal S plan c
    × ((c ≡ is_stopped → ⊥) → taken_by (verdict_of v) plan ≡ plan)
unfolding class_of verdict_of taken_by
class_of_lem n goal S plan reached f m = (is_reached, refl, m, λ h. refl)
class_of_lem n goal S plan short f m = (is_short, refl, m, λ h. refl)
class_of_lem n goal S plan (stopped k N) f m = (is_stopped, refl, stop_class n S plan k N m, λ h. absurd (h refl))
class_of_lem n goal S plan (full k) f m = absurd (f k refl)

-- ---- two runs on one problem
module _ (p : Problem) (hn : p.n ≤ 32) (plan other : List Action) (v u : Verdict) (a b : Option (List Literals))
    (x : Exact p plan v a) (y : Exact p other u b) where
  fit : (S : ℕ → Type 0) (s : List Literals) → PrimeList p.n S s → All Fit s
  fit S s e = all_members Fit s (λ c m.
      let q = (e.sound c m).proper in
      (lt_of_lt_of_le q.trues_below (pow_mono hn), lt_of_lt_of_le q.falses_below (pow_mono hn)))

  abbrev One : ℕ → Type 0
  One = Comes p.n (Starting p) (taken_by (verdict_of v) plan)

  abbrev Two : ℕ → Type 0
  Two = Comes p.n (Starting p) (taken_by (verdict_of u) other)

  -- equal bytes exactly where the same worlds
  pub same_bytes : (s r : List Literals) → a ≡ some s → b ≡ some r → (picture_bytes s ≡ picture_bytes r)
      ↔ ((w : ℕ) → w < 2 ^ p.n → One w ↔ Two w)
  same_bytes s r e f = (there, back)
    where
      there : picture_bytes s ≡ picture_bytes r → (w : ℕ) → w < 2 ^ p.n → One w ↔ Two w
      there h w l =
          let q : s ≡ r = bytes_injective s r (fit One s (x.primes s e)) (fit Two r (y.primes r f)) h in
          let i = x.worlds s e w l in
          let j = y.worlds s (f ∙ ap some (sym q)) w l in
          (λ k. j.1 (i.0 k), λ k. i.1 (j.0 k))

      back : ((w : ℕ) → w < 2 ^ p.n → One w ↔ Two w) → picture_bytes s ≡ picture_bytes r
      back h =
          ap picture_bytes
          (prime_unique p.n Two s r (x.ascending s e) (y.ascending r f) (list_exactly p.n Two s (prime_list_same h (x.primes s e)))
          (list_exactly p.n Two r (y.primes r f)))

  -- where every world ends alike under both plans: the same class, and the same bytes unless it is stopped
  module _ (alike : (w : ℕ) → w < 2 ^ p.n → run_world p.n other w ≡ run_world p.n plan w) where
    abbrev Agree : Class → Type 0
    Agree c = (class_of (verdict_of v) ≡ some c) × (class_of (verdict_of u) ≡ some c)
        × ((c ≡ is_stopped → ⊥) → (s r : List Literals) → a ≡ some s → b ≡ some r → picture_bytes s ≡ picture_bytes r)

    pub same_class : ((k : ℕ) → v ≡ full k → ⊥) → ((k : ℕ) → u ≡ full k → ⊥) → (c : Class) × Agree c
    same_class f g = (c, (k.1, m.1 ∙ ap some (sym same), λ h s r e q. (same_bytes s r e q).1 (λ w l. (there h w l, back h w l))))
      where
        k : (c : Class) × (class_of (verdict_of v) ≡ some c) × ClassMeans p.n p.goal (Starting p) plan c
            × ((c ≡ is_stopped → ⊥) → taken_by (verdict_of v) plan ≡ plan)
        k = class_of_lem p.n p.goal (Starting p) plan v f x.means

        m : (c : Class) × (class_of (verdict_of u) ≡ some c) × ClassMeans p.n p.goal (Starting p) other c
            × ((c ≡ is_stopped → ⊥) → taken_by (verdict_of u) other ≡ other)
        m = class_of_lem p.n p.goal (Starting p) other u g y.means

        c : Class
        c = k.0

        same : c ≡ m.0
        same = one_class p.n p.goal (Starting p) plan c m.0 k.2
            (class_other p.n p.goal (Starting p) plan other alike m.0 m.2)

        one : (c ≡ is_stopped → ⊥) → taken_by (verdict_of v) plan ≡ plan
        one h = k.3 h

        two : (c ≡ is_stopped → ⊥) → taken_by (verdict_of u) other ≡ other
        two h = m.3 (λ e. h (same ∙ e))

        there : (c ≡ is_stopped → ⊥) → (w : ℕ) → w < 2 ^ p.n → One w → Two w
        there h w l z = subst (λ (q : List Action). Comes p.n (Starting p) q w) (sym (two h))
            (let i = subst (λ (q : List Action). Comes p.n (Starting p) q w) (one h) z in (i.0, i.1, i.2, alike i.0 i.1 ∙ i.3))

        back : (c ≡ is_stopped → ⊥) → (w : ℕ) → w < 2 ^ p.n → Two w → One w
        back h w l z = subst (λ (q : List Action). Comes p.n (Starting p) q w) (sym (one h))
            (let i = subst (λ (q : List Action). Comes p.n (Starting p) q w) (two h) z in
            (i.0, i.1, i.2, sym (alike i.0 i.1) ∙ i.3))
