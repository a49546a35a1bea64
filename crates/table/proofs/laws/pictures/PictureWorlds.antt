-- Pictures and worlds: what the clauses of a picture are, their order, and what equal bytes mean. For TH8 (proofs/Demands) and for the
-- crate plan. Assumes nothing.
use mathlib.Core.Path.{◌≡◌, sym, ap, ◌∙◌, subst}
use mathlib.Core.Logic.{◌⊎◌, ◌↔◌}
use mathlib.Core.Option.{some}
use mathlib.Core.List.{List, [], Memᴰ}
use Prim.Native.Nat.{ℕ, ◌^◌, ◌≤◌, ◌<◌}
use native.Mathlib.Nat.{lt_of_lt_of_le}
use native.Mathlib.Omega.{arith}
use lib.Dec.{T}
use lib.ListN.{length}
use lib.Pow.{pow_mono}
use Rattle.sheet.specs.declared.Literals.{Literals}
use Rattle.sheet.specs.Literals.{state, meets}
use Rattle.sheet.specs.Lists.{All}
use Rattle.sheet.proofs.laws.base.ListMembers.{all_members}
use Rattle.table.specs.Minimal.{In, Antichain, Described, put_all}
use Rattle.table.specs.Picture.{unions, primes, Ascending, sort, picture, picture_bytes}
use Rattle.table.specs.Prime.{Prime, Exactly}
use Rattle.table.proofs.laws.slots.PutInvariants.{then_some}
use Rattle.table.proofs.laws.pictures.Primes.{PrimeList, list_exactly, exactly_list, prime_list_same, union_prime_list, primes_prime_list, primes_length, clauses_world, in_or_not}
use Rattle.table.proofs.laws.pictures.ClauseOrder.{ascending_unique, sort_mem, sort_sorted, sort_length}
use Rattle.table.proofs.laws.pictures.PictureBytes.{Fit, bytes_injective}

-- ---- lists of prime implicates

-- two lists of the prime implicates of A and of B: their clauses joined are put to a list of those of A and B together
pub union_primes : (cap n : ℕ) (A B : ℕ → Type 0) (s u r : List Literals) → Antichain s → Exactly n A s → Antichain u → Exactly n B u
    → put_all cap (unions s u) [] ≡ some r → Antichain r × Exactly n (λ w. A w ⊎ B w) r
union_primes cap n A B s u r a f b g e =
    let p = union_prime_list cap n A B s u r (exactly_list n A s a f) (exactly_list n B u b g) e in
    (p.apart, list_exactly n (λ w. A w ⊎ B w) r p)

-- one set of worlds has one strictly ascending list of its prime implicates
pub prime_unique : (n : ℕ) (worlds : ℕ → Type 0) (s r : List Literals) → Ascending s → Ascending r → Exactly n worlds s
    → Exactly n worlds r → s ≡ r
prime_unique n worlds s r a b f g = ascending_unique s r a b (λ c. (λ m. (g c).1 ((f c).0 m), λ m. (f c).1 ((g c).0 m)))

-- ---- one picture

module _ {cap n : ℕ} {t s : List Literals} (h : n ≤ 32) (d : Described cap n t) (e : picture t ≡ some s) where
  -- the clauses in working order, of which s is the sorted list
  worked : (r : List Literals) × (primes 256 t ≡ some r) × (sort r ≡ s)
  unfolding picture
  worked =
      let k = then_some (primes 256 t) (λ q. some (sort q)) s e in
      (k.0, k.1, cc k.2)

  -- the sorted list still has a clause within every implicate
  pub picture_list : PrimeList n (In n t) s
  picture_list =
      let k = worked in
      let p = primes_prime_list 256 n h t k.0 d.proper k.1 in
      subst (PrimeList n (In n t)) k.2 (record {
        sound = λ c m. p.sound c ((sort_mem k.0 c).0 m);
        complete = λ c i. (let r = p.complete c i in (r.0, (sort_mem k.0 r.0).1 r.1, r.2));
        apart = (sort_sorted k.0 p.apart).1;
      })

  -- its clauses are the prime implicates of the table's worlds and no others
  pub picture_primes : (c : Literals) → Memᴰ c s ↔ Prime n (In n t) c
  picture_primes = list_exactly n (In n t) s picture_list

  -- strictly ascending, so none comes twice; at most 256
  pub picture_ascending : Ascending s × (length s ≤ 256)
  picture_ascending =
      let k = worked in
      let p = primes_prime_list 256 n h t k.0 d.proper k.1 in
      subst (λ (z : List Literals). Ascending z × (length z ≤ 256)) k.2
      ((sort_sorted k.0 p.apart).0, omega (arith, sort_length k.0, primes_length 256 (omega arith) t k.0 k.1))

  -- a world is one of the table's exactly where every clause holds
  pub picture_worlds : (w : ℕ) → w < 2 ^ n → In n t w ↔ All (λ c. T (meets c (state n w))) s
  picture_worlds w l = (
    λ i. all_members (λ c. T (meets c (state n w))) s (λ c m. (picture_list.sound c m).sure w l i),
    clauses_world n (In n t) s picture_list w l (in_or_not n t w),
  )

  -- the masks fit four bytes
  pub picture_fit : All Fit s
  picture_fit = all_members Fit s (λ c m.
      let p = (picture_list.sound c m).proper in
      (lt_of_lt_of_le p.trues_below (pow_mono h), lt_of_lt_of_le p.falses_below (pow_mono h)))

-- ---- two pictures

-- the same bytes exactly where the same worlds
pub bytes_worlds : {cap n : ℕ} {t u s r : List Literals} → n ≤ 32 → Described cap n t → Described cap n u → picture t ≡ some s
    → picture u ≡ some r
    → (picture_bytes s ≡ picture_bytes r) ↔ ((w : ℕ) → w < 2 ^ n → In n t w ↔ In n u w)
bytes_worlds {cap} {n} {t} {u} {s} {r} h dt du et eu = (there, back)
  where
    there : picture_bytes s ≡ picture_bytes r → (w : ℕ) → w < 2 ^ n → In n t w ↔ In n u w
    there b w l =
        let q : s ≡ r = bytes_injective s r (picture_fit h dt et) (picture_fit h du eu) b in
        let x = picture_worlds h dt et w l in
        let y = picture_worlds h du (eu ∙ ap some (sym q)) w l in
        (λ i. y.1 (x.0 i), λ i. x.1 (y.0 i))

    back : ((w : ℕ) → w < 2 ^ n → In n t w ↔ In n u w) → picture_bytes s ≡ picture_bytes r
    back f =
        ap picture_bytes
        (prime_unique n (In n u) s r (picture_ascending h dt et).0 (picture_ascending h du eu).0
        (list_exactly n (In n u) s (prime_list_same f (picture_list h dt et))) (picture_primes h du eu))
