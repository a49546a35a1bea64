-- The clauses of a table: clauses joined with clauses from a place on, and one entry joined in after the other. For
-- `picture_clauses::join_lists` and `picture_clauses::clauses_of`. Assumes nothing.
use mathlib.Core.Path.{◌≡◌, refl, sym, ap, ◌∙◌, subst}
use mathlib.Core.List.{List, [], ◌++◌, map}
use Prim.Native.Nat.{ℕ, ◌+◌, ◌≤◌, ◌<◌}
use lib.ListN.{length, get_or, drop}
use Rattle.std.specs.Prelude as std
use Rattle.std.specs.Prelude.{Result, Ok, Err}
use Rattle.std.specs.Result.{result_ok}
use Rattle.std.proofs.lemmas.Option.{none-some}
use Rattle.std.proofs.lemmas.List.{drop_more, drop_all}
use Rattle.std.proofs.Math.Option.{Option}
use Rattle.sheet.specs.declared.Literals.{Literals}
use Rattle.sheet.specs.Literals.{no_literal, join, consistent}
use Rattle.sheet.specs.Lists.{keep}
use Rattle.table.specs.declared.slots.Full.{Full}
use Rattle.table.specs.Worlds.{and_then}
use Rattle.table.specs.Minimal.{put_all}
use Rattle.table.specs.Picture.{units, unions, fold, primes}
use Rattle.table.specs.inner.Puts.{Grew, Puts}
use Rattle.table.specs.inner.PictureClauses.{as_option}
use Rattle.table.proofs.laws.slots.ConsistentCandidates.{collect_here, collect_past}

-- ---- the clause at i joined with the clauses u, and those after it
module _ (s : List Literals) (i : ℕ) (u : List Literals) where
  pub unions_here : {c : Literals} → i < length s → c ≡ get_or s i no_literal
      → unions (drop i s) u ≡ keep consistent (map (join c) u) ++ unions (drop (i + 1) s) u
  unfolding unions
  unions_here lt e = collect_here s i (λ c. map (join c) u) lt e

  pub unions_past : length s ≤ i → unions (drop i s) u ≡ []
  unfolding unions
  unions_past le = collect_past s i (λ c. map (join c) u) le

-- ---- one entry joined in after the other

-- with the entries before i joined in, the clauses s and the entries from i on give those of all
pub record Folding (es : List Literals) (i : ℕ) (s : List Literals) : Type 0 where
  pub onwards : fold 256 s (drop i es) ≡ primes 256 es

module _ (es : List Literals) where
  pub folding_start : {e : Literals} {s : List Literals} → 1 ≤ length es → e ≡ get_or es 0 no_literal → s ≡ units e → Folding es 1 s
  unfolding primes
  folding_start {e} {s} le q p = record {
    onwards =
        ap (λ (x : List Literals). fold 256 x (drop 1 es)) (p ∙ ap units q)
        ∙ sym (ap (primes 256) (drop_more es 0 no_literal le));
  }

  module _ {i : ℕ} {s : List Literals} (g : Folding es i s) where
    module _ {e : Literals} {r : Result Unit Full} {s' us : List Literals} (lt : i < length es) (q : e ≡ get_or es i no_literal)
        (empty : s' ≡ []) (w : Puts 256 (unions s (units e)) s' r us) where
      abbrev rest_of : Option (List Literals) → Option (List Literals)
      rest_of o = and_then o (λ x. fold 256 x (drop (i + 1) es))

      told : (x : Result Unit Full) → r ≡ x → Grew (put_all 256 (unions s (units e)) []) x us
      told x p =
          subst (λ (y : List Literals). Grew (put_all 256 (unions s (units e)) y) x us) empty
          (subst (λ (y : Result Unit Full). Grew (put_all 256 (unions s (units e)) s') y us) p w.grew)

      turn : rest_of (put_all 256 (unions s (units e)) []) ≡ primes 256 es
      unfolding fold
      turn =
          ap (λ (x : Literals). rest_of (put_all 256 (unions s (units x)) [])) q
          ∙ sym (ap (fold 256 s) (drop_more es i no_literal lt)) ∙ g.onwards

      -- what a call said by an Option
      module _ {o : std.Option Unit} (h : o ≡ result_ok r) where
        pub folding_on : {done : Unit} → o ≡ std.Some done → Folding es (i + 1) us
        folding_on {done} p = by r refl (sym h ∙ p)
          where
            by : (x : Result Unit Full) → r ≡ x → result_ok x ≡ std.Some done → Folding es (i + 1) us
            by (Ok d) q f = record { onwards = sym (ap rest_of (told (Ok d) q)) ∙ turn }
            by (Err full) q f = absurd (none-some done f)

        pub folding_full : o ≡ std.None → std.None ≡ as_option (primes 256 es)
        folding_full p = by r refl (sym h ∙ p)
          where
            by : (x : Result Unit Full) → r ≡ x → result_ok x ≡ std.None → std.None ≡ as_option (primes 256 es)
            by (Ok d) q f = absurd (none-some d (sym f))
            by (Err full) q f = ap as_option (sym (ap rest_of (told (Err full) q)) ∙ turn)

    pub folding_end : length es ≤ i → std.Some s ≡ as_option (primes 256 es)
    unfolding fold
    folding_end le = ap as_option (sym (ap (fold 256 s) (drop_all i es le)) ∙ g.onwards)

-- a turn of the loop of `picture_clauses::clauses_of`
pub ruleset folding = (folding_start, folding_on, folding_full, folding_end)
