-- Candidates put one after the other, until there is no room: for every function and loop that puts. Assumes nothing.
use Rattle.std.proofs.Common.{◌≡◌, ℕ, List, [], ◌∷◌, ◌++◌, refl, sym, ap, ◌∙◌, subst}
use Rattle.std.specs.Prelude.{Result, Ok, Err, IsErr}
use Rattle.std.proofs.lemmas.Bool.{false≢true}
use Rattle.std.proofs.Math.Option.{Option, none, some}
use Rattle.sheet.specs.declared.Literals.{Literals}
use Rattle.table.specs.declared.slots.Full.{Full}
use Rattle.table.specs.Worlds.{and_then}
use Rattle.table.specs.Minimal.{put, put_all}
use Rattle.table.specs.inner.Puts.{Grew, Puts}

pub put_all_append : (cap : ℕ) (cs ds s : List Literals) → put_all cap (cs ++ ds) s ≡ and_then (put_all cap cs s) (λ r. put_all cap ds r)
put_all_append cap [] ds s = refl
put_all_append cap (c ∷ cs) ds s = at (put cap s c) (λ r. put_all_append cap cs ds r)
  where
    at : (o : Option (List Literals)) → ((r : List Literals) → put_all cap (cs ++ ds) r ≡ and_then (put_all cap cs r)
        (λ q. put_all cap ds q))
        → and_then o (λ r. put_all cap (cs ++ ds) r) ≡ and_then (and_then o (λ r. put_all cap cs r)) (λ q. put_all cap ds q)
    at none rec = refl
    at (some r) rec = rec r

-- nothing was to be put
pub nothing_put : {cap : ℕ} {cs es : List Literals} → cs ≡ [] → Puts cap cs es (Ok tt) es
nothing_put {cap} {cs} {es} e = record { grew = ap (λ (x : List Literals). put_all cap x es) e }

module _ {cap : ℕ} {cs es us : List Literals} {r : Result Unit Full} where
  pub puts_is : {ds : List Literals} → cs ≡ ds → Puts cap cs es r us → Puts cap ds es r us
  puts_is e w = subst (λ (x : List Literals). Puts cap x es r us) e w

-- ---- a loop over candidates: those still to come, ds, after the list es, give what all give after the list es₀
pub record Going (cap : ℕ) (all es₀ ds es : List Literals) : Type 0 where
  pub onwards : put_all cap ds es ≡ put_all cap all es₀

pub going_start : {cap : ℕ} {all ds es : List Literals} → all ≡ ds → Going cap all es ds es
going_start {cap} {es = es} e = record { onwards = ap (λ (x : List Literals). put_all cap x es) (sym e) }

module _ {cap : ℕ} {all es₀ : List Literals} where
  module _ (ds : List Literals) {bs cs es us : List Literals} {r : Result Unit Full} (g : Going cap all es₀ bs es) (is : bs ≡ cs ++ ds)
      (w : Puts cap cs es r us) where
    at : (x : Result Unit Full) → r ≡ x → Grew (put_all cap cs es) x us
    at x e = subst (λ (y : Result Unit Full). Grew (put_all cap cs es) y us) e w.grew

    abbrev rest_of : Option (List Literals) → Option (List Literals)
    rest_of o = and_then o (λ y. put_all cap ds y)

    split_up : rest_of (put_all cap cs es) ≡ put_all cap all es₀
    split_up = sym (put_all_append cap cs ds es) ∙ sym (ap (λ (x : List Literals). put_all cap x es) is) ∙ g.onwards

    -- some candidates cs were put
    pub going_on : {done : Unit} → r ≡ Ok done → Going cap all es₀ ds us
    going_on {done} e = record { onwards = sym (ap rest_of (at (Ok done) e)) ∙ split_up }

    -- there was no room for one of them
    pub going_full : {full x : Full} {vs : List Literals} → r ≡ Err full → Puts cap all es₀ (Err x) vs
    going_full {full} e = record { grew = sym split_up ∙ ap rest_of (at (Err full) e) }

    -- the same for what a `?` gives then
    pub going_err : {full : Full} {r' : Result Unit Full} {vs : List Literals} → r ≡ Err full → IsErr r' → Puts cap all es₀ r' vs
    going_err {r' = Ok done} e h = absurd (false≢true h)
    going_err {r' = Err x} e h = going_full e

  pub going_end : {ds es : List Literals} → Going cap all es₀ ds es → ds ≡ [] → Puts cap all es₀ (Ok tt) es
  going_end {es = es} g e = record { grew = sym g.onwards ∙ ap (λ (x : List Literals). put_all cap x es) e }
