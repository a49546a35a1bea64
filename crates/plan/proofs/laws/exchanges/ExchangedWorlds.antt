-- A list of exchanges changes no world's end, and it keeps the length and the numbers of a plan. For TH7 (ExchangeDemands). Assumes
-- nothing.
use mathlib.Core.Path.{◌≡◌, refl, sym, ap, ◌∙◌}
use mathlib.Core.Bool.{Bool, true, false}
use mathlib.Core.List.{List, [], ◌∷◌, map}
use mathlib.Core.Option.{Option, none, some}
use Prim.Native.Nat.{ℕ, zero, suc, ◌^◌, ◌<◌}
use lib.ListN.{length}
use Rattle.sheet.specs.Lists.{All}
use Rattle.sheet.specs.Problem.{Action}
use Rattle.sheet.specs.Encoding.{ProperAction}
use Rattle.table.specs.Worlds.{step_world, and_then, run_world}
use Rattle.table.proofs.laws.steps.StepWorlds.{step_below}
use Rattle.plan.specs.Exchange.{swap, exchange_by, exchanges_by}

then_assoc : {A B C : Type 0} (o : Option A) (f : A → Option B) (g : B → Option C)
    → and_then (and_then o f) g ≡ and_then o (λ v. and_then (f v) g)
then_assoc none f g = refl
then_assoc (some v) f g = refl

-- ---- by any test under which moves that do not touch commute in every world
module _ (touches : Action → Action → Bool) (f : ℕ → Action) where
  -- what holds of the numbers of a plan holds after an exchange
  exchange_all : (P : ℕ → Type 0) (k : ℕ) (plan : List ℕ) → All P plan → All P (exchange_by touches f k plan)
  exchange_all P zero plan h = h
  exchange_all P (suc k) [] h = h
  exchange_all P (suc k) (a ∷ []) h = h
  exchange_all P (suc zero) (a ∷ b ∷ plan) h = go (touches (f a) (f b))
    where
      go : (t : Bool) → All P (swap t a b plan)
      go true = h
      go false = (h.1.0, (h.0, h.1.1))
  exchange_all P (suc (suc k)) (a ∷ b ∷ plan) h = (h.0, exchange_all P (suc k) (b ∷ plan) h.1)

  pub exchanges_all : (P : ℕ → Type 0) (ks plan : List ℕ) → All P plan → All P (exchanges_by touches f ks plan)
  exchanges_all P [] plan h = h
  exchanges_all P (k ∷ ks) plan h = exchanges_all P ks (exchange_by touches f k plan) (exchange_all P k plan h)

  exchange_length : (k : ℕ) (plan : List ℕ) → length (exchange_by touches f k plan) ≡ length plan
  exchange_length zero plan = refl
  exchange_length (suc k) [] = refl
  exchange_length (suc k) (a ∷ []) = refl
  exchange_length (suc zero) (a ∷ b ∷ plan) = go (touches (f a) (f b))
    where
      go : (t : Bool) → length (swap t a b plan) ≡ suc (suc (length plan))
      go true = refl
      go false = refl
  exchange_length (suc (suc k)) (a ∷ b ∷ plan) = ap suc (exchange_length (suc k) (b ∷ plan))

  pub exchanges_length : (ks plan : List ℕ) → length (exchanges_by touches f ks plan) ≡ length plan
  exchanges_length [] plan = refl
  exchanges_length (k ∷ ks) plan = exchanges_length ks (exchange_by touches f k plan) ∙ exchange_length k plan

  module _ (n : ℕ) (commutes : (a b : Action) → ProperAction n a → ProperAction n b → touches a b ≡ false → (w : ℕ) → w < 2 ^ n
      → and_then (step_world n a w) (step_world n b) ≡ and_then (step_world n b w) (step_world n a)) where
    -- one exchange: every world comes to the same end
    exchange_world : (k : ℕ) (plan : List ℕ) → All (λ i. ProperAction n (f i)) plan → (w : ℕ) → w < 2 ^ n
        → run_world n (map f (exchange_by touches f k plan)) w ≡ run_world n (map f plan) w
    exchange_world zero plan h w l = refl
    exchange_world (suc k) [] h w l = refl
    exchange_world (suc k) (a ∷ []) h w l = refl
    exchange_world (suc zero) (a ∷ b ∷ plan) h w l = go (touches (f a) (f b)) refl
      where
        go : (t : Bool) → touches (f a) (f b) ≡ t → run_world n (map f (swap t a b plan)) w ≡ run_world n (f a ∷ f b ∷ map f plan) w
        go true e = refl
        go false e =
            sym (then_assoc (step_world n (f b) w) (step_world n (f a)) (run_world n (map f plan)))
            ∙ ap (λ (o : Option ℕ). and_then o (run_world n (map f plan))) (sym (commutes (f a) (f b) h.0 h.1.0 e w l))
            ∙ then_assoc (step_world n (f a) w) (step_world n (f b)) (run_world n (map f plan))
    exchange_world (suc (suc k)) (a ∷ b ∷ plan) h w l = go (step_world n (f a) w) refl (exchange_world (suc k) (b ∷ plan) h.1)
      where
        go : (o : Option ℕ) → step_world n (f a) w ≡ o
            → ((v : ℕ) → v < 2 ^ n → run_world n (map f (exchange_by touches f (suc k) (b ∷ plan))) v ≡ run_world n (map f (b ∷ plan)) v)
            → and_then o (run_world n (map f (exchange_by touches f (suc k) (b ∷ plan)))) ≡ and_then o (run_world n (map f (b ∷ plan)))
        go none e ih = refl
        go (some v) e ih = ih v (step_below n (f a) h.0 w v l e)

    -- a whole list of exchanges: every world ends the same, or is undefined in both
    pub exchanges_world : (ks plan : List ℕ) → All (λ i. ProperAction n (f i)) plan → (w : ℕ) → w < 2 ^ n
        → run_world n (map f (exchanges_by touches f ks plan)) w ≡ run_world n (map f plan) w
    exchanges_world [] plan h w l = refl
    exchanges_world (k ∷ ks) plan h w l =
        exchanges_world ks (exchange_by touches f k plan) (exchange_all (λ i. ProperAction n (f i)) k plan h) w l
        ∙ exchange_world k plan h w l
