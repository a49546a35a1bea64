-- The bytes that the format admits are those that `encode` writes, each for the statement that it writes them of.
-- For TH1 (a), `accepted_encoding` and `encoding_unique` in proofs/Demands. Assumes nothing.
use mathlib.Core.Path.{◌≡◌, refl, sym, ap, ◌∙◌, subst}
use mathlib.Core.Logic.{◌↔◌}
use mathlib.Core.List.{List, [], ◌∷◌, ◌++◌, append_assoc}
use mathlib.Core.Option.{none, some}
use Prim.Native.Nat.{ℕ, zero, suc, ◌≤◌, ◌<◌}
use native.Mathlib.Omega.{arith}
use lib.ListN.{length}
use Rattle.sheet.specs.declared.Literals.{Literals}
use Rattle.sheet.specs.declared.Effect.{Effect}
use Rattle.sheet.specs.Literals.{members}
use Rattle.sheet.specs.Lists.{All, collect}
use Rattle.sheet.specs.Form.{Form, done, ◌>>=◌, judged, times, due}
use Rattle.sheet.specs.Format.{count_fault, number_fault, count, list_of, ascending, set_of, literals, clause, effect, action, clauses, actions, goal, plan, facts, sheet}
use Rattle.sheet.specs.Problem.{Action, Facts, Problem, Statement, problem_of}
use Rattle.sheet.specs.Encoding.{ProperList, Counted, ProperClause, ProperEffect, ProperAction, ProperStatement, set_bytes, list_bytes, effect_bytes, action_bytes, clauses_bytes, encode}
use Rattle.sheet.proofs.laws.literals.LiteralSets.{proper_of, proper_consistent, proper_below}
use Rattle.sheet.proofs.laws.format.DueForms.{due_then, due_done_split, due_judged, run_byte, run_done, run_map}
use Rattle.sheet.proofs.laws.format.ByteRules.{count_0, number_0}
use Rattle.sheet.proofs.laws.literals.AscendingBytes.{ascending_iff, listed_members, listed_consistent, listed_below, members_listed, set_members}

-- ---- codecs

-- the form f reads the bytes of each value with P, and nothing else
pub record Codec {A : Type 0} (f : Form A) (bytes : A → List ℕ) (P : A → Type 0) : Type 0 where
  pub sound : (bs : List ℕ) (a : A) → due f bs ≡ some (done a) → P a × (bs ≡ bytes a)
  pub complete : (a : A) → P a → due f (bytes a) ≡ some (done a)

-- bytes that begin with those of a value, the rest for the form after it
record Led {A B : Type 0} (bytes : A → List ℕ) (P : A → Type 0) (g : A → Form B) (bs : List ℕ) (b : B) : Type 0 where
  value : A
  left : List ℕ
  proper : P value
  whole : bs ≡ bytes value ++ left
  rest : due (g value) left ≡ some (done b)

-- bytes that are those of a value, c that value in another shape
record Shaped {A C : Type 0} (bytes : A → List ℕ) (P : A → Type 0) (make : A → C) (bs : List ℕ) (c : C) : Type 0 where
  value : A
  proper : P value
  whole : bs ≡ bytes value
  made : make value ≡ c

module _ {A : Type 0} {f : Form A} {bytes : A → List ℕ} {P : A → Type 0} (codec : Codec f bytes P) where
  -- a form after f: from the bytes to the values, and back
  led : {B : Type 0} (g : A → Form B) (bs : List ℕ) (b : B) → due (f >>= g) bs ≡ some (done b) → Led bytes P g bs b
  led g bs b e =
      let p = due_done_split f g bs e in
      let s : P p.value × (p.first ≡ bytes p.value) = codec.sound p.first p.value p.of_first in
      record { value = p.value; left = p.second; proper = s.0; whole = cc (p.whole, s.1); rest = p.of_second }

  lead : {B : Type 0} (g : A → Form B) (a : A) (bs : List ℕ) → P a → due (f >>= g) (bytes a ++ bs) ≡ due (g a) bs
  lead g a bs h = due_then f g (bytes a) bs (codec.complete a h)

  -- the value of f in another shape: from the bytes to the value, and back
  shaped : {C : Type 0} (make : A → C) (bs : List ℕ) (c : C) → due (f >>= (λ a. done (make a))) bs ≡ some (done c)
      → Shaped bytes P make bs c
  shaped make bs c e =
      let m = (run_map f make bs c).0 e in
      let s : P m.0 × (bs ≡ bytes m.0) = codec.sound bs m.0 m.1 in
      record { value = m.0; proper = s.0; whole = s.1; made = m.2 }

  shape : {C : Type 0} (make : A → C) (a : A) → P a → due (f >>= (λ a. done (make a))) (bytes a) ≡ some (done (make a))
  shape make a h = (run_map f make (bytes a) (make a)).1 (a, codec.complete a h, refl)

-- ---- one byte

codec_judged : (rule : ℕ → ℕ) (P : ℕ → Type 0) → ((b : ℕ) → (rule b ≡ 0) ↔ P b) → Codec (judged rule) (λ b. b ∷ []) P
unfolding judged due
codec_judged rule P iff = record {
  sound = λ bs b e. let h = due_judged rule bs e in ((iff b).0 h.1, h.0);
  complete = λ b h. (run_byte rule done b [] (done b)).1 ((iff b).1 h, refl);
}

codec_count : (low high : ℕ) → Codec (count low high) (λ b. b ∷ []) (λ b. (low ≤ b) × (b ≤ high))
codec_count low high = codec_judged (count_fault low high) _ (count_0 low high)

codec_number : (m : ℕ) → Codec (judged (number_fault m)) (λ b. b ∷ []) (λ b. b < m)
codec_number m = codec_judged (number_fault m) _ (number_0 m)

-- ---- lists

module _ {A : Type 0} {one : Form A} {bytes : A → List ℕ} {P : A → Type 0} (codec : Codec one bytes P) where
  times_sound : (k : ℕ) (bs : List ℕ) (xs : List A) → due (times k one) bs ≡ some (done xs) → (length xs ≡ k) × All P xs
      × (bs ≡ collect bytes xs)
  unfolding times
  times_sound zero bs xs e =
      let r = run_done [] xs bs e in
      subst (λ (ys : List A). (length ys ≡ 0) × All P ys × (bs ≡ collect bytes ys)) r.1 (refl, tt, r.0)
  times_sound (suc k) bs xs e =
      let p = led codec _ bs xs e in
      let m = (run_map (times k one) (λ (ys : List A). p.value ∷ ys) p.left xs).0 p.rest in
      let r = times_sound k p.left m.0 m.1 in
      subst (λ (ys : List A). (length ys ≡ suc k) × All P ys × (bs ≡ collect bytes ys)) m.2
      (ap suc r.0, (p.proper, r.1), cc (p.whole, r.2))

  times_complete : (xs : List A) → All P xs → due (times (length xs) one) (collect bytes xs) ≡ some (done xs)
  unfolding times due
  times_complete [] h = refl
  times_complete (x ∷ xs) h =
      lead codec _ x (collect bytes xs) h.0
      ∙ (run_map (times (length xs) one) (λ (ys : List A). x ∷ ys) (collect bytes xs) (x ∷ xs)).1 (xs, times_complete xs h.1, refl)

  codec_list : (low high : ℕ) → Codec (list_of low high one) (list_bytes bytes) (Counted low high P)
  unfolding list_of list_bytes
  codec_list low high = record {
    sound = λ bs xs e.
        let p = led (codec_count low high) _ bs xs e in
        let r = times_sound p.value p.left xs p.rest in
        (record { least = omega arith; most = omega arith; each = r.1 }, cc (p.whole, r.0, r.2));
    complete = λ xs h.
        lead (codec_count low high) _ (length xs) (collect bytes xs) (h.least, h.most) ∙ times_complete xs h.each;
  }

-- ---- the items, over n propositions

module _ (n : ℕ) (bound : n ≤ 32) where
  codec_literals : (low high : ℕ) → Codec (literals n low high) set_bytes (ProperList n low high)
  unfolding literals set_bytes
  codec_literals low high = record { sound = sound; complete = complete }
    where
      sound : (bs : List ℕ) (a : Literals) → due (literals n low high) bs ≡ some (done a) → ProperList n low high a
          × (bs ≡ length (members a 0) ∷ members a 0)
      sound bs a e =
          let p = led (codec_count low high) _ bs a e in
          let m = (run_map (ascending n none p.value) set_of p.left a).0 p.rest in
          let r = (ascending_iff n none p.value p.left m.0).0 m.1 in
          let q : set_of p.left ≡ a = ap set_of (sym r.0) ∙ m.2 in
          let i : members (set_of p.left) 0 ≡ p.left = listed_members n bound p.left r.2 in
          subst (λ (x : Literals). ProperList n low high x × (bs ≡ length (members x 0) ∷ members x 0)) q (
            record {
              proper = proper_of n (set_of p.left) (listed_consistent n p.left r.2) (listed_below n p.left r.2);
              least = rw i (omega arith);
              most = rw i (omega arith);
            },
            rw i (cc (p.whole, r.1)),
          )

      complete : (a : Literals) → ProperList n low high a → due (literals n low high) (length (members a 0) ∷ members a 0) ≡ some (done a)
      complete a h =
          lead (codec_count low high) _ (length (members a 0)) (members a 0) (h.least, h.most)
          ∙ (run_map (ascending n none (length (members a 0))) set_of (members a 0) a).1 (
            members a 0,
            (ascending_iff n none (length (members a 0)) (members a 0) (members a 0)).1
                (refl, refl, members_listed n a (proper_consistent n a h.proper) (proper_below n a h.proper)),
            set_members n bound a (proper_below n a h.proper),
          )

  codec_clauses : Codec (clauses n) clauses_bytes (Counted 0 8 (ProperClause n))
  unfolding clauses clause clauses_bytes
  codec_clauses = codec_list (codec_list (codec_literals 1 4) 1 8) 0 8

  codec_effect : Codec (effect n) effect_bytes (ProperEffect n)
  unfolding effect effect_bytes
  codec_effect = record {
    sound = λ bs e h.
        let p = led (codec_literals 0 4) _ bs e h in
        let q = shaped (codec_literals 1 4) (λ (r : Literals). record { condition = p.value; result = r }) p.left e p.rest in
        subst (λ (x : Effect). ProperEffect n x × (bs ≡ set_bytes x.condition ++ set_bytes x.result)) q.made
        (record { condition = p.proper; result = q.proper }, cc (p.whole, q.whole));
    complete = λ e h.
        lead (codec_literals 0 4) _ e.condition (set_bytes e.result) h.condition
        ∙ shape (codec_literals 1 4) (λ (r : Literals). record { condition = e.condition; result = r }) e.result h.result;
  }

  codec_action : Codec (action n) action_bytes (ProperAction n)
  unfolding action action_bytes
  codec_action = record {
    sound = λ bs a h.
        let p = led (codec_literals 0 8) _ bs a h in
        let q = shaped (codec_list codec_effect 0 8) (λ (es : List Effect). record { precondition = p.value; effects = es }) p.left a
        p.rest in
        subst (λ (x : Action). ProperAction n x × (bs ≡ set_bytes x.precondition ++ list_bytes effect_bytes x.effects)) q.made
        (record { precondition = p.proper; effects = q.proper }, cc (p.whole, q.whole));
    complete = λ a h.
        lead (codec_literals 0 8) _ a.precondition (list_bytes effect_bytes a.effects) h.precondition
        ∙ shape (codec_list codec_effect 0 8) (λ (es : List Effect). record { precondition = a.precondition; effects = es }) a.effects
        h.effects;
  }

  codec_actions : Codec (actions n) (list_bytes action_bytes) (Counted 1 32 (ProperAction n))
  unfolding actions
  codec_actions = codec_list codec_action 1 32

  codec_goal : Codec (goal n) (list_bytes set_bytes) (Counted 0 8 (ProperList n 1 8))
  unfolding goal
  codec_goal = codec_list (codec_literals 1 8) 0 8

codec_plan : (m : ℕ) → Codec (plan m) (list_bytes (λ b. b ∷ [])) (Counted 0 64 (λ b. b < m))
unfolding plan
codec_plan m = codec_list (codec_number m) 0 64

-- ---- the sheet

-- what sections 1 to 4 can say, and their bytes
record ProperFacts (f : Facts) : Type 0 where
  range : (1 ≤ f.n) × (f.n ≤ 32)
  known : ProperList f.n 0 32 f.known
  ors : Counted 0 8 (ProperClause f.n) f.ors
  oneofs : Counted 0 8 (ProperClause f.n) f.oneofs

facts_bytes : Facts → List ℕ
facts_bytes f = (f.n ∷ []) ++ (set_bytes f.known ++ (clauses_bytes f.ors ++ clauses_bytes f.oneofs))

said : ℕ → Literals → List (List Literals) → List (List Literals) → Facts
said n known ors oneofs = record { n = n; known = known; ors = ors; oneofs = oneofs }

codec_facts : Codec facts facts_bytes ProperFacts
unfolding facts facts_bytes said
codec_facts = record { sound = sound; complete = complete }
  where
    sound : (bs : List ℕ) (f : Facts) → due facts bs ≡ some (done f) → ProperFacts f × (bs ≡ facts_bytes f)
    sound bs f e =
        let p = led (codec_count 1 32) _ bs f e in
        let k = led (codec_literals p.value p.proper.1 0 32) _ p.left f p.rest in
        let o = led (codec_clauses p.value p.proper.1) _ k.left f k.rest in
        let q = shaped (codec_clauses p.value p.proper.1) (said p.value k.value o.value) o.left f o.rest in
        subst (λ (x : Facts). ProperFacts x × (bs ≡ facts_bytes x)) {x = said p.value k.value o.value q.value} q.made
        (record { range = p.proper; known = k.proper; ors = o.proper; oneofs = q.proper }, cc (p.whole, k.whole, o.whole, q.whole))

    complete : (f : Facts) → ProperFacts f → due facts (facts_bytes f) ≡ some (done f)
    complete f h =
        lead (codec_count 1 32) _ f.n (set_bytes f.known ++ (clauses_bytes f.ors ++ clauses_bytes f.oneofs)) h.range
        ∙ lead (codec_literals f.n h.range.1 0 32) _ f.known (clauses_bytes f.ors ++ clauses_bytes f.oneofs) h.known
        ∙ lead (codec_clauses f.n h.range.1) _ f.ors (clauses_bytes f.oneofs) h.ors
        ∙ shape (codec_clauses f.n h.range.1) (said f.n f.known f.ors) f.oneofs h.oneofs

-- what all seven sections say
stated : Facts → List Action → List Literals → List ℕ → Statement
stated f moves g p = record { problem = problem_of f moves g; plan = p }

module _ (f : Facts) (moves : List Action) (g : List Literals) (p : List ℕ) where
  encode_stated : encode (stated f moves g p)
      ≡ facts_bytes f ++ (list_bytes action_bytes moves ++ (list_bytes set_bytes g ++ list_bytes (λ b. b ∷ []) p))
  unfolding encode stated problem_of facts_bytes
  encode_stated = simp append_assoc

  -- the same, section by section
  in_parts : (bs bs₁ bs₂ bs₃ : List ℕ) → bs ≡ facts_bytes f ++ bs₁ → bs₁ ≡ list_bytes action_bytes moves ++ bs₂
      → bs₂ ≡ list_bytes set_bytes g ++ bs₃ → bs₃ ≡ list_bytes (λ b. b ∷ []) p → bs ≡ encode (stated f moves g p)
  in_parts bs bs₁ bs₂ bs₃ e e₁ e₂ e₃ = cc encode_stated

pub codec_sheet : Codec sheet encode ProperStatement
unfolding sheet said stated problem_of
codec_sheet = record { sound = sound; complete = complete }
  where
    sound : (bs : List ℕ) (x : Statement) → due sheet bs ≡ some (done x) → ProperStatement x × (bs ≡ encode x)
    sound bs x e =
        let f = led codec_facts _ bs x e in
        let bound : f.value.n ≤ 32 = f.proper.range.1 in
        let a = led (codec_actions f.value.n bound) _ f.left x f.rest in
        let g = led (codec_goal f.value.n bound) _ a.left x a.rest in
        let q = shaped (codec_plan (length a.value)) (stated f.value a.value g.value) g.left x g.rest in
        subst (λ (y : Statement). ProperStatement y × (bs ≡ encode y)) {x = stated f.value a.value g.value q.value} q.made (
          record {
            problem = record {
              n_least = f.proper.range.0;
              n_most = bound;
              known = f.proper.known;
              ors = f.proper.ors;
              oneofs = f.proper.oneofs;
              actions = a.proper;
              goal = g.proper;
            };
            plan = q.proper;
          },
          in_parts f.value a.value g.value q.value bs f.left a.left g.left f.whole a.whole g.whole q.whole,
        )

    complete : (x : Statement) → ProperStatement x → due sheet (encode x) ≡ some (done x)
    complete x h =
        let p : Problem = x.problem in
        let f : Facts = said p.n p.known p.ors p.oneofs in
        let bound : p.n ≤ 32 = h.problem.n_most in
        ap (due sheet) (encode_stated f p.actions p.goal x.plan)
        ∙ lead codec_facts _ f _
        (record { range = (h.problem.n_least, bound); known = h.problem.known; ors = h.problem.ors; oneofs = h.problem.oneofs })
        ∙ lead (codec_actions p.n bound) _ p.actions _ h.problem.actions
        ∙ lead (codec_goal p.n bound) _ p.goal _ h.problem.goal
        ∙ shape (codec_plan (length p.actions)) (stated f p.actions p.goal) x.plan h.plan

-- ---- the theorem: the sheets are the encodings, each of one statement

pub encoded_iff : (s : List ℕ) (x : Statement) → (due sheet s ≡ some (done x)) ↔ (ProperStatement x × (s ≡ encode x))
encoded_iff s x = (codec_sheet.sound s x, λ h. ap (due sheet) h.1 ∙ codec_sheet.complete x h.0)

pub encode_unique : (x y : Statement) → ProperStatement x → ProperStatement y → encode x ≡ encode y → x ≡ y
encode_unique x y hx hy e = cc (codec_sheet.complete x hx, codec_sheet.complete y hy)
