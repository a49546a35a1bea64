-- What the functions answer, by cases: a slice is too short, or the call's own answer in numbers. For the seven calls for C. Assumes
-- nothing.
use mathlib.Core.Path.{◌≡◌, refl, ap, ◌∙◌}
use mathlib.Core.Bool.{Bool, true, false, cond, ◌||◌}
use mathlib.Core.List.{List, ◌++◌}
use Prim.Native.Nat.{ℕ, ◌/◌, ◌≤◌, ◌<◌}
use borrow.Author.Tests.{lt-ltb, le-ltb}
use lib.Dec.{ltb}
use lib.ListN.{length, drop}
use Rattle.std.specs.Prelude.{Result, Ok, Err}
use Rattle.sheet.specs.declared.Fault.{Fault}
use Rattle.sheet.specs.declared.Literals.{Literals}
use Rattle.sheet.specs.Calls.{Answer, judge_of}
use Rattle.sheet.specs.Format.{sheet_of}
use Rattle.table.specs.declared.Table.{Table}
use Rattle.table.specs.declared.TableAnswer.{TableAnswer}
use Rattle.table.specs.declared.PictureAnswer.{PictureAnswer}
use Rattle.sheet.proofs.laws.base.Bools.{cond_true, cond_false}
use Rattle.table.specs.Calls.{start_of, step_of}
use Rattle.table.specs.inner.Starts.{start_answer}
use Rattle.table.specs.inner.Steps.{step_answer}
use Rattle.table.specs.PictureCalls.{picture_of}
use Rattle.plan.specs.declared.SearchAnswer.{SearchAnswer}
use Rattle.plan.specs.declared.Course.{Course}
use Rattle.plan.specs.Calls.{search_of}
use Rattle.plan.specs.inner.Course.{course_of}
use Rattle.unit.specs.declared.Reply.{Reply}
use Rattle.unit.specs.Numbers.{answer_reply, verdict_reply, kind_reply, info_of, too_short, table_in, table_out}
use Rattle.unit.specs.Calls.{judge_reply, start_reply, step_reply, picture_reply, search_reply, run_reply, run_table}

-- ---- the second of two by a test that does not hold
pub second : {A : Type 0} {b : Bool} (x y z : A) → b ≡ false → z ≡ y → z ≡ cond b x y
second x y z e q = q ∙ cond_false x y e

-- ---- slices that are too short, or long enough
module _ (n : ℕ) (xs info : List ℕ) where
  pub lacks_first : length xs < n → too_short n xs info ≡ true
  unfolding too_short
  lacks_first h = ap (λ (t : Bool). t || ltb (length info) 4) (lt-ltb (length xs) n h)

  pub lacks_info : n ≤ length xs → length info < 4 → too_short n xs info ≡ true
  unfolding too_short
  lacks_info h k = ap (λ (t : Bool). t || ltb (length info) 4) (le-ltb (length xs) n h) ∙ lt-ltb (length info) 4 k

  pub lacks_none : n ≤ length xs → 4 ≤ length info → too_short n xs info ≡ false
  unfolding too_short
  lacks_none h k = ap (λ (t : Bool). t || ltb (length info) 4) (le-ltb (length xs) n h) ∙ le-ltb (length info) 4 k

-- ---- then nothing is written, and the answer is 255
pub unwritten : {b : Bool} {xs info : List ℕ} → b ≡ true → (answer : ℕ) (ys zs : List ℕ)
    → (255 ≡ cond b 255 answer) × ((xs ≡ cond b xs ys) × (info ≡ cond b info zs))
unwritten lacks answer ys zs = (cond_true _ _ lacks, (cond_true _ _ lacks, cond_true _ _ lacks))

-- ---- the answer byte and info, once the slices are long enough
module _ {b : Bool} (enough : b ≡ false) (t u : Reply) (same : t ≡ u) where
  pub byte : t.answer ≡ cond b 255 u.answer
  byte = second 255 u.answer t.answer enough (ap (λ (x : Reply). x.answer) same)

  pub numbers : (info after : List ℕ) → after ≡ info_of t info → after ≡ cond b info (info_of u info)
  numbers info after e = second info (info_of u info) after enough (e ∙ ap (λ (x : Reply). info_of x info) same)

-- ---- what each call tells
pub judge_told : (s : List ℕ) (a : Answer) (t : Reply) → a ≡ judge_of s → t ≡ answer_reply a 0 → t ≡ judge_reply s
unfolding judge_reply
judge_told s a t e q = q ∙ ap (λ (x : Answer). answer_reply x 0) e

-- the answer of a start or a step is the result that it gave
pub start_says : (r : Result Unit Fault) (us : List Literals) → r ≡ (start_answer r us).answer
start_says (Ok done) us = refl
start_says (Err fault) us = refl

pub step_says : (t : Table) (r : Result Unit Fault) (us : List Literals) → r ≡ (step_answer t r us).answer
step_says t (Ok done) us = refl
step_says t (Err fault) us = refl

-- a start or a step, whose answer and table are r, is the call u
answer_told : (r u : TableAnswer) (a : Answer) (t : Reply) → r ≡ u → a ≡ r.answer → t ≡ answer_reply a 0 → t ≡ answer_reply u.answer 0
answer_told r u a t e q h = h ∙ ap (λ (x : Answer). answer_reply x 0) (q ∙ ap (λ (x : TableAnswer). x.answer) e)

pub start_told : (s : List ℕ) (r : TableAnswer) (a : Answer) (t : Reply) → r ≡ start_of (sheet_of s) → a ≡ r.answer → t ≡ answer_reply a 0
    → t ≡ start_reply s
unfolding start_reply
start_told s r a t e q h = answer_told r (start_of (sheet_of s)) a t e q h

pub step_told : (s xs : List ℕ) (m : ℕ) (r : TableAnswer) (a : Answer) (t : Reply) → r ≡ step_of (sheet_of s) (table_in xs) m → a ≡ r.answer
    → t ≡ answer_reply a 0
    → t ≡ step_reply s xs m
unfolding step_reply
step_told s xs m r a t e q h = answer_told r (step_of (sheet_of s) (table_in xs) m) a t e q h

pub picture_told : (s xs : List ℕ) (n : ℕ) (g : Table) (r : PictureAnswer) (t : Reply) → g ≡ table_in xs → r ≡ picture_of (sheet_of s) g n
    → t ≡ answer_reply r.answer r.clauses
    → t ≡ picture_reply s xs n
unfolding picture_reply
picture_told s xs n g r t e q h = h ∙ ap (λ (x : PictureAnswer). answer_reply x.answer x.clauses)
    (q ∙ ap (λ (x : Table). picture_of (sheet_of s) x n) e)

pub run_told : (s rows : List ℕ) (r : Course) (t : Reply) → r ≡ course_of (sheet_of s) (length rows / 3) → t ≡ verdict_reply r.ran.verdict
    → t ≡ run_reply s rows
unfolding run_reply course_of
run_told s rows r t e q = q ∙ ap (λ (x : Course). verdict_reply x.ran.verdict) e

-- the table that a run hands back
pub run_table_lem : (s rows : List ℕ) (r : Course) → r ≡ course_of (sheet_of s) (length rows / 3) → r.ran.table ≡ run_table s rows
unfolding run_table course_of
run_table_lem s rows r e = ap (λ (x : Course). x.ran.table) e

-- ---- the numbers of a table, once the slices are long enough
pub tables : {b : Bool} (enough : b ≡ false) (t u : Table) (xs after : List ℕ) → t ≡ u → after ≡ table_out t xs
    → after ≡ cond b xs (table_out u xs)
tables enough t u xs after same e = second xs (table_out u xs) after enough (e ∙ ap (λ (x : Table). table_out x xs) same)

-- what a start or a step leaves, whose answer and table are r, told as t and written out
pub table_told : {b : Bool} {t u : Reply} {r v : TableAnswer} → b ≡ false → t ≡ u → r ≡ v → (xs after info told : List ℕ)
    → after ≡ table_out r.table xs → told ≡ info_of t info
    → (t.answer ≡ cond b 255 u.answer) × ((after ≡ cond b xs (table_out v.table xs)) × (told ≡ cond b info (info_of u info)))
table_told {r = r} {v} enough same is xs after info told e q = (
  byte enough _ _ same,
  (tables enough r.table v.table xs after (ap (λ (x : TableAnswer). x.table) is) e, numbers enough _ _ same info told q),
)

-- ---- what a search leaves, once the slices are long enough
module _ {b : Bool} (enough : b ≡ false) (s : List ℕ) (limit : ℕ) (r : SearchAnswer) (is : r ≡ search_of (sheet_of s) limit) where
  told_is : kind_reply r.kind r.length ≡ search_reply s limit
  unfolding search_reply
  told_is = ap (λ (x : SearchAnswer). kind_reply x.kind x.length) is

  pub search_byte : (answer : ℕ) → answer ≡ (kind_reply r.kind r.length).answer → answer ≡ cond b 255 (search_reply s limit).answer
  search_byte answer e = second 255 (search_reply s limit).answer answer enough (e ∙ ap (λ (x : Reply). x.answer) told_is)

  pub search_plan : (plan after : List ℕ) → after ≡ r.plan ++ drop 8 plan
      → after ≡ cond b plan ((search_of (sheet_of s) limit).plan ++ drop 8 plan)
  search_plan plan after e =
      second plan ((search_of (sheet_of s) limit).plan ++ drop 8 plan) after enough
      (e ∙ ap (λ (x : SearchAnswer). x.plan ++ drop 8 plan) is)

  pub search_info : (info after : List ℕ) → after ≡ info_of (kind_reply r.kind r.length) info
      → after ≡ cond b info (info_of (search_reply s limit) info)
  search_info info after e = numbers enough (kind_reply r.kind r.length) (search_reply s limit) told_is info after e
