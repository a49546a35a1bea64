-- Bytes written one after the other, decimal digits, and the text of rows. For the functions of `text`. Assumes nothing.
use mathlib.Core.Path.{◌≡◌, refl, sym, ap, ap₂, ◌∙◌}
use mathlib.Core.Bool.{Bool, true, false, cond}
use mathlib.Core.List.{List, [], ◌∷◌, ◌++◌, append_assoc, append-nil}
use Prim.Native.Nat.{ℕ, zero, suc, ◌+◌, ◌/◌, ◌%◌, ◌^◌, ◌≤◌, ◌<◌}
use native.Mathlib.Nat.{mod-eq_of_lt, pow-suc}
use native.Mathlib.Numerals.{add-one}
use native.Mathlib.Omega.{arith}
use lib.Dec.{ltb}
use lib.ListN.{length, take, drop, length-append, take-append-drop}
use lib.Seq.{take_at, drop-append-add, drop-drop, length-take-le}
use borrow.Author.Tests.{ltb-true, ltb-false, lt-ltb, le-ltb}
use Rattle.plan.specs.declared.Row.{Row}
use Rattle.plan.specs.declared.Counts.{Counts}
use Rattle.plan.specs.inner.Rows.{row_at, rows_below}
use Rattle.plan.specs.declared.Verdict.{Verdict}
use Rattle.plan.specs.Demand3.{refused_verdict}
use Rattle.plan.specs.Text.{ascii, digits_of, decimal, row_text, rows_text, last_line, text_of}
use Rattle.plan.specs.declared.text.Writer.{Writer}
use Rattle.plan.specs.inner.Writing.{Wrote, WroteFirst}

-- ---- text in a buffer
-- nothing is written
pub wrote_none : (w : Writer) → w.at ≤ length w.out.now → Wrote w [] w
wrote_none w h =
    record { buffer = refl; long = refl; place = omega arith; within = h; bytes = sym (take-append-drop w.at w.out.now) }

-- s, then t
pub wrote_then : {u v w : Writer} {s t : List ℕ} → Wrote u s v → Wrote v t w → Wrote u (s ++ t) w
wrote_then {u} {v} {w} {s} {t} f g =
    let b = u.out.now in
    let p = take u.at b ++ s in
    let rest = drop v.at b in
    let long : length p ≡ v.at = omega
    (arith, length-append (take u.at b) s, length-take-le u.at b (omega (arith, f.place, f.within, f.long)), f.place) in
    let is : v.out.now ≡ p ++ rest = f.bytes ∙ sym (append_assoc (take u.at b) s rest) in
    let front : take v.at v.out.now ≡ p = ap (take v.at) is ∙ take_at p rest v.at long in
    let back : drop w.at v.out.now ≡ drop w.at b =
    ap₂ (λ (k : ℕ) (x : List ℕ). drop k x) (omega (arith, g.place, long)) is
    ∙ drop-append-add p rest (length t)
    ∙ drop-drop (length t) v.at b
    ∙ ap (λ (k : ℕ). drop k b) (sym g.place) in
    record {
      buffer = g.buffer ∙ f.buffer;
      long = g.long ∙ f.long;
      place = omega (arith, length-append s t, f.place, g.place);
      within = g.within;
      bytes =
          g.bytes
          ∙ ap₂ (λ (x y : List ℕ). x ++ (t ++ y)) front back
          ∙ append_assoc (take u.at b) s (t ++ drop w.at b)
          ∙ ap (λ (x : List ℕ). take u.at b ++ x) (sym (append_assoc s t (drop w.at b)));
    }

-- ---- decimal digits
-- equal higher digits, where there are any, give equal digits
same_higher : (n : ℕ) (x y : List ℕ) (b : Bool) → ltb n 10 ≡ b → (10 ≤ n → x ≡ y)
    → cond (ltb n 10) [] x ++ ((48 + n % 10) ∷ []) ≡ cond (ltb n 10) [] y ++ ((48 + n % 10) ∷ [])
same_higher n x y true e f = rw e
same_higher n x y false e f = ap (λ (z : List ℕ). cond (ltb n 10) [] z ++ ((48 + n % 10) ∷ [])) (f (ltb-false n 10 e))

-- more room than digits changes nothing
enough : (j k n : ℕ) → n < j → n < k → digits_of j n ≡ digits_of k n
enough zero k n h i = absurd (omega arith)
enough (suc j) zero n h i = absurd (omega arith)
enough (suc j) (suc k) n h i = same_higher n _ _ (ltb n 10) refl (λ g. enough j k (n / 10) (omega arith) (omega arith))

-- the digit of a number below 10
decimal_low : (n : ℕ) → n < 10 → decimal n ≡ (48 + n) ∷ []
unfolding decimal
decimal_low n h = rw (lt-ltb n 10 h, mod-eq_of_lt h)

-- the digits of any other number
decimal_high : (n : ℕ) → 10 ≤ n → decimal n ≡ decimal (n / 10) ++ ((48 + n % 10) ∷ [])
unfolding decimal
decimal_high n h = rw (le-ltb n 10 h)
    (ap (λ (x : List ℕ). x ++ ((48 + n % 10) ∷ [])) (enough n (suc (n / 10)) (n / 10) (omega arith) (omega arith)))

-- one digit more
longer : (k n : ℕ) (b : Bool) → ltb n 10 ≡ b → (10 ≤ n → length (decimal (n / 10)) ≤ k) → length (decimal n) ≤ suc k
longer k n true e f = omega (arith, ap length (decimal_low n (ltb-true n 10 e)))
longer k n false e f =
    let h = ltb-false n 10 e in
    omega (arith, ap length (decimal_high n h), length-append (decimal (n / 10)) ((48 + n % 10) ∷ []), f h)

-- a number below 10 ^ (k + 1) has at most k + 1 digits
decimal_length : (k n : ℕ) → n < 10 ^ suc k → length (decimal n) ≤ suc k
decimal_length zero n h = longer 0 n (ltb n 10) refl (λ g. absurd (omega arith))
decimal_length (suc k) n h = longer (suc k) n (ltb n 10) refl (λ g. decimal_length k (n / 10) (omega (arith, pow-suc 10 (suc k))))

-- a number of 64 bits has at most 20, and at most 19 before the last
pub decimal_few : (n : ℕ) → n < 18446744073709551616 → length (decimal n) ≤ 20
decimal_few n h = decimal_length 19 n (omega (arith, h))

pub few_higher : (n : ℕ) → n < 18446744073709551616 → length (decimal (n / 10)) ≤ 19
few_higher n h =
    let i : n / 10 < 10000000000000000000 = omega arith in
    decimal_length 18 (n / 10) i

-- the digit of a number below 10
pub wrote_low : {u w : Writer} {n : ℕ} → n < 10 → Wrote u ((48 + n % 10) ∷ []) w → Wrote u (decimal n) w
wrote_low {n = n} h f = rw (decimal_low n h, ← mod-eq_of_lt h) f

-- the last digit after the higher ones
pub wrote_high : {u v w : Writer} {n : ℕ} → 10 ≤ n → Wrote u (decimal (n / 10)) v → Wrote v ((48 + n % 10) ∷ []) w → Wrote u (decimal n) w
wrote_high {n = n} h f g = rw (decimal_high n h) (wrote_then f g)

-- ---- rows
-- one row more
rows_snoc : (rows : List Row) (r : Row) → rows_text (rows ++ (r ∷ [])) ≡ rows_text rows ++ row_text r
unfolding rows_text
rows_snoc [] r = append-nil (row_text r)
rows_snoc (x ∷ rows) r = ap (λ (t : List ℕ). row_text x ++ t) (rows_snoc rows r) ∙ sym
    (append_assoc (row_text x) (rows_text rows) (row_text r))

-- no row
pub wrote_no_rows : (w : Writer) → w.at ≤ length w.out.now → Wrote w (rows_text []) w
unfolding rows_text
wrote_no_rows w h = wrote_none w h

-- the row of the next place
pub wrote_row : (c : Counts) (i : ℕ) {row : Row} {u v w : Writer} → row ≡ row_at c i → Wrote u (rows_text (rows_below c i)) v
    → Wrote v (row_text row) w → Wrote u (rows_text (rows_below c (i + 1))) w
wrote_row c i is f g = rw (add-one i, rows_snoc (rows_below c i) (row_at c i)) (wrote_then f (rw is at g))

-- ---- the whole text
-- of a refused run
pub refused_text : (verdict : Verdict) (rows : List Row) {u w : Writer} → refused_verdict verdict ≡ true → Wrote u (last_line verdict) w
    → Wrote u (text_of verdict rows) w
unfolding text_of
refused_text verdict rows h f = rw h f

-- of any other run
pub whole_text : (verdict : Verdict) (rows : List Row) {u v x w : Writer} → refused_verdict verdict ≡ false
    → Wrote u (ascii "place entries clauses\n") v → Wrote v (rows_text rows) x → Wrote x (last_line verdict) w
    → Wrote u (text_of verdict rows) w
unfolding text_of
whole_text verdict rows h f g k = rw h (wrote_then (wrote_then f g) k)

-- in a buffer that was lent to a writer
pub wrote_first : {u w : Writer} {s : List ℕ} → u.at ≡ 0 → Wrote u s w → WroteFirst u.out.now s w.at w.out.now
wrote_first {u} {w} {s} z f = record {
  place = omega (arith, f.place, z);
  bytes = f.bytes ∙ ap (λ (k : ℕ). take k u.out.now ++ (s ++ drop w.at u.out.now)) z;
}
