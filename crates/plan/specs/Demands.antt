-- The three demands, sentence by sentence, and after them the request W2 of document 02: statements only, over the calls' own definitions
-- (`judge_of`, `start_of`, `step_of`, `picture_of`, `buffer_of`, `run_of`, `rows_after`, `search_of` on what the bytes say, `sheet_of s`) and over
-- worlds (`Starting`, `step_world`, `run_world`, `InGoal`); where document 01 states a working order, also over that (the form of a sheet,
-- `grow_all`, `put_images`, `picture`).
-- A demand is a record; its fields are the sentences, put in groups, one record to a call, so that what a group speaks of is said once: the
-- bytes s, which say x (`Says s x`: they are accepted as the sheet of x), a table t, a move m, rows, a limit. These are any; a field says
-- what else it takes. Proved in proofs/Demands.
-- Words, in reading order: sheet/specs/Lists, Literals, Problem, Form, Format, Encoding, Calls, Faults; table/specs/Worlds, Minimal,
-- Entries, Start, Step, Picture, Prime, Calls, PictureCalls, CallWords; beside this page Run, Search, Cases, Calls, Meaning, Order,
-- Exchange, Demand3, DemandWords.
-- The program `check` prints what `report` writes (specs/Text), by the same run; of it the page has only the output that document 01 shows.
use Rattle.std.specs.Prelude.{◌≡◌, Bool, true, false, not, ◌&&◌, ◌||◌, ◌⊎◌, ◌↔◌, ℕ, ◌+◌, ◌*◌, ◌/◌, ◌^◌, ◌≤◌, ◌<◌, T, length, take, drop, get_or, replicate}
use mathlib.Core.List.{List, [], ◌∷◌, ◌++◌, Memᴰ}
use Rattle.std.proofs.Math.Option.{Option, none, some}
use Rattle.sheet.specs.declared.Literals.{Literals}
use Rattle.sheet.specs.declared.Effect.{Effect}
use Rattle.sheet.specs.Calls.{Accepted, Refused, judge_of}
use Rattle.sheet.specs.Literals.{has, mem, within, consistent, state, meets}
use Rattle.sheet.specs.Lists.{Any, pad}
use Rattle.sheet.specs.Problem.{Action, Statement}
use Rattle.sheet.specs.Form.{Form, byte, due}
use Rattle.sheet.specs.Format.{count_fault, literal_fault, number_fault, sheet, sheet_of}
use Rattle.sheet.specs.Encoding.{ProperAction, ProperStatement, encode}
use Rattle.sheet.specs.Faults.{Says, FirstFault, ByteDue}
use Rattle.sheet.specs.Printed.{printed}
use Rattle.table.specs.declared.Table.{Table}
use Rattle.table.specs.Worlds.{results, step_world, and_then, Starting, InGoal}
use Rattle.table.specs.Minimal.{In, Least, table}
use Rattle.table.specs.Start.{start_clauses, grow_all}
use Rattle.table.specs.Picture.{Ascending, picture, picture_bytes}
use Rattle.table.specs.Prime.{Exactly}
use Rattle.table.specs.Entries.{entries, table_of}
use Rattle.table.specs.Calls.{start_of, action_at, step_of}
use Rattle.table.specs.PictureCalls.{picture_of, buffer_of}
use Rattle.table.specs.CallWords.{OnSheet, AsDescribed, ZeroAfter, Starts, WorldOf, Unsure, Contradictory, Untaken, StartStops, images, put_images}
use Rattle.plan.specs.declared.Row.{Row}
use Rattle.plan.specs.declared.Verdict.TheVariants as ran
use Rattle.plan.specs.declared.Kind.TheVariants as kind
use Rattle.plan.specs.Run.{actions_of}
use Rattle.plan.specs.Calls.{run_of, rows_after, search_of}
use Rattle.plan.specs.Text.{ascii, output_of}
use Rattle.plan.specs.Meaning.{Ends, Outside, Every, Some, StopsAt}
use Rattle.plan.specs.Order.{Earlier, PlanOf}
use Rattle.plan.specs.Exchange.{touch, touch_anywhere, exchanges}
use Rattle.plan.specs.Demand3.{Class, class_of, run_full, run_refused, SamePlanSheet}
use Rattle.plan.specs.DemandWords.{Solves, Spoiled, taken, Becomes, arrived, StepRefused, clauses_or, final_of, run_with, Misses, FirstRun, plan_found, InResult, ReadIn, NamedIn, TouchesAt, PutsOut, lamp_sheet}

-- ==== Demand 1: "A sheet, table, move or length that document 01 admits is worked through to the answer stated there. Anything else comes
-- back with the number of its first fault, any table handed in as it was, and every lent byte and row untouched."

-- ---- sets of literals as masks, "bit p for proposition p": the tests that all below rests on, by single literals
pub record MaskDemand : Type 0 where
  -- "all to hold together", "No entry's literals all lie in another's": all literals of a lie in b
  pub lies_in : (a b : Literals) → T (within a b) ↔ ((sign : Bool) (p : ℕ) → T (mem a sign p) → T (mem b sign p))
  -- "no literal with its complement", "have no complementary pair"
  pub no_pair : (a : Literals) → T (consistent a) ↔ ((p : ℕ) → T (mem a true p) → T (mem a false p) → ⊥)
  -- "if each has a literal true there": the clause c has a literal in d
  pub has_true : (c d : Literals) → T (meets c d) ↔ ((sign : Bool) × (p : ℕ) × T (mem c sign p) × T (mem d sign p))
  -- "A world gives each proposition a value": the literals of the world w say the value of each of its n propositions
  pub world : (n w : ℕ) → w < 2 ^ n → (sign : Bool) (p : ℕ) → T (mem (state n w) sign p) ↔ ((p < n) × (has w p ≡ sign))

-- ---- judge a sheet, any bytes s
pub record JudgeDemand (s : List ℕ) : Type 0 where
  -- accepted exactly for the bytes of a statement within document 01's ranges and list rules
  pub accepted : (judge_of s ≡ Accepted) ↔ ((x : Statement) × ProperStatement x × (s ≡ encode x))
  -- and then they say that statement
  pub says : (x : Statement) → Says s x ↔ (ProperStatement x × (s ≡ encode x))
  -- "with the number of its first fault": else refused with the number and position of the first place where the rule of what is due is
  -- broken
  pub refused : (number position : ℕ) → (judge_of s ≡ Refused number position) ↔ FirstFault s number position
  -- no other number than these seven
  pub numbers : (number position : ℕ) → judge_of s ≡ Refused number position → (1 ≤ number) × (number ≤ 7)
  -- "1 the bytes end too early (position: the length)": a byte is due at the end
  pub on_1 : (p : ℕ) → (judge_of s ≡ Refused 1 p)
      ↔ ((p ≡ length s) × ((rule : ℕ → ℕ) × (next : ℕ → Form Statement) × (due sheet s ≡ some (byte rule next))))
  -- "2 count out of its range, judged before its items"
  pub on_2 : (p : ℕ) → (judge_of s ≡ Refused 2 p)
      ↔ ((low : ℕ) × (high : ℕ) × (b : ℕ) × ByteDue s p (count_fault low high) b × ((b < low) ⊎ (high < b)))
  -- "3 literal of 2n or more"
  pub on_3 : (p : ℕ) → (judge_of s ≡ Refused 3 p)
      ↔ ((n : ℕ) × (last : Option ℕ) × (b : ℕ) × ByteDue s p (literal_fault n last) b × (2 * n ≤ b))
  -- "4 literal not above the one before"; "3 before 4 before 5"
  pub on_4 : (p : ℕ) → (judge_of s ≡ Refused 4 p)
      ↔ ((n : ℕ) × (l : ℕ) × (b : ℕ) × ByteDue s p (literal_fault n (some l)) b × (b < 2 * n) × (b ≤ l))
  -- "5 literal complements the one before"
  pub on_5 : (p : ℕ) → (judge_of s ≡ Refused 5 p)
      ↔ ((n : ℕ) × (l : ℕ) × (b : ℕ) × ByteDue s p (literal_fault n (some l)) b × (b < 2 * n) × (l < b) × (b / 2 ≡ l / 2))
  -- "6 bytes after the plan (the first of them)"
  pub on_6 : (p : ℕ) → (judge_of s ≡ Refused 6 p) ↔ ((p < length s) × (judge_of (take p s) ≡ Accepted))
  -- "7 move number not on the sheet"
  pub on_7 : (p : ℕ) → (judge_of s ≡ Refused 7 p) ↔ ((m : ℕ) × (b : ℕ) × ByteDue s p (number_fault m) b × (m ≤ b))
  -- "No accepted sheet exceeds 3,711 bytes"
  pub longest : judge_of s ≡ Accepted → length s ≤ 3711
  -- "so the first 4,096 decide"
  pub first_decide : judge_of (take 4096 s) ≡ judge_of s

-- ---- every other call on bytes at fault: "The sheet is judged …. After it, for each call …"
pub record FaultDemand (s : List ℕ) (number position : ℕ) : Type 0 where
  -- the sheet's number and position come first, whatever table, move, length, rows or limit is handed in
  pub start : (start_of (sheet_of s)).answer ≡ Refused number position
  pub step : (t : Table) (index : ℕ) → (step_of (sheet_of s) t index).answer ≡ Refused number position
  pub picture : (t : Table) (len : ℕ) → (picture_of (sheet_of s) t len).answer ≡ Refused number position
  pub run : (rows : ℕ) → (run_of (sheet_of s) rows).verdict ≡ ran.Refused number position
  pub search : (limit : ℕ) → (search_of (sheet_of s) limit).kind ≡ kind.Refused number position

-- ---- start: "21 or 20, whichever the start meets first"
pub record StartDemand (s : List ℕ) (x : Statement) : Type 0 where
  -- a clause leaves its fresh table empty: "A fresh table left empty is 20"
  pub on_20 : ((start_of (sheet_of s)).answer ≡ Refused 20 0) ↔ StartStops x.problem (some [])
  -- a clause overflows it: "21 table … full"
  pub on_21 : ((start_of (sheet_of s)).answer ≡ Refused 21 0) ↔ StartStops x.problem none
  -- accepted under neither, with the table as built
  pub accepted : ((start_of (sheet_of s)).answer ≡ Accepted)
      ↔ ((t : List Literals) × (grow_all 128 (start_clauses x.problem) (x.problem.known ∷ []) ≡ table t)
      × ((start_of (sheet_of s)).table ≡ table_of t))
  -- no other answer than these three
  pub numbers : ((start_of (sheet_of s)).answer ≡ Accepted) ⊎
      (((start_of (sheet_of s)).answer ≡ Refused 20 0) ⊎ ((start_of (sheet_of s)).answer ≡ Refused 21 0))
  -- "20 no starting world"
  pub no_world : (start_of (sheet_of s)).answer ≡ Refused 20 0 → (w : ℕ) → Starts x.problem w → ⊥
  -- and without one the start is refused
  pub worldless : ((w : ℕ) → Starts x.problem w → ⊥) → ((start_of (sheet_of s)).answer ≡ Refused 20 0)
      ⊎ ((start_of (sheet_of s)).answer ≡ Refused 21 0)
  -- what an accepted start returns is a table as described, unused slots zero
  pub returned : (start_of (sheet_of s)).answer ≡ Accepted → AsDescribed x (start_of (sheet_of s)).table
      × ZeroAfter (start_of (sheet_of s)).table

-- ---- step, of the table t by the move m: the numbers in this order, accepted under none of them
pub record StepDemand (s : List ℕ) (x : Statement) (t : Table) (index : ℕ) : Type 0 where
  -- "7 move number not on the sheet (in a single step: position 0)"
  pub on_7 : ((step_of (sheet_of s) t index).answer ≡ Refused 7 0) ↔ (OnSheet x index → ⊥)
  -- "22 table not as described above"
  pub on_22 : ((step_of (sheet_of s) t index).answer ≡ Refused 22 0) ↔ (OnSheet x index × (AsDescribed x t → ⊥))
  -- "24 precondition not sure"
  pub on_24 : ((step_of (sheet_of s) t index).answer ≡ Refused 24 0) ↔ (OnSheet x index × AsDescribed x t × Unsure x t index)
  -- "25 contradictory results"
  pub on_25 : ((step_of (sheet_of s) t index).answer ≡ Refused 25 0)
      ↔ (OnSheet x index × AsDescribed x t × (Unsure x t index → ⊥) × Contradictory x t index)
  -- "21 table … full"; "A contradiction anywhere is reported before a full table"
  pub on_21 : ((step_of (sheet_of s) t index).answer ≡ Refused 21 0)
      ↔ (OnSheet x index × AsDescribed x t × (Unsure x t index → ⊥) × (Contradictory x t index → ⊥) × (put_images x t index ≡ none))
  -- accepted under none of these, with the table of the images as put
  pub accepted : ((step_of (sheet_of s) t index).answer ≡ Accepted)
      ↔ (OnSheet x index × AsDescribed x t × (Unsure x t index → ⊥) × (Contradictory x t index → ⊥)
      × ((u : List Literals) × (put_images x t index ≡ some u) × ((step_of (sheet_of s) t index).table ≡ table_of u)))
  -- no other number than these five, each at position 0
  pub numbers : (number position : ℕ) → (step_of (sheet_of s) t index).answer ≡ Refused number position → (position ≡ 0)
      × ((number ≡ 7) ⊎ ((number ≡ 22) ⊎ ((number ≡ 24) ⊎ ((number ≡ 25) ⊎ (number ≡ 21)))))
  -- what an accepted step returns is a table as described, unused slots zero
  pub returned : (step_of (sheet_of s) t index).answer ≡ Accepted → AsDescribed x (step_of (sheet_of s) t index).table
      × ZeroAfter (step_of (sheet_of s) t index).table

-- ---- picture, of the table t into a buffer of len bytes: the numbers in this order, accepted under none of them
pub record PictureDemand (s : List ℕ) (x : Statement) (t : Table) : Type 0 where
  -- "22 table not as described above"
  pub on_22 : (len : ℕ) → ((picture_of (sheet_of s) t len).answer ≡ Refused 22 0) ↔ (AsDescribed x t → ⊥)
  -- "21 … picture full"
  pub on_21 : (len : ℕ) → ((picture_of (sheet_of s) t len).answer ≡ Refused 21 0) ↔ (AsDescribed x t × (picture (entries t) ≡ none))
  -- "23 for the picture's own length"
  pub on_23 : (len : ℕ) → ((picture_of (sheet_of s) t len).answer ≡ Refused 23 0)
      ↔ (AsDescribed x t × ((c : List Literals) × (picture (entries t) ≡ some c) × (len < 2 + 8 * length c)))
  -- "it gives the clause count"; the buffer has the picture's bytes, "later bytes of the buffer are kept"
  pub accepted : (buffer : List ℕ) → ((picture_of (sheet_of s) t (length buffer)).answer ≡ Accepted)
      ↔ (AsDescribed x t × ((c : List Literals) × (picture (entries t) ≡ some c) × (2 + 8 * length c ≤ length buffer)
      × ((picture_of (sheet_of s) t (length buffer)).clauses ≡ length c)
      × (buffer_of (sheet_of s) t buffer ≡ picture_bytes c ++ drop (2 + 8 * length c) buffer)))
  -- no other number than these three, each at position 0
  pub numbers : (len number position : ℕ) → (picture_of (sheet_of s) t len).answer ≡ Refused number position → (position ≡ 0)
      × ((number ≡ 22) ⊎ ((number ≡ 21) ⊎ (number ≡ 23)))
  -- "The picture is the table's set of prime implicates", "sorted by first then second mask", "at most 256 clauses"
  pub primes : AsDescribed x t → (c : List Literals) → picture (entries t) ≡ some c
      → Ascending c × (length c ≤ 256) × Exactly x.problem.n (In x.problem.n (entries t)) c

-- ---- run, by the calls start, step and picture
pub record RunDemand (s : List ℕ) (x : Statement) : Type 0 where
  -- "23 for rows"
  pub on_23 : (rows : ℕ) → ((run_of (sheet_of s) rows).verdict ≡ ran.Refused 23 0) ↔ (rows < 65)
  -- "a start's 20 or 21 refuses the run …"; else it is not refused
  pub start : (rows : ℕ) → 65 ≤ rows → (number position : ℕ) → ((run_of (sheet_of s) rows).verdict ≡ ran.Refused number position)
      ↔ ((start_of (sheet_of s)).answer ≡ Refused number position)
  -- "A run starts, then steps the plan": reached if every world of the last table is in the goal
  pub reached : (rows : ℕ) → 65 ≤ rows → ((run_of (sheet_of s) rows).verdict ≡ ran.Reached)
      ↔ ((u : Table) × (arrived s x.plan ≡ some u) × ((w : ℕ) → WorldOf x u w → InGoal x.problem.n x.problem.goal w))
  -- "short (all moves taken, some world of the last table not in the goal)"
  pub short : (rows : ℕ) → 65 ≤ rows → ((run_of (sheet_of s) rows).verdict ≡ ran.Short)
      ↔ ((u : Table) × (arrived s x.plan ≡ some u) × ((w : ℕ) × WorldOf x u w × (InGoal x.problem.n x.problem.goal w → ⊥)))
  -- "stopped (place, and 24 or 25)"
  pub stopped : (rows : ℕ) → 65 ≤ rows → (k N : ℕ) → ((run_of (sheet_of s) rows).verdict ≡ ran.Stopped k N)
      ↔ (StepRefused s x.plan k N × ((N ≡ 24) ⊎ (N ≡ 25)))
  -- "full (place)"
  pub full : (rows : ℕ) → 65 ≤ rows → (k : ℕ) → ((run_of (sheet_of s) rows).verdict ≡ ran.Full k) ↔ StepRefused s x.plan k 21
  -- "It returns the last table it had"
  pub last : (rows : ℕ) → run_refused (run_of (sheet_of s) rows) ≡ false → arrived s (taken s x rows) ≡ some (run_of (sheet_of s) rows).table
  -- which is as described, unused slots zero
  pub returned : (rows : ℕ) → run_refused (run_of (sheet_of s) rows) ≡ false → AsDescribed x (run_of (sheet_of s) rows).table
      × ZeroAfter (run_of (sheet_of s) rows).table
  -- "rows of places arrived at are written", "each of three numbers: place, entries, picture clauses (257 if that picture is full)"
  pub row : (rows : List Row) → run_refused (run_of (sheet_of s) (length rows)) ≡ false → (i : ℕ) → i ≤ length (taken s x (length rows))
      → (d : Row)
      → (u : Table) × (arrived s (take i x.plan) ≡ some u)
      × (get_or (rows_after (sheet_of s) rows) i d
      ≡ record {
        place = i;
        entries = u.count;
        clauses = clauses_or (picture_of (sheet_of s) u 2050).answer
            (picture_of (sheet_of s) u 2050).clauses;
      })
  -- "the rest kept"
  pub rest : (rows : List Row) (i : ℕ) → length (taken s x (length rows)) < i → (d : Row)
      → get_or (rows_after (sheet_of s) rows) i d ≡ get_or rows i d

-- ---- search, its numbers; what it finds is in demand 2. `search_with` promises the same `search_of`, whatever memory it is lent
pub record SearchDemand (s : List ℕ) (x : Statement) : Type 0 where
  -- "8 search limit above 8 (position 0)"
  pub on_8 : (limit : ℕ) → ((search_of (sheet_of s) limit).kind ≡ kind.Refused 8 0) ↔ (8 < limit)
  -- "a start's 20 or 21 refuses the … search"; else it is not refused
  pub start : (limit : ℕ) → limit ≤ 8 → (number position : ℕ) → ((search_of (sheet_of s) limit).kind ≡ kind.Refused number position)
      ↔ ((start_of (sheet_of s)).answer ≡ Refused number position)

-- ---- what comes back, whatever the bytes s are
pub record BackDemand (s : List ℕ) : Type 0 where
  -- "a refused start … returns a table with count 0 and all slots zero"
  pub refused_start : (number position : ℕ) → (start_of (sheet_of s)).answer ≡ Refused number position
      → (start_of (sheet_of s)).table ≡ table_of []
  -- "A refused step returns the given table"
  pub refused_step : (t : Table) (index number position : ℕ) → (step_of (sheet_of s) t index).answer ≡ Refused number position
      → (step_of (sheet_of s) t index).table ≡ t
  -- "it gives the clause count, 0 if refused"; "every lent byte … untouched"
  pub refused_picture : (t : Table) (buffer : List ℕ) (number position : ℕ)
      → (picture_of (sheet_of s) t (length buffer)).answer ≡ Refused number position
      → ((picture_of (sheet_of s) t (length buffer)).clauses ≡ 0) × (buffer_of (sheet_of s) t buffer ≡ buffer)
  -- "a refused … run returns a table with count 0 and all slots zero"; "every lent … row untouched"
  pub refused_run_lem : (rows : List Row) (number position : ℕ) → (run_of (sheet_of s) (length rows)).verdict ≡ ran.Refused number position
      → ((run_of (sheet_of s) (length rows)).table ≡ table_of []) × (rows_after (sheet_of s) rows ≡ rows)
  -- no row is added or lost, whatever the verdict
  pub rows_length : (rows : List Row) → length (rows_after (sheet_of s) rows) ≡ length rows
  -- "for … a refusal the length is 0"
  pub refused_search_lem : (limit number position : ℕ) → (search_of (sheet_of s) limit).kind ≡ kind.Refused number position
      → ((search_of (sheet_of s) limit).plan ≡ replicate 8 0) × ((search_of (sheet_of s) limit).length ≡ 0)
  -- "for none … the length is 0"
  pub nothing_found : (limit : ℕ) → (search_of (sheet_of s) limit).kind ≡ kind.Nothing → (search_of (sheet_of s) limit).length ≡ 0
  -- "A plan comes as eight bytes with its length; bytes past the length are zero"
  pub eight_bytes : (limit : ℕ) → let r = search_of (sheet_of s) limit in (r.length ≤ 8) × (r.plan ≡ pad 8 0 (plan_found r))
  -- "unused slots are not read on entry": tables with the same entries give the same answers
  pub unread : (t u : Table) → entries t ≡ entries u
      → ((index : ℕ) → ((step_of (sheet_of s) t index).answer ≡ (step_of (sheet_of s) u index).answer)
      × ((step_of (sheet_of s) t index).answer ≡ Accepted → (step_of (sheet_of s) t index).table ≡ (step_of (sheet_of s) u index).table))
      × ((len : ℕ) → picture_of (sheet_of s) t len ≡ picture_of (sheet_of s) u len)
      × ((buffer : List ℕ) → buffer_of (sheet_of s) t buffer ≡ buffer_of (sheet_of s) u buffer)

pub record Demand1 : Type 0 where
  pub masks : MaskDemand
  pub judge : (s : List ℕ) → JudgeDemand s
  pub fault : (s : List ℕ) (number position : ℕ) → judge_of s ≡ Refused number position → FaultDemand s number position
  pub start : (s : List ℕ) (x : Statement) → Says s x → StartDemand s x
  pub step : (s : List ℕ) (x : Statement) → Says s x → (t : Table) (index : ℕ) → StepDemand s x t index
  pub picture : (s : List ℕ) (x : Statement) → Says s x → (t : Table) → PictureDemand s x t
  pub run : (s : List ℕ) (x : Statement) → Says s x → RunDemand s x
  pub search : (s : List ℕ) (x : Statement) → Says s x → SearchDemand s x
  pub back : (s : List ℕ) → BackDemand s
  -- "Whole output" of the program `check` for the sheet that document 01 prints
  pub output : output_of (sheet_of printed) ≡ ascii "place entries clauses\n0 3 4\n1 2 3\n2 1 3\nreached\n"

-- ==== Demand 2: "A move turns a table into one for exactly the worlds got by stepping each world alone, as To, Son and Pontelli define it,
-- and is undefined exactly when some world can't take it; else it fails only where the new table fills. On a sheet with a starting world, a
-- run that fills no table is "reached" exactly when every starting world takes every move and ends in the goal. The search gives the first
-- shortest such run, or "none" exactly when there is none within its limit, unless an earlier run fills the table, which it names. … the
-- published definition must carry this and not our turret."

-- ---- "as To, Son and Pontelli define it": the step of a world is source 000's, for every move within the sheet's ranges (`ProperAction`)
pub record PaperDemand : Type 0 where
  -- equation (1): e(a, state) is the set of literals of the results whose conditions hold in the state d
  pub equation_1 : (es : List Effect) (d : Literals) (sign : Bool) (p : ℕ)
      → T (mem (results es d) sign p) ↔ Any (λ e. T (within e.condition d) × T (mem e.result sign p)) es
  -- equation (2): the state without the complements of e(a, state), with e(a, state), as a complete state, if it has the precondition and
  -- e(a, state) is consistent; else undefined
  pub equation_2 : (n : ℕ) (a : Action) → ProperAction n a → (w : ℕ) → w < 2 ^ n
      → let before = state n w in let e = results a.effects before in
      ((v : ℕ) → (step_world n a w ≡ some v)
      ↔ (T (within a.precondition before) × T (consistent e) × (v < 2 ^ n)
      × ((sign : Bool) (p : ℕ) → mem (state n v) sign p ≡ ((mem before sign p && not (mem e (not sign) p)) || mem e sign p))))
      × ((step_world n a w ≡ none) ↔ (T (within a.precondition before) × T (consistent e) → ⊥))

-- ---- tables
pub record TableWorlds (s : List ℕ) (x : Statement) : Type 0 where
  -- "A move turns a table into one for exactly the worlds got by stepping each world alone"
  pub step : (t : Table) (index : ℕ) → (step_of (sheet_of s) t index).answer ≡ Accepted → (v : ℕ)
      → WorldOf x (step_of (sheet_of s) t index).table v
      ↔ ((w : ℕ) × WorldOf x t w × (step_world x.problem.n (action_at x.problem index) w ≡ some v))
  -- "and is undefined exactly when some world can't take it"
  pub step_undefined : (t : Table) (index : ℕ) → OnSheet x index → AsDescribed x t
      → (((step_of (sheet_of s) t index).answer ≡ Refused 24 0) ⊎ ((step_of (sheet_of s) t index).answer ≡ Refused 25 0)) ↔ Untaken x t index
  -- "else it fails only where the new table fills"
  pub step_else : (t : Table) (index : ℕ) → OnSheet x index → AsDescribed x t → (Untaken x t index → ⊥)
      → ((step_of (sheet_of s) t index).answer ≡ Accepted) ⊎
      (((step_of (sheet_of s) t index).answer ≡ Refused 21 0) × (put_images x t index ≡ none))
  -- for tables: the new entries are min of the images of the pieces, as in source 001, Definition 4; but the pieces are document 01's,
  -- without the min that 001 takes between conditions
  pub step_least : (t : Table) (index : ℕ) → (step_of (sheet_of s) t index).answer ≡ Accepted → (d : Literals)
      → Memᴰ d (entries (step_of (sheet_of s) t index).table) ↔ Least (images x t index) d
  -- the first table stands for exactly the starting worlds
  pub start : (start_of (sheet_of s)).answer ≡ Accepted → (w : ℕ) → WorldOf x (start_of (sheet_of s)).table w ↔ Starts x.problem w
  -- and where there is one, the start fails only where a table fills
  pub start_else : (w : ℕ) → Starts x.problem w → ((start_of (sheet_of s)).answer ≡ Accepted) ⊎ ((start_of (sheet_of s)).answer ≡ Refused 21 0)

-- ---- runs: "On a sheet with a starting world, a run that fills no table is …"; short and stopped name such a world themselves
pub record RunWorlds (s : List ℕ) (x : Statement) : Type 0 where
  -- ""reached" exactly when every starting world takes every move and ends in the goal"
  pub reached : (w : ℕ) → Starts x.problem w → (rows : ℕ) → 65 ≤ rows → run_full (run_of (sheet_of s) rows) ≡ false
      → ((run_of (sheet_of s) rows).verdict ≡ ran.Reached) ↔ Solves x.problem x.plan
  -- short exactly when each takes every move and some ends outside
  pub short : (rows : ℕ) → 65 ≤ rows → run_full (run_of (sheet_of s) rows) ≡ false → let p = x.problem in
      ((run_of (sheet_of s) rows).verdict ≡ ran.Short)
      ↔ (Every p.n (Starting p) Ends (actions_of p x.plan)
      × Some p.n (Starting p) (Outside p.n p.goal) (actions_of p x.plan))
  -- stopped exactly at the first move that some world cannot take, by 24 where one then lacks the precondition, else 25
  pub stopped : (rows : ℕ) → 65 ≤ rows → run_full (run_of (sheet_of s) rows) ≡ false
      → (k N : ℕ) → ((run_of (sheet_of s) rows).verdict ≡ ran.Stopped k N)
      ↔ StopsAt x.problem.n (Starting x.problem) (actions_of x.problem x.plan) k N
  -- "which steps every world through all of them": whatever the verdict, every starting world takes the moves taken
  pub takes_all : (rows : ℕ) → run_refused (run_of (sheet_of s) rows) ≡ false
      → Every x.problem.n (Starting x.problem) Ends (actions_of x.problem (taken s x rows))
  -- and the table returned stands for exactly the worlds that they become
  pub worlds : (rows : ℕ) → run_refused (run_of (sheet_of s) rows) ≡ false → (v : ℕ) → v < 2 ^ x.problem.n
      → In x.problem.n (entries (run_of (sheet_of s) rows).table) v ↔ Becomes s x rows v

-- ---- searches, to a limit of at most 8; the run of a plan q is the call run on the sheet that carries q
pub record SearchFinds (s : List ℕ) (x : Statement) : Type 0 where
  -- that sheet is accepted, for every plan of up to 64 of the sheet's moves
  pub carried : (q : List ℕ) → PlanOf (length x.problem.actions) 64 q
      → Says (encode (record { problem = x.problem; plan = q })) (record { problem = x.problem; plan = q })
  -- "the sheet's plan is ignored"
  pub plan_ignored : (r : List ℕ) (y : Statement) → SamePlanSheet s r x y → (limit : ℕ)
      → search_of (sheet_of r) limit ≡ search_of (sheet_of s) limit
  -- "The search gives the first shortest such run"
  pub reached : (limit : ℕ) → limit ≤ 8 → (q : List ℕ)
      → (((search_of (sheet_of s) limit).kind ≡ kind.Reached) × (plan_found (search_of (sheet_of s) limit) ≡ q))
      ↔ FirstRun x.problem limit q ran.Reached
  -- "or "none" exactly when there is none within its limit"
  pub nothing : (limit : ℕ) → limit ≤ 8
      → ((search_of (sheet_of s) limit).kind ≡ kind.Nothing)
      ↔ ((q : List ℕ) → PlanOf (length x.problem.actions) limit q → Misses (run_with x.problem q).verdict)
  -- "unless an earlier run fills the table, which it names": with its place
  pub full : (limit : ℕ) → limit ≤ 8 → (q : List ℕ) (k : ℕ)
      → (((search_of (sheet_of s) limit).kind ≡ kind.Full k) × (plan_found (search_of (sheet_of s) limit) ≡ q))
      ↔ FirstRun x.problem limit q (ran.Full k)
  -- which is the length of its plan
  pub full_at_end : (limit : ℕ) → limit ≤ 8 → (k : ℕ) → (search_of (sheet_of s) limit).kind ≡ kind.Full k
      → k ≡ (search_of (sheet_of s) limit).length
  -- the same by worlds: the plan found is the first within the limit that takes every starting world to the goal; each earlier one fails
  -- for some; there is a starting world, and no run up to that plan is full
  pub reached_worlds : (limit : ℕ) → limit ≤ 8 → (q : List ℕ)
      → (((search_of (sheet_of s) limit).kind ≡ kind.Reached) × (plan_found (search_of (sheet_of s) limit) ≡ q))
      ↔ (((w : ℕ) × Starts x.problem w) × PlanOf (length x.problem.actions) limit q × (run_full (run_with x.problem q) ≡ false)
      × Solves x.problem q
      × ((r : List ℕ) → PlanOf (length x.problem.actions) limit r → Earlier r q → (run_full (run_with x.problem r) ≡ false)
      × Spoiled x.problem r))
  -- every plan before one that is full fails for some starting world
  pub full_worlds : (limit : ℕ) → limit ≤ 8 → (k : ℕ) → (search_of (sheet_of s) limit).kind ≡ kind.Full k
      → (r : List ℕ) → PlanOf (length x.problem.actions) limit r → Earlier r (plan_found (search_of (sheet_of s) limit))
      → Spoiled x.problem r
  -- none exactly if every plan within the limit fails for some starting world, and no run is full
  pub nothing_worlds : (limit : ℕ) → limit ≤ 8
      → ((search_of (sheet_of s) limit).kind ≡ kind.Nothing)
      ↔ ((q : List ℕ) → PlanOf (length x.problem.actions) limit q → Spoiled x.problem q × (run_full (run_with x.problem q) ≡ false))

pub record Demand2 : Type 0 where
  pub paper : PaperDemand
  pub tables : (s : List ℕ) (x : Statement) → Says s x → TableWorlds s x
  pub runs : (s : List ℕ) (x : Statement) → Says s x → RunWorlds s x
  pub searches : (s : List ℕ) (x : Statement) → Says s x → SearchFinds s x

-- ==== Demand 3: "Take any sheet with a starting world, any plan on it, and any list of exchanges of neighbouring moves, each made in the
-- plan that the one before left, and changing nothing where the two touch. Whatever the plans between meet, if neither the first plan's run
-- nor the last one's is full, both are reached, both short or both stopped, place and number aside. Unless stopped, their final pictures,
-- if neither is full, are the same byte for byte. And for every two plans on that sheet, however their runs end, final pictures that aren't
-- full are the same byte for byte exactly when two sets of worlds are the same: what its starting worlds become, each stepped alone through
-- the moves that one run took, and through those that the other took."

-- ---- touching moves and exchanges, for any moves f by their numbers
pub record ExchangeDemand (f : ℕ → Action) : Type 0 where
  -- document 02, W2, in the place of document 01's wording: "two moves touch if a result of one has its complement among the other's
  -- results, or if a proposition in a result of one is named in the other's precondition or conditions"
  pub touching : (a b : Action) → (touch a b ≡ true) ↔ ((q : ℕ) × TouchesAt a b q)
  -- "An exchange is a number k from 1. It swaps moves k and k + 1 of the plan it gets"
  pub swaps : (k a b : ℕ) (first rest : List ℕ) → k ≡ length first + 1 → touch (f a) (f b) ≡ false
      → exchanges f (k ∷ []) (first ++ (a ∷ b ∷ rest)) ≡ first ++ (b ∷ a ∷ rest)
  -- "if they touch …, the plan stays"
  pub stays : (k a b : ℕ) (first rest : List ℕ) → k ≡ length first + 1 → touch (f a) (f b) ≡ true
      → exchanges f (k ∷ []) (first ++ (a ∷ b ∷ rest)) ≡ first ++ (a ∷ b ∷ rest)
  -- "if … there is no move k + 1, the plan stays"
  pub beyond : (k : ℕ) (plan : List ℕ) → length plan < k + 1 → exchanges f (k ∷ []) plan ≡ plan
  -- without an exchange the plan stays
  pub no_more : (plan : List ℕ) → exchanges f [] plan ≡ plan
  -- "The first exchange gets the first plan, each later one what the one before left."
  pub next : (k : ℕ) (ks plan : List ℕ) → exchanges f (k ∷ ks) plan ≡ exchanges f ks (exchanges f (k ∷ []) plan)

-- ---- the run and the final picture of one plan
pub record FinalDemand (s : List ℕ) (x : Statement) : Type 0 where
  -- what exchanges leave of a sheet's plan is again a plan on that sheet
  pub exchanged : (ks : List ℕ) → (r : List ℕ) × (y : Statement) × SamePlanSheet s r x y
      × (y.plan ≡ exchanges (action_at x.problem) ks x.plan)
  -- "It is full if that call gives 21. A refused run has none": else there is a final picture
  pub no_picture : (rows : ℕ) → (final_of s rows ≡ none)
      ↔ ((run_refused (run_of (sheet_of s) rows) ≡ true) ⊎ ((picture_of (sheet_of s) (run_of (sheet_of s) rows).table 2050).answer ≡ Refused 21 0))
  -- "what the picture call writes for the table that the run returns", into any buffer that it fits into
  pub written : (rows : ℕ) (b : List ℕ) → final_of s rows ≡ some b → (buffer : List ℕ) → length b ≤ length buffer
      → buffer_of (sheet_of s) (run_of (sheet_of s) rows).table buffer ≡ b ++ drop (length b) buffer

-- ---- two plans on one sheet
pub record TwoPlans (s₁ s₂ : List ℕ) (x y : Statement) : Type 0 where
  -- "Take any sheet with a starting world, any plan on it, and any list of exchanges …. Whatever the plans between meet, if neither the
  -- first plan's run nor the last one's is full, both are reached, both short or both stopped, place and number aside."
  pub class : (w : ℕ) → Starts x.problem w → (ks : List ℕ) → y.plan ≡ exchanges (action_at x.problem) ks x.plan
      → (rows₁ rows₂ : ℕ) → 65 ≤ rows₁ → 65 ≤ rows₂ → run_full (run_of (sheet_of s₁) rows₁) ≡ false
      → run_full (run_of (sheet_of s₂) rows₂) ≡ false
      → (c : Class) × (class_of (run_of (sheet_of s₁) rows₁).verdict ≡ some c) × (class_of (run_of (sheet_of s₂) rows₂).verdict ≡ some c)
  -- "Unless stopped, their final pictures, if neither is full, are the same byte for byte."
  pub exchange_pictures : (w : ℕ) → Starts x.problem w → (ks : List ℕ) → y.plan ≡ exchanges (action_at x.problem) ks x.plan
      → (rows₁ rows₂ : ℕ) → 65 ≤ rows₁ → 65 ≤ rows₂ → run_full (run_of (sheet_of s₁) rows₁) ≡ false
      → run_full (run_of (sheet_of s₂) rows₂) ≡ false
      → (class_of (run_of (sheet_of s₁) rows₁).verdict ≡ some Class.is_stopped → ⊥)
      → (b₁ b₂ : List ℕ) → final_of s₁ rows₁ ≡ some b₁ → final_of s₂ rows₂ ≡ some b₂ → b₁ ≡ b₂
  -- "And for every two plans on that sheet, however their runs end, final pictures that aren't full are the same byte for byte exactly when
  -- two sets of worlds are the same: what its starting worlds become, each stepped alone through the moves that one run took, and through
  -- those that the other took."
  pub pictures_worlds : (rows₁ rows₂ : ℕ) (b₁ b₂ : List ℕ) → final_of s₁ rows₁ ≡ some b₁ → final_of s₂ rows₂ ≡ some b₂
      → (b₁ ≡ b₂) ↔ ((v : ℕ) → v < 2 ^ x.problem.n → Becomes s₁ x rows₁ v ↔ Becomes s₂ y rows₂ v)

-- ---- what demand 3 asks for can be met: two plans on one sheet, one list of exchanges from the other, both reached, with final pictures
pub record Met (s₁ s₂ : List ℕ) (ks : List ℕ) : Type 0 where
  pub first : Statement
  pub second : Statement
  pub sheets : SamePlanSheet s₁ s₂ first second
  pub world : (w : ℕ) × Starts first.problem w
  pub exchanged : second.plan ≡ exchanges (action_at first.problem) ks first.plan
  pub reached : ((run_of (sheet_of s₁) 65).verdict ≡ ran.Reached) × ((run_of (sheet_of s₂) 65).verdict ≡ ran.Reached)
  pub pictures : (b : List ℕ) × (final_of s₁ 65 ≡ some b) × (final_of s₂ 65 ≡ some b)

pub record Demand3 : Type 0 where
  -- "two plans on one sheet are two sheets alike in sections 1 to 6": the same problem is the same bytes b before the plan's section
  pub alike : (s₁ s₂ : List ℕ) (x y : Statement) → Says s₁ x → Says s₂ y
      → (x.problem ≡ y.problem) ↔ ((b : List ℕ) × (s₁ ≡ b ++ (length x.plan ∷ x.plan)) × (s₂ ≡ b ++ (length y.plan ∷ y.plan)))
  pub exchange : (f : ℕ → Action) → ExchangeDemand f
  pub final : (s : List ℕ) (x : Statement) → Says s x → FinalDemand s x
  pub plans : (s₁ s₂ : List ℕ) (x y : Statement) → SamePlanSheet s₁ s₂ x y → TwoPlans s₁ s₂ x y
  -- by two moves that both put the lamp out, in either order
  pub met : Met (lamp_sheet 0 1) (lamp_sheet 1 0) (1 ∷ [])
  -- which are two sheets that differ
  pub differ : lamp_sheet 0 1 ≡ lamp_sheet 1 0 → ⊥
  -- and by document 01's own sheet, whose one move touches itself
  pub met_printed : Met printed printed (1 ∷ [])

-- ==== Request W2 of document 02, "Moves that share the lamp". That "no run or picture changes" is about two versions of the project and no
-- statement here: docs/changes/W2.md.
pub record RequestW2 : Type 0 where
  -- the wording before, document 01's: "Two moves touch if a proposition in a result of one is named anywhere in the other."
  pub anywhere : (a b : Action) → (touch_anywhere a b ≡ true) ↔ ((q : ℕ) × ((InResult a q × NamedIn b q) ⊎ (InResult b q × NamedIn a q)))
  -- "Every command of the new stand also puts the lamp out, so by the present wording all moves touch"
  pub before : (a b : Action) (lamp : ℕ) → PutsOut a lamp → PutsOut b lamp → touch_anywhere a b ≡ true
  -- "From now on two moves touch if a result of one has its complement among the other's results, or if a proposition in a result of one is
  -- named in the other's precondition or conditions."
  pub touching : (a b : Action) → (touch a b ≡ true) ↔ ((q : ℕ) × TouchesAt a b q)
  -- which are no moves but such as touched before: no exchange is lost
  pub fewer : (a b : Action) → touch_anywhere a b ≡ false → touch a b ≡ false
  -- "Two moves that both put the lamp out, don't read it and touch in nothing else may be exchanged."
  pub lamp : (f : ℕ → Action) (k a b lamp : ℕ) (first rest : List ℕ) → k ≡ length first + 1
      → PutsOut (f a) lamp → PutsOut (f b) lamp → (ReadIn (f a) lamp → ⊥) → (ReadIn (f b) lamp → ⊥)
      → ((q : ℕ) → TouchesAt (f a) (f b) q → q ≡ lamp)
      → exchanges f (k ∷ []) (first ++ (a ∷ b ∷ rest)) ≡ first ++ (b ∷ a ∷ rest)
  -- what does not touch may be taken in either order: in every world both come to the same world, or both to none
  pub commute : (n : ℕ) (a b : Action) → ProperAction n a → ProperAction n b → touch a b ≡ false → (w : ℕ) → w < 2 ^ n
      → and_then (step_world n a w) (step_world n b) ≡ and_then (step_world n b w) (step_world n a)
  -- "The exchange statement is to be proved again with this wording": demand 3, whose exchanges go by `touch`
  pub exchange : Demand3
