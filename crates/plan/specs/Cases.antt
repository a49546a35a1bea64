-- The enums of this crate's answers, each case with document 01's number and values.
use Rattle.std.specs.Prelude.{ℕ}
use Rattle.sheet.specs.Calls as calls
use Rattle.plan.specs.declared.Verdict as case
use Rattle.plan.specs.declared.Verdict.TheVariants as ran
use Rattle.plan.specs.declared.Kind.{Kind}
use Rattle.plan.specs.declared.Kind.TheVariants as kind
use Rattle.plan.specs.Run.{Verdict, reached, short, stopped, full}
use Rattle.plan.specs.Search.{Answer, found, full_at, nothing}

-- ---- from document 01's words to the enum
-- how a run ends: a verdict, or a refusal with its number and position ("a start's 20 or 21 refuses the run or search", after a fault of
-- the sheet and 23 for rows)
pub data RunEnd : Type 0 where
  ended : Verdict → RunEnd
  refused : ℕ → ℕ → RunEnd

-- "Verdicts: reached, short (all moves taken, some world of the last table not in the goal), stopped (place, and 24 or 25), full (place)"
abbrev pub verdict_case : RunEnd → case.Verdict
verdict_case (RunEnd.ended reached) = ran.Reached
verdict_case (RunEnd.ended short) = ran.Short
verdict_case (RunEnd.ended (stopped place number)) = ran.Stopped place number
verdict_case (RunEnd.ended (full place)) = ran.Full place
verdict_case (RunEnd.refused number position) = ran.Refused number position

-- how a search ends: an answer, or a refusal as of a run, with 8 for its limit in place of 23
pub data SearchEnd : Type 0 where
  answered : Answer → SearchEnd
  refused : ℕ → ℕ → SearchEnd

-- "The answer is the first plan that is reached, or the first that is full, with its place, if it comes earlier, or none"
abbrev pub kind_case : SearchEnd → Kind
kind_case (SearchEnd.answered (found plan)) = kind.Reached
kind_case (SearchEnd.answered (full_at plan place)) = kind.Full place
kind_case (SearchEnd.answered nothing) = kind.Nothing
kind_case (SearchEnd.refused number position) = kind.Refused number position

-- ---- from the enum to document 01's number and values
-- "a start's 20 or 21 refuses the run or search": a refusal with its number and position; every verdict of a plan is accepted
unfoldable pub verdict_answer : case.Verdict → calls.Answer
verdict_answer ran.Reached = calls.Accepted
verdict_answer ran.Short = calls.Accepted
verdict_answer (ran.Stopped place number) = calls.Accepted
verdict_answer (ran.Full place) = calls.Accepted
verdict_answer (ran.Refused number position) = calls.Refused number position

-- "stopped (place, ..), full (place)"; 0 for the others
unfoldable pub verdict_place : case.Verdict → ℕ
verdict_place ran.Reached = 0
verdict_place ran.Short = 0
verdict_place (ran.Stopped place number) = place
verdict_place (ran.Full place) = place
verdict_place (ran.Refused number position) = 0

-- "stopped (.., and 24 or 25)"; 0 for the others
unfoldable pub verdict_number : case.Verdict → ℕ
verdict_number ran.Reached = 0
verdict_number ran.Short = 0
verdict_number (ran.Stopped place number) = number
verdict_number (ran.Full place) = 0
verdict_number (ran.Refused number position) = 0

-- "a start's 20 or 21 refuses the run or search": a refusal with its number and position; every answer, also none, is accepted
unfoldable pub kind_answer : Kind → calls.Answer
kind_answer kind.Reached = calls.Accepted
kind_answer (kind.Full place) = calls.Accepted
kind_answer kind.Nothing = calls.Accepted
kind_answer (kind.Refused number position) = calls.Refused number position

-- "the first that is full, with its place"; 0 for the others
unfoldable pub kind_place : Kind → ℕ
kind_place kind.Reached = 0
kind_place (kind.Full place) = place
kind_place kind.Nothing = 0
kind_place (kind.Refused number position) = 0
