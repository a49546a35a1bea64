-- The text of the program `check` at what document 01 shows, computed (`paper_output`), and each other last line. For `demand_1` in
-- proofs/Demands. Assumes nothing.
use mathlib.Core.Path.{◌≡◌, refl, ap, ap₂, ◌∙◌}
use mathlib.Core.List.{List, [], ◌∷◌}
use Prim.Native.Nat.{ℕ}
use native.Mathlib.Omega.{arith}
use Rattle.sheet.specs.Literals.{has, no_literal, mem, within, clash, consistent, join, flip, replace, single, sign, literal, contains}
use Rattle.sheet.specs.Literals.{members_from, members}
use Rattle.sheet.specs.Printed.{printed}
use Rattle.sheet.specs.Format.{sheet_of}
use Rattle.table.specs.Minimal.{put}
use Rattle.table.specs.Step.{missing, split, image, step_table}
use Rattle.table.specs.Picture.{units, unions, fold, primes, precedes, insert, sort_onto, sort, picture, size_of}
use Rattle.table.specs.Calls.{action_at}
use Rattle.table.proofs.laws.examples.BenchExamples.{paper, bench}
use Rattle.plan.specs.declared.Row.{Row}
use Rattle.plan.specs.declared.RunAnswer.{RunAnswer}
use Rattle.plan.specs.declared.Verdict.TheVariants.{Reached, Short, Stopped, Full, Refused}
use Rattle.plan.specs.Text.{ascii, decimal, clauses_text, row_text, rows_text, number_at, last_line, text_of, output_of}
use Rattle.plan.specs.Run.{actions_of, row_of, rows_from}
use Rattle.plan.specs.Calls.{verdict_of}
use Rattle.plan.specs.Demand3.{refused_verdict}
use Rattle.plan.proofs.laws.runs.CallRuns.{rows_call}
use Rattle.plan.proofs.laws.examples.PaperSheet.{first, given}

abbrev row : ℕ → ℕ → ℕ → Row
row place entries clauses = record { place = place; entries = entries; clauses = clauses }

-- the whole output of the shown sheet
pub shown : text_of Reached (row 0 3 4 ∷ row 1 2 3 ∷ row 2 1 3 ∷ []) ≡ ascii "place entries clauses\n0 3 4\n1 2 3\n2 1 3\nreached\n"
unfolding text_of refused_verdict last_line rows_text row_text clauses_text decimal
shown = refl

-- a full picture, and each other last line
pub full_picture_lem : text_of Short (row 0 128 257 ∷ []) ≡ ascii "place entries clauses\n0 128 -\nshort\n"
unfolding text_of refused_verdict last_line rows_text row_text clauses_text decimal
full_picture_lem = refl

pub stops : text_of (Stopped 1 24) (row 0 10 256 ∷ []) ≡ ascii "place entries clauses\n0 10 256\nstopped 24 at 1\n"
unfolding text_of refused_verdict last_line rows_text row_text clauses_text decimal number_at
stops = refl

pub is_full : text_of (Full 1) (row 0 1 0 ∷ []) ≡ ascii "place entries clauses\n0 1 0\nfull at 1\n"
unfolding text_of refused_verdict last_line rows_text row_text clauses_text decimal
is_full = refl

-- nothing but the refusal
pub is_refused : text_of (Refused 7 3711) (row 0 1 0 ∷ []) ≡ ascii "refused 7 at 3711\n"
unfolding text_of refused_verdict last_line decimal number_at
is_refused = refl

-- the largest number of 64 bits
pub largest : decimal 18446744073709551615 ≡ ascii "18446744073709551615"
unfolding decimal
largest = refl

-- ---- the sheet of document 01
abbrev paper_rows : List Row
paper_rows = row 0 3 4 ∷ row 1 2 3 ∷ row 2 1 3 ∷ []

-- its rows
paper_rows_lem : rows_from 128 0 (actions_of paper.problem paper.plan) first ≡ paper_rows
unfolding row_of actions_of action_at step_table split missing image put within join clash consistent flip literal single sign replace
    no_literal members members_from contains mem has units unions fold primes precedes insert sort_onto sort picture size_of
paper_rows_lem = refl

-- its whole output
pub paper_output : output_of (sheet_of printed) ≡ ascii "place entries clauses\n0 3 4\n1 2 3\n2 1 3\nreached\n"
unfolding output_of verdict_of text_of refused_verdict last_line rows_text row_text clauses_text decimal
paper_output = ap₂ text_of (ap (λ (r : RunAnswer). r.verdict) given)
    (rows_call printed paper bench.says 65 (omega arith) first bench.M1 ∙ paper_rows_lem)
