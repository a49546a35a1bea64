-- `plan::search_with` meets its contract. Assumes nothing.
use mathlib.Core.Path.{sym, ◌∙◌}
use native.Mathlib.Omega.{arith}
use borrow.Author.Rules.{rules}
use Rattle.sheet.specs.inner.Decoded.{statement_in}
use Rattle.sheet.proofs.laws.reader.ReadSheets.{filled, refused_says, accepted_says}
use Rattle.plan.proofs.laws.searches.SearchRefusals.{search_fault, search_within, search_8}
use Rattle.plan.proofs.search_with.Goals as goal

pub returns-then-limit-gt8 : goal.returns-then-limit-gt8
returns-then-limit-gt8 c =
    c.refuse_search-then-limit-gt8.ensures ∙ sym (search_8 _ _
    (accepted_says _ _ c.decode.ensures.judgement c.in-Ok.is) _ c.if-limit-gt8.true)

pub search_sheet-requires : goal.search_sheet-requires
search_sheet-requires c =
    let h = filled _ _ c.decode.ensures.judgement c.in-Ok.is c.in-Ok.ensures.few (search rules) in
    record {
      filled = h;
      limit_bound = omega (arith, c.if-limit-gt8.false);
    }

pub returns-in-Err : goal.returns-in-Err
returns-in-Err c =
    c.refuse_search.ensures ∙ sym (search_fault _ _ _ _
    (refused_says _ _ c.decode.ensures.judgement c.in-Err.is))

pub returns-else-limit-gt8 : goal.returns-else-limit-gt8
unfolding statement_in
returns-else-limit-gt8 c =
    c.search_sheet.ensures ∙ sym (search_within _ _
    (accepted_says _ _ c.decode.ensures.judgement c.in-Ok.is) _
    (omega (arith, c.if-limit-gt8.false)))
