-- `krepuskilo_search_with` meets its contract: the answer of `search_with` in numbers and its plan, or 255. Assumes nothing.
use mathlib.Core.Path.{refl, sym, ◌∙◌}
use mathlib.Core.Bool.{true≢false}
use Rattle.sheet.proofs.laws.base.Bools.{cond_true}
use Rattle.unit.proofs.ReplyCases.{lacks_first, lacks_info, lacks_none, search_byte, search_plan, search_info}
use Rattle.unit.proofs.krepuskilo_search_with.Goals as goal

pub returns-then-plan-lt8 : goal.returns-then-plan-lt8
returns-then-plan-lt8 c =
    let a = c.args in
    let e = lacks_first 8 a.plan.now a.info.now c.if-plan-lt8.true in
    record {
      value = cond_true _ _ e;
      plan_after = cond_true _ _ e;
      info_after = cond_true _ _ e;
      memory_unchanged = λ h. refl;
    }

pub returns-then-info-lt4 : goal.returns-then-info-lt4
returns-then-info-lt4 c =
    let a = c.args in
    let e = lacks_info 8 a.plan.now a.info.now c.if-plan-lt8.false c.if-info-lt4.true in
    record {
      value = cond_true _ _ e;
      plan_after = cond_true _ _ e;
      info_after = cond_true _ _ e;
      memory_unchanged = λ h. refl;
    }

pub returns : goal.returns
returns c =
    let a = c.args in
    let e = lacks_none 8 a.plan.now a.info.now c.if-plan-lt8.false c.if-info-lt4.false in
    let is = c.search_with-searched.ensures in
    let k = c.write_search.ensures in record {
      value = search_byte e _ _ _ is _ k.value;
      plan_after = search_plan e _ _ _ is _ _ k.plan_after;
      info_after = search_info e _ _ _ is _ _ k.info_after;
      memory_unchanged = λ h. absurd (true≢false (sym h ∙ e));
    }
