-- `krepuskilo_search` meets its contract: the answer of `search` in numbers and its plan, or 255. Assumes nothing.
use Rattle.unit.proofs.ReplyCases.{lacks_first, lacks_info, lacks_none, search_byte, search_plan, search_info, unwritten}
use Rattle.unit.proofs.krepuskilo_search.Goals as goal

pub returns : goal.returns
returns c =
    let a = c.args in
    let e = lacks_none 8 a.plan.now a.info.now c.if-plan-lt8.false c.if-info-lt4.false in
    let is = c.search-searched.ensures in
    let k = c.write_search.ensures in
    record {
      value = search_byte e _ _ _ is _ k.value;
      plan_after = search_plan e _ _ _ is _ _ k.plan_after;
      info_after = search_info e _ _ _ is _ _ k.info_after;
    }

pub returns-then-plan-lt8 : goal.returns-then-plan-lt8
returns-then-plan-lt8 c =
    let a = c.args in
    let both =
    unwritten (lacks_first 8 a.plan.now a.info.now c.if-plan-lt8.true) _ _ _ in record
    { value = both.0; plan_after = both.1.0; info_after = both.1.1 }

pub returns-then-info-lt4 : goal.returns-then-info-lt4
returns-then-info-lt4 c =
    let a = c.args in
    let both =
    unwritten (lacks_info 8 a.plan.now a.info.now c.if-plan-lt8.false c.if-info-lt4.true) _ _ _ in record
    { value = both.0; plan_after = both.1.0; info_after = both.1.1 }
