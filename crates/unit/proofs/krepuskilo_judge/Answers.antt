-- `krepuskilo_judge` meets its contract: the answer of `judge` in numbers, or 255. Assumes nothing.
use borrow.Author.Tests.{lt-ltb, le-ltb}
use Rattle.sheet.proofs.laws.base.Bools.{cond_true}
use Rattle.unit.proofs.ReplyCases.{byte, numbers, judge_told}
use Rattle.unit.proofs.krepuskilo_judge.Goals as goal

pub returns-then-info-lt4 : goal.returns-then-info-lt4
returns-then-info-lt4 c = let e = lt-ltb _ _ c.if-info-lt4.true in
    record {
      value = cond_true _ _ e;
      info_after = cond_true _ _ e;
    }

pub returns : goal.returns
returns c =
    let e = le-ltb _ _ c.if-info-lt4.false in
    let same = judge_told _ _ _ c.judge.ensures c.answer_reply-reply.ensures in
    record {
      value = byte e _ _ same;
      info_after = numbers e _ _ same _ _ c.write_info.ensures;
    }
