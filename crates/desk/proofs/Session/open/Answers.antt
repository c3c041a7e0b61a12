use Rattle.desk.proofs.Replies.{opened_whole, opened_so}
use Rattle.desk.proofs.Session.open.Goals as goal

pub returns : goal.returns
returns c =
    opened_so _ _ _ (record { answer = c.open-opened.result.answer; session = c.new.result })
    (opened_whole _ _ _ c.open-opened.result c.open-opened.ensures c.new.ensures)
