use Rattle.std.proofs.Common.{ap, arith, set, sym, true, Ok, ◌∙◌}
use Rattle.paper.proofs.Accepted.{accepted_facts}
use Rattle.paper.proofs.Chained.{stopped_said}
use Rattle.desk.specs.Standing.{rules_of, standing}
use Rattle.desk.proofs.Calls.{room}
use Rattle.desk.proofs.Keys.{key_accepted}
use Rattle.desk.proofs.Replies.{reply, by_reading, by_identifier, posts, presented_so}
use Rattle.desk.proofs.Session.present.Goals as goal

pub returns-in_err-read : goal.returns-in_err-read
returns-in_err-read c =
    let s = c.args.self.now in
    presented_so s _ c.requires (record { answer = c.from_residual.result; session = s })
    (ap (λ a. reply a (standing s)) (stopped_said _ _ c.from_residual.ensures) ∙ by_reading (standing s) _ _ c.in_err-read.ensures)

pub returns-in_err-unless_used : goal.returns-in_err-unless_used
returns-in_err-unless_used c =
    let s = c.args.self.now in
    presented_so s _ c.requires (record { answer = c.from_residual-in_err-unless_used.result; session = s })
    (ap (λ a. reply a (standing s)) (stopped_said _ _ c.from_residual-in_err-unless_used.ensures)
    ∙ by_identifier (standing s) _ c.in_ok-read.ensures (c.key-key.ensures.0 ∙ key_accepted (rules_of s) _ (sym c.in_ok-read.ensures)) _ c.in_err-unless_used.ensures)

pub post-requires : goal.post-requires
post-requires c =
    record { file_len_bound = (accepted_facts (rules_of c.args.self.now) _ (sym c.in_ok-read.ensures)).short; by_index = room c.requires }

pub returns : goal.returns
returns c =
    let s = c.args.self.now in
    presented_so s _ c.requires
    (record { answer = Ok tt; session = record { rules = s.rules; cells = c.post.new.cells; used = set s.used c.key-key.result true } })
    (posts (standing s) _ c.in_ok-read.ensures (c.key-key.ensures.0 ∙ key_accepted (rules_of s) _ (sym c.in_ok-read.ensures)) c.in_ok-unless_used.ensures c.post.ensures)
