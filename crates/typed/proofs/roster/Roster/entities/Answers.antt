use Rattle.std.proofs.Common.{length, rules, ◌<◌, ◌≤◌}
use Rattle.typed.specs.Rosters.{entities_in}
use Rattle.typed.proofs.Steps.{put_none, put_turn, skip_turn, put_end}
use Rattle.typed.proofs.roster.Roster.entities.Goals as goal
use Rattle.typed.proofs.roster.Roster.entities.Goals.{then-listed, else-listed}

pub loop-e-init : goal.loop-e-init
loop-e-init c = put_none c.args.self.listed c.args.out.now

pub loop-e-preserved : goal.loop-e-preserved
loop-e-preserved c =
    let marks = c.args.self.listed in
    let before = c.args.out.now in
    let l = c.loop-e in
    let here : l.e < length marks = search rules in
    let room : l.count < length before = search (rules, l.invariant.0) in
    elim c.if-listed.branch [
      | then-listed w ↦ rw (w.places-is, w.count-is) (put_turn marks before l.places l.count l.e l.invariant here w.if-listed.true room)
      | else-listed w ↦ rw (w.places-is, w.count-is) (skip_turn marks before l.places l.count l.e l.invariant here w.if-listed.false)
    ]

pub returns : goal.returns
unfolding entities_in
returns c =
    let marks = c.args.self.listed in
    let l = c.loop-e in
    let all : length marks ≤ l.e = search rules in
    put_end marks c.args.out.now l.places l.count l.e l.invariant all
