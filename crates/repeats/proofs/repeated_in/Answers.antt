use Rattle.std.proofs.Common.{ap, sym, ◌∙◌, ◌*◌, ◌<◌, ◌≡◌, length}
use Rattle.paper.specs.Kinds.{is_individual, kind_of}
use Rattle.paper.specs.Records.{number_in}
use Rattle.paper.specs.Reading.{record_at}
use Rattle.repeats.proofs.Pages.{bit_for}
use Rattle.repeats.proofs.Looking.{Ready, looking, ready_there, ready_taken, looks_on, bit_bound, looks_again, looks_added, looked_up}
use Rattle.repeats.proofs.repeated_in.Goals as goal
use Rattle.repeats.proofs.repeated_in.Goals.{After-is_individual, Joined-pages-mine-eq0, then-pages-mine-eq0, else-pages-mine-eq0, then-is_individual+then-has+else-place-from, then-is_individual+else-has, else-is_individual}

-- what the test for an individual record tells
sort : (c : After-is_individual) → c.is_individual.result ≡ is_individual (kind_of (record_at c.args.file.now c.loop-place.place))
sort c = c.is_individual.ensures ∙ ap is_individual (c.kind.ensures ∙ ap kind_of c.record_at-rec.ensures.0)

-- the page is taken, whichever way it came
ready : (c : Joined-pages-mine-eq0)
    → Ready c.args.file.now c.args.pages.now c.args.page c.if-pages-mine-eq0.pages c.loop-place.seen c.if-pages-mine-eq0.taken c.loop-place.place c.number-n.result
ready c = elim c.if-pages-mine-eq0.branch [
  | then-pages-mine-eq0 w ↦ rw (w.pages-is, w.taken-is) (ready_taken c.loop-place.invariant c.number-n.ensures.1 c.loop-place-test.true w.if-pages-mine-eq0.true)
  | else-pages-mine-eq0 w ↦ rw (w.pages-is, w.taken-is) (ready_there c.loop-place.invariant w.if-pages-mine-eq0.false)
]

-- its bit is in the set
in_set : (c : Joined-pages-mine-eq0) → bit_for c.args.page c.if-pages-mine-eq0.pages c.number-n.result < length c.loop-place.seen * 8
in_set c = bit_bound c.loop-place.invariant (ready c) c.loop-place-test.true

pub loop-place-init : goal.loop-place-init
loop-place-init c = looking _ _ c.requires.room_for

pub has-requires : goal.has-requires
has-requires c = in_set (goal.at.has-requires c).Joined-pages-mine-eq0

pub returns-then-place-from : goal.returns-then-place-from
returns-then-place-from c =
    let p = goal.at.returns-then-place-from c in
    looked_up c.loop-place.invariant (ready p.Joined-pages-mine-eq0) (sym (sort p.After-is_individual) ∙ c.if-is_individual.true)
    (c.number-n.ensures.0 ∙ ap number_in c.record_at-rec.ensures.0) c.number-n.ensures.1 (sym c.has.ensures ∙ c.if-has.true) c.loop-place-test.true c.if-place-from.true

pub add-requires : goal.add-requires
add-requires c = (in_set (goal.at.add-requires c).Joined-pages-mine-eq0, sym c.has.ensures ∙ c.if-has.false)

pub loop-place-preserved : goal.loop-place-preserved
loop-place-preserved c =
    let i = c.loop-place.invariant in
    let u = c.loop-place-test.true in
    let s = sort (goal.at.loop-place-preserved c).After-is_individual in
    let read = ap number_in c.record_at-rec.ensures.0 in
    elim c.if-is_individual.branch [
      | then-is_individual+then-has+else-place-from w ↦
          let r : Ready c.args.file.now c.args.pages.now c.args.page w.if-pages-mine-eq0.pages c.loop-place.seen w.if-pages-mine-eq0.taken c.loop-place.place w.number-n.result =
          elim w.if-pages-mine-eq0.branch [
            | then-pages-mine-eq0 w' ↦ rw (w'.pages-is, w'.taken-is) (ready_taken i w.number-n.ensures.1 u w'.if-pages-mine-eq0.true)
            | else-pages-mine-eq0 w' ↦ rw (w'.pages-is, w'.taken-is) (ready_there i w'.if-pages-mine-eq0.false)
          ] in
          rw (w.pages-is, w.seen-is, w.taken-is)
          (looks_again i r (sym s ∙ w.if-is_individual.true) (w.number-n.ensures.0 ∙ read) w.number-n.ensures.1 (sym w.has.ensures ∙ w.if-has.true) w.if-place-from.false c.requires.file_len_bound.1)
      | then-is_individual+else-has w ↦
          let r : Ready c.args.file.now c.args.pages.now c.args.page w.if-pages-mine-eq0.pages c.loop-place.seen w.if-pages-mine-eq0.taken c.loop-place.place w.number-n.result =
          elim w.if-pages-mine-eq0.branch [
            | then-pages-mine-eq0 w' ↦ rw (w'.pages-is, w'.taken-is) (ready_taken i w.number-n.ensures.1 u w'.if-pages-mine-eq0.true)
            | else-pages-mine-eq0 w' ↦ rw (w'.pages-is, w'.taken-is) (ready_there i w'.if-pages-mine-eq0.false)
          ] in
          rw (w.pages-is, w.seen-is, w.taken-is)
          (looks_added i r (sym s ∙ w.if-is_individual.true) (w.number-n.ensures.0 ∙ read) w.number-n.ensures.1 (sym w.has.ensures ∙ w.if-has.false) u _ w.add.auto.seen w.add.ensures)
      | else-is_individual w ↦ rw (w.pages-is, w.seen-is, w.taken-is) (looks_on i u (sym s ∙ w.if-is_individual.false))
    ]
