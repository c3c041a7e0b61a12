use Rattle.std.proofs.Common.{arith, length, ◌++◌, ◌∙◌, ◌≡◌}
use Rattle.paper.specs.Fields.{field}
use Rattle.paper.specs.Writing.{spelled}
use Rattle.writing.proofs.Laying.{Wrote, start, on, filled}
use Rattle.extract.specs.Header.{destination_for}
use Rattle.extract.proofs.Turned.{header_parts}
use Rattle.extract.proofs.header.write.Goals as goal
use Rattle.extract.proofs.header.write.Goals.{After-text-first}

pub text-date-requires : goal.text-date-requires
unfolding spelled
text-date-requires c = omega arith

pub text-first-requires : goal.text-first-requires
unfolding spelled
text-first-requires c = omega arith

-- positions 1-40 are written
half : (c : After-text-first) → (c.text-first.result ≡ 40) × (length c.text-first.new.out ≡ 94) × (length c.args.header.now ≡ 94)
unfolding spelled
half c = (omega arith, omega arith, omega arith)

half_wrote : (c : After-text-first) → let a = c.args in let h = a.header.now in
    Wrote 0 (field h 1 3 ++ destination_for a.currency a.entity ++ field h 4 13 ++ field h 24 40) a.dst.now c.text-first.new.out c.text-first.result
half_wrote c =
    let a = c.args in
    let h = a.header.now in
    let kinds = on (start (omega arith)) (field h 1 3) (rw c.part.ensures.0 at c.text-for_entity.ensures) in
    let fors = on kinds (destination_for a.currency a.entity) c.destination-origin.ensures in
    let froms = on fors (field h 4 13) (rw c.part-2.ensures.0 at c.text-date.ensures) in
    on froms (field h 24 40) (rw c.part-3.ensures.0 at c.text-first.ensures)

pub returns : goal.returns
returns c =
    let a = c.args in
    let h = a.header.now in
    let names = on (half_wrote (goal.at.returns c).After-text-first) (field h 64 86) (rw c.part-4.ensures.0 at c.text-second.ensures) in
    let both = on names (field h 41 63) (rw c.part-5.ensures.0 at c.text-last.ensures) in
    let all = on both (field h 87 94) (rw c.part-6.ensures.0 at c.text.ensures) in
    filled all (omega (arith, half (goal.at.returns c).After-text-first, c.requires.room)) ∙ header_parts a.currency a.entity h

pub text-second-requires : goal.text-second-requires
text-second-requires c = omega (arith, half (goal.at.text-second-requires c).After-text-first)

pub text-last-requires : goal.text-last-requires
text-last-requires c = omega (arith, half (goal.at.text-last-requires c).After-text-first)

pub text-requires : goal.text-requires
text-requires c = omega (arith, half (goal.at.text-requires c).After-text-first)
