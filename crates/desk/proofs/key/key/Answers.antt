use Rattle.std.proofs.Common.{arith, sym, true, ◌∙◌, ◌≡◌}
use Rattle.paper.specs.Fields.{field, identifier_field}
use Rattle.paper.specs.Sessions.{origin_of, identifier_of, key_of}
use Rattle.desk.proofs.Keys.{too_short, no_identifier, key_of_lem, byte_34}
use Rattle.desk.proofs.key.key.Goals as goal
use Rattle.desk.proofs.key.key.Goals.{Else-not-identifier}

pub returns-then-file-lt-LENGTH : goal.returns-then-file-lt-LENGTH
returns-then-file-lt-LENGTH c = (too_short c.args.file.now c.if-file-lt-LENGTH.true, omega arith)

pub returns-then-not-identifier : goal.returns-then-not-identifier
returns-then-not-identifier c =
    let i = c.identifier in
    (no_identifier c.args.file.now c.if-file-lt-LENGTH.false (sym i.ensures ∙ c.if-not-identifier.true), omega arith)

-- position 34 is an identifier
there : (c : Else-not-identifier) → identifier_field (field c.args.file.now 34 34) ≡ true
there c = sym c.identifier.ensures ∙ c.if-not-identifier.false

pub identifier-requires-2 : goal.identifier-requires-2
identifier-requires-2 c =
    byte_34 c.args.file.now c.if-file-lt-LENGTH.false (there (goal.at.identifier-requires-2 c).Else-not-identifier)

pub returns : goal.returns
unfolding key_of origin_of identifier_of
returns c = (
  simp (c.identifier-2.ensures.0, c.entity-origin.ensures.0) (key_of_lem c.args.file.now c.if-file-lt-LENGTH.false (there (goal.at.returns c).Else-not-identifier)),
  omega (arith, c.identifier-2.ensures.1, c.entity-origin.ensures.1),
)
