use Rattle.std.proofs.Common.{ap, arith, refl, rules, subst, sym, true, ◌<◌, ◌∙◌, ◌≡◌}
use Rattle.std.proofs.lemmas.Result.{err_from_is_err_and}
use Rattle.paper.specs.Checks.{fine, ◌also◌}
use Rattle.paper.specs.Kinds.{known}
use Rattle.paper.specs.Records.{number_in, individual}
use Rattle.paper.specs.Reading.{fields, record_at}
use Rattle.verdicts.specs.Verdicts.{check_of, under}
use Rattle.entries.specs.declared.individual.Entry.{Entry}
use Rattle.entries.specs.Judging.{entry_of}
use Rattle.paper.proofs.Counters.{exceeds}
use Rattle.entries.proofs.Chains.{code_known}
use Rattle.state.specs.States.{meant, NumberSays}
use Rattle.state.proofs.Numbering.{below_own}
use Rattle.state.proofs.Steps.{goes_on, stops_as, is_new, is_old, after_advances}
use Rattle.state.proofs.Entering.{entry_small}
use Rattle.state.proofs.individual.step.Goals as goal
use Rattle.state.proofs.individual.step.Goals.{In_ok-entry}

-- the numbers that were handed on
handed : (c : In_ok-entry) → c.in_ok-entry.entry ≡ entry_of c.record_at-rec.result.now
handed c = c.in_ok-entry.ensures.hands

known_code : (c : In_ok-entry) → known c.in_ok-entry.entry.code ≡ true
unfolding check_of entry_of
known_code c =
    ap known (ap (λ (e : Entry). e.code) (handed c)) ∙ code_known _ _ _ _ (sym c.in_ok-entry.ensures.says)

-- all but the number's newness
good_so : (c : In_ok-entry) → let a = c.args in
    individual (under a.terms) (record_at a.file.now a.state.header) a.state.counter (record_at a.file.now a.place) ≡ fine
unfolding check_of
good_so c =
    simp (sym c.record_at-rec.ensures.0, sym c.record_at-header.ensures.0, sym c.in_ok-entry.ensures.says)

-- its number
number_so : (c : In_ok-entry) → c.in_ok-entry.entry.counter ≡ number_in (record_at c.args.file.now c.args.place)
unfolding entry_of
number_so c = ap (λ (e : Entry). e.counter) (handed c) ∙ ap number_in c.record_at-rec.ensures.0

-- above the last of its batch
rises_so : (c : In_ok-entry) → c.args.state.counter < number_in (record_at c.args.file.now c.args.place)
rises_so c = exceeds _ _ _ _ (good_so c)

pub judge-requires-2 : goal.judge-requires-2
judge-requires-2 c =
    record { file_len_bound = (c.requires.short, c.requires.inside, omega (arith, c.requires.stands)); place_value = (rw c.requires.told refl, number_so c); by_index = λ n h. below_own (number_so c) (rises_so c) (c.requires.known.below n h); fresh_to = c.requires.known.fresh }

pub after-requires : goal.after-requires
after-requires c =
    record { place_bound = search (rules, c.requires.room); destination_bound = entry_small _ _ (handed (goal.at.after-requires c).In_ok-entry) c.record_at-rec.ensures.1 }

-- a number that is new
pub returns : goal.returns
unfolding NumberSays
returns c =
    let said = c.in_ok-fresh.ensures in
    goes_on _ c.requires (is_new c.requires _ (good_so (goal.at.returns c).In_ok-entry) said.0)
    (rw c.after.ensures (after_advances c.requires _ (record {
      numbers = λ _. rw (sym c.record_at-rec.ensures.0) (handed (goal.at.returns c).In_ok-entry, known_code (goal.at.returns c).In_ok-entry);
      rises = λ _. rises_so (goal.at.returns c).In_ok-entry;
      flag = λ _. rw (sym c.record_at-rec.ensures.0) c.flagged-flagged.ensures;
    }) (rw (number_so (goal.at.returns c).In_ok-entry) at said.1)))

-- one that stood before
pub returns-in_err-fresh : goal.returns-in_err-fresh
unfolding NumberSays
returns-in_err-fresh c =
    let said = c.in_err-fresh.ensures in
    stops_as _ c.requires _ _ c.from_residual-in_err-fresh.ensures (rw said.1 (is_old c.requires _ (good_so (goal.at.returns-in_err-fresh c).In_ok-entry) said.0))

pub returns-in_err-entry : goal.returns-in_err-entry
unfolding check_of meant fields ◌also◌
returns-in_err-entry c =
    stops_as _ c.requires _ _ c.from_residual.ensures (simp (sym c.record_at-rec.ensures.0, sym c.record_at-header.ensures.0, sym c.in_err-entry.ensures.says))
