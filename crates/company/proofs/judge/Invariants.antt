use Rattle.std.proofs.Common.{drop, ◌+◌, ◌≡◌}
use Rattle.company.specs.Files.{details_fault, amounts_in}
use Rattle.company.specs.Sums.{kept}
use Rattle.company.proofs.Passing.{front}
use Rattle.company.proofs.judge.Given as goal

abbrev pub invariant-loop-place : goal.invariant-loop-place
invariant-loop-place l = record {
  sum : kept l.total ≡ l.total;
  faults : details_fault l.currency l.lo l.from (front l.details l.file) ≡ details_fault l.currency l.lo (l.from + l.place) (drop l.place (front l.details l.file));
  amounts : kept (l.sum + amounts_in (front l.details l.file)) ≡ kept (l.total + amounts_in (drop l.place (front l.details l.file)));
}
