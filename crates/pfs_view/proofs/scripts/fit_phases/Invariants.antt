use Rattle.std.proofs.Common.{◌≡◌, drop}
use Rattle.std.specs.Cmp.Lexicographic.{pointwise}
use Rattle.pfs_view.specs.Scripts.{fits_phase}
use Rattle.pfs_view.proofs.scripts.fit_phases.Given as goal

abbrev pub invariant-loop-place : goal.invariant-loop-place
invariant-loop-place l = pointwise fits_phase (drop l.place l.phases) (drop l.place l.reports) ≡ pointwise fits_phase l.phases l.reports
