use Rattle.std.proofs.Common.{◌≡◌, drop}
use Rattle.std.specs.Cmp.Lexicographic.{pointwise}
use Rattle.pfs_view.specs.Scripts.{fits_block}
use Rattle.pfs_view.proofs.scripts.fit_blocks.Given as goal

abbrev pub invariant-loop-place : goal.invariant-loop-place
invariant-loop-place l = pointwise fits_block (drop l.place l.blocks) (drop l.place l.reports) ≡ pointwise fits_block l.blocks l.reports
