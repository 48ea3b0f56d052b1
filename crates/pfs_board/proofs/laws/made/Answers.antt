use Rattle.std.proofs.Common.{◌≡◌, true}
use Rattle.pfs_board.specs.declared.view.Change.{Change}
use Rattle.pfs_board.proofs.VersionFacts.{each_made}
use Rattle.pfs_board.proofs.laws.made.Goals as goal

pub returns : goal.returns
returns c = λ made log once test. each_made (λ (p : Change). test p ≡ true) made log once
