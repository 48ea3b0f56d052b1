use Rattle.std.proofs.Common.{refl, ap}
use Rattle.std.specs.List.{fold}
use Rattle.pfs_script.specs.Drafts.{with_owner}
use Rattle.pfs_script.proofs.NextFinds.{none_finds}
use Rattle.pfs_script.proofs.reading.Reader.begin.Goals as goal

pub returns : goal.returns
returns c = record {
  count = refl;
  drafted = λ sense lines alike. c.none-2.ensures.phases sense lines;
  owners = λ names. ap (λ all. fold with_owner names all) c.none-2.ensures.owners;
  ahead = λ none. refl;
  place = c.start.ensures;
  head = c.in_ok-begin.ensures;
  finds = none_finds c.none.result c.none.ensures.tables c.none.ensures.digests;
  settled = tt;
}
