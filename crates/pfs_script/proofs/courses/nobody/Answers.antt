use Rattle.std.proofs.Common.{false}
use Rattle.std.proofs.lemmas.List.{get_or-replicate}
use Rattle.pfs_script.proofs.courses.nobody.Goals as goal

pub returns-clause-none : goal.returns-clause-none
returns-clause-none c number h = get_or-replicate 65 number false false h
