use Rattle.std.proofs.Common.{◌+◌}
use Rattle.std.proofs.lemmas.List.{take_rest}
use Rattle.pfs_script.proofs.CleanBytes.{clean_drop}
use Rattle.pfs_script.proofs.words.split_word.Goals as goal

pub returns-in-Some-clause-clean : goal.returns-in-Some-clause-clean
returns-in-Some-clause-clean c h = rw take_rest (clean_drop (c.in-Some.at + 1) c.args.bytes.now h)
