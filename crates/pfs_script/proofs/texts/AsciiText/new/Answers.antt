use Rattle.pfs_script.proofs.CleanBytes.{clean_utf8}
use Rattle.pfs_script.proofs.texts.AsciiText.new.Goals as goal

pub unreachable-requires : goal.unreachable-requires
unreachable-requires c = c.in-Err.ensures.cases.0 (clean_utf8 c.args.bytes.now c.requires)
