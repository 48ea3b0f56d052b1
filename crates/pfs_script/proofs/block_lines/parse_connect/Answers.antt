use Rattle.std.proofs.Common.{sym}
use Rattle.pfs_script.proofs.CleanBytes.{name_clean}
use Rattle.pfs_script.proofs.block_lines.parse_connect.Goals as goal

pub new-requires : goal.new-requires
new-requires c = name_clean 32 c.split_word.result.0.now (sym c.if-is_name.ensures)

pub new-requires-then-is_name-2 : goal.new-requires-then-is_name-2
new-requires-then-is_name-2 c = name_clean 60 c.in_ok-host.host.now (sym c.if-is_name-2.ensures)
