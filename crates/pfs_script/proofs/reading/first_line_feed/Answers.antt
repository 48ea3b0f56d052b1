use Rattle.std.specs.Prelude.{◌==◌}
use Rattle.pfs_script.proofs.FirstLines.{first_place}
use Rattle.pfs_script.proofs.reading.first_line_feed.Goals as goal

pub returns : goal.returns
returns c = first_place (λ byte. byte == 10) c.args.bytes.now c.memchr.result c.memchr.ensures
