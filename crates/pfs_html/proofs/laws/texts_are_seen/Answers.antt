use Rattle.pfs_html.proofs.EscapeLaws.{all_seen}
use Rattle.pfs_html.proofs.laws.texts_are_seen.Goals as goal

pub returns : goal.returns
returns c = all_seen
