use Rattle.pfs_html.proofs.EscapeLaws.{all_plain}
use Rattle.pfs_html.proofs.laws.texts_stay_texts.Goals as goal

pub returns : goal.returns
returns c = all_plain
