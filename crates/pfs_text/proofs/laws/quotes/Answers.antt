use Rattle.pfs_text.proofs.QuoteLaws.{quotes_are_exact}
use Rattle.pfs_text.proofs.laws.quotes.Goals as goal

pub returns : goal.returns
returns c = quotes_are_exact
