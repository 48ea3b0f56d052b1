use Rattle.std.proofs.lemmas.Fmt.{decimal_is_IsNumeral}
use Rattle.pfs_text.proofs.laws.numbers.Goals as goal

pub returns : goal.returns
returns c = decimal_is_IsNumeral
