use Rattle.std.proofs.Common.{sym, ◌∙◌}
use Rattle.pfs_script.proofs.NumberLemmas.{number_read}
use Rattle.pfs_script.proofs.numerals.parse_number.Goals as goal

pub returns-then-is_numeral : goal.returns-then-is_numeral
returns-then-is_numeral c = number_read c.args.word.now c.read_u64.result (sym c.is_numeral.ensures ∙ c.if-is_numeral.true) c.read_u64.ensures
