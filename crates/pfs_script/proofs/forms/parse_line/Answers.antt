use Rattle.std.proofs.Common.{sym, ◌∙◌}
use Rattle.pfs_script.proofs.FormLemmas.{words_have_kind}
use Rattle.pfs_script.proofs.forms.parse_line.Goals as goal

pub returns-in-Some-clause-kind : goal.returns-in-Some-clause-kind
returns-in-Some-clause-kind c = words_have_kind c.computed_kind.ensures c.args.bytes.now c.in-Some.form (sym c.in-Some.is ∙ c.parse_words.ensures)
