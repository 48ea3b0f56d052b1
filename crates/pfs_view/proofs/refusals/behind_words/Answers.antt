use Rattle.std.proofs.lemmas.Bool.Decides.{Decides-eqb}
use Rattle.std.proofs.lemmas.Slice.Eq.{strip_prefix_is}
use Rattle.pfs_view.proofs.RefusalReadings.{stripped}
use Rattle.pfs_view.proofs.refusals.behind_words.Goals as goal

pub returns : goal.returns
returns c = λ rest same.
    stripped c.args.text.now c.args.words.now rest c.strip_prefix.result (strip_prefix_is Decides-eqb c.args.text.now c.args.words.now c.strip_prefix.result c.strip_prefix.ensures.cases) same
