use Rattle.std.proofs.Common.{◌∙◌}
use Rattle.std.proofs.lemmas.List.{get_or-replicate}
use Rattle.pfs_script.specs.ReaderState.{no_session}
use Rattle.pfs_script.proofs.courses.no_sessions.Goals as goal

pub returns-clause-none : goal.returns-clause-none
returns-clause-none c number h = get_or-replicate 65 number c.no_session.result no_session h ∙ c.no_session.ensures
