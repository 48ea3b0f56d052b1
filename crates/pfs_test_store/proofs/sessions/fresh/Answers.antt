use Rattle.std.proofs.Common.{◌∙◌, Some, ap, sym}
use Rattle.pfs_test_store.proofs.sessions.fresh.Goals as goal

pub returns-clause-words : goal.returns-clause-words
returns-clause-words c = c.in_ok-rows.ensures.words ∙ ap (λ a. Some a.words) (sym c.in_ok-admin.ensures)
