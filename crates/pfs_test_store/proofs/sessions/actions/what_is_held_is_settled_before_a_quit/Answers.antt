-- No row is in hand behind a pause, nor behind a reading.
use Rattle.std.proofs.Common.{◌∙◌}
use Rattle.pfs_test_store.proofs.sessions.actions.what_is_held_is_settled_before_a_quit.Goals as goal

pub counted-requires-2-clause-away : goal.counted-requires-2-clause-away
counted-requires-2-clause-away g c =
    c.counted.ensures.hand 2183 ∙ (c.pause.ensures.used.hand 2183 ∙ (c.quit.ensures.used.hand 2183 ∙ c.waiting.ensures.hand 2183))
