use Rattle.std.proofs.Common.{◌≡◌, ◌≤◌, count_by}
use Rattle.std.specs.List.{range_with_len}
use Rattle.pfs_setups.specs.SetupRows.{is_word_met}
use Rattle.pfs_setups.proofs.meeting.met_up_to.Given as goal

abbrev pub invariant-loop-word : goal.invariant-loop-word
invariant-loop-word l = (l.met ≡ count_by (is_word_met l.names l.containers.now.places.threads l.table l.tests l.flags) (range_with_len 0 l.word)) × (l.met ≤ l.word)
