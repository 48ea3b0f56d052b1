use Rattle.std.proofs.Common.{◌≡◌, ℕ, ◌+◌, ◌-◌, drop, take}
use Rattle.pfs_model.specs.Chains.{times}
use Rattle.pfs_check_setup.specs.DueSets.{is_set_of}
use Rattle.pfs_check_setup.specs.PrintedActions.{count_in}
use Rattle.pfs_check_setup.proofs.dues.count_sets.Given as goal

abbrev pub invariant-loop-place : goal.invariant-loop-place
invariant-loop-place l = (word : ℕ)
    → times (is_set_of word) (take (l.end - l.place) (drop l.place l.entries.entries)) + count_in l.counts word
    ≡ times (is_set_of word) (take (l.end - l.fn.order.start) (drop l.fn.order.start l.entries.entries)) + count_in l.fn.counts word
