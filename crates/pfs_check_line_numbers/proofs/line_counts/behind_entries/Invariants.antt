use Rattle.std.proofs.Common.{◌-◌, ◌≤◌, take, drop}
use Rattle.pfs_check_line_numbers.specs.LineCounts.{IsLineOf}
use Rattle.pfs_check_line_numbers.proofs.line_counts.behind_entries.Given as goal

abbrev pub invariant-loop-at : goal.invariant-loop-at
invariant-loop-at l = record {
  same : IsLineOf l.spot (take (l.count - l.at) (drop l.at l.entries)) l.answers (record { line = l.line; place = 0 })
      (take l.count l.entries);
  few : l.spot.place ≤ l.at;
}
