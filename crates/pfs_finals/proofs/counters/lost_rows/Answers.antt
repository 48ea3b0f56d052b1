use Rattle.std.proofs.Common.{sym, subst, ◌∙◌, take}
use Rattle.std.specs.Prelude.{All}
use Rattle.pfs_journal.specs.Reports.{IsLost}
use Rattle.pfs_finals.specs.Counters.{counters, lost_row}
use Rattle.pfs_finals.proofs.CounterNames.{all_good}
use Rattle.pfs_finals.proofs.JoinedTables.{taken_rows}
use Rattle.pfs_finals.proofs.counters.lost_rows.Goals as goal

pub loop-counter-preserved : goal.loop-counter-preserved
loop-counter-preserved c =
    taken_rows (lost_row c.args.setting.now.classes c.args.counters.now) counters c.loop-counter.counter-index _ c.loop-counter.rows.items c.put_lost.new.rows.items c.loop-counter-test.true c.loop-counter.invariant c.in-Ok.ensures

pub returns-clause-good : goal.returns-clause-good
returns-clause-good c = subst (All IsLost) (sym (c.new.ensures ∙ c.loop-counter.invariant)) (all_good c.args.setting.now.classes c.args.counters.now (take c.loop-counter.counter-index counters))
