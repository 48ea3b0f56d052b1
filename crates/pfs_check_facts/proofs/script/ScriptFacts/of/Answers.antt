use Rattle.std.specs.BTreeMap.{get}
use Rattle.std.specs.Ordering.{nat_cmp}
use Rattle.pfs_script.specs.Events.{lines_for}
use Rattle.pfs_check_facts.proofs.SessionSteps.{all_turned}
use Rattle.pfs_check_facts.proofs.script.ScriptFacts.of.Goals as goal

pub returns : goal.returns
returns c = λ session position.
    all_turned session c.args.phases.now (get nat_cmp c.in_ok-sessions.sessions session) position
    (c.in_ok-sessions.ensures session (lines_for session c.args.phases.now) (c.in_ok-courses.ensures session))
