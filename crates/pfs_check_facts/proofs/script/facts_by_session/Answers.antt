use Rattle.std.proofs.Common.{length}
use Rattle.std.specs.BTreeMap.{get}
use Rattle.std.specs.Ordering.{nat_cmp}
use Rattle.pfs_check_facts.proofs.SessionSteps.{all_done, facts_kept, no_more, turned_more}
use Rattle.pfs_check_facts.proofs.script.facts_by_session.Goals as goal

pub loop-session-preserved : goal.loop-session-preserved
loop-session-preserved c = λ session lines are.
    turned_more c.loop-session.courses c.pop_first.new.self c.loop-session.sessions c.insert.new.self c.in-Some.session c.in-Some.course c.in_ok-facts.facts
    c.in-Some.ensures.updates c.in_ok-insert.ensures.updates c.in-Some.ensures.value
    (λ ls own. facts_kept ls c.in-Some.course c.in_ok-facts.facts c.as_slice.result.now c.in_ok-facts.ensures c.as_slice.ensures.value own)
    session lines (c.loop-session.invariant session lines are)

pub returns : goal.returns
returns c = λ session lines are.
    all_done session lines c.loop-session.courses (get nat_cmp c.loop-session.sessions session) (no_more (length c.loop-session.courses.entries) c.in_default.ensures.variant.1)
    (c.loop-session.invariant session lines are)
