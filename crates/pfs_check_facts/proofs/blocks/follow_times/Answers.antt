use Rattle.std.proofs.Common.{◌++◌, ◌∙◌, length, sym}
use Rattle.std.proofs.lemmas.Bool.{eqb-true}
use Rattle.pfs_script.specs.Marks.{copies}
use Rattle.pfs_check_facts.proofs.FollowSteps.{empty_rounds, no_round, round_more}
use Rattle.pfs_check_facts.proofs.blocks.follow_times.Goals as goal

pub loop-round-init : goal.loop-round-init
loop-round-init c = λ lines are. no_round lines c.args.said.now c.args.course.now are

pub loop-round-preserved : goal.loop-round-preserved
loop-round-preserved c = λ lines are.
    round_more lines c.args.said.now c.loop-round.round c.follow_all.new.course
    (c.in_ok-follow_all.ensures (lines ++ copies c.loop-round.round c.args.said.now) (c.loop-round.invariant lines are))

pub returns-then-is_empty : goal.returns-then-is_empty
returns-then-is_empty c = λ lines are. empty_rounds lines c.args.said.now c.args.times c.args.course.now (eqb-true (length c.args.said.now) 0 (sym c.is_empty.ensures ∙ c.if-is_empty.true)) are
