use Rattle.std.proofs.Common.{refl, subst, ◌++◌, ◌-◌, Option, drop, length, arith}
use Rattle.std.proofs.lemmas.List.{length-drop, take_all}
use Rattle.pfs_check_facts.specs.declared.blocks.Repeat.{Repeat}
use Rattle.pfs_check_facts.specs.FollowedLines.{IsUpTo}
use Rattle.pfs_check_facts.specs.Moments.{IsCourseOf}
use Rattle.pfs_check_facts.proofs.FollowSteps.{rest_none, rest_some}
use Rattle.pfs_check_facts.proofs.blocks.follow_rest.Goals as goal

pub returns-in_ok-follow_all-in-Some : goal.returns-in_ok-follow_all-in-Some
returns-in_ok-follow_all-in-Some c = λ whole up.
    rest_some c.args.said.now whole c.args.course.now c.follow_all.new.course (length c.args.said.now) c.in-Some.repeat
    (subst (λ (z : Option Repeat). IsUpTo c.args.said.now whole c.args.course.now (length c.args.said.now) z) c.in-Some.is up) refl
    (λ lines own. subst (λ z. IsCourseOf (lines ++ z) c.follow_all.new.course)
    (take_all (length c.args.said.now - c.in-Some.repeat.start) (drop c.in-Some.repeat.start c.args.said.now) (omega (arith, length-drop c.in-Some.repeat.start c.args.said.now)))
    (c.in_ok-follow_all-in-Some.ensures lines own))

pub returns-in-None : goal.returns-in-None
returns-in-None c = λ whole up. rest_none c.args.said.now whole c.args.course.now (length c.args.said.now)
    (subst (λ (z : Option Repeat). IsUpTo c.args.said.now whole c.args.course.now (length c.args.said.now) z) c.in-None.is up) (omega arith)
