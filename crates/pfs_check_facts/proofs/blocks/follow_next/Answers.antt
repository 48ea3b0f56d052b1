use Rattle.std.proofs.Common.{Option, ◌+◌, ◌∙◌, refl, subst, sym}
use Rattle.pfs_check_facts.specs.declared.blocks.Repeat.{Repeat}
use Rattle.pfs_check_facts.specs.FollowedLines.{IsUpTo}
use Rattle.pfs_check_facts.proofs.FollowSteps.{next_begun, next_done, next_inside, next_outside}
use Rattle.pfs_check_facts.proofs.blocks.follow_next.Goals as goal

pub returns-in_ok-follow_times-in-Some : goal.returns-in_ok-follow_times-in-Some
returns-in_ok-follow_times-in-Some c = λ whole up.
    next_done c.args.said.now whole c.args.course.now c.follow_times.new.course c.args.place c.index-said-place.result c.in-Some.repeat
    (subst (λ (z : Option Repeat). IsUpTo c.args.said.now whole c.args.course.now c.args.place z) c.in-Some.is up) c.requires c.index-said-place.is
    (sym c.is_done.ensures ∙ c.if-is_done.true) c.in_ok-follow_times-in-Some.ensures

pub returns-in-Some-times_of : goal.returns-in-Some-times_of
returns-in-Some-times_of c = λ whole up.
    next_begun c.args.said.now whole c.args.course.now c.args.place c.index-said-place.result c.in-Some-times_of.times (c.args.place + 1)
    (subst (λ (z : Option Repeat). IsUpTo c.args.said.now whole c.args.course.now c.args.place z) c.in-None.is up) c.requires c.index-said-place.is
    (sym c.in-Some-times_of.ensures) refl

pub returns-in_ok-follow-in-None-times_of : goal.returns-in_ok-follow-in-None-times_of
returns-in_ok-follow-in-None-times_of c = λ whole up.
    next_outside c.args.said.now whole c.args.course.now c.follow.new.self c.args.place c.index-said-place.result
    (subst (λ (z : Option Repeat). IsUpTo c.args.said.now whole c.args.course.now c.args.place z) c.in-None.is up) c.requires c.index-said-place.is
    (sym c.in-None-times_of.ensures) c.in_ok-follow-in-None-times_of.ensures

pub returns-else-is_done : goal.returns-else-is_done
returns-else-is_done c = λ whole up.
    next_inside c.args.said.now whole c.args.course.now c.args.place c.index-said-place.result c.in-Some.repeat
    (subst (λ (z : Option Repeat). IsUpTo c.args.said.now whole c.args.course.now c.args.place z) c.in-Some.is up) c.requires c.index-said-place.is
    (sym c.is_done.ensures ∙ c.if-is_done.false)
