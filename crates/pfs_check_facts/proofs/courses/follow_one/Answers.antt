use Rattle.std.proofs.Common.{◌++◌, subst}
use Rattle.pfs_script.specs.Marks.{written_out}
use Rattle.pfs_check_facts.specs.Moments.{IsCourseOf}
use Rattle.pfs_check_facts.proofs.SessionSteps.{one_more}
use Rattle.pfs_check_facts.proofs.courses.follow_one.Goals as goal

pub returns : goal.returns
returns c = λ blocks are.
    one_more blocks c.args.block.now c.args.courses.now c.take_course-course.new.courses c.keep_course.new.courses c.follow_block.new.course are
    (λ lines own. subst (λ z. IsCourseOf (lines ++ written_out z) c.follow_block.new.course) c.as_slice.ensures
    (c.in_ok-follow_block.ensures lines (c.take_course-course.ensures.own lines own)))
    c.take_course-course.ensures.others c.in_ok-keep_course.ensures
