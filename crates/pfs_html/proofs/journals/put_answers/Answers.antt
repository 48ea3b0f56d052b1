use Rattle.pfs_html.specs.Journals.{answer_html}
use Rattle.pfs_html.proofs.PlaceLists.{appended_more}
use Rattle.pfs_html.proofs.journals.put_answers.Goals as goal

pub loop-place-preserved : goal.loop-place-preserved
loop-place-preserved c = appended_more (answer_html c.args.answers.now) c.loop-place.place c.args.pen.now.page.items c.loop-place.pen.page.items c.put_answer.new.pen.page.items c.loop-place.invariant c.in_ok-put_answer.ensures
