use Rattle.pfs_view.proofs.AnswerPlaces.{shown_once}
use Rattle.pfs_view.proofs.laws.answers_are_shown_once.Goals as goal

pub returns : goal.returns
returns c = shown_once
