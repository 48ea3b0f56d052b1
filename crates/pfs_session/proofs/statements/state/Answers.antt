use Rattle.std.proofs.Common.{Some, ap, sym, ◌∙◌, refl, arith}
use Rattle.pfs_admin.specs.AdministrationStates.{State as Administration}
use Rattle.pfs_session.proofs.EventSteps.{shown_words, shown_work}
use Rattle.pfs_session.proofs.statements.state.Goals as goal

pub returns-in-Show-clause-worked : goal.returns-in-Show-clause-worked
returns-in-Show-clause-worked g c = shown_work c.args.admin.now c.args.what _ _ c.in-Show.is

pub returns-in-Show-clause-used : goal.returns-in-Show-clause-used
returns-in-Show-clause-used g c = record {
  left = omega arith;
  draws = omega arith;
  no_more = omega arith;
  hand = λ r. refl;
  words = c.requires.lent ∙ ap Some (sym (ap (λ (z : Administration). z.words) c.note.ensures.step ∙ shown_words c.args.admin.now));
  name = refl;
  room = omega arith;
}
