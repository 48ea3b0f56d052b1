use Rattle.std.proofs.Common.{ap, sym, ◌∙◌, ◌++◌, ◌∷◌, [], None}
use Rattle.pfs_event.specs.declared.entry.Entry.TheVariants as says
use Rattle.pfs_session.specs.SessionStates.{Book}
use Rattle.pfs_session.proofs.EventAnswers.{end_says}
use Rattle.pfs_session.proofs.EventSteps.{end_through, end_silent}
use Rattle.pfs_session.proofs.CallEnds.{end_leaves, end_leaves_alone, end_owes, end_owes_alone}
use Rattle.pfs_session.proofs.session.Session.end.Goals as goal

pub returns-then-is_let_through-clause-played : goal.returns-then-is_let_through-clause-played
returns-then-is_let_through-clause-played g c =
    end_through c.args.self.now c.close-what.new.self c.finish.new.self c.close-what.result c.args.numbers.now c.finish.result _ _ c.close-what.ensures.opened
    c.close-what.ensures.state c.close-what.ensures.journal (sym c.is_let_through.ensures ∙ c.if-is_let_through.true) c.finish.ensures.finished

pub returns-else-is_let_through-clause-played : goal.returns-else-is_let_through-clause-played
returns-else-is_let_through-clause-played g c =
    end_silent c.args.self.now c.close-what.new.self _ c.close-what.result c.args.numbers.now _ c.close-what.ensures.opened
    c.close-what.ensures.state c.close-what.ensures.journal (sym c.is_let_through.ensures ∙ c.if-is_let_through.false)
    (ap (λ (b : Book). b.state) c.self.view_is)
    (ap (λ j. j.entries) c.push.ensures ∙ ap (λ (b : Book). b.journal.entries ++ says.End None None None None ∷ []) c.self.view_is)

pub returns-then-is_let_through-clause-answer : goal.returns-then-is_let_through-clause-answer
returns-then-is_let_through-clause-answer g c =
    end_says c.args.self.now c.close-what.new.self c.finish.new.self c.close-what.result c.args.numbers.now c.finish.result _ _ c.close-what.ensures.journal c.finish.ensures.finished

pub returns-then-is_let_through-clause-rest : goal.returns-then-is_let_through-clause-rest
returns-then-is_let_through-clause-rest g c =
    end_leaves c.args.self.now.state c.close-what.new.self.state c.finish.new.self.state c.close-what.ensures.state c.finish.ensures.rest

pub returns-then-is_let_through-clause-owed : goal.returns-then-is_let_through-clause-owed
returns-then-is_let_through-clause-owed g c =
    end_owes c.args.self.now.state c.close-what.new.self.state c.finish.new.self.state c.close-what.ensures.state c.finish.ensures.owed

pub returns-else-is_let_through-clause-rest : goal.returns-else-is_let_through-clause-rest
returns-else-is_let_through-clause-rest g c =
    end_leaves_alone c.args.self.now.state c.close-what.new.self.state _ c.close-what.ensures.state (ap (λ (b : Book). b.state) c.self.view_is)

pub returns-else-is_let_through-clause-owed : goal.returns-else-is_let_through-clause-owed
returns-else-is_let_through-clause-owed g c =
    end_owes_alone c.args.self.now.state c.close-what.new.self.state _ c.close-what.ensures.state (ap (λ (b : Book). b.state) c.self.view_is)
