use Rattle.std.proofs.Common.{◌∙◌, ap, refl, subst, sym}
use Rattle.pfs_law_contexts.specs.TakenSources.{in_action, taken_behind, taken_in}
use Rattle.pfs_law_contexts.specs.ToldContexts.{left_in}
use Rattle.pfs_model.specs.Contexts.{Context, noted, subject_of}
use Rattle.pfs_check_notes.specs.SessionNotes.{AreNotesOf}
use Rattle.pfs_check_walk.specs.Walks.{place_of}
use Rattle.pfs_check_collected.specs.CollectedChanges.{given_in, in_order}
use Rattle.pfs_check_collected.proofs.CollectSteps.{all_noted, noted_at, steps_on}
use Rattle.pfs_check_collected.proofs.collecting.CollectingVisit.visit.Goals as goal

pub returns : goal.returns
returns g c = λ case found earlier context told known.
    let place = place_of c.args.spot c.args.line.now context c.args.entry.now in
    let session = c.args.spot.session in
    let innermost = c.innermost-innermost.ensures context told in
    let action = c.action-action.ensures context told in
    let drawn = c.drawn-drawn.ensures context told in (
      tt,
      record {
        events = known.events;
        tags = known.tags;
        gathered = λ framed.
            let was = known.gathered framed.1 in
            let own = c.take_notes-notes.ensures.own (left_in earlier session) (taken_in earlier session) (was.notes session) in
            record {
              notes =
                  all_noted earlier place c.args.self.now.notes c.take_notes-notes.new.all c.keep_notes.new.all c.note.new.self was.notes
                  (subst (λ z. AreNotesOf (noted (subject_of c.args.line.now) context c.args.entry.now)
                  (taken_behind c.args.entry.now (in_action z (taken_in earlier session))) c.note.new.self) action
                  (c.in_ok-note.ensures (left_in earlier session) context (taken_in earlier session) own (steps_on earlier place framed.0.told) innermost))
                  c.take_notes-notes.ensures.others c.in_ok-keep_notes.ensures;
              held =
                  c.in_ok-note_held.ensures (given_in case found) earlier place known.events refl refl
                  (λ h. own.ended ∙ sym (ap (λ (z : Context). z.ended) (framed.0.told.inside h))) was.held;
              collected =
                  c.in_ok-put.ensures (given_in case found) (in_order earlier) place was.collected
                  (c.made_of-made.ensures (given_in case found) earlier place known.events known.tags was.held
                  (record { session = refl; action = sym action; drawn = sym drawn; innermost = sym innermost }) refl
                  (noted_at earlier place c.take_notes-notes.result framed.0 own));
            };
      },
    )
