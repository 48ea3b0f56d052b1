use Rattle.std.proofs.Common.{◌∙◌, ap, reverse}
use Rattle.pfs_law_contexts.specs.TakenSources.{in_action, taken_behind}
use Rattle.pfs_model.specs.Contexts.{subject_of}
use Rattle.pfs_check_notes.specs.SessionNotes.{ended_behind, outers_behind}
use Rattle.pfs_check_notes.proofs.NoteSteps.{notes_more}
use Rattle.pfs_check_notes.proofs.notes.SessionNotes.note.Goals as goal

pub returns : goal.returns
returns c = λ left context taken are steps innermost.
    notes_more (subject_of c.args.line.now) left context c.args.entry.now taken (taken_behind c.args.entry.now (in_action c.args.action taken)) c.args.self.now
    (record { outers = c.note_outers.new.outers; ended = c.ended_behind-ended.result; taken = c.taken_behind-taken.result }) are steps
    (c.in_ok-note_outers.ensures
    ∙ ap (λ z. outers_behind (subject_of c.args.line.now) z c.args.entry.now (reverse c.args.self.now.outers.items)) innermost)
    (c.ended_behind-ended.ensures ∙ ap (λ z. ended_behind c.args.entry.now z c.args.self.now.ended) innermost)
    (c.taken_behind-taken.ensures ∙ ap (taken_behind c.args.entry.now) (c.in_action.ensures ∙ ap (in_action c.args.action) are.taken_is))
