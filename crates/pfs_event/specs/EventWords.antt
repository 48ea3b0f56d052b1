-- An event's words.
use Rattle.std.specs.Prelude.{ℕ, ◌+◌, ◌*◌, List, [], ◌∷◌}
use Rattle.pfs_event.specs.declared.event.Event.{Event}
use Rattle.pfs_event.specs.EventForm.{bit_of}

-- the sixteen words of an event
abbrev pub words_of : Event → List ℕ
words_of e =
    e.session ∷ e.number ∷ e.last
    ∷ (e.class + 64 * e.link)
    ∷ (bit_of e.timed + 2 * bit_of e.read_only + 4 * e.nesting)
    ∷ 0 ∷ e.parent ∷ e.start ∷ e.duration
    ∷ e.lock ∷ e.errors ∷ e.warnings ∷ e.affected ∷ e.sent ∷ e.examined ∷ e.ticket ∷ []
