-- The numbers of events.
use Rattle.std.specs.Prelude.{ℕ, ◌≡◌, ◌+◌, cond, List, [], ◌∷◌, Option, Some, None}
use Rattle.pfs_event.specs.declared.entry.Entry.{Entry}
use Rattle.pfs_event.specs.declared.entry.Entry.TheVariants as says
use Rattle.pfs_event.specs.declared.verdict.Verdict.{Verdict}
use Rattle.pfs_model.specs.declared.lines.Opened.{Opened}
use Rattle.pfs_event.specs.Verdicts.{is_let_through}
use Rattle.pfs_model.specs.Contexts.{Context}
use Rattle.pfs_model.specs.EntryPlaces.{Placed}

-- the EVENT_ID of an event that starts: its position among the session's let-through events
abbrev pub event_id : Context → Verdict → Option ℕ
event_id context verdict = cond (is_let_through verdict) (Some (context.drawn + 1)) None

-- of the event that ends: its own number, and the last that was drawn; none where it isn't let through
abbrev pub ending_id : List Opened → Option ℕ
ending_id [] = None
ending_id (event ∷ events) = event.number

abbrev pub end_event_id : Context → List Opened → Option ℕ
end_event_id context [] = None
end_event_id context (event ∷ events) = cond (is_let_through event.verdict) (Some context.drawn) None

abbrev pub IsNumbered : Context → Entry → Type 0
IsNumbered context (says.Start event verdict consumers thread class table) = event ≡ event_id context verdict
IsNumbered context (says.End event last consumers thread) =
    (event ≡ ending_id context.opened) × (last ≡ end_event_id context context.opened)
IsNumbered context _ = Unit {0}

abbrev pub AreNumbered : List Placed → Type 0
AreNumbered [] = Unit {0}
AreNumbered (place ∷ places) = IsNumbered place.context place.entry × AreNumbered places

-- the innermost let-through event that is open: what an event that starts lies in
abbrev pub nesting_of : List Opened → Option Opened
nesting_of [] = None
nesting_of (event ∷ events) = cond (is_let_through event.verdict) (Some event) (nesting_of events)
