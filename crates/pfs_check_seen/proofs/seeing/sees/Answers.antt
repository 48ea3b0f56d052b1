use Rattle.std.proofs.Common.{sym, ◌∙◌, ap, subst}
use Rattle.pfs_model.specs.Floors.{IsThere, LoadsKeep, NamingsKeep, namings_of}
use Rattle.pfs_check_faults.specs.EntryFaults.{IsSlotThere, thread_named}
use Rattle.pfs_check_floors.specs.KnownFloors.{Tells}
use Rattle.pfs_check_seen.specs.SeenRules.{slot_test}
use Rattle.pfs_check_seen.proofs.SeenFacts.{sees_tells, slot_tells}
use Rattle.pfs_check_seen.proofs.seeing.sees.Goals as goal

pub returns : goal.returns
returns c = λ all earlier place known at slot entry loads.
    sees_tells all earlier place c.names_well-rows.result c.loads_well-words.result c.is_there-there.result c.is_slot_there-placed.result c.all_of.result
    (subst (λ z. Tells (NamingsKeep all earlier place (namings_of z)) c.names_well-rows.result) (sym entry)
    (c.names_well-rows.ensures all earlier place known.rows at))
    (subst (λ z. Tells (LoadsKeep all earlier place z) c.loads_well-words.result) loads
    (c.loads_well-words.ensures all earlier place known.words at))
    (subst (λ z. Tells (IsThere z) c.is_there-there.result) (sym entry) c.is_there-there.ensures)
    (subst (Tells (IsSlotThere place))
    (sym (c.is_slot_there-placed.ensures ∙ ap (λ z. slot_test z c.thread_named.result) (sym slot)
    ∙ ap (slot_test place.context.slot) (c.thread_named.ensures ∙ ap thread_named (sym entry))))
    (slot_tells place.context.slot (thread_named place.entry)))
    c.all_of.ensures
