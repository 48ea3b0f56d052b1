use Rattle.std.proofs.Common.{◌++◌, sym, ◌∙◌, ap}
use Rattle.std.proofs.lemmas.List.{append-nil}
use Rattle.pfs_model.specs.Chains.{word_change}
use Rattle.pfs_model.specs.SetupFlags.{class_word, loads_at, table_word, thread_word, word_named}
use Rattle.pfs_check_floors.proofs.LoadFacts.{four_loads}
use Rattle.pfs_check_floors.proofs.loads.loads_at.Goals as goal

pub returns-in-Start : goal.returns-in-Start
returns-in-Start c = λ context slot.
    four_loads _ _ _ _ _ _ _ _ c.load_of.ensures
    (c.load_behind.ensures ∙ ap (λ z. word_named thread_word z c.in-Start.thread) (sym slot))
    (c.load_behind-in-Start.ensures ∙ ap (λ z. word_named class_word z c.in-Start.class) c.class_in.ensures)
    (c.load_behind-in-Start-2.ensures ∙ ap (λ z. word_named table_word z c.in-Start.table) c.table_in.ensures)
    ∙ sym (append-nil _)
    ∙ sym (ap (λ z. loads_at c.args.subject context z ++ word_change z) c.in-Start.is)
