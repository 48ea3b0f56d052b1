-- A wait inside a wait, worked: what the script says of both, and the deeds of a session that has its lines.
use Rattle.std.proofs.Common.{ℕ, ◌≡◌, List, [], ◌∷◌, map, None, refl}
use Rattle.pfs_admin.specs.AdministrationStates.{State as Administration}
use Rattle.pfs_classes.specs.declared.classes.ClassRef.TheVariants as refs
use Rattle.pfs_event.specs.declared.kind.EventKind.TheVariants.{Wait}
use Rattle.pfs_model.specs.Contents.{Facts}
use Rattle.pfs_law_session.specs.Deeds.{Deed, Connecting, Starting, Ending, Spending, Closing, Part}
use Rattle.pfs_runs.specs.ScriptLines.{facts_of, no_facts, wait_on}
use Rattle.pfs_script.specs.declared.blocks.BlockLine.{BlockLine}
use Rattle.pfs_script.specs.declared.blocks.BlockLine.TheVariants as said
use Rattle.pfs_script.specs.Brackets.{closing_from, brackets_from}
use Rattle.pfs_script.specs.Events.{events_of}
use Rattle.pfs_session.specs.Ends.{no_numbers}
use Rattle.pfs_law_plain.specs.LineDeeds.{AreDeeds}
use Rattle.pfs_law_plain.specs.Tracks.{Tracks}

-- the outer one from 10 to 57, the inner one from 30 to 50
abbrev lines : List BlockLine
lines = said.Spend 10 ∷ said.Wait (refs.Class 5) ∷ said.Spend 20 ∷ said.Wait (refs.Class 5) ∷ said.Spend 20 ∷ said.End ∷ said.Spend 7 ∷ said.End ∷ []

abbrev taking : ℕ → ℕ → Facts
taking start duration = record no_facts { start = start; duration = duration }

both : map facts_of (events_of lines) ≡ taking 10 47 ∷ taking 30 20 ∷ []
unfolding events_of brackets_from closing_from
both = refl

-- behind the inner one's end the outer one is open
inside : Tracks (said.Spend 10 ∷ said.Wait (refs.Class 5) ∷ said.Spend 20 ∷ said.Wait (refs.Class 5) ∷ said.Spend 20 ∷ said.End ∷ []) (record { clock = 50; begun = 2; going = record { index = 0; kind = Wait; start = 10 } ∷ [] })
unfolding brackets_from closing_from
inside = record { clock = refl; begun = refl; going = refl }

abbrev part : Deed → Part
part deed = record { deed = deed; turns = [] }

-- a session connects, does the lines in two blocks, and ends; its connect and the ends of its blocks are no lines
abbrev parts : Administration → List Part
parts admin =
    part (Connecting admin 0 1) ∷ part (Spending 10) ∷ part (Starting (wait_on (refs.Class 5) None)) ∷ part (Spending 20) ∷ part (Starting (wait_on (refs.Class 5) None)) ∷ part Closing
    ∷ part (Spending 20) ∷ part (Ending no_numbers) ∷ part (Spending 7) ∷ part (Ending no_numbers) ∷ part Closing ∷ []

are_deeds : (admin : Administration) → AreDeeds lines (parts admin)
are_deeds admin = (
  record { admin = admin; is = refl },
  (
    record { admin = admin; is = refl },
    (
      record { admin = admin; is = refl },
      (record { admin = admin; is = refl }, (record { admin = admin; is = refl }, (record { admin = admin; is = refl }, (record { admin = admin; is = refl }, (record { admin = admin; is = refl }, refl))))),
    ),
  ),
)
