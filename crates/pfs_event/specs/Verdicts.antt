-- The verdicts' names, and which let an event through.
use Rattle.std.specs.Prelude.{ℕ, Bool, true, false, List, codes}
use Rattle.pfs_event.specs.declared.verdict.Verdict.{Verdict}
use Rattle.pfs_event.specs.declared.verdict.Verdict.TheVariants.{LostThread, LostClass, OffGlobal, OffClass, OffTable, OffThread, LostNested, LostLocker, Aside, Attributed}

-- the name in a report
abbrev pub verdict_name : Verdict → List ℕ
verdict_name LostThread = codes "lost-thread"
verdict_name LostClass = codes "lost-class"
verdict_name OffGlobal = codes "off-global"
verdict_name OffClass = codes "off-class"
verdict_name OffTable = codes "off-table"
verdict_name OffThread = codes "off-thread"
verdict_name LostNested = codes "lost-nested"
verdict_name LostLocker = codes "lost-locker"
verdict_name Aside = codes "aside"
verdict_name Attributed = codes "attributed"

-- the event counts somewhere
abbrev pub is_let_through : Verdict → Bool
is_let_through Attributed = true
is_let_through Aside = true
is_let_through _ = false
