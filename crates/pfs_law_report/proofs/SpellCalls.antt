-- Where the calls of a store lead as the spells' own do, they go on to: whatever is read between, and by one spell more.
use Rattle.std.proofs.Common.{ℕ, ◌≡◌, List, [], ◌∷◌, ◌++◌, sym, subst}
use Rattle.pfs_law_plain.specs.Spells.{Spell, doings_calls, calls_of}
use Rattle.pfs_levels.specs.Calls.{Call}
use Rattle.pfs_reader.proofs.Readings.{calls_then as readings_then}
use Rattle.pfs_reader.specs.Readings.{call_of}
use Rattle.pfs_reader.specs.Readings.{calls_of as calls_of_readings}
use Rattle.pfs_rows.specs.declared.table.Reading.{Reading}
use Rattle.pfs_rows.specs.declared.table.Reading.TheVariants as readings
use Rattle.pfs_law_plain.proofs.PhaseFronts.{calls_then}
use Rattle.pfs_law_plain.proofs.ReadCalls.{OnlyReads, AllOnlyRead, LeadAlike, reads_more, calls_more}

-- readings only read
only_then : (xs ys : List Call) → AllOnlyRead xs → AllOnlyRead ys → AllOnlyRead (xs ++ ys)
only_then [] ys p q = q
only_then (x ∷ xs) ys p q = (p.0, only_then xs ys p.1 q)

reading_reads : (r : Reading) → OnlyReads (call_of r)
reading_reads (readings.Slot row seen) = tt
reading_reads (readings.Word word version flags) = tt

pub readings_read : (rs : List Reading) → AllOnlyRead (calls_of_readings rs)
readings_read [] = tt
readings_read (r ∷ rs) =
    let behind : AllOnlyRead (calls_of_readings rs) = readings_read rs in
    subst AllOnlyRead (sym (readings_then (r ∷ []) rs)) (only_then (calls_of_readings rs) (call_of r ∷ []) behind (reading_reads r, tt))

-- so behind them the calls lead where they led
pub leads_still : (rs : List Reading) (calls others : List Call) → LeadAlike calls others → LeadAlike (calls_of_readings rs ++ calls) others
leads_still rs calls others alike = reads_more (calls_of_readings rs) calls others (readings_read rs) alike

last_calls : (spells : List Spell) (spell : Spell) → calls_of (spells ++ spell ∷ []) ≡ doings_calls spell.doings ++ calls_of spells
last_calls spells spell = calls_then spells (spell ∷ [])

-- by one spell more they lead where all spells with it do
pub leads_more : (spells : List Spell) (spell : Spell) (calls : List Call) → LeadAlike calls (calls_of spells) → LeadAlike (doings_calls spell.doings ++ calls) (calls_of (spells ++ spell ∷ []))
leads_more spells spell calls alike =
    subst (LeadAlike (doings_calls spell.doings ++ calls)) (sym (last_calls spells spell)) (calls_more (doings_calls spell.doings) calls (calls_of spells) alike)
