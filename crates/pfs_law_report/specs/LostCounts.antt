-- How many events were lost, by the verdicts of their starts, and how many digests, by the rows that ends add to.
use Rattle.std.specs.Prelude.{ℕ, Bool, true, false, cond, List, ◌+◌, [], ◌∷◌}
use Rattle.std.specs.List.{flat_map}
use Rattle.pfs_law_plain.specs.Spells.{Spell, parts_in}
use Rattle.pfs_event.specs.declared.entry.Entry.{Entry}
use Rattle.pfs_event.specs.declared.entry.Entry.TheVariants as says
use Rattle.pfs_event.specs.declared.verdict.Verdict.{Verdict}
use Rattle.pfs_model.specs.Chains.{times}
use Rattle.pfs_model.specs.JournalCuts.{joined}
use Rattle.pfs_law_session.specs.JournalLaws.{entries_of}
use Rattle.pfs_runs.specs.PhaseFinals.{is_lost_nested, is_lost_locker, is_unplaced, verdict_at}

-- how many of these entries start an event whose verdict passes the test
abbrev pub started : (Verdict → Bool) → List Entry → ℕ
started test entries = times test (flat_map verdict_at entries)

-- how many statements, and how many waits, these entries say were lost
abbrev pub lost_statements : List Entry → ℕ
lost_statements entries = started is_lost_nested entries

abbrev pub lost_waits : List Entry → ℕ
lost_waits entries = started is_lost_locker entries

-- additions behind an end bring the event that ended; those of what is settled, and of an action, bring none
abbrev pub ends_behind : Bool → Entry → Bool
ends_behind ends (says.End event last consumers thread) = true
ends_behind ends says.Settle = false
ends_behind ends (says.Act action) = false
ends_behind ends (says.Connect action thread account user host) = false
ends_behind ends _ = ends

-- how many statements these entries bring to the row of the digests without a place, behind an end or not
abbrev pub unplaced_in : Bool → List Entry → ℕ
unplaced_in ends [] = 0
unplaced_in ends (entry ∷ entries) =
    cond (is_unplaced ends entry) 1 0 + unplaced_in (ends_behind ends entry) entries

-- how many digests these entries say were lost
abbrev pub lost_digests : List Entry → ℕ
lost_digests entries = unplaced_in false entries

-- what a session wrote in a phase
abbrev pub journal_of : Spell → List Entry
journal_of spell = joined (entries_of (parts_in spell.doings))

-- the same, spell by spell
abbrev pub all_started : (Verdict → Bool) → List Spell → ℕ
all_started test [] = 0
all_started test (spell ∷ spells) = started test (journal_of spell) + all_started test spells
