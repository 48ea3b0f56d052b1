-- Notes of which each goes by those before it: it names the next version or number, or the last one.
use Rattle.std.proofs.Common.{ℕ, ◌≡◌, ◌+◌, ◌==◌, Bool, true, false, cond, List, [], ◌∷◌, ◌++◌, refl}
use Rattle.pfs_model.specs.declared.changes.Change.{Change}
use Rattle.pfs_model.specs.Chains.{change_at, opens_free}
use Rattle.pfs_model.specs.PlainAgreement.{last_of}
use Rattle.pfs_law_plain.specs.Notes.{Note, Wrote, Freed, Found, Vacant, Refused, Overdue, Switched, Saw, Acted, saw_all}

-- the changes of rows, the sets of words, and the numbers of actions; lists of notes have the newest first here
abbrev pub writes : List Note → List Change
writes [] = []
writes (Wrote row version ∷ notes) = change_at row version ∷ writes notes
writes (Freed row version ∷ notes) = writes notes
writes (Found row version ∷ notes) = writes notes
writes (Vacant row ∷ notes) = writes notes
writes (Refused row first second ∷ notes) = writes notes
writes (Overdue row ticket ∷ notes) = writes notes
writes (Switched word version flags ∷ notes) = writes notes
writes (Saw word version ∷ notes) = writes notes
writes (Acted number ∷ notes) = writes notes

abbrev pub switches : List Note → List Change
switches [] = []
switches (Switched word version flags ∷ notes) = change_at word version ∷ switches notes
switches (Wrote row version ∷ notes) = switches notes
switches (Freed row version ∷ notes) = switches notes
switches (Found row version ∷ notes) = switches notes
switches (Vacant row ∷ notes) = switches notes
switches (Refused row first second ∷ notes) = switches notes
switches (Overdue row ticket ∷ notes) = switches notes
switches (Saw word version ∷ notes) = switches notes
switches (Acted number ∷ notes) = switches notes

abbrev pub acts : List Note → List Change
acts [] = []
acts (Acted number ∷ notes) = change_at 0 number ∷ acts notes
acts (Wrote row version ∷ notes) = acts notes
acts (Freed row version ∷ notes) = acts notes
acts (Found row version ∷ notes) = acts notes
acts (Vacant row ∷ notes) = acts notes
acts (Refused row first second ∷ notes) = acts notes
acts (Overdue row ticket ∷ notes) = acts notes
acts (Switched word version flags ∷ notes) = acts notes
acts (Saw word version ∷ notes) = acts notes

-- a row is free by the last of its changes and releases, or as it opened
abbrev pub free_in : List Note → ℕ → Bool
free_in [] row = opens_free row
free_in (Wrote at version ∷ notes) row = cond (at == row) false (free_in notes row)
free_in (Freed at version ∷ notes) row = cond (at == row) true (free_in notes row)
free_in (Found at version ∷ notes) row = free_in notes row
free_in (Vacant at ∷ notes) row = free_in notes row
free_in (Refused at first second ∷ notes) row = free_in notes row
free_in (Overdue at ticket ∷ notes) row = free_in notes row
free_in (Switched word version flags ∷ notes) row = free_in notes row
free_in (Saw word version ∷ notes) row = free_in notes row
free_in (Acted number ∷ notes) row = free_in notes row

abbrev pub IsNextNote : List Note → Note → Type 0
IsNextNote before (Wrote row version) = version ≡ last_of row (writes before) + 1
IsNextNote before (Freed row version) = version ≡ last_of row (writes before)
IsNextNote before (Found row version) = (version ≡ last_of row (writes before)) × (free_in before row ≡ false)
IsNextNote before (Vacant row) = free_in before row ≡ true
IsNextNote before (Refused row first second) = Unit {0}
IsNextNote before (Overdue row ticket) = Unit {0}
IsNextNote before (Switched word version flags) = version ≡ last_of word (switches before) + 1
IsNextNote before (Saw word version) = version ≡ last_of word (switches before)
IsNextNote before (Acted number) = number ≡ last_of 0 (acts before) + 1

-- in order, behind those
abbrev pub AreNextNotes : List Note → List Note → Type 0
AreNextNotes before [] = Unit {0}
AreNextNotes before (note ∷ notes) = IsNextNote before note × AreNextNotes (note ∷ before) notes

-- notes in order behind those that stand newest first
abbrev pub behind : List Note → List Note → List Note
behind before [] = before
behind before (note ∷ notes) = behind (note ∷ before) notes

pub behind_then : (before xs ys : List Note) → behind before (xs ++ ys) ≡ behind (behind before xs) ys
behind_then before [] ys = refl
behind_then before (x ∷ xs) ys = behind_then (x ∷ before) xs ys

pub next_then : (before xs ys : List Note) → AreNextNotes before xs → AreNextNotes (behind before xs) ys → AreNextNotes before (xs ++ ys)
next_then before [] ys a b = b
next_then before (x ∷ xs) ys a b = (a.0, next_then (x ∷ before) xs ys a.1 b)

pub next_front : (before xs ys : List Note) → AreNextNotes before (xs ++ ys) → AreNextNotes before xs
next_front before [] ys a = tt
next_front before (x ∷ xs) ys a = (a.0, next_front (x ∷ before) xs ys a.1)

pub next_back : (before xs ys : List Note) → AreNextNotes before (xs ++ ys) → AreNextNotes (behind before xs) ys
next_back before [] ys a = a
next_back before (x ∷ xs) ys a = next_back (x ∷ before) xs ys a.1

-- loads change nothing
pub saw_writes : (before : List Note) (loads : List Change) → writes (behind before (saw_all loads)) ≡ writes before
saw_writes before [] = refl
saw_writes before (l ∷ ls) = saw_writes (Saw l.row l.version ∷ before) ls

pub saw_switches : (before : List Note) (loads : List Change) → switches (behind before (saw_all loads)) ≡ switches before
saw_switches before [] = refl
saw_switches before (l ∷ ls) = saw_switches (Saw l.row l.version ∷ before) ls

pub saw_acts : (before : List Note) (loads : List Change) → acts (behind before (saw_all loads)) ≡ acts before
saw_acts before [] = refl
saw_acts before (l ∷ ls) = saw_acts (Saw l.row l.version ∷ before) ls

pub saw_free : (before : List Note) (loads : List Change) (row : ℕ) → free_in (behind before (saw_all loads)) row ≡ free_in before row
saw_free before [] row = refl
saw_free before (l ∷ ls) row = saw_free (Saw l.row l.version ∷ before) ls row
