-- What journals print of rows and words, counted, is what their calls did.
use Rattle.std.proofs.Common.{ℕ, ◌≡◌, ◌+◌, ◌<◌, ◌==◌, Bool, true, false, cond, not, ◌&&◌, List, [], ◌∷◌, ◌++◌, Option, refl, ap, sym, ◌∙◌, subst, arith}
use Rattle.std.specs.Prelude.{nat_lt, ◌||◌}
use Rattle.std.proofs.lemmas.Bool.Decides.{nat_tests}
use Rattle.pfs_law_plain.proofs.NextNotes.{writes, switches}
use Rattle.pfs_law_plain.specs.Notes.{Note, Wrote, Freed, Found, Vacant, Refused, Overdue, Switched, Saw, Acted, saw_all, notes_at, notes_of, told, all_told}
use Rattle.pfs_event.specs.declared.entry.Entry.{Entry}
use Rattle.pfs_event.specs.declared.entry.Entry.TheVariants as says
use Rattle.pfs_levels.specs.Calls.{Call, Adds, Rings, Reads, Loads, Draws, Takes, Puts, Frees, Sets, Enters, Leaves, Meets}
use Rattle.pfs_levels.specs.JointCalls.{total, one_if, At, changes_of, count, sets_of, word_version, frees_at}
use Rattle.pfs_levels.specs.JointCalls.{opens_free as opens_free_there}
use Rattle.pfs_levels.specs.declared.answers.Added.TheVariants.{Counted, Held}
use Rattle.pfs_levels.specs.declared.answers.RingPut.TheVariants.{Done, Busy, Late}
use Rattle.pfs_model.specs.Chains.{times, change_at, row_change, word_change, release_of, each_of, is_of, is_that, opens_free, is_free_after}
use Rattle.pfs_model.specs.Contexts.{Context, subject_of}
use Rattle.pfs_model.specs.EntryPlaces.{Placed}
use Rattle.pfs_model.specs.SetupFlags.{loads_at}
use Rattle.pfs_model.specs.declared.changes.Change.{Change}
use Rattle.pfs_model.specs.declared.lines.Subject.{Subject}
use Rattle.pfs_rows.specs.declared.table.Seen.TheVariants as seen

abbrev releases : List Note → List Change
releases [] = []
releases (Freed row version ∷ notes) = change_at row version ∷ releases notes
releases (Wrote row version ∷ notes) = releases notes
releases (Switched word version flags ∷ notes) = releases notes
releases (Saw word version ∷ notes) = releases notes
releases (Found row version ∷ notes) = releases notes
releases (Vacant row ∷ notes) = releases notes
releases (Refused row first second ∷ notes) = releases notes
releases (Overdue row ticket ∷ notes) = releases notes
releases (Acted number ∷ notes) = releases notes

-- along lists
writes_then : (xs ys : List Note) → writes (xs ++ ys) ≡ writes xs ++ writes ys
writes_then [] ys = refl
writes_then (Wrote row version ∷ xs) ys = ap (λ z. change_at row version ∷ z) (writes_then xs ys)
writes_then (Freed row version ∷ xs) ys = writes_then xs ys
writes_then (Switched word version flags ∷ xs) ys = writes_then xs ys
writes_then (Saw word version ∷ xs) ys = writes_then xs ys
writes_then (Found row version ∷ xs) ys = writes_then xs ys
writes_then (Vacant row ∷ xs) ys = writes_then xs ys
writes_then (Refused row first second ∷ xs) ys = writes_then xs ys
writes_then (Overdue row ticket ∷ xs) ys = writes_then xs ys
writes_then (Acted number ∷ xs) ys = writes_then xs ys

switches_then : (xs ys : List Note) → switches (xs ++ ys) ≡ switches xs ++ switches ys
switches_then [] ys = refl
switches_then (Switched word version flags ∷ xs) ys = ap (λ z. change_at word version ∷ z) (switches_then xs ys)
switches_then (Wrote row version ∷ xs) ys = switches_then xs ys
switches_then (Freed row version ∷ xs) ys = switches_then xs ys
switches_then (Saw word version ∷ xs) ys = switches_then xs ys
switches_then (Found row version ∷ xs) ys = switches_then xs ys
switches_then (Vacant row ∷ xs) ys = switches_then xs ys
switches_then (Refused row first second ∷ xs) ys = switches_then xs ys
switches_then (Overdue row ticket ∷ xs) ys = switches_then xs ys
switches_then (Acted number ∷ xs) ys = switches_then xs ys

releases_then : (xs ys : List Note) → releases (xs ++ ys) ≡ releases xs ++ releases ys
releases_then [] ys = refl
releases_then (Freed row version ∷ xs) ys = ap (λ z. change_at row version ∷ z) (releases_then xs ys)
releases_then (Wrote row version ∷ xs) ys = releases_then xs ys
releases_then (Switched word version flags ∷ xs) ys = releases_then xs ys
releases_then (Saw word version ∷ xs) ys = releases_then xs ys
releases_then (Found row version ∷ xs) ys = releases_then xs ys
releases_then (Vacant row ∷ xs) ys = releases_then xs ys
releases_then (Refused row first second ∷ xs) ys = releases_then xs ys
releases_then (Overdue row ticket ∷ xs) ys = releases_then xs ys
releases_then (Acted number ∷ xs) ys = releases_then xs ys

-- what is printed is what is told
record SawNone (loads : List Change) : Type 0 where
  pub rows : writes (saw_all loads) ≡ []
  pub words : switches (saw_all loads) ≡ []
  pub freed : releases (saw_all loads) ≡ []

saw_none : (loads : List Change) → SawNone loads
saw_none [] = record { rows = refl; words = refl; freed = refl }
saw_none (l ∷ ls) = let s : SawNone ls = saw_none ls in record { rows = s.rows; words = s.words; freed = s.freed }

record IsTold (subject : Option Subject) (context : Context) (e : Entry) : Type 0 where
  pub rows : row_change e ≡ writes (notes_at subject context e)
  pub words : word_change e ≡ switches (notes_at subject context e)
  pub freed : release_of e ≡ releases (notes_at subject context e)

entry_told : (subject : Option Subject) (context : Context) (e : Entry) → IsTold subject context e
entry_told subject context (says.Start event verdict consumers thread class table) =
    let s : SawNone (loads_at subject context (says.Start event verdict consumers thread class table)) = saw_none _ in
    record { rows = sym s.rows; words = sym s.words; freed = sym s.freed }
entry_told subject context (says.End event last consumers thread) =
    let s : SawNone (loads_at subject context (says.End event last consumers thread)) = saw_none _ in
    record { rows = sym s.rows; words = sym s.words; freed = sym s.freed }
entry_told subject context (says.Set word version flags) = record { rows = refl; words = refl; freed = refl }
entry_told subject context (says.Free row version) = record { rows = refl; words = refl; freed = refl }
entry_told subject context (says.Add row version) = record { rows = refl; words = refl; freed = refl }
entry_told subject context (says.Ring row version) = record { rows = refl; words = refl; freed = refl }
entry_told subject context (says.Long row version ticket) = record { rows = refl; words = refl; freed = refl }
entry_told subject context (says.Take row version) = record { rows = refl; words = refl; freed = refl }
entry_told subject context (says.Give row version from) = record { rows = refl; words = refl; freed = refl }
entry_told subject context (says.Tag row version) = record { rows = refl; words = refl; freed = refl }
entry_told subject context _ = record { rows = refl; words = refl; freed = refl }

pub record ArePrinted (ps : List Placed) (notes : List Note) : Type 0 where
  pub rows : each_of row_change ps ≡ writes notes
  pub words : each_of word_change ps ≡ switches notes
  pub freed : each_of release_of ps ≡ releases notes

are_printed : (ps : List Placed) → ArePrinted ps (notes_of ps)
are_printed [] = record { rows = refl; words = refl; freed = refl }
are_printed (p ∷ ps) =
    let own : List Note = notes_at (subject_of p.line) p.context p.entry in
    let t : IsTold (subject_of p.line) p.context p.entry = entry_told (subject_of p.line) p.context p.entry in
    let r : ArePrinted ps (notes_of ps) = are_printed ps in
    record {
      rows = ap (λ z. z ++ each_of row_change ps) t.rows ∙ (ap (λ z. writes own ++ z) r.rows ∙ sym (writes_then own (notes_of ps)));
      words = ap (λ z. z ++ each_of word_change ps) t.words ∙ (ap (λ z. switches own ++ z) r.words ∙ sym (switches_then own (notes_of ps)));
      freed = ap (λ z. z ++ each_of release_of ps) t.freed ∙ (ap (λ z. releases own ++ z) r.freed ∙ sym (releases_then own (notes_of ps)));
    }

-- counted, as the calls do
times_then : (test : Change → Bool) (xs ys : List Change) → times test (xs ++ ys) ≡ times test xs + times test ys
times_then test [] ys = none_first (times test ys) where
  none_first : (n : ℕ) → n ≡ 0 + n
  none_first n = omega arith
times_then test (x ∷ xs) ys = ap (λ z. cond (test x) 1 0 + z) (times_then test xs ys) ∙ regroup (cond (test x) 1 0) (times test xs) (times test ys) where
  regroup : (a b c : ℕ) → a + (b + c) ≡ (a + b) + c
  regroup a b c = omega arith

one_last : (test : Change → Bool) (xs : List Change) (x : Change) → times test (xs ++ x ∷ []) ≡ times test xs + cond (test x) 1 0
one_last test xs x = times_then test xs (x ∷ []) ∙ drop_zero (times test xs) (cond (test x) 1 0) where
  drop_zero : (a b : ℕ) → a + (b + 0) ≡ a + b
  drop_zero a b = omega arith

none_last : (test : Change → Bool) (xs : List Change) → times test (xs ++ []) ≡ times test xs
none_last test [] = refl
none_last test (x ∷ xs) = ap (λ z. cond (test x) 1 0 + z) (none_last test xs)

put_more : (b : Bool) (m n : ℕ) → m ≡ n → m + cond b 1 0 ≡ cond (b && true) (n + 1) n
put_more true m n e = omega (arith, e)
put_more false m n e = omega (arith, e)

free_more : (b : Bool) (m n : ℕ) → m ≡ n → m ≡ cond (b && false) (n + 1) n
free_more true m n e = e
free_more false m n e = e

set_more : (b : Bool) (m n : ℕ) → m ≡ n → m + cond b 1 0 ≡ cond b (n + 1) n
set_more true m n e = omega (arith, e)
set_more false m n e = omega (arith, e)

-- the publications of a row
wrote : (notes : List Note) (row at v n : ℕ) → times (is_of row) (writes notes) ≡ n → times (is_of row) (writes (notes ++ Wrote at v ∷ [])) ≡ cond ((at == row) && true) (n + 1) n
wrote notes row at v n e = ap (times (is_of row)) (writes_then notes (Wrote at v ∷ [])) ∙ (one_last (is_of row) (writes notes) (change_at at v) ∙ put_more (at == row) (times (is_of row) (writes notes)) n e)

not_wrote : (notes note : List Note) (row n : ℕ) → writes note ≡ [] → times (is_of row) (writes notes) ≡ n → times (is_of row) (writes (notes ++ note)) ≡ n
not_wrote notes note row n none e = ap (times (is_of row)) (writes_then notes note ∙ ap (λ z. writes notes ++ z) none) ∙ (none_last (is_of row) (writes notes) ∙ e)

pub puts_are : (calls : List Call) (row : ℕ) → times (is_of row) (writes (all_told calls)) ≡ count (changes_of calls) row
unfolding all_told changes_of count
puts_are [] row = refl
puts_are (Adds at amount (Counted r v) ∷ calls) row = wrote (all_told calls) row r v (count (changes_of calls) row) (puts_are calls row)
puts_are (Adds at amount (Held r v w) ∷ calls) row = not_wrote (all_told calls) (told (Adds at amount (Held r v w))) row (count (changes_of calls) row) refl (puts_are calls row)
puts_are (Rings at content (Done v) ∷ calls) row = wrote (all_told calls) row at v (count (changes_of calls) row) (puts_are calls row)
puts_are (Rings at content (Busy v w) ∷ calls) row = not_wrote (all_told calls) (told (Rings at content (Busy v w))) row (count (changes_of calls) row) refl (puts_are calls row)
puts_are (Rings at content (Late t v) ∷ calls) row = not_wrote (all_told calls) (told (Rings at content (Late t v))) row (count (changes_of calls) row) refl (puts_are calls row)
puts_are (Reads at (seen.Whole version content) ∷ calls) row = not_wrote (all_told calls) (told (Reads at (seen.Whole version content))) row (count (changes_of calls) row) refl (puts_are calls row)
puts_are (Reads at (seen.Free word) ∷ calls) row = not_wrote (all_told calls) (told (Reads at (seen.Free word))) row (count (changes_of calls) row) refl (puts_are calls row)
puts_are (Reads at (seen.Busy first second) ∷ calls) row = not_wrote (all_told calls) (told (Reads at (seen.Busy first second))) row (count (changes_of calls) row) refl (puts_are calls row)
puts_are (Loads at v found ∷ calls) row = not_wrote (all_told calls) (told (Loads at v found)) row (count (changes_of calls) row) refl (puts_are calls row)
puts_are (Draws kind ticket ∷ calls) row = not_wrote (all_told calls) [] row (count (changes_of calls) row) refl (puts_are calls row)
puts_are (Meets versions ∷ calls) row = not_wrote (all_told calls) [] row (count (changes_of calls) row) refl (puts_are calls row)
puts_are (Takes at v found ∷ calls) row = not_wrote (all_told calls) [] row (count (changes_of calls) row) refl (puts_are calls row)
puts_are (Puts at content v ∷ calls) row = wrote (all_told calls) row at v (count (changes_of calls) row) (puts_are calls row)
puts_are (Frees at v ∷ calls) row = free_more (at == row) _ (count (changes_of calls) row) (not_wrote (all_told calls) (told (Frees at v)) row (count (changes_of calls) row) refl (puts_are calls row))
puts_are (Sets at to v ∷ calls) row = not_wrote (all_told calls) (told (Sets at to v)) row (count (changes_of calls) row) refl (puts_are calls row)
puts_are (Enters label labels ∷ calls) row = not_wrote (all_told calls) (told (Enters label labels)) row (count (changes_of calls) row) refl (puts_are calls row)
puts_are (Leaves ∷ calls) row = not_wrote (all_told calls) [] row (count (changes_of calls) row) refl (puts_are calls row)

-- the sets of a word
not_set : (notes note : List Note) (at n : ℕ) → switches note ≡ [] → times (is_of at) (switches notes) ≡ n → times (is_of at) (switches (notes ++ note)) ≡ n
not_set notes note at n none e = ap (times (is_of at)) (switches_then notes note ∙ ap (λ z. switches notes ++ z) none) ∙ (none_last (is_of at) (switches notes) ∙ e)

pub sets_are : (calls : List Call) (at : ℕ) → times (is_of at) (switches (all_told calls)) ≡ word_version (sets_of calls) at
unfolding all_told sets_of word_version
sets_are [] at = refl
sets_are (Sets word to v ∷ calls) at =
    ap (times (is_of at)) (switches_then (all_told calls) (told (Sets word to v)))
    ∙ (one_last (is_of at) (switches (all_told calls)) (change_at word v) ∙ set_more (word == at) (times (is_of at) (switches (all_told calls))) (word_version (sets_of calls) at) (sets_are calls at))
sets_are (Adds row amount (Counted r v) ∷ calls) at = not_set (all_told calls) (told (Adds row amount (Counted r v))) at (word_version (sets_of calls) at) refl (sets_are calls at)
sets_are (Adds row amount (Held r v w) ∷ calls) at = not_set (all_told calls) (told (Adds row amount (Held r v w))) at (word_version (sets_of calls) at) refl (sets_are calls at)
sets_are (Rings row content (Done v) ∷ calls) at = not_set (all_told calls) (told (Rings row content (Done v))) at (word_version (sets_of calls) at) refl (sets_are calls at)
sets_are (Rings row content (Busy v w) ∷ calls) at = not_set (all_told calls) (told (Rings row content (Busy v w))) at (word_version (sets_of calls) at) refl (sets_are calls at)
sets_are (Rings row content (Late t v) ∷ calls) at = not_set (all_told calls) (told (Rings row content (Late t v))) at (word_version (sets_of calls) at) refl (sets_are calls at)
sets_are (Reads row (seen.Whole version content) ∷ calls) at = not_set (all_told calls) (told (Reads row (seen.Whole version content))) at (word_version (sets_of calls) at) refl (sets_are calls at)
sets_are (Reads row (seen.Free word) ∷ calls) at = not_set (all_told calls) (told (Reads row (seen.Free word))) at (word_version (sets_of calls) at) refl (sets_are calls at)
sets_are (Reads row (seen.Busy first second) ∷ calls) at = not_set (all_told calls) (told (Reads row (seen.Busy first second))) at (word_version (sets_of calls) at) refl (sets_are calls at)
sets_are (Loads word v found ∷ calls) at = not_set (all_told calls) (told (Loads word v found)) at (word_version (sets_of calls) at) refl (sets_are calls at)
sets_are (Draws kind ticket ∷ calls) at = not_set (all_told calls) [] at (word_version (sets_of calls) at) refl (sets_are calls at)
sets_are (Meets versions ∷ calls) at = not_set (all_told calls) [] at (word_version (sets_of calls) at) refl (sets_are calls at)
sets_are (Takes row v found ∷ calls) at = not_set (all_told calls) [] at (word_version (sets_of calls) at) refl (sets_are calls at)
sets_are (Puts row content v ∷ calls) at = not_set (all_told calls) (told (Puts row content v)) at (word_version (sets_of calls) at) refl (sets_are calls at)
sets_are (Frees row v ∷ calls) at = not_set (all_told calls) (told (Frees row v)) at (word_version (sets_of calls) at) refl (sets_are calls at)
sets_are (Enters label labels ∷ calls) at = not_set (all_told calls) (told (Enters label labels)) at (word_version (sets_of calls) at) refl (sets_are calls at)
sets_are (Leaves ∷ calls) at = not_set (all_told calls) [] at (word_version (sets_of calls) at) refl (sets_are calls at)

-- the releases of a row at a version
abbrev freed_by : At → ℕ → ℕ → ℕ
freed_by x row k = one_if ((x.row == row) && not x.puts && (x.version == k))

abbrev freed_in : List At → ℕ → ℕ → ℕ
freed_in log row k = total (λ x. freed_by x row k) log

put_frees : (b c : Bool) (m n : ℕ) → m ≡ n → m ≡ one_if (b && false && c) + n
put_frees true c m n e = omega (arith, e)
put_frees false c m n e = omega (arith, e)

free_frees : (b c : Bool) (m n : ℕ) → m ≡ n → m + cond (b && c) 1 0 ≡ one_if (b && true && c) + n
free_frees true true m n e = omega (arith, e)
free_frees true false m n e = omega (arith, e)
free_frees false c m n e = omega (arith, e)

not_freed : (notes note : List Note) (row k n : ℕ) → releases note ≡ [] → times (is_that (change_at row k)) (releases notes) ≡ n → times (is_that (change_at row k)) (releases (notes ++ note)) ≡ n
not_freed notes note row k n none e = ap (times (is_that (change_at row k))) (releases_then notes note ∙ ap (λ z. releases notes ++ z) none) ∙ (none_last (is_that (change_at row k)) (releases notes) ∙ e)

frees_are : (calls : List Call) (row k : ℕ) → times (is_that (change_at row k)) (releases (all_told calls)) ≡ freed_in (changes_of calls) row k
unfolding all_told changes_of total
frees_are [] row k = refl
frees_are (Frees at v ∷ calls) row k =
    ap (times (is_that (change_at row k))) (releases_then (all_told calls) (told (Frees at v)))
    ∙ (one_last (is_that (change_at row k)) (releases (all_told calls)) (change_at at v) ∙ free_frees (at == row) (v == k) (times (is_that (change_at row k)) (releases (all_told calls))) (freed_in (changes_of calls) row k) (frees_are calls row k))
frees_are (Adds at amount (Counted r v) ∷ calls) row k = put_frees (r == row) (v == k) _ (freed_in (changes_of calls) row k) (not_freed (all_told calls) (told (Adds at amount (Counted r v))) row k (freed_in (changes_of calls) row k) refl (frees_are calls row k))
frees_are (Adds at amount (Held r v w) ∷ calls) row k = not_freed (all_told calls) (told (Adds at amount (Held r v w))) row k (freed_in (changes_of calls) row k) refl (frees_are calls row k)
frees_are (Rings at content (Done v) ∷ calls) row k = put_frees (at == row) (v == k) _ (freed_in (changes_of calls) row k) (not_freed (all_told calls) (told (Rings at content (Done v))) row k (freed_in (changes_of calls) row k) refl (frees_are calls row k))
frees_are (Rings at content (Busy v w) ∷ calls) row k = not_freed (all_told calls) (told (Rings at content (Busy v w))) row k (freed_in (changes_of calls) row k) refl (frees_are calls row k)
frees_are (Rings at content (Late t v) ∷ calls) row k = not_freed (all_told calls) (told (Rings at content (Late t v))) row k (freed_in (changes_of calls) row k) refl (frees_are calls row k)
frees_are (Reads at (seen.Whole version content) ∷ calls) row k = not_freed (all_told calls) (told (Reads at (seen.Whole version content))) row k (freed_in (changes_of calls) row k) refl (frees_are calls row k)
frees_are (Reads at (seen.Free word) ∷ calls) row k = not_freed (all_told calls) (told (Reads at (seen.Free word))) row k (freed_in (changes_of calls) row k) refl (frees_are calls row k)
frees_are (Reads at (seen.Busy first second) ∷ calls) row k = not_freed (all_told calls) (told (Reads at (seen.Busy first second))) row k (freed_in (changes_of calls) row k) refl (frees_are calls row k)
frees_are (Loads at v found ∷ calls) row k = not_freed (all_told calls) (told (Loads at v found)) row k (freed_in (changes_of calls) row k) refl (frees_are calls row k)
frees_are (Draws kind ticket ∷ calls) row k = not_freed (all_told calls) [] row k (freed_in (changes_of calls) row k) refl (frees_are calls row k)
frees_are (Meets versions ∷ calls) row k = not_freed (all_told calls) [] row k (freed_in (changes_of calls) row k) refl (frees_are calls row k)
frees_are (Takes at v found ∷ calls) row k = not_freed (all_told calls) [] row k (freed_in (changes_of calls) row k) refl (frees_are calls row k)
frees_are (Puts at content v ∷ calls) row k = put_frees (at == row) (v == k) _ (freed_in (changes_of calls) row k) (not_freed (all_told calls) (told (Puts at content v)) row k (freed_in (changes_of calls) row k) refl (frees_are calls row k))
frees_are (Sets at to v ∷ calls) row k = not_freed (all_told calls) (told (Sets at to v)) row k (freed_in (changes_of calls) row k) refl (frees_are calls row k)
frees_are (Enters label labels ∷ calls) row k = not_freed (all_told calls) (told (Enters label labels)) row k (freed_in (changes_of calls) row k) refl (frees_are calls row k)
frees_are (Leaves ∷ calls) row k = not_freed (all_told calls) [] row k (freed_in (changes_of calls) row k) refl (frees_are calls row k)

-- so the counts of lines that tell what calls tell
pub record AreTallied (ps : List Placed) (calls : List Call) : Type 0 where
  pub rows : (row : ℕ) → times (is_of row) (each_of row_change ps) ≡ count (changes_of calls) row
  pub words : (at : ℕ) → times (is_of at) (each_of word_change ps) ≡ word_version (sets_of calls) at
  pub free : (row : ℕ) → 0 < row → is_free_after ps row ≡ nat_lt 0 (frees_at (changes_of calls) row (count (changes_of calls) row))

opens_alike : (row : ℕ) → 0 < row → opens_free row ≡ opens_free_there row
opens_alike row up = grind (arith, nat_tests)

or_opens : (n : ℕ) (b : Bool) → (nat_lt 0 n || b) ≡ nat_lt 0 (n + one_if b)
or_opens n true = grind (arith, nat_tests)
or_opens n false = grind (arith, nat_tests)

pub tallied : (ps : List Placed) (calls : List Call) → notes_of ps ≡ all_told calls → AreTallied ps calls
tallied ps calls same =
    let p : ArePrinted ps (all_told calls) = subst (ArePrinted ps) same (are_printed ps) in
    let rows : (row : ℕ) → times (is_of row) (each_of row_change ps) ≡ count (changes_of calls) row = λ row. ap (times (is_of row)) p.rows ∙ puts_are calls row in
    record {
      rows = rows;
      words = λ at. ap (times (is_of at)) p.words ∙ sets_are calls at;
      free = λ row up.
          ap (λ z. nat_lt 0 (times (is_that (change_at row z)) (each_of release_of ps)) || ((z == 0) && opens_free row)) (rows row)
          ∙ (ap (λ z. nat_lt 0 z || ((count (changes_of calls) row == 0) && opens_free row)) (ap (times (is_that (change_at row (count (changes_of calls) row)))) p.freed ∙ frees_are calls row (count (changes_of calls) row))
          ∙ (ap (λ b. nat_lt 0 (freed_in (changes_of calls) row (count (changes_of calls) row)) || ((count (changes_of calls) row == 0) && b)) (opens_alike row up)
          ∙ or_opens (freed_in (changes_of calls) row (count (changes_of calls) row)) ((count (changes_of calls) row == 0) && opens_free_there row)));
    }
