-- What is printed weighs as what was called.
use Rattle.std.proofs.Common.{ℕ, ◌≡◌, ◌+◌, List, [], ◌∷◌, ◌++◌, Option, refl, ap, sym, ◌∙◌, arith}
use Rattle.pfs_event.specs.declared.entry.Entry.{Entry}
use Rattle.pfs_event.specs.declared.entry.Entry.TheVariants as says
use Rattle.pfs_levels.specs.Calls.{Call, Adds, Rings, Reads, Loads, Draws, Takes, Puts, Frees, Sets, Enters, Leaves, Meets}
use Rattle.pfs_levels.specs.JointCalls.{total, At, at_put, at_free, changes_of, Setting, sets_of}
use Rattle.pfs_levels.specs.declared.answers.Added.TheVariants.{Counted, Held}
use Rattle.pfs_levels.specs.declared.answers.RingPut.TheVariants.{Done, Busy, Late}
use Rattle.pfs_model.specs.Actions.{settings_of, setting_at}
use Rattle.pfs_model.specs.Chains.{row_change, release_of, each_of}
use Rattle.pfs_model.specs.Contexts.{Context, subject_of}
use Rattle.pfs_model.specs.EntryPlaces.{Placed, placed_lines, by_session, places}
use Rattle.pfs_model.specs.SetupFlags.{loads_at}
use Rattle.pfs_model.specs.declared.changes.Change.{Change}
use Rattle.pfs_model.specs.declared.lines.Subject.{Subject}
use Rattle.pfs_rows.specs.declared.table.Seen.TheVariants as seen
use Rattle.pfs_session.specs.Turns.{Step, StartsEvent, EndsEvent, Spends, SettlesHeld, Connects, Quits, Truncates, Changes, Inquires, Turn, turns_calls}
use Rattle.pfs_law_session.specs.Deeds.{Part, part_calls, parts_calls}
use Rattle.pfs_law_session.specs.JournalLaws.{lines_of, entries_of}
use Rattle.pfs_law_session.specs.Stints.{blocks_of, parts_by}
use Rattle.pfs_law_plain.specs.Notes.{Note, Wrote, Freed, Found, Vacant, Refused, Overdue, Switched, Saw, Acted, saw_all, notes_at, notes_of, told, all_told}
use Rattle.pfs_law_plain.specs.SessionNotes.{head_of, turns_notes, parts_notes}
use Rattle.pfs_law_plain.specs.Weights.{put_at, free_at, setting_of, AreWeighed, WeighedLaw, WeighedThroughLaw}
use Rattle.pfs_law_plain.proofs.InnerEntries.{told_then}
use Rattle.pfs_law_plain.proofs.LineNotes.{told_all, told_through}

total_then : {A : Type 0} (h : A → ℕ) (xs ys : List A) → total h (xs ++ ys) ≡ total h xs + total h ys
unfolding total
total_then h [] ys = omega arith
total_then h (x ∷ xs) ys = omega (arith, total_then h xs ys)

abbrev of_row : (At → ℕ) → Note → ℕ
of_row h (Wrote row version) = h (at_put row version)
of_row h (Freed row version) = h (at_free row version)
of_row h (Found row version) = 0
of_row h (Vacant row) = 0
of_row h (Refused row first second) = 0
of_row h (Overdue row ticket) = 0
of_row h (Switched word version flags) = 0
of_row h (Saw word version) = 0
of_row h (Acted number) = 0

abbrev of_set : (Setting → ℕ) → Note → ℕ
of_set h (Switched word version flags) = h (record { word = word; version = version; flags = flags })
of_set h (Wrote row version) = 0
of_set h (Freed row version) = 0
of_set h (Found row version) = 0
of_set h (Vacant row) = 0
of_set h (Refused row first second) = 0
of_set h (Overdue row ticket) = 0
of_set h (Saw word version) = 0
of_set h (Acted number) = 0

-- loads weigh nothing
saw_rows : (h : At → ℕ) (loads : List Change) → total (of_row h) (saw_all loads) ≡ 0
unfolding total
saw_rows h [] = refl
saw_rows h (l ∷ ls) = omega (arith, saw_rows h ls)

saw_sets : (h : Setting → ℕ) (loads : List Change) → total (of_set h) (saw_all loads) ≡ 0
unfolding total
saw_sets h [] = refl
saw_sets h (l ∷ ls) = omega (arith, saw_sets h ls)

entry_rows : (h : At → ℕ) (subject : Option Subject) (context : Context) (e : Entry)
    → total (of_row h) (notes_at subject context e) ≡ total (λ c. h (put_at c)) (row_change e) + total (λ c. h (free_at c)) (release_of e)
unfolding total
entry_rows h subject context (says.Start event verdict consumers thread class table) = saw_rows h (loads_at subject context (says.Start event verdict consumers thread class table))
entry_rows h subject context (says.End event last consumers thread) = saw_rows h (loads_at subject context (says.End event last consumers thread))
entry_rows h subject context (says.Add row version) = omega arith
entry_rows h subject context (says.Ring row version) = omega arith
entry_rows h subject context (says.Long row version ticket) = omega arith
entry_rows h subject context (says.Take row version) = omega arith
entry_rows h subject context (says.Give row version from) = omega arith
entry_rows h subject context (says.Tag row version) = omega arith
entry_rows h subject context (says.Free row version) = omega arith
entry_rows h subject context _ = refl

entry_sets : (h : Setting → ℕ) (action : ℕ) (subject : Option Subject) (context : Context) (e : Entry)
    → total (of_set h) (notes_at subject context e) ≡ total (λ s. h (setting_of s)) (setting_at action e)
unfolding total
entry_sets h action subject context (says.Start event verdict consumers thread class table) = saw_sets h (loads_at subject context (says.Start event verdict consumers thread class table))
entry_sets h action subject context (says.End event last consumers thread) = saw_sets h (loads_at subject context (says.End event last consumers thread))
entry_sets h action subject context _ = refl

places_rows : (h : At → ℕ) (ps : List Placed) → total (of_row h) (notes_of ps) ≡ total (λ c. h (put_at c)) (each_of row_change ps) + total (λ c. h (free_at c)) (each_of release_of ps)
unfolding total
places_rows h [] = refl
places_rows h (p ∷ ps) =
    let notes = notes_at (subject_of p.line) p.context p.entry in
    let a = total_then (of_row h) notes (notes_of ps) in
    let b = total_then (λ c. h (put_at c)) (row_change p.entry) (each_of row_change ps) in
    let c = total_then (λ c. h (free_at c)) (release_of p.entry) (each_of release_of ps) in
    omega (arith, a, b, c, entry_rows h (subject_of p.line) p.context p.entry, places_rows h ps)

places_sets : (h : Setting → ℕ) (ps : List Placed) → total (of_set h) (notes_of ps) ≡ total (λ s. h (setting_of s)) (settings_of ps)
unfolding total
places_sets h [] = refl
places_sets h (p ∷ ps) =
    let notes = notes_at (subject_of p.line) p.context p.entry in
    let a = total_then (of_set h) notes (notes_of ps) in
    let b = total_then (λ s. h (setting_of s)) (setting_at p.context.action p.entry) (settings_of ps) in
    omega (arith, a, b, entry_sets h p.context.action (subject_of p.line) p.context p.entry, places_sets h ps)

-- calls
more_rows : (h : At → ℕ) (calls : List Call) (ns : List Note) (n m : ℕ) → total (of_row h) (all_told calls) ≡ m → total (of_row h) ns ≡ n → total (of_row h) (all_told calls ++ ns) ≡ n + m
more_rows h calls ns n m e f = let t = total_then (of_row h) (all_told calls) ns in omega (arith, t, e, f)

same_rows : (h : At → ℕ) (calls : List Call) (ns : List Note) (m : ℕ) → total (of_row h) (all_told calls) ≡ m → total (of_row h) ns ≡ 0 → total (of_row h) (all_told calls ++ ns) ≡ m
same_rows h calls ns m e f = let t = total_then (of_row h) (all_told calls) ns in omega (arith, t, e, f)

calls_rows : (h : At → ℕ) (calls : List Call) → total (of_row h) (all_told calls) ≡ total h (changes_of calls)
unfolding total all_told changes_of
calls_rows h [] = refl
calls_rows h (Adds at amount (Counted r v) ∷ calls) = more_rows h calls (told (Adds at amount (Counted r v))) (h (at_put r v)) _ (calls_rows h calls) (omega arith)
calls_rows h (Adds at amount (Held r v w) ∷ calls) = same_rows h calls (told (Adds at amount (Held r v w))) _ (calls_rows h calls) refl
calls_rows h (Rings at content (Done v) ∷ calls) = more_rows h calls (told (Rings at content (Done v))) (h (at_put at v)) _ (calls_rows h calls) (omega arith)
calls_rows h (Rings at content (Busy v w) ∷ calls) = same_rows h calls (told (Rings at content (Busy v w))) _ (calls_rows h calls) refl
calls_rows h (Rings at content (Late t v) ∷ calls) = same_rows h calls (told (Rings at content (Late t v))) _ (calls_rows h calls) refl
calls_rows h (Reads at (seen.Whole v found) ∷ calls) = same_rows h calls (told (Reads at (seen.Whole v found))) _ (calls_rows h calls) refl
calls_rows h (Reads at (seen.Free w) ∷ calls) = same_rows h calls (told (Reads at (seen.Free w))) _ (calls_rows h calls) refl
calls_rows h (Reads at (seen.Busy v w) ∷ calls) = same_rows h calls (told (Reads at (seen.Busy v w))) _ (calls_rows h calls) refl
calls_rows h (Loads at v found ∷ calls) = same_rows h calls (told (Loads at v found)) _ (calls_rows h calls) refl
calls_rows h (Draws kind ticket ∷ calls) = same_rows h calls [] _ (calls_rows h calls) refl
calls_rows h (Meets versions ∷ calls) = same_rows h calls [] _ (calls_rows h calls) refl
calls_rows h (Takes at v found ∷ calls) = same_rows h calls [] _ (calls_rows h calls) refl
calls_rows h (Puts at content v ∷ calls) = more_rows h calls (told (Puts at content v)) (h (at_put at v)) _ (calls_rows h calls) (omega arith)
calls_rows h (Frees at v ∷ calls) = more_rows h calls (told (Frees at v)) (h (at_free at v)) _ (calls_rows h calls) (omega arith)
calls_rows h (Sets at to v ∷ calls) = same_rows h calls (told (Sets at to v)) _ (calls_rows h calls) refl
calls_rows h (Enters label labels ∷ calls) = same_rows h calls (told (Enters label labels)) _ (calls_rows h calls) refl
calls_rows h (Leaves ∷ calls) = same_rows h calls [] _ (calls_rows h calls) refl

more_sets : (h : Setting → ℕ) (calls : List Call) (ns : List Note) (n m : ℕ) → total (of_set h) (all_told calls) ≡ m → total (of_set h) ns ≡ n → total (of_set h) (all_told calls ++ ns) ≡ n + m
more_sets h calls ns n m e f = let t = total_then (of_set h) (all_told calls) ns in omega (arith, t, e, f)

same_sets : (h : Setting → ℕ) (calls : List Call) (ns : List Note) (m : ℕ) → total (of_set h) (all_told calls) ≡ m → total (of_set h) ns ≡ 0 → total (of_set h) (all_told calls ++ ns) ≡ m
same_sets h calls ns m e f = let t = total_then (of_set h) (all_told calls) ns in omega (arith, t, e, f)

calls_sets : (h : Setting → ℕ) (calls : List Call) → total (of_set h) (all_told calls) ≡ total h (sets_of calls)
unfolding total all_told sets_of
calls_sets h [] = refl
calls_sets h (Adds at amount (Counted r v) ∷ calls) = same_sets h calls (told (Adds at amount (Counted r v))) _ (calls_sets h calls) refl
calls_sets h (Adds at amount (Held r v w) ∷ calls) = same_sets h calls (told (Adds at amount (Held r v w))) _ (calls_sets h calls) refl
calls_sets h (Rings at content (Done v) ∷ calls) = same_sets h calls (told (Rings at content (Done v))) _ (calls_sets h calls) refl
calls_sets h (Rings at content (Busy v w) ∷ calls) = same_sets h calls (told (Rings at content (Busy v w))) _ (calls_sets h calls) refl
calls_sets h (Rings at content (Late t v) ∷ calls) = same_sets h calls (told (Rings at content (Late t v))) _ (calls_sets h calls) refl
calls_sets h (Reads at (seen.Whole v found) ∷ calls) = same_sets h calls (told (Reads at (seen.Whole v found))) _ (calls_sets h calls) refl
calls_sets h (Reads at (seen.Free w) ∷ calls) = same_sets h calls (told (Reads at (seen.Free w))) _ (calls_sets h calls) refl
calls_sets h (Reads at (seen.Busy v w) ∷ calls) = same_sets h calls (told (Reads at (seen.Busy v w))) _ (calls_sets h calls) refl
calls_sets h (Loads at v found ∷ calls) = same_sets h calls (told (Loads at v found)) _ (calls_sets h calls) refl
calls_sets h (Draws kind ticket ∷ calls) = same_sets h calls [] _ (calls_sets h calls) refl
calls_sets h (Meets versions ∷ calls) = same_sets h calls [] _ (calls_sets h calls) refl
calls_sets h (Takes at v found ∷ calls) = same_sets h calls [] _ (calls_sets h calls) refl
calls_sets h (Puts at content v ∷ calls) = same_sets h calls (told (Puts at content v)) _ (calls_sets h calls) refl
calls_sets h (Frees at v ∷ calls) = same_sets h calls (told (Frees at v)) _ (calls_sets h calls) refl
calls_sets h (Sets at to v ∷ calls) = more_sets h calls (told (Sets at to v)) (h (record { word = at; version = v; flags = to })) _ (calls_sets h calls) (omega arith)
calls_sets h (Enters label labels ∷ calls) = same_sets h calls (told (Enters label labels)) _ (calls_sets h calls) refl
calls_sets h (Leaves ∷ calls) = same_sets h calls [] _ (calls_sets h calls) refl

-- parts
weigh_then : (w : Note → ℕ) (xs ys : List Call) → total w (all_told (xs ++ ys)) ≡ total w (all_told ys) + total w (all_told xs)
weigh_then w xs ys = ap (total w) (told_then xs ys) ∙ total_then w (all_told ys) (all_told xs)

head_weighs : (w : Note → ℕ) → ((number : ℕ) → w (Acted number) ≡ 0) → (step : Step) → total w (head_of step) ≡ 0
unfolding total
head_weighs w none (Connects admin user host) = omega (arith, none (admin.actions + 1))
head_weighs w none (Quits admin) = omega (arith, none (admin.actions + 1))
head_weighs w none (Truncates admin what) = omega (arith, none (admin.actions + 1))
head_weighs w none (Changes admin what) = omega (arith, none (admin.actions + 1))
head_weighs w none (Inquires what) = refl
head_weighs w none (StartsEvent subject) = refl
head_weighs w none (EndsEvent numbers) = refl
head_weighs w none (Spends time) = refl
head_weighs w none SettlesHeld = refl

turns_weigh : (w : Note → ℕ) → ((number : ℕ) → w (Acted number) ≡ 0) → (turns : List Turn) → total w (turns_notes turns) ≡ total w (all_told (turns_calls turns))
unfolding total all_told
turns_weigh w none [] = refl
turns_weigh w none (t ∷ ts) =
    let a = total_then w (turns_notes ts) (head_of t.step ++ all_told t.calls) in
    let b = total_then w (head_of t.step) (all_told t.calls) in
    omega (arith, a, b, head_weighs w none t.step, turns_weigh w none ts, weigh_then w t.calls (turns_calls ts))

parts_weigh : (w : Note → ℕ) → ((number : ℕ) → w (Acted number) ≡ 0) → (parts : List Part) → total w (parts_notes parts) ≡ total w (all_told (parts_calls parts))
unfolding total all_told
parts_weigh w none [] = refl
parts_weigh w none (p ∷ ps) =
    let a = total_then w (turns_notes p.turns) (parts_notes ps) in
    omega (arith, a, turns_weigh w none p.turns, parts_weigh w none ps, weigh_then w (parts_calls ps) (part_calls p))

weighed_where : (all : List Placed) (parts : List Part) → notes_of all ≡ parts_notes parts → AreWeighed all (parts_calls parts)
weighed_where all parts same = record {
  rows = λ h. sym (places_rows h all) ∙ (ap (total (of_row h)) same ∙ (parts_weigh (of_row h) (λ number. refl) parts ∙ calls_rows h (parts_calls parts)));
  sets = λ h. sym (places_sets h all) ∙ (ap (total (of_set h)) same ∙ (parts_weigh (of_set h) (λ number. refl) parts ∙ calls_sets h (parts_calls parts)));
}

pub weighed : WeighedLaw
weighed = λ phase session context s parts sits are.
    weighed_where (placed_lines phase session context (lines_of parts) (entries_of parts)) parts ((told_all context s parts sits are).same phase session)

pub weighed_through : WeighedThroughLaw
weighed_through = λ stack depths session stints are.
    weighed_where (by_session session (places (blocks_of stints))) (parts_by session stints) (told_through stack depths session stints are)
