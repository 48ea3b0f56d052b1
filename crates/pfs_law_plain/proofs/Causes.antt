-- What nobody held or found busy has no cause to show, what was seen vacant stood free, and what is released, read or
-- loaded is there.
use Rattle.std.proofs.Common.{ℕ, ◌≡◌, ◌<◌, List, [], ◌∷◌, ◌++◌, Option, sym, subst, arith}
use Rattle.pfs_law_plain.proofs.LineAgreement.{AreQuietPlaces}
use Rattle.pfs_law_plain.proofs.QuietSessions.{IsQuiet}
use Rattle.pfs_law_plain.specs.Notes.{Note, Wrote, Freed, Found, Vacant, Refused, Overdue, Switched, Saw, Acted, notes_at, notes_of, told, all_told}
use Rattle.pfs_event.specs.declared.entry.Entry.{Entry}
use Rattle.pfs_event.specs.declared.entry.Entry.TheVariants as says
use Rattle.pfs_levels.specs.Calls.{Call, Adds, Rings, Reads, Loads, Draws, Takes, Puts, Frees, Sets, Enters, Leaves, Meets}
use Rattle.pfs_levels.specs.PlainStore.{AllAnswer}
use Rattle.pfs_levels.specs.declared.answers.Added.TheVariants.{Counted, Held}
use Rattle.pfs_levels.specs.declared.answers.RingPut.TheVariants.{Done, Busy, Late}
use Rattle.pfs_model.proofs.Floors.{Agreed, AllUpTo}
use Rattle.pfs_model.proofs.ChainGrowth.{onto}
use Rattle.pfs_model.proofs.PlainAgreement.{IsAt, is_at}
use Rattle.pfs_model.proofs.LineWalks.{Walk, Rising, rising_blocks, walk_blocks}
use Rattle.pfs_model.specs.Causes.{ShowsCause, AreCausedBehind, AreCaused}
use Rattle.pfs_model.specs.Contexts.{Context, subject_of}
use Rattle.pfs_model.specs.Floors.{IsThere, AreThere}
use Rattle.pfs_model.specs.EntryPlaces.{Block, Placed, IsShaped, places}
use Rattle.pfs_model.specs.PlainAgreement.{Agrees, AgreeBehind, IsPlain}
use Rattle.pfs_model.specs.declared.lines.Subject.{Subject}
use Rattle.pfs_rows.specs.declared.table.Seen.TheVariants as seen
use Rattle.pfs_law_plain.proofs.VacantRows.{was_free}

shows : (earlier : List Placed) (p : Placed) (ps : List Placed) (e : Entry) → IsAt earlier p ps → IsQuiet e → Agrees earlier e → ShowsCause (onto earlier (p ∷ ps)) earlier p e
shows earlier p ps (says.Held row first second) i q a = absurd q
shows earlier p ps (says.Busy row first second) i q a = absurd q
shows earlier p ps (says.Late row ticket greater) i q a = absurd q
shows earlier p ps (says.Vacant row) i q a = was_free row earlier p ps i a
shows earlier p ps _ i q a = tt

caused_behind : (phase : ℕ) (earlier ps : List Placed) → Agreed earlier → AgreeBehind earlier ps → Walk earlier ps → Rising phase ps → AllUpTo phase earlier → AreQuietPlaces ps
    → AreCausedBehind (onto earlier ps) earlier ps
caused_behind phase earlier [] g a w r u q = tt
caused_behind phase earlier (p ∷ ps) g a w r u q =
    let i : IsAt earlier p ps = is_at phase earlier p ps g a w r u in
    (shows earlier p ps p.entry i q.0 a.0.others, caused_behind p.phase (p ∷ earlier) ps (a.0, g) a.1 w.1 r.1 i.up_to q.1)

pub caused : (blocks : List Block) → IsShaped blocks → IsPlain (places blocks) → AreQuietPlaces (places blocks) → AreCaused (places blocks)
caused blocks shaped plain q =
    let all : List Placed = places blocks in
    caused_behind 0 [] all tt plain (walk_blocks [] blocks 0 [] shaped (λ session. (omega arith, omega arith)) plain) (rising_blocks [] blocks 0 shaped) tt q

-- a release or a reading names a row of the store, and a load a word
abbrev IsThereNote : Note → Type 0
IsThereNote (Freed row version) = row < 14242
IsThereNote (Wrote row version) = Unit {0}
IsThereNote (Switched word version flags) = Unit {0}
IsThereNote (Saw word version) = word < 160
IsThereNote (Found row version) = row < 14242
IsThereNote (Vacant row) = Unit {0}
IsThereNote (Refused row first second) = Unit {0}
IsThereNote (Overdue row ticket) = Unit {0}
IsThereNote (Acted number) = Unit {0}

abbrev AreThereNotes : List Note → Type 0
AreThereNotes [] = Unit {0}
AreThereNotes (n ∷ ns) = IsThereNote n × AreThereNotes ns

there_then : (xs ys : List Note) → AreThereNotes xs → AreThereNotes ys → AreThereNotes (xs ++ ys)
there_then [] ys a b = b
there_then (x ∷ xs) ys a b = (a.0, there_then xs ys a.1 b)

there_front : (xs ys : List Note) → AreThereNotes (xs ++ ys) → AreThereNotes xs
there_front [] ys a = tt
there_front (x ∷ xs) ys a = (a.0, there_front xs ys a.1)

there_back : (xs ys : List Note) → AreThereNotes (xs ++ ys) → AreThereNotes ys
there_back [] ys a = a
there_back (x ∷ xs) ys a = there_back xs ys a.1

calls_there : (flags : List ℕ) (calls : List Call) → AllAnswer flags calls → AreThereNotes (all_told calls)
unfolding all_told
calls_there flags [] a = tt
calls_there flags (Frees row version ∷ calls) a = there_then (all_told calls) (told (Frees row version)) (calls_there flags calls a.1) (a.0.0.1, tt)
calls_there flags (Adds row amount (Counted r v) ∷ calls) a = there_then (all_told calls) (told (Adds row amount (Counted r v))) (calls_there flags calls a.1) (tt, tt)
calls_there flags (Adds row amount (Held r v w) ∷ calls) a = absurd a.0
calls_there flags (Rings row content (Done v) ∷ calls) a = there_then (all_told calls) (told (Rings row content (Done v))) (calls_there flags calls a.1) (tt, tt)
calls_there flags (Rings row content (Busy v w) ∷ calls) a = absurd a.0
calls_there flags (Rings row content (Late t v) ∷ calls) a = there_then (all_told calls) (told (Rings row content (Late t v))) (calls_there flags calls a.1) (tt, tt)
calls_there flags (Reads row (seen.Whole version content) ∷ calls) a = there_then (all_told calls) (told (Reads row (seen.Whole version content))) (calls_there flags calls a.1) (a.0.0.1, tt)
calls_there flags (Reads row (seen.Free word) ∷ calls) a = there_then (all_told calls) (told (Reads row (seen.Free word))) (calls_there flags calls a.1) (tt, tt)
calls_there flags (Reads row (seen.Busy first second) ∷ calls) a = absurd a.0
calls_there flags (Loads at v found ∷ calls) a = there_then (all_told calls) (told (Loads at v found)) (calls_there flags calls a.1) (a.0.0, tt)
calls_there flags (Draws kind ticket ∷ calls) a = there_then (all_told calls) [] (calls_there flags calls a.1) tt
calls_there flags (Takes row v found ∷ calls) a = there_then (all_told calls) [] (calls_there flags calls a.1) tt
calls_there flags (Puts row content v ∷ calls) a = there_then (all_told calls) (told (Puts row content v)) (calls_there flags calls a.1) (tt, tt)
calls_there flags (Sets at to v ∷ calls) a = there_then (all_told calls) (told (Sets at to v)) (calls_there flags calls a.1) (tt, tt)
calls_there flags (Enters label labels ∷ calls) a = there_then (all_told calls) (told (Enters label labels)) (calls_there flags calls a.1) (tt, tt)
calls_there flags (Leaves ∷ calls) a = there_then (all_told calls) [] (calls_there flags calls a.1) tt
calls_there flags (Meets versions ∷ calls) a = absurd a.0

entry_there : (subject : Option Subject) (context : Context) (e : Entry) → IsQuiet e → AreThereNotes (notes_at subject context e) → IsThere e
entry_there subject context (says.Free row version) q n = n.0
entry_there subject context (says.Seen row version) q n = n.0
entry_there subject context (says.Saw word version) q n = n.0
entry_there subject context _ q n = tt

places_there : (ps : List Placed) → AreQuietPlaces ps → AreThereNotes (notes_of ps) → AreThere ps
places_there [] q n = tt
places_there (p ∷ ps) q n =
    let own : List Note = notes_at (subject_of p.line) p.context p.entry in
    (entry_there (subject_of p.line) p.context p.entry q.0 (there_front own (notes_of ps) n), places_there ps q.1 (there_back own (notes_of ps) n))

pub there : (flags : List ℕ) (ps : List Placed) (calls : List Call) → AreQuietPlaces ps → notes_of ps ≡ all_told calls → AllAnswer flags calls → AreThere ps
there flags ps calls q same answers = places_there ps q (subst AreThereNotes (sym same) (calls_there flags calls answers))
