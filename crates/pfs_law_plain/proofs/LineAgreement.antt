-- Lines whose notes go each by those before it agree each with those before it.
use Rattle.std.proofs.Common.{ℕ, ◌≡◌, ◌+◌, List, [], ◌∷◌, ◌++◌, Option, refl, ap, sym, ◌∙◌}
use Rattle.pfs_event.specs.declared.entry.Entry.{Entry}
use Rattle.pfs_event.specs.declared.entry.Entry.TheVariants as says
use Rattle.pfs_model.specs.declared.changes.Change.{Change}
use Rattle.pfs_model.specs.declared.lines.Subject.{Subject}
use Rattle.pfs_model.specs.Chains.{row_change, word_change, action_change, change_at, each_of}
use Rattle.pfs_model.specs.Contexts.{Context, subject_of}
use Rattle.pfs_model.specs.EntryPlaces.{Placed}
use Rattle.pfs_model.specs.PlainAgreement.{last_of, tickets_at, stands_free, is_free, AreNext, AreLast, Agrees, AgreeBehind}
use Rattle.pfs_model.specs.Rings.{Ticketed, ticketed_at}
use Rattle.pfs_law_plain.proofs.TicketDraws.{AreNextTickets}
use Rattle.pfs_model.specs.SetupFlags.{loads_at}
use Rattle.pfs_law_plain.specs.Notes.{Note, Saw, saw_all, notes_at, notes_of}
use Rattle.pfs_law_plain.proofs.NextNotes.{writes, switches, acts, free_in, AreNextNotes, behind, next_front, next_back, saw_writes, saw_switches, saw_acts, saw_free}
use Rattle.pfs_law_plain.proofs.QuietSessions.{IsQuiet}

abbrev pub AreQuietPlaces : List Placed → Type 0
AreQuietPlaces [] = Unit {0}
AreQuietPlaces (p ∷ ps) = IsQuiet p.entry × AreQuietPlaces ps

-- notes, newest first, tell what the lines before tell
pub record IsBefore (before : List Note) (earlier : List Placed) : Type 0 where
  pub rows : writes before ≡ each_of row_change earlier
  pub words : switches before ≡ each_of word_change earlier
  pub numbers : acts before ≡ each_of action_change earlier
  pub free : (row : ℕ) → free_in before row ≡ is_free earlier row

-- what an entry adds to each
record Adds (before : List Note) (notes : List Note) (entry : Entry) : Type 0 where
  pub rows : writes (behind before notes) ≡ row_change entry ++ writes before
  pub words : switches (behind before notes) ≡ word_change entry ++ switches before
  pub numbers : acts (behind before notes) ≡ action_change entry ++ acts before
  pub free : (row : ℕ) → free_in (behind before notes) row ≡ stands_free entry row (free_in before row)

adds : (subject : Option Subject) (context : Context) (before : List Note) (entry : Entry) → IsQuiet entry → Adds before (notes_at subject context entry) entry
adds subject context before (says.Connect action thread account user host) q = record { rows = refl; words = refl; numbers = refl; free = λ row. refl }
adds subject context before (says.Act action) q = record { rows = refl; words = refl; numbers = refl; free = λ row. refl }
adds subject context before (says.Start event verdict consumers thread class table) q =
    let loads = loads_at subject context (says.Start event verdict consumers thread class table) in
    record { rows = saw_writes before loads; words = saw_switches before loads; numbers = saw_acts before loads; free = saw_free before loads }
adds subject context before (says.End event last consumers thread) q =
    let loads = loads_at subject context (says.End event last consumers thread) in
    record { rows = saw_writes before loads; words = saw_switches before loads; numbers = saw_acts before loads; free = saw_free before loads }
adds subject context before (says.Add row version) q = record { rows = refl; words = refl; numbers = refl; free = λ row. refl }
adds subject context before (says.Ring row version) q = record { rows = refl; words = refl; numbers = refl; free = λ row. refl }
adds subject context before (says.Long row version ticket) q = record { rows = refl; words = refl; numbers = refl; free = λ row. refl }
adds subject context before (says.Take row version) q = record { rows = refl; words = refl; numbers = refl; free = λ row. refl }
adds subject context before (says.Give row version from) q = record { rows = refl; words = refl; numbers = refl; free = λ row. refl }
adds subject context before (says.Tag row version) q = record { rows = refl; words = refl; numbers = refl; free = λ row. refl }
adds subject context before (says.Free row version) q = record { rows = refl; words = refl; numbers = refl; free = λ row. refl }
adds subject context before (says.Set word version flags) q = record { rows = refl; words = refl; numbers = refl; free = λ row. refl }
adds subject context before (says.Reply number) q = record { rows = refl; words = refl; numbers = refl; free = λ row. refl }
adds subject context before (says.Error number) q = record { rows = refl; words = refl; numbers = refl; free = λ row. refl }
adds subject context before says.Query q = record { rows = refl; words = refl; numbers = refl; free = λ row. refl }
adds subject context before (says.Seen row version) q = record { rows = refl; words = refl; numbers = refl; free = λ row. refl }
adds subject context before (says.Vacant row) q = record { rows = refl; words = refl; numbers = refl; free = λ row. refl }
adds subject context before (says.Saw word version) q = record { rows = refl; words = refl; numbers = refl; free = λ row. refl }
adds subject context before (says.Rows number) q = record { rows = refl; words = refl; numbers = refl; free = λ row. refl }
adds subject context before _ q = absurd q

-- the parts of an agreement
record Meets (earlier : List Placed) (loads : List Change) (entry : Entry) : Type 0 where
  pub rows : AreNext (each_of row_change earlier) (row_change entry)
  pub words : AreNext (each_of word_change earlier) (word_change entry)
  pub numbers : AreNext (each_of action_change earlier) (action_change entry)
  pub loaded : AreLast (each_of word_change earlier) loads
  pub others : Agrees earlier entry

saw_last : (before : List Note) (changes loads : List Change) → switches before ≡ changes → AreNextNotes before (saw_all loads) → AreLast changes loads
saw_last before changes [] e n = tt
saw_last before changes (l ∷ ls) e n = (n.0 ∙ ap (last_of l.row) e, saw_last (Saw l.row l.version ∷ before) changes ls e n.1)

one_more : (v row : ℕ) (xs ys : List Change) → xs ≡ ys → v ≡ last_of row xs + 1 → v ≡ last_of row ys + 1
one_more v row xs ys e n = n ∙ ap (λ z. last_of row z + 1) e

meets : (subject : Option Subject) (context : Context) (before : List Note) (earlier : List Placed) (entry : Entry) → IsBefore before earlier → IsQuiet entry
    → AreNextNotes before (notes_at subject context entry) → AreNextTickets (each_of tickets_at earlier) (ticketed_at entry) → Meets earlier (loads_at subject context entry) entry
meets subject context before earlier (says.Connect action thread account user host) b q n t = record { rows = tt; words = tt; numbers = (one_more action 0 _ _ b.numbers n.0, tt); loaded = tt; others = tt }
meets subject context before earlier (says.Act action) b q n t = record { rows = tt; words = tt; numbers = (one_more action 0 _ _ b.numbers n.0, tt); loaded = tt; others = tt }
meets subject context before earlier (says.Start event verdict consumers thread class table) b q n t =
    record { rows = tt; words = tt; numbers = tt; loaded = saw_last before _ _ b.words n; others = tt }
meets subject context before earlier (says.End event last consumers thread) b q n t = record { rows = tt; words = tt; numbers = tt; loaded = saw_last before _ _ b.words n; others = tt }
meets subject context before earlier (says.Add row version) b q n t = record { rows = (one_more version row _ _ b.rows n.0, tt); words = tt; numbers = tt; loaded = tt; others = tt }
meets subject context before earlier (says.Ring row version) b q n t = record { rows = (one_more version row _ _ b.rows n.0, tt); words = tt; numbers = tt; loaded = tt; others = tt }
meets subject context before earlier (says.Long row version ticket) b q n t = record { rows = (one_more version row _ _ b.rows n.0, tt); words = tt; numbers = tt; loaded = tt; others = t.0 }
meets subject context before earlier (says.Take row version) b q n t = record { rows = (one_more version row _ _ b.rows n.0, tt); words = tt; numbers = tt; loaded = tt; others = tt }
meets subject context before earlier (says.Give row version from) b q n t = record { rows = (one_more version row _ _ b.rows n.0, tt); words = tt; numbers = tt; loaded = tt; others = tt }
meets subject context before earlier (says.Tag row version) b q n t = record { rows = (one_more version row _ _ b.rows n.0, tt); words = tt; numbers = tt; loaded = tt; others = tt }
meets subject context before earlier (says.Free row version) b q n t = record { rows = tt; words = tt; numbers = tt; loaded = tt; others = n.0 ∙ ap (last_of row) b.rows }
meets subject context before earlier (says.Set word version flags) b q n t = record { rows = tt; words = (one_more version word _ _ b.words n.0, tt); numbers = tt; loaded = tt; others = tt }
meets subject context before earlier (says.Reply number) b q n t = record { rows = tt; words = tt; numbers = tt; loaded = tt; others = tt }
meets subject context before earlier (says.Error number) b q n t = record { rows = tt; words = tt; numbers = tt; loaded = tt; others = tt }
meets subject context before earlier says.Query b q n t = record { rows = tt; words = tt; numbers = tt; loaded = tt; others = tt }
meets subject context before earlier (says.Seen row version) b q n t =
    record { rows = tt; words = tt; numbers = tt; loaded = tt; others = (n.0.0 ∙ ap (last_of row) b.rows, sym (b.free row) ∙ n.0.1) }
meets subject context before earlier (says.Vacant row) b q n t = record { rows = tt; words = tt; numbers = tt; loaded = tt; others = sym (b.free row) ∙ n.0 }
meets subject context before earlier (says.Saw word version) b q n t =
    record { rows = tt; words = tt; numbers = tt; loaded = saw_last before _ (change_at word version ∷ []) b.words n; others = tt }
meets subject context before earlier (says.Rows number) b q n t = record { rows = tt; words = tt; numbers = tt; loaded = tt; others = tt }
meets subject context before earlier _ b q n t = absurd q

more_before : (before : List Note) (earlier : List Placed) (p : Placed) → IsBefore before earlier → IsQuiet p.entry
    → IsBefore (behind before (notes_at (subject_of p.line) p.context p.entry)) (p ∷ earlier)
more_before before earlier p b q =
    let a = adds (subject_of p.line) p.context before p.entry q in
    record {
      rows = a.rows ∙ ap (λ z. row_change p.entry ++ z) b.rows;
      words = a.words ∙ ap (λ z. word_change p.entry ++ z) b.words;
      numbers = a.numbers ∙ ap (λ z. action_change p.entry ++ z) b.numbers;
      free = λ row. a.free row ∙ ap (stands_free p.entry row) (b.free row);
    }

-- the tickets of a line, and those behind it
front_tickets : (before : List ℕ) (e : Entry) (rest : List Ticketed) → AreNextTickets before (ticketed_at e ++ rest) → AreNextTickets before (ticketed_at e)
front_tickets before (says.Long row version ticket) rest t = (t.0, tt)
front_tickets before _ rest t = tt

back_tickets : (before : List ℕ) (e : Entry) (rest : List Ticketed) → AreNextTickets before (ticketed_at e ++ rest) → AreNextTickets (tickets_at e ++ before) rest
back_tickets before (says.Long row version ticket) rest t = t.1
back_tickets before _ rest t = t

pub agreed : (before : List Note) (earlier ps : List Placed) → IsBefore before earlier → AreQuietPlaces ps → AreNextNotes before (notes_of ps)
    → AreNextTickets (each_of tickets_at earlier) (each_of ticketed_at ps) → AgreeBehind earlier ps
agreed before earlier [] b q n t = tt
agreed before earlier (p ∷ ps) b q n t =
    let notes = notes_at (subject_of p.line) p.context p.entry in
    let m = meets (subject_of p.line) p.context before earlier p.entry b q.0 (next_front before notes (notes_of ps) n) (front_tickets (each_of tickets_at earlier) p.entry (each_of ticketed_at ps) t) in (
      record { rows = m.rows; words = m.words; numbers = m.numbers; loads = m.loaded; others = m.others },
      agreed (behind before notes) (p ∷ earlier) ps (more_before before earlier p b q.0) q.1 (next_back before notes (notes_of ps) n)
          (back_tickets (each_of tickets_at earlier) p.entry (each_of ticketed_at ps) t),
    )
