-- The lines of a block whose notes fit are floored, and show their causes.
use Rattle.std.proofs.Common.{ℕ, ◌≡◌, ◌+◌, ◌-◌, ◌/◌, ◌<◌, ◌≤◌, ◌==◌, ◌&&◌, Bool, true, false, cond, List, [], ◌∷◌, ◌++◌, Option, inl, inr, refl, ap, sym, subst, arith, eq-eqb}
use Rattle.std.specs.Prelude.{◌⊎◌, max}
use Rattle.std.proofs.Math.Nat.{max-le}
use Rattle.std.proofs.lemmas.Bool.{cases_lt, eqb-true}
use Rattle.pfs_lemmas.proofs.Bools.{and_first, and_second}
use Rattle.pfs_levels.specs.JointCalls.{one_if}
use Rattle.pfs_event.specs.declared.entry.Entry.{Entry}
use Rattle.pfs_event.specs.declared.entry.Entry.TheVariants as says
use Rattle.pfs_model.proofs.EachLists.{each_join}
use Rattle.pfs_model.proofs.Floors.{each_map, greatest_most}
use Rattle.pfs_model.specs.Actions.{IsAmong}
use Rattle.pfs_model.specs.Causes.{IsCaused, IsLate, PutsTicket, SomePuts, WasFree, SomeReleased, ShowsCause, AreCausedBehind, by_others}
use Rattle.pfs_model.specs.Chains.{Each, times, change_at, row_change, word_change, release_of, each_of, is_of, opens_free}
use Rattle.pfs_model.specs.Contexts.{Context, noted, subject_of}
use Rattle.pfs_model.specs.EntryPlaces.{Placed, placed_part, by_session, before_phase, up_to_phase}
use Rattle.pfs_model.specs.Floors.{greatest, rows_known, loads_in, by_actions, floor_of, word_floor_of, namings_of, IsAboveReleases, NamingsKeep, LoadsKeep, AreFlooredBehind}
use Rattle.pfs_model.specs.SetupFlags.{loads_at, loads_of}
use Rattle.pfs_model.specs.declared.changes.Change.{Change}
use Rattle.pfs_model.specs.declared.lines.Line.{Line}
use Rattle.pfs_model.specs.declared.lines.Subject.{Subject}
use Rattle.pfs_law_plain.specs.Notes.{Note, Saw, saw_all, notes_at, notes_of}
use Rattle.pfs_law_shared.proofs.DrawnPuts.{long_by, IsAhead}
use Rattle.pfs_law_shared.proofs.FittingNotes.{IsUp, IsOver, IsRead, IsFreed, IsLoaded, IsRefused, IsVacant, IsOverdue, Fits}
use Rattle.pfs_law_shared.proofs.NamedNotes.{onto_rows, onto_words, onto_rows_then, onto_words_then, AllFit, fit_front, fit_back}
use Rattle.pfs_law_shared.proofs.PrintedPuts.{longs_of}

-- entries that stand before the next, the last first
abbrev pub passed : List Placed → List Placed → List Placed
passed earlier [] = earlier
passed earlier (p ∷ ps) = passed (p ∷ earlier) ps

-- the greatest of two lists
pub greatest_then : (row : ℕ) (xs ys : List Change) → greatest row (xs ++ ys) ≡ max (greatest row xs) (greatest row ys)
greatest_then row [] ys = omega arith
greatest_then row (x ∷ xs) ys = regroup (cond (x.row == row) x.version 0) (greatest row xs) (greatest row ys) (greatest row (xs ++ ys)) (greatest_then row xs ys) where
  regroup : (a b c d : ℕ) → d ≡ max b c → max a d ≡ max (max a b) c
  regroup a b c d e = omega (arith, e)

module _ (all : List Placed) (phase session : ℕ) where
  -- all that the session's entries so far named is at most what stood as the phase began, or stands named in it
  abbrev pub AreBound : List Placed → List Change → List Change → Type 0
  AreBound earlier rows words =
      ((row : ℕ) → greatest row (each_of rows_known (by_session session earlier)) ≤ max (times (is_of row) (each_of row_change (before_phase phase all))) (greatest row rows))
      × ((word : ℕ) → greatest word (loads_in (by_session session earlier)) ≤ max (times (is_of word) (each_of word_change (before_phase phase all))) (greatest word words))

  module _ (line : Line) (context : Context) (earlier : List Placed) (rows words : List Change) (b : AreBound earlier rows words) where
    abbrev here : Entry → Placed
    here e = record { phase = phase; session = session; line = line; context = context; entry = e }

    abbrev done : ℕ
    done = context.done

    floor_up : (e : Entry) (row v : ℕ) → IsUp all phase session done rows row v → floor_of all earlier (here e) row ≤ v
    floor_up e row v u = max-le (max-le u.began (omega (arith, b.0 row, max-le u.began u.own))) (greatest_most row v (each_of row_change (by_actions done all)) u.given)

    floor_over : (e : Entry) (row v : ℕ) → IsOver all phase session done rows row v → floor_of all earlier (here e) row < v
    floor_over e row v u =
        let less : Each (λ c. c.row ≡ row → c.version ≤ v - 1) (each_of row_change (by_actions done all)) =
        each_map (λ c. c.row ≡ row → c.version < v) (λ c. c.row ≡ row → c.version ≤ v - 1) (λ c low at. omega (arith, low at)) (each_of row_change (by_actions done all)) u.given in
        let low : floor_of all earlier (here e) row ≤ v - 1 = floor_up e row (v - 1) (record { began = omega (arith, u.began); own = omega (arith, u.own); given = less }) in
        omega (arith, low, u.began)

    word_floor : (e : Entry) (word v : ℕ) → IsLoaded all phase session done words word v → word_floor_of all earlier (here e) word ≤ v
    word_floor e word v u = max-le (max-le u.began (omega (arith, b.1 word, max-le u.began u.own))) (greatest_most word v (each_of word_change (by_actions done all)) u.given)

    changes : (e : Entry) (row v : ℕ) → IsOver all phase session done rows row v
        → ((floor_of all earlier (here e) row < v) × IsAboveReleases all (here e) row v) × (v ≤ times (is_of row) (each_of row_change (up_to_phase phase all))) × Unit {0}
    changes e row v u = ((floor_over e row v u, record { released = u.released; stood = λ free. u.began }), u.had, tt)

    sees : (e : Entry) (row v : ℕ) → IsRead all phase session done rows row v
        → ((floor_of all earlier (here e) row ≤ v) × IsAboveReleases all (here e) row v) × (v ≤ times (is_of row) (each_of row_change (up_to_phase phase all))) × Unit {0}
    sees e row v u = ((floor_up e row v u.up, record { released = u.released; stood = u.stood }), u.had, tt)

    frees : (e : Entry) (row v : ℕ) → IsFreed all phase session done rows row v
        → (floor_of all earlier (here e) row ≤ v) × (v ≤ times (is_of row) (each_of row_change (up_to_phase phase all))) × Unit {0}
    frees e row v u = (floor_up e row v u.up, u.had, tt)

    refused : (e : Entry) (row first second : ℕ) → IsRefused all phase session done rows row first second → IsCaused all earlier (here e) row first second
    refused e row first second u =
        let low : floor_of all earlier (here e) row ≤ first / 4 = floor_up e row (first / 4) u.up in
        record {
          first_is = record { state = u.states.0; floor = low; had = omega (arith, u.rises, u.had) };
          second_is = record { state = u.states.1; floor = omega (arith, low, u.rises); had = u.had };
          words = u.words;
          between = u.between;
          first_held = u.first_held;
          second_held = u.second_held;
          freed = u.freed;
        }

    some_released : (row floor v : ℕ) (cs : List Change) → floor ≤ v → IsAmong (change_at row v) cs → SomeReleased row floor cs
    some_released row floor v [] low is = absurd is
    some_released row floor v (c ∷ cs) low (inl e) = inl (ap (λ (z : Change). z.row) e, omega (arith, low, ap (λ (z : Change). z.version) e))
    some_released row floor v (c ∷ cs) low (inr is) = inr (some_released row floor v cs low is)

    vacant : (e : Entry) (row : ℕ) → IsVacant all phase session done rows row → WasFree all earlier (here e) row
    vacant e row u = by u.stood where
      low : floor_of all earlier (here e) row ≤ u.version
      low = floor_up e row u.version u.up

      by : ((opens_free row ≡ true) × (u.version ≡ 0)) ⊎ IsAmong (change_at row u.version) (each_of release_of (up_to_phase phase all)) → WasFree all earlier (here e) row
      by (inl z) = inl (z.0, omega (arith, low, z.1))
      by (inr is) = inr (some_released row (floor_of all earlier (here e) row) u.version (each_of release_of (up_to_phase phase all)) low is)

    puts_ticket : (row greater floor v : ℕ) (e : Entry) → floor ≤ v → 0 < long_by row greater (λ k. k == v) e → PutsTicket row greater floor e
    puts_ticket row greater floor v (says.Long at k own) low some = by ((at == row) && ((k == v) && (own == greater))) refl some where
      by : (b : Bool) → ((at == row) && ((k == v) && (own == greater))) ≡ b → 0 < one_if b → (at ≡ row) × (own ≡ greater) × (floor ≤ k)
      by false e some = absurd (omega (arith, some))
      by true e some =
          let both = and_second (at == row) ((k == v) && (own == greater)) e in
          (eqb-true at row (and_first (at == row) ((k == v) && (own == greater)) e), eqb-true own greater (and_second (k == v) (own == greater) both), omega (arith, low, eqb-true k v (and_first (k == v) (own == greater) both)))
    puts_ticket row greater floor v _ low some = absurd (omega (arith, some))

    some_puts : (row greater floor v : ℕ) (ps : List Placed) → floor ≤ v → 0 < longs_of row greater (λ k. k == v) ps → SomePuts row greater floor ps
    some_puts row greater floor v [] low some = absurd (omega (arith, some))
    some_puts row greater floor v (p ∷ ps) low some = at (cases_lt 0 (long_by row greater (λ k. k == v) p.entry)) (λ more. some_puts row greater floor v ps low more) where
      at : (0 < long_by row greater (λ k. k == v) p.entry) ⊎ (long_by row greater (λ k. k == v) p.entry ≤ 0) → (0 < longs_of row greater (λ k. k == v) ps → SomePuts row greater floor ps)
          → PutsTicket row greater floor p.entry ⊎ SomePuts row greater floor ps
      at (inl here) go = inl (puts_ticket row greater floor v p.entry low here)
      at (inr none) go = inr (go (omega (arith, some, none)))

    late : (e : Entry) (row ticket greater : ℕ) → IsAhead (says.Late row ticket greater) → IsOverdue all phase session done rows row greater → IsLate all earlier (here e) row ticket greater
    late e row ticket greater a u = record {
      above = a.0;
      own = a.1;
      same = u.is_put.same;
      put = some_puts row greater (floor_of all earlier (here e) row) u.version (by_others session (up_to_phase phase all)) (floor_up e row u.version u.up) u.is_put.put;
    }

    loads_keep : (e : Entry) (loads seen : List Change) → ((word : ℕ) → greatest word words ≤ greatest word seen) → AllFit (Fits all phase session done) rows seen (saw_all loads) → LoadsKeep all earlier (here e) (loads ++ [])
    loads_keep e [] seen more a = tt
    loads_keep e (l ∷ ls) seen more a =
        let u = a.0 in (
          word_floor e l.row l.version (record { began = u.began; own = omega (arith, more l.row, u.own); given = u.given; had = u.had }),
          u.had,
          loads_keep e ls (change_at l.row l.version ∷ seen) (λ word. omega (arith, more word)) a.1,
        )

    pub record IsKept (e : Entry) : Type 0 where
      pub namings : NamingsKeep all earlier (here e) (namings_of e)
      pub loads : LoadsKeep all earlier (here e) (loads_at (subject_of line) context e ++ word_change e)
      pub shows : ShowsCause all earlier (here e) e

    entry_keeps : (e : Entry) → IsAhead e → AllFit (Fits all phase session done) rows words (notes_at (subject_of line) context e) → IsKept e
    entry_keeps (says.Connect action thread account user host) ahead a = record { namings = tt; loads = tt; shows = tt }
    entry_keeps (says.Act action) ahead a = record { namings = tt; loads = tt; shows = tt }
    entry_keeps (says.Start event verdict consumers thread class table) ahead a =
        let e : Entry = says.Start event verdict consumers thread class table in
        record { namings = tt; loads = loads_keep e (loads_at (subject_of line) context e) words (λ word. omega arith) a; shows = tt }
    entry_keeps (says.End event last consumers thread) ahead a =
        let e : Entry = says.End event last consumers thread in
        record { namings = tt; loads = loads_keep e (loads_at (subject_of line) context e) words (λ word. omega arith) a; shows = tt }
    entry_keeps (says.Saw word version) ahead a = record { namings = tt; loads = (word_floor (says.Saw word version) word version a.0, a.0.had, tt); shows = tt }
    entry_keeps (says.Set word version flags) ahead a = record { namings = tt; loads = (word_floor (says.Set word version flags) word version a.0, a.0.had, tt); shows = tt }
    entry_keeps (says.Add row version) ahead a = record { namings = changes (says.Add row version) row version a.0; loads = tt; shows = tt }
    entry_keeps (says.Ring row version) ahead a = record { namings = changes (says.Ring row version) row version a.0; loads = tt; shows = tt }
    entry_keeps (says.Long row version ticket) ahead a = record { namings = changes (says.Long row version ticket) row version a.0; loads = tt; shows = tt }
    entry_keeps (says.Take row version) ahead a = record { namings = changes (says.Take row version) row version a.0; loads = tt; shows = tt }
    entry_keeps (says.Give row version from) ahead a = record { namings = changes (says.Give row version from) row version a.0; loads = tt; shows = tt }
    entry_keeps (says.Tag row version) ahead a = record { namings = changes (says.Tag row version) row version a.0; loads = tt; shows = tt }
    entry_keeps (says.Seen row version) ahead a = record { namings = sees (says.Seen row version) row version a.0; loads = tt; shows = tt }
    entry_keeps (says.Free row version) ahead a = record { namings = frees (says.Free row version) row version a.0; loads = tt; shows = tt }
    entry_keeps (says.Held row first second) ahead a = record { namings = tt; loads = tt; shows = refused (says.Held row first second) row first second a.0 }
    entry_keeps (says.Busy row first second) ahead a = record { namings = tt; loads = tt; shows = refused (says.Busy row first second) row first second a.0 }
    entry_keeps (says.Vacant row) ahead a = record { namings = tt; loads = tt; shows = vacant (says.Vacant row) row a.0 }
    entry_keeps (says.Late row ticket greater) ahead a = record { namings = tt; loads = tt; shows = late (says.Late row ticket greater) row ticket greater ahead a.0 }
    entry_keeps says.Settle ahead a = record { namings = tt; loads = tt; shows = tt }
    entry_keeps (says.Reply number) ahead a = record { namings = tt; loads = tt; shows = tt }
    entry_keeps (says.Error number) ahead a = record { namings = tt; loads = tt; shows = tt }
    entry_keeps says.Query ahead a = record { namings = tt; loads = tt; shows = tt }
    entry_keeps (says.Rows number) ahead a = record { namings = tt; loads = tt; shows = tt }

-- what an entry names is had by the phase's end
abbrev pub Had : List Placed → ℕ → Change → Type 0
Had all phase c = c.version ≤ times (is_of c.row) (each_of row_change (up_to_phase phase all))

abbrev pub WordHad : List Placed → ℕ → Change → Type 0
WordHad all phase c = c.version ≤ times (is_of c.row) (each_of word_change (up_to_phase phase all))

pub record IsHad (all : List Placed) (p : Placed) : Type 0 where
  pub rows : Each (Had all p.phase) (rows_known p.entry)
  pub words : Each (WordHad all p.phase) (loads_of p ++ word_change p.entry)

module _ (all : List Placed) (phase session done : ℕ) where
  loads_had : (rows : List Change) (loads seen : List Change) → AllFit (Fits all phase session done) rows seen (saw_all loads) → Each (WordHad all phase) (loads ++ [])
  loads_had rows [] seen a = tt
  loads_had rows (l ∷ ls) seen a = (a.0.had, loads_had rows ls (change_at l.row l.version ∷ seen) a.1)

  entry_had : (line : Line) (context : Context) (e : Entry) (rows words : List Change) → AllFit (Fits all phase session done) rows words (notes_at (subject_of line) context e)
      → IsHad all (record { phase = phase; session = session; line = line; context = context; entry = e })
  entry_had line context (says.Connect action thread account user host) rows words a = record { rows = tt; words = tt }
  entry_had line context (says.Act action) rows words a = record { rows = tt; words = tt }
  entry_had line context (says.Start event verdict consumers thread class table) rows words a =
      record { rows = tt; words = loads_had rows (loads_at (subject_of line) context (says.Start event verdict consumers thread class table)) words a }
  entry_had line context (says.End event last consumers thread) rows words a = record { rows = tt; words = loads_had rows (loads_at (subject_of line) context (says.End event last consumers thread)) words a }
  entry_had line context (says.Saw word version) rows words a = record { rows = tt; words = (a.0.had, tt) }
  entry_had line context (says.Set word version flags) rows words a = record { rows = tt; words = (a.0.had, tt) }
  entry_had line context (says.Add row version) rows words a = record { rows = (a.0.had, tt); words = tt }
  entry_had line context (says.Ring row version) rows words a = record { rows = (a.0.had, tt); words = tt }
  entry_had line context (says.Long row version ticket) rows words a = record { rows = (a.0.had, tt); words = tt }
  entry_had line context (says.Take row version) rows words a = record { rows = (a.0.had, tt); words = tt }
  entry_had line context (says.Give row version from) rows words a = record { rows = (a.0.had, tt); words = tt }
  entry_had line context (says.Tag row version) rows words a = record { rows = (a.0.had, tt); words = tt }
  entry_had line context (says.Seen row version) rows words a = record { rows = (a.0.had, tt); words = tt }
  entry_had line context (says.Free row version) rows words a = record { rows = (a.0.had, tt); words = tt }
  entry_had line context (says.Held row first second) rows words a = record { rows = (omega (arith, a.0.rises, a.0.had), (a.0.had, tt)); words = tt }
  entry_had line context (says.Busy row first second) rows words a = record { rows = (omega (arith, a.0.rises, a.0.had), (a.0.had, tt)); words = tt }
  entry_had line context (says.Vacant row) rows words a = record { rows = tt; words = tt }
  entry_had line context (says.Late row ticket greater) rows words a = record { rows = tt; words = tt }
  entry_had line context says.Settle rows words a = record { rows = tt; words = tt }
  entry_had line context (says.Reply number) rows words a = record { rows = tt; words = tt }
  entry_had line context (says.Error number) rows words a = record { rows = tt; words = tt }
  entry_had line context says.Query rows words a = record { rows = tt; words = tt }
  entry_had line context (says.Rows number) rows words a = record { rows = tt; words = tt }

-- what an entry names stands named behind it
saw_words : (word : ℕ) (loads words : List Change) → max (greatest word (loads ++ [])) (greatest word words) ≤ greatest word (onto_words (saw_all loads) words)
saw_words word [] words = omega arith
saw_words word (l ∷ ls) words =
    let r = saw_words word ls (change_at l.row l.version ∷ words) in
    omega (arith, r)

saw_rows : (loads rows : List Change) → onto_rows (saw_all loads) rows ≡ rows
saw_rows [] rows = refl
saw_rows (l ∷ ls) rows = saw_rows ls rows

record IsOnto (subject : Option Subject) (context : Context) (e : Entry) (rows words : List Change) : Type 0 where
  on_rows : (row : ℕ) → max (greatest row (rows_known e)) (greatest row rows) ≤ greatest row (onto_rows (notes_at subject context e) rows)
  on_words : (word : ℕ) → max (greatest word (loads_at subject context e ++ word_change e)) (greatest word words) ≤ greatest word (onto_words (notes_at subject context e) words)

entry_onto : (subject : Option Subject) (context : Context) (e : Entry) (rows words : List Change) → IsOnto subject context e rows words
entry_onto subject context (says.Start event verdict consumers thread class table) rows words =
    let loads : List Change = loads_at subject context (says.Start event verdict consumers thread class table) in
    record { on_rows = λ row. omega (arith, ap (greatest row) (saw_rows loads rows)); on_words = λ word. saw_words word loads words }
entry_onto subject context (says.End event last consumers thread) rows words =
    let loads : List Change = loads_at subject context (says.End event last consumers thread) in
    record { on_rows = λ row. omega (arith, ap (greatest row) (saw_rows loads rows)); on_words = λ word. saw_words word loads words }
entry_onto subject context (says.Connect action thread account user host) rows words = record { on_rows = λ row. omega arith; on_words = λ word. omega arith }
entry_onto subject context (says.Act action) rows words = record { on_rows = λ row. omega arith; on_words = λ word. omega arith }
entry_onto subject context (says.Saw word version) rows words = record { on_rows = λ row. omega arith; on_words = λ word. omega arith }
entry_onto subject context (says.Set word version flags) rows words = record { on_rows = λ row. omega arith; on_words = λ word. omega arith }
entry_onto subject context (says.Add at version) rows words = record { on_rows = λ row. omega arith; on_words = λ word. omega arith }
entry_onto subject context (says.Ring at version) rows words = record { on_rows = λ row. omega arith; on_words = λ word. omega arith }
entry_onto subject context (says.Long at version ticket) rows words = record { on_rows = λ row. omega arith; on_words = λ word. omega arith }
entry_onto subject context (says.Take at version) rows words = record { on_rows = λ row. omega arith; on_words = λ word. omega arith }
entry_onto subject context (says.Give at version from) rows words = record { on_rows = λ row. omega arith; on_words = λ word. omega arith }
entry_onto subject context (says.Tag at version) rows words = record { on_rows = λ row. omega arith; on_words = λ word. omega arith }
entry_onto subject context (says.Seen at version) rows words = record { on_rows = λ row. omega arith; on_words = λ word. omega arith }
entry_onto subject context (says.Free at version) rows words = record { on_rows = λ row. omega arith; on_words = λ word. omega arith }
entry_onto subject context (says.Held at first second) rows words = record { on_rows = λ row. omega arith; on_words = λ word. omega arith }
entry_onto subject context (says.Busy at first second) rows words = record { on_rows = λ row. omega arith; on_words = λ word. omega arith }
entry_onto subject context (says.Vacant row) rows words = record { on_rows = λ row. omega arith; on_words = λ word. omega arith }
entry_onto subject context (says.Late row ticket greater) rows words = record { on_rows = λ row. omega arith; on_words = λ word. omega arith }
entry_onto subject context says.Settle rows words = record { on_rows = λ row. omega arith; on_words = λ word. omega arith }
entry_onto subject context (says.Reply number) rows words = record { on_rows = λ row. omega arith; on_words = λ word. omega arith }
entry_onto subject context (says.Error number) rows words = record { on_rows = λ row. omega arith; on_words = λ word. omega arith }
entry_onto subject context says.Query rows words = record { on_rows = λ row. omega arith; on_words = λ word. omega arith }
entry_onto subject context (says.Rows number) rows words = record { on_rows = λ row. omega arith; on_words = λ word. omega arith }

bound_more : (all : List Placed) (phase session : ℕ) (line : Line) (context : Context) (e : Entry) (earlier : List Placed) (rows words : List Change) → AreBound all phase session earlier rows words
    → AreBound all phase session (record { phase = phase; session = session; line = line; context = context; entry = e } ∷ earlier) (onto_rows (notes_at (subject_of line) context e) rows) (onto_words (notes_at (subject_of line) context e) words)
bound_more all phase session line context e earlier rows words b =
    let p : Placed = record { phase = phase; session = session; line = line; context = context; entry = e } in
    let own : List Placed = by_session session earlier in
    let o = entry_onto (subject_of line) context e rows words in
    let mine : by_session session (p ∷ earlier) ≡ p ∷ own = ap (λ t. cond t (p ∷ []) [] ++ own) (eq-eqb session session refl) in (
      (λ row. omega (arith, ap (λ z. greatest row (each_of rows_known z)) mine, greatest_then row (rows_known e) (each_of rows_known own), b.0 row, o.on_rows row)),
      (λ word. omega (arith, ap (λ z. greatest word (loads_in z)) mine, greatest_then word (loads_at (subject_of line) context e ++ word_change e) (loads_in own), b.1 word, o.on_words word)),
    )

-- entries leave the action that has ended
pub done_kept : (subject : Option Subject) (context : Context) (e : Entry) → (noted subject context e).done ≡ context.done
done_kept subject context (says.Connect action thread account user host) = refl
done_kept subject context (says.Start event verdict consumers thread class table) = refl
done_kept subject context (says.End event last consumers thread) = refl
done_kept subject context (says.Held row first second) = refl
done_kept subject context (says.Add row version) = refl
done_kept subject context says.Settle = refl
done_kept subject context (says.Act action) = refl
done_kept subject context (says.Take row version) = refl
done_kept subject context _ = refl

-- entries one after another
pub record AreWalked (all : List Placed) (phase session : ℕ) (earlier ps : List Placed) (rows words : List Change) : Type 0 where
  pub floored : AreFlooredBehind all earlier ps
  pub caused : AreCausedBehind all earlier ps
  pub had : Each (IsHad all) ps
  pub bound : AreBound all phase session (passed earlier ps) rows words

pub passed_then : (earlier xs ys : List Placed) → passed earlier (xs ++ ys) ≡ passed (passed earlier xs) ys
passed_then earlier [] ys = refl
passed_then earlier (x ∷ xs) ys = passed_then (x ∷ earlier) xs ys

pub floored_then : (all earlier xs ys : List Placed) → AreFlooredBehind all earlier xs → AreFlooredBehind all (passed earlier xs) ys → AreFlooredBehind all earlier (xs ++ ys)
floored_then all earlier [] ys a b = b
floored_then all earlier (x ∷ xs) ys a b = (a.0, a.1, floored_then all (x ∷ earlier) xs ys a.2 b)

pub caused_then : (all earlier xs ys : List Placed) → AreCausedBehind all earlier xs → AreCausedBehind all (passed earlier xs) ys → AreCausedBehind all earlier (xs ++ ys)
caused_then all earlier [] ys a b = b
caused_then all earlier (x ∷ xs) ys a b = (a.0, caused_then all (x ∷ earlier) xs ys a.1 b)

pub walked_then : (all : List Placed) (phase session : ℕ) (earlier xs ys : List Placed) (rows words mine set : List Change) → AreWalked all phase session earlier xs rows words
    → AreWalked all phase session (passed earlier xs) ys mine set → AreWalked all phase session earlier (xs ++ ys) mine set
walked_then all phase session earlier xs ys rows words mine set a b = record {
  floored = floored_then all earlier xs ys a.floored b.floored;
  caused = caused_then all earlier xs ys a.caused b.caused;
  had = each_join (IsHad all) xs ys a.had b.had;
  bound = subst (λ z. AreBound all phase session z mine set) (sym (passed_then earlier xs ys)) b.bound;
}

pub part_walked : (all : List Placed) (phase session : ℕ) (line : Line) (context : Context) (es : List Entry) (earlier : List Placed) (rows words : List Change)
    → Each IsAhead es → AllFit (Fits all phase session context.done) rows words (notes_of (placed_part phase session line context es)) → AreBound all phase session earlier rows words
    → AreWalked all phase session earlier (placed_part phase session line context es) (onto_rows (notes_of (placed_part phase session line context es)) rows) (onto_words (notes_of (placed_part phase session line context es)) words)
part_walked all phase session line context [] earlier rows words ahead a b = record { floored = tt; caused = tt; had = tt; bound = b }
part_walked all phase session line context (e ∷ es) earlier rows words ahead a b =
    let p : Placed = record { phase = phase; session = session; line = line; context = context; entry = e } in
    let next : Context = noted (subject_of line) context e in
    let rest : List Placed = placed_part phase session line next es in
    let notes : List Note = notes_at (subject_of line) context e in
    let F : List Change → List Change → Note → Type 0 = Fits all phase session context.done in
    let mine : List Change = onto_rows notes rows in
    let set : List Change = onto_words notes words in
    let front = fit_front F rows words notes (notes_of rest) a in
    let back : AllFit F mine set (notes_of rest) = fit_back F rows words notes (notes_of rest) a in
    let k : IsKept all phase session line context earlier rows words b e = entry_keeps all phase session line context earlier rows words b e ahead.0 front in
    let r = part_walked all phase session line next es (p ∷ earlier) mine set ahead.1 (subst (λ d. AllFit (Fits all phase session d) mine set (notes_of rest)) (sym (done_kept (subject_of line) context e)) back)
    (bound_more all phase session line context e earlier rows words b) in
    record {
      floored = (k.namings, k.loads, r.floored);
      caused = (k.shows, r.caused);
      had = (entry_had all phase session context.done line context e rows words front, r.had);
      bound = subst (λ z. AreBound all phase session (passed (p ∷ earlier) rest) z (onto_words (notes ++ notes_of rest) words)) (sym (onto_rows_then notes (notes_of rest) rows))
          (subst (λ z. AreBound all phase session (passed (p ∷ earlier) rest) (onto_rows (notes_of rest) mine) z) (sym (onto_words_then notes (notes_of rest) words)) r.bound);
    }
