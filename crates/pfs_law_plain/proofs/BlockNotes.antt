-- What the entries of a block and the calls of its stint tell is the same.
use Rattle.std.proofs.Common.{ℕ, ◌≡◌, List, [], ◌∷◌, ◌++◌, Option, Some, None, refl, ap, sym, ◌∙◌}
use Rattle.pfs_event.specs.declared.entry.Entry.{Entry}
use Rattle.pfs_levels.specs.Calls.{Call}
use Rattle.pfs_model.specs.declared.lines.Line.{Line}
use Rattle.pfs_model.specs.Contexts.{Context, noted, after, subject_of, turned}
use Rattle.pfs_model.specs.EntryPlaces.{Placed, placed_part, placed_lines}
use Rattle.pfs_session.specs.SessionStates.{State, nothing_held}
use Rattle.pfs_session.specs.Turns.{state_after}
use Rattle.pfs_law_session.specs.Agreement.{LoadsAgree}
use Rattle.pfs_law_session.specs.Deeds.{line_of, part_calls, part_entries, action_of}
use Rattle.pfs_law_session.specs.JournalLaws.{AreParts, AllLoadsAgree, lines_of, entries_of, state_behind}
use Rattle.pfs_law_plain.specs.Notes.{all_told}
use Rattle.pfs_law_plain.specs.SessionNotes.{parts_notes}
use Rattle.pfs_law_plain.specs.Spells.{Doing, around, entering, doing_calls, doings_calls, parts_in, AreEntered}
use Rattle.pfs_law_plain.proofs.InnerEntries.{told_then}
use Rattle.pfs_law_plain.proofs.QuietSessions.{AreAdded, added_front, added_back, AreQuiet}
use Rattle.pfs_law_plain.proofs.LineAgreement.{AreQuietPlaces}
use Rattle.pfs_law_plain.proofs.TurnNotes.{doing_told}

pub quiet_join : (xs ys : List Placed) → AreQuietPlaces xs → AreQuietPlaces ys → AreQuietPlaces (xs ++ ys)
quiet_join [] ys a b = b
quiet_join (x ∷ xs) ys a b = (a.0, quiet_join xs ys a.1 b)

part_quiet : (phase session : ℕ) (line : Line) (context : Context) (es : List Entry) → AreQuiet es → AreQuietPlaces (placed_part phase session line context es)
part_quiet phase session line context [] q = tt
part_quiet phase session line context (e ∷ es) q = (q.0, part_quiet phase session line (noted (subject_of line) context e) es q.1)

pub record IsBlockTold (phase session : ℕ) (context : Context) (s : State) (doings : List Doing) : Type 0 where
  pub same : parts_notes (parts_in doings) ≡ all_told (doings_calls doings)
  pub quiet : AreQuietPlaces (placed_lines phase session context (lines_of (parts_in doings)) (entries_of (parts_in doings)))
  pub held : (state_behind s (parts_in doings)).held ≡ nothing_held

pub block_told : (phase session : ℕ) (context : Context) (s : State) (doings : List Doing) → s.held ≡ nothing_held → AreParts s (parts_in doings) → AreEntered s doings
    → AreAdded (doings_calls doings) → IsBlockTold phase session context s doings
unfolding all_told
block_told phase session context s [] h are entered added = record { same = refl; quiet = tt; held = h }
block_told phase session context s (d ∷ ds) h are entered added =
    let line = line_of d.part.deed in
    let entries = part_entries d.part in
    let t = doing_told s d h are.0 entered.0 (added_back (doings_calls ds) (doing_calls d) added) in
    let next : Context = after context line entries in
    let r = block_told phase session next (state_after s d.part.turns) ds t.held are.1 entered.1 (added_front (doings_calls ds) (doing_calls d) added) in
    record {
      same = ap (λ z. z ++ parts_notes (parts_in ds)) t.same ∙ (ap (λ z. all_told (doing_calls d) ++ z) r.same ∙ sym (told_then (doings_calls ds) (doing_calls d)));
      quiet = quiet_join (placed_part phase session line (turned context) entries) (placed_lines phase session next (lines_of (parts_in ds)) (entries_of (parts_in ds)))
          (part_quiet phase session line (turned context) entries t.quiet) r.quiet;
      held = r.held;
    }

-- loads agree along lists
pub loads_front : (flags : ℕ → ℕ → ℕ) (xs ys : List Call) → LoadsAgree flags (xs ++ ys) → LoadsAgree flags xs
loads_front flags [] ys a = tt
loads_front flags (x ∷ xs) ys a = (a.0, loads_front flags xs ys a.1)

pub loads_back : (flags : ℕ → ℕ → ℕ) (xs ys : List Call) → LoadsAgree flags (xs ++ ys) → LoadsAgree flags ys
loads_back flags [] ys a = a
loads_back flags (x ∷ xs) ys a = loads_back flags xs ys a.1

around_loads : (flags : ℕ → ℕ → ℕ) (d : Doing) (action : Option ℕ) (calls : List Call) → LoadsAgree flags (around d.label d.labels d.met action calls) → LoadsAgree flags calls
around_loads flags d None calls a = a
around_loads flags d (Some number) calls a = loads_front flags calls (entering d.label d.labels d.met) a.1

pub block_loads : (flags : ℕ → ℕ → ℕ) (doings : List Doing) → LoadsAgree flags (doings_calls doings) → AllLoadsAgree flags (parts_in doings)
block_loads flags [] a = tt
block_loads flags (d ∷ ds) a =
    (around_loads flags d (action_of d.part.deed) (part_calls d.part) (loads_back flags (doings_calls ds) (doing_calls d) a), block_loads flags ds (loads_front flags (doings_calls ds) (doing_calls d) a))
