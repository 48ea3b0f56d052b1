-- What is kept of a session, one entry more, and how a put finds its event.
use Rattle.std.proofs.Common.{◌≡◌, refl, ℕ, Bool, true, false, cond, List, [], ◌∷◌, drop, map, reverse, sym, ◌∙◌, ap, Option, Some, None}
use Rattle.std.specs.Prelude.{filter, option_map}
use Rattle.pfs_event.specs.Verdicts.{is_let_through}
use Rattle.pfs_event.specs.declared.entry.Entry.{Entry}
use Rattle.pfs_event.specs.declared.entry.Entry.TheVariants as says
use Rattle.pfs_model.specs.declared.changes.Change.{Change}
use Rattle.pfs_model.specs.declared.lines.Opened.{Opened}
use Rattle.pfs_model.specs.declared.lines.Subject.{Subject}
use Rattle.pfs_model.specs.Contents.{written_of}
use Rattle.pfs_model.specs.Contexts.{Context, first_of, noted}
use Rattle.pfs_model.specs.EventNumbers.{nesting_of}
use Rattle.pfs_check_amounts.specs.EventTerms.{outer_of}
use Rattle.pfs_check_amounts.specs.declared.words.Outer.{Outer}
use Rattle.pfs_check_trail.specs.OpenCounts.{is_through}
use Rattle.pfs_check_notes.specs.declared.notes.SessionNotes.{SessionNotes}
use Rattle.pfs_check_notes.specs.SessionNotes.{AreNotesOf, IsWritingTold, StepsFrom, ended_behind, first_outer, outers_behind, outers_of, outers_without}

same_either : (b : Bool) (outers : List Outer) → outers ≡ cond b outers outers
same_either true outers = refl
same_either false outers = refl

one_started : (b : Bool) (event : Opened) (opened : List Opened)
    → map outer_of (cond b (event ∷ filter is_through opened) (filter is_through opened)) ≡ cond b (outer_of event ∷ outers_of opened) (outers_of opened)
one_started true event opened = refl
one_started false event opened = refl

one_ended : (opened : List Opened) → outers_of (drop 1 opened) ≡ outers_without (first_of opened) (outers_of opened)
one_ended [] = refl
one_ended (event ∷ opened) = at (is_through event) where
  at : (b : Bool) → outers_of opened ≡ cond b (drop 1 (map outer_of (cond b (event ∷ filter is_through opened) (filter is_through opened)))) (map outer_of (cond b (event ∷ filter is_through opened) (filter is_through opened)))
  at true = refl
  at false = refl

outers_noted : (subject : Option Subject) (context : Context) (entry : Entry)
    → outers_of (noted subject context entry).opened ≡ outers_behind subject (first_of context.opened) entry (outers_of context.opened)
outers_noted None context (says.Start event verdict consumers thread class table) = same_either (is_let_through verdict) (outers_of context.opened)
outers_noted (Some subject) context (says.Start event verdict consumers thread class table) = one_started (is_let_through verdict) _ context.opened
outers_noted subject context (says.End event last consumers thread) = one_ended context.opened
outers_noted subject context (says.Connect action thread account user host) = refl
outers_noted subject context (says.Act action) = refl
outers_noted subject context (says.Held row first second) = refl
outers_noted subject context (says.Add row version) = refl
outers_noted subject context says.Settle = refl
outers_noted subject context (says.Take row version) = refl
outers_noted subject context _ = refl

ended_noted : (subject : Option Subject) (left context : Context) (entry : Entry) (ended : Option Opened) → StepsFrom left context entry → ended ≡ left.ended
    → ended_behind entry (first_of context.opened) ended ≡ (noted subject context entry).ended
ended_noted subject left context (says.Start event verdict consumers thread class table) ended steps e = refl
ended_noted subject left context (says.End event last consumers thread) ended steps e = refl
ended_noted subject left context says.Settle ended steps e = refl
ended_noted subject left context (says.Connect action thread account user host) ended steps e = sym (steps.quiet refl)
ended_noted subject left context (says.Act action) ended steps e = sym (steps.quiet refl)
ended_noted subject left context says.Query ended steps e = sym (steps.quiet refl)
ended_noted subject left context (says.Error error) ended steps e = sym (steps.quiet refl)
ended_noted subject left context (says.Held row first second) ended steps e = e ∙ sym (steps.inside refl)
ended_noted subject left context (says.Add row version) ended steps e = e ∙ sym (steps.inside refl)
ended_noted subject left context (says.Take row version) ended steps e = e ∙ sym (steps.inside refl)
ended_noted subject left context _ ended steps e = e ∙ sym (steps.inside refl)

pub notes_more : (subject : Option Subject) (left context : Context) (entry : Entry) (taken more : Option Change) (old new : SessionNotes) → AreNotesOf left taken old
    → StepsFrom left context entry → reverse new.outers.items ≡ outers_behind subject (first_of context.opened) entry (reverse old.outers.items)
    → new.ended ≡ ended_behind entry (first_of context.opened) old.ended → new.taken ≡ more → AreNotesOf (noted subject context entry) more new
notes_more subject left context entry taken more old new are steps outers ended taken_is = record {
  outers = outers ∙ ap (outers_behind subject (first_of context.opened) entry) (are.outers ∙ ap outers_of (sym steps.opened))
      ∙ sym (outers_noted subject context entry);
  ended = ended ∙ ended_noted subject left context entry old.ended steps are.ended;
  taken_is = taken_is;
}

-- the innermost let-through event
first_nesting : (opened : List Opened) → option_map outer_of (nesting_of opened) ≡ first_outer (outers_of opened)
first_nesting [] = refl
first_nesting (event ∷ opened) = at (is_let_through event.verdict) (first_nesting opened) where
  at : (b : Bool) → option_map outer_of (nesting_of opened) ≡ first_outer (outers_of opened)
      → option_map outer_of (cond b (Some event) (nesting_of opened)) ≡ first_outer (map outer_of (cond b (event ∷ filter is_through opened) (filter is_through opened)))
  at true h = refl
  at false h = h

pub ended_written : (context : Context) (event : Opened) (outer : Option Outer) (drawn : ℕ) → context.ended ≡ Some event → outer ≡ first_outer (outers_of context.opened)
    → drawn ≡ context.drawn → IsWritingTold context (Some (record { event = event; outer = outer; last = Some drawn }))
ended_written context event outer drawn e o d = (
  record { event = event; around = context.opened; last = Some context.drawn },
  ap (λ z. written_of z context.opened context.drawn) e,
  record { event = refl; outer = first_nesting context.opened ∙ sym o; last = ap Some (sym d) },
)

-- where none has just ended, the innermost
outer_next : (event : Opened) (opened : List Opened) (outer : Option Outer) (b : Bool) → is_let_through event.verdict ≡ b
    → outer ≡ cond b (first_outer (drop 1 (outers_of (event ∷ opened)))) (first_outer (outers_of (event ∷ opened))) → option_map outer_of (nesting_of opened) ≡ outer
outer_next event opened outer true e o =
    first_nesting opened ∙ ap (λ b. first_outer (drop 1 (map outer_of (cond b (event ∷ filter is_through opened) (filter is_through opened))))) (sym e) ∙ sym o
outer_next event opened outer false e o =
    first_nesting opened ∙ ap (λ b. first_outer (map outer_of (cond b (event ∷ filter is_through opened) (filter is_through opened)))) (sym e) ∙ sym o

pub open_written : (context : Context) (event : Opened) (outer : Option Outer) → context.ended ≡ None → Some event ≡ first_of context.opened
    → outer ≡ cond (is_let_through event.verdict) (first_outer (drop 1 (outers_of context.opened))) (first_outer (outers_of context.opened))
    → IsWritingTold context (Some (record { event = event; outer = outer; last = None }))
open_written context event outer e f o = on context.opened refl f o where
  on : (opened : List Opened) → context.opened ≡ opened → Some event ≡ first_of opened
      → outer ≡ cond (is_let_through event.verdict) (first_outer (drop 1 (outers_of opened))) (first_outer (outers_of opened))
      → IsWritingTold context (Some (record { event = event; outer = outer; last = None }))
  on [] q f o = absurd (cc)
  on (first ∷ opened) q f o =
      let same : event ≡ first = cc in (
        record { event = first; around = opened; last = None },
        ap (λ z. written_of z context.opened context.drawn) e ∙ ap (λ z. written_of None z context.drawn) q,
        record {
          event = sym same;
          outer = outer_next first opened outer (is_let_through first.verdict) refl
              (o ∙ ap (λ (z : Opened). cond (is_let_through z.verdict) (first_outer (drop 1 (outers_of (first ∷ opened)))) (first_outer (outers_of (first ∷ opened)))) same);
          last = refl;
        },
      )
