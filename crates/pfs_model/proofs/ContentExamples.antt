-- Worked examples: what changes leave in a row, the words of an event at a place, and what a take found.
use Rattle.std.proofs.Common.{◌≡◌, refl, ap, subst, ℕ, true, false, cond, List, [], ◌∷◌, ◌==◌, ◌&&◌, replicate, slice_index, lit≤, arith}
use Rattle.std.specs.Prelude.{Option, Some, None}
use Rattle.pfs_event.specs.declared.entry.Entry.{Entry}
use Rattle.pfs_event.specs.declared.entry.Entry.TheVariants as says
use Rattle.pfs_event.specs.declared.event.Event.{Event}
use Rattle.pfs_event.specs.declared.kind.EventKind.TheVariants as kinds
use Rattle.pfs_event.specs.EventWords.{words_of as slot_words}
use Rattle.pfs_stat.specs.declared.Stat.{Stat}
use Rattle.pfs_stat.specs.Stat.{zero_of, words_of}
use Rattle.pfs_model.specs.declared.lines.Line.TheVariants as lines
use Rattle.pfs_model.specs.declared.lines.Opened.{Opened}
use Rattle.pfs_model.specs.Contents.{Facts, Given, IsContent, AreFoundAsCounted, content_after, or_zero, event_at, opening_words}
use Rattle.pfs_model.specs.Contexts.{Context, fresh}
use Rattle.pfs_model.specs.EntryPlaces.{Placed}
use Rattle.pfs_model.proofs.ExampleEntries.{waiting, passing, selecting, handling, acted, flags_of_all}

-- A session in slot 0: each of its events starts at 10 and lasts 5, but the one at position 1 lasts 7. The words of an
-- info row are here the number of its action and that of the row.
abbrev facts : ℕ → ℕ → Facts
facts session index = record { start = 10; duration = cond (index == 1) 7 5; lock = 2; errors = 0; warnings = 1; affected = 0; sent = 3; examined = 4 }

abbrev given : Given
given = record { flags = flags_of_all 28888 3 3 3; slots = λ session. Some 0; facts = facts; info_words = λ action row. action ∷ row ∷ replicate 14 0 }

abbrev both_waits : Stat
both_waits = record zero_of { count = 2; sum = 12; min = 5; max = 7; lock = 4; warnings = 2; sent = 6; examined = 8 }

-- row 135 counts two waits with one addition, and is taken; row 2183 is given what the take found; info row 1 is written
-- by action 2
abbrev content : ℕ → ℕ → List ℕ
content row version =
    cond ((row == 135) && (version == 1)) (words_of both_waits)
    (cond ((row == 2183) && (version == 1)) (words_of both_waits)
    (cond ((row == 1) && (version == 1)) (2 ∷ 1 ∷ replicate 14 0) (opening_words row)))

abbrev second : Opened
second = record waiting { index = 1; number = Some 2 }

abbrev ended_twice : Context
ended_twice = record fresh { slot = Some 0; ended = Some second; held = 135 ∷ []; waiting = record { row = 135; event = waiting } ∷ [] }

abbrev placed : Context → Entry → Placed
placed context entry = record { phase = 1; session = 1; line = lines.End; context = context; entry = entry }

added : IsContent given content (placed ended_twice (says.Add 135 1)) (says.Add 135 1)
added = (0, refl, refl)

-- without what was held the count would be 1
held_forgotten : IsContent given content (placed (record ended_twice { waiting = [] }) (says.Add 135 1)) (says.Add 135 1) → ⊥
held_forgotten is = let one : is.0 ≡ 0 = omega (arith, is.1) in let same : 2 ≡ 1 = ap (λ w. slice_index w 0) (subst (λ before. content 135 1 ≡ content_after given content (placed (record ended_twice { waiting = [] }) (says.Add 135 1)) (record ended_twice { waiting = [] }) (content 135 before) (says.Add 135 1)) one is.2) in absurd (omega (arith, same))

-- a tag writes the words of its action
tagged : IsContent given content (acted 1 2 (says.Tag 1 1)) (says.Tag 1 1)
tagged = (0, refl, refl)

-- a take leaves zero, and finds what had been counted
taken : IsContent given content (acted 1 2 (says.Take 135 2)) (says.Take 135 2)
taken = (1, refl, refl)

found : AreFoundAsCounted content (λ action row. row == 135) (acted 1 2 (says.Take 135 2) ∷ acted 1 2 (says.Take 136 1) ∷ [])
found = (refl, (refl, tt))

found_nothing : AreFoundAsCounted content (λ action row. false) (acted 1 2 (says.Take 135 2) ∷ []) → ⊥
found_nothing is = let same : false ≡ true = is.0 in cc

-- a give merges what the take of its source found
abbrev giving : Entry → Placed
giving entry = placed (record fresh { action = 2; source = Some 135; source_version = 2 }) entry

gave : IsContent given content (giving (says.Give 2183 1 135)) (says.Give 2183 1 135)
gave = (refl, (0, refl, refl))

-- and there is none without its take, or from another row
without_take : (contents : ℕ → ℕ → List ℕ) → IsContent given contents (acted 1 2 (says.Give 2183 1 135)) (says.Give 2183 1 135) → ⊥
without_take contents is = let none : ◌≡◌ {A = Option ℕ} None (Some 135) = is.0 in cc

from_another_row : (contents : ℕ → ℕ → List ℕ) → IsContent given contents (giving (says.Give 2183 1 136)) (says.Give 2183 1 136) → ⊥
from_another_row contents is = let other : 135 ≡ 136 = ap or_zero is.0 in absurd (omega (arith, other))

-- A statement as its start writes it: its session, its number, no END_EVENT_ID; its class, and its digest's place; it is
-- timed; it lies in no event, and has no duration and no numbers yet.
at_start : event_at given (placed (record fresh { slot = Some 0; opened = selecting ∷ []; drawn = 1 }) (says.Ring 8455 1)) (record fresh { slot = Some 0; opened = selecting ∷ []; drawn = 1 }) None ≡ 1 ∷ 1 ∷ 0 ∷ 81 ∷ 1 ∷ 0 ∷ 0 ∷ 10 ∷ 0 ∷ 0 ∷ 0 ∷ 0 ∷ 0 ∷ 0 ∷ 0 ∷ 0 ∷ []
at_start = refl

-- A table's wait that has ended, with ticket 1002, in a statement and not in the wait between, which is off: two events
-- were drawn by its end; its table is linked; it lies in a statement, whose number is 1.
abbrev in_statement : Context
in_statement = record fresh { slot = Some 0; ended = Some (record handling { index = 2; number = Some 2 }); opened = passing ∷ selecting ∷ []; drawn = 2 }

at_end : event_at given (placed in_statement (says.Long 10244 1 1002)) in_statement (Some 1002) ≡ 1 ∷ 2 ∷ 2 ∷ 202 ∷ 9 ∷ 0 ∷ 1 ∷ 10 ∷ 5 ∷ 2 ∷ 0 ∷ 1 ∷ 0 ∷ 3 ∷ 4 ∷ 1003 ∷ []
at_end = refl

-- the words are those in which an event with these numbers lies in a slot
abbrev late_wait : Event
late_wait = record {
  session = 1;
  number = 2;
  last = 2;
  class = 10;
  link = 3;
  nesting = 2;
  parent = 1;
  start = 10;
  duration = 5;
  lock = 2;
  errors = 0;
  warnings = 1;
  affected = 0;
  sent = 3;
  examined = 4;
  ticket = 1003;
  timed = true;
  read_only = false;
  class_fits = lit≤ tt;
  link_fits = lit≤ tt;
  nesting_fits = lit≤ tt;
}

as_in_a_slot : event_at given (placed in_statement (says.Long 10244 1 1002)) in_statement (Some 1002) ≡ slot_words late_wait
as_in_a_slot = refl

-- a READ ONLY transaction, of a class that isn't timed
abbrev read_only : Opened
read_only = record waiting { subject = record { kind = kinds.Transaction; class = Some 62; cell = 63; table = None; digest = None } }

abbrev at_read_only : Context
at_read_only = record fresh { slot = Some 0; opened = read_only ∷ []; drawn = 1 }

untimed : event_at (record given { flags = flags_of_all 28888 3 1 3 }) (placed at_read_only (says.Ring 8465 1)) at_read_only None ≡ 1 ∷ 1 ∷ 0 ∷ 62 ∷ 2 ∷ 0 ∷ 0 ∷ 10 ∷ 0 ∷ 0 ∷ 0 ∷ 0 ∷ 0 ∷ 0 ∷ 0 ∷ 0 ∷ []
untimed = refl

-- it doesn't lie in the wait between, which is off
in_the_wait : event_at given (placed in_statement (says.Long 10244 1 1002)) in_statement (Some 1002) ≡ 1 ∷ 2 ∷ 2 ∷ 202 ∷ 17 ∷ 0 ∷ 1 ∷ 10 ∷ 5 ∷ 2 ∷ 0 ∷ 1 ∷ 0 ∷ 3 ∷ 4 ∷ 1003 ∷ [] → ⊥
in_the_wait same = let four : 9 ≡ 17 = ap (λ w. slice_index w 4) same in absurd (omega (arith, four))
