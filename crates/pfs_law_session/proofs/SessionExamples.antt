-- A worked journal: a wait is held back, and the wait around it is counted with it.
use Rattle.std.proofs.Common.{ℕ, ◌≡◌, true, false, List, [], ◌∷◌, map, Option, Some, None, slice_set, lit≤, refl, ap, sym, ◌∙◌, arith}
use Rattle.std.specs.Prelude.{if◌then◌else◌, ◌==◌}
use Rattle.pfs_event.specs.declared.entry.Entry.TheVariants as says
use Rattle.pfs_event.specs.declared.event.Event.{Event}
use Rattle.pfs_event.specs.declared.kind.EventKind.TheVariants.{Wait}
use Rattle.pfs_event.specs.declared.open.Open.{Open}
use Rattle.pfs_event.specs.declared.verdict.Verdict.TheVariants.{Attributed}
use Rattle.pfs_levels.specs.Calls.{Adds, Loads}
use Rattle.pfs_levels.specs.RowWords.{merged}
use Rattle.pfs_levels.specs.declared.answers.Added.TheVariants.{Counted, Held}
use Rattle.pfs_levels.specs.declared.answers.Word.{Word}
use Rattle.pfs_model.specs.Contents.{Facts, amount_by, measure_of}
use Rattle.pfs_model.specs.Contents.{merged as all_merged}
use Rattle.pfs_model.specs.Contexts.{Context}
use Rattle.pfs_model.specs.SetupFlags.{thread_word}
use Rattle.pfs_model.specs.declared.lines.Opened.{Opened}
use Rattle.pfs_model.specs.declared.lines.Subject.{Subject}
use Rattle.pfs_session.specs.Ends.{amount_of, no_numbers}
use Rattle.pfs_session.specs.SessionStates.{State, nothing_held}
use Rattle.pfs_session.specs.Turns.{EndsEvent, Spends}
use Rattle.pfs_stat.specs.Stat.{MergeIsMonoid, stat_of, merge_of, words_of, stat_of_words}
use Rattle.pfs_stat.specs.declared.Stat.{Stat}
use Rattle.pfs_law_session.proofs.LineAmounts.{accounted}
use Rattle.pfs_session.proofs.EndFrames.{ends_undigested}
use Rattle.pfs_session.proofs.HeldAmounts.{nothing_owed}
use Rattle.pfs_law_session.specs.Agreement.{Agrees, row_owed}
use Rattle.pfs_law_session.specs.Amounts.{Clocked, owed_to, Sums, AllFacts, AllContentsAgree, IsAccounted}
use Rattle.pfs_law_session.specs.Deeds.{Ending, Spending, Part}
use Rattle.pfs_law_session.specs.JournalLaws.{AreParts}

-- session 1 in slot 3: a wait of class 5 since 10, and since 30 another in it
abbrev event_of : ℕ → ℕ → Event
event_of number start = record {
  session = 1;
  number = number;
  last = 0;
  class = 5;
  link = 0;
  nesting = 0;
  parent = 0;
  start = start;
  duration = 0;
  lock = 0;
  errors = 0;
  warnings = 0;
  affected = 0;
  sent = 0;
  examined = 0;
  ticket = 0;
  timed = true;
  read_only = false;
  class_fits = lit≤ tt;
  link_fits = lit≤ tt;
  nesting_fits = lit≤ tt;
}

abbrev open_of : ℕ → ℕ → Open
open_of number start = record { kind = Wait; verdict = Attributed; event = event_of number start; digested = false; placed = false }

abbrev outer : Open
outer = open_of 1 10

abbrev inner : Open
inner = open_of 2 30

abbrev subject : Subject
subject = record { kind = Wait; class = Some 5; cell = 5; table = None; digest = None }

abbrev opened_of : ℕ → ℕ → Opened
opened_of index number = record {
  subject = subject;
  verdict = Attributed;
  index = index;
  number = Some number;
  consumers = Some 0;
  thread = Some 0;
  class = Some 0;
  table = None;
}

-- at 50 the inner one ends and is held back; 7 later the outer one ends, and both are counted, as version 12 of the row
abbrev state : ℕ → List Open → List (Option Stat) → State
state clock events held = record {
  number = 1;
  stack = 10;
  place = record { thread = Some 3; account = None; user = None; host = None };
  clock = clock;
  drawn = 2;
  opened = record { depth = 8; events = events };
  held = held;
  actions = 1;
  last = None;
  nexts = record { waits = 0; stages = 0; statements = 0; transactions = 0 };
}

abbrev twenty : Stat
twenty = amount_of inner 50 no_numbers

abbrev both : Stat
both = merge_of twenty (amount_of outer 57 no_numbers)

abbrev held_back : List (Option Stat)
held_back = slice_set nothing_held 5 (Some twenty)

abbrev first : State
first = state 50 (inner ∷ outer ∷ []) nothing_held

abbrev second : State
second = state 50 (outer ∷ []) held_back

abbrev third : State
third = state 57 (outer ∷ []) held_back

abbrev last : State
last = state 57 [] (slice_set held_back 5 None)

abbrev words : Word
words = record { version = 0; flags = 3 }

abbrev end_held : Part
end_held = record {
  deed = Ending no_numbers;
  turns = record {
    step = EndsEvent no_numbers;
    calls = Adds 326 twenty (Held 326 7 9) ∷ Loads (thread_word 3) 0 3 ∷ Loads 0 0 3 ∷ [];
    entries = says.End (Some 2) (Some 2) (Some 0) (Some 0) ∷ says.Held 326 7 9 ∷ [];
    after = second;
  } ∷ [];
}

abbrev spend : Part
spend = record { deed = Spending 7; turns = record { step = Spends 7; calls = []; entries = []; after = third } ∷ [] }

abbrev end_counted : Part
end_counted = record {
  deed = Ending no_numbers;
  turns = record {
    step = EndsEvent no_numbers;
    calls = Adds 326 both (Counted 326 12) ∷ Loads (thread_word 3) 0 3 ∷ Loads 0 0 3 ∷ [];
    entries = says.End (Some 1) (Some 2) (Some 0) (Some 0) ∷ says.Add 326 12 ∷ [];
    after = last;
  } ∷ [];
}

abbrev parts : List Part
parts = end_held ∷ spend ∷ end_counted ∷ []

abbrev flags : ℕ → ℕ → ℕ
flags word version = 3

abbrev slots : ℕ → Option ℕ
slots session = Some 3

abbrev facts_of : ℕ → ℕ → Facts
facts_of start duration = record { start = start; duration = duration; lock = 0; errors = 0; warnings = 0; affected = 0; sent = 0; examined = 0 }

abbrev facts : ℕ → ℕ → Facts
facts session index = if index == 0 then facts_of 10 47 else facts_of 30 20

abbrev told : Context
told = record {
  slot = Some 3;
  account = None;
  user = None;
  host = None;
  opened = opened_of 1 2 ∷ opened_of 0 1 ∷ [];
  held = [];
  waiting = [];
  begun = 2;
  drawn = 2;
  done = 1;
  ended = None;
  action = 0;
  source = None;
  source_version = 0;
}

abbrev clocked : Clocked
clocked = record {
  clock = 50;
  begun = 2;
  going = record { index = 1; kind = Wait; start = 30 } ∷ record { index = 0; kind = Wait; start = 10 } ∷ [];
}

agrees : Agrees flags told first
agrees = record {
  slot = refl;
  opened = (
    record { kind = refl; verdict = refl; number = refl; counted = (refl, refl); digested = refl; placed = refl; digest = λ t. absurd (cc) },
    (record { kind = refl; verdict = refl; number = refl; counted = (refl, refl); digested = refl; placed = refl; digest = λ t. absurd (cc) }, tt),
  );
  held = sym (ap (map row_owed) (nothing_owed (Some 3)));
  drawn = refl;
  wide = refl;
  low = omega arith;
}

sums : Sums flags slots facts 1 clocked told first
sums = record {
  clock = refl;
  begun = refl;
  going = refl;
  starts = (refl, (refl, tt));
  held = λ row. ap (owed_to row) (nothing_owed (Some 3));
  seat = refl;
  own = refl;
  worded = (λ t. absurd (cc), (λ t. absurd (cc), tt));
}

are_parts : AreParts first parts
are_parts = (
  record {
    are_turns = (
      record {
        what = inner;
        others = outer ∷ [];
        innermost = refl;
        ends = ends_undigested first 3 inner (outer ∷ []) no_numbers _ _ second refl refl
            (record { consumers = words; thread = words; answer = Held 326 7 9; row_is = refl; calls_are = refl; entries_are = refl; after_is = refl });
      },
      tt,
    );
    steps_are = refl;
  },
  (
    record { are_turns = ((refl, refl, refl), tt); steps_are = refl },
    (
      record {
        are_turns = (
          record {
            what = outer;
            others = [];
            innermost = refl;
            ends = ends_undigested third 3 outer [] no_numbers _ _ last refl refl
                (record { consumers = words; thread = words; answer = Counted 326 12; row_is = refl; calls_are = refl; entries_are = refl; after_is = refl });
          },
          tt,
        );
        steps_are = refl;
      },
      tt,
    ),
  ),
)

are_facts : AllFacts (facts 1) clocked parts
are_facts = (
  (record { duration = refl; lock = refl; errors = refl; warnings = refl; affected = refl; sent = refl; examined = refl }, tt),
  ((tt, tt), ((record { duration = refl; lock = refl; errors = refl; warnings = refl; affected = refl; sent = refl; examined = refl }, tt), tt)),
)

contents : (content : ℕ → ℕ → List ℕ) → content 326 12 ≡ merged (content 326 11) both → AllContentsAgree content parts
contents content made = ((tt, (tt, (tt, tt))), (tt, (((11, refl, made), (tt, (tt, tt))), tt)))

-- the premises are met, whatever the row held before
pub both_counted : MergeIsMonoid → (content : ℕ → ℕ → List ℕ) → content 326 12 ≡ merged (content 326 11) both
    → IsAccounted flags slots facts 1 content clocked told first parts
both_counted m content made =
    accounted m flags slots facts 1 content false clocked told first parts agrees sums (refl, (refl, (refl, tt))) are_parts
    ((tt, (refl, (refl, tt))), (tt, ((tt, (refl, (refl, tt))), tt))) (tt, (tt, (tt, tt))) are_facts (contents content made)

-- so by its journal the row has both waits then, of 47 and of 20
pub both_there : MergeIsMonoid → (content : ℕ → ℕ → List ℕ) → content 326 12 ≡ merged (content 326 11) both
    → content 326 12 ≡ words_of (all_merged (stat_of_words (content 326 11)) (map (amount_by flags slots facts 1) (opened_of 0 1 ∷ opened_of 1 2 ∷ [])))
both_there m content made =
    let a = (both_counted m content made).added 1 in
    let b = a.1.1.1.0 in
    b.2 ∙ ap (λ n. words_of (all_merged (stat_of_words (content 326 n)) (map (amount_by flags slots facts 1) (opened_of 0 1 ∷ opened_of 1 2 ∷ [])))) (omega (arith, b.1))

pub amounts_are : map (amount_by flags slots facts 1) (opened_of 0 1 ∷ opened_of 1 2 ∷ []) ≡ stat_of (measure_of true (facts_of 10 47)) ∷ stat_of (measure_of true (facts_of 30 20)) ∷ []
amounts_are = refl
