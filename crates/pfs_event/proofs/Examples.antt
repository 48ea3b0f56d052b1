-- Worked examples, by computation.
use Rattle.std.proofs.Common.{◌≡◌, [], ◌∷◌, Some, None, true, false, refl, lit≤}
use Rattle.pfs_event.specs.declared.event.Event.{Event}
use Rattle.pfs_event.specs.declared.kind.EventKind.TheVariants.{Wait, Stage, Statement, Transaction}
use Rattle.pfs_event.specs.declared.open.Open.{Open}
use Rattle.pfs_event.specs.declared.verdict.Verdict.TheVariants.{Attributed}
use Rattle.pfs_event.specs.NestBrackets.{Starts, Ends, depth_after, open_after}
use Rattle.pfs_event.specs.StartOrder.{may_start}
use Rattle.pfs_event.specs.EventWords.{words_of}

-- the second event of session 7: a wait of class 5 and table 2 in statement 1, timed, from 100 to 130
abbrev wait : Event
wait = record {
  session = 7;
  number = 2;
  last = 2;
  class = 5;
  link = 3;
  nesting = 2;
  parent = 1;
  start = 100;
  duration = 30;
  lock = 0;
  errors = 0;
  warnings = 0;
  affected = 0;
  sent = 0;
  examined = 0;
  ticket = 0;
  timed = true;
  read_only = false;
  class_fits = lit≤ tt;
  link_fits = lit≤ tt;
  nesting_fits = lit≤ tt;
}

pub words : words_of wait ≡ 7 ∷ 2 ∷ 2 ∷ 197 ∷ 9 ∷ 0 ∷ 1 ∷ 100 ∷ 30 ∷ 0 ∷ 0 ∷ 0 ∷ 0 ∷ 0 ∷ 0 ∷ 0 ∷ []
words = refl

-- a statement starts in a transaction, and not in a wait
pub statement_in_transaction : may_start Statement (Some Transaction) ≡ true
statement_in_transaction = refl

pub statement_in_wait : may_start Statement (Some Wait) ≡ false
statement_in_wait = refl

-- a stage needs a statement, and a transaction nothing at all
pub stage_alone : may_start Stage None ≡ false
stage_alone = refl

pub transaction_in_statement : may_start Transaction (Some Statement) ≡ false
transaction_in_statement = refl

abbrev inner : Open
inner = record { kind = Wait; verdict = Attributed; event = wait; digested = false; placed = true }

-- the second of two closings brings the depth back, and a third one would fall below it
pub two_deep : (a b : Open) → depth_after 0 (Starts a ∷ Starts b ∷ Ends ∷ Ends ∷ []) ≡ Some 0
two_deep a b = refl

pub below : (a : Open) → depth_after 0 (Starts a ∷ Ends ∷ Ends ∷ []) ≡ None
below a = refl

-- the innermost is closed first
pub innermost_first : (a : Open) → open_after (Starts a ∷ Starts inner ∷ Ends ∷ []) [] ≡ Some (a ∷ [])
innermost_first a = refl
