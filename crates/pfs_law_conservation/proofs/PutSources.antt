-- In what a line asks for, an event is put into a ring only behind its own start or end.
use Rattle.std.proofs.Common.{◌≡◌, refl, ℕ, Bool, true, false, not, List, [], ◌∷◌, ◌++◌, map, Option}
use Rattle.std.specs.Prelude.{Ok}
use Rattle.pfs_event.specs.Verdicts.{is_let_through}
use Rattle.pfs_event.specs.declared.entry.Entry.{Entry}
use Rattle.pfs_event.specs.declared.entry.Entry.TheVariants as says
use Rattle.pfs_event.specs.declared.kind.EventKind.{EventKind}
use Rattle.pfs_event.specs.declared.kind.EventKind.TheVariants as kinds
use Rattle.pfs_model.specs.EntryAsks.{fits}
use Rattle.pfs_model.specs.Contexts.{Context}
use Rattle.pfs_model.specs.Cuts.{cut}
use Rattle.pfs_model.specs.Shapes.{shape, added, settling, puts, digest_of, counting, ending, ending_stage, starting}
use Rattle.pfs_model.specs.declared.lines.Line.{Line}
use Rattle.pfs_model.specs.declared.lines.Line.TheVariants as lines
use Rattle.pfs_model.specs.declared.lines.Opened.{Opened}
use Rattle.pfs_model.specs.declared.shapes.Ask.{Ask}
use Rattle.pfs_model.specs.declared.shapes.Ask.TheVariants as asks
use Rattle.pfs_model.specs.declared.shapes.Item.{Item}
use Rattle.pfs_law_conservation.proofs.SourcedEntries.{reach, AreSourced, guards, SourcedKind, cut_sourced, guards_join, guards_stage, guards_both}

-- the entry writes an event to a ring
abbrev pub is_write : Entry → Bool
is_write (says.Ring row version) = true
is_write (says.Long row version ticket) = true
is_write _ = false

-- an event starts or ends with it
abbrev pub is_event : Entry → Bool
is_event (says.Start event verdict consumers thread class table) = true
is_event (says.End event last consumers thread) = true
is_event _ = false

-- an ask that may be a write
abbrev pub asks_write : Ask → Bool
asks_write asks.Put = true
asks_write asks.LongPut = true
asks_write _ = false

-- whether an event is at hand behind what is asked
abbrev pub then_hand : Ask → Bool → Bool
then_hand (asks.Start slot lost table) hand = true
then_hand (asks.End through) hand = true
then_hand (asks.Summary slot cell) hand = hand
then_hand asks.Digest hand = hand
then_hand asks.Put hand = hand
then_hand asks.LongPut hand = hand
then_hand _ hand = false

-- what isn't asked as a write is none
quiet : (ask : Ask) (e : Entry) → not (asks_write ask) ≡ true → fits ask e ≡ true → is_write e ≡ false
quiet asks.Put e a f = absurd (cc)
quiet asks.LongPut e a f = absurd (cc)
quiet ask (says.Ring row version) a f = none ask a f where
  none : (ask : Ask) → not (asks_write ask) ≡ true → fits ask (says.Ring row version) ≡ true → true ≡ false
  none asks.Put a f = absurd (cc)
  none _ a f = absurd (cc)
quiet ask (says.Long row version ticket) a f = none ask a f where
  none : (ask : Ask) → not (asks_write ask) ≡ true → fits ask (says.Long row version ticket) ≡ true → true ≡ false
  none asks.LongPut a f = absurd (cc)
  none _ a f = absurd (cc)
quiet ask _ a f = refl

-- an event at hand behind what is asked is at hand behind the entry
handed : (ask : Ask) (e : Entry) (hand : Bool) → fits ask e ≡ true → then_hand ask hand ≡ true → reach is_event hand e ≡ true
handed (asks.Start slot lost table) (says.Start event verdict consumers thread class of_table) hand f t = refl
handed (asks.Start slot lost table) _ hand f t = absurd (cc)
handed (asks.End through) (says.End event last consumers thread) hand f t = refl
handed (asks.End through) _ hand f t = absurd (cc)
handed (asks.Summary slot cell) (says.Add row version) hand f t = t
handed (asks.Summary slot cell) (says.Held row first second) hand f t = t
handed (asks.Summary slot cell) _ hand f t = absurd (cc)
handed asks.Digest (says.Add row version) hand f t = t
handed asks.Digest (says.Held row first second) hand f t = t
handed asks.Digest _ hand f t = absurd (cc)
handed asks.Put (says.Ring row version) hand f t = t
handed asks.Put (says.Busy row first second) hand f t = t
handed asks.Put _ hand f t = absurd (cc)
handed asks.LongPut (says.Long row version ticket) hand f t = t
handed asks.LongPut (says.Busy row first second) hand f t = t
handed asks.LongPut (says.Late row ticket greater) hand f t = t
handed asks.LongPut _ hand f t = absurd (cc)
handed _ e hand f t = absurd (cc)

-- more is asked where an event is at hand
then_more : (ask : Ask) → then_hand ask false ≡ true → then_hand ask true ≡ true
then_more (asks.Start slot lost table) t = refl
then_more (asks.End through) t = refl
then_more (asks.Summary slot cell) t = refl
then_more asks.Digest t = refl
then_more asks.Put t = refl
then_more asks.LongPut t = refl
then_more _ t = t

abbrev pub in_hand : Bool → Entry → Bool
in_hand = reach is_event

abbrev pub ArePut : Bool → List Entry → Type 0
ArePut = AreSourced is_write is_event

abbrev ring_puts : SourcedKind
ring_puts = record {
  is_kind = is_write;
  is_source = is_event;
  asks_kind = asks_write;
  then_hand = then_hand;
  quiet = quiet;
  handed = handed;
  then_more = then_more;
}

abbrev pub guarded : Bool → List Item → Bool
guarded = guards asks_write then_hand

pub cut_put : (items : List Item) (part : List Entry) (hand : Bool) → guarded hand items ≡ true → cut items part ≡ Ok [] → ArePut hand part
cut_put = cut_sourced ring_puts

guards_added : (rows : List ℕ) → guarded false (map added rows) ≡ true
guards_added [] = refl
guards_added (row ∷ rows) = guards_added rows

guards_settling : (rows : List ℕ) → guarded false (settling rows) ≡ true
guards_settling [] = refl
guards_settling (row ∷ rows) = guards_added rows

guards_counting : (slot : Option ℕ) (event : Opened) (b : Bool) → guarded true (counting slot event b) ≡ true
guards_counting slot event true = by event.subject.kind where
  by : (kind : EventKind) → guarded true (digest_of kind ++ puts) ≡ true
  by kinds.Wait = refl
  by kinds.Stage = refl
  by kinds.Statement = refl
  by kinds.Transaction = refl
guards_counting slot event false = refl

guards_ending : (slot : Option ℕ) (event : Opened) → guarded false (ending slot event) ≡ true
guards_ending slot event = guards_counting slot event (is_let_through event.verdict)

pub shape_puts : (context : Context) (line : Line) → guarded false (shape context line) ≡ true
shape_puts context lines.Connect = refl
shape_puts context (lines.Start subject) = refl
shape_puts context (lines.Stage subject) = guards_join ring_puts false (ending_stage context.slot context.opened) (starting context.slot subject) (guards_stage ring_puts guards_ending context.slot context.opened) refl
shape_puts context lines.StageEnd = guards_stage ring_puts guards_ending context.slot context.opened
shape_puts context lines.End = guards_both ring_puts guards_ending context.slot context.opened
shape_puts context lines.Spend = refl
shape_puts context lines.Change = guards_join ring_puts false (settling context.held) _ (guards_settling context.held) refl
shape_puts context lines.Quit = guards_join ring_puts false (settling context.held) _ (guards_settling context.held) refl
shape_puts context lines.Show = guards_join ring_puts false (settling context.held) _ (guards_settling context.held) refl
shape_puts context lines.Query = refl
shape_puts context (lines.Refused error) = refl
shape_puts context lines.Close = guards_settling context.held
