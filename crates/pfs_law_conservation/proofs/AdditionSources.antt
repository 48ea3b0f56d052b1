-- In what a line asks for, an event is added or held only behind an end, or where held events are settled.
use Rattle.std.proofs.Common.{◌≡◌, refl, ℕ, Bool, true, false, not, List, [], ◌∷◌, ◌++◌, map, Option}
use Rattle.std.specs.Prelude.{Ok}
use Rattle.pfs_event.specs.Verdicts.{is_let_through}
use Rattle.pfs_event.specs.declared.entry.Entry.{Entry}
use Rattle.pfs_event.specs.declared.entry.Entry.TheVariants as says
use Rattle.pfs_event.specs.declared.kind.EventKind.{EventKind}
use Rattle.pfs_event.specs.declared.kind.EventKind.TheVariants as kinds
use Rattle.pfs_model.specs.EntryAsks.{fits}
use Rattle.pfs_model.specs.Contexts.{Context}
use Rattle.pfs_model.specs.Cuts.{cut}
use Rattle.pfs_model.specs.Shapes.{shape, added, settling, puts, digest_of, counting, ending, ending_stage, starting}
use Rattle.pfs_model.specs.declared.lines.Line.{Line}
use Rattle.pfs_model.specs.declared.lines.Line.TheVariants as lines
use Rattle.pfs_model.specs.declared.lines.Opened.{Opened}
use Rattle.pfs_model.specs.declared.shapes.Ask.{Ask}
use Rattle.pfs_model.specs.declared.shapes.Ask.TheVariants as asks
use Rattle.pfs_model.specs.declared.shapes.Item.{Item}
use Rattle.pfs_law_conservation.proofs.SourcedEntries.{reach, AreSourced, guards, SourcedKind, cut_sourced, guards_join, guards_stage, guards_both}

-- the entry adds events to a row, or holds one for it
abbrev pub is_feed : Entry → Bool
is_feed (says.Add row version) = true
is_feed (says.Held row first second) = true
is_feed _ = false

-- an event ends with it, or held events are settled
abbrev pub is_source : Entry → Bool
is_source (says.End event last consumers thread) = true
is_source says.Settle = true
is_source _ = false

-- an ask that may be such an entry
abbrev pub asks_feed : Ask → Bool
asks_feed (asks.Summary slot cell) = true
asks_feed asks.Digest = true
asks_feed (asks.Added row) = true
asks_feed _ = false

-- whether an event is at hand behind what is asked
abbrev pub then_hand : Ask → Bool → Bool
then_hand (asks.End through) hand = true
then_hand asks.Settle hand = true
then_hand (asks.Added row) hand = hand
then_hand (asks.Summary slot cell) hand = hand
then_hand asks.Digest hand = hand
then_hand asks.Put hand = hand
then_hand asks.LongPut hand = hand
then_hand _ hand = false

-- what isn't asked as one is none
pub quiet : (ask : Ask) (e : Entry) → not (asks_feed ask) ≡ true → fits ask e ≡ true → is_feed e ≡ false
quiet (asks.Summary slot cell) e a f = absurd (cc)
quiet asks.Digest e a f = absurd (cc)
quiet (asks.Added row) e a f = absurd (cc)
quiet ask (says.Add row version) a f = none ask a f where
  none : (ask : Ask) → not (asks_feed ask) ≡ true → fits ask (says.Add row version) ≡ true → true ≡ false
  none (asks.Summary slot cell) a f = absurd (cc)
  none asks.Digest a f = absurd (cc)
  none (asks.Added at) a f = absurd (cc)
  none _ a f = absurd (cc)
quiet ask (says.Held row first second) a f = none ask a f where
  none : (ask : Ask) → not (asks_feed ask) ≡ true → fits ask (says.Held row first second) ≡ true → true ≡ false
  none (asks.Summary slot cell) a f = absurd (cc)
  none asks.Digest a f = absurd (cc)
  none (asks.Added at) a f = absurd (cc)
  none _ a f = absurd (cc)
quiet ask _ a f = refl

-- an event at hand behind what is asked is at hand behind the entry
handed : (ask : Ask) (e : Entry) (hand : Bool) → fits ask e ≡ true → then_hand ask hand ≡ true → reach is_source hand e ≡ true
handed asks.Settle says.Settle hand f t = refl
handed asks.Settle _ hand f t = absurd (cc)
handed (asks.Added row) (says.Add at version) hand f t = t
handed (asks.Added row) _ hand f t = absurd (cc)
handed (asks.End through) (says.End event last consumers thread) hand f t = refl
handed (asks.End through) _ hand f t = absurd (cc)
handed (asks.Summary slot cell) (says.Add row version) hand f t = t
handed (asks.Summary slot cell) (says.Held row first second) hand f t = t
handed (asks.Summary slot cell) _ hand f t = absurd (cc)
handed asks.Digest (says.Add row version) hand f t = t
handed asks.Digest (says.Held row first second) hand f t = t
handed asks.Digest _ hand f t = absurd (cc)
handed asks.Put (says.Ring row version) hand f t = t
handed asks.Put (says.Busy row first second) hand f t = t
handed asks.Put _ hand f t = absurd (cc)
handed asks.LongPut (says.Long row version ticket) hand f t = t
handed asks.LongPut (says.Busy row first second) hand f t = t
handed asks.LongPut (says.Late row ticket greater) hand f t = t
handed asks.LongPut _ hand f t = absurd (cc)
handed _ e hand f t = absurd (cc)

-- more is asked where an event is at hand
then_more : (ask : Ask) → then_hand ask false ≡ true → then_hand ask true ≡ true
then_more (asks.End through) t = refl
then_more asks.Settle t = refl
then_more (asks.Added row) t = refl
then_more (asks.Summary slot cell) t = refl
then_more asks.Digest t = refl
then_more asks.Put t = refl
then_more asks.LongPut t = refl
then_more _ t = t

abbrev pub in_reach : Bool → Entry → Bool
in_reach = reach is_source

abbrev pub AreFed : Bool → List Entry → Type 0
AreFed = AreSourced is_feed is_source

abbrev feeds : SourcedKind
feeds = record {
  is_kind = is_feed;
  is_source = is_source;
  asks_kind = asks_feed;
  then_hand = then_hand;
  quiet = quiet;
  handed = handed;
  then_more = then_more;
}

abbrev pub guarded : Bool → List Item → Bool
guarded = guards asks_feed then_hand

pub cut_fed : (items : List Item) (part : List Entry) (hand : Bool) → guarded hand items ≡ true → cut items part ≡ Ok [] → AreFed hand part
cut_fed = cut_sourced feeds

guards_added : (rows : List ℕ) → guarded true (map added rows) ≡ true
guards_added [] = refl
guards_added (row ∷ rows) = guards_added rows

guards_settling : (rows : List ℕ) → guarded false (settling rows) ≡ true
guards_settling [] = refl
guards_settling (row ∷ rows) = guards_added rows

guards_counting : (slot : Option ℕ) (event : Opened) (b : Bool) → guarded true (counting slot event b) ≡ true
guards_counting slot event true = by event.subject.kind where
  by : (kind : EventKind) → guarded true (digest_of kind ++ puts) ≡ true
  by kinds.Wait = refl
  by kinds.Stage = refl
  by kinds.Statement = refl
  by kinds.Transaction = refl
guards_counting slot event false = refl

guards_ending : (slot : Option ℕ) (event : Opened) → guarded false (ending slot event) ≡ true
guards_ending slot event = guards_counting slot event (is_let_through event.verdict)

pub shape_feeds : (context : Context) (line : Line) → guarded false (shape context line) ≡ true
shape_feeds context lines.Connect = refl
shape_feeds context (lines.Start subject) = refl
shape_feeds context (lines.Stage subject) = guards_join feeds false (ending_stage context.slot context.opened) (starting context.slot subject) (guards_stage feeds guards_ending context.slot context.opened) refl
shape_feeds context lines.StageEnd = guards_stage feeds guards_ending context.slot context.opened
shape_feeds context lines.End = guards_both feeds guards_ending context.slot context.opened
shape_feeds context lines.Spend = refl
shape_feeds context lines.Change = guards_join feeds false (settling context.held) _ (guards_settling context.held) refl
shape_feeds context lines.Quit = guards_join feeds false (settling context.held) _ (guards_settling context.held) refl
shape_feeds context lines.Show = guards_join feeds false (settling context.held) _ (guards_settling context.held) refl
shape_feeds context lines.Query = refl
shape_feeds context (lines.Refused error) = refl
shape_feeds context lines.Close = guards_settling context.held
