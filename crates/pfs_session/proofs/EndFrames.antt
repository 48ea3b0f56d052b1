-- What an end of an event that is let through leaves as it was.
use Rattle.std.proofs.Common.{ℕ, ◌≡◌, Bool, true, false, List, [], Option, Some, None, slice_set, refl, ap, sym, subst, ◌∙◌}
use Rattle.std.proofs.lemmas.List.{append-nil}
use Rattle.pfs_event.specs.declared.entry.Entry.{Entry}
use Rattle.pfs_event.specs.declared.open.Open.{Open}
use Rattle.pfs_levels.specs.Calls.{Call}
use Rattle.pfs_stat.specs.declared.Stat.{Stat}
use Rattle.pfs_model.specs.SetupFlags.{history_consumer, long_consumer}
use Rattle.pfs_rings.specs.declared.rings.Ring.TheVariants.{Current, History, Long}
use Rattle.pfs_model.specs.declared.lines.Subject.{Subject}
use Rattle.pfs_session.specs.EventPuts.{PutIf, PutIn, depth_of, goes_on}
use Rattle.pfs_session.specs.Starts.{Begins, Starts}
use Rattle.pfs_session.specs.Ends.{EndsThrough, EndsAdded, EndsCounted, PutsAtEnd, DigestsIn, ended_event, amount_of, digest_number, still_held, with_held}
use Rattle.pfs_session.specs.SessionStates.{State, held_at, next_of}
use Rattle.pfs_session.specs.declared.events.Numbers.{Numbers}

-- a session without its innermost event, which holds this
abbrev pub without_one : State → List Open → List (Option Stat) → State
without_one s others held = record s { opened = record s.opened { events = others }; held = held }

held_of : (s after : State) (others : List Open) (held : List (Option Stat)) → after ≡ without_one s others held → after ≡ without_one s others after.held
held_of s after others held e = e ∙ ap (λ z. without_one s others z) (sym (ap (λ (z : State). z.held) e))

-- what is added takes the innermost event out and changes what is held, and nothing else
pub added_leaves : (s : State) (slot : ℕ) (what : Open) (others : List Open) (numbers : Numbers) (calls : List Call) (entries : List Entry) (after : State)
    → EndsAdded s slot what others numbers calls entries after → after ≡ without_one s others after.held
added_leaves s slot what others numbers calls entries after x = by what.digested x.digests where
  by : (b : Bool) → DigestsIn b x.between slot what numbers x.digested_calls x.digested_entries after → after ≡ without_one s others after.held
  by false d = held_of s after others _ (d.after_is ∙ x.counts.after_is)
  by true d =
      let sum : Stat = with_held (held_at x.between.held (digest_number what)) (amount_of what x.between.clock numbers) in
      let held : List (Option Stat) = slice_set x.between.held (digest_number what) (still_held sum d.answer) in
      held_of s after others held (d.after_is ∙ ap (λ (z : State). record z { held = held }) x.counts.after_is)

-- the end changes the next places of histories besides
pub through_leaves : (s : State) (slot : ℕ) (what : Open) (others : List Open) (numbers : Numbers) (calls : List Call) (entries : List Entry) (after : State)
    → EndsThrough s slot what others numbers calls entries after → after ≡ record (without_one s others after.held) { nexts = after.nexts }
through_leaves s slot what others numbers calls entries after x =
    let added : x.among ≡ without_one s others x.among.held = added_leaves s slot what others numbers x.added_calls x.added_entries x.among x.adds in
    let put : after ≡ record x.among { nexts = after.nexts } =
    x.puts.after_is ∙ ap (λ z. record x.among { nexts = z }) (sym (ap (λ (z : State). z.nexts) x.puts.after_is)) in
    let held : x.among.held ≡ after.held = sym (ap (λ (z : State). z.held) put) in
    put ∙ (ap (λ (z : State). record z { nexts = after.nexts }) added ∙ ap (λ z. record (without_one s others z) { nexts = after.nexts }) held)

-- an event that isn't offered to its current place is put nowhere
pub puts_none : (s : State) (slot : ℕ) (what : Open) (numbers : Numbers) (consumers thread : ℕ) → what.placed ≡ false
    → PutsAtEnd s slot what numbers consumers thread [] [] s
puts_none s slot what numbers consumers thread e = record {
  current = None;
  history = None;
  long = None;
  current_calls = [];
  history_calls = [];
  long_calls = [];
  current_is = subst (λ b. PutIf b (Current slot what.kind (depth_of what.kind s.opened.events)) (ended_event what s.drawn s.clock numbers) None []) (sym e) (refl, refl);
  history_is = subst (λ b. PutIf (goes_on b (history_consumer what.kind) consumers thread) (History slot what.kind (next_of what.kind s.nexts)) (ended_event what s.drawn s.clock numbers) None [])
      (sym e) (refl, refl);
  long_is = subst (λ b. PutIf (goes_on b (long_consumer what.kind) consumers thread) (Long what.kind) (ended_event what s.drawn s.clock numbers) None []) (sym e) (refl, refl);
  calls_are = refl;
  entries_are = refl;
  after_is = refl;
}

-- an end of an event that isn't a digested statement, and is offered to no ring
pub ends_undigested : (s : State) (slot : ℕ) (what : Open) (others : List Open) (numbers : Numbers) (calls : List Call) (entries : List Entry) (after : State) → what.digested ≡ false → what.placed ≡ false
    → EndsCounted s slot what others numbers calls entries after → EndsThrough s slot what others numbers calls entries after
ends_undigested s slot what others numbers calls entries after d p counts = record {
  among = after;
  added_calls = calls;
  added_entries = entries;
  ring_calls = [];
  ring_entries = [];
  adds = adds;
  puts = puts_none after slot what numbers counts.consumers.flags counts.thread.flags p;
  calls_are = refl;
  entries_are = sym (append-nil entries);
} where
  adds : EndsAdded s slot what others numbers calls entries after
  adds = record {
    between = after;
    counted_calls = calls;
    counted_entries = entries;
    digested_calls = [];
    digested_entries = [];
    counts = counts;
    digests = subst (λ b. DigestsIn b after slot what numbers [] [] after) (sym d) (record { calls_are = refl; entries_are = refl; after_is = refl });
    calls_are = refl;
    entries_are = sym (append-nil entries);
  }

-- a start of an event that isn't offered to its current place
pub starts_unplaced : (s : State) (subject : Subject) (calls : List Call) (entries : List Entry) (after : State) (b : Begins s subject calls entries after) → b.what.placed ≡ false
    → Starts s subject calls entries after
starts_unplaced s subject calls entries after b e = record {
  begun_calls = calls;
  begun_entries = entries;
  begins = b;
  current = None;
  put_calls = [];
  put_is = in_none s.place.thread;
  calls_are = refl;
  entries_are = sym (append-nil entries);
} where
  in_none : (slot : Option ℕ) → PutIn slot b.what (depth_of b.what.kind s.opened.events) b.what.event None []
  in_none None = (refl, refl)
  in_none (Some slot) = subst (λ z. PutIf z (Current slot b.what.kind (depth_of b.what.kind s.opened.events)) b.what.event None []) (sym e) (refl, refl)
