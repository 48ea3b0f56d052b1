-- What is kept of the puts of tickets, in the words of the puts: the greatest version at which the sessions but one put
-- a ticket up to a phase's end.
use Rattle.std.specs.Prelude.{ℕ, ◌≡◌, ◌+◌, List, [], ◌∷◌, Option, Some, None, Vec}
use Rattle.std.specs.BTreeMap.{BTreeMap}
use Rattle.std.specs.declared.alloc.Global.{Global}
use Rattle.pfs_event.specs.declared.entry.Entry.TheVariants as says
use Rattle.pfs_model.specs.declared.lines.Line.TheVariants as lines
use Rattle.pfs_model.specs.Causes.{SomePuts, by_others}
use Rattle.pfs_model.specs.Contexts.{fresh}
use Rattle.pfs_model.specs.EntryPlaces.{Placed, up_to_phase}
use Rattle.pfs_check_causes.specs.declared.puts.PhasedTop.{PhasedTop}
use Rattle.pfs_check_causes.specs.declared.puts.RowTicket.{RowTicket}
use Rattle.pfs_check_causes.specs.TicketPuts.{ArePuts, NeverFallFrom, others_of, pick, tops_at, tops_from}

-- some of these entries puts the ticket at this version or above, and none above it; or none puts it at all
abbrev pub IsGreatestPut : List Placed → RowTicket → Option ℕ → Type 0
IsGreatestPut places key None = SomePuts key.row key.ticket 0 places → ⊥
IsGreatestPut places key (Some version) =
    SomePuts key.row key.ticket version places × (SomePuts key.row key.ticket (version + 1) places → ⊥)

-- what a ticket's tops tell of the sessions but one, up to a phase
abbrev pub greatest_kept : List PhasedTop → ℕ → ℕ → Option ℕ
greatest_kept tops session phase = others_of session (pick None phase tops)

abbrev pub PutsLaw : Type 0
PutsLaw = (all : List Placed) (puts : BTreeMap RowTicket (Vec PhasedTop Global)) → ArePuts all puts
    → NeverFallFrom 0 all → (key : RowTicket) (session phase : ℕ)
    → IsGreatestPut (by_others session (up_to_phase phase all)) key
    (greatest_kept (tops_at puts key) session phase)

-- a ticket that two sessions put, one after the other
abbrev pub ticket : RowTicket
ticket = record { row = 10249; ticket = 7 }

abbrev pub put_at : ℕ → ℕ → ℕ → Placed
put_at phase session version = record {
  phase = phase;
  session = session;
  line = lines.Close;
  context = fresh;
  entry = says.Long 10249 version 7;
}

abbrev pub some_puts : List Placed
some_puts = put_at 1 1 3 ∷ put_at 1 2 5 ∷ put_at 1 2 4 ∷ put_at 2 1 9 ∷ []

abbrev pub some_tops : List PhasedTop
some_tops = tops_from ticket None some_puts

-- what is told of the others than the second session, than the first, and than a third, in the first phase and later
pub record PutsWorked : Type 0 where
  pub first : greatest_kept some_tops 2 1 ≡ Some 3
  pub second : greatest_kept some_tops 1 1 ≡ Some 5
  pub both : greatest_kept some_tops 3 1 ≡ Some 5
  pub later : greatest_kept some_tops 2 2 ≡ Some 9
  pub none : greatest_kept some_tops 3 0 ≡ None
