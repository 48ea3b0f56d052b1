-- What a put says of a ring, as the calls that it made.
use Rattle.std.proofs.Common.{ℕ, ◌≡◌, Bool, true, List, [], ◌∷◌, ◌++◌, Option, Some, None, refl, ap, sym, subst}
use Rattle.std.specs.Prelude.{IfSome}
use Rattle.pfs_event.specs.declared.event.Event.{Event}
use Rattle.pfs_event.specs.declared.entry.Entry.{Entry}
use Rattle.pfs_event.specs.declared.kind.EventKind.{EventKind}
use Rattle.pfs_levels.specs.Calls.{Call, Opening, Goes, Rings}
use Rattle.pfs_event.specs.Logs.{Journal}
use Rattle.pfs_levels.specs.declared.answers.RingPut.{RingPut}
use Rattle.pfs_levels.specs.declared.answers.RingPut.TheVariants as told
use Rattle.pfs_rings.specs.Offers.{IsOffered, Offers, Says, offered, put_entry}
use Rattle.pfs_rings.specs.RingPlaces.{IsRing}
use Rattle.pfs_rings.specs.declared.puts.Put.{Put}
use Rattle.pfs_rings.specs.declared.rings.Ring.{Ring}
use Rattle.pfs_rings.specs.declared.rings.Ring.TheVariants.{Current, History, Long}
use Rattle.pfs_session.specs.EventPuts.{HasPut, IsPutOf, PutAt, PutIf, PutTo, StandInRings, put_row}

-- the calls of a put
record IsMade (ring : Ring) (event : Event) (put : Put) (was now : Opening → List Call → Type 0) : Type 0 where
  calls : List Call
  put_is : PutTo ring event put calls
  goes : Goes was now calls

made_at : (row : ℕ) (ticket : Option ℕ) (drawn : List Call) (event : Event) (put : Put) (was now : Opening → List Call → Type 0) → (o : IsOffered row ticket drawn event put was now)
    → PutAt row ticket drawn event put (Rings row (offered event ticket) o.answer ∷ drawn)
made_at row ticket drawn event put was now o = record { answer = o.answer; says = o.says; calls_are = refl }

made : (ring : Ring) (event : Event) (put : Put) (was now : Opening → List Call → Type 0) → Offers ring event put was now → IsMade ring event put was now
made (Current thread kind depth) event put was now o = record { calls = _; put_is = made_at _ _ _ event put was now o; goes = o.calls }
made (History thread kind place) event put was now o = record { calls = _; put_is = made_at _ _ _ event put was now o; goes = o.calls }
made (Long kind) event put was now o = record { calls = _; put_is = record { ticket = o.ticket; at = made_at _ _ _ event put was now o.offered }; goes = o.offered.calls }

pub has_put : (ring : Ring) (event : Event) (put : Put) (entry : Entry) (old new : Journal) (due : Bool) (was now : Opening → List Call → Type 0) → due ≡ true → Offers ring event put was now → entry ≡ put_entry put
    → new.entries ≡ old.entries ++ entry ∷ [] → HasPut due ring event (Some put) old new was now
has_put ring event put entry old new due was now on o e wrote =
    let m : IsMade ring event put was now = made ring event put was now o in
    record {
      calls = m.calls;
      put_is = subst (λ z. PutIf z ring event (Some put) m.calls) (sym on) m.put_is;
      did = record { entries_are = subst (λ (z : Entry). new.entries ≡ old.entries ++ z ∷ []) e wrote; goes = m.goes };
    }

says_row : (row : ℕ) (ticket : Option ℕ) (answer : RingPut) (put : Put) → Says row ticket answer put → put_row put ≡ row
says_row row ticket (told.Done version) put is = ap put_row is
says_row row ticket (told.Busy first second) put is = ap put_row is
says_row row None (told.Late greater version) put is = absurd is
says_row row (Some ticket) (told.Late greater version) put is = ap put_row is.0

-- a put names a place of the ring that it was made to
pub put_of : (ring : Ring) (event : Event) (put : Put) (was now : Opening → List Call → Type 0) → IsRing ring → Offers ring event put was now → IsPutOf ring put
put_of (Current thread kind depth) event put was now is o = (is, says_row _ _ o.answer put o.says)
put_of (History thread kind place) event put was now is o = (is, says_row _ _ o.answer put o.says)
put_of (Long kind) event put was now is o = (o.ticket, says_row _ _ o.offered.answer put o.offered.says)

-- the three of an event that ended
pub stand : (slot depth place : ℕ) (kind : EventKind) (current history long : Option Put) → IfSome current (IsPutOf (Current slot kind depth)) → IfSome history (IsPutOf (History slot kind place))
    → IfSome long (IsPutOf (Long kind)) → StandInRings current history long
stand slot depth place kind current history long a b c = record {
  current_at = some_then current (λ put is. (slot, kind, depth, is)) a;
  history_at = some_then history (λ put is. (slot, kind, place, is)) b;
  long_at = some_then long (λ put is. (kind, is)) c;
} where
  some_then : {P Q : Put → Type 0} (o : Option Put) → ((put : Put) → P put → Q put) → IfSome o P → IfSome o Q
  some_then None f h = tt
  some_then (Some put) f h = f put h
