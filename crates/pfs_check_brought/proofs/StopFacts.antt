-- Where a walk stops, by the entries in their order: the event of which something is due there.
use Rattle.std.proofs.Common.{◌≡◌, refl, ℕ, zero, suc, ◌+◌, ◌-◌, ◌<◌, inl, inr, Bool, true, false, cond, List, [], ◌∷◌, length, sym, ◌∙◌, ap, subst, arith}
use Rattle.std.specs.Prelude.{◌⊎◌}
use Rattle.pfs_event.specs.declared.entry.Entry.{Entry}
use Rattle.pfs_event.specs.declared.entry.Entry.TheVariants as says
use Rattle.pfs_model.specs.Contexts.{noted, subject_of}
use Rattle.pfs_model.specs.EntryAsks.{is_head}
use Rattle.pfs_model.specs.EntryPlaces.{Placed}
use Rattle.pfs_model.specs.Puts.{Due, behind_it, dues_at_end, dues_at_start}
use Rattle.pfs_check_dues.specs.DueRules.{IsFirstUnbrought, IsOwing}
use Rattle.pfs_check_dues.specs.OwedPuts.{PaysAt}
use Rattle.pfs_check_dues.proofs.LineSpans.{first_law}
use Rattle.pfs_check_dues.proofs.OwedFacts.{Stops, owing_law}
use Rattle.pfs_check_faults.specs.ReportCases.{AllHave, StandsOn}
use Rattle.pfs_check_faults.specs.RingFaults.{IsUnbrought, IsUnpaid, UnbroughtAt}
use Rattle.pfs_check_walk.specs.Walks.{LacksFirst, onto}
use Rattle.pfs_check_brought.specs.declared.bringing.Stop.{Stop}
use Rattle.pfs_check_brought.specs.BroughtRules.{StopsOwing}
use Rattle.pfs_check_brought.specs.StoppedWalks.{HavePaid, SomeStops, is_event, last_event}

-- the place of the last event of those and of the first of these, so many
abbrev pub last_at : List Placed → List Placed → ℕ → ℕ
last_at earlier ps zero = last_event earlier
last_at earlier [] (suc at) = last_event earlier
last_at earlier (p ∷ ps) (suc at) = last_at (p ∷ earlier) ps at

pub last_all : (earlier ps : List Placed) → last_at earlier ps (length ps) ≡ last_event (onto earlier ps)
last_all earlier [] = refl
last_all earlier (p ∷ ps) = ap (last_at earlier (p ∷ ps)) (one (length ps)) ∙ last_all (p ∷ earlier) ps where
  one : (n : ℕ) → length (p ∷ ps) ≡ suc (length ps)
  one n = omega arith

pub length_onto : (earlier ps : List Placed) → length (onto earlier ps) ≡ length earlier + length ps
length_onto earlier [] = omega arith
length_onto earlier (p ∷ ps) = let more = length_onto (p ∷ earlier) ps in omega (arith, more)

-- an event is an entry with which something begins
no_event : (entry : Entry) → is_head entry ≡ false → is_event entry ≡ false
no_event (says.Start event verdict consumers thread class table) e = e
no_event (says.End event last consumers thread) e = e
no_event _ e = refl

-- what is unpaid belongs to the last event
none_open : (earlier ps : List Placed) (dues : List Due) (k : ℕ) → IsUnpaid dues (behind_it ps) k → last_at earlier ps k ≡ last_event earlier
none_open earlier ps dues zero u = refl
none_open earlier [] dues (suc k) u = refl
none_open earlier (p ∷ ps) dues (suc k) u = on (is_head p.entry) dues refl u (λ rest v. none_open (p ∷ earlier) ps rest k v) where
  on : (b : Bool) (dues : List Due) → is_head p.entry ≡ b → IsUnpaid dues (cond b [] (p.entry ∷ behind_it ps)) (suc k)
      → ((rest : List Due) → IsUnpaid rest (behind_it ps) k → last_at (p ∷ earlier) ps k ≡ last_event (p ∷ earlier))
      → last_at (p ∷ earlier) ps k ≡ last_event earlier
  on true [] e u more = absurd u
  on true (due ∷ dues) e u more = absurd u
  on false [] e u more = absurd u
  on false (due ∷ dues) e u more =
      more dues u.1 ∙ ap (λ z. cond z (length earlier) (last_event earlier)) (no_event p.entry e)

unbrought_event : (flags : ℕ → ℕ → ℕ) (earlier : List Placed) (place : Placed) (entry : Entry) (behind : List Entry) (k : ℕ)
    → IsUnbrought flags earlier place entry behind k → (is_event entry ≡ true) × ((dues : List Due) × IsUnpaid dues behind k)
unbrought_event flags earlier place (says.Start event verdict consumers thread class table) behind k u =
    (refl, (dues_at_start flags place.context.slot (noted (subject_of place.line) place.context place.entry).opened, u))
unbrought_event flags earlier place (says.End event last consumers thread) behind k u =
    (refl, (dues_at_end flags earlier place place.context.opened consumers thread, u))
unbrought_event flags earlier place _ behind k u = absurd u

plus_one : (n k : ℕ) → suc n + 1 + k ≡ suc (n + 1 + k)
plus_one n k = omega arith

first_one : (k : ℕ) → 0 + 1 + k ≡ suc k
first_one k = omega arith

event_last : (flags : ℕ → ℕ → ℕ) (earlier ps : List Placed) (event k : ℕ) → UnbroughtAt flags earlier ps event k
    → last_at earlier ps (event + 1 + k) ≡ length earlier + event
event_last flags earlier [] event k u = absurd u
event_last flags earlier (p ∷ ps) zero k u = on (unbrought_event flags earlier p p.entry (behind_it ps) k u) where
  plain : (n : ℕ) → n ≡ n + 0
  plain n = omega arith

  on : (is_event p.entry ≡ true) × ((dues : List Due) × IsUnpaid dues (behind_it ps) k) → last_at earlier (p ∷ ps) (0 + 1 + k) ≡ length earlier + 0
  on (e, (dues, v)) =
      ap (last_at earlier (p ∷ ps)) (first_one k) ∙ none_open (p ∷ earlier) ps dues k v
      ∙ ap (λ z. cond z (length earlier) (last_event earlier)) e ∙ plain (length earlier)
event_last flags earlier (p ∷ ps) (suc event) k u =
    ap (last_at earlier (p ∷ ps)) (plus_one event k) ∙ event_last flags (p ∷ earlier) ps event k u ∙ longer where
      longer : length (p ∷ earlier) + event ≡ length earlier + suc event
      longer = omega arith

unbrought_within : (flags : ℕ → ℕ → ℕ) (earlier ps : List Placed) (event k : ℕ) → UnbroughtAt flags earlier ps event k → event < length ps
unbrought_within flags earlier [] event k u = absurd u
unbrought_within flags earlier (p ∷ ps) zero k u = omega arith
unbrought_within flags earlier (p ∷ ps) (suc event) k u =
    let more = unbrought_within flags (p ∷ earlier) ps event k u in omega (arith, more)

-- So the last event before the place where the walk stops is the one that isn't brought.
pub stops_owing : (flags : ℕ → ℕ → ℕ) (all : List Placed) (stop : Stop) → Stops flags [] all stop.at → stop.event ≡ last_at [] all stop.at
    → StopsOwing flags all stop
stops_owing flags all stop stops last = record {
  within = subst (λ z. z < length all) (sym same) (unbrought_within flags [] all owing.event owing.paid owing.wrong);
  first = λ report begins stands.
      subst (IsFirstUnbrought report flags all) (line begins)
      (first_law report flags all stop.at stops owing begins (subst (λ z. StandsOn report z begins) same stands));
} where
  owing : IsOwing flags all stop.at
  owing = owing_law flags all stop.at stops

  same : stop.event ≡ owing.event
  same =
      last ∙ ap (last_at [] all) (sym owing.place_is) ∙ event_last flags [] all owing.event owing.paid owing.wrong ∙ plain owing.event where
        plain : (n : ℕ) → length {A = Placed} [] + n ≡ n
        plain n = omega arith

  line : (begins : ℕ) → begins + 1 + owing.paid ≡ begins + (stop.at - stop.event)
  line begins =
      let place : owing.event + 1 + owing.paid ≡ stop.at = owing.place_is in
      let event : stop.event ≡ owing.event = same in
      omega (arith, place, event)

-- All that paid, in their order.
pub paid_have : (flags : ℕ → ℕ → ℕ) (earlier ps : List Placed) → HavePaid flags (onto earlier ps)
    → AllHave (PaysAt flags) earlier ps × HavePaid flags earlier
paid_have flags earlier [] h = (tt, h)
paid_have flags earlier (p ∷ ps) h = on (paid_have flags (p ∷ earlier) ps h) where
  on : AllHave (PaysAt flags) (p ∷ earlier) ps × HavePaid flags (p ∷ earlier) → AllHave (PaysAt flags) earlier (p ∷ ps) × HavePaid flags earlier
  on (more, own) = ((own.0, more), own.1)

-- where the first doesn't, behind those
record Found (flags : ℕ → ℕ → ℕ) (earlier ps : List Placed) (stop : Stop) : Type 0 where
  at : ℕ
  place : stop.at ≡ length earlier + at
  paid : HavePaid flags earlier
  lacks : LacksFirst (PaysAt flags) earlier ps at
  last : stop.event ≡ last_at earlier ps at

found : (flags : ℕ → ℕ → ℕ) (earlier ps : List Placed) (stop : Stop) → SomeStops flags (onto earlier ps) stop
    → SomeStops flags earlier stop ⊎ Found flags earlier ps stop
found flags earlier [] stop s = inl s
found flags earlier (p ∷ ps) stop s = on (found flags (p ∷ earlier) ps stop s) where
  on : SomeStops flags (p ∷ earlier) stop ⊎ Found flags (p ∷ earlier) ps stop → SomeStops flags earlier stop ⊎ Found flags earlier (p ∷ ps) stop
  on (inl (inl here)) = inr (record {
    at = 0;
    place = omega (arith, here.at);
    paid = here.paid;
    lacks = here.unpaid;
    last = here.event;
  })
  on (inl (inr before)) = inl before
  on (inr f) = inr (record {
    at = suc f.at;
    place = omega (arith, f.place);
    paid = f.paid.1;
    lacks = (f.paid.0, f.lacks);
    last = f.last;
  })

pub stop_found : (flags : ℕ → ℕ → ℕ) (all : List Placed) (stop : Stop) → SomeStops flags (onto [] all) stop → StopsOwing flags all stop
stop_found flags all stop s = on (found flags [] all stop s) where
  on : SomeStops flags [] stop ⊎ Found flags [] all stop → StopsOwing flags all stop
  on (inl h) = absurd h
  on (inr f) =
      let same : f.at ≡ stop.at = omega (arith, f.place) in
      stops_owing flags all stop (inl (subst (LacksFirst (PaysAt flags) [] all) same f.lacks)) (f.last ∙ ap (last_at [] all) same)
