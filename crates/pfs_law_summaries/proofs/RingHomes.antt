-- Each put to a place of a ring stands in the ring of its session's slot.
use Rattle.std.proofs.Common.{◌≡◌, refl, ℕ, ◌+◌, ◌*◌, ◌%◌, ◌<◌, ◌≤◌, Bool, true, false, cond, List, [], ◌∷◌, ◌++◌, Option, Some, None, sym, ap, subst, ◌∙◌, arith}
use Rattle.std.proofs.lemmas.Bool.{eqb-true}
use Rattle.pfs_model.proofs.EachLists.{each_join}
use Rattle.pfs_event.specs.Verdicts.{is_let_through}
use Rattle.pfs_event.specs.declared.entry.Entry.{Entry}
use Rattle.pfs_event.specs.declared.entry.Entry.TheVariants as says
use Rattle.pfs_event.specs.declared.kind.EventKind.{EventKind}
use Rattle.pfs_event.specs.declared.kind.EventKind.TheVariants as kinds
use Rattle.pfs_model.specs.EntryAsks.{cell_row, digest_row, is_head}
use Rattle.pfs_model.specs.Chains.{Each}
use Rattle.pfs_model.specs.Contexts.{Context, noted, subject_of}
use Rattle.pfs_model.specs.EntryPlaces.{Placed}
use Rattle.pfs_model.specs.Puts.{Adds, AreBroughtBehind, ArePaid, Due, IsBrought, Puts, PutsLong, behind_it, current_due, dues_at_end, dues_at_start, due_if, history_dues, history_place, in_slot, is_paid}
use Rattle.pfs_model.specs.Rings.{history_row, place_of_start, ring_number}
use Rattle.pfs_model.specs.SetupFlags.{history_consumer, is_attributed, is_digested, is_offered_at_end, is_offered_current, is_statement, is_wait, long_consumer, open_through}
use Rattle.pfs_model.specs.Shapes.{counted_slot}
use Rattle.pfs_model.specs.declared.lines.Opened.{Opened}
use Rattle.pfs_model.specs.declared.lines.Subject.{Subject}
use Rattle.pfs_law_conservation.proofs.EventOffers.{Near}
use Rattle.pfs_law_summaries.proofs.EventDepths.{AreDeep, Within, offered}
use Rattle.pfs_law_summaries.proofs.Rounds.{AreFollowing, behind_event, is_event, is_ring}

-- one of the places of a slot's ring
abbrev pub IsInRing : Option ℕ → ℕ → Type 0
IsInRing None row = ⊥
IsInRing (Some own) row = (8450 + 56 * own ≤ row) × (row < 8450 + 56 * own + 56)

abbrev pub IsHoused : Option ℕ → Entry → Type 0
IsHoused slot (says.Ring row version) = IsInRing slot row
IsHoused slot entry = Unit {0}

abbrev IsHousedDue : Option ℕ → Due → Type 0
IsHousedDue slot (Puts row) = IsInRing slot row
IsHousedDue slot due = Unit {0}

paid_housed : (slot : Option ℕ) (due : Due) (e : Entry) → IsHousedDue slot due → is_paid due e ≡ true → IsHoused slot e
paid_housed slot (Puts row) (says.Ring at version) h p = subst (IsInRing slot) (sym (eqb-true at row p)) h
paid_housed slot (Adds row) (says.Ring at version) h p = absurd (cc)
paid_housed slot (PutsLong kind) (says.Ring at version) h p = absurd (cc)
paid_housed slot due _ h p = tt

paid_all : (slot : Option ℕ) (dues : List Due) (entries : List Entry) → Each (IsHousedDue slot) dues → ArePaid dues entries → Each (IsHoused slot) entries
paid_all slot [] [] h p = tt
paid_all slot [] (e ∷ es) h p = absurd p
paid_all slot (due ∷ dues) [] h p = absurd p
paid_all slot (due ∷ dues) (e ∷ es) h p = (paid_housed slot due e h.0 p.0, paid_all slot dues es h.1 p.1)

housed_if : (slot : Option ℕ) (asked : Bool) (due : Due) → IsHousedDue slot due → Each (IsHousedDue slot) (due_if asked due)
housed_if slot true due h = (h, tt)
housed_if slot false due h = tt

-- a current place is one, within the depth of its kind
current_in : (own : ℕ) (kind : EventKind) (others : List Opened) → Within kind others → IsInRing (Some own) (place_of_start own kind others)
current_in own kinds.Wait others w = let l : open_through is_wait others < 4 = w in at (open_through is_wait others) l where
  at : (depth : ℕ) → depth < 4 → IsInRing (Some own) (8450 + 56 * own + depth)
  at depth l = (omega arith, omega (arith, l))
current_in own kinds.Statement others w = let l : open_through is_statement others < 10 = w in at (open_through is_statement others) l where
  at : (depth : ℕ) → depth < 10 → IsInRing (Some own) (8450 + 56 * own + 5 + depth)
  at depth l = (omega arith, omega (arith, l))
current_in own kinds.Stage others w = (omega arith, omega arith)
current_in own kinds.Transaction others w = (omega arith, omega arith)

-- and so is a place of a history
history_in : (own put : ℕ) (kind : EventKind) → IsInRing (Some own) (history_row own (ring_number kind) put)
history_in own put kinds.Wait = let l : put % 10 < 10 = omega arith in (omega arith, omega (arith, l))
history_in own put kinds.Stage = let l : put % 10 < 10 = omega arith in (omega arith, omega (arith, l))
history_in own put kinds.Statement = let l : put % 10 < 10 = omega arith in (omega arith, omega (arith, l))
history_in own put kinds.Transaction = let l : put % 10 < 10 = omega arith in (omega arith, omega (arith, l))

-- what is due at a start and an end
currents : (flags : ℕ → ℕ → ℕ) (slot : Option ℕ) (event : Opened) (others : List Opened) → (is_attributed event.verdict ≡ true → Within event.subject.kind others) → Each (IsHousedDue slot) (current_due flags slot event others)
currents flags None event others w = tt
currents flags (Some own) event others w = on (is_offered_current flags (Some own) event) refl where
  on : (b : Bool) → is_offered_current flags (Some own) event ≡ b → Each (IsHousedDue (Some own)) (due_if b (Puts (place_of_start own event.subject.kind others)))
  on true q = (current_in own event.subject.kind others (w (offered flags 0 0 0 (Some own) event q)), tt)
  on false q = tt

histories : (flags : ℕ → ℕ → ℕ) (earlier : List Placed) (p : Placed) (event : Opened) (consumers thread slot : Option ℕ)
    → Each (IsHousedDue slot) (in_slot slot (λ own.
    due_if (is_offered_at_end history_consumer flags p.context.slot event consumers thread) (Puts (history_place earlier p.session own (ring_number event.subject.kind)))
    ++ due_if (is_offered_at_end long_consumer flags p.context.slot event consumers thread) (PutsLong (ring_number event.subject.kind))))
histories flags earlier p event consumers thread None = tt
histories flags earlier p event consumers thread (Some own) =
    each_join (IsHousedDue (Some own)) (due_if (is_offered_at_end history_consumer flags p.context.slot event consumers thread) (Puts (history_place earlier p.session own (ring_number event.subject.kind)))) _
    (housed_if (Some own) (is_offered_at_end history_consumer flags p.context.slot event consumers thread) (Puts (history_place earlier p.session own (ring_number event.subject.kind))) (history_in own _ event.subject.kind))
    (housed_if (Some own) (is_offered_at_end long_consumer flags p.context.slot event consumers thread) (PutsLong (ring_number event.subject.kind)) tt)

end_housed : (flags : ℕ → ℕ → ℕ) (earlier : List Placed) (p : Placed) (opened : List Opened) (consumers thread : Option ℕ) → AreDeep opened → Each (IsHousedDue p.context.slot) (dues_at_end flags earlier p opened consumers thread)
end_housed flags earlier p [] consumers thread d = tt
end_housed flags earlier p (event ∷ others) consumers thread d = at (is_let_through event.verdict) where
  all : Each (IsHousedDue p.context.slot) (due_if (is_digested flags p.context.slot event) (Adds (digest_row event.subject.digest)) ++ (current_due flags p.context.slot event others ++ history_dues flags earlier p event consumers thread))
  all = each_join (IsHousedDue p.context.slot) (due_if (is_digested flags p.context.slot event) (Adds (digest_row event.subject.digest))) (current_due flags p.context.slot event others ++ history_dues flags earlier p event consumers thread)
      (housed_if p.context.slot (is_digested flags p.context.slot event) (Adds (digest_row event.subject.digest)) tt)
      (each_join (IsHousedDue p.context.slot) (current_due flags p.context.slot event others) (history_dues flags earlier p event consumers thread)
      (currents flags p.context.slot event others d.0) (histories flags earlier p event consumers thread p.context.slot))

  at : (b : Bool) → Each (IsHousedDue p.context.slot) (cond b (Adds (cell_row (counted_slot p.context.slot event.verdict) event.subject.cell) ∷ (due_if (is_digested flags p.context.slot event) (Adds (digest_row event.subject.digest)) ++ (current_due flags p.context.slot event others ++ history_dues flags earlier p event consumers thread))) [])
  at true = (tt, all)
  at false = tt

start_housed : (flags : ℕ → ℕ → ℕ) (slot : Option ℕ) (opened : List Opened) → AreDeep opened → Each (IsHousedDue slot) (dues_at_start flags slot opened)
start_housed flags slot [] d = tt
start_housed flags slot (event ∷ others) d = currents flags slot event others d.0

-- a head is no put, and no other entry than a connect changes the slot
head_housed : (slot : Option ℕ) (e : Entry) → is_head e ≡ true → IsHoused slot e
head_housed slot (says.Ring row version) h = absurd (cc)
head_housed slot _ h = tt

other_housed : (slot : Option ℕ) (e : Entry) → is_ring e ≡ false → IsHoused slot e
other_housed slot (says.Ring row version) h = absurd (cc)
other_housed slot _ h = tt

kept_slot : (s : Option Subject) (c : Context) (e : Entry) → is_head e ≡ false → (noted s c e).slot ≡ c.slot
kept_slot s c (says.Connect action thread account user host) f = absurd (cc)
kept_slot s c (says.Start event verdict consumers thread class table) f = absurd (cc)
kept_slot s c (says.End event last consumers thread) f = absurd (cc)
kept_slot s c says.Settle f = absurd (cc)
kept_slot s c (says.Act action) f = absurd (cc)
kept_slot s c (says.Held row first second) f = refl
kept_slot s c (says.Add row version) f = refl
kept_slot s c (says.Take row version) f = refl
kept_slot s c _ f = refl

abbrev pub IsDeepAt : Placed → Type 0
IsDeepAt p = AreDeep p.context.opened × AreDeep (noted (subject_of p.line) p.context p.entry).opened

event_housed : (flags : ℕ → ℕ → ℕ) (earlier : List Placed) (p : Placed) (e : Entry) (behind : List Entry) → is_event e ≡ true → AreDeep p.context.opened → AreDeep (noted (subject_of p.line) p.context p.entry).opened → IsBrought flags earlier p e behind
    → Each (IsHoused p.context.slot) behind
event_housed flags earlier p (says.Start event verdict consumers thread class table) behind i d n b =
    paid_all p.context.slot (dues_at_start flags p.context.slot (noted (subject_of p.line) p.context p.entry).opened) behind (start_housed flags p.context.slot (noted (subject_of p.line) p.context p.entry).opened n) b
event_housed flags earlier p (says.End event last consumers thread) behind i d n b =
    paid_all p.context.slot (dues_at_end flags earlier p p.context.opened consumers thread) behind (end_housed flags earlier p p.context.opened consumers thread d) b
event_housed flags earlier p _ behind i d n b = absurd (cc)

event_slot : (s : Option Subject) (c : Context) (e : Entry) → is_event e ≡ true → (noted s c e).slot ≡ c.slot
event_slot s c (says.Start event verdict consumers thread class table) i = refl
event_slot s c (says.End event last consumers thread) i = refl
event_slot s c _ i = absurd (cc)

pub walk_housed : (flags : ℕ → ℕ → ℕ) (at : ℕ) (d : Context) (before : Option ℕ) (earlier ps : List Placed) → Near at d ps → AreFollowing before ps → AreBroughtBehind flags earlier ps → Each IsDeepAt ps
    → ((session : ℕ) → before ≡ Some session → Each (IsHoused d.slot) (behind_it ps)) → Each (λ (p : Placed). IsHoused p.context.slot p.entry) ps
walk_housed flags at d before earlier [] n f b deep reach = tt
walk_housed flags at d before earlier (p ∷ ps) n f b deep reach =
    on (is_head p.entry) refl (λ next. walk_housed flags p.session (noted (subject_of p.line) p.context p.entry) (behind_event before p) (p ∷ earlier) ps n.1 f.1 b.1 deep.1 next) where
      Go : Type 0
      Go = ((session : ℕ) → behind_event before p ≡ Some session → Each (IsHoused (noted (subject_of p.line) p.context p.entry).slot) (behind_it ps)) → Each (λ (p : Placed). IsHoused p.context.slot p.entry) ps

      -- behind an entry with which a line begins
      headed : (i : Bool) → is_event p.entry ≡ i → (session : ℕ) → cond {A = Option ℕ} i (Some p.session) None ≡ Some session → Each (IsHoused (noted (subject_of p.line) p.context p.entry).slot) (behind_it ps)
      headed false q session e = absurd (cc)
      headed true q session e =
          subst (λ o. Each (IsHoused o) (behind_it ps)) (sym (event_slot (subject_of p.line) p.context p.entry q))
          (event_housed flags earlier p p.entry (behind_it ps) q deep.0.0 deep.0.1 b.0)

      on : (h : Bool) → is_head p.entry ≡ h → Go → IsHoused p.context.slot p.entry × Each (λ (p : Placed). IsHoused p.context.slot p.entry) ps
      on true h go = (head_housed p.context.slot p.entry h, go (λ session e. headed (is_event p.entry) refl session (sym (ap (λ z. cond z (cond (is_event p.entry) (Some p.session) None) before) h) ∙ e)))
      on false h go = (here (is_ring p.entry) refl, go rest) where
        entries : (session : ℕ) → before ≡ Some session → Each (IsHoused d.slot) (p.entry ∷ behind_it ps)
        entries session e = subst (λ z. Each (IsHoused d.slot) (cond z [] (p.entry ∷ behind_it ps))) h (reach session e)

        same : p.context.slot ≡ d.slot
        same = ap (λ (z : Context). z.slot) (n.0 h).1

        here : (r : Bool) → is_ring p.entry ≡ r → IsHoused p.context.slot p.entry
        here false r = other_housed p.context.slot p.entry r
        here true r = subst (λ o. IsHoused o p.entry) (sym same) (entries p.session (f.0 r)).0

        rest : (session : ℕ) → behind_event before p ≡ Some session → Each (IsHoused (noted (subject_of p.line) p.context p.entry).slot) (behind_it ps)
        rest session e =
            subst (λ o. Each (IsHoused o) (behind_it ps)) (sym (kept_slot (subject_of p.line) p.context p.entry h ∙ same))
            (entries session (sym (ap (λ z. cond z (cond (is_event p.entry) (Some p.session) None) before) h) ∙ e)).1
