-- Each addition, held or made, is to a row of a kind, if the rows that events end at are: what is due at an end is a
-- cell's row or a digest's.
use Rattle.std.proofs.Common.{◌≡◌, refl, ℕ, ◌==◌, Bool, true, false, cond, nat_lt, List, [], ◌∷◌, ◌++◌, Option, Some, None, sym, ap, subst, ◌∙◌, ◌⊎◌, inl, inr, Less, Equal, Greater}
use Rattle.std.specs.Ordering.{match_ordering, is_eq}
use Rattle.std.specs.Prelude.{IfSome}
use Rattle.std.proofs.lemmas.Bool.{eqb-true}
use Rattle.pfs_model.proofs.EachLists.{each_behind, each_front, each_join}
use Rattle.pfs_lemmas.proofs.Numbers.{eq_self}
use Rattle.pfs_event.specs.Verdicts.{is_let_through}
use Rattle.pfs_event.specs.declared.entry.Entry.{Entry}
use Rattle.pfs_event.specs.declared.entry.Entry.TheVariants as says
use Rattle.pfs_model.specs.Actions.{IsAmong}
use Rattle.pfs_model.specs.EntryAsks.{cell_row, digest_row, is_head, is_settle}
use Rattle.pfs_model.specs.Chains.{Each}
use Rattle.pfs_model.specs.Contexts.{Context, fresh, noted, subject_of, with_row, without_row}
use Rattle.pfs_model.specs.EntryPlaces.{Placed}
use Rattle.pfs_model.specs.Puts.{Adds, AreBroughtBehind, ArePaid, Due, IsBrought, Puts, PutsLong, behind_it, current_due, dues_at_end, due_if, history_dues, history_place, in_slot, is_paid}
use Rattle.pfs_model.specs.Rings.{place_of_start, ring_number}
use Rattle.pfs_model.specs.SetupFlags.{history_consumer, is_digested, is_offered_at_end, is_offered_current, long_consumer}
use Rattle.pfs_model.specs.Shapes.{counted_slot}
use Rattle.pfs_model.specs.declared.lines.Opened.{Opened}
use Rattle.pfs_model.specs.declared.lines.Subject.{Subject}
use Rattle.pfs_law_conservation.proofs.SettledAdditions.{FromHeld, Settles, settled_rows}
use Rattle.pfs_law_conservation.proofs.EntryWalk.{Comes, Follow, then_told}
use Rattle.pfs_law_conservation.proofs.AdditionSources.{in_reach, is_feed, is_source}
use Rattle.pfs_law_conservation.proofs.EventOffers.{AreFedPlaces}
use Rattle.pfs_law_conservation.specs.RunEvents.{Ended, all_ended, ended_at, ended_first}

-- an addition is to a row of these
abbrev pub IsFeedAt : (ℕ → Type 0) → Entry → Type 0
IsFeedAt P (says.Add row version) = P row
IsFeedAt P (says.Held row first second) = P row
IsFeedAt P _ = Unit {0}

-- the rows that an ended event is added to, its cell's and its digest's, are such
abbrev pub IsHomeAt : (ℕ → Type 0) → Ended → Type 0
IsHomeAt P one = P (cell_row (counted_slot one.context.slot one.event.verdict) one.event.subject.cell) × P (digest_row one.event.subject.digest)

module _ (P : ℕ → Type 0) where
  abbrev IsFeed : Entry → Type 0
  IsFeed = IsFeedAt P

  abbrev IsHome : Ended → Type 0
  IsHome = IsHomeAt P

  no_feed : (e : Entry) → is_feed e ≡ false → IsFeed e
  no_feed (says.Add row version) f = absurd (cc)
  no_feed (says.Held row first second) f = absurd (cc)
  no_feed _ f = tt

  head_feed : (e : Entry) → is_head e ≡ true → IsFeed e
  head_feed (says.Add row version) h = absurd (cc)
  head_feed (says.Held row first second) h = absurd (cc)
  head_feed _ h = tt

  -- held rows
  abbrev AreHeld : List ℕ → Type 0
  AreHeld rows = Each P rows

  held_with : (row : ℕ) (rows : List ℕ) → P row → AreHeld rows → AreHeld (with_row row rows)
  held_with row [] l h = (l, tt)
  held_with row (x ∷ xs) l h = at (nat_lt row x) (row == x) (held_with row xs l h.1) where
    at : (a b : Bool) → AreHeld (with_row row xs) → AreHeld (match_ordering (cond a Less (cond b Equal Greater)) (row ∷ x ∷ xs) (x ∷ xs) (x ∷ with_row row xs))
    at true b r = (l, h)
    at false true r = h
    at false false r = (h.0, r)

  held_without : (row : ℕ) (rows : List ℕ) → AreHeld rows → AreHeld (without_row row rows)
  held_without row [] h = tt
  held_without row (x ∷ xs) h = at (nat_lt row x) (row == x) (held_without row xs h.1) where
    at : (a b : Bool) → AreHeld (without_row row xs) → AreHeld (cond (is_eq (cond a Less (cond b Equal Greater))) xs (x ∷ without_row row xs))
    at true b r = (h.0, r)
    at false true r = h.1
    at false false r = (h.0, r)

  held_noted : (s : Option Subject) (c : Context) (e : Entry) → AreHeld c.held → IsFeed e → AreHeld (noted s c e).held
  held_noted s c (says.Held row first second) h l = held_with row c.held l h
  held_noted s c (says.Add row version) h l = held_without row c.held h
  held_noted s c (says.Connect action thread account user host) h l = h
  held_noted s c (says.Start event verdict consumers thread class table) h l = h
  held_noted s c (says.End event last consumers thread) h l = h
  held_noted s c says.Settle h l = h
  held_noted s c (says.Act action) h l = h
  held_noted s c (says.Take row version) h l = h
  held_noted s c _ h l = h

  held_among : (row : ℕ) (rows : List ℕ) → IsAmong row rows → AreHeld rows → P row
  held_among row [] m h = absurd m
  held_among row (x ∷ xs) (inl e) h = subst P e h.0
  held_among row (x ∷ xs) (inr m) h = held_among row xs m h.1

  held_from : (rows : List ℕ) (e : Entry) → AreHeld rows → FromHeld rows e → IsFeed e
  held_from rows (says.Add row version) h f = held_among row rows f h
  held_from rows (says.Held row first second) h f = absurd f
  held_from rows _ h f = tt

  -- what is due at the end of an event
  abbrev IsAdd : Due → Type 0
  IsAdd (Adds row) = P row
  IsAdd due = Unit {0}

  due_paid : (due : Due) (e : Entry) → IsAdd due → is_paid due e ≡ true → IsFeed e
  due_paid (Adds row) (says.Add at version) h p = subst P (sym (eqb-true at row p)) h
  due_paid (Adds row) (says.Held at first second) h p = subst P (sym (eqb-true at row p)) h
  due_paid (Puts row) (says.Add at version) h p = absurd (cc)
  due_paid (Puts row) (says.Held at first second) h p = absurd (cc)
  due_paid (PutsLong kind) (says.Add at version) h p = absurd (cc)
  due_paid (PutsLong kind) (says.Held at first second) h p = absurd (cc)
  due_paid due _ h p = tt

  paid_all : (dues : List Due) (entries : List Entry) → Each IsAdd dues → ArePaid dues entries → Each IsFeed entries
  paid_all [] [] h p = tt
  paid_all [] (e ∷ es) h p = absurd p
  paid_all (due ∷ dues) [] h p = absurd p
  paid_all (due ∷ dues) (e ∷ es) h p = (due_paid due e h.0 p.0, paid_all dues es h.1 p.1)

  due_asked : (asked : Bool) (due : Due) → IsAdd due → Each IsAdd (due_if asked due)
  due_asked true due h = (h, tt)
  due_asked false due h = tt

  due_in_slot : (slot : Option ℕ) (dues : ℕ → List Due) → ((own : ℕ) → Each IsAdd (dues own)) → Each IsAdd (in_slot slot dues)
  due_in_slot None dues h = tt
  due_in_slot (Some own) dues h = h own

  current_puts : (flags : ℕ → ℕ → ℕ) (slot : Option ℕ) (event : Opened) (others : List Opened) → Each IsAdd (current_due flags slot event others)
  current_puts flags slot event others =
      due_in_slot slot (λ own. due_if (is_offered_current flags slot event) (Puts (place_of_start own event.subject.kind others)))
      (λ own. due_asked (is_offered_current flags slot event) (Puts (place_of_start own event.subject.kind others)) tt)

  history_puts : (flags : ℕ → ℕ → ℕ) (earlier : List Placed) (p : Placed) (event : Opened) (consumers thread : Option ℕ) → Each IsAdd (history_dues flags earlier p event consumers thread)
  history_puts flags earlier p event consumers thread =
      due_in_slot p.context.slot _
      (λ own. each_join IsAdd (due_if (is_offered_at_end history_consumer flags p.context.slot event consumers thread) (Puts (history_place earlier p.session own (ring_number event.subject.kind)))) _
      (due_asked (is_offered_at_end history_consumer flags p.context.slot event consumers thread) (Puts (history_place earlier p.session own (ring_number event.subject.kind))) tt)
      (due_asked (is_offered_at_end long_consumer flags p.context.slot event consumers thread) (PutsLong (ring_number event.subject.kind)) tt))

  first_dues : (flags : ℕ → ℕ → ℕ) (earlier : List Placed) (p : Placed) (event : Opened) (others : List Opened) (consumers thread : Option ℕ) → IsHome (record { session = p.session; event = event; context = p.context })
      → Each IsAdd (dues_at_end flags earlier p (event ∷ others) consumers thread)
  first_dues flags earlier p event others consumers thread h = at (is_let_through event.verdict) where
    all : Each IsAdd (due_if (is_digested flags p.context.slot event) (Adds (digest_row event.subject.digest)) ++ (current_due flags p.context.slot event others ++ history_dues flags earlier p event consumers thread))
    all = each_join IsAdd (due_if (is_digested flags p.context.slot event) (Adds (digest_row event.subject.digest))) (current_due flags p.context.slot event others ++ history_dues flags earlier p event consumers thread)
        (due_asked (is_digested flags p.context.slot event) (Adds (digest_row event.subject.digest)) h.1)
        (each_join IsAdd (current_due flags p.context.slot event others) (history_dues flags earlier p event consumers thread) (current_puts flags p.context.slot event others) (history_puts flags earlier p event consumers thread))

    at : (b : Bool) → Each IsAdd (cond b (Adds (cell_row (counted_slot p.context.slot event.verdict) event.subject.cell) ∷ (due_if (is_digested flags p.context.slot event) (Adds (digest_row event.subject.digest)) ++ (current_due flags p.context.slot event others ++ history_dues flags earlier p event consumers thread))) [])
    at true = (h.0, all)
    at false = tt

  all_dues : (flags : ℕ → ℕ → ℕ) (earlier : List Placed) (p : Placed) (opened : List Opened) (consumers thread : Option ℕ) → Each IsHome (ended_first p opened) → Each IsAdd (dues_at_end flags earlier p opened consumers thread)
  all_dues flags earlier p [] consumers thread h = tt
  all_dues flags earlier p (event ∷ others) consumers thread h = first_dues flags earlier p event others consumers thread h.0

  -- what may still be added: what is paid, or rows that are settled
  abbrev SettledRows : Option (List ℕ) → Type 0
  SettledRows None = ⊥
  SettledRows (Some rows) = AreHeld rows

  abbrev InReach : Option (List ℕ) → List Placed → Type 0
  InReach rows ps = Each IsFeed (behind_it ps) ⊎ SettledRows rows

  walk : (flags : ℕ → ℕ → ℕ) (told : ℕ → Context) (earlier ps : List Placed) (hand : Bool) (rows : Option (List ℕ)) → ((session : ℕ) → Follow session (told session) ps)
      → ((session : ℕ) → AreHeld (told session).held) → Each IsHome (all_ended ps) → AreFedPlaces hand ps → AreBroughtBehind flags earlier ps → Settles rows ps → (hand ≡ true → InReach rows ps)
      → Each (λ (p : Placed). IsFeed p.entry) ps
  walk flags told earlier [] hand rows follow here_held homes fed brought settles reach = tt
  walk flags told earlier (p ∷ ps) hand rows follow here_held homes fed brought settles reach =
      at (is_head p.entry) refl
      (λ here next. walk flags (λ session. then_told session (told session) p) (p ∷ earlier) ps (in_reach hand p.entry) (settled_rows rows p.context.held p.entry)
      (λ session. (follow session).1) (λ session. still session here (p.session == session)) (each_behind IsHome (ended_at p p.entry) (all_ended ps) homes) fed.1 brought.1 settles.1 next) where
        own_held : (c : Context) → Comes (told p.session) c → AreHeld c.held
        own_held c (inl e) = subst (λ (z : Context). AreHeld z.held) (sym e) (here_held p.session)
        own_held c (inr e) = subst (λ (z : Context). AreHeld z.held) (sym e) (here_held p.session)

        held : AreHeld p.context.held
        held = own_held p.context ((follow p.session).0 (eq_self p.session))

        still : (session : ℕ) → IsFeed p.entry → (b : Bool) → AreHeld (cond b (noted (subject_of p.line) p.context p.entry) (told session)).held
        still session here true = held_noted (subject_of p.line) p.context p.entry held here
        still session here false = here_held session

        Go : Type 0
        Go = IsFeed p.entry → (in_reach hand p.entry ≡ true → InReach (settled_rows rows p.context.held p.entry) ps) → Each (λ (p : Placed). IsFeed p.entry) ps

        -- behind an entry that begins a line's
        first : (e : Entry) → is_head e ≡ true → is_source e ≡ true → Each IsHome (ended_at p e) → IsBrought flags earlier p e (behind_it ps) → InReach (settled_rows rows p.context.held e) ps
        first (says.End event last consumers thread) h s k b =
            inl (paid_all (dues_at_end flags earlier p p.context.opened consumers thread) (behind_it ps) (all_dues flags earlier p p.context.opened consumers thread k) b)
        first says.Settle h s k b = inr held
        first _ h s k b = absurd (cc)

        at : (b : Bool) → is_head p.entry ≡ b → Go → IsFeed p.entry × Each (λ (p : Placed). IsFeed p.entry) ps
        at true h go =
            let here : IsFeed p.entry = head_feed p.entry h in
            (here, go here (λ s. first p.entry h (sym (ap (λ b. cond b (is_source p.entry) hand) h) ∙ s) (each_front IsHome (ended_at p p.entry) (all_ended ps) homes) brought.0))
        at false h go = on hand refl where
          same : settled_rows rows p.context.held p.entry ≡ rows
          same = ap (λ b. cond b (cond (is_settle p.entry) (Some p.context.held) None) rows) h

          kept : in_reach hand p.entry ≡ hand
          kept = ap (λ b. cond b (is_source p.entry) hand) h

          entries : Each IsFeed (behind_it (p ∷ ps)) → Each IsFeed (p.entry ∷ behind_it ps)
          entries e = subst (λ b. Each IsFeed (cond b [] (p.entry ∷ behind_it ps))) h e

          settled : (some : Option (List ℕ)) → SettledRows some → IfSome some (λ r. is_head p.entry ≡ false → FromHeld r p.entry) → IsFeed p.entry
          settled None a f = absurd a
          settled (Some r) a f = held_from r p.entry a (f h)

          on : (x : Bool) → hand ≡ x → IsFeed p.entry × Each (λ (p : Placed). IsFeed p.entry) ps
          on false q =
              let here : IsFeed p.entry = no_feed p.entry (fed.0 q) in
              (here, go here (λ s. absurd (let k : true ≡ false = sym s ∙ (kept ∙ q) in cc)))
          on true q = by (reach q) where
            by : InReach rows (p ∷ ps) → IsFeed p.entry × Each (λ (p : Placed). IsFeed p.entry) ps
            by (inl e) = let both : Each IsFeed (p.entry ∷ behind_it ps) = entries e in (both.0, go both.0 (λ s. inl both.1))
            by (inr a) = let here : IsFeed p.entry = settled rows a settles.0 in (here, go here (λ s. inr (subst SettledRows (sym same) a)))

  pub additions_at : (flags : ℕ → ℕ → ℕ) (ps : List Placed) → ((session : ℕ) → Follow session fresh ps) → Each IsHome (all_ended ps) → AreFedPlaces false ps → AreBroughtBehind flags [] ps → Settles None ps
      → Each (λ (p : Placed). IsFeed p.entry) ps
  additions_at flags ps follow homes fed brought settles = walk flags (λ session. fresh) [] ps false None follow (λ session. tt) homes fed brought settles (λ q. absurd (cc))
