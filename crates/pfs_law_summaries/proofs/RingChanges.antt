-- A place of a thread's ring is changed by puts alone, of sessions in that slot: of each run.
use Rattle.std.proofs.Common.{◌≡◌, refl, ℕ, ◌+◌, ◌-◌, ◌*◌, ◌/◌, ◌%◌, ◌<◌, ◌≤◌, ◌==◌, Bool, true, false, cond, List, [], ◌∷◌, ◌++◌, length, filter, Option, Some, None, sym, ap, subst, ◌∙◌, inl, inr, arith}
use Rattle.std.specs.Prelude.{IfSome, ◌⊎◌}
use Rattle.pfs_lemmas.proofs.Numbers.{eq_self, le_self}
use Rattle.pfs_event.specs.declared.entry.Entry.{Entry}
use Rattle.pfs_event.specs.declared.entry.Entry.TheVariants as says
use Rattle.pfs_model.specs.Actions.{IsAmong, is_acted}
use Rattle.pfs_model.specs.ActionAsks.{did}
use Rattle.pfs_model.specs.EntryAsks.{digest_row}
use Rattle.pfs_model.specs.Causes.{kind_of_row}
use Rattle.pfs_model.specs.Chains.{Each, action_change, change_at, each_of, row_change}
use Rattle.pfs_model.specs.Contexts.{fresh}
use Rattle.pfs_model.specs.Floors.{AreFlooredBehind}
use Rattle.pfs_model.specs.EntryPlaces.{IsShaped, Placed, chosen, in_phase, places, up_to_phase}
use Rattle.pfs_model.specs.Puts.{AreBroughtBehind}
use Rattle.pfs_model.specs.Rings.{AreTickets, IsAtOwn, LongPut, long_put, long_puts}
use Rattle.pfs_model.specs.SetupFlags.{AreJudged}
use Rattle.pfs_model.specs.declared.changes.Change.{Change}
use Rattle.pfs_runs.specs.Rules.{flags_by}
use Rattle.pfs_model.proofs.Members.{among_back, among_front}
use Rattle.pfs_law_conservation.proofs.SettledAdditions.{Settles, all_settling}
use Rattle.pfs_law_conservation.proofs.AdditionFloors.{place_among}
use Rattle.pfs_law_conservation.proofs.PhaseEntries.{IsFront, blocks_to, front_shaped, fronts}
use Rattle.pfs_law_conservation.proofs.HomeRows.{IsLowEnded, by_sessions, home_low}
use Rattle.pfs_law_conservation.proofs.RunEntries.{HasText, run_acting, run_ended_low, run_follow, run_near, run_said, run_texted}
use Rattle.pfs_law_conservation.proofs.EventNumbers.{which}
use Rattle.pfs_law_conservation.proofs.EventOffers.{AreFedPlaces, all_fed, brought_front, home_row}
use Rattle.pfs_law_conservation.proofs.ChosenLines.{each_both, each_map}
use Rattle.pfs_law_conservation.proofs.ActionJournals.{HasNumber, said_range, said_to}
use Rattle.pfs_law_conservation.proofs.InfoTags.{IsLowTag, each_did, low_asked}
use Rattle.pfs_law_conservation.specs.RunEvents.{Ended, all_ended}
use Rattle.pfs_law_conservation.specs.Premises.{AreKept, IsOrderly}
use Rattle.pfs_law_conservation.specs.RunTerms.{Run, entries_to, terms_by}
use Rattle.pfs_law_summaries.proofs.EventDepths.{deep_walk}
use Rattle.pfs_law_summaries.proofs.RingAdditions.{IsLowFeed, IsLowHome, all_fed_low}
use Rattle.pfs_law_summaries.proofs.OwnSources.{all_following}
use Rattle.pfs_law_summaries.proofs.RingHomes.{IsDeepAt, IsHoused, IsInRing, walk_housed}
use Rattle.pfs_law_summaries.proofs.IdlePuts.{IsIdle, all_idle}
use Rattle.pfs_law_conservation.proofs.CellMoves.{IsOfCells, asked_cells}
use Rattle.pfs_law_summaries.proofs.OwnHistories.{floored_front, judged_front}
use Rattle.pfs_law_summaries.proofs.Rounds.{AreFollowing}

-- what is chosen stands among the chosen
chosen_among : (test : Placed → Bool) (p : Placed) (ps : List Placed) → test p ≡ true → IsAmong p ps → IsAmong p (chosen test ps)
chosen_among test p [] q m = absurd m
chosen_among test p (x ∷ ps) q (inl e) = subst (λ b. IsAmong p (cond b (x ∷ []) [] ++ chosen test ps)) (sym (ap test e ∙ q)) (inl e)
chosen_among test p (x ∷ ps) q (inr m) = among_back p (cond (test x) (x ∷ []) []) (chosen test ps) (chosen_among test p ps q m)

each_of_among : {A : Type 0} (P : A → Type 0) (x : A) (xs : List A) → IsAmong x xs → Each P xs → P x
each_of_among P x [] m h = absurd m
each_of_among P x (y ∷ xs) (inl e) h = subst P e h.0
each_of_among P x (y ∷ xs) (inr m) h = each_of_among P x xs m h.1

-- a put of a long history is one of its kind's
long_among : (kind : ℕ) (put : LongPut) (p : Placed) (ps : List Placed) → IsAmong p ps → IsAmong put (filter (λ (z : LongPut). kind_of_row z.row == kind) (long_put p.line p.entry)) → IsAmong put (long_puts kind ps)
long_among kind put p [] m a = absurd m
long_among kind put p (x ∷ ps) (inl e) a =
    among_front put (filter (λ (z : LongPut). kind_of_row z.row == kind) (long_put x.line x.entry)) (long_puts kind ps) (subst (λ (z : Placed). IsAmong put (filter (λ (y : LongPut). kind_of_row y.row == kind) (long_put z.line z.entry))) (sym e) a)
long_among kind put p (x ∷ ps) (inr m) a =
    among_back put (filter (λ (z : LongPut). kind_of_row z.row == kind) (long_put x.line x.entry)) (long_puts kind ps) (long_among kind put p ps m a)

-- so its place lies past the rings, by its ticket
long_high : (all : List Placed) → ((phase kind : ℕ) → kind < 4 → AreTickets all phase kind) → (p : Placed) → IsAmong p all → (row version ticket : ℕ) → p.entry ≡ says.Long row version ticket → 10242 ≤ row
long_high all tickets p m row version ticket e = on (which 4 (kind_of_row row)) where
  own : LongPut
  own = record { row = row; ticket = Some ticket }

  on : (4 ≤ kind_of_row row) ⊎ (kind_of_row row < 4) → 10242 ≤ row
  on (inl l) = let k : 4 ≤ (row - 10242) / 1000 = l in omega (arith, k)
  on (inr l) = let f : row ≡ 10242 + 1000 * kind_of_row row + ticket % 1000 = at ticket refl in past row (kind_of_row row) (ticket % 1000) f where
    past : (row kind rest : ℕ) → row ≡ 10242 + 1000 * kind + rest → 10242 ≤ row
    past row kind rest f = omega (arith, f)

    one : IsAmong own (filter (λ (z : LongPut). kind_of_row z.row == kind_of_row row) (own ∷ []))
    one = subst (λ b. IsAmong own (cond b (own ∷ []) [])) (sym (eq_self (kind_of_row row))) (inl refl)

    among : IsAmong own (long_puts (kind_of_row row) (in_phase p.phase all))
    among =
        long_among (kind_of_row row) own p (in_phase p.phase all) (chosen_among (λ place. place.phase == p.phase) p all (eq_self p.phase) m)
        (subst (λ z. IsAmong own (filter (λ (y : LongPut). kind_of_row y.row == kind_of_row row) (long_put p.line z))) (sym e) one)

    at : IsAtOwn (kind_of_row row) own
    at = each_of_among (IsAtOwn (kind_of_row row)) own (long_puts (kind_of_row row) (in_phase p.phase all)) among (tickets p.phase (kind_of_row row) l).own

-- of two changes of one row and version
same_change : (row version at v : ℕ) → change_at at v ≡ change_at row version → (at ≡ row) × (v ≡ version)
same_change row version at v e = (ap (λ (z : Change). z.row) e, ap (λ (z : Change). z.version) e)

-- the slot whose ring has the row
pub record IsPutIn (p : Placed) (row : ℕ) : Type 0 where
  pub own : ℕ
  pub slot : p.context.slot ≡ Some own
  pub low : 8450 + 56 * own ≤ row
  pub high : row < 8450 + 56 * own + 56

module _ (run : Run) (kept : AreKept run) (orderly : IsOrderly run) (phase : ℕ) where
  abbrev all : List Placed
  all = places run.blocks

  abbrev ps : List Placed
  ps = entries_to run phase

  front : IsFront phase [] run.blocks
  front = fronts phase run.blocks kept.rules.shaped

  shaped : IsShaped (blocks_to phase run.blocks)
  shaped = front_shaped phase run.blocks kept.rules.shaped

  split : places run.blocks ≡ entries_to run phase ++ front.rest
  split = front.all ∙ ap (λ z. z ++ front.rest) (sym front.same)

  brought : AreBroughtBehind run.flags [] (entries_to run phase)
  brought =
      subst (AreBroughtBehind run.flags []) (sym front.same)
      (brought_front run.flags [] (places (blocks_to phase run.blocks)) front.rest front.headed (subst (AreBroughtBehind run.flags []) front.all kept.brought))

  following : AreFollowing None (entries_to run phase)
  following = subst (AreFollowing None) (sym front.same) (all_following (blocks_to phase run.blocks) shaped)

  pub floors : AreFlooredBehind (places run.blocks) [] (entries_to run phase)
  floors = floored_front (places run.blocks) [] (entries_to run phase) front.rest (subst (AreFlooredBehind (places run.blocks) []) split kept.rules.joint.floored)

  fed : AreFedPlaces false (entries_to run phase)
  fed = subst (AreFedPlaces false) (sym front.same) (all_fed (blocks_to phase run.blocks) shaped)

  settles : Settles None (entries_to run phase)
  settles = subst (Settles None) (sym front.same) (all_settling (blocks_to phase run.blocks) shaped None)

  pub idles : Each IsIdle (entries_to run phase)
  idles = subst (Each IsIdle) (sym front.same) (all_idle (blocks_to phase run.blocks) shaped)

  -- no event is added to a ring's place
  homes : Each IsLowHome (all_ended (entries_to run phase))
  homes =
      each_map (λ (one : Ended). IsLowEnded one × HasText (length run.setting.digests) one.event.subject) IsLowHome (all_ended (entries_to run phase)) home
      (each_both IsLowEnded (λ (one : Ended). HasText (length run.setting.digests) one.event.subject) (all_ended (entries_to run phase)) (run_ended_low run kept orderly phase) (run_texted run kept orderly phase)) where
        few : length run.setting.digests ≤ 64
        few = omega (arith, run.setting.few_digests, run.setting.in_range.digests)

        text : (digest : Option ℕ) → IfSome digest (λ place. place < length run.setting.digests) → digest_row digest < 8450
        text None t = omega arith
        text (Some digest) t = omega (arith, t, few)

        home : (one : Ended) → IsLowEnded one × HasText (length run.setting.digests) one.event.subject → IsLowHome one
        home one h = (let l : home_row one < 8385 = home_low one h.0 in omega (arith, l), text one.event.subject.digest h.1)

  feeds : Each (λ (p : Placed). IsLowFeed p.entry) (entries_to run phase)
  feeds = all_fed_low run.flags (entries_to run phase) (run_follow run kept orderly phase) homes fed brought settles

  -- puts stand in their slot's ring
  judged : AreJudged (terms_by run).stack (flags_by (terms_by run) (places run.blocks)) (entries_to run phase)
  judged = judged_front (terms_by run).stack (flags_by (terms_by run) (places run.blocks)) (entries_to run phase) front.rest (subst (AreJudged (terms_by run).stack (flags_by (terms_by run) (places run.blocks))) split kept.rules.judged)

  deep : Each IsDeepAt (entries_to run phase)
  deep =
      by_sessions IsDeepAt (entries_to run phase)
      (λ s. deep_walk (terms_by run).stack run.setting.in_range.statement_stack (flags_by (terms_by run) (places run.blocks)) s fresh (entries_to run phase) tt (run_follow run kept orderly phase s) judged)

  housed : Each (λ (p : Placed). IsHoused p.context.slot p.entry) (entries_to run phase)
  housed = walk_housed run.flags 0 fresh None [] (entries_to run phase) (run_near run kept orderly phase 0 fresh) following brought deep (λ s e. absurd (cc))

  -- what actions change lies below the rings
  moves : Each (λ (p : Placed). 0 < p.context.action → Each IsOfCells (did p.entry)) (places run.blocks)
  moves = each_did IsOfCells (places run.blocks) (λ action l. subst (Each IsOfCells) (sym (kept.rules.done action l)) (asked_cells run.setting run.change run.labels action (run.counted action)))

  tags : Each (λ (p : Placed). 0 < p.context.action → Each IsLowTag (did p.entry)) (places run.blocks)
  tags = each_did IsLowTag (places run.blocks) (λ action l. subst (Each IsLowTag) (sym (kept.rules.done action l)) (low_asked run.setting run.change run.labels (run.counted action) action))

  acting : (p : Placed) → HasNumber (places run.blocks) p → is_acted p.entry ≡ true → 0 < p.context.action
  acting p (inl n) a = absurd (let f : true ≡ false = sym a ∙ n.1 in cc)
  acting p (inr s) a =
      let r : (1 ≤ p.context.action) × (p.context.action ≤ length (each_of action_change (up_to_phase p.phase (places run.blocks)))) = said_range p.phase p.session p.phase p.context.action (places run.blocks) kept.rules.joint.ordered.numbers (said_to p.phase p.session p.phase p.context.action (places run.blocks) (le_self p.phase) s) in
      let l : 1 ≤ p.context.action = r.0 in
      omega (arith, l)

  pub sub : (p : Placed) → IsAmong p (entries_to run phase) → IsAmong p (places run.blocks)
  sub p m = (run_acting run kept orderly phase).sub p m

  -- so a change of a place is a put
  pub is_put : (p : Placed) → IsAmong p (entries_to run phase) → (row version : ℕ) → 8450 ≤ row → row < 10242 → IsAmong (change_at row version) (row_change p.entry) → p.entry ≡ says.Ring row version
  is_put p m row version l h a =
      by p.entry refl (place_among (λ (p : Placed). IsLowFeed p.entry) p (entries_to run phase) m feeds)
      (place_among (HasNumber (places run.blocks)) p (entries_to run phase) m (run_said run kept orderly phase))
      (place_among (λ (p : Placed). 0 < p.context.action → Each IsOfCells (did p.entry)) p (places run.blocks) (sub p m) moves)
      (place_among (λ (p : Placed). 0 < p.context.action → Each IsLowTag (did p.entry)) p (places run.blocks) (sub p m) tags) a where
        acts : (e : Entry) → p.entry ≡ e → is_acted e ≡ true → HasNumber (places run.blocks) p → 0 < p.context.action
        acts e q t n = acting p n (ap is_acted q ∙ t)

        by : (e : Entry) → p.entry ≡ e → IsLowFeed e → HasNumber (places run.blocks) p → (0 < p.context.action → Each IsOfCells (did e)) → (0 < p.context.action → Each IsLowTag (did e)) → IsAmong (change_at row version) (row_change e) → e ≡ says.Ring row version
        by (says.Add at v) q f n s t (inl e) = absurd (let r : at ≡ row = (same_change row version at v e).0 in let k : at < 8450 = f in omega (arith, r, k, l))
        by (says.Add at v) q f n s t (inr a) = absurd a
        by (says.Ring at v) q f n s t (inl e) = ap (λ z. says.Ring z v) (same_change row version at v e).0 ∙ ap (λ z. says.Ring row z) (same_change row version at v e).1
        by (says.Ring at v) q f n s t (inr a) = absurd a
        by (says.Long at v ticket) q f n s t (inl e) =
            absurd (let r : at ≡ row = (same_change row version at v e).0 in let k : 10242 ≤ at = long_high (places run.blocks) kept.rules.ticketed p (sub p m) at v ticket q in omega (arith, r, k, h))
        by (says.Long at v ticket) q f n s t (inr a) = absurd a
        by (says.Take at v) q f n s t (inl e) = absurd (let r : at ≡ row = (same_change row version at v e).0 in let k : at < 8450 = (s (acts (says.Take at v) q refl n)).0.1 in omega (arith, r, k, l))
        by (says.Take at v) q f n s t (inr a) = absurd a
        by (says.Give at v from) q f n s t (inl e) = absurd (let r : at ≡ row = (same_change row version at v e).0 in let k : at < 8450 = (s (acts (says.Give at v from) q refl n)).0.1 in omega (arith, r, k, l))
        by (says.Give at v from) q f n s t (inr a) = absurd a
        by (says.Tag at v) q f n s t (inl e) = absurd (let r : at ≡ row = (same_change row version at v e).0 in let k : at < 129 = (t (acts (says.Tag at v) q refl n)).0 in omega (arith, r, k, l))
        by (says.Tag at v) q f n s t (inr a) = absurd a
        by _ q f n s t a = absurd a

  -- of a session in that slot
  pub put_in : (p : Placed) → IsAmong p (entries_to run phase) → (row version : ℕ) → p.entry ≡ says.Ring row version → IsPutIn p row
  put_in p m row version e = by p.context.slot refl (subst (IsHoused p.context.slot) e (place_among (λ (p : Placed). IsHoused p.context.slot p.entry) p (entries_to run phase) m housed)) where
    by : (o : Option ℕ) → p.context.slot ≡ o → IsInRing o row → IsPutIn p row
    by None q h = absurd h
    by (Some own) q h = record { own = own; slot = q; low = h.0; high = h.1 }

  -- a change of a place of the long history is a put there; a session's slot is one of 32
  pub is_long : (p : Placed) → IsAmong p (entries_to run phase) → ((own : ℕ) → p.context.slot ≡ Some own → own < 32) → (row version : ℕ) → 10242 ≤ row → IsAmong (change_at row version) (row_change p.entry) → (ticket : ℕ) × (p.entry ≡ says.Long row version ticket)
  is_long p m few row version l a =
      by p.entry refl (place_among (λ (p : Placed). IsLowFeed p.entry) p (entries_to run phase) m feeds)
      (place_among (HasNumber (places run.blocks)) p (entries_to run phase) m (run_said run kept orderly phase))
      (place_among (λ (p : Placed). 0 < p.context.action → Each IsOfCells (did p.entry)) p (places run.blocks) (sub p m) moves)
      (place_among (λ (p : Placed). 0 < p.context.action → Each IsLowTag (did p.entry)) p (places run.blocks) (sub p m) tags) a where
        acts : (e : Entry) → p.entry ≡ e → is_acted e ≡ true → HasNumber (places run.blocks) p → 0 < p.context.action
        acts e q t n = acting p n (ap is_acted q ∙ t)

        below : (at own : ℕ) → own < 32 → at < 8450 + 56 * own + 56 → at < 10242
        below at own k h = omega (arith, k, h)

        housed_low : (at v : ℕ) → p.entry ≡ says.Ring at v → at < 10242
        housed_low at v q = let i : IsPutIn p at = put_in p m at v q in below at i.own (few i.own i.slot) i.high

        by : (e : Entry) → p.entry ≡ e → IsLowFeed e → HasNumber (places run.blocks) p → (0 < p.context.action → Each IsOfCells (did e)) → (0 < p.context.action → Each IsLowTag (did e)) → IsAmong (change_at row version) (row_change e) → (ticket : ℕ) × (e ≡ says.Long row version ticket)
        by (says.Add at v) q f n s t (inl e) = absurd (let r : at ≡ row = (same_change row version at v e).0 in let k : at < 8450 = f in omega (arith, r, k, l))
        by (says.Add at v) q f n s t (inr a) = absurd a
        by (says.Ring at v) q f n s t (inl e) = absurd (let r : at ≡ row = (same_change row version at v e).0 in let k : at < 10242 = housed_low at v q in omega (arith, r, k, l))
        by (says.Ring at v) q f n s t (inr a) = absurd a
        by (says.Long at v ticket) q f n s t (inl e) = (ticket, ap (λ z. says.Long z v ticket) (same_change row version at v e).0 ∙ ap (λ z. says.Long row z ticket) (same_change row version at v e).1)
        by (says.Long at v ticket) q f n s t (inr a) = absurd a
        by (says.Take at v) q f n s t (inl e) = absurd (let r : at ≡ row = (same_change row version at v e).0 in let k : at < 8450 = (s (acts (says.Take at v) q refl n)).0.1 in omega (arith, r, k, l))
        by (says.Take at v) q f n s t (inr a) = absurd a
        by (says.Give at v from) q f n s t (inl e) = absurd (let r : at ≡ row = (same_change row version at v e).0 in let k : at < 8450 = (s (acts (says.Give at v from) q refl n)).0.1 in omega (arith, r, k, l))
        by (says.Give at v from) q f n s t (inr a) = absurd a
        by (says.Tag at v) q f n s t (inl e) = absurd (let r : at ≡ row = (same_change row version at v e).0 in let k : at < 129 = (t (acts (says.Tag at v) q refl n)).0 in omega (arith, r, k, l))
        by (says.Tag at v) q f n s t (inr a) = absurd a
        by _ q f n s t a = absurd a
