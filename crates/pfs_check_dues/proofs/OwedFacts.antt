-- The dues of events, entry by entry.
use Rattle.std.proofs.Common.{◌≡◌, refl, ℕ, zero, suc, ◌+◌, ◌<◌, ◌≤◌, inl, inr, Bool, true, false, cond, List, [], ◌∷◌, length, sym, ◌∙◌, ap, subst, arith}
use Rattle.std.specs.Prelude.{◌⊎◌}
use Rattle.pfs_event.specs.declared.entry.Entry.{Entry}
use Rattle.pfs_event.specs.declared.entry.Entry.TheVariants as says
use Rattle.pfs_model.specs.Contexts.{noted, subject_of}
use Rattle.pfs_model.specs.EntryAsks.{is_head}
use Rattle.pfs_model.specs.EntryPlaces.{Placed}
use Rattle.pfs_model.specs.Puts.{AreBroughtBehind, ArePaid, Due, IsBrought, behind_it, dues_at_end, dues_at_start}
use Rattle.pfs_check_faults.specs.ReportCases.{AllHave}
use Rattle.pfs_check_faults.specs.RingFaults.{IsUnbrought, IsUnpaid, UnbroughtAt}
use Rattle.pfs_check_walk.specs.Walks.{LacksFirst, onto}
use Rattle.pfs_check_dues.specs.DueRules.{BroughtLaw, IsOwing, OwingLaw}
use Rattle.pfs_check_dues.specs.OwedPuts.{ArePaidBy, IsSettled, IsUnpaidBy, Nothing, Left, Owed, Pays, PaysAt, owed_after, owed_by, paid_one}

-- an entry is a start or an end, begins something else, or stands behind what began
pub data Kind (flags : ℕ → ℕ → ℕ) (earlier : List Placed) (place : Placed) (entry : Entry) : Type 0 where
  Opens : (dues : List Due) → is_head entry ≡ true
      → ((before : Owed) → owed_after flags earlier place entry before ≡ Left dues)
      → ((behind : List Entry) → ArePaid dues behind → IsBrought flags earlier place entry behind)
      → ((behind : List Entry) (at : ℕ) → IsUnpaid dues behind at → IsUnbrought flags earlier place entry behind at)
      → ((behind : List Entry) (at : ℕ) → IsUnbrought flags earlier place entry behind at → IsUnpaid dues behind at)
      → Kind flags earlier place entry
  Begins : is_head entry ≡ true → ((before : Owed) → owed_after flags earlier place entry before ≡ Nothing)
      → ((behind : List Entry) → IsBrought flags earlier place entry behind)
      → ((behind : List Entry) (at : ℕ) → IsUnbrought flags earlier place entry behind at → ⊥) → Kind flags earlier place entry
  Follows : is_head entry ≡ false → ((before : Owed) → owed_after flags earlier place entry before ≡ paid_one before)
      → ((behind : List Entry) → IsBrought flags earlier place entry behind)
      → ((behind : List Entry) (at : ℕ) → IsUnbrought flags earlier place entry behind at → ⊥) → Kind flags earlier place entry

kind_is : (flags : ℕ → ℕ → ℕ) (earlier : List Placed) (place : Placed) (entry : Entry) → Kind flags earlier place entry
kind_is flags earlier place (says.Start event verdict consumers thread class table) =
    Opens (dues_at_start flags place.context.slot (noted (subject_of place.line) place.context place.entry).opened) refl
    (λ before. refl) (λ behind p. p) (λ behind at u. u) (λ behind at u. u)
kind_is flags earlier place (says.End event last consumers thread) =
    Opens (dues_at_end flags earlier place place.context.opened consumers thread) refl
    (λ before. refl) (λ behind p. p) (λ behind at u. u) (λ behind at u. u)
kind_is flags earlier place (says.Connect action thread account user host) =
    Begins refl (λ before. refl) (λ behind. tt) (λ behind at u. u)
kind_is flags earlier place says.Settle = Begins refl (λ before. refl) (λ behind. tt) (λ behind at u. u)
kind_is flags earlier place (says.Act action) = Begins refl (λ before. refl) (λ behind. tt) (λ behind at u. u)
kind_is flags earlier place says.Query = Begins refl (λ before. refl) (λ behind. tt) (λ behind at u. u)
kind_is flags earlier place (says.Error error) = Begins refl (λ before. refl) (λ behind. tt) (λ behind at u. u)
kind_is flags earlier place _ = Follows refl (λ before. refl) (λ behind. tt) (λ behind at u. u)

-- what is left where something begins, and where an entry pays
head_paid : (o : Owed) (entry : Entry) (behind : List Entry) → is_head entry ≡ true → Pays o entry → ArePaidBy o (cond (is_head entry) [] behind)
head_paid o entry behind e p = subst (λ z. ArePaidBy o (cond z [] behind)) (sym e) (at o p) where
  at : (o : Owed) → Pays o entry → ArePaidBy o []
  at Nothing p = tt
  at (Left []) p = tt
  at (Left (due ∷ dues)) p = absurd (two p.0) where
    two : is_head entry ≡ false → ⊥
    two f = absurd (cc)

next_paid : (o : Owed) (entry : Entry) (behind : List Entry) → is_head entry ≡ false → Pays o entry → ArePaidBy (paid_one o) behind
    → ArePaidBy o (cond (is_head entry) [] (entry ∷ behind))
next_paid o entry behind e p r = subst (λ z. ArePaidBy o (cond z [] (entry ∷ behind))) (sym e) (at o p r) where
  at : (o : Owed) → Pays o entry → ArePaidBy (paid_one o) behind → ArePaidBy o (entry ∷ behind)
  at Nothing p r = tt
  at (Left []) p r = absurd (cc)
  at (Left (due ∷ dues)) p r = (p.1, r)

settled_paid : (o : Owed) → IsSettled o → ArePaidBy o []
settled_paid Nothing s = tt
settled_paid (Left []) s = tt
settled_paid (Left (due ∷ dues)) s = s

abbrev Brought : (ℕ → ℕ → ℕ) → List Placed → List Placed → Type 0
Brought flags earlier ps = ArePaidBy (owed_by flags earlier) (behind_it ps) × AreBroughtBehind flags earlier ps

brought : (flags : ℕ → ℕ → ℕ) (earlier ps : List Placed) → AllHave (PaysAt flags) earlier ps → IsSettled (owed_by flags (onto earlier ps))
    → Brought flags earlier ps
unfolding owed_by
brought flags earlier [] h s = (settled_paid (owed_by flags earlier) s, tt)
brought flags earlier (p ∷ ps) h s = on (kind_is flags earlier p p.entry) (brought flags (p ∷ earlier) ps h.1 s) where
  on : Kind flags earlier p p.entry → Brought flags (p ∷ earlier) ps → Brought flags earlier (p ∷ ps)
  on (Opens dues e owed brings un not) r = (
    head_paid (owed_by flags earlier) p.entry (p.entry ∷ behind_it ps) e h.0,
    (brings (behind_it ps) (subst (λ z. ArePaidBy z (behind_it ps)) (owed (owed_by flags earlier)) r.0), r.1),
  )
  on (Begins e owed brings un) r = (head_paid (owed_by flags earlier) p.entry (p.entry ∷ behind_it ps) e h.0, (brings (behind_it ps), r.1))
  on (Follows e owed brings un) r = (
    next_paid (owed_by flags earlier) p.entry (behind_it ps) e h.0 (subst (λ z. ArePaidBy z (behind_it ps)) (owed (owed_by flags earlier)) r.0),
    (brings (behind_it ps), r.1),
  )

pub brought_law : BroughtLaw
brought_law flags all h s = (brought flags [] all h s).1

-- At this place an entry doesn't pay, the first that doesn't; or all do, and something is left behind them.
abbrev pub Stops : (ℕ → ℕ → ℕ) → List Placed → List Placed → ℕ → Type 0
Stops flags earlier ps at = LacksFirst (PaysAt flags) earlier ps at
    ⊎ (AllHave (PaysAt flags) earlier ps × (IsSettled (owed_by flags (onto earlier ps)) → ⊥) × (at ≡ length ps))

-- so its event is known
pub record Owes (flags : ℕ → ℕ → ℕ) (earlier ps : List Placed) (at : ℕ) : Type 0 where
  pub event : ℕ
  pub paid : ℕ
  pub place_is : event + 1 + paid ≡ at
  pub wrong : UnbroughtAt flags earlier ps event paid

left_over : (o : Owed) → (IsSettled o → ⊥) → IsUnpaidBy o [] 0
left_over Nothing n = n tt
left_over (Left []) n = n tt
left_over (Left (due ∷ dues)) n = tt

stops_here : (o : Owed) (entry : Entry) (behind : List Entry) → (Pays o entry → ⊥) → IsUnpaidBy o (cond (is_head entry) [] (entry ∷ behind)) 0
stops_here o entry behind n = at o (is_head entry) refl n where
  at : (o : Owed) (b : Bool) → is_head entry ≡ b → (Pays o entry → ⊥) → IsUnpaidBy o (cond b [] (entry ∷ behind)) 0
  at Nothing b e n = absurd (n tt)
  at (Left []) true e n = n e
  at (Left []) false e n = tt
  at (Left (due ∷ dues)) true e n = tt
  at (Left (due ∷ dues)) false e n = λ paid. n (e, paid)

stops_next : (o : Owed) (entry : Entry) (behind : List Entry) (at : ℕ) → is_head entry ≡ false → Pays o entry → IsUnpaidBy (paid_one o) behind at
    → IsUnpaidBy o (cond (is_head entry) [] (entry ∷ behind)) (suc at)
stops_next o entry behind at e p u = subst (λ z. IsUnpaidBy o (cond z [] (entry ∷ behind)) (suc at)) (sym e) (on o p u) where
  on : (o : Owed) → Pays o entry → IsUnpaidBy (paid_one o) behind at → IsUnpaidBy o (entry ∷ behind) (suc at)
  on Nothing p u = u
  on (Left []) p u = absurd (cc)
  on (Left (due ∷ dues)) p u = (p.1, u)

-- of what stands behind, at the next place
pays_first : (flags : ℕ → ℕ → ℕ) (earlier ps : List Placed) (p : Placed) (at : ℕ) → Stops flags earlier (p ∷ ps) (suc at) → PaysAt flags earlier p
pays_first flags earlier ps p at (inl l) = l.0
pays_first flags earlier ps p at (inr l) = l.0.0

stops_behind : (flags : ℕ → ℕ → ℕ) (earlier ps : List Placed) (p : Placed) (at : ℕ) → Stops flags earlier (p ∷ ps) (suc at)
    → Stops flags (p ∷ earlier) ps at
stops_behind flags earlier ps p at (inl l) = inl l.1
stops_behind flags earlier ps p at (inr l) = inr (l.0.1, l.1, omega (arith, l.2))

stops_first : (flags : ℕ → ℕ → ℕ) (earlier ps : List Placed) (p : Placed) → Stops flags earlier (p ∷ ps) 0 → PaysAt flags earlier p → ⊥
stops_first flags earlier ps p (inl l) = l
stops_first flags earlier ps p (inr l) = λ h. absurd (omega (arith, l.2))

owes : (flags : ℕ → ℕ → ℕ) (earlier ps : List Placed) (at : ℕ) → Stops flags earlier ps at
    → IsUnpaidBy (owed_by flags earlier) (behind_it ps) at ⊎ Owes flags earlier ps at
unfolding owed_by
owes flags earlier [] at (inl l) = absurd l
owes flags earlier [] at (inr l) = inl (subst (IsUnpaidBy (owed_by flags earlier) []) (sym l.2) (left_over (owed_by flags earlier) l.1))
owes flags earlier (p ∷ ps) zero s = inl (stops_here (owed_by flags earlier) p.entry (behind_it ps) (stops_first flags earlier ps p s))
owes flags earlier (p ∷ ps) (suc at) s =
    on (kind_is flags earlier p p.entry) (owes flags (p ∷ earlier) ps at (stops_behind flags earlier ps p at s)) where
      on : Kind flags earlier p p.entry → IsUnpaidBy (owed_by flags (p ∷ earlier)) (behind_it ps) at ⊎ Owes flags (p ∷ earlier) ps at
          → IsUnpaidBy (owed_by flags earlier) (behind_it (p ∷ ps)) (suc at) ⊎ Owes flags earlier (p ∷ ps) (suc at)
      on k (inr o) = inr (record { event = suc o.event; paid = o.paid; place_is = omega (arith, o.place_is); wrong = o.wrong })
      on (Opens dues e owed brings un not) (inl u) = inr (record {
        event = 0;
        paid = at;
        place_is = omega arith;
        wrong = un (behind_it ps) at (subst (λ z. IsUnpaidBy z (behind_it ps) at) (owed (owed_by flags earlier)) u);
      })
      on (Begins e owed brings un) (inl u) = absurd (subst (λ z. IsUnpaidBy z (behind_it ps) at) (owed (owed_by flags earlier)) u)
      on (Follows e owed brings un) (inl u) =
          inl (stops_next (owed_by flags earlier) p.entry (behind_it ps) at e (pays_first flags earlier ps p at s)
          (subst (λ z. IsUnpaidBy z (behind_it ps) at) (owed (owed_by flags earlier)) u))

pub owing_law : OwingLaw
unfolding owed_by
owing_law flags all at s = on (owes flags [] all at s) where
  on : IsUnpaidBy (owed_by flags []) (behind_it all) at ⊎ Owes flags [] all at → IsOwing flags all at
  on (inl u) = absurd u
  on (inr o) = record { event = o.event; paid = o.paid; place_is = o.place_is; wrong = o.wrong }

-- Of what is left where the walk stops no other entry is unpaid.
one_unpaid : (flags : ℕ → ℕ → ℕ) (earlier ps : List Placed) (at k : ℕ) → Stops flags earlier ps at
    → IsUnpaidBy (owed_by flags earlier) (behind_it ps) k → k ≡ at
unfolding owed_by
one_unpaid flags earlier [] at k (inl l) u = absurd l
one_unpaid flags earlier [] at k (inr l) u = none (owed_by flags earlier) k u ∙ sym l.2 where
  none : (o : Owed) (k : ℕ) → IsUnpaidBy o [] k → k ≡ 0
  none Nothing k u = absurd u
  none (Left []) k u = absurd u
  none (Left (due ∷ dues)) zero u = refl
  none (Left (due ∷ dues)) (suc k) u = absurd u
one_unpaid flags earlier (p ∷ ps) zero k s u =
    here (owed_by flags earlier) (is_head p.entry) k refl (stops_first flags earlier ps p s) u where
      here : (o : Owed) (b : Bool) (k : ℕ) → is_head p.entry ≡ b → (Pays o p.entry → ⊥) → IsUnpaidBy o (cond b [] (p.entry ∷ behind_it ps)) k → k ≡ 0
      here Nothing b k e n u = absurd u
      here (Left []) true k e n u = absurd u
      here (Left []) false zero e n u = refl
      here (Left []) false (suc k) e n u = absurd u
      here (Left (due ∷ dues)) true zero e n u = refl
      here (Left (due ∷ dues)) true (suc k) e n u = absurd u
      here (Left (due ∷ dues)) false zero e n u = refl
      here (Left (due ∷ dues)) false (suc k) e n u = absurd (n (e, u.0))
one_unpaid flags earlier (p ∷ ps) (suc at) k s u =
    on (kind_is flags earlier p p.entry) (owed_by flags earlier) (is_head p.entry) k refl refl (pays_first flags earlier ps p at s) u
    (λ j. one_unpaid flags (p ∷ earlier) ps at j (stops_behind flags earlier ps p at s)) where
      on : Kind flags earlier p p.entry → (o : Owed) (b : Bool) (k : ℕ) → owed_by flags earlier ≡ o → is_head p.entry ≡ b → Pays o p.entry
          → IsUnpaidBy o (cond b [] (p.entry ∷ behind_it ps)) k
          → ((j : ℕ) → IsUnpaidBy (owed_by flags (p ∷ earlier)) (behind_it ps) j → j ≡ at) → k ≡ suc at
      on kind Nothing b k f e pays u rest = absurd u
      on kind (Left []) true k f e pays u rest = absurd u
      on kind (Left []) false k f e pays u rest = absurd (cc)
      on kind (Left (due ∷ dues)) true k f e pays u rest = absurd (two pays.0) where
        two : is_head p.entry ≡ false → ⊥
        two g = absurd (cc)
      on kind (Left (due ∷ dues)) false zero f e pays u rest = absurd (u pays.1)
      on (Opens more g owed brings un not) (Left (due ∷ dues)) false (suc k) f e pays u rest = absurd (cc)
      on (Begins g owed brings un) (Left (due ∷ dues)) false (suc k) f e pays u rest = absurd (cc)
      on (Follows g owed brings un) (Left (due ∷ dues)) false (suc k) f e pays u rest =
          let is : k ≡ at = rest k (subst (λ z. IsUnpaidBy z (behind_it ps) k) (sym (owed (owed_by flags earlier) ∙ ap paid_one f)) u.1) in
          omega (arith, is)

-- So each unbrought event stands at or behind the place, or stops the walk there.
pub later_or_there : (flags : ℕ → ℕ → ℕ) (earlier ps : List Placed) (at event k : ℕ) → Stops flags earlier ps at
    → UnbroughtAt flags earlier ps event k → (event + 1 + k ≡ at) ⊎ (at ≤ event)
unfolding owed_by
later_or_there flags earlier [] at event k s u = absurd u
later_or_there flags earlier (p ∷ ps) zero event k s u = inr (omega arith)
later_or_there flags earlier (p ∷ ps) (suc at) (suc event) k s u =
    on (later_or_there flags (p ∷ earlier) ps at event k (stops_behind flags earlier ps p at s) u) where
      on : (event + 1 + k ≡ at) ⊎ (at ≤ event) → (suc event + 1 + k ≡ suc at) ⊎ (suc at ≤ suc event)
      on (inl e) = inl (omega (arith, e))
      on (inr l) = inr (omega (arith, l))
later_or_there flags earlier (p ∷ ps) (suc at) zero k s u = on (kind_is flags earlier p p.entry) where
  on : Kind flags earlier p p.entry → (0 + 1 + k ≡ suc at) ⊎ (suc at ≤ 0)
  on (Opens dues e owed brings un not) =
      let is : k ≡ at = one_unpaid flags (p ∷ earlier) ps at k (stops_behind flags earlier ps p at s)
      (subst (λ z. IsUnpaidBy z (behind_it ps) k) (sym (owed (owed_by flags earlier))) (not (behind_it ps) k u)) in
      inl (omega (arith, is))
  on (Begins e owed brings un) = absurd (un (behind_it ps) k u)
  on (Follows e owed brings un) = absurd (un (behind_it ps) k u)

-- What belongs to an event ends before the next one.
unpaid_within : (dues : List Due) (entries : List Entry) (k : ℕ) → IsUnpaid dues entries k → k ≤ length entries
unpaid_within [] [] k u = absurd u
unpaid_within [] (entry ∷ entries) zero u = omega arith
unpaid_within [] (entry ∷ entries) (suc k) u = absurd u
unpaid_within (due ∷ dues) [] zero u = omega arith
unpaid_within (due ∷ dues) [] (suc k) u = absurd u
unpaid_within (due ∷ dues) (entry ∷ entries) zero u = omega arith
unpaid_within (due ∷ dues) (entry ∷ entries) (suc k) u = omega (arith, unpaid_within dues entries k u.1)

short_behind : (flags : ℕ → ℕ → ℕ) (earlier ps : List Placed) (event k : ℕ) → UnbroughtAt flags earlier ps event k → length (behind_it ps) ≤ event
short_behind flags earlier [] event k u = absurd u
short_behind flags earlier (p ∷ ps) zero k u = on (kind_is flags earlier p p.entry) where
  on : Kind flags earlier p p.entry → length (cond (is_head p.entry) [] (p.entry ∷ behind_it ps)) ≤ 0
  on (Opens dues e owed brings un not) = rw e (omega arith)
  on (Begins e owed brings un) = absurd (un (behind_it ps) k u)
  on (Follows e owed brings un) = absurd (un (behind_it ps) k u)
short_behind flags earlier (p ∷ ps) (suc event) k u = on (is_head p.entry) (short_behind flags (p ∷ earlier) ps event k u) where
  on : (b : Bool) → length (behind_it ps) ≤ event → length (cond b [] (p.entry ∷ behind_it ps)) ≤ suc event
  on true l = omega arith
  on false l = omega (arith, l)

pub ends_before : (flags : ℕ → ℕ → ℕ) (earlier ps : List Placed) (event k next j : ℕ) → UnbroughtAt flags earlier ps event k
    → UnbroughtAt flags earlier ps next j → event < next → event + 1 + k ≤ next
ends_before flags earlier [] event k next j u v l = absurd u
ends_before flags earlier (p ∷ ps) event k zero j u v l = absurd (omega (arith, l))
ends_before flags earlier (p ∷ ps) (suc event) k (suc next) j u v l =
    omega (arith, ends_before flags (p ∷ earlier) ps event k next j u v (omega (arith, l)))
ends_before flags earlier (p ∷ ps) zero k (suc next) j u v l = on (kind_is flags earlier p p.entry) where
  on : Kind flags earlier p p.entry → 0 + 1 + k ≤ suc next
  on (Opens dues e owed brings un not) =
      omega (arith, unpaid_within dues (behind_it ps) k (not (behind_it ps) k u), short_behind flags (p ∷ earlier) ps next j v)
  on (Begins e owed brings un) = absurd (un (behind_it ps) k u)
  on (Follows e owed brings un) = absurd (un (behind_it ps) k u)
