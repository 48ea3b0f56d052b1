-- An attributed event lies within the depth of its kind, so its current place is no place of a history.
use Rattle.std.proofs.Common.{◌≡◌, refl, ℕ, ◌+◌, ◌*◌, ◌<◌, ◌≤◌, ◌==◌, ◌&&◌, not, nat_lt, nat_le, Bool, true, false, cond, List, [], ◌∷◌, drop, Option, Some, None, sym, ap, subst, ◌∙◌, inl, inr, arith}
use Rattle.std.specs.Prelude.{if◌then◌else◌, is_none, is_some}
use Rattle.std.proofs.lemmas.Bool.{leb-false}
use Rattle.pfs_consumers.specs.Tree.{is_on}
use Rattle.pfs_consumers.specs.declared.Consumer.TheVariants as consumers
use Rattle.pfs_event.specs.declared.entry.Entry.{Entry}
use Rattle.pfs_event.specs.declared.entry.Entry.TheVariants as says
use Rattle.pfs_event.specs.declared.kind.EventKind.{EventKind}
use Rattle.pfs_event.specs.declared.kind.EventKind.TheVariants as kinds
use Rattle.pfs_event.specs.declared.verdict.Verdict.{Verdict}
use Rattle.pfs_event.specs.declared.verdict.Verdict.TheVariants.{LostClass, OffGlobal, OffClass, OffTable, OffThread, LostNested, LostLocker, Aside, Attributed}
use Rattle.pfs_model.specs.Chains.{Each}
use Rattle.pfs_model.specs.Contexts.{Context, noted, subject_of}
use Rattle.pfs_model.specs.EntryPlaces.{Placed}
use Rattle.pfs_model.specs.Rings.{is_history_row, place_of_start}
use Rattle.pfs_model.specs.SetupFlags.{AreJudged, IsJudged, SeenSetup, is_attributed, is_enabled, is_offered_current, is_statement, is_wait, open_through, seen_by, verdict_of, verdict_on}
use Rattle.pfs_model.specs.declared.lines.Opened.{Opened}
use Rattle.pfs_model.specs.declared.lines.Subject.{Subject}
use Rattle.pfs_law_conservation.proofs.EntryWalk.{Comes, Follow, then_told}
use Rattle.pfs_law_summaries.proofs.Rounds.{AllFit, Fits, IsShallow, is_event}

-- how many events of its kind an event may have around it
abbrev pub Within : EventKind → List Opened → Type 0
Within kinds.Wait others = open_through is_wait others < 4
Within kinds.Statement others = open_through is_statement others < 10
Within kinds.Stage others = Unit {0}
Within kinds.Transaction others = Unit {0}

abbrev pub AreDeep : List Opened → Type 0
AreDeep [] = Unit {0}
AreDeep (event ∷ others) = (is_attributed event.verdict ≡ true → Within event.subject.kind others) × AreDeep others

-- what the session's entries tell before and behind each of them
abbrev pub StandDeep : ℕ → Placed → Type 0
StandDeep session p = (p.session == session) ≡ true → AreDeep p.context.opened × AreDeep (noted (subject_of p.line) p.context p.entry).opened

tested : (a b c d e f g : Bool) → is_attributed (if a then OffGlobal else if b then OffClass else if c then OffTable else if d then OffThread else if e then LostNested else if f then LostLocker else if g then Aside else Attributed) ≡ true
    → (e ≡ false) × (f ≡ false)
tested true b c d e f g q = absurd (cc)
tested false true c d e f g q = absurd (cc)
tested false false true d e f g q = absurd (cc)
tested false false false true e f g q = absurd (cc)
tested false false false false true f g q = absurd (cc)
tested false false false false false true g q = absurd (cc)
tested false false false false false false g q = (refl, refl)

module _ (stack : ℕ) (few : stack ≤ 10) (flags : ℕ → ℕ → ℕ) where
  within_of : (subject : Subject) (seen : SeenSetup) (opened : List Opened) → is_attributed (verdict_on stack subject seen opened) ≡ true → Within subject.kind opened
  within_of subject seen opened q =
      let t : ((is_statement subject.kind && nat_le stack (open_through is_statement opened)) ≡ false) × ((is_wait subject.kind && nat_le 4 (open_through is_wait opened)) ≡ false)
      = tested (not (is_on seen.consumers consumers.GlobalInstrumentation)) (not (is_enabled seen.class)) (is_some subject.table && not (is_enabled seen.table))
      (is_on seen.consumers consumers.ThreadInstrumentation && not (is_enabled seen.thread)) (is_statement subject.kind && nat_le stack (open_through is_statement opened))
      (is_wait subject.kind && nat_le 4 (open_through is_wait opened)) (not (is_on seen.consumers consumers.ThreadInstrumentation)) q in
      by subject.kind t.0 t.1 where
        by : (kind : EventKind) → (is_statement kind && nat_le stack (open_through is_statement opened)) ≡ false → (is_wait kind && nat_le 4 (open_through is_wait opened)) ≡ false → Within kind opened
        by kinds.Wait p r = leb-false 4 (open_through is_wait opened) r
        by kinds.Statement p r = let l : open_through is_statement opened < stack = leb-false stack (open_through is_statement opened) p in omega (arith, l, few)
        by kinds.Stage p r = tt
        by kinds.Transaction p r = tt

  verdict_within : (slot : Option ℕ) (subject : Subject) (seen : SeenSetup) (opened : List Opened) → is_attributed (verdict_of stack slot subject seen opened) ≡ true → Within subject.kind opened
  verdict_within None subject seen opened q = absurd (cc)
  verdict_within (Some slot) subject seen opened q = on (is_none subject.class) refl where
    on : (b : Bool) → is_none subject.class ≡ b → Within subject.kind opened
    on true e = absurd (let f : false ≡ true = sym (ap (λ z. is_attributed (verdict_if z)) e) ∙ q in cc) where
      verdict_if : Bool → Verdict
      verdict_if z = if z then LostClass else verdict_on stack subject seen opened
    on false e = within_of subject seen opened (sym (ap (λ z. is_attributed (verdict_if z)) e) ∙ q) where
      verdict_if : Bool → Verdict
      verdict_if z = if z then LostClass else verdict_on stack subject seen opened

  drop_deep : (opened : List Opened) → AreDeep opened → AreDeep (drop 1 opened)
  drop_deep [] d = tt
  drop_deep (event ∷ others) d = d.1

  -- behind an entry
  noted_deep : (subject : Option Subject) (context : Context) (e : Entry) → AreDeep context.opened → IsJudged stack flags subject context e → AreDeep (noted subject context e).opened
  noted_deep None context (says.Start event verdict consumers thread class table) d j = d
  noted_deep (Some s) context (says.Start event verdict consumers thread class table) d j = (λ q. verdict_within context.slot s (seen_by flags context.slot (record { subject = s; verdict = verdict; index = context.begun; number = event; consumers = consumers; thread = thread; class = class; table = table })) context.opened (sym (ap is_attributed j) ∙ q), d)
  noted_deep subject context (says.End event last consumers thread) d j = drop_deep context.opened d
  noted_deep subject context _ d j = d

  come_deep : (c d : Context) → Comes c d → AreDeep c.opened → AreDeep d.opened
  come_deep c d (inl e) h = subst (λ (z : Context). AreDeep z.opened) (sym e) h
  come_deep c d (inr e) h = subst (λ (z : Context). AreDeep z.opened) (sym e) h

  pub deep_walk : (session : ℕ) (c : Context) (ps : List Placed) → AreDeep c.opened → Follow session c ps → AreJudged stack flags ps → Each (StandDeep session) ps
  deep_walk session c [] h f j = tt
  deep_walk session c (p ∷ ps) h f j = (here, deep_walk session (then_told session c p) ps (next (p.session == session) refl) f.1 j.1) where
    here : (p.session == session) ≡ true → AreDeep p.context.opened × AreDeep (noted (subject_of p.line) p.context p.entry).opened
    here q = let d : AreDeep p.context.opened = come_deep c p.context (f.0 q) h in (d, noted_deep (subject_of p.line) p.context p.entry d j.0)

    next : (b : Bool) → (p.session == session) ≡ b → AreDeep (cond b (noted (subject_of p.line) p.context p.entry) c).opened
    next true q = (here q).1
    next false q = h

-- a current place is none of a history
no_history : (slot kind : ℕ) (k : EventKind) (others : List Opened) → Within k others → is_history_row slot kind (place_of_start slot k others) ≡ false
no_history slot kind kinds.Wait others w = low (8450 + 56 * slot + 16 + 10 * kind) (8450 + 56 * slot + open_through is_wait others) (nat_lt (8450 + 56 * slot + open_through is_wait others) (8450 + 56 * slot + 26 + 10 * kind)) (omega (arith, w)) where
  low : (a row : ℕ) (b : Bool) → row < a → (nat_le a row && b) ≡ false
  low a row b l = ap (λ z. z && b) (below a row l) where
    below : (a row : ℕ) → row < a → nat_le a row ≡ false
    below a row l = grind (arith, l)
no_history slot kind kinds.Statement others w = low (8450 + 56 * slot + 16 + 10 * kind) (8450 + 56 * slot + 5 + open_through is_statement others) (nat_lt (8450 + 56 * slot + 5 + open_through is_statement others) (8450 + 56 * slot + 26 + 10 * kind)) (omega (arith, w)) where
  low : (a row : ℕ) (b : Bool) → row < a → (nat_le a row && b) ≡ false
  low a row b l = ap (λ z. z && b) (below a row l) where
    below : (a row : ℕ) → row < a → nat_le a row ≡ false
    below a row l = grind (arith, l)
no_history slot kind kinds.Stage others w = low (8450 + 56 * slot + 16 + 10 * kind) (8450 + 56 * slot + 4) (nat_lt (8450 + 56 * slot + 4) (8450 + 56 * slot + 26 + 10 * kind)) (omega arith) where
  low : (a row : ℕ) (b : Bool) → row < a → (nat_le a row && b) ≡ false
  low a row b l = ap (λ z. z && b) (below a row l) where
    below : (a row : ℕ) → row < a → nat_le a row ≡ false
    below a row l = grind (arith, l)
no_history slot kind kinds.Transaction others w = low (8450 + 56 * slot + 16 + 10 * kind) (8450 + 56 * slot + 15) (nat_lt (8450 + 56 * slot + 15) (8450 + 56 * slot + 26 + 10 * kind)) (omega arith) where
  low : (a row : ℕ) (b : Bool) → row < a → (nat_le a row && b) ≡ false
  low a row b l = ap (λ z. z && b) (below a row l) where
    below : (a row : ℕ) → row < a → nat_le a row ≡ false
    below a row l = grind (arith, l)

module _ (flags : ℕ → ℕ → ℕ) (session slot kind : ℕ) where
  pub offered : (own : Option ℕ) (event : Opened) → is_offered_current flags own event ≡ true → is_attributed event.verdict ≡ true
  offered own event q = first (is_attributed event.verdict) _ q where
    first : (a b : Bool) → (a && b) ≡ true → a ≡ true
    first true b q = refl
    first false b q = absurd (cc)

  shallow : (own : Option ℕ) (opened : List Opened) → own ≡ Some slot → AreDeep opened → IsShallow flags session slot kind own opened
  shallow own [] e d = tt
  shallow own (event ∷ others) e d = (e, λ q. no_history slot kind event.subject.kind others (d.0 (offered own event q)))

  fits_at : (p : Placed) (e : Entry) → (is_event e ≡ true → p.context.slot ≡ Some slot) → AreDeep p.context.opened → AreDeep (noted (subject_of p.line) p.context p.entry).opened → Fits flags session slot kind p e
  fits_at p (says.Start event verdict consumers thread class table) s d n = shallow p.context.slot (noted (subject_of p.line) p.context p.entry).opened (s refl) n
  fits_at p (says.End event last consumers thread) s d n = shallow p.context.slot p.context.opened (s refl) d
  fits_at p _ s d n = tt

  pub all_fit : (ps : List Placed) → Each (StandDeep session) ps
      → Each (λ (p : Placed). (p.session == session) ≡ true → is_event p.entry ≡ true → p.context.slot ≡ Some slot) ps → AllFit flags session slot kind ps
  all_fit [] d s = tt
  all_fit (p ∷ ps) d s = (here, all_fit ps d.1 s.1) where
    here : p.session ≡ session → Fits flags session slot kind p p.entry
    here e =
        let q : (p.session == session) ≡ true = same p.session session e in
        let x : AreDeep p.context.opened × AreDeep (noted (subject_of p.line) p.context p.entry).opened = d.0 q in
        fits_at p p.entry (s.0 q) x.0 x.1 where
          same : (a b : ℕ) → a ≡ b → (a == b) ≡ true
          same a b e = grind (arith, e)
