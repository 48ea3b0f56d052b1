-- Along a quiet phase a session's events have the same verdicts in both runs, and saw the same.
use Rattle.std.proofs.Common.{ℕ, ◌≡◌, ◌⊎◌, ◌+◌, ◌≤◌, ◌==◌, ◌&&◌, not, Bool, true, false, cond, List, [], ◌∷◌, ◌++◌, drop, Option, Some, None, arith, inl, inr, refl, ap, sym, ◌∙◌, subst}
use Rattle.std.specs.Prelude.{is_none, is_some}
use Rattle.std.proofs.lemmas.Bool.{eqb-true}
use Rattle.pfs_event.specs.declared.entry.Entry.{Entry}
use Rattle.pfs_event.specs.declared.entry.Entry.TheVariants as says
use Rattle.pfs_event.specs.declared.verdict.Verdict.{Verdict}
use Rattle.pfs_law_conservation.proofs.EntryWalk.{Comes, Follow, then_told}
use Rattle.pfs_model.specs.Chains.{Each}
use Rattle.pfs_model.specs.Contexts.{Context, noted, subject_of, turned}
use Rattle.pfs_model.specs.EntryAsks.{are_loaded, verdict_fits}
use Rattle.pfs_model.specs.EntryPlaces.{Placed}
use Rattle.pfs_model.specs.SetupFlags.{IsJudged, loads_at, loads_of, seen_by, thread_word}
use Rattle.pfs_model.specs.declared.changes.Change.{Change}
use Rattle.pfs_model.specs.declared.lines.Line.{Line}
use Rattle.pfs_model.specs.declared.lines.Opened.{Opened}
use Rattle.pfs_model.specs.declared.lines.Subject.{Subject}
use Rattle.pfs_runs.specs.PhaseFinals.{verdict_at}
use Rattle.pfs_law_agreed.specs.AlignedEvents.{AreAligned, IsSameLine, events_in, is_event, starts_event}
use Rattle.pfs_law_agreed.proofs.SameVerdicts.{AreSameVerdicts, SameWord, Stood, second_true, seen_same, some_same, verdict_same}
use Rattle.pfs_law_agreed.proofs.StartFits.{FitsAt, StartFits}

-- the open events of a session along start and end lines
abbrev pub ChainedBy : ℕ → List Opened → List Placed → Type 0
ChainedBy session opened [] = Unit {0}
ChainedBy session opened (p ∷ ps) = ((p.session == session) ≡ true → p.context.opened ≡ opened)
    × ChainedBy session (cond (p.session == session) (noted (subject_of p.line) p.context p.entry).opened opened) ps

pub comes_opened : (c d : Context) → Comes c d → d.opened ≡ c.opened
comes_opened c d (inl e) = ap (λ (z : Context). z.opened) e
comes_opened c d (inr e) = ap (λ (z : Context). z.opened) e

cond_opened : (b : Bool) (c d : Context) → (cond b c d).opened ≡ cond b c.opened d.opened
cond_opened true c d = refl
cond_opened false c d = refl

quiet_opened : (what : Option Subject) (c : Context) (e : Entry) → is_event e ≡ false → (noted what c e).opened ≡ c.opened
quiet_opened what c (says.Start n v co th cl ta) q = absurd (cc)
quiet_opened what c (says.End n l co th) q = absurd (cc)
quiet_opened what c _ q = refl

pub follow_chain : (session : ℕ) (c : Context) (ps : List Placed) → Follow session c ps → ChainedBy session c.opened (events_in ps)
follow_chain session c [] f = tt
follow_chain session c (p ∷ ps) f = on (is_event p.entry) refl (p.session == session) refl (follow_chain session (then_told session c p) ps f.1) where
  next : Context
  next = noted (subject_of p.line) p.context p.entry

  on : (x : Bool) → is_event p.entry ≡ x → (y : Bool) → (p.session == session) ≡ y → ChainedBy session (then_told session c p).opened (events_in ps) → ChainedBy session c.opened (cond x (p ∷ []) [] ++ events_in ps)
  on true q y r chain =
      ((λ own. comes_opened c p.context (f.0 own)), subst (λ z. ChainedBy session z (events_in ps)) (cond_opened (p.session == session) (noted (subject_of p.line) p.context p.entry) c) chain)
  on false q true r chain =
      let told : (then_told session c p).opened ≡ c.opened =
      ap (λ b. (cond b (noted (subject_of p.line) p.context p.entry) c).opened) r ∙ (quiet_opened (subject_of p.line) p.context p.entry q ∙ comes_opened c p.context (f.0 r)) in
      subst (λ z. ChainedBy session z (events_in ps)) told chain
  on false q false r chain = subst (λ z. ChainedBy session z (events_in ps)) (ap (λ b. (cond b (noted (subject_of p.line) p.context p.entry) c).opened) r) chain

module _ (F G : ℕ → ℕ → ℕ) (V W : ℕ → ℕ) (words : (word : ℕ) → (word ≡ 0) ⊎ (33 ≤ word) → F word (V word) ≡ G word (W word)) (stack session : ℕ) (slot other : Option ℕ) (threads : SameWord F G V W thread_word slot other) where
  -- an open event of both runs
  pub record IsSeen (x y : Opened) : Type 0 where
    pub index : x.index ≡ y.index
    pub subject : x.subject ≡ y.subject
    pub verdict : x.verdict ≡ y.verdict
    pub seen : seen_by F slot x ≡ seen_by G other y

  abbrev pub AreSeen : List Opened → List Opened → Type 0
  AreSeen [] [] = Unit {0}
  AreSeen (x ∷ xs) (y ∷ ys) = IsSeen x y × AreSeen xs ys
  AreSeen _ _ = ⊥

  seen_verdicts : (xs ys : List Opened) → AreSeen xs ys → AreSameVerdicts xs ys
  seen_verdicts [] [] s = tt
  seen_verdicts [] (y ∷ ys) s = absurd s
  seen_verdicts (x ∷ xs) [] s = absurd s
  seen_verdicts (x ∷ xs) (y ∷ ys) s = (s.0.subject, s.0.verdict, seen_verdicts xs ys s.1)

  drop_seen : (xs ys : List Opened) → AreSeen xs ys → AreSeen (drop 1 xs) (drop 1 ys)
  drop_seen [] [] s = tt
  drop_seen [] (y ∷ ys) s = absurd s
  drop_seen (x ∷ xs) [] s = absurd s
  drop_seen (x ∷ xs) (y ∷ ys) s = s.1

  -- what is known of each start and end line of the phase in one run
  pub record Facts (flags : ℕ → ℕ → ℕ) (versions : ℕ → ℕ) (own : Option ℕ) (p : Placed) : Type 0 where
    pub event : is_event p.entry ≡ true
    pub fits : StartFits p.context.slot (subject_of p.line) p.entry
    pub judged : IsJudged stack flags (subject_of p.line) p.context p.entry
    pub loads : Each (λ (load : Change). load.version ≡ versions load.row) (loads_of p)
    pub slot_is : p.session ≡ session → p.context.slot ≡ own

  -- one line of both
  Goes : Option Subject → Context → Context → Entry → Entry → Type 0
  Goes what c d e f = (verdict_at e ≡ verdict_at f) × AreSeen (noted what c e).opened (noted what d f).opened

  start_goes : (what : Option Subject) (c d : Context) (n n' : Option ℕ) (v v' : Verdict) (co th cl ta co' th' cl' ta' : Option ℕ) → c.begun ≡ d.begun → c.slot ≡ slot → d.slot ≡ other → StartFits c.slot what (says.Start n v co th cl ta)
      → StartFits d.slot what (says.Start n' v' co' th' cl' ta') → IsJudged stack F what c (says.Start n v co th cl ta) → IsJudged stack G what d (says.Start n' v' co' th' cl' ta')
      → Each (λ (load : Change). load.version ≡ V load.row) (loads_at what c (says.Start n v co th cl ta)) → Each (λ (load : Change). load.version ≡ W load.row) (loads_at what d (says.Start n' v' co' th' cl' ta')) → AreSeen c.opened d.opened
      → Goes what c d (says.Start n v co th cl ta) (says.Start n' v' co' th' cl' ta')
  unfolding Goes
  start_goes None c d n n' v v' co th cl ta co' th' cl' ta' b s t p q j k l r seen = absurd p
  start_goes (Some subject) c d n n' v v' co th cl ta co' th' cl' ta' b s t p q j k l r seen =
      let x : Opened = record { subject = subject; verdict = v; index = c.begun; number = n; consumers = co; thread = th; class = cl; table = ta } in
      let y : Opened = record { subject = subject; verdict = v'; index = d.begun; number = n'; consumers = co'; thread = th'; class = cl'; table = ta' } in
      let here : SameWord F G V W thread_word c.slot d.slot = subst (λ z. SameWord F G V W thread_word z d.slot) (sym s) (subst (λ z. SameWord F G V W thread_word slot z) (sym t) threads) in
      let saw : seen_by F c.slot x ≡ seen_by G d.slot y =
      seen_same F G V W words c.slot d.slot x y refl here (second_true (verdict_fits (is_some c.slot) (is_none subject.class) v) _ p) (second_true (verdict_fits (is_some d.slot) (is_none subject.class) v') _ q) l r in
      let same : v ≡ v' = j ∙ (verdict_same stack c.slot d.slot subject (seen_by F c.slot x) (seen_by G d.slot y) c.opened d.opened (some_same F G V W words c.slot d.slot here) saw (seen_verdicts c.opened d.opened seen) ∙ sym k) in
      (ap (λ z. z ∷ []) same, (record { index = b; subject = refl; verdict = same; seen = ap (λ z. seen_by F z x) (sym s) ∙ (saw ∙ ap (λ z. seen_by G z y) t) }, seen))

  line_goes : (what : Option Subject) (c d : Context) (e f : Entry) → is_event e ≡ true → is_event f ≡ true → starts_event e ≡ starts_event f → c.begun ≡ d.begun → c.slot ≡ slot → d.slot ≡ other → StartFits c.slot what e → StartFits d.slot what f
      → IsJudged stack F what c e → IsJudged stack G what d f → Each (λ (load : Change). load.version ≡ V load.row) (loads_at what c e) → Each (λ (load : Change). load.version ≡ W load.row) (loads_at what d f) → AreSeen c.opened d.opened → Goes what c d e f
  unfolding Goes
  line_goes what c d (says.Start n v co th cl ta) (says.Start n' v' co' th' cl' ta') i h m b s t p q j k l r seen = start_goes what c d n n' v v' co th cl ta co' th' cl' ta' b s t p q j k l r seen
  line_goes what c d (says.End n last co th) (says.End n' last' co' th') i h m b s t p q j k l r seen = (refl, drop_seen c.opened d.opened seen)
  line_goes what c d (says.Start n v co th cl ta) (says.End n' last' co' th') i h m b s t p q j k l r seen = absurd (cc)
  line_goes what c d (says.End n last co th) (says.Start n' v' co' th' cl' ta') i h m b s t p q j k l r seen = absurd (cc)
  line_goes what c d (says.Start n v co th cl ta) _ i h m b s t p q j k l r seen = absurd (cc)
  line_goes what c d (says.End n last co th) _ i h m b s t p q j k l r seen = absurd (cc)
  line_goes what c d _ f i h m b s t p q j k l r seen = absurd (cc)

  -- all lines of the session
  abbrev pub AreAgreed : List Placed → List Placed → Type 0
  AreAgreed [] [] = Unit {0}
  AreAgreed (p ∷ ps) (q ∷ qs) = (p.session ≡ session → (verdict_at p.entry ≡ verdict_at q.entry) × AreSeen p.context.opened q.context.opened) × AreAgreed ps qs
  AreAgreed _ _ = ⊥

  pub phase_verdicts : (xs ys : List Opened) (ps qs : List Placed) → AreAligned ps qs → ChainedBy session xs ps → ChainedBy session ys qs → Each (Facts F V slot) ps → Each (Facts G W other) qs → AreSeen xs ys → AreAgreed ps qs
  unfolding Goes
  phase_verdicts xs ys [] [] a c d f g s = tt
  phase_verdicts xs ys [] (q ∷ qs) a c d f g s = absurd a
  phase_verdicts xs ys (p ∷ ps) [] a c d f g s = absurd a
  phase_verdicts xs ys (p ∷ ps) (q ∷ qs) a c d f g s =
      on (p.session == session) refl (λ vs ws x y z. phase_verdicts vs ws ps qs a.1 x y f.1 g.1 z) where
        other_own : (x : Bool) → (p.session == session) ≡ x → (q.session == session) ≡ x
        other_own x e = ap (λ k. k == session) (sym a.0.session) ∙ e

        on : (x : Bool) → (p.session == session) ≡ x → ((vs ws : List Opened) → ChainedBy session vs ps → ChainedBy session ws qs → AreSeen vs ws → AreAgreed ps qs) → AreAgreed (p ∷ ps) (q ∷ qs)
        on false e go = (
          (λ same. absurd (let z : (p.session == session) ≡ true = is_same p.session session same in let w : true ≡ false = sym z ∙ e in cc)),
          go xs ys (subst (λ b. ChainedBy session (cond b (noted (subject_of p.line) p.context p.entry).opened xs) ps) e c.1) (subst (λ b. ChainedBy session (cond b (noted (subject_of q.line) q.context q.entry).opened ys) qs) (other_own false e) d.1) s,
        ) where
          is_same : (m n : ℕ) → m ≡ n → (m == n) ≡ true
          is_same m n e = grind (arith, e)
        on true e go =
            let own : p.session ≡ session = eqb-true p.session session e in
            let here : AreSeen p.context.opened q.context.opened = subst (λ z. AreSeen z q.context.opened) (sym (c.0 e)) (subst (AreSeen xs) (sym (d.0 (other_own true e))) s) in
            let line : subject_of q.line ≡ subject_of p.line = ap subject_of (sym a.0.line) in
            let one : Goes (subject_of p.line) p.context q.context p.entry q.entry = line_goes (subject_of p.line) p.context q.context p.entry q.entry f.0.event g.0.event a.0.starts a.0.begun (f.0.slot_is own) (g.0.slot_is (sym a.0.session ∙ own)) f.0.fits
            (subst (λ z. StartFits q.context.slot z q.entry) line g.0.fits) f.0.judged (subst (λ z. IsJudged stack G z q.context q.entry) line g.0.judged) f.0.loads (subst (λ z. Each (λ (load : Change). load.version ≡ W load.row) (loads_at z q.context q.entry)) line g.0.loads) here in (
              (λ same. (one.0, here)),
              go (noted (subject_of p.line) p.context p.entry).opened (noted (subject_of q.line) q.context q.entry).opened (subst (λ b. ChainedBy session (cond b (noted (subject_of p.line) p.context p.entry).opened xs) ps) e c.1)
                  (subst (λ b. ChainedBy session (cond b (noted (subject_of q.line) q.context q.entry).opened ys) qs) (other_own true e) d.1)
                  (subst (λ z. AreSeen (noted (subject_of p.line) p.context p.entry).opened (noted z q.context q.entry).opened) (sym line) one.1),
            )
