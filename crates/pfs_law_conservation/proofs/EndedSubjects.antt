-- What holds of all that lines start holds of all that ends.
use Rattle.std.proofs.Common.{◌≡◌, refl, ℕ, ◌==◌, Bool, true, false, cond, List, [], ◌∷◌, ◌++◌, Option, Some, None, sym, subst, inl, inr}
use Rattle.std.specs.Prelude.{drop, IfSome}
use Rattle.pfs_event.specs.declared.entry.Entry.{Entry}
use Rattle.pfs_event.specs.declared.entry.Entry.TheVariants as says
use Rattle.pfs_model.specs.Chains.{Each}
use Rattle.pfs_model.specs.Contexts.{Context, fresh, subject_of, with_opened, noted}
use Rattle.pfs_model.specs.EntryPlaces.{Placed}
use Rattle.pfs_model.specs.declared.lines.Line.{Line}
use Rattle.pfs_model.specs.declared.lines.Opened.{Opened}
use Rattle.pfs_model.specs.declared.lines.Subject.{Subject}
use Rattle.pfs_law_conservation.specs.RunEvents.{Ended, ended_at, ended_first, all_ended}
use Rattle.pfs_law_conservation.proofs.HomeRows.{by_sessions}
use Rattle.pfs_law_conservation.proofs.EntryWalk.{Comes, Follow, then_told}

module _ (P : Subject → Type 0) where
  abbrev AreOpened : List Opened → Type 0
  AreOpened events = Each (λ (event : Opened). P event.subject) events

  less : (events : List Opened) → AreOpened events → AreOpened (drop 1 events)
  less [] h = tt
  less (event ∷ events) h = h.1

  more : (o : Option Subject) (make : Subject → Opened) (opened : List Opened) → ((s : Subject) → (make s).subject ≡ s) → IfSome o P → AreOpened opened → AreOpened (with_opened o make opened)
  more None make opened own l h = h
  more (Some s) make opened own l h = (subst P (sym (own s)) l, h)

  behind : (line : Line) (c : Context) (e : Entry) → IfSome (subject_of line) P → AreOpened c.opened → AreOpened (noted (subject_of line) c e).opened
  behind line c (says.Start event verdict consumers thread class table) s h = more (subject_of line) _ c.opened (λ z. refl) s h
  behind line c (says.End event last consumers thread) s h = less c.opened h
  behind line c (says.Connect action thread account user host) s h = h
  behind line c (says.Held row first second) s h = h
  behind line c (says.Add row version) s h = h
  behind line c says.Settle s h = h
  behind line c (says.Act action) s h = h
  behind line c (says.Take row version) s h = h
  behind line c _ s h = h

  walk : (session : ℕ) (c : Context) (ps : List Placed) → Follow session c ps → Each (λ (p : Placed). IfSome (subject_of p.line) P) ps → AreOpened c.opened
      → Each (λ (p : Placed). (p.session == session) ≡ true → AreOpened p.context.opened) ps
  walk session c [] f h o = tt
  walk session c (p ∷ ps) f h o = (own, walk session (then_told session c p) ps f.1 h.1 (at (p.session == session) refl)) where
    come : (d : Context) → Comes c d → AreOpened d.opened
    come d (inl e) = subst (λ (z : Context). AreOpened z.opened) (sym e) o
    come d (inr e) = subst (λ (z : Context). AreOpened z.opened) (sym e) o

    own : (p.session == session) ≡ true → AreOpened p.context.opened
    own q = come p.context (f.0 q)

    at : (b : Bool) → (p.session == session) ≡ b → AreOpened (cond b (noted (subject_of p.line) p.context p.entry) c).opened
    at true q = behind p.line p.context p.entry h.0 (own q)
    at false q = o

  pub all_subjects : (ps : List Placed) → ((session : ℕ) → Follow session fresh ps) → Each (λ (p : Placed). IfSome (subject_of p.line) P) ps → Each (λ (p : Placed). Each (λ (event : Opened). P event.subject) p.context.opened) ps
  all_subjects ps f h = by_sessions (λ (p : Placed). AreOpened p.context.opened) ps (λ s. walk s fresh ps (f s) h tt)

  join : (xs ys : List Ended) → Each (λ (one : Ended). P one.event.subject) xs → Each (λ (one : Ended). P one.event.subject) ys → Each (λ (one : Ended). P one.event.subject) (xs ++ ys)
  join [] ys a b = b
  join (x ∷ xs) ys a b = (a.0, join xs ys a.1 b)

  pub ended_subjects : (ps : List Placed) → Each (λ (p : Placed). Each (λ (event : Opened). P event.subject) p.context.opened) ps → Each (λ (one : Ended). P one.event.subject) (all_ended ps)
  ended_subjects [] h = tt
  ended_subjects (p ∷ ps) h = join (ended_at p p.entry) (all_ended ps) (by p.entry) (ended_subjects ps h.1) where
    first : (events : List Opened) → AreOpened events → Each (λ (one : Ended). P one.event.subject) (ended_first p events)
    first [] l = tt
    first (event ∷ events) l = (l.0, tt)

    by : (e : Entry) → Each (λ (one : Ended). P one.event.subject) (ended_at p e)
    by (says.End event last consumers thread) = first p.context.opened h.0
    by _ = tt
