-- An event that is offered to its current place has one: a let-through wait or statement lies below few of its kind.
use Rattle.std.proofs.Common.{ℕ, ◌≡◌, ◌<◌, ◌≤◌, ◌&&◌, nat_le, Bool, true, false, List, Option, Some, None, refl, ap, sym, ◌∙◌, subst, arith}
use Rattle.std.specs.Prelude.{if◌then◌else◌}
use Rattle.std.proofs.lemmas.Bool.{false≢true, leb-false}
use Rattle.pfs_lemmas.proofs.Bools.{and_first}
use Rattle.pfs_consumers.specs.Tree.{acts_of}
use Rattle.pfs_event.specs.declared.kind.EventKind.{EventKind}
use Rattle.pfs_event.specs.declared.kind.EventKind.TheVariants as kinds
use Rattle.pfs_event.specs.declared.open.Open.{Open}
use Rattle.pfs_event.specs.declared.verdict.Verdict.{Verdict}
use Rattle.pfs_event.specs.declared.verdict.Verdict.TheVariants.{OffGlobal, OffClass, OffTable, OffThread, LostNested, LostLocker, Aside, Attributed}
use Rattle.pfs_model.specs.SetupFlags.{current_consumer, is_attributed, is_statement, is_wait}
use Rattle.pfs_model.specs.declared.lines.Subject.{Subject}
use Rattle.pfs_rings.specs.RingPlaces.{depths}
use Rattle.pfs_session.specs.EventPuts.{depth_of, is_placed_by}
use Rattle.pfs_session.specs.Starts.{verdict_seen}
use Rattle.pfs_session.specs.SessionStates.{count_open}
use Rattle.pfs_session.specs.declared.setup.Setup.{Setup}

-- the cases of a verdict, where the last two of what was lost don't hold
abbrev chosen : Bool → Bool → Bool → Bool → Bool → Bool → Bool → Verdict
chosen a b c d e f g =
    if a then OffGlobal else
    if b then OffClass else
    if c then OffTable else
    if d then OffThread else
    if e then LostNested else
    if f then LostLocker else
    if g then Aside else
    Attributed

record NeitherLost (e f : Bool) : Type 0 where
  nested : e ≡ false
  locker : f ≡ false

neither : (a b c d e f g : Bool) → is_attributed (chosen a b c d e f g) ≡ true → NeitherLost e f
neither true b c d e f g q = absurd (false≢true q)
neither false true c d e f g q = absurd (false≢true q)
neither false false true d e f g q = absurd (false≢true q)
neither false false false true e f g q = absurd (false≢true q)
neither false false false false true f g q = absurd (false≢true q)
neither false false false false false true g q = absurd (false≢true q)
neither false false false false false false g q = record { nested = refl; locker = refl }

kind_deep : (kind : EventKind) (stack : ℕ) (events : List Open) (statements waits : ℕ) → statements ≡ count_open is_statement events → waits ≡ count_open is_wait events
    → stack ≤ 10 → NeitherLost (is_statement kind && nat_le stack statements) (is_wait kind && nat_le 4 waits) → depth_of kind events < depths kind
kind_deep kinds.Wait stack events statements waits a b k n = omega (arith, b, leb-false 4 waits n.locker)
kind_deep kinds.Statement stack events statements waits a b k n = omega (arith, a, leb-false stack statements n.nested, k)
kind_deep kinds.Stage stack events statements waits a b k n = omega arith
kind_deep kinds.Transaction stack events statements waits a b k n = omega arith

seen_deep : (stack : ℕ) (events : List Open) (slot : Option ℕ) (subject : Subject) (seen : Option Setup) (statements waits : ℕ) → statements ≡ count_open is_statement events
    → waits ≡ count_open is_wait events → stack ≤ 10 → is_attributed (verdict_seen stack slot subject seen statements waits) ≡ true
    → depth_of subject.kind events < depths subject.kind
seen_deep stack events None subject seen statements waits a b k q = absurd (false≢true q)
seen_deep stack events (Some slot) subject None statements waits a b k q = absurd (false≢true q)
seen_deep stack events (Some slot) subject (Some seen) statements waits a b k q =
    kind_deep subject.kind stack events statements waits a b k (neither _ _ _ _ (is_statement subject.kind && nat_le stack statements) (is_wait subject.kind && nat_le 4 waits) _ q)

placed_attributed : (subject : Subject) (verdict : Verdict) (seen : Option Setup) → is_placed_by subject verdict seen ≡ true → is_attributed verdict ≡ true
placed_attributed subject verdict None q = absurd (false≢true q)
placed_attributed subject verdict (Some seen) q = and_first (is_attributed verdict) (acts_of seen.consumers.flags (current_consumer subject.kind)) q

-- so of an event that starts
pub start_deep : (stack : ℕ) (events : List Open) (slot : Option ℕ) (subject : Subject) (seen : Option Setup) (verdict : Verdict) (statements waits : ℕ) (placed : Bool) (what : Open)
    → statements ≡ count_open is_statement events → waits ≡ count_open is_wait events → stack ≤ 10
    → verdict ≡ verdict_seen stack slot subject seen statements waits → placed ≡ is_placed_by subject verdict seen
    → what.placed ≡ placed → what.kind ≡ subject.kind → what.placed ≡ true → depth_of what.kind events < depths what.kind
start_deep stack events slot subject seen verdict statements waits placed what a b k v p w kind q =
    let attributed : is_attributed verdict ≡ true = placed_attributed subject verdict seen (sym p ∙ (sym w ∙ q)) in
    subst (λ z. depth_of z events < depths z) (sym kind)
    (seen_deep stack events slot subject seen statements waits a b k (ap is_attributed (sym v) ∙ attributed))
