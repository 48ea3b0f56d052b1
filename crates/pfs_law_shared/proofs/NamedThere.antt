-- The rows and words that the journals name are there.
use Rattle.std.proofs.Common.{ℕ, ◌≡◌, ◌<◌, ◌==◌, Bool, true, false, not, cond, List, [], ◌∷◌, ◌++◌, Option, refl, ap, ◌∙◌, arith, subst, ltb-true, lt-ltb, eq-eqb}
use Rattle.std.specs.Prelude.{nat_lt}
use Rattle.pfs_event.specs.declared.entry.Entry.{Entry}
use Rattle.pfs_event.specs.declared.entry.Entry.TheVariants as says
use Rattle.pfs_levels.specs.Calls.{Call, Adds, Rings, Reads, Loads, Draws, Takes, Puts, Frees, Sets, Enters, Leaves, Meets}
use Rattle.pfs_levels.specs.JointCalls.{total, one_if}
use Rattle.pfs_levels.specs.declared.answers.Added.TheVariants.{Counted, Held}
use Rattle.pfs_levels.specs.declared.answers.RingPut.TheVariants.{Done, Busy, Late}
use Rattle.pfs_rows.specs.declared.table.Seen.TheVariants as seen
use Rattle.pfs_model.specs.Chains.{Each}
use Rattle.pfs_model.specs.Contexts.{Context, subject_of}
use Rattle.pfs_model.specs.EntryPlaces.{Placed, by_session}
use Rattle.pfs_model.specs.Floors.{IsThere, AreThere}
use Rattle.pfs_model.specs.declared.lines.Subject.{Subject}
use Rattle.pfs_session.specs.Turns.{Step, StartsEvent, EndsEvent, Spends, SettlesHeld, Connects, Quits, Truncates, Changes, Inquires, Turn, turns_calls}
use Rattle.pfs_law_session.specs.Deeds.{Part, part_calls}
use Rattle.pfs_law_plain.specs.Notes.{Note, Wrote, Freed, Found, Vacant, Refused, Overdue, Switched, Saw, Acted, notes_at, notes_of, told, all_told}
use Rattle.pfs_law_plain.specs.SessionNotes.{head_of, turns_notes, parts_notes}
use Rattle.pfs_law_joint.proofs.Sums.{total_then}
use Rattle.pfs_law_plain.specs.RunRules.{entries_of}
use Rattle.pfs_law_plain.specs.SessionNotes.{ToldThroughLaw}
use Rattle.pfs_law_plain.specs.Spells.{Doing, Spell, doing_calls, doings_calls, parts_in, stints_of}
use Rattle.pfs_law_session.specs.Deeds.{action_of}
use Rattle.pfs_law_session.specs.Stints.{AreStints, parts_by}
use Rattle.pfs_law_shared.specs.Order.{IsNear, AllNear}
use Rattle.pfs_law_shared.proofs.OrderedActions.{each_near}
use Rattle.pfs_law_shared.proofs.PlainNear.{near_back, near_front, around_near}

-- a note that names what isn't there
abbrev pub missing : Note → ℕ
missing (Freed row version) = one_if (not (nat_lt row 14242))
missing (Found row version) = one_if (not (nat_lt row 14242))
missing (Saw word version) = one_if (not (nat_lt word 160))
missing (Wrote row version) = 0
missing (Vacant row) = 0
missing (Refused row first second) = 0
missing (Overdue row ticket) = 0
missing (Switched word version flags) = 0
missing (Acted number) = 0

low_there : (b : Bool) (m n : ℕ) → nat_lt m n ≡ b → one_if (not b) ≡ 0 → m < n
low_there true m n e none = ltb-true m n e
low_there false m n e none = absurd (omega (arith, none))

entry_there : (subject : Option Subject) (context : Context) (e : Entry) → total missing (notes_at subject context e) ≡ 0 → IsThere e
unfolding total
entry_there subject context (says.Seen row version) none = low_there (nat_lt row 14242) row 14242 refl (omega (arith, none))
entry_there subject context (says.Free row version) none = low_there (nat_lt row 14242) row 14242 refl (omega (arith, none))
entry_there subject context (says.Saw word version) none = low_there (nat_lt word 160) word 160 refl (omega (arith, none))
entry_there subject context _ none = tt

pub places_there : (ps : List Placed) → total missing (notes_of ps) ≡ 0 → AreThere ps
places_there [] none = tt
places_there (p ∷ ps) none =
    let t = total_then missing (notes_at (subject_of p.line) p.context p.entry) (notes_of ps) in
    (entry_there (subject_of p.line) p.context p.entry (omega (arith, none, t)), places_there ps (omega (arith, none, t)))

not_missing : (m n : ℕ) → m < n → one_if (not (nat_lt m n)) ≡ 0
not_missing m n low = ap (λ b. one_if (not b)) (lt-ltb m n low)

call_there : (call : Call) → IsNear call → total missing (told call) ≡ 0
unfolding total
call_there (Adds at amount (Counted r v)) near = refl
call_there (Adds at amount (Held r v w)) near = refl
call_there (Rings at content (Done v)) near = refl
call_there (Rings at content (Busy v w)) near = refl
call_there (Rings at content (Late t v)) near = refl
call_there (Reads at (seen.Whole v found)) near = omega (arith, not_missing at 14242 near.1)
call_there (Reads at (seen.Free w)) near = refl
call_there (Reads at (seen.Busy v w)) near = refl
call_there (Loads at v found) near = omega (arith, not_missing at 160 near)
call_there (Draws kind ticket) near = refl
call_there (Takes at v found) near = refl
call_there (Puts at content v) near = refl
call_there (Frees at v) near = omega (arith, not_missing at 14242 near.1)
call_there (Sets at to v) near = refl
call_there (Enters label labels) near = refl
call_there Leaves near = refl
call_there (Meets versions) near = refl

calls_there : (calls : List Call) → Each IsNear calls → total missing (all_told calls) ≡ 0
unfolding total all_told
calls_there [] near = refl
calls_there (call ∷ calls) near =
    let t = total_then missing (all_told calls) (told call) in
    omega (arith, t, calls_there calls near.1, call_there call near.0)

head_there : (step : Step) → total missing (head_of step) ≡ 0
unfolding total
head_there (Connects admin user host) = refl
head_there (Quits admin) = refl
head_there (Truncates admin what) = refl
head_there (Changes admin what) = refl
head_there (Inquires what) = refl
head_there (StartsEvent subject) = refl
head_there (EndsEvent numbers) = refl
head_there (Spends time) = refl
head_there SettlesHeld = refl

turns_there : (turns : List Turn) → Each IsNear (turns_calls turns) → total missing (turns_notes turns) ≡ 0
unfolding total
turns_there [] near = refl
turns_there (t ∷ ts) near =
    let a = total_then missing (turns_notes ts) (head_of t.step ++ all_told t.calls) in
    let b = total_then missing (head_of t.step) (all_told t.calls) in
    omega (arith, a, b, head_there t.step, calls_there t.calls (near_front t.calls (turns_calls ts) near), turns_there ts (near_back t.calls (turns_calls ts) near))

pub parts_there : (ps : List Part) → Each (λ p. Each IsNear (part_calls p)) ps → total missing (parts_notes ps) ≡ 0
unfolding total
parts_there [] near = refl
parts_there (p ∷ ps) near =
    let a = total_then missing (turns_notes p.turns) (parts_notes ps) in
    omega (arith, a, turns_there p.turns near.0, parts_there ps near.1)

pub parts_near : (ds : List Doing) → Each IsNear (doings_calls ds) → Each (λ p. Each IsNear (part_calls p)) (parts_in ds)
parts_near [] near = tt
parts_near (d ∷ ds) near = (
  around_near d.label d.labels d.met (action_of d.part.deed) (part_calls d.part) (near_back (doings_calls ds) (doing_calls d) near),
  parts_near ds (near_front (doings_calls ds) (doing_calls d) near),
)

parts_then : (xs ys : List Part) → Each (λ p. Each IsNear (part_calls p)) xs → Each (λ p. Each IsNear (part_calls p)) ys → Each (λ p. Each IsNear (part_calls p)) (xs ++ ys)
parts_then [] ys a b = b
parts_then (x ∷ xs) ys a b = (a.0, parts_then xs ys a.1 b)

by_near : (session : ℕ) (spells : List Spell) → Each (λ spell. Each IsNear (doings_calls spell.doings)) spells → Each (λ p. Each IsNear (part_calls p)) (parts_by session (stints_of spells))
by_near session [] near = tt
by_near session (spell ∷ spells) near = parts_then (cond (spell.session == session) (parts_in spell.doings) []) (parts_by session (stints_of spells)) (at (spell.session == session)) (by_near session spells near.1) where
  at : (b : Bool) → Each (λ p. Each IsNear (part_calls p)) (cond b (parts_in spell.doings) [])
  at true = parts_near spell.doings near.0
  at false = tt

-- what is there of each session is there of all
rest_there : (b : Bool) (p : Placed) (ps : List Placed) → AreThere (cond b (p ∷ []) [] ++ ps) → AreThere ps
rest_there true p ps all = all.1
rest_there false p ps all = all

own_there : (b : Bool) (p : Placed) (ps : List Placed) → b ≡ true → AreThere (cond b (p ∷ []) [] ++ ps) → IsThere p.entry
own_there b p ps e all = (subst (λ z. AreThere (cond z (p ∷ []) [] ++ ps)) e all).0

all_there : (ps : List Placed) → ((session : ℕ) → AreThere (by_session session ps)) → AreThere ps
all_there [] each = tt
all_there (p ∷ ps) each = (
  own_there (p.session == p.session) p (by_session p.session ps) (eq-eqb p.session p.session refl) (each p.session),
  all_there ps (λ session. rest_there (p.session == session) p (by_session session ps) (each session)),
)

pub named_there : ToldThroughLaw → (stack : ℕ) (depths : ℕ → ℕ) (spells : List Spell) → AreStints stack depths (stints_of spells) → AllNear spells → AreThere (entries_of spells)
named_there through stack depths spells are near =
    all_there (entries_of spells) (λ session. places_there (by_session session (entries_of spells))
    (ap (total missing) (through stack depths session (stints_of spells) are) ∙ parts_there (parts_by session (stints_of spells)) (by_near session spells (each_near spells near))))
