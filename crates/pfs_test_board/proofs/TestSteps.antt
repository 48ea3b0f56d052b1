-- Steps of a test's session over an actor.
use Rattle.std.proofs.Common.{ℕ, ◌≡◌, ◌+◌, ◌≤◌, List, length, ap, ◌∙◌, arith}
use Rattle.pfs_actor.specs.ActionAsks.{MayAct}
use Rattle.pfs_actor.specs.ActorDeeds.{HasActed}
use Rattle.pfs_admin.specs.AdministrationStates.{State as Administration}
use Rattle.pfs_admin.specs.declared.changes.Change.{Change}
use Rattle.pfs_board.specs.declared.view.Label.{Label}
use Rattle.pfs_classes.specs.declared.setting.Setting.{Setting}
use Rattle.pfs_event.specs.Logs.{Journal}
use Rattle.pfs_law_plain.specs.Spells.{label_of}
use Rattle.pfs_law_session.specs.Deeds.{Deed}
use Rattle.pfs_levels.specs.Calls.{Call, Opening}
use Rattle.pfs_levels.specs.Views.{Store}
use Rattle.pfs_session.specs.SessionStates.{Book, Owed, State, nothing_held}
use Rattle.pfs_session.specs.Settlements.{owed_by_state, owed_in}
use Rattle.pfs_session.proofs.HeldAmounts.{nothing_owed}
use Rattle.pfs_test_board.specs.TestActors.{IsBegun, Leads}

pub then_on : (a b c : Opening → List Call → Type 0) → Leads a b → Leads b c → Leads a c
then_on a b c f g = λ start calls led. let there = f start calls led in g start there.0 there.1

pub begun_on : (a b : Opening → List Call → Type 0) → IsBegun a → Leads a b → IsBegun b
begun_on a b s f = let there = f s.0 s.1 s.2 in (s.0, there.0, there.1)

pub goes_on : (a b : Opening → List Call → Type 0) (more : List Call → List Call) → ((start : Opening) (calls : List Call) → a start calls → b start (more calls)) → Leads a b
goes_on a b more f = λ start calls led. (more calls, f start calls led)

pub acted_on : (setting : Setting) (change : Label → Change) (deed : Administration → Deed) (old new : Book) (a b : Opening → List Call → Type 0)
    → HasActed setting change deed old new a b → Leads a b
acted_on setting change deed old new a b acted = λ start calls led. let there = acted.done.leads start calls led in (_, there.reached)

pub label_is : (s : State) (number made : ℕ) → s.number ≡ number → s.actions ≡ made → label_of s ≡ record { session = number; line = made + 1 }
label_is s number made e f =
    ap (λ (n : ℕ). let l : Label = record { session = n; line = s.actions + 1 } in l) e ∙ ap (λ (m : ℕ). let l : Label = record { session = number; line = m + 1 } in l) f

pub owes_nothing : (s : State) → s.held ≡ nothing_held → length (owed_by_state s) ≡ 0
owes_nothing s e = ap (λ held. length (owed_in s.place.thread held)) e ∙ ap (λ (z : List Owed). length z) (nothing_owed s.place.thread)

pub may_act : (spent entries : ℕ) (store : Store) (log : Journal) → IsBegun store.reached → spent ≤ store.left → entries ≤ log.room → MayAct spent entries store log
may_act spent entries store log begun left room = record {
  begun = begun;
  affords = record { left = left; draws = omega arith; room = room };
}
