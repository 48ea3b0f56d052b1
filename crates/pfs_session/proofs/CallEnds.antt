-- How calls leave a session, from what their parts leave.
use Rattle.std.proofs.Common.{◌≡◌, ◌≤◌, ◌+◌, Some, length, ap, sym, ◌∙◌, subst, arith}
use Rattle.pfs_event.specs.Nests.{innermost_of, kind_of}
use Rattle.pfs_event.specs.Verdicts.{is_let_through}
use Rattle.pfs_event.specs.declared.kind.EventKind.{EventKind}
use Rattle.pfs_event.specs.declared.open.Open.{Open}
use Rattle.pfs_event.specs.declared.verdict.Verdict.{Verdict}
use Rattle.pfs_session.specs.Ends.{outer_events, without_innermost}
use Rattle.pfs_session.specs.CallEnds.{HasStarted}
use Rattle.pfs_session.specs.Settlements.{owed_by_state}
use Rattle.pfs_session.specs.Starts.{started}
use Rattle.pfs_session.specs.SessionStates.{State, one_if}

pub has_started : (old new : State) (what : Open) (kind : EventKind) → new ≡ started old what → what.kind ≡ kind
    → HasStarted kind old.opened new.opened
has_started old new what kind e k = record {
  depth = ap (λ (s : State). s.opened.depth) e;
  innermost = ap (λ (s : State). kind_of (innermost_of s.opened.events)) e ∙ ap Some k;
  around = ap (λ (s : State). outer_events s.opened.events) e;
  one_more = omega (arith, ap (λ (s : State). length s.opened.events) e);
}

pub start_draws : (old at new : State) (what : Open) (verdict : Verdict) → at ≡ started old what → new ≡ at → what.verdict ≡ verdict
    → new.drawn ≡ old.drawn + one_if (is_let_through verdict)
start_draws old at new what verdict e n v =
    ap (λ (s : State). s.drawn) (n ∙ e) ∙ ap (λ z. old.drawn + one_if (is_let_through z)) v

pub start_leaves : (old new : State) (what : Open) → new ≡ started old what → new ≡ record old { drawn = new.drawn; opened = new.opened }
start_leaves old new what e = e ∙ sym (ap (λ (s : State). record old { drawn = s.drawn; opened = s.opened }) e)

-- an end behind which something was added or held, and put
pub end_leaves : (old mid new : State) → mid ≡ without_innermost old → new ≡ record mid { held = new.held; nexts = new.nexts }
    → new ≡ record (without_innermost old) { held = new.held; nexts = new.nexts }
end_leaves old mid new m n = n ∙ ap (λ (s : State). record s { held = new.held; nexts = new.nexts }) m

-- and one without
pub end_leaves_alone : (old mid new : State) → mid ≡ without_innermost old → new ≡ mid
    → new ≡ record (without_innermost old) { held = new.held; nexts = new.nexts }
end_leaves_alone old mid new m n = end_leaves old mid new m (n ∙ ap (λ (s : State). record mid { held = s.held; nexts = s.nexts }) (sym n))

pub end_owes : (old mid new : State) → mid ≡ without_innermost old → length (owed_by_state new) ≤ length (owed_by_state mid) + 2
    → length (owed_by_state new) ≤ length (owed_by_state old) + 2
end_owes old mid new m le = subst (λ (s : State). length (owed_by_state new) ≤ length (owed_by_state s) + 2) m le

pub end_owes_alone : (old mid new : State) → mid ≡ without_innermost old → new ≡ mid
    → length (owed_by_state new) ≤ length (owed_by_state old) + 2
end_owes_alone old mid new m n = omega (arith, ap (λ s. length (owed_by_state s)) n, ap (λ s. length (owed_by_state s)) m)
