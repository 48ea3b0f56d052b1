-- A test's root, from new tables to a settlement.
use Rattle.std.proofs.Common.{ℕ, ◌≡◌, List, [], sym}
use Rattle.pfs_board_root.specs.Roots.{IsKnown, RootView, opening_at}
use Rattle.pfs_board_store.specs.RootActors.{Worked}
use Rattle.pfs_levels.specs.Calls.{Call, Opening}
use Rattle.pfs_test_board.specs.TestActors.{Leads}

-- an actor that was split off has made these calls: one that its root may take in
abbrev pub worked : (flags : List ℕ) (r : RootView) (publications draws : ℕ) (was now : Opening → List Call → Type 0)
    → was (opening_at flags r publications draws 1) [] → Leads was now → Worked
worked flags r publications draws was now began led = record { start = opening_at flags r publications draws 1; calls = (led _ [] began).0 }

pub known_by : {A : Type 0} (reached : A → Opening → List Call → Type 0) (actor : A) (flags : List ℕ) (r at : RootView) (publications draws : ℕ) (was : Opening → List Call → Type 0)
    → (began : was (opening_at flags r publications draws 1) []) (led : Leads was (reached actor)) → at.board ≡ r.board → at.switches ≡ r.switches → at.tickets ≡ r.tickets
    → IsKnown at reached (worked flags r publications draws was (reached actor) began led) actor
known_by reached actor flags r at publications draws was began led b s t = record {
  board = sym b;
  switches = sym s;
  tickets = sym t;
  reached = (led _ [] began).1;
}
