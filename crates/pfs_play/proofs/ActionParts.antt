-- A remark as a part of its session, and when a session may connect and end.
use Rattle.std.proofs.Common.{false, ℕ, ◌≡◌, ◌<◌, ◌≤◌, ◌∷◌, ◌++◌, length, arith, List, [], Option, Some, None, refl}
use Rattle.std.specs.Prelude.{IfSome}
use Rattle.pfs_admin.specs.ConnectionAsks.{placed_of}
use Rattle.pfs_admin.specs.AdministrationStates.{State as Administration, seat_at}
use Rattle.pfs_containers.specs.Administration.{Containers, lowest_free}
use Rattle.pfs_containers.specs.ContainerState.{seat_by}
use Rattle.pfs_containers.proofs.PlaceBounds.{free_inside}
use Rattle.pfs_levels.specs.Calls.{Call, Opening}
use Rattle.pfs_law_session.specs.Deeds.{Connecting, MayDo, Quitting, remark}
use Rattle.pfs_session.specs.SessionStates.{State, Book, nothing_held}
use Rattle.pfs_session.proofs.StepLists.{played_one}
use Rattle.pfs_session.specs.Inquiries.{Remarks, remark_entry}
use Rattle.pfs_session.specs.Turns.{Does, Inquires, Played}
use Rattle.pfs_session.specs.declared.remarks.Remark.{Remark}

-- a remark is one step
pub remarked : (what : Remark) (old new : Book) (was : Opening → List Call → Type 0) → Does old.state (Inquires (Remarks what)) [] (remark_entry what ∷ []) new.state → new.journal.entries ≡ old.journal.entries ++ remark_entry what ∷ []
    → Played (remark what ∷ []) old new was was
remarked what old new was does entries =
    played_one (Inquires (Remarks what)) [] (remark_entry what ∷ []) new.state old new was was does refl (record { entries_are = entries; goes = λ start calls h. h })

-- a session gets one of the slots
seat_inside : (most : ℕ) (now : Containers) (number user host : ℕ) (slot : Option ℕ) → IfSome slot (λ n. n < most) → IfSome (placed_of (seat_by now number user host slot)).thread (λ n. n < most)
seat_inside most now number user host None inside = tt
seat_inside most now number user host (Some slot) inside = inside

fewer : (few many : ℕ) (slot : Option ℕ) → few ≤ many → IfSome slot (λ n. n < few) → IfSome slot (λ n. n < many)
fewer few many None less inside = tt
fewer few many (Some slot) less inside = omega (arith, less, inside)

gets_a_slot : (s : Administration) (number user host : ℕ) → length s.kept.now.places.threads ≤ 32 → IfSome (placed_of (seat_at s number user host)).thread (λ n. n < 32)
gets_a_slot s number user host few =
    seat_inside 32 s.kept.now number user host (lowest_free s.kept.now.places.threads) (fewer (length s.kept.now.places.threads) 32 (lowest_free s.kept.now.places.threads) few (free_inside s.kept.now.places.threads))

-- so a session that has nothing open and holds nothing may connect, and one that has nothing open may end
pub may_connect : (s : State) (admin : Administration) (user host : ℕ) → s.opened.events ≡ [] → s.held ≡ nothing_held → length admin.kept.now.places.threads ≤ 32 → MayDo false s (Connecting admin user host)
may_connect s admin user host closed free few = (refl, closed, free, gets_a_slot admin s.number user host few)

pub may_quit : (s : State) (admin : Administration) → s.opened.events ≡ [] → MayDo false s (Quitting admin)
may_quit s admin closed = (refl, closed)
