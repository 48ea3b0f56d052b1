-- The actions of each session's calls are whole: a step's calls neither begin nor end one.
use Rattle.std.proofs.Common.{ℕ, ◌≡◌, List, [], ◌∷◌, ◌++◌, Option, Some, None, refl, arith}
use Rattle.pfs_board.specs.declared.view.Label.{Label}
use Rattle.pfs_levels.specs.Calls.{Call, Adds, Rings, Reads, Loads, Draws, Takes, Puts, Frees, Sets, Enters, Leaves, Meets, action_in}
use Rattle.pfs_levels.specs.CallOrder.{AllCalls}
use Rattle.pfs_levels.specs.PlainCalls.{AllOutside}
use Rattle.pfs_session.specs.SessionStates.{State}
use Rattle.pfs_session.specs.Turns.{state_after}
use Rattle.pfs_law_session.specs.Deeds.{action_of, part_calls}
use Rattle.pfs_law_session.specs.JournalLaws.{AreParts}
use Rattle.pfs_law_session.specs.Stints.{AreDone}
use Rattle.pfs_law_plain.specs.Spells.{Doing, Spell, around, entering, doing_calls, doings_calls, parts_in, stints_of}
use Rattle.pfs_law_joint.specs.Phases.{BeginsOutside, BeginOutside, AreWhole}
use Rattle.pfs_law_shared.specs.Shares.{actors_of}
use Rattle.pfs_law_shared.proofs.InnerCalls.{AreWithin, turns_within, calls_within}

no_action : (xs ys : List Call) → action_in xs ≡ 0 → action_in ys ≡ 0 → action_in (xs ++ ys) ≡ 0
no_action [] ys a b = b
no_action (Enters label labels ∷ xs) ys a b = absurd (omega (arith, a))
no_action (Leaves ∷ xs) ys a b = refl
no_action (Adds row amount answer ∷ xs) ys a b = no_action xs ys a b
no_action (Rings row content answer ∷ xs) ys a b = no_action xs ys a b
no_action (Reads row seen ∷ xs) ys a b = no_action xs ys a b
no_action (Loads at version flags ∷ xs) ys a b = no_action xs ys a b
no_action (Draws kind ticket ∷ xs) ys a b = no_action xs ys a b
no_action (Meets versions ∷ xs) ys a b = no_action xs ys a b
no_action (Takes row version found ∷ xs) ys a b = no_action xs ys a b
no_action (Puts row content version ∷ xs) ys a b = no_action xs ys a b
no_action (Frees row version ∷ xs) ys a b = no_action xs ys a b
no_action (Sets at flags version ∷ xs) ys a b = no_action xs ys a b

begins_then : (call : Call) (xs ys : List Call) → BeginsOutside xs call → action_in ys ≡ 0 → BeginsOutside (xs ++ ys) call
begins_then (Enters label labels) xs ys a b = no_action xs ys a b
begins_then Leaves xs ys a b = tt
begins_then (Adds row amount answer) xs ys a b = tt
begins_then (Rings row content answer) xs ys a b = tt
begins_then (Reads row seen) xs ys a b = tt
begins_then (Loads at version flags) xs ys a b = tt
begins_then (Draws kind ticket) xs ys a b = tt
begins_then (Meets versions) xs ys a b = tt
begins_then (Takes row version found) xs ys a b = tt
begins_then (Puts row content version) xs ys a b = tt
begins_then (Frees row version) xs ys a b = tt
begins_then (Sets at flags version) xs ys a b = tt

begin_then : (xs ys : List Call) → BeginOutside xs → BeginOutside ys → action_in ys ≡ 0 → BeginOutside (xs ++ ys)
begin_then [] ys a b e = b
begin_then (call ∷ xs) ys a b e = (begins_then call xs ys a.0 e, begin_then xs ys a.1 b e)

whole_then : (xs ys : List Call) → AreWhole xs → AreWhole ys → AreWhole (xs ++ ys)
whole_then xs ys a b = record { outside = begin_then xs ys a.outside b.outside b.ended; ended = no_action xs ys a.ended b.ended }

-- calls that neither begin nor end an action
within_begin : (xs ys : List Call) → AreWithin xs → BeginOutside ys → BeginOutside (xs ++ ys)
within_begin [] ys w b = b
within_begin (Enters label labels ∷ xs) ys w b = absurd w.0
within_begin (Leaves ∷ xs) ys w b = absurd w.0
within_begin (Adds row amount answer ∷ xs) ys w b = (tt, within_begin xs ys w.1 b)
within_begin (Rings row content answer ∷ xs) ys w b = (tt, within_begin xs ys w.1 b)
within_begin (Reads row seen ∷ xs) ys w b = (tt, within_begin xs ys w.1 b)
within_begin (Loads at version flags ∷ xs) ys w b = (tt, within_begin xs ys w.1 b)
within_begin (Draws kind ticket ∷ xs) ys w b = (tt, within_begin xs ys w.1 b)
within_begin (Meets versions ∷ xs) ys w b = (tt, within_begin xs ys w.1 b)
within_begin (Takes row version found ∷ xs) ys w b = (tt, within_begin xs ys w.1 b)
within_begin (Puts row content version ∷ xs) ys w b = (tt, within_begin xs ys w.1 b)
within_begin (Frees row version ∷ xs) ys w b = (tt, within_begin xs ys w.1 b)
within_begin (Sets at flags version ∷ xs) ys w b = (tt, within_begin xs ys w.1 b)

within_whole : (xs : List Call) → AreWithin xs → AreWhole xs
within_whole [] w = record { outside = tt; ended = refl }
within_whole (Enters label labels ∷ xs) w = absurd w.0
within_whole (Leaves ∷ xs) w = absurd w.0
within_whole (Adds row amount answer ∷ xs) w = let r = within_whole xs w.1 in record { outside = (tt, r.outside); ended = r.ended }
within_whole (Rings row content answer ∷ xs) w = let r = within_whole xs w.1 in record { outside = (tt, r.outside); ended = r.ended }
within_whole (Reads row seen ∷ xs) w = let r = within_whole xs w.1 in record { outside = (tt, r.outside); ended = r.ended }
within_whole (Loads at version flags ∷ xs) w = let r = within_whole xs w.1 in record { outside = (tt, r.outside); ended = r.ended }
within_whole (Draws kind ticket ∷ xs) w = let r = within_whole xs w.1 in record { outside = (tt, r.outside); ended = r.ended }
within_whole (Meets versions ∷ xs) w = let r = within_whole xs w.1 in record { outside = (tt, r.outside); ended = r.ended }
within_whole (Takes row version found ∷ xs) w = let r = within_whole xs w.1 in record { outside = (tt, r.outside); ended = r.ended }
within_whole (Puts row content version ∷ xs) w = let r = within_whole xs w.1 in record { outside = (tt, r.outside); ended = r.ended }
within_whole (Frees row version ∷ xs) w = let r = within_whole xs w.1 in record { outside = (tt, r.outside); ended = r.ended }
within_whole (Sets at flags version ∷ xs) w = let r = within_whole xs w.1 in record { outside = (tt, r.outside); ended = r.ended }

pub around_whole : (label : Label) (labels : List Label) (met : Option (List ℕ)) (action : Option ℕ) (calls : List Call) → AreWithin calls → AreWhole (around label labels met action calls)
around_whole label labels met None calls w = within_whole calls w
around_whole label labels None (Some number) calls w = record { outside = (tt, within_begin calls (entering label labels None) w (refl, tt)); ended = refl }
around_whole label labels (Some versions) (Some number) calls w = record { outside = (tt, within_begin calls (entering label labels (Some versions)) w (tt, (refl, tt))); ended = refl }

doings_whole : (s : State) (ds : List Doing) → AreParts s (parts_in ds) → AreWhole (doings_calls ds)
doings_whole s [] are = record { outside = tt; ended = refl }
doings_whole s (d ∷ ds) are =
    whole_then (doings_calls ds) (doing_calls d) (doings_whole (state_after s d.part.turns) ds are.1)
    (around_whole d.label d.labels d.met (action_of d.part.deed) (part_calls d.part) (calls_within d.part.turns (turns_within s d.part.turns are.0.are_turns)))

all_then : (P : List Call → Type 0) (xs ys : List (List Call)) → AllCalls P xs → AllCalls P ys → AllCalls P (xs ++ ys)
all_then P [] ys a b = b
all_then P (x ∷ xs) ys a b = (a.0, all_then P xs ys a.1 b)

pub actors_whole : (spells : List Spell) → AreDone (stints_of spells) → AllCalls AreWhole (actors_of spells)
actors_whole [] done = tt
actors_whole (spell ∷ spells) done =
    all_then AreWhole (actors_of spells) (doings_calls spell.doings ∷ []) (actors_whole spells done.1) (doings_whole done.0.from spell.doings done.0.are_parts, tt)

pub all_outside : (actors : List (List Call)) → AllCalls AreWhole actors → AllOutside actors
all_outside [] w = tt
all_outside (calls ∷ actors) w = (w.0.ended, all_outside actors w.1)
