-- The spells of a run are all that the actors of its board did, but for those that changed nothing.
use Rattle.std.proofs.Common.{◌≡◌, List, [], ◌∷◌, ◌++◌, inl, inr, refl, ap, sym, ◌∙◌, append_assoc, append-nil}
use Rattle.pfs_board_store.specs.RootActors.{Worked, calls_of_all}
use Rattle.pfs_law_board.specs.PhaseEnds.{AreAllBut, IsQuiet}
use Rattle.pfs_law_plain.specs.Spells.{Spell, doings_calls}
use Rattle.pfs_law_shared.specs.Order.{AreSingle}
use Rattle.pfs_law_shared.specs.Shares.{actors_of}
use Rattle.pfs_levels.specs.CallOrder.{AllCalls}
use Rattle.pfs_levels.specs.Calls.{Call}
use Rattle.pfs_model.proofs.EachLists.{each_join}
use Rattle.pfs_model.specs.Chains.{Each}

pub calls_then : (xs ys : List Worked) → calls_of_all (xs ++ ys) ≡ calls_of_all xs ++ calls_of_all ys
calls_then [] ys = refl
calls_then (x ∷ xs) ys = ap (λ z. x.calls ∷ z) (calls_then xs ys)

pub actors_then : (xs ys : List Spell) → actors_of (xs ++ ys) ≡ actors_of ys ++ actors_of xs
actors_then [] ys = sym (append-nil (actors_of ys))
actors_then (x ∷ xs) ys = ap (λ z. z ++ doings_calls x.doings ∷ []) (actors_then xs ys) ∙ append_assoc (actors_of ys) (actors_of xs) (doings_calls x.doings ∷ [])

pub but_same : (xs some ys : List (List Call)) → AreAllBut some ys → AreAllBut (xs ++ some) (xs ++ ys)
but_same [] some ys b = b
but_same (x ∷ xs) some ys b = inl (refl, but_same xs some ys b)

pub but_quiet : (quiet some ys : List (List Call)) → AllCalls IsQuiet quiet → AreAllBut some ys → AreAllBut some (quiet ++ ys)
but_quiet [] some ys q b = b
but_quiet (x ∷ quiet) [] ys q b = (q.0, but_quiet quiet [] ys q.1 b)
but_quiet (x ∷ quiet) (one ∷ some) ys q b = inr (q.0, but_quiet quiet (one ∷ some) ys q.1 b)

pub all_then : (P : List Call → Type 0) (xs ys : List (List Call)) → AllCalls P xs → AllCalls P ys → AllCalls P (xs ++ ys)
all_then P [] ys a b = b
all_then P (x ∷ xs) ys a b = (a.0, all_then P xs ys a.1 b)

pub single_then : (xs ys : List Spell) → AreSingle xs → AreSingle ys → Each (λ x. Each (λ (other : Spell). other.session ≡ x.session → other.phase ≡ x.phase → ⊥) ys) xs → AreSingle (xs ++ ys)
single_then [] ys a b c = b
single_then (x ∷ xs) ys a b c = (each_join (λ other. other.session ≡ x.session → other.phase ≡ x.phase → ⊥) xs ys a.0 c.0, single_then xs ys a.1 b c.1)
