-- What is printed of each action beside its sets, collected entry by entry.
use Rattle.std.proofs.Common.{◌≡◌, refl, ℕ, ◌==◌, Bool, true, false, cond, List, [], ◌∷◌, ◌++◌, map, sym, ◌∙◌, ap, subst, append_assoc}
use Rattle.std.specs.List.{flat_map}
use Rattle.std.proofs.lemmas.List.{append-nil}
use Rattle.std.specs.BTreeMap.{BTreeMap}
use Rattle.std.specs.Prelude.{Vec}
use Rattle.std.specs.declared.alloc.Global.{Global}
use Rattle.pfs_event.specs.declared.entry.Entry.{Entry}
use Rattle.pfs_event.specs.declared.entry.Entry.TheVariants as says
use Rattle.pfs_model.specs.ActionAsks.{Freed, Gave, Tagged, Took, did, of_action}
use Rattle.pfs_model.specs.Chains.{Each, each_of}
use Rattle.pfs_model.specs.EntryPlaces.{Placed}
use Rattle.pfs_check_blank.specs.AllAsked.{TellsOne}
use Rattle.pfs_check_faults.specs.ActionFaults.{moves_in, moving_at}
use Rattle.pfs_check_faults.specs.ReportCases.{Findings, entries_of}
use Rattle.pfs_check_visits.specs.Visits.{AreVisited}
use Rattle.pfs_check_visits.specs.declared.visited.Visited.{Visited}
use Rattle.pfs_check_visits.proofs.EntryCounts.{all_known}
use Rattle.pfs_check_walk.specs.Walks.{onto}
use Rattle.pfs_check_moves.specs.PrintedMoves.{ArePrinted, IsPrintedMore, in_order, is_moving, moves_of, moving}

-- entries behind others
moving_join : (ps qs : List Placed) → moving (ps ++ qs) ≡ moving ps ++ moving qs
moving_join [] qs = refl
moving_join (p ∷ ps) qs = at (is_moving p.entry) (moving_join ps qs) where
  at : (b : Bool) → moving (ps ++ qs) ≡ moving ps ++ moving qs
      → cond b (p.entry ∷ []) [] ++ moving (ps ++ qs) ≡ (cond b (p.entry ∷ []) [] ++ moving ps) ++ moving qs
  at true e = ap (λ z. p.entry ∷ z) e
  at false e = e

action_join : (number : ℕ) (ps : List Placed) (p : Placed)
    → of_action number (ps ++ p ∷ []) ≡ of_action number ps ++ cond (p.context.action == number) (p ∷ []) []
action_join number [] p = at (p.context.action == number) where
  at : (b : Bool) → cond b (p ∷ []) [] ++ [] ≡ cond b (p ∷ []) []
  at true = refl
  at false = refl
action_join number (q ∷ ps) p = at (q.context.action == number) (action_join number ps p) where
  at : (b : Bool) → of_action number (ps ++ p ∷ []) ≡ of_action number ps ++ cond (p.context.action == number) (p ∷ []) []
      → cond b (q ∷ []) [] ++ of_action number (ps ++ p ∷ []) ≡ (cond b (q ∷ []) [] ++ of_action number ps) ++ cond (p.context.action == number) (p ∷ []) []
  at true e = ap (λ z. q ∷ z) e
  at false e = e

-- one entry more
pub none_printed : (kept : BTreeMap ℕ (Vec Entry Global)) → ((number : ℕ) → moves_of kept number ≡ []) → ArePrinted [] kept
none_printed kept none = record { each = none }

pub one_printed : (places : List Placed) (p : Placed) (old new : BTreeMap ℕ (Vec Entry Global)) → IsPrintedMore old new p.context.action p.entry
    → ArePrinted places old → ArePrinted (places ++ p ∷ []) new
one_printed places p old new more are = record { each = each } where
  each : (number : ℕ) → moves_of new number ≡ moving (of_action number (places ++ p ∷ []))
  each number =
      more.each number
      ∙ ap (λ z. z ++ cond (p.context.action == number) (cond (is_moving p.entry) (p.entry ∷ []) []) []) (are.each number)
      ∙ ap (λ z. moving (of_action number places) ++ z) (at (p.context.action == number))
      ∙ sym (moving_join (of_action number places) (cond (p.context.action == number) (p ∷ []) []))
      ∙ ap moving (sym (action_join number places p)) where
        at : (b : Bool) → cond b (cond (is_moving p.entry) (p.entry ∷ []) []) [] ≡ moving (cond b (p ∷ []) [])
        at true = sym (append-nil (cond (is_moving p.entry) (p.entry ∷ []) []))
        at false = refl

-- all entries
order_onto : (earlier places : List Placed) → in_order (onto earlier places) ≡ in_order earlier ++ places
order_onto earlier [] = sym (append-nil (in_order earlier))
order_onto earlier (p ∷ ps) = order_onto (p ∷ earlier) ps ∙ append_assoc (in_order earlier) (p ∷ []) ps

pub all_printed : (found : Findings) (all : List Placed) (kept : BTreeMap ℕ (Vec Entry Global)) (told : Type 0) (visited : Visited) → entries_of found ≡ all
    → AreVisited (λ earlier place. Unit {0}) [] all (λ earlier. ArePrinted (in_order earlier) kept) told visited
    → ArePrinted (entries_of found) kept
all_printed found all kept told visited e v =
    subst (λ z. ArePrinted z kept) (order_onto [] all ∙ sym e) (all_known all (λ earlier. ArePrinted (in_order earlier) kept) told visited v)

-- what they do, and that each of them does one thing
abbrev IsOneMove : Placed → Type 0
IsOneMove p = (moving_at p.entry ≡ flat_map did (cond (is_moving p.entry) (p.entry ∷ []) []))
    × (cond (is_moving p.entry) (p.entry ∷ []) [] ≡ map (λ (q : Placed). q.entry) (map (λ _. p) (moving_at p.entry)))

one_move : (p : Placed) → IsOneMove p
one_move p = at p.entry where
  at : (entry : Entry) → (moving_at entry ≡ flat_map did (cond (is_moving entry) (entry ∷ []) []))
      × (cond (is_moving entry) (p.entry ∷ []) [] ≡ map (λ (q : Placed). q.entry) (map (λ _. p) (moving_at entry)))
  at (says.Take row version) = (refl, refl)
  at (says.Give row version from) = (refl, refl)
  at (says.Free row version) = (refl, refl)
  at (says.Tag row version) = (refl, refl)
  at _ = (refl, refl)

flat_join : (xs ys : List Entry) → flat_map did (xs ++ ys) ≡ flat_map did xs ++ flat_map did ys
flat_join [] ys = refl
flat_join (x ∷ xs) ys = ap (λ z. did x ++ z) (flat_join xs ys) ∙ sym (append_assoc (did x) (flat_map did xs) (flat_map did ys))

map_join : (xs ys : List Placed) → map (λ (q : Placed). q.entry) (xs ++ ys) ≡ map (λ (q : Placed). q.entry) xs ++ map (λ (q : Placed). q.entry) ys
map_join [] ys = refl
map_join (x ∷ xs) ys = ap (λ z. x.entry ∷ z) (map_join xs ys)

pub moving_did : (ps : List Placed) → each_of moving_at ps ≡ flat_map did (moving ps)
moving_did [] = refl
moving_did (p ∷ ps) =
    ap (λ z. z ++ each_of moving_at ps) (one_move p).0 ∙ ap (λ z. flat_map did (cond (is_moving p.entry) (p.entry ∷ []) []) ++ z) (moving_did ps)
    ∙ sym (flat_join (cond (is_moving p.entry) (p.entry ∷ []) []) (moving ps))

pub moving_entries : (ps : List Placed) → moving ps ≡ map (λ (q : Placed). q.entry) (moves_in ps)
moving_entries [] = refl
moving_entries (p ∷ ps) =
    ap (λ z. z ++ moving ps) (one_move p).1 ∙ ap (λ z. map (λ (q : Placed). q.entry) (map (λ _. p) (moving_at p.entry)) ++ z) (moving_entries ps)
    ∙ sym (map_join (map (λ _. p) (moving_at p.entry)) (moves_in ps))

pub moving_tell : (ps : List Placed) → Each TellsOne (moving ps)
moving_tell [] = tt
moving_tell (p ∷ ps) = at p.entry (moving_tell ps) where
  at : (entry : Entry) → Each TellsOne (moving ps) → Each TellsOne (cond (is_moving entry) (entry ∷ []) [] ++ moving ps)
  at (says.Take row version) rest = ((Took row, refl), rest)
  at (says.Give row version from) rest = ((Gave row from, refl), rest)
  at (says.Free row version) rest = ((Freed row, refl), rest)
  at (says.Tag row version) rest = ((Tagged row, refl), rest)
  at _ rest = rest
