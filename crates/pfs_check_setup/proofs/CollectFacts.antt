-- What is printed of each action, collected entry by entry.
use Rattle.std.proofs.Common.{◌≡◌, refl, ℕ, ◌+◌, ◌==◌, Bool, true, false, cond, List, [], ◌∷◌, ◌++◌, length, map, sym, ◌∙◌, ap, subst, arith}
use Rattle.std.proofs.lemmas.Bool.Decides.{nat_tests}
use Rattle.std.proofs.lemmas.List.{append-nil, length-append, map-append}
use Rattle.pfs_event.specs.declared.entry.Entry.{Entry}
use Rattle.pfs_event.specs.declared.entry.Entry.TheVariants as says
use Rattle.pfs_model.specs.ActionAsks.{of_action}
use Rattle.pfs_model.specs.Actions.{setting_at, settings_of}
use Rattle.pfs_model.specs.Chains.{each_of}
use Rattle.pfs_model.specs.EntryPlaces.{Placed}
use Rattle.pfs_check_faults.specs.ActionFaults.{moving_at}
use Rattle.pfs_check_faults.specs.ReportCases.{Findings, entries_of}
use Rattle.pfs_check_seen.specs.SeenRules.{in_order}
use Rattle.pfs_check_seen.proofs.SeenFacts.{all_in_order}
use Rattle.pfs_check_visits.specs.Visits.{AreVisited}
use Rattle.pfs_check_visits.specs.declared.visited.Visited.{Visited}
use Rattle.pfs_check_visits.proofs.EntryCounts.{all_known}
use Rattle.pfs_check_setup.specs.PrintedActions.{ArePrinted, IsPrintedMore, count_in, is_moving, sets_in, setting_by, word_sets}
use Rattle.pfs_check_setup.specs.declared.printed.PrintedActions.{PrintedActions}

-- entries behind others
settings_join : (ps qs : List Placed) → settings_of (ps ++ qs) ≡ settings_of ps ++ settings_of qs
settings_join [] qs = refl
settings_join (p ∷ ps) qs = at p.entry (settings_join ps qs) where
  at : (entry : Entry) → settings_of (ps ++ qs) ≡ settings_of ps ++ settings_of qs
      → setting_at p.context.action entry ++ settings_of (ps ++ qs) ≡ (setting_at p.context.action entry ++ settings_of ps) ++ settings_of qs
  at (says.Set word version flags) e = ap (λ z. record { action = p.context.action; word = word; version = version; flags = flags } ∷ z) e
  at _ e = e

moving_join : (ps qs : List Placed) → length (each_of moving_at (ps ++ qs)) ≡ length (each_of moving_at ps) + length (each_of moving_at qs)
moving_join [] qs = omega arith
moving_join (p ∷ ps) qs =
    let rest : length (each_of moving_at (ps ++ qs)) ≡ length (each_of moving_at ps) + length (each_of moving_at qs) = moving_join ps qs in
    omega (arith, rest, length-append (moving_at p.entry) (each_of moving_at (ps ++ qs)), length-append (moving_at p.entry) (each_of moving_at ps))

action_join : (number : ℕ) (ps : List Placed) (p : Placed)
    → of_action number (ps ++ p ∷ []) ≡ of_action number ps ++ cond (p.context.action == number) (p ∷ []) []
action_join number [] p = at (p.context.action == number) where
  at : (b : Bool) → cond b (p ∷ []) [] ++ [] ≡ cond b (p ∷ []) []
  at true = refl
  at false = refl
action_join number (q ∷ ps) p = at (q.context.action == number) (action_join number ps p) where
  at : (b : Bool) → of_action number (ps ++ p ∷ []) ≡ of_action number ps ++ cond (p.context.action == number) (p ∷ []) []
      → cond b (q ∷ []) [] ++ of_action number (ps ++ p ∷ []) ≡ (cond b (q ∷ []) [] ++ of_action number ps) ++ cond (p.context.action == number) (p ∷ []) []
  at true e = ap (λ z. q ∷ z) e
  at false e = e

-- what one entry gives
entry_sets : (number : ℕ) (p : Placed) → p.context.action ≡ number → map (setting_by number) (word_sets p.entry) ≡ setting_at p.context.action p.entry
entry_sets number p e = at p.entry where
  at : (entry : Entry) → map (setting_by number) (word_sets entry) ≡ setting_at p.context.action entry
  at (says.Set word version flags) = ap (λ z. record { action = z; word = word; version = version; flags = flags } ∷ []) (sym e)
  at _ = refl

entry_moves : (entry : Entry) → length (moving_at entry) ≡ cond (is_moving entry) 1 0
entry_moves (says.Take row version) = refl
entry_moves (says.Give row version from) = refl
entry_moves (says.Free row version) = refl
entry_moves (says.Tag row version) = refl
entry_moves _ = refl

same_is : (a b : ℕ) → (a == b) ≡ true → a ≡ b
same_is a b e = grind (arith, nat_tests)

one_settings : (number : ℕ) (p : Placed) → settings_of (p ∷ []) ≡ setting_at p.context.action p.entry
one_settings number p = append-nil (setting_at p.context.action p.entry)

-- one entry more
pub none_printed : (printed : PrintedActions) → ((number : ℕ) → sets_in printed.sets number ≡ []) → ((number : ℕ) → count_in printed.changes number ≡ 0)
    → ArePrinted [] printed
none_printed printed sets changes = record {
  sets = λ number. ap (map (setting_by number)) (sets number);
  changes = changes;
}

pub one_printed : (places : List Placed) (p : Placed) (old new : PrintedActions) → IsPrintedMore old new p.context.action p.entry
    → ArePrinted places old → ArePrinted (places ++ p ∷ []) new
one_printed places p old new more are = record { sets = sets; changes = changes } where
  sets : (number : ℕ) → map (setting_by number) (sets_in new.sets number) ≡ settings_of (of_action number (places ++ p ∷ []))
  sets number =
      ap (map (setting_by number)) (more.sets number)
      ∙ map-append (setting_by number) (sets_in old.sets number) (cond (p.context.action == number) (word_sets p.entry) [])
      ∙ ap (λ z. z ++ map (setting_by number) (cond (p.context.action == number) (word_sets p.entry) [])) (are.sets number)
      ∙ ap (λ z. settings_of (of_action number places) ++ z) (at (p.context.action == number) refl)
      ∙ sym (settings_join (of_action number places) (cond (p.context.action == number) (p ∷ []) []))
      ∙ ap settings_of (sym (action_join number places p)) where
        at : (b : Bool) → (p.context.action == number) ≡ b → map (setting_by number) (cond b (word_sets p.entry) []) ≡ settings_of (cond b (p ∷ []) [])
        at true e = entry_sets number p (same_is p.context.action number e) ∙ sym (one_settings number p)
        at false e = refl

  changes : (number : ℕ) → count_in new.changes number ≡ length (each_of moving_at (of_action number (places ++ p ∷ [])))
  changes number =
      more.changes number ∙ ap (λ z. z + cond ((p.context.action == number)) (cond (is_moving p.entry) 1 0) 0) (are.changes number)
      ∙ ap (λ z. length (each_of moving_at (of_action number places)) + z) (at (p.context.action == number))
      ∙ sym (moving_join (of_action number places) (cond (p.context.action == number) (p ∷ []) []))
      ∙ ap (λ z. length (each_of moving_at z)) (sym (action_join number places p)) where
        at : (b : Bool) → cond b (cond (is_moving p.entry) 1 0) 0 ≡ length (each_of moving_at (cond b (p ∷ []) []))
        at true = sym (entry_moves p.entry) ∙ ap length (sym (append-nil (moving_at p.entry)))
        at false = refl

-- all entries
pub all_printed : (found : Findings) (all : List Placed) (printed : PrintedActions) (told : Type 0) (visited : Visited) → entries_of found ≡ all
    → AreVisited (λ earlier place. Unit {0}) [] all (λ earlier. ArePrinted (in_order earlier) printed) told visited
    → ArePrinted (entries_of found) printed
all_printed found all printed told visited e v =
    subst (λ z. ArePrinted z printed) (all_in_order all ∙ sym e) (all_known all (λ earlier. ArePrinted (in_order earlier) printed) told visited v)
