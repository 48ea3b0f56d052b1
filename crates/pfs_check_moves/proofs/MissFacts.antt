-- What an action's first miss is, by the rule's definition.
use Rattle.std.proofs.Common.{◌≡◌, refl, ℕ, zero, suc, ◌+◌, ◌-◌, ◌<◌, ◌≤◌, ◌==◌, not, Bool, true, false, cond, List, [], ◌∷◌, ◌++◌, length, map, take, sym, ◌∙◌, ap, subst, inl, inr, None}
use Rattle.std.specs.List.{flat_map}
use Rattle.pfs_event.specs.declared.entry.Entry.{Entry}
use Rattle.pfs_event.specs.declared.entry.Entry.TheVariants as says
use Rattle.pfs_stat.specs.Stat.{stat_of_words}
use Rattle.pfs_model.specs.ActionAsks.{Asked, did, moved_by, of_action, signed_by}
use Rattle.pfs_model.specs.Actions.{IsAmong}
use Rattle.pfs_model.specs.Chains.{Each, each_of}
use Rattle.pfs_model.specs.Contents.{Given}
use Rattle.pfs_model.specs.EntryPlaces.{Placed, chosen}
use Rattle.pfs_check_blank.specs.AllAsked.{TellsOne}
use Rattle.pfs_check_contents.specs.declared.shelf.Shelf.{Shelf}
use Rattle.pfs_check_contents.specs.KeptContents.{IsHad, content_at}
use Rattle.pfs_check_faults.specs.ActionFaults.{FindsWhatIsMade, MovesUpTo, moves_in, moving_at}
use Rattle.pfs_law_made.specs.MadeContents.{IsKeptAsMade}
use Rattle.pfs_check_moves.specs.DueMoves.{IsFirstMiss, Misses}
use Rattle.pfs_check_moves.specs.FoundTakes.{FindsAs, counted_by}
use Rattle.pfs_check_moves.specs.MovesRules.{AreMoved, FailsAt, own_moves}
use Rattle.pfs_check_moves.proofs.FoundFacts.{all_before, due_alike, due_finds, each_taken, length_did, none_finds}
use Rattle.pfs_check_moves.proofs.PrintedFacts.{moving_did, moving_entries, moving_tell}

entry_of : Placed → Entry
entry_of place = place.entry

-- entries that are some of all
abbrev Within : List Placed → List Placed → Type 0
Within all xs = Each (λ (p : Placed). IsAmong p all) xs

within_more : (all xs : List Placed) (p : Placed) → Within all xs → Within (p ∷ all) xs
within_more all [] p w = tt
within_more all (x ∷ xs) p w = (inr w.0, within_more all xs p w.1)

chosen_within : (test : Placed → Bool) (xs : List Placed) → Within xs (chosen test xs)
chosen_within test [] = tt
chosen_within test (x ∷ xs) = at (test x) (within_more xs (chosen test xs) x (chosen_within test xs)) where
  at : (b : Bool) → Within (x ∷ xs) (chosen test xs) → Within (x ∷ xs) (cond b (x ∷ []) [] ++ chosen test xs)
  at true rest = (inl refl, rest)
  at false rest = rest

moves_within : (all xs : List Placed) → Within all xs → Within all (moves_in xs)
moves_within all [] w = tt
moves_within all (x ∷ xs) w = at (moving_at x.entry) (moves_within all xs w.1) where
  at : {A : Type 0} (ds : List A) → Within all (moves_in xs) → Within all (map (λ _. x) ds ++ moves_in xs)
  at [] rest = rest
  at (d ∷ ds) rest = (w.0, at ds rest)

taken_within : (all : List Placed) (n : ℕ) (xs : List Placed) → Within all xs → Within all (take n xs)
taken_within all zero xs w = tt
taken_within all (suc n) [] w = tt
taken_within all (suc n) (x ∷ xs) w = (w.0, taken_within all n xs w.1)

map_take : (n : ℕ) (xs : List Placed) → take n (map entry_of xs) ≡ map entry_of (take n xs)
map_take zero xs = refl
map_take (suc n) [] = refl
map_take (suc n) (x ∷ xs) = ap (λ z. entry_of x ∷ z) (map_take n xs)

module _ (given : Given) (shelf : Shelf) (all : List Placed) (kept : IsKeptAsMade given all shelf)
    (before : (place : Placed) (row version : ℕ) → IsAmong place all → place.entry ≡ says.Take row version → IsHad all row (version - 1)) where
  -- what a take is said to find is what is kept
  finds_one : (counted : ℕ → Bool) (p : Placed) (entry : Entry) → p.entry ≡ entry → IsAmong p all → FindsWhatIsMade given all counted entry → FindsAs shelf counted entry
  finds_one counted p (says.Take row version) e i f =
      f (content_at shelf row (version - 1)) (kept.made row (version - 1) (before p row version i e))
  finds_one counted p _ e i f = tt

  finds_back : (counted : ℕ → Bool) (entry : Entry) → FindsAs shelf counted entry → FindsWhatIsMade given all counted entry
  finds_back counted (says.Take row version) f = λ words m. f ∙ ap (λ z. not ((stat_of_words z).count == 0)) (kept.only row (version - 1) words m)
  finds_back counted _ f = tt

  finds_all : (counted : ℕ → Bool) (xs : List Placed) → Within all xs → Each (λ (p : Placed). FindsWhatIsMade given all counted p.entry) xs
      → Each (FindsAs shelf counted) (map entry_of xs)
  unfolding entry_of
  finds_all counted [] w f = tt
  finds_all counted (x ∷ xs) w f = (finds_one counted x x.entry refl w.0 f.0, finds_all counted xs w.1 f.1)

  back_all : (counted : ℕ → Bool) (xs : List Placed) → Each (FindsAs shelf counted) (map entry_of xs)
      → Each (λ (p : Placed). FindsWhatIsMade given all counted p.entry) xs
  unfolding entry_of
  back_all counted [] f = tt
  back_all counted (x ∷ xs) f = (finds_back counted x.entry f.0, back_all counted xs f.1)

  module _ (asked : ℕ → Asked) (number : ℕ) where
    taken_own : (n : ℕ) → take n (own_moves all number) ≡ map entry_of (take n (moves_in (of_action number all)))
    unfolding entry_of
    taken_own n = ap (take n) (moving_entries (of_action number all)) ∙ map_take n (moves_in (of_action number all))

    own_within : (n : ℕ) → Within all (take n (moves_in (of_action number all)))
    own_within n = taken_within all n (moves_in (of_action number all))
        (moves_within all (of_action number all) (chosen_within (λ place. place.context.action == number) all))

    pub fails_at : (due : List Entry) (at : ℕ) → Each TellsOne due
        → flat_map did due ≡ moved_by (counted_by shelf (own_moves all number)) (asked number).moves ++ signed_by (asked number).signs
        → Misses shelf (counted_by shelf (own_moves all number)) due (own_moves all number) at → FailsAt given asked all number at
    fails_at due at tell dues miss = record { within = within; wrong = wrong; before = up_to } where
      within : at ≤ length (each_of moving_at (of_action number all))
      within = subst (λ n. at ≤ n)
          (sym (ap length (moving_did (of_action number all)) ∙ length_did (own_moves all number) (moving_tell (of_action number all)))) miss.within

      wrong : MovesUpTo given asked all number at → ⊥
      wrong u =
          none_finds shelf (asked number).moves (signed_by (asked number).signs) due (own_moves all number) tell (moving_tell (of_action number all)) dues at miss u.counted
          (subst (Each (FindsAs shelf u.counted)) (sym (taken_own (at + 1)))
          (finds_all u.counted (take (at + 1) (moves_in (of_action number all))) (own_within (at + 1)) u.found))
          (u.alike ∙ ap (take (at + 1)) (moving_did (of_action number all)))

      up_to : (other : ℕ) → other < at → MovesUpTo given asked all number other
      up_to other less = of (all_before shelf (asked number).moves (signed_by (asked number).signs) due (own_moves all number) tell (moving_tell (of_action number all)) dues
          at other miss less) where
            of : Each (FindsAs shelf (counted_by shelf (own_moves all number))) (take (other + 1) (own_moves all number))
                × (take (other + 1) (moved_by (counted_by shelf (own_moves all number)) (asked number).moves ++ signed_by (asked number).signs)
                ≡ take (other + 1) (flat_map did (own_moves all number))) → MovesUpTo given asked all number other
            of h = record {
              counted = counted_by shelf (own_moves all number);
              found = back_all (counted_by shelf (own_moves all number)) (take (other + 1) (moves_in (of_action number all)))
                  (subst (Each (FindsAs shelf (counted_by shelf (own_moves all number)))) (taken_own (other + 1)) h.0);
              alike = h.1 ∙ sym (ap (take (other + 1)) (moving_did (of_action number all)));
            }

    -- where all are as they are due, none fails
    pub moved_up_to : AreMoved shelf asked all number → (at : ℕ) → MovesUpTo given asked all number at
    moved_up_to moved at = record {
      counted = counted_by shelf (own_moves all number);
      found = back_all (counted_by shelf (own_moves all number)) (take (at + 1) (moves_in (of_action number all)))
          (subst (Each (FindsAs shelf (counted_by shelf (own_moves all number)))) (taken_own (at + 1))
          (each_taken (FindsAs shelf (counted_by shelf (own_moves all number))) (at + 1) (own_moves all number) moved.found));
      alike = ap (take (at + 1)) moved.alike;
    }

-- and where it has none
pub are_moved : (shelf : Shelf) (asked : ℕ → Asked) (all : List Placed) (number : ℕ) (due : List Entry)
    → flat_map did due ≡ moved_by (counted_by shelf (own_moves all number)) (asked number).moves ++ signed_by (asked number).signs
    → IsFirstMiss shelf (counted_by shelf (own_moves all number)) due (own_moves all number) None → AreMoved shelf asked all number
are_moved shelf asked all number due dues zip = record {
  alike = sym dues ∙ due_alike shelf (counted_by shelf (own_moves all number)) due (own_moves all number) zip ∙ sym (moving_did (of_action number all));
  found = due_finds shelf (counted_by shelf (own_moves all number)) due (own_moves all number) zip;
}
