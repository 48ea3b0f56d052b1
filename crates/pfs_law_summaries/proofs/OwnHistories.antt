-- Where the places of a history are its session's, they show just the history: of each run.
use Rattle.std.proofs.Common.{◌≡◌, refl, ℕ, ◌≤◌, true, List, [], ◌∷◌, ◌++◌, None, sym, ap, subst, ◌∙◌, inl}
use Rattle.pfs_model.specs.Chains.{IsChained, each_of, row_change}
use Rattle.pfs_model.specs.Contexts.{fresh}
use Rattle.pfs_model.specs.Floors.{AreFloored, AreFlooredBehind}
use Rattle.pfs_model.specs.EntryPlaces.{Block, IsShaped, Placed, places, up_to_phase}
use Rattle.pfs_model.specs.Puts.{AreBrought, AreBroughtBehind}
use Rattle.pfs_model.specs.Rings.{is_history_row}
use Rattle.pfs_model.specs.SetupFlags.{AreJudged}
use Rattle.pfs_runs.specs.Rules.{flags_by}
use Rattle.pfs_law_conservation.proofs.PhaseEntries.{IsFront, blocks_to, front_shaped, fronts}
use Rattle.pfs_law_conservation.proofs.EntryWalk.{Follow, all_followed}
use Rattle.pfs_law_conservation.proofs.EventOffers.{brought_front}
use Rattle.pfs_law_conservation.specs.RunEvents.{given_by}
use Rattle.pfs_law_conservation.specs.Premises.{AreFirstBehind, AreKept, IsOrderly}
use Rattle.pfs_law_conservation.specs.RunTerms.{Run, entries_to, terms_by}
use Rattle.pfs_law_summaries.proofs.EventDepths.{all_fit, deep_walk}
use Rattle.pfs_law_summaries.proofs.OwnSources.{all_following}
use Rattle.pfs_law_summaries.proofs.ReleaseVersions.{releases_had}
use Rattle.pfs_law_summaries.proofs.HistoryPlaces.{shows_history}
use Rattle.pfs_law_summaries.proofs.LastPuts.{goes_round}
use Rattle.pfs_law_summaries.proofs.HistoryOwners.{IsOwned, puts_by}
use Rattle.pfs_law_summaries.proofs.RecentPuts.{GoRound, first_row}
use Rattle.pfs_law_summaries.proofs.PutVersions.{DoRise, puts_rise}
use Rattle.pfs_law_summaries.proofs.Rounds.{AllFit, AreFollowing, round_puts}
use Rattle.pfs_law_summaries.proofs.EventSlots.{seats_walk}
use Rattle.pfs_law_summaries.specs.ThreadHistories.{ShowsHistory, slots_at}

-- what holds of entries holds of those in front
pub judged_front : (stack : ℕ) (seen : ℕ → ℕ → ℕ) (xs rest : List Placed) → AreJudged stack seen (xs ++ rest) → AreJudged stack seen xs
judged_front stack seen [] rest j = tt
judged_front stack seen (x ∷ xs) rest j = (j.0, judged_front stack seen xs rest j.1)

pub first_front : (earlier xs rest : List Placed) → AreFirstBehind earlier (xs ++ rest) → AreFirstBehind earlier xs
first_front earlier [] rest a = tt
first_front earlier (x ∷ xs) rest a = (a.0, first_front (x ∷ earlier) xs rest a.1)

pub floored_front : (all earlier xs rest : List Placed) → AreFlooredBehind all earlier (xs ++ rest) → AreFlooredBehind all earlier xs
floored_front all earlier [] rest f = tt
floored_front all earlier (x ∷ xs) rest f = (f.0, f.1, floored_front all (x ∷ earlier) xs rest f.2)

-- of blocks that keep the rules; the verdicts go by flags of their own
module _ (flags seen : ℕ → ℕ → ℕ) (stack : ℕ) (few : stack ≤ 10) (blocks : List Block) (phase session slot : ℕ) (shaped : IsShaped blocks) (chain : IsChained (each_of row_change (up_to_phase phase (places blocks))))
    (floors : AreFloored (places blocks)) (brings : AreBrought flags (places blocks)) (judges : AreJudged stack seen (places blocks)) (firsts : AreFirstBehind [] (places blocks))
    (connected : given_by slots_at session (up_to_phase phase (places blocks)) ≡ slot ∷ []) (kind : ℕ) where
  abbrev entries : List Placed
  entries = up_to_phase phase (places blocks)

  front : IsFront phase [] blocks
  front = fronts phase blocks shaped

  split : places blocks ≡ entries ++ front.rest
  split = front.all ∙ ap (λ z. z ++ front.rest) (sym front.same)

  brought : AreBroughtBehind flags [] entries
  brought =
      subst (AreBroughtBehind flags []) (sym front.same)
      (brought_front flags [] (places (blocks_to phase blocks)) front.rest front.headed (subst (AreBroughtBehind flags []) front.all brings))

  following : AreFollowing None entries
  following = subst (AreFollowing None) (sym front.same) (all_following (blocks_to phase blocks) (front_shaped phase blocks shaped))

  follow : Follow session fresh entries
  follow = subst (Follow session fresh) (sym front.same) (all_followed session (blocks_to phase blocks)).follow

  fit : AllFit flags session slot kind entries
  fit =
      all_fit flags session slot kind entries
      (deep_walk stack few seen session fresh entries tt follow (judged_front stack seen entries front.rest (subst (AreJudged stack seen) split judges)))
      (seats_walk session slot fresh [] entries follow (first_front [] entries front.rest (subst (AreFirstBehind []) split firsts)) (inl (refl, connected)))

  round : GoRound (first_row slot kind) 0 (puts_by entries session slot kind)
  round = round_puts flags session slot kind entries brought following fit

  rise : DoRise (puts_by entries session slot kind)
  rise = puts_rise slot kind session (places blocks) [] entries (floored_front (places blocks) [] entries front.rest (subst (AreFlooredBehind (places blocks) []) split floors))

  shown : IsOwned entries session slot kind → (row : ℕ) → is_history_row slot kind row ≡ true → (version : ℕ) → ShowsHistory entries session slot kind row version
  shown owned =
      shows_history entries session slot kind (goes_round entries session slot kind chain rise owned round (λ row. releases_had phase row (places blocks) [] (places blocks) floors))

-- of a run
pub owned_shown : (run : Run) (phase session slot : ℕ) → AreKept run → IsOrderly run → given_by slots_at session (entries_to run phase) ≡ slot ∷ [] → (kind : ℕ) → IsOwned (entries_to run phase) session slot kind
    → (row : ℕ) → is_history_row slot kind row ≡ true → (version : ℕ) → ShowsHistory (entries_to run phase) session slot kind row version
owned_shown run phase session slot kept orderly connected kind owned row own version =
    shown run.flags (flags_by (terms_by run) (places run.blocks)) (terms_by run).stack run.setting.in_range.statement_stack run.blocks phase session slot kept.rules.shaped (kept.rules.joint.rows phase)
    kept.rules.joint.floored kept.brought kept.rules.judged orderly.first connected kind owned row own version
