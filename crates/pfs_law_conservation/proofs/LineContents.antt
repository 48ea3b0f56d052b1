-- What each line of a kind makes of its row, by the contents that stand in the rows.
use Rattle.std.proofs.Common.{◌≡◌, refl, ℕ, suc, ◌+◌, ◌-◌, ◌≤◌, ◌==◌, Bool, true, not, List, [], ◌∷◌, ◌++◌, map, fold, Some, sym, ap, ◌∙◌, arith}
use Rattle.pfs_conservation.specs.RowChains.{with_event}
use Rattle.pfs_conservation.specs.ConservedSums.{stats}
use Rattle.pfs_conservation.specs.PrintedChanges.{Kind, Adds, Takes, Gives, Tagged}
use Rattle.pfs_event.specs.declared.entry.Entry.{Entry}
use Rattle.pfs_event.specs.declared.entry.Entry.TheVariants as says
use Rattle.pfs_model.specs.Actions.{is_acted}
use Rattle.pfs_model.specs.ActionAsks.{did}
use Rattle.pfs_model.specs.Chains.{Each}
use Rattle.pfs_model.specs.Contents.{Given, amount_of, content_after, merged, measure_of, IsNext, IsContent, IsFoundAsCounted}
use Rattle.pfs_model.specs.Contexts.{brought}
use Rattle.pfs_model.specs.EntryPlaces.{Placed}
use Rattle.pfs_model.specs.SetupFlags.{is_timed}
use Rattle.pfs_model.specs.declared.lines.Opened.{Opened}
use Rattle.pfs_stat.specs.Stat.{WordsAgree, zero_of, stat_of, merge_of, stat_of_words}
use Rattle.pfs_stat.specs.declared.Measure.{Measure}
use Rattle.pfs_stat.specs.declared.Stat.{Stat}
use Rattle.pfs_law_conservation.specs.RunEvents.{event_number, Ended, all_ended, of_number, measure_if, measures_in}
use Rattle.pfs_law_conservation.specs.KindLines.{lines_at, all_lines}
use Rattle.pfs_law_conservation.proofs.MoveLevels.{row_level}
use Rattle.pfs_law_conservation.proofs.GiftLevels.{IsWay}
use Rattle.pfs_law_conservation.proofs.EventNumbers.{times_ended}
use Rattle.pfs_law_conservation.proofs.EntrySources.{IsTaken, HasSource, IsEnded, ended_found}

module _ (words : WordsAgree) (given : Given) (content : ℕ → ℕ → List ℕ) (counted : ℕ → ℕ → Bool) (test : ℕ → Bool) (all : List Placed) where
  abbrev pub stands : ℕ → ℕ → Stat
  stands row version = stat_of_words (content row version)

  abbrev measures : ℕ → Measure
  measures = measures_in given all

  -- what is known of each entry
  pub record IsKnown (p : Placed) : Type 0 where
    pub made : IsContent given content p p.entry
    pub source : HasSource all p.context
    pub brings : (row : ℕ) → Each (IsEnded p.session (all_ended all)) (brought p.context row)
    pub found : IsFoundAsCounted content counted p.context.action p.entry
    pub ways : is_acted p.entry ≡ true → Each (IsWay test) (did p.entry)

  -- and so of each line
  abbrev pub IsBody : ℕ → ℕ → ℕ → ℕ → Kind → Type 0
  IsBody action row version before (Adds events) = stands row version ≡ fold (with_event (stats (measures_in given all))) (stands row before) events
  IsBody action row version before Takes = (stands row version ≡ zero_of) × (counted action row ≡ not ((stands row before).count == 0))
  IsBody action row version before (Gives from) =
      (suc (row_level from) ≤ row_level row) × (test row ≡ test from)
      × ((at : ℕ) × IsTaken all action from at × (stands row version ≡ merge_of (stands row before) (stands from (at - 1))))

  abbrev pub IsBased : Tagged → Type 0
  IsBased line = (before : ℕ) × (line.version ≡ before + 1) × IsBody line.action line.row line.version before line.kind

  module _ (few : (session index : ℕ) → times_ended (event_number session index) (all_ended all) ≤ 1) where
    -- what an event adds is found by its number
    measured : (session : ℕ) (event : Opened) → IsEnded session (all_ended all) event → amount_of given session event ≡ stat_of (measures_in given all (event_number session event.index))
    measured session event e = on (ended_found session event (all_ended all) (few session event.index) e) where
      on : (one : Ended) × (of_number (event_number session event.index) (all_ended all) ≡ Some one) × (one.session ≡ session) × (one.event ≡ event)
          → amount_of given session event ≡ stat_of (measures_in given all (event_number session event.index))
      on (one, f, s, v) = ap stat_of (sym (ap (measure_if given) f ∙ (ap (λ x. measure_of (is_timed given.flags (given.slots x) one.event) (given.facts x one.event.index)) s ∙ ap (λ (x : Opened). measure_of (is_timed given.flags (given.slots session) x) (given.facts session x.index)) v)))

    added : (session : ℕ) (here : Stat) (events : List Opened) → Each (IsEnded session (all_ended all)) events
        → fold merge_of here (map (amount_of given session) events) ≡ fold (with_event (stats (measures_in given all))) here (map (λ (event : Opened). event_number session event.index) events)
    added session here [] h = refl
    added session here (event ∷ events) h =
        ap (λ x. fold merge_of (merge_of here x) (map (amount_of given session) events)) (measured session event h.0)
        ∙ added session (merge_of here (stat_of (measures_in given all (event_number session event.index)))) events h.1

    minus : (v b : ℕ) → v ≡ b + 1 → v - 1 ≡ b
    minus v b e = omega (arith, e)

    known_based : (p : Placed) → IsKnown p → Each IsBased (lines_at p p.entry)
    known_based p k = by p.entry refl k.made k.found k.ways where
      by : (e : Entry) → p.entry ≡ e → IsContent given content p e → IsFoundAsCounted content counted p.context.action e → (is_acted e ≡ true → Each (IsWay test) (did e)) → Each IsBased (lines_at p e)
      by (says.Add row version) q (before, v, c) f w = (
        (
          before,
          v,
          ap stat_of_words (c ∙ ap (content_after given content p p.context (content row before)) q)
              ∙ (words (merged (stat_of_words (content row before)) (map (amount_of given p.session) (brought p.context row)))
              ∙ added p.session (stands row before) (brought p.context row) (k.brings row)),
        ),
        tt,
      )
      by (says.Take row version) q (before, v, c) f w = (
        (
          before,
          v,
          (
            ap stat_of_words (c ∙ ap (content_after given content p p.context (content row before)) q) ∙ words zero_of,
            f ∙ ap (λ b. not ((stands row b).count == 0)) (minus version before v),
          ),
        ),
        tt,
      )
      by (says.Give row version from) q (s, n) f w = (on n, tt) where
        on : IsNext content (λ here. content_after given content p p.context here p.entry) row version
            → (before : ℕ) × (version ≡ before + 1) × IsBody p.context.action row version before (Gives from)
        on (before, v, c) = (
          before,
          v,
          (
            (w refl).0.0,
            (w refl).0.1,
            (
              p.context.source_version,
              k.source from s,
              ap stat_of_words (c ∙ ap (content_after given content p p.context (content row before)) q) ∙ words (merge_of (stands row before) (stands from (p.context.source_version - 1))),
            ),
          ),
        )
      by _ q c f w = tt

    each_join : (xs ys : List Tagged) → Each IsBased xs → Each IsBased ys → Each IsBased (xs ++ ys)
    each_join [] ys a b = b
    each_join (x ∷ xs) ys a b = (a.0, each_join xs ys a.1 b)

    pub lines_based : (ps : List Placed) → Each IsKnown ps → Each IsBased (all_lines ps)
    lines_based [] k = tt
    lines_based (p ∷ ps) k = each_join (lines_at p p.entry) (all_lines ps) (known_based p k.0) (lines_based ps k.1)
