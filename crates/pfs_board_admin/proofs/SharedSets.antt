-- The writer's sets are the actors', and each of these knows what ended actions set.
use Rattle.std.proofs.Common.{ℕ, zero, suc, ◌≡◌, ◌+◌, ◌==◌, ◌<◌, ◌≤◌, Bool, true, false, cond, List, [], ◌∷◌, ◌++◌, Option, Some, None, length, slice_set, refl, ap, sym, ◌∙◌, subst, arith}
use Rattle.std.proofs.lemmas.List.{take_all, length-append}
use Rattle.atomic_table.specs.Seated.{TableId}
use Rattle.pfs_admin.specs.declared.changes.Change.{Change as Action}
use Rattle.pfs_admin.specs.declared.changes.Change.TheVariants.{Connect, Quit, Truncate, Setup}
use Rattle.pfs_admin.specs.Fold.{stepped, state_of}
use Rattle.pfs_admin.specs.OpeningState.{opening_flags}
use Rattle.pfs_admin.specs.AdministrationStates.{State, words_by, thread_flags, seat_at, seat_in}
use Rattle.pfs_admin.specs.WordChanges.{changed_up_to, words_changed}
use Rattle.pfs_admin.specs.SetupStatements.{first_of, flags_after, most_of}
use Rattle.pfs_admin.specs.Truncations.{off, words_behind}
use Rattle.pfs_admin.specs.Works.{word_at, set_word}
use Rattle.pfs_admin.proofs.QuitCosts.{early_at}
use Rattle.pfs_admin.proofs.FoldSteps.{step_law, count_law}
use Rattle.pfs_admin.proofs.OpeningState.{flags_count}
use Rattle.pfs_board.specs.declared.view.Change.{Change}
use Rattle.pfs_board.specs.declared.view.Label.{Label}
use Rattle.pfs_board.specs.History.{Each, IsChain, version, labels_of}
use Rattle.pfs_board.proofs.HistoryFacts.{length_labels}
use Rattle.pfs_board.proofs.VersionFacts.{each_made}
use Rattle.pfs_classes.specs.declared.setting.Setting.{Setting}
use Rattle.pfs_containers.specs.declared.containers.Seated.{Seated}
use Rattle.pfs_levels.specs.declared.answers.Word.{Word}
use Rattle.pfs_levels.specs.Calls.{known_version}
use Rattle.pfs_levels.specs.JointCalls.{Setting as WordSet, flags_at, word_version}
use Rattle.pfs_levels.specs.CallOrder.{Mark, all_word_marks, marked, AllCalls}
use Rattle.pfs_matching.specs.ObjectRules.{opening_objects}
use Rattle.pfs_board_store.specs.RootActors.{Worked, calls_of_all, AreParts, AreChanged, marks_in}
use Rattle.pfs_board_store.specs.RootLaws.{settings_in}
use Rattle.pfs_board_store.specs.Ties.{AreLoaded, AreMet}
use Rattle.pfs_board_store.proofs.CallContents.{AllFlagged}
use Rattle.pfs_board_store.proofs.WordFlags.{IsSo, HasMet, flagged, same_versions, words_chain}
use Rattle.pfs_board_store.proofs.ChangeOrder.{changed}
use Rattle.pfs_board_store.proofs.WriterWords.{known_word}
use Rattle.pfs_board_store.proofs.JointCalls.{word_front, word_back}
use Rattle.pfs_switches.specs.declared.view.Loaded.{Loaded}
use Rattle.pfs_switches.specs.declared.view.Met.{Met}
use Rattle.pfs_switches.specs.declared.view.Setting.{Setting as Written}
use Rattle.pfs_switches.specs.declared.view.View.{View as WordView}
use Rattle.pfs_switches.specs.History as switches
use Rattle.pfs_switches.specs.SharedKnowledge.{IsTold}
use Rattle.pfs_switches.specs.SeatViews.{Known}
use Rattle.pfs_switches.specs.Knowledge.{met}
use Rattle.pfs_switches.specs.OpeningWords.{opening_words}
use Rattle.pfs_rows.specs.declared.truncations.Truncation.{Truncation}
use Rattle.pfs_rows.specs.declared.truncations.Truncation.TheVariants.{Events, Summary, DigestSummary, Accounts, Users, Hosts, SetupActors, SetupObjects}
use Rattle.pfs_board_admin.specs.Desks.{IsDesk}
use Rattle.pfs_board_admin.specs.LabelWords.{version_after}
use Rattle.pfs_board_admin.specs.DeskLaws.{SharedLaw}
use Rattle.pfs_board_admin.proofs.Balance.{IsLow, weight, behind, plus, minus, all_balanced, telescoped}
use Rattle.pfs_board_admin.proofs.WordFloors.{all_small, all_know}
use Rattle.pfs_board_admin.proofs.VersionSums.{spread_same, spread_none, set_at, sets_sum, sets_flags}

-- no action lowers a word's version
rise_set : (at q flags : ℕ) (words : List Word) → (word_at words q).version ≤ (word_at (slice_set words at (set_word (word_at words at) flags)) q).version
rise_set at q flags [] = omega arith
rise_set zero zero flags (w ∷ ws) = omega arith
rise_set zero (suc q) flags (w ∷ ws) = omega arith
rise_set (suc at) zero flags (w ∷ ws) = omega arith
rise_set (suc at) (suc q) flags (w ∷ ws) = rise_set at q flags ws

rise_if : (b : Bool) (at q flags : ℕ) (words : List Word) → (word_at words q).version ≤ (word_at (cond b words (slice_set words at (set_word (word_at words at) flags))) q).version
rise_if true at q flags words = omega arith
rise_if false at q flags words = rise_set at q flags words

rise_by : (flags q : ℕ) (words : List Word) (seat : Option Seated) → (word_at words q).version ≤ (word_at (words_by words flags seat) q).version
rise_by flags q words None = omega arith
rise_by flags q words (Some seat) = rise_if ((word_at words (1 + seat.slot)).flags == flags) (1 + seat.slot) q flags words

rise_to : (change : ℕ → ℕ → ℕ) (q first n : ℕ) (words : List Word) → (word_at words q).version ≤ (word_at (changed_up_to change words first n) q).version
rise_to change q first zero words = omega arith
rise_to change q first (suc n) words =
    let flags : ℕ = change (first + n) (word_at words (first + n)).flags in
    let before : List Word = changed_up_to change words first n in
    let step : (word_at before q).version ≤ (word_at (changed_up_to change words first (suc n)) q).version = rise_if ((word_at before (first + n)).flags == flags) (first + n) q flags before in
    omega (arith, rise_to change q first n words, step)

rise_changed : (change : ℕ → ℕ → ℕ) (q first count : ℕ) (words : List Word) → (word_at words q).version ≤ (word_at (words_changed change words first count) q).version
unfolding words_changed
rise_changed change q first count words = rise_to change q first count words

rise_behind : (q : ℕ) (words : List Word) (what : Truncation) → (word_at words q).version ≤ (word_at (words_behind what words) q).version
rise_behind q words (Summary kind table) = omega arith
rise_behind q words (Events kind table) = omega arith
rise_behind q words Accounts = omega arith
rise_behind q words Users = omega arith
rise_behind q words Hosts = omega arith
rise_behind q words DigestSummary = omega arith
rise_behind q words SetupActors = omega arith
rise_behind q words SetupObjects = rise_changed off q 96 64 words

rise_step : (s : State) (session q : ℕ) (action : Action) → (word_at s.words q).version ≤ (word_at (stepped s session action).words q).version
rise_step s session q (Connect user host) = rise_by (thread_flags s user host) q s.words (seat_at s session user host)
rise_step s session q Quit = rise_by 0 q s.words (seat_in s session)
rise_step s session q (Truncate what) = rise_behind q s.words what
rise_step s session q (Setup what) = rise_changed (flags_after s what) q (first_of what) (most_of what) s.words

module _ (setting : Setting) (change : Label → Action) where
  abbrev versions : List Label → ℕ → ℕ
  versions = version_after setting change

  pub rises : (labels : List Label) (label : Label) (at : ℕ) → versions labels at ≤ versions (labels ++ label ∷ []) at
  rises labels label at =
      let s : State = state_of setting change labels in
      let next = (step_law label.session (change label) s).stands setting change labels label refl refl refl in
      omega (arith, rise_step s label.session at (change label), ap (λ (z : State). (word_at z.words at).version) next)

  none : (at : ℕ) → versions [] at ≡ 0
  none at = let few = early_at 0 at (state_of setting change []).words (count_law setting change [] (state_of setting change []) refl).1 in omega (arith, few)

low_more : (most : ℕ) (start : List ℕ) (log : List Change) → IsChain start log → version log 0 ≤ most → Each (IsLow most) log
low_more most start [] c le = tt
low_more most start (p ∷ ps) c le = (
  λ row puts. omega (arith, le, c.0.numbered, ap (λ r. version ps r) row, ap (λ r. version (p ∷ ps) r) row, now p ps row puts),
  low_more most start ps c.1 (omega (arith, le, older p ps)),
) where
  older : (p : Change) (ps : List Change) → version ps 0 ≤ version (p ∷ ps) 0
  older p ps = at (p.row == 0) p.puts where
    at : (a b : Bool) → version ps 0 ≤ cond {A = ℕ} a (version ps 0 + cond {A = ℕ} b 1 0) (version ps 0)
    at true true = omega arith
    at true false = omega arith
    at false b = omega arith

  now : (p : Change) (ps : List Change) → p.row ≡ 0 → p.puts ≡ true → version (p ∷ ps) 0 ≡ version ps p.row + cond {A = ℕ} p.puts 1 0
  now p ps row puts = at (p.row == 0) (rw row refl) where
    at : (a : Bool) → a ≡ true → cond {A = ℕ} a (version ps 0 + cond {A = ℕ} p.puts 1 0) (version ps 0) ≡ version ps p.row + cond {A = ℕ} p.puts 1 0
    at true e = ap (λ r. version ps r + cond {A = ℕ} p.puts 1 0) (sym row)
    at false e = absurd (cc)

small_in : (sets : List Written) → switches.Each (λ (s : Written). s.word < 160) sets → Each (λ (s : WordSet). s.word < 160) (settings_in sets)
unfolding settings_in
small_in [] e = tt
small_in (s ∷ ss) e = (e.0, small_in ss e.1)

abbrev Loading : Worked → List Loaded → Type 0
Loading a loads = AreLoaded a.start a.calls loads

abbrev Meeting : Worked → List Met → Type 0
Meeting a meets = AreMet a.start.switches a.calls meets

all_flagged : (flags : List ℕ) (sets : List Written) (actors : List Worked) (loads : List Loaded) (meets : List Met) → AreParts Loading actors loads → AreParts Meeting actors meets → switches.Each (IsSo flags sets) loads → switches.Each (HasMet flags sets) meets
    → AllCalls (AllFlagged flags (settings_in sets)) (calls_of_all actors)
all_flagged flags sets [] loads meets l m e f = tt
all_flagged flags sets (a ∷ actors) loads meets l m e f =
    let e' = subst (switches.Each (IsSo flags sets)) l.2 e in
    let f' = subst (switches.Each (HasMet flags sets)) m.2 f in (
      flagged flags sets a.start a.calls l.0 m.0 l.3 m.3 (word_front (IsSo flags sets) l.0 l.1 e') (word_front (HasMet flags sets) m.0 m.1 f'),
      all_flagged flags sets actors l.1 m.1 l.4 m.4 (word_back (IsSo flags sets) l.0 l.1 e') (word_back (HasMet flags sets) m.0 m.1 f'),
    )

wide_words : (flags : List ℕ) → length flags ≡ 160 → 160 < length (opening_words flags)
wide_words flags e = omega (arith, e, length-append flags (0 ∷ []))

-- each word was set as often as its version behind all labels says
pub last_versions : (setting : Setting) (change : Label → Action) (switches : TableId) (admin : State) (pen : Known) (all : List Label) (v : WordView) → IsTold (opening_words (opening_flags setting opening_objects)) v pen.view
    → IsDesk setting change switches all admin pen → (q : ℕ) → q < 160 → word_version (settings_in pen.view.sets) q ≡ version_after setting change all q
last_versions setting change switches admin pen all v told is q less =
    let wide = wide_words (opening_flags setting opening_objects) (flags_count setting opening_objects) in
    sym (same_versions pen.view.sets q) ∙ sym (told.counts q (omega (arith, wide, less))) ∙ sym (known_word q pen.view less) ∙ ap (λ ws. known_version (Some ws) q) is.words_are ∙ ap (λ (s : State). known_version (Some s.words) q) is.stands

pub shared : SharedLaw
shared setting change switches admin pen start words v w t actors g h told is known keeps =
    let flags : List ℕ = opening_flags setting opening_objects in
    let all : List Label = labels_of h.t.log in
    let sets : List WordSet = settings_in pen.view.sets in
    let after : List Label → ℕ → ℕ = version_after setting change in
    let c : AreChanged (calls_of_all actors) h.t.log = changed start words v w t actors g h in
    let low : Each (IsLow (length all)) v.made = each_made (IsLow (length all)) v.made h.t.log h.once (low_more (length all) start h.t.log h.chain (omega (arith, length_labels h.t.log))) in
    let said = all_flagged flags pen.view.sets actors w.loads w.meets g.loaded g.met told.loads told.meets.1 in
    let marks : List Mark = all_word_marks (calls_of_all actors) in
    let few = all_small after (rises setting change) all actors v.made g.tied low g.done keeps c.named in
    let last : (q : ℕ) → q < 160 → word_version sets q ≡ after all q = last_versions setting change switches admin pen all (met w pen.view) told is in (
      λ f.
          let both = all_balanced after all f flags sets actors v.made g.tied low g.done keeps c.named said in
          let on = telescoped after all f flags sets (marks_in h.t.log) c.numbered in
          let end : behind after all f flags sets (marked (marks_in h.t.log) 0) ≡ weight after all f flags sets (after all) =
          ap (behind after all f flags sets) (sym c.ended) ∙ ap (λ z. weight after all f flags sets (after z)) (take_all (length all) all (omega arith)) in
          let first : behind after all f flags sets 0 ≡ 0 = spread_none (λ at k. f (set_at (flags_at flags sets) at k)) 160 (after []) (none setting change) in
          let written = sets_sum f (flags_at flags sets) sets (words_chain pen.view.sets told.chain) (small_in pen.view.sets known) (sets_flags flags sets (words_chain pen.view.sets told.chain)) in
          let same = spread_same (λ at k. f (set_at (flags_at flags sets) at k)) 160 (word_version sets) (after all) last in
          omega (arith, both, c.marks_once (minus after all f flags sets), c.marks_once (plus after all f flags sets), on, end, first, written, same),
      all_know after (rises setting change) all (none setting change) marks few actors v.made g.tied low g.done keeps c.named,
    )
