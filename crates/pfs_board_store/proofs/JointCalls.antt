-- What a root that is alone knows of what all actors have in common.
use Rattle.std.proofs.Common.{ℕ, List, [], ◌∷◌, ◌++◌, sym, ◌∙◌, subst}
use Rattle.pfs_board.specs.declared.view.Change.{Change}
use Rattle.pfs_board.specs.declared.view.View.{View}
use Rattle.pfs_board.specs.History as board
use Rattle.pfs_board.specs.WholeSeats.{History}
use Rattle.pfs_board.proofs.HistoryFacts.{each_map}
use Rattle.pfs_board.proofs.VersionFacts.{each_made}
use Rattle.pfs_levels.specs.Calls.{Call}
use Rattle.pfs_levels.specs.JointCalls.{At, Setting, AllAgree, all_calls}
use Rattle.pfs_board_store.specs.RootActors.{Worked, calls_of_all, AreParts, AllShown, AllDone, AreChanged, ats_of}
use Rattle.pfs_board_store.specs.RootLaws.{content_of, IsRunsBoard, settings_in, JointLaw}
use Rattle.pfs_board_store.specs.Ties.{IsTied, AreLoaded, AreMet}
use Rattle.pfs_board_store.proofs.CallContents.{AllFlagged, agree}
use Rattle.pfs_board_store.proofs.VersionContents.{Stays, Says, all_stay, says, opens}
use Rattle.pfs_board_store.proofs.WordFlags.{IsSo, HasMet, flagged, words_chain}
use Rattle.pfs_board_store.proofs.ChangeOrder.{changed}
use Rattle.pfs_board_store.proofs.TicketOrder.{tickets_of, are_drawn, draws_once}
use Rattle.pfs_board_store.proofs.ViewCorners.{none_some}
use Rattle.pfs_switches.specs.declared.view.Loaded.{Loaded}
use Rattle.pfs_switches.specs.declared.view.Met.{Met}
use Rattle.pfs_switches.specs.declared.view.Setting.{Setting as Written}
use Rattle.pfs_switches.specs.History as switches
use Rattle.pfs_tickets.specs.History.{count_of}

agree_join : (flags : List ℕ) (content : ℕ → ℕ → List ℕ) (log : List At) (sets : List Setting) (xs ys : List Call) → AllAgree flags content log sets xs → AllAgree flags content log sets ys → AllAgree flags content log sets (xs ++ ys)
agree_join flags content log sets [] ys f g = g
agree_join flags content log sets (x ∷ xs) ys f g = (f.0, agree_join flags content log sets xs ys f.1 g)

pub each_front : {A : Type 0} (P : A → Type 0) (xs ys : List A) → board.Each P (xs ++ ys) → board.Each P xs
each_front P [] ys e = tt
each_front P (x ∷ xs) ys e = (e.0, each_front P xs ys e.1)

pub each_back : {A : Type 0} (P : A → Type 0) (xs ys : List A) → board.Each P (xs ++ ys) → board.Each P ys
each_back P [] ys e = e
each_back P (x ∷ xs) ys e = each_back P xs ys e.1

pub word_front : {A : Type 0} (P : A → Type 0) (xs ys : List A) → switches.Each P (xs ++ ys) → switches.Each P xs
word_front P [] ys e = tt
word_front P (x ∷ xs) ys e = (e.0, word_front P xs ys e.1)

pub word_back : {A : Type 0} (P : A → Type 0) (xs ys : List A) → switches.Each P (xs ++ ys) → switches.Each P ys
word_back P [] ys e = e
word_back P (x ∷ xs) ys e = word_back P xs ys e.1

abbrev Tied : Worked → List Change → Type 0
Tied a made = IsTied a.start.board a.calls made

abbrev Loading : Worked → List Loaded → Type 0
Loading a loads = AreLoaded a.start a.calls loads

abbrev Meeting : Worked → List Met → Type 0
Meeting a meets = AreMet a.start.switches a.calls meets

module _ (start words : List ℕ) (v : View) (h : History start words v) (o : IsRunsBoard start) (flags : List ℕ) (sets : List Written) where
  all_agree : (actors : List Worked) (made : List Change) (loads : List Loaded) (meets : List Met) → AreParts Tied actors made → AllShown v.reads v.sights v.entered actors → AllDone actors → AreParts Loading actors loads → AreParts Meeting actors meets
      → board.Each (Says start h.t.log) made → switches.Each (IsSo flags sets) loads → switches.Each (HasMet flags sets) meets
      → AllAgree flags (content_of start h.t.log) (ats_of h.t.log) (settings_in sets) (all_calls (calls_of_all actors))
  unfolding all_calls
  all_agree [] made loads meets g s d l m y e f = tt
  all_agree (a ∷ actors) made loads meets g s d l m y e f =
      let Y = subst (board.Each (Says start h.t.log)) g.2 y in
      let E = subst (switches.Each (IsSo flags sets)) l.2 e in
      let F = subst (switches.Each (HasMet flags sets)) m.2 f in
      let words_is : AllFlagged flags (settings_in sets) a.calls = flagged flags sets a.start a.calls l.0 m.0 l.3 m.3 (word_front (IsSo flags sets) l.0 l.1 E) (word_front (HasMet flags sets) m.0 m.1 F) in
      agree_join flags (content_of start h.t.log) (ats_of h.t.log) (settings_in sets) a.calls (all_calls (calls_of_all actors))
      (agree start words v h o flags (settings_in sets) a.start.board a.calls g.0 g.3 s.0 (each_front (Says start h.t.log) g.0 g.1 Y) words_is (λ row some k is. absurd (none_some k (sym (d.0.empty row some) ∙ is))))
      (all_agree actors g.1 l.1 m.1 g.4 s.1 d.1 l.4 m.4 (each_back (Says start h.t.log) g.0 g.1 Y) (word_back (IsSo flags sets) l.0 l.1 E) (word_back (HasMet flags sets) m.0 m.1 F))

pub joint : JointLaw
joint flags start words v w pen t actors g o h told written complete =
    let c : AreChanged (calls_of_all actors) h.t.log = changed start words v w t actors g h in
    let said : board.Each (Says start h.t.log) v.made = each_made (Says start h.t.log) v.made h.t.log h.once (each_map (Stays start h.t.log) (Says start h.t.log) (says start h.t.log) h.t.log (all_stay start h.t.log h.chain)) in (
      tickets_of t,
      record {
        chain = c.chain;
        words = words_chain pen.sets told.chain;
        tickets = are_drawn (λ k. count_of k t.tickets) 4;
        opens = opens start h.t.log h.chain o;
        once = c.once;
        sets_once = written;
        draws_once = draws_once actors t g.drawn complete;
        agrees = all_agree start words v h o flags pen.sets actors v.made w.loads w.meets g.tied g.shown g.done g.loaded g.met said told.loads told.meets.1;
      },
    )
