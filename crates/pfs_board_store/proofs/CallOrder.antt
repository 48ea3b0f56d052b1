-- What a root that is alone knows of the order of all actors' calls.
use Rattle.std.proofs.Common.{ℕ, ◌≡◌, ◌+◌, Bool, true, false, cond, List, [], ◌∷◌, sym, ◌∙◌, subst, refl, arith}
use Rattle.std.proofs.Common.{zero, suc, get_or}
use Rattle.pfs_board.specs.declared.view.Change.{Change}
use Rattle.pfs_board.specs.declared.view.Corner.{Corner}
use Rattle.pfs_board.specs.declared.view.View.{View}
use Rattle.pfs_board.specs.History as board
use Rattle.pfs_board.specs.WholeSeats.{History}
use Rattle.pfs_board.specs.Knowledge.{newcomer, is_holding, held}
use Rattle.pfs_board.proofs.VersionFacts.{each_made}
use Rattle.pfs_levels.specs.CallOrder.{Mark, marks_of, all_word_marks, AllCalls, AreFloored, AreCaused}
use Rattle.pfs_board_store.specs.RootActors.{Worked, calls_of_all, AreParts, AllShown, AllDone, AreChanged, marks_in}
use Rattle.pfs_board_store.specs.RootLaws.{settings_in, IsRunsBoard, OrderLaw}
use Rattle.pfs_board_store.specs.Ties.{IsTied}
use Rattle.pfs_board_store.proofs.Causes.{Covers, own_made, caused}
use Rattle.pfs_board_store.proofs.Floors.{Below, all_below, floored}
use Rattle.pfs_board_store.proofs.ChangeOrder.{changed, tied_marks}
use Rattle.pfs_board_store.proofs.WordFlags.{words_chain}
use Rattle.pfs_board_store.proofs.WordFloors.{all_floors}
use Rattle.pfs_board_store.proofs.JointCalls.{each_front, each_back}
use Rattle.pfs_board_store.proofs.ViewCorners.{none_some}
use Rattle.pfs_board_store.proofs.SetOrder.{Marked, in_order}

abbrev Tied : Worked → List Change → Type 0
Tied a made = IsTied a.start.board a.calls made

one_zero : (b : Bool) (n : ℕ) → cond b 1 0 + n ≡ 0 → (b ≡ false) × (n ≡ 0)
one_zero true n e = absurd (omega (arith, e))
one_zero false n e = (refl, omega (arith, e))

-- a seat that holds no row
idle_rows : (cs : List Corner) (r : ℕ) → held cs ≡ 0 → is_holding (get_or cs r newcomer).stage ≡ false
idle_rows [] r e = refl
idle_rows (c ∷ cs) zero e = (one_zero (is_holding c.stage) (held cs) e).0
idle_rows (c ∷ cs) (suc r) e = idle_rows cs r (one_zero (is_holding c.stage) (held cs) e).1

module _ (start words : List ℕ) (v : View) (h : History start words v) (o : IsRunsBoard start) (empty : held v.rows ≡ 0) where
  all_floored : (sets : List Mark) (actors : List Worked) (made : List Change) → AreParts Tied actors made → AllShown v.reads v.sights v.entered actors → AllDone actors → board.Each (λ (p : Change). board.Each (Below p) h.t.log) made
      → AllCalls (AreFloored [] sets) (calls_of_all actors) → AllCalls (AreFloored (marks_in h.t.log) sets) (calls_of_all actors)
  all_floored sets [] made g s d u f = tt
  all_floored sets (a ∷ actors) made g s d u f =
      let P : Change → Type 0 = λ p. board.Each (Below p) h.t.log in
      let U = subst (board.Each P) g.2 u in (
        floored start words v h sets a.start.board a.calls g.0 g.3 s.0 d.0.rising (each_front P g.0 g.1 U) f.0 (λ row some k is. absurd (none_some k (sym (d.0.empty row some) ∙ is))),
        all_floored sets actors g.1 g.4 s.1 d.1 (each_back P g.0 g.1 U) f.1,
      )

  all_caused : (actors : List Worked) (made : List Change) → AreParts Tied actors made → AllShown v.reads v.sights v.entered actors → Covers h.t.log made
      → AllCalls (λ calls. AreCaused (marks_in h.t.log) (marks_of calls) calls) (calls_of_all actors)
  all_caused [] made g s c = tt
  all_caused (a ∷ actors) made g s c =
      let Q : List Mark → Type 0 = λ z. AreCaused (marks_in h.t.log) z a.calls in
      let mine : Covers h.t.log g.0 = λ P e. each_front P g.0 g.1 (subst (board.Each P) g.2 (c P e)) in
      let rest : Covers h.t.log g.1 = λ P e. each_back P g.0 g.1 (subst (board.Each P) g.2 (c P e)) in (
        subst Q (sym (tied_marks a.start.board a.calls g.0 g.3)) (caused start words v h o (λ r. idle_rows v.rows r empty) a.start.board g.0 mine (own_made a.start.board a.calls g.0 g.3) a.calls s.0),
        all_caused actors g.1 g.4 s.1 rest,
      )

pub ordered : OrderLaw
ordered flags start words v w pen t actors g o empty h told written known =
    let c : AreChanged (calls_of_all actors) h.t.log = changed start words v w t actors g h in
    let covers : Covers h.t.log v.made = λ P e. each_made P v.made h.t.log h.once e in
    let P : Change → Type 0 = λ p. board.Each (Below p) h.t.log in
    let r : Marked (calls_of_all actors) = in_order (calls_of_all actors) (settings_in pen.sets) (words_chain pen.sets told.chain) written in (
      r.order,
      record {
        chain = c.numbered;
        word_chain = r.chain;
        ordered = c.ordered;
        once = c.marks_once;
        words_once = r.once;
        ended = c.ended;
        floored = all_floored start words v h o empty r.order actors v.made g.tied g.shown g.done (covers P (all_below start h.t.log h.chain)) (r.floored (all_floors (all_word_marks (calls_of_all actors)) (calls_of_all actors) c.rising known));
        rising = c.rising;
        there = c.there;
        caused = all_caused start words v h o empty actors v.made g.tied g.shown covers;
        named = c.named;
      },
    )
