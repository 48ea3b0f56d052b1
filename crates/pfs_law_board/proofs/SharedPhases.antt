-- What a root is told at the ends of phases makes the calls of their actors shared.
use Rattle.std.proofs.Common.{ℕ, ◌≡◌, ◌+◌, ◌<◌, ◌≤◌, ◌==◌, ◌&&◌, List, [], ◌∷◌, ◌++◌, length, slice_index, inl, inr, refl, ap, sym, ◌∙◌, subst, map, arith, append_assoc, ne_eqb, length-append}
use Rattle.std.specs.Prelude.{if◌then◌else◌}
use Rattle.std.proofs.lemmas.Bool.{cases_lt}
use Rattle.atomic_table.specs.Seated.{TableId}
use Rattle.pfs_admin.proofs.OpeningState.{flags_count}
use Rattle.pfs_admin.specs.OpeningState.{opening_flags}
use Rattle.pfs_admin.specs.declared.changes.Change.{Change}
use Rattle.pfs_board.specs.declared.view.Change.{Change as Entry}
use Rattle.pfs_board.specs.declared.view.Label.{Label}
use Rattle.pfs_board.specs.History.{Each, labels_of}
use Rattle.pfs_board_admin.specs.DeskLaws.{SharedLaw as SetsLaw}
use Rattle.pfs_board_admin.specs.LabelWords.{version_after, AllKeepWords}
use Rattle.pfs_board_store.proofs.ChangeOrder.{all_marked}
use Rattle.pfs_board_store.proofs.WordFlags.{same_versions}
use Rattle.pfs_board_store.specs.ActorPhases.{AllLater, AllMetSince, SinceLaw}
use Rattle.pfs_board_store.specs.RootActors.{AllDone, AreParts, Worked, ats_of, calls_of_all, marks_in}
use Rattle.pfs_board_store.specs.RootLaws.{AllKnowSets, AreWritten, IsRunsBoard, JointLaw, OrderLaw, content_of, settings_in}
use Rattle.pfs_board_store.specs.Ties.{IsTied}
use Rattle.pfs_classes.specs.declared.setting.Setting.{Setting}
use Rattle.pfs_law_joint.proofs.Sums.{total_map, total_then}
use Rattle.pfs_law_joint.proofs.VersionChains.{log_count, puts_to, sets_count}
use Rattle.pfs_law_joint.specs.Phases.{BeginOutside, HaveEnded, IsShared}
use Rattle.pfs_law_joint.specs.Versions.{at_set}
use Rattle.pfs_levels.specs.CallOrder.{Mark, Order, AllCalls, AreFloored, AreRising, all_marks, all_word_marks, marked, marks_of}
use Rattle.pfs_levels.specs.Calls.{Call, Adds, Rings, Reads, Loads, Draws, Takes, Puts, Frees, Sets, Enters, Leaves, Meets, Start, action_in, after_in}
use Rattle.pfs_levels.specs.JointCalls.{Draw, Joint, Setting as WordSet, total, all_calls, one_if, sets_of, word_version}
use Rattle.pfs_levels.specs.declared.answers.Added.TheVariants.{Counted, Held}
use Rattle.pfs_levels.specs.declared.answers.RingPut.TheVariants.{Done, Busy, Late}
use Rattle.pfs_matching.specs.ObjectRules.{opening_objects}
use Rattle.pfs_switches.specs.History.{Each as EachSet, version}
use Rattle.pfs_switches.specs.declared.view.Setting.{Setting as Written}
use Rattle.pfs_law_board.specs.PhaseEnds.{AllShared, AreAllBut, AreEnded, BeganBehind, IsEnded, Phase, PhaseEnd, PhaseLaw, SharedLaw, all_of}
use Rattle.pfs_law_board.proofs.LowSets.{IsLow, run_sets}
use Rattle.pfs_law_board.proofs.QuietActors.{ended_but, none_left_out, same_marks, same_sets, shared_but, then_quiet}
use Rattle.pfs_law_board.proofs.LaterSets.{IsOver, SetsInside, after_is, has_ended, high_number, met_behind, set_behind}

-- an actor that keeps to the words of its labels begins no action inside one
begins : (versions : List Label → ℕ → ℕ) (calls : List Call) → AllKeepWords versions calls → BeginOutside calls
begins versions [] k = tt
begins versions (Enters label labels ∷ calls) k = (k.0, begins versions calls k.1)
begins versions (Leaves ∷ calls) k = (tt, begins versions calls k.1)
begins versions (Meets seen ∷ calls) k = (tt, begins versions calls k.1)
begins versions (Sets at to v ∷ calls) k = (tt, begins versions calls k.1)
begins versions (Loads at v found ∷ calls) k = (tt, begins versions calls k.1)
begins versions (Draws kind ticket ∷ calls) k = (tt, begins versions calls k.1)
begins versions (Takes row v found ∷ calls) k = (tt, begins versions calls k.1)
begins versions (Puts row content v ∷ calls) k = (tt, begins versions calls k.1)
begins versions (Frees row v ∷ calls) k = (tt, begins versions calls k.1)
begins versions (Adds row amount answer ∷ calls) k = (tt, begins versions calls k.1)
begins versions (Rings row content answer ∷ calls) k = (tt, begins versions calls k.1)
begins versions (Reads row seen ∷ calls) k = (tt, begins versions calls k.1)

-- and sets words inside its actions alone
inside : (start : Start) (calls : List Call) (made : List Entry) → IsTied start calls made → SetsInside calls
inside start [] made t = tt
inside start (Adds row amount (Counted r v) ∷ calls) [] t = absurd t
inside start (Adds row amount (Counted r v) ∷ calls) (p ∷ made) t = inside start calls made t.3
inside start (Adds row amount (Held r x y) ∷ calls) made t = inside start calls made t
inside start (Rings row content (Done v) ∷ calls) [] t = absurd t
inside start (Rings row content (Done v) ∷ calls) (p ∷ made) t = inside start calls made t.3
inside start (Rings row content (Busy x y) ∷ calls) made t = inside start calls made t
inside start (Rings row content (Late x v) ∷ calls) made t = inside start calls made t
inside start (Reads row seen ∷ calls) made t = inside start calls made t
inside start (Loads at v found ∷ calls) made t = inside start calls made t
inside start (Draws kind ticket ∷ calls) made t = inside start calls made t
inside start (Meets versions ∷ calls) made t = inside start calls made t
inside start (Takes row v found ∷ calls) made t = inside start calls made t.2
inside start (Puts row content v ∷ calls) [] t = absurd t
inside start (Puts row content v ∷ calls) (p ∷ made) t = inside start calls made t.4
inside start (Frees row v ∷ calls) [] t = absurd t
inside start (Frees row v ∷ calls) (p ∷ made) t = inside start calls made t.4
inside start (Sets at to v ∷ calls) made t = (t.0, inside start calls made t.1)
inside start (Enters label labels ∷ calls) made t = inside start calls made t
inside start (Leaves ∷ calls) [] t = absurd t
inside start (Leaves ∷ calls) (p ∷ made) t = inside start calls made t.3

abbrev Tied : Worked → List Entry → Type 0
Tied a made = IsTied a.start.board a.calls made

all_over : (versions : List Label → ℕ → ℕ) (actors : List Worked) (made : List Entry) → AreParts Tied actors made → AllDone actors → AllCalls (AllKeepWords versions) (calls_of_all actors) → AllCalls IsOver (calls_of_all actors)
all_over versions [] made t d k = tt
all_over versions (a ∷ actors) made t d k = (record { outside = begins versions a.calls k.0; ended = d.0.outside; sets = inside a.start.board a.calls t.0 t.3 }, all_over versions actors t.1 t.4 d.1 k.1)

-- how often a word was set is a sum
versions_sum : (sets : List WordSet) (at : ℕ) → word_version sets at ≡ total (λ s. puts_to at (at_set s)) sets
versions_sum sets at = sym (sets_count sets at) ∙ (sym (log_count (map at_set sets) at) ∙ total_map at_set (puts_to at) sets)

marks_many : (xs : List Entry) → length (marks_in xs) ≡ length xs
unfolding marks_in
marks_many [] = refl
marks_many (x ∷ xs) = omega (arith, marks_many xs)

-- no word past those of a run was set
none_past : (sets : List Written) (at : ℕ) → 160 ≤ at → EachSet (λ (s : Written). s.word < 160) sets → version sets at ≡ 0
none_past [] at high e = refl
none_past (s ∷ ss) at high e = ap (λ b. if b then version ss at + 1 else version ss at) (ne_eqb s.word at (λ z. omega (arith, z, high, e.0))) ∙ none_past ss at high e.1

all_then : (xs ys : List Worked) → calls_of_all (xs ++ ys) ≡ calls_of_all xs ++ calls_of_all ys
all_then [] ys = refl
all_then (x ∷ xs) ys = ap (λ z. x.calls ∷ z) (all_then xs ys)

front_all : (P : List Call → Type 0) (xs ys : List (List Call)) → AllCalls P (xs ++ ys) → AllCalls P xs
front_all P [] ys a = tt
front_all P (x ∷ xs) ys a = (a.0, front_all P xs ys a.1)

back_all : (P : List Call → Type 0) (xs ys : List (List Call)) → AllCalls P (xs ++ ys) → AllCalls P ys
back_all P [] ys a = a
back_all P (x ∷ xs) ys a = back_all P xs ys a.1

module _ (before now : List (List Call)) (log words : List Mark) (labels : List Label) (o : Order (now ++ before) log words labels) (e : HaveEnded before) (over : AllCalls IsOver before) where
  abbrev sets : List WordSet
  sets = sets_of (all_calls before)

  abbrev Behind : List Call → Type 0
  Behind whole = (more earlier : List Call) → (versions : List ℕ) → whole ≡ more ++ Meets versions ∷ earlier → 0 < action_in earlier

  abbrev Part : List Call → List (List Call) → Type 0
  Part calls actors = (h : Mark → ℕ) → total h (marks_of calls) ≤ total h (all_marks actors)

  -- inside an action an actor knows all that the earlier ones did as ended
  above_all : (whole more earlier : List Call) → whole ≡ more ++ earlier → IsOver whole → Part whole now → 0 < action_in earlier → marked (all_marks before) 0 ≤ after_in earlier
  above_all whole more earlier is mine part up =
      let number : ℕ = action_in earlier in
      let low = part (λ p. one_if ((p.row == 0) && p.puts && (p.version == number))) in
      omega (arith, after_is earlier up, high_number before now log words labels o e number up (omega (arith, has_ended whole more earlier is mine.outside mine.ended up, low)))

  later_calls : (whole front calls : List Call) → whole ≡ front ++ calls → IsOver whole → Part whole now → Behind whole → AreFloored log words calls → AreRising calls → SetsInside calls → AllMetSince sets calls
  later_calls whole front [] is mine part behind f r s = tt
  later_calls whole front (Meets versions ∷ calls) is mine part behind f r s =
      let next : whole ≡ (front ++ Meets versions ∷ []) ++ calls = is ∙ sym (append_assoc front (Meets versions ∷ []) calls) in
      let all = above_all whole (front ++ Meets versions ∷ []) calls next mine part (behind front calls versions is) in
      ((λ at low. met_behind before now log words labels o e over at (slice_index versions at) (after_in calls) all (f.0 at low)), later_calls whole (front ++ Meets versions ∷ []) calls next mine part behind f.1 r.1 s)
  later_calls whole front (Sets at to v ∷ calls) is mine part behind f r s =
      let next : whole ≡ (front ++ Sets at to v ∷ []) ++ calls = is ∙ sym (append_assoc front (Sets at to v ∷ []) calls) in
      let all = above_all whole (front ++ Sets at to v ∷ []) calls next mine part s.0 in
      (set_behind before now log words labels o e over at v (after_in calls) all (omega (arith, r.0)) f.0, later_calls whole (front ++ Sets at to v ∷ []) calls next mine part behind f.1 r.1 s.1)
  later_calls whole front (Leaves ∷ calls) is mine part behind f r s = (tt, later_calls whole (front ++ Leaves ∷ []) calls (is ∙ sym (append_assoc front (Leaves ∷ []) calls)) mine part behind f.1 r.1 s)
  later_calls whole front (Loads at v found ∷ calls) is mine part behind f r s = (tt, later_calls whole (front ++ Loads at v found ∷ []) calls (is ∙ sym (append_assoc front (Loads at v found ∷ []) calls)) mine part behind f.1 r.1 s)
  later_calls whole front (Draws kind ticket ∷ calls) is mine part behind f r s = (tt, later_calls whole (front ++ Draws kind ticket ∷ []) calls (is ∙ sym (append_assoc front (Draws kind ticket ∷ []) calls)) mine part behind f.1 r.1 s)
  later_calls whole front (Takes row v found ∷ calls) is mine part behind f r s = (tt, later_calls whole (front ++ Takes row v found ∷ []) calls (is ∙ sym (append_assoc front (Takes row v found ∷ []) calls)) mine part behind f.1 r.1 s)
  later_calls whole front (Puts row content v ∷ calls) is mine part behind f r s = (tt, later_calls whole (front ++ Puts row content v ∷ []) calls (is ∙ sym (append_assoc front (Puts row content v ∷ []) calls)) mine part behind f.1 r.1 s)
  later_calls whole front (Frees row v ∷ calls) is mine part behind f r s = (tt, later_calls whole (front ++ Frees row v ∷ []) calls (is ∙ sym (append_assoc front (Frees row v ∷ []) calls)) mine part behind f.1 r.1 s)
  later_calls whole front (Adds row amount answer ∷ calls) is mine part behind f r s = (tt, later_calls whole (front ++ Adds row amount answer ∷ []) calls (is ∙ sym (append_assoc front (Adds row amount answer ∷ []) calls)) mine part behind f.1 r.1 s)
  later_calls whole front (Rings row content answer ∷ calls) is mine part behind f r s = (tt, later_calls whole (front ++ Rings row content answer ∷ []) calls (is ∙ sym (append_assoc front (Rings row content answer ∷ []) calls)) mine part behind f.1 r.1 s)
  later_calls whole front (Reads row seen ∷ calls) is mine part behind f r s = (tt, later_calls whole (front ++ Reads row seen ∷ []) calls (is ∙ sym (append_assoc front (Reads row seen ∷ []) calls)) mine part behind f.1 r.1 s)
  later_calls whole front (Enters label found ∷ calls) is mine part behind f r s = (tt, later_calls whole (front ++ Enters label found ∷ []) calls (is ∙ sym (append_assoc front (Enters label found ∷ []) calls)) mine part behind f.1 r.1 s)

  all_later : (made : ℕ) (seen : List ℕ) (actors : List Worked) → made ≡ length (all_marks before) → ((at : ℕ) → at < 160 → word_version sets at ≤ slice_index seen at) → ((at : ℕ) → 160 ≤ at → word_version sets at ≡ 0) → AllCalls IsOver (calls_of_all actors)
      → ((h : Mark → ℕ) → total h (all_marks (calls_of_all actors)) ≤ total h (all_marks now)) → AllCalls (AreFloored log words) (calls_of_all actors) → AllCalls AreRising (calls_of_all actors) → Each (BeganBehind made seen) actors → AllLater before actors
  unfolding all_marks
  all_later made seen [] many low none mine part f r b = tt
  all_later made seen (a ∷ actors) many low none mine part f r b =
      let sums : (h : Mark → ℕ) → total h (marks_of a.calls ++ all_marks (calls_of_all actors)) ≡ total h (marks_of a.calls) + total h (all_marks (calls_of_all actors)) = λ h. total_then h (marks_of a.calls) (all_marks (calls_of_all actors)) in (
        record {
          base = b.0.base ∙ many;
          words = λ at. elim (cases_lt at 160) [
            | inl less ↦ omega (arith, low at less, b.0.words at less)
            | inr high ↦ omega (arith, none at high)
          ];
          met = later_calls a.calls [] a.calls refl mine.0 (λ h. omega (arith, part h, sums h)) b.0.inside f.0 r.0 mine.0.sets;
        },
        all_later made seen actors many low none mine.1 (λ h. omega (arith, part h, sums h)) f.1 r.1 b.1,
      )

abbrev pub SetsOf : List (List Call) → List WordSet
SetsOf actors = sets_of (all_calls actors)

-- by what the board and the desk know
module _ (joint : JointLaw) (ordered : OrderLaw) (later : SinceLaw) (shared : SetsLaw) (setting : Setting) (change : Label → Change) (switches : TableId) (start : List ℕ) (runs : IsRunsBoard start) where
  abbrev pub flags : List ℕ
  flags = opening_flags setting opening_objects

  abbrev pub End : List Worked → Type 0
  End actors = PhaseEnd setting change switches start actors

  -- each set is of a word of a run
  low_sets : (actors : List Worked) (end : End actors) → EachSet IsLow end.pen.view.sets
  low_sets actors end = subst (EachSet IsLow) (sym end.desk.sets) (run_sets setting change (labels_of end.history.t.log))

  -- the writer's sets are the actors', and each knew those of the actions that it knew as ended
  abbrev AreKnown : List Worked → List Written → Type 0
  AreKnown actors written = AreWritten (calls_of_all actors) written × AllCalls (AllKnowSets (all_word_marks (calls_of_all actors))) (calls_of_all actors)

  known_sets : (actors : List Worked) (end : End actors) → AreKnown actors end.pen.view.sets
  known_sets actors end =
      shared setting change switches end.admin end.pen start end.words end.seat end.known end.draws actors end.gathered end.history end.told end.desk (low_sets actors end) end.keep

  pub joint_of : (actors : List Worked) (end : End actors) → (draws : List Draw) × Joint flags (calls_of_all actors) (content_of start end.history.t.log) (ats_of end.history.t.log) (settings_in end.pen.view.sets) draws
  joint_of actors end =
      joint flags start end.words end.seat end.known end.pen.view end.draws actors end.gathered runs end.history end.told (known_sets actors end).0 end.complete

  pub order_of : (actors : List Worked) (end : End actors) → (sets : List Mark) × Order (calls_of_all actors) (marks_in end.history.t.log) sets (labels_of end.history.t.log)
  order_of actors end =
      let k = known_sets actors end in
      ordered flags start end.words end.seat end.known end.pen.view end.draws actors end.gathered runs end.empty end.history end.told k.0 k.1

  have_ended : (actors : List Worked) → End actors → HaveEnded (calls_of_all actors)
  have_ended actors end =
      let o = order_of actors end in
      record { marks = marks_in end.history.t.log; words = o.0; chain = o.1.chain; word_chain = o.1.word_chain; once = o.1.once; words_once = o.1.words_once }

  are_over : (actors : List Worked) → End actors → AllCalls IsOver (calls_of_all actors)
  are_over actors end = all_over (version_after setting change) actors end.seat.made end.gathered.tied end.gathered.done end.keep

  -- how many changes stand there, and what was set is not above what the writer knows
  made_many : (actors : List Worked) (end : End actors) → length end.seat.made ≡ length (all_marks (calls_of_all actors))
  made_many actors end = sym (ap (λ (z : List Mark). length z) (all_marked actors end.seat.made end.gathered.tied) ∙ marks_many end.seat.made)

  set_versions : (actors : List Worked) (end : End actors) (at : ℕ) → word_version (SetsOf (calls_of_all actors)) at ≡ version end.pen.view.sets at
  set_versions actors end at =
      versions_sum (SetsOf (calls_of_all actors)) at ∙ ((known_sets actors end).0 (λ s. puts_to at (at_set s)) ∙ (sym (versions_sum (settings_in end.pen.view.sets) at) ∙ sym (same_versions end.pen.view.sets at)))

  pub set_low : (actors : List Worked) (end : End actors) (at : ℕ) → at < 160 → word_version (SetsOf (calls_of_all actors)) at ≤ slice_index end.pen.view.seen at
  set_low actors end at less = omega (arith, set_versions actors end at, end.told.counts at (omega (arith, less, length-append flags (0 ∷ []), flags_count setting opening_objects)))

  pub set_none : (actors : List Worked) (end : End actors) (at : ℕ) → 160 ≤ at → word_version (SetsOf (calls_of_all actors)) at ≡ 0
  set_none actors end at high = set_versions actors end at ∙ none_past end.pen.view.sets at high (low_sets actors end)

  -- the actors of a phase are behind those before it
  are_behind : (before : List Worked) (phase : Phase) → (e : IsEnded setting change switches start before phase) → AllLater (calls_of_all (phase.own ++ before)) phase.actors
  are_behind before phase e =
      let was : List (List Call) = calls_of_all before in
      let theirs : List (List Call) = calls_of_all (phase.own ++ before) in
      let mine : List (List Call) = calls_of_all phase.actors in
      let both : calls_of_all (phase.actors ++ (phase.own ++ before)) ≡ mine ++ theirs = all_then phase.actors (phase.own ++ before) in
      let o = order_of (phase.actors ++ (phase.own ++ before)) e.last in
      let log : List Mark = marks_in e.last.history.t.log in
      let order : Order (mine ++ theirs) log o.0 (labels_of e.last.history.t.log) = subst (λ (z : List (List Call)). Order z log o.0 (labels_of e.last.history.t.log)) both o.1 in
      let over : AllCalls IsOver (mine ++ theirs) = subst (AllCalls IsOver) both (are_over (phase.actors ++ (phase.own ++ before)) e.last) in
      let but : AreAllBut was theirs = subst (AreAllBut was) (sym (all_then phase.own before)) (then_quiet (calls_of_all phase.own) was was e.own (none_left_out was)) in
      let ended : HaveEnded theirs = ended_but was theirs but (have_ended before e.first) in
      let many : length e.first.seat.made ≡ length (all_marks theirs) = made_many before e.first ∙ ap (λ (z : List Mark). length z) (same_marks was theirs but) in
      let sets : SetsOf was ≡ SetsOf theirs = same_sets was theirs but in
      let low : (at : ℕ) → at < 160 → word_version (SetsOf theirs) at ≤ slice_index e.first.pen.view.seen at = λ at less. subst (λ (z : List WordSet). word_version z at ≤ slice_index e.first.pen.view.seen at) sets (set_low before e.first at less) in
      let none : (at : ℕ) → 160 ≤ at → word_version (SetsOf theirs) at ≡ 0 = λ at high. subst (λ (z : List WordSet). word_version z at ≡ 0) sets (set_none before e.first at high) in
      all_later theirs mine log o.0 (labels_of e.last.history.t.log) order ended (back_all IsOver mine theirs over) (length e.first.seat.made) e.first.pen.view.seen phase.actors many low none
      (front_all IsOver mine theirs over) (λ h. omega arith) (front_all (AreFloored log o.0) mine theirs order.floored) (front_all AreRising mine theirs order.rising) e.began

  -- so these have one order of all changes in common
  one_phase : (before : List Worked) (phase : Phase) → IsEnded setting change switches start before phase → IsShared flags (calls_of_all (phase.own ++ before)) (calls_of_all phase.actors)
  one_phase before phase e =
      let all : List Worked = phase.actors ++ (phase.own ++ before) in
      let both = all_then phase.actors (phase.own ++ before) in
      let log = e.last.history.t.log in
      let j = joint_of all e.last in
      let o = order_of all e.last in
      record {
        content = content_of start log;
        log = ats_of log;
        sets = settings_in e.last.pen.view.sets;
        draws = j.0;
        marks = marks_in log;
        words = o.0;
        labels = labels_of log;
        joint = subst (λ (z : List (List Call)). Joint flags z (content_of start log) (ats_of log) (settings_in e.last.pen.view.sets) j.0) both j.1;
        order = subst (λ (z : List (List Call)). Order z (marks_in log) o.0 (labels_of log)) both o.1;
        since = later flags start e.last.words e.last.seat e.last.known e.last.pen.view e.last.draws (phase.own ++ before) phase.actors e.last.gathered runs e.last.history e.last.told (are_behind before phase e);
      }

  one_but : (before : List Worked) (phase : Phase) (some : List (List Call)) → IsEnded setting change switches start before phase → AreAllBut some (calls_of_all (phase.own ++ before))
      → IsShared flags some (calls_of_all phase.actors)
  one_but before phase some e but = shared_but flags some (calls_of_all (phase.own ++ before)) (calls_of_all phase.actors) but (one_phase before phase e)

  all_phases : (phases : List Phase) → AreEnded setting change switches start phases → AllShared flags phases
  all_phases [] e = tt
  all_phases (phase ∷ phases) e = ((λ some but. one_but (all_of phases) phase some e.0 but), all_phases phases e.1)

pub one_shares : JointLaw → OrderLaw → SinceLaw → SetsLaw → PhaseLaw
one_shares joint ordered later shared setting change switches start before phase some runs e but = one_but joint ordered later shared setting change switches start runs before phase some e but

pub shares : JointLaw → OrderLaw → SinceLaw → SetsLaw → SharedLaw
shares joint ordered later shared setting change switches start phases runs e = all_phases joint ordered later shared setting change switches start runs phases e
