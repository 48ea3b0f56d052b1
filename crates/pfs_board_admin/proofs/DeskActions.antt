-- A whole action at a desk: what its calls leave of its beginning, and that its actor keeps to the words of its labels.
use Rattle.std.specs.Prelude.{IfSome, option_map, unwrap_or}
use Rattle.std.proofs.Common.{ℕ, zero, suc, ◌≡◌, ◌+◌, ◌<◌, ◌≤◌, true, List, [], ◌∷◌, ◌++◌, Option, None, Some, length, refl, ap, sym, ◌∙◌, subst, arith, append_assoc, append-nil}
use Rattle.atomic_table.specs.Seated.{TableId}
use Rattle.pfs_admin.specs.declared.changes.Change.{Change}
use Rattle.pfs_admin.specs.ConnectionAsks.{connect_work, placed_of}
use Rattle.pfs_admin.specs.Fold.{Follows, StandsFor}
use Rattle.pfs_admin.specs.AdministrationStates.{State, words_by}
use Rattle.pfs_admin.proofs.FoldSteps.{fixed_law}
use Rattle.pfs_admin.specs.WordChanges.{flags_changed, words_changed}
use Rattle.pfs_admin.specs.Works.{Made, Work, Flagging, signs_calls, signs_of, word_at, flagging, flagged, flagging_calls, flagging_entries, signs_entries}
use Rattle.pfs_board.specs.declared.view.Label.{Label}
use Rattle.pfs_classes.specs.declared.setting.Setting.{Setting}
use Rattle.pfs_containers.specs.declared.containers.Seated.{Seated}
use Rattle.pfs_containers.specs.Administration.{Containers}
use Rattle.pfs_levels.specs.declared.answers.Word.{Word}
use Rattle.pfs_levels.specs.Calls.{Call, Takes, Puts, Frees, Sets, Enters, Leaves, Meets, label_in}
use Rattle.pfs_event.specs.declared.entry.Entry.{Entry}
use Rattle.pfs_levels.specs.Moves.{Move, AreMoves, moves_calls, moves_entries}
use Rattle.pfs_board_store.specs.WriterWords.{words_from, words_of}
use Rattle.pfs_board_store.specs.ActorCalls.{labels_in}
use Rattle.pfs_board_store.specs.RootLaws.{has_met}
use Rattle.pfs_switches.specs.declared.view.View.{View}
use Rattle.pfs_switches.specs.SeatViews.{Known}
use Rattle.pfs_board_admin.specs.DeskActions.{HasActed}
use Rattle.pfs_board_admin.specs.Desks.{IsDesk, sets_by, sets_of, work_of_change}
use Rattle.pfs_board_admin.specs.LabelWords.{version_after, AllKeepWords, AreAsKnown}
use Rattle.pfs_board_admin.proofs.LabelWords.{AreQuiet, quiet_both, signs_quiet, moves_quiet, begun, work, left}
use Rattle.pfs_board_admin.proofs.WriterSets.{flags_set, one_more_set, quiet_sets}
use Rattle.pfs_board_store.specs.WriterWords.{sets_since_met}
use Rattle.pfs_switches.specs.declared.view.Setting.{Setting as WordSetting}

-- the calls of an action, newest first, that begins it and meets the writer
abbrev pub calls_of : Label → List Label → List ℕ → List Call → List Call → List Call
calls_of label labels seen calls its = its ++ Meets seen ∷ Enters label labels ∷ calls

abbrev pub its_of : List Word → List Flagging → List Made → List Move → List Call
its_of words flags made moves = flagging_calls words flags ++ (signs_calls made ++ moves_calls moves)

-- what calls leave of the action that they stand in
pub record IsInside (calls more : List Call) : Type 0 where
  pub label : label_in more ≡ label_in calls
  pub labels : labels_in more ≡ labels_in calls

pub quiet_inside : (xs calls : List Call) → AreQuiet xs → IsInside calls (xs ++ calls)
quiet_inside [] calls q = record { label = refl; labels = refl }
quiet_inside (Takes row version found ∷ xs) calls q = let i = quiet_inside xs calls q in record { label = i.label; labels = i.labels }
quiet_inside (Puts row content version ∷ xs) calls q = let i = quiet_inside xs calls q in record { label = i.label; labels = i.labels }
quiet_inside (Frees row version ∷ xs) calls q = let i = quiet_inside xs calls q in record { label = i.label; labels = i.labels }
quiet_inside (x ∷ xs) calls q = absurd q

flags_inside : (words : List Word) (flags : List Flagging) (calls : List Call) → IsInside calls (flagging_calls words flags ++ calls)
flags_inside words [] calls = record { label = refl; labels = refl }
flags_inside words (f ∷ fs) calls =
    let set : Call = Sets f.word f.flags ((word_at words f.word).version + 1) in
    let i = flags_inside words fs (set ∷ calls) in
    let e : (flagging_calls words fs ++ set ∷ []) ++ calls ≡ flagging_calls words fs ++ set ∷ calls = append_assoc (flagging_calls words fs) (set ∷ []) calls in
    record { label = ap label_in e ∙ i.label; labels = ap labels_in e ∙ i.labels }

pub its_inside : (words : List Word) (flags : List Flagging) (made : List Made) (moves : List Move) (calls : List Call) → IsInside calls (its_of words flags made moves ++ calls)
its_inside words flags made moves calls =
    let quiet : List Call = signs_calls made ++ moves_calls moves in
    let e : (flagging_calls words flags ++ quiet) ++ calls ≡ flagging_calls words flags ++ (quiet ++ calls) = append_assoc (flagging_calls words flags) quiet calls in
    let q = quiet_inside quiet calls (quiet_both (signs_calls made) (moves_calls moves) (signs_quiet made) (moves_quiet moves)) in
    let f = flags_inside words flags (quiet ++ calls) in
    record { label = ap label_in e ∙ (f.label ∙ q.label); labels = ap labels_in e ∙ (f.labels ∙ q.labels) }

-- behind a meet such calls made the sets of these flags
pub its_sets : (words : List Word) (flags : List Flagging) (made : List Made) (moves : List Move) (calls : List Call)
    → sets_since_met (its_of words flags made moves ++ calls) ≡ sets_by words flags ++ sets_since_met calls
its_sets words flags made moves calls =
    let quiet : List Call = signs_calls made ++ moves_calls moves in
    ap sets_since_met (append_assoc (flagging_calls words flags) quiet calls)
    ∙ (flags_set words flags (quiet ++ calls) ∙ ap (λ ss. sets_by words flags ++ ss) (quiet_sets quiet calls (quiet_both (signs_calls made) (moves_calls moves) (signs_quiet made) (moves_quiet moves))))

-- the sets that a hold gives back, where the one that it was lent had these
pub returned : (lent : Option Known) (words : List Word) (flags : List Flagging) (made : List Made) (moves : List Move) (seen : List ℕ) (calls : List Call) (had before : List WordSetting)
    → IfSome lent (λ (x : Known). x.view.sets ≡ sets_since_met (its_of words flags made moves ++ Meets seen ∷ calls) ++ had) → had ≡ before
    → IfSome lent (λ (x : Known). x.view.sets ≡ sets_by words flags ++ before)
returned None words flags made moves seen calls had before tells is = tt
returned (Some x) words flags made moves seen calls had before tells is =
    tells
    ∙ (ap (λ ss. ss ++ had) (its_sets words flags made moves (Meets seen ∷ calls) ∙ append-nil (sets_by words flags))
    ∙ ap (λ ss. sets_by words flags ++ ss) is)

words_wide : (n i : ℕ) (w : View) → length (words_from n i w) ≡ n
unfolding words_from
words_wide zero i w = refl
words_wide (suc n) i w = let e = words_wide n (i + 1) w in omega (arith, e)

pub desk_wide : (setting : Setting) (change : Label → Change) (switches : TableId) (labels : List Label) (admin : State) (pen : Known) → IsDesk setting change switches labels admin pen → length admin.words ≡ 160
desk_wide setting change switches labels admin pen is = ap (λ (ws : List Word). length ws) (sym is.words_are) ∙ words_wide 160 0 pen.view

-- an action sets words one after another, each where its flags change
pub record SetsEach (words : List Word) (flags : List Flagging) (after : List Word) : Type 0 where
  pub to : ℕ → ℕ → ℕ
  pub first : ℕ
  pub count : ℕ
  pub low : first + count ≤ 160
  pub flags_are : flags ≡ flags_changed to words first count
  pub words_are : after ≡ words_changed to words first count

pub sets_none : (words : List Word) → SetsEach words [] words
unfolding flags_changed words_changed
sets_none words = record { to = λ word flags. flags; first = 0; count = 0; low = omega arith; flags_are = refl; words_are = refl }

pub sets_one : (words : List Word) (at to : ℕ) → at < 160 → SetsEach words (flagging words at to) (flagged words at to)
unfolding flags_changed words_changed
sets_one words at to low =
    let e : at ≡ at + 0 = omega arith in
    record { to = λ word flags. to; first = at; count = 1; low = omega (arith, low); flags_are = ap (λ z. flagging words z to) e; words_are = ap (λ z. flagged words z to) e }

pub worked : (setting : Setting) (change : Label → Change) (calls : List Call) (words after : List Word) (flags : List Flagging) (made : List Made) (moves : List Move) → SetsEach words flags after
    → length words ≡ 160 → has_met calls ≡ true → AllKeepWords (version_after setting change) calls → AreAsKnown (version_after setting change) calls words
    → AllKeepWords (version_after setting change) (its_of words flags made moves ++ calls) × AreAsKnown (version_after setting change) (its_of words flags made moves ++ calls) after
worked setting change calls words after flags made moves each wide met keeps known =
    let versions = version_after setting change in
    let quiet : List Call = signs_calls made ++ moves_calls moves in
    let P : List Word → Type 0 = λ ws. AllKeepWords versions (its_of words flags made moves ++ calls) × AreAsKnown versions (its_of words flags made moves ++ calls) ws in
    subst P (sym each.words_are) (work setting change calls words each.to each.first each.count made moves each.low wide met keeps known (its_of words flags made moves)
    (ap (λ fs. flagging_calls words fs ++ quiet) each.flags_are))

-- a connect sets the word of its thread alone
pub connect_sets : (words : List Word) (flags : ℕ) (after : Containers) (seat : Option Seated) → IfSome (placed_of seat).thread (λ n. n < 32)
    → SetsEach words (connect_work words flags after seat).flags (words_by words flags seat)
connect_sets words flags after None low = sets_none words
connect_sets words flags after (Some seat) low = sets_one words (1 + seat.slot) flags (omega (arith, low))

-- the administration, and the writer that a hold gave back, are a desk again
pub again : (setting : Setting) (change : Label → Change) (switches : TableId) (labels : List Label) (admin next : State) (later w : Known) (lent : Option Known) (told : Option (List Word))
    → StandsFor setting change labels admin → next ≡ admin → later ≡ w → lent ≡ Some w → option_map (λ (x : Known). words_of x.view) lent ≡ told → told ≡ Some admin.words
    → IfSome lent (λ (x : Known). x.switches ≡ switches) → IfSome lent (λ (x : Known). x.view.sets ≡ sets_of setting change labels) → IsDesk setting change switches labels next later
again setting change switches labels admin next later w lent told stands last mine some tells known from made =
    let e : Some (words_of w.view) ≡ Some admin.words = ap (λ (o : Option Known). option_map (λ (x : Known). words_of x.view) o) (sym some) ∙ (tells ∙ known) in
    record {
      stands = last ∙ stands;
      words_are = ap (λ (x : Known). words_of x.view) mine ∙ (ap (λ (o : Option (List Word)). unwrap_or o []) e ∙ ap (λ (s : State). s.words) (sym last));
      sets = ap (λ (x : Known). x.view.sets) mine ∙ subst (λ (o : Option Known). IfSome o (λ (x : Known). x.view.sets ≡ sets_of setting change labels)) some made;
      same = ap (λ (x : Known). x.switches) mine ∙ subst (λ (o : Option Known). IfSome o (λ (x : Known). x.switches ≡ switches)) some from;
    }

module _ (setting : Setting) (change : Label → Change) (switches : TableId) (labels : List Label) (admin : State) (pen : Known) where
  pub same_desk : IsDesk setting change switches labels admin pen → (a : State) → (p : Known) → a ≡ admin → p ≡ pen → IsDesk setting change switches labels a p
  same_desk is a p ea ep = record {
    stands = ea ∙ is.stands;
    words_are = ap (λ (w : Known). words_of w.view) ep ∙ (is.words_are ∙ ap (λ (s : State). s.words) (sym ea));
    sets = ap (λ (w : Known). w.view.sets) ep ∙ is.sets;
    same = ap (λ (w : Known). w.switches) ep ∙ is.same;
  }

  pub named : IsDesk setting change switches labels admin pen → length admin.names ≡ length setting.names
  named is = let e = (fixed_law setting change labels admin is.stands).0 in λ i. length (e i)

  -- behind the step of the label's change, with the writer that a hold gave back
  pub followed : IsDesk setting change switches labels admin pen → (label : Label) → (what : Change) → (b next : State) → (later w : Known) → (lent : Option Known) → (told : Option (List Word))
      → change label ≡ what → Follows label.session what admin b → next ≡ b → later ≡ w → lent ≡ Some w → option_map (λ (x : Known). words_of x.view) lent ≡ told → told ≡ Some b.words
      → IfSome lent (λ (x : Known). x.switches ≡ switches) → IfSome lent (λ (x : Known). x.view.sets ≡ sets_by admin.words (work_of_change admin label.session what).flags ++ sets_of setting change labels)
      → IsDesk setting change switches (labels ++ label ∷ []) next later
  followed is label what b next later w lent told whose step last mine some tells known from made =
      again setting change switches (labels ++ label ∷ []) b next later w lent told (step.stands setting change labels label refl whose is.stands) last mine some tells known from
      (subst (λ (ss : List WordSetting). IfSome lent (λ (x : Known). x.view.sets ≡ ss)) (sym (one_more_set setting change labels label what admin whose is.stands)) made)

-- a desk for one label more stands for what the action's own calls say
pub ended : (setting : Setting) (change : Label → Change) (switches : TableId) (label : Label) (labels : List Label) (next : State) (later : Known) (words : List Word) (flags : List Flagging) (made : List Made) (moves : List Move) (seen : List ℕ) (calls : List Call)
    → IsDesk setting change switches (labels ++ label ∷ []) next later
    → IsDesk setting change switches (labels_in (calls_of label labels seen calls (its_of words flags made moves)) ++ label_in (calls_of label labels seen calls (its_of words flags made moves)) ∷ []) next later
ended setting change switches label labels next later words flags made moves seen calls then =
    let first : List Call = Meets seen ∷ Enters label labels ∷ calls in
    let inside = its_inside words flags made moves first in
    let D : List Label → Label → Type 0 = λ ls l. IsDesk setting change switches (ls ++ l ∷ []) next later in
    subst (λ ls. D ls (label_in (its_of words flags made moves ++ first))) (sym inside.labels) (subst (λ l. D labels l) (sym inside.label) then)

pub acted : (setting : Setting) (change : Label → Change) (switches : TableId) (label : Label) (what : State → Work) (labels : List Label) (admin next : State) (pen later : Known) (calls : List Call) (moves : List Move) (made : List Made)
    (head : State → List Entry) (before after : List Entry)
    → after ≡ before ++ (head admin ++ (moves_entries moves ++ (signs_entries made ++ flagging_entries admin.words (what admin).flags)))
    → IsDesk setting change switches labels admin pen → IsDesk setting change switches (labels ++ label ∷ []) next later → AreMoves (what admin).moves moves → signs_of made ≡ (what admin).signs
    → SetsEach admin.words (what admin).flags next.words
    → HasActed setting change label what head admin calls (Leaves ∷ calls_of label labels pen.view.seen calls (its_of admin.words (what admin).flags made moves)) before after
acted setting change switches label what labels admin next pen later calls moves made head before after written is then are_moves are_signs sets =
    let its : List Call = its_of admin.words (what admin).flags made moves in
    let first : List Call = Meets pen.view.seen ∷ Enters label labels ∷ calls in
    record {
      labels = labels;
      stands = is.stands;
      seen = pen.view.seen;
      moves = moves;
      made = made;
      are_moves = are_moves;
      signs_are = are_signs;
      calls_are = refl;
      entries_are = written;
      keeps = λ outside keeps.
          let b = begun setting change switches label labels calls admin pen outside keeps is in
          let w = worked setting change first admin.words next.words (what admin).flags made moves sets (desk_wide setting change switches labels admin pen is) refl b.0 b.1 in
          left setting change switches (its ++ first) next later w.0 w.1
          (ended setting change switches label labels next later admin.words (what admin).flags made moves pen.view.seen calls then);
    }
