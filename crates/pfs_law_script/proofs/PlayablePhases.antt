-- The blocks of each phase of a script may be played.
use Rattle.std.proofs.Common.{ℕ, ◌≡◌, ◌≤◌, ◌+◌, ◌==◌, true, false, ◌||◌, not, List, [], ◌∷◌, ◌++◌, Some, None, refl, ap, sym, ◌∙◌, subst, length, map, append_assoc, length-append, inl, inr, arith}
use Rattle.std.specs.Prelude.{MatchOption, filter}
use Rattle.std.specs.List.{list_any, All}
use Rattle.std.proofs.lemmas.List.Elements.{All-cons}
use Rattle.std.proofs.lemmas.Bool.{cases_Bool}
use Rattle.pfs_lemmas.proofs.Numbers.{eq_self}
use Rattle.pfs_lemmas.proofs.Bools.{or_first}
use Rattle.pfs_script.specs.declared.forms.Form.{Form}
use Rattle.pfs_script.specs.declared.forms.Form.TheVariants as form
use Rattle.pfs_script.specs.declared.blocks.Block.{Block}
use Rattle.pfs_script.specs.declared.blocks.Phase.{Phase}
use Rattle.pfs_script.specs.Brackets.{open_in, kinds_of}
use Rattle.pfs_script.specs.LineCounts.{is_repeat, is_done, is_in_repeat}
use Rattle.pfs_script.specs.NestedBlocks.{IsNested}
use Rattle.pfs_script.specs.Sessions.{is_phase, is_block_of, ends_block, session_now}
use Rattle.pfs_script.specs.Reasons.{mark_of_form, session_kinds, kinds_open, is_outside}
use Rattle.pfs_script.specs.Blocks.{Sense, sense_of, with_front, block_lines, block_behind, blocks_of, phases_of}
use Rattle.pfs_script.specs.Events.{blocks_for, lines_for}
use Rattle.pfs_script.specs.Marks.{written_out}
use Rattle.pfs_script.specs.Scripts.{IsScript}
use Rattle.pfs_script.proofs.LinesBehind.{any_more}
use Rattle.pfs_script.proofs.BlockNests.{Stand, stand_of, start_session, nest, kinds_along}
use Rattle.pfs_script.proofs.FaultlessLines.{Passes}
use Rattle.pfs_script.proofs.SessionTurns.{now_more, lines_ends}
use Rattle.pfs_script.proofs.WrittenLengths.{length_counted, written_short}
use Rattle.pfs_law_script.specs.PlayableBlocks.{kinds_before, lines_among, end_of, HasBody, IsPlayableBlock, IsPlayable, PlayableLaw}
use Rattle.pfs_law_script.proofs.BlockBodies.{say}
use Rattle.pfs_law_script.proofs.Bools.{or_true}
use Rattle.pfs_law_script.proofs.LineBounds.{few_lines}
use Rattle.pfs_law_script.proofs.OwnBlocks.{is_own, connected, resumed, all_own, none_begun, some_begun}
use Rattle.pfs_law_script.proofs.PhasePrefixes.{stand_front, kinds_are, few_kinds}
use Rattle.pfs_law_script.proofs.OwnLines.{said_few, blocks_few}
use Rattle.pfs_law_script.proofs.PhaseSessions.{low_of, high_of, connect_new, connect_free, resume_old, resume_free, apart, AreAsBefore, phase_first, phase_more}
use Rattle.pfs_law_script.proofs.PhaseSplits.{stand_behind, Splits, split}
use Rattle.pfs_law_script.proofs.PlayableLines.{may_play, along_after, after_end}
use Rattle.pfs_law_script.proofs.NestedLines.{block_leaves}
use Rattle.pfs_play.specs.Errands.{kinds_after}

all_none : {A : Type 0} (P : A → Type 0) → All P []
all_none P k d h = absurd (omega (arith, h))

second_none : {A : Type 0} (first second : List A) → first ++ second ≡ [] → second ≡ []
second_none [] second e = e
second_none (x ∷ first) second e = cc

-- the phase behind these lines, which begins a script with the lines behind its own
module _ (all front rest : List Form) (stands : Stand [] all) (are : all ≡ front ++ form.Phase ∷ rest) where
  abbrev sense : Sense
  sense = sense_of all

  abbrev earlier : List Phase
  earlier = phases_of sense front

  abbrev later : List Phase
  later = phases_of sense rest

  all_stand : Stand [] (front ++ form.Phase ∷ rest)
  all_stand = subst (Stand []) are stands

  front_stand : Stand [] front
  front_stand = stand_front [] front (form.Phase ∷ rest) all_stand

  -- its session has blocks before the phase just where it has them in the phases before
  none_before : (number : ℕ) → list_any (is_block_of number) front ≡ false → blocks_for number earlier ≡ []
  none_before number e = sym (all_own number sense front front_stand) ∙ none_begun number sense [] front front_stand e

  some_before : (number : ℕ) → list_any (is_block_of number) front ≡ true → ¬ (blocks_for number earlier ≡ [])
  some_before number e = λ none.
      some_begun number sense [] front front_stand e (all_own number sense front front_stand ∙ none)

  kept : (number : ℕ) (before : List Form) (line : Form) → ends_block line ≡ true
      → session_kinds number (before ++ line ∷ []) ≡ session_kinds number before
  kept number before line e =
      ap (λ lines. kinds_of (open_in (map mark_of_form lines))) (lines_ends number before line e)

  open_first : (number : ℕ) (before : List Form) (line : Form) → ends_block line ≡ true
      → session_now (before ++ line ∷ []) ≡ number → kinds_open (before ++ line ∷ []) ≡ session_kinds number before
  unfolding kinds_open
  open_first number before line e now =
      ap (λ session. session_kinds session (before ++ line ∷ [])) now ∙ kept number before line e

  block_nests : (number : ℕ) (before lines : List Form) (line : Form) → ends_block line ≡ true
      → is_repeat line ≡ false → is_done line ≡ false → (not (list_any is_phase before) || is_in_repeat before) ≡ false
      → session_now (before ++ line ∷ []) ≡ number → Stand (before ++ line ∷ []) lines
      → all ≡ (before ++ line ∷ []) ++ lines → IsNested (session_kinds number before) None (block_lines sense lines)
  block_nests number before lines line e r d place now s is =
      rw (open_first number before line e now, start_session before line r d place) at
      (nest all (before ++ line ∷ []) lines s is)

  body_may : (block : Block) (before lines : List Form) (line : Form) → 1 ≤ block.session
      → block.lines ≡ block_lines sense lines → ends_block line ≡ true → is_repeat line ≡ false → is_done line ≡ false
      → (not (list_any is_phase before) || is_in_repeat before) ≡ false
      → session_now (before ++ line ∷ []) ≡ block.session → is_block_of block.session line ≡ true
      → session_kinds block.session before ≡ session_kinds block.session front → Stand (before ++ line ∷ []) lines
      → all ≡ (before ++ line ∷ []) ++ lines → HasBody earlier (phases_of sense lines) block
  body_may block before lines line some says e r d place now own same s is =
      let number = block.session in
      let here = ap (λ session. session == number) now ∙ eq_self number in
      let begun = any_more (is_block_of number) before line
      ∙ or_true (list_any (is_block_of number) before) (is_block_of number line) own in
      let said = say all stands number (before ++ line ∷ []) lines s is here begun in
      let begun_with = open_first number before line e now in
      let kinds : session_kinds number before ≡ kinds_before number earlier =
      same ∙ kinds_are number some all front rest all_stand are in
      let nested : IsNested (kinds_before number earlier) None (said.body ++ end_of said.quits) =
      subst (λ lines. IsNested (kinds_before number earlier) None lines) said.are
      (subst (λ kinds. IsNested kinds None (block_lines sense lines)) kinds
      (block_nests number before lines line e r d place now s is)) in
      let few = few_kinds number some all front rest all_stand are in
      let count = ap {B = ℕ} length (kinds_are number some all front rest all_stand are) in
      let long = ap {B = ℕ} length (says ∙ said.are) in
      record {
        body = said.body;
        quits = said.quits;
        lines = says ∙ said.are;
        plays = λ depth h.
            may_play depth (kinds_before number earlier) None said.body (end_of said.quits) nested said.such
            (omega (arith, h, few, count, long, length-append said.body (end_of said.quits)));
        behind =
            block_leaves (lines_for number earlier) block.lines (kinds_before number earlier) refl
            (subst (IsNested (kinds_before number earlier) None) (sym (says ∙ said.are)) nested)
            ∙ along_after (kinds_before number earlier) block.lines;
        closed = λ quits.
            sym (after_end (kinds_before number earlier) said.body said.quits)
            ∙ (ap (kinds_after (kinds_before number earlier)) (sym said.are)
            ∙ (sym (along_after (kinds_before number earlier) (block_lines sense lines))
            ∙ (ap (λ kinds. kinds_along kinds (block_lines sense lines)) (sym (begun_with ∙ kinds))
            ∙ said.closed quits)));
        last = λ quits.
            second_none (filter (is_own number sense) (blocks_of sense lines))
            (blocks_for number (phases_of sense lines)) (said.last quits);
      }

  lines_few : (number : ℕ) (before lines : List Form) → length front ≤ length before → all ≡ before ++ lines
      → lines_among (blocks_for number earlier) + length (block_lines sense lines) ≤ 200000
  lines_few number before lines long is =
      let own = ap {B = ℕ} lines_among (all_own number sense front front_stand) in
      let total = ap {B = ℕ} length is in
      omega (
        arith,
        own,
        total,
        long,
        blocks_few number sense front front_stand,
        said_few sense lines,
        length-append before lines,
        length_counted all,
        few_lines all stands,
      )

  -- a block that begins in the phase
  block_may : (block : Block) (before lines : List Form) (line : Form) → 1 ≤ block.session → block.session ≤ 64
      → block.lines ≡ block_lines sense lines → ends_block line ≡ true → is_repeat line ≡ false → is_done line ≡ false
      → (not (list_any is_phase before) || is_in_repeat before) ≡ false
      → session_now (before ++ line ∷ []) ≡ block.session → is_block_of block.session line ≡ true
      → session_kinds block.session before ≡ session_kinds block.session front
      → MatchOption block.connect (¬ (blocks_for block.session earlier ≡ []))
      (λ connect. blocks_for block.session earlier ≡ [])
      → length front ≤ length (before ++ line ∷ []) → Stand (before ++ line ∷ []) lines
      → all ≡ (before ++ line ∷ []) ++ lines → IsPlayableBlock earlier (phases_of sense lines) block
  block_may block before lines line low high says e r d place now own same first long s is =
      let short = written_short sense all (before ++ line ∷ []) lines is (few_lines all stands) in
      record {
        low = low;
        high = high;
        first = first;
        body = body_may block before lines line low says e r d place now own same s is;
        short = subst (λ said. length (written_out said) ≤ 200000) (sym says) short;
        few = omega (
          arith,
          ap {B = ℕ} length says,
          lines_few block.session (before ++ line ∷ []) lines long is,
        );
      }

  connect_may : (before lines : List Form) (number : ℕ) (user host : List ℕ)
      → Passes before (form.Connect (Some number) user host) → AreAsBefore front before
      → length front ≤ length (before ++ form.Connect (Some number) user host ∷ [])
      → Stand (before ++ form.Connect (Some number) user host ∷ []) lines
      → all ≡ (before ++ form.Connect (Some number) user host ∷ []) ++ lines
      → IsPlayableBlock earlier (phases_of sense lines) (connected number sense number user host lines)
  connect_may before lines number user host p old long s is =
      let line = form.Connect (Some number) user host in
      let within = or_first (is_outside number) (list_any (is_block_of number) before) p.session in
      let low = low_of number within in
      let was = old number low (connect_free before number user host p) in
      block_may (connected number sense number user host lines) before lines line low (high_of number within) refl
      refl refl refl p.place (now_more before line) (eq_self number) was.kinds
      (none_before number (sym was.begun ∙ connect_new before number user host p)) long s is

  resume_may : (before lines : List Form) (number : ℕ) → Passes before (form.Resume (Some number))
      → AreAsBefore front before → length front ≤ length (before ++ form.Resume (Some number) ∷ [])
      → Stand (before ++ form.Resume (Some number) ∷ []) lines
      → all ≡ (before ++ form.Resume (Some number) ∷ []) ++ lines
      → IsPlayableBlock earlier (phases_of sense lines) (resumed number sense number lines)
  resume_may before lines number p old long s is =
      let line = form.Resume (Some number) in
      let within = or_first (is_outside number) _ p.session in
      let low = low_of number within in
      let was = old number low (resume_free before number p) in
      block_may (resumed number sense number lines) before lines line low (high_of number within) refl
      refl refl refl p.place (now_more before line) (eq_self number) was.kinds
      (some_before number (sym was.begun ∙ resume_old before number p)) long s is

  abbrev May : List Block → Type 0
  May blocks = All (IsPlayableBlock earlier later) blocks

  front_may : (before lines : List Form) (line : Form) (blocks : List Block) → Passes before line
      → AreAsBefore front before → length front ≤ length (before ++ line ∷ []) → Stand (before ++ line ∷ []) lines
      → all ≡ (before ++ line ∷ []) ++ lines → phases_of sense lines ≡ later → May blocks
      → May (with_front (block_behind sense lines line) blocks)
  front_may before lines (form.Connect (Some number) user host) blocks p old long s is end may =
      let block = connected number sense number user host lines in
      All-cons (IsPlayableBlock earlier later) block blocks
      (subst (λ after. IsPlayableBlock earlier after block) end
      (connect_may before lines number user host p old long s is)) may
  front_may before lines (form.Resume (Some number)) blocks p old long s is end may =
      let block = resumed number sense number lines in
      All-cons (IsPlayableBlock earlier later) block blocks
      (subst (λ after. IsPlayableBlock earlier after block) end (resume_may before lines number p old long s is)) may
  front_may before lines (form.Connect None user host) blocks p old long s is end may = may
  front_may before lines (form.Resume None) blocks p old long s is end may = may
  front_may before lines line blocks p old long s is end may = may

  goes_on : (line : Form) (lines : List Form) → is_phase line ≡ false
      → phases_of sense (line ∷ lines) ≡ phases_of sense lines
  unfolding phases_of
  goes_on line lines p = rw p refl

  blocks_may : (before lines : List Form) → AreAsBefore front before → length front ≤ length before
      → Stand before lines → all ≡ before ++ lines → phases_of sense lines ≡ later → May (blocks_of sense lines)
  unfolding blocks_of
  blocks_may before [] old long s is end = all_none (IsPlayableBlock earlier later)
  blocks_may before (line ∷ lines) old long s is end =
      let further = is ∙ sym (append_assoc before (line ∷ []) lines) in
      elim (cases_Bool (is_phase line)) [
        | inl p ↦ rw p (all_none (IsPlayableBlock earlier later))
        | inr p ↦
            let ended = sym (goes_on line lines p) ∙ end in
            let longer : length front ≤ length (before ++ line ∷ []) =
            omega (arith, long, length-append before (line ∷ [])) in
            rw p (front_may before lines line (blocks_of sense lines) s.0 old longer s.1 further ended
            (blocks_may (before ++ line ∷ []) lines (phase_more front before line p old) longer s.1 further ended))
      ]

  phase_may : IsPlayable earlier (record { blocks = blocks_of sense rest }) later
  phase_may =
      let begun = front ++ form.Phase ∷ [] in
      let stand = (stand_behind [] front (form.Phase ∷ rest) all_stand).1 in
      record {
        sessions = (apart sense begun rest stand).distinct;
        blocks = blocks_may begun rest (phase_first front) (omega (arith, length-append front (form.Phase ∷ []))) stand
            (are ∙ sym (append_assoc front (form.Phase ∷ []) rest)) refl;
      }

may_by : (all : List Form) (before : List Phase) (phase : Phase) (after : List Phase) → Stand [] all
    → Splits (sense_of all) all before phase after → IsPlayable before phase after
may_by all before phase after stands s =
    let here = phase_may all s.front s.rest stands s.are in
    subst (λ before. IsPlayable before phase after) (sym s.earlier)
    (subst (λ phase. IsPlayable (phases_of (sense_of all) s.front) phase after) (sym s.here)
    (subst (λ after. IsPlayable (phases_of (sense_of all) s.front)
    (record { blocks = blocks_of (sense_of all) s.rest }) after) (sym s.later) here))

pub playable : PlayableLaw
unfolding IsScript
playable text setting phases before phase after s e =
    let lines = s.0 in
    may_by lines before phase after (stand_of [] s.1.0 lines s.1.2)
    (split (sense_of lines) lines before phase after (sym s.3 ∙ e))
