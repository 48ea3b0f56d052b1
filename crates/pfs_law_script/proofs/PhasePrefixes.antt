-- What a session has open before a phase, by its lines and by its blocks.
use Rattle.std.proofs.Common.{ℕ, ◌≡◌, ◌≤◌, ◌==◌, Bool, true, false, ◌||◌, not, cond, List, [], ◌∷◌, ◌++◌, Some, None, refl, ap, sym, ◌∙◌, subst, length, map, append_assoc, append-nil, inl, inr, arith}
use Rattle.std.specs.List.{list_any}
use Rattle.std.proofs.lemmas.Bool.Decides.{nat_tests}
use Rattle.std.proofs.lemmas.Bool.{cases_Bool}
use Rattle.pfs_event.specs.declared.kind.EventKind.{EventKind}
use Rattle.pfs_script.specs.declared.forms.Form.{Form}
use Rattle.pfs_script.specs.declared.forms.Form.TheVariants as form
use Rattle.pfs_script.specs.declared.blocks.Block.{Block}
use Rattle.pfs_script.specs.Brackets.{brackets_from, open_in, kinds_of, kinds_behind}
use Rattle.pfs_script.specs.LineCounts.{is_repeat, is_done, is_in_repeat}
use Rattle.pfs_script.specs.NestedBlocks.{IsNested}
use Rattle.pfs_script.specs.Sessions.{is_phase, ends_block, session_now, lines_in}
use Rattle.pfs_script.specs.Reasons.{mark_of_form, session_kinds, kinds_open}
use Rattle.pfs_script.specs.Blocks.{Sense, sense_of, with_front, block_line, block_lines, phases_of}
use Rattle.pfs_script.specs.Events.{blocks_for}
use Rattle.pfs_script.proofs.SessionTurns.{now_none, now_more, now_same, lines_ends, lines_other, kinds_own}
use Rattle.pfs_script.proofs.FaultlessLines.{Passes}
use Rattle.pfs_script.proofs.BlockNests.{Stand, start_session, nest, kinds_along, along_more}
use Rattle.pfs_law_script.specs.PlayableBlocks.{kinds_before, lines_among}
use Rattle.pfs_law_script.proofs.OwnBlocks.{blocks_from, from_none, from_phase, from_other, from_connect, from_resume, with_own, connected, resumed, all_own}
use Rattle.pfs_law_script.proofs.NestedLines.{along_blocks, BlocksNest, blocks_leave, blocks_few}

-- a block ends where the next phase begins
pub block_cut : (sense : Sense) (lines rest : List Form)
    → block_lines sense (lines ++ form.Phase ∷ rest) ≡ block_lines sense lines
unfolding block_lines
block_cut sense [] rest = refl
block_cut sense (line ∷ lines) rest =
    ap (λ more. cond (ends_block line) [] (with_front (block_line sense line) more)) (block_cut sense lines rest)

pub stand_front : (before lines rest : List Form) → Stand before (lines ++ rest) → Stand before lines
stand_front before [] rest s = tt
stand_front before (line ∷ lines) rest s = (s.0, stand_front (before ++ line ∷ []) lines rest s.1)

module _ (number : ℕ) (some : 1 ≤ number) (all front rest : List Form) where
  abbrev sense : Sense
  sense = sense_of all

  abbrev more : List Form → List Form
  more lines = lines ++ form.Phase ∷ rest

  -- the kinds of the session's events that are open behind its block so far, where it is the next line's
  abbrev kinds_by : Bool → List Form → List Form → List EventKind
  kinds_by b before lines =
      cond b (kinds_along (session_kinds number before) (block_lines sense lines)) (session_kinds number before)

  abbrev kinds_ahead : List Form → List Form → List EventKind
  kinds_ahead before lines = kinds_by (session_now before == number) before lines

  along_cut : (before lines : List Form) (line : Form) (kinds : List EventKind) → Passes before line
      → ends_block line ≡ false → all ≡ before ++ line ∷ more lines
      → kinds_along kinds (block_lines sense (line ∷ lines))
      ≡ kinds_along (kinds_behind (mark_of_form line) kinds) (block_lines sense lines)
  along_cut before lines line kinds p e is =
      ap (kinds_along kinds) (sym (block_cut sense (line ∷ lines) rest))
      ∙ (along_more all before (more lines) line kinds p e is
      ∙ ap (kinds_along (kinds_behind (mark_of_form line) kinds))
      (block_cut sense lines rest))

  ahead_by : (before lines : List Form) (line : Form) (b : Bool) → (session_now before == number) ≡ b
      → Passes before line → ends_block line ≡ false → all ≡ before ++ line ∷ more lines
      → kinds_by b before (line ∷ lines) ≡ kinds_by b (before ++ line ∷ []) lines
  ahead_by before lines line true here p e is =
      along_cut before lines line (session_kinds number before) p e is
      ∙ ap (λ kinds. kinds_along kinds (block_lines sense lines)) (sym (kinds_own number before line here e))
  ahead_by before lines line false other p e is =
      ap (λ lines. kinds_of (open_in (map mark_of_form lines))) (sym (lines_other number before line other))

  ahead_inside : (before lines : List Form) (line : Form) → Passes before line → ends_block line ≡ false
      → all ≡ before ++ line ∷ more lines → kinds_ahead before (line ∷ lines) ≡ kinds_ahead (before ++ line ∷ []) lines
  ahead_inside before lines line p e is =
      ahead_by before lines line (session_now before == number) refl p e is
      ∙ ap (λ session. kinds_by (session == number) (before ++ line ∷ []) lines) (sym (now_same before line e))

  ahead_choose : (b : Bool) (kinds : List EventKind) → cond b kinds kinds ≡ kinds
  ahead_choose true kinds = refl
  ahead_choose false kinds = refl

  -- where a block ends
  ahead_ends : (before lines : List Form) (line : Form) → ends_block line ≡ true
      → kinds_ahead before (line ∷ lines) ≡ session_kinds number before
  unfolding block_lines
  ahead_ends before lines line e = rw e (ahead_choose (session_now before == number) (session_kinds number before))

  ahead_none : (before : List Form) → kinds_ahead before [] ≡ session_kinds number before
  unfolding block_lines
  ahead_none before = ahead_choose (session_now before == number) (session_kinds number before)

  kept : (before : List Form) (line : Form) → ends_block line ≡ true
      → session_kinds number (before ++ line ∷ []) ≡ session_kinds number before
  kept before line e = ap (λ lines. kinds_of (open_in (map mark_of_form lines))) (lines_ends number before line e)

  -- blocks nest from these kinds on, and leave what the session has open behind all lines before the phase
  abbrev GoOn : List EventKind → List Block → Type 0
  GoOn kinds blocks = BlocksNest kinds blocks × (along_blocks kinds blocks ≡ session_kinds number front)

  abbrev Goes : List Form → List Form → Type 0
  Goes before lines = GoOn (kinds_ahead before lines) (blocks_from number sense lines)

  not_zero : (0 == number) ≡ false
  not_zero = grind (arith, nat_tests, some)

  -- a line that begins no block of the session
  go_apart : (before lines : List Form) (line : Form) (session : ℕ) → ends_block line ≡ true
      → session_now (before ++ line ∷ []) ≡ session → (session == number) ≡ false
      → blocks_from number sense (line ∷ lines) ≡ blocks_from number sense lines
      → Goes (before ++ line ∷ []) lines → Goes before (line ∷ lines)
  go_apart before lines line session e now other same goes =
      let behind : kinds_ahead (before ++ line ∷ []) lines ≡ session_kinds number before =
      ap (λ session. kinds_by (session == number) (before ++ line ∷ []) lines) now
      ∙ (ap (λ b. kinds_by b (before ++ line ∷ []) lines) other ∙ kept before line e) in
      subst (λ blocks. GoOn (kinds_ahead before (line ∷ lines)) blocks) (sym same)
      (subst (λ kinds. GoOn kinds (blocks_from number sense lines))
      (behind ∙ sym (ahead_ends before lines line e)) goes)

  block_nests : (before lines : List Form) (line : Form) (session : ℕ) → ends_block line ≡ true
      → is_repeat line ≡ false → is_done line ≡ false → (not (list_any is_phase before) || is_in_repeat before) ≡ false
      → session_now (before ++ line ∷ []) ≡ session → (session == number) ≡ true
      → Stand (before ++ line ∷ []) (more lines) → all ≡ (before ++ line ∷ []) ++ more lines
      → IsNested (session_kinds number before) None (block_lines sense lines)
  unfolding kinds_open
  block_nests before lines line session e r d place now own s is =
      let same : session ≡ number = grind (arith, nat_tests, own) in
      let kinds : kinds_open (before ++ line ∷ []) ≡ session_kinds number before =
      ap (λ session. session_kinds session (before ++ line ∷ [])) (now ∙ same) ∙ kept before line e in
      rw (kinds, start_session before line r d place, block_cut sense lines rest) at
      (nest all (before ++ line ∷ []) (more lines) s is)

  -- and one that does
  go_own : (before lines : List Form) (line : Form) (session : ℕ) (block : Block) → ends_block line ≡ true
      → is_repeat line ≡ false → is_done line ≡ false → (not (list_any is_phase before) || is_in_repeat before) ≡ false
      → session_now (before ++ line ∷ []) ≡ session → (session == number) ≡ true
      → blocks_from number sense (line ∷ lines) ≡ block ∷ blocks_from number sense lines
      → block.lines ≡ block_lines sense lines → Stand (before ++ line ∷ []) (more lines)
      → all ≡ (before ++ line ∷ []) ++ more lines → Goes (before ++ line ∷ []) lines → Goes before (line ∷ lines)
  go_own before lines line session block e r d place now own come says s is goes =
      let kinds = session_kinds number before in
      let nested : IsNested kinds None block.lines =
      subst (IsNested kinds None) (sym says) (block_nests before lines line session e r d place now own s is) in
      let behind : kinds_ahead (before ++ line ∷ []) lines ≡ kinds_along kinds block.lines =
      ap (λ session. kinds_by (session == number) (before ++ line ∷ []) lines) now
      ∙ (ap (λ b. kinds_by b (before ++ line ∷ []) lines) own
      ∙ (ap (λ kinds. kinds_along kinds (block_lines sense lines)) (kept before line e)
      ∙ ap (kinds_along kinds) (sym says))) in
      let rest_goes = subst (λ kinds. GoOn kinds (blocks_from number sense lines)) behind goes in
      subst (λ blocks. GoOn (kinds_ahead before (line ∷ lines)) blocks) (sym come)
      (subst (λ kinds. GoOn kinds (block ∷ blocks_from number sense lines)) (sym (ahead_ends before lines line e))
      ((nested, rest_goes.0), rest_goes.1))

  with_other : (b : Bool) (block : Block) (blocks : List Block) → b ≡ false
      → with_own number sense b block blocks ≡ blocks
  with_other true block blocks e = cc
  with_other false block blocks e = refl

  with_same : (b : Bool) (block : Block) (blocks : List Block) → b ≡ true
      → with_own number sense b block blocks ≡ block ∷ blocks
  with_same true block blocks e = refl
  with_same false block blocks e = cc

  go_block : (before lines : List Form) (line : Form) (session : ℕ) (block : Block) → ends_block line ≡ true
      → is_repeat line ≡ false → is_done line ≡ false → (not (list_any is_phase before) || is_in_repeat before) ≡ false
      → session_now (before ++ line ∷ []) ≡ session
      → blocks_from number sense (line ∷ lines)
      ≡ with_own number sense (session == number) block (blocks_from number sense lines)
      → block.lines ≡ block_lines sense lines → Stand (before ++ line ∷ []) (more lines)
      → all ≡ (before ++ line ∷ []) ++ more lines → Goes (before ++ line ∷ []) lines → Goes before (line ∷ lines)
  go_block before lines line session block e r d place now from says s is goes =
      elim (cases_Bool (session == number)) [
        | inl own ↦
            go_own before lines line session block e r d place now own
            (from ∙ with_same (session == number) block (blocks_from number sense lines) own) says s is goes
        | inr other ↦
            go_apart before lines line session e now other
            (from ∙ with_other (session == number) block (blocks_from number sense lines) other) goes
      ]

  go_end : (before lines : List Form) (line : Form) → Passes before line → ends_block line ≡ true
      → Stand (before ++ line ∷ []) (more lines) → all ≡ (before ++ line ∷ []) ++ more lines
      → Goes (before ++ line ∷ []) lines → Goes before (line ∷ lines)
  go_end before lines form.Phase p e s is goes =
      go_apart before lines form.Phase 0 refl (now_more before form.Phase) not_zero (from_phase number sense lines) goes
  go_end before lines (form.Connect (Some session) user host) p e s is goes =
      let line = form.Connect (Some session) user host in
      go_block before lines line session (connected number sense session user host lines) refl refl refl p.place
      (now_more before line) (from_connect number sense session user host lines) refl s is goes
  go_end before lines (form.Resume (Some session)) p e s is goes =
      let line = form.Resume (Some session) in
      go_block before lines line session (resumed number sense session lines) refl refl refl p.place
      (now_more before line) (from_resume number sense session lines) refl s is goes
  go_end before lines (form.Connect None user host) p e s is goes = absurd (let q = p.number in cc)
  go_end before lines (form.Resume None) p e s is goes = absurd (let q = p.number in cc)
  go_end before lines _ p e s is goes = cc

  go : (before lines : List Form) → Stand before (more lines) → all ≡ before ++ more lines
      → front ≡ before ++ lines → Goes before lines
  go before [] s is here =
      subst (λ blocks. GoOn (kinds_ahead before []) blocks) (sym (from_none number sense))
      (tt, ahead_none before ∙ ap (session_kinds number) (sym (here ∙ append-nil before)))
  go before (line ∷ lines) s is here =
      let further = is ∙ sym (append_assoc before (line ∷ []) (more lines)) in
      let goes = go (before ++ line ∷ []) lines s.1 further (here ∙ sym (append_assoc before (line ∷ []) lines)) in
      elim (cases_Bool (ends_block line)) [
        | inl e ↦ go_end before lines line s.0 e s.1 further goes
        | inr e ↦
            subst (λ blocks. GoOn (kinds_ahead before (line ∷ lines)) blocks)
            (sym (from_other number sense line lines e))
            (subst (λ kinds. GoOn kinds (blocks_from number sense lines))
            (sym (ahead_inside before lines line s.0 e is)) goes)
      ]

  none_by : (b : Bool) → b ≡ false → kinds_by b [] front ≡ []
  unfolding lines_in brackets_from
  none_by true e = cc
  none_by false e = refl

  none_open : kinds_ahead [] front ≡ []
  none_open = none_by (session_now [] == number) (ap (λ session. session == number) now_none ∙ not_zero)

  abbrev own_blocks : List Block
  own_blocks = blocks_for number (phases_of sense front)

  goes_first : Stand [] (more front) → all ≡ more front → GoOn [] own_blocks
  goes_first s is =
      subst (λ blocks. GoOn [] blocks) (all_own number sense front (stand_front [] front (form.Phase ∷ rest) s))
      (subst (λ kinds. GoOn kinds (blocks_from number sense front)) none_open (go [] front s is refl))

  -- with each repeat written out its blocks leave the same open as its lines do as they stand
  pub kinds_are : Stand [] (more front) → all ≡ more front
      → session_kinds number front ≡ kinds_before number (phases_of sense front)
  unfolding brackets_from
  kinds_are s is =
      let goes = goes_first s is in
      sym (blocks_leave own_blocks [] [] goes.0 refl ∙ goes.1)

  pub few_kinds : Stand [] (more front) → all ≡ more front
      → length (session_kinds number front) ≤ lines_among own_blocks
  few_kinds s is =
      let goes = goes_first s is in
      let few = blocks_few [] own_blocks in
      let same = ap {B = ℕ} length goes.1 in
      omega (arith, few, same)
