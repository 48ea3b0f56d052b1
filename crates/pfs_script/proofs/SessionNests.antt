-- The events of a session nest over all phases of a script.
use Rattle.std.proofs.Common.{ℕ, zero, suc, ◌≡◌, ◌≤◌, ◌==◌, Bool, true, false, ◌||◌, ◌&&◌, not, cond, List, [], ◌∷◌, ◌++◌, Option, Some, None, refl, ap, sym, ◌∙◌, subst, map, append_assoc, append-nil, ◌⊎◌, inl, inr, arith}
use Rattle.std.specs.Prelude.{filter, nat_le}
use Rattle.std.specs.List.{list_any, flat_map}
use Rattle.std.proofs.lemmas.Bool.Decides.{nat_tests}
use Rattle.std.proofs.lemmas.List.{map-append}
use Rattle.std.proofs.lemmas.List.Elements.{filter-append}
use Rattle.std.proofs.lemmas.Bool.{cases_Bool}
use Rattle.pfs_lemmas.proofs.Bools.{or_first, or_second}
use Rattle.pfs_classes.specs.declared.setting.Setting.{Setting}
use Rattle.pfs_script.specs.declared.forms.Form.{Form}
use Rattle.pfs_script.specs.declared.forms.Form.TheVariants as form
use Rattle.pfs_script.specs.declared.blocks.Block.{Block}
use Rattle.pfs_script.specs.declared.blocks.BlockLine.{BlockLine}
use Rattle.pfs_script.specs.declared.blocks.BlockLine.TheVariants as said
use Rattle.pfs_script.specs.declared.blocks.Phase.{Phase}
use Rattle.pfs_event.specs.declared.kind.EventKind.{EventKind}
use Rattle.pfs_script.specs.Marks.{Mark, mark_of, Repeated, copies, written_from, written_out}
use Rattle.pfs_script.specs.Brackets.{brackets_from, open_in, kinds_of, kinds_behind, may_stand, Follows}
use Rattle.pfs_script.specs.NestedBlocks.{IsNested}
use Rattle.pfs_script.specs.LineCounts.{is_repeat, is_done, is_in_repeat}
use Rattle.pfs_script.specs.Sessions.{is_phase, is_session, is_block_of, phase_of, ends_block, session_now, lines_in, has_quit}
use Rattle.pfs_script.specs.Reasons.{mark_of_form, session_kinds, kinds_open}
use Rattle.pfs_script.specs.SessionNames.{connect_of}
use Rattle.pfs_script.specs.Blocks.{Sense, sense_of, block_lines, block_behind, blocks_of, phases_of}
use Rattle.pfs_script.specs.Events.{blocks_for, lines_for}
use Rattle.pfs_script.specs.Scripts.{IsScript}
use Rattle.pfs_script.proofs.LinesBehind.{any_more}
use Rattle.pfs_script.proofs.SessionTurns.{now_none, now_more, now_same, lines_ends, lines_other, kinds_own}
use Rattle.pfs_script.proofs.MarkNests.{kinds_more, follows_append, repeats}
use Rattle.pfs_script.proofs.FaultlessLines.{Passes}
use Rattle.pfs_script.proofs.BlockNests.{Stand, stand_of, start_session, nest, kinds_along, along_more}

-- lines that nest may stand one after another, with each repeat written out

-- behind these marks the lines may stand, and leave events of these kinds open
record Leaves (marks : List Mark) (kinds : List EventKind) (lines : List BlockLine) : Type 0 where
  follows : Follows marks (map mark_of lines)
  behind : kinds_of (open_in (marks ++ map mark_of lines)) ≡ kinds

map-copies : (times : ℕ) (lines : List BlockLine) → map mark_of (copies times lines) ≡ copies times (map mark_of lines)
unfolding copies
map-copies zero lines = refl
map-copies (suc times) lines = map-append mark_of lines (copies times lines) ∙ ap (λ marks. map mark_of lines ++ marks) (map-copies times lines)

none_left : (marks : List Mark) (kinds : List EventKind) → kinds_of (open_in marks) ≡ kinds → Leaves marks kinds []
none_left marks kinds h = record { follows = tt; behind = ap (λ marks. kinds_of (open_in marks)) (append-nil marks) ∙ h }

one_left : (marks : List Mark) (kinds after : List EventKind) (line : BlockLine) (lines : List BlockLine) → kinds_of (open_in marks) ≡ kinds → may_stand kinds (mark_of line) ≡ true → Leaves (marks ++ mark_of line ∷ []) after lines → Leaves marks after (line ∷ lines)
one_left marks kinds after line lines h may l = record {
  follows = (ap (λ kinds. may_stand kinds (mark_of line)) h ∙ may, l.follows);
  behind = ap (λ marks. kinds_of (open_in marks)) (sym (append_assoc marks (mark_of line ∷ []) (map mark_of lines))) ∙ l.behind;
}

both_left : (marks : List Mark) (after : List EventKind) (first second : List BlockLine) → Follows marks (map mark_of first) → Leaves (marks ++ map mark_of first) after second → Leaves marks after (first ++ second)
both_left marks after first second f l = record {
  follows = rw (map-append mark_of first second) (follows_append marks (map mark_of first) (map mark_of second) f l.follows);
  behind = rw (map-append mark_of first second) (ap (λ marks. kinds_of (open_in marks)) (sym (append_assoc marks (map mark_of first) (map mark_of second))) ∙ l.behind);
}

one_behind : (marks : List Mark) (kinds : List EventKind) (line : BlockLine) → kinds_of (open_in marks) ≡ kinds → kinds_of (open_in (marks ++ mark_of line ∷ [])) ≡ kinds_behind (mark_of line) kinds
one_behind marks kinds line h = kinds_more marks (mark_of line) ∙ ap (kinds_behind (mark_of line)) h

-- how it stands behind marks and the lines so far of a repeat that isn't done
abbrev Is : Option Repeated → Option (List EventKind) → List Mark → List EventKind → Type 0
Is None None marks kinds = kinds_of (open_in marks) ≡ kinds
Is (Some loop) (Some start) marks kinds = (kinds_of (open_in marks) ≡ start) × Leaves marks kinds loop.body
Is None (Some start) marks kinds = ⊥
Is (Some loop) None marks kinds = ⊥

pushed : (marks : List Mark) (kinds : List EventKind) (body : List BlockLine) (line : BlockLine) → Leaves marks kinds body → may_stand kinds (mark_of line) ≡ true → Leaves marks (kinds_behind (mark_of line) kinds) (body ++ line ∷ [])
pushed marks kinds body line l may =
    both_left marks (kinds_behind (mark_of line) kinds) body (line ∷ []) l.follows
    (one_left (marks ++ map mark_of body) kinds (kinds_behind (mark_of line) kinds) line [] l.behind may
    (none_left ((marks ++ map mark_of body) ++ mark_of line ∷ []) (kinds_behind (mark_of line) kinds) (one_behind (marks ++ map mark_of body) kinds line l.behind)))

-- a repeat that is done has its lines so many times
done_left : (marks : List Mark) (start kinds after : List EventKind) (times : ℕ) (body lines : List BlockLine) → kinds_of (open_in marks) ≡ start → Leaves marks kinds body → kinds ≡ start
    → ((more : List Mark) → kinds_of (open_in more) ≡ kinds → Leaves more after lines) → Leaves marks after (copies times body ++ lines)
done_left marks start kinds after times body lines h l same rest =
    let again = repeats marks (map mark_of body) l.follows (l.behind ∙ (same ∙ sym h)) times in
    both_left marks after (copies times body) lines (rw (map-copies times body) again.0)
    (rest (marks ++ map mark_of (copies times body)) (rw (map-copies times body) (again.1 ∙ (h ∙ sym same))))

leaves : (loop : Option Repeated) (start : Option (List EventKind)) (block : List BlockLine) (marks : List Mark) (kinds : List EventKind) → Is loop start marks kinds → IsNested kinds start block → Leaves marks (kinds_along kinds block) (written_from loop block)
unfolding IsNested written_from
leaves None (Some start) block marks kinds h n = absurd h
leaves (Some loop) None block marks kinds h n = absurd h
leaves None None [] marks kinds h n = none_left marks kinds h
leaves (Some loop) (Some start) [] marks kinds h n = h.1
leaves None None (said.Repeat times ∷ rest) marks kinds h n = leaves (Some (record { times = times; body = [] })) (Some kinds) rest marks kinds (h, none_left marks kinds h) n
leaves (Some loop) (Some start) (said.Done ∷ rest) marks kinds h n =
    done_left marks start kinds (kinds_along kinds rest) loop.times loop.body (written_from None rest) h.0 h.1 n.0 (λ more is. leaves None None rest more kinds is n.1)
leaves None None (line ∷ rest) marks kinds h n =
    one_left marks kinds (kinds_along (kinds_behind (mark_of line) kinds) rest) line (written_from None rest) h n.0
    (leaves None None rest (marks ++ mark_of line ∷ []) (kinds_behind (mark_of line) kinds) (one_behind marks kinds line h) n.1)
leaves (Some loop) (Some start) (line ∷ rest) marks kinds h n =
    leaves (Some (record { times = loop.times; body = loop.body ++ line ∷ [] })) (Some start) rest marks (kinds_behind (mark_of line) kinds) (h.0, pushed marks kinds loop.body line h.1 n.0) n.1

none_block : (sense : Sense) (lines : List Form) (line : Form) → is_session line ≡ false → block_behind sense lines line ≡ None
none_block sense lines (form.Connect session user host) h = cc
none_block sense lines (form.Resume session) h = cc
none_block sense lines _ h = refl

-- before the first phase no session may stand
not_yet : (before : List Form) (line : Form) → Passes before line → list_any is_phase before ≡ false → is_session line ≡ false
not_yet before (form.Connect session user host) p none = let q = p.place in absurd (cc)
not_yet before (form.Resume session) p none = let q = p.place in absurd (cc)
not_yet before _ p none = refl

module _ (number : ℕ) (sense : Sense) where
  abbrev is_own : Block → Bool
  is_own block = block.session == number

  -- those up to the next phase, and those of later phases
  abbrev blocks_from : List Form → List Block
  blocks_from lines = filter is_own (blocks_of sense lines) ++ blocks_for number (phases_of sense lines)

  from_none : blocks_from [] ≡ []
  unfolding blocks_of phases_of
  from_none = refl

  from_phase : (lines : List Form) → blocks_from (form.Phase ∷ lines) ≡ blocks_from lines
  unfolding blocks_of phases_of
  from_phase lines = filter-append is_own (blocks_of sense lines) (flat_map (λ (phase : Phase). phase.blocks) (phases_of sense lines))

  from_other : (line : Form) (lines : List Form) → ends_block line ≡ false → blocks_from (line ∷ lines) ≡ blocks_from lines
  unfolding blocks_of phases_of
  from_other line lines e = rw (or_first (is_phase line) (is_session line) e, none_block sense lines line (or_second (is_phase line) (is_session line) e)) refl

  abbrev with_own : Bool → Block → List Block → List Block
  with_own b block more = cond b (block ∷ more) more

  own_by : (b : Bool) (block : Block) (here later : List Block) → cond b (block ∷ here) here ++ later ≡ with_own b block (here ++ later)
  own_by true block here later = refl
  own_by false block here later = refl

  from_connect : (session : ℕ) (user host : List ℕ) (lines : List Form) → blocks_from (form.Connect (Some session) user host ∷ lines)
      ≡ with_own (session == number) (record { session = session; connect = Some (connect_of sense.names user host); lines = block_lines sense lines }) (blocks_from lines)
  unfolding blocks_of phases_of
  from_connect session user host lines = own_by (session == number) _ (filter is_own (blocks_of sense lines)) (blocks_for number (phases_of sense lines))

  from_resume : (session : ℕ) (lines : List Form) → blocks_from (form.Resume (Some session) ∷ lines)
      ≡ with_own (session == number) (record { session = session; connect = None; lines = block_lines sense lines }) (blocks_from lines)
  unfolding blocks_of phases_of
  from_resume session lines = own_by (session == number) _ (filter is_own (blocks_of sense lines)) (blocks_for number (phases_of sense lines))

  -- before the first phase no block begins
  no_blocks : (before lines : List Form) → Stand before lines → list_any is_phase before ≡ false → blocks_of sense lines ≡ []
  unfolding blocks_of
  no_blocks before [] s none = refl
  no_blocks before (line ∷ lines) s none =
      elim (cases_Bool (is_phase line)) [
        | inl p ↦ rw p refl
        | inr p ↦
            let later : list_any is_phase (before ++ line ∷ []) ≡ false = rw (any_more is_phase before line, none) p in
            rw (p, none_block sense lines line (not_yet before line s.0 none)) (no_blocks (before ++ line ∷ []) lines s.1 later)
      ]

abbrev lines_from : ℕ → Sense → List Form → List BlockLine
lines_from number sense lines = flat_map (λ (block : Block). written_out block.lines) (blocks_from number sense lines)

module _ (number : ℕ) (some : 1 ≤ number) (all : List Form) where
  abbrev to_come : List Form → List BlockLine
  to_come lines = lines_from number (sense_of all) lines

  -- the kinds of the session's events that are open behind its block so far, where it is the next line's
  abbrev kinds_by : Bool → List Form → List Form → List EventKind
  kinds_by b before lines = cond b (kinds_along (session_kinds number before) (block_lines (sense_of all) lines)) (session_kinds number before)

  abbrev kinds_ahead : List Form → List Form → List EventKind
  kinds_ahead before lines = kinds_by (session_now before == number) before lines

  ahead_by : (before lines : List Form) (line : Form) (b : Bool) → (session_now before == number) ≡ b → Passes before line → ends_block line ≡ false → all ≡ before ++ line ∷ lines → kinds_by b before (line ∷ lines) ≡ kinds_by b (before ++ line ∷ []) lines
  ahead_by before lines line true here p e is =
      along_more all before lines line (session_kinds number before) p e is ∙ ap (λ kinds. kinds_along kinds (block_lines (sense_of all) lines)) (sym (kinds_own number before line here e))
  ahead_by before lines line false other p e is = ap (λ lines. kinds_of (open_in (map mark_of_form lines))) (sym (lines_other number before line other))

  ahead_inside : (before lines : List Form) (line : Form) → Passes before line → ends_block line ≡ false → all ≡ before ++ line ∷ lines → kinds_ahead before (line ∷ lines) ≡ kinds_ahead (before ++ line ∷ []) lines
  ahead_inside before lines line p e is =
      ahead_by before lines line (session_now before == number) refl p e is
      ∙ ap (λ session. kinds_by (session == number) (before ++ line ∷ []) lines) (sym (now_same before line e))

  ahead_choose : (b : Bool) (kinds : List EventKind) → cond b kinds kinds ≡ kinds
  ahead_choose true kinds = refl
  ahead_choose false kinds = refl

  -- where a block ends
  ahead_ends : (before lines : List Form) (line : Form) → ends_block line ≡ true → kinds_ahead before (line ∷ lines) ≡ session_kinds number before
  unfolding block_lines
  ahead_ends before lines line e = rw e (ahead_choose (session_now before == number) (session_kinds number before))

  kept : (before : List Form) (line : Form) → ends_block line ≡ true → session_kinds number (before ++ line ∷ []) ≡ session_kinds number before
  kept before line e = ap (λ lines. kinds_of (open_in (map mark_of_form lines))) (lines_ends number before line e)

  abbrev Goes : List Form → List Form → Type 0
  Goes before lines = (marks : List Mark) → kinds_of (open_in marks) ≡ kinds_ahead before lines → Follows marks (map mark_of (to_come lines))

  not_zero : (0 == number) ≡ false
  not_zero = grind (arith, nat_tests, some)

  -- a line that begins no block of the session
  go_apart : (before lines : List Form) (line : Form) (session : ℕ) → ends_block line ≡ true → session_now (before ++ line ∷ []) ≡ session → (session == number) ≡ false → to_come (line ∷ lines) ≡ to_come lines → Goes (before ++ line ∷ []) lines → Goes before (line ∷ lines)
  go_apart before lines line session e now other same goes = λ marks h.
      let ahead : kinds_ahead (before ++ line ∷ []) lines ≡ session_kinds number before = ap (λ session. kinds_by (session == number) (before ++ line ∷ []) lines) now ∙ (ap (λ b. kinds_by b (before ++ line ∷ []) lines) other ∙ kept before line e) in
      subst (λ come. Follows marks (map mark_of come)) (sym same) (goes marks (h ∙ (ahead_ends before lines line e ∙ sym ahead)))

  -- and one that does
  go_own : (before lines : List Form) (line : Form) (session : ℕ) → ends_block line ≡ true → is_repeat line ≡ false → is_done line ≡ false → (not (list_any is_phase before) || is_in_repeat before) ≡ false → session_now (before ++ line ∷ []) ≡ session → (session == number) ≡ true
      → to_come (line ∷ lines) ≡ written_out (block_lines (sense_of all) lines) ++ to_come lines → Stand (before ++ line ∷ []) lines → all ≡ (before ++ line ∷ []) ++ lines → Goes (before ++ line ∷ []) lines → Goes before (line ∷ lines)
  unfolding kinds_open
  go_own before lines line session e r d place now own come s is goes = λ marks h.
      let block = block_lines (sense_of all) lines in
      let same : session ≡ number = grind (arith, nat_tests, own) in
      let kinds : kinds_open (before ++ line ∷ []) ≡ session_kinds number before = ap (λ session. session_kinds session (before ++ line ∷ [])) (now ∙ same) ∙ kept before line e in
      let nested : IsNested (session_kinds number before) None block = rw (kinds, start_session before line r d place) at (nest all (before ++ line ∷ []) lines s is) in
      let left = leaves None None block marks (session_kinds number before) (h ∙ ahead_ends before lines line e) nested in
      let ahead : kinds_ahead (before ++ line ∷ []) lines ≡ kinds_along (session_kinds number before) block = ap (λ session. kinds_by (session == number) (before ++ line ∷ []) lines) now ∙ (ap (λ b. kinds_by b (before ++ line ∷ []) lines) own ∙ ap (λ kinds. kinds_along kinds block) (kept before line e)) in
      let rest = goes (marks ++ map mark_of (written_out block)) (left.behind ∙ sym ahead) in
      subst (λ come. Follows marks (map mark_of come)) (sym come) (rw (map-append mark_of (written_out block) (to_come lines)) (follows_append marks (map mark_of (written_out block)) (map mark_of (to_come lines)) left.follows rest))

  come_apart : (session : ℕ) (block : Block) (lines : List Form) (blocks : List Block) → blocks ≡ with_own number (sense_of all) (session == number) block (blocks_from number (sense_of all) lines) → (session == number) ≡ false → flat_map (λ (block : Block). written_out block.lines) blocks ≡ to_come lines
  come_apart session block lines blocks from other = rw (from, other) refl

  come_own : (session : ℕ) (block : Block) (lines : List Form) (blocks : List Block) → blocks ≡ with_own number (sense_of all) (session == number) block (blocks_from number (sense_of all) lines) → (session == number) ≡ true → flat_map (λ (block : Block). written_out block.lines) blocks ≡ written_out block.lines ++ to_come lines
  come_own session block lines blocks from own = rw (from, own) refl

  go_block : (before lines : List Form) (line : Form) (session : ℕ) (block : Block) → ends_block line ≡ true → is_repeat line ≡ false → is_done line ≡ false → (not (list_any is_phase before) || is_in_repeat before) ≡ false → session_now (before ++ line ∷ []) ≡ session
      → blocks_from number (sense_of all) (line ∷ lines) ≡ with_own number (sense_of all) (session == number) block (blocks_from number (sense_of all) lines) → block.lines ≡ block_lines (sense_of all) lines
      → Stand (before ++ line ∷ []) lines → all ≡ (before ++ line ∷ []) ++ lines → Goes (before ++ line ∷ []) lines → Goes before (line ∷ lines)
  go_block before lines line session block e r d place now from says s is goes =
      elim (cases_Bool (session == number)) [
        | inl own ↦ go_own before lines line session e r d place now own (come_own session block lines (blocks_from number (sense_of all) (line ∷ lines)) from own ∙ ap (λ lines_said. written_out lines_said ++ to_come lines) says) s is goes
        | inr other ↦ go_apart before lines line session e now other (come_apart session block lines (blocks_from number (sense_of all) (line ∷ lines)) from other) goes
      ]

  go_end : (before lines : List Form) (line : Form) → Passes before line → ends_block line ≡ true → Stand (before ++ line ∷ []) lines → all ≡ (before ++ line ∷ []) ++ lines → Goes (before ++ line ∷ []) lines → Goes before (line ∷ lines)
  go_end before lines form.Phase p e s is goes =
      go_apart before lines form.Phase 0 refl (now_more before form.Phase) not_zero (ap (λ blocks. flat_map (λ (block : Block). written_out block.lines) blocks) (from_phase number (sense_of all) lines)) goes
  go_end before lines (form.Connect (Some session) user host) p e s is goes =
      go_block before lines (form.Connect (Some session) user host) session (record { session = session; connect = Some (connect_of (sense_of all).names user host); lines = block_lines (sense_of all) lines }) refl refl refl p.place (now_more before (form.Connect (Some session) user host))
      (from_connect number (sense_of all) session user host lines) refl s is goes
  go_end before lines (form.Resume (Some session)) p e s is goes =
      go_block before lines (form.Resume (Some session)) session (record { session = session; connect = None; lines = block_lines (sense_of all) lines }) refl refl refl p.place (now_more before (form.Resume (Some session)))
      (from_resume number (sense_of all) session lines) refl s is goes
  go_end before lines (form.Connect None user host) p e s is goes = absurd (let q = p.number in cc)
  go_end before lines (form.Resume None) p e s is goes = absurd (let q = p.number in cc)
  go_end before lines _ p e s is goes = cc

  go : (before lines : List Form) → Stand before lines → all ≡ before ++ lines → Goes before lines
  go before [] s is = λ marks h. subst (λ blocks. Follows marks (map mark_of (flat_map (λ (block : Block). written_out block.lines) blocks))) (sym (from_none number (sense_of all))) tt
  go before (line ∷ lines) s is =
      let further = is ∙ sym (append_assoc before (line ∷ []) lines) in
      let rest = go (before ++ line ∷ []) lines s.1 further in
      elim (cases_Bool (ends_block line)) [
        | inl e ↦ go_end before lines line s.0 e s.1 further rest
        | inr e ↦ λ marks h.
            subst (λ blocks. Follows marks (map mark_of (flat_map (λ (block : Block). written_out block.lines) blocks))) (sym (from_other number (sense_of all) line lines e))
            (rest marks (h ∙ ahead_inside before lines line s.0 e is))
      ]

none_open : (number : ℕ) (b : Bool) (sense : Sense) (lines : List Form) → b ≡ false → cond b (kinds_along (session_kinds number []) (block_lines sense lines)) (session_kinds number []) ≡ []
unfolding lines_in brackets_from
none_open number true sense lines e = cc
none_open number false sense lines e = refl

some_nest : (number : ℕ) (lines : List Form) → 1 ≤ number → Stand [] lines → Follows [] (map mark_of (lines_for number (phases_of (sense_of lines) lines)))
unfolding brackets_from session_now
some_nest number lines some s =
    let zero_is : (session_now [] == number) ≡ false = ap (λ session. session == number) now_none ∙ grind (arith, nat_tests, some) in
    let none : kinds_of (open_in []) ≡ kinds_ahead number some lines [] lines = sym (none_open number (session_now [] == number) (sense_of lines) lines zero_is) in
    subst (λ blocks. Follows [] (map mark_of (flat_map (λ (block : Block). written_out block.lines) (filter (is_own number (sense_of lines)) blocks ++ blocks_for number (phases_of (sense_of lines) lines)))))
    (no_blocks number (sense_of lines) [] lines s refl)
    (go number some lines [] lines s refl [] none)

-- no session has the number 0

not_outside : (session : ℕ) (bad : Bool) → (not (nat_le 1 session && nat_le session 64) || bad) ≡ false → (session == 0) ≡ false
not_outside session bad h = grind (arith, nat_tests, h)

zero_step : (sense : Sense) (before lines : List Form) (line : Form) → Passes before line → blocks_from 0 sense (line ∷ lines) ≡ blocks_from 0 sense lines
zero_step sense before lines form.Phase p = from_phase 0 sense lines
zero_step sense before lines (form.Connect (Some session) user host) p = from_connect 0 sense session user host lines ∙ rw (not_outside session (list_any (is_block_of session) before) p.session) refl
zero_step sense before lines (form.Resume (Some session)) p =
    from_resume 0 sense session lines ∙ rw (not_outside session (not (list_any (is_block_of session) before) || (list_any (is_block_of session) (phase_of before) || has_quit session before)) p.session) refl
zero_step sense before lines (form.Connect None user host) p = absurd (let q = p.number in cc)
zero_step sense before lines (form.Resume None) p = absurd (let q = p.number in cc)
zero_step sense before lines line p = from_other 0 sense line lines refl

zero_blocks : (sense : Sense) (before lines : List Form) → Stand before lines → blocks_from 0 sense lines ≡ []
zero_blocks sense before [] s = from_none 0 sense
zero_blocks sense before (line ∷ lines) s = zero_step sense before lines line s.0 ∙ zero_blocks sense (before ++ line ∷ []) lines s.1

zero_nests : (lines : List Form) → Stand [] lines → Follows [] (map mark_of (lines_for 0 (phases_of (sense_of lines) lines)))
zero_nests lines s =
    let sense = sense_of lines in
    let none : blocks_for 0 (phases_of sense lines) ≡ [] = sym (ap (λ blocks. filter (is_own 0 sense) blocks ++ blocks_for 0 (phases_of sense lines)) (no_blocks 0 sense [] lines s refl)) ∙ zero_blocks sense [] lines s in
    subst (λ blocks. Follows [] (map mark_of (flat_map (λ (block : Block). written_out block.lines) blocks))) (sym none) tt

nests : (number : ℕ) (lines : List Form) → Stand [] lines → Follows [] (map mark_of (lines_for number (phases_of (sense_of lines) lines)))
nests zero lines s = zero_nests lines s
nests (suc number) lines s = some_nest (suc number) lines (omega arith) s

-- the lines of a session nest over all phases
pub nested_over_phases : (text : List ℕ) (setting : Setting) (phases : List Phase) (number : ℕ) → IsScript text setting phases → Follows [] (map mark_of (lines_for number phases))
unfolding IsScript
nested_over_phases text setting phases number s = rw s.3 (nests number s.0 (stand_of [] s.1.0 s.0 s.1.2))
