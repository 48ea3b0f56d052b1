-- The events of a block nest, wherever in a script it stands.
use Rattle.std.proofs.Common.{ℕ, ◌≡◌, Bool, true, false, ◌||◌, ◌&&◌, not, List, [], ◌∷◌, ◌++◌, Option, Some, None, refl, ap, sym, ◌∙◌, length, append_assoc, ◌⊎◌, inl, inr}
use Rattle.std.specs.Prelude.{if◌then◌else◌, codes, slice_get}
use Rattle.std.specs.List.{list_any}
use Rattle.std.specs.Str.{bytes_eq}
use Rattle.std.proofs.lemmas.List.Folds.{list_any-append}
use Rattle.std.proofs.lemmas.Bool.{cases_Bool, not-false, not-true}
use Rattle.pfs_lemmas.proofs.Bools.{and_first, and_second, or_second}
use Rattle.pfs_classes.specs.declared.classes.ClassRef.{ClassRef}
use Rattle.pfs_script.specs.declared.forms.Form.{Form}
use Rattle.pfs_script.specs.declared.forms.Form.TheVariants as form
use Rattle.pfs_script.specs.declared.blocks.BlockLine.{BlockLine}
use Rattle.pfs_script.specs.declared.blocks.BlockLine.TheVariants as said
use Rattle.pfs_script.specs.Headings.{head_of, resolved, is_known, is_builtin, is_class_named}
use Rattle.pfs_script.specs.Finds.{digest_place}
use Rattle.pfs_script.specs.Sessions.{is_phase, ends_block}
use Rattle.pfs_script.specs.Reasons.{is_event_class, is_blockless, is_bad_nesting, mark_of_form, kinds_open, same_kinds}
use Rattle.pfs_script.specs.Blocks.{sense_of, with_front, statement_numbers, block_line, block_lines}
use Rattle.pfs_script.specs.Scripts.{Begins}
use Rattle.pfs_event.specs.declared.kind.EventKind.{EventKind}
use Rattle.pfs_script.specs.Marks.{mark_of, Passes as Passing}
use Rattle.pfs_script.specs.Brackets.{kinds_behind, may_stand}
use Rattle.pfs_script.specs.NestedBlocks.{IsNested}
use Rattle.pfs_script.specs.LineCounts.{ahead_of_last, is_repeat, is_done, is_in_repeat}
use Rattle.pfs_script.proofs.LinesBehind.{ahead_more, in_repeat-begun, in_repeat-done, in_repeat-same}
use Rattle.pfs_script.proofs.SessionTurns.{open_more}
use Rattle.pfs_script.proofs.SessionCourses.{stands}
use Rattle.pfs_script.proofs.OpenKinds.{same_all}
use Rattle.pfs_script.proofs.FaultlessLines.{Passes, passes}
use Rattle.pfs_script.proofs.AppearanceOrder.{are_tables}
use Rattle.pfs_script.proofs.NameReferences.{known_resolved}
use Rattle.pfs_script.proofs.HeadLines.{next_none}

-- behind the lines before them, none of these lines has a fault
abbrev pub Stand : List Form → List Form → Type 0
Stand before [] = Unit {0}
Stand before (line ∷ lines) = Passes before line × Stand (before ++ line ∷ []) lines

pub stand_of : (before : List Form) (raws : List (List ℕ)) (lines : List Form) → Begins before raws lines → Stand before lines
stand_of before [] [] b = tt
stand_of before [] (line ∷ lines) b = absurd b
stand_of before (raw ∷ raws) [] b = absurd b
stand_of before (raw ∷ raws) (line ∷ lines) b = (passes before line (next_none before raw line b.0), stand_of (before ++ line ∷ []) raws lines b.1)

or_longer : (a b c : Bool) → (a || b) ≡ true → (a || (b || c)) ≡ true
or_longer true b c h = refl
or_longer false true c h = refl
or_longer false false c h = cc

-- known classes

known_longer : (before more : List Form) (name : List ℕ) → is_known before name ≡ true → is_known (before ++ more) name ≡ true
unfolding is_known
known_longer before more name h = rw (list_any-append (is_class_named name) before more) (or_longer (is_builtin name) (list_any (is_class_named name) before) (list_any (is_class_named name) more) h)

event_known : (before : List Form) (class : List ℕ) → not (is_event_class before class) ≡ false → is_known before class ≡ true
event_known before class h = and_first (is_known before class) (not (bytes_eq class (codes "transaction"))) (not-false (is_event_class before class) h)

pub event_other : (before : List Form) (class : List ℕ) → not (is_event_class before class) ≡ false → bytes_eq class (codes "transaction") ≡ false
event_other before class h = not-true (bytes_eq class (codes "transaction")) (and_second (is_known before class) (not (bytes_eq class (codes "transaction"))) (not-false (is_event_class before class) h))

-- events that nest

-- the line neither begins a repeat nor ends one
abbrev IsPlain : BlockLine → Type 0
IsPlain (said.Wait class) = Unit {0}
IsPlain (said.TableWait class table) = Unit {0}
IsPlain (said.Statement class digest) = Unit {0}
IsPlain (said.Transaction access) = Unit {0}
IsPlain (said.Stage class) = Unit {0}
IsPlain said.StageEnd = Unit {0}
IsPlain (said.Spend time) = Unit {0}
IsPlain (said.Sql text) = Unit {0}
IsPlain said.Quit = Unit {0}
IsPlain said.End = Unit {0}
IsPlain (said.EndStatement numbers) = Unit {0}
IsPlain (said.Repeat times) = ⊥
IsPlain said.Done = ⊥

plain_nested : (kinds : List EventKind) (start : Option (List EventKind)) (line : BlockLine) (more : List BlockLine) → IsPlain line → may_stand kinds (mark_of line) ≡ true → IsNested (kinds_behind (mark_of line) kinds) start more → IsNested kinds start (line ∷ more)
unfolding IsNested
plain_nested kinds None (said.Wait class) more plain may rest = (may, rest)
plain_nested kinds None (said.TableWait class table) more plain may rest = (may, rest)
plain_nested kinds (Some first) (said.Wait class) more plain may rest = (may, rest)
plain_nested kinds (Some first) (said.TableWait class table) more plain may rest = (may, rest)
plain_nested kinds None (said.Statement class digest) more plain may rest = (may, rest)
plain_nested kinds (Some first) (said.Statement class digest) more plain may rest = (may, rest)
plain_nested kinds None (said.Transaction access) more plain may rest = (may, rest)
plain_nested kinds (Some first) (said.Transaction access) more plain may rest = (may, rest)
plain_nested kinds None (said.Stage class) more plain may rest = (may, rest)
plain_nested kinds (Some first) (said.Stage class) more plain may rest = (may, rest)
plain_nested kinds None said.StageEnd more plain may rest = (may, rest)
plain_nested kinds (Some first) said.StageEnd more plain may rest = (may, rest)
plain_nested kinds None (said.Spend time) more plain may rest = (may, rest)
plain_nested kinds (Some first) (said.Spend time) more plain may rest = (may, rest)
plain_nested kinds None (said.Sql text) more plain may rest = (may, rest)
plain_nested kinds (Some first) (said.Sql text) more plain may rest = (may, rest)
plain_nested kinds None said.Quit more plain may rest = (may, rest)
plain_nested kinds (Some first) said.Quit more plain may rest = (may, rest)
plain_nested kinds None said.End more plain may rest = (may, rest)
plain_nested kinds (Some first) said.End more plain may rest = (may, rest)
plain_nested kinds None (said.EndStatement numbers) more plain may rest = (may, rest)
plain_nested kinds (Some first) (said.EndStatement numbers) more plain may rest = (may, rest)
plain_nested kinds start (said.Repeat times) more plain may rest = absurd plain
plain_nested kinds start said.Done more plain may rest = absurd plain

repeat_nested : (kinds : List EventKind) (times : ℕ) (more : List BlockLine) → IsNested kinds (Some kinds) more → IsNested kinds None (said.Repeat times ∷ more)
unfolding IsNested
repeat_nested kinds times more rest = rest

done_nested : (kinds start : List EventKind) (more : List BlockLine) → kinds ≡ start → IsNested kinds None more → IsNested kinds (Some start) (said.Done ∷ more)
unfolding IsNested
done_nested kinds start more same rest = (same, rest)

nothing_nested : (kinds : List EventKind) (start : Option (List EventKind)) → IsNested kinds start []
unfolding IsNested
nothing_nested kinds start = tt

-- the kinds that were open where a repeat began, while it isn't done
abbrev pub start_of : List Form → Option (List EventKind)
start_of before = if is_in_repeat before then Some (kinds_open (ahead_of_last is_repeat before)) else None

start_same : (before : List Form) (line : Form) → is_repeat line ≡ false → is_done line ≡ false → start_of (before ++ line ∷ []) ≡ start_of before
start_same before line r d = rw (in_repeat-same before line r d, ahead_more is_repeat before line, r) refl

start_begun : (before : List Form) (times : Option ℕ) → start_of (before ++ form.Repeat times ∷ []) ≡ Some (kinds_open before)
start_begun before times = rw (in_repeat-begun before (form.Repeat times) refl, ahead_more is_repeat before (form.Repeat times)) refl

-- no repeat goes on in another block
pub start_session : (before : List Form) (line : Form) → is_repeat line ≡ false → is_done line ≡ false → (not (list_any is_phase before) || is_in_repeat before) ≡ false → start_of (before ++ line ∷ []) ≡ None
start_session before line r d place =
    let out : is_in_repeat before ≡ false = or_second (not (list_any is_phase before)) (is_in_repeat before) place in
    start_same before line r d ∙ rw out refl

start_done : (before : List Form) → start_of (before ++ form.Done ∷ []) ≡ None
start_done before = rw (in_repeat-done before) refl

-- behind the lines so far, the events of these nest
abbrev pub Nests : List Form → List BlockLine → Type 0
Nests before more = IsNested (kinds_open before) (start_of before) more

nests_same : (before : List Form) (line : Form) (more : List BlockLine) → ends_block line ≡ false → mark_of_form line ≡ Passing → is_repeat line ≡ false → is_done line ≡ false → Nests (before ++ line ∷ []) more → Nests before more
nests_same before line more c m r d h =
    let kinds : kinds_open (before ++ line ∷ []) ≡ kinds_open before = open_more before line c ∙ ap (λ mark. kinds_behind mark (kinds_open before)) m in
    rw (kinds, start_same before line r d) at h

nests_more : (before : List Form) (line : Form) (one : BlockLine) (more : List BlockLine) → ends_block line ≡ false → is_repeat line ≡ false → is_done line ≡ false → IsPlain one → mark_of one ≡ mark_of_form line
    → is_bad_nesting before line ≡ false → Nests (before ++ line ∷ []) more → Nests before (one ∷ more)
nests_more before line one more c r d plain m nesting h =
    let kinds : kinds_open (before ++ line ∷ []) ≡ kinds_behind (mark_of one) (kinds_open before) = open_more before line c ∙ ap (λ mark. kinds_behind mark (kinds_open before)) (sym m) in
    plain_nested (kinds_open before) (start_of before) one more plain (rw m (stands before line nesting)) (rw (kinds, start_same before line r d) at h)

nests_repeat : (before : List Form) (times : ℕ) (more : List BlockLine) → is_in_repeat before ≡ false → Nests (before ++ form.Repeat (Some times) ∷ []) more → Nests before (said.Repeat times ∷ more)
nests_repeat before times more out h =
    let line = form.Repeat (Some times) in
    let kinds : kinds_open (before ++ line ∷ []) ≡ kinds_open before = open_more before line refl in
    rw out (repeat_nested (kinds_open before) times more (rw (kinds, start_begun before (Some times)) at h))

nests_done : (before : List Form) (more : List BlockLine) → is_in_repeat before ≡ true → same_kinds (kinds_open before) (kinds_open (ahead_of_last is_repeat before)) ≡ true → Nests (before ++ form.Done ∷ []) more → Nests before (said.Done ∷ more)
nests_done before more within same h =
    let kinds : kinds_open (before ++ form.Done ∷ []) ≡ kinds_open before = open_more before form.Done refl in
    rw within (done_nested (kinds_open before) (kinds_open (ahead_of_last is_repeat before)) more (same_all (kinds_open before) (kinds_open (ahead_of_last is_repeat before)) same) (rw (kinds, start_done before) at h))

-- the kinds of the events that are open behind a block's lines, by those open before it
abbrev pub kinds_along : List EventKind → List BlockLine → List EventKind
kinds_along kinds [] = kinds
kinds_along kinds (line ∷ lines) = kinds_along (kinds_behind (mark_of line) kinds) lines

slice_here : (before lines : List Form) (line : Form) → slice_get (before ++ line ∷ lines) (length before) ≡ Some line
slice_here [] lines line = refl
slice_here (one ∷ before) lines line = slice_here before lines line

module _ (all : List Form) where
  -- a class that a line names is known under all lines
  class_found : (before lines : List Form) (line : Form) (class : List ℕ) → all ≡ before ++ line ∷ lines → not (is_event_class before class) ≡ false → (ref : ClassRef) × (resolved (head_of all) class ≡ Some ref)
  class_found before lines line class e h = known_resolved all class (rw e (known_longer before (line ∷ lines) class (event_known before class h)))

  -- and so is a table
  wait_found : (before lines : List Form) (class schema name : List ℕ) → all ≡ before ++ form.TableWait class schema name ∷ lines → not (is_event_class before class) ≡ false
      → (ref : ClassRef) × (number : ℕ) × (block_line (sense_of all) (form.TableWait class schema name) ≡ Some (said.TableWait ref number))
  wait_found before lines class schema name e h =
      let line = form.TableWait class schema name in
      let ref = class_found before lines line class e h in
      let here : slice_get all (length before) ≡ Some line = ap (λ z. slice_get z (length before)) e ∙ slice_here before lines line in
      let given = (are_tables all).given (length before) class schema name ref.0 here ref.1 in
      (ref.0, given.0, given.1)

  nest_front : (before lines : List Form) (line : Form) (more : List BlockLine) → Passes before line → ends_block line ≡ false → all ≡ before ++ line ∷ lines
      → Nests (before ++ line ∷ []) more → Nests before (with_front (block_line (sense_of all) line) more)
  nest_front before lines (form.Wait class) more p n e rest =
      let line = form.Wait class in
      let ref = class_found before lines line class e p.known in
      rw ref.1 (nests_more before line (said.Wait ref.0) more refl refl refl tt refl p.nesting rest)
  nest_front before lines (form.TableWait class schema name) more p n e rest =
      let line = form.TableWait class schema name in
      let found = wait_found before lines class schema name e p.known in
      rw found.2 (nests_more before line (said.TableWait found.0 found.1) more refl refl refl tt refl p.nesting rest)
  nest_front before lines (form.Statement class text) more p n e rest =
      let line = form.Statement class text in
      let ref = class_found before lines line class e p.known in
      rw ref.1 (nests_more before line (said.Statement ref.0 (digest_place (sense_of all).digests text)) more refl refl refl tt refl p.nesting rest)
  nest_front before lines (form.Stage class) more p n e rest =
      let line = form.Stage class in
      let ref = class_found before lines line class e p.known in
      rw ref.1 (nests_more before line (said.Stage ref.0) more refl refl refl tt refl p.nesting rest)
  nest_front before lines (form.Transaction access) more p n e rest = nests_more before (form.Transaction access) (said.Transaction access) more refl refl refl tt refl p.nesting rest
  nest_front before lines form.StageEnd more p n e rest = nests_more before form.StageEnd said.StageEnd more refl refl refl tt refl p.nesting rest
  nest_front before lines (form.Spend (Some time)) more p n e rest = nests_more before (form.Spend (Some time)) (said.Spend time) more refl refl refl tt refl p.nesting rest
  nest_front before lines (form.Spend None) more p n e rest = nests_same before (form.Spend None) more refl refl refl refl rest
  nest_front before lines form.End more p n e rest = nests_more before form.End said.End more refl refl refl tt refl p.nesting rest
  nest_front before lines (form.EndStatement numbers) more p n e rest = nests_more before (form.EndStatement numbers) (said.EndStatement (statement_numbers numbers)) more refl refl refl tt refl p.nesting rest
  nest_front before lines (form.Sql text) more p n e rest = nests_more before (form.Sql text) (said.Sql text) more refl refl refl tt refl p.nesting rest
  nest_front before lines form.Quit more p n e rest = nests_more before form.Quit said.Quit more refl refl refl tt refl p.nesting rest
  nest_front before lines (form.Repeat (Some times)) more p n e rest = nests_repeat before times more (or_second (is_blockless before) (is_in_repeat before) p.place) rest
  nest_front before lines (form.Repeat None) more p n e rest = absurd (let q = p.number in cc)
  nest_front before lines form.Done more p n e rest =
      nests_done before more (not-false (is_in_repeat before) p.place) (not-false (same_kinds (kinds_open before) (kinds_open (ahead_of_last is_repeat before))) p.nesting) rest
  nest_front before lines (form.Resume session) more p n e rest = cc
  nest_front before lines form.Phase more p n e rest = cc
  nest_front before lines (form.Connect session user host) more p n e rest = cc
  nest_front before lines line more p n e rest = nests_same before line more refl refl refl refl rest

  -- what the lines up to the next block say nests behind the lines before them
  pub nest : (before lines : List Form) → Stand before lines → all ≡ before ++ lines → Nests before (block_lines (sense_of all) lines)
  unfolding block_lines
  nest before [] s e = nothing_nested (kinds_open before) (start_of before)
  nest before (line ∷ lines) s e =
      elim (cases_Bool (ends_block line)) [
        | inl p ↦ rw p (nothing_nested (kinds_open before) (start_of before))
        | inr p ↦ rw p (nest_front before lines line (block_lines (sense_of all) lines) s.0 p e (nest (before ++ line ∷ []) lines s.1 (e ∙ sym (append_assoc before (line ∷ []) lines))))
      ]

  along_front : (before lines : List Form) (line : Form) (kinds : List EventKind) (more : List BlockLine) → Passes before line → ends_block line ≡ false → all ≡ before ++ line ∷ lines
      → kinds_along kinds (with_front (block_line (sense_of all) line) more) ≡ kinds_along (kinds_behind (mark_of_form line) kinds) more
  along_front before lines (form.Wait class) kinds more p n e = let ref = class_found before lines (form.Wait class) class e p.known in rw ref.1 refl
  along_front before lines (form.TableWait class schema name) kinds more p n e = let found = wait_found before lines class schema name e p.known in rw found.2 refl
  along_front before lines (form.Statement class text) kinds more p n e = let ref = class_found before lines (form.Statement class text) class e p.known in rw ref.1 refl
  along_front before lines (form.Stage class) kinds more p n e = let ref = class_found before lines (form.Stage class) class e p.known in rw ref.1 refl
  along_front before lines (form.Spend (Some time)) kinds more p n e = refl
  along_front before lines (form.Spend None) kinds more p n e = refl
  along_front before lines (form.Repeat (Some times)) kinds more p n e = refl
  along_front before lines (form.Repeat None) kinds more p n e = refl
  along_front before lines form.Phase kinds more p n e = cc
  along_front before lines (form.Connect session user host) kinds more p n e = cc
  along_front before lines (form.Resume session) kinds more p n e = cc
  along_front before lines line kinds more p n e = refl

  -- a line of a block leaves the kinds that the block's lines go on from
  pub along_more : (before lines : List Form) (line : Form) (kinds : List EventKind) → Passes before line → ends_block line ≡ false → all ≡ before ++ line ∷ lines
      → kinds_along kinds (block_lines (sense_of all) (line ∷ lines)) ≡ kinds_along (kinds_behind (mark_of_form line) kinds) (block_lines (sense_of all) lines)
  unfolding block_lines
  along_more before lines line kinds p n e = rw n (along_front before lines line kinds (block_lines (sense_of all) lines) p n e)
