-- What an action changes stands behind its number.
use Rattle.std.proofs.Common.{◌≡◌, refl, ℕ, ◌<◌, Bool, true, false, List, [], ◌∷◌, ◌++◌, sym, ◌∙◌}
use Rattle.pfs_event.specs.declared.entry.Entry.{Entry}
use Rattle.pfs_event.specs.declared.entry.Entry.TheVariants as says
use Rattle.pfs_model.proofs.ActionGuards.{Guarded, begins, cut_guarded, shape_guards}
use Rattle.pfs_model.proofs.EachLists.{each_behind, each_front, each_join}
use Rattle.pfs_model.specs.declared.changes.Change.{Change}
use Rattle.pfs_model.specs.declared.lines.Line.{Line}
use Rattle.pfs_model.specs.declared.lines.Subject.{Subject}
use Rattle.std.specs.Prelude.{Option}
use Rattle.pfs_model.specs.Actions.{is_acted}
use Rattle.pfs_model.specs.Chains.{Each, action_change}
use Rattle.pfs_model.specs.Contexts.{Context, after, fresh, noted, subject_of, turned}
use Rattle.pfs_model.specs.EntryPlaces.{AreShapedBehind, Block, Placed, placed_lines, placed_part, places_behind, told_by}
use Rattle.pfs_model.specs.JournalCuts.{AreShaped}
use Rattle.pfs_model.specs.Shapes.{shape}

-- the numbers that an entry says are above 0
abbrev pub SaysAbove : Placed → Type 0
SaysAbove place = Each (λ (change : Change). 0 < change.version) (action_change place.entry)

-- what an action changes has its number
abbrev pub HasAction : Placed → Type 0
HasAction place = is_acted place.entry ≡ true → 0 < place.context.action

next_action : (subject : Option Subject) (context : Context) (entry : Entry) → 0 < context.action
    → Each (λ (change : Change). 0 < change.version) (action_change entry) → 0 < (noted subject context entry).action
next_action subject context (says.Connect action thread account user host) h e = e.0
next_action subject context (says.Act action) h e = e.0
next_action subject context (says.Start event verdict consumers thread class table) h e = h
next_action subject context (says.End event last consumers thread) h e = h
next_action subject context (says.Held row first second) h e = h
next_action subject context (says.Add row version) h e = h
next_action subject context says.Settle h e = h
next_action subject context (says.Take row version) h e = h
next_action subject context _ h e = h

first_action : (subject : Option Subject) (context : Context) (entry : Entry) → begins entry ≡ true
    → Each (λ (change : Change). 0 < change.version) (action_change entry) → 0 < (noted subject context entry).action
first_action subject context (says.Connect action thread account user host) b e = e.0
first_action subject context (says.Act action) b e = e.0
first_action subject context _ b e = absurd (cc)

guarded_true : (entries : List Entry) → Guarded true entries
guarded_true [] = tt
guarded_true (entry ∷ entries) = tt

part_acted : (phase session : ℕ) (line : Line) (context : Context) (entries : List Entry) (acted : Bool) → Guarded acted entries
    → (acted ≡ true → 0 < context.action) → Each SaysAbove (placed_part phase session line context entries)
    → Each HasAction (placed_part phase session line context entries)
part_acted phase session line context [] acted g a h = tt
part_acted phase session line context (entry ∷ entries) true g a h = (
  (λ e. a refl),
  part_acted phase session line (noted (subject_of line) context entry) entries true (guarded_true entries)
      (λ e. next_action (subject_of line) context entry (a refl) h.0) h.1,
)
part_acted phase session line context (entry ∷ entries) false g a h = (
  (λ e. absurd (no (sym g.0 ∙ e))),
  part_acted phase session line (noted (subject_of line) context entry) entries (begins entry) g.1
      (λ e. first_action (subject_of line) context entry e h.0) h.1,
) where
  no : false ≡ true → ⊥
  no f = cc

lines_acted : (phase session : ℕ) (context : Context) (lines : List Line) (parts : List (List Entry)) → AreShaped context lines parts
    → Each SaysAbove (placed_lines phase session context lines parts) → Each HasAction (placed_lines phase session context lines parts)
lines_acted phase session context [] parts s h = tt
lines_acted phase session context (line ∷ lines) [] s h = tt
lines_acted phase session context (line ∷ lines) (part ∷ parts) s h =
    each_join HasAction (placed_part phase session line (turned context) part) (placed_lines phase session (after context line part) lines parts)
    (part_acted phase session line (turned context) part false (cut_guarded (shape context line) part (shape_guards context line) s.0)
    (λ e. absurd (no e)) (each_front SaysAbove (placed_part phase session line (turned context) part) (placed_lines phase session (after context line part) lines parts) h))
    (lines_acted phase session (after context line part) lines parts s.1
    (each_behind SaysAbove (placed_part phase session line (turned context) part) (placed_lines phase session (after context line part) lines parts) h)) where
      no : false ≡ true → ⊥
      no f = cc

pub blocks_acted : (earlier blocks : List Block) (phase : ℕ) → AreShapedBehind earlier phase blocks
    → Each SaysAbove (places_behind earlier blocks) → Each HasAction (places_behind earlier blocks)
unfolding places_behind
blocks_acted earlier [] phase s h = tt
blocks_acted earlier (block ∷ blocks) phase s h =
    each_join HasAction (placed_lines block.phase block.session (told_by block.session fresh earlier) block.lines block.parts) (places_behind (earlier ++ block ∷ []) blocks)
    (lines_acted block.phase block.session (told_by block.session fresh earlier) block.lines block.parts s.1
    (each_front SaysAbove (placed_lines block.phase block.session (told_by block.session fresh earlier) block.lines block.parts) (places_behind (earlier ++ block ∷ []) blocks) h))
    (blocks_acted (earlier ++ block ∷ []) blocks block.phase s.2
    (each_behind SaysAbove (placed_lines block.phase block.session (told_by block.session fresh earlier) block.lines block.parts) (places_behind (earlier ++ block ∷ []) blocks) h))
