-- What an action changes stands behind an entry that says its number, in the same phase.
use Rattle.std.proofs.Common.{◌≡◌, refl, ℕ, inl, inr, Bool, true, false, List, [], ◌∷◌, ◌++◌, sym, ◌∙◌}
use Rattle.pfs_event.specs.declared.entry.Entry.{Entry}
use Rattle.pfs_event.specs.declared.entry.Entry.TheVariants as says
use Rattle.pfs_model.proofs.ActionGuards.{Guarded, begins, cut_guarded, shape_guards}
use Rattle.pfs_model.proofs.EachLists.{each_join}
use Rattle.pfs_model.specs.declared.lines.Line.{Line}
use Rattle.pfs_model.specs.Actions.{IsAmong, is_acted}
use Rattle.pfs_model.specs.Chains.{Each, action_change, change_at}
use Rattle.pfs_model.specs.Contexts.{Context, after, fresh, noted, subject_of, turned}
use Rattle.pfs_model.specs.EntryPlaces.{AreShapedBehind, Block, Placed, placed_lines, placed_part, places, places_behind, told_by}
use Rattle.pfs_model.specs.JournalCuts.{AreShaped}
use Rattle.pfs_model.specs.Shapes.{shape}
use Rattle.pfs_check_faults.proofs.MemberCounts.{among_left, among_right}

-- an entry of this phase says this number
pub record Begun (all : List Placed) (phase number : ℕ) : Type 0 where
  pub place : Placed
  pub there : IsAmong place all
  pub phase_is : place.phase ≡ phase
  pub says_it : action_change place.entry ≡ change_at 0 number ∷ []

abbrev pub HasBegun : List Placed → Placed → Type 0
HasBegun all place = is_acted place.entry ≡ true → Begun all place.phase place.context.action

abbrev Within : List Placed → List Placed → Type 0
Within ps all = (p : Placed) → IsAmong p ps → IsAmong p all

-- behind one entry more
next_begun : (all : List Placed) (phase session : ℕ) (line : Line) (context : Context) (entry : Entry)
    → IsAmong (record { phase = phase; session = session; line = line; context = context; entry = entry }) all
    → Begun all phase context.action → Begun all phase (noted (subject_of line) context entry).action
next_begun all phase session line context (says.Connect action thread account user host) i b =
    record { place = record { phase = phase; session = session; line = line; context = context; entry = says.Connect action thread account user host }; there = i; phase_is = refl; says_it = refl }
next_begun all phase session line context (says.Act action) i b =
    record { place = record { phase = phase; session = session; line = line; context = context; entry = says.Act action }; there = i; phase_is = refl; says_it = refl }
next_begun all phase session line context (says.Start event verdict consumers thread class table) i b = b
next_begun all phase session line context (says.End event last consumers thread) i b = b
next_begun all phase session line context (says.Held row first second) i b = b
next_begun all phase session line context (says.Add row version) i b = b
next_begun all phase session line context says.Settle i b = b
next_begun all phase session line context (says.Take row version) i b = b
next_begun all phase session line context _ i b = b

first_begun : (all : List Placed) (phase session : ℕ) (line : Line) (context : Context) (entry : Entry)
    → IsAmong (record { phase = phase; session = session; line = line; context = context; entry = entry }) all
    → begins entry ≡ true → Begun all phase (noted (subject_of line) context entry).action
first_begun all phase session line context (says.Connect action thread account user host) i e =
    record { place = record { phase = phase; session = session; line = line; context = context; entry = says.Connect action thread account user host }; there = i; phase_is = refl; says_it = refl }
first_begun all phase session line context (says.Act action) i e =
    record { place = record { phase = phase; session = session; line = line; context = context; entry = says.Act action }; there = i; phase_is = refl; says_it = refl }
first_begun all phase session line context _ i e = absurd (cc)

guarded_true : (entries : List Entry) → Guarded true entries
guarded_true [] = tt
guarded_true (entry ∷ entries) = tt

no : false ≡ true → ⊥
no f = cc

part_begun : (all : List Placed) (phase session : ℕ) (line : Line) (context : Context) (entries : List Entry) (acted : Bool)
    → Guarded acted entries → (acted ≡ true → Begun all phase context.action) → Within (placed_part phase session line context entries) all
    → Each (HasBegun all) (placed_part phase session line context entries)
part_begun all phase session line context [] acted g b w = tt
part_begun all phase session line context (entry ∷ entries) true g b w = (
  (λ e. b refl),
  part_begun all phase session line (noted (subject_of line) context entry) entries true (guarded_true entries)
      (λ e. next_begun all phase session line context entry (w _ (inl refl)) (b refl)) (λ p i. w p (inr i)),
)
part_begun all phase session line context (entry ∷ entries) false g b w = (
  (λ e. absurd (no (sym g.0 ∙ e))),
  part_begun all phase session line (noted (subject_of line) context entry) entries (begins entry) g.1
      (λ e. first_begun all phase session line context entry (w _ (inl refl)) e) (λ p i. w p (inr i)),
)

lines_begun : (all : List Placed) (phase session : ℕ) (context : Context) (lines : List Line) (parts : List (List Entry)) → AreShaped context lines parts
    → Within (placed_lines phase session context lines parts) all → Each (HasBegun all) (placed_lines phase session context lines parts)
lines_begun all phase session context [] parts s w = tt
lines_begun all phase session context (line ∷ lines) [] s w = tt
lines_begun all phase session context (line ∷ lines) (part ∷ parts) s w =
    let mine : List Placed = placed_part phase session line (turned context) part in
    let rest : List Placed = placed_lines phase session (after context line part) lines parts in
    each_join (HasBegun all) mine rest
    (part_begun all phase session line (turned context) part false (cut_guarded (shape context line) part (shape_guards context line) s.0)
    (λ e. absurd (no e)) (λ p i. w p (among_left p mine rest i)))
    (lines_begun all phase session (after context line part) lines parts s.1 (λ p i. w p (among_right p mine rest i)))

blocks_begun : (all : List Placed) (earlier blocks : List Block) (phase : ℕ) → AreShapedBehind earlier phase blocks
    → Within (places_behind earlier blocks) all → Each (HasBegun all) (places_behind earlier blocks)
unfolding places_behind
blocks_begun all earlier [] phase s w = tt
blocks_begun all earlier (block ∷ blocks) phase s w =
    let mine : List Placed = placed_lines block.phase block.session (told_by block.session fresh earlier) block.lines block.parts in
    let rest : List Placed = places_behind (earlier ++ block ∷ []) blocks in
    each_join (HasBegun all) mine rest
    (lines_begun all block.phase block.session (told_by block.session fresh earlier) block.lines block.parts s.1 (λ p i. w p (among_left p mine rest i)))
    (blocks_begun all (earlier ++ block ∷ []) blocks block.phase s.2 (λ p i. w p (among_right p mine rest i)))

pub all_begun : (blocks : List Block) → AreShapedBehind [] 0 blocks → Each (HasBegun (places blocks)) (places blocks)
all_begun blocks s = blocks_begun (places blocks) [] blocks 0 s (λ p i. i)
