-- The phases of entries in the order of a report.
use Rattle.std.proofs.Common.{◌≡◌, refl, ℕ, ◌≤◌, List, [], ◌∷◌, ◌++◌, arith}
use Rattle.pfs_event.specs.declared.entry.Entry.{Entry}
use Rattle.pfs_model.specs.declared.lines.Line.{Line}
use Rattle.pfs_model.specs.Contexts.{Context, after, fresh, noted, subject_of, turned}
use Rattle.pfs_model.specs.EntryPlaces.{AreShapedBehind, Block, IsShaped, Placed, placed_lines, placed_part, places, places_behind, told_by}
use Rattle.pfs_check_causes.specs.TicketPuts.{NeverFallFrom}

-- all are of one phase
abbrev pub AllIn : ℕ → List Placed → Type 0
AllIn phase [] = Unit {0}
AllIn phase (p ∷ ps) = (p.phase ≡ phase) × AllIn phase ps

all_join : (phase : ℕ) (ps qs : List Placed) → AllIn phase ps → AllIn phase qs → AllIn phase (ps ++ qs)
all_join phase [] qs a b = b
all_join phase (p ∷ ps) qs a b = (a.0, all_join phase ps qs a.1 b)

part_in : (phase session : ℕ) (line : Line) (context : Context) (entries : List Entry) → AllIn phase (placed_part phase session line context entries)
part_in phase session line context [] = tt
part_in phase session line context (entry ∷ entries) = (refl, part_in phase session line (noted (subject_of line) context entry) entries)

lines_in : (phase session : ℕ) (context : Context) (lines : List Line) (parts : List (List Entry))
    → AllIn phase (placed_lines phase session context lines parts)
lines_in phase session context [] parts = tt
lines_in phase session context (line ∷ lines) [] = tt
lines_in phase session context (line ∷ lines) (part ∷ parts) =
    all_join phase (placed_part phase session line (turned context) part)
    (placed_lines phase session (after context line part) lines parts)
    (part_in phase session line (turned context) part) (lines_in phase session (after context line part) lines parts)

lower_fall : (a b : ℕ) (ps : List Placed) → a ≤ b → NeverFallFrom b ps → NeverFallFrom a ps
lower_fall a b [] h s = tt
lower_fall a b (p ∷ ps) h s = (omega (arith, h, s.0), s.1)

fall_join : (a phase : ℕ) (ps qs : List Placed) → a ≤ phase → AllIn phase ps → NeverFallFrom phase qs → NeverFallFrom a (ps ++ qs)
fall_join a phase [] qs h all rest = lower_fall a phase qs h rest
fall_join a phase (p ∷ ps) qs h all rest =
    (omega (arith, h, all.0), fall_join p.phase phase ps qs (omega (arith, all.0)) all.1 rest)

never_fall : (earlier : List Block) (phase : ℕ) (blocks : List Block) → AreShapedBehind earlier phase blocks
    → NeverFallFrom phase (places_behind earlier blocks)
unfolding places_behind
never_fall earlier phase [] shaped = tt
never_fall earlier phase (block ∷ blocks) shaped =
    fall_join phase block.phase
    (placed_lines block.phase block.session (told_by block.session fresh earlier) block.lines block.parts)
    (places_behind (earlier ++ block ∷ []) blocks) shaped.0
    (lines_in block.phase block.session (told_by block.session fresh earlier) block.lines block.parts)
    (never_fall (earlier ++ block ∷ []) block.phase blocks shaped.2)

pub phases_fall : (blocks : List Block) → IsShaped blocks → NeverFallFrom 0 (places blocks)
phases_fall blocks shaped = never_fall [] 0 blocks shaped
