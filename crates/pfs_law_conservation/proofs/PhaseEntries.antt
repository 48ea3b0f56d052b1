-- The entries up to a phase's end are those of the blocks up to there, and what stands behind begins with a line's
-- first entry.
use Rattle.std.proofs.Common.{◌≡◌, refl, ℕ, ◌<◌, ◌≤◌, Bool, true, false, cond, nat_le, List, [], ◌∷◌, ◌++◌, sym, ap, ◌∙◌, arith}
use Rattle.std.proofs.lemmas.Bool.{leb-false}
use Rattle.pfs_model.proofs.EachLists.{each_join}
use Rattle.pfs_event.specs.declared.entry.Entry.{Entry}
use Rattle.pfs_model.specs.EntryAsks.{is_head}
use Rattle.pfs_model.specs.Chains.{Each}
use Rattle.pfs_model.specs.Contexts.{Context, fresh, subject_of, noted, turned, after}
use Rattle.pfs_model.specs.Cuts.{is_headed}
use Rattle.pfs_model.specs.JournalCuts.{AreShaped}
use Rattle.pfs_model.specs.EntryPlaces.{Block, Placed, placed_part, placed_lines, told_by, places_behind, chosen, up_to_phase, AreShapedBehind, IsShaped}
use Rattle.pfs_model.specs.Shapes.{shape}
use Rattle.pfs_model.specs.declared.lines.Line.{Line}
use Rattle.pfs_model.proofs.ShapeCuts.{part_headed}
use Rattle.pfs_model.proofs.ClosedShapes.{shape_headed}

abbrev pub blocks_to : ℕ → List Block → List Block
blocks_to phase [] = []
blocks_to phase (b ∷ bs) = cond (nat_le b.phase phase) (b ∷ blocks_to phase bs) []

-- nothing stands there, or an entry with which a line begins
abbrev pub IsHeaded : List Placed → Type 0
IsHeaded [] = Unit {0}
IsHeaded (p ∷ ps) = is_head p.entry ≡ true

pub headed_then : (xs ys : List Placed) → IsHeaded xs → IsHeaded ys → IsHeaded (xs ++ ys)
headed_then [] ys h k = k
headed_then (x ∷ xs) ys h k = h

headed_part : (phase session : ℕ) (line : Line) (c : Context) (part : List Entry) → is_headed part ≡ true → IsHeaded (placed_part phase session line c part)
headed_part phase session line c [] h = tt
headed_part phase session line c (e ∷ es) h = h

headed_lines : (phase session : ℕ) (c : Context) (lines : List Line) (parts : List (List Entry)) → AreShaped c lines parts → IsHeaded (placed_lines phase session c lines parts)
headed_lines phase session c [] parts s = tt
headed_lines phase session c (line ∷ lines) [] s = tt
headed_lines phase session c (line ∷ lines) (part ∷ parts) s =
    headed_then (placed_part phase session line (turned c) part) (placed_lines phase session (after c line part) lines parts)
    (headed_part phase session line (turned c) part (part_headed (shape c line) part (shape_headed c line) s.0))
    (headed_lines phase session (after c line part) lines parts s.1)

pub headed_places : (earlier blocks : List Block) (low : ℕ) → AreShapedBehind earlier low blocks → IsHeaded (places_behind earlier blocks)
unfolding places_behind
headed_places earlier [] low s = tt
headed_places earlier (b ∷ blocks) low s =
    headed_then (placed_lines b.phase b.session (told_by b.session fresh earlier) b.lines b.parts) (places_behind (earlier ++ b ∷ []) blocks)
    (headed_lines b.phase b.session (told_by b.session fresh earlier) b.lines b.parts s.1)
    (headed_places (earlier ++ b ∷ []) blocks b.phase s.2)

part_phase : (phase session : ℕ) (line : Line) (c : Context) (part : List Entry) → Each (λ (p : Placed). p.phase ≡ phase) (placed_part phase session line c part)
part_phase phase session line c [] = tt
part_phase phase session line c (e ∷ es) = (refl, part_phase phase session line (noted (subject_of line) c e) es)

lines_phase : (phase session : ℕ) (c : Context) (lines : List Line) (parts : List (List Entry)) → Each (λ (p : Placed). p.phase ≡ phase) (placed_lines phase session c lines parts)
lines_phase phase session c [] parts = tt
lines_phase phase session c (line ∷ lines) [] = tt
lines_phase phase session c (line ∷ lines) (part ∷ parts) =
    each_join (λ (p : Placed). p.phase ≡ phase) (placed_part phase session line (turned c) part) (placed_lines phase session (after c line part) lines parts)
    (part_phase phase session line (turned c) part) (lines_phase phase session (after c line part) lines parts)

up_all : (phase at : ℕ) (ps : List Placed) → nat_le at phase ≡ true → Each (λ (p : Placed). p.phase ≡ at) ps → up_to_phase phase ps ≡ ps
up_all phase at [] l h = refl
up_all phase at (p ∷ ps) l h = ap (λ b. cond b (p ∷ []) [] ++ up_to_phase phase ps) (ap (λ n. nat_le n phase) h.0 ∙ l) ∙ ap (λ (z : List Placed). p ∷ z) (up_all phase at ps l h.1)

up_none : (phase at : ℕ) (ps : List Placed) → nat_le at phase ≡ false → Each (λ (p : Placed). p.phase ≡ at) ps → up_to_phase phase ps ≡ []
up_none phase at [] l h = refl
up_none phase at (p ∷ ps) l h = ap (λ b. cond b (p ∷ []) [] ++ up_to_phase phase ps) (ap (λ n. nat_le n phase) h.0 ∙ l) ∙ up_none phase at ps l h.1

chosen_then : (test : Placed → Bool) (xs ys : List Placed) → chosen test (xs ++ ys) ≡ chosen test xs ++ chosen test ys
chosen_then test [] ys = refl
chosen_then test (x ∷ xs) ys = at (test x) (chosen_then test xs ys) where
  at : (b : Bool) → chosen test (xs ++ ys) ≡ chosen test xs ++ chosen test ys → cond b (x ∷ []) [] ++ chosen test (xs ++ ys) ≡ (cond b (x ∷ []) [] ++ chosen test xs) ++ chosen test ys
  at true e = ap (λ (z : List Placed). x ∷ z) e
  at false e = e

over : (a b : ℕ) → a < b → nat_le b a ≡ false
over a b l = grind arith

-- no later block stands in the phase
later_none : (phase low : ℕ) (earlier blocks : List Block) → AreShapedBehind earlier low blocks → phase < low → up_to_phase phase (places_behind earlier blocks) ≡ []
unfolding places_behind
later_none phase low earlier [] s l = refl
later_none phase low earlier (b ∷ blocks) s l =
    let above : low ≤ b.phase = s.0 in
    let xs : List Placed = placed_lines b.phase b.session (told_by b.session fresh earlier) b.lines b.parts in
    let ys : List Placed = places_behind (earlier ++ b ∷ []) blocks in
    chosen_then (λ place. nat_le place.phase phase) xs ys
    ∙ (ap (λ (z : List Placed). z ++ up_to_phase phase ys) (up_none phase b.phase xs (over phase b.phase (omega (arith, above, l))) (lines_phase b.phase b.session (told_by b.session fresh earlier) b.lines b.parts))
    ∙ later_none phase b.phase (earlier ++ b ∷ []) blocks s.2 (omega (arith, above, l)))

pub record IsFront (phase : ℕ) (earlier blocks : List Block) : Type 0 where
  pub same : up_to_phase phase (places_behind earlier blocks) ≡ places_behind earlier (blocks_to phase blocks)
  pub rest : List Placed
  pub all : places_behind earlier blocks ≡ places_behind earlier (blocks_to phase blocks) ++ rest
  pub headed : IsHeaded rest

assoc : (xs ys zs : List Placed) → xs ++ (ys ++ zs) ≡ (xs ++ ys) ++ zs
assoc [] ys zs = refl
assoc (x ∷ xs) ys zs = ap (λ (z : List Placed). x ∷ z) (assoc xs ys zs)

front_is : (phase low : ℕ) (earlier blocks : List Block) → AreShapedBehind earlier low blocks → IsFront phase earlier blocks
unfolding places_behind
front_is phase low earlier [] s = record { same = refl; rest = []; all = refl; headed = tt }
front_is phase low earlier (b ∷ blocks) s =
    at (nat_le b.phase phase) refl (front_is phase b.phase (earlier ++ b ∷ []) blocks s.2)
    (chosen_then (λ place. nat_le place.phase phase) (placed_lines b.phase b.session (told_by b.session fresh earlier) b.lines b.parts) (places_behind (earlier ++ b ∷ []) blocks))
    (λ q. later_none phase b.phase (earlier ++ b ∷ []) blocks s.2 (leb-false b.phase phase q))
    (headed_then (placed_lines b.phase b.session (told_by b.session fresh earlier) b.lines b.parts) (places_behind (earlier ++ b ∷ []) blocks)
    (headed_lines b.phase b.session (told_by b.session fresh earlier) b.lines b.parts s.1) (headed_places (earlier ++ b ∷ []) blocks b.phase s.2)) where
      xs : List Placed
      xs = placed_lines b.phase b.session (told_by b.session fresh earlier) b.lines b.parts

      ys : List Placed
      ys = places_behind (earlier ++ b ∷ []) blocks

      own : Each (λ (p : Placed). p.phase ≡ b.phase) (placed_lines b.phase b.session (told_by b.session fresh earlier) b.lines b.parts)
      own = lines_phase b.phase b.session (told_by b.session fresh earlier) b.lines b.parts

      Whole : List Block → Type 0
      Whole front = places_behind earlier front ≡ places_behind earlier front

      at : (x : Bool) → nat_le b.phase phase ≡ x → IsFront phase (earlier ++ b ∷ []) blocks
          → up_to_phase phase (xs ++ ys) ≡ up_to_phase phase xs ++ up_to_phase phase ys
          → (nat_le b.phase phase ≡ false → up_to_phase phase ys ≡ [])
          → IsHeaded (xs ++ ys) → IsFront phase earlier (b ∷ blocks)
      at true q f split none head = record {
        same = split ∙ (ap (λ (z : List Placed). z ++ up_to_phase phase ys) (up_all phase b.phase xs q own) ∙ (ap (λ (z : List Placed). xs ++ z) f.same ∙ sym (ap (λ z. places_behind earlier (cond z (b ∷ blocks_to phase blocks) [])) q)));
        rest = f.rest;
        all = ap (λ (z : List Placed). xs ++ z) f.all ∙ (assoc xs (places_behind (earlier ++ b ∷ []) (blocks_to phase blocks)) f.rest ∙ sym (ap (λ z. places_behind earlier (cond z (b ∷ blocks_to phase blocks) []) ++ f.rest) q));
        headed = f.headed;
      }
      at false q f split none head = record {
        same = split ∙ (ap (λ (z : List Placed). z ++ up_to_phase phase ys) (up_none phase b.phase xs q own) ∙ (none q ∙ sym (ap (λ z. places_behind earlier (cond z (b ∷ blocks_to phase blocks) [])) q)));
        rest = xs ++ ys;
        all = sym (ap (λ z. places_behind earlier (cond z (b ∷ blocks_to phase blocks) []) ++ (xs ++ ys)) q);
        headed = head;
      }

pub fronts : (phase : ℕ) (blocks : List Block) → IsShaped blocks → IsFront phase [] blocks
fronts phase blocks s = front_is phase 0 [] blocks s

-- what holds of blocks holds of those
shaped_to : (phase low : ℕ) (earlier blocks : List Block) → AreShapedBehind earlier low blocks → AreShapedBehind earlier low (blocks_to phase blocks)
shaped_to phase low earlier [] s = tt
shaped_to phase low earlier (b ∷ blocks) s = at (nat_le b.phase phase) (shaped_to phase b.phase (earlier ++ b ∷ []) blocks s.2) where
  at : (x : Bool) → AreShapedBehind (earlier ++ b ∷ []) b.phase (blocks_to phase blocks) → AreShapedBehind earlier low (cond x (b ∷ blocks_to phase blocks) [])
  at true r = (s.0, s.1, r)
  at false r = tt

pub front_shaped : (phase : ℕ) (blocks : List Block) → IsShaped blocks → IsShaped (blocks_to phase blocks)
front_shaped phase blocks s = shaped_to phase 0 [] blocks s

pub each_front : (P : Block → Type 0) (phase : ℕ) (blocks : List Block) → Each P blocks → Each P (blocks_to phase blocks)
each_front P phase [] h = tt
each_front P phase (b ∷ blocks) h = at (nat_le b.phase phase) (each_front P phase blocks h.1) where
  at : (x : Bool) → Each P (blocks_to phase blocks) → Each P (cond x (b ∷ blocks_to phase blocks) [])
  at true r = (h.0, r)
  at false r = tt
