-- Each put to a place of a thread's ring stands behind a start or an end of its own session.
use Rattle.std.proofs.Common.{◌≡◌, refl, ℕ, Bool, true, false, cond, List, [], ◌∷◌, ◌++◌, Option, Some, None, sym, ap, subst, ◌∙◌}
use Rattle.pfs_event.specs.declared.entry.Entry.{Entry}
use Rattle.pfs_event.specs.declared.entry.Entry.TheVariants as says
use Rattle.pfs_model.specs.EntryAsks.{is_head}
use Rattle.pfs_model.specs.Contexts.{Context, after, fresh, noted, subject_of, turned}
use Rattle.pfs_model.specs.JournalCuts.{AreShaped}
use Rattle.pfs_model.specs.EntryPlaces.{AreShapedBehind, Block, IsShaped, Placed, placed_lines, placed_part, places, places_behind, told_by}
use Rattle.pfs_model.specs.Shapes.{shape}
use Rattle.pfs_model.specs.declared.lines.Line.{Line}
use Rattle.pfs_law_conservation.proofs.EventOffers.{Near, all_near}
use Rattle.pfs_law_summaries.proofs.RingSources.{AreRinged, cut_ringed, in_reach, shape_rings}
use Rattle.pfs_law_summaries.proofs.Rounds.{AreFollowing, is_event, is_ring}

-- entries where each put stands behind a start or an end
abbrev AreRingedPlaces : Bool → List Placed → Type 0
AreRingedPlaces hand [] = Unit {0}
AreRingedPlaces hand (p ∷ ps) = (hand ≡ false → is_ring p.entry ≡ false) × AreRingedPlaces (in_reach hand p.entry) ps

more_places : (hand : Bool) (ps : List Placed) → AreRingedPlaces false ps → AreRingedPlaces hand ps
more_places false ps h = h
more_places true [] h = tt
more_places true (p ∷ ps) h = ((λ q. absurd (cc)), at (is_head p.entry) refl h.1 (more_places true ps)) where
  at : (b : Bool) → is_head p.entry ≡ b → AreRingedPlaces (cond (is_head p.entry) (is_event p.entry) false) ps → (AreRingedPlaces false ps → AreRingedPlaces true ps) → AreRingedPlaces (cond (is_head p.entry) (is_event p.entry) true) ps
  at true q r go = subst (λ z. AreRingedPlaces (cond z (is_event p.entry) true) ps) (sym q) (subst (λ z. AreRingedPlaces (cond z (is_event p.entry) false) ps) q r)
  at false q r go = subst (λ z. AreRingedPlaces (cond z (is_event p.entry) true) ps) (sym q) (go (subst (λ z. AreRingedPlaces (cond z (is_event p.entry) false) ps) q r))

then_places : (hand : Bool) (xs ys : List Placed) → AreRingedPlaces hand xs → AreRingedPlaces false ys → AreRingedPlaces hand (xs ++ ys)
then_places hand [] ys a b = more_places hand ys b
then_places hand (x ∷ xs) ys a b = (a.0, then_places (in_reach hand x.entry) xs ys a.1 b)

part_places : (phase session : ℕ) (line : Line) (c : Context) (entries : List Entry) (hand : Bool) → AreRinged hand entries → AreRingedPlaces hand (placed_part phase session line c entries)
part_places phase session line c [] hand a = tt
part_places phase session line c (e ∷ es) hand a = (a.0, part_places phase session line (noted (subject_of line) c e) es (in_reach hand e) a.1)

lines_places : (phase session : ℕ) (c : Context) (lines : List Line) (parts : List (List Entry)) → AreShaped c lines parts → AreRingedPlaces false (placed_lines phase session c lines parts)
lines_places phase session c [] parts s = tt
lines_places phase session c (line ∷ lines) [] s = tt
lines_places phase session c (line ∷ lines) (part ∷ parts) s =
    then_places false (placed_part phase session line (turned c) part) (placed_lines phase session (after c line part) lines parts)
    (part_places phase session line (turned c) part false (cut_ringed (shape c line) part false (shape_rings c line) s.0))
    (lines_places phase session (after c line part) lines parts s.1)

blocks_places : (earlier blocks : List Block) (phase : ℕ) → AreShapedBehind earlier phase blocks → AreRingedPlaces false (places_behind earlier blocks)
unfolding places_behind
blocks_places earlier [] phase s = tt
blocks_places earlier (b ∷ blocks) phase s =
    then_places false (placed_lines b.phase b.session (told_by b.session fresh earlier) b.lines b.parts) (places_behind (earlier ++ b ∷ []) blocks)
    (lines_places b.phase b.session (told_by b.session fresh earlier) b.lines b.parts s.1)
    (blocks_places (earlier ++ b ∷ []) blocks b.phase s.2)

ring_no_head : (e : Entry) → is_ring e ≡ true → is_head e ≡ false
ring_no_head (says.Ring row version) r = refl
ring_no_head _ r = absurd (cc)

-- what stands behind it is of its session
near_following : (at : ℕ) (d : Context) (hand : Bool) (before : Option ℕ) (ps : List Placed) → Near at d ps → AreRingedPlaces hand ps → (hand ≡ true → before ≡ Some at) → AreFollowing before ps
near_following at d hand before [] n r h = tt
near_following at d hand before (p ∷ ps) n r h = (
  first,
  near_following p.session (noted (subject_of p.line) p.context p.entry) (in_reach hand p.entry) (cond (is_head p.entry) (cond (is_event p.entry) (Some p.session) None) before) ps n.1 r.1 (next (is_head p.entry) refl (is_event p.entry) refl),
) where
  first : is_ring p.entry ≡ true → before ≡ Some p.session
  first q = on hand refl where
    on : (b : Bool) → hand ≡ b → before ≡ Some p.session
    on true k = h k ∙ ap Some (sym (n.0 (ring_no_head p.entry q)).0)
    on false k = absurd (let f : true ≡ false = sym q ∙ r.0 k in cc)

  next : (a : Bool) → is_head p.entry ≡ a → (e : Bool) → is_event p.entry ≡ e → in_reach hand p.entry ≡ true → cond (is_head p.entry) (cond (is_event p.entry) (Some p.session) None) before ≡ Some p.session
  next true q true k i = ap (λ z. cond z (cond (is_event p.entry) (Some p.session) None) before) q ∙ ap (λ z. cond {A = Option ℕ} z (Some p.session) None) k
  next true q false k i = absurd (let f : false ≡ true = sym (ap (λ z. cond z (is_event p.entry) hand) q ∙ k) ∙ i in cc)
  next false q e k i = ap (λ z. cond z (cond (is_event p.entry) (Some p.session) None) before) q ∙ (h (sym (ap (λ z. cond z (is_event p.entry) hand) q) ∙ i) ∙ ap Some (sym (n.0 q).0))

pub all_following : (blocks : List Block) → IsShaped blocks → AreFollowing None (places blocks)
all_following blocks s = near_following 0 fresh false None (places blocks) (all_near blocks s 0 fresh) (blocks_places [] blocks 0 s) (λ q. absurd (cc))
