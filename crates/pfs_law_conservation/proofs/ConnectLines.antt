-- No entry of a connect's line says the number of another action.
use Rattle.std.proofs.Common.{◌≡◌, refl, ℕ, Bool, true, false, List, [], ◌∷◌, ◌++◌, sym, subst}
use Rattle.std.specs.Prelude.{Ok, Err, if◌then◌else◌}
use Rattle.pfs_model.proofs.EachLists.{each_join}
use Rattle.pfs_event.specs.declared.entry.Entry.{Entry}
use Rattle.pfs_event.specs.declared.entry.Entry.TheVariants as says
use Rattle.pfs_model.specs.EntryAsks.{fits, is_connect}
use Rattle.pfs_model.specs.Chains.{Each}
use Rattle.pfs_model.specs.Contexts.{Context, fresh, subject_of, noted, turned, after}
use Rattle.pfs_model.specs.Cuts.{behind, then_cut, cut}
use Rattle.pfs_model.specs.JournalCuts.{AreShaped}
use Rattle.pfs_model.specs.EntryPlaces.{Block, Placed, placed_part, placed_lines, told_by, places_behind, places, AreShapedBehind, IsShaped}
use Rattle.pfs_model.specs.Shapes.{shape, changes}
use Rattle.pfs_model.specs.declared.lines.Line.{Line}
use Rattle.pfs_model.specs.declared.lines.Line.TheVariants as lines
use Rattle.pfs_model.specs.declared.shapes.Ask.{Ask}
use Rattle.pfs_model.specs.declared.shapes.Ask.TheVariants as asks

abbrev pub is_act : Entry → Bool
is_act (says.Act action) = true
is_act _ = false

abbrev pub is_connecting : Line → Bool
is_connecting lines.Connect = true
is_connecting line = false

abbrev AreQuiet : List Entry → Type 0
AreQuiet es = Each (λ e. is_act e ≡ false) es

quiet_many : (ask : Ask) (part : List Entry) → ((e : Entry) → fits ask e ≡ true → is_act e ≡ false) → AreQuiet (behind ask part) → AreQuiet part
unfolding behind
quiet_many ask [] a g = tt
quiet_many ask (e ∷ es) a g = at (fits ask e) refl g (quiet_many ask es a) where
  at : (b : Bool) → fits ask e ≡ b → AreQuiet (if b then behind ask es else e ∷ es) → (AreQuiet (behind ask es) → AreQuiet es) → AreQuiet (e ∷ es)
  at true f g go = (a e f, go g)
  at false f g go = g

quiet_changes : (part : List Entry) → cut changes part ≡ Ok [] → AreQuiet part
unfolding cut
quiet_changes part s =
    quiet_many asks.Move part move (quiet_many asks.Sign (behind asks.Move part) sign (quiet_many asks.Set (behind asks.Sign (behind asks.Move part)) set
    (let none : behind asks.Set (behind asks.Sign (behind asks.Move part)) ≡ [] = cc in subst AreQuiet (sym none) tt))) where
      move : (e : Entry) → fits asks.Move e ≡ true → is_act e ≡ false
      move (says.Act action) f = absurd (cc)
      move _ f = refl

      sign : (e : Entry) → fits asks.Sign e ≡ true → is_act e ≡ false
      sign (says.Act action) f = absurd (cc)
      sign _ f = refl

      set : (e : Entry) → fits asks.Set e ≡ true → is_act e ≡ false
      set (says.Act action) f = absurd (cc)
      set _ f = refl

quiet_connect : (c : Context) (part : List Entry) → cut (shape c lines.Connect) part ≡ Ok [] → AreQuiet part
unfolding cut
quiet_connect c [] s = tt
quiet_connect c (e ∷ es) s = at (is_connect e) refl s where
  connect : (e : Entry) → is_connect e ≡ true → is_act e ≡ false
  connect (says.Act action) f = absurd (cc)
  connect _ f = refl

  at : (b : Bool) → is_connect e ≡ b → then_cut (if b then Ok es else Err (e ∷ es)) (cut changes) ≡ Ok [] → AreQuiet (e ∷ es)
  at true f s = (connect e f, quiet_changes es s)
  at false f s = absurd (cc)

-- so an action with a number of its own isn't a connect's
abbrev pub IsApart : Placed → Type 0
IsApart p = is_connecting p.line ≡ true → is_act p.entry ≡ false

apart_part : (phase session : ℕ) (line : Line) (c : Context) (part : List Entry) → (is_connecting line ≡ true → AreQuiet part) → Each IsApart (placed_part phase session line c part)
apart_part phase session line c [] h = tt
apart_part phase session line c (e ∷ es) h = ((λ q. (h q).0), apart_part phase session line (noted (subject_of line) c e) es (λ q. (h q).1))

line_quiet : (c : Context) (line : Line) (part : List Entry) → cut (shape c line) part ≡ Ok [] → is_connecting line ≡ true → AreQuiet part
line_quiet c lines.Connect part s q = quiet_connect c part s
line_quiet c _ part s q = absurd (cc)

apart_lines : (phase session : ℕ) (c : Context) (ls : List Line) (parts : List (List Entry)) → AreShaped c ls parts → Each IsApart (placed_lines phase session c ls parts)
apart_lines phase session c [] parts s = tt
apart_lines phase session c (line ∷ ls) [] s = tt
apart_lines phase session c (line ∷ ls) (part ∷ parts) s =
    each_join IsApart (placed_part phase session line (turned c) part) (placed_lines phase session (after c line part) ls parts)
    (apart_part phase session line (turned c) part (line_quiet c line part s.0))
    (apart_lines phase session (after c line part) ls parts s.1)

apart_blocks : (earlier blocks : List Block) (low : ℕ) → AreShapedBehind earlier low blocks → Each IsApart (places_behind earlier blocks)
unfolding places_behind
apart_blocks earlier [] low s = tt
apart_blocks earlier (b ∷ blocks) low s =
    each_join IsApart (placed_lines b.phase b.session (told_by b.session fresh earlier) b.lines b.parts) (places_behind (earlier ++ b ∷ []) blocks)
    (apart_lines b.phase b.session (told_by b.session fresh earlier) b.lines b.parts s.1)
    (apart_blocks (earlier ++ b ∷ []) blocks b.phase s.2)

pub all_apart : (blocks : List Block) → IsShaped blocks → Each IsApart (places blocks)
all_apart blocks s = apart_blocks [] blocks 0 s
