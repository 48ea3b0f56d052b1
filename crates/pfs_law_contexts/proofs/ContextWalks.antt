-- Contexts along the entries of lines and blocks.
use Rattle.std.proofs.Common.{◌≡◌, refl, ℕ, ◌==◌, Bool, true, false, cond, List, [], ◌∷◌, ◌++◌, sym, ◌∙◌, ap, subst, ◌⊎◌, inl, inr, arith, Option, None}
use Rattle.std.proofs.lemmas.Bool.{eqb-true}
use Rattle.std.proofs.lemmas.Bool.Decides.{nat_tests}
use Rattle.pfs_event.specs.declared.entry.Entry.{Entry}
use Rattle.pfs_event.specs.declared.entry.Entry.TheVariants as says
use Rattle.pfs_model.specs.declared.lines.Line.{Line}
use Rattle.pfs_model.specs.Actions.{is_acted}
use Rattle.pfs_model.specs.declared.lines.Subject.{Subject}
use Rattle.pfs_model.specs.Chains.{Each, action_change, change_at}
use Rattle.pfs_model.specs.Contexts.{Context, after, after_entries, fresh, noted, subject_of, turned}
use Rattle.pfs_model.specs.Cuts.{is_headed}
use Rattle.pfs_model.specs.EntryAsks.{is_head}
use Rattle.pfs_model.specs.EntryPlaces.{AreShapedBehind, Block, Placed, after_lines, placed_lines, placed_part, places_behind, told_by}
use Rattle.pfs_model.specs.JournalCuts.{AreShaped}
use Rattle.pfs_model.specs.Shapes.{shape}
use Rattle.pfs_model.proofs.ActionGuards.{Guarded, begins, cut_guarded, shape_guards}
use Rattle.pfs_model.proofs.ClosedShapes.{shape_headed}
use Rattle.pfs_model.proofs.LineWalks.{IsNoted, noted_is}
use Rattle.pfs_model.proofs.ShapeCuts.{part_headed}
use Rattle.pfs_law_contexts.proofs.QuietParts.{is_ending, quiet_part}
use Rattle.pfs_law_contexts.specs.ToldContexts.{AreToldBehind, ContextLaw, EndLaw, GoesOn, HasBegun, is_quiet, left_by, left_in, past}

past_join : (earlier xs ys : List Placed) → past earlier (xs ++ ys) ≡ past (past earlier xs) ys
past_join earlier [] ys = refl
past_join earlier (x ∷ xs) ys = past_join (x ∷ earlier) xs ys

told_join : (earlier xs ys : List Placed) → AreToldBehind earlier xs → AreToldBehind (past earlier xs) ys → AreToldBehind earlier (xs ++ ys)
told_join earlier [] ys t u = u
told_join earlier (x ∷ xs) ys t u = (t.0, told_join (x ∷ earlier) xs ys t.1 u)

-- a line that has ended ends once
turned_twice : (context : Context) → turned (turned context) ≡ turned context
turned_twice context = refl

turned_on : (left context : Context) → GoesOn left context → GoesOn left (turned context)
turned_on left context (inl e) = inr (ap turned e)
turned_on left context (inr e) = inr (ap turned e ∙ turned_twice left)

own_left : (place : Placed) (earlier : List Placed) → left_in (place ∷ earlier) place.session ≡ left_by place
own_left place earlier = ap (λ b. cond b (left_by place) (left_in earlier place.session)) (self place.session) where
  self : (n : ℕ) → (n == n) ≡ true
  self n = grind (arith, nat_tests)

-- the entries of a session leave the others where they are
abbrev LeavesOthers : ℕ → List Placed → List Placed → Type 0
LeavesOthers session earlier later = (other : ℕ) → (session == other) ≡ false → left_in later other ≡ left_in earlier other

record IsWalked (session : ℕ) (earlier xs : List Placed) (context : Context) : Type 0 where
  told : AreToldBehind earlier xs
  goes : GoesOn (left_in (past earlier xs) session) context
  others : LeavesOthers session earlier (past earlier xs)

-- the first entry of a line may begin it, and any other stands behind one
abbrev IsInside : List Placed → ℕ → Context → Bool → List Entry → Type 0
IsInside earlier session context true entries = context ≡ left_in earlier session
IsInside earlier session context false entries = is_headed entries ≡ true

abbrev acted_next : Bool → Entry → Bool
acted_next true entry = true
acted_next false entry = begins entry

none_begins : (e : Entry) → action_change e ≡ [] → begins e ≡ false
none_begins (says.Connect action thread account user host) n = absurd (cc)
none_begins (says.Act action) n = absurd (cc)
none_begins _ n = refl

not_true : false ≡ true → ⊥
not_true f = cc

-- no event has ended so far and none ends, or nothing asks for that
abbrev IsCalm : Context → List Entry → Type 0
IsCalm context entries = ((context.ended ≡ None) × Each (λ e. is_ending e ≡ false) entries) ⊎ Each (λ e. is_quiet e ≡ false) entries

calm_noted : (subject : Option Subject) (context : Context) (entry : Entry) → is_ending entry ≡ false → context.ended ≡ None → (noted subject context entry).ended ≡ None
calm_noted subject context (says.End event last consumers thread) n e = absurd (cc)
calm_noted subject context (says.Connect action thread account user host) n e = e
calm_noted subject context (says.Act action) n e = e
calm_noted subject context (says.Start event verdict consumers thread class table) n e = refl
calm_noted subject context (says.Held row first second) n e = e
calm_noted subject context (says.Add row version) n e = e
calm_noted subject context says.Settle n e = refl
calm_noted subject context (says.Take row version) n e = e
calm_noted subject context _ n e = e

part_walked : (phase session : ℕ) (line : Line) (context : Context) (entries : List Entry) (earlier : List Placed) (inner acted : Bool)
    → GoesOn (left_in earlier session) context → IsInside earlier session context inner entries → Guarded acted entries
    → (acted ≡ true → HasBegun earlier session context.action) → IsCalm context entries
    → IsWalked session earlier (placed_part phase session line context entries) (after_entries (subject_of line) context entries)
part_walked phase session line context [] earlier inner acted goes inside guarded begun calm = record { told = tt; goes = goes; others = λ other q. refl }
part_walked phase session line context (entry ∷ entries) earlier inner acted goes inside guarded begun calm =
    more (part_walked phase session line (noted (subject_of line) context entry) entries (place ∷ earlier) true (acted_next acted entry)
    (inl next) next (guards acted guarded) (on (noted_is (subject_of line) context entry)) (still calm)) where
      place : Placed
      place = record { phase = phase; session = session; line = line; context = context; entry = entry }

      next : noted (subject_of line) context entry ≡ left_in (place ∷ earlier) session
      next = sym (own_left place earlier)

      guards : (acted : Bool) → Guarded acted (entry ∷ entries) → Guarded (acted_next acted entry) entries
      guards true g = all entries where
        all : (es : List Entry) → Guarded true es
        all [] = tt
        all (e ∷ es) = tt
      guards false g = g.1

      here : (inner : Bool) → IsInside earlier session context inner (entry ∷ entries) → is_head entry ≡ false → context ≡ left_in earlier session
      here true i h = i
      here false i h = absurd (not_true (sym h ∙ i))

      by_action : (acted : Bool) → Guarded acted (entry ∷ entries) → (acted ≡ true → HasBegun earlier session context.action)
          → is_acted entry ≡ true → HasBegun earlier session context.action
      by_action true g b e = b refl
      by_action false g b e = absurd (not_true (sym g.0 ∙ e))

      stays : (acted : Bool) → (acted ≡ true → HasBegun earlier session context.action) → begins entry ≡ false → acted_next acted entry ≡ true
          → HasBegun earlier session context.action
      stays true b q e = b refl
      stays false b q e = absurd (not_true (sym q ∙ e))

      on : IsNoted (subject_of line) context entry → acted_next acted entry ≡ true
          → HasBegun (place ∷ earlier) session (noted (subject_of line) context entry).action
      on (inl k) e =
          let h : HasBegun earlier session context.action = stays acted begun (none_begins entry k.0) e in
          record { place = h.place; there = inr h.there; own = h.own; says = h.says ∙ ap (λ z. change_at 0 z ∷ []) (sym k.1) }
      on (inr (n, q, same, done)) e = record { place = place; there = inl refl; own = refl; says = q ∙ ap (λ z. change_at 0 z ∷ []) (sym same) }

      still : IsCalm context (entry ∷ entries) → IsCalm (noted (subject_of line) context entry) entries
      still (inl k) = inl (calm_noted (subject_of line) context entry k.1.0 k.0, k.1.1)
      still (inr k) = inr k.1

      hushed : IsCalm context (entry ∷ entries) → is_quiet entry ≡ true → context.ended ≡ None
      hushed (inl k) q = k.0
      hushed (inr k) q = absurd (not_true (sym k.0 ∙ q))

      more : IsWalked session (place ∷ earlier) (placed_part phase session line (noted (subject_of line) context entry) entries)
          (after_entries (subject_of line) (noted (subject_of line) context entry) entries)
          → IsWalked session earlier (placed_part phase session line context (entry ∷ entries)) (after_entries (subject_of line) context (entry ∷ entries))
      more w = record {
        told = (record { goes = goes; inside = here inner inside; begun = by_action acted guarded begun; quiet = hushed calm }, w.told);
        goes = w.goes;
        others = λ other q. w.others other q ∙ ap (λ b. cond b (left_by place) (left_in earlier other)) q;
      }

walked_join : (session : ℕ) (earlier xs ys : List Placed) (context : Context) → AreToldBehind earlier xs → LeavesOthers session earlier (past earlier xs)
    → IsWalked session (past earlier xs) ys context → IsWalked session earlier (xs ++ ys) context
walked_join session earlier xs ys context t o w = record {
  told = told_join earlier xs ys t w.told;
  goes = subst (λ z. GoesOn (left_in z session) context) (sym (past_join earlier xs ys)) w.goes;
  others = λ other q. ap (λ z. left_in z other) (past_join earlier xs ys) ∙ w.others other q ∙ o other q;
}

lines_walked : (phase session : ℕ) (context : Context) (lines : List Line) (parts : List (List Entry)) (earlier : List Placed) → GoesOn (left_in earlier session) context
    → AreShaped context lines parts → IsWalked session earlier (placed_lines phase session context lines parts) (after_lines context lines parts)
lines_walked phase session context [] parts earlier goes shaped = record { told = tt; goes = goes; others = λ other q. refl }
lines_walked phase session context (line ∷ lines) [] earlier goes shaped = record { told = tt; goes = goes; others = λ other q. refl }
lines_walked phase session context (line ∷ lines) (part ∷ parts) earlier goes shaped =
    let one : IsWalked session earlier (placed_part phase session line (turned context) part) (after context line part) =
    part_walked phase session line (turned context) part earlier false false (turned_on (left_in earlier session) context goes)
    (part_headed (shape context line) part (shape_headed context line) shaped.0) (cut_guarded (shape context line) part (shape_guards context line) shaped.0)
    (λ e. absurd (not_true e)) (calm part (quiet_part context line part shaped.0)) in
    walked_join session earlier (placed_part phase session line (turned context) part) (placed_lines phase session (after context line part) lines parts)
    (after_lines (after context line part) lines parts) one.told one.others
    (lines_walked phase session (after context line part) lines parts (past earlier (placed_part phase session line (turned context) part)) one.goes shaped.1) where
      calm : (part : List Entry) → Each (λ e. is_ending e ≡ false) part ⊎ Each (λ e. is_quiet e ≡ false) part → IsCalm (turned context) part
      calm part (inl k) = inl (refl, k)
      calm part (inr k) = inr k

-- each session is left as its blocks tell
abbrev AllTold : List Block → List Placed → Type 0
AllTold blocks earlier = (session : ℕ) → GoesOn (left_in earlier session) (told_by session fresh blocks)

told_more : (session : ℕ) (context : Context) (blocks : List Block) (block : Block)
    → told_by session context (blocks ++ block ∷ [])
    ≡ cond (block.session == session) (after_lines (told_by session context blocks) block.lines block.parts) (told_by session context blocks)
told_more session context [] block = refl
told_more session context (b ∷ blocks) block = told_more session (cond (b.session == session) (after_lines context b.lines b.parts) context) blocks block

record AreWalked (before blocks : List Block) (earlier : List Placed) : Type 0 where
  told : AreToldBehind earlier (places_behind before blocks)
  ends : AllTold (before ++ blocks) (past earlier (places_behind before blocks))

no_more : {A : Type 0} (xs : List A) → xs ++ [] ≡ xs
no_more [] = refl
no_more {A} (x ∷ xs) = ap (λ z. x ∷ z) (no_more {A = A} xs)

assoc : {A : Type 0} (us vs ws : List A) → (us ++ vs) ++ ws ≡ us ++ (vs ++ ws)
assoc [] vs ws = refl
assoc {A} (u ∷ us) vs ws = ap (λ z. u ∷ z) (assoc {A = A} us vs ws)

blocks_walked : (before blocks : List Block) (phase : ℕ) (earlier : List Placed) → AllTold before earlier → AreShapedBehind before phase blocks → AreWalked before blocks earlier
unfolding places_behind
blocks_walked before [] phase earlier told shaped = record { told = tt; ends = subst (λ z. AllTold z earlier) (sym (no_more before)) told }
blocks_walked before (block ∷ blocks) phase earlier told shaped =
    whole (blocks_walked (before ++ block ∷ []) blocks block.phase (past earlier own) now shaped.2) where
      own : List Placed
      own = placed_lines block.phase block.session (told_by block.session fresh before) block.lines block.parts

      walked : IsWalked block.session earlier own (after_lines (told_by block.session fresh before) block.lines block.parts)
      walked = lines_walked block.phase block.session (told_by block.session fresh before) block.lines block.parts earlier (told block.session) shaped.1

      now : AllTold (before ++ block ∷ []) (past earlier own)
      now session = subst (GoesOn (left_in (past earlier own) session)) (sym (told_more session fresh before block)) (on (block.session == session) refl) where
        on : (b : Bool) → (block.session == session) ≡ b
            → GoesOn (left_in (past earlier own) session) (cond b (after_lines (told_by session fresh before) block.lines block.parts) (told_by session fresh before))
        on true q = subst (λ z. GoesOn (left_in (past earlier own) z) (after_lines (told_by z fresh before) block.lines block.parts)) (eqb-true block.session session q) walked.goes
        on false q = subst (λ z. GoesOn z (told_by session fresh before)) (sym (walked.others session q)) (told session)

      whole : AreWalked (before ++ block ∷ []) blocks (past earlier own) → AreWalked before (block ∷ blocks) earlier
      whole rest = record {
        told = told_join earlier own (places_behind (before ++ block ∷ []) blocks) walked.told rest.told;
        ends = subst (λ z. AllTold z (past earlier (own ++ places_behind (before ++ block ∷ []) blocks))) (assoc before (block ∷ []) blocks)
            (subst (AllTold ((before ++ block ∷ []) ++ blocks)) (sym (past_join earlier own (places_behind (before ++ block ∷ []) blocks))) rest.ends);
      }

pub contexts : ContextLaw
contexts blocks shaped = (blocks_walked [] blocks 0 [] (λ session. inl refl) shaped).told

pub ends : EndLaw
ends blocks session shaped = (blocks_walked [] blocks 0 [] (λ session. inl refl) shaped).ends session
