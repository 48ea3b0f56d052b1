-- What sessions hold, along their entries.
use Rattle.std.proofs.Common.{◌≡◌, refl, ℕ, ◌==◌, Bool, true, false, cond, List, [], ◌∷◌, ◌++◌, sym, ◌∙◌, ap}
use Rattle.std.specs.Prelude.{Option}
use Rattle.std.proofs.lemmas.Bool.{eqb-true}
use Rattle.std.proofs.lemmas.Bool.Decides.{nat_tests}
use Rattle.std.proofs.Common.{arith}
use Rattle.pfs_event.specs.declared.entry.Entry.{Entry}
use Rattle.pfs_event.specs.declared.entry.Entry.TheVariants as says
use Rattle.pfs_model.specs.declared.lines.Line.{Line}
use Rattle.pfs_model.specs.declared.lines.Subject.{Subject}
use Rattle.pfs_model.specs.Contexts.{Context, after, after_entries, fresh, noted, subject_of, turned}
use Rattle.pfs_model.specs.EntryPlaces.{Block, Placed, after_lines, placed_lines, placed_part, places_behind, told_by}
use Rattle.pfs_model.proofs.LineWalks.{past, past_join}
use Rattle.pfs_check_contents.specs.HeldEvents.{waiting_behind, waiting_in}
use Rattle.pfs_law_orderly.specs.HeldEvents.{AreHeldBehind, HeldLaw}

noted_held : (subject : Option Subject) (context : Context) (entry : Entry)
    → (noted subject context entry).waiting ≡ waiting_behind entry context.ended context.waiting
noted_held subject context (says.Held row first second) = refl
noted_held subject context (says.Add row version) = refl
noted_held subject context (says.Connect action thread account user host) = refl
noted_held subject context (says.Act action) = refl
noted_held subject context (says.Start event verdict consumers thread class table) = refl
noted_held subject context (says.End event last consumers thread) = refl
noted_held subject context says.Settle = refl
noted_held subject context (says.Take row version) = refl
noted_held subject context _ = refl

own_step : (place : Placed) (earlier : List Placed) → place.context.waiting ≡ waiting_in earlier place.session
    → waiting_in (place ∷ earlier) place.session ≡ waiting_behind place.entry place.context.ended place.context.waiting
own_step place earlier e =
    ap (λ b. cond b (waiting_behind place.entry place.context.ended (waiting_in earlier place.session)) (waiting_in earlier place.session)) (self place.session)
    ∙ ap (waiting_behind place.entry place.context.ended) (sym e) where
      self : (n : ℕ) → (n == n) ≡ true
      self n = grind (arith, nat_tests)

-- the entries of a session leave what the others hold
abbrev pub LeavesOthers : ℕ → List Placed → List Placed → Type 0
LeavesOthers session earlier later = (other : ℕ) → (session == other) ≡ false → waiting_in later other ≡ waiting_in earlier other

pub record IsWalked (session : ℕ) (earlier xs : List Placed) (context : Context) : Type 0 where
  pub held : AreHeldBehind earlier xs
  pub waiting : context.waiting ≡ waiting_in (past earlier xs) session
  pub others : LeavesOthers session earlier (past earlier xs)

held_join : (earlier xs ys : List Placed) → AreHeldBehind earlier xs → AreHeldBehind (past earlier xs) ys → AreHeldBehind earlier (xs ++ ys)
held_join earlier [] ys h k = k
held_join earlier (x ∷ xs) ys h k = (h.0, held_join (x ∷ earlier) xs ys h.1 k)

part_held : (phase session : ℕ) (line : Line) (context : Context) (entries : List Entry) (earlier : List Placed) → context.waiting ≡ waiting_in earlier session
    → IsWalked session earlier (placed_part phase session line context entries) (after_entries (subject_of line) context entries)
part_held phase session line context [] earlier e = record { held = tt; waiting = e; others = λ other q. refl }
part_held phase session line context (entry ∷ entries) earlier e = more (part_held phase session line (noted (subject_of line) context entry) entries (place ∷ earlier) next) where
  place : Placed
  place = record { phase = phase; session = session; line = line; context = context; entry = entry }

  next : (noted (subject_of line) context entry).waiting ≡ waiting_in (place ∷ earlier) session
  next = noted_held (subject_of line) context entry ∙ sym (own_step place earlier e)

  more : IsWalked session (place ∷ earlier) (placed_part phase session line (noted (subject_of line) context entry) entries)
      (after_entries (subject_of line) (noted (subject_of line) context entry) entries)
      → IsWalked session earlier (placed_part phase session line context (entry ∷ entries)) (after_entries (subject_of line) context (entry ∷ entries))
  more w = record {
    held = (e, w.held);
    waiting = w.waiting;
    others = λ other q. w.others other q
        ∙ ap (λ b. cond b (waiting_behind entry context.ended (waiting_in earlier other)) (waiting_in earlier other)) q;
  }

walked_join : (session : ℕ) (earlier xs ys : List Placed) (context : Context) → AreHeldBehind earlier xs → LeavesOthers session earlier (past earlier xs)
    → IsWalked session (past earlier xs) ys context → IsWalked session earlier (xs ++ ys) context
walked_join session earlier xs ys context h o w = record {
  held = held_join earlier xs ys h w.held;
  waiting = w.waiting ∙ ap (λ z. waiting_in z session) (sym (past_join earlier xs ys));
  others = λ other q. ap (λ z. waiting_in z other) (past_join earlier xs ys) ∙ w.others other q ∙ o other q;
}

lines_held : (phase session : ℕ) (context : Context) (lines : List Line) (parts : List (List Entry)) (earlier : List Placed) → context.waiting ≡ waiting_in earlier session
    → IsWalked session earlier (placed_lines phase session context lines parts) (after_lines context lines parts)
lines_held phase session context [] parts earlier e = record { held = tt; waiting = e; others = λ other q. refl }
lines_held phase session context (line ∷ lines) [] earlier e = record { held = tt; waiting = e; others = λ other q. refl }
lines_held phase session context (line ∷ lines) (part ∷ parts) earlier e =
    let one : IsWalked session earlier (placed_part phase session line (turned context) part) (after context line part) =
    part_held phase session line (turned context) part earlier e in
    walked_join session earlier (placed_part phase session line (turned context) part) (placed_lines phase session (after context line part) lines parts)
    (after_lines (after context line part) lines parts) one.held one.others
    (lines_held phase session (after context line part) lines parts (past earlier (placed_part phase session line (turned context) part)) one.waiting)

-- each session holds what its blocks tell
abbrev pub AllTold : List Block → List Placed → Type 0
AllTold blocks earlier = (session : ℕ) → (told_by session fresh blocks).waiting ≡ waiting_in earlier session

told_more : (session : ℕ) (context : Context) (blocks : List Block) (block : Block)
    → told_by session context (blocks ++ block ∷ [])
    ≡ cond (block.session == session) (after_lines (told_by session context blocks) block.lines block.parts) (told_by session context blocks)
told_more session context [] block = refl
told_more session context (b ∷ blocks) block = told_more session (cond (b.session == session) (after_lines context b.lines b.parts) context) blocks block

blocks_held : (earlier_blocks blocks : List Block) (earlier : List Placed) → AllTold earlier_blocks earlier → AreHeldBehind earlier (places_behind earlier_blocks blocks)
unfolding places_behind
blocks_held earlier_blocks [] earlier told = tt
blocks_held earlier_blocks (block ∷ blocks) earlier told =
    held_join earlier (placed_lines block.phase block.session (told_by block.session fresh earlier_blocks) block.lines block.parts)
    (places_behind (earlier_blocks ++ block ∷ []) blocks) walked.held
    (blocks_held (earlier_blocks ++ block ∷ []) blocks (past earlier (placed_lines block.phase block.session (told_by block.session fresh earlier_blocks) block.lines block.parts)) now) where
      walked : IsWalked block.session earlier (placed_lines block.phase block.session (told_by block.session fresh earlier_blocks) block.lines block.parts)
          (after_lines (told_by block.session fresh earlier_blocks) block.lines block.parts)
      walked = lines_held block.phase block.session (told_by block.session fresh earlier_blocks) block.lines block.parts earlier (told block.session)

      now : AllTold (earlier_blocks ++ block ∷ []) (past earlier (placed_lines block.phase block.session (told_by block.session fresh earlier_blocks) block.lines block.parts))
      now session = ap (λ (z : Context). z.waiting) (told_more session fresh earlier_blocks block) ∙ on (block.session == session) refl where
        on : (b : Bool) → (block.session == session) ≡ b
            → (cond b (after_lines (told_by session fresh earlier_blocks) block.lines block.parts) (told_by session fresh earlier_blocks)).waiting
            ≡ waiting_in (past earlier (placed_lines block.phase block.session (told_by block.session fresh earlier_blocks) block.lines block.parts)) session
        on true q =
            let same : block.session ≡ session = eqb-true block.session session q in
            ap (λ z. (after_lines (told_by z fresh earlier_blocks) block.lines block.parts).waiting) (sym same) ∙ walked.waiting
            ∙ ap (waiting_in (past earlier (placed_lines block.phase block.session (told_by block.session fresh earlier_blocks) block.lines block.parts))) same
        on false q = told session ∙ sym (walked.others session q)

pub held : HeldLaw
held blocks = blocks_held [] blocks [] (λ session. refl)
