-- How the drafts of phases and blocks move by one line, and what is left where no line is to come.
use Rattle.std.proofs.Common.{ℕ, ◌≡◌, false, true, Bool, List, [], ◌∷◌, ◌++◌, map, Option, Some, None, option_map, refl, ap, sym, ◌∙◌, append-nil, append_assoc}
use Rattle.std.specs.Global.{Vec}
use Rattle.std.specs.Prelude.{◌||◌, OnOk, Result, Ok, Err}
use Rattle.std.proofs.lemmas.List.{map-append}
use Rattle.pfs_script.specs.declared.forms.Form.{Form}
use Rattle.pfs_script.specs.declared.forms.Form.TheVariants as form
use Rattle.pfs_script.specs.declared.blocks.BlockLine.{BlockLine}
use Rattle.pfs_script.specs.declared.blocks.Block.{Block}
use Rattle.pfs_script.specs.declared.blocks.Phase.{Phase}
use Rattle.pfs_script.specs.declared.drafts.Owner.{Owner}
use Rattle.pfs_script.specs.declared.drafts.BlockFront.{BlockFront}
use Rattle.pfs_script.specs.declared.drafts.BlockDraft.{BlockDraft}
use Rattle.pfs_script.specs.declared.drafts.PhaseDraft.{PhaseDraft}
use Rattle.pfs_script.specs.declared.drafts.Drafts.{Drafts}
use Rattle.pfs_script.specs.Sessions.{is_phase, is_session, ends_block}
use Rattle.pfs_script.specs.Blocks.{Sense, with_front, block_line, block_lines, block_with, block_behind, blocks_of, with_phase, phases_of}
use Rattle.std.specs.List.{fold}
use Rattle.pfs_lemmas.proofs.Bools.{or_first}
use Rattle.pfs_script.specs.SessionNames.{with_session}
use Rattle.pfs_script.specs.Drafts.{with_owner, block_of, block_named, phase_named, front_of, blocks_at_hand, blocks_behind, phases_behind}

-- one element at a time
front_first : {A : Type 0} (one : Option A) (more : List A) → with_front one more ≡ with_front one [] ++ more
front_first None more = refl
front_first (Some one) more = refl

phase_first : (begins : Bool) (blocks : List Block) (more : List Phase) → with_phase begins blocks more ≡ with_phase begins blocks [] ++ more
phase_first true blocks more = refl
phase_first false blocks more = refl

phases_first : (sense : Sense) (line : Form) (lines : List Form)
    → phases_of sense (line ∷ lines) ≡ with_phase (is_phase line) (blocks_of sense lines) (phases_of sense lines)
unfolding phases_of
phases_first sense line lines = refl

phases_last : (sense : Sense) → phases_of sense [] ≡ []
unfolding phases_of
phases_last sense = refl

blocks_first : (sense : Sense) (line : Form) (lines : List Form) → is_phase line ≡ false
    → blocks_of sense (line ∷ lines) ≡ with_front (block_behind sense lines line) (blocks_of sense lines)
unfolding blocks_of
blocks_first sense line lines p = rw p refl

blocks_stop : (sense : Sense) (line : Form) (lines : List Form) → is_phase line ≡ true → blocks_of sense (line ∷ lines) ≡ []
unfolding blocks_of
blocks_stop sense line lines p = rw p refl

blocks_last : (sense : Sense) → blocks_of sense [] ≡ []
unfolding blocks_of
blocks_last sense = refl

said_first : (sense : Sense) (line : Form) (lines : List Form) → ends_block line ≡ false
    → block_lines sense (line ∷ lines) ≡ with_front (block_line sense line) (block_lines sense lines)
unfolding block_lines
said_first sense line lines p = rw p refl

said_stop : (sense : Sense) (line : Form) (lines : List Form) → ends_block line ≡ true → block_lines sense (line ∷ lines) ≡ []
unfolding block_lines
said_stop sense line lines p = rw p refl

said_last : (sense : Sense) → block_lines sense [] ≡ []
unfolding block_lines
said_last sense = refl

-- the block at hand, with these lines in place of its own
abbrev closed : Sense → Option BlockFront → List BlockLine → Option Block
closed sense front lines = option_map (block_of sense.names lines) front

-- the blocks where the lines to come begin none and say nothing in the block at hand
blocks_closed : (sense : Sense) (drafts : Drafts) (lines : List Form) → block_lines sense lines ≡ [] → blocks_of sense lines ≡ []
    → blocks_behind sense drafts lines ≡ blocks_at_hand sense.names drafts
blocks_closed sense drafts lines l b =
    let said : drafts.lines.items ++ block_lines sense lines ≡ drafts.lines.items =
    ap (λ (more : List BlockLine). drafts.lines.items ++ more) l ∙ append-nil drafts.lines.items in
    ap (λ (some : List BlockLine). map (block_named sense.names) drafts.blocks.items ++ with_front (closed sense drafts.front some) (blocks_of sense lines)) said
    ∙ ap (λ (more : List Block). map (block_named sense.names) drafts.blocks.items ++ with_front (closed sense drafts.front drafts.lines.items) more) b

-- the phases where no line is to come
pub no_more_phases : (sense : Sense) (drafts : Drafts)
    → phases_behind sense drafts [] ≡ map (phase_named sense.names) drafts.phases.items ++ with_phase drafts.has_phase (blocks_at_hand sense.names drafts) []
no_more_phases sense drafts =
    ap (λ (blocks : List Block). map (phase_named sense.names) drafts.phases.items ++ with_phase drafts.has_phase blocks (phases_of sense [])) (blocks_closed sense drafts [] (said_last sense) (blocks_last sense))
    ∙ ap (λ (more : List Phase). map (phase_named sense.names) drafts.phases.items ++ with_phase drafts.has_phase (blocks_at_hand sense.names drafts) more) (phases_last sense)

-- the whole phases where the one at hand ends, whose blocks these are
pub phase_ended : (sense : Sense) (old mid : Drafts) (draft : PhaseDraft) (phases : List PhaseDraft)
    → mid ≡ record old { blocks = mid.blocks; front = mid.front; lines = mid.lines } → mid.has_phase ≡ true
    → map (block_named sense.names) mid.blocks.items ≡ blocks_at_hand sense.names old → draft.blocks ≡ mid.blocks
    → phases ≡ mid.phases.items ++ draft ∷ [] → map (phase_named sense.names) phases ≡ phases_behind sense old []
phase_ended sense old mid draft phases same begun b d e =
    let here : Phase = record { blocks = blocks_at_hand sense.names old } in
    let named : phase_named sense.names draft ≡ here =
    ap (λ (blocks : Vec BlockDraft). record { blocks = map (block_named sense.names) blocks.items }) d ∙ ap (λ (blocks : List Block). record { blocks = blocks }) b in
    ap (λ (some : List PhaseDraft). map (phase_named sense.names) some) e
    ∙ map-append (phase_named sense.names) mid.phases.items (draft ∷ [])
    ∙ ap (λ (drafts : Drafts). map (phase_named sense.names) drafts.phases.items ++ phase_named sense.names draft ∷ []) same
    ∙ ap (λ (phase : Phase). map (phase_named sense.names) old.phases.items ++ phase ∷ []) named
    ∙ ap (λ (has : Bool). map (phase_named sense.names) old.phases.items ++ with_phase has (blocks_at_hand sense.names old) []) (sym begun ∙ ap (λ (drafts : Drafts). drafts.has_phase) same)
    ∙ sym (no_more_phases sense old)

-- the whole phases where none is at hand
pub no_phase_ended : (sense : Sense) (old mid : Drafts)
    → mid ≡ record old { blocks = mid.blocks; front = mid.front; lines = mid.lines } → mid.has_phase ≡ false
    → map (phase_named sense.names) mid.phases.items ≡ phases_behind sense old []
no_phase_ended sense old mid same none =
    ap (λ (drafts : Drafts). map (phase_named sense.names) drafts.phases.items) same
    ∙ sym (append-nil (map (phase_named sense.names) old.phases.items))
    ∙ ap (λ (has : Bool). map (phase_named sense.names) old.phases.items ++ with_phase has (blocks_at_hand sense.names old) []) (sym none ∙ ap (λ (drafts : Drafts). drafts.has_phase) same)
    ∙ sym (no_more_phases sense old)

-- the phases at a line that begins none, where the whole phases stay and the blocks move
pub phases_moved : (sense : Sense) (old new : Drafts) (line : Form) (lines : List Form) → is_phase line ≡ false
    → new.phases.items ≡ old.phases.items → new.has_phase ≡ old.has_phase → blocks_behind sense old (line ∷ lines) ≡ blocks_behind sense new lines
    → phases_behind sense old (line ∷ lines) ≡ phases_behind sense new lines
phases_moved sense old new line lines p e h b =
    let behind : phases_of sense (line ∷ lines) ≡ phases_of sense lines =
    phases_first sense line lines ∙ ap (λ (begins : Bool). with_phase begins (blocks_of sense lines) (phases_of sense lines)) p in
    ap (λ (more : List Phase). map (phase_named sense.names) old.phases.items ++ with_phase old.has_phase (blocks_behind sense old (line ∷ lines)) more) behind
    ∙ ap (λ (blocks : List Block). map (phase_named sense.names) old.phases.items ++ with_phase old.has_phase blocks (phases_of sense lines)) b
    ∙ sym (ap (λ (begun : Bool). map (phase_named sense.names) old.phases.items ++ with_phase begun (blocks_behind sense new lines) (phases_of sense lines)) h)
    ∙ sym (ap (λ (phases : List PhaseDraft). map (phase_named sense.names) phases ++ with_phase new.has_phase (blocks_behind sense new lines) (phases_of sense lines)) e)

-- the blocks at a line that begins a block of this front
pub block_begun : (sense : Sense) (old new : Drafts) (line : Form) (lines : List Form) (front : Option BlockFront)
    → is_phase line ≡ false → ends_block line ≡ true → block_behind sense lines line ≡ closed sense front (block_lines sense lines)
    → map (block_named sense.names) new.blocks.items ≡ blocks_at_hand sense.names old → new.front ≡ front → new.lines.items ≡ []
    → blocks_behind sense old (line ∷ lines) ≡ blocks_behind sense new lines
block_begun sense old new line lines front p e is b f l =
    let before : List Block = map (block_named sense.names) old.blocks.items in
    let here : Option Block = closed sense old.front old.lines.items in
    let next : List Block = with_front (closed sense front (block_lines sense lines)) (blocks_of sense lines) in
    let said : old.lines.items ++ block_lines sense (line ∷ lines) ≡ old.lines.items =
    ap (λ (more : List BlockLine). old.lines.items ++ more) (said_stop sense line lines e) ∙ append-nil old.lines.items in
    let behind : blocks_of sense (line ∷ lines) ≡ next =
    blocks_first sense line lines p ∙ ap (λ (block : Option Block). with_front block (blocks_of sense lines)) is in
    ap (λ (lines' : List BlockLine). before ++ with_front (closed sense old.front lines') (blocks_of sense (line ∷ lines))) said
    ∙ ap (λ (more : List Block). before ++ with_front here more) behind
    ∙ ap (λ (more : List Block). before ++ more) (front_first here next)
    ∙ sym (append_assoc before (with_front here []) next)
    ∙ sym (ap (λ (blocks : List Block). blocks ++ next) b)
    ∙ sym (ap (λ (one : Option BlockFront). map (block_named sense.names) new.blocks.items ++ with_front (closed sense one (block_lines sense lines)) (blocks_of sense lines)) f)
    ∙ sym (ap (λ (some : List BlockLine). map (block_named sense.names) new.blocks.items ++ with_front (closed sense new.front (some ++ block_lines sense lines)) (blocks_of sense lines)) l)

begins_none : (sense : Sense) (lines : List Form) (line : Form) → ends_block line ≡ false → block_behind sense lines line ≡ None
begins_none sense lines (form.Connect session user host) e = absurd (cc)
begins_none sense lines (form.Resume session) e = absurd (cc)
begins_none sense lines _ e = refl

-- the blocks at a line that stands in the block at hand
pub block_grown : (sense : Sense) (old new : Drafts) (line : Form) (lines : List Form) → ends_block line ≡ false
    → new.blocks.items ≡ old.blocks.items → new.front ≡ old.front → new.lines.items ≡ old.lines.items ++ with_front (block_line sense line) []
    → blocks_behind sense old (line ∷ lines) ≡ blocks_behind sense new lines
block_grown sense old new line lines e b f l =
    let said : Option BlockLine = block_line sense line in
    let before : List Block = map (block_named sense.names) old.blocks.items in
    let grown : old.lines.items ++ block_lines sense (line ∷ lines) ≡ new.lines.items ++ block_lines sense lines =
    ap (λ (more : List BlockLine). old.lines.items ++ more) (said_first sense line lines e ∙ front_first said (block_lines sense lines))
    ∙ sym (append_assoc old.lines.items (with_front said []) (block_lines sense lines))
    ∙ sym (ap (λ (some : List BlockLine). some ++ block_lines sense lines) l) in
    let behind : blocks_of sense (line ∷ lines) ≡ blocks_of sense lines =
    blocks_first sense line lines (or_first (is_phase line) (is_session line) e)
    ∙ ap (λ (block : Option Block). with_front block (blocks_of sense lines)) (begins_none sense lines line e) in
    ap (λ (lines' : List BlockLine). before ++ with_front (closed sense old.front lines') (blocks_of sense (line ∷ lines))) grown
    ∙ ap (λ (more : List Block). before ++ with_front (closed sense old.front (new.lines.items ++ block_lines sense lines)) more) behind
    ∙ sym (ap (λ (one : Option BlockFront). before ++ with_front (closed sense one (new.lines.items ++ block_lines sense lines)) (blocks_of sense lines)) f)
    ∙ sym (ap (λ (blocks : List BlockDraft). map (block_named sense.names) blocks ++ with_front (closed sense new.front (new.lines.items ++ block_lines sense lines)) (blocks_of sense lines)) b)

-- the phases at a line that begins one, where none is at hand any more
pub phase_begun : (sense : Sense) (old new : Drafts) (lines : List Form)
    → map (phase_named sense.names) new.phases.items ≡ phases_behind sense old []
    → new.has_phase ≡ true → new.blocks.items ≡ [] → new.front ≡ None → new.lines.items ≡ []
    → phases_behind sense old (form.Phase ∷ lines) ≡ phases_behind sense new lines
phase_begun sense old new lines p h b f l =
    let before : List Phase = map (phase_named sense.names) old.phases.items in
    let here : List Block = blocks_at_hand sense.names old in
    let next : List Phase = with_phase true (blocks_of sense lines) (phases_of sense lines) in
    let fresh : blocks_behind sense new lines ≡ blocks_of sense lines =
    ap (λ (blocks : List BlockDraft). map (block_named sense.names) blocks ++ with_front (closed sense new.front (new.lines.items ++ block_lines sense lines)) (blocks_of sense lines)) b
    ∙ ap (λ (front : Option BlockFront). with_front (closed sense front (new.lines.items ++ block_lines sense lines)) (blocks_of sense lines)) f in
    ap (λ (blocks : List Block). before ++ with_phase old.has_phase blocks (phases_of sense (form.Phase ∷ lines)))
    (blocks_closed sense old (form.Phase ∷ lines) (said_stop sense form.Phase lines refl) (blocks_stop sense form.Phase lines refl))
    ∙ ap (λ (more : List Phase). before ++ with_phase old.has_phase here more) (phases_first sense form.Phase lines)
    ∙ ap (λ (more : List Phase). before ++ more) (phase_first old.has_phase here next)
    ∙ sym (append_assoc before (with_phase old.has_phase here []) next)
    ∙ sym (ap (λ (phases : List Phase). phases ++ next) (p ∙ no_more_phases sense old))
    ∙ sym (ap (λ (blocks : List Block). map (phase_named sense.names) new.phases.items ++ with_phase true blocks (phases_of sense lines)) fresh)
    ∙ sym (ap (λ (begun : Bool). map (phase_named sense.names) new.phases.items ++ with_phase begun (blocks_behind sense new lines) (phases_of sense lines)) h)

-- a line that connects a session begins a block of its number and its owner
pub connect_begins : (line : Form) (session : Option ℕ) (user host : List ℕ) (owner : Owner) → line ≡ form.Connect session user host
    → owner.user.now ≡ user → owner.host.now ≡ host
    → (names : List (List ℕ)) (said : List BlockLine) → block_with names said line ≡ option_map (block_of names said) (front_of session (Some owner))
connect_begins line session user host owner e u h names said =
    ap (λ (one : Form). block_with names said one) e
    ∙ (sym (ap (λ (text : List ℕ). block_with names said (form.Connect session text host)) u)
    ∙ (sym (ap (λ (text : List ℕ). block_with names said (form.Connect session owner.user.now text)) h)
    ∙ by_number names said session owner))
  where
    by_number : (names : List (List ℕ)) (said : List BlockLine) (session : Option ℕ) (owner : Owner)
        → block_with names said (form.Connect session owner.user.now owner.host.now) ≡ option_map (block_of names said) (front_of session (Some owner))
    by_number names said None owner = refl
    by_number names said (Some number) owner = refl

-- a line that goes on with a session begins a block of its number alone
pub resume_begins : (line : Form) (session : Option ℕ) → line ≡ form.Resume session
    → (names : List (List ℕ)) (said : List BlockLine) → block_with names said line ≡ option_map (block_of names said) (front_of session None)
resume_begins line session e names said = ap (λ (one : Form). block_with names said one) e ∙ by_number names said session
  where
    by_number : (names : List (List ℕ)) (said : List BlockLine) (session : Option ℕ)
        → block_with names said (form.Resume session) ≡ option_map (block_of names said) (front_of session None)
    by_number names said None = refl
    by_number names said (Some number) = refl

-- the phases pass a line that begins a block
pub block_passed : {T E : Type 0} (r : Result T E) (said : Option BlockLine) (line : Form) (front : Option BlockFront) (old mid new : Drafts)
    → is_phase line ≡ false → ends_block line ≡ true
    → ((names : List (List ℕ)) (some : List BlockLine) → block_with names some line ≡ option_map (block_of names some) front)
    → mid.phases ≡ old.phases → mid.has_phase ≡ old.has_phase
    → OnOk r ((names : List (List ℕ)) → map (block_named names) new.blocks.items ≡ blocks_at_hand names old)
    → OnOk r (new.front ≡ front) → OnOk r (new.lines.items ≡ [])
    → OnOk r (new ≡ record mid { blocks = new.blocks; front = new.front; lines = new.lines })
    → OnOk r ((sense : Sense) (lines : List Form) → said ≡ block_line sense line
    → phases_behind sense old (line ∷ lines) ≡ phases_behind sense new lines)
block_passed (Ok one) said line front old mid new p e begins phases has b f l same = λ sense lines is.
    phases_moved sense old new line lines p (ap (λ (drafts : Drafts). drafts.phases.items) same ∙ ap (λ (some : Vec PhaseDraft). some.items) phases)
    (ap (λ (drafts : Drafts). drafts.has_phase) same ∙ has)
    (block_begun sense old new line lines front p e (begins sense.names (block_lines sense lines)) (b sense.names) f l)
block_passed (Err one) said line front old mid new p e begins phases has b f l same = tt

ends_none : (line : Form) → (line ≡ form.Phase → ⊥)
    → ((session : Option ℕ) (user host : List ℕ) → line ≡ form.Connect session user host → ⊥)
    → ((session : Option ℕ) → line ≡ form.Resume session → ⊥) → ends_block line ≡ false
ends_none form.Phase p s r = absurd (p refl)
ends_none (form.Connect session user host) p s r = absurd (s session user host refl)
ends_none (form.Resume session) p s r = absurd (r session refl)
ends_none _ p s r = refl

-- the phases pass a line that begins neither a phase nor a block
pub said_passed : {T E : Type 0} (r : Result T E) (said : Option BlockLine) (line : Form) (old new : Drafts)
    → (line ≡ form.Phase → ⊥)
    → ((session : Option ℕ) (user host : List ℕ) → line ≡ form.Connect session user host → ⊥)
    → ((session : Option ℕ) → line ≡ form.Resume session → ⊥)
    → OnOk r (new.lines.items ≡ old.lines.items ++ with_front said []) → OnOk r (new ≡ record old { lines = new.lines })
    → OnOk r ((sense : Sense) (lines : List Form) → said ≡ block_line sense line
    → phases_behind sense old (line ∷ lines) ≡ phases_behind sense new lines)
said_passed (Ok one) said line old new p s r l same = λ sense lines is.
    let ends : ends_block line ≡ false = ends_none line p s r in
    phases_moved sense old new line lines (or_first (is_phase line) (is_session line) ends) (ap (λ (drafts : Drafts). drafts.phases.items) same)
    (ap (λ (drafts : Drafts). drafts.has_phase) same)
    (block_grown sense old new line lines ends (ap (λ (drafts : Drafts). drafts.blocks.items) same) (ap (λ (drafts : Drafts). drafts.front) same)
    (l ∙ ap (λ (some : Option BlockLine). old.lines.items ++ with_front some []) is))
said_passed (Err one) said line old new p s r l same = tt

-- nor does it give names
pub no_owner : {T E : Type 0} (r : Result T E) (line : Form) (old new : Drafts)
    → ((session : Option ℕ) (user host : List ℕ) → line ≡ form.Connect session user host → ⊥)
    → OnOk r (new ≡ record old { lines = new.lines })
    → OnOk r ((names : List (List ℕ)) → fold with_owner names new.owners.items ≡ with_session (fold with_owner names old.owners.items) line)
no_owner (Ok one) line old new s same = λ names.
    ap (λ (drafts : Drafts). fold with_owner names drafts.owners.items) same ∙ sym (names_stay (fold with_owner names old.owners.items) line s)
  where
    names_stay : (names : List (List ℕ)) (line : Form) → ((session : Option ℕ) (user host : List ℕ) → line ≡ form.Connect session user host → ⊥)
        → with_session names line ≡ names
    names_stay names (form.Connect session user host) s = absurd (s session user host refl)
    names_stay names _ s = refl
no_owner (Err one) line old new s same = tt
