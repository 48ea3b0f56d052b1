-- The sessions of a phase in their seats: ready for their blocks, and behind them.
use Rattle.std.proofs.Common.{ℕ, zero, suc, ◌≡◌, ◌≢◌, ◌⊎◌, inl, inr, ◌≤◌, ◌+◌, ◌-◌, ◌==◌, Bool, true, false, cond, List, [], ◌∷◌, ◌++◌, Option, Some, None, length, map, slice_set, refl, ap, sym, ◌∙◌, subst, append_assoc, append-nil, length-append, eq-eqb, ne_eqb, arith}
use Rattle.std.specs.Prelude.{Contains}
use Rattle.std.proofs.lemmas.Bool.{eqb-true}
use Rattle.std.proofs.lemmas.List.{get_or-set_other}
use Rattle.pfs_board_run.specs.declared.board.Ran.{Ran}
use Rattle.pfs_classes.specs.declared.setting.Setting.{Setting}
use Rattle.pfs_law_plain.proofs.PhaseFronts.{stints_then}
use Rattle.pfs_law_plain.specs.Spells.{Spell, parts_in, stints_of}
use Rattle.pfs_law_script.proofs.BlockChanges.{own_then}
use Rattle.pfs_law_script.proofs.BlocksAhead.{done_phase, done_whole}
use Rattle.pfs_law_script.specs.Course.{AreSpellsOf, numbered, own_blocks, phased, session_at}
use Rattle.pfs_law_session.specs.JournalLaws.{state_behind}
use Rattle.pfs_law_session.specs.Stints.{Stint, resumed, state_by}
use Rattle.pfs_model.specs.Chains.{Each}
use Rattle.pfs_script.specs.KnownClasses.{AreDistinct}
use Rattle.pfs_script.specs.declared.blocks.Block.{Block}
use Rattle.pfs_script.specs.declared.blocks.Phase.{Phase}
use Rattle.pfs_seats.proofs.BlockPlaces.{IsHere}
use Rattle.pfs_seats.proofs.ReadySessions.{ready}
use Rattle.pfs_seats.proofs.RunSteps.{others_by, own_waits}
use Rattle.pfs_seats.specs.Seats.{IsWaiting, Sits, depth_of, seat_of}
use Rattle.pfs_session.specs.SessionStates.{Book, State, fresh}
use Rattle.pfs_board_phase.specs.PhaseResults.{AreKept, AreSeated, handed_out}
use Rattle.pfs_board_phase.specs.TakenSeats.{AreTaken, emptied}
use Rattle.pfs_board_phase.proofs.PhaseSpells.{AreReady, Played, block_in, ran_in, spells_in}

abbrev pub sessions_of : List Block → List ℕ
sessions_of blocks = map (λ (block : Block). block.session) blocks

-- of another session than this
abbrev pub AreOthers : ℕ → List Block → Type 0
AreOthers session blocks = Each (λ (block : Block). block.session ≢ session) blocks

pub apart : (session : ℕ) (blocks : List Block) → (Contains (sessions_of blocks) session → ⊥) → AreOthers session blocks
apart session [] none = tt
apart session (block ∷ blocks) none = (
  (λ e. none (zero, omega arith, e)),
  apart session blocks (λ has. none (suc has.0, omega (arith, has.1), has.2)),
)

-- a seat that no block is of
other_seat : (seats : List (Option Book)) (number session : ℕ) (seat : Option Book) → 1 ≤ number → 1 ≤ session → number ≢ session → seat_of (slice_set seats (number - 1) seat) session ≡ seat_of seats session
other_seat seats number session seat low least differ = get_or-set_other seats (number - 1) (session - 1) seat None (λ same. differ (omega (arith, same, low, least)))

emptied_other : (seats : List (Option Book)) (blocks : List Block) (session : ℕ) → 1 ≤ session → Each (λ (block : Block). 1 ≤ block.session) blocks → AreOthers session blocks → seat_of (emptied seats blocks) session ≡ seat_of seats session
emptied_other seats [] session least low off = refl
emptied_other seats (b ∷ bs) session least low off =
    emptied_other (slice_set seats (b.session - 1) None) bs session least low.1 off.1 ∙ other_seat seats b.session session None low.0 least off.0

-- the first of these stints, and then the others
state_then : (session : ℕ) (s : State) (xs ys : List Stint) → state_by session s (xs ++ ys) ≡ state_by session (state_by session s xs) ys
state_then session s [] ys = refl
state_then session s (x ∷ xs) ys = state_then session (cond (x.session == session) (resumed (state_behind s x.parts)) s) xs ys

pub phased_long : (number : ℕ) (blocks : List Block) → length (phased number blocks) ≡ length blocks
phased_long number [] = refl
phased_long number (b ∷ bs) = ap suc (phased_long number bs)

-- each session that was taken from its seat is ready for its block
module _ (setting : Setting) (phases before : List Phase) (phase : Phase) (after : List Phase) (spells : List Spell)
    (here : (first : List Block) (block : Block) (others : List Block) → phase.blocks ≡ first ++ block ∷ others → IsHere setting phases before first block others after (numbered 1 before))
    (of : AreSpellsOf (numbered 1 before) spells) where
  abbrev AllSit : List (Option Book) → List Block → Type 0
  AllSit seats blocks = Each (λ (block : Block). Sits setting phases (numbered 1 before) spells block.session (seat_of seats block.session)) blocks

  still_sit : (seats : List (Option Book)) (number : ℕ) (first blocks : List Block) → phase.blocks ≡ first ++ blocks → 1 ≤ number → AreOthers number blocks → AllSit seats blocks → AllSit (slice_set seats (number - 1) None) blocks
  still_sit seats number first [] all low off sit = tt
  still_sit seats number first (b ∷ bs) all low off sit = (
    subst (λ (z : Option Book). Sits setting phases (numbered 1 before) spells b.session z) (sym (other_seat seats number b.session None low (here first b bs all).playable.low (λ e. off.0 (sym e)))) sit.0,
    still_sit seats number (first ++ b ∷ []) bs (all ∙ sym (append_assoc first (b ∷ []) bs)) low off.1 sit.1,
  )

  pub are_ready : (seats : List (Option Book)) (first blocks : List Block) (books : List Book) → phase.blocks ≡ first ++ blocks → AreDistinct (sessions_of blocks) → AllSit seats blocks
      → AreTaken setting.limits.statement_stack phases seats blocks books → AreReady setting phases (numbered 1 before) spells blocks books
  are_ready seats first [] [] all distinct sit taken = tt
  are_ready seats first [] (k ∷ ks) all distinct sit taken = absurd taken
  are_ready seats first (b ∷ bs) [] all distinct sit taken = absurd taken
  are_ready seats first (b ∷ bs) (k ∷ ks) all distinct sit taken =
      let at : IsHere setting phases before first b bs after (numbered 1 before) = here first b bs all in (
        ready setting phases before first b bs after (numbered 1 before) spells k (seat_of seats b.session) at of sit.0 taken.0,
        are_ready (slice_set seats (b.session - 1) None) (first ++ b ∷ []) bs ks (all ∙ sym (append_assoc first (b ∷ []) bs)) distinct.1
            (still_sit seats b.session (first ++ b ∷ []) bs (all ∙ sym (append_assoc first (b ∷ []) bs)) at.playable.low (apart b.session bs distinct.0) sit.1) taken.1,
      )

  pub all_sit : (seats : List (Option Book)) (first blocks : List Block) → phase.blocks ≡ first ++ blocks → ((session : ℕ) → 1 ≤ session → session ≤ 64 → Sits setting phases (numbered 1 before) spells session (seat_of seats session)) → AllSit seats blocks
  all_sit seats first [] all sit = tt
  all_sit seats first (b ∷ bs) all sit =
      let at : IsHere setting phases before first b bs after (numbered 1 before) = here first b bs all in
      (sit b.session at.playable.low at.playable.high, all_sit seats (first ++ b ∷ []) bs (all ∙ sym (append_assoc first (b ∷ []) bs)) sit)

-- a session behind the blocks of a phase
module _ (setting : Setting) (phases before : List Phase) (phase : Phase) (after : List Phase) (spells : List Spell) where
  abbrev One : Type 0
  One = Played setting phases before after spells

  abbrev blocks_of : List One → List Block
  blocks_of ones = map (block_in setting phases before phase after spells) ones

  abbrev rans_of : List One → List Ran
  rans_of ones = map (ran_in setting phases before phase after spells) ones

  abbrev now_of : List One → List Spell
  now_of ones = spells_in setting phases before phase after spells ones

  -- it had none of them
  record IsMissing (session : ℕ) (ones : List One) : Type 0 where
    off : AreOthers session (blocks_of ones)
    state : (s : State) → state_by session s (stints_of (now_of ones)) ≡ s
    own : (number : ℕ) → own_blocks session (phased number (blocks_of ones)) ≡ []

  missing : (session : ℕ) (ones : List One) → AreOthers session (blocks_of ones) → IsMissing session ones
  missing session [] off = record { off = tt; state = λ s. refl; own = λ number. refl }
  missing session (one ∷ ones) off =
      let rest : IsMissing session ones = missing session ones off.1 in
      let e : (one.block.session == session) ≡ false = ne_eqb one.block.session session off.0 in
      record {
        off = off;
        state = λ s. ap (λ (b : Bool). state_by session (cond b (resumed (state_behind s (parts_in one.doings))) s) (stints_of (now_of ones))) e ∙ rest.state s;
        own = λ number. ap (λ (b : Bool). cond b (one.block ∷ []) [] ++ own_blocks session (phased number (blocks_of ones))) e ∙ rest.own number;
      }

  -- it had this one, and no other
  record IsFound (session : ℕ) (ones : List One) : Type 0 where
    one : One
    same : one.block.session ≡ session
    some : 1 ≤ length (blocks_of ones)
    state : (s : State) → state_by session s (stints_of (now_of ones)) ≡ resumed (state_behind s (parts_in one.doings))
    own : (number : ℕ) → own_blocks session (phased number (blocks_of ones)) ≡ one.block ∷ []
    seat : (seats : List (Option Book)) → AreSeated seats (blocks_of ones) (rans_of ones) → seat_of seats session ≡ Some (handed_out one.ran.paused)

  find : (session : ℕ) (ones : List One) → AreDistinct (sessions_of (blocks_of ones)) → IsFound session ones ⊎ IsMissing session ones
  find session [] distinct = inr (missing session [] tt)
  find session (one ∷ ones) distinct = by (one.block.session == session) refl (find session ones distinct.1) where
    by : (b : Bool) → (one.block.session == session) ≡ b → IsFound session ones ⊎ IsMissing session ones → IsFound session (one ∷ ones) ⊎ IsMissing session (one ∷ ones)
    by true e rest =
        let same : one.block.session ≡ session = eqb-true one.block.session session e in
        let none : IsMissing session ones = missing session ones (subst (λ n. AreOthers n (blocks_of ones)) same (apart one.block.session (blocks_of ones) distinct.0)) in
        inl (record {
          one = one;
          same = same;
          some = omega arith;
          state = λ s. ap (λ (b : Bool). state_by session (cond b (resumed (state_behind s (parts_in one.doings))) s) (stints_of (now_of ones))) e ∙ none.state (resumed (state_behind s (parts_in one.doings)));
          own = λ number. ap (λ (b : Bool). cond b (one.block ∷ []) [] ++ own_blocks session (phased number (blocks_of ones))) e ∙ ap (λ z. one.block ∷ z) (none.own number);
          seat = λ seats kept. ap (seat_of seats) (sym same) ∙ kept.0;
        })
    by false e (inl f) =
        inl (record {
          one = f.one;
          same = f.same;
          some = omega arith;
          state = λ s. ap (λ (b : Bool). state_by session (cond b (resumed (state_behind s (parts_in one.doings))) s) (stints_of (now_of ones))) e ∙ f.state s;
          own = λ number. ap (λ (b : Bool). cond b (one.block ∷ []) [] ++ own_blocks session (phased number (blocks_of ones))) e ∙ f.own number;
          seat = λ seats kept. f.seat seats kept.1;
        })
    by false e (inr m) = inr (missing session (one ∷ ones) ((λ same. absurd (no same)), m.off)) where
      no : one.block.session ≡ session → ⊥
      no same = let yes = eq-eqb one.block.session session same in cc

  lows : (ones : List One) → Each (λ (block : Block). 1 ≤ block.session) (blocks_of ones)
  lows [] = tt
  lows (one ∷ ones) = (one.here.playable.low, lows ones)

  further : numbered 1 (before ++ phase ∷ []) ≡ numbered 1 before ++ phased (1 + length before) phase.blocks
  further = sym (done_whole (before ++ phase ∷ [])) ∙ done_phase before phase

  at_session : (session : ℕ) (now : List Spell) → session_at setting (depth_of phases) (spells ++ now) session ≡ state_by session (session_at setting (depth_of phases) spells session) (stints_of now)
  at_session session now =
      ap (state_by session (fresh session setting.limits.statement_stack (depth_of phases session))) (stints_then spells now)
      ∙ state_then session (fresh session setting.limits.statement_stack (depth_of phases session)) (stints_of spells) (stints_of now)

  pub seats_behind : (ones : List One) (seats mid new : List (Option Book)) → phase.blocks ≡ blocks_of ones → AreDistinct (sessions_of (blocks_of ones))
      → mid ≡ emptied seats (blocks_of ones) → AreKept (blocks_of ones) (rans_of ones) mid new
      → ((session : ℕ) → 1 ≤ session → session ≤ 64 → Sits setting phases (numbered 1 before) spells session (seat_of seats session))
      → (session : ℕ) → 1 ≤ session → session ≤ 64 → Sits setting phases (numbered 1 (before ++ phase ∷ [])) (spells ++ now_of ones) session (seat_of new session)
  seats_behind ones seats mid new all distinct empty kept sit = λ session low high. by session low high (find session ones distinct) where
    long : length (numbered 1 (before ++ phase ∷ [])) ≡ length (numbered 1 before) + length (blocks_of ones)
    long = ap length further ∙ (length-append (numbered 1 before) (phased (1 + length before) phase.blocks) ∙ (ap (λ n. length (numbered 1 before) + n) (phased_long (1 + length before) phase.blocks) ∙ ap (λ (z : List Block). length (numbered 1 before) + length z) all))

    own_all : (session : ℕ) → own_blocks session (numbered 1 (before ++ phase ∷ [])) ≡ own_blocks session (numbered 1 before) ++ own_blocks session (phased (1 + length before) (blocks_of ones))
    own_all session =
        ap (own_blocks session) further ∙ (own_then session (numbered 1 before) (phased (1 + length before) phase.blocks) ∙ ap (λ (z : List Block). own_blocks session (numbered 1 before) ++ own_blocks session (phased (1 + length before) z)) all)

    by : (session : ℕ) → 1 ≤ session → session ≤ 64 → IsFound session ones ⊎ IsMissing session ones → Sits setting phases (numbered 1 (before ++ phase ∷ [])) (spells ++ now_of ones) session (seat_of new session)
    by session low high (inl f) =
        let one : One = f.one in
        let waiting : Book = handed_out one.ran.paused in
        let state : resumed waiting.state ≡ session_at setting (depth_of phases) (spells ++ now_of ones) one.block.session =
        ap resumed one.state ∙ sym (at_session one.block.session (now_of ones) ∙ subst (λ n. state_by n (session_at setting (depth_of phases) spells n) (stints_of (now_of ones)) ≡ resumed (state_behind (session_at setting (depth_of phases) spells n) (parts_in one.doings))) (sym f.same) (f.state (session_at setting (depth_of phases) spells session))) in
        let own : own_blocks one.block.session (numbered 1 (before ++ phase ∷ [])) ≡ own_blocks one.block.session (numbered 1 before) ++ one.block ∷ [] =
        own_all one.block.session ∙ ap (λ (z : List Block). own_blocks one.block.session (numbered 1 before) ++ z) (subst (λ n. own_blocks n (phased (1 + length before) (blocks_of ones)) ≡ one.block ∷ []) (sym f.same) (f.own (1 + length before))) in
        let waits : IsWaiting setting phases (numbered 1 (before ++ phase ∷ [])) (spells ++ now_of ones) one.block.session waiting =
        own_waits setting phases before one.first one.block one.others after (numbered 1 before) (numbered 1 (before ++ phase ∷ [])) spells (spells ++ now_of ones) one.book waiting one.here one.ready own (omega (arith, long, f.some)) state (one.left waiting refl refl) in
        subst (Sits setting phases (numbered 1 (before ++ phase ∷ [])) (spells ++ now_of ones) session) (sym (f.seat new kept.seated))
        (subst (λ n. IsWaiting setting phases (numbered 1 (before ++ phase ∷ [])) (spells ++ now_of ones) n waiting) f.same waits)
    by session low high (inr m) =
        let seat : seat_of new session ≡ seat_of seats session = kept.others session low m.off ∙ (ap (λ z. seat_of z session) empty ∙ emptied_other seats (blocks_of ones) session low (lows ones) m.off) in
        subst (Sits setting phases (numbered 1 (before ++ phase ∷ [])) (spells ++ now_of ones) session) (sym seat)
        (others_by setting phases (numbered 1 before) (numbered 1 (before ++ phase ∷ [])) spells (spells ++ now_of ones) session (seat_of seats session)
        (own_all session ∙ (ap (λ (z : List Block). own_blocks session (numbered 1 before) ++ z) (m.own (1 + length before)) ∙ append-nil (own_blocks session (numbered 1 before))))
        (omega (arith, long)) (at_session session (now_of ones) ∙ m.state (session_at setting (depth_of phases) spells session)) (sit session low high))
