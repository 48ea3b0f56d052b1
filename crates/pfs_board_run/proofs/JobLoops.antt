-- The loops that hand jobs out, and take their actors in.
use Rattle.std.proofs.Common.{ℕ, ◌≡◌, ◌+◌, ◌*◌, ◌<◌, ◌≤◌, List, [], ◌∷◌, ◌++◌, Some, length, refl, ap, sym, ◌∙◌, subst, arith, append_assoc, append-nil, length-append, All}
use Rattle.std.proofs.lemmas.List.Elements.{All-tail}
use Rattle.pfs_admin.specs.declared.changes.Change.{Change}
use Rattle.pfs_board.specs.declared.view.Label.{Label}
use Rattle.pfs_board_root.specs.Roots.{HasSplit, HasTakenIn, IsKnown, RootView, opening_at}
use Rattle.pfs_board_root.proofs.SeatJoins.{taken_more, taken_none}
use Rattle.pfs_board_root.proofs.SeatSplits.{next_opening, share, share_of, split_more, split_none}
use Rattle.pfs_board_store.specs.RootActors.{Worked}
use Rattle.pfs_classes.specs.declared.setting.Setting.{Setting}
use Rattle.pfs_jobs.specs.declared.jobs.Job.{Job}
use Rattle.pfs_levels.specs.Calls.{Opening}
use Rattle.pfs_levels.specs.Views.{Store}
use Rattle.pfs_script.specs.declared.blocks.Block.{Block}
use Rattle.pfs_session.specs.SessionStates.{Book}
use Rattle.pfs_board_run.specs.BoardRuns.{AllMayRun, MayRun, newest_first, share_of_each}
use Rattle.pfs_board_run.specs.JobLists.{AreHandedOut, AreKnownJobs, AreResults, IsHandedOut, IsPaused, publications_left, tickets_left}
use Rattle.pfs_board_run.specs.declared.board.Ran.{Ran}

-- Of these blocks and sessions the first have their jobs, and the others may still be handed out
pub record LeftToHandOut {A : Type 0} (fixed : Setting) (change : Label → Change) (seen : A → Store) (opening : ℕ → Opening) (blocks left : List Block) (olds sessions : List Book) (jobs : List (Job A)) (old now : RootView) : Type 0 where
  pub done : List Block
  pub was : List Book
  pub blocks_are : blocks ≡ done ++ left
  pub sessions_are : olds ≡ was ++ sessions
  pub may : AllMayRun fixed change left sessions
  pub out : AreHandedOut seen opening 1 done was jobs
  pub many : length jobs ≡ length done
  pub split : HasSplit (length done) share_of_each share_of_each old now

pub all_to_hand_out : {A : Type 0} (fixed : Setting) (change : Label → Change) (seen : A → Store) (opening : ℕ → Opening) (blocks : List Block) (olds sessions : List Book) (jobs : List (Job A)) (r : RootView) → sessions ≡ olds → jobs ≡ [] → AllMayRun fixed change blocks olds
    → LeftToHandOut fixed change seen opening blocks blocks olds sessions jobs r r
all_to_hand_out {A} fixed change seen opening blocks olds sessions jobs r same none may =
    subst (λ (j : List (Job A)). LeftToHandOut fixed change seen opening blocks blocks olds sessions j r r) (sym none) (subst (λ (s : List Book). LeftToHandOut fixed change seen opening blocks blocks olds s [] r r) (sym same)
    (record { done = []; was = []; blocks_are = refl; sessions_are = refl; may = may; out = tt; many = refl; split = split_none share_of_each share_of_each r }))

-- one more behind those that have their jobs
out_more : {A : Type 0} (seen : A → Store) (opening : ℕ → Opening) (n : ℕ) (blocks : List Block) (olds : List Book) (jobs : List (Job A)) (block : Block) (old : Book) (job : Job A) → AreHandedOut seen opening n blocks olds jobs
    → IsHandedOut seen (opening (n + length blocks)) block old job → AreHandedOut seen opening n (blocks ++ block ∷ []) (olds ++ old ∷ []) (jobs ++ job ∷ [])
out_more {A} seen opening n [] [] [] block old job o i = (subst (λ k. IsHandedOut seen (opening k) block old job) (omega arith) i, tt)
out_more {A} seen opening n (b ∷ blocks) (s ∷ olds) (j ∷ jobs) block old job o i = (o.0, out_more {A = A} seen opening (n + 1) blocks olds jobs block old job o.1 (subst (λ k. IsHandedOut seen (opening k) block old job) (omega arith) i))
out_more seen opening n [] [] (j ∷ jobs) block old job o i = absurd o
out_more seen opening n [] (s ∷ olds) [] block old job o i = absurd o
out_more seen opening n [] (s ∷ olds) (j ∷ jobs) block old job o i = absurd o
out_more seen opening n (b ∷ blocks) [] [] block old job o i = absurd o
out_more seen opening n (b ∷ blocks) [] (j ∷ jobs) block old job o i = absurd o
out_more seen opening n (b ∷ blocks) (s ∷ olds) [] block old job o i = absurd o

-- the first of the sessions that are left is there, and may play the first of the blocks
pub record HasNext (fixed : Setting) (change : Label → Change) (block : Block) (others : List Block) (sessions : List Book) : Type 0 where
  pub first : Book
  pub rest : List Book
  pub are : sessions ≡ first ∷ rest
  pub may : MayRun fixed change block first
  pub others_may : AllMayRun fixed change others rest

pub has_next : (fixed : Setting) (change : Label → Change) (block : Block) (others : List Block) (sessions : List Book) → AllMayRun fixed change (block ∷ others) sessions → HasNext fixed change block others sessions
has_next fixed change block others [] m = absurd m
has_next fixed change block others (first ∷ rest) m = record { first = first; rest = rest; are = refl; may = m.0; others_may = m.1 }

pub one_handed_out : {A : Type 0} (fixed : Setting) (change : Label → Change) (seen : A → Store) (flags : List ℕ) (blocks left : List Block) (olds sessions : List Book) (jobs : List (Job A)) (old now new : RootView) (block : Block) (others : List Block) (first : Book) (rest : List Book) (job : Job A) (more : List (Job A))
    → left ≡ block ∷ others → sessions ≡ first ∷ rest → more ≡ jobs ++ job ∷ [] → HasSplit 1 share_of_each share_of_each now new → IsHandedOut seen (opening_at flags now share_of_each share_of_each 1) block first job
    → LeftToHandOut fixed change seen (opening_at flags old share_of_each share_of_each) blocks left olds sessions jobs old now
    → LeftToHandOut fixed change seen (opening_at flags old share_of_each share_of_each) blocks others olds rest more old new
one_handed_out {A} fixed change seen flags blocks left olds sessions jobs old now new block others first rest job more el es em split handed l =
    let may : AllMayRun fixed change (block ∷ others) (first ∷ rest) = subst (λ z. AllMayRun fixed change z (first ∷ rest)) el (subst (λ z. AllMayRun fixed change left z) es l.may) in
    let at : opening_at flags now share_of_each share_of_each 1 ≡ opening_at flags old share_of_each share_of_each (1 + length l.done) = next_opening flags old now (length l.done) share_of_each share_of_each l.split in
    let longer : length (l.done ++ block ∷ []) ≡ length l.done + 1 = length-append l.done (block ∷ []) in
    subst (λ (j : List (Job A)). LeftToHandOut fixed change seen (opening_at flags old share_of_each share_of_each) blocks others olds rest j old new) (sym em) (record {
      done = l.done ++ block ∷ [];
      was = l.was ++ first ∷ [];
      blocks_are = l.blocks_are ∙ (ap (λ z. l.done ++ z) el ∙ sym (append_assoc l.done (block ∷ []) others));
      sessions_are = l.sessions_are ∙ (ap (λ z. l.was ++ z) es ∙ sym (append_assoc l.was (first ∷ []) rest));
      may = may.1;
      out = out_more {A = A} seen (opening_at flags old share_of_each share_of_each) 1 l.done l.was jobs block first job l.out (subst (λ (o : Opening). IsHandedOut seen o block first job) at handed);
      many = omega (arith, l.many, longer, length-append jobs (job ∷ []));
      split = subst (λ n. HasSplit n share_of_each share_of_each old new) (sym longer) (split_more (length l.done) share_of_each share_of_each old now new l.split split);
    })

-- there is room, and there are publications, for one more
pub spare_left : {A : Type 0} (fixed : Setting) (change : Label → Change) (seen : A → Store) (opening : ℕ → Opening) (blocks left : List Block) (olds sessions : List Book) (jobs : List (Job A)) (old now : RootView) (block : Block) (others : List Block) → left ≡ block ∷ others
    → LeftToHandOut fixed change seen opening blocks left olds sessions jobs old now → length jobs < length blocks
spare_left fixed change seen opening blocks left olds sessions jobs old now block others el l = omega (arith, l.many, ap (λ z. length z) (l.blocks_are ∙ ap (λ z. l.done ++ z) el), length-append l.done (block ∷ others))

pub share_left : {A : Type 0} (fixed : Setting) (change : Label → Change) (seen : A → Store) (opening : ℕ → Opening) (blocks left : List Block) (olds sessions : List Book) (jobs : List (Job A)) (old now : RootView) (block : Block) (others : List Block) → left ≡ block ∷ others
    → length blocks * share_of_each < old.seat.allowance → LeftToHandOut fixed change seen opening blocks left olds sessions jobs old now → share_of_each < now.seat.allowance
share_left {A} fixed change seen opening blocks left olds sessions jobs old now block others el room l =
    let one = spare_left {A = A} fixed change seen opening blocks left olds sessions jobs old now block others el l in
    share (length l.done) (length blocks) share_of_each now.seat.allowance old.seat.allowance (omega (arith, one, l.many)) l.split.allowance room

pub draws_left : {A : Type 0} (fixed : Setting) (change : Label → Change) (seen : A → Store) (opening : ℕ → Opening) (blocks left : List Block) (olds sessions : List Book) (jobs : List (Job A)) (old now : RootView) (block : Block) (others : List Block) → left ≡ block ∷ others
    → length blocks * share_of_each ≤ old.draws.draws → LeftToHandOut fixed change seen opening blocks left olds sessions jobs old now → share_of_each ≤ now.draws.draws
draws_left {A} fixed change seen opening blocks left olds sessions jobs old now block others el room l =
    let one = spare_left {A = A} fixed change seen opening blocks left olds sessions jobs old now block others el l in
    share_of (length l.done) (length blocks) share_of_each now.draws.draws old.draws.draws (omega (arith, one, l.many)) l.split.left room

-- all have their jobs
pub all_handed_out : {A : Type 0} (fixed : Setting) (change : Label → Change) (seen : A → Store) (opening : ℕ → Opening) (blocks left : List Block) (olds sessions : List Book) (jobs : List (Job A)) (old now : RootView) → left ≡ []
    → LeftToHandOut fixed change seen opening blocks left olds sessions jobs old now → AreHandedOut seen opening 1 blocks olds jobs × HasSplit (length blocks) share_of_each share_of_each old now
all_handed_out {A} fixed change seen opening blocks left olds sessions jobs old now none l =
    let eb : l.done ≡ blocks = sym (l.blocks_are ∙ (ap (λ z. l.done ++ z) none ∙ append-nil l.done)) in
    let gone : sessions ≡ [] = all_gone sessions (subst (λ z. AllMayRun fixed change z sessions) none l.may) in
    let es : l.was ≡ olds = sym (l.sessions_are ∙ (ap (λ z. l.was ++ z) gone ∙ append-nil l.was)) in
    (subst (λ (z : List Block). AreHandedOut seen opening 1 z olds jobs) eb (subst (λ (z : List Book). AreHandedOut seen opening 1 l.done z jobs) es l.out), subst (λ (z : List Block). HasSplit (length z) share_of_each share_of_each old now) eb l.split)
  where
    all_gone : (sessions : List Book) → AllMayRun fixed change [] sessions → sessions ≡ []
    all_gone [] m = refl
    all_gone (s ∷ ss) m = absurd m

-- Of these actors, in their order, the first have been taken in, and the others are still with their jobs
pub record LeftToTakeIn {A : Type 0} (setting : Setting) (change : Label → Change) (seen : A → Store) (ws : List Worked) (jobs : List (Job A)) (old now : RootView) : Type 0 where
  pub front : List Worked
  pub back : List Worked
  pub parts : ws ≡ front ++ back
  pub known : AreKnownJobs now seen back jobs
  pub taken : HasTakenIn setting change (newest_first front) old now

pub all_to_take_in : {A : Type 0} (setting : Setting) (change : Label → Change) (seen : A → Store) (ws : List Worked) (all jobs : List (Job A)) (r : RootView) → jobs ≡ all → AreKnownJobs r seen ws all → LeftToTakeIn setting change seen ws jobs r r
all_to_take_in {A} setting change seen ws all jobs r same k = record { front = []; back = ws; parts = refl; known = subst (λ (z : List (Job A)). AreKnownJobs r seen ws z) (sym same) k; taken = taken_none setting change r }

newest : (ws : List Worked) (w : Worked) → newest_first (ws ++ w ∷ []) ≡ w ∷ newest_first ws
newest [] w = refl
newest (x ∷ ws) w = ap (λ z. z ++ x ∷ []) (newest ws w)

known_on : {A : Type 0} (r s : RootView) (seen : A → Store) (ws : List Worked) (jobs : List (Job A)) → s.board ≡ r.board → s.switches ≡ r.switches → s.tickets ≡ r.tickets → AreKnownJobs r seen ws jobs → AreKnownJobs s seen ws jobs
known_on {A} r s seen [] [] eb ew et k = tt
known_on {A} r s seen (w ∷ ws) (job ∷ jobs) eb ew et k =
    (record { board = k.0.board ∙ sym eb; switches = k.0.switches ∙ sym ew; tickets = k.0.tickets ∙ sym et; reached = k.0.reached }, known_on {A = A} r s seen ws jobs eb ew et k.1)
known_on {A} r s seen [] (job ∷ jobs) eb ew et k = absurd k
known_on {A} r s seen (w ∷ ws) [] eb ew et k = absurd k

-- the next one that is to be taken in
pub next_known : {A : Type 0} (setting : Setting) (change : Label → Change) (seen : A → Store) (ws : List Worked) (jobs : List (Job A)) (job : Job A) (rest : List (Job A)) (old now : RootView) → jobs ≡ job ∷ rest → LeftToTakeIn setting change seen ws jobs old now
    → (w : Worked) × IsKnown now (λ a. (seen a).reached) w job.actor
next_known {A} setting change seen ws jobs job rest old now is l = at l.back (subst (λ (z : List (Job A)). AreKnownJobs now seen l.back z) is l.known)
  where
    at : (back : List Worked) → AreKnownJobs now seen back (job ∷ rest) → (w : Worked) × IsKnown now (λ a. (seen a).reached) w job.actor
    at [] k = absurd k
    at (w ∷ back) k = (w, k.0)

pub one_taken_in : {A : Type 0} (setting : Setting) (change : Label → Change) (seen : A → Store) (ws : List Worked) (jobs : List (Job A)) (job : Job A) (rest : List (Job A)) (old now new : RootView) → jobs ≡ job ∷ rest
    → ((w : Worked) → IsKnown now (λ a. (seen a).reached) w job.actor → HasTakenIn setting change (w ∷ []) now new) → LeftToTakeIn setting change seen ws jobs old now → LeftToTakeIn setting change seen ws rest old new
one_taken_in {A} setting change seen ws jobs job rest old now new is take l = at l.back l.parts (subst (λ (z : List (Job A)). AreKnownJobs now seen l.back z) is l.known)
  where
    at : (back : List Worked) → ws ≡ l.front ++ back → AreKnownJobs now seen back (job ∷ rest) → LeftToTakeIn setting change seen ws rest old new
    at [] e k = absurd k
    at (w ∷ back) e k =
        let t = take w k.0 in
        record {
          front = l.front ++ w ∷ [];
          back = back;
          parts = e ∙ sym (append_assoc l.front (w ∷ []) back);
          known = known_on {A = A} now new seen back rest t.board t.switches t.tickets k.1;
          taken = subst (λ (z : List Worked). HasTakenIn setting change z old new) (sym (newest l.front w)) (taken_more setting change w (newest_first l.front) old now new l.taken t);
        }

pub all_taken_in : {A : Type 0} (setting : Setting) (change : Label → Change) (seen : A → Store) (ws : List Worked) (jobs : List (Job A)) (old now : RootView) → jobs ≡ [] → LeftToTakeIn setting change seen ws jobs old now → HasTakenIn setting change (newest_first ws) old now
all_taken_in {A} setting change seen ws jobs old now none l =
    subst (λ (z : List Worked). HasTakenIn setting change (newest_first z) old now) (sym (l.parts ∙ (ap (λ z. l.front ++ z) (gone l.back (subst (λ (z : List (Job A)). AreKnownJobs now seen l.back z) none l.known)) ∙ append-nil l.front))) l.taken
  where
    gone : (back : List Worked) → AreKnownJobs now seen back [] → back ≡ []
    gone [] k = refl
    gone (w ∷ ws) k = absurd k

-- what the jobs so far left
pub record LeftToHandBack {A : Type 0} (all jobs : List (Job A)) (rans : List Ran) : Type 0 where
  pub done : List (Job A)
  pub parts : all ≡ done ++ jobs
  pub results : AreResults done rans
  pub many : length rans ≡ length done
  pub paused : All IsPaused jobs

results_more : {A : Type 0} (jobs : List (Job A)) (rans : List Ran) (job : Job A) (ran : Ran) → AreResults jobs rans → job.paused ≡ Some ran.paused → job.answers.items ≡ ran.answers.items → AreResults (jobs ++ job ∷ []) (rans ++ ran ∷ [])
results_more [] [] job ran a p e = (p, e, tt)
results_more {A} (j ∷ jobs) (r ∷ rans) job ran a p e = (a.0, a.1, results_more {A = A} jobs rans job ran a.2 p e)
results_more [] (r ∷ rans) job ran a p e = absurd a
results_more (j ∷ jobs) [] job ran a p e = absurd a

pub all_to_hand_back : {A : Type 0} (all jobs : List (Job A)) (rans : List Ran) → jobs ≡ all → rans ≡ [] → All IsPaused all → LeftToHandBack all jobs rans
all_to_hand_back {A} all jobs rans same none paused = subst (λ (z : List Ran). LeftToHandBack all jobs z) (sym none) (record { done = []; parts = sym same; results = tt; many = refl; paused = subst (λ (z : List (Job A)). All IsPaused z) (sym same) paused })

pub one_handed_back : {A : Type 0} (all jobs rest : List (Job A)) (rans more : List Ran) (job : Job A) (ran : Ran) → jobs ≡ job ∷ rest → more ≡ rans ++ ran ∷ [] → job.paused ≡ Some ran.paused → job.answers.items ≡ ran.answers.items → LeftToHandBack all jobs rans → LeftToHandBack all rest more
one_handed_back {A} all jobs rest rans more job ran is em p e l = subst (λ (z : List Ran). LeftToHandBack all rest z) (sym em) (record {
  done = l.done ++ job ∷ [];
  parts = l.parts ∙ (ap (λ z. l.done ++ z) is ∙ sym (append_assoc l.done (job ∷ []) rest));
  results = results_more {A = A} l.done rans job ran l.results p e;
  many = omega (arith, l.many, length-append rans (ran ∷ []), length-append l.done (job ∷ []));
  paused = All-tail IsPaused job rest (subst (λ (z : List (Job A)). All IsPaused z) is l.paused);
})

-- there is room for what the next one left
pub room_left : {A : Type 0} (all jobs rest : List (Job A)) (rans : List Ran) (job : Job A) → jobs ≡ job ∷ rest → LeftToHandBack all jobs rans → length rans < length all
room_left all jobs rest rans job is l = omega (arith, l.many, ap (λ z. length z) l.parts, length-append l.done jobs, ap (λ z. length z) is)

pub all_handed_back : {A : Type 0} (all jobs : List (Job A)) (rans : List Ran) → jobs ≡ [] → LeftToHandBack all jobs rans → AreResults all rans
all_handed_back {A} all jobs rans none l = subst (λ (z : List (Job A)). AreResults z rans) (sym (l.parts ∙ (ap (λ z. l.done ++ z) none ∙ append-nil l.done))) l.results

-- These jobs are left of all: those before them were taken in, and what they left was handed back. What the root may use
-- besides what these may is what it might use besides all of them
pub record AreLeft {A : Type 0} (setting : Setting) (change : Label → Change) (seen : A → Store) (all jobs : List (Job A)) (rans : List Ran) (old now : RootView) : Type 0 where
  pub taken : (ws : List Worked) → AreKnownJobs old seen ws all → LeftToTakeIn setting change seen ws jobs old now
  pub back : LeftToHandBack all jobs rans
  pub publications : now.seat.allowance + publications_left seen jobs ≡ old.seat.allowance + publications_left seen all
  pub tickets : now.draws.draws + tickets_left seen jobs ≡ old.draws.draws + tickets_left seen all

pub all_left : {A : Type 0} (setting : Setting) (change : Label → Change) (seen : A → Store) (all jobs : List (Job A)) (rans : List Ran) (r : RootView) → jobs ≡ all → rans ≡ [] → All IsPaused all → AreLeft setting change seen all jobs rans r r
all_left {A} setting change seen all jobs rans r same none paused = record {
  taken = λ ws k. all_to_take_in setting change seen ws all jobs r same k;
  back = all_to_hand_back all jobs rans same none paused;
  publications = ap (λ (z : List (Job A)). r.seat.allowance + publications_left seen z) same;
  tickets = ap (λ (z : List (Job A)). r.draws.draws + tickets_left seen z) same;
}

pub one_left : {A : Type 0} (setting : Setting) (change : Label → Change) (seen : A → Store) (all jobs rest : List (Job A)) (rans more : List Ran) (job : Job A) (ran : Ran) (old now new : RootView) → jobs ≡ job ∷ rest → more ≡ rans ++ ran ∷ [] → job.paused ≡ Some ran.paused
    → job.answers.items ≡ ran.answers.items → ((w : Worked) → IsKnown now (λ a. (seen a).reached) w job.actor → HasTakenIn setting change (w ∷ []) now new) → new.seat.allowance ≡ now.seat.allowance + (seen job.actor).left
    → new.draws.draws ≡ now.draws.draws + (seen job.actor).draws → AreLeft setting change seen all jobs rans old now → AreLeft setting change seen all rest more old new
one_left {A} setting change seen all jobs rest rans more job ran old now new is em p e take back draws l = record {
  taken = λ ws k. one_taken_in setting change seen ws jobs job rest old now new is take (l.taken ws k);
  back = one_handed_back all jobs rest rans more job ran is em p e l.back;
  publications = omega (arith, l.publications, back, ap (λ (z : List (Job A)). publications_left seen z) is);
  tickets = omega (arith, l.tickets, draws, ap (λ (z : List (Job A)). tickets_left seen z) is);
}
