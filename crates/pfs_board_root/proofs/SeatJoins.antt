-- A root takes an actor's seats in.
use Rattle.std.proofs.Common.{ℕ, ◌≡◌, ◌+◌, ◌<◌, ◌≤◌, List, [], ◌∷◌, ◌++◌, length, slice_index, refl, ap, sym, ◌∙◌, subst, arith, sum_by, length-append, append_assoc, append-nil}
use Rattle.std.proofs.lemmas.List.Sums.{sum_by_push}
use Rattle.atomic_table.specs.Seated.{TableId}
use Rattle.pfs_admin.specs.declared.changes.Change.{Change}
use Rattle.pfs_board.specs.Knowledge.{held, joined, stake}
use Rattle.pfs_board.specs.SeatViews.{Known as BoardKnown, Place as BoardPlace, known as known_board}
use Rattle.pfs_board.specs.declared.view.Label.{Label}
use Rattle.pfs_board.proofs.ViewFacts.{length_merged}
use Rattle.pfs_board_session.specs.SeatedViews.{IsBetween}
use Rattle.pfs_board_store.specs.ActorCalls.{HasMade}
use Rattle.pfs_board_store.specs.RootActors.{AreGathered, GatherLaw, Worked}
use Rattle.pfs_classes.specs.declared.setting.Setting.{Setting}
use Rattle.pfs_levels.specs.Calls.{Call, Opening}
use Rattle.pfs_switches.specs.Knowledge.{joined as words_joined, merged as words_merged}
use Rattle.pfs_switches.specs.SeatViews.{HasWord, Known as WordsKnown, Place as WordsPlace, known as known_words}
use Rattle.pfs_tickets.specs.Knowledge.{joined as tickets_joined}
use Rattle.pfs_tickets.specs.SeatViews.{Known as TicketsKnown, known as known_tickets}
use Rattle.pfs_board_root.specs.Roots.{AreKnown, HasTakenIn, HaveKept, IsKnown, IsRooted, RootView, root_view}

words_long : (cs ds : List ℕ) → length (words_merged cs ds) ≡ length cs
words_long [] ds = refl
words_long (c ∷ cs) [] = omega (arith, words_long cs [])
words_long (c ∷ cs) (d ∷ ds) = omega (arith, words_long cs ds)

module _ (board : BoardPlace) (switches : WordsPlace) (tickets : TableId) (b b' mine : BoardKnown) (w w' words : WordsKnown) (t t' draws : TicketsKnown)
    (eb : b' ≡ known_board b.board (joined b.view mine.view)) (ew : w' ≡ known_words w.switches (words_joined w.view words.view)) (et : t' ≡ known_tickets t.tickets (tickets_joined t.view draws.view)) where
  pub joins_rooted : (flags : List ℕ) (run : TableId) → held b'.view.rows ≡ held b.view.rows → IsRooted flags run board switches tickets b w t → IsRooted flags run board switches tickets b' w' t'
  joins_rooted flags run hands r = record {
    same_board = ap (λ (k : BoardKnown). k.board) eb ∙ r.same_board;
    same_words = ap (λ (k : WordsKnown). k.switches) ew ∙ r.same_words;
    same_tickets = ap (λ (k : TicketsKnown). k.tickets) et ∙ r.same_tickets;
    run_is = r.run_is;
    wide = r.wide;
    known = r.known;
    number = ap (λ (k : BoardKnown). k.view.number) eb ∙ r.number;
    words_number = ap (λ (k : WordsKnown). k.view.number) ew ∙ r.words_number;
    draws_number = ap (λ (k : TicketsKnown). k.view.number) et ∙ r.draws_number;
    outside = ap (λ (k : BoardKnown). k.view.action) eb ∙ r.outside;
    never = ap (λ (k : BoardKnown). k.view.after) eb ∙ r.never;
    home = ap (λ (k : BoardKnown). k.view.lent) eb ∙ r.home;
    empty = hands ∙ r.empty;
    rows = omega (arith, ap (λ (k : BoardKnown). length k.view.rows) eb, length_merged b.view.rows mine.view.rows, r.rows);
    looks = omega (arith, ap (λ (k : WordsKnown). length k.view.seen) ew, words_long w.view.seen words.view.seen, r.looks);
    opened = ap (λ (k : WordsKnown). k.view.start) ew ∙ r.opened;
  }

  grown : GatherLaw → (start : Opening) (calls : List Call) → HasMade start calls mine words draws → (before : List Worked) → AreGathered before b.view w.view t.view
      → AreGathered (record { start = start; calls = calls } ∷ before) b'.view w'.view t'.view
  grown law start calls m before g =
      let A : BoardKnown → WordsKnown → TicketsKnown → Type 0 = λ x y z. AreGathered (record { start = start; calls = calls } ∷ before) x.view y.view z.view in
      let kb : BoardKnown = known_board b.board (joined b.view mine.view) in
      let kw : WordsKnown = known_words w.switches (words_joined w.view words.view) in
      subst (λ (x : BoardKnown). A x w' t') (sym eb) (subst (λ (y : WordsKnown). A kb y t') (sym ew) (subst (λ (z : TicketsKnown). A kb kw z) (sym et) (law before b.view w.view t.view g start calls mine words draws m)))

  -- the seats of an actor whose calls these were, between two actions
  pub takes : GatherLaw → (setting : Setting) (change : Label → Change) (run : TableId) (led : Opening → List Call → Type 0) (x : Worked) → IsBetween setting change run led x.start x.calls
      → HasMade x.start x.calls mine words draws → 161 ≤ length switches.start → stake b'.view ≡ stake b.view + stake mine.view
      → ((r : ℕ) → HasWord switches r → (slice_index w.view.seen r ≤ slice_index w'.view.seen r) × (slice_index words.view.seen r ≤ slice_index w'.view.seen r))
      → HasTakenIn setting change (x ∷ []) (root_view board switches tickets b w t) (root_view board switches tickets b' w' t')
  takes law setting change run led x is m wide sum seen = record {
    board = refl;
    switches = refl;
    tickets = refl;
    start = ap (λ (k : BoardKnown). k.view.start) eb;
    number = ap (λ (k : BoardKnown). k.view.number) eb;
    seats = ap (λ (k : BoardKnown). k.view.seats) eb;
    words_seats = ap (λ (k : WordsKnown). k.view.seats) ew;
    draws_seats = ap (λ (k : TicketsKnown). k.view.seats) et;
    stake_is = omega (arith, sum, m.made.board.stake_is);
    draws_are = omega (arith, ap (λ (k : TicketsKnown). k.view.draws) et, ap (λ (k : TicketsKnown). length k.view.tickets) et, length-append draws.view.tickets t.view.tickets, m.made.tickets.1);
    seen = λ word low. (seen word (omega (arith, low, wide))).0;
    kept = (record { keeps = is.keeps; inside = is.inside; named = λ word low. omega (arith, m.made.words.4 word, (seen word (omega (arith, low, wide))).1) }, tt);
    gathered = grown law x.start x.calls m;
  }

-- of none, and of one more in front of those
pub taken_none : (setting : Setting) (change : Label → Change) (r : RootView) → HasTakenIn setting change [] r r
taken_none setting change r = record {
  board = refl;
  switches = refl;
  tickets = refl;
  start = refl;
  number = refl;
  seats = refl;
  words_seats = refl;
  draws_seats = refl;
  stake_is = omega arith;
  draws_are = omega arith;
  seen = λ word low. omega arith;
  kept = tt;
  gathered = λ before g. g;
}

kept_on : (setting : Setting) (change : Label → Change) (seen now : List ℕ) (ws : List Worked) → ((word : ℕ) → word < 160 → slice_index seen word ≤ slice_index now word) → HaveKept setting change seen ws → HaveKept setting change now ws
kept_on setting change seen now [] up k = tt
kept_on setting change seen now (w ∷ ws) up k =
    (record { keeps = k.0.keeps; inside = k.0.inside; named = λ word low. omega (arith, k.0.named word low, up word low) }, kept_on setting change seen now ws up k.1)

pub taken_more : (setting : Setting) (change : Label → Change) (x : Worked) (ws : List Worked) (r s u : RootView) → HasTakenIn setting change ws r s → HasTakenIn setting change (x ∷ []) s u → HasTakenIn setting change (x ∷ ws) r u
taken_more setting change x ws r s u f g = record {
  board = g.board ∙ f.board;
  switches = g.switches ∙ f.switches;
  tickets = g.tickets ∙ f.tickets;
  start = g.start ∙ f.start;
  number = g.number ∙ f.number;
  seats = g.seats ∙ f.seats;
  words_seats = g.words_seats ∙ f.words_seats;
  draws_seats = g.draws_seats ∙ f.draws_seats;
  stake_is = omega (arith, f.stake_is, g.stake_is);
  draws_are = omega (arith, f.draws_are, g.draws_are);
  seen = λ word low. omega (arith, f.seen word low, g.seen word low);
  kept = (g.kept.0, kept_on setting change s.words.seen u.words.seen ws g.seen f.kept);
  gathered = λ before h. g.gathered (ws ++ before) (f.gathered before h);
}

-- what the last of them has left is given back: so much is left of all, where the others' is still to come
pub given_back : {A : Type 0} (left : A → ℕ) (actors front : List A) (a : A) (all old new : ℕ) → actors ≡ front ++ a ∷ [] → new ≡ old + left a → old + sum_by left actors ≡ all → new + sum_by left front ≡ all
given_back {A} left actors front a all old new is more e = omega (arith, more, e, ap (sum_by left) is, sum_by_push left front a)

-- the last of a list of actors that are known
pub record LastKnown {A : Type 0} (r : RootView) (reached : A → Opening → List Call → Type 0) (ws : List Worked) (front : List A) (a : A) : Type 0 where
  pub others : List Worked
  pub last : Worked
  pub parts : ws ≡ others ++ last ∷ []
  pub known : AreKnown r reached others front
  pub is : IsKnown r reached last a

pub last_known : {A : Type 0} (r : RootView) (reached : A → Opening → List Call → Type 0) (ws : List Worked) (front : List A) (a : A) → AreKnown r reached ws (front ++ a ∷ []) → LastKnown r reached ws front a
last_known {A} r reached [] [] a k = absurd k
last_known {A} r reached (w ∷ []) [] a k = record { others = []; last = w; parts = refl; known = tt; is = k.0 }
last_known {A} r reached (w ∷ w' ∷ ws) [] a k = absurd k.1
last_known {A} r reached [] (x ∷ front) a k = absurd k
last_known {A} r reached (w ∷ ws) (x ∷ front) a k =
    let l = last_known {A = A} r reached ws front a k.1 in
    record { others = w ∷ l.others; last = l.last; parts = ap (λ z. w ∷ z) l.parts; known = (k.0, l.known); is = l.is }

-- a root that took some in is of the same tables
pub known_on : {A : Type 0} (r s : RootView) (reached : A → Opening → List Call → Type 0) (ws : List Worked) (actors : List A) → s.board ≡ r.board → s.switches ≡ r.switches → s.tickets ≡ r.tickets
    → AreKnown r reached ws actors → AreKnown s reached ws actors
known_on {A} r s reached [] [] eb ew et k = tt
known_on {A} r s reached (w ∷ ws) (a ∷ actors) eb ew et k =
    (record { board = k.0.board ∙ sym eb; switches = k.0.switches ∙ sym ew; tickets = k.0.tickets ∙ sym et; reached = k.0.reached }, known_on {A = A} r s reached ws actors eb ew et k.1)
known_on {A} r s reached [] (a ∷ actors) eb ew et k = absurd k
known_on {A} r s reached (w ∷ ws) [] eb ew et k = absurd k

-- of these actors the first are still to be taken in, and the others have been
pub record LeftToTake {A : Type 0} (setting : Setting) (change : Label → Change) (led : A → Opening → List Call → Type 0) (ws : List Worked) (actors : List A) (old now : RootView) : Type 0 where
  pub front : List Worked
  pub back : List Worked
  pub parts : ws ≡ front ++ back
  pub known : AreKnown now led front actors
  pub taken : HasTakenIn setting change back old now

pub all_left : {A : Type 0} (setting : Setting) (change : Label → Change) (led : A → Opening → List Call → Type 0) (ws : List Worked) (actors : List A) (r : RootView) → AreKnown r led ws actors → LeftToTake setting change led ws actors r r
all_left setting change led ws actors r k = record { front = ws; back = []; parts = sym (append-nil ws); known = k; taken = taken_none setting change r }

pub one_left : {A : Type 0} (setting : Setting) (change : Label → Change) (led : A → Opening → List Call → Type 0) (ws : List Worked) (actors front : List A) (a : A) (old now new : RootView) → actors ≡ front ++ a ∷ []
    → ((w : Worked) → IsKnown now led w a → HasTakenIn setting change (w ∷ []) now new) → LeftToTake setting change led ws actors old now → LeftToTake setting change led ws front old new
one_left {A} setting change led ws actors front a old now new is take l =
    let k = last_known {A = A} now led l.front front a (subst (λ (z : List A). AreKnown now led l.front z) is l.known) in
    let t = take k.last k.is in
    record {
      front = k.others;
      back = k.last ∷ l.back;
      parts = l.parts ∙ (ap (λ z. z ++ l.back) k.parts ∙ append_assoc k.others (k.last ∷ []) l.back);
      known = known_on {A = A} now new led k.others front t.board t.switches t.tickets k.known;
      taken = taken_more setting change k.last l.back old now new l.taken t;
    }

pub last_left : {A : Type 0} (setting : Setting) (change : Label → Change) (led : A → Opening → List Call → Type 0) (ws : List Worked) (actors front : List A) (a : A) (old now : RootView) → actors ≡ front ++ a ∷ []
    → LeftToTake setting change led ws actors old now → (w : Worked) × IsKnown now led w a
last_left {A} setting change led ws actors front a old now is l = let k = last_known {A = A} now led l.front front a (subst (λ (z : List A). AreKnown now led l.front z) is l.known) in (k.last, k.is)

pub none_left : {A : Type 0} (setting : Setting) (change : Label → Change) (led : A → Opening → List Call → Type 0) (ws : List Worked) (actors : List A) (old now : RootView) → actors ≡ [] → LeftToTake setting change led ws actors old now → HasTakenIn setting change ws old now
none_left {A} setting change led ws actors old now none l = subst (λ (z : List Worked). HasTakenIn setting change z old now) (sym (l.parts ∙ ap (λ z. z ++ l.back) (gone l.front (subst (λ (z : List A). AreKnown now led l.front z) none l.known)))) l.taken
  where
    gone : (front : List Worked) → AreKnown now led front [] → front ≡ []
    gone [] k = refl
    gone (w ∷ ws) k = absurd k
