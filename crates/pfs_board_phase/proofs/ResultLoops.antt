-- The loop that keeps what the sessions of a phase left.
use Rattle.std.proofs.Common.{ℕ, zero, suc, ◌≡◌, ◌≢◌, ◌+◌, ◌-◌, ◌<◌, ◌≤◌, List, [], ◌∷◌, ◌++◌, Option, Some, None, length, map, slice_set, drop, get_or, refl, ap, sym, ◌∙◌, subst, arith, append_assoc, append-nil, length-append, sum_by}
use Rattle.std.specs.Prelude.{Contains}
use Rattle.std.proofs.Math.ListN.{drop_of_length-le}
use Rattle.std.proofs.Math.Seq.{drop-cons}
use Rattle.std.proofs.lemmas.List.Sums.{sum_by-append, sum_by-cons, sum_by_push}
use Rattle.std.proofs.lemmas.List.{get_or-set_same, get_or-set_other, length-set}
use Rattle.pfs_journal.specs.declared.blocks.BlockReport.{BlockReport}
use Rattle.pfs_law_report.specs.LostCounts.{lost_digests, lost_statements, lost_waits}
use Rattle.pfs_law_report.specs.declared.counts.LostEvents.{LostEvents}
use Rattle.pfs_model.specs.Chains.{Each}
use Rattle.pfs_script.specs.KnownClasses.{AreDistinct}
use Rattle.pfs_script.specs.declared.blocks.Block.{Block}
use Rattle.pfs_seats.specs.Seats.{seat_of}
use Rattle.pfs_session.specs.SessionStates.{Book}
use Rattle.pfs_board_run.specs.declared.board.Ran.{Ran}
use Rattle.pfs_board_phase.specs.PhaseResults.{AreCounted, AreFew, AreKept, AreReported, AreSeated, HasSeat, handed_out, report_of}

abbrev sessions : List Block → List ℕ
sessions blocks = map (λ (block : Block). block.session) blocks

-- Of these blocks and results the first are reported and kept, and the others are left
pub record LeftToKeep (blocks left : List Block) (rans rest : List Ran) (old now : List (Option Book)) (was lost : LostEvents) (told : List BlockReport) : Type 0 where
  pub done : List Block
  pub ran : List Ran
  pub blocks_are : blocks ≡ done ++ left
  pub rans_are : rans ≡ ran ++ rest
  pub each : length rest ≡ length left
  pub reported : AreReported done ran told
  pub many : length told ≡ length done
  pub kept : AreKept done ran old now
  pub counted : AreCounted ran was lost

pub none_kept : (blocks : List Block) (rans : List Ran) (old : List (Option Book)) (was : LostEvents) → length rans ≡ length blocks → LeftToKeep blocks blocks rans rans old old was was []
none_kept blocks rans old was each = record {
  done = [];
  ran = [];
  blocks_are = refl;
  rans_are = refl;
  each = each;
  reported = tt;
  many = refl;
  kept = record { wide = refl; seated = tt; others = λ session some none. refl };
  counted = record { digests = omega arith; statements = omega arith; waits = omega arith };
}

reported_more : (blocks : List Block) (rans : List Ran) (told : List BlockReport) (block : Block) (ran : Ran) (report : BlockReport) → AreReported blocks rans told → report ≡ report_of block ran
    → AreReported (blocks ++ block ∷ []) (rans ++ ran ∷ []) (told ++ report ∷ [])
reported_more [] [] [] block ran report a is = (is, tt)
reported_more (b ∷ blocks) (r ∷ rans) (t ∷ told) block ran report a is = (a.0, reported_more blocks rans told block ran report a.1 is)
reported_more [] [] (t ∷ told) block ran report a is = absurd a
reported_more [] (r ∷ rans) [] block ran report a is = absurd a
reported_more [] (r ∷ rans) (t ∷ told) block ran report a is = absurd a
reported_more (b ∷ blocks) [] [] block ran report a is = absurd a
reported_more (b ∷ blocks) [] (t ∷ told) block ran report a is = absurd a
reported_more (b ∷ blocks) (r ∷ rans) [] block ran report a is = absurd a

-- a session of none of the blocks so far is of none of the first of them
apart_last : (blocks : List Block) (block : Block) (session : ℕ) → Each (λ (b : Block). b.session ≢ session) (blocks ++ block ∷ []) → Each (λ (b : Block). b.session ≢ session) blocks × (block.session ≢ session)
apart_last [] block session a = (tt, a.0)
apart_last (b ∷ blocks) block session a = let r = apart_last blocks block session a.1 in ((a.0, r.0), r.1)

-- blocks whose sessions are distinct: the one behind these is of another session than each of them
contains_last : (blocks others : List Block) (block : Block) → Contains (sessions (blocks ++ block ∷ others)) block.session
contains_last [] others block = (zero, omega arith, refl)
contains_last (b ∷ blocks) others block = let c = contains_last blocks others block in (suc c.0, omega (arith, c.1), c.2)

distinct_last : (blocks others : List Block) (block : Block) → AreDistinct (sessions (blocks ++ block ∷ others)) → Each (λ (b : Block). b.session ≢ block.session) blocks
distinct_last [] others block d = tt
distinct_last (b ∷ blocks) others block d =
    (λ same. d.0 (subst (λ n. Contains (sessions (blocks ++ block ∷ others)) n) (sym same) (contains_last blocks others block)), distinct_last blocks others block d.1)

-- one seat more is set
set_other : (seats : List (Option Book)) (number other : ℕ) (book : Book) → 1 ≤ number → 1 ≤ other → number ≢ other → seat_of (slice_set seats (number - 1) (Some book)) other ≡ seat_of seats other
set_other seats number other book low least differ =
    get_or-set_other seats (number - 1) (other - 1) (Some book) None (λ same. differ (omega (arith, same, low, least)))

still_seated : (seats : List (Option Book)) (blocks : List Block) (rans : List Ran) (block : Block) (book : Book) → 1 ≤ block.session → Each HasSeat blocks → Each (λ (b : Block). b.session ≢ block.session) blocks
    → AreSeated seats blocks rans → AreSeated (slice_set seats (block.session - 1) (Some book)) blocks rans
still_seated seats [] [] block book low some apart s = tt
still_seated seats [] (r ∷ rans) block book low some apart s = absurd s
still_seated seats (b ∷ blocks) [] block book low some apart s = absurd s
still_seated seats (b ∷ blocks) (r ∷ rans) block book low some apart s = (
  set_other seats block.session b.session book low some.0.0 (λ same. apart.0 (sym same)) ∙ s.0,
  still_seated seats blocks rans block book low some.1 apart.1 s.1,
)

seated_more : (seats : List (Option Book)) (blocks : List Block) (rans : List Ran) (block : Block) (ran : Ran) → AreSeated seats blocks rans → seat_of seats block.session ≡ Some (handed_out ran.paused)
    → AreSeated seats (blocks ++ block ∷ []) (rans ++ ran ∷ [])
seated_more seats [] [] block ran s is = (is, tt)
seated_more seats [] (r ∷ rans) block ran s is = absurd s
seated_more seats (b ∷ blocks) [] block ran s is = absurd s
seated_more seats (b ∷ blocks) (r ∷ rans) block ran s is = (s.0, seated_more seats blocks rans block ran s.1 is)

kept_more : (blocks : List Block) (rans : List Ran) (block : Block) (ran : Ran) (old now new : List (Option Book)) → length old ≡ 64 → Each HasSeat blocks → HasSeat block → Each (λ (b : Block). b.session ≢ block.session) blocks
    → new ≡ slice_set now (block.session - 1) (Some (handed_out ran.paused)) → AreKept blocks rans old now → AreKept (blocks ++ block ∷ []) (rans ++ ran ∷ []) old new
kept_more blocks rans block ran old now new wide some has apart is k =
    let size = length-set now (block.session - 1) (Some (handed_out ran.paused)) in
    let there : seat_of new block.session ≡ Some (handed_out ran.paused) =
    ap (λ z. seat_of z block.session) is ∙ get_or-set_same now (block.session - 1) (Some (handed_out ran.paused)) None (omega (arith, k.wide, wide, has.0, has.1)) in
    record {
      wide = ap length is ∙ (size ∙ k.wide);
      seated = seated_more new blocks rans block ran (subst (λ z. AreSeated z blocks rans) (sym is) (still_seated now blocks rans block (handed_out ran.paused) has.0 some apart k.seated)) there;
      others = λ session least none.
          let parts = apart_last blocks block session none in
          ap (λ z. seat_of z session) is ∙ (set_other now block.session session (handed_out ran.paused) has.0 least parts.1 ∙ k.others session least parts.0);
    }

abbrev digests_of : Ran → ℕ
digests_of ran = lost_digests ran.paused.journal.entries

abbrev statements_of : Ran → ℕ
statements_of ran = lost_statements ran.paused.journal.entries

abbrev waits_of : Ran → ℕ
waits_of ran = lost_waits ran.paused.journal.entries

counted_more : (rans : List Ran) (ran : Ran) (was lost new : LostEvents) → AreCounted rans was lost → AreCounted (ran ∷ []) lost new → AreCounted (rans ++ ran ∷ []) was new
counted_more rans ran was lost new a b = record {
  digests = omega (arith, a.digests, b.digests, sum_by_push digests_of rans ran);
  statements = omega (arith, a.statements, b.statements, sum_by_push statements_of rans ran);
  waits = omega (arith, a.waits, b.waits, sum_by_push waits_of rans ran);
}

-- what stands before the loop turns once more
module _ (blocks others : List Block) (block : Block) (rans rest : List Ran) (ran : Ran) (old now : List (Option Book)) (was lost : LostEvents) (told : List BlockReport)
    (l : LeftToKeep blocks (block ∷ others) rans (ran ∷ rest) old now was lost told) where
  parted : blocks ≡ l.done ++ block ∷ others
  parted = l.blocks_are

  first_seats : (xs ys : List Block) → Each HasSeat (xs ++ ys) → Each HasSeat xs × Each HasSeat ys
  first_seats [] ys a = (tt, a)
  first_seats (x ∷ xs) ys a = let r = first_seats xs ys a.1 in ((a.0, r.0), r.1)

  pub next_seat : Each HasSeat blocks → HasSeat block
  next_seat a = (first_seats l.done (block ∷ others) (subst (Each HasSeat) parted a)).1.0

  pub next_wide : length old ≡ 64 → length now ≡ 64
  next_wide wide = l.kept.wide ∙ wide

  pub next_few : AreFew rans was → AreFew (ran ∷ []) lost
  next_few f =
      let c = l.counted in
      let d = ap (sum_by digests_of) l.rans_are ∙ sum_by-append digests_of l.ran (ran ∷ rest) in
      let s = ap (sum_by statements_of) l.rans_are ∙ sum_by-append statements_of l.ran (ran ∷ rest) in
      let w = ap (sum_by waits_of) l.rans_are ∙ sum_by-append waits_of l.ran (ran ∷ rest) in
      record {
        digests = omega (arith, c.digests, f.digests, d, sum_by-cons digests_of ran rest);
        statements = omega (arith, c.statements, f.statements, s, sum_by-cons statements_of ran rest);
        waits = omega (arith, c.waits, f.waits, w, sum_by-cons waits_of ran rest);
      }

  pub next_room : length told < length blocks
  next_room = omega (arith, l.many, ap length parted, length-append l.done (block ∷ others))

  pub one_kept : (new : List (Option Book)) (next : LostEvents) (report : BlockReport) → length old ≡ 64 → Each HasSeat blocks → AreDistinct (sessions blocks) → report ≡ report_of block ran → AreCounted (ran ∷ []) lost next
      → new ≡ slice_set now (block.session - 1) (Some (handed_out ran.paused)) → LeftToKeep blocks others rans rest old new was next (told ++ report ∷ [])
  one_kept new next report wide some apart is counted set =
      let seats = first_seats l.done (block ∷ others) (subst (Each HasSeat) parted some) in
      record {
        done = l.done ++ block ∷ [];
        ran = l.ran ++ ran ∷ [];
        blocks_are = l.blocks_are ∙ sym (append_assoc l.done (block ∷ []) others);
        rans_are = l.rans_are ∙ sym (append_assoc l.ran (ran ∷ []) rest);
        each = omega (arith, l.each);
        reported = reported_more l.done l.ran told block ran report l.reported is;
        many = omega (arith, l.many, length-append told (report ∷ []), length-append l.done (block ∷ []));
        kept = kept_more l.done l.ran block ran old now new wide seats.0 seats.1.0 (distinct_last l.done others block (subst (λ z. AreDistinct (sessions z)) parted apart)) set l.kept;
        counted = counted_more l.ran ran was lost next l.counted counted;
      }

-- the first of those that are left
pub next_left : {A : Type 0} (xs : List A) (i : ℕ) (x : A) → i < length xs → x ≡ get_or xs i x → drop i xs ≡ x ∷ drop (i + 1) xs
next_left {A} xs i x within is = drop-cons xs i x within ∙ (ap (λ y. y ∷ drop (suc i) xs) (sym is) ∙ ap (λ n. x ∷ drop n xs) (one_more i)) where
  one_more : (n : ℕ) → suc n ≡ n + 1
  one_more n = omega arith

pub none_left : {A : Type 0} (xs : List A) (i : ℕ) → length xs ≤ i → drop i xs ≡ []
none_left xs i long = drop_of_length-le xs {i = i} long

-- there is a result for each block that is left
pub next_ran : (blocks left others : List Block) (block : Block) (rans rest : List Ran) (old now : List (Option Book)) (was lost : LostEvents) (told : List BlockReport) → left ≡ block ∷ others → LeftToKeep blocks left rans rest old now was lost told → rest ≡ [] → ⊥
next_ran blocks left others block rans rest old now was lost told is l none = omega (arith, l.each, ap length none, ap length is)

pub all_kept : (blocks : List Block) (rans rest : List Ran) (old now : List (Option Book)) (was lost : LostEvents) (told : List BlockReport) → LeftToKeep blocks [] rans rest old now was lost told
    → AreReported blocks rans told × AreCounted rans was lost × AreKept blocks rans old now
all_kept blocks rans [] old now was lost told l =
    let b : l.done ≡ blocks = sym (l.blocks_are ∙ append-nil l.done) in
    let r : l.ran ≡ rans = sym (l.rans_are ∙ append-nil l.ran) in (
      subst (λ z. AreReported z rans told) b (subst (λ z. AreReported l.done z told) r l.reported),
      subst (λ z. AreCounted z was lost) r l.counted,
      subst (λ z. AreKept z rans old now) b (subst (λ z. AreKept l.done z old now) r l.kept),
    )
all_kept blocks rans (x ∷ rest) old now was lost told l = absurd (omega (arith, l.each))
