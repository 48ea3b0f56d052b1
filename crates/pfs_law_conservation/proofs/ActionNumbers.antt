-- A number that an entry says counts once in a run, and is one of its session's.
use Rattle.std.proofs.Common.{◌≡◌, refl, ℕ, zero, suc, ◌+◌, ◌-◌, ◌<◌, ◌≤◌, ◌==◌, true, false, cond, List, [], ◌∷◌, ◌++◌, length, take, Option, Some, None, sym, ap, subst, ◌∙◌, ◌⊎◌, inl, inr, arith}
use Rattle.std.specs.Prelude.{slice_get}
use Rattle.std.proofs.lemmas.Bool.{and_parts, eqb-true}
use Rattle.pfs_admin.specs.declared.changes.Change.{Change}
use Rattle.pfs_admin.specs.declared.changes.Change.TheVariants as changes
use Rattle.pfs_board.specs.declared.view.Label.{Label}
use Rattle.pfs_conservation.specs.AdministrationFold.{Action, Connect, Quit, numbered, line_of, state_after}
use Rattle.pfs_conservation.specs.RowChains.{Taken}
use Rattle.pfs_conservation.specs.PlaceFolds.{State, Session, Thread, Quits, entry_at, line_takes, thread_owner}
use Rattle.pfs_conservation.specs.PrintedChanges.{Stands, QuitAbove}
use Rattle.pfs_conservation.specs.Prints.{AreActed, prints_all, printed_by}
use Rattle.pfs_conservation.specs.CellHolders.{Seat, all_free, opened_by, holder_of, takes_by, holder_at, rows_of}
use Rattle.pfs_event.specs.Verdicts.{is_let_through}
use Rattle.pfs_event.specs.declared.entry.Entry.{Entry}
use Rattle.pfs_event.specs.declared.entry.Entry.TheVariants as says
use Rattle.pfs_model.specs.Actions.{IsAmong, numbers_by, AllAbove, is_acted}
use Rattle.pfs_model.specs.EntryAsks.{cell_row}
use Rattle.pfs_model.specs.Chains.{Each, times, change_at, action_change, each_of, is_of, is_that}
use Rattle.pfs_model.specs.Contexts.{fresh, subject_of, noted}
use Rattle.pfs_model.specs.EntryPlaces.{Placed, places}
use Rattle.pfs_model.specs.Shapes.{counted_slot}
use Rattle.pfs_model.specs.declared.changes.Change.{Change as Numbered}
use Rattle.pfs_model.specs.declared.lines.Line.{Line}
use Rattle.pfs_model.specs.declared.lines.Line.TheVariants as lines
use Rattle.pfs_model.proofs.ChainGrowth.{times_append}
use Rattle.pfs_rows.specs.declared.place.Place.TheVariants.{ThreadCell}
use Rattle.pfs_rows.specs.declared.table.TableKind.{TableKind}
use Rattle.pfs_rows.specs.Tables.{kind_number}
use Rattle.pfs_runs.specs.Labels.{rooms_at, label_at}
use Rattle.pfs_law_conservation.specs.RunActions.{action_for, moves_at}
use Rattle.pfs_law_conservation.specs.KindRows.{seat_in, is_kind_row, kind_rows, board, cells_of, limits_of}
use Rattle.pfs_law_conservation.specs.RunEvents.{Ended, all_ended, counts_in, given_by, quits_at, first_of, quit_in, is_quit}
use Rattle.pfs_law_conservation.specs.Premises.{AreKept, IsOrderly, IsActionOf, IsChangeOf, IsLabelOf}
use Rattle.pfs_law_conservation.specs.RunTerms.{Run, entries_to, actions_to, lines_to}
use Rattle.pfs_law_conservation.specs.KindLines.{all_lines, lines_on}
use Rattle.pfs_law_conservation.proofs.AdditionOrder.{IsSplit, split_at, among_split, onto, last_split, near_split, follow_front, after_quit, before_said, IsTake, take_is, below_behind, IsSayer, sayer_is, IsQuitting, quitting_is, quits_onto}
use Rattle.pfs_law_conservation.proofs.ConnectLines.{IsApart, is_connecting, is_act}
use Rattle.pfs_law_conservation.proofs.AdditionCounts.{each_among}
use Rattle.pfs_law_conservation.proofs.AdditionFloors.{place_among}
use Rattle.pfs_law_conservation.proofs.SingleQuits.{IsActed, acted_of, no_other_quit, IsIndexed, said_index}
use Rattle.pfs_law_conservation.proofs.HomeRows.{AreNone, low_row, IsLowEnded, home_kind}
use Rattle.pfs_law_conservation.proofs.RunEntries.{run_follow, run_number, run_own, run_label, run_acting, run_ended_low, run_rising, run_near, run_apart, run_said}
use Rattle.pfs_law_conservation.proofs.ConnectSlots.{IsSeated, seated_there, session_in}
use Rattle.pfs_law_conservation.proofs.PrintedTakes.{in_kind_rows, taken_print, taken_printed, print_stands}
use Rattle.pfs_law_conservation.proofs.SessionThreads.{stays_there, quits_slot}
use Rattle.pfs_law_conservation.proofs.FirstConnects.{rooms_told, IsTold, IsOwn, IsFirstConnect}
use Rattle.pfs_law_conservation.proofs.HomeAdditions.{IsAddedBy, AreQuitAbove, counted_some}
use Rattle.pfs_law_conservation.proofs.LineVersions.{that_self, chain_one, chain_range}
use Rattle.pfs_law_conservation.proofs.PlaceFolds.{numbered_at, front_get, truncation_connects}
use Rattle.pfs_law_conservation.proofs.EventOffers.{home_row}
use Rattle.pfs_law_conservation.proofs.ActionJournals.{zero_rows, HasNumber}
use Rattle.pfs_law_conservation.proofs.SlotMoves.{AreBack, AreFound, seat_at}
use Rattle.pfs_law_conservation.proofs.RowLines.{sifted, bit_yes}
use Rattle.pfs_model.proofs.Members.{among_back}

-- a number that is said counts, and is one of its session's
pub said_counts : (number : ℕ) (p : Placed) (ps : List Placed) → IsAmong p ps → action_change p.entry ≡ change_at 0 number ∷ [] → 1 ≤ times (is_that (change_at 0 number)) (each_of action_change ps)
said_counts number p [] m e = absurd m
said_counts number p (x ∷ ps) (inl q) e =
    let a : times (is_that (change_at 0 number)) (action_change x.entry ++ each_of action_change ps) ≡ times (is_that (change_at 0 number)) (action_change x.entry) + times (is_that (change_at 0 number)) (each_of action_change ps) = times_append (is_that (change_at 0 number)) (action_change x.entry) (each_of action_change ps) in
    let o : times (is_that (change_at 0 number)) (action_change x.entry) ≡ cond {A = ℕ} (is_that (change_at 0 number) (change_at 0 number)) 1 0 + 0 = ap (times (is_that (change_at 0 number))) (ap (λ (z : Placed). action_change z.entry) q ∙ e) in
    let t : cond {A = ℕ} (is_that (change_at 0 number) (change_at 0 number)) 1 0 ≡ 1 = bit_yes (is_that (change_at 0 number) (change_at 0 number)) (that_self 0 number) in
    omega (arith, a, o, t)
said_counts number p (x ∷ ps) (inr m) e =
    let a : times (is_that (change_at 0 number)) (action_change x.entry ++ each_of action_change ps) ≡ times (is_that (change_at 0 number)) (action_change x.entry) + times (is_that (change_at 0 number)) (each_of action_change ps) = times_append (is_that (change_at 0 number)) (action_change x.entry) (each_of action_change ps) in
    let l : 1 ≤ times (is_that (change_at 0 number)) (each_of action_change ps) = said_counts number p ps m e in
    omega (arith, a, l)

-- none is said before it
pub none_before : (number : ℕ) (x : Placed) (xs ys : List Placed) → action_change x.entry ≡ change_at 0 number ∷ [] → times (is_that (change_at 0 number)) (each_of action_change (xs ++ x ∷ ys)) ≤ 1 → times (is_that (change_at 0 number)) (each_of action_change xs) ≡ 0
none_before number x [] ys e l = refl
none_before number x (p ∷ xs) ys e l =
    let a : times (is_that (change_at 0 number)) (action_change p.entry ++ each_of action_change (xs ++ x ∷ ys)) ≡ times (is_that (change_at 0 number)) (action_change p.entry) + times (is_that (change_at 0 number)) (each_of action_change (xs ++ x ∷ ys)) = times_append (is_that (change_at 0 number)) (action_change p.entry) (each_of action_change (xs ++ x ∷ ys)) in
    let b : times (is_that (change_at 0 number)) (action_change p.entry ++ each_of action_change xs) ≡ times (is_that (change_at 0 number)) (action_change p.entry) + times (is_that (change_at 0 number)) (each_of action_change xs) = times_append (is_that (change_at 0 number)) (action_change p.entry) (each_of action_change xs) in
    let c : 1 ≤ times (is_that (change_at 0 number)) (each_of action_change (xs ++ x ∷ ys)) = said_counts number x (xs ++ x ∷ ys) (there xs) e in
    let ih : times (is_that (change_at 0 number)) (each_of action_change xs) ≡ 0 = none_before number x xs ys e (omega (arith, a, l)) in
    omega (arith, a, b, c, ih, l) where
      there : (zs : List Placed) → IsAmong x (zs ++ x ∷ ys)
      there [] = inl refl
      there (z ∷ zs) = inr (there zs)

pub own_number : (number : ℕ) (session : ℕ) (p : Placed) (ps : List Placed) → IsAmong p ps → (p.session == session) ≡ true → action_change p.entry ≡ change_at 0 number ∷ [] → IsAmong (change_at 0 number) (numbers_by session ps)
own_number number session p [] m o e = absurd m
own_number number session p (x ∷ ps) (inl q) o e =
    subst (λ cs. IsAmong (change_at 0 number) (cs ++ numbers_by session ps)) (sym (ap (λ b. cond b (action_change x.entry) []) (ap (λ (z : Placed). z.session == session) q ∙ o) ∙ (ap (λ (z : Placed). action_change z.entry) q ∙ e))) (inl refl)
own_number number session p (x ∷ ps) (inr m) o e = among_back (change_at 0 number) (cond (x.session == session) (action_change x.entry) []) (numbers_by session ps) (own_number number session p ps m o e)

pub above_among : (number : ℕ) (c : Numbered) (cs : List Numbered) → AllAbove number cs → IsAmong c cs → number < c.version
above_among number c [] a m = absurd m
above_among number c (x ∷ cs) a (inl e) = subst (λ (z : Numbered). number < z.version) e a.0
above_among number c (x ∷ cs) a (inr m) = above_among number c cs a.1 m

pub quit_change : (line : Line) (what : Change) → is_quit line ≡ true → IsChangeOf line what → what ≡ changes.Quit
quit_change lines.Quit changes.Quit q h = refl
quit_change lines.Quit (changes.Connect user host) q h = absurd h
quit_change lines.Quit (changes.Truncate what) q h = absurd h
quit_change lines.Quit (changes.Setup what) q h = absurd h
quit_change _ what q h = absurd (cc)

pub some_of : (qs : List ℕ) (number : ℕ) → first_of qs ≡ Some number → (rest : List ℕ) × (qs ≡ number ∷ rest)
some_of [] number e = absurd (cc)
some_of (q ∷ qs) number e = (qs, let s : q ≡ number = cc in ap (λ z. z ∷ qs) s)

pub label_same : (o : Option Label) (a b : Label) → o ≡ Some a → o ≡ Some b → a ≡ b
label_same o a b p q = let e : Some a ≡ Some b = sym p ∙ q in cc
