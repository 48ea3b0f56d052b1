-- A run's slots are below 32, so that the words that it names of them are there.
use Rattle.std.proofs.Common.{◌≡◌, refl, ℕ, zero, suc, ◌-◌, ◌<◌, ◌≤◌, Bool, true, false, cond, List, [], ◌∷◌, ◌++◌, length, replicate, take, Option, Some, None, sym, ap, subst, ◌∙◌, arith}
use Rattle.std.specs.Prelude.{◌==◌, IfSome}
use Rattle.std.proofs.lemmas.Bool.{eqb-true}
use Rattle.pfs_admin.specs.AdministrationStates.{State}
use Rattle.pfs_admin.specs.ConnectionAsks.{placed_of}
use Rattle.pfs_admin.specs.Fold.{state_from, state_of, stepped}
use Rattle.pfs_admin.specs.OpeningState.{opened}
use Rattle.pfs_admin.specs.Truncations.{action_of}
use Rattle.pfs_admin.specs.declared.changes.Change.{Change as Act}
use Rattle.pfs_admin.specs.declared.changes.Change.TheVariants as acts
use Rattle.pfs_board.specs.declared.view.Label.{Label}
use Rattle.pfs_classes.specs.declared.setting.Setting.{Setting}
use Rattle.pfs_containers.proofs.PlaceBounds.{free_inside, len_fill_at}
use Rattle.pfs_containers.specs.Administration.{Containers, Found, advanced, connect_at, found_where, lowest_free, quit_line, session_of}
use Rattle.pfs_containers.specs.ContainerState.{seat_by}
use Rattle.pfs_containers.specs.Connections.{emptied_at}
use Rattle.pfs_containers.specs.Connections.{State as Places, stepped as places_after}
use Rattle.pfs_containers.specs.declared.containers.Connection.{Connection}
use Rattle.pfs_event.specs.declared.entry.Entry.{Entry}
use Rattle.pfs_event.specs.declared.entry.Entry.TheVariants as says
use Rattle.pfs_law_session.specs.Demands.{rooms_of}
use Rattle.pfs_model.proofs.EachLists.{each_behind, each_front, each_join}
use Rattle.pfs_model.specs.declared.changes.Change.{Change}
use Rattle.pfs_model.specs.declared.lines.Line.{Line}
use Rattle.pfs_model.specs.declared.lines.Subject.{Subject}
use Rattle.pfs_model.specs.ActionAsks.{Answer, AreAnswered, IsAnswered, Rooms}
use Rattle.pfs_model.specs.Chains.{Each}
use Rattle.pfs_model.specs.Contexts.{Context, after, after_entries, fresh, noted, subject_of, turned}
use Rattle.pfs_model.specs.EntryPlaces.{Block, Placed, after_lines, placed_lines, placed_part, places, places_behind, told_by}
use Rattle.pfs_model.specs.SetupFlags.{thread_word, word_named}
use Rattle.pfs_rows.specs.declared.truncations.Truncation.{Truncation}
use Rattle.pfs_rows.specs.declared.truncations.Truncation.TheVariants.{Events, Summary, DigestSummary, Accounts, Users, Hosts, SetupActors, SetupObjects}
use Rattle.pfs_runs.specs.Labels.{before_action, label_at, rooms_at, rooms_for, rooms_of_label}
use Rattle.pfs_check_faults.specs.EntryFaults.{IsSlotThere, thread_named}

-- as many slots as at first, whatever was done
len_emptied : {X : Type 0} (n : ℕ) (xs : List (Option X)) → length (emptied_at n xs) ≡ length xs
len_emptied n [] = refl
len_emptied zero (x ∷ xs) = refl
len_emptied (suc n) (x ∷ xs) = ap suc (len_emptied n xs)

len_free : (X : Type 0) (n : ℕ) → length {A = Option X} (replicate n None) ≡ n
len_free X zero = refl
len_free X (suc n) = ap suc (len_free X n)

connect_slots : (c : Containers) (number user host : ℕ) (slot : Option ℕ) → length (connect_at c number user host slot).places.threads ≡ length c.places.threads
connect_slots c number user host None = refl
connect_slots c number user host (Some slot) = len_fill_at slot (session_of c.places number user host) c.places.threads

quit_slots : (s : Places) (found : Option (Found Connection)) → length (places_after s (quit_line found)).threads ≡ length s.threads
quit_slots s None = refl
quit_slots s (Some found) = len_emptied found.place s.threads

truncation_slots : (c : Containers) (what : Truncation) → length (advanced c (action_of what)).places.threads ≡ length c.places.threads
truncation_slots c (Summary kind table) = refl
truncation_slots c (Events kind table) = refl
truncation_slots c Accounts = refl
truncation_slots c Users = refl
truncation_slots c Hosts = refl
truncation_slots c DigestSummary = refl
truncation_slots c SetupActors = refl
truncation_slots c SetupObjects = refl

step_slots : (s : State) (session : ℕ) (what : Act) → length (stepped s session what).kept.now.places.threads ≡ length s.kept.now.places.threads
step_slots s session (acts.Connect user host) = connect_slots s.kept.now session user host (lowest_free s.kept.now.places.threads)
step_slots s session acts.Quit = quit_slots s.kept.now.places (found_where (λ x. x.number == session) s.kept.now.places.threads)
step_slots s session (acts.Truncate what) = truncation_slots s.kept.now what
step_slots s session (acts.Setup what) = refl

fold_slots : (change : Label → Act) (s : State) (labels : List Label) → length (state_from change s labels).kept.now.places.threads ≡ length s.kept.now.places.threads
unfolding state_from
fold_slots change s [] = refl
fold_slots change s (label ∷ labels) = fold_slots change (stepped s label.session (change label)) labels ∙ step_slots s label.session (change label)

slots_few : (setting : Setting) (change : Label → Act) (labels : List Label) → length (state_of setting change labels).kept.now.places.threads ≤ 32
slots_few setting change labels =
    let first : length (opened setting).kept.now.places.threads ≡ setting.limits.thread_instances = len_free Connection setting.limits.thread_instances in
    let same : length (state_of setting change labels).kept.now.places.threads ≡ setting.limits.thread_instances =
    fold_slots change (opened setting) labels ∙ first in
    let few : setting.limits.thread_instances ≤ 32 = setting.in_range.thread_instances in
    omega (arith, same, few)

-- a slot, where there is one, below 32
abbrev IsLow : Option ℕ → Type 0
IsLow slot = IfSome slot (λ n. n < 32)

-- so a connect finds such a one
fewer : (few : ℕ) (slot : Option ℕ) → few ≤ 32 → IfSome slot (λ n. n < few) → IsLow slot
fewer few None less inside = tt
fewer few (Some slot) less inside = omega (arith, less, inside)

seat_low : (c : Containers) (number user host : ℕ) (slot : Option ℕ) → IsLow slot → IsLow (rooms_of (placed_of (seat_by c number user host slot))).thread
seat_low c number user host None low = tt
seat_low c number user host (Some slot) low = low

change_low : (s : State) (session : ℕ) (what : Act) → length s.kept.now.places.threads ≤ 32 → IsLow (rooms_for s session what).thread
change_low s session (acts.Connect user host) few =
    seat_low s.kept.now session user host (lowest_free s.kept.now.places.threads)
    (fewer (length s.kept.now.places.threads) (lowest_free s.kept.now.places.threads) few (free_inside s.kept.now.places.threads))
change_low s session acts.Quit few = tt
change_low s session (acts.Truncate what) few = tt
change_low s session (acts.Setup what) few = tt

rooms_low : (setting : Setting) (change : Label → Act) (labels : List Label) (number : ℕ) → IsLow (rooms_at setting change labels number).thread
rooms_low setting change labels number = on (label_at labels number) where
  on : (o : Option Label) → IsLow (rooms_of_label change (before_action setting change labels number) o).thread
  on None = tt
  on (Some label) =
      change_low (before_action setting change labels number) label.session (change label) (slots_few setting change (take (number - 1) labels))

-- a connect prints it
abbrev PrintsLow : Entry → Type 0
PrintsLow (says.Connect action thread account user host) = IsLow thread
PrintsLow _ = Unit {0}

abbrev PrintsLowAt : Placed → Type 0
PrintsLowAt place = PrintsLow place.entry

prints : (rooms : ℕ → Rooms) (answers : ℕ → Answer) (all : List Placed) → ((number : ℕ) → IsLow (rooms number).thread)
    → AreAnswered rooms answers all → Each PrintsLowAt all
prints rooms answers [] low a = tt
prints rooms answers (place ∷ all) low a = (one place.entry a.0, prints rooms answers all low a.1) where
  one : (entry : Entry) → IsAnswered rooms answers place entry → PrintsLow entry
  one (says.Connect action thread account user host) is = subst (λ (z : Rooms). IsLow z.thread) is (low action)
  one _ is = tt

-- and its session keeps it
next_low : (subject : Option Subject) (context : Context) (entry : Entry) → IsLow context.slot → PrintsLow entry
    → IsLow (noted subject context entry).slot
next_low subject context (says.Connect action thread account user host) low p = p
next_low subject context (says.Act action) low p = low
next_low subject context (says.Start event verdict consumers thread class table) low p = low
next_low subject context (says.End event last consumers thread) low p = low
next_low subject context (says.Held row first second) low p = low
next_low subject context (says.Add row version) low p = low
next_low subject context says.Settle low p = low
next_low subject context (says.Take row version) low p = low
next_low subject context _ low p = low

slot_there : (slot version : Option ℕ) → IsLow slot → Each (λ (word : Change). word.row < 160) (word_named thread_word slot version)
slot_there None None low = tt
slot_there None (Some version) low = tt
slot_there (Some slot) None low = tt
slot_there (Some slot) (Some version) low = (omega (arith, low), tt)

part_there : (phase session : ℕ) (line : Line) (context : Context) (entries : List Entry) → IsLow context.slot
    → Each PrintsLowAt (placed_part phase session line context entries)
    → Each IsSlotThere (placed_part phase session line context entries) × IsLow (after_entries (subject_of line) context entries).slot
part_there phase session line context [] low p = (tt, low)
part_there phase session line context (entry ∷ entries) low p =
    let rest = part_there phase session line (noted (subject_of line) context entry) entries (next_low (subject_of line) context entry low p.0) p.1 in
    ((slot_there context.slot (thread_named entry) low, rest.0), rest.1)

lines_there : (phase session : ℕ) (context : Context) (lines : List Line) (parts : List (List Entry)) → IsLow context.slot
    → Each PrintsLowAt (placed_lines phase session context lines parts)
    → Each IsSlotThere (placed_lines phase session context lines parts) × IsLow (after_lines context lines parts).slot
lines_there phase session context [] parts low p = (tt, low)
lines_there phase session context (line ∷ lines) [] low p = (tt, low)
lines_there phase session context (line ∷ lines) (part ∷ parts) low p =
    let own = placed_part phase session line (turned context) part in
    let others = placed_lines phase session (after context line part) lines parts in
    let here = part_there phase session line (turned context) part low (each_front PrintsLowAt own others p) in
    let rest = lines_there phase session (after context line part) lines parts here.1 (each_behind PrintsLowAt own others p) in
    (each_join IsSlotThere own others here.0 rest.0, rest.1)

told_behind : (session : ℕ) (context : Context) (earlier : List Block) (block : Block) → told_by session context (earlier ++ block ∷ []) ≡ cond (block.session == session) (after_lines (told_by session context earlier) block.lines block.parts) (told_by session context earlier)
told_behind session context [] block = refl
told_behind session context (one ∷ earlier) block = told_behind session (cond (one.session == session) (after_lines context one.lines one.parts) context) earlier block

next_told : (earlier : List Block) (block : Block) → ((session : ℕ) → IsLow (told_by session fresh earlier).slot)
    → IsLow (after_lines (told_by block.session fresh earlier) block.lines block.parts).slot
    → (session : ℕ) → IsLow (told_by session fresh (earlier ++ block ∷ [])).slot
next_told earlier block low own session =
    subst (λ (z : Context). IsLow z.slot) (sym (told_behind session fresh earlier block)) (at (block.session == session) refl) where
      at : (b : Bool) → (block.session == session) ≡ b
          → IsLow (cond b (after_lines (told_by session fresh earlier) block.lines block.parts) (told_by session fresh earlier)).slot
      at true e =
          subst (λ (z : ℕ). IsLow (after_lines (told_by z fresh earlier) block.lines block.parts).slot) (eqb-true block.session session e) own
      at false e = low session

blocks_there : (earlier blocks : List Block) → ((session : ℕ) → IsLow (told_by session fresh earlier).slot)
    → Each PrintsLowAt (places_behind earlier blocks) → Each IsSlotThere (places_behind earlier blocks)
unfolding places_behind
blocks_there earlier [] low p = tt
blocks_there earlier (block ∷ blocks) low p =
    let own = placed_lines block.phase block.session (told_by block.session fresh earlier) block.lines block.parts in
    let others = places_behind (earlier ++ block ∷ []) blocks in
    let here = lines_there block.phase block.session (told_by block.session fresh earlier) block.lines block.parts (low block.session) (each_front PrintsLowAt own others p) in
    each_join IsSlotThere own others here.0
    (blocks_there (earlier ++ block ∷ []) blocks (next_told earlier block low here.1) (each_behind PrintsLowAt own others p))

-- where each connect has the rooms of its action, each slot's word is there
pub slots_there : (setting : Setting) (change : Label → Act) (labels : List Label) (answers : ℕ → Answer) (blocks : List Block)
    → AreAnswered (rooms_at setting change labels) answers (places blocks) → Each IsSlotThere (places blocks)
slots_there setting change labels answers blocks answered =
    blocks_there [] blocks (λ session. tt)
    (prints (rooms_at setting change labels) answers (places blocks) (rooms_low setting change labels) answered)
