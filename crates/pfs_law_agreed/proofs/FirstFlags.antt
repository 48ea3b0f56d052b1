-- Behind a first phase of connects each session's thread has the flags that the setup gives it, and no other word is set.
use Rattle.std.proofs.Common.{ℕ, zero, suc, ◌≡◌, ◌+◌, ◌-◌, ◌≤◌, ◌==◌, ◌&&◌, ◌⊎◌, inl, inr, nat_le, nat_lt, Bool, true, false, cond, List, [], ◌∷◌, ◌++◌, length, map, Option, Some, None, refl, ap, sym, ◌∙◌, subst, arith, append_assoc}
use Rattle.std.specs.Prelude.{if◌then◌else◌, slice_index_or, take}
use Rattle.std.proofs.lemmas.Bool.{and_parts, eqb-true}
use Rattle.pfs_lemmas.proofs.Numbers.{eq_self}
use Rattle.pfs_admin.specs.AdministrationStates.{State, connected, flags_of, thread_flags}
use Rattle.pfs_admin.specs.ConnectionAsks.{connect_work}
use Rattle.pfs_admin.specs.Fold.{state_of}
use Rattle.pfs_admin.specs.OpeningState.{opened, opening_flags}
use Rattle.pfs_admin.specs.Works.{flagging, word_at}
use Rattle.pfs_admin.specs.declared.changes.Change.{Change as Asked}
use Rattle.pfs_admin.specs.declared.changes.Change.TheVariants as changes
use Rattle.pfs_board.specs.declared.view.Label.{Label}
use Rattle.pfs_classes.specs.declared.setting.Setting.{Setting}
use Rattle.pfs_containers.specs.Administration.{Containers, session_of}
use Rattle.pfs_containers.specs.declared.containers.Seated.{Seated}
use Rattle.pfs_event.specs.declared.entry.Entry.{Entry}
use Rattle.pfs_event.specs.declared.entry.Entry.TheVariants as says
use Rattle.pfs_journal.specs.declared.report.ReportParts.{ReportParts}
use Rattle.pfs_law_conservation.proofs.ActionJournals.{all_said}
use Rattle.pfs_law_conservation.proofs.ActionPhases.{early_did, no_did}
use Rattle.pfs_law_conservation.proofs.ChosenLines.{each_both, each_map}
use Rattle.pfs_law_conservation.proofs.LineVersions.{chain_range, that_self}
use Rattle.pfs_law_conservation.proofs.PhaseEntries.{IsFront, fronts}
use Rattle.pfs_law_conservation.specs.Premises.{AreKept, IsOrderly}
use Rattle.pfs_law_session.specs.Demands.{asked_by, sets_asked, signs_asked}
use Rattle.pfs_law_summaries.specs.OrderlyRuns.{run_of}
use Rattle.pfs_levels.specs.PlainStore.{word}
use Rattle.pfs_levels.specs.declared.answers.Word.{Word}
use Rattle.pfs_matching.specs.ActorRules.{actor_flags}
use Rattle.pfs_matching.specs.ObjectRules.{opening_objects}
use Rattle.pfs_matching.specs.declared.actor_rows.ActorRow.{ActorRow}
use Rattle.pfs_model.proofs.EachLists.{each_join}
use Rattle.pfs_model.specs.ActionAsks.{Did, Flagged, asked_of, did, flagged_by, of_action, signed_by}
use Rattle.pfs_model.specs.ActionAsks.{Sign, Frees, Tags}
use Rattle.pfs_model.specs.Actions.{IsAmong, settings_of, setting_at}
use Rattle.pfs_model.specs.Actions.{Setting as Set}
use Rattle.pfs_model.specs.Chains.{Each, IsChained, change_at, each_of, is_of, is_that, times, word_change}
use Rattle.pfs_model.specs.EntryPlaces.{Placed, places, up_to_phase}
use Rattle.pfs_model.specs.SetupFlags.{flags_at}
use Rattle.pfs_model.specs.declared.changes.Change.{Change}
use Rattle.pfs_runs.specs.Labels.{label_at, work_for, work_of_label}
use Rattle.pfs_runs.specs.PhaseFinals.{word_version}
use Rattle.pfs_runs.specs.Runs.{IsRun, all_blocks}
use Rattle.pfs_script.specs.declared.blocks.Phase.{Phase}
use Rattle.pfs_law_agreed.specs.FirstPhases.{HasRoom, IsConnecting, connects_of}
use Rattle.pfs_law_agreed.proofs.FirstRooms.{IsConnect, IsOpen, room_less, seat_is}
use Rattle.pfs_law_agreed.proofs.FirstRuns.{HasLabel, all, change, count, enough, front, label_of, open_at, state_at}
use Rattle.pfs_law_agreed.proofs.QuietRemovals.{times_then}

-- the flags that a session's thread gets as it connects
abbrev pub flags_for : Setting → Asked → ℕ
flags_for setting (changes.Connect user host) = thread_flags (opened setting) user host
flags_for setting _ = 0

abbrev pub flags_by : Setting → (Label → Asked) → Option Label → ℕ
flags_by setting change None = 0
flags_by setting change (Some label) = flags_for setting (change label)

-- ---- what an action did

abbrev is_flag : ℕ → Did → Bool
is_flag at (Flagged other flags) = other == at
is_flag at _ = false

abbrev IsFlag : ℕ → ℕ → Did → Type 0
IsFlag at flags (Flagged other set) = (other ≡ at) × (set ≡ flags)
IsFlag at flags _ = Unit {0}

-- it set no word but this, to these flags, and did so unless the word had them
record DoesFlag (at flags had : ℕ) (ds : List Did) : Type 0 where
  each : Each (IsFlag at flags) ds
  some : (had == flags) ≡ false → 1 ≤ times (is_flag at) ds

signed_none : (at flags : ℕ) (signs : List Sign) → Each (IsFlag at flags) (signed_by signs)
signed_none at flags [] = tt
signed_none at flags (Frees row ∷ signs) = (tt, signed_none at flags signs)
signed_none at flags (Tags row ∷ signs) = (tt, signed_none at flags signs)

connect_flags : (words : List Word) (at flags : ℕ) (signs : List Sign) → DoesFlag at flags (word_at words at).flags (signed_by signs ++ flagged_by (sets_asked (flagging words at flags)))
connect_flags words at flags signs = by ((word_at words at).flags == flags) refl where
  by : (b : Bool) → ((word_at words at).flags == flags) ≡ b → DoesFlag at flags (word_at words at).flags (signed_by signs ++ flagged_by (sets_asked (if b then [] else record { word = at; flags = flags } ∷ [])))
  by true q = record { each = each_join (IsFlag at flags) (signed_by signs) [] (signed_none at flags signs) tt; some = λ f. absurd (let z : true ≡ false = sym q ∙ f in cc) }
  by false q = record {
    each = each_join (IsFlag at flags) (signed_by signs) (Flagged at flags ∷ []) (signed_none at flags signs) ((refl, refl), tt);
    some = λ f. (let s : times (is_flag at) (signed_by signs ++ Flagged at flags ∷ []) ≡ times (is_flag at) (signed_by signs) + times (is_flag at) (Flagged at flags ∷ []) = times_then (is_flag at) (signed_by signs) (Flagged at flags ∷ []) in
        let o : times (is_flag at) (Flagged at flags ∷ []) ≡ 1 = ap (λ b. cond {A = ℕ} b 1 0 + 0) (eq_self at) in
        omega (arith, s, o));
  }

names_flags : (setting : Setting) (s : State) (user host : ℕ) → s.actors ≡ (opened setting).actors → s.names ≡ setting.names → thread_flags s user host ≡ thread_flags (opened setting) user host
names_flags setting s user host a n =
    ap (λ (rows : List ActorRow). flags_of (actor_flags rows (slice_index_or s.names user []) (slice_index_or s.names host []))) a
    ∙ ap (λ (names : List (List ℕ)). flags_of (actor_flags (opened setting).actors (slice_index_or names user []) (slice_index_or names host []))) n

work_flags : (setting : Setting) (k number : ℕ) (what : Asked) (s : State) (counted : ℕ → Bool) → IsOpen setting k s → HasRoom setting (suc k) → IsConnect what
    → DoesFlag (suc k) (flags_for setting what) (word_at (opened setting).words (suc k)).flags (asked_of counted (asked_by (work_for s number what)))
work_flags setting k number (changes.Connect user host) s counted is room c =
    subst (λ (seat : Option Seated). DoesFlag (suc k) (thread_flags (opened setting) user host) (word_at (opened setting).words (suc k)).flags (asked_of counted (asked_by (connect_work s.words (thread_flags s user host) after seat)))) (sym (seat_is setting k number user host s is room))
    (subst (λ n. DoesFlag n (thread_flags (opened setting) user host) (word_at (opened setting).words n).flags (asked_of counted (asked_by (connect_work s.words (thread_flags s user host) after (Some seat))))) (plus k)
    (subst (λ (w : Word). DoesFlag (1 + k) (thread_flags (opened setting) user host) w.flags (asked_of counted (asked_by (connect_work s.words (thread_flags s user host) after (Some seat))))) (is.words (1 + k) (omega arith))
    (subst (λ n. DoesFlag (1 + k) n (word_at s.words (1 + k)).flags (asked_of counted (asked_by (connect_work s.words (thread_flags s user host) after (Some seat))))) (names_flags setting s user host is.actors is.names)
    (connect_flags s.words (1 + k) (thread_flags s user host) (signs_asked (connect_work s.words (thread_flags s user host) after (Some seat)).signs))))) where
      after : Containers
      after = (connected s number user host).kept.now

      seat : Seated
      seat = record { slot = k; connection = session_of s.kept.now.places number user host }

      plus : (k : ℕ) → 1 + k ≡ suc k
      plus k = omega arith
work_flags setting k number changes.Quit s counted is room c = absurd c
work_flags setting k number (changes.Truncate what) s counted is room c = absurd c
work_flags setting k number (changes.Setup what) s counted is room c = absurd c

-- ---- entries and what they did

dids_in : (ps : List Placed) → Each (λ (p : Placed). (d : Did) → did p.entry ≡ d ∷ [] → IsAmong d (each_of did (of_action p.context.action ps))) ps
dids_in [] = tt
dids_in (p ∷ ps) = (
  first,
  each_map (λ (q : Placed). (d : Did) → did q.entry ≡ d ∷ [] → IsAmong d (each_of did (of_action q.context.action ps))) (λ (q : Placed). (d : Did) → did q.entry ≡ d ∷ [] → IsAmong d (each_of did (of_action q.context.action (p ∷ ps)))) ps
      (λ q h d e. more d (p.context.action == q.context.action) q.context.action (h d e)) (dids_in ps),
) where
  behind : (d : Did) (xs ys : List Did) → IsAmong d ys → IsAmong d (xs ++ ys)
  behind d [] ys m = m
  behind d (x ∷ xs) ys m = inr (behind d xs ys m)

  more : (d : Did) (b : Bool) (n : ℕ) → IsAmong d (each_of did (of_action n ps)) → IsAmong d (each_of did (cond b (p ∷ []) [] ++ of_action n ps))
  more d true n m = behind d (did p.entry) (each_of did (of_action n ps)) m
  more d false n m = m

  first : (d : Did) → did p.entry ≡ d ∷ [] → IsAmong d (each_of did (of_action p.context.action (p ∷ ps)))
  first d e = subst (λ b. IsAmong d (each_of did (cond b (p ∷ []) [] ++ of_action p.context.action ps))) (sym (eq_self p.context.action)) (subst (λ (ds : List Did). IsAmong d (ds ++ each_of did (of_action p.context.action ps))) (sym e) (inl refl))

did_among : (P : Did → Type 0) (d : Did) (ds : List Did) → IsAmong d ds → Each P ds → P d
did_among P d [] m h = absurd m
did_among P d (x ∷ ds) (inl e) h = subst P e h.0
did_among P d (x ∷ ds) (inr m) h = did_among P d ds m h.1

-- flags that an action set are sets of the word
flags_words : (at n : ℕ) (ps : List Placed) → times (is_flag at) (each_of did (of_action n ps)) ≤ times (is_of at) (each_of word_change ps)
flags_words at n [] = omega arith
flags_words at n (p ∷ ps) = by (p.context.action == n) (flags_words at n ps) where
  own : (e : Entry) → times (is_flag at) (did e) ≡ times (is_of at) (word_change e)
  own (says.Set w v f) = refl
  own (says.Take row version) = refl
  own (says.Give row version from) = refl
  own (says.Free row version) = refl
  own (says.Tag row version) = refl
  own _ = refl

  by : (b : Bool) → times (is_flag at) (each_of did (of_action n ps)) ≤ times (is_of at) (each_of word_change ps) → times (is_flag at) (each_of did (cond b (p ∷ []) [] ++ of_action n ps)) ≤ times (is_of at) (word_change p.entry ++ each_of word_change ps)
  by true h =
      let l : times (is_flag at) (did p.entry ++ each_of did (of_action n ps)) ≡ times (is_flag at) (did p.entry) + times (is_flag at) (each_of did (of_action n ps)) = times_then (is_flag at) (did p.entry) (each_of did (of_action n ps)) in
      let r : times (is_of at) (word_change p.entry ++ each_of word_change ps) ≡ times (is_of at) (word_change p.entry) + times (is_of at) (each_of word_change ps) = times_then (is_of at) (word_change p.entry) (each_of word_change ps) in
      omega (arith, l, r, h, own p.entry)
  by false h =
      let r : times (is_of at) (word_change p.entry ++ each_of word_change ps) ≡ times (is_of at) (word_change p.entry) + times (is_of at) (each_of word_change ps) = times_then (is_of at) (word_change p.entry) (each_of word_change ps) in
      omega (arith, r, h)

-- ---- sets and their versions

-- a set of a word is among those up to its phase
sets_in : (ps : List Placed) → Each (λ (p : Placed). (c : Change) → word_change p.entry ≡ c ∷ [] → 1 ≤ times (is_that c) (each_of word_change (up_to_phase p.phase ps))) ps
sets_in [] = tt
sets_in (p ∷ ps) = (
  first,
  each_map (λ (q : Placed). (c : Change) → word_change q.entry ≡ c ∷ [] → 1 ≤ times (is_that c) (each_of word_change (up_to_phase q.phase ps))) (λ (q : Placed). (c : Change) → word_change q.entry ≡ c ∷ [] → 1 ≤ times (is_that c) (each_of word_change (up_to_phase q.phase (p ∷ ps)))) ps
      (λ q h c e. more c q.phase (nat_le p.phase q.phase) (h c e)) (sets_in ps),
) where
  more : (c : Change) (n : ℕ) (b : Bool) → 1 ≤ times (is_that c) (each_of word_change (up_to_phase n ps)) → 1 ≤ times (is_that c) (each_of word_change (cond b (p ∷ []) [] ++ up_to_phase n ps))
  more c n true l = let s : times (is_that c) (word_change p.entry ++ each_of word_change (up_to_phase n ps)) ≡ times (is_that c) (word_change p.entry) + times (is_that c) (each_of word_change (up_to_phase n ps)) = times_then (is_that c) (word_change p.entry) (each_of word_change (up_to_phase n ps)) in omega (arith, s, l)
  more c n false l = l

  self : (n : ℕ) → nat_le n n ≡ true
  self n = grind arith

  first : (c : Change) → word_change p.entry ≡ c ∷ [] → 1 ≤ times (is_that c) (each_of word_change (up_to_phase p.phase (p ∷ ps)))
  first c e = subst (λ b. 1 ≤ times (is_that c) (each_of word_change (cond b (p ∷ []) [] ++ up_to_phase p.phase ps))) (sym (self p.phase))
      (subst (λ (cs : List Change). 1 ≤ times (is_that c) (cs ++ each_of word_change (up_to_phase p.phase ps))) (sym e) (rw (that_self c.row c.version) (omega arith)))

settings_then : (xs ys : List Placed) → settings_of (xs ++ ys) ≡ settings_of xs ++ settings_of ys
settings_then [] ys = refl
settings_then (x ∷ xs) ys = ap (λ z. setting_at x.context.action x.entry ++ z) (settings_then xs ys) ∙ sym (append_assoc (setting_at x.context.action x.entry) (settings_of xs) (settings_of ys))

-- where each set of the word has these flags, each version that was set has them
abbrev HasFlags : ℕ → ℕ → Placed → Type 0
HasFlags at flags p = (v f : ℕ) → p.entry ≡ says.Set at v f → f ≡ flags

flags_found : (opening : ℕ → ℕ) (at version flags : ℕ) (ps : List Placed) (rest : List Set) → Each (HasFlags at flags) ps → 1 ≤ times (is_that (change_at at version)) (each_of word_change ps) → flags_at opening (settings_of ps ++ rest) at version ≡ flags
flags_found opening at version flags [] rest h l = absurd (omega (arith, l))
flags_found opening at version flags (p ∷ ps) rest h l = by p.entry refl l (λ m. flags_found opening at version flags ps rest h.1 m) where
  by : (e : Entry) → p.entry ≡ e → 1 ≤ times (is_that (change_at at version)) (word_change e ++ each_of word_change ps) → (1 ≤ times (is_that (change_at at version)) (each_of word_change ps) → flags_at opening (settings_of ps ++ rest) at version ≡ flags)
      → flags_at opening ((setting_at p.context.action e ++ settings_of ps) ++ rest) at version ≡ flags
  by (says.Set w v f) q l go = on (w == at) refl (v == version) refl l where
    less : (b : Bool) → b ≡ false → 1 ≤ cond {A = ℕ} b 1 0 + times (is_that (change_at at version)) (each_of word_change ps) → 1 ≤ times (is_that (change_at at version)) (each_of word_change ps)
    less false q l = omega (arith, l)
    less true q l = absurd (cc)

    on : (x : Bool) → (w == at) ≡ x → (y : Bool) → (v == version) ≡ y → 1 ≤ cond {A = ℕ} ((w == at) && (v == version)) 1 0 + times (is_that (change_at at version)) (each_of word_change ps)
        → cond ((w == at) && (v == version)) f (flags_at opening (settings_of ps ++ rest) at version) ≡ flags
    on true x true y l = ap (λ b. cond b f (flags_at opening (settings_of ps ++ rest) at version)) (ap (λ b. b && (v == version)) x ∙ y) ∙ h.0 v f (q ∙ ap (λ n. says.Set n v f) (eqb-true w at x))
    on true x false y l = ap (λ b. cond b f (flags_at opening (settings_of ps ++ rest) at version)) (ap (λ b. b && (v == version)) x ∙ y) ∙ go (less ((w == at) && (v == version)) (ap (λ b. b && (v == version)) x ∙ y) l)
    on false x y e l = ap (λ b. cond b f (flags_at opening (settings_of ps ++ rest) at version)) (ap (λ b. b && (v == version)) x) ∙ go (less ((w == at) && (v == version)) (ap (λ b. b && (v == version)) x) l)
  by _ q l go = go l

-- no version 0 is set
flags_opening : (opening : ℕ → ℕ) (at : ℕ) (ps : List Placed) → Each (λ (p : Placed). (c : Change) → word_change p.entry ≡ c ∷ [] → 1 ≤ c.version) ps → flags_at opening (settings_of ps) at 0 ≡ opening at
flags_opening opening at [] h = refl
flags_opening opening at (p ∷ ps) h = by p.entry h.0 (flags_opening opening at ps h.1) where
  by : (e : Entry) → ((c : Change) → word_change e ≡ c ∷ [] → 1 ≤ c.version) → flags_at opening (settings_of ps) at 0 ≡ opening at → flags_at opening (setting_at p.context.action e ++ settings_of ps) at 0 ≡ opening at
  by (says.Set w v f) g r = ap (λ b. cond b f (flags_at opening (settings_of ps) at 0)) (never (w == at) (v == 0) (over v (g (change_at w v) refl))) ∙ r where
    over : (v : ℕ) → 1 ≤ v → (v == 0) ≡ false
    over v l = grind (arith, l)

    never : (a b : Bool) → b ≡ false → (a && b) ≡ false
    never true b q = q
    never false b q = refl
  by _ g r = r

map_flags : (xs : List ℕ) (at : ℕ) → (word_at (map (word 0) xs) at).flags ≡ slice_index_or xs at 0
map_flags [] at = refl
map_flags (x ∷ xs) zero = refl
map_flags (x ∷ xs) (suc at) = map_flags xs at

module _ (setting : Setting) (phase : Phase) (phases : List Phase) (report : ReportParts) (run : IsRun setting (phase ∷ phases) report) (kept : AreKept (run_of setting (phase ∷ phases) report run))
    (orderly : IsOrderly (run_of setting (phase ∷ phases) report run)) (connecting : IsConnecting phase) (room : HasRoom setting (connects_of phase.blocks)) where
  abbrev pub these : List Placed
  these = front setting phase phases report run kept orderly connecting room

  abbrev pub whole : List Placed
  whole = all setting phase phases report run kept orderly connecting room

  abbrev pub most : ℕ
  most = count setting phase phases report run kept orderly connecting room

  abbrev pub changes_to : Label → Asked
  changes_to = change setting phase phases report run kept orderly connecting room

  abbrev pub given_to : ℕ → ℕ
  given_to n = flags_by setting changes_to (label_at run.labels n)

  abbrev opening : ℕ → ℕ
  opening at = slice_index_or (opening_flags setting opening_objects) at 0

  does : (n : ℕ) → 1 ≤ n → n ≤ most → DoesFlag n (given_to n) (opening n) (each_of did (of_action n these))
  does zero l h = absurd (omega (arith, l))
  does (suc k) l h = by (label_of setting phase phases report run kept orderly connecting room (suc k) l h) where
    less : (k : ℕ) → k ≡ suc k - 1
    less k = omega arith

    state : ℕ → State
    state = state_at setting phase phases report run kept orderly connecting room

    by : HasLabel changes_to run.labels (suc k) → DoesFlag (suc k) (given_to (suc k)) (opening (suc k)) (each_of did (of_action (suc k) these))
    by x =
        subst (DoesFlag (suc k) (given_to (suc k)) (opening (suc k)))
        (sym (early_did 1 whole run.rules.joint.ordered.numbers (suc k) l h (all_said (all_blocks run.blocks) run.rules.shaped) ∙ run.rules.done (suc k) (omega arith)))
        (subst (λ (o : Option Label). DoesFlag (suc k) (flags_by setting changes_to o) (opening (suc k)) (asked_of (run.counted (suc k)) (asked_by (work_of_label changes_to (state_of setting changes_to (take (suc k - 1) run.labels)) o)))) (sym x.at)
        (subst (λ j. DoesFlag (suc k) (flags_for setting (changes_to x.label)) (opening (suc k)) (asked_of (run.counted (suc k)) (asked_by (work_for (state_of setting changes_to (take j run.labels)) x.label.session (changes_to x.label))))) (less k)
        (subst (λ n. DoesFlag (suc k) (flags_for setting (changes_to x.label)) n (asked_of (run.counted (suc k)) (asked_by (work_for (state_of setting changes_to (take k run.labels)) x.label.session (changes_to x.label))))) (map_flags (opening_flags setting opening_objects) (suc k))
        (work_flags setting k x.label.session (changes_to x.label) (state_of setting changes_to (take k run.labels)) (run.counted (suc k))
        (open_at setting phase phases report run kept orderly connecting room k (omega (arith, h))) (room_less setting (suc k) most h (enough setting phase phases report run kept orderly connecting room)) x.connects))))

  -- each set of the phase is of the word of its action's slot
  abbrev IsOwnSet : Placed → Type 0
  IsOwnSet p = (w v f : ℕ) → p.entry ≡ says.Set w v f → (1 ≤ w) × (w ≤ most) × (f ≡ given_to w)

  own_sets : Each IsOwnSet these
  own_sets = each_map (λ (p : Placed). (d : Did) → did p.entry ≡ d ∷ [] → IsAmong d (each_of did (of_action p.context.action these))) IsOwnSet these
      (λ p h w v f e. by p.context.action w f (nat_lt 0 p.context.action && nat_le p.context.action most) refl (h (Flagged w f) (ap did e))) (dids_in these) where
        parts : (a m : ℕ) → (nat_lt 0 a && nat_le a m) ≡ true → (1 ≤ a) × (a ≤ m)
        parts a m q = (grind (arith, q), grind (arith, q))

        out : (a m : ℕ) → (nat_lt 0 a && nat_le a m) ≡ false → 1 ≤ a → a ≤ m → ⊥
        out a m q l h = grind (arith, q, l, h)

        by : (n w f : ℕ) (b : Bool) → (nat_lt 0 n && nat_le n most) ≡ b → IsAmong (Flagged w f) (each_of did (of_action n these)) → (1 ≤ w) × (w ≤ most) × (f ≡ given_to w)
        by n w f true q m =
            let r : (1 ≤ n) × (n ≤ most) = parts n most q in
            let g : (w ≡ n) × (f ≡ given_to n) = did_among (IsFlag n (given_to n)) (Flagged w f) (each_of did (of_action n these)) m (does n r.0 r.1).each in
            (subst (λ z. 1 ≤ z) (sym g.0) r.0, subst (λ z. z ≤ most) (sym g.0) r.1, g.1 ∙ ap given_to (sym g.0))
        by n w f false q m = absurd (subst (IsAmong (Flagged w f)) (no_did 1 whole run.rules.joint.ordered.numbers n (out n most q) (all_said (all_blocks run.blocks) run.rules.shaped)) m)

  unset : (at : ℕ) → ((1 ≤ at) → (at ≤ most) → ⊥) → (ps : List Placed) → Each IsOwnSet ps → times (is_of at) (each_of word_change ps) ≡ 0
  unset at out [] h = refl
  unset at out (p ∷ ps) h = by p.entry refl (unset at out ps h.1) where
    by : (e : Entry) → p.entry ≡ e → times (is_of at) (each_of word_change ps) ≡ 0 → times (is_of at) (word_change e ++ each_of word_change ps) ≡ 0
    by (says.Set w v f) q r = on (w == at) refl where
      on : (b : Bool) → (w == at) ≡ b → cond {A = ℕ} b 1 0 + times (is_of at) (each_of word_change ps) ≡ 0
      on true e = let s : w ≡ at = eqb-true w at e in let o : (1 ≤ w) × (w ≤ most) × (f ≡ given_to w) = h.0 w v f q in absurd (out (subst (λ z. 1 ≤ z) s o.0) (subst (λ z. z ≤ most) s o.1))
      on false e = omega (arith, r)
    by _ q r = r

  versions : Each (λ (p : Placed). (c : Change) → word_change p.entry ≡ c ∷ [] → 1 ≤ c.version) whole
  versions = each_map (λ (p : Placed). (c : Change) → word_change p.entry ≡ c ∷ [] → 1 ≤ times (is_that c) (each_of word_change (up_to_phase p.phase whole))) (λ (p : Placed). (c : Change) → word_change p.entry ≡ c ∷ [] → 1 ≤ c.version) whole
      (λ p h c e. (chain_range (each_of word_change (up_to_phase p.phase whole)) (run.rules.joint.words p.phase) c (h c e)).0) (sets_in whole)

  abbrev pub flags : ℕ → ℕ → ℕ
  flags = (run_of setting (phase ∷ phases) report run).flags

  -- a word that is no thread's of the phase
  pub unset_flags : (at : ℕ) → ((1 ≤ at) → (at ≤ most) → ⊥) → flags at (word_version these at) ≡ slice_index_or (opening_flags setting opening_objects) at 0
  unset_flags at out = ap (flags at) (unset at out these own_sets) ∙ flags_opening opening at whole versions

  pub split : (rest : List Placed) × (whole ≡ these ++ rest)
  split = by (fronts 1 (all_blocks run.blocks) run.rules.shaped) where
    by : IsFront 1 [] (all_blocks run.blocks) → (rest : List Placed) × (whole ≡ these ++ rest)
    by f = (f.rest, f.all ∙ ap (λ z. z ++ f.rest) (sym f.same))

  -- and that of the n-th connect
  pub set_flags : (n : ℕ) → 1 ≤ n → n ≤ most → flags n (word_version these n) ≡ given_to n
  set_flags n l h = by (word_version these n) refl where
    none : word_version these n ≡ 0 → (b : Bool) → (opening n == given_to n) ≡ b → opening n ≡ given_to n
    none z true q = eqb-true (opening n) (given_to n) q
    none z false q =
        let s : 1 ≤ times (is_flag n) (each_of did (of_action n these)) = (does n l h).some q in
        let w : times (is_flag n) (each_of did (of_action n these)) ≤ times (is_of n) (each_of word_change these) = flags_words n n these in
        absurd (omega (arith, s, w, z))

    own : Each (HasFlags n (given_to n)) these
    own = each_map IsOwnSet (HasFlags n (given_to n)) these (λ p g v f e. (g n v f e).2) own_sets

    within : (m : ℕ) → 1 ≤ m → (nat_lt 0 m && nat_le m m) ≡ true
    within m l = grind (arith, l)

    stands : (m : ℕ) → word_version these n ≡ m → 1 ≤ m → 1 ≤ times (is_that (change_at n m)) (each_of word_change these)
    stands m e l = on (nat_lt 0 m && nat_le m (times (is_of n) (each_of word_change these))) (subst (λ z. (nat_lt 0 m && nat_le m z) ≡ true) (sym e) (within m l)) (run.rules.joint.words 1 (change_at n m)) where
      on : (b : Bool) → b ≡ true → times (is_that (change_at n m)) (each_of word_change these) ≡ cond b 1 0 → 1 ≤ times (is_that (change_at n m)) (each_of word_change these)
      on true q e = omega (arith, e)
      on false q e = absurd (cc)

    by : (m : ℕ) → word_version these n ≡ m → flags n (word_version these n) ≡ given_to n
    by zero e = ap (flags n) e ∙ (flags_opening opening n whole versions ∙ none e (opening n == given_to n) refl)
    by (suc m) e =
        ap (flags n) e
        ∙ (ap (λ ps. flags_at opening (settings_of ps) n (suc m)) split.1
        ∙ (ap (λ ss. flags_at opening ss n (suc m)) (settings_then these split.0)
        ∙ flags_found opening n (suc m) (given_to n) these (settings_of split.0) own (stands (suc m) e (omega arith))))
