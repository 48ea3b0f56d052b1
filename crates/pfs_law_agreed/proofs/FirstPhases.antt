-- Two runs agree behind a first phase of connects, each of which finds room.
use Rattle.std.proofs.Common.{ℕ, zero, suc, ◌≡◌, ◌+◌, ◌-◌, ◌≤◌, ◌==◌, ◌⊎◌, inl, inr, Bool, true, false, cond, List, [], ◌∷◌, ◌++◌, length, map, filter, Option, Some, None, refl, ap, sym, ◌∙◌, subst, arith}
use Rattle.std.specs.Prelude.{is_some}
use Rattle.pfs_classes.specs.declared.setting.Setting.{Setting}
use Rattle.pfs_conservation.specs.KindSummaries.{Key}
use Rattle.pfs_event.specs.declared.entry.Entry.{Entry}
use Rattle.pfs_event.specs.declared.entry.Entry.TheVariants as says
use Rattle.pfs_finals.specs.declared.counters.LostCounters.{LostCounters}
use Rattle.pfs_journal.specs.declared.report.ReportParts.{ReportParts}
use Rattle.pfs_law_conservation.proofs.EntryWalk.{Comes, Follow, all_followed, then_told, told_to}
use Rattle.pfs_law_conservation.proofs.LastSlots.{lasting}
use Rattle.pfs_law_conservation.proofs.PhaseEntries.{IsFront, fronts}
use Rattle.pfs_law_conservation.proofs.PhaseEntries.{blocks_to as front_blocks}
use Rattle.pfs_law_conservation.proofs.RunEntries.{run_follow, run_label, run_number}
use Rattle.pfs_law_conservation.specs.Premises.{AreFirstBehind, AreKept, IsOrderly}
use Rattle.pfs_law_conservation.specs.RunEvents.{Ended, all_ended}
use Rattle.pfs_law_conservation.specs.RunTerms.{Run, entries_to, given_in}
use Rattle.pfs_law_summaries.proofs.UnplacedDigests.{lacks_place, run_lost}
use Rattle.pfs_law_summaries.specs.Counts.{counted_at, counts_at}
use Rattle.pfs_law_summaries.specs.DigestSummary.{counts_digest, digested_at}
use Rattle.pfs_law_summaries.specs.OrderlyRuns.{KeptLaw, OrderlyLaw, run_of}
use Rattle.pfs_law_summaries.specs.PhaseSummaries.{past_to}
use Rattle.pfs_model.specs.Actions.{numbers_by}
use Rattle.pfs_model.specs.Chains.{Each, action_change, change_at, each_of, times}
use Rattle.pfs_model.specs.Contents.{amount_of}
use Rattle.pfs_model.specs.Contexts.{Context, fresh, noted, subject_of}
use Rattle.pfs_model.specs.EntryAsks.{is_connect}
use Rattle.pfs_model.specs.EntryPlaces.{Block, Placed, by_session, places, told_by}
use Rattle.pfs_model.specs.SetupFlags.{thread_word}
use Rattle.pfs_model.specs.declared.changes.Change.{Change}
use Rattle.pfs_model.specs.declared.lines.Subject.{Subject}
use Rattle.pfs_rows.specs.declared.table.TableKind.{TableKind}
use Rattle.pfs_runs.specs.Labels.{label_at}
use Rattle.pfs_runs.specs.PhaseFinals.{containers_behind, is_digest_lost, is_lost_locker, is_lost_nested, lost_behind, verdict_at}
use Rattle.pfs_runs.specs.Runs.{IsRun, all_blocks}
use Rattle.pfs_runs.specs.ScriptLines.{change_in}
use Rattle.pfs_script.specs.declared.blocks.Phase.{Phase}
use Rattle.pfs_stat.specs.Stat.{merge_all}
use Rattle.pfs_law_agreed.specs.Agreement.{AgreeBehind, AreSameOpen, QuietLaw, IsSameKey, IsSameSession, IsSameThread, blocks_to, flags_behind, told_behind}
use Rattle.pfs_law_agreed.specs.FirstPhases.{FirstPhaseLaw, HasRoom, IsConnecting, SecondPhaseLaw, connects_of}
use Rattle.pfs_law_agreed.proofs.FirstEntries.{IsFirstPlace, IsHome, IsSeat, IsSeatAt, is_first, seated_by}
use Rattle.pfs_law_agreed.proofs.FirstFlags.{flags_by, set_flags, split, unset_flags}
use Rattle.pfs_law_agreed.proofs.FirstRooms.{IsOpen}
use Rattle.pfs_law_agreed.proofs.FirstRuns.{enough, firsts, homes, none_end, open_at, seats}
use Rattle.pfs_law_agreed.proofs.QuietSums.{lost_same}
use Rattle.pfs_law_agreed.proofs.QuietVerdicts.{blocks_same}

-- ---- a session's slot is that of its connect

first_front : (earlier xs ys : List Placed) → AreFirstBehind earlier (xs ++ ys) → AreFirstBehind earlier xs
first_front earlier [] ys a = tt
first_front earlier (x ∷ xs) ys a = (a.0, first_front (x ∷ earlier) xs ys a.1)

keeps_slot : (what : Option Subject) (c : Context) (e : Entry) → is_connect e ≡ false → (noted what c e).slot ≡ c.slot
keeps_slot what c (says.Connect action th ac us ho) q = absurd (cc)
keeps_slot what c _ q = refl

comes_slot : (c d : Context) → Comes c d → d.slot ≡ c.slot
comes_slot c d (inl e) = ap (λ (z : Context). z.slot) e
comes_slot c d (inr e) = ap (λ (z : Context). z.slot) e

some_none : (o : Option ℕ) (k : ℕ) → o ≡ None → o ≡ Some k → ⊥
some_none o k e f = absurd (let z : ◌≡◌ {A = Option ℕ} None (Some k) = sym e ∙ f in cc)

-- a connect of the session, its first action, at this slot
record IsConnected (session k : ℕ) (ps : List Placed) : Type 0 where
  action : ℕ
  more : List Change
  is : numbers_by session ps ≡ change_at 0 action ∷ more
  slot : ◌≡◌ {A = Option ℕ} (Some (action - 1)) (Some k)

module _ (session k : ℕ) where
  connected_in : (c : Context) (earlier ps : List Placed) → Follow session c ps → AreFirstBehind earlier ps → Each IsFirstPlace ps → Each IsSeatAt ps → c.slot ≡ None → (told_to session c ps).slot ≡ Some k → IsConnected session k ps
  connected_in c earlier [] f a h s n e = absurd (some_none c.slot k n e)
  connected_in c earlier (p ∷ ps) f a h s n e = on (p.session == session) refl e (λ g. connected_in c (p ∷ earlier) ps g a.1 h.1 s.1 n) where
    next : Context
    next = noted (subject_of p.line) p.context p.entry

    more_numbers : (b : Bool) → (p.session == session) ≡ b → numbers_by session (p ∷ ps) ≡ cond b (action_change p.entry) [] ++ numbers_by session ps
    more_numbers b q = ap (λ z. cond z (action_change p.entry) [] ++ numbers_by session ps) q

    own : (p.session == session) ≡ true → 1 ≤ length (by_session session (p ∷ earlier))
    own q = let l : length (by_session session (p ∷ earlier)) ≡ length (p ∷ by_session session earlier) = ap (λ z. length (cond z (p ∷ []) [] ++ by_session session earlier)) q in omega (arith, l)

    on : (b : Bool) → (p.session == session) ≡ b → (told_to session (cond (p.session == session) (noted (subject_of p.line) p.context p.entry) c) ps).slot ≡ Some k
        → (Follow session c ps → (told_to session c ps).slot ≡ Some k → IsConnected session k ps) → IsConnected session k (p ∷ ps)
    on false q e go =
        let r : IsConnected session k ps = go (subst (λ b. Follow session (cond b (noted (subject_of p.line) p.context p.entry) c) ps) q f.1) (subst (λ b. (told_to session (cond b (noted (subject_of p.line) p.context p.entry) c) ps).slot ≡ Some k) q e) in
        record { action = r.action; more = r.more; is = more_numbers false q ∙ r.is; slot = r.slot }
    on true q e go =
        by p.entry refl
        ((lasting session next (p ∷ earlier) ps (subst (λ b. Follow session (cond b (noted (subject_of p.line) p.context p.entry) c) ps) q f.1) a.1 (λ slot z. own q)).still (own q))
        (subst (λ b. (told_to session (cond b (noted (subject_of p.line) p.context p.entry) c) ps).slot ≡ Some k) q e) where
          before : p.context.slot ≡ None
          before = comes_slot c p.context (f.0 q) ∙ n

          by : (w : Entry) → p.entry ≡ w → (told_to session next ps).slot ≡ next.slot → (told_to session next ps).slot ≡ Some k → IsConnected session k (p ∷ ps)
          by (says.Connect action th ac us ho) w still e =
              let slot : th ≡ Some k = sym (ap (λ (z : Entry). (noted (subject_of p.line) p.context z).slot) w) ∙ (sym still ∙ e) in
              let seat : th ≡ Some (action - 1) = (subst (λ (z : Entry). IsSeat z) w s.0).0 in
              record { action = action; more = numbers_by session ps; is = more_numbers true q ∙ ap (λ (z : Entry). action_change z ++ numbers_by session ps) w; slot = sym seat ∙ slot }
          by (says.Act action) w still e = absurd (let z : true ≡ false = sym h.0.0 ∙ ap is_first w in cc)
          by other w still e = absurd (some_none (told_to session next ps).slot k (still ∙ (keeps_slot (subject_of p.line) p.context p.entry (ap is_connect w) ∙ before)) e)

-- ---- one run

module _ (setting : Setting) (phase : Phase) (phases : List Phase) (report : ReportParts) (run : IsRun setting (phase ∷ phases) report) (kept : AreKept (run_of setting (phase ∷ phases) report run))
    (orderly : IsOrderly (run_of setting (phase ∷ phases) report run)) (connecting : IsConnecting phase) (room : HasRoom setting (connects_of phase.blocks)) where
  abbrev own : Run
  own = run_of setting (phase ∷ phases) report run

  abbrev these : List Placed
  these = entries_to (run_of setting (phase ∷ phases) report run) 1

  abbrev pub most : ℕ
  most = length (each_of action_change (entries_to (run_of setting (phase ∷ phases) report run) 1))

  comes : (session : ℕ) → Comes (told_to session fresh these) (told_behind own 1 session)
  comes session = by (fronts 1 (all_blocks run.blocks) run.rules.shaped) where
    by : IsFront 1 [] (all_blocks run.blocks) → Comes (told_to session fresh these) (told_behind own 1 session)
    by f =
        subst (λ (bs : List Block). Comes (told_to session fresh these) (told_by session fresh bs)) (blocks_same 1 (all_blocks run.blocks))
        (subst (λ (ps : List Placed). Comes (told_to session fresh ps) (told_by session fresh (front_blocks 1 (all_blocks run.blocks)))) (sym f.same) (all_followed session (front_blocks 1 (all_blocks run.blocks))).ends)

  labelled : (session k : ℕ) → (told_behind own 1 session).slot ≡ Some k → (suc k ≤ most) × (label_at run.labels (suc k) ≡ Some (record { session = session; line = 1 }))
  labelled session k e =
      by (connected_in session k fresh [] these (run_follow own kept orderly 1 session) (first_front [] these rest.0 (subst (AreFirstBehind []) rest.1 orderly.first))
      (firsts setting phase phases report run kept orderly connecting room) (seats setting phase phases report run kept orderly connecting room) refl (sym (comes_slot (told_to session fresh these) (told_behind own 1 session) (comes session)) ∙ e)) where
        rest : (rest : List Placed) × (places (all_blocks run.blocks) ≡ these ++ rest)
        rest = split setting phase phases report run kept orderly connecting room

        less : (n : ℕ) → 1 ≤ n → ◌≡◌ {A = Option ℕ} (Some (n - 1)) (Some k) → n ≡ suc k
        less n l e = let z : n - 1 ≡ k = some (n - 1) k e in omega (arith, l, z) where
          some : (a b : ℕ) → ◌≡◌ {A = Option ℕ} (Some a) (Some b) → a ≡ b
          some a b e = cc

        by : IsConnected session k these → (suc k ≤ most) × (label_at run.labels (suc k) ≡ Some (record { session = session; line = 1 }))
        by c =
            let r : (1 ≤ c.action) × (c.action ≤ most) = run_number own kept orderly 1 session c.action c.more c.is in
            let s : c.action ≡ suc k = less c.action r.0 c.slot in
            (subst (λ n. n ≤ most) s r.1, subst (λ n. label_at run.labels n ≡ Some (record { session = session; line = 1 })) s (run_label own kept orderly 1 session c.action c.more c.is))

  -- the flags of a session's thread are those that the setup gives it
  pub thread_flags_are : (session k : ℕ) → (told_behind (run_of setting (phase ∷ phases) report run) 1 session).slot ≡ Some k
      → flags_behind (run_of setting (phase ∷ phases) report run) 1 (thread_word k) ≡ flags_by setting (change_in (phase ∷ phases)) (Some (record { session = session; line = 1 }))
  thread_flags_are session k e =
      let l : (suc k ≤ most) × (label_at run.labels (suc k) ≡ Some (record { session = session; line = 1 })) = labelled session k e in
      ap (flags_behind own 1) (plus k)
      ∙ (set_flags setting phase phases report run kept orderly connecting room (suc k) (omega arith) l.0 ∙ ap (flags_by setting (change_in (phase ∷ phases))) l.1) where
        plus : (k : ℕ) → thread_word k ≡ suc k
        plus k = omega arith

  pub few : most ≤ 32
  few = let l : most ≤ setting.limits.thread_instances = (enough setting phase phases report run kept orderly connecting room).0 in let m : setting.limits.thread_instances ≤ 32 = setting.in_range.thread_instances in omega (arith, l, m)

  -- nothing has ended, and nothing was lost
  pub none : (all_ended (entries_to (run_of setting (phase ∷ phases) report run) 1) ≡ []) × (each_of verdict_at (entries_to (run_of setting (phase ∷ phases) report run) 1) ≡ [])
  none = none_end these (firsts setting phase phases report run kept orderly connecting room)

  abbrev nothing : LostCounters
  nothing = record { threads = 0; accounts = 0; users = 0; hosts = 0; digests = 0; statements = 0; waits = 0 }

  pub none_lost : lost_behind (containers_behind setting (change_in (phase ∷ phases)) run.labels (entries_to (run_of setting (phase ∷ phases) report run) 1)) (entries_to (run_of setting (phase ∷ phases) report run) 1)
      ≡ record { threads = 0; accounts = 0; users = 0; hosts = 0; digests = 0; statements = 0; waits = 0 }
  none_lost =
      let o = open_at setting phase phases report run kept orderly connecting room most (omega arith) in
      lost_same (lost_behind (containers_behind setting (change_in (phase ∷ phases)) run.labels these) these) nothing o.lost_threads o.lost_accounts o.lost_users o.lost_hosts
      (run_lost own 1 kept orderly ∙ ap (times (lacks_place own.flags)) none.0) (ap (times is_lost_nested) none.1) (ap (times is_lost_locker) none.1)

-- ---- both

same_some : (a b : Run) (slot place : Option ℕ) → is_some slot ≡ is_some place → ((k j : ℕ) → slot ≡ Some k → place ≡ Some j → flags_behind a 1 (thread_word k) ≡ flags_behind b 1 (thread_word j)) → IsSameThread a b 1 slot place
same_some a b (Some k) (Some j) e h = h k j refl refl
same_some a b None None e h = e
same_some a b (Some k) None e h = e
same_some a b None (Some j) e h = e

pub first_law : KeptLaw → OrderlyLaw → FirstPhaseLaw
first_law kept_law orderly_law text setting phase phases report other script connecting room run second = record { words = words; sessions = sessions; shown = record { summaries = summaries; digests = digests; lost = lost } } where
  a : Run
  a = run_of setting (phase ∷ phases) report run

  b : Run
  b = run_of setting (phase ∷ phases) other second

  ka : AreKept a
  ka = kept_law setting (phase ∷ phases) report run

  oa : IsOrderly a
  oa = orderly_law text setting (phase ∷ phases) report script run

  kb : AreKept b
  kb = kept_law setting (phase ∷ phases) other second

  ob : IsOrderly b
  ob = orderly_law text setting (phase ∷ phases) other script second

  out : (at most : ℕ) → (at ≡ 0) ⊎ (33 ≤ at) → most ≤ 32 → 1 ≤ at → at ≤ most → ⊥
  out at most (inl e) l m n = absurd (omega (arith, e, m))
  out at most (inr h) l m n = absurd (omega (arith, h, l, n))

  words : (at : ℕ) → (at ≡ 0) ⊎ (33 ≤ at) → flags_behind a 1 at ≡ flags_behind b 1 at
  words at h =
      unset_flags setting phase phases report run ka oa connecting room at (out at (most setting phase phases report run ka oa connecting room) h (few setting phase phases report run ka oa connecting room))
      ∙ sym (unset_flags setting phase phases other second kb ob connecting room at (out at (most setting phase phases other second kb ob connecting room) h (few setting phase phases other second kb ob connecting room)))

  sessions : (session : ℕ) → IsSameSession a b 1 (told_behind a 1 session) (told_behind b 1 session)
  sessions session =
      let x : IsHome (seated_by session phase.blocks false) (told_behind a 1 session) = homes setting phase phases report run ka oa connecting room session in
      let y : IsHome (seated_by session phase.blocks false) (told_behind b 1 session) = homes setting phase phases other second kb ob connecting room session in
      record {
        thread = same_some a b (told_behind a 1 session).slot (told_behind b 1 session).slot (x.slot ∙ sym y.slot)
            (λ k j e f. thread_flags_are setting phase phases report run ka oa connecting room session k e ∙ sym (thread_flags_are setting phase phases other second kb ob connecting room session j f));
        account = x.account ∙ sym y.account;
        user = x.user ∙ sym y.user;
        host = x.host ∙ sym y.host;
        opened = subst (λ xs. AreSameOpen a b (told_behind a 1 session).slot (told_behind b 1 session).slot xs (told_behind b 1 session).opened) (sym x.opened) (subst (AreSameOpen a b (told_behind a 1 session).slot (told_behind b 1 session).slot []) (sym y.opened) tt);
      }

  none_a : all_ended (entries_to a 1) ≡ []
  none_a = (none setting phase phases report run ka oa connecting room).0

  none_b : all_ended (entries_to b 1) ≡ []
  none_b = (none setting phase phases other second kb ob connecting room).0

  summaries : (kind : TableKind) (key place : Key) (cell : ℕ) → IsSameKey key place → counted_at (past_to a 1) kind key cell ≡ counted_at (past_to b 1) kind place cell
  summaries kind key place cell k =
      ap (λ (es : List Ended). merge_all (map (λ (one : Ended). amount_of (given_in a) one.session one.event) (filter (counts_at (past_to a 1) kind key cell) es))) none_a
      ∙ sym (ap (λ (es : List Ended). merge_all (map (λ (one : Ended). amount_of (given_in b) one.session one.event) (filter (counts_at (past_to b 1) kind place cell) es))) none_b)

  digests : (digest : Option ℕ) → digested_at (past_to a 1) digest ≡ digested_at (past_to b 1) digest
  digests digest =
      ap (λ (es : List Ended). merge_all (map (λ (one : Ended). amount_of (given_in a) one.session one.event) (filter (counts_digest (past_to a 1) digest) es))) none_a
      ∙ sym (ap (λ (es : List Ended). merge_all (map (λ (one : Ended). amount_of (given_in b) one.session one.event) (filter (counts_digest (past_to b 1) digest) es))) none_b)

  lost : lost_behind (containers_behind a.setting a.change a.labels (entries_to a 1)) (entries_to a 1) ≡ lost_behind (containers_behind b.setting b.change b.labels (entries_to b 1)) (entries_to b 1)
  lost = none_lost setting phase phases report run ka oa connecting room ∙ sym (none_lost setting phase phases other second kb ob connecting room)

pub second_law : FirstPhaseLaw → QuietLaw → SecondPhaseLaw
second_law first quiet text setting phase phases report other script connecting room still run second =
    quiet text setting (phase ∷ phases) report other script run second 1 still (first text setting phase phases report other script connecting room run second)
