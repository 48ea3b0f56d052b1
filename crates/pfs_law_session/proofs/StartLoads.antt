-- A start, by what it loaded.
use Rattle.std.proofs.Common.{ℕ, ◌≡◌, ◌&&◌, ◌||◌, Bool, true, false, List, [], ◌∷◌, ◌++◌, Option, Some, None, is_some, is_none, inl, inr, eq-eqb, ne_eqb, refl, ap, sym, ◌∙◌, subst, ◌+◌, arith}
use Rattle.std.specs.Option.{option_map}
use Rattle.std.specs.Prelude.{Ok, ◌⊎◌, ◌==◌, if◌then◌else◌}
use Rattle.std.proofs.lemmas.Bool.{true≢false, false≢true, eqb-true}
use Rattle.pfs_event.specs.Verdicts.{is_let_through}
use Rattle.pfs_event.specs.declared.entry.Entry.TheVariants as says
use Rattle.pfs_event.specs.declared.open.Open.{Open}
use Rattle.pfs_event.specs.declared.verdict.Verdict.{Verdict}
use Rattle.pfs_event.specs.declared.verdict.Verdict.TheVariants.{LostThread, LostClass, OffGlobal, OffClass, OffTable, OffThread, LostNested, LostLocker, Aside, Attributed}
use Rattle.pfs_levels.specs.Calls.{Loads}
use Rattle.pfs_levels.specs.declared.answers.Word.{Word}
use Rattle.pfs_consumers.specs.Tree.{acts_of}
use Rattle.pfs_consumers.specs.declared.Consumer.TheVariants.{StatementsDigest}
use Rattle.pfs_model.specs.EntryAsks.{is_start, verdict_fits, are_loaded, digest_row}
use Rattle.pfs_model.specs.Contents.{plus_one}
use Rattle.pfs_model.specs.Cuts.{cut}
use Rattle.pfs_model.specs.SetupFlags.{SeenSetup, verdict_by, verdict_of, seen_by, flags_seen, class_word, table_word, thread_word, is_timed, is_digested, has_time, is_statement, is_wait, open_through}
use Rattle.pfs_model.specs.Shapes.{maybe, starting}
use Rattle.pfs_model.specs.declared.lines.Opened.{Opened}
use Rattle.pfs_model.specs.declared.lines.Subject.{Subject}
use Rattle.pfs_model.specs.declared.shapes.Ask.TheVariants as asks
use Rattle.pfs_event.specs.declared.kind.EventKind.{EventKind}
use Rattle.pfs_event.specs.declared.kind.EventKind.TheVariants as kinds
use Rattle.pfs_model.specs.Contents.{is_read_only, or_zero}
use Rattle.pfs_model.specs.Contents.{link_of as link_by}
use Rattle.pfs_model.specs.SetupFlags.{current_consumer, is_attributed, is_offered_current}
use Rattle.pfs_rings.specs.declared.puts.Put.{Put}
use Rattle.pfs_rings.specs.declared.puts.Put.TheVariants.{Done, Busy, Late}
use Rattle.pfs_session.specs.Ends.{cell_in}
use Rattle.pfs_session.specs.EventPuts.{is_placed_by, put_entries}
use Rattle.pfs_session.specs.Starts.{IsLoaded, IsOpened, IsClass, load_calls, setup_calls, table_calls, start_entry, verdict_seen, is_timed_by, is_digested_by, link_of, flags_in, flags_of, if_through, versions_in, version_of}
use Rattle.pfs_session.specs.declared.setup.Setup.{Setup}
use Rattle.pfs_law_session.proofs.ShapeCuts.{cut_one, cut_maybe, cut_maybe_end, cut_nothing}
use Rattle.pfs_law_session.proofs.RingPuts.{IsShort}
use Rattle.pfs_law_session.specs.Agreement.{LoadsAgree, IsCounted}
use Rattle.pfs_law_session.specs.Deeds.{IsSubject}

-- the versions that a start names
abbrev pub consumers_in : Option Setup → Option ℕ
consumers_in None = None
consumers_in (Some seen) = Some seen.consumers.version

abbrev pub thread_in : Option Setup → Option ℕ
thread_in None = None
thread_in (Some seen) = Some seen.thread.version

abbrev pub class_in : Option Setup → Option ℕ
class_in None = None
class_in (Some seen) = Some seen.class.version

abbrev pub table_in : Option Setup → Option ℕ
table_in None = None
table_in (Some seen) = versions_in seen

pub start_as : (verdict : Verdict) (number : ℕ) (seen : Option Setup)
    → start_entry verdict number seen ≡ says.Start (if_through verdict number) verdict (consumers_in seen) (thread_in seen) (class_in seen) (table_in seen)
start_as verdict number None = refl
start_as verdict number (Some seen) = refl

any_fits : (verdict : Verdict) → verdict_fits true false verdict ≡ true
any_fits LostThread = refl
any_fits LostClass = refl
any_fits OffGlobal = refl
any_fits OffClass = refl
any_fits OffTable = refl
any_fits OffThread = refl
any_fits LostNested = refl
any_fits LostLocker = refl
any_fits Aside = refl
any_fits Attributed = refl

tables_loaded : (table : Option ℕ) (word : Option Word) (a b c : ℕ) → is_some word ≡ is_some table
    → are_loaded true (is_some table) (Some a) (Some b) (Some c) (option_map version_of word) ≡ true
tables_loaded None None a b c e = refl
tables_loaded None (Some w) a b c e = absurd (true≢false e)
tables_loaded (Some t) None a b c e = absurd (false≢true e)
tables_loaded (Some t) (Some w) a b c e = refl

-- the versions fit the slot, the class and the table
pub start_fits : (slot class table : Option ℕ) (seen : Option Setup) (stack statements waits : ℕ) (subject : Subject) (verdict : Verdict) (number : ℕ)
    → IsLoaded slot class table seen → verdict ≡ verdict_seen stack slot subject seen statements waits
    → is_start (is_some slot) (is_none class) (is_some table) (start_entry verdict number seen) ≡ true
start_fits None class table None stack statements waits subject verdict number l v =
    ap (λ z. is_start false (is_none class) (is_some table) (start_entry z number None)) v
start_fits None class table (Some seen) stack statements waits subject verdict number l v = absurd (true≢false l.there)
start_fits (Some slot) None table None stack statements waits subject verdict number l v =
    ap (λ z. is_start true true (is_some table) (start_entry z number None)) v
start_fits (Some slot) None table (Some seen) stack statements waits subject verdict number l v = absurd (true≢false l.there)
start_fits (Some slot) (Some class) table None stack statements waits subject verdict number l v = absurd (false≢true l.there)
start_fits (Some slot) (Some class) table (Some seen) stack statements waits subject verdict number l v =
    ap (λ z. z && are_loaded true (is_some table) (Some seen.consumers.version) (Some seen.thread.version) (Some seen.class.version) (versions_in seen)) (any_fits verdict)
    ∙ tables_loaded table seen.table seen.consumers.version seen.thread.version seen.class.version l.table_is

pub start_shaped : (slot : Option ℕ) (subject : Subject) (seen : Option Setup) (stack statements waits : ℕ) (verdict : Verdict) (number : ℕ)
    → IsLoaded slot subject.class subject.table seen → verdict ≡ verdict_seen stack slot subject seen statements waits
    → (put : Option Put) → IsShort put → cut (starting slot subject) (start_entry verdict number seen ∷ put_entries put) ≡ Ok []
start_shaped slot subject seen stack statements waits verdict number l v put short =
    cut_one (asks.Start (is_some slot) (is_none subject.class) (is_some subject.table)) _ (start_entry verdict number seen) (put_entries put)
    (start_fits slot subject.class subject.table seen stack statements waits subject verdict number l v)
    ∙ by_put put short where
      by_put : (put : Option Put) → IsShort put → cut (maybe asks.Put ∷ []) (put_entries put) ≡ Ok []
      by_put None s = cut_maybe_end asks.Put [] ∙ cut_nothing []
      by_put (Some (Done row version None)) s = cut_maybe asks.Put [] (says.Ring row version) [] refl ∙ cut_nothing []
      by_put (Some (Done row version (Some ticket))) s = absurd s
      by_put (Some (Busy row first second)) s = cut_maybe asks.Put [] (says.Busy row first second) [] refl ∙ cut_nothing []
      by_put (Some (Late row ticket greater)) s = absurd s

-- the flags of the versions that a start names are those that it loaded
abbrev pub class_flags : Option Setup → ℕ
class_flags None = 0
class_flags (Some seen) = seen.class.flags

abbrev pub table_flags : Option Setup → ℕ
table_flags None = 0
table_flags (Some seen) = flags_in seen.table

class_told : (flags : ℕ → ℕ → ℕ) (slot class table : Option ℕ) (seen : Option Setup) → IsLoaded slot class table seen → LoadsAgree flags (load_calls slot class table seen)
    → flags_seen flags class_word class (class_in seen) ≡ class_flags seen
class_told flags None class table None l agree = none class where
  none : (c : Option ℕ) → flags_seen flags class_word c None ≡ 0
  none None = refl
  none (Some c) = refl
class_told flags None class table (Some seen) l agree = absurd (true≢false l.there)
class_told flags (Some slot) None table None l agree = refl
class_told flags (Some slot) None table (Some seen) l agree = absurd (true≢false l.there)
class_told flags (Some slot) (Some class) table None l agree = refl
class_told flags (Some slot) (Some class) None (Some seen) l agree = sym agree.0
class_told flags (Some slot) (Some class) (Some t) (Some seen) l agree = told seen.table l.table_is agree where
  told : (word : Option Word) → is_some word ≡ true
      → LoadsAgree flags (table_calls (Some t) word ++ (Loads (class_word class) seen.class.version seen.class.flags ∷ Loads (thread_word slot) seen.thread.version seen.thread.flags ∷ Loads 0 seen.consumers.version seen.consumers.flags ∷ []))
      → flags (class_word class) seen.class.version ≡ seen.class.flags
  told None e a = absurd (false≢true e)
  told (Some w) e a = sym a.1.0

table_told : (flags : ℕ → ℕ → ℕ) (slot class table : Option ℕ) (seen : Option Setup) → IsLoaded slot class table seen → LoadsAgree flags (load_calls slot class table seen)
    → flags_seen flags table_word table (table_in seen) ≡ table_flags seen
table_told flags None class table None l agree = none table where
  none : (c : Option ℕ) → flags_seen flags table_word c None ≡ 0
  none None = refl
  none (Some c) = refl
table_told flags None class table (Some seen) l agree = absurd (true≢false l.there)
table_told flags (Some slot) None None None l agree = refl
table_told flags (Some slot) None (Some t) None l agree = refl
table_told flags (Some slot) None table (Some seen) l agree = absurd (true≢false l.there)
table_told flags (Some slot) (Some class) None None l agree = refl
table_told flags (Some slot) (Some class) (Some t) None l agree = refl
table_told flags (Some slot) (Some class) None (Some seen) l agree = told seen.table l.table_is where
  told : (word : Option Word) → is_some word ≡ false → flags_seen flags table_word None (option_map version_of word) ≡ flags_in word
  told None e = refl
  told (Some w) e = absurd (true≢false e)
table_told flags (Some slot) (Some class) (Some t) (Some seen) l agree = told seen.table l.table_is agree where
  told : (word : Option Word) → is_some word ≡ true
      → LoadsAgree flags (table_calls (Some t) word ++ (Loads (class_word class) seen.class.version seen.class.flags ∷ Loads (thread_word slot) seen.thread.version seen.thread.flags ∷ Loads 0 seen.consumers.version seen.consumers.flags ∷ []))
      → flags_seen flags table_word (Some t) (option_map version_of word) ≡ flags_in word
  told None e a = absurd (false≢true e)
  told (Some w) e a = sym a.0

-- the consumers' word and the thread's, where anything is loaded
words_told : (flags : ℕ → ℕ → ℕ) (slot class : ℕ) (table : Option ℕ) (seen : Setup) → is_some seen.table ≡ is_some table → LoadsAgree flags (setup_calls slot class table seen)
    → (flags (thread_word slot) seen.thread.version ≡ seen.thread.flags) × (flags 0 seen.consumers.version ≡ seen.consumers.flags)
words_told flags slot class None seen e agree = (sym agree.1.0, sym agree.1.1.0)
words_told flags slot class (Some t) seen e agree = told seen.table e agree where
  told : (word : Option Word) → is_some word ≡ true
      → LoadsAgree flags (table_calls (Some t) word ++ (Loads (class_word class) seen.class.version seen.class.flags ∷ Loads (thread_word slot) seen.thread.version seen.thread.flags ∷ Loads 0 seen.consumers.version seen.consumers.flags ∷ []))
      → (flags (thread_word slot) seen.thread.version ≡ seen.thread.flags) × (flags 0 seen.consumers.version ≡ seen.consumers.flags)
  told None e a = absurd (false≢true e)
  told (Some w) e a = (sym a.1.1.0, sym a.1.1.1.0)

-- what the printed versions give is what the start saw
abbrev pub event_of : Subject → Verdict → ℕ → ℕ → Option Setup → Opened
event_of subject verdict index number seen = record {
  subject = subject;
  verdict = verdict;
  index = index;
  number = if_through verdict number;
  consumers = consumers_in seen;
  thread = thread_in seen;
  class = class_in seen;
  table = table_in seen;
}

timed_as : (a b : ℕ) (c d : ℕ) (n : Bool) → a ≡ c → b ≡ d → (has_time a && (n || has_time b)) ≡ (has_time c && (n || has_time d))
timed_as a b c d n p q = ap (λ z. has_time z && (n || has_time b)) p ∙ ap (λ z. has_time c && (n || has_time z)) q

pub start_timed : (flags : ℕ → ℕ → ℕ) (slot : Option ℕ) (subject : Subject) (verdict : Verdict) (index number : ℕ) (seen : Setup)
    → IsLoaded slot subject.class subject.table (Some seen) → LoadsAgree flags (load_calls slot subject.class subject.table (Some seen))
    → is_timed flags slot (event_of subject verdict index number (Some seen)) ≡ is_timed_by subject (Some seen)
start_timed flags slot subject verdict index number seen l agree =
    timed_as _ _ _ _ (is_none subject.table) (class_told flags slot subject.class subject.table (Some seen) l agree)
    (table_told flags slot subject.class subject.table (Some seen) l agree)

abbrev seen_setup : ℕ → ℕ → ℕ → ℕ → SeenSetup
seen_setup a b c d = record { consumers = a; thread = b; class = c; table = d }

all_four : (a b c d e f g h : ℕ) → a ≡ e → b ≡ f → c ≡ g → d ≡ h
    → seen_setup a b c d ≡ seen_setup e f g h
all_four a b c d e f g h p q r s =
    ap (λ z. seen_setup z b c d) p ∙ (ap (λ z. seen_setup e z c d) q ∙ (ap (λ z. seen_setup e f z d) r ∙ ap (λ z. seen_setup e f g z) s))

-- the printed versions give the flags that were loaded
seen_as : (flags : ℕ → ℕ → ℕ) (slot : ℕ) (subject : Subject) (verdict : Verdict) (index number : ℕ) (seen : Setup) (class : ℕ) → subject.class ≡ Some class
    → IsLoaded (Some slot) subject.class subject.table (Some seen) → LoadsAgree flags (load_calls (Some slot) subject.class subject.table (Some seen))
    → seen_by flags (Some slot) (event_of subject verdict index number (Some seen)) ≡ flags_of seen
seen_as flags slot subject verdict index number seen class e l agree =
    let w = words_told flags slot class subject.table seen l.table_is (subst (λ z. LoadsAgree flags (load_calls (Some slot) z subject.table (Some seen))) e agree) in
    all_four _ _ _ _ _ _ _ _ w.1 w.0 (class_told flags (Some slot) subject.class subject.table (Some seen) l agree)
    (table_told flags (Some slot) subject.class subject.table (Some seen) l agree)

on_none : {A : Type 0} (b : Bool) (x y : A) → b ≡ true → (if b then x else y) ≡ x
on_none b x y e = ap (λ z. if z then x else y) e

on_some : {A : Type 0} (b : Bool) (x y : A) → b ≡ false → (if b then x else y) ≡ y
on_some b x y e = ap (λ z. if z then x else y) e

pub start_judged : (flags : ℕ → ℕ → ℕ) (stack : ℕ) (slot : Option ℕ) (subject : Subject) (verdict : Verdict) (index number : ℕ) (seen : Option Setup) (opened : List Opened)
    (statements waits : ℕ) (class : Option ℕ) → subject.class ≡ class → IsLoaded slot subject.class subject.table seen
    → LoadsAgree flags (load_calls slot subject.class subject.table seen)
    → open_through is_statement opened ≡ statements → open_through is_wait opened ≡ waits → verdict ≡ verdict_seen stack slot subject seen statements waits
    → verdict ≡ verdict_of stack slot subject (seen_by flags slot (event_of subject verdict index number seen)) opened
start_judged flags stack None subject verdict index number seen opened statements waits class e l agree a b v = v
start_judged flags stack (Some slot) subject verdict index number None opened statements waits None e l agree a b v =
    v ∙ sym (on_none (is_none subject.class) LostClass _ (ap is_none e))
start_judged flags stack (Some slot) subject verdict index number (Some seen) opened statements waits None e l agree a b v =
    absurd (true≢false (l.there ∙ ap is_some e))
start_judged flags stack (Some slot) subject verdict index number None opened statements waits (Some class) e l agree a b v =
    absurd (false≢true (l.there ∙ ap is_some e))
start_judged flags stack (Some slot) subject verdict index number (Some seen) opened statements waits (Some class) e l agree a b v =
    v ∙ sym (on_some (is_none subject.class) LostClass _ (ap is_none e)
    ∙ (ap (λ z. verdict_by stack subject z (open_through is_statement opened) (open_through is_wait opened))
    (seen_as flags slot subject verdict index number seen class e l agree)
    ∙ (ap (λ z. verdict_by stack subject (flags_of seen) z (open_through is_wait opened)) a ∙ ap (λ z. verdict_by stack subject (flags_of seen) statements z) b)))

cell_as : (cell class number : ℕ) (kind : EventKind) (only : Bool) → only ≡ (cell == 63) → number ≡ class → (cell ≡ class) ⊎ ((cell ≡ 63) × (kind ≡ kinds.Transaction)) → cell ≡ (if only then 63 else number)
cell_as cell class number kind only o n is = by_test (cell == 63) refl where
  by_test : (b : Bool) → (cell == 63) ≡ b → cell ≡ (if only then 63 else number)
  by_test true t = eqb-true cell 63 t ∙ sym (on_none only 63 number (o ∙ t))
  by_test false t = elim is [ inl x ↦ x ∙ sym n ∙ sym (on_some only 63 number (o ∙ t)) | inr x ↦ absurd (true≢false (sym (eq-eqb cell 63 x.0) ∙ t)) ]

pub start_counted : (flags : ℕ → ℕ → ℕ) (slot : Option ℕ) (subject : Subject) (verdict : Verdict) (index number : ℕ) (seen : Option Setup) (class : Option ℕ)
    (session drawn clock : ℕ) (events : List Open) (timed digested placed : Bool) (what : Open) (stack statements waits : ℕ)
    → subject.class ≡ class → IsSubject subject → IsLoaded slot subject.class subject.table seen → LoadsAgree flags (load_calls slot subject.class subject.table seen)
    → verdict ≡ verdict_seen stack slot subject seen statements waits → timed ≡ is_timed_by subject seen
    → IsOpened session drawn clock events subject verdict timed digested placed what
    → IsCounted flags slot (is_let_through what.verdict) (event_of subject verdict index number seen) what
start_counted flags slot subject verdict index number seen class session drawn clock events timed digested placed what stack statements waits e is l agree v t o =
    subst (λ z. IsCounted flags slot (is_let_through z) (event_of subject verdict index number seen) what) (sym (o.verdict_is ∙ v)) (counted slot seen class e l agree refl t) where
      counted : (slot : Option ℕ) (seen : Option Setup) (class : Option ℕ) → subject.class ≡ class → IsLoaded slot subject.class subject.table seen
          → LoadsAgree flags (load_calls slot subject.class subject.table seen) → slot ≡ slot → timed ≡ is_timed_by subject seen
          → IsCounted flags slot (is_let_through (verdict_seen stack slot subject seen statements waits)) (event_of subject verdict index number seen) what
      counted None seen class e l agree same t = tt
      counted (Some slot) None class e l agree same t = tt
      counted (Some slot) (Some seen) None e l agree same t = absurd (true≢false (l.there ∙ ap is_some e))
      counted (Some slot) (Some seen) (Some class) e l agree same t =
          both_if (is_let_through (verdict_by stack subject (flags_of seen) statements waits))
          (cell_as subject.cell class what.event.class subject.kind what.event.read_only o.read_only (class_is class e) (is.cell class e))
          (start_timed flags (Some slot) subject verdict index number seen l agree ∙ sym t ∙ sym o.timed_is) where
            class_is : (class : ℕ) → subject.class ≡ Some class → what.event.class ≡ class
            class_is class e = subst (λ z. IsClass z what.event.class) e o.class

            both_if : (b : Bool) → subject.cell ≡ cell_in what → is_timed flags (Some slot) (event_of subject verdict index number (Some seen)) ≡ what.event.timed
                → IsCounted flags (Some slot) b (event_of subject verdict index number (Some seen)) what
            both_if true p q = (p, q)
            both_if false p q = tt

third_false : (a b c : Bool) → c ≡ false → (a && b && c) ≡ false
third_false true true c e = e
third_false true false c e = refl
third_false false b c e = refl

-- a statement is digested by what the printed versions give just where it is by what was loaded
pub start_digested : (flags : ℕ → ℕ → ℕ) (slot : Option ℕ) (subject : Subject) (verdict : Verdict) (index number : ℕ) (seen : Option Setup) (class : Option ℕ) → subject.class ≡ class
    → IsLoaded slot subject.class subject.table seen → LoadsAgree flags (load_calls slot subject.class subject.table seen)
    → is_digested flags slot (event_of subject verdict index number seen) ≡ is_digested_by subject verdict seen
start_digested flags slot subject verdict index number None class e l agree =
    third_false (is_statement subject.kind) (is_let_through verdict) (acts_of 0 StatementsDigest) refl
start_digested flags None subject verdict index number (Some seen) class e l agree = absurd (true≢false l.there)
start_digested flags (Some slot) subject verdict index number (Some seen) None e l agree = absurd (true≢false (l.there ∙ ap is_some e))
start_digested flags (Some slot) subject verdict index number (Some seen) (Some class) e l agree =
    let w = words_told flags slot class subject.table seen l.table_is (subst (λ z. LoadsAgree flags (load_calls (Some slot) z subject.table (Some seen))) e agree) in
    ap (λ z. is_statement subject.kind && is_let_through verdict && acts_of z StatementsDigest) w.1

-- the row of a digest is as far behind that of the texts without a place as its link says
row_by_link : (digest : Option ℕ) → digest_row digest ≡ 8385 + plus_one digest
row_by_link None = omega arith
row_by_link (Some digest) = omega arith

pub start_row : (subject : Subject) (digested : Bool) (what : Open) → what.digested ≡ digested → what.event.link ≡ link_of digested subject → what.digested ≡ true
    → digest_row subject.digest ≡ 8385 + what.event.link
start_row subject digested what d l t =
    let on : digested ≡ true = sym d ∙ t in
    row_by_link subject.digest ∙ ap (λ z. 8385 + z) (sym (l ∙ ap (λ b. link_of b subject) on))

-- an event is offered to its current place by what the printed versions give just where it is by what was loaded
pub start_offered : (flags : ℕ → ℕ → ℕ) (slot : Option ℕ) (subject : Subject) (verdict : Verdict) (index number : ℕ) (seen : Option Setup) (class : Option ℕ) → subject.class ≡ class
    → IsLoaded slot subject.class subject.table seen → LoadsAgree flags (load_calls slot subject.class subject.table seen)
    → is_offered_current flags slot (event_of subject verdict index number seen) ≡ is_placed_by subject verdict seen
start_offered flags slot subject verdict index number None class e l agree = second_false (is_attributed verdict) (acts_of 0 (current_consumer subject.kind)) (none_acts subject.kind) where
  second_false : (a b : Bool) → b ≡ false → (a && b) ≡ false
  second_false true b q = q
  second_false false b q = refl

  none_acts : (kind : EventKind) → acts_of 0 (current_consumer kind) ≡ false
  none_acts kinds.Wait = refl
  none_acts kinds.Stage = refl
  none_acts kinds.Statement = refl
  none_acts kinds.Transaction = refl
start_offered flags None subject verdict index number (Some seen) class e l agree = absurd (true≢false l.there)
start_offered flags (Some slot) subject verdict index number (Some seen) None e l agree = absurd (true≢false (l.there ∙ ap is_some e))
start_offered flags (Some slot) subject verdict index number (Some seen) (Some class) e l agree =
    let w = words_told flags slot class subject.table seen l.table_is (subst (λ z. LoadsAgree flags (load_calls (Some slot) z subject.table (Some seen))) e agree) in
    ap (λ z. is_attributed verdict && acts_of z (current_consumer subject.kind)) w.1

-- what the words of an event that starts say of its class, its link, and whether it is a READ ONLY transaction
pub class_worded : (class : Option ℕ) (number : ℕ) → IsClass class number → or_zero class ≡ number
class_worded None number e = sym e
class_worded (Some class) number e = sym e

pub link_worded : (digested : Bool) (event : Opened) → link_by digested event ≡ link_of digested event.subject
link_worded true event = refl
link_worded false event = refl

read_only_as : (kind : EventKind) (cell : ℕ) → ((kind ≡ kinds.Transaction → ⊥) → (cell == 63) ≡ false) → is_read_only kind cell ≡ (cell == 63)
read_only_as kinds.Transaction cell q = refl
read_only_as kinds.Wait cell q = sym (q (λ e. cc))
read_only_as kinds.Stage cell q = sym (q (λ e. cc))
read_only_as kinds.Statement cell q = sym (q (λ e. cc))

-- a class that isn't lost has an id below 63
pub read_only_worded : (subject : Subject) (class : ℕ) (what : Open) → IsSubject subject → subject.class ≡ Some class → IsClass subject.class what.event.class
    → is_read_only subject.kind subject.cell ≡ (subject.cell == 63)
read_only_worded subject class what is e own = read_only_as subject.kind subject.cell (λ other. by_cell other (is.cell class e)) where
  own_class : what.event.class ≡ class
  own_class = subst (λ z. IsClass z what.event.class) e own

  by_cell : (subject.kind ≡ kinds.Transaction → ⊥) → (subject.cell ≡ class) ⊎ ((subject.cell ≡ 63) × (subject.kind ≡ kinds.Transaction)) → (subject.cell == 63) ≡ false
  by_cell other (inl x) = ne_eqb subject.cell 63 (λ z. absurd (omega (arith, x, own_class, what.event.class_fits, z)))
  by_cell other (inr x) = absurd (other x.1)
