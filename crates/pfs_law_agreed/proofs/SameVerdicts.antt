-- Where both runs saw the same flags as a phase began, starts of the same event there see the same, and have one verdict.
use Rattle.std.proofs.Common.{ℕ, ◌≡◌, ◌⊎◌, ◌+◌, ◌≤◌, ◌&&◌, not, nat_le, Bool, true, false, cond, List, [], ◌∷◌, ◌++◌, Option, Some, None, inl, inr, refl, ap, sym, ◌∙◌, subst, arith}
use Rattle.std.specs.Prelude.{if◌then◌else◌, is_none, is_some}
use Rattle.pfs_event.specs.Verdicts.{is_let_through}
use Rattle.pfs_event.specs.declared.entry.Entry.TheVariants as says
use Rattle.pfs_event.specs.declared.kind.EventKind.{EventKind}
use Rattle.pfs_event.specs.declared.verdict.Verdict.{Verdict}
use Rattle.pfs_event.specs.declared.verdict.Verdict.TheVariants.{LostClass}
use Rattle.pfs_model.proofs.EachLists.{each_behind, each_front}
use Rattle.pfs_model.specs.Chains.{Each, times}
use Rattle.pfs_model.specs.EntryAsks.{are_loaded, is_start, verdict_fits}
use Rattle.pfs_model.specs.SetupFlags.{SeenSetup, class_word, flags_seen, is_statement, is_wait, open_through, seen_by, table_word, thread_word, verdict_by, verdict_of, verdict_on, word_named}
use Rattle.pfs_model.specs.declared.changes.Change.{Change}
use Rattle.pfs_model.specs.declared.lines.Opened.{Opened}
use Rattle.pfs_model.specs.declared.lines.Subject.{Subject}

pub second_true : (a b : Bool) → (a && b) ≡ true → b ≡ true
second_true true b e = e
second_true false b e = absurd (cc)

-- which words are named, by whether they are loaded
record Named (loads table : Bool) (consumers thread class of_table : Option ℕ) : Type 0 where
  consumers_are : is_some consumers ≡ loads
  thread_is : is_some thread ≡ loads
  class_is : is_some class ≡ loads
  table_is : is_some of_table ≡ (loads && table)

named : (loads table : Bool) (co th cl ta : Option ℕ) → are_loaded loads table co th cl ta ≡ true → Named loads table co th cl ta
named true true (Some a) (Some b) (Some c) (Some d) e = record { consumers_are = refl; thread_is = refl; class_is = refl; table_is = refl }
named true false (Some a) (Some b) (Some c) None e = record { consumers_are = refl; thread_is = refl; class_is = refl; table_is = refl }
named false table None None None None e = record { consumers_are = refl; thread_is = refl; class_is = refl; table_is = refl }
named true false (Some a) (Some b) (Some c) (Some d) e = absurd (cc)
named false table (Some a) (Some b) (Some c) (Some d) e = absurd (cc)
named true true (Some a) (Some b) (Some c) None e = absurd (cc)
named false table (Some a) (Some b) (Some c) None e = absurd (cc)
named true table None None None None e = absurd (cc)
named loads table None None None (Some d) e = absurd (cc)
named loads table None None (Some c) ta e = absurd (cc)
named loads table None (Some b) cl ta e = absurd (cc)
named loads table (Some a) None cl ta e = absurd (cc)
named loads table (Some a) (Some b) None ta e = absurd (cc)

-- both runs' flags, and the versions of words as the phase began
module _ (F G : ℕ → ℕ → ℕ) (V W : ℕ → ℕ) where
  abbrev pub Stood : (ℕ → ℕ) → List Change → Type 0
  Stood versions loads = Each (λ (load : Change). load.version ≡ versions load.row) loads

  abbrev pub SameWord : (ℕ → ℕ) → Option ℕ → Option ℕ → Type 0
  SameWord word (Some a) (Some b) = F (word a) (V (word a)) ≡ G (word b) (W (word b))
  SameWord word None None = Unit {0}
  SameWord word _ _ = ⊥

  one_same : (word : ℕ → ℕ) (n m v w : Option ℕ) → SameWord word n m → is_some v ≡ is_some w → Stood V (word_named word n v) → Stood W (word_named word m w) → flags_seen F word n v ≡ flags_seen G word m w
  one_same word (Some a) (Some b) (Some v) (Some w) s e p q = ap (F (word a)) p.0 ∙ (s ∙ sym (ap (G (word b)) q.0))
  one_same word (Some a) (Some b) None None s e p q = refl
  one_same word (Some a) (Some b) (Some v) None s e p q = absurd (cc)
  one_same word (Some a) (Some b) None (Some w) s e p q = absurd (cc)
  one_same word None None v w s e p q = refl
  one_same word (Some a) None v w s e p q = absurd s
  one_same word None (Some b) v w s e p q = absurd s

  module _ (words : (word : ℕ) → (word ≡ 0) ⊎ (33 ≤ word) → F word (V word) ≡ G word (W word)) where
    class_same : (n : Option ℕ) → SameWord class_word n n
    class_same None = tt
    class_same (Some a) = words (class_word a) (inr (omega arith))

    table_same : (n : Option ℕ) → SameWord table_word n n
    table_same None = tt
    table_same (Some a) = words (table_word a) (inr (omega arith))

    pub some_same : (slot other : Option ℕ) → SameWord thread_word slot other → is_some slot ≡ is_some other
    some_same (Some a) (Some b) s = refl
    some_same None None s = refl
    some_same (Some a) None s = absurd s
    some_same None (Some b) s = absurd s

    abbrev loads_by : Option ℕ → Opened → List Change
    loads_by slot x = word_named (λ number. number) (Some 0) x.consumers ++ (word_named thread_word slot x.thread ++ (word_named class_word x.subject.class x.class ++ word_named table_word x.subject.table x.table))

    -- what starts of one subject saw
    pub seen_same : (slot other : Option ℕ) (x y : Opened) → x.subject ≡ y.subject → SameWord thread_word slot other
        → are_loaded (is_some slot && not (is_none x.subject.class)) (is_some x.subject.table) x.consumers x.thread x.class x.table ≡ true
        → are_loaded (is_some other && not (is_none y.subject.class)) (is_some y.subject.table) y.consumers y.thread y.class y.table ≡ true
        → Stood V (loads_by slot x) → Stood W (loads_by other y) → seen_by F slot x ≡ seen_by G other y
    seen_same slot other x y same threads p q l r =
        let a = named (is_some slot && not (is_none x.subject.class)) (is_some x.subject.table) x.consumers x.thread x.class x.table p in
        let b = named (is_some other && not (is_none y.subject.class)) (is_some y.subject.table) y.consumers y.thread y.class y.table q in
        let loads : (is_some slot && not (is_none x.subject.class)) ≡ (is_some other && not (is_none y.subject.class)) =
        ap (λ z. z && not (is_none x.subject.class)) (some_same slot other threads) ∙ ap (λ (s : Subject). is_some other && not (is_none s.class)) same in
        let l1 = each_behind _ (word_named (λ number. number) (Some 0) x.consumers) _ l in
        let r1 = each_behind _ (word_named (λ number. number) (Some 0) y.consumers) _ r in
        let l2 = each_behind _ (word_named thread_word slot x.thread) _ l1 in
        let r2 = each_behind _ (word_named thread_word other y.thread) _ r1 in
        let consumers : flags_seen F (λ number. number) (Some 0) x.consumers ≡ flags_seen G (λ number. number) (Some 0) y.consumers =
        one_same (λ number. number) (Some 0) (Some 0) x.consumers y.consumers (words 0 (inl refl)) (a.consumers_are ∙ (loads ∙ sym b.consumers_are))
        (each_front _ (word_named (λ number. number) (Some 0) x.consumers) _ l) (each_front _ (word_named (λ number. number) (Some 0) y.consumers) _ r) in
        let thread : flags_seen F thread_word slot x.thread ≡ flags_seen G thread_word other y.thread =
        one_same thread_word slot other x.thread y.thread threads (a.thread_is ∙ (loads ∙ sym b.thread_is)) (each_front _ (word_named thread_word slot x.thread) _ l1) (each_front _ (word_named thread_word other y.thread) _ r1) in
        let class : flags_seen F class_word x.subject.class x.class ≡ flags_seen G class_word y.subject.class y.class =
        one_same class_word x.subject.class y.subject.class x.class y.class (subst (λ (s : Subject). SameWord class_word x.subject.class s.class) same (class_same x.subject.class)) (a.class_is ∙ (loads ∙ sym b.class_is))
        (each_front _ (word_named class_word x.subject.class x.class) _ l2) (each_front _ (word_named class_word y.subject.class y.class) _ r2) in
        let table : flags_seen F table_word x.subject.table x.table ≡ flags_seen G table_word y.subject.table y.table =
        one_same table_word x.subject.table y.subject.table x.table y.table (subst (λ (s : Subject). SameWord table_word x.subject.table s.table) same (table_same x.subject.table))
        (a.table_is ∙ (ap (λ z. z && is_some x.subject.table) loads ∙ (ap (λ (s : Subject). (is_some other && not (is_none y.subject.class)) && is_some s.table) same ∙ sym b.table_is)))
        (each_behind _ (word_named class_word x.subject.class x.class) _ l2) (each_behind _ (word_named class_word y.subject.class y.class) _ r2) in
        λ i. record { consumers = consumers i; thread = thread i; class = class i; table = table i }

-- open events with the same verdicts
abbrev pub AreSameVerdicts : List Opened → List Opened → Type 0
AreSameVerdicts [] [] = Unit {0}
AreSameVerdicts (x ∷ xs) (y ∷ ys) = (x.subject ≡ y.subject) × (x.verdict ≡ y.verdict) × AreSameVerdicts xs ys
AreSameVerdicts _ _ = ⊥

pub open_same : (test : EventKind → Bool) (xs ys : List Opened) → AreSameVerdicts xs ys → open_through test xs ≡ open_through test ys
open_same test [] [] s = refl
open_same test [] (y ∷ ys) s = absurd s
open_same test (x ∷ xs) [] s = absurd s
open_same test (x ∷ xs) (y ∷ ys) s =
    let one : cond {A = ℕ} (is_let_through x.verdict && test x.subject.kind) 1 0 ≡ cond {A = ℕ} (is_let_through y.verdict && test y.subject.kind) 1 0 =
    ap (λ (v : Verdict). cond {A = ℕ} (is_let_through v && test x.subject.kind) 1 0) s.1 ∙ ap (λ (z : Subject). cond {A = ℕ} (is_let_through y.verdict && test z.kind) 1 0) s.0 in
    omega (arith, one, open_same test xs ys s.2)

pub verdict_same : (stack : ℕ) (slot other : Option ℕ) (subject : Subject) (seen saw : SeenSetup) (xs ys : List Opened) → is_some slot ≡ is_some other → seen ≡ saw → AreSameVerdicts xs ys
    → verdict_of stack slot subject seen xs ≡ verdict_of stack other subject saw ys
verdict_same stack None None subject seen saw xs ys e s same = refl
verdict_same stack (Some a) None subject seen saw xs ys e s same = absurd (cc)
verdict_same stack None (Some b) subject seen saw xs ys e s same = absurd (cc)
verdict_same stack (Some a) (Some b) subject seen saw xs ys e s same =
    ap (λ (z : SeenSetup). verdict_of stack (Some a) subject z xs) s
    ∙ (ap (λ n. by_counts n (open_through is_wait xs)) (open_same is_statement xs ys same) ∙ ap (λ n. by_counts (open_through is_statement ys) n) (open_same is_wait xs ys same)) where
      by_counts : ℕ → ℕ → Verdict
      by_counts statements waits = if is_none subject.class then LostClass else verdict_by stack subject saw statements waits
