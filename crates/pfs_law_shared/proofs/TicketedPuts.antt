-- Puts of the long history among calls: each stands just behind the draw of its ticket, and nothing else leaves a ticket.
use Rattle.std.proofs.Common.{ℕ, ◌≡◌, ◌+◌, ◌<◌, ◌≤◌, ◌==◌, Bool, true, false, ◌&&◌, if◌then◌else◌, List, [], ◌∷◌, ◌++◌, slice_index, refl, ap, sym, ◌∙◌, subst, arith, eqb-true, eq-eqb}
use Rattle.std.specs.Prelude.{replicate}
use Rattle.pfs_lemmas.proofs.Bools.{and_first, and_second}
use Rattle.pfs_levels.specs.Calls.{Call, Adds, Rings, Reads, Loads, Draws, Takes, Puts, Frees, Sets, Enters, Leaves, Meets}
use Rattle.pfs_levels.specs.CallOrder.{top_in, top_ticket}
use Rattle.pfs_levels.specs.CallOrder.{AreRising as CallsRise}
use Rattle.pfs_levels.specs.JointCalls.{total, one_if, At, Setting, Draw, changes_by, changes_of, draws_of, Agrees, AllAgree}
use Rattle.pfs_levels.specs.RowWords.{is_cell, opening_content, zero_words}
use Rattle.pfs_levels.specs.declared.answers.Added.TheVariants.{Counted, Held}
use Rattle.pfs_levels.specs.declared.answers.RingPut.TheVariants.{Done, Busy, Late}
use Rattle.pfs_model.specs.Causes.{long_row, kind_of_row}
use Rattle.pfs_model.specs.Chains.{Each}
use Rattle.pfs_law_joint.specs.Versions.{makes}
use Rattle.pfs_law_joint.proofs.NamedVersions.{row_grows}
use Rattle.pfs_law_joint.proofs.Sums.{total_then}
use Rattle.pfs_law_shared.proofs.ActorSums.{IsAdditive}

-- the word of a ticket
abbrev pub word_of : List ℕ → ℕ
word_of content = slice_index content 15

-- how often calls put this ticket to a row, at versions that pass
abbrev pub rung_by : ℕ → ℕ → (ℕ → Bool) → Call → ℕ
rung_by row ticket test (Rings at content (Done version)) = one_if ((at == row) && (test version && (word_of content == ticket + 1)))
rung_by row ticket test _ = 0

abbrev pub rungs : ℕ → ℕ → (ℕ → Bool) → List Call → ℕ
rungs row ticket test [] = 0
rungs row ticket test (call ∷ calls) = rung_by row ticket test call + rungs row ticket test calls

pub rungs_then : (row ticket : ℕ) (test : ℕ → Bool) (xs ys : List Call) → rungs row ticket test (xs ++ ys) ≡ rungs row ticket test xs + rungs row ticket test ys
rungs_then row ticket test [] ys = omega arith
rungs_then row ticket test (x ∷ xs) ys = omega (arith, rungs_then row ticket test xs ys)

pub rungs_add : (row ticket : ℕ) (test : ℕ → Bool) → IsAdditive (rungs row ticket test)
rungs_add row ticket test = record { none = refl; both = rungs_then row ticket test; enters = λ label labels. refl; leaves = refl; meets = λ versions. refl }

-- just behind the draw of a ticket of this word, at the ticket's place
abbrev pub Stands : ℕ → ℕ → List Call → Type 0
Stands row word [] = ⊥
Stands row word (Draws kind ticket ∷ calls) = (row ≡ long_row kind ticket) × (word ≡ ticket + 1)
Stands row word (_ ∷ calls) = ⊥

-- a put with a ticket stands so; one that came too late has the lower ticket
abbrev pub IsTicketed : List Call → Call → Type 0
IsTicketed calls (Rings row content (Done version)) = 0 < word_of content → Stands row (word_of content) calls
IsTicketed calls (Rings row content (Late greater version)) = Stands row (word_of content) calls × (word_of content ≤ greater)
IsTicketed calls _ = Unit {0}

abbrev pub AreTicketed : List Call → Type 0
AreTicketed [] = Unit {0}
AreTicketed (call ∷ calls) = IsTicketed calls call × AreTicketed calls

stands_then : (row word : ℕ) (xs ys : List Call) → Stands row word xs → Stands row word (xs ++ ys)
stands_then row word [] ys s = absurd s
stands_then row word (Draws kind ticket ∷ xs) ys s = s
stands_then row word (_ ∷ xs) ys s = absurd s

ticketed_more : (xs ys : List Call) (call : Call) → IsTicketed xs call → IsTicketed (xs ++ ys) call
ticketed_more xs ys (Rings row content (Done version)) s = λ up. stands_then row (word_of content) xs ys (s up)
ticketed_more xs ys (Rings row content (Late greater version)) s = (stands_then row (word_of content) xs ys s.0, s.1)
ticketed_more xs ys _ s = tt

pub ticketed_then : (xs ys : List Call) → AreTicketed xs → AreTicketed ys → AreTicketed (xs ++ ys)
ticketed_then [] ys a b = b
ticketed_then (x ∷ xs) ys a b = (ticketed_more xs ys x a.0, ticketed_then xs ys a.1 b)

pub ticketed_back : (xs ys : List Call) → AreTicketed (xs ++ ys) → AreTicketed ys
ticketed_back [] ys a = a
ticketed_back (x ∷ xs) ys a = ticketed_back xs ys a.1

-- what an action puts has no ticket
abbrev pub IsBlank : Call → Type 0
IsBlank (Puts row content version) = word_of content ≡ 0
IsBlank _ = Unit {0}

-- how often a ticket was drawn
abbrev pub drawn_once : ℕ → ℕ → Draw → Bool
drawn_once kind ticket d = (d.kind == kind) && (d.ticket == ticket)

abbrev pub times_drawn : ℕ → ℕ → List Call → ℕ
times_drawn kind ticket calls = total (λ d. one_if (drawn_once kind ticket d)) (draws_of calls)

pub kind_is : (kind ticket : ℕ) → kind_of_row (long_row kind ticket) ≡ kind
kind_is kind ticket = omega arith

this_drawn : (row ticket kind drawn : ℕ) → row ≡ long_row kind drawn → ticket + 1 ≡ drawn + 1 → one_if (drawn_once (kind_of_row row) ticket (record { kind = kind; ticket = drawn })) ≡ 1
this_drawn row ticket kind drawn at same =
    ap one_if (ap (λ b. b && (drawn == ticket)) (eq-eqb kind (kind_of_row row) (sym (kind_is kind drawn) ∙ ap kind_of_row (sym at))) ∙ eq-eqb drawn ticket (omega (arith, same)))

-- a ticket isn't put more often than it was drawn
abbrev Fewer : ℕ → ℕ → (ℕ → Bool) → List Call → Type 0
Fewer row ticket test calls =
    (rungs row ticket test calls ≤ times_drawn (kind_of_row row) ticket calls)
    × (Stands row (ticket + 1) calls → rungs row ticket test calls < times_drawn (kind_of_row row) ticket calls)

pub rung_true : (at row : ℕ) (a : Bool) (word ticket : ℕ) → ((at == row) && (a && (word == ticket + 1))) ≡ true → (at ≡ row) × (word ≡ ticket + 1)
rung_true at row a word ticket e =
    (eqb-true at row (and_first (at == row) (a && (word == ticket + 1)) e), eqb-true word (ticket + 1) (and_second a (word == ticket + 1) (and_second (at == row) (a && (word == ticket + 1)) e)))

fewer : (row ticket : ℕ) (test : ℕ → Bool) (calls : List Call) → AreTicketed calls → Fewer row ticket test calls
unfolding total draws_of
fewer row ticket test [] a = (omega arith, λ s. absurd s)
fewer row ticket test (Draws kind drawn ∷ calls) a =
    let r = fewer row ticket test calls a.1 in
    (omega (arith, r.0), λ s. omega (arith, r.0, this_drawn row ticket kind drawn s.0 s.1))
fewer row ticket test (Rings at content (Done version) ∷ calls) a =
    let r = fewer row ticket test calls a.1 in
    (by ((at == row) && (test version && (word_of content == ticket + 1))) refl r, λ s. absurd s) where
      by : (b : Bool) → ((at == row) && (test version && (word_of content == ticket + 1))) ≡ b → Fewer row ticket test calls → one_if b + rungs row ticket test calls ≤ times_drawn (kind_of_row row) ticket calls
      by false e r = omega (arith, r.0)
      by true e r =
          let is = rung_true at row (test version) (word_of content) ticket e in
          let s = a.0 (omega (arith, is.1)) in
          omega (arith, r.1 (subst (λ z. Stands z (ticket + 1) calls) is.0 (subst (λ z. Stands at z calls) is.1 s)))
fewer row ticket test (_ ∷ calls) a =
    let r = fewer row ticket test calls a.1 in
    (omega (arith, r.0), λ s. absurd s)

pub rungs_low : (row ticket : ℕ) (test : ℕ → Bool) (calls : List Call) → AreTicketed calls → rungs row ticket test calls ≤ times_drawn (kind_of_row row) ticket calls
rungs_low row ticket test calls a = (fewer row ticket test calls a).0

-- and each put of it is at its place
pub rungs_own : (row ticket : ℕ) (test : ℕ → Bool) (calls : List Call) → AreTicketed calls → 0 < rungs row ticket test calls → row ≡ long_row (kind_of_row row) ticket
rungs_own row ticket test [] a some = absurd (omega (arith, some))
rungs_own row ticket test (Rings at content (Done version) ∷ calls) a some =
    by ((at == row) && (test version && (word_of content == ticket + 1))) refl (λ more. rungs_own row ticket test calls a.1 more) some where
      own : (cs : List Call) → Stands row (ticket + 1) cs → row ≡ long_row (kind_of_row row) ticket
      own [] s = absurd s
      own (Draws kind drawn ∷ cs) s = s.0 ∙ (ap (λ k. long_row k drawn) (sym (kind_is kind drawn) ∙ ap kind_of_row (sym s.0)) ∙ ap (long_row (kind_of_row row)) (omega (arith, s.1)))
      own (_ ∷ cs) s = absurd s

      by : (b : Bool) → ((at == row) && (test version && (word_of content == ticket + 1))) ≡ b → (0 < rungs row ticket test calls → row ≡ long_row (kind_of_row row) ticket) → 0 < one_if b + rungs row ticket test calls
          → row ≡ long_row (kind_of_row row) ticket
      by false e go some = go (omega (arith, some))
      by true e go some =
          let is = rung_true at row (test version) (word_of content) ticket e in
          let s = a.0 (omega (arith, is.1)) in
          own calls (subst (λ z. Stands z (ticket + 1) calls) is.0 (subst (λ z. Stands at z calls) is.1 s))
rungs_own row ticket test (_ ∷ calls) a some = rungs_own row ticket test calls a.1 (omega (arith, some))

-- tickets rise, so none above those so far was drawn
pub drawn_below : (kind ticket : ℕ) (calls : List Call) → CallsRise calls → top_ticket calls kind ≤ ticket → times_drawn kind ticket calls ≡ 0
unfolding total draws_of
drawn_below kind ticket [] rise low = refl
drawn_below kind ticket (Draws k t ∷ calls) rise low = by (k == kind) refl low (λ more. drawn_below kind ticket calls rise.1 more) where
  by : (b : Bool) → (k == kind) ≡ b → (if b then t + 1 else top_ticket calls kind) ≤ ticket → (top_ticket calls kind ≤ ticket → times_drawn kind ticket calls ≡ 0) → one_if (b && (t == ticket)) + times_drawn kind ticket calls ≡ 0
  by false e low go = omega (arith, go low)
  by true e low go =
      let rest = go (omega (arith, low, rise.0, ap (top_ticket calls) (eqb-true k kind e))) in
      apart (t == ticket) refl rest where
        apart : (c : Bool) → (t == ticket) ≡ c → times_drawn kind ticket calls ≡ 0 → one_if c + times_drawn kind ticket calls ≡ 0
        apart false q rest = omega (arith, rest)
        apart true q rest = absurd (omega (arith, low, eqb-true t ticket q))
drawn_below kind ticket (_ ∷ calls) rise low = omega (arith, drawn_below kind ticket calls rise.1 low)

-- an actor's later puts to a row are above what it named there
pub later_none : (row ticket version : ℕ) (later base : List Call) → CallsRise (later ++ base) → version ≤ top_in base row → rungs row ticket (λ k. k == version) later ≡ 0
later_none row ticket version [] base rise top = refl
later_none row ticket version (Rings at content (Done k) ∷ later) base rise top =
    by (at == row) (k == version) refl refl (later_none row ticket version later base rise.1 top) where
      by : (a b : Bool) → (at == row) ≡ a → (k == version) ≡ b → rungs row ticket (λ n. n == version) later ≡ 0
          → one_if (a && (b && (word_of content == ticket + 1))) + rungs row ticket (λ n. n == version) later ≡ 0
      by false b p q rest = omega (arith, rest)
      by true false p q rest = omega (arith, rest)
      by true true p q rest =
          absurd (omega (arith, rise.0, ap (top_in (later ++ base)) (eqb-true at row p), row_grows later base row rise.1, top, eqb-true k version q))
later_none row ticket version (_ ∷ later) base rise top = omega (arith, later_none row ticket version later base rise.1 top)

-- nor did it put one above that of a later draw
pub earlier_none : (row ticket word : ℕ) (test : ℕ → Bool) (earlier : List Call) → Stands row word earlier → word ≤ ticket → AreTicketed earlier → CallsRise earlier → rungs row ticket test earlier ≡ 0
earlier_none row ticket word test [] s low a rise = absurd s
earlier_none row ticket word test (Draws kind drawn ∷ earlier) s low a rise =
    let own : kind_of_row row ≡ kind = ap kind_of_row s.0 ∙ kind_is kind drawn in
    let none = drawn_below (kind_of_row row) ticket earlier rise.1 (omega (arith, low, s.1, rise.0, ap (top_ticket earlier) own)) in
    omega (arith, none, rungs_low row ticket test earlier a.1)
earlier_none row ticket word test (_ ∷ earlier) s low a rise = absurd s

-- the ticket of such a draw
pub record IsDrawnOf (row word : ℕ) (calls : List Call) : Type 0 where
  pub ticket : ℕ
  pub word_is : word ≡ ticket + 1
  pub drawn : 0 < times_drawn (kind_of_row row) ticket calls

pub drawn_of : (row word : ℕ) (calls : List Call) → Stands row word calls → IsDrawnOf row word calls
unfolding total draws_of
drawn_of row word [] s = absurd s
drawn_of row word (Draws kind drawn ∷ calls) s = record { ticket = drawn; word_is = s.1; drawn = omega (arith, this_drawn row drawn kind drawn s.0 refl) }
drawn_of row word (_ ∷ calls) s = absurd s

-- a content with a ticket was put there by a put of a ring
no_word : (n word : ℕ) → word ≡ n + 1 → word ≡ 0 → ⊥
no_word n word some none = absurd (omega (arith, some, none))

module _ (flags : List ℕ) (content : ℕ → ℕ → List ℕ) (log : List At) (sets : List Setting) (row version ticket : ℕ) (holds : word_of (content row version) ≡ ticket + 1) where
  abbrev made : Call → ℕ
  made call = total (λ x. one_if (makes row version x)) (changes_by call)

  blank_put : (at k : ℕ) (put : List ℕ) → content at k ≡ put → word_of put ≡ 0 → ((at == row) && (true && (k == version))) ≡ false
  blank_put at k put is blank = by (at == row) (k == version) refl refl where
    by : (a b : Bool) → (at == row) ≡ a → (k == version) ≡ b → (a && (true && b)) ≡ false
    by false b p q = refl
    by true false p q = refl
    by true true p q =
        absurd (no_word ticket (word_of (content at k)) (ap (λ z. word_of (content z k)) (eqb-true at row p) ∙ (ap (λ z. word_of (content row z)) (eqb-true k version q) ∙ holds)) (ap word_of is ∙ blank))

  made_one : (call : Call) → Agrees flags content log sets call → IsBlank call → made call ≤ rung_by row ticket (λ k. k == version) call
  unfolding total
  made_one (Adds at amount (Counted r k)) a b = omega (arith, ap one_if (blank_put r k _ a.1.1 refl))
  made_one (Adds at amount (Held r v w)) a b = omega arith
  made_one (Rings at put (Done k)) a b = by (at == row) (k == version) refl refl where
    by : (c d : Bool) → (at == row) ≡ c → (k == version) ≡ d → one_if (c && (true && d)) + 0 ≤ one_if (c && (d && (word_of put == ticket + 1)))
    by false d p q = omega arith
    by true false p q = omega arith
    by true true p q =
        let is : word_of put ≡ ticket + 1 = ap word_of (sym a.1.1) ∙ (ap (λ z. word_of (content z k)) (eqb-true at row p) ∙ (ap (λ z. word_of (content row z)) (eqb-true k version q) ∙ holds)) in
        omega (arith, ap one_if (eq-eqb (word_of put) (ticket + 1) is))
  made_one (Rings at put (Busy v w)) a b = omega arith
  made_one (Rings at put (Late t v)) a b = omega arith
  made_one (Puts at put k) a b = omega (arith, ap one_if (blank_put at k put a b))
  made_one (Frees at k) a b = by (at == row) where
    by : (c : Bool) → one_if (c && (false && (k == version))) + 0 ≤ 0
    by true = omega arith
    by false = omega arith
  made_one (Reads at seen) a b = omega arith
  made_one (Loads at v found) a b = omega arith
  made_one (Draws kind drawn) a b = omega arith
  made_one (Takes at v found) a b = omega arith
  made_one (Sets at to v) a b = omega arith
  made_one (Enters label labels) a b = omega arith
  made_one Leaves a b = omega arith
  made_one (Meets versions) a b = omega arith

  pub made_low : (calls : List Call) → AllAgree flags content log sets calls → Each IsBlank calls → total (λ x. one_if (makes row version x)) (changes_of calls) ≤ rungs row ticket (λ k. k == version) calls
  unfolding total changes_of
  made_low [] a b = omega arith
  made_low (call ∷ calls) a b =
      omega (arith, total_then (λ x. one_if (makes row version x)) (changes_by call) (changes_of calls), made_one call a.0 b.0, made_low calls a.1 b.1)

-- rows open with no ticket
pub opens_blank : (row : ℕ) → word_of (opening_content row) ≡ 0
opens_blank row = by (is_cell row) where
  by : (b : Bool) → word_of (if b then zero_words else replicate 16 0) ≡ 0
  by true = refl
  by false = refl
