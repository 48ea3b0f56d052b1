-- Steps of the counts of open events.
use Rattle.std.proofs.Common.{◌≡◌, refl, ℕ, ◌+◌, ◌-◌, Bool, true, false, ◌&&◌, List, [], ◌∷◌, cond, drop, ◌∙◌, ap, arith, Some, None}
use Rattle.std.specs.Prelude.{filter}
use Rattle.pfs_event.specs.Verdicts.{is_let_through}
use Rattle.pfs_event.specs.declared.kind.EventKind.{EventKind}
use Rattle.pfs_model.specs.declared.lines.Opened.{Opened}
use Rattle.pfs_model.specs.Contexts.{first_of}
use Rattle.pfs_model.specs.EventNumbers.{nesting_of}
use Rattle.pfs_model.specs.SetupFlags.{is_statement, is_wait, open_through}
use Rattle.pfs_check_trail.specs.OpenCounts.{AreCounted, is_through}

-- one event more
pub counted_more : (opened through more_opened more_through : List Opened) (event : Opened) (statements waits one other s w : ℕ) → AreCounted opened through statements waits → one ≡ cond (is_let_through event.verdict && is_statement event.subject.kind) 1 0 → other ≡ cond (is_let_through event.verdict && is_wait event.subject.kind) 1 0 → s ≡ statements + one → w ≡ waits + other → more_opened ≡ event ∷ opened → more_through ≡ cond (is_through event) (event ∷ through) through → AreCounted more_opened more_through s w
counted_more opened through more_opened more_through event statements waits one other s w a h1 h2 hs hw o t = rw o (record {
  through_is = t ∙ ap (λ z. cond (is_through event) (event ∷ z) z) a.through_is;
  statements_are = omega (arith, h1, hs, a.statements_are);
  waits_are = omega (arith, h2, hw, a.waits_are);
})

pub opened_first : (test : EventKind → Bool) (opened : List Opened) (event : Opened) → first_of opened ≡ Some event → open_through test opened ≡ cond (is_let_through event.verdict && test event.subject.kind) 1 0 + open_through test (drop 1 opened)
opened_first test [] event h = absurd (cc)
opened_first test (one ∷ rest) event h = let same : one ≡ event = cc in rw same refl

through_less : (opened : List Opened) (event : Opened) → first_of opened ≡ Some event → cond (is_through event) (drop 1 (filter is_through opened)) (filter is_through opened) ≡ filter is_through (drop 1 opened)
through_less [] event h = absurd (cc)
through_less (one ∷ rest) event h = let same : one ≡ event = cc in rw (← same) (at (is_through one)) where
  at : (b : Bool) → cond b (drop 1 (cond b (one ∷ filter is_through rest) (filter is_through rest))) (cond b (one ∷ filter is_through rest) (filter is_through rest)) ≡ filter is_through rest
  at true = refl
  at false = refl

-- the innermost event less
pub counted_less : (opened through less_opened less_through : List Opened) (event : Opened) (statements waits one other : ℕ) → AreCounted opened through statements waits → first_of opened ≡ Some event → less_opened ≡ drop 1 opened → less_through ≡ cond (is_through event) (drop 1 through) through → one ≡ cond (is_let_through event.verdict && is_statement event.subject.kind) 1 0 → other ≡ cond (is_let_through event.verdict && is_wait event.subject.kind) 1 0 → AreCounted less_opened less_through (statements - one) (waits - other)
counted_less opened through less_opened less_through event statements waits one other a h o t h1 h2 = rw o (record {
  through_is = t ∙ ap (λ z. cond (is_through event) (drop 1 z) z) a.through_is ∙ through_less opened event h;
  statements_are = omega (arith, h1, a.statements_are, opened_first is_statement opened event h);
  waits_are = omega (arith, h2, a.waits_are, opened_first is_wait opened event h);
})

-- nothing ends where nothing is open
pub none_first : (opened : List Opened) → first_of opened ≡ None → drop 1 opened ≡ opened
none_first [] h = refl
none_first (one ∷ rest) h = absurd (cc)

pub counted_none : (opened through less_opened less_through : List Opened) (statements waits : ℕ) → AreCounted opened through statements waits → first_of opened ≡ None → less_opened ≡ drop 1 opened → less_through ≡ through → AreCounted less_opened less_through statements waits
counted_none opened through less_opened less_through statements waits a h o t = rw (o ∙ none_first opened h, t) a

-- the innermost of those that are let through
pub first_through : (opened : List Opened) → first_of (filter is_through opened) ≡ nesting_of opened
first_through [] = refl
first_through (one ∷ rest) = at (is_through one) (first_through rest) where
  at : (b : Bool) → first_of (filter is_through rest) ≡ nesting_of rest → first_of (cond b (one ∷ filter is_through rest) (filter is_through rest)) ≡ cond b (Some one) (nesting_of rest)
  at true h = refl
  at false h = h
