-- Lines so many times.
use Rattle.std.proofs.Common.{ℕ, zero, suc, ◌≡◌, ◌+◌, Bool, false, List, [], ◌∷◌, ◌++◌, refl, ap, sym, ◌∙◌, subst, append_assoc, arith}
use Rattle.std.proofs.lemmas.List.{append-nil}
use Rattle.pfs_play.proofs.FurtherDeeds.{then}
use Rattle.pfs_admin.specs.AdministrationStates.{State as Administration}
use Rattle.pfs_admin.specs.declared.changes.Change.{Change}
use Rattle.pfs_board.specs.declared.view.Label.{Label}
use Rattle.pfs_classes.specs.declared.setting.Setting.{Setting}
use Rattle.pfs_levels.specs.Calls.{Call, Opening}
use Rattle.pfs_law_session.specs.Deeds.{Deed, Part, is_over}
use Rattle.pfs_law_session.specs.JournalLaws.{MayDoAll, state_behind, over_behind}
use Rattle.pfs_runs.specs.SelectAnswers.{Answer}
use Rattle.pfs_script.specs.declared.blocks.BlockLine.{BlockLine}
use Rattle.pfs_script.specs.Marks.{copies}
use Rattle.pfs_session.specs.SessionStates.{State, Book}
use Rattle.pfs_session.specs.Turns.{state_after}
use Rattle.pfs_play.proofs.NextLines.{answers_on, asks_on_then}
use Rattle.pfs_play.specs.Errands.{AreFor, HavePlayed, asks_on}

pub for_then : (xs ys : List (Administration → Deed)) (ps qs : List Part) → AreFor xs ps → AreFor ys qs → AreFor (xs ++ ys) (ps ++ qs)
for_then [] ys [] qs are more = more
for_then [] ys (p ∷ ps) qs are more = absurd are
for_then (x ∷ xs) ys [] qs are more = absurd are
for_then (x ∷ xs) ys (p ∷ ps) qs are more = (are.0, for_then xs ys ps qs are.1 more)

may_then : (over : Bool) (s : State) (ps qs : List Part) → MayDoAll over s ps → MayDoAll (over_behind over ps) (state_behind s ps) qs → MayDoAll over s (ps ++ qs)
may_then over s [] qs may more = more
may_then over s (p ∷ ps) qs may more = (may.0, may_then (is_over over p.deed) (state_after s p.turns) ps qs may.1 more)

over_then : (over : Bool) (ps qs : List Part) → over_behind over (ps ++ qs) ≡ over_behind (over_behind over ps) qs
over_then over [] qs = refl
over_then over (p ∷ ps) qs = over_then (is_over over p.deed) ps qs

-- lines, and then others
pub played_both : (setting fixed : Setting) (change : Label → Change) (xs ys : List BlockLine) (old at new : Book) (answers behind more : List Answer) (was mid now : Opening → List Call → Type 0) → HavePlayed setting fixed change xs old at answers behind was mid
    → HavePlayed setting fixed change ys at new behind more mid now → HavePlayed setting fixed change (xs ++ ys) old new answers more was now
played_both setting fixed change xs ys old at new answers behind more was mid now p q =
    let ps : List Part = p.parts in
    let qs : List Part = q.parts in
    record {
      parts = ps ++ qs;
      asked = subst (λ (z : List (Administration → Deed)). AreFor z (ps ++ qs)) (sym (asks_on_then xs ys)) (for_then (asks_on xs) (asks_on ys) ps qs p.asked q.asked);
      may = may_then false old.state ps qs p.may (subst (λ (s : State). MayDoAll (over_behind false ps) s qs) p.done.state (subst (λ (b : Bool). MayDoAll b at.state qs) (sym p.goes_on) q.may));
      goes_on = over_then false ps qs ∙ (ap (λ (b : Bool). over_behind b qs) p.goes_on ∙ q.goes_on);
      given = p.given ++ q.given;
      given_are = q.given_are ∙ (ap (λ (z : List Answer). z ++ q.given) p.given_are ∙ append_assoc answers p.given q.given);
      answered = answers_on setting xs ys ps qs p.given q.given p.answered q.answered;
      done = then fixed change ps qs old at new was mid now p.done q.done;
    }

pub no_copies : (lines : List BlockLine) → copies 0 lines ≡ []
unfolding copies
no_copies lines = refl

pub one_copy : (times : ℕ) (lines : List BlockLine) → copies (suc times) lines ≡ lines ++ copies times lines
unfolding copies
one_copy times lines = refl

-- one time more, before or behind the others
pub copies_more : (times : ℕ) (lines : List BlockLine) → copies (times + 1) lines ≡ copies times lines ++ lines
copies_more zero lines = let one : 0 + 1 ≡ suc 0 = omega arith in ap (λ n. copies n lines) one ∙ (one_copy 0 lines ∙ (ap (λ (z : List BlockLine). lines ++ z) (no_copies lines) ∙ (append-nil lines ∙ sym (ap (λ (z : List BlockLine). z ++ lines) (no_copies lines)))))
copies_more (suc times) lines =
    let next : suc times + 1 ≡ suc (times + 1) = omega arith in
    ap (λ n. copies n lines) next
    ∙ (one_copy (times + 1) lines ∙ (ap (λ (z : List BlockLine). lines ++ z) (copies_more times lines) ∙ (sym (append_assoc lines (copies times lines) lines) ∙ sym (ap (λ (z : List BlockLine). z ++ lines) (one_copy times lines)))))

-- some times, and then others
pub copies_then : (times more : ℕ) (lines : List BlockLine) → copies (times + more) lines ≡ copies times lines ++ copies more lines
copies_then zero more lines =
    let none : 0 + more ≡ more = omega arith in
    ap (λ n. copies n lines) none ∙ sym (ap (λ (z : List BlockLine). z ++ copies more lines) (no_copies lines))
copies_then (suc times) more lines =
    let next : suc times + more ≡ suc (times + more) = omega arith in
    ap (λ n. copies n lines) next
    ∙ (one_copy (times + more) lines ∙ (ap (λ (z : List BlockLine). lines ++ z) (copies_then times more lines) ∙ (sym (append_assoc lines (copies times lines) (copies more lines)) ∙ sym (ap (λ (z : List BlockLine). z ++ copies more lines) (one_copy times lines)))))

pub copies_of_none : (times : ℕ) (none : List BlockLine) → none ≡ [] → copies times none ≡ []
copies_of_none zero none e = no_copies none
copies_of_none (suc times) none e = one_copy times none ∙ (ap (λ (z : List BlockLine). z ++ copies times none) e ∙ copies_of_none times none e)
