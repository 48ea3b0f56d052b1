-- Actors that changed nothing can be left out of what all actors have in common.
use Rattle.std.proofs.Common.{ℕ, ◌≡◌, List, [], ◌∷◌, ◌++◌, inl, inr, refl, ap, sym, ◌∙◌, subst, append_assoc}
use Rattle.pfs_board.specs.declared.view.Label.{Label}
use Rattle.pfs_law_joint.proofs.MarkSums.{changes_then, sets_then}
use Rattle.pfs_law_joint.specs.Phases.{HaveEnded, IsShared}
use Rattle.pfs_levels.specs.CallOrder.{Mark, Order, AllCalls, AreCaused, AreFloored, AreNamed, AreRising, AreThere, all_marks, all_word_marks, marks_of, word_marks_of}
use Rattle.pfs_levels.specs.Calls.{Call, Adds, Rings, Reads, Loads, Draws, Takes, Puts, Frees, Sets, Enters, Leaves, Meets}
use Rattle.pfs_levels.specs.JointCalls.{AllAgree, At, Draw, Joint, Setting, all_calls, changes_of, draws_by, draws_of, sets_of, total}
use Rattle.pfs_levels.specs.PhaseFloors.{AreSince}
use Rattle.pfs_law_board.specs.PhaseEnds.{AreAllBut, IsQuiet}

-- what such an actor adds
record AddsNothing (calls : List Call) : Type 0 where
  marks : marks_of calls ≡ []
  words : word_marks_of calls ≡ []
  changes : changes_of calls ≡ []
  sets : sets_of calls ≡ []
  draws : draws_of calls ≡ []

adds_nothing : (calls : List Call) → IsQuiet calls → AddsNothing calls
unfolding marks_of word_marks_of changes_of sets_of draws_of
adds_nothing [] q = record { marks = refl; words = refl; changes = refl; sets = refl; draws = refl }
adds_nothing (Reads row seen ∷ calls) q = let n = adds_nothing calls q in record { marks = n.marks; words = n.words; changes = n.changes; sets = n.sets; draws = n.draws }
adds_nothing (Loads at version flags ∷ calls) q = let n = adds_nothing calls q in record { marks = n.marks; words = n.words; changes = n.changes; sets = n.sets; draws = n.draws }
adds_nothing (Meets versions ∷ calls) q = let n = adds_nothing calls q in record { marks = n.marks; words = n.words; changes = n.changes; sets = n.sets; draws = n.draws }
adds_nothing (Adds row amount answer ∷ calls) q = absurd q
adds_nothing (Rings row content answer ∷ calls) q = absurd q
adds_nothing (Draws kind ticket ∷ calls) q = absurd q
adds_nothing (Takes row version found ∷ calls) q = absurd q
adds_nothing (Puts row content version ∷ calls) q = absurd q
adds_nothing (Frees row version ∷ calls) q = absurd q
adds_nothing (Sets at flags version ∷ calls) q = absurd q
adds_nothing (Enters label labels ∷ calls) q = absurd q
adds_nothing (Leaves ∷ calls) q = absurd q

draws_then : (xs ys : List Call) → draws_of (xs ++ ys) ≡ draws_of xs ++ draws_of ys
unfolding draws_of
draws_then [] ys = refl
draws_then (x ∷ xs) ys = ap (λ z. draws_by x ++ z) (draws_then xs ys) ∙ sym (append_assoc (draws_by x) (draws_of xs) (draws_of ys))

-- a list that goes along all actors, one after another
record GoesAlong {A : Type 0} (of : List Call → List A) (all : List (List Call) → List A) : Type 0 where
  none : all [] ≡ []
  more : (calls : List Call) (actors : List (List Call)) → all (calls ∷ actors) ≡ of calls ++ all actors
  quiet : (calls : List Call) → IsQuiet calls → of calls ≡ []

along_marks : GoesAlong marks_of all_marks
unfolding all_marks
along_marks = record { none = refl; more = λ calls actors. refl; quiet = λ calls q. (adds_nothing calls q).marks }

along_words : GoesAlong word_marks_of all_word_marks
unfolding all_word_marks
along_words = record { none = refl; more = λ calls actors. refl; quiet = λ calls q. (adds_nothing calls q).words }

along_changes : GoesAlong changes_of (λ actors. changes_of (all_calls actors))
unfolding all_calls changes_of
along_changes = record { none = refl; more = λ calls actors. changes_then calls (all_calls actors); quiet = λ calls q. (adds_nothing calls q).changes }

along_sets : GoesAlong sets_of (λ actors. sets_of (all_calls actors))
unfolding all_calls sets_of
along_sets = record { none = refl; more = λ calls actors. sets_then calls (all_calls actors); quiet = λ calls q. (adds_nothing calls q).sets }

along_draws : GoesAlong draws_of (λ actors. draws_of (all_calls actors))
unfolding all_calls draws_of
along_draws = record { none = refl; more = λ calls actors. draws_then calls (all_calls actors); quiet = λ calls q. (adds_nothing calls q).draws }

module _ {A : Type 0} (of : List Call → List A) (all : List (List Call) → List A) (g : GoesAlong of all) where
  left_out : (calls : List Call) (actors : List (List Call)) → IsQuiet calls → all actors ≡ all (calls ∷ actors)
  left_out calls actors q = sym (g.more calls actors ∙ ap (λ z. z ++ all actors) (g.quiet calls q))

  all_but : (some actors : List (List Call)) → AreAllBut some actors → all some ≡ all actors
  all_but some [] b = ap all b
  all_but [] (calls ∷ actors) b = all_but [] actors b.1 ∙ left_out calls actors b.0
  all_but (one ∷ some) (calls ∷ actors) (inl b) =
      g.more one some ∙ (ap (λ z. of z ++ all some) b.0 ∙ (ap (λ z. of calls ++ z) (all_but some actors b.1) ∙ sym (g.more calls actors)))
  all_but (one ∷ some) (calls ∷ actors) (inr b) = all_but (one ∷ some) actors b.1 ∙ left_out calls actors b.0

pub same_marks : (some actors : List (List Call)) → AreAllBut some actors → all_marks some ≡ all_marks actors
same_marks some actors b = all_but marks_of all_marks along_marks some actors b

pub same_words : (some actors : List (List Call)) → AreAllBut some actors → all_word_marks some ≡ all_word_marks actors
same_words some actors b = all_but word_marks_of all_word_marks along_words some actors b

pub same_changes : (some actors : List (List Call)) → AreAllBut some actors → changes_of (all_calls some) ≡ changes_of (all_calls actors)
same_changes some actors b = all_but changes_of (λ z. changes_of (all_calls z)) along_changes some actors b

pub same_sets : (some actors : List (List Call)) → AreAllBut some actors → sets_of (all_calls some) ≡ sets_of (all_calls actors)
same_sets some actors b = all_but sets_of (λ z. sets_of (all_calls z)) along_sets some actors b

same_draws : (some actors : List (List Call)) → AreAllBut some actors → draws_of (all_calls some) ≡ draws_of (all_calls actors)
same_draws some actors b = all_but draws_of (λ z. draws_of (all_calls z)) along_draws some actors b

-- what holds of each actor, and of each call
pub some_of : (P : List Call → Type 0) (some actors : List (List Call)) → AreAllBut some actors → AllCalls P actors → AllCalls P some
some_of P some [] b all = subst (AllCalls P) (sym b) tt
some_of P [] (calls ∷ actors) b all = tt
some_of P (one ∷ some) (calls ∷ actors) (inl b) all = (subst P (sym b.0) all.0, some_of P some actors b.1 all.1)
some_of P (one ∷ some) (calls ∷ actors) (inr b) all = some_of P (one ∷ some) actors b.1 all.1

module _ (flags : List ℕ) (content : ℕ → ℕ → List ℕ) (log : List At) (sets : List Setting) where
  agree_parts : (xs ys : List Call) → AllAgree flags content log sets (xs ++ ys) → AllAgree flags content log sets xs × AllAgree flags content log sets ys
  agree_parts [] ys a = (tt, a)
  agree_parts (x ∷ xs) ys a = let r = agree_parts xs ys a.1 in ((a.0, r.0), r.1)

  agree_both : (xs ys : List Call) → AllAgree flags content log sets xs → AllAgree flags content log sets ys → AllAgree flags content log sets (xs ++ ys)
  agree_both [] ys a b = b
  agree_both (x ∷ xs) ys a b = (a.0, agree_both xs ys a.1 b)

  each_agrees : (actors : List (List Call)) → AllAgree flags content log sets (all_calls actors) → AllCalls (AllAgree flags content log sets) actors
  unfolding all_calls
  each_agrees [] a = tt
  each_agrees (calls ∷ actors) a = let r = agree_parts calls (all_calls actors) a in (r.0, each_agrees actors r.1)

  all_agree : (actors : List (List Call)) → AllCalls (AllAgree flags content log sets) actors → AllAgree flags content log sets (all_calls actors)
  unfolding all_calls
  all_agree [] a = tt
  all_agree (calls ∷ actors) a = agree_both calls (all_calls actors) a.0 (all_agree actors a.1)

pub none_left_out : (actors : List (List Call)) → AreAllBut actors actors
none_left_out [] = refl
none_left_out (calls ∷ actors) = inl (refl, none_left_out actors)

-- behind actors of which none is left out
pub behind_all : (first some actors : List (List Call)) → AreAllBut some actors → AreAllBut (first ++ some) (first ++ actors)
behind_all [] some actors b = b
behind_all (calls ∷ first) some actors b = inl (refl, behind_all first some actors b)

-- and behind such as are left out
pub then_quiet : (own some actors : List (List Call)) → AllCalls IsQuiet own → AreAllBut some actors → AreAllBut some (own ++ actors)
then_quiet [] some actors q b = b
then_quiet (calls ∷ own) [] actors q b = (q.0, then_quiet own [] actors q.1 b)
then_quiet (calls ∷ own) (one ∷ some) actors q b = inr (q.0, then_quiet own (one ∷ some) actors q.1 b)

joint_but : (flags : List ℕ) (some actors : List (List Call)) (content : ℕ → ℕ → List ℕ) (log : List At) (sets : List Setting) (draws : List Draw) → AreAllBut some actors → Joint flags actors content log sets draws
    → Joint flags some content log sets draws
joint_but flags some actors content log sets draws b j = record {
  chain = j.chain;
  words = j.words;
  tickets = j.tickets;
  opens = j.opens;
  once = λ h. ap (total h) (same_changes some actors b) ∙ j.once h;
  sets_once = λ h. ap (total h) (same_sets some actors b) ∙ j.sets_once h;
  draws_once = λ h. ap (total h) (same_draws some actors b) ∙ j.draws_once h;
  agrees = all_agree flags content log sets some (some_of (AllAgree flags content log sets) some actors b (each_agrees flags content log sets actors j.agrees));
}

order_but : (some actors : List (List Call)) (log words : List Mark) (labels : List Label) → AreAllBut some actors → Order actors log words labels → Order some log words labels
order_but some actors log words labels b o = record {
  chain = o.chain;
  word_chain = o.word_chain;
  ordered = o.ordered;
  once = λ h. ap (total h) (same_marks some actors b) ∙ o.once h;
  words_once = λ h. ap (total h) (same_words some actors b) ∙ o.words_once h;
  ended = o.ended;
  floored = some_of (AreFloored log words) some actors b o.floored;
  rising = some_of AreRising some actors b o.rising;
  there = some_of AreThere some actors b o.there;
  caused = some_of (λ calls. AreCaused log (marks_of calls) calls) some actors b o.caused;
  named = some_of (AreNamed labels) some actors b o.named;
}

pub ended_but : (some actors : List (List Call)) → AreAllBut some actors → HaveEnded some → HaveEnded actors
ended_but some actors b e = record {
  marks = e.marks;
  words = e.words;
  chain = e.chain;
  word_chain = e.word_chain;
  once = λ h. ap (total h) (sym (same_marks some actors b)) ∙ e.once h;
  words_once = λ h. ap (total h) (sym (same_words some actors b)) ∙ e.words_once h;
}

-- of those before a phase
pub shared_but : (flags : List ℕ) (some before now : List (List Call)) → AreAllBut some before → IsShared flags before now → IsShared flags some now
shared_but flags some before now b s =
    let all : AreAllBut (now ++ some) (now ++ before) = behind_all now some before b in
    let Since : List At → List Setting → Type 0 = λ log sets. AllCalls (AreSince log sets) now in
    record {
      content = s.content;
      log = s.log;
      sets = s.sets;
      draws = s.draws;
      marks = s.marks;
      words = s.words;
      labels = s.labels;
      joint = joint_but flags (now ++ some) (now ++ before) s.content s.log s.sets s.draws all s.joint;
      order = order_but (now ++ some) (now ++ before) s.marks s.words s.labels all s.order;
      since = subst (λ z. Since z (sets_of (all_calls some))) (sym (same_changes some before b)) (subst (λ z. Since (changes_of (all_calls before)) z) (sym (same_sets some before b)) s.since);
    }

-- with the same labels
pub same_labels : (flags : List ℕ) (some before now : List (List Call)) (b : AreAllBut some before) (s : IsShared flags before now) → (shared_but flags some before now b s).labels ≡ s.labels
unfolding shared_but
same_labels flags some before now b s = refl
