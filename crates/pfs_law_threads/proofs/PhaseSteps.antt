-- What sessions at once have in common goes on for one phase more.
use Rattle.std.proofs.Common.{ℕ, ◌≡◌, ◌<◌, ◌≤◌, ◌==◌, nat_lt, false, cond, List, [], ◌∷◌, ◌++◌, inl, inr, refl, ap, sym, ◌∙◌, subst, arith, append_assoc, append-nil, eq-eqb, ne_eqb}
use Rattle.std.specs.Prelude.{◌⊎◌}
use Rattle.std.proofs.lemmas.Bool.{cases_lt, lt-ltb}
use Rattle.std.proofs.lemmas.Bool.Decides.{nat_tests}
use Rattle.pfs_law_joint.specs.Phases.{IsShared}
use Rattle.pfs_law_plain.specs.Spells.{Spell, doings_calls}
use Rattle.pfs_law_shared.specs.Shares.{actors_of, AreShared, spells_at, spells_before}
use Rattle.pfs_levels.specs.Calls.{Call}
use Rattle.pfs_levels.specs.CallOrder.{all_marks, all_word_marks, marked}
use Rattle.pfs_levels.specs.JointCalls.{all_calls, changes_of, draws_of, sets_of}
use Rattle.pfs_levels.specs.RowWords.{opening_content}
use Rattle.pfs_model.specs.Chains.{Each}
use Rattle.pfs_law_threads.specs.Phases.{NoneLaw, OneMoreLaw}

-- spells one after another are actors the newest first
actors_then : (xs ys : List Spell) → actors_of (xs ++ ys) ≡ actors_of ys ++ actors_of xs
actors_then [] ys = sym (append-nil (actors_of ys))
actors_then (x ∷ xs) ys = ap (λ z. z ++ doings_calls x.doings ∷ []) (actors_then xs ys) ∙ append_assoc (actors_of ys) (actors_of xs) (doings_calls x.doings ∷ [])

at_then : (phase : ℕ) (xs ys : List Spell) → spells_at phase (xs ++ ys) ≡ spells_at phase xs ++ spells_at phase ys
at_then phase [] ys = refl
at_then phase (x ∷ xs) ys =
    let mine : List Spell = cond (x.phase == phase) (x ∷ []) [] in
    ap (λ z. mine ++ z) (at_then phase xs ys) ∙ sym (append_assoc mine (spells_at phase xs) (spells_at phase ys))

before_then : (phase : ℕ) (xs ys : List Spell) → spells_before phase (xs ++ ys) ≡ spells_before phase xs ++ spells_before phase ys
before_then phase [] ys = refl
before_then phase (x ∷ xs) ys =
    let mine : List Spell = cond (nat_lt x.phase phase) (x ∷ []) [] in
    ap (λ z. mine ++ z) (before_then phase xs ys) ∙ sym (append_assoc mine (spells_before phase xs) (spells_before phase ys))

none_at : (phase : ℕ) (xs : List Spell) → Each (λ x. x.phase ≡ phase → ⊥) xs → spells_at phase xs ≡ []
none_at phase [] e = refl
none_at phase (x ∷ xs) e = ap (λ b. cond b (x ∷ []) [] ++ spells_at phase xs) (ne_eqb x.phase phase e.0) ∙ none_at phase xs e.1

all_at : (phase : ℕ) (xs : List Spell) → Each (λ x. x.phase ≡ phase) xs → spells_at phase xs ≡ xs
all_at phase [] e = refl
all_at phase (x ∷ xs) e = ap (λ b. cond b (x ∷ []) [] ++ spells_at phase xs) (eq-eqb x.phase phase e.0) ∙ ap (λ z. x ∷ z) (all_at phase xs e.1)

not_less : (a b : ℕ) → b ≤ a → nat_lt a b ≡ false
not_less a b h = grind (arith, nat_tests)

none_before : (phase : ℕ) (xs : List Spell) → Each (λ x. phase ≤ x.phase) xs → spells_before phase xs ≡ []
none_before phase [] e = refl
none_before phase (x ∷ xs) e = ap (λ b. cond b (x ∷ []) [] ++ spells_before phase xs) (not_less x.phase phase e.0) ∙ none_before phase xs e.1

all_before : (phase : ℕ) (xs : List Spell) → Each (λ x. x.phase < phase) xs → spells_before phase xs ≡ xs
all_before phase [] e = refl
all_before phase (x ∷ xs) e = ap (λ b. cond b (x ∷ []) [] ++ spells_before phase xs) (lt-ltb x.phase phase e.0) ∙ ap (λ z. x ∷ z) (all_before phase xs e.1)

each_into : (P Q : Spell → Type 0) → ((x : Spell) → P x → Q x) → (xs : List Spell) → Each P xs → Each Q xs
each_into P Q step [] e = tt
each_into P Q step (x ∷ xs) e = (step x e.0, each_into P Q step xs e.1)

each_both : (P : Spell → Type 0) (xs ys : List Spell) → Each P xs → Each P ys → Each P (xs ++ ys)
each_both P [] ys e f = f
each_both P (x ∷ xs) ys e f = (e.0, each_both P xs ys e.1 f)

-- behind a phase nothing more happened
behind : (flags : List ℕ) (before now : List (List Call)) → IsShared flags before now → IsShared flags (now ++ before) []
behind flags before now s = record {
  content = s.content;
  log = s.log;
  sets = s.sets;
  draws = s.draws;
  marks = s.marks;
  words = s.words;
  labels = s.labels;
  joint = s.joint;
  order = s.order;
  since = tt;
}

pub none : NoneLaw
unfolding all_marks all_word_marks all_calls changes_of sets_of draws_of marked
none flags phase = record {
  content = λ row version. opening_content row;
  log = [];
  sets = [];
  draws = [];
  marks = [];
  words = [];
  labels = [];
  joint = record { chain = tt; words = tt; tickets = tt; opens = λ row some there. refl; once = λ h. refl; sets_once = λ h. refl; draws_once = λ h. refl; agrees = tt };
  order = record { chain = tt; word_chain = tt; ordered = tt; once = λ h. refl; words_once = λ h. refl; ended = refl; floored = tt; rising = tt; there = tt; caused = tt; named = tt };
  since = tt;
}

module _ (flags : List ℕ) (phase : ℕ) (spells now : List Spell) (were : AreShared flags spells) (low : Each (λ spell. spell.phase < phase) spells) (here : Each (λ spell. spell.phase ≡ phase) now) (one : IsShared flags (actors_of spells) (actors_of now)) where
  abbrev Shared : List Spell → List Spell → Type 0
  Shared before theirs = IsShared flags (actors_of before) (actors_of theirs)

  shared_as : (q : ℕ) (first next second last : List Spell) → spells_before q spells ≡ first → spells_before q now ≡ next → spells_at q spells ≡ second → spells_at q now ≡ last
      → Shared (first ++ next) (second ++ last) → Shared (spells_before q (spells ++ now)) (spells_at q (spells ++ now))
  shared_as q first next second last a b c d s =
      subst (λ z. Shared z (spells_at q (spells ++ now))) (sym (before_then q spells now ∙ (ap (λ z. z ++ spells_before q now) a ∙ ap (λ z. first ++ z) b)))
      (subst (λ z. Shared (first ++ next) z) (sym (at_then q spells now ∙ (ap (λ z. z ++ spells_at q now) c ∙ ap (λ z. second ++ z) d))) s)

  earlier : (q : ℕ) → q < phase → Shared (spells_before q (spells ++ now)) (spells_at q (spells ++ now))
  earlier q less =
      shared_as q (spells_before q spells) [] (spells_at q spells) [] refl (none_before q now (each_into (λ x. x.phase ≡ phase) (λ x. q ≤ x.phase) (λ x e. omega (arith, less, e)) now here)) refl
      (none_at q now (each_into (λ x. x.phase ≡ phase) (λ x. x.phase ≡ q → ⊥) (λ x e f. absurd (omega (arith, less, e, f))) now here))
      (subst (λ z. Shared z (spells_at q spells ++ [])) (sym (append-nil (spells_before q spells))) (subst (λ z. Shared (spells_before q spells) z) (sym (append-nil (spells_at q spells))) (were q)))

  same : (q : ℕ) → q ≡ phase → Shared (spells_before q (spells ++ now)) (spells_at q (spells ++ now))
  same q is =
      shared_as q spells [] [] now (all_before q spells (each_into (λ x. x.phase < phase) (λ x. x.phase < q) (λ x l. omega (arith, is, l)) spells low))
      (none_before q now (each_into (λ x. x.phase ≡ phase) (λ x. q ≤ x.phase) (λ x e. omega (arith, is, e)) now here))
      (none_at q spells (each_into (λ x. x.phase < phase) (λ x. x.phase ≡ q → ⊥) (λ x l f. absurd (omega (arith, is, l, f))) spells low))
      (all_at q now (each_into (λ x. x.phase ≡ phase) (λ x. x.phase ≡ q) (λ x e. e ∙ sym is) now here)) (subst (λ z. Shared z now) (sym (append-nil spells)) one)

  later : (q : ℕ) → phase < q → Shared (spells_before q (spells ++ now)) (spells_at q (spells ++ now))
  later q more =
      shared_as q spells now [] [] (all_before q spells (each_into (λ x. x.phase < phase) (λ x. x.phase < q) (λ x l. omega (arith, more, l)) spells low))
      (all_before q now (each_into (λ x. x.phase ≡ phase) (λ x. x.phase < q) (λ x e. omega (arith, more, e)) now here))
      (none_at q spells (each_into (λ x. x.phase < phase) (λ x. x.phase ≡ q → ⊥) (λ x l f. absurd (omega (arith, more, l, f))) spells low))
      (none_at q now (each_into (λ x. x.phase ≡ phase) (λ x. x.phase ≡ q → ⊥) (λ x e f. absurd (omega (arith, more, e, f))) now here))
      (subst (λ (z : List (List Call)). IsShared flags z []) (sym (actors_then spells now)) (behind flags (actors_of spells) (actors_of now) one))

  by_case : (q : ℕ) → (q < phase) ⊎ (phase ≤ q) → (phase < q) ⊎ (q ≤ phase) → Shared (spells_before q (spells ++ now)) (spells_at q (spells ++ now))
  by_case q (inl less) b = earlier q less
  by_case q (inr up) (inl more) = later q more
  by_case q (inr up) (inr low) = same q (omega (arith, up, low))

pub one_more : OneMoreLaw
one_more flags phase spells now were low here one q = by_case flags phase spells now were low here one q (cases_lt q phase) (cases_lt phase q)
