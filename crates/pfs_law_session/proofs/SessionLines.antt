-- Lines of a session one after another.
use Rattle.std.proofs.Common.{ℕ, ◌≡◌, ◌+◌, ◌==◌, ◌<◌, Bool, true, false, cond, List, [], ◌∷◌, ◌++◌, refl, ap, sym, ◌∙◌, subst, arith}
use Rattle.std.proofs.lemmas.List.{append_assoc, append-nil}
use Rattle.pfs_model.proofs.EachLists.{each_join}
use Rattle.pfs_model.specs.ActionAsks.{Did, did, of_action, asked_of}
use Rattle.pfs_model.specs.Chains.{Each, each_of, times}
use Rattle.pfs_model.specs.Contents.{Given}
use Rattle.pfs_model.specs.Contexts.{Context, after, turned}
use Rattle.pfs_model.specs.EntryPlaces.{Placed, placed_part, placed_lines}
use Rattle.pfs_law_session.proofs.JournalLines.{turns_number}
use Rattle.pfs_law_session.specs.Amounts.{AllContentsAgree}
use Rattle.pfs_law_session.specs.Deeds.{Part, line_of, part_entries}
use Rattle.pfs_law_session.specs.JournalLaws.{AreParts, lines_of, entries_of}
use Rattle.pfs_session.specs.SessionStates.{State}
use Rattle.pfs_session.specs.Turns.{state_after}
use Rattle.pfs_law_session.proofs.ActionPieces.{each_of_then, chosen_then, Fact}
use Rattle.pfs_law_session.proofs.PartActions.{owes, IsPaid, paid_part}
use Rattle.pfs_law_session.specs.Demands.{Orders, AreOrders, number_of}
use Rattle.pfs_law_session.specs.AllActions.{AllOrders, numbers_of}

-- what actions of these numbers owe under a number
abbrev pub owed : Orders → ℕ → List ℕ → List Did
owed orders number [] = []
owed orders number (n ∷ ns) = owes orders n number ++ owed orders number ns

owed_then : (orders : Orders) (number : ℕ) (ns ms : List ℕ) → owed orders number (ns ++ ms) ≡ owed orders number ns ++ owed orders number ms
owed_then orders number [] ms = refl
owed_then orders number (n ∷ ns) ms =
    ap (λ z. owes orders n number ++ z) (owed_then orders number ns ms) ∙ sym (append_assoc (owes orders n number) (owed orders number ns) (owed orders number ms))

pub record ArePaid (orders : Orders) (given : Given) (content : ℕ → ℕ → List ℕ) (numbers : List ℕ) (places : List Placed) : Type 0 where
  pub done : (number : ℕ) → 0 < number → each_of did (of_action number places) ≡ owed orders number numbers
  pub facts : Each (Fact orders given content) places

pub paid_then : (orders : Orders) (given : Given) (content : ℕ → ℕ → List ℕ) (ns ms : List ℕ) (xs ys : List Placed) → ArePaid orders given content ns xs → ArePaid orders given content ms ys
    → ArePaid orders given content (ns ++ ms) (xs ++ ys)
paid_then orders given content ns ms xs ys a b = record {
  done = λ n p. ap (each_of did) (chosen_then n xs ys)
      ∙ (each_of_then (of_action n xs) (of_action n ys)
      ∙ (ap (λ z. z ++ each_of did (of_action n ys)) (a.done n p) ∙ (ap (λ z. owed orders n ns ++ z) (b.done n p) ∙ sym (owed_then orders n ns ms))));
  facts = each_join (Fact orders given content) xs ys a.facts b.facts;
}

pub lines_paid : (orders : Orders) (given : Given) (content : ℕ → ℕ → List ℕ) (phase session number : ℕ) (context : Context) (s : State) (parts : List Part) → s.number ≡ number → AreParts s parts
    → AllContentsAgree content parts → AllOrders orders given content number parts
    → ArePaid orders given content (numbers_of parts) (placed_lines phase session context (lines_of parts) (entries_of parts))
lines_paid orders given content phase session number context s [] same are calls all = record { done = λ n p. refl; facts = tt }
lines_paid orders given content phase session number context s (p ∷ ps) same are calls all =
    let line = line_of p.deed in
    let first : List Placed = placed_part phase session line (turned context) (part_entries p) in
    let own : 0 < number_of p.deed → AreOrders orders given content s.number p = λ q. subst (λ z. AreOrders orders given content z p) (sym same) (all.0 q) in
    let paid : IsPaid orders given content p.deed first = paid_part orders given content phase session context s p are.0 calls.0 own in
    let one : ArePaid orders given content (number_of p.deed ∷ []) first = record { done = λ n q. paid.done n q ∙ sym (append-nil (owes orders (number_of p.deed) n)); facts = paid.facts } in
    paid_then orders given content (number_of p.deed ∷ []) (numbers_of ps) first _ one
    (lines_paid orders given content phase session number (after context line (part_entries p)) (state_after s p.turns) ps (turns_number s p.turns are.0.are_turns ∙ same) are.1 calls.1 all.1)

-- a number that is nobody's, and one that is an action's
pub owed_none : (orders : Orders) (number : ℕ) (ns : List ℕ) → times (λ n. n == number) ns ≡ 0 → owed orders number ns ≡ []
owed_none orders number [] e = refl
owed_none orders number (n ∷ ns) e = at (n == number) (owed_none orders number ns) e where
  at : (b : Bool) → (times (λ n. n == number) ns ≡ 0 → owed orders number ns ≡ []) → cond b 1 0 + times (λ n. n == number) ns ≡ 0
      → (cond b (asked_of (orders.counted number) (orders.asked number)) [] ++ owed orders number ns) ≡ []
  at true rest e = absurd (omega (arith, e))
  at false rest e = rest (omega (arith, e))

pub owed_once : (orders : Orders) (number : ℕ) (ns : List ℕ) → times (λ n. n == number) ns ≡ 1 → owed orders number ns ≡ asked_of (orders.counted number) (orders.asked number)
owed_once orders number [] e = absurd (omega (arith, e))
owed_once orders number (n ∷ ns) e = at (n == number) (owed_once orders number ns) (owed_none orders number ns) e where
  at : (b : Bool) → (times (λ n. n == number) ns ≡ 1 → owed orders number ns ≡ asked_of (orders.counted number) (orders.asked number))
      → (times (λ n. n == number) ns ≡ 0 → owed orders number ns ≡ []) → cond b 1 0 + times (λ n. n == number) ns ≡ 1
      → (cond b (asked_of (orders.counted number) (orders.asked number)) [] ++ owed orders number ns) ≡ asked_of (orders.counted number) (orders.asked number)
  at true once none e =
      ap (λ z. asked_of (orders.counted number) (orders.asked number) ++ z) (none (omega (arith, e))) ∙ append-nil (asked_of (orders.counted number) (orders.asked number))
  at false once none e = once (omega (arith, e))
