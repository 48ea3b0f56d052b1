-- The words of the info rows that an action writes, as they are kept.
use Rattle.std.proofs.Common.{◌≡◌, refl, ℕ, zero, suc, ◌+◌, ◌-◌, ◌<◌, ◌≤◌, ◌==◌, List, [], ◌∷◌, ◌++◌, drop, length, min, ne_eqb, eq-eqb, take, sym, ◌∙◌, ap, subst, append_assoc, arith, Some, None}
use Rattle.std.specs.List.{flat_map}
use Rattle.std.specs.Prelude.{if◌then◌else◌, slice_get}
use Rattle.std.proofs.lemmas.List.{append-nil, length-append}
use Rattle.pfs_admin.specs.Works.{Sign, Releases, Tags, Work, no_work}
use Rattle.pfs_admin.specs.declared.changes.Change.{Change}
use Rattle.pfs_board.specs.declared.view.Label.{Label}
use Rattle.pfs_classes.specs.declared.setting.Setting.{Setting}
use Rattle.pfs_event.specs.declared.entry.Entry.{Entry}
use Rattle.pfs_event.specs.declared.entry.Entry.TheVariants as says
use Rattle.pfs_law_session.specs.Demands.{asked_by, signs_asked}
use Rattle.pfs_law_session.specs.Orders.{signed_words}
use Rattle.pfs_levels.specs.declared.answers.Word.{Word}
use Rattle.pfs_model.specs.ActionAsks.{Did, Flagged, Flagging, Freed, Gave, Move, Tagged, Took, asked_of, did, flagged_by, given_to, moved_by, signed_by}
use Rattle.pfs_check_blank.specs.AllAsked.{AreAsked, HaveWords, WholeLaw, every}
use Rattle.pfs_runs.specs.Labels.{before_action, work_for, work_of_label, words_at}
use Rattle.pfs_check_orders.specs.ActionOrders.{entries_in}
use Rattle.pfs_check_orders.specs.InfoWords.{AreInfos, HasInfos, info_at, info_of, infos_in, words_in}
use Rattle.pfs_check_orders.specs.declared.infos.Info.{Info}
use Rattle.pfs_check_orders.specs.declared.orders.Order.{Order}
use Rattle.pfs_check_orders.proofs.ListRanges.{at_number, end_within, none_left, range_behind, range_first, range_stays, there}

-- what is told as one, as an info row
abbrev told : List (List ℕ) → Did → List Info
told contents (Tagged row) = info_at row (slice_get contents row)
told contents (Took row) = []
told contents (Gave row from) = []
told contents (Freed row) = []
told contents (Flagged word flags) = []

joined : {A : Type 0} (f : A → List Info) (xs ys : List A) → flat_map f (xs ++ ys) ≡ flat_map f xs ++ flat_map f ys
joined f [] ys = refl
joined f (x ∷ xs) ys = ap (λ z. f x ++ z) (joined f xs ys) ∙ sym (append_assoc (f x) (flat_map f xs) (flat_map f ys))

one_told : (contents : List (List ℕ)) (entry : Entry) → info_of contents entry ≡ flat_map (told contents) (did entry)
one_told contents (says.Tag row version) = sym (append-nil (info_at row (slice_get contents row)))
one_told contents _ = refl

all_told : (contents : List (List ℕ)) (entries : List Entry) → flat_map (info_of contents) entries ≡ flat_map (told contents) (flat_map did entries)
all_told contents [] = refl
all_told contents (entry ∷ entries) =
    ap (λ z. z ++ flat_map (info_of contents) entries) (one_told contents entry)
    ∙ ap (λ z. flat_map (told contents) (did entry) ++ z) (all_told contents entries)
    ∙ sym (joined (told contents) (did entry) (flat_map did entries))

given_none : (contents : List (List ℕ)) (from : ℕ) (rows : List ℕ) → flat_map (told contents) (given_to from rows) ≡ []
given_none contents from [] = refl
given_none contents from (row ∷ rows) = given_none contents from rows

moved_none : (contents : List (List ℕ)) (moves : List Move) → flat_map (told contents) (moved_by every moves) ≡ []
moved_none contents [] = refl
moved_none contents (move ∷ moves) =
    joined (told contents) (given_to move.from move.to) (moved_by every moves)
    ∙ ap (λ z. z ++ flat_map (told contents) (moved_by every moves)) (given_none contents move.from move.to)
    ∙ moved_none contents moves

flagged_none : (contents : List (List ℕ)) (sets : List Flagging) → flat_map (told contents) (flagged_by sets) ≡ []
flagged_none contents [] = refl
flagged_none contents (one ∷ others) = flagged_none contents others

signs_words : (contents : List (List ℕ)) (signs : List Sign) (row : ℕ) → HaveWords contents signs
    → words_in (flat_map (told contents) (signed_by (signs_asked signs))) row ≡ signed_words signs row
signs_words contents [] row h = refl
signs_words contents (Releases other ∷ signs) row h = signs_words contents signs row h
signs_words contents (Tags other words ∷ signs) row h =
    ap (λ z. words_in (info_at other z ++ flat_map (told contents) (signed_by (signs_asked signs))) row) h.0
    ∙ ap (λ z. if other == row then words else z) (signs_words contents signs row h.1)

work_words : WholeLaw → (work : Work) (words : List Word) (entries : List Entry) (contents : List (List ℕ)) → AreAsked work words entries
    → HaveWords contents work.signs → (row : ℕ) → words_in (flat_map (info_of contents) entries) row ≡ signed_words work.signs row
work_words whole work words entries contents asked have row =
    ap (λ z. words_in z row) (all_told contents entries ∙ ap (flat_map (told contents)) (whole work words entries asked) ∙ parts)
    ∙ signs_words contents work.signs row have where
      parts : flat_map (told contents) (asked_of every (asked_by work)) ≡ flat_map (told contents) (signed_by (signs_asked work.signs))
      parts =
          joined (told contents) (moved_by every (asked_by work).moves) (signed_by (signs_asked work.signs) ++ flagged_by (asked_by work).sets)
          ∙ ap (λ z. z ++ flat_map (told contents) (signed_by (signs_asked work.signs) ++ flagged_by (asked_by work).sets)) (moved_none contents (asked_by work).moves)
          ∙ joined (told contents) (signed_by (signs_asked work.signs)) (flagged_by (asked_by work).sets)
          ∙ ap (λ z. flat_map (told contents) (signed_by (signs_asked work.signs)) ++ z) (flagged_none contents (asked_by work).sets)
          ∙ append-nil (flat_map (told contents) (signed_by (signs_asked work.signs)))

-- of an action whose info rows are kept behind the others
pub has_infos : WholeLaw → (work : Work) (words : List Word) (entries : List Entry) (contents : List (List ℕ)) (old new : List Info) (order : Order)
    → order.first_info ≡ length old → order.end_info ≡ length new → new ≡ old ++ flat_map (info_of contents) entries
    → AreAsked work words entries → HaveWords contents work.signs → HasInfos work.signs new order
has_infos whole work words entries contents old new order first end grown asked have = record {
  within = omega (arith, end);
  words = λ row.
      ap (λ z. words_in z row) (range_behind old (flat_map (info_of contents) entries) new order.first_info order.end_info grown (sym first) end)
      ∙ work_words whole work words entries contents asked have row;
}

pub infos_stay : (signs : List Sign) (infos more : List Info) (order : Order) → HasInfos signs infos order → HasInfos signs (infos ++ more) order
infos_stay signs infos more order has = record {
  within = omega (arith, has.within, length-append infos more);
  words = λ row. ap (λ z. words_in z row) (range_stays infos more order.first_info order.end_info has.within) ∙ has.words row;
}

pub none_written : (setting : Setting) (change : Label → Change) (infos : List Info) → AreInfos setting change [] infos []
none_written setting change infos = record { count = refl; each = λ before label order e f. absurd (no before label e) } where
  no : (before : ℕ) (label : Label) → slice_get [] before ≡ Some label → ⊥
  no zero label e = absurd (cc)
  no (suc before) label e = absurd (cc)

-- the info rows of the entries from a place on, with those of one entry more
pub infos_more : (contents : List (List ℕ)) (es : List Entry) (place end : ℕ) (entry : Entry) (old new all : List Info) → place < end
    → slice_get es place ≡ Some entry → new ≡ old ++ info_of contents entry
    → old ++ flat_map (info_of contents) (take (end - place) (drop place es)) ≡ all
    → new ++ flat_map (info_of contents) (take (end - (place + 1)) (drop (place + 1) es)) ≡ all
infos_more contents es place end entry old new all less e grown so =
    let rest : List Info = flat_map (info_of contents) (take (end - (place + 1)) (drop (place + 1) es)) in
    ap (λ z. z ++ rest) grown ∙ append_assoc old (info_of contents entry) rest
    ∙ ap (λ z. old ++ flat_map (info_of contents) z) (sym (range_first es place end entry less e)) ∙ so

pub infos_whole : (contents : List (List ℕ)) (es : List Entry) (order : Order) (place end : ℕ) (first last : List Info) → end ≤ place
    → end ≡ min order.end (length es) → last ++ flat_map (info_of contents) (take (end - place) (drop place es))
    ≡ first ++ flat_map (info_of contents) (take (end - order.start) (drop order.start es))
    → order.end ≤ length es → last ≡ first ++ flat_map (info_of contents) (entries_in es order)
infos_whole contents es order place end first last over is so within =
    sym (append-nil last) ∙ ap (λ z. last ++ flat_map (info_of contents) z) (sym (none_left es place end over)) ∙ so
    ∙ ap (λ z. first ++ flat_map (info_of contents) (take (z - order.start) (drop order.start es))) (is ∙ end_within order.end (length es) within)

-- the words of the first one of a row: here, further on, or nowhere
pub words_whole : (infos : List Info) (order : Order) (end row : ℕ) → end ≡ min order.end_info (length infos) → order.end_info ≤ length infos
    → words_in (take (end - order.first_info) (drop order.first_info infos)) row ≡ words_in (infos_in infos order) row
words_whole infos order end row is within =
    ap (λ z. words_in (take (z - order.first_info) (drop order.first_info infos)) row) (is ∙ end_within order.end_info (length infos) within)

pub words_here : (infos : List Info) (place end row : ℕ) (info : Info) (all : List ℕ) → place < end → slice_get infos place ≡ Some info → info.row ≡ row
    → words_in (take (end - place) (drop place infos)) row ≡ all → info.words ≡ all
words_here infos place end row info all less e same so =
    sym (ap (λ z. words_in z row) (range_first infos place end info less e)
    ∙ ap (λ b. if b then info.words else words_in (take (end - (place + 1)) (drop (place + 1) infos)) row) (eq-eqb info.row row same)) ∙ so

pub words_on : (infos : List Info) (place end row : ℕ) (info : Info) (all : List ℕ) → place < end → slice_get infos place ≡ Some info → (info.row ≡ row → ⊥)
    → words_in (take (end - place) (drop place infos)) row ≡ all → words_in (take (end - (place + 1)) (drop (place + 1) infos)) row ≡ all
words_on infos place end row info all less e other so =
    sym (ap (λ z. words_in z row) (range_first infos place end info less e)
    ∙ ap (λ b. if b then info.words else words_in (take (end - (place + 1)) (drop (place + 1) infos)) row) (ne_eqb info.row row other)) ∙ so

pub words_nowhere : (infos : List Info) (place end row : ℕ) (all : List ℕ) → end ≤ place → words_in (take (end - place) (drop place infos)) row ≡ all → [] ≡ all
words_nowhere infos place end row all over so = sym (ap (λ z. words_in z row) (none_left infos place end over)) ∙ so

-- by a number: what is kept of its action is what a run goes by
pub words_by : (setting : Setting) (change : Label → Change) (labels : List Label) (infos : List Info) (orders : List Order) (before : ℕ) (order : Order) (row : ℕ)
    → AreInfos setting change labels infos orders → slice_get orders before ≡ Some order
    → words_in (infos_in infos order) row ≡ words_at setting change labels (before + 1) row
words_by setting change labels infos orders before order row are e =
    let found = there labels orders before order are.count e in
    (are.each before found.0 order found.1 e).words row
    ∙ sym (ap (λ (z : Work). signed_words z.signs row)
    (at_number (λ t one. work_for t one.session (change one)) no_work (work_of_label change) (λ t one. refl) setting change labels before found.0 found.1))

pub words_past : (setting : Setting) (change : Label → Change) (labels : List Label) (infos : List Info) (orders : List Order) (before row : ℕ)
    → AreInfos setting change labels infos orders → slice_get orders before ≡ None → [] ≡ words_at setting change labels (before + 1) row
words_past setting change labels infos orders before row are e =
    sym (ap (λ n. words_at setting change labels n row) next
    ∙ ap (λ z. signed_words (work_of_label change (before_action setting change labels (suc before)) z).signs row) (past labels orders before are.count e)) where
      next : before + 1 ≡ suc before
      next = omega arith

      past : {A B : Type 0} (xs : List A) (ys : List B) (at : ℕ) → length ys ≡ length xs → slice_get ys at ≡ None → slice_get xs at ≡ None
      past [] ys at h e = refl
      past (x ∷ xs) [] at h e = absurd (omega (arith, h))
      past (x ∷ xs) (y ∷ ys) zero h e = absurd (cc)
      past (x ∷ xs) (y ∷ ys) (suc at) h e = past xs ys at (omega (arith, h)) e

pub words_found : (setting : Setting) (change : Label → Change) (labels : List Label) (infos kept : List Info) (orders all : List Order) (number row : ℕ) (order : Order)
    (words : List ℕ) → (number ≡ 0 → ⊥) → AreInfos setting change labels infos orders → kept ≡ infos → all ≡ orders
    → Some order ≡ slice_get all (number - 1) → (order.end_info ≤ length kept → words ≡ words_in (infos_in kept order) row)
    → words ≡ words_at setting change labels number row
words_found setting change labels infos kept orders all number row order words some are same alike e by =
    by (subst (λ z. order.end_info ≤ length z) (sym same) (are.each (number - 1) found.0 order found.1 here).within)
    ∙ ap (λ z. words_in (infos_in z order) row) same
    ∙ words_by setting change labels infos orders (number - 1) order row are here
    ∙ ap (λ n. words_at setting change labels n row) next where
      here : slice_get orders (number - 1) ≡ Some order
      here = sym (e ∙ ap (λ z. slice_get z (number - 1)) alike)

      found : (label : Label) × (slice_get labels (number - 1) ≡ Some label)
      found = there labels orders (number - 1) order are.count here

      next : (number - 1) + 1 ≡ number
      next = omega (arith, some)

pub words_missed : (setting : Setting) (change : Label → Change) (labels : List Label) (infos : List Info) (orders all : List Order) (number row : ℕ)
    → (number ≡ 0 → ⊥) → AreInfos setting change labels infos orders → all ≡ orders → None ≡ slice_get all (number - 1)
    → [] ≡ words_at setting change labels number row
words_missed setting change labels infos orders all number row some are alike e =
    words_past setting change labels infos orders (number - 1) row are (sym (e ∙ ap (λ z. slice_get z (number - 1)) alike))
    ∙ ap (λ n. words_at setting change labels n row) next where
      next : (number - 1) + 1 ≡ number
      next = omega (arith, some)

pub words_first : (setting : Setting) (change : Label → Change) (labels : List Label) (number row : ℕ) → number ≡ 0 → [] ≡ words_at setting change labels number row
words_first setting change labels number row e = sym (ap (λ n. words_at setting change labels n row) e)
