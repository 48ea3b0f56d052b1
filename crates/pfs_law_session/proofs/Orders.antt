-- The orders of the parts themselves are orders.
use Rattle.std.proofs.Common.{ℕ, ◌≡◌, ◌≤◌, ◌+◌, ◌==◌, ◌<◌, Bool, true, false, cond, List, [], ◌∷◌, ◌++◌, map, Option, Some, None, inl, inr, ne_eqb, eq-eqb, refl, ap, sym, ◌∙◌, subst, arith}
use Rattle.std.specs.Prelude.{nat_lt, if◌then◌else◌, IfSome, ◌⊎◌}
use Rattle.std.proofs.lemmas.Bool.{false≢true, ltb-true, ltb-false}
use Rattle.pfs_model.proofs.EachLists.{each_behind, each_front}
use Rattle.pfs_admin.proofs.ActionRows.{connect_rows, quit_rows, higher}
use Rattle.pfs_admin.specs.ConnectionAsks.{connect_work, quit_work}
use Rattle.pfs_admin.specs.FoldLaws.{row_of}
use Rattle.pfs_admin.specs.AdministrationStates.{seat_at, seat_in, has_quit, connected, thread_flags}
use Rattle.pfs_admin.specs.Works.{Sign, Releases, Tags}
use Rattle.pfs_containers.specs.ContainerState.{IsInRange}
use Rattle.pfs_containers.specs.declared.containers.Seated.{Seated}
use Rattle.pfs_levels.specs.Flushes.{Ascends}
use Rattle.pfs_model.specs.ActionAsks.{Answer, Rooms}
use Rattle.pfs_model.specs.Chains.{Each, times}
use Rattle.pfs_model.specs.Contents.{Given}
use Rattle.pfs_law_session.specs.Amounts.{AllContentsAgree}
use Rattle.pfs_law_session.specs.Deeds.{Deed, Connecting, Starting, Staging, StageEnding, Ending, Spending, Quitting, Truncating, Changing, Showing, Querying, Refusing, Closing, Part}
use Rattle.pfs_law_session.specs.Stints.{Stint}
use Rattle.pfs_law_session.proofs.SingleTakes.{apart}
use Rattle.pfs_law_session.proofs.RunContents.{run}
use Rattle.pfs_law_session.proofs.Takes.{counted}
use Rattle.pfs_law_session.specs.Demands.{AreAnswers, AreOrders, AreRooms, AreWords, no_rows, number_of, work_of}
use Rattle.pfs_law_session.specs.AllActions.{AllOrders, IsOrdered, numbers_of, all_numbers, nothing_asked}
use Rattle.pfs_law_session.specs.Takes.{AreSeated, IsSeated, IsSeatedStint, AllCounted, CountedIn}
use Rattle.pfs_law_session.specs.Orders.{Acting, actings_of, all_actings, of_number, no_rooms, rooms_for, answers_for, signed_words, asked_for, room_for, answer_for, words_for, no_words, orders_of, words_of_all, WholeLaw}

abbrev number_in : Acting → ℕ
number_in one = number_of one.deed

abbrev numbers_in : List Acting → List ℕ
numbers_in [] = []
numbers_in (one ∷ others) = number_in one ∷ numbers_in others

parts_numbers : (session : ℕ) (ps : List Part) (rest : List Acting) → numbers_in (actings_of session ps ++ rest) ≡ numbers_of ps ++ numbers_in rest
parts_numbers session [] rest = refl
parts_numbers session (p ∷ ps) rest = ap (λ z. number_of p.deed ∷ z) (parts_numbers session ps rest)

stints_numbers : (stints : List Stint) → numbers_in (all_actings stints) ≡ all_numbers stints
stints_numbers [] = refl
stints_numbers (stint ∷ stints) = parts_numbers stint.session stint.parts (all_actings stints) ∙ ap (λ z. numbers_of stint.parts ++ z) (stints_numbers stints)

abbrev IsUnique : List ℕ → Type 0
IsUnique ns = (number : ℕ) → 0 < number → times (λ n. n == number) ns ≤ 1

sum_small : (x y : ℕ) → (x + y) ≤ 1 → y ≤ 1
sum_small x y h = omega (arith, h)

sum_more : (x y : ℕ) → 1 ≤ y → 1 ≤ (x + y)
sum_more x y h = omega (arith, h)

-- each is there
more_there : (a : ℕ) (full some : List Acting) → Each (λ one. 1 ≤ times (λ n. n == number_in one) (numbers_in full)) some
    → Each (λ one. 1 ≤ times (λ n. n == number_in one) (a ∷ numbers_in full)) some
more_there a full [] e = tt
more_there a full (one ∷ some) e = (sum_more (cond (a == number_in one) 1 0) (times (λ n. n == number_in one) (numbers_in full)) e.0, more_there a full some e.1)

all_there : (full : List Acting) → Each (λ one. 1 ≤ times (λ n. n == number_in one) (numbers_in full)) full
all_there [] = tt
all_there (one ∷ others) = (at (number_in one == number_in one) (eq-eqb (number_in one) (number_in one) refl), more_there (number_in one) others others (all_there others)) where
  at : (b : Bool) → b ≡ true → 1 ≤ (cond b 1 0 + times (λ n. n == number_in one) (numbers_in others))
  at true e = omega arith
  at false e = absurd (false≢true e)

-- what is given by a number
abbrev Gives : {A : Type 0} → (Acting → A) → A → List Acting → Acting → Type 0
Gives give none full one = 0 < number_in one → of_number give none full (number_in one) ≡ give one

still_gives : {A : Type 0} (give : Acting → A) (none : A) (one : Acting) (others some : List Acting) → IsUnique (number_in one ∷ numbers_in others)
    → Each (λ other. 1 ≤ times (λ n. n == number_in other) (numbers_in others)) some → Each (Gives give none others) some → Each (Gives give none (one ∷ others)) some
still_gives give none one others [] u there g = tt
still_gives {A} give none one others (other ∷ some) u there g = (own, still_gives give none one others some u there.1 g.1) where
  at : (b : Bool) → (cond b 1 0 + times (λ n. n == number_in other) (numbers_in others)) ≤ 1 → of_number give none others (number_in other) ≡ give other
      → (if b then give one else of_number give none others (number_in other)) ≡ give other
  at true few e = absurd (omega (arith, few, there.0))
  at false few e = e

  own : Gives give none (one ∷ others) other
  own p = at (number_in one == number_in other) (u (number_in other) p) (g.0 p)

all_give : {A : Type 0} (give : Acting → A) (none : A) (full : List Acting) → IsUnique (numbers_in full) → Each (Gives give none full) full
all_give give none [] u = tt
all_give {A} give none (one ∷ others) u = (
  (λ p. ap (λ b. if b then give one else of_number give none others (number_in one)) (eq-eqb (number_in one) (number_in one) refl)),
  still_gives give none one others others u (all_there others)
      (all_give give none others (λ number p. sum_small (cond (number_in one == number) 1 0) (times (λ n. n == number) (numbers_in others)) (u number p))),
)

none_gives : {A : Type 0} (give : Acting → A) (none : A) (full : List Acting) (number : ℕ) → times (λ n. n == number) (numbers_in full) ≡ 0 → of_number give none full number ≡ none
none_gives give none [] number e = refl
none_gives {A} give none (one ∷ others) number e = at (number_in one == number) e (none_gives give none others number) where
  at : (b : Bool) → (cond b 1 0 + times (λ n. n == number) (numbers_in others)) ≡ 0 → (times (λ n. n == number) (numbers_in others) ≡ 0 → of_number give none others number ≡ none)
      → (if b then give one else of_number give none others number) ≡ none
  at true e rest = absurd (omega (arith, e))
  at false e rest = rest (omega (arith, e))

-- signs of ascending rows
still_signed : (low limit row : ℕ) (words : List ℕ) (some others : List Sign) → row < low → Ascends low limit (map row_of some) → AreWords (signed_words others) some
    → AreWords (signed_words (Tags row words ∷ others)) some
still_signed low limit row words [] others l a w = tt
still_signed low limit row words (Releases released ∷ some) others l a w = still_signed (released + 1) limit row words some others (omega (arith, l, a.0)) a.1.1 w
still_signed low limit row words (Tags tagged more ∷ some) others l a w = (
  ap (λ b. if b then words else signed_words others tagged) (ne_eqb row tagged (λ q. absurd (omega (arith, q, l, a.0)))) ∙ w.0,
  still_signed (tagged + 1) limit row words some others (omega (arith, l, a.0)) a.1.1 w.1,
)

all_signed : (low limit : ℕ) (signs : List Sign) → Ascends low limit (map row_of signs) → AreWords (signed_words signs) signs
all_signed low limit [] a = tt
all_signed low limit (Releases row ∷ signs) a = all_signed (row + 1) limit signs a.1.1
all_signed low limit (Tags row words ∷ signs) a =
    (ap (λ b. if b then words else signed_words signs row) (eq-eqb row row refl), still_signed (row + 1) limit row words signs signs (omega arith) a.1.1 (all_signed (row + 1) limit signs a.1.1))

signs_ascend : (session : ℕ) (deed : Deed) → IsSeated session deed → Ascends 1 14242 (map row_of (work_of session deed).signs)
signs_ascend session (Connecting admin user host) is = by_seat (seat_at admin session user host) is where
  by_seat : (seat : Option Seated) → IfSome seat IsInRange → Ascends 1 14242 (map row_of (connect_work admin.words (thread_flags admin user host) (connected admin session user host).kept.now seat).signs)
  by_seat None h = tt
  by_seat (Some seat) h =
      higher 1 129 14242 (map row_of (connect_work admin.words (thread_flags admin user host) (connected admin session user host).kept.now (Some seat)).signs) (omega arith)
      (connect_rows admin.words (thread_flags admin user host) (connected admin session user host).kept.now seat h)
signs_ascend session (Quitting admin) is = by_seat (seat_in admin session) is.1 where
  by_seat : (seat : Option Seated) → IfSome seat IsInRange → Ascends 1 14242 (map row_of (quit_work admin.words admin.cells (has_quit admin session).kept.now seat).signs)
  by_seat None h = tt
  by_seat (Some seat) h =
      higher 1 10242 14242 (map row_of (quit_work admin.words admin.cells (has_quit admin session).kept.now (Some seat)).signs) (omega arith)
      (quit_rows admin.words admin.cells (has_quit admin session).kept.now seat h is.0).1
signs_ascend session (Truncating admin what) is = is.1
signs_ascend session (Changing admin what) is = tt
signs_ascend session (Showing admin count) is = tt
signs_ascend session (Querying found count) is = tt
signs_ascend session (Refusing error) is = tt
signs_ascend session (Starting subject) is = tt
signs_ascend session (Staging subject) is = tt
signs_ascend session StageEnding is = tt
signs_ascend session (Ending numbers) is = tt
signs_ascend session (Spending time) is = tt
signs_ascend session Closing is = tt

deed_rooms : (rooms : ℕ → Rooms) (session : ℕ) (deed : Deed) → rooms (number_of deed) ≡ rooms_for session deed → AreRooms rooms session deed
deed_rooms rooms session (Connecting admin user host) e = e
deed_rooms rooms session (Quitting admin) e = tt
deed_rooms rooms session (Truncating admin what) e = tt
deed_rooms rooms session (Changing admin what) e = tt
deed_rooms rooms session (Showing admin count) e = tt
deed_rooms rooms session (Querying found count) e = tt
deed_rooms rooms session (Refusing error) e = tt
deed_rooms rooms session (Starting subject) e = tt
deed_rooms rooms session (Staging subject) e = tt
deed_rooms rooms session StageEnding e = tt
deed_rooms rooms session (Ending numbers) e = tt
deed_rooms rooms session (Spending time) e = tt
deed_rooms rooms session Closing e = tt

deed_answers : (answers : ℕ → Answer) (deed : Deed) → answers (number_of deed) ≡ answers_for deed → AreAnswers answers deed
deed_answers answers (Truncating admin what) e = e
deed_answers answers (Changing admin what) e = e
deed_answers answers (Connecting admin user host) e = tt
deed_answers answers (Quitting admin) e = tt
deed_answers answers (Showing admin count) e = tt
deed_answers answers (Querying found count) e = tt
deed_answers answers (Refusing error) e = tt
deed_answers answers (Starting subject) e = tt
deed_answers answers (Staging subject) e = tt
deed_answers answers StageEnding e = tt
deed_answers answers (Ending numbers) e = tt
deed_answers answers (Spending time) e = tt
deed_answers answers Closing e = tt

parts_orders : (given : Given) (content : ℕ → ℕ → List ℕ) (all : List Stint) (session : ℕ) (ps : List Part) → given.info_words ≡ words_of_all all → AreSeated session ps
    → Each (Gives asked_for nothing_asked (all_actings all)) (actings_of session ps) → Each (Gives room_for no_rooms (all_actings all)) (actings_of session ps)
    → Each (Gives answer_for no_rows (all_actings all)) (actings_of session ps)
    → Each (Gives words_for no_words (all_actings all)) (actings_of session ps) → CountedIn content (orders_of content all).counted ps
    → AllOrders (orders_of content all) given content session ps
parts_orders given content all session [] info seated a r n w c = tt
parts_orders given content all session (p ∷ ps) info seated a r n w c =
    let signs : List Sign = (work_of session p.deed).signs in
    let own : 0 < number_of p.deed → AreOrders (orders_of content all) given content session p = λ q. record {
      asked = a.0 q;
      rooms = deed_rooms (orders_of content all).rooms session p.deed (r.0 q);
      answers = deed_answers (orders_of content all).answers p.deed (n.0 q);
      counted = c.0;
      words = subst (λ z. AreWords z signs) (sym (ap (λ z. z (number_of p.deed)) info ∙ w.0 q)) (all_signed 1 14242 signs (signs_ascend session p.deed seated.0));
    } in
    (own, parts_orders given content all session ps info seated.1 a.1 r.1 n.1 w.1 c.1)

stints_are : (given : Given) (content : ℕ → ℕ → List ℕ) (all stints : List Stint) → given.info_words ≡ words_of_all all → Each IsSeatedStint stints
    → Each (λ stint. AllContentsAgree content stint.parts) stints
    → Each (Gives asked_for nothing_asked (all_actings all)) (all_actings stints) → Each (Gives room_for no_rooms (all_actings all)) (all_actings stints)
    → Each (Gives answer_for no_rows (all_actings all)) (all_actings stints)
    → Each (Gives words_for no_words (all_actings all)) (all_actings stints) → AllCounted content (orders_of content all).counted stints
    → Each (IsOrdered (orders_of content all) given content) stints
stints_are given content all [] info are calls a r n w c = tt
stints_are given content all (stint ∷ stints) info are calls a r n w c =
    let xs : List Acting = actings_of stint.session stint.parts in
    let ys : List Acting = all_actings stints in (
      record {
        done = are.0.done;
        contents = calls.0;
        told = parts_orders given content all stint.session stint.parts info are.0.seated (each_front _ xs ys a) (each_front _ xs ys r) (each_front _ xs ys n) (each_front _ xs ys w) c.0;
      },
      stints_are given content all stints info are.1 calls.1 (each_behind _ xs ys a) (each_behind _ xs ys r) (each_behind _ xs ys n) (each_behind _ xs ys w) c.1,
    )

pub whole : WholeLaw
whole = λ given content stints info are calls unique.
    let full : List Acting = all_actings stints in
    let own : IsUnique (numbers_in full) = subst IsUnique (sym (stints_numbers stints)) unique in
    run (orders_of content stints) given content stints
    (stints_are given content stints stints info are calls (all_give asked_for nothing_asked full own) (all_give room_for no_rooms full own) (all_give answer_for no_rows full own)
    (all_give words_for no_words full own)
    (counted content stints (apart stints are unique)))
    (λ number p. at content stints number (nat_lt 0 (times (λ n. n == number) (all_numbers stints))) refl (unique number p)) where
      at : (content : ℕ → ℕ → List ℕ) (stints : List Stint) (number : ℕ) (b : Bool) → nat_lt 0 (times (λ n. n == number) (all_numbers stints)) ≡ b → times (λ n. n == number) (all_numbers stints) ≤ 1
          → (times (λ n. n == number) (all_numbers stints) ≡ 1) ⊎ ((times (λ n. n == number) (all_numbers stints) ≡ 0) × ((orders_of content stints).asked number ≡ nothing_asked))
      at content stints number true e few = inl (omega (arith, ltb-true 0 (times (λ n. n == number) (all_numbers stints)) e, few))
      at content stints number false e few =
          let none : times (λ n. n == number) (all_numbers stints) ≡ 0 = omega (arith, ltb-false 0 (times (λ n. n == number) (all_numbers stints)) e) in
          inr (none, none_gives asked_for nothing_asked (all_actings stints) number (ap (times (λ n. n == number)) (stints_numbers stints) ∙ none))
