-- What is kept of an action, and of one action more.
use Rattle.std.proofs.Common.{◌≡◌, refl, ℕ, zero, suc, ◌+◌, ◌<◌, ◌≤◌, List, [], ◌∷◌, ◌++◌, get_or, length, take, sym, ◌∙◌, ap, subst, append_assoc, arith, Some, inl, inr}
use Rattle.std.specs.Prelude.{slice_get, ◌⊎◌}
use Rattle.std.specs.List.{flat_map}
use Rattle.std.proofs.lemmas.List.{append-nil, length-append, take_all, take_more}
use Rattle.std.proofs.lemmas.Option.{slice_get_within}
use Rattle.pfs_admin.specs.declared.changes.Change.{Change}
use Rattle.pfs_admin.specs.declared.changes.SetupStatement.{SetupStatement}
use Rattle.pfs_admin.specs.declared.changes.SetupStatement.TheVariants.{Show}
use Rattle.pfs_admin.specs.AdministrationStates.{State}
use Rattle.pfs_admin.specs.Fold.{state_from, state_of, stepped}
use Rattle.pfs_admin.specs.FoldLaws.{FixedLaw, StepLaw}
use Rattle.pfs_admin.specs.OpeningState.{opened}
use Rattle.pfs_admin.specs.SetupStatements.{has_changed, work_of_statement}
use Rattle.pfs_admin.specs.WordChanges.{flags_changed, words_changed}
use Rattle.pfs_board.specs.declared.view.Label.{Label}
use Rattle.pfs_classes.specs.declared.setting.Setting.{Setting}
use Rattle.pfs_containers.specs.ContainerState.{lost_in}
use Rattle.pfs_event.specs.declared.entry.Entry.{Entry}
use Rattle.pfs_event.specs.Logs.{Journal}
use Rattle.pfs_admin.specs.Works.{no_work}
use Rattle.pfs_law_session.specs.Demands.{answer_by, asked_by, no_rows, rooms_of}
use Rattle.pfs_law_session.specs.Orders.{no_rooms}
use Rattle.pfs_model.specs.ActionAsks.{asked_of}
use Rattle.pfs_runs.specs.Labels.{answer_of_label, answer_to, rooms_for, rooms_of_label, work_for, work_of_label}
use Rattle.pfs_check_blank.specs.AllAsked.{AreAsked, AreWritten, IsAsked, WholeLaw, every}
use Rattle.pfs_check_blank.specs.ReadyStores.{IsReady}
use Rattle.pfs_check_blank.specs.declared.blank.Blank.{Blank}
use Rattle.pfs_check_orders.specs.HeldCopies.{AreShown, IsCurrent, StandsAt}
use Rattle.pfs_check_orders.specs.declared.held.HeldTables.{HeldTables}
use Rattle.pfs_check_orders.proofs.ShownFacts.{at_stays, none_shown}
use Rattle.pfs_admin.specs.declared.changes.Change.TheVariants as changes
use Rattle.pfs_check_orders.specs.InfoWords.{AreInfos, HasInfos, info_of}
use Rattle.pfs_check_orders.specs.Replays.{IsReplayed}
use Rattle.pfs_check_orders.proofs.InfoFacts.{has_infos, infos_stay, none_written}
use Rattle.pfs_check_orders.proofs.ListRanges.{at_number, last_or, range_behind, range_stays, take_short, there}
use Rattle.pfs_check_orders.proofs.WrittenRows.{have_words}
use Rattle.pfs_check_orders.specs.declared.orders.Order.{Order}
use Rattle.pfs_check_orders.specs.declared.orders.Orders.{Orders}
use Rattle.pfs_check_orders.specs.ActionOrders.{AreOrders, IsNamed, IsNext, IsOrder, TermsLaw, entries_in}

-- an action's order, where a log got all that it asks for
pub is_next : (s : State) (session : ℕ) (what : Change) (head : List Entry) (n : ℕ) (old new : Journal) (order : Order)
    → length head ≡ n → IsAsked (work_for s session what) s.words head old new → order.start ≡ length old.entries + n
    → order.end ≡ length new.entries → rooms_of order.placed ≡ rooms_for s session what
    → answer_by order.reply ≡ answer_to s what → order.lost ≡ lost_in (stepped s session what).kept.now
    → IsNext s session what old.entries new.entries order
is_next s session what head n old new order few asked start end rooms answer lost = record {
  more = head ++ asked.asked;
  grown = asked.grown;
  order_is = record {
    within = omega (arith, end);
    asked = subst (AreAsked (work_for s session what) s.words) (sym part) asked.are;
    rooms = rooms;
    answer = answer;
    lost = lost;
  };
} where
  part : entries_in new.entries order ≡ asked.asked
  part =
      range_behind (old.entries ++ head) asked.asked new.entries order.start order.end
      (asked.grown ∙ sym (append_assoc old.entries head asked.asked))
      (length-append old.entries head ∙ ap (λ z. length old.entries + z) few ∙ sym start) end

-- entries behind those of an order change nothing of it
order_stays : (s : State) (session : ℕ) (what : Change) (entries more : List Entry) (order : Order) → IsOrder s session what entries order
    → IsOrder s session what (entries ++ more) order
order_stays s session what entries more order is = record {
  within = omega (arith, is.within, length-append entries more);
  asked = subst (AreAsked (work_for s session what) s.words) (sym (range_stays entries more order.start order.end is.within)) is.asked;
  rooms = is.rooms;
  answer = is.answer;
  lost = is.lost;
}

-- what holds of each action, and of one more, holds of all
pub each_more : (Old New : State → Label → Order → Type 0) (setting : Setting) (change : Label → Change) (labels : List Label) (label : Label) (s : State)
    (orders : List Order) (order : Order) → s ≡ state_of setting change labels → length orders ≡ length labels
    → ((t : State) (one : Label) (other : Order) → Old t one other → New t one other) → New s label order
    → ((before : ℕ) (one : Label) (other : Order) → slice_get labels before ≡ Some one → slice_get orders before ≡ Some other
    → Old (state_of setting change (take before labels)) one other)
    → (before : ℕ) (one : Label) (other : Order) → slice_get (labels ++ label ∷ []) before ≡ Some one
    → slice_get (orders ++ order ∷ []) before ≡ Some other
    → New (state_of setting change (take before (labels ++ label ∷ []))) one other
each_more Old New setting change labels label s orders order stands count grown own are before one other e f =
    on (last_or labels label one before e) (last_or orders order other before f) where
      State_at : ℕ → State
      State_at at = state_of setting change (take at (labels ++ label ∷ []))

      front : (at : ℕ) → at ≤ length labels → state_of setting change (take at labels) ≡ State_at at
      front at h = ap (state_of setting change) (sym (take_short labels (label ∷ []) at h))

      on : (slice_get labels before ≡ Some one) ⊎ ((before ≡ length labels) × (label ≡ one))
          → (slice_get orders before ≡ Some other) ⊎ ((before ≡ length orders) × (order ≡ other)) → New (State_at before) one other
      on (inl e) (inl f) =
          subst (λ z. New z one other) (front before (omega (arith, slice_get_within labels before one e)))
          (grown (state_of setting change (take before labels)) one other (are before one other e f))
      on (inl e) (inr f) = absurd (omega (arith, slice_get_within labels before one e, f.0, count))
      on (inr e) (inl f) = absurd (omega (arith, slice_get_within orders before other f, e.0, count))
      on (inr e) (inr f) =
          subst (λ z. New (State_at before) z other) e.1
          (subst (λ z. New (State_at before) label z) f.1
          (subst (λ z. New z label order)
          (stands ∙ ap (state_of setting change) (sym (take_all before labels (omega (arith, e.0)))) ∙ front before (omega (arith, e.0)))
          own))

pub count_more : (labels : List Label) (label : Label) (orders : List Order) (order : Order) → length orders ≡ length labels
    → length (orders ++ order ∷ []) ≡ length (labels ++ label ∷ [])
count_more labels label orders order count =
    length-append orders (order ∷ []) ∙ ap (λ z. z + 1) count ∙ sym (length-append labels (label ∷ []))

-- one action more
pub orders_more : (setting : Setting) (change : Label → Change) (labels : List Label) (label : Label) (s : State) (old new : List Entry)
    (orders : List Order) (order : Order) → s ≡ state_of setting change labels → AreOrders setting change labels old orders
    → IsNext s label.session (change label) old new order
    → AreOrders setting change (labels ++ label ∷ []) new (orders ++ order ∷ [])
orders_more setting change labels label s old new orders order stands are next = record {
  count = count_more labels label orders order are.count;
  each =
      each_more (λ t one other. IsOrder t one.session (change one) old other) (λ t one other. IsOrder t one.session (change one) new other)
      setting change labels label s orders order stands are.count
      (λ t one other is. subst (λ z. IsOrder t one.session (change one) z other) (sym next.grown) (order_stays t one.session (change one) old next.more other is))
      next.order_is are.each;
}

pub none_ordered : (setting : Setting) (change : Label → Change) → AreOrders setting change [] [] []
none_ordered setting change = record { count = refl; each = λ before label order e f. absurd (no before label e) } where
  no : (before : ℕ) (label : Label) → slice_get [] before ≡ Some label → ⊥
  no zero label e = absurd (cc)
  no (suc before) label e = absurd (cc)

pub terms_law : WholeLaw → TermsLaw
terms_law whole setting change facts labels entries orders are before order e =
    let found = there labels orders before order are.count e in
    let label : Label = found.0 in
    let s : State = state_of setting change (take before labels) in
    let is : IsOrder s label.session (change label) entries order = are.each before label order found.1 e in
    record {
      asked =
          whole (work_for s label.session (change label)) s.words (entries_in entries order) is.asked
          ∙ sym (ap (λ z. asked_of every (asked_by z))
          (at_number (λ t one. work_for t one.session (change one)) no_work (work_of_label change) (λ t one. refl) setting change labels before label found.1));
      rooms =
          is.rooms
          ∙ sym (at_number (λ t one. rooms_for t one.session (change one)) no_rooms (rooms_of_label change) (λ t one. refl) setting change labels before label found.1);
      answers =
          is.answer
          ∙ sym (at_number (λ t one. answer_to t (change one)) no_rows (answer_of_label change) (λ t one. refl) setting change labels before label found.1);
    }

-- before the first action
pub none_replayed : (setting : Setting) (change : Label → Change) (admin : State) (blank : Blank) (kept : Orders)
    → admin ≡ opened setting → IsReady admin.words blank → kept.entries.entries ≡ [] → ((s : State) → IsCurrent s kept.held) → kept.orders.items ≡ []
    → IsReplayed setting change [] admin blank kept
unfolding state_from
none_replayed setting change admin blank kept opens ready none current empty = record {
  shown = subst (λ z. AreShown setting change [] kept.held.tables.items z) (sym empty) (none_shown setting change kept.held.tables.items);
  current = current admin;
  infos = subst (λ z. AreInfos setting change [] kept.infos.items z) (sym empty) (none_written setting change kept.infos.items);
  stands = opens;
  ready = ready;
  orders =
      subst (λ z. AreOrders setting change [] z kept.orders.items) (sym none)
      (subst (λ z. AreOrders setting change [] [] z) (sym empty) (none_ordered setting change));
}

-- and behind one more
pub replayed_more : StepLaw → WholeLaw → (setting : Setting) (change : Label → Change) (labels : List Label) (label : Label) (session : ℕ) (what : Change)
    (old new : State) (blank after : Blank) (kept more : Orders) (asked ranged : Order) (held : ℕ) (copies : List HeldTables)
    → label.session ≡ session → change label ≡ what
    → IsReplayed setting change labels old blank kept → new ≡ stepped old session what → IsReady new.words after
    → IsNext old session what kept.entries.entries more.entries.entries asked
    → AreWritten (work_for old session what).signs after.contents.items
    → ranged ≡ record asked { first_info = length kept.infos.items; end_info = length more.infos.items }
    → (asked.end ≤ length more.entries.entries
    → more.infos.items ≡ kept.infos.items ++ flat_map (info_of after.contents.items) (entries_in more.entries.entries asked))
    → more.held.tables.items ≡ kept.held.tables.items ++ copies
    → (what ≡ changes.Setup Show → StandsAt old more.held.tables.items held)
    → IsCurrent (stepped old session what) more.held
    → more.orders.items ≡ kept.orders.items ++ record ranged { held = held } ∷ []
    → IsReplayed setting change (labels ++ label ∷ []) new after more
replayed_more law whole setting change labels label session what old new blank after kept more asked ranged held copies own named replayed step ready next written range infos copied shows current grown = record {
  stands = step ∙ (law session what old).stands setting change labels label own named replayed.stands;
  ready = ready;
  orders =
      subst (λ z. AreOrders setting change (labels ++ label ∷ []) more.entries.entries z) (sym grown)
      (orders_more setting change labels label old kept.entries.entries more.entries.entries kept.orders.items (record ranged { held = held }) replayed.stands replayed.orders
      (subst (λ z. IsNext old z (change label) kept.entries.entries more.entries.entries (record ranged { held = held })) (sym own)
      (subst (λ z. IsNext old session z kept.entries.entries more.entries.entries (record ranged { held = held })) (sym named) placed)));
  infos =
      subst (λ z. AreInfos setting change (labels ++ label ∷ []) more.infos.items z) (sym grown) (record {
        count = count_more labels label kept.orders.items (record ranged { held = held }) replayed.infos.count;
        each =
            each_more (λ t one other. HasInfos (work_for t one.session (change one)).signs kept.infos.items other)
            (λ t one other. HasInfos (work_for t one.session (change one)).signs more.infos.items other)
            setting change labels label old kept.orders.items (record ranged { held = held }) replayed.stands replayed.infos.count
            (λ t one other is. subst (λ z. HasInfos (work_for t one.session (change one)).signs z other) (sym added)
            (infos_stay (work_for t one.session (change one)).signs kept.infos.items _ other is))
            (subst (λ z. HasInfos (work_for old z (change label)).signs more.infos.items (record ranged { held = held })) (sym own)
            (subst (λ z. HasInfos (work_for old session z).signs more.infos.items (record ranged { held = held })) (sym named) here))
            replayed.infos.each;
      });
  shown =
      subst (λ z. AreShown setting change (labels ++ label ∷ []) more.held.tables.items z) (sym grown) (record {
        count = count_more labels label kept.orders.items (record ranged { held = held }) replayed.shown.count;
        each =
            each_more (λ t one other. change one ≡ changes.Setup Show → StandsAt t kept.held.tables.items other.held)
            (λ t one other. change one ≡ changes.Setup Show → StandsAt t more.held.tables.items other.held)
            setting change labels label old kept.orders.items (record ranged { held = held }) replayed.stands replayed.shown.count
            (λ t one other is e. subst (λ z. StandsAt t z other.held) (sym copied) (at_stays t kept.held.tables.items copies other.held (is e)))
            (λ e. shows (sym named ∙ e)) replayed.shown.each;
      });
  current = subst (λ z. IsCurrent z more.held) (sym step) current;
} where
  placed : IsNext old session what kept.entries.entries more.entries.entries (record ranged { held = held })
  placed =
      subst (λ (z : Order). IsNext old session what kept.entries.entries more.entries.entries (record z { held = held })) (sym range) (record {
        more = next.more;
        grown = next.grown;
        order_is = record {
          within = next.order_is.within;
          asked = next.order_is.asked;
          rooms = next.order_is.rooms;
          answer = next.order_is.answer;
          lost = next.order_is.lost;
        };
      })

  added : more.infos.items ≡ kept.infos.items ++ flat_map (info_of after.contents.items) (entries_in more.entries.entries asked)
  added = infos next.order_is.within

  here : HasInfos (work_for old session what).signs more.infos.items (record ranged { held = held })
  here =
      subst (λ (z : Order). HasInfos (work_for old session what).signs more.infos.items (record z { held = held })) (sym range)
      (has_infos whole (work_for old session what) old.words (entries_in more.entries.entries asked) after.contents.items kept.infos.items more.infos.items
      (record asked { first_info = length kept.infos.items; end_info = length more.infos.items; held = held }) refl refl added next.order_is.asked
      (have_words setting change labels session what old after.contents.items replayed.stands written))

-- a label more of those that were passed
pub labels_more : (labels : List Label) (i : ℕ) (first : Label) (P : List Label → Type 0) → i < length labels
    → P (take i labels ++ get_or labels i first ∷ []) → P (take (i + 1) labels)
labels_more labels i first P within = subst P (sym (take_more labels i first within))

-- the names stay those of the setting
pub named_still : FixedLaw → (setting : Setting) (change : Label → Change) (labels : List Label) (admin : State) (blank : Blank) (kept : Orders)
    (label : Label) (what : Change) → IsReplayed setting change labels admin blank kept → ((one : Label) → IsNamed setting.names (change one))
    → change label ≡ what → IsNamed admin.names what
named_still law setting change labels admin blank kept label what replayed named is =
    subst (λ z. IsNamed admin.names z) is
    (subst (λ z. IsNamed z (change label)) (sym (law setting change labels admin replayed.stands).0) (named label))

-- a statement that only reads asks for nothing
pub read_ready : (s new : State) (blank : Blank) → new ≡ has_changed s Show → IsReady s.words blank → IsReady new.words blank
unfolding words_changed
read_ready s new blank step ready = subst (λ z. IsReady z blank) (sym (ap (λ (z : State). z.words) step)) ready

pub read_asked : (s : State) (what : SetupStatement) (log : Journal) → what ≡ Show → IsAsked (work_of_statement s what) s.words [] log log
unfolding flags_changed
read_asked s what log e = subst (λ z. IsAsked (work_of_statement s z) s.words [] log log) (sym e) (record {
  asked = [];
  grown = sym (append-nil log.entries);
  are = record {
    changes = [];
    entries_are = refl;
    tell = tt;
    changes_are = refl;
  };
})
