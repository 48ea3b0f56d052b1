-- Worked examples.
use Rattle.std.proofs.Common.{◌≡◌, true, false, List, [], ◌∷◌, Some, None, refl, ℕ}
use Rattle.std.specs.Prelude.{codes, map}
use Rattle.pfs_text.specs.declared.values.RowValue.TheVariants.{Null, Number, Text}
use Rattle.pfs_tables.specs.EventRows.{Fields, event_in, event_head, are_event, fields_in}
use Rattle.pfs_tables.specs.TableOrders.{Keyed, put_rows, number_key, name_key}

abbrev words : ℕ → ℕ → ℕ → List ℕ
words third fourth spare = 1 ∷ 3 ∷ 3 ∷ third ∷ fourth ∷ spare ∷ 2 ∷ 15 ∷ 20 ∷ 0 ∷ 0 ∷ 0 ∷ 0 ∷ 0 ∷ 0 ∷ 0 ∷ []

-- a timed event of class 6 on table 1, which lies in event 2, a stage
abbrev one : Fields
one = record {
  session = 1;
  number = 3;
  last = 3;
  class = 6;
  link = 2;
  nesting = 3;
  parent = 2;
  start = 15;
  duration = 20;
  lock = 0;
  errors = 0;
  warnings = 0;
  affected = 0;
  sent = 0;
  examined = 0;
  ticket = 0;
  timed = true;
  read_only = false;
}

pub example_event : event_in (words 134 13 0) ≡ Some one
unfolding are_event fields_in
example_event = refl

-- class 63 is none, a fifth kind of nesting is none, and word 5 is 0
pub example_no_event : (event_in (words 63 13 0) ≡ None) × (event_in (words 6 20 0) ≡ None) × (event_in (words 6 13 1) ≡ None)
unfolding are_event fields_in
example_no_event = (refl, refl, refl)

pub example_ended : event_head one (codes "b")
    ≡ Number 1 ∷ Number 3 ∷ Number 3 ∷ Text (codes "b") ∷ Number 15 ∷ Number 35 ∷ Number 20 ∷ Number 2 ∷ Text (codes "STAGE") ∷ []
unfolding event_head
example_ended = refl

-- open, it has no end and only the start of its times; untimed, no times; in nothing, no number of what it lies in
pub example_open : event_head (record one { last = 0; duration = 0 }) (codes "b")
    ≡ Number 1 ∷ Number 3 ∷ Null ∷ Text (codes "b") ∷ Number 15 ∷ Null ∷ Null ∷ Number 2 ∷ Text (codes "STAGE") ∷ []
unfolding event_head
example_open = refl

pub example_untimed : event_head (record one { timed = false; nesting = 0 }) (codes "b")
    ≡ Number 1 ∷ Number 3 ∷ Number 3 ∷ Text (codes "b") ∷ Null ∷ Null ∷ Null ∷ Null ∷ Null ∷ []
unfolding event_head
example_untimed = refl

-- by ticket, and not by place; by the bytes of names, and where these are equal by place
pub example_order : map (λ (row : Keyed). row.1) (put_rows [] ((number_key 1001 0 10243, Number 1 ∷ []) ∷ (number_key 2 0 10244, Number 2 ∷ []) ∷ []))
    ≡ (Number 2 ∷ []) ∷ (Number 1 ∷ []) ∷ []
example_order = refl

pub example_names : map (λ (row : Keyed). row.1) (put_rows [] ((name_key (codes "b") [] 65, Number 1 ∷ []) ∷ (name_key (codes "a") [] 67, Number 2 ∷ []) ∷ (name_key (codes "a") [] 66, Number 3 ∷ []) ∷ []))
    ≡ (Number 3 ∷ []) ∷ (Number 2 ∷ []) ∷ (Number 1 ∷ []) ∷ []
example_names = refl
