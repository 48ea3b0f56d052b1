-- An event's words give its fields, and words of no event none.
use Rattle.std.proofs.Common.{◌≡◌, ◌≢◌, ℕ, ◌+◌, ◌*◌, ◌/◌, ◌%◌, ◌≤◌, Bool, true, false, List, length, Option, Some, None, MatchOption, refl, sym, ◌∙◌, ap, arith}
use Rattle.std.specs.Prelude.{◌&&◌, ◌==◌, nat_le, if◌then◌else◌, slice_index}
use Rattle.std.proofs.lemmas.Bool.{eqb-true, le-leb, leb-true}
use Rattle.pfs_lemmas.proofs.Bools.{and_first, and_second}
use Rattle.pfs_event.specs.declared.event.Event.{Event}
use Rattle.pfs_event.specs.EventForm.{bit_of}
use Rattle.pfs_event.specs.EventWords.{words_of}
use Rattle.pfs_event.proofs.WordLemmas.{rebuilt_is}
use Rattle.pfs_tables.specs.EventRows.{fields_of, are_event, fields_in, event_in}

bit_low : (b : Bool) (n : ℕ) → ((bit_of b + 2 * n) % 2 == 1) ≡ b
bit_low true n = let e : (1 + 2 * n) % 2 ≡ 1 = omega arith in ap (λ k. k == 1) e
bit_low false n = let e : (0 + 2 * n) % 2 ≡ 0 = omega arith in ap (λ k. k == 1) e

timed_back : (a b : Bool) (n : ℕ) → ((bit_of a + 2 * bit_of b + 4 * n) % 2 == 1) ≡ a
timed_back a b n = let e : bit_of a + 2 * bit_of b + 4 * n ≡ bit_of a + 2 * (bit_of b + 2 * n) = omega arith in ap (λ k. k % 2 == 1) e ∙ bit_low a (bit_of b + 2 * n)

half : (a : Bool) (m : ℕ) → (bit_of a + 2 * m) / 2 ≡ m
half true m = omega arith
half false m = omega arith

read_only_back : (a b : Bool) (n : ℕ) → ((bit_of a + 2 * bit_of b + 4 * n) / 2 % 2 == 1) ≡ b
read_only_back a b n =
    let e : bit_of a + 2 * bit_of b + 4 * n ≡ bit_of a + 2 * (bit_of b + 2 * n) = omega arith in
    ap (λ k. k / 2 % 2 == 1) e ∙ (ap (λ k. k % 2 == 1) (half a (bit_of b + 2 * n)) ∙ bit_low b n)

bit_small : (b : Bool) → bit_of b ≤ 1
bit_small true = omega arith
bit_small false = omega arith

nesting_back : (a b : Bool) (n : ℕ) → (bit_of a + 2 * bit_of b + 4 * n) / 4 ≡ n
nesting_back a b n = omega (arith, bit_small a, bit_small b)

class_back : (c x : ℕ) → c ≤ 62 → (c + 64 * x) % 64 ≡ c
class_back c x low = omega arith

link_back : (c x : ℕ) → c ≤ 62 → (c + 64 * x) / 64 ≡ x
link_back c x low = omega arith

pub some_event : (e : Event) → event_in (words_of e) ≡ Some (fields_of e)
unfolding are_event fields_in
some_event e =
    let class = class_back e.class e.link e.class_fits in
    let link = link_back e.class e.link e.class_fits in
    let nesting = nesting_back e.timed e.read_only e.nesting in
    rw (
      class,
      link,
      nesting,
      timed_back e.timed e.read_only e.nesting,
      read_only_back e.timed e.read_only e.nesting,
      le-leb e.class 62 e.class_fits,
      le-leb e.link 64 e.link_fits,
      le-leb e.nesting 4 e.nesting_fits,
    ) refl

-- what the test of words says
pub record IsForm (words : List ℕ) : Type 0 where
  pub class : slice_index words 3 % 64 ≤ 62
  pub link : slice_index words 3 / 64 ≤ 64
  pub nesting : slice_index words 4 / 4 ≤ 4
  pub spare : slice_index words 5 ≡ 0

form_of : (words : List ℕ) → are_event words ≡ true → IsForm words
unfolding are_event
form_of words is =
    let class = nat_le (slice_index words 3 % 64) 62 in
    let link = nat_le (slice_index words 3 / 64) 64 in
    let nesting = nat_le (slice_index words 4 / 4) 4 in
    let spare = slice_index words 5 == 0 in
    let after = and_second class (link && (nesting && spare)) is in
    let last = and_second link (nesting && spare) after in
    record {
      class = leb-true _ 62 (and_first class (link && (nesting && spare)) is);
      link = leb-true _ 64 (and_first link (nesting && spare) after);
      nesting = leb-true _ 4 (and_first nesting spare last);
      spare = eqb-true _ 0 (and_second nesting spare last);
    }

built : (words : List ℕ) → IsForm words → Event
built words form = record {
  session = slice_index words 0;
  number = slice_index words 1;
  last = slice_index words 2;
  class = slice_index words 3 % 64;
  link = slice_index words 3 / 64;
  nesting = slice_index words 4 / 4;
  parent = slice_index words 6;
  start = slice_index words 7;
  duration = slice_index words 8;
  lock = slice_index words 9;
  errors = slice_index words 10;
  warnings = slice_index words 11;
  affected = slice_index words 12;
  sent = slice_index words 13;
  examined = slice_index words 14;
  ticket = slice_index words 15;
  timed = slice_index words 4 % 2 == 1;
  read_only = slice_index words 4 / 2 % 2 == 1;
  class_fits = form.class;
  link_fits = form.link;
  nesting_fits = form.nesting;
}

built_words : (words : List ℕ) (form : IsForm words) → length words ≡ 16 → words_of (built words form) ≡ words
unfolding built
built_words words form long = rebuilt_is words long form.spare

no_event : (words : List ℕ) → length words ≡ 16 → ((e : Event) → words_of e ≢ words) → (b : Bool) → are_event words ≡ b → event_in words ≡ None
no_event words long none false is = ap (λ b. if b then Some (fields_in words) else None) is
no_event words long none true is = absurd (none (built words (form_of words is)) (built_words words (form_of words is) long))

-- what `of_words` answers is what the words say
pub event_matches : (words : List ℕ) → length words ≡ 16 → (r : Option Event) → MatchOption r ((e : Event) → words_of e ≢ words) (λ e. words_of e ≡ words)
    → MatchOption r (event_in words ≡ None) (λ e. event_in words ≡ Some (fields_of e))
event_matches words long None none = no_event words long none (are_event words) refl
event_matches words long (Some e) is = ap event_in (sym is) ∙ some_event e
