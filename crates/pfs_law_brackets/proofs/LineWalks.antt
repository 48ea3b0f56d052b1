-- What a line's entries do to the events that are open, by the brackets.
use Rattle.std.proofs.Common.{ℕ, ◌≡◌, ◌+◌, Bool, cond, List, [], ◌∷◌, ◌++◌, length, map, take, drop, Option, Some, None, refl, ap, sym, ◌∙◌, subst, arith}
use Rattle.std.specs.Prelude.{slice_get, option_map}
use Rattle.std.specs.List.{range_with_len}
use Rattle.pfs_event.specs.Verdicts.{is_let_through}
use Rattle.pfs_event.specs.declared.entry.Entry.{Entry}
use Rattle.pfs_event.specs.declared.entry.Entry.TheVariants as says
use Rattle.pfs_event.specs.declared.kind.EventKind.{EventKind}
use Rattle.pfs_event.specs.declared.verdict.Verdict.{Verdict}
use Rattle.pfs_law_conservation.specs.RunEvents.{Ended, all_ended, ended_first}
use Rattle.pfs_model.specs.Chains.{Each, each_of, times}
use Rattle.pfs_model.specs.Contexts.{Context, after_entries, noted, subject_of, with_opened}
use Rattle.pfs_model.specs.EntryPlaces.{Placed, placed_part}
use Rattle.pfs_model.specs.EventNumbers.{AreNumbered, end_event_id, ending_id}
use Rattle.pfs_model.specs.declared.lines.Line.{Line}
use Rattle.pfs_model.specs.declared.lines.Opened.{Opened}
use Rattle.pfs_model.specs.declared.lines.Subject.{Subject}
use Rattle.pfs_runs.specs.PhaseFinals.{verdict_at}
use Rattle.pfs_runs.specs.ScriptLines.{subject_in}
use Rattle.pfs_script.specs.Brackets.{Opening, kinds_of, open_in}
use Rattle.pfs_script.specs.EventRules.{AreEvents}
use Rattle.pfs_script.specs.Events.{Event}
use Rattle.pfs_script.specs.Marks.{Mark}
use Rattle.pfs_script.specs.declared.blocks.BlockLine.{BlockLine}
use Rattle.pfs_law_brackets.specs.BracketNumbers.{EndsFirst, IsSaid, all_begun, id_of, line_of, lines_of, through_before}
use Rattle.pfs_law_brackets.proofs.EventLines.{ClosesAt, same_event}
use Rattle.pfs_law_brackets.proofs.LineTags.{Begins, asked, tags}

-- over these lines, whose events these are, where start lines gave them these verdicts
module _ (lines : List BlockLine) (events : List Event) (are : AreEvents lines events) (marks : List Mark) (verdicts : List Verdict) where
  -- an event of the journal's stack is that of an open bracket
  pub record IsOpen (opening : Opening) (one : Opened) : Type 0 where
    pub said : Event
    pub there : slice_get events one.index ≡ Some said
    pub place_is : said.opened ≡ opening.place
    pub kind_is : one.subject.kind ≡ opening.kind
    pub number_is : one.number ≡ id_of events verdicts said one.verdict

  abbrev pub AreOpen : List Opening → List Opened → Type 0
  AreOpen [] [] = Unit {0}
  AreOpen (opening ∷ openings) (one ∷ others) = IsOpen opening one × AreOpen openings others
  AreOpen _ _ = ⊥

  pub kinds_are : (openings : List Opening) (opened : List Opened) → AreOpen openings opened → map (λ (one : Opened). one.subject.kind) opened ≡ kinds_of openings
  kinds_are [] [] a = refl
  kinds_are [] (o ∷ os) a = absurd a
  kinds_are (g ∷ gs) [] a = absurd a
  kinds_are (g ∷ gs) (o ∷ os) a = ap (λ (k : EventKind). k ∷ map (λ (one : Opened). one.subject.kind) os) a.0.kind_is ∙ ap (λ (z : List EventKind). g.kind ∷ z) (kinds_are gs os a.1)

  lines_are : (openings : List Opening) (opened : List Opened) → AreOpen openings opened → map (line_of events) opened ≡ lines_of openings
  lines_are [] [] a = refl
  lines_are [] (o ∷ os) a = absurd a
  lines_are (g ∷ gs) [] a = absurd a
  lines_are (g ∷ gs) (o ∷ os) a =
      ap (λ (x : Option Event). option_map (λ (event : Event). event.opened) x ∷ map (line_of events) os) a.0.there ∙ (ap (λ n. Some n ∷ map (line_of events) os) a.0.place_is ∙ ap (λ z. Some g.place ∷ z) (lines_are gs os a.1))

  opened_then : (what : Option Subject) (s : Subject) → what ≡ Some s → (make : Subject → Opened) (others : List Opened) → with_opened what make others ≡ make s ∷ others
  opened_then what s e make others = ap (λ (z : Option Subject). with_opened z make others) e

  -- what entries did: from one context to another, they ended the events of these openings, left these open, and started
  -- so many
  pub record Does (c d : Context) (ps : List Placed) (shut left : List Opening) (many : ℕ) : Type 0 where
    pub as_many : length (each_of verdict_at ps) ≡ many
    pub opened : AreOpen left d.opened
    pub begun : d.begun ≡ c.begun + length (each_of verdict_at ps)
    pub drawn : d.drawn ≡ c.drawn + times is_let_through (each_of verdict_at ps)
    pub each : Each (λ (place : Placed). IsSaid marks events verdicts place place.entry) ps
    pub starts : all_begun ps ≡ range_with_len c.begun (length (each_of verdict_at ps))
    pub ended : map (λ (one : Ended). line_of events one.event) (all_ended ps) ≡ lines_of shut

  -- a line in this place
  module _ (phase session : ℕ) (line : Line) (place : ℕ) where
    abbrev part_of : Context → List Entry → List Placed
    part_of c part = placed_part phase session line c part

    -- the event that it starts, and the brackets that are open behind it
    pub record Starts (begun : ℕ) (left : List Opening) (new : Opening) : Type 0 where
      pub said : Event
      pub there : slice_get events begun ≡ Some said
      pub opened : said.opened ≡ place
      pub place_is : new.place ≡ place
      pub subject : subject_of line ≡ Some (subject_in said.subject)
      pub kind_is : (subject_in said.subject).kind ≡ new.kind
      pub around : lines_of (new ∷ left) ≡ lines_of (open_in (take (place + 1) marks))

    -- nothing starts or ends
    pub rest_does : (left : List Opening) (c : Context) (part : List Entry) → tags part ≡ [] → AreOpen left c.opened → AreNumbered (part_of c part) → Does c (after_entries (subject_of line) c part) (part_of c part) [] left 0
    rest_does left c [] t a n = record { as_many = refl; opened = a; begun = omega arith; drawn = omega arith; each = tt; starts = refl; ended = refl }
    rest_does left c (says.Start event verdict consumers thread class table ∷ es) t a n = absurd (cc)
    rest_does left c (says.End event last consumers thread ∷ es) t a n = absurd (cc)
    rest_does left c (e ∷ es) t a n =
        let r = rest_does left (noted (subject_of line) c e) es t a n.1 in
        record { as_many = r.as_many; opened = r.opened; begun = r.begun; drawn = r.drawn; each = (tt, r.each); starts = r.starts; ended = r.ended }

    -- one starts
    pub start_does : (left : List Opening) (new : Opening) (c : Context) (part : List Entry) → tags part ≡ Begins ∷ [] → AreOpen left c.opened → Starts c.begun left new → through_before place events verdicts ≡ c.drawn → AreNumbered (part_of c part)
        → Does c (after_entries (subject_of line) c part) (part_of c part) [] (new ∷ left) 1
    start_does left new c [] t a s before n = absurd (cc)
    start_does left new c (says.End event last consumers thread ∷ es) t a s before n = absurd (cc)
    start_does left new c (says.Start event verdict consumers thread class table ∷ es) t a s before n =
        let next : Context = noted (subject_of line) c (says.Start event verdict consumers thread class table) in
        let none : tags es ≡ [] = cc in
        let number : event ≡ id_of events verdicts s.said verdict = n.0 ∙ ap (λ k. cond (is_let_through verdict) (Some (k + 1)) None) (sym (ap (λ at. through_before at events verdicts) s.opened ∙ before)) in
        let is : IsOpen new (record { subject = subject_in s.said.subject; verdict = verdict; index = c.begun; number = event; consumers = consumers; thread = thread; class = class; table = table }) = record {
          said = s.said;
          there = s.there;
          place_is = s.opened ∙ sym s.place_is;
          kind_is = s.kind_is;
          number_is = number;
        } in
        let open_now : AreOpen (new ∷ left) next.opened =
        subst (AreOpen (new ∷ left)) (sym (opened_then (subject_of line) (subject_in s.said.subject) s.subject
        (λ what. record { subject = what; verdict = verdict; index = c.begun; number = event; consumers = consumers; thread = thread; class = class; table = table }) c.opened)) (is, a) in
        let r = rest_does (new ∷ left) next es none open_now n.1 in
        record {
          as_many = omega (arith, r.as_many);
          opened = r.opened;
          begun = omega (arith, r.begun);
          drawn = omega (arith, r.drawn);
          each = (
            record {
              said = s.said;
              there = s.there;
              subject = s.subject;
              number_is = number;
              around = ap (λ z. Some s.said.opened ∷ z) (lines_are left c.opened a)
                  ∙ (ap (λ k. Some k ∷ lines_of left) (s.opened ∙ sym s.place_is) ∙ (s.around ∙ ap (λ k. lines_of (open_in (take (k + 1) marks))) (sym s.opened)));
            },
            r.each,
          );
          starts = ap (λ z. c.begun ∷ z) r.starts;
          ended = r.ended;
        }
    start_does left new c (e ∷ es) t a s before n =
        let r = start_does left new (noted (subject_of line) c e) es t a s before n.1 in
        record { as_many = r.as_many; opened = r.opened; begun = r.begun; drawn = r.drawn; each = (tt, r.each); starts = r.starts; ended = r.ended }

    -- the innermost ends
    ends_one : (g : Opening) (c : Context) (number last : Option ℕ) (o : Opened) (os : List Opened) → c.opened ≡ o ∷ os → ClosesAt events place g → IsOpen g o → through_before place events verdicts ≡ c.drawn
        → number ≡ ending_id c.opened → last ≡ end_event_id c c.opened → EndsFirst events verdicts c.opened number last
    ends_one g c number last o os e k is before first second =
        let same : is.said ≡ k.said = same_event lines events are o.index k.index is.said k.said is.there k.there (is.place_is ∙ sym k.opened) in
        subst (λ (z : List Opened). EndsFirst events verdicts z number last) (sym e) (record {
          said = is.said;
          there = is.there;
          closed = place;
          closes = ap (λ (x : Event). x.closed) same ∙ k.closes;
          number_is = first ∙ (ap ending_id e ∙ is.number_is);
          last_is = second ∙ (ap (end_event_id c) e ∙ ap (λ n. cond (is_let_through o.verdict) (Some n) None) (sym before));
        })

    -- these end, and then what is asked besides
    abbrev Goes : Context → List Entry → List Opening → List Opening → ℕ → Type 0
    Goes c part shut left many = Does c (after_entries (subject_of line) c part) (part_of c part) shut left many

    pub ends_do : (b : Bool) (many : ℕ) (shut left behind : List Opening) (c : Context) (part : List Entry) → tags part ≡ asked (length shut) b → Each (ClosesAt events place) shut → AreOpen (shut ++ left) c.opened
        → through_before place events verdicts ≡ c.drawn → AreNumbered (part_of c part)
        → ((d : Context) (rest : List Entry) → tags rest ≡ asked 0 b → AreOpen left d.opened → d.begun ≡ c.begun → d.drawn ≡ c.drawn → AreNumbered (part_of d rest) → Goes d rest [] behind many)
        → Goes c part shut behind many
    ends_do b many [] left behind c part t k a before n go = go c part t a refl refl n
    ends_do b many (g ∷ gs) left behind c [] t k a before n go = absurd (cc)
    ends_do b many (g ∷ gs) left behind c (says.Start event verdict consumers thread class table ∷ es) t k a before n go = absurd (cc)
    ends_do b many (g ∷ gs) left behind c (says.End event last consumers thread ∷ es) t k a before n go =
        let next : Context = noted (subject_of line) c (says.End event last consumers thread) in
        let more : tags es ≡ asked (length gs) b = cc in
        on c.opened refl a (λ open_now. ends_do b many gs left behind next es more k.1 open_now before n.1 go) where
          on : (opened : List Opened) → c.opened ≡ opened → AreOpen ((g ∷ gs) ++ left) opened → (AreOpen (gs ++ left) (drop 1 c.opened) → Goes (noted (subject_of line) c (says.End event last consumers thread)) es gs behind many) → Goes c (says.End event last consumers thread ∷ es) (g ∷ gs) behind many
          on [] e open_now rest = absurd open_now
          on (o ∷ os) e open_now rest =
              let r = rest (subst (AreOpen (gs ++ left)) (sym (ap (drop 1) e)) open_now.1) in
              let here : line_of events o ≡ Some g.place = ap (λ (x : Option Event). option_map (λ (event : Event). event.opened) x) open_now.0.there ∙ ap (λ n. Some n) open_now.0.place_is in
              record {
                as_many = r.as_many;
                opened = r.opened;
                begun = r.begun;
                drawn = r.drawn;
                each = (ends_one g c event last o os e k.0 open_now.0 before n.0.0 n.0.1, r.each);
                starts = r.starts;
                ended = ap (λ (z : List Opened). map (λ (one : Ended). line_of events one.event) (ended_first (record { phase = phase; session = session; line = line; context = c; entry = says.End event last consumers thread }) z ++ all_ended (part_of (noted (subject_of line) c (says.End event last consumers thread)) es))) e
                    ∙ (ap (λ z. z ∷ map (λ (one : Ended). line_of events one.event) (all_ended (part_of (noted (subject_of line) c (says.End event last consumers thread)) es))) here ∙ ap (λ z. Some g.place ∷ z) r.ended);
              }
    ends_do b many (g ∷ gs) left behind c (e ∷ es) t k a before n go =
        let r = ends_do b many (g ∷ gs) left behind (noted (subject_of line) c e) es t k a before n.1 go in
        record { as_many = r.as_many; opened = r.opened; begun = r.begun; drawn = r.drawn; each = (tt, r.each); starts = r.starts; ended = r.ended }
