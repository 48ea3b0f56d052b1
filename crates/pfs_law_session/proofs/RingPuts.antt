-- Entries that tell of puts: what a line's shape allows of them, and that they tell of nothing else.
use Rattle.std.proofs.Common.{ℕ, ◌≡◌, Bool, true, false, List, [], ◌∷◌, ◌++◌, Option, Some, None, refl, ap, sym, ◌∙◌, subst}
use Rattle.std.specs.Prelude.{Ok}
use Rattle.std.proofs.lemmas.Bool.{true≢false}
use Rattle.pfs_event.specs.declared.entry.Entry.{Entry}
use Rattle.pfs_event.specs.declared.entry.Entry.TheVariants as says
use Rattle.pfs_event.specs.declared.event.Event.{Event}
use Rattle.pfs_event.specs.declared.kind.EventKind.{EventKind}
use Rattle.pfs_event.specs.declared.open.Open.{Open}
use Rattle.pfs_levels.specs.Calls.{Call}
use Rattle.pfs_levels.specs.declared.answers.RingPut.{RingPut}
use Rattle.pfs_levels.specs.declared.answers.RingPut.TheVariants as told
use Rattle.pfs_model.specs.EntryAsks.{is_head}
use Rattle.pfs_model.specs.Causes.{long_row}
use Rattle.pfs_model.specs.Contexts.{Context, noted, after_entries, subject_of}
use Rattle.pfs_model.specs.Cuts.{cut}
use Rattle.pfs_model.specs.Shapes.{puts}
use Rattle.pfs_model.specs.declared.lines.Line.{Line}
use Rattle.pfs_model.specs.declared.lines.Subject.{Subject}
use Rattle.pfs_rings.specs.Offers.{Says}
use Rattle.pfs_rings.specs.declared.puts.Put.{Put}
use Rattle.pfs_rings.specs.declared.puts.Put.TheVariants.{Done, Busy, Late}
use Rattle.pfs_rings.specs.declared.rings.Ring.TheVariants.{Current, History, Long}
use Rattle.pfs_session.specs.Ends.{PutsAtEnd}
use Rattle.pfs_session.specs.EventPuts.{PutAt, PutLong, PutIf, PutIn, put_entries}
use Rattle.pfs_session.specs.SessionStates.{State}
use Rattle.pfs_session.specs.declared.events.Numbers.{Numbers}
use Rattle.pfs_law_session.proofs.ActionShapes.{AreAll, all_then}
use Rattle.pfs_law_session.proofs.LinePieces.{IsPiece, piece_none, piece_then, piece_plain, is_plain}

abbrev pub is_ring : Entry → Bool
is_ring (says.Ring row version) = true
is_ring (says.Long row version ticket) = true
is_ring (says.Busy row first second) = true
is_ring (says.Late row ticket greater) = true
is_ring _ = false

pub put_ring : (put : Option Put) → AreAll true is_ring (put_entries put)
put_ring None = tt
put_ring (Some (Done row version None)) = (refl, tt)
put_ring (Some (Done row version (Some ticket))) = (refl, tt)
put_ring (Some (Busy row first second)) = (refl, tt)
put_ring (Some (Late row ticket greater)) = (refl, tt)

pub rings_of : (s : State) (slot : ℕ) (what : Open) (numbers : Numbers) (consumers thread : ℕ) (calls : List Call) (entries : List Entry) (after : State)
    → PutsAtEnd s slot what numbers consumers thread calls entries after → AreAll true is_ring entries
rings_of s slot what numbers consumers thread calls entries after x =
    subst (AreAll true is_ring) (sym x.entries_are)
    (all_then true is_ring (put_entries x.current) (put_entries x.history ++ put_entries x.long) (put_ring x.current)
    (all_then true is_ring (put_entries x.history) (put_entries x.long) (put_ring x.history) (put_ring x.long)))

-- they tell of no event, and begin nothing
pub ring_keeps : (subject : Option Subject) (context : Context) (e : Entry) → is_ring e ≡ true → noted subject context e ≡ context
ring_keeps None context (says.Ring row version) q = refl
ring_keeps None context (says.Long row version ticket) q = refl
ring_keeps None context (says.Busy row first second) q = refl
ring_keeps None context (says.Late row ticket greater) q = refl
ring_keeps (Some subject) context (says.Ring row version) q = refl
ring_keeps (Some subject) context (says.Long row version ticket) q = refl
ring_keeps (Some subject) context (says.Busy row first second) q = refl
ring_keeps (Some subject) context (says.Late row ticket greater) q = refl
ring_keeps subject context _ q = absurd (true≢false (sym q))

pub rings_keep : (subject : Option Subject) (context : Context) (es : List Entry) → AreAll true is_ring es → after_entries subject context es ≡ context
rings_keep subject context [] q = refl
rings_keep subject context (e ∷ es) q = ap (λ z. after_entries subject z es) (ring_keeps subject context e q.0) ∙ rings_keep subject context es q.1

pub ring_plain : (e : Entry) → is_ring e ≡ true → is_plain e ≡ true
ring_plain (says.Ring row version) q = refl
ring_plain (says.Long row version ticket) q = refl
ring_plain (says.Busy row first second) q = refl
ring_plain (says.Late row ticket greater) q = refl
ring_plain _ q = absurd (true≢false (sym q))

pub ring_behind : (e : Entry) → is_ring e ≡ true → is_head e ≡ false
ring_behind (says.Ring row version) q = refl
ring_behind (says.Long row version ticket) q = refl
ring_behind (says.Busy row first second) q = refl
ring_behind (says.Late row ticket greater) q = refl
ring_behind _ q = absurd (true≢false (sym q))

pub rings_piece : (flags : ℕ → ℕ → ℕ) (stack : ℕ) (line : Line) (context : Context) (es : List Entry) → AreAll true is_ring es → IsPiece flags stack line context es context
rings_piece flags stack line context [] q = piece_none flags stack line context
rings_piece flags stack line context (e ∷ es) q =
    let one : IsPiece flags stack line context (e ∷ []) context =
    subst (IsPiece flags stack line context (e ∷ [])) (ring_keeps (subject_of line) context e q.0) (piece_plain flags stack line context e (ring_plain e q.0)) in
    piece_then flags stack line context context context (e ∷ []) es one (rings_piece flags stack line context es q.1)

-- a put to a place of a thread has no ticket, one to the long history has
abbrev pub IsShort : Option Put → Type 0
IsShort None = Unit {0}
IsShort (Some (Done row version None)) = Unit {0}
IsShort (Some (Done row version (Some ticket))) = ⊥
IsShort (Some (Busy row first second)) = Unit {0}
IsShort (Some (Late row ticket greater)) = ⊥

abbrev pub IsFar : Option Put → Type 0
IsFar None = Unit {0}
IsFar (Some (Done row version None)) = ⊥
IsFar (Some (Done row version (Some ticket))) = Unit {0}
IsFar (Some (Busy row first second)) = Unit {0}
IsFar (Some (Late row ticket greater)) = Unit {0}

pub short_at : (row : ℕ) (event : Event) (put : Put) (calls : List Call) → PutAt row None [] event put calls → IsShort (Some put)
short_at row event put calls x = by_answer x.answer x.says where
  by_answer : (answer : RingPut) → Says row None answer put → IsShort (Some put)
  by_answer (told.Done version) e = subst (λ z. IsShort (Some z)) (sym e) tt
  by_answer (told.Busy first second) e = subst (λ z. IsShort (Some z)) (sym e) tt
  by_answer (told.Late greater version) e = absurd e

pub far_at : (kind : ℕ) (event : Event) (put : Put) (calls : List Call) → PutLong kind event put calls → IsFar (Some put)
far_at kind event put calls x = by_answer x.at.answer x.at.says where
  by_answer : (answer : RingPut) → Says (long_row kind x.ticket) (Some x.ticket) answer put → IsFar (Some put)
  by_answer (told.Done version) e = subst (λ z. IsFar (Some z)) (sym e) tt
  by_answer (told.Busy first second) e = subst (λ z. IsFar (Some z)) (sym e) tt
  by_answer (told.Late greater version) e = subst (λ z. IsFar (Some z)) (sym e.0) tt

none_short : (put : Option Put) → put ≡ None → IsShort put
none_short put e = subst IsShort (sym e) tt

none_far : (put : Option Put) → put ≡ None → IsFar put
none_far put e = subst IsFar (sym e) tt

pub current_short : (due : Bool) (slot : ℕ) (kind : EventKind) (depth : ℕ) (event : Event) (put : Option Put) (calls : List Call) → PutIf due (Current slot kind depth) event put calls → IsShort put
current_short false slot kind depth event put calls x = none_short put x.0
current_short true slot kind depth event None calls x = tt
current_short true slot kind depth event (Some put) calls x = short_at _ event put calls x

pub history_short : (due : Bool) (slot : ℕ) (kind : EventKind) (place : ℕ) (event : Event) (put : Option Put) (calls : List Call) → PutIf due (History slot kind place) event put calls → IsShort put
history_short false slot kind place event put calls x = none_short put x.0
history_short true slot kind place event None calls x = tt
history_short true slot kind place event (Some put) calls x = short_at _ event put calls x

pub long_far : (due : Bool) (kind : EventKind) (event : Event) (put : Option Put) (calls : List Call) → PutIf due (Long kind) event put calls → IsFar put
long_far false kind event put calls x = none_far put x.0
long_far true kind event None calls x = tt
long_far true kind event (Some put) calls x = far_at _ event put calls x

pub start_short : (slot : Option ℕ) (what : Open) (depth : ℕ) (event : Event) (put : Option Put) (calls : List Call) → PutIn slot what depth event put calls → IsShort put
start_short None what depth event put calls x = none_short put x.0
start_short (Some slot) what depth event put calls x = current_short what.placed slot what.kind depth event put calls x

-- what an end allows of them
cut_rings : (c h l : Option Put) → IsShort c → IsShort h → IsFar l → cut puts (put_entries c ++ (put_entries h ++ put_entries l)) ≡ Ok []
unfolding cut
cut_rings None None None a b d = refl
cut_rings None None (Some (Done rl vl (Some tl))) a b d = refl
cut_rings None None (Some (Busy rl fl sl)) a b d = refl
cut_rings None None (Some (Late rl tl gl)) a b d = refl
cut_rings None (Some (Done rh vh None)) None a b d = refl
cut_rings None (Some (Done rh vh None)) (Some (Done rl vl (Some tl))) a b d = refl
cut_rings None (Some (Done rh vh None)) (Some (Busy rl fl sl)) a b d = refl
cut_rings None (Some (Done rh vh None)) (Some (Late rl tl gl)) a b d = refl
cut_rings None (Some (Busy rh fh sh)) None a b d = refl
cut_rings None (Some (Busy rh fh sh)) (Some (Done rl vl (Some tl))) a b d = refl
cut_rings None (Some (Busy rh fh sh)) (Some (Busy rl fl sl)) a b d = refl
cut_rings None (Some (Busy rh fh sh)) (Some (Late rl tl gl)) a b d = refl
cut_rings (Some (Done rc vc None)) None None a b d = refl
cut_rings (Some (Done rc vc None)) None (Some (Done rl vl (Some tl))) a b d = refl
cut_rings (Some (Done rc vc None)) None (Some (Busy rl fl sl)) a b d = refl
cut_rings (Some (Done rc vc None)) None (Some (Late rl tl gl)) a b d = refl
cut_rings (Some (Done rc vc None)) (Some (Done rh vh None)) None a b d = refl
cut_rings (Some (Done rc vc None)) (Some (Done rh vh None)) (Some (Done rl vl (Some tl))) a b d = refl
cut_rings (Some (Done rc vc None)) (Some (Done rh vh None)) (Some (Busy rl fl sl)) a b d = refl
cut_rings (Some (Done rc vc None)) (Some (Done rh vh None)) (Some (Late rl tl gl)) a b d = refl
cut_rings (Some (Done rc vc None)) (Some (Busy rh fh sh)) None a b d = refl
cut_rings (Some (Done rc vc None)) (Some (Busy rh fh sh)) (Some (Done rl vl (Some tl))) a b d = refl
cut_rings (Some (Done rc vc None)) (Some (Busy rh fh sh)) (Some (Busy rl fl sl)) a b d = refl
cut_rings (Some (Done rc vc None)) (Some (Busy rh fh sh)) (Some (Late rl tl gl)) a b d = refl
cut_rings (Some (Busy rc fc sc)) None None a b d = refl
cut_rings (Some (Busy rc fc sc)) None (Some (Done rl vl (Some tl))) a b d = refl
cut_rings (Some (Busy rc fc sc)) None (Some (Busy rl fl sl)) a b d = refl
cut_rings (Some (Busy rc fc sc)) None (Some (Late rl tl gl)) a b d = refl
cut_rings (Some (Busy rc fc sc)) (Some (Done rh vh None)) None a b d = refl
cut_rings (Some (Busy rc fc sc)) (Some (Done rh vh None)) (Some (Done rl vl (Some tl))) a b d = refl
cut_rings (Some (Busy rc fc sc)) (Some (Done rh vh None)) (Some (Busy rl fl sl)) a b d = refl
cut_rings (Some (Busy rc fc sc)) (Some (Done rh vh None)) (Some (Late rl tl gl)) a b d = refl
cut_rings (Some (Busy rc fc sc)) (Some (Busy rh fh sh)) None a b d = refl
cut_rings (Some (Busy rc fc sc)) (Some (Busy rh fh sh)) (Some (Done rl vl (Some tl))) a b d = refl
cut_rings (Some (Busy rc fc sc)) (Some (Busy rh fh sh)) (Some (Busy rl fl sl)) a b d = refl
cut_rings (Some (Busy rc fc sc)) (Some (Busy rh fh sh)) (Some (Late rl tl gl)) a b d = refl
cut_rings (Some (Done rc vc (Some tc))) h l a b d = absurd a
cut_rings (Some (Late rc tc gc)) h l a b d = absurd a
cut_rings c (Some (Done rh vh (Some th))) l a b d = absurd b
cut_rings c (Some (Late rh th gh)) l a b d = absurd b
cut_rings c h (Some (Done rl vl None)) a b d = absurd d

pub puts_cut : (s : State) (slot : ℕ) (what : Open) (numbers : Numbers) (consumers thread : ℕ) (calls : List Call) (entries : List Entry) (after : State)
    → PutsAtEnd s slot what numbers consumers thread calls entries after → cut puts entries ≡ Ok []
puts_cut s slot what numbers consumers thread calls entries after x =
    ap (cut puts) x.entries_are
    ∙ cut_rings x.current x.history x.long (current_short _ _ _ _ _ x.current x.current_calls x.current_is) (history_short _ _ _ _ _ x.history x.history_calls x.history_is)
    (long_far _ _ _ x.long x.long_calls x.long_is)
