-- A script has at most 62 classes beside `transaction`.
use Rattle.std.proofs.Common.{ℕ, ◌≡◌, ◌≤◌, ◌+◌, Bool, true, false, not, cond, List, [], ◌∷◌, ◌++◌, Option, Some, None, refl, sym, ap, ◌∙◌, length, map, nat_lt, append_assoc, append-nil, arith}
use Rattle.std.specs.Prelude.{fold, slice_get}
use Rattle.std.specs.List.{list_any}
use Rattle.std.proofs.lemmas.Bool.Decides.{nat_tests, Decides-eqb}
use Rattle.std.proofs.lemmas.Option.{same_Some}
use Rattle.std.proofs.lemmas.Bool.{not-false}
use Rattle.pfs_lemmas.proofs.Bools.{or_first}
use Rattle.pfs_rows.specs.declared.limits.Limit.{Limit}
use Rattle.pfs_rows.specs.declared.limits.Limit.TheVariants as limit
use Rattle.pfs_rows.specs.declared.limits.Limits.{Limits}
use Rattle.pfs_rows.specs.Limits.{least_of, most_of, with_limit, IsWithin, AreInRange}
use Rattle.pfs_rows.proofs.LimitRanges.{together, each_of}
use Rattle.pfs_classes.specs.declared.kind.Kind.{Kind}
use Rattle.pfs_classes.specs.declared.kind.Kind.TheVariants.{Mutex, Rwlock, Cond, File, Socket, TableIo, TableLock, Stage, Statement, Transaction}
use Rattle.pfs_classes.specs.declared.classes.Class.{Class}
use Rattle.pfs_classes.specs.Kinds.{kind_order, same_kind, room_of}
use Rattle.pfs_classes.specs.Registry.{Registry, count_of, has_room, registered}
use Rattle.pfs_classes.specs.Builtins.{builtins, with_builtins, class_of, start_of}
use Rattle.pfs_classes.proofs.RegistryLemmas.{few_within}
use Rattle.pfs_script.specs.declared.forms.Form.{Form}
use Rattle.pfs_script.specs.declared.forms.Form.TheVariants as form
use Rattle.pfs_script.specs.Headings.{named_limit, set_limit, limits_behind, limits_of, Naming, naming_under, with_class, with_flags_like, set_if_like, naming_behind, naming_of, head_of}
use Rattle.pfs_script.specs.Reasons.{is_within, gives}
use Rattle.pfs_script.proofs.BlockNests.{Stand}
use Rattle.pfs_script.proofs.FaultlessLines.{Passes}
use Rattle.pfs_script.proofs.CountLemmas.{count-cons, count-push}
use Rattle.pfs_script.proofs.HeadPasses.{limits_push}

-- the limits

within_least : (one : Limit) (value : ℕ) → is_within (Some one) value ≡ true → least_of one ≤ value
within_least one value h = grind (arith, nat_tests, h)

within_most : (one : Limit) (value : ℕ) → is_within (Some one) value ≡ true → value ≤ most_of one
within_most one value h = grind (arith, nat_tests, h)

set_within : (l : Limits) (one other : Limit) (value : ℕ) → least_of one ≤ value → value ≤ most_of one
    → IsWithin l other → IsWithin (with_limit l one value) other
set_within l limit.ThreadInstances limit.ThreadInstances value least most old = (least, most)
set_within l limit.Accounts limit.Accounts value least most old = (least, most)
set_within l limit.Users limit.Users value least most old = (least, most)
set_within l limit.Hosts limit.Hosts value least most old = (least, most)
set_within l limit.Digests limit.Digests value least most old = (least, most)
set_within l limit.StatementStack limit.StatementStack value least most old = (least, most)
set_within l limit.MutexClasses limit.MutexClasses value least most old = (least, most)
set_within l limit.RwlockClasses limit.RwlockClasses value least most old = (least, most)
set_within l limit.CondClasses limit.CondClasses value least most old = (least, most)
set_within l limit.FileClasses limit.FileClasses value least most old = (least, most)
set_within l limit.SocketClasses limit.SocketClasses value least most old = (least, most)
set_within l limit.StageClasses limit.StageClasses value least most old = (least, most)
set_within l limit.StatementClasses limit.StatementClasses value least most old = (least, most)
set_within l _ other value least most old = old

limit_set : (l : Limits) (one : Limit) (value : ℕ) → least_of one ≤ value → value ≤ most_of one → AreInRange l
    → AreInRange (with_limit l one value)
limit_set l one value least most r =
    together (with_limit l one value) (λ other. set_within l one other value least most (each_of l r other))

limit_given : (l : Limits) (one : Option Limit) (value : ℕ) → is_within one value ≡ true → AreInRange l
    → AreInRange (set_limit one value l)
limit_given l (Some one) value h r = limit_set l one value (within_least one value h) (within_most one value h) r
limit_given l None value h r = r

limit_next : (before : List Form) (line : Form) (l : Limits) → Passes before line → AreInRange l
    → AreInRange (limits_behind l line)
limit_next before (form.Limit name (Some value)) l p r =
    limit_given l (named_limit name) value
    (not-false (is_within (named_limit name) value) (or_first (not (is_within (named_limit name) value))
    (list_any (gives (named_limit name)) before) p.limit)) r
limit_next before _ l p r = r

ranges_behind : (before lines : List Form) → Stand before lines → AreInRange (limits_of before)
    → AreInRange (limits_of (before ++ lines))
ranges_behind before [] s r = rw append-nil r
ranges_behind before (line ∷ lines) s r =
    rw append_assoc at (ranges_behind (before ++ line ∷ []) lines s.1
    (rw (limits_push before line) (limit_next before line (limits_of before) s.0 r)))

none_given : AreInRange (limits_of [])
unfolding limits_of
none_given = record {
  thread_instances = omega arith;
  accounts = omega arith;
  users = omega arith;
  hosts = omega arith;
  digests = omega arith;
  statement_stack_least = omega arith;
  statement_stack = omega arith;
  mutex_classes = omega arith;
  rwlock_classes = omega arith;
  cond_classes = omega arith;
  file_classes = omega arith;
  socket_classes = omega arith;
  stage_classes = omega arith;
  statement_classes = omega arith;
}

pub in_range : (lines : List Form) → Stand [] lines → AreInRange (limits_of lines)
in_range lines s = ranges_behind [] lines s none_given

-- the classes of a kind are no more than its limit
record HasRoom (limits : Limits) (r : Registry) : Type 0 where
  limits_are : r.limits ≡ limits
  within : (kind : Kind) → count_of kind r.classes ≤ room_of limits kind

abbrev kinds : List Kind
kinds = Mutex ∷ Rwlock ∷ Cond ∷ File ∷ Socket ∷ TableIo ∷ TableLock ∷ Stage ∷ Statement ∷ Transaction ∷ []

kind_in_order : (kind : Kind) → slice_get kinds (kind_order kind) ≡ Some kind
kind_in_order Mutex = refl
kind_in_order _ = refl

kind_same : (a b : Kind) → same_kind a b ≡ true → a ≡ b
kind_same a b h =
    same_Some a b (sym (kind_in_order a) ∙ (ap (slice_get kinds) ((Decides-eqb (kind_order a) (kind_order b)).0 h)
    ∙ kind_in_order b))

room_left : (count room : ℕ) → nat_lt count room ≡ true → count + 1 ≤ room
room_left count room h = grind (arith, nat_tests, h)

within_push : (r : Registry) (class : Class) (kind : Kind) (same : Bool) → same_kind class.kind kind ≡ same
    → has_room r class.kind ≡ true → count_of kind r.classes ≤ room_of r.limits kind
    → count_of kind (r.classes ++ class ∷ []) ≤ room_of r.limits kind
within_push r class kind true e room within =
    let one : has_room r kind ≡ true = ap (has_room r) (sym (kind_same class.kind kind e)) ∙ room in
    omega (
      arith,
      count-push (λ (one : Class). same_kind one.kind kind) r.classes class,
      room_left (count_of kind r.classes) (room_of r.limits kind) one,
      ap {B = ℕ} (λ b. cond b 1 0) e,
    )
within_push r class kind false e room within =
    omega (
      arith,
      count-push (λ (one : Class). same_kind one.kind kind) r.classes class,
      ap {B = ℕ} (λ b. cond b 1 0) e,
    )

registered_by : (limits : Limits) (r : Registry) (class : Class) (room : Bool) → has_room r class.kind ≡ room
    → HasRoom limits r → HasRoom limits (cond room (record r { classes = r.classes ++ class ∷ [] })
    (record r { lost = r.lost ++ record { name = class.name; kind = class.kind } ∷ [] }))
registered_by limits r class true e h = record {
  limits_are = h.limits_are;
  within = λ kind.
      let old : count_of kind r.classes ≤ room_of r.limits kind = rw h.limits_are (h.within kind) in
      rw h.limits_are at (within_push r class kind (same_kind class.kind kind) refl e old);
}
registered_by limits r class false e h = record { limits_are = h.limits_are; within = h.within }

registers : (limits : Limits) (r : Registry) (class : Class) → HasRoom limits r → HasRoom limits (registered r class)
unfolding registered
registers limits r class h = registered_by limits r class (has_room r class.kind) refl h

all_register : (limits : Limits) (classes : List Class) (r : Registry) → HasRoom limits r
    → HasRoom limits (fold registered r classes)
all_register limits [] r h = h
all_register limits (class ∷ classes) r h =
    all_register limits classes (registered r class) (registers limits r class h)

start_has : (texts : List (List ℕ)) (limits : Limits) → HasRoom limits (start_of texts limits)
start_has texts limits = record { limits_are = refl; within = λ kind. omega arith }

under_has : (limits : Limits) → HasRoom limits (naming_under limits).classes
unfolding naming_under
under_has limits =
    all_register limits (map (class_of (with_builtins [])) builtins) (start_of (with_builtins []) limits)
    (start_has (with_builtins []) limits)

-- flags leave the kinds
kind_by : (class : Class) (enabled timed b : Bool)
    → (cond b (record class { enabled = enabled; timed = timed }) class).kind ≡ class.kind
kind_by class enabled timed true = refl
kind_by class enabled timed false = refl

count_map : (f : Class → Class) (kind : Kind) (xs : List Class) → ((one : Class) → (f one).kind ≡ one.kind)
    → count_of kind (map f xs) ≡ count_of kind xs
count_map f kind [] same = refl
count_map f kind (x ∷ xs) same =
    let here : cond {A = ℕ} (same_kind (f x).kind kind) 1 0 ≡ cond {A = ℕ} (same_kind x.kind kind) 1 0 =
    ap {B = ℕ} (λ own. cond {A = ℕ} (same_kind own kind) 1 0) (same x) in
    omega (
      arith,
      here,
      count-cons (λ (class : Class). same_kind class.kind kind) x xs,
      count-cons (λ (class : Class). same_kind class.kind kind) (f x) (map f xs),
      count_map f kind xs same,
    )

class_has : (limits : Limits) (naming : Naming) (name : List ℕ) (kind : Kind) (enabled timed : Bool)
    → HasRoom limits naming.classes → HasRoom limits (with_class naming name kind enabled timed).classes
unfolding with_class
class_has limits naming name kind enabled timed h = registers limits naming.classes _ h

flags_have : (limits : Limits) (naming : Naming) (pattern : List ℕ) (enabled timed : Bool)
    → HasRoom limits naming.classes → HasRoom limits (with_flags_like naming pattern enabled timed).classes
flags_have limits naming pattern enabled timed h = record {
  limits_are = h.limits_are;
  within = λ kind.
      let same = count_map (set_if_like naming.names pattern enabled timed) kind naming.classes.classes
      (λ one. kind_by one enabled timed _) in
      omega (arith, same, h.within kind);
}

line_has : (limits : Limits) (naming : Naming) (line : Form) → HasRoom limits naming.classes
    → HasRoom limits (naming_behind naming line).classes
line_has limits naming (form.Class name kind enabled timed) h = class_has limits naming name kind enabled timed h
line_has limits naming (form.Instrument pattern enabled timed) h = flags_have limits naming pattern enabled timed h
line_has limits naming _ h = h

lines_have : (limits : Limits) (naming : Naming) (lines : List Form) → HasRoom limits naming.classes
    → HasRoom limits (fold naming_behind naming lines).classes
lines_have limits naming [] h = h
lines_have limits naming (line ∷ lines) h =
    lines_have limits (naming_behind naming line) lines (line_has limits naming line h)

pub few_classes : (lines : List Form) → Stand [] lines → length (head_of lines).classes.classes ≤ 62
unfolding head_of naming_of
few_classes lines s =
    few_within (limits_of lines) (naming_of lines).classes.classes (in_range lines s)
    (lines_have (limits_of lines) (naming_under (limits_of lines)) lines (under_has (limits_of lines))).within
