-- What the lines before the first phase make: names, classes, limits and opening flags.
use Rattle.std.specs.Prelude.{ℕ, ◌≡◌, ◌≤◌, ◌==◌, ◌||◌, Bool, true, false, if◌then◌else◌, List, [], ◌∷◌, length, Option, Some, None, Contains, IsTrue, ◌+◌, map, codes, option_map, count_by, position, nat_lt, slice_get}
use Rattle.std.specs.List.{fold, find, list_any, list_all}
use Rattle.std.specs.Str.{bytes_eq, IsUtf8}
use Rattle.pfs_rows.specs.declared.limits.Limit.{Limit}
use Rattle.pfs_rows.specs.declared.limits.Limit.TheVariants as limit
use Rattle.pfs_rows.specs.declared.limits.Limits.{Limits}
use Rattle.pfs_rows.specs.Limits.{limit_name, least_of, most_of, with_limit, default_limits, AreInRange}
use Rattle.pfs_consumers.specs.declared.Consumer.{Consumer}
use Rattle.pfs_consumers.specs.declared.Consumer.TheVariants.{StagesCurrent, StagesHistory, StagesHistoryLong, StatementsCurrent, StatementsHistory, StatementsHistoryLong, TransactionsCurrent, TransactionsHistory, TransactionsHistoryLong, WaitsCurrent, WaitsHistory, WaitsHistoryLong, GlobalInstrumentation, ThreadInstrumentation, StatementsDigest}
use Rattle.pfs_consumers.specs.Tree.{name_of, with_flag}
use Rattle.pfs_classes.specs.declared.kind.Kind.{Kind}
use Rattle.pfs_classes.specs.declared.classes.Class.{Class}
use Rattle.pfs_classes.specs.declared.classes.LostClass.{LostClass}
use Rattle.pfs_classes.specs.declared.classes.ClassRef.{ClassRef}
use Rattle.pfs_classes.specs.declared.classes.ClassRef.TheVariants as refs
use Rattle.pfs_classes.specs.Kinds.{Fits, is_fixed}
use Rattle.pfs_classes.specs.Registry.{Registry, registered, text_of}
use Rattle.pfs_names.specs.InternedTexts.{id_of, interned}
use Rattle.pfs_classes.specs.Builtins.{builtins, with_builtins, builtin_of}
use Rattle.pfs_classes.specs.Settings.{ComesFrom}
use Rattle.pfs_text.specs.Likes.{is_like}
use Rattle.pfs_script.specs.declared.forms.Form.{Form}
use Rattle.pfs_script.specs.declared.forms.Form.TheVariants as form

-- all limits
abbrev pub limits : List Limit
limits = limit.ThreadInstances ∷ limit.Accounts ∷ limit.Users ∷ limit.Hosts ∷ limit.Digests ∷ limit.StatementStack
    ∷ limit.MutexClasses ∷ limit.RwlockClasses ∷ limit.CondClasses ∷ limit.FileClasses ∷ limit.SocketClasses
    ∷ limit.StageClasses ∷ limit.StatementClasses ∷ []

-- the limit of a name, or none
unfoldable pub named_limit : List ℕ → Option Limit
named_limit name = find (λ one. bytes_eq (limit_name one) name) limits

-- all consumers
abbrev pub consumers : List Consumer
consumers = StagesCurrent ∷ StagesHistory ∷ StagesHistoryLong ∷ StatementsCurrent ∷ StatementsHistory
    ∷ StatementsHistoryLong ∷ TransactionsCurrent ∷ TransactionsHistory ∷ TransactionsHistoryLong ∷ WaitsCurrent
    ∷ WaitsHistory ∷ WaitsHistoryLong ∷ GlobalInstrumentation ∷ ThreadInstrumentation ∷ StatementsDigest ∷ []

-- the consumer of a name, or none
unfoldable pub named_consumer : List ℕ → Option Consumer
named_consumer name = find (λ one. bytes_eq (name_of one) name) consumers

-- the limits with the named one set; as they are where there is none of that name
abbrev pub set_limit : Option Limit → ℕ → Limits → Limits
set_limit (Some one) value limits = with_limit limits one value
set_limit None value limits = limits

-- the limits behind one more line
abbrev pub limits_behind : Limits → Form → Limits
limits_behind limits (form.Limit name (Some value)) = set_limit (named_limit name) value limits
limits_behind limits _ = limits

-- the limits that the lines make of the default ones
unfoldable pub limits_of : List Form → Limits
limits_of lines = fold limits_behind default_limits lines

-- the flags with the named consumer's set; as they are where there is none of that name
abbrev pub set_consumer : Option Consumer → Bool → ℕ → ℕ
set_consumer (Some one) on word = with_flag word one on
set_consumer None on word = word

-- the flags behind one more line
abbrev pub consumers_behind : ℕ → Form → ℕ
consumers_behind word (form.Consumer name on) = set_consumer (named_consumer name) on word
consumers_behind word _ = word

-- the flags that the lines make of MySQL's
unfoldable pub consumers_of : List Form → ℕ
consumers_of lines = fold consumers_behind 28888 lines

-- names, and the classes that are registered under them
pub record Naming : Type 0 where
  pub names : List (List ℕ)
  pub classes : Registry

-- the built-in names and classes under these limits
unfoldable pub naming_under : Limits → Naming
naming_under limits = record { names = with_builtins []; classes = builtin_of (with_builtins []) limits }

-- with one more name, and its class registered, or lost where its kind stands at its limit
unfoldable pub with_class : Naming → List ℕ → Kind → Bool → Bool → Naming
with_class naming name kind enabled timed =
    let names = interned naming.names name in
    record {
      names = names;
      classes = registered naming.classes (record {
        name = id_of names name;
        kind = kind;
        enabled = enabled;
        timed = timed;
      });
    }

-- the class with these flags where its name is like the pattern
abbrev pub set_if_like : List (List ℕ) → List ℕ → Bool → Bool → Class → Class
set_if_like names pattern enabled timed class =
    if is_like pattern (text_of names class.name) then record class { enabled = enabled; timed = timed } else class

-- with these flags for each class whose name is like the pattern, `transaction` among them
abbrev pub flags_set_like : Registry → List (List ℕ) → List ℕ → Bool → Bool → Registry
flags_set_like r names pattern enabled timed = record r {
  classes = map (set_if_like names pattern enabled timed) r.classes;
  transaction = set_if_like names pattern enabled timed r.transaction;
}

abbrev pub with_flags_like : Naming → List ℕ → Bool → Bool → Naming
with_flags_like naming pattern enabled timed =
    record naming { classes = flags_set_like naming.classes naming.names pattern enabled timed }

-- names and classes behind one more line: an `instrument` line sets the classes that are there by then
abbrev pub naming_behind : Naming → Form → Naming
naming_behind naming (form.Class name kind enabled timed) = with_class naming name kind enabled timed
naming_behind naming (form.Instrument pattern enabled timed) = with_flags_like naming pattern enabled timed
naming_behind naming _ = naming

-- the names and classes of the lines, under all their limits
unfoldable pub naming_of : List Form → Naming
naming_of lines = fold naming_behind (naming_under (limits_of lines)) lines

-- what the lines fix
pub record Head : Type 0 where
  pub names : List (List ℕ)
  pub classes : Registry
  pub limits : Limits
  pub consumers : ℕ

-- with these names and classes
abbrev pub head_with : Naming → Limits → ℕ → Head
head_with naming limits consumers = record {
  names = naming.names;
  classes = naming.classes;
  limits = limits;
  consumers = consumers;
}

-- the built-in names and classes under these limits, and these flags
abbrev pub head_under : Limits → ℕ → Head
head_under limits consumers = head_with (naming_under limits) limits consumers

-- anew under the named limit; as it is where there is none of that name, or no number
abbrev pub limited : Head → Option Limit → Option ℕ → Head
limited head (Some one) (Some value) = head_under (with_limit head.limits one value) head.consumers
limited head _ _ = head

abbrev pub naming_in : Head → Naming
naming_in head = record { names = head.names; classes = head.classes }

unfoldable pub head_of : List Form → Head
head_of lines = head_with (naming_of lines) (limits_of lines) (consumers_of lines)

-- a `limit` line may stand behind such lines alone
abbrev pub is_before_limits : Form → Bool
is_before_limits form.Silent = true
is_before_limits (form.Limit name value) = true
is_before_limits _ = false

-- the line stands where it may: a `limit` line before all but silent ones and its like
abbrev pub StandsIn : List Form → Form → Type 0
StandsIn before (form.Limit name value) = IsTrue (list_all is_before_limits before)
StandsIn before _ = Unit {0}

-- the line registers a class of that name, which may find no room
abbrev pub is_class_named : List ℕ → Form → Bool
is_class_named name (form.Class other kind enabled timed) = bytes_eq other name
is_class_named name _ = false

-- the name is a built-in class's, or that of `transaction`
unfoldable pub is_builtin : List ℕ → Bool
is_builtin name = list_any (λ row. bytes_eq row.name name) builtins || bytes_eq (codes "transaction") name

-- the name is a built-in class's, or that of a class that the lines register or lose
unfoldable pub is_known : List Form → List ℕ → Bool
is_known lines name = is_builtin name || list_any (is_class_named name) lines

-- what the id of a name stands for: `transaction`, a class, a lost class, or nothing
abbrev pub lost_ref : Option LostClass → Option ClassRef
lost_ref lost = option_map (λ (one : LostClass). refs.Lost one.kind) lost

abbrev pub class_ref : Option ℕ → Option ClassRef → Option ClassRef
class_ref (Some place) rest = Some (refs.Class place)
class_ref None rest = rest

unfoldable pub ref_of : Registry → ℕ → Option ClassRef
ref_of r id =
    if r.transaction.name == id then Some (refs.Class 62)
    else class_ref (position (λ class. class.name == id) r.classes) (lost_ref (find (λ lost. lost.name == id) r.lost))

-- what a text stands for
unfoldable pub resolved : Head → List ℕ → Option ClassRef
resolved head name = ref_of head.classes (id_of head.names name)

-- the value is in the limit's range; any may be given to what is no limit
abbrev pub IsAllowed : Option Limit → Option ℕ → Type 0
IsAllowed (Some one) (Some value) = (least_of one ≤ value) × (value ≤ most_of one)
IsAllowed _ _ = Unit {0}

-- the line is none that these lines leave no place for: a limit is in its range, and a class is a script's, and new
abbrev pub MayCome : Head → Form → Type 0
MayCome head (form.Limit name value) = IsAllowed (named_limit name) value
MayCome head (form.Class name kind enabled timed) =
    Fits name kind × (is_fixed kind ≡ false) × (resolved head name ≡ None)
MayCome head _ = Unit {0}

-- how many classes and lost classes have the id of this name
abbrev pub count_named : Registry → ℕ → ℕ
count_named r id = (if r.transaction.name == id then 1 else 0) + count_by (λ class. class.name == id) r.classes
    + count_by (λ lost. lost.name == id) r.lost

-- the classes come from the built-in ones under these names and limits, and a name is of one class or lost class at
-- most
pub record IsSound (head : Head) : Type 0 where
  pub in_range : AreInRange head.limits
  pub same_limits : head.classes.limits ≡ head.limits
  pub come : ComesFrom head.names head.classes
  pub once : (id : ℕ) → count_named head.classes id ≤ (if nat_lt id (length head.names) then 1 else 0)
  pub places : (id : ℕ) (text : List ℕ) → slice_get head.names id ≡ Some text → id_of head.names text ≡ id
  pub utf8 : (text : List ℕ) → Contains head.names text → IsUtf8 text
