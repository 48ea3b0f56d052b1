-- What is known of a test's actors between two calls.
use Rattle.std.specs.Prelude.{List}
use Rattle.pfs_levels.specs.Calls.{Call, Opening}

-- some calls have led to it
abbrev pub IsBegun : (Opening → List Call → Type 0) → Type 0
IsBegun reached = (start : Opening) × (calls : List Call) × reached start calls

-- from each opening from which calls had led to the one, some led to the other
abbrev pub Leads : (Opening → List Call → Type 0) → (Opening → List Call → Type 0) → Type 0
Leads was now = (start : Opening) → (calls : List Call) → was start calls → (behind : List Call) × now start behind
