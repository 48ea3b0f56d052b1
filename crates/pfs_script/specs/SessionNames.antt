-- The names of a script: those of its classes, and behind them those of its users and hosts.
use Rattle.std.specs.Prelude.{ℕ, List}
use Rattle.std.specs.List.{fold}
use Rattle.pfs_names.specs.InternedTexts.{id_of, interned}
use Rattle.pfs_script.specs.declared.blocks.Connect.{Connect}
use Rattle.pfs_script.specs.declared.forms.Form.{Form}
use Rattle.pfs_script.specs.declared.forms.Form.TheVariants as form
use Rattle.pfs_script.specs.Headings.{Head, head_of}

-- the names with those of a user and a host, where one more line gives them and they are new
abbrev pub with_session : List (List ℕ) → Form → List (List ℕ)
with_session names (form.Connect session user host) = interned (interned names user) host
with_session names _ = names

-- the names of the lines: those of all classes, then those of users and hosts, in the order of the lines
unfoldable pub names_of : List Form → List (List ℕ)
names_of lines = fold with_session (head_of lines).names lines

-- with these names
abbrev pub head_named : Head → List (List ℕ) → Head
head_named head names = record head { names = names }

-- a user and a host by their ids
abbrev pub connect_of : List (List ℕ) → List ℕ → List ℕ → Connect
connect_of names user host = record { user = id_of names user; host = id_of names host }
