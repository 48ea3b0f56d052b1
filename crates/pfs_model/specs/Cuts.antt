-- Entries cut by a shape.
use Rattle.std.specs.Prelude.{◌-◌, Bool, true, false, ◌&&◌, if◌then◌else◌, List, [], ◌∷◌, length, take, Result, Ok, Err}
use Rattle.pfs_event.specs.declared.entry.Entry.{Entry}
use Rattle.pfs_model.specs.declared.shapes.Ask.{Ask}
use Rattle.pfs_model.specs.declared.shapes.Item.{Item}
use Rattle.pfs_model.specs.declared.shapes.Often.{Often}
use Rattle.pfs_model.specs.declared.shapes.Often.TheVariants.{One, Maybe, Many}
use Rattle.pfs_model.specs.EntryAsks.{fits, is_head, asks_head, asks_tail}

-- what is left behind all that is asked
unfoldable pub behind : Ask → List Entry → List Entry
behind ask [] = []
behind ask (entry ∷ entries) = if fits ask entry then behind ask entries else entry ∷ entries

-- what is left behind one item, or where it is missed
abbrev pub step : Often → Ask → List Entry → Result (List Entry) (List Entry)
step One ask [] = Err []
step One ask (entry ∷ entries) = if fits ask entry then Ok entries else Err (entry ∷ entries)
step Maybe ask [] = Ok []
step Maybe ask (entry ∷ entries) = if fits ask entry then Ok entries else Ok (entry ∷ entries)
step Many ask entries = Ok (behind ask entries)

abbrev pub then_cut : Result (List Entry) (List Entry) → (List Entry → Result (List Entry) (List Entry))
    → Result (List Entry) (List Entry)
then_cut (Ok rest) go_on = go_on rest
then_cut (Err rest) go_on = Err rest

-- what is left behind a shape, each item taking what it can; or the entries from the first on that doesn't fit
unfoldable pub cut : List Item → List Entry → Result (List Entry) (List Entry)
cut [] entries = Ok entries
cut (item ∷ items) entries = then_cut (step item.often item.ask entries) (cut items)

-- how many entries stand before those that are left
abbrev pub front : List Entry → List Entry → List Entry
front entries rest = take (length entries - length rest) entries

-- what a shape merely allows is no entry with which a line begins
abbrev pub is_closed : Often → Ask → Bool
is_closed One ask = true
is_closed Maybe ask = asks_tail ask
is_closed Many ask = asks_tail ask

abbrev pub are_closed : List Item → Bool
are_closed [] = true
are_closed (item ∷ items) = is_closed item.often item.ask && are_closed items

abbrev pub begins_with : Often → Ask → Bool
begins_with One ask = asks_head ask
begins_with Maybe ask = false
begins_with Many ask = false

-- a shape asks for nothing, or first for an entry with which a line begins
abbrev pub has_head : List Item → Bool
has_head [] = true
has_head (item ∷ items) = begins_with item.often item.ask

-- nothing follows, or an entry with which a line begins
abbrev pub is_headed : List Entry → Bool
is_headed [] = true
is_headed (entry ∷ entries) = is_head entry
