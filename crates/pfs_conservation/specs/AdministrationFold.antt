-- The administration: connect, quit and TRUNCATE, as a step of a state, and the fold over numbered actions.
pub use Rattle.pfs_containers.specs.Administration.{Table, Summary, Accounts, Users, Hosts, Action, Connect, Quit, Truncate, Other, Found, one_up, found_where, next_place, lowest_free, found_or, named_place, is_account, session_by, session_of, connect_line, quit_line, table_line, line_of, numbered, state_after, state_before, Containers as Admin, current, added_from, totals_kept_from, currents_from, missing, lost_by, connected, truncated, connect_at, advanced, admin_after}
