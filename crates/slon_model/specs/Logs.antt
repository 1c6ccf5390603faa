-- What a node logs.
use Rattle.std.specs.Prelude.{ℕ, if◌then◌else◌, Bool, List, flat_map, filter_map, Option, Some, None}
use Rattle.std.specs.Str.{bytes_eq}
use Rattle.std.specs.List.{list_any}
use Rattle.slon_model.specs.Rows.{Action}
use Rattle.node_rows.specs.declared.rows.TableRow.{TableRow}
use Rattle.slon_model.specs.Config.{is_origin, era_of, member_of}
use Rattle.slon_model.specs.Deeds.{Node, Logged, Knowledge}

abbrev pub named : List ℕ → List (List ℕ) → Bool
named name names = list_any (λ other. bytes_eq name other) names

-- a commit logs an action on a table of a set of which the node is the origin
abbrev pub logged_on : ℕ → Knowledge → Action → Option (ℕ × TableRow) → Option Logged
logged_on own k a None = None
logged_on own k a (Some e) =
    if is_origin own e.1.set_id k.config then Some (record {
      set_id = e.1.set_id;
      table_id = e.0;
      era = era_of e.1.set_id k.config;
      origin = own;
      action = a;
    }) else None

abbrev pub own_logs : ℕ → Knowledge → List Action → List Logged
own_logs own k actions = filter_map (λ a. logged_on own k a (member_of a.table k.config)) actions

-- All that the node has logged, the newest first.
abbrev pub logged : Node → List Logged
logged n = flat_map (λ d. d.logs) n.deeds
