-- The nodes of which one hears at a server, and the nodes that one knows, as the rows of nodes list them.
use Rattle.std.specs.Prelude.{ℕ, ◌==◌, ◌&&◌, if◌then◌else◌, is_none, not, Bool, List, [], ◌∷◌}
use Rattle.node_rows.specs.declared.rows.NodeRow.{NodeRow}
use Rattle.slon_model.specs.Maps.{entry_at}
use Rattle.slon_model.specs.Config.{Config, hears}

-- the row is that of another node, which is live, and the node of the id `own` hears of it at the server
abbrev pub is_heard : ℕ → ℕ → Config → ℕ × NodeRow → Bool
is_heard own server c e = e.1.live && (not (e.0 == own) && hears own server e.0 c)

abbrev pub heard_among : ℕ → ℕ → Config → List (ℕ × NodeRow) → List ℕ
heard_among own server c [] = []
heard_among own server c (e ∷ es) =
    if is_heard own server c e then e.0 ∷ heard_among own server c es else heard_among own server c es

-- the row is that of a live node, and there is no fence against it
abbrev pub is_row_known : Config → ℕ × NodeRow → Bool
is_row_known c e = e.1.live && is_none (entry_at e.0 c.fences)

abbrev pub known_among : Config → List (ℕ × NodeRow) → List ℕ
known_among c [] = []
known_among c (e ∷ es) = if is_row_known c e then e.0 ∷ known_among c es else known_among c es
