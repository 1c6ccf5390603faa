-- How the parts of a body are read.
use Rattle.std.specs.Prelude.{◌≡◌, ◌<◌, ℕ, List, ◌∷◌, ◌++◌, get_or, Result, IfOk}
use Rattle.slon_base.specs.declared.fault.RowFault.{RowFault}
use Rattle.store_rows.specs.Rows.{Read}
use Rattle.node_rows.specs.declared.body.Body.{Body}
use Rattle.node_rows.specs.Spellings.{body_bytes, CanBody}

-- A body is read from the parts behind the byte of its kind.
pub record ReadsBody (kind : ℕ) (row : List ℕ) (result : Result Body RowFault) (left : List ℕ) : Type 0 where
  pub can : IfOk result CanBody
  pub found : IfOk result (λ x. kind ∷ row ≡ body_bytes x ++ left)
  pub again : (x : Body) (rest : List ℕ) → CanBody x → kind ∷ row ≡ body_bytes x ++ rest → Read x rest result left

-- its kind
abbrev pub kind_of : Body → ℕ
kind_of x = get_or (body_bytes x) 0 0

-- it says who receives a set, or who is its origin
abbrev pub IsFeeding : Body → Type 0
IsFeeding x = 8 < kind_of x
