-- What is seen of a reader of lines.
use Rattle.std.specs.Prelude.{ℕ, ◌+◌, ◌==◌, if◌then◌else◌, List, [], ◌∷◌}

-- A reader of lines: the bytes that were read and are not handed over yet, and how many were handed over.
pub record Reading : Type 0 where
  pub unread : List ℕ
  pub taken : ℕ

-- the greatest length of a line, in bytes
abbrev pub line_limit : ℕ
line_limit = 8192

-- the greatest length of a session, in bytes
abbrev pub session_limit : ℕ
session_limit = 16777216

-- how many bytes the first line has, with its newline if there is one
abbrev pub line_size : List ℕ → ℕ
line_size [] = 0
line_size (c ∷ cs) = if c == 10 then 1 else 1 + line_size cs
