-- Tokens in which each name was replaced.
use Rattle.slonik_tokens.specs.declared.token.Token.{Token}
use Rattle.slonik_tokens.specs.declared.token.Token.TheVariants.{Word, Number, Quoted, Mark, NameUse, Path}

-- the token is not `@name`
abbrev pub IsNoUse : Token → Type 0
IsNoUse (NameUse name) = ⊥
IsNoUse (Word text) = Unit {0}
IsNoUse (Number text) = Unit {0}
IsNoUse (Quoted text) = Unit {0}
IsNoUse (Mark sign) = Unit {0}
IsNoUse (Path path) = Unit {0}
