-- Tests of tokens.
use Rattle.std.specs.Prelude.{ℕ, Bool, true, false, List}
use Rattle.std.specs.Str.{str_eq_ignore_ascii_case}
use Rattle.slonik_tokens.specs.declared.token.Sign.{Sign}
use Rattle.slonik_tokens.specs.declared.token.Sign.TheVariants.{Semicolon, Comma, Equals, OpenBracket, CloseBracket}
use Rattle.slonik_tokens.specs.declared.token.Sign.TheVariants.{OpenBrace, CloseBrace}
use Rattle.slonik_tokens.specs.declared.token.Token.{Token}
use Rattle.slonik_tokens.specs.declared.token.Token.TheVariants.{Word, Number, Quoted, Mark, NameUse, Path}

-- the token is this word of the language, in whatever case
abbrev pub is_word : List ℕ → Token → Bool
is_word word (Word text) = str_eq_ignore_ascii_case text word
is_word word (Number text) = false
is_word word (Quoted text) = false
is_word word (Mark sign) = false
is_word word (NameUse name) = false
is_word word (Path path) = false

-- one sign is the other
abbrev pub same_sign : Sign → Sign → Bool
same_sign Semicolon Semicolon = true
same_sign Comma Comma = true
same_sign Equals Equals = true
same_sign OpenBracket OpenBracket = true
same_sign CloseBracket CloseBracket = true
same_sign OpenBrace OpenBrace = true
same_sign CloseBrace CloseBrace = true
same_sign _ _ = false

-- the token is this sign
abbrev pub is_sign : Sign → Token → Bool
is_sign sign (Word text) = false
is_sign sign (Number text) = false
is_sign sign (Quoted text) = false
is_sign sign (Mark mark) = same_sign mark sign
is_sign sign (NameUse name) = false
is_sign sign (Path path) = false
