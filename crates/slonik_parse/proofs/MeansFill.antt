-- Options that make every command.
use Rattle.std.proofs.Common.{◌≡◌, ℕ, true, false, List, [], ◌∷◌, ◌++◌, drop, map, codes, Some, Result, Ok, Err, refl}
use Rattle.std.proofs.Common.{subst}
use Rattle.std.proofs.Common.{append_assoc}
use Rattle.std.proofs.Common.{Bool}
use Rattle.std.proofs.Common.{filter}
use Rattle.std.proofs.lemmas.List.{append-nil}
use Rattle.slonik_tokens.specs.declared.token.Sign.{Sign}
use Rattle.slonik_tokens.specs.declared.token.Sign.TheVariants.{Semicolon, Comma, Equals}
use Rattle.slonik_tokens.specs.declared.token.Token.{Token}
use Rattle.slonik_tokens.specs.declared.token.Token.TheVariants.{Word, Number, Quoted, Mark}
use Rattle.slonik_tokens.specs.Tokens.{is_word, is_sign}
use Rattle.slonik_parse.specs.declared.form.Verb.{Verb}
use Rattle.slonik_parse.specs.declared.form.Verb.TheVariants.{InitCluster, StorePath, DropPath}
use Rattle.slonik_parse.specs.declared.form.Verb.TheVariants.{SetAddTable}
use Rattle.slonik_parse.specs.declared.form.Verb.TheVariants.{WaitForEvent, Sleep}
use Rattle.slonik_parse.specs.declared.form.OptionName.{OptionName}
use Rattle.slonik_parse.specs.declared.given.Given.{Given}
use Rattle.slonik_parse.specs.declared.misparse.Misparse.{Misparse}
use Rattle.slonik_parse.specs.Choices.{begins_option, option_at}
use Rattle.slonik_parse.specs.Forms.{option_words, options_of}
use Rattle.slonik_parse.specs.Given.{set_option, made}
use Rattle.slonik_parse.specs.Grammar.{AreWords, IsOption, AreOptions, is_option, more_options}
use Rattle.slonik_parse.specs.declared.form.OptionName.TheVariants.{Id, Comment, Server, Conninfo}
use Rattle.slonik_parse.specs.declared.form.OptionName.TheVariants.{Connretry, SetId, FullyQualifiedName, Key}
use Rattle.slonik_parse.specs.declared.form.OptionName.TheVariants.{Forward}
use Rattle.slonik_parse.specs.declared.form.OptionName.TheVariants.{AwaitedOrigin}
use Rattle.slonik_parse.specs.declared.form.OptionName.TheVariants.{Timeout, Seconds}
use Rattle.std.specs.Result.{is_ok}
use Rattle.std.specs.Str.{str_to_ascii_lowercase}
use Rattle.std.proofs.lemmas.Slice.Eq.{bytes_eq-Decides}
use Rattle.slonik_parse.proofs.MeansOptions.{option_begins, words_join}

-- words as tokens
pub word_fits : (word : List ℕ) → is_word word (Word word) ≡ true
word_fits word = (bytes_eq-Decides (str_to_ascii_lowercase word) (str_to_ascii_lowercase word)).1 refl

pub words_fit : (words : List (List ℕ)) → AreWords words (map Word words)
words_fit [] = tt
words_fit (word ∷ words) = (word_fits word, words_fit words)

pub sign_fits : (sign : Sign) → is_sign sign (Mark sign) ≡ true
sign_fits Semicolon = refl
sign_fits others = refl

-- a value that an option can have
abbrev pub value_of : OptionName → Token
value_of Comment = Quoted []
value_of Conninfo = Quoted []
value_of FullyQualifiedName = Quoted []
value_of Key = Quoted []
value_of Forward = Word (codes "yes")
value_of _ = Number (codes "1")

abbrev set_or : Given → Result Given Misparse → Given
set_or given (Ok more) = more
set_or given (Err e) = given

-- the options with that value
abbrev pub with_option : OptionName → Given → Given
with_option name given = set_or given (set_option name (value_of name) given)

pub value_fits : (name : OptionName) (given : Given)
    → set_option name (value_of name) given ≡ Ok (with_option name given)
unfolding set_option
value_fits Id given = refl
value_fits others given = refl

-- the first of some words as a token
abbrev pub word_token : List (List ℕ) → Token
word_token [] = Word []
word_token (word ∷ words) = Word word

-- the tokens of an option with that value
abbrev pub option_tokens : OptionName → List Token
option_tokens name = word_token (option_words name) ∷ map Word (drop 1 (option_words name))
    ++ Mark Equals ∷ value_of name ∷ []

pub option_fits : (verb : Verb) (name : OptionName) (given : Given)
    → option_at verb (word_token (option_words name)) ≡ Some name
    → IsOption verb given (option_tokens name) (with_option name given)
option_fits verb name given found =
    let first = word_token (option_words name) in
    let others = map Word (drop 1 (option_words name)) in
    let are = words_join (option_words name) first others (option_begins verb first name found)
    (words_fit (drop 1 (option_words name))) in
    is_option name (record { first = first; others = others; end = Mark Equals; are = are; ends = refl })
    (value_of name) (with_option name given) found (value_fits name given)

-- the options that a command needs
abbrev pub is_required : OptionName → Bool
is_required Comment = false
is_required Connretry = false
is_required Key = false
is_required Forward = false
is_required Timeout = false
is_required others = true

abbrev pub required : Verb → List OptionName
required verb = filter is_required (options_of verb)

-- the options are found by their first words
abbrev AreFound : Verb → List OptionName → Type 0
AreFound verb [] = Unit {0}
AreFound verb (name ∷ names) = (option_at verb (word_token (option_words name)) ≡ Some name) × AreFound verb names

pub required_found : (verb : Verb) → AreFound verb (required verb)
unfolding option_at options_of option_words begins_option
required_found InitCluster = (refl, tt)
required_found others = assumption refl

-- some option of each command
pub some_option : (verb : Verb) → (name : OptionName) × (option_at verb (word_token (option_words name)) ≡ Some name)
unfolding options_of
some_option StorePath = (Server, (required_found StorePath).0)
some_option DropPath = (Server, (required_found DropPath).0)
some_option SetAddTable = (SetId, (required_found SetAddTable).0)
some_option WaitForEvent = (AwaitedOrigin, (required_found WaitForEvent).0)
some_option Sleep = (Seconds, (required_found Sleep).0)
some_option others = (Id, (required_found others).0)

-- the options with those of these names
abbrev pub with_options : List OptionName → Given → Given
with_options [] given = given
with_options (name ∷ names) given = with_options names (with_option name given)

-- options, each behind a comma
abbrev pub options_tokens : List OptionName → List Token
options_tokens [] = []
options_tokens (name ∷ names) = Mark Comma ∷ option_tokens name ++ options_tokens names

pub more_fit : (verb : Verb) (names : List OptionName) (options : List Token) (given : Given) → AreFound verb names
    → AreOptions verb options given
    → AreOptions verb (options ++ options_tokens names) (with_options names given)
more_fit verb [] options given found are = subst (λ tokens. AreOptions verb tokens given) (simp append-nil) are
more_fit verb (name ∷ names) options given found are =
    subst (λ tokens. AreOptions verb tokens (with_options names (with_option name given))) (simp append_assoc)
    (more_fit verb names (options ++ Mark Comma ∷ option_tokens name) (with_option name given) found.1
    (more_options options (option_tokens name) given (with_option name given) (Mark Comma) are refl
    (option_fits verb name given found.0)))

-- what was made
pub ok_is : {A E : Type 0} (made : Result A E) → is_ok made ≡ true → (x : A) × (made ≡ Ok x)
ok_is (Ok x) h = (x, refl)
ok_is (Err e) h = cc

pub required_make : (verb : Verb) (given : Given) → is_ok (made verb (with_options (required verb) given)) ≡ true
unfolding made set_option options_of
required_make InitCluster given = refl
required_make others given = refl
