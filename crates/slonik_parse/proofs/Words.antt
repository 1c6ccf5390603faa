-- Words of the language in tokens.
use Rattle.std.proofs.Common.{◌≡◌, ℕ, true, false, List, [], ◌∷◌, ◌++◌, codes, get_or, Some, refl, ap, ◌∙◌}
use Rattle.std.specs.Str.{bytes_eq, str_to_ascii_lowercase}
use Rattle.std.proofs.lemmas.Slice.Eq.{bytes_eq-Decides}
use Rattle.slonik_tokens.specs.declared.token.Token.{Token}
use Rattle.slonik_tokens.specs.declared.token.Token.TheVariants.{Word, Mark}
use Rattle.slonik_tokens.specs.declared.token.Sign.{Sign}
use Rattle.slonik_tokens.specs.declared.token.Sign.TheVariants.{Semicolon, Comma, Equals, OpenBracket, CloseBracket}
use Rattle.slonik_tokens.specs.declared.token.Sign.TheVariants.{OpenBrace, CloseBrace}
use Rattle.slonik_tokens.specs.Tokens.{is_word, is_sign, same_sign}
use Rattle.slonik_parse.specs.declared.form.Verb.{Verb}
use Rattle.slonik_parse.specs.declared.form.Verb.TheVariants.{InitCluster}
use Rattle.slonik_parse.specs.declared.form.Verb.TheVariants.{SetAddTable}
use Rattle.slonik_parse.specs.declared.form.Verb.TheVariants.{Failover}
use Rattle.slonik_parse.specs.declared.form.Verb.TheVariants.{Sync, WaitForEvent, Sleep}
use Rattle.slonik_parse.specs.Choices.{is_left_out, is_not_in_try, verb_at, store_at, drop_at, set_verb_at}
use Rattle.slonik_parse.specs.Choices.{goes_on_with}
use Rattle.slonik_parse.specs.Forms.{verb_words}
use Rattle.slonik_parse.specs.Grammar.{AreWords, may_be_tried}

-- a token that is one word is another one only if the words are the same
pub other_word : (word : List ℕ) (token : Token) → is_word word token ≡ true → (other : List ℕ)
    → is_word other token ≡ bytes_eq (str_to_ascii_lowercase word) (str_to_ascii_lowercase other)
other_word word (Word text) h other =
    ap (λ lower. bytes_eq lower (str_to_ascii_lowercase other))
    ((bytes_eq-Decides (str_to_ascii_lowercase text) (str_to_ascii_lowercase word)).0 h)
other_word word others h other = cc

-- signs that are the same are one
same_sign-is : (a b : Sign) → same_sign a b ≡ true → a ≡ b
same_sign-is Semicolon Semicolon h = refl
same_sign-is Comma Comma h = refl
same_sign-is Equals Equals h = refl
same_sign-is OpenBracket OpenBracket h = refl
same_sign-is CloseBracket CloseBracket h = refl
same_sign-is OpenBrace OpenBrace h = refl
same_sign-is CloseBrace CloseBrace h = refl
same_sign-is others b h = cc

-- a token that is one sign is no other
pub other_sign : (sign other : Sign) (token : Token) → is_sign sign token ≡ true
    → is_sign other token ≡ same_sign sign other
other_sign sign other (Mark mark) h = ap (λ m. same_sign m other) (same_sign-is mark sign h)
other_sign sign other others h = cc

-- a token that is a sign
pub sign_is : (sign : Sign) (token : Token) → is_sign sign token ≡ true → token ≡ Mark sign
sign_is sign (Mark mark) h = ap Mark (same_sign-is mark sign h)
sign_is sign others h = cc

-- A word that begins no statement but a command with options.
pub record Plain (first : Token) : Type 0 where
  pub not_echo : is_word (codes "echo") first ≡ false
  pub not_exit : is_word (codes "exit") first ≡ false
  pub not_node : is_word (codes "node") first ≡ false
  pub not_try : is_word (codes "try") first ≡ false
  pub not_on : is_word (codes "on") first ≡ false

-- What begins with the words of a command.
pub record Begins (verb : Verb) (first : Token) (tokens : List Token) : Type 0 where
  pub kept : is_left_out tokens ≡ false
  pub found : verb_at first tokens ≡ Some verb
  pub plain : Plain first
  pub not_wait : may_be_tried verb ≡ true → is_word (codes "wait") first ≡ false
  pub triable : may_be_tried verb ≡ true → is_not_in_try tokens ≡ false

-- what is known of a first word alone
known : (word : List ℕ) (first : Token) → is_word word first ≡ true → (other : List ℕ)
    → bytes_eq (str_to_ascii_lowercase word) (str_to_ascii_lowercase other) ≡ false → is_word other first ≡ false
known word first h other differs = other_word word first h other ∙ differs

-- two words differ, in whatever case
abbrev Differ : List ℕ → List ℕ → Type 0
Differ word other = bytes_eq (str_to_ascii_lowercase word) (str_to_ascii_lowercase other) ≡ false

plain_by : (word : List ℕ) (first : Token) → is_word word first ≡ true
    → Differ word (codes "echo") × Differ word (codes "exit") × Differ word (codes "node") × Differ word (codes "try")
    × Differ word (codes "on") → Plain first
plain_by word first h other = record {
  not_echo = known word first h (codes "echo") other.0;
  not_exit = known word first h (codes "exit") other.1;
  not_node = known word first h (codes "node") other.2;
  not_try = known word first h (codes "try") other.3;
  not_on = known word first h (codes "on") other.4;
}

-- the words that a command with options begins with
abbrev word_of : ℕ → Verb → List ℕ
word_of i verb = get_or (verb_words verb) i []

plain_of : (verb : Verb) (first : Token) → is_word (word_of 0 verb) first ≡ true → Plain first
unfolding verb_words
plain_of InitCluster first h = plain_by (codes "init") first h (refl, refl, refl, refl, refl)
plain_of others first h = plain_by (word_of 0 others) first h (refl, refl, refl, refl, refl)

-- a command that a try block may hold begins with no WAIT
tried : (verb : Verb) → may_be_tried verb ≡ true → Differ (word_of 0 verb) (codes "wait")
unfolding verb_words
tried WaitForEvent k = cc
tried others k = refl

begins_by : (verb : Verb) (first : Token) (tokens : List Token) → is_word (word_of 0 verb) first ≡ true →
    (is_left_out tokens ≡ false) × (verb_at first tokens ≡ Some verb) →
    (may_be_tried verb ≡ true → is_not_in_try tokens ≡ false) → Begins verb first tokens
begins_by verb first tokens h found triable = record {
  kept = found.0;
  found = found.1;
  plain = plain_of verb first h;
  not_wait = λ k. known (word_of 0 verb) first h (codes "wait") (tried verb k);
  triable = triable;
}

-- what begins with the words of a command
pub begins : (verb : Verb) (first : Token) (words rest : List Token) → AreWords (verb_words verb) (first ∷ words) →
    Begins verb first (first ∷ words ++ rest)
unfolding is_left_out is_not_in_try verb_at store_at drop_at set_verb_at goes_on_with verb_words
begins SetAddTable first (second ∷ third ∷ []) rest h =
    let a = other_word (codes "set") first h.0 in
    let b = other_word (codes "add") second h.1.0 in
    let c = other_word (codes "table") third h.1.1.0 in
    begins_by SetAddTable first _ h.0 (simp (a, b, c), simp a) (λ _. simp a)
begins SetAddTable first [] rest h = absurd h.1
begins SetAddTable first (second ∷ []) rest h = absurd h.1.1
begins SetAddTable first (second ∷ third ∷ extra ∷ more) rest h = absurd h.1.1.1
begins Sync first words rest h =
    let a = other_word (codes "sync") first h.0 in
    begins_by Sync first _ h.0 (simp a, simp a) (λ _. simp a)
begins Failover first words rest h =
    let a = other_word (codes "failover") first h.0 in
    begins_by Failover first _ h.0 (simp a, simp a) (λ k. cc)
begins WaitForEvent first words rest h =
    let a = other_word (codes "wait") first h.0 in
    begins_by WaitForEvent first _ h.0 (simp a, simp a) (λ k. cc)
begins Sleep first words rest h =
    let a = other_word (codes "sleep") first h.0 in
    begins_by Sleep first _ h.0 (simp a, simp a) (λ k. cc)
begins others first (second ∷ []) rest h =
    let a = other_word (word_of 0 others) first h.0 in
    let b = other_word (word_of 1 others) second h.1.0 in
    begins_by others first _ h.0 (simp (a, b), simp (a, b)) (λ _. simp a)
begins others first [] rest h = absurd h.1
begins others first (second ∷ extra ∷ more) rest h = absurd h.1.1
