-- A token keeps what the tokens so far are: awaited words, the head, options and commands with options.
use Rattle.std.proofs.Common.{◌≡◌, ℕ, ◌+◌, Bool, true, false, List, [], ◌∷◌, ◌++◌, drop, codes, Option, Some, None}
use Rattle.std.proofs.Common.{Result, Ok, Err, cond, if◌then◌else◌, refl, sym, ◌∙◌, subst, append_assoc, inl, inr}
use Rattle.std.proofs.lemmas.List.{append-nil}
use Rattle.slonik_tokens.specs.declared.token.Sign.{Sign}
use Rattle.slonik_tokens.specs.declared.token.Sign.TheVariants.{Semicolon, Comma, Equals, CloseBracket}
use Rattle.slonik_tokens.specs.declared.token.Token.{Token}
use Rattle.slonik_tokens.specs.declared.token.Token.TheVariants.{Word, Mark}
use Rattle.slonik_tokens.specs.Tokens.{is_word, is_sign, same_sign}
use Rattle.slonik_parse.specs.declared.form.Verb.{Verb}
use Rattle.slonik_parse.specs.declared.form.OptionName.{OptionName}
use Rattle.slonik_parse.specs.declared.given.Given.{Given}
use Rattle.slonik_parse.specs.declared.misparse.Misparse.{Misparse}
use Rattle.slonik_parse.specs.declared.misparse.Misparse.TheVariants.{Misfit, UnknownOption, NotInProfile}
use Rattle.slonik_script.specs.declared.script.Command.{Command}
use Rattle.slonik_script.specs.declared.script.Script.{Script}
use Rattle.slonik_script.specs.declared.script.Statement.TheVariants.{Single}
use Rattle.slonik_parse.specs.declared.state.Block.{Block}
use Rattle.slonik_parse.specs.declared.state.Block.TheVariants.{Outside, Try as InTry, Handler as InHandler}
use Rattle.slonik_parse.specs.declared.state.Goal.{Goal}
use Rattle.slonik_parse.specs.declared.state.Goal.TheVariants as goal
use Rattle.slonik_parse.specs.declared.state.Phrase.{Phrase}
use Rattle.slonik_parse.specs.declared.state.Phrase.TheVariants as phrase
use Rattle.slonik_parse.specs.declared.state.State.{State}
use Rattle.slonik_parse.specs.declared.state.State.TheVariants.{Awaits, At}
use Rattle.slonik_parse.specs.Answered.{and_then, fit}
use Rattle.slonik_parse.specs.Choices.{is_option_left_out, begins_so, begins_option, option_among, option_at}
use Rattle.slonik_parse.specs.Forms.{option_words, options_of}
use Rattle.slonik_parse.specs.Given.{set_option, made}
use Rattle.slonik_parse.specs.Grammar.{AreWords, IsOption, AreOptions, Closed, NodeWords, IsCommand, IsScript}
use Rattle.slonik_parse.specs.Grammar.{is_option, one_option}
use Rattle.slonik_parse.specs.Grammar.{more_options, of_verb, more_commands, script_head, script_node, script_command}
use Rattle.slonik_parse.specs.Machine.{phrase_words, with_command, lower, sign_then, after_command, awaited_by, missing}
use Rattle.slonik_parse.specs.Machine.{begin_option, option_step, after_option, cluster_name, node_text, step}
use Rattle.slonik_parse.specs.Places.{is_tried, Stands, outside, in_try, in_handler, CommaEnded, no_options}
use Rattle.slonik_parse.specs.Places.{some_options, Opened, opened, OptionStands, option_stands, OptionEnds}
use Rattle.slonik_parse.specs.Places.{option_ends, BeforeOption}
use Rattle.slonik_parse.specs.Scripts.{with_statement, with_node, empty_script}
use Rattle.slonik_parse.specs.Values.{name_in, string_in, id_in}
use Rattle.slonik_parse.proofs.Pieces.{first_of, drop-next, awaited-by}
use Rattle.slonik_parse.proofs.Means.{NamesCluster, names_cluster, BeginsNode, begins_node, NamesNode, names_node}
use Rattle.slonik_parse.proofs.Means.{NamesOption, names_option, Leads, Means, means_sign, if_ok, if_is}
use Rattle.slonik_parse.proofs.Means.{and_then_ok}
use Rattle.slonik_parse.proofs.Means.{fit_ok}

-- What is awaited: the words of a phrase and a sign behind them, and then this goal.
pub record Awaiting : Type 0 where
  pub phrase : Phrase
  pub sign : Sign
  pub goal : Goal

abbrev awaits_at : Awaiting → ℕ → State
awaits_at w at = Awaits w.phrase at w.sign w.goal

-- a word that is awaited, or the sign behind the words
awaits_by : (w : Awaiting) (at : ℕ) (next : State) (token : Token) (front : List Token) (left : List (List ℕ)) →
    (drop at (phrase_words w.phrase) ≡ left) × Means (awaits_at w at) front →
    awaited_by (first_of left) w.phrase at w.sign w.goal token ≡ Ok next → Means next (front ++ token ∷ [])
awaits_by w at next token front [] (e, means) h =
    let is = if_ok (is_sign w.sign token) (At w.goal) next Misfit h in
    subst (λ state. Means state (front ++ token ∷ [])) is.1
    (subst (λ tokens. Leads w.goal tokens) (simp append-nil)
    (means [] token (subst (λ words. AreWords words []) (sym e) tt) is.0))
awaits_by w at next token front (word ∷ left) (e, means) h =
    let is = if_ok (is_word word token) (awaits_at w (at + 1)) next Misfit h in
    subst (λ state. Means state (front ++ token ∷ [])) is.1
    (λ words end fits ends. subst (λ tokens. Leads w.goal tokens) (simp append_assoc) (means (token ∷ words) end
    (subst (λ all. AreWords all (token ∷ words)) (sym e)
    (is.0, subst (λ all. AreWords all words) (drop-next (phrase_words w.phrase) at word left e) fits)) ends))

pub step_awaits : (w : Awaiting) (at : ℕ) (next : State) (token : Token) (ahead front : List Token) →
    Means (Awaits w.phrase at w.sign w.goal) front → step (Awaits w.phrase at w.sign w.goal) token ahead ≡ Ok next →
    Means next (front ++ token ∷ [])
step_awaits w at next token ahead front means h =
    awaits_by w at next token front (drop at (phrase_words w.phrase)) (refl, means)
    (sym (awaited-by w.phrase at w.sign w.goal token ahead) ∙ h)

pub step_cluster_name : (next : State) (token : Token) (front : List Token) → NamesCluster front
    → cluster_name token ≡ Ok next → Means next (front ++ token ∷ [])
unfolding cluster_name
step_cluster_name next token _ (names_cluster w) e =
    let found = fit_ok (name_in token) (λ name. sign_then Semicolon (goal.Command (Outside (empty_script name)))) next
    e in
    let front = w.first ∷ w.second ∷ w.equals ∷ token ∷ [] in
    subst (λ state. Means state front) found.2
    (means_sign Semicolon (goal.Command (Outside (empty_script found.0))) front
    (λ end ends. outside (empty_script found.0) (front ++ end ∷ [])
    (script_head w token end found.0 found.1 ends)))

-- A NODE line up to its `=`, but for the words between.
record NodeLine (script : Script) (id : ℕ) : Type 0 where
  front : List Token
  word : Token
  number : Token
  equals : Token
  is : IsScript front script
  none : script.statements ≡ []
  is_node : is_word (codes "node") word ≡ true
  is_id : id_in number ≡ Some id
  ends : is_sign Equals equals ≡ true

-- the whole of its words
abbrev node_words : (script : Script) (id : ℕ) (n : NodeLine script id) (admin conninfo : Token)
    → AreWords (codes "admin" ∷ codes "conninfo" ∷ []) (admin ∷ conninfo ∷ []) → NodeWords id
node_words script id n admin conninfo are = record {
  word = n.word;
  number = n.number;
  admin = admin;
  conninfo = conninfo;
  equals = n.equals;
  is_node = n.is_node;
  is_id = n.is_id;
  are = are;
  ends = n.ends;
}

-- the words of a NODE line behind its id
node_named : (script : Script) (id : ℕ) (n : NodeLine script id) (words : List Token) →
    AreWords (codes "admin" ∷ codes "conninfo" ∷ []) words →
    NamesNode script id (n.front ++ n.word ∷ [] ++ n.number ∷ [] ++ words ++ n.equals ∷ [])
node_named script id n [] fits = absurd fits
node_named script id n (a ∷ []) fits = absurd fits.1
node_named script id n (a ∷ c ∷ []) fits =
    subst (λ tokens. NamesNode script id tokens) (simp append_assoc)
    (names_node n.front (node_words script id n a c fits) n.is n.none)
node_named script id n (a ∷ c ∷ d ∷ more) fits = absurd fits.1.1

pub step_node_id : (script : Script) (next : State) (token : Token) (front : List Token) → BeginsNode script front
    → and_then (fit (id_in token)) (λ id. Ok (Awaits phrase.Node 0 Equals (goal.NodeText script id))) ≡ Ok next
    → Means next (front ++ token ∷ [])
unfolding phrase_words
step_node_id script next token _ (begins_node front word is none h) e =
    let found = fit_ok (id_in token) (λ id. Awaits phrase.Node 0 Equals (goal.NodeText script id)) next e in
    subst (λ state. Means state (front ++ word ∷ [] ++ token ∷ [])) found.2
    (λ words equals fits ends. node_named script found.0 (record {
      front = front;
      word = word;
      number = token;
      equals = equals;
      is = is;
      none = none;
      is_node = h;
      is_id = found.1;
      ends = ends;
    }) words fits)

pub step_node_text : (script : Script) (id : ℕ) (next : State) (token : Token) (front : List Token)
    → NamesNode script id front
    → node_text script id token ≡ Ok next → Means next (front ++ token ∷ [])
unfolding node_text
step_node_text script id next token _ (names_node front w is none) e =
    let found =
    fit_ok (string_in token) (λ text. sign_then Semicolon (goal.Command (Outside (with_node id text script)))) next
    e in
    let line = w.word ∷ w.number ∷ w.admin ∷ w.conninfo ∷ w.equals ∷ [] in
    subst (λ state. Means state (front ++ line ++ token ∷ [])) found.2
    (means_sign Semicolon (goal.Command (Outside (with_node id found.0 script))) (front ++ line ++ token ∷ [])
    (λ end ends. subst (λ tokens. Stands (Outside (with_node id found.0 script)) tokens) (simp append_assoc)
    (outside (with_node id found.0 script) _ (script_node front script id w found.0
    (record { value = token; end = end; is_text = found.1; ends = ends }) is none))))

-- an option that was found begins with the token
among_begins : (options : List OptionName) (token : Token) (name : OptionName) → option_among options token ≡ Some name
    → begins_option token name ≡ true
among_begins [] token name h = cc
among_begins (option ∷ options) token name h =
    elim (if_is (begins_option token option) (Some option) (option_among options token) (Some name) h) as (λ _.
    begins_option token name ≡ true) [
      | inl is ↦ let same : option ≡ name = cc (is.1) in subst (λ o. begins_option token o ≡ true) same is.0
      | inr is ↦ among_begins options token name is.1
    ]

pub option_begins : (verb : Verb) (token : Token) (name : OptionName) → option_at verb token ≡ Some name
    → begins_so token (option_words name) ≡ true
unfolding option_at begins_option
option_begins verb token name h = among_begins (options_of verb) token name h

-- the first word and the others are the words
pub words_join : (words : List (List ℕ)) (first : Token) (others : List Token) → begins_so first words ≡ true
    → AreWords (drop 1 words) others → AreWords words (first ∷ others)
words_join [] first others h fits = cc
words_join (word ∷ words) first others h fits = (h, fits)

-- two errors are no value
pub never_ok : {A E : Type 0} (b : Bool) (e f : E) (x : A) → cond b (Err e) (Err f) ≡ Ok x → ⊥
never_ok true e f x h = cc
never_ok false e f x h = cc

option_begun : (at : BeforeOption) (text : List ℕ) (next : State) (ahead : List Token) (found : Option OptionName) →
    option_at at.verb (Word text) ≡ found → begin_option at.block at.verb at.given text ahead found ≡ Ok next →
    Means next (at.front ++ Word text ∷ [])
unfolding begin_option phrase_words
option_begun at text next ahead None e h =
    absurd (never_ok (is_option_left_out at.verb ahead) (NotInProfile (lower text)) (UnknownOption (lower text)) next h)
option_begun at text next ahead (Some name) e h =
    let same : Awaits (phrase.Option name) 1 Equals (goal.Value at.block at.verb at.given name) ≡ next = cc in
    subst (λ state. Means state (at.front ++ Word text ∷ [])) same
    (λ words equals fits ends.
    let are = words_join (option_words name) (Word text) words (option_begins at.verb (Word text) name e) fits in
    subst (λ tokens. NamesOption at.block at.verb at.given name tokens) (simp append_assoc)
    (names_option at.front (record { first = Word text; others = words; end = equals; are = are; ends = ends })
    at.stands e))

-- a sign that begins no option leads to no state
no_state : (b : Bool) (read : Result Command Misparse) (next : State) (tokens : List Token)
    → cond b (missing read) (Err Misfit) ≡ Ok next → Means next tokens
no_state true (Ok command) next tokens h = cc
no_state true (Err e) next tokens h = cc
no_state false read next tokens h = cc

pub step_option : (at : BeforeOption) (next : State) (token : Token) (ahead : List Token) →
    option_step at.block at.verb at.given token ahead ≡ Ok next → Means next (at.front ++ token ∷ [])
unfolding option_step
step_option at next (Word text) ahead h = option_begun at text next ahead (option_at at.verb (Word text)) refl h
step_option at next (Mark sign) ahead h =
    no_state (same_sign sign CloseBracket) (made at.verb at.given) next (at.front ++ Mark sign ∷ []) h
step_option at next others ahead h = cc

-- a value behind options, or the first one
pub valued : (verb : Verb) (given more : Given) (options tokens : List Token) → CommaEnded verb options given
    → IsOption verb given tokens more → AreOptions verb (options ++ tokens) more
valued verb _ more _ tokens no_options is = one_option tokens more is
valued verb given more _ tokens (some_options front _ comma them h) is =
    subst (λ all. AreOptions verb all more) (simp append_assoc) (more_options front tokens given more comma them h is)

pub option_ended : (at : BeforeOption) (more : Given) (tokens all : List Token) →
    IsOption at.verb at.given tokens more → at.front ++ tokens ≡ all → OptionEnds at.block at.verb more all
option_ended at more tokens all is e = ended_by at.block at.verb at.given more at.front tokens at.stands (is, e)
  where
    ended_by : (block : Block) (verb : Verb) (given more : Given) (front tokens : List Token) →
        OptionStands block verb given front → IsOption verb given tokens more × (front ++ tokens ≡ all) →
        OptionEnds block verb more all
    ended_by block verb given more _ tokens (option_stands front options opens them) (is, e) =
        subst (λ ts. OptionEnds block verb more ts) (simp append_assoc at e)
        (option_ends front (options ++ tokens) opens (valued verb given more options tokens them is))

-- An option whose value is read next.
pub record Named : Type 0 where
  pub block : Block
  pub verb : Verb
  pub given : Given
  pub name : OptionName

pub step_value : (o : Named) (next : State) (token : Token) (front : List Token) →
    NamesOption o.block o.verb o.given o.name front →
    and_then (set_option o.name token o.given) (λ more. Ok (At (goal.AfterOption o.block o.verb more))) ≡ Ok next →
    Means next (front ++ token ∷ [])
step_value o next token _ (names_option front w stands found) e =
    let set =
    and_then_ok (set_option o.name token o.given) (λ more. At (goal.AfterOption o.block o.verb more)) next e in
    let at : BeforeOption =
    record { block = o.block; verb = o.verb; given = o.given; front = front; stands = stands } in
    let all = front ++ w.first ∷ w.others ++ w.end ∷ [] ++ token ∷ [] in
    subst (λ state. Means state all) set.2
    (option_ended at set.0 (w.first ∷ w.others ++ w.end ∷ token ∷ []) all (is_option o.name w token set.0 found set.1)
    (simp append_assoc))

-- a command with its semicolon behind what stands in a block
pub stands_with : (block : Block) (command : Command) (front tokens : List Token) (end : Token) → Stands block front
    → IsCommand (is_tried block) tokens command
    → is_sign Semicolon end ≡ true → Stands (with_command command block) (front ++ tokens ++ end ∷ [])
unfolding with_command
stands_with _ command _ tokens end (outside script front is) c h =
    outside (with_statement (Single command) script) (front ++ tokens ++ end ∷ [])
    (script_command front tokens script command end is c h)
stands_with _ command _ tokens end (in_try script front word commands body is i) c h =
    subst (λ all. Stands (InTry script (commands ++ command ∷ [])) all) (simp append_assoc)
    (in_try script front word (commands ++ command ∷ []) (record {
      brace = body.brace;
      tokens = body.tokens ++ tokens ++ end ∷ [];
      opens = body.opens;
      are = more_commands body.tokens tokens commands command end body.are c h;
    }) is i)
stands_with _ command _ tokens end (in_handler script tried handler before words commands body) c h =
    let are = more_commands body.tokens tokens commands command end body.are c h in
    subst (λ all. Stands (InHandler script tried handler (commands ++ command ∷ [])) all) (simp append_assoc)
    (in_handler script tried handler before words (commands ++ command ∷ [])
    (record { brace = body.brace; tokens = body.tokens ++ tokens ++ end ∷ []; opens = body.opens; are = are }))

pub means_command : (block : Block) (command : Command) (front tokens all : List Token) → Stands block front
    → IsCommand (is_tried block) tokens command
    → front ++ tokens ≡ all → Means (after_command block command) all
means_command block command front tokens all stands is e =
    means_sign Semicolon (goal.Command (with_command command block)) all
    (λ end ends. subst (λ ts. Stands (with_command command block) (ts ++ end ∷ [])) e
    (stands_with block command front tokens end stands is ends))

-- Options behind the bracket of a command.
record Optioned : Type 0 where
  block : Block
  verb : Verb
  given : Given
  front : List Token
  options : List Token
  opens : Opened block verb front
  are : AreOptions verb options given

-- options and the closing bracket are a command
means_made : (o : Optioned) (command : Command) (closes : Token) → is_sign CloseBracket closes ≡ true →
    made o.verb o.given ≡ Ok command → Means (after_command o.block command) (o.front ++ o.options ++ closes ∷ [])
means_made o command closes h makes = by o.front o.opens
  where
    by : (front : List Token) → Opened o.block o.verb front →
        Means (after_command o.block command) (front ++ o.options ++ closes ∷ [])
    by _ (opened front w stands may) =
        let closed : Closed o.verb o.given = record { options = o.options; end = closes; are = o.are; ends = h } in
        means_command o.block command front (w.first ∷ w.others ++ w.end ∷ o.options ++ closes ∷ [])
        (front ++ w.first ∷ w.others ++ w.end ∷ [] ++ o.options ++ closes ∷ []) stands
        (of_verb o.verb w o.given closed command may makes) (simp append_assoc)

closed_option : (o : Optioned) (next : State) (token : Token) (b : Bool) → is_sign CloseBracket token ≡ b →
    cond b (and_then (made o.verb o.given) (λ command. Ok (after_command o.block command))) (Err Misfit) ≡ Ok next →
    Means next (o.front ++ o.options ++ token ∷ [])
closed_option o next token false h e = cc
closed_option o next token true h e =
    let found = and_then_ok (made o.verb o.given) (λ command. after_command o.block command) next e in
    subst (λ state. Means state (o.front ++ o.options ++ token ∷ [])) found.2 (means_made o found.0 token h found.1)

pub step_after_option : (block : Block) (verb : Verb) (given : Given) (next : State) (token : Token)
    (front : List Token)
    → OptionEnds block verb given front → after_option block verb given token ≡ Ok next
    → Means next (front ++ token ∷ [])
unfolding after_option
step_after_option block verb given next token _ (option_ends front options opens them) e =
    elim (if_is (is_sign Comma token) (Ok (At (goal.Option block verb given)))
    (if is_sign CloseBracket token then and_then (made verb given) (λ command. Ok (after_command block command))
    else Err Misfit) (Ok next) e)
    as (λ _. Means next (front ++ options ++ token ∷ [])) [
      | inl is ↦ let same : At (goal.Option block verb given) ≡ next = cc (is.1) in
          subst (λ state. Means state (front ++ options ++ token ∷ [])) same
          (subst (λ tokens. OptionStands block verb given tokens) (simp append_assoc)
          (option_stands front (options ++ token ∷ []) opens (some_options options given token them is.0)))
      | inr is ↦ closed_option (record {
        block = block;
        verb = verb;
        given = given;
        front = front;
        options = options;
        opens = opens;
        are = them;
      }) next token (is_sign CloseBracket token) refl is.1
    ]
