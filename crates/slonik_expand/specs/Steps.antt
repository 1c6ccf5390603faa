-- What the steps of an expansion do.
use Rattle.std.specs.Prelude.{◌≡◌, ℕ, ◌<◌, ◌≤◌, List, ◌++◌, if◌then◌else◌, true, length, drop, Option, Some, None}
use Rattle.std.specs.Prelude.{Result, Ok, Err}
use Rattle.std.specs.Option.{option_map}
use Rattle.std.specs.Str.{bytes_eq}
use Rattle.std.specs.Borrow.{Bor}
use Rattle.indexmap.specs.IndexMap.{get_by_text}
use Rattle.slonik_script.specs.declared.refusal.ScriptRefusal.{ScriptRefusal}
use Rattle.slonik_script.specs.declared.refusal.ScriptRefusal.TheVariants.{Undefined, TooMany}
use Rattle.slonik_tokens.specs.declared.fault.ParseFault.{ParseFault}
use Rattle.slonik_tokens.specs.declared.fault.ParseFault.TheVariants.{Refused, ReadFault, TooLong, NoMemory}
use Rattle.slonik_tokens.specs.declared.token.Token.{Token}
use Rattle.slonik_expand.specs.declared.definition.Definition.{Definition as ADefinition}
use Rattle.slonik_expand.specs.declared.definitions.Definitions.{Definitions}
use Rattle.slonik_expand.specs.declared.forms.Form as code
use Rattle.slonik_expand.specs.declared.forms.Form.TheVariants as seen
use Rattle.slonik_expand.specs.declared.output.Output.{Output}
use Rattle.slonik_expand.specs.declared.progress.Progress.{Progress}
use Rattle.slonik_expand.specs.Ends.{EndsSo}
use Rattle.slonik_expand.specs.Shared.{capped, parts_tokens, meanings, meaning, are_below}
use Rattle.slonik_expand.specs.Expansion.{Making, Ending, Made, Wrong, and_then, expand_from, place_behind, token_limit}
use Rattle.slonik_expand.specs.Expansion.{Form, Itself, Use, Definition, Inclusion}

-- what a name stands for
abbrev pub names_of : Definitions → List ℕ → Option (List Token)
names_of definitions name = option_map (meaning definitions.made.items) (get_by_text definitions.places name)

-- what was made
abbrev pub making_of : Progress → Making
making_of p =
    record { out = p.output.tokens.items; place = p.output.place; names = names_of p.definitions; left = p.left }

-- a form, with what its references point to
abbrev pub form_seen : code.Form → Form
form_seen seen.Itself = Itself
form_seen (seen.Use name) = Use name.now
form_seen (seen.Definition name tokens) = Definition name.now tokens.now
form_seen (seen.Inclusion path) = Inclusion path.now

-- the tokens came out
pub record IsBehind (old : Output) (more : List Token) (new : Output) : Type 0 where
  pub tokens : new.tokens.items ≡ old.tokens.items ++ more
  pub place : new.place ≡ place_behind more old.place

-- the tokens came out, or there would be too many, or memory ran out
abbrev pub Puts : Output → List Token → Output → Result (Unit {0}) ParseFault → Type 0
Puts old tokens new (Ok x) = IsBehind old tokens new × (length new.tokens.items ≤ token_limit)
Puts old tokens new (Err (Refused refusal)) = (refusal ≡ TooMany) × (token_limit < length (old.tokens.items ++ tokens))
Puts old tokens new (Err ReadFault) = ⊥
Puts old tokens new (Err TooLong) = ⊥
Puts old tokens new (Err NoMemory) = Unit {0}

-- a name stands for nothing
abbrev pub IsMissing : Result (List Token) (List ℕ) → ScriptRefusal → Type 0
IsMissing replaced refusal = (name : List ℕ) × (refusal ≡ Undefined name) × (replaced ≡ Err name)

-- A definition stands for these tokens, where these were made before it.
pub record Means (made : List ADefinition) (definition : ADefinition) (tokens : List Token) : Type 0 where
  pub parts : parts_tokens (meanings made) definition.parts.items ≡ tokens
  pub len : definition.len ≡ capped (length tokens)
  pub below : are_below (length made) definition.parts.items ≡ true

-- what was found is added to what a definition stands for, or a name stands for nothing, or memory ran out
abbrev pub Adds : List ADefinition → Result (List Token) (List ℕ) → ADefinition → ADefinition
    → Result (Unit {0}) ParseFault → Type 0
Adds made found old new (Ok x) =
    (more : List Token) × (found ≡ Ok more) × ((tokens : List Token) → Means made old tokens
    → Means made new (tokens ++ more))
Adds made found old new (Err (Refused refusal)) = IsMissing found refusal
Adds made found old new (Err ReadFault) = ⊥
Adds made found old new (Err TooLong) = ⊥
Adds made found old new (Err NoMemory) = Unit {0}

-- what was answered stands for the tokens with their names replaced, unless memory runs out
abbrev pub AddsAll : List ADefinition → Result (List Token) (List ℕ) → Result ADefinition ParseFault → Type 0
AddsAll made found (Ok definition) = (tokens : List Token) × (found ≡ Ok tokens) × Means made definition tokens
AddsAll made found (Err (Refused refusal)) = IsMissing found refusal
AddsAll made found (Err ReadFault) = ⊥
AddsAll made found (Err TooLong) = ⊥
AddsAll made found (Err NoMemory) = Unit {0}

-- The definition at the place stands for what this one does, and those that were made before for what they did.
pub record Settles (old : List ADefinition) (definition : ADefinition) (new : List ADefinition) (place : ℕ) : Type 0
  where
    pub within : place < length new
    pub stands : meaning new place ≡ parts_tokens (meanings old) definition.parts.items
    pub more : length old ≤ length new
    pub others : (other : ℕ) → other < length old → meaning new other ≡ meaning old other

-- the name stands for the tokens with their names replaced, and the others for what they did, unless memory runs out
abbrev pub Defines : (List ℕ → Option (List Token)) → List ℕ → Result (List Token) (List ℕ)
    → (List ℕ → Option (List Token)) → Result (Unit {0}) ParseFault → Type 0
Defines old name found new (Ok x) =
    (tokens : List Token) × (found ≡ Ok tokens) × ((other : List ℕ)
    → new other ≡ (if bytes_eq other name then Some tokens else old other))
Defines old name found new (Err (Refused refusal)) = IsMissing found refusal
Defines old name found new (Err ReadFault) = ⊥
Defines old name found new (Err TooLong) = ⊥
Defines old name found new (Err NoMemory) = Unit {0}

-- the ending is this fault, unless memory runs out, where no file is read
abbrev pub HaltsSo : Ending → ℕ → ParseFault → Type 0
HaltsSo ending left (Refused refusal) = ending ≡ Wrong refusal left
HaltsSo ending left ReadFault = ⊥
HaltsSo ending left TooLong = ⊥
HaltsSo ending left NoMemory = Unit {0}

-- the ending is what was made, or this fault, where no file is read
abbrev pub Goes : Ending → Making → Result (Unit {0}) ParseFault → Type 0
Goes ending making (Ok x) = ending ≡ Made making
Goes ending making (Err fault) = HaltsSo ending making.left fault

-- the ending is what was made, or this fault
abbrev pub Expands : Ending → Making → Result (Unit {0}) ParseFault → Type 0
Expands ending making (Ok x) = ending ≡ Made making
Expands ending making (Err fault) = EndsSo ending making.left fault

-- the ending is what is made up to the end, or is made behind the next INCLUDE and behind its file
abbrev pub Runs : (List ℕ → Making → Ending) → List Token → Ending → Making
    → Result (Option (ℕ × Bor (List ℕ))) ParseFault → Type 0
Runs include tokens ending making (Ok None) = ending ≡ Made making
Runs include tokens ending making (Ok (Some found)) =
    ending ≡ and_then (include found.1.now making) (expand_from include 0 (drop found.0 tokens))
Runs include tokens ending making (Err fault) = HaltsSo ending making.left fault

-- the ending is the expansion of the tokens of a file, which are seen by `view`, or this fault
abbrev pub Includes : {X : Type 0} → (X → List Token) → (List Token → Making → Ending) → Ending → Making
    → Result X ParseFault → Type 0
Includes view expand ending making (Ok x) = ending ≡ expand (view x) making
Includes view expand ending making (Err fault) = EndsSo ending making.left fault
