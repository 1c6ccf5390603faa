-- Tokens come out, and names are defined.
use Rattle.std.proofs.Common.{◌≡◌, ℕ, ◌<◌, ◌≤◌, List, length, Some, Result, Ok, Err, sym, ap, subst, ◌∙◌, arith}
use Rattle.std.proofs.lemmas.Bool.Decides.{nat_tests}
use Rattle.slonik_script.specs.declared.refusal.ScriptRefusal.TheVariants.{TooMany}
use Rattle.slonik_tokens.specs.declared.fault.ParseFault.{ParseFault}
use Rattle.slonik_tokens.specs.declared.fault.ParseFault.TheVariants.{Refused, ReadFault, TooLong, NoMemory}
use Rattle.slonik_tokens.specs.declared.token.Token.{Token}
use Rattle.std.specs.Option.{option_map}
use Rattle.indexmap.specs.IndexMap.{get_by_text}
use Rattle.slonik_expand.specs.declared.definitions.Definitions.{Definitions}
use Rattle.slonik_expand.specs.declared.output.Output.{Output}
use Rattle.slonik_expand.specs.declared.progress.Progress.{Progress}
use Rattle.slonik_expand.specs.Expansion.{Making, Made, Wrong, put_all, within_limit, used, defined, token_limit}
use Rattle.slonik_expand.specs.Shared.{meaning}
use Rattle.slonik_expand.specs.Steps.{names_of, making_of, Puts, Defines, Goes}

fits : (m : Making) → length m.out ≤ token_limit → within_limit m ≡ Made m
fits m h = grind (arith, nat_tests)

too_many : (m : Making) → token_limit < length m.out → within_limit m ≡ Wrong TooMany m.left
too_many m h = grind (arith, nat_tests)

-- tokens came out
pub put_gives : (p : Progress) (ts : List Token) (new : Output) (r : Result (Unit {0}) ParseFault)
    → Puts p.output ts new r
    → Goes (within_limit (put_all ts (making_of p))) (making_of (record p { output = new })) r
put_gives p ts new (Ok x) h =
    let m : Making = put_all ts (making_of p) in
    let short : length m.out ≤ token_limit = subst (λ l. length l ≤ token_limit) h.0.tokens h.1 in
    fits m short ∙ (λ i. Made (record m { out = sym h.0.tokens i; place = sym h.0.place i }))
put_gives p ts new (Err (Refused refusal)) h =
    too_many (put_all ts (making_of p)) h.1 ∙ ap (λ r. Wrong r p.left) (sym h.0)
put_gives p ts new (Err ReadFault) h = absurd h
put_gives p ts new (Err TooLong) h = absurd h
put_gives p ts new (Err NoMemory) h = tt

-- what a name stands for came out
pub named_gives : (p : Progress) (name : List ℕ) (place : ℕ) (new : Output) (r : Result (Unit {0}) ParseFault)
    → Some place ≡ get_by_text p.definitions.places name
    → Puts p.output (meaning p.definitions.made.items place) new r
    → Goes (used name (names_of p.definitions name) (making_of p)) (making_of (record p { output = new })) r
named_gives p name place new r there h =
    let is : Some (meaning p.definitions.made.items place) ≡ names_of p.definitions name =
    ap (option_map (meaning p.definitions.made.items)) there in
    subst (λ o. Goes (used name o (making_of p)) (making_of (record p { output = new })) r) is
    (put_gives p (meaning p.definitions.made.items place) new r h)

-- a definition whose names were replaced
pub defined_gives : (p : Progress) (name : List ℕ) (found : Result (List Token) (List ℕ)) (new : Definitions)
    (r : Result (Unit {0}) ParseFault)
    → Defines (names_of p.definitions) name found (names_of new) r
    → Goes (defined name found (making_of p)) (making_of (record p { definitions = new })) r
defined_gives p name found new (Ok x) h =
    ap (λ f. defined name f (making_of p)) h.1 ∙ (λ i.
    Made (record (making_of p) { names = λ other. sym (h.2 other) i }))
defined_gives p name found new (Err (Refused refusal)) h =
    ap (λ f. defined name f (making_of p)) h.2 ∙ ap (λ refused. Wrong refused p.left) (sym h.1)
defined_gives p name found new (Err ReadFault) h = absurd h
defined_gives p name found new (Err TooLong) h = absurd h
defined_gives p name found new (Err NoMemory) h = tt
