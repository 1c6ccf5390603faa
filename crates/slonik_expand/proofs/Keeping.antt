-- What tokens are replaced by that are gone over one by one.
use Rattle.std.proofs.Common.{◌≡◌, ℕ, suc, ◌+◌, ◌<◌, List, [], ◌∷◌, ◌++◌, length, take, drop, get_or, Option, Some}
use Rattle.std.proofs.Common.{Result, Ok, Err, refl, sym, ap, ◌∙◌, add-one, append_assoc, drop-cons}
use Rattle.std.proofs.Math.Seq.{take-suc}
use Rattle.std.proofs.lemmas.List.{append-nil, take-append-drop}
use Rattle.slon_base.specs.declared.text.Text.{Text}
use Rattle.slonik_tokens.specs.declared.fault.ParseFault.{ParseFault}
use Rattle.slonik_tokens.specs.declared.fault.ParseFault.TheVariants.{Refused, ReadFault, TooLong, NoMemory}
use Rattle.slonik_tokens.specs.declared.token.Token.{Token}
use Rattle.slonik_tokens.specs.declared.token.Token.TheVariants.{Word, Number, Quoted, Mark, NameUse, Path}
use Rattle.slonik_expand.specs.declared.definition.Definition.{Definition}
use Rattle.slonik_expand.specs.declared.definitions.Definitions.{Definitions}
use Rattle.slonik_expand.specs.Expansion.{joined, meant, replaced_one, replaced}
use Rattle.slonik_expand.specs.Steps.{names_of, Means, Adds, AddsAll}

-- One of some tokens, and its place.
pub record OneOf (ts : List Token) : Type 0 where
  pub at : ℕ
  pub token : Token
  pub within : at < length ts
  pub is : token ≡ get_or ts at token

pub take_one : (ts : List Token) (one : OneOf ts) → take (one.at + 1) ts ≡ take one.at ts ++ one.token ∷ []
take_one ts one =
    ap (λ n. take n ts) (add-one one.at) ∙ take-suc ts one.at one.token one.within
    ∙ ap (λ x. take one.at ts ++ x ∷ []) (sym one.is)

pub drop_one : (ts : List Token) (one : OneOf ts) → drop one.at ts ≡ one.token ∷ drop (one.at + 1) ts
drop_one ts one =
    drop-cons ts one.at one.token one.within ∙ ap (λ x. x ∷ drop (suc one.at) ts) (sym one.is)
    ∙ ap (λ n. one.token ∷ drop n ts) (sym (add-one one.at))

joined_more : (a b c : Result (List Token) (List ℕ)) → joined (joined a b) c ≡ joined a (joined b c)
joined_more (Ok xs) (Ok ys) (Ok zs) = ap Ok (append_assoc xs ys zs)
joined_more (Ok xs) (Ok ys) (Err name) = refl
joined_more (Ok xs) (Err name) c = refl
joined_more (Err name) b c = refl

replaced_all : (names : List ℕ → Option (List Token)) (xs ys : List Token)
    → replaced names (xs ++ ys) ≡ joined (replaced names xs) (replaced names ys)
replaced_all names [] ys = sym (joined_nothing (replaced names ys))
  where
    joined_nothing : (a : Result (List Token) (List ℕ)) → joined (Ok []) a ≡ a
    joined_nothing (Ok xs) = refl
    joined_nothing (Err name) = refl
replaced_all names (x ∷ xs) ys =
    ap (joined (replaced_one names x)) (replaced_all names xs ys)
    ∙ sym (joined_more (replaced_one names x) (replaced names xs) (replaced names ys))

one_alone : (a : Result (List Token) (List ℕ)) → joined a (Ok []) ≡ a
one_alone (Ok xs) = ap Ok (append-nil xs)
one_alone (Err name) = refl

-- a name is replaced
pub named_one : (names : List ℕ → Option (List Token)) (t : Token) (name : List ℕ) (tokens : List Token)
    → t ≡ NameUse name → names name ≡ Some tokens → replaced_one names t ≡ Ok tokens
named_one names t name tokens is stands = ap (replaced_one names) is ∙ ap (meant name) stands

-- a token that is no name use stays
pub other_one : (names : List ℕ → Option (List Token)) (t : Token) → ((name : Text) → t ≡ NameUse name → ⊥)
    → replaced_one names t ≡ Ok (t ∷ [])
other_one names (NameUse name) other = absurd (other name refl)
other_one names (Word text) other = refl
other_one names (Number text) other = refl
other_one names (Quoted text) other = refl
other_one names (Mark sign) other = refl
other_one names (Path path) other = refl

-- Over what names stand for, a definition stands for what replaces some tokens.
pub record Stands (all : Definitions) (ts : List Token) (d : Definition) : Type 0 where
  pub whole : List Token
  pub done : replaced (names_of all) ts ≡ Ok whole
  pub means : Means all.made.items d whole

pub stands_one : (all : Definitions) (ts : List Token) (old new : Definition) (one : OneOf ts)
    → Stands all (take one.at ts) old
    → Adds all.made.items (replaced_one (names_of all) one.token) old new (Ok tt)
    → Stands all (take (one.at + 1) ts) new
stands_one all ts old new one before adds =
    let names = names_of all in
    record {
      whole = before.whole ++ adds.0;
      done = ap (replaced names) (take_one ts one) ∙ replaced_all names (take one.at ts) (one.token ∷ [])
          ∙ ap (λ a. joined a (replaced names (one.token ∷ []))) before.done
          ∙ ap (joined (Ok before.whole)) (one_alone (replaced_one names one.token) ∙ adds.1);
      means = adds.2 before.whole before.means;
    }

missing_one : (names : List ℕ → Option (List Token)) (ts whole : List Token) (one : OneOf ts) (name : List ℕ)
    → replaced names (take one.at ts) ≡ Ok whole → replaced_one names one.token ≡ Err name
    → replaced names ts ≡ Err name
missing_one names ts whole one name done e =
    let rest = drop (one.at + 1) ts in
    let all : ts ≡ take one.at ts ++ one.token ∷ rest =
    sym (take-append-drop one.at ts) ∙ ap (λ l. take one.at ts ++ l) (drop_one ts one) in
    ap (replaced names) all ∙ replaced_all names (take one.at ts) (one.token ∷ rest)
    ∙ ap (λ a. joined a (replaced names (one.token ∷ rest))) done
    ∙ ap (λ a. joined (Ok whole) (joined a (replaced names rest))) e

pub adds_halted : (all : Definitions) (ts : List Token) (old new : Definition) (one : OneOf ts) (fault : ParseFault)
    → Stands all (take one.at ts) old
    → Adds all.made.items (replaced_one (names_of all) one.token) old new (Err fault)
    → AddsAll all.made.items (replaced (names_of all) ts) (Err fault)
adds_halted all ts old new one (Refused refusal) before h =
    (h.0, h.1, missing_one (names_of all) ts before.whole one h.0 before.done h.2)
adds_halted all ts old new one ReadFault before h = absurd h
adds_halted all ts old new one TooLong before h = absurd h
adds_halted all ts old new one NoMemory before h = tt
