-- How an expansion goes on.
use Rattle.std.proofs.Common.{◌≡◌, ℕ, zero, suc, ◌+◌, ◌-◌, ◌<◌, ◌≤◌, List, [], ◌∷◌, length, take, drop, get_or, Option}
use Rattle.std.proofs.Common.{Some, None, Ok, Err, refl, sym, ap, subst, ◌∙◌, arith, ltb, false}
use Rattle.std.proofs.lemmas.List.{drop-drop, drop_all, take_all, length-drop}
use borrow.Author.Tests.{ltb-false}
use Rattle.std.specs.Borrow.{Bor}
use Rattle.std.specs.Result.{IsErrOf}
use Rattle.slon_base.specs.Outside.{Filed}
use Rattle.slonik_script.specs.declared.refusal.ScriptRefusal.TheVariants.{Depth}
use Rattle.slonik_tokens.specs.declared.fault.ParseFault.{ParseFault}
use Rattle.slonik_tokens.specs.declared.fault.ParseFault.TheVariants.{Refused, ReadFault, TooLong, NoMemory}
use Rattle.slonik_tokens.specs.declared.token.Token.{Token}
use Rattle.slonik_expand.specs.Ends.{EndsSo, Stays}
use Rattle.slonik_expand.specs.Expansion.{Making, Ending, Made, Wrong, and_then, expand_from, include_at, include_file}
use Rattle.slonik_expand.specs.Expansion.{Form, Inclusion, first_of_form, form_at, before_semicolon}
use Rattle.slonik_expand.specs.Steps.{HaltsSo, Runs}
use Rattle.slonik_expand.proofs.Keeping.{OneOf, drop_one}
use Rattle.slonik_expand.proofs.Semicolons.{IsClosed}

-- tokens that belong to the form before them are passed
pub passed_on : (include : List ℕ → Making → Ending) (n : ℕ) (ts : List Token) (m : Making)
    → expand_from include n ts m ≡ expand_from include 0 (drop n ts) m
unfolding expand_from
passed_on include zero ts m = refl
passed_on include (suc n) [] m = refl
passed_on include (suc n) (t ∷ ts) m = passed_on include n ts m

-- at the end of the tokens
pub over : (include : List ℕ → Making → Ending) (ts : List Token) (at : ℕ) (m : Making) → length ts ≤ at
    → expand_from include 0 (drop at ts) m ≡ Made m
unfolding expand_from
over include ts at m h = ap (λ l. expand_from include 0 l m) (drop_all at ts h)

-- the tokens behind one
abbrev pub behind : List Token → ℕ → List Token
behind ts at = take (length ts - (at + 1)) (drop (at + 1) ts)

behind_is : (ts : List Token) (at : ℕ) → behind ts at ≡ drop (at + 1) ts
behind_is ts at = take_all (length ts - (at + 1)) (drop (at + 1) ts) (omega (arith, length-drop (at + 1) ts))

-- no `;` stands two places behind a token
pub closed_behind : (ts : List Token) (at closed : ℕ) → IsClosed ts closed → ltb (at + 2) closed ≡ false
    → before_semicolon (drop 1 (behind ts at)) ≡ None
closed_behind ts at closed none h =
    ap (λ l. before_semicolon (drop 1 l)) (behind_is ts at) ∙ ap before_semicolon (drop-drop 1 (at + 1) ts)
    ∙ none (at + 1 + 1) (omega (arith, ltb-false (at + 2) closed h))

-- What is still to be expanded: some tokens from a place on, behind what was made before.
pub record Rest : Type 0 where
  pub include : List ℕ → Making → Ending
  pub tokens : List Token
  pub at : ℕ
  pub making : Making

-- how the expansion ends from there
abbrev pub ending_of : Rest → Ending
ending_of r = expand_from r.include 0 (drop r.at r.tokens) r.making

-- how it ends behind the token there, where this number of the tokens that follow belong to the form before
abbrev pub ending_behind : Rest → ℕ → Making → Ending
ending_behind r passed m = expand_from r.include passed (drop (r.at + 1) r.tokens) m

-- The form that begins there.
pub record Begins (r : Rest) : Type 0 where
  pub token : Token
  pub form : Form
  pub within : r.at < length r.tokens
  pub is : token ≡ get_or r.tokens r.at token
  pub form_is : form ≡ form_at r.making.place token (behind r.tokens r.at)

-- its end, and how many more tokens belong to it
abbrev pub first_of : {r : Rest} → Begins r → Ending × ℕ
first_of {r} b = first_of_form r.include b.token b.form r.making

abbrev pub begins : (r : Rest) (t : Token) (form : Form) → r.at < length r.tokens → t ≡ get_or r.tokens r.at t
    → form ≡ form_at r.making.place t (behind r.tokens r.at) → Begins r
begins r t form within is e = record { token = t; form = form; within = within; is = is; form_is = e }

-- the first form, and what comes behind it
stepped : (r : Rest) (b : Begins r) → ending_of r ≡ and_then (first_of b).0 (ending_behind r (first_of b).1)
unfolding expand_from
stepped r b =
    let first : List Token → Ending × ℕ = λ l. first_of_form r.include b.token (form_at r.making.place b.token l)
    r.making in
    let same : first_of b ≡ first (drop (r.at + 1) r.tokens) =
    ap (λ f. first_of_form r.include b.token f r.making) b.form_is ∙ ap first (behind_is r.tokens r.at) in
    let one : OneOf r.tokens = record { at = r.at; token = b.token; within = b.within; is = b.is } in
    ap (λ l. expand_from r.include 0 l r.making) (drop_one r.tokens one)
    ∙ ap (λ f. and_then f.0 (ending_behind r f.1)) (sym same)

-- a form was expanded
pub went : (whole : Ending) (r : Rest) (next : ℕ) (now : Making) → whole ≡ ending_of r → (b : Begins r)
    → (first_of b).0 ≡ Made now → next ≡ r.at + 1 + (first_of b).1
    → whole ≡ ending_of (record r { at = next; making = now })
went whole r next now so b made far =
    let passed = (first_of b).1 in
    so ∙ stepped r b ∙ ap (λ x. and_then x (ending_behind r passed)) made
    ∙ passed_on r.include passed (drop (r.at + 1) r.tokens) now
    ∙ ap (λ l. expand_from r.include 0 l now)
    (drop-drop passed (r.at + 1) r.tokens ∙ ap (λ n. drop n r.tokens) (sym far))

-- an INCLUDE comes next
pub includes : (whole : Ending) (r : Rest) (path : List ℕ) → whole ≡ ending_of r → (b : Begins r)
    → b.form ≡ Inclusion path
    → whole ≡ and_then (r.include path r.making) (expand_from r.include 0 (drop (r.at + 3) r.tokens))
includes whole r path so b is =
    let far : r.at + 1 + 2 ≡ r.at + 3 = omega arith in
    let on : (n : Making) → ending_behind r 2 n ≡ expand_from r.include 0 (drop (r.at + 3) r.tokens) n =
    λ n. passed_on r.include 2 (drop (r.at + 1) r.tokens) n
    ∙ ap (λ l. expand_from r.include 0 l n) (drop-drop 2 (r.at + 1) r.tokens ∙ ap (λ k. drop k r.tokens) far) in
    let first = first_of_form r.include b.token in
    so ∙ stepped r b ∙ ap (λ f. and_then (first f r.making).0 (ending_behind r (first f r.making).1)) is
    ∙ ap (and_then (r.include path r.making)) (λ i n. on n i)

-- what a halt of the first form is of the whole
pub halts : (first : Ending) (more : Making → Ending) (left : ℕ) (fault : ParseFault) → HaltsSo first left fault
    → HaltsSo (and_then first more) left fault
halts first more left (Refused refusal) h = ap (λ e. and_then e more) h
halts first more left ReadFault h = h
halts first more left TooLong h = h
halts first more left NoMemory h = tt

pub stopped : (whole : Ending) (r : Rest) (left : ℕ) (fault : ParseFault) → whole ≡ ending_of r → (b : Begins r)
    → HaltsSo (first_of b).0 left fault → HaltsSo whole left fault
stopped whole r left fault so b h =
    subst (λ x. HaltsSo x left fault) (sym (so ∙ stepped r b))
    (halts (first_of b).0 (ending_behind r (first_of b).1) left fault h)

pub ends_so : (first : Ending) (more : Making → Ending) (left : ℕ) (fault : ParseFault) → EndsSo first left fault
    → EndsSo (and_then first more) left fault
ends_so first more left (Refused refusal) h = ap (λ e. and_then e more) h
ends_so first more left ReadFault h = tt
ends_so first more left TooLong h = ap (λ e. and_then e more) h
ends_so first more left NoMemory h = tt

pub ends_halted : (whole ending : Ending) (left : ℕ) (fault : ParseFault) → whole ≡ ending → HaltsSo ending left fault
    → EndsSo whole left fault
ends_halted whole ending left (Refused refusal) e h = e ∙ h
ends_halted whole ending left ReadFault e h = tt
ends_halted whole ending left TooLong e h = absurd h
ends_halted whole ending left NoMemory e h = tt

-- where no file is read, none fails
pub none_failed : {X : Type 0} (P : Type 0) (ending : Ending) (left : ℕ) (fault : ParseFault)
    → HaltsSo ending left fault → IsErrOf {T = X} (Err fault) ReadFault → P
none_failed P ending left (Refused refusal) h e = cc
none_failed P ending left ReadFault h e = absurd h
none_failed P ending left TooLong h e = absurd h
none_failed P ending left NoMemory h e = cc

-- a file is included where a level is left
pub included_below : (names : List ℕ → Option (List ℕ)) (levels : ℕ) (path : List ℕ) (m : Making) → 0 < levels
    → include_at names levels path m ≡ include_file (expand_from (include_at names (levels - 1)) 0) path (names path) m
unfolding include_at
included_below names zero path m h = absurd (omega arith)
included_below names (suc levels) path m h =
    let e : levels ≡ suc levels - 1 = omega arith in
    ap (λ l. include_file (expand_from (include_at names l) 0) path (names path) m) e

pub ends_after : (whole ending : Ending) (more : Making → Ending) (left : ℕ) (fault : ParseFault)
    → whole ≡ and_then ending more → EndsSo ending left fault → EndsSo whole left fault
ends_after whole ending more left fault e h =
    subst (λ x. EndsSo x left fault) (sym e) (ends_so ending more left fault h)

-- The files that may be included: what each name has, and how many levels of them.
pub record Library : Type 0 where
  pub names : List ℕ → Option (List ℕ)
  pub levels : ℕ

abbrev pub include_of : Library → List ℕ → Making → Ending
include_of l = include_at l.names l.levels

-- how tokens end that stand one level deeper
abbrev pub below_of : Library → List Token → Making → Ending
below_of l = expand_from (include_at l.names (l.levels - 1)) 0

-- The whole ends as an INCLUDE does that comes next, and as what comes behind it.
pub record Including (whole : Ending) : Type 0 where
  pub library : Library
  pub path : List ℕ
  pub making : Making
  pub more : Making → Ending
  pub is : whole ≡ and_then (include_of library path making) more

-- the ending of the file, where a level is left
abbrev pub file_of : {whole : Ending} → Including whole → Ending
file_of i = include_file (below_of i.library) i.path (i.library.names i.path) i.making

pub too_deep : (whole : Ending) (i : Including whole) (found : List ℕ) → i.library.levels ≡ 0 → found ≡ i.path
    → whole ≡ Wrong (Depth found) i.making.left
unfolding include_at
too_deep whole i found none same =
    i.is ∙ ap (λ n. and_then (include_at i.library.names n i.path i.making) i.more) none
    ∙ ap (λ p. Wrong (Depth p) i.making.left) (sym same)

-- the file was included, and its tokens give an ending
pub included_gives : (whole : Ending) (i : Including whole) (ending : Ending) → 0 < i.library.levels
    → file_of i ≡ ending → whole ≡ and_then ending i.more
included_gives whole i ending some h =
    i.is ∙ ap (λ x. and_then x i.more) (included_below i.library.names i.library.levels i.path i.making some ∙ h)

-- the file was included, and its tokens come next
pub tokens_come : (whole : Ending) (i : Including whole) (tokens slice : List Token) (now : Making)
    → 0 < i.library.levels → file_of i ≡ below_of i.library tokens now → slice ≡ tokens
    → whole ≡ and_then (below_of i.library slice now) i.more
tokens_come whole i tokens slice now some h same =
    let of : List Token → Ending = λ l. below_of i.library l now in
    included_gives whole i (of slice) some (h ∙ ap of (sym same))

-- the file could not be included
pub not_included : (whole : Ending) (i : Including whole) (left : ℕ) (fault : ParseFault) → 0 < i.library.levels
    → EndsSo (file_of i) left fault → EndsSo whole left fault
not_included whole i left fault some h =
    ends_after whole (file_of i) i.more left fault (included_gives whole i (file_of i) some refl) h

pub goes_after : (whole ending : Ending) (more : Making → Ending) (now : Making) → whole ≡ and_then ending more
    → ending ≡ Made now → whole ≡ more now
goes_after whole ending more now e h = e ∙ ap (λ x. and_then x more) h

-- What a run over tokens up to the next INCLUDE found, where the whole ends as that run does.
pub record Ran (whole : Ending) : Type 0 where
  pub library : Library
  pub tokens : List Token
  pub making : Making
  pub found : Option (ℕ × Bor (List ℕ))
  pub ending : Ending
  pub so : whole ≡ ending
  pub runs : Runs (include_of library) tokens ending making (Ok found)

abbrev pub ran : (library : Library) (tokens : List Token) (whole ending : Ending) (making : Making)
    (found : Option (ℕ × Bor (List ℕ))) → whole ≡ ending
    → Runs (include_of library) tokens ending making (Ok found) → Ran whole
ran library tokens whole ending making found so runs = record {
  library = library;
  tokens = tokens;
  making = making;
  found = found;
  ending = ending;
  so = so;
  runs = runs;
}

abbrev pub ran_some : (whole : Ending) (r : Ran whole) (at : ℕ) (path : Bor (List ℕ)) → r.found ≡ Some (at, path)
    → Including whole
ran_some whole r at path e = record {
  library = r.library;
  path = path.now;
  making = r.making;
  more = expand_from (include_of r.library) 0 (drop at r.tokens);
  is = r.so ∙ subst (λ o. Runs (include_of r.library) r.tokens r.ending r.making (Ok o)) e r.runs;
}

pub ran_none : (whole : Ending) (r : Ran whole) → r.found ≡ None → whole ≡ Made r.making
ran_none whole r e = r.so ∙ subst (λ o. Runs (include_of r.library) r.tokens r.ending r.making (Ok o)) e r.runs

pub stays_on : (old now next : Filed) → Stays old now → Stays now next → Stays old next
stays_on old now next a b =
    record { faults = omega (arith, a.faults, b.faults); names = b.names ∙ a.names; stack = b.stack ∙ a.stack }
