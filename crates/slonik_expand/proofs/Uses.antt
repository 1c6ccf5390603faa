-- No `@name` is among the tokens that come out.
use Rattle.std.proofs.Common.{◌≡◌, ℕ, zero, suc, ltb, ◌-◌, cond, Bool, true, false, List, [], ◌∷◌, length, Option, Some}
use Rattle.std.proofs.Common.{None, Result, Ok, Err, refl, subst}
use Rattle.std.specs.List.{All}
use Rattle.std.specs.Str.{bytes_eq}
use Rattle.std.proofs.lemmas.List.Elements.{All-nil, All-cons, All-append}
use Rattle.slonik_tokens.specs.Cut.{cut_of}
use Rattle.slonik_script.specs.declared.refusal.ScriptRefusal.TheVariants.{TooMany}
use Rattle.slonik_tokens.specs.declared.token.Token.{Token}
use Rattle.slonik_tokens.specs.declared.token.Token.TheVariants.{Word, Number, Quoted, Mark, NameUse, Path}
use Rattle.slonik_expand.specs.Expansion.{Making, Ending, Made, Wrong, Long, and_then, put_all, within_limit, joined}
use Rattle.slonik_expand.specs.Expansion.{meant, replaced_one, replaced, defined, used, Form, Itself, Use, Definition}
use Rattle.slonik_expand.specs.Expansion.{Inclusion, form_at, first_of_form, expand_from, of_file, include_bytes}
use Rattle.slonik_expand.specs.Expansion.{include_file, include_at, expansion_of, nothing_made, token_limit}
use Rattle.slonik_expand.specs.Uses.{IsNoUse}

-- neither the tokens that came out nor those that a name stands for hold an `@name`
record Clean (m : Making) : Type 0 where
  out : All IsNoUse m.out
  names : (name : List ℕ) (ts : List Token) → m.names name ≡ Some ts → All IsNoUse ts

abbrev IsClean : Ending → Type 0
IsClean (Made m) = Clean m
IsClean (Wrong refusal left) = Unit {0}
IsClean Long = Unit {0}

-- an INCLUDE keeps it so
abbrev Cleanly : (List ℕ → Making → Ending) → Type 0
Cleanly include = (path : List ℕ) (m : Making) → Clean m → IsClean (include path m)

clean_then : (ending : Ending) (more : Making → Ending) → IsClean ending → ((m : Making) → Clean m → IsClean (more m))
    → IsClean (and_then ending more)
clean_then (Made m) more h on = on m h
clean_then (Wrong refusal left) more h on = tt
clean_then Long more h on = tt

clean_limit : (m : Making) → Clean m → IsClean (within_limit m)
clean_limit m h =
    elim (ltb token_limit (length m.out)) as (λ b. IsClean
    (cond b (Wrong TooMany m.left) (Made m))) [ true ↦ tt | false ↦ h ]

clean_put : (ts : List Token) (m : Making) → All IsNoUse ts → Clean m → Clean (put_all ts m)
clean_put ts m none h = record { out = All-append IsNoUse m.out ts h.out none; names = h.names }

clean_used : (name : List ℕ) (found : Option (List Token)) (m : Making)
    → ((ts : List Token) → found ≡ Some ts → All IsNoUse ts) → Clean m → IsClean (used name found m)
clean_used name None m none h = tt
clean_used name (Some ts) m none h = clean_limit (put_all ts m) (clean_put ts m (none ts refl) h)

abbrev AreClean : Result (List Token) (List ℕ) → Type 0
AreClean (Ok ts) = All IsNoUse ts
AreClean (Err name) = Unit {0}

clean_joined : (a b : Result (List Token) (List ℕ)) → AreClean a → AreClean b → AreClean (joined a b)
clean_joined (Ok xs) (Ok ys) h k = All-append IsNoUse xs ys h k
clean_joined (Ok xs) (Err name) h k = tt
clean_joined (Err name) b h k = tt

clean_meant : (name : List ℕ) (found : Option (List Token)) → ((ts : List Token) → found ≡ Some ts → All IsNoUse ts)
    → AreClean (meant name found)
clean_meant name None none = tt
clean_meant name (Some ts) none = none ts refl

one : (t : Token) → IsNoUse t → All IsNoUse (t ∷ [])
one t h = All-cons IsNoUse t [] h (All-nil IsNoUse)

clean_one : (m : Making) (t : Token) → Clean m → AreClean (replaced_one m.names t)
clean_one m (NameUse name) h = clean_meant name (m.names name) (h.names name)
clean_one m (Word text) h = one (Word text) tt
clean_one m (Number text) h = one (Number text) tt
clean_one m (Quoted text) h = one (Quoted text) tt
clean_one m (Mark sign) h = one (Mark sign) tt
clean_one m (Path path) h = one (Path path) tt

clean_replaced : (m : Making) (ts : List Token) → Clean m → AreClean (replaced m.names ts)
clean_replaced m [] h = All-nil IsNoUse
clean_replaced m (t ∷ ts) h =
    clean_joined (replaced_one m.names t) (replaced m.names ts) (clean_one m t h) (clean_replaced m ts h)

some_is : (xs ys : List Token) → Some xs ≡ Some ys → All IsNoUse xs → All IsNoUse ys
some_is xs ys e h = let same : xs ≡ ys = cc in subst (All IsNoUse) same h

clean_choice : (b : Bool) (xs ys : List Token) (other : Option (List Token)) → All IsNoUse xs
    → ((ts : List Token) → other ≡ Some ts → All IsNoUse ts) → cond b (Some xs) other ≡ Some ys → All IsNoUse ys
clean_choice true xs ys other h k e = some_is xs ys e h
clean_choice false xs ys other h k e = k ys e

clean_defined : (name : List ℕ) (found : Result (List Token) (List ℕ)) (m : Making) → AreClean found → Clean m
    → IsClean (defined name found m)
clean_defined name (Err missing) m k h = tt
clean_defined name (Ok ts) m k h = record {
  out = h.out;
  names = λ other us e. clean_choice (bytes_eq other name) ts us (m.names other) k (h.names other) e;
}

clean_form : (include : List ℕ → Making → Ending) (t : Token) (form : Form) (m : Making) → Cleanly include → IsNoUse t
    → Clean m → IsClean (first_of_form include t form m).0
clean_form include t Itself m inc none h = clean_limit (put_all (t ∷ []) m) (clean_put (t ∷ []) m (one t none) h)
clean_form include t (Use name) m inc none h = clean_used name (m.names name) m (h.names name) h
clean_form include t (Definition name ts) m inc none h =
    clean_defined name (replaced m.names ts) m (clean_replaced m ts h) h
clean_form include t (Inclusion path) m inc none h = inc path m h

clean_first : (include : List ℕ → Making → Ending) (t : Token) (ts : List Token) (m : Making) → Cleanly include
    → Clean m → IsClean (first_of_form include t (form_at m.place t ts) m).0
clean_first include (NameUse name) ts m inc h = clean_used name (m.names name) m (h.names name) h
clean_first include (Word text) ts m inc h = clean_form include (Word text) (form_at m.place (Word text) ts) m inc tt h
clean_first include (Number text) ts m inc h = clean_form include (Number text) Itself m inc tt h
clean_first include (Quoted text) ts m inc h = clean_form include (Quoted text) Itself m inc tt h
clean_first include (Mark sign) ts m inc h = clean_form include (Mark sign) Itself m inc tt h
clean_first include (Path path) ts m inc h = clean_form include (Path path) Itself m inc tt h

clean_from : (include : List ℕ → Making → Ending) (passed : ℕ) (ts : List Token) (m : Making) → Cleanly include
    → Clean m → IsClean (expand_from include passed ts m)
unfolding expand_from
clean_from include passed [] m inc h = h
clean_from include (suc passed) (t ∷ ts) m inc h = clean_from include passed ts m inc h
clean_from include zero (t ∷ ts) m inc h =
    clean_then (first_of_form include t (form_at m.place t ts) m).0
    (expand_from include (first_of_form include t (form_at m.place t ts) m).1 ts) (clean_first include t ts m inc h)
    (λ n k. clean_from include (first_of_form include t (form_at m.place t ts) m).1 ts n inc k)

clean_tokens : (include : List ℕ → Making → Ending) (cut : Result (List Token) ℕ) (m : Making) → Cleanly include
    → Clean m → IsClean (of_file (expand_from include 0) cut m)
clean_tokens include (Ok ts) m inc h = clean_from include 0 ts m inc h
clean_tokens include (Err line) m inc h = tt

clean_bytes : (include : List ℕ → Making → Ending) (bytes : List ℕ) (m : Making) → Cleanly include → Clean m
    → IsClean (include_bytes (expand_from include 0) bytes m)
clean_bytes include bytes m inc h =
    let left : Making = record m { left = m.left - length bytes } in
    elim (ltb m.left (length bytes)) as (λ b. IsClean (cond b Long
    (of_file (expand_from include 0) (cut_of bytes) left))) [
      | true ↦ tt
      | false ↦ clean_tokens include (cut_of bytes) left inc (record { out = h.out; names = h.names })
    ]

clean_file : (include : List ℕ → Making → Ending) (path : List ℕ) (found : Option (List ℕ)) (m : Making)
    → Cleanly include → Clean m → IsClean (include_file (expand_from include 0) path found m)
clean_file include path None m inc h = tt
clean_file include path (Some bytes) m inc h = clean_bytes include bytes m inc h

clean_at : (names : List ℕ → Option (List ℕ)) (levels : ℕ) → Cleanly (include_at names levels)
unfolding include_at
clean_at names zero path m h = tt
clean_at names (suc levels) path m h =
    clean_file (include_at names levels) path (names path) m (clean_at names levels) h

made_clean : (ending : Ending) (m : Making) → IsClean ending → ending ≡ Made m → All IsNoUse m.out
made_clean ending m h e = let k : Clean m = subst IsClean e h in k.out

pub none_comes_out : (names : List ℕ → Option (List ℕ)) (left : ℕ) (tokens : List Token) (m : Making)
    → expansion_of names left tokens ≡ Made m → All IsNoUse m.out
none_comes_out names left tokens m e =
    made_clean (expansion_of names left tokens) m
    (clean_from (include_at names 8) 0 tokens (nothing_made left) (clean_at names 8)
    (record { out = All-nil IsNoUse; names = λ name ts none. cc })) e
