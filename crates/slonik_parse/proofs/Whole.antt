-- What the tokens of a script give is what the grammar says of them.
use Rattle.std.proofs.Common.{◌≡◌, ◌⊎◌, ◌+◌, true, false, List, [], ◌∷◌, ◌++◌, length, drop, codes, Result, Ok, Err}
use Rattle.std.proofs.Common.{refl, ap, sym, ◌∙◌, subst, append_assoc, append-nil, inl, inr, arith}
use Rattle.std.proofs.lemmas.Bool.{and_right}
use Rattle.slonik_tokens.specs.declared.token.Token.{Token}
use Rattle.slonik_tokens.specs.Tokens.{is_word}
use Rattle.slonik_parse.specs.declared.misparse.Misparse.{Misparse}
use Rattle.slonik_parse.specs.declared.misparse.Misparse.TheVariants.{Misfit}
use Rattle.slonik_script.specs.declared.script.Script.{Script}
use Rattle.slonik_parse.specs.declared.state.Block.TheVariants.{Outside}
use Rattle.slonik_parse.specs.declared.state.Goal.TheVariants as goal
use Rattle.slonik_parse.specs.declared.state.State.{State}
use Rattle.slonik_parse.specs.declared.state.State.TheVariants.{Awaits, At}
use Rattle.slonik_parse.specs.Choices.{begins_with}
use Rattle.slonik_parse.specs.Grammar.{IsScript}
use Rattle.slonik_parse.specs.Machine.{Wrong, wrong, run, step, end_of, behind_preamble}
use Rattle.slonik_parse.specs.Outcomes.{script_in, placed}
use Rattle.slonik_parse.specs.Refusals.{preamble}
use Rattle.slonik_parse.proofs.Pieces.{run-ok, run-err, first_of}
use Rattle.slonik_parse.proofs.Reaching.{reached}
use Rattle.slonik_parse.proofs.Causes.{script_in-run, both}
use Rattle.slonik_parse.proofs.Ahead.{alike}
use Rattle.slonik_parse.proofs.Means.{Means, means_start}
use Rattle.slonik_parse.proofs.MeansStep.{means_step, means_end}

-- a script of the grammar is read as it
pub read_as : (tokens : List Token) (script : Script) → IsScript tokens script
    → (begins_with preamble tokens ≡ true) × (run (drop 2 tokens) behind_preamble ≡ Ok script)
unfolding run
read_as tokens script is =
    let r = reached tokens script is in (
      ap (begins_with preamble) (sym (append-nil tokens)) ∙ r.preamble [],
      ap (λ ts. run (drop 2 ts) behind_preamble) (sym (append-nil tokens)) ∙ r.ran [] tt,
    )

pub accepted : (tokens : List Token) (script : Script) → IsScript tokens script → script_in tokens ≡ Ok script
accepted tokens script is =
    let r = read_as tokens script is in
    script_in-run tokens r.0 ∙ ap (placed (length tokens)) r.1

-- what is read is the same, or goes wrong before
abbrev pub Agrees : Result Script Wrong → Result Script Wrong → Type 0
Agrees one other = (one ≡ other) ⊎ ((w : Wrong) × (one ≡ Err w))

-- The tokens of front lead to the state, whatever comes behind them but for its first token.
abbrev pub Reaches : State → List Token → List Token → Type 0
Reaches state front rest = (other : List Token) → first_of other ≡ first_of rest
    → Agrees (run (drop 2 (front ++ other)) behind_preamble) (run other state)

-- the state does not go on with the rest
abbrev pub IsStuckAt : State → List Token → Misparse → Type 0
IsStuckAt state [] misparse = (misparse ≡ Misfit) × (end_of state ≡ Err (wrong Misfit 0))
IsStuckAt state (token ∷ rest) misparse = step state token (token ∷ rest) ≡ Err misparse

-- Where the tokens go wrong.
pub record FailsAt (tokens : List Token) (w : Wrong) : Type 0 where
  pub front : List Token
  pub rest : List Token
  pub state : State
  pub split : tokens ≡ front ++ rest
  pub left : w.left ≡ length rest
  pub means : Means state front
  pub stuck : IsStuckAt state rest w.misparse
  pub reach : Reaches state front rest

abbrev pub Outcome : List Token → Result Script Wrong → Type 0
Outcome tokens (Ok script) = IsScript tokens script
Outcome tokens (Err w) = FailsAt tokens w

end_wrong : (state : State) (w : Wrong) → end_of state ≡ Err w → w ≡ wrong Misfit 0
end_wrong (Awaits phrase at sign g) w h = cc
end_wrong (At (goal.Command (Outside script))) w h = cc
end_wrong (At others) w h = cc

walk_end : (state : State) (front : List Token) → Means state front → Reaches state front []
    → (made : Result Script Wrong) → end_of state ≡ made → Outcome front made
walk_end state front means reach (Ok script) e = means_end state front script means e
walk_end state front means reach (Err w) e =
    let is = end_wrong state w e in
    record {
      front = front;
      rest = [];
      state = state;
      split = sym (append-nil front);
      left = ap (λ v. v.left) is;
      means = means;
      stuck = (ap (λ v. v.misparse) is, e ∙ ap Err is);
      reach = reach;
    }

reach_on : (state next : State) (front rest : List Token) (token : Token) → Reaches state front (token ∷ rest)
    → step state token (token ∷ rest) ≡ Ok next → Reaches next (front ++ token ∷ []) rest
reach_on state next front rest token reach h other e =
    let same = ap (λ ts. run (drop 2 ts) behind_preamble) (append_assoc front (token ∷ []) other) in
    elim (reach (token ∷ other) refl) as (λ _. Agrees (run (drop 2 ((front ++ token ∷ []) ++ other)) behind_preamble)
    (run other next)) [
      | inl goes ↦ elim ((alike state token rest other).same e next h) as (λ _.
          Agrees (run (drop 2 ((front ++ token ∷ []) ++ other)) behind_preamble) (run other next)) [
            | inl steps ↦ inl (same ∙ goes ∙ run-ok state next token other steps)
            | inr errs ↦ inr (wrong errs.0 (length other + 1), same ∙ goes ∙ run-err state errs.0 token other errs.1)
          ]
      | inr errs ↦ inr (errs.0, same ∙ errs.1)
    ]

walk_step : (rest front : List Token) (token : Token) (state : State)
    → Means state front × Reaches state front (token ∷ rest)
    → ((next : State) → Means next (front ++ token ∷ []) → Reaches next (front ++ token ∷ []) rest
    → Outcome ((front ++ token ∷ []) ++ rest) (run rest next))
    → (made : Result State Misparse) → step state token (token ∷ rest) ≡ made
    → Outcome (front ++ token ∷ rest) (run (token ∷ rest) state)
walk_step rest front token state (means, reach) more (Ok next) e =
    subst (λ made. Outcome (front ++ token ∷ rest) made) (sym (run-ok state next token rest e))
    (subst (λ ts. Outcome ts (run rest next)) (append_assoc front (token ∷ []) rest)
    (more next (means_step state next token rest front means e) (reach_on state next front rest token reach e)))
walk_step rest front token state (means, reach) more (Err misparse) e =
    subst (λ made. Outcome (front ++ token ∷ rest) made) (sym (run-err state misparse token rest e))
    (record {
      front = front;
      rest = token ∷ rest;
      state = state;
      split = refl;
      left = omega arith;
      means = means;
      stuck = e;
      reach = reach;
    })

-- what the tokens behind those of front give
walk : (rest front : List Token) (state : State) → Means state front → Reaches state front rest
    → Outcome (front ++ rest) (run rest state)
unfolding run
walk [] front state means reach =
    subst (λ ts. Outcome ts (end_of state)) (sym (append-nil front))
    (walk_end state front means reach (end_of state) refl)
walk (token ∷ rest) front state means reach =
    walk_step rest front token state (means, reach) (λ next m r. walk rest (front ++ token ∷ []) next m r)
    (step state token (token ∷ rest)) refl

-- what tokens with a preamble give
pub read_whole : (tokens : List Token) → begins_with preamble tokens ≡ true
    → Outcome tokens (run (drop 2 tokens) behind_preamble)
read_whole [] h = cc
read_whole (first ∷ []) h = let e = and_right (is_word (codes "cluster") first) false refl in cc
read_whole (first ∷ second ∷ rest) h =
    let words = both (is_word (codes "cluster") first) (is_word (codes "name") second) h in
    walk rest (first ∷ second ∷ []) behind_preamble (means_start first second words.0 words.1) (λ other e. inl refl)
