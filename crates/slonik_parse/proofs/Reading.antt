-- Scripts that are read token by token.
use Rattle.std.proofs.Common.{◌≡◌, ℕ, ◌+◌, ◌-◌, List, [], ◌∷◌, length, Result, Ok, Err, subst, sym, ap, ◌∙◌, refl}
use Rattle.std.proofs.Common.{arith}
use Rattle.slonik_tokens.specs.declared.fault.ParseFault.{ParseFault}
use Rattle.slonik_tokens.specs.declared.fault.ParseFault.TheVariants.{NoMemory as OutOfMemory}
use Rattle.slonik_script.specs.declared.refusal.ScriptRefusal.{ScriptRefusal}
use Rattle.slonik_tokens.specs.declared.token.Token.{Token}
use Rattle.slonik_parse.specs.declared.misparse.Misparse.{Misparse}
use Rattle.slonik_parse.specs.declared.misparse.Misparse.TheVariants.{NoMemory}
use Rattle.slonik_script.specs.declared.script.Script.{Script}
use Rattle.slonik_parse.specs.declared.state.State.{State}
use Rattle.slonik_parse.specs.Answered.{FailsSo}
use Rattle.slonik_parse.specs.Machine.{Wrong, go_on, step, end_of, run}
use Rattle.slonik_parse.specs.Outcomes.{Reads, placed, refused_at}

run-end : (state : State) → run [] state ≡ end_of state
unfolding run
run-end state = refl

run-step : (token : Token) (tokens : List Token) (state : State)
    → run (token ∷ tokens) state ≡ go_on (step state token (token ∷ tokens)) (run tokens) (length tokens + 1)
unfolding run
run-step token tokens state = refl

-- The token that is read next, and those behind it.
pub record Next : Type 0 where
  pub rest : List Token
  pub behind : List Token
  pub token : Token
  pub first : rest ≡ token ∷ behind

abbrev pub next_of : (rest behind : List Token) (token : Token) → rest ≡ token ∷ behind → Next
next_of rest behind token first = record { rest = rest; behind = behind; token = token; first = first }

-- a token goes on with a script
pub goes : (whole : Result Script Wrong) (n : Next) (state next : State) → run n.rest state ≡ whole →
    step state n.token n.rest ≡ Ok next → run n.behind next ≡ whole
goes whole n state next runs made =
    let made_first : step state n.token (n.token ∷ n.behind) ≡ Ok next =
    subst (λ (r : List Token). step state n.token r ≡ Ok next) n.first made in
    sym (ap (λ (m : Result State Misparse). go_on m (run n.behind) (length n.behind + 1)) made_first)
    ∙ (sym (run-step n.token n.behind state) ∙ (sym (ap (λ (r : List Token). run r state) n.first) ∙ runs))

-- What is answered of a misparse at a place.
pub record Failing : Type 0 where
  pub misparse : Misparse
  pub fault : ParseFault
  pub place : ℕ
  pub reads : Reads (Err (refused_at place misparse)) (Err fault)
  pub memory : misparse ≡ NoMemory → fault ≡ OutOfMemory

-- a misparse that is known has its name
named : (made : Result State Misparse) (more : State → Result Script Wrong) (f : Failing) (total left : ℕ) →
    made ≡ Err f.misparse → f.place ≡ total + 1 - left → Reads (placed total (go_on made more left)) (Err f.fault)
named made more f total left fails e =
    subst (λ (m : Result State Misparse). Reads (placed total (go_on m more left)) (Err f.fault)) (sym fails)
    (subst (λ (p : ℕ). Reads (Err (refused_at p f.misparse)) (Err f.fault)) e f.reads)

-- where memory ran out, anything may be read
out_of_memory : (read : Result Script ScriptRefusal) (fault : ParseFault) → fault ≡ OutOfMemory → Reads read (Err fault)
out_of_memory read fault e = subst (λ (f : ParseFault). Reads read (Err f)) (sym e) tt

fails_by : (made : Result State Misparse) (more : State → Result Script Wrong) (f : Failing) (total left : ℕ) →
    FailsSo made f.misparse → f.place ≡ total + 1 - left → Reads (placed total (go_on made more left)) (Err f.fault)
fails_by made more f total left fails e = by f.misparse fails refl
  where
    by : (misparse : Misparse) → FailsSo made misparse → misparse ≡ f.misparse →
        Reads (placed total (go_on made more left)) (Err f.fault)
    by NoMemory fails same = out_of_memory (placed total (go_on made more left)) f.fault (f.memory (sym same))
    by others fails same = named made more f total left (fails ∙ ap (λ m. Err m) same) e

-- a token does not go on with a script
pub fails : (n : Next) (state : State) (f : Failing) (total : ℕ) → f.place + length n.rest ≡ total + 1 →
    FailsSo (step state n.token n.rest) f.misparse → Reads (placed total (run n.rest state)) (Err f.fault)
fails n state f total numbered failed =
    let as_run : go_on (step state n.token (n.token ∷ n.behind)) (run n.behind) (length n.behind + 1)
    ≡ run n.rest state =
    sym (run-step n.token n.behind state) ∙ sym (ap (λ (r : List Token). run r state) n.first) in
    let failed_first : FailsSo (step state n.token (n.token ∷ n.behind)) f.misparse =
    subst (λ (r : List Token). FailsSo (step state n.token r) f.misparse) n.first failed in
    let long : length n.rest ≡ length (n.token ∷ n.behind) = ap (λ (r : List Token). length r) n.first in
    subst (λ (w : Result Script Wrong). Reads (placed total w) (Err f.fault)) as_run
    (fails_by (step state n.token (n.token ∷ n.behind)) (run n.behind) f total (length n.behind + 1)
    failed_first (omega (arith, long)))

pub reads_whole : (total : ℕ) (one whole : Result Script Wrong) (fault : ParseFault) → one ≡ whole
    → Reads (placed total one) (Err fault) → Reads (placed total whole) (Err fault)
reads_whole total one whole fault e h = subst (λ (w : Result Script Wrong). Reads (placed total w) (Err fault)) e h

no_tokens : (tokens : List Token) → length tokens ≡ 0 → tokens ≡ []
no_tokens [] none = refl
no_tokens (token ∷ tokens) none = absurd (omega (arith, none))

-- How many tokens are left at a place.
pub record Numbered : Type 0 where
  pub rest : List Token
  pub place : ℕ
  pub total : ℕ
  pub numbered : place + length rest ≡ total + 1

-- no token is left
pub ends : (n : Numbered) (whole : Result Script Wrong) (state : State) (result : Result Script ParseFault) →
    run n.rest state ≡ whole → length n.rest ≡ 0 → Reads (placed (n.place - 1) (end_of state)) result →
    Reads (placed n.total whole) result
ends n whole state result runs none reads =
    let as_run : end_of state ≡ whole =
    sym (run-end state) ∙ (sym (ap (λ (r : List Token). run r state) (no_tokens n.rest none)) ∙ runs) in
    let last : n.place - 1 ≡ n.total = omega (arith, n.numbered) in
    subst (λ (w : Result Script Wrong). Reads (placed n.total w) result) as_run
    (subst (λ (t : ℕ). Reads (placed t (end_of state)) result) last reads)
