-- What the tokens of a script give, by the grammar alone, and nothing else.
use Rattle.std.proofs.Common.{◌≡◌, ◌⊎◌, ℕ, ◌+◌, ◌-◌, Bool, true, false, List, [], ◌∷◌, ◌++◌, length, drop, Result, Ok}
use Rattle.std.proofs.Common.{Err, refl, ap, sym, ◌∙◌, subst, append_assoc, append-nil, length-append, inl, inr, arith}
use Rattle.slonik_script.specs.declared.refusal.ScriptRefusal.{ScriptRefusal}
use Rattle.slonik_script.specs.declared.refusal.ScriptRefusal.TheVariants as refusal
use Rattle.slonik_tokens.specs.declared.token.Token.{Token}
use Rattle.slonik_parse.specs.declared.misparse.Misparse.{Misparse}
use Rattle.slonik_parse.specs.declared.misparse.Misparse.TheVariants.{Misfit, UnknownOption, MissingOption}
use Rattle.slonik_parse.specs.declared.misparse.Misparse.TheVariants.{NotInProfile, NotInTry, NoMemory}
use Rattle.slonik_script.specs.declared.script.Script.{Script}
use Rattle.slonik_parse.specs.declared.state.State.{State}
use Rattle.slonik_parse.specs.Choices.{begins_with}
use Rattle.slonik_parse.specs.Forms.{option_text}
use Rattle.slonik_parse.specs.Grammar.{IsScript}
use Rattle.slonik_parse.specs.Machine.{Wrong, run, behind_preamble}
use Rattle.slonik_parse.specs.Outcomes.{script_in, placed, refused_at}
use Rattle.slonik_parse.specs.Refusals.{IsRefused, Refuses, IsBadSyntax, StopsBefore, preamble, no_preamble}
use Rattle.slonik_parse.proofs.Pieces.{run-err}
use Rattle.slonik_parse.proofs.Causes.{script_in-run, without_preamble, refused}
use Rattle.slonik_parse.proofs.Ahead.{alike}
use Rattle.slonik_parse.proofs.Means.{Means}
use Rattle.slonik_parse.proofs.MeansWrong.{means_wrong}
use Rattle.slonik_parse.proofs.Whole.{read_as, Reaches, IsStuckAt, FailsAt, Outcome, read_whole}
use Rattle.slonik_parse.proofs.MeansEnds.{goes_on}

placed_ok : (total : ℕ) (made : Result Script Wrong) (script : Script) → placed total made ≡ Ok script
    → made ≡ Ok script
placed_ok total (Ok s) script h = cc
placed_ok total (Err w) script h = cc

placed_err : (total : ℕ) (made : Result Script Wrong) (r : ScriptRefusal) → placed total made ≡ Err r
    → (w : Wrong) × (made ≡ Err w) × (r ≡ refused_at (total + 1 - w.left) w.misparse)
placed_err total (Ok s) r h = cc
placed_err total (Err w) r h = (w, refl, cc)

found_by : (tokens : List Token) (script : Script) (b : Bool) → begins_with preamble tokens ≡ b
    → script_in tokens ≡ Ok script → IsScript tokens script
found_by tokens script true h e =
    subst (Outcome tokens) (placed_ok (length tokens) (run (drop 2 tokens) behind_preamble) script
    (sym (script_in-run tokens h) ∙ e)) (read_whole tokens h)
found_by tokens script false h e = let other = without_preamble tokens h in absurd (cc)

-- what is read as a script is that script of the grammar
pub found : (tokens : List Token) (script : Script) → script_in tokens ≡ Ok script → IsScript tokens script
found tokens script e = found_by tokens script (begins_with preamble tokens) refl e

-- a script cannot be read where the machine is stuck
stops : (front rest : List Token) (state : State) → IsStuckAt state rest Misfit → Reaches state front rest
    → StopsBefore front rest
unfolding run
stops front [] state stuck reach = λ script is.
    let r = (read_as front script is).1 in
    let e = ap (λ ts. run (drop 2 ts) behind_preamble) (append-nil front) in
    elim (reach [] refl) as (λ _. ⊥) [
      | inl same ↦ (let k = sym r ∙ sym e ∙ same ∙ stuck.1 in absurd (cc))
      | inr
          errs ↦ (let k = sym r ∙ sym e ∙ errs.1 in absurd (cc))
    ]
stops front (token ∷ rest) state stuck reach = λ more script is.
    let r = (read_as (front ++ token ∷ more) script is).1 in
    let wrongs = (alike state token rest more).errs stuck in
    elim (reach (token ∷ more) refl) as (λ _. ⊥) [
      | inl
          same ↦ (let k = sym r ∙ same ∙ run-err state wrongs.0 token more wrongs.1 in absurd (cc))
      | inr
          errs ↦ (let k = sym r ∙ errs.1 in absurd (cc))
    ]

-- no other cause is bad syntax
not_bad : (tokens : List Token) (r : ScriptRefusal) (place : ℕ) → IsRefused tokens r → r ≡ refusal.BadSyntax place → ⊥
not_bad tokens r place (no_preamble _ h) e = cc
not_bad tokens r place others e = cc

err_is : {A : Type 0} (a b : ScriptRefusal) (made : Result A ScriptRefusal) → made ≡ Err a → made ≡ Err b → a ≡ b
err_is a b made h k = let e = sym h ∙ k in cc

-- Where the machine is stuck.
record Stuck (tokens : List Token) (misparse : Misparse) (rest : List Token) : Type 0 where
  front : List Token
  state : State
  left : ℕ
  split : tokens ≡ front ++ rest
  counts : left ≡ length rest
  means : Means state front
  stuck : IsStuckAt state rest misparse
  reach : Reaches state front rest

refuses_by : (tokens : List Token) (misparse : Misparse) (rest : List Token) (s : Stuck tokens misparse rest) →
    script_in tokens ≡ Err (refused_at (length tokens + 1 - s.left) misparse) →
    Refuses tokens (refused_at (length tokens + 1 - s.left) misparse)
refuses_by tokens Misfit rest s e =
    let lengths = ap length s.split ∙ length-append s.front rest in (
      s.front,
      rest,
      s.split,
      omega (arith, lengths, s.counts),
      goes_on s.state s.front s.means,
      stops s.front rest s.state s.stuck s.reach,
      λ r is. not_bad tokens r (length tokens + 1 - s.left) is
          (err_is r (refusal.BadSyntax (length tokens + 1 - s.left)) (script_in tokens) (refused tokens r is) e),
    )
refuses_by tokens (UnknownOption word) (token ∷ rest) s e =
    subst (λ ts. IsRefused ts (refusal.UnknownOption word)) (sym s.split)
    (means_wrong s.state (UnknownOption word) token rest s.front s.means s.stuck)
refuses_by tokens (MissingOption name) (token ∷ rest) s e =
    subst (λ ts. IsRefused ts (refusal.MissingOption (option_text name))) (sym s.split)
    (means_wrong s.state (MissingOption name) token rest s.front s.means s.stuck)
refuses_by tokens (NotInProfile word) (token ∷ rest) s e =
    subst (λ ts. IsRefused ts (refusal.NotInProfile word)) (sym s.split)
    (means_wrong s.state (NotInProfile word) token rest s.front s.means s.stuck)
refuses_by tokens (NotInTry word) (token ∷ rest) s e =
    subst (λ ts. IsRefused ts (refusal.NotInTry word)) (sym s.split)
    (means_wrong s.state (NotInTry word) token rest s.front s.means s.stuck)
refuses_by tokens NoMemory (token ∷ rest) s e =
    absurd (means_wrong s.state NoMemory token rest s.front s.means s.stuck)
refuses_by tokens others [] s e = let k = s.stuck.0 in absurd (cc)

wrong_by : (tokens : List Token) (r : ScriptRefusal) (b : Bool) → begins_with preamble tokens ≡ b
    → script_in tokens ≡ Err r → Refuses tokens r
wrong_by tokens r true h e =
    let w = placed_err (length tokens) (run (drop 2 tokens) behind_preamble) r (sym (script_in-run tokens h) ∙ e) in
    let f : FailsAt tokens w.0 = subst (Outcome tokens) w.1 (read_whole tokens h) in
    subst (Refuses tokens) (sym w.2)
    (refuses_by tokens (w.0).misparse f.rest (record {
      front = f.front;
      state = f.state;
      left = (w.0).left;
      split = f.split;
      counts = f.left;
      means = f.means;
      stuck = f.stuck;
      reach = f.reach;
    }) (e ∙ ap Err w.2))
wrong_by tokens r false h e =
    subst (Refuses tokens) (err_is refusal.NoPreamble r (script_in tokens) (without_preamble tokens h) e)
    (no_preamble tokens h)

-- what is refused is refused so by the grammar
pub wrong_found : (tokens : List Token) (r : ScriptRefusal) → script_in tokens ≡ Err r → Refuses tokens r
wrong_found tokens r e = wrong_by tokens r (begins_with preamble tokens) refl e

-- one list cut at two places
cut_apart : (a b c d : List Token) → a ++ b ≡ c ++ d
    → ((m : List Token) × (c ≡ a ++ m) × (b ≡ m ++ d)) ⊎ ((m : List Token) × (a ≡ c ++ m) × (d ≡ m ++ b))
cut_apart [] b c d e = inl (c, refl, e)
cut_apart (x ∷ xs) b [] d e = inr (x ∷ xs, refl, sym e)
cut_apart (x ∷ xs) b (y ∷ ys) d e =
    let heads : x ≡ y = cc in
    let tails : xs ++ b ≡ ys ++ d = cc in
    elim (cut_apart xs b ys d tails) as (λ _. ((m : List Token) × (y ∷ ys ≡ (x ∷ xs) ++ m) × (b ≡ m ++ d))
    ⊎ ((m : List Token) × (x ∷ xs ≡ (y ∷ ys) ++ m) × (d ≡ m ++ b))) [
      | inl one ↦ inl (one.0, (let k = one.1 in cc), one.2)
      | inr one ↦ inr (one.0, (let k = one.1 in cc), one.2)
    ]

-- One list cut at two places.
record Cuts : Type 0 where
  front : List Token
  rest : List Token
  behind : List Token
  other : List Token
  between : List Token
  split : behind ≡ front ++ between
  is : rest ≡ between ++ other

abbrev cuts : (front rest behind other between : List Token) → behind ≡ front ++ between → rest ≡ between ++ other →
    Cuts
cuts front rest behind other between split is =
    record { front = front; rest = rest; behind = behind; other = other; between = between; split = split; is = is }

-- no script goes on both behind a place and not before it
no_further : (c : Cuts) (more : List Token) (script : Script) → StopsBefore c.front c.rest →
    IsScript (c.behind ++ more) script → length c.behind ≡ length c.front
no_further c more script stopped script_is = by c.between c.split c.is
  where
    by : (between : List Token) → c.behind ≡ c.front ++ between → c.rest ≡ between ++ c.other →
        length c.behind ≡ length c.front
    by [] split is = ap length (split ∙ append-nil c.front)
    by (t ∷ ts) split is =
        let here : StopsBefore c.front (t ∷ (ts ++ c.other)) = subst (StopsBefore c.front) is stopped in
        absurd (here (ts ++ more) script (subst (λ l. IsScript l script)
        (ap (λ l. l ++ more) split ∙ append_assoc c.front (t ∷ ts) more) script_is))

one_place : (tokens : List Token) (p q : ℕ) → IsBadSyntax tokens p → IsBadSyntax tokens q → p ≡ q
one_place tokens p q (front, rest, split, at, goes, stopped, alone)
    (front2, rest2, split2, at2, goes2, stopped2, alone2) =
    elim (cut_apart front rest front2 rest2 (sym split ∙ split2)) as (λ _. p ≡ q) [
      | inl m ↦ (let k = no_further (cuts front rest front2 rest2 m.0 m.1 m.2) goes2.0 goes2.1 stopped goes2.2 in
          omega (arith, k, at, at2))
      | inr m ↦ (let k = no_further (cuts front2 rest2 front rest m.0 m.1 m.2) goes.0 goes.1 stopped2 goes.2 in
          omega (arith, k, at, at2))
    ]

-- a script of the grammar is no bad syntax
not_script : (tokens : List Token) (place : ℕ) (script : Script) → IsBadSyntax tokens place → IsScript tokens script → ⊥
not_script tokens place script (front, [], split, at, goes, stopped, alone) is =
    stopped script (subst (λ l. IsScript l script) (split ∙ append-nil front) is)
not_script tokens place script (front, token ∷ rest, split, at, goes, stopped, alone) is =
    stopped rest script (subst (λ l. IsScript l script) split is)

bad_of : (tokens : List Token) (place : ℕ) → IsBadSyntax tokens place → (r : ScriptRefusal) → script_in tokens ≡ Err r
    → Refuses tokens r → script_in tokens ≡ Err (refusal.BadSyntax place)
bad_of tokens place bad (refusal.BadSyntax other) e is =
    e ∙ ap (λ n. Err (refusal.BadSyntax n)) (one_place tokens other place is bad)
bad_of tokens place (front, rest, split, at, goes, stopped, alone) (refusal.UnknownOption word) e is =
    absurd (alone (refusal.UnknownOption word) is)
bad_of tokens place (front, rest, split, at, goes, stopped, alone) (refusal.MissingOption words) e is =
    absurd (alone (refusal.MissingOption words) is)
bad_of tokens place (front, rest, split, at, goes, stopped, alone) refusal.NoPreamble e is =
    absurd (alone refusal.NoPreamble is)
bad_of tokens place (front, rest, split, at, goes, stopped, alone) (refusal.NotInProfile word) e is =
    absurd (alone (refusal.NotInProfile word) is)
bad_of tokens place (front, rest, split, at, goes, stopped, alone) (refusal.NotInTry word) e is =
    absurd (alone (refusal.NotInTry word) is)
bad_of tokens place bad (refusal.BadToken line) e is = absurd is
bad_of tokens place bad (refusal.Undefined name) e is = absurd is
bad_of tokens place bad (refusal.Depth path) e is = absurd is
bad_of tokens place bad (refusal.NoFile path) e is = absurd is
bad_of tokens place bad refusal.TooMany e is = absurd is

bad_only : (tokens : List Token) (place : ℕ) → IsBadSyntax tokens place → (made : Result Script ScriptRefusal)
    → script_in tokens ≡ made → script_in tokens ≡ Err (refusal.BadSyntax place)
bad_only tokens place bad (Ok script) e = absurd (not_script tokens place script bad (found tokens script e))
bad_only tokens place bad (Err r) e = bad_of tokens place bad r e (wrong_found tokens r e)

-- each refusal of the grammar is the one that is given
pub refused_only : (tokens : List Token) (r : ScriptRefusal) → Refuses tokens r → script_in tokens ≡ Err r
refused_only tokens (refusal.BadSyntax place) is = bad_only tokens place is (script_in tokens) refl
refused_only tokens (refusal.UnknownOption word) is = refused tokens (refusal.UnknownOption word) is
refused_only tokens (refusal.MissingOption words) is = refused tokens (refusal.MissingOption words) is
refused_only tokens refusal.NoPreamble is = refused tokens refusal.NoPreamble is
refused_only tokens (refusal.NotInProfile word) is = refused tokens (refusal.NotInProfile word) is
refused_only tokens (refusal.NotInTry word) is = refused tokens (refusal.NotInTry word) is
refused_only tokens (refusal.BadToken line) is = absurd is
refused_only tokens (refusal.Undefined name) is = absurd is
refused_only tokens (refusal.Depth path) is = absurd is
refused_only tokens (refusal.NoFile path) is = absurd is
refused_only tokens refusal.TooMany is = absurd is
