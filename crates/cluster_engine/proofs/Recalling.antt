-- What is in memory agrees where a database changed: what was held at one that comes up is gone.
use Rattle.std.proofs.Common.{◌≡◌, ◌∙◌, ◌&&◌, not, Bool, true, false, cond, List, ℕ, Option, Some, refl, sym, ap, subst}
use Rattle.std.proofs.Common.{true≢false}
use Rattle.std.specs.FinMap.{get, remove}
use Rattle.std.specs.Str.{bytes_eq}
use Rattle.slon_model.specs.Names.{find_named, put_named}
use Rattle.slon_model.specs.Place.{Place, is_running}
use Rattle.slon_model.specs.Sessions.{Memory, remembered, forgotten}
use Rattle.slon_model.proofs.Names.{bytes_same, one_found, put_found, put_other}
use Rattle.slon_laws.proofs.Memories.{remembered_kept}
use Rattle.app_store.specs.Base.{Base}
use Rattle.slon_turns.specs.Holding.{IsUpIn, KeepsIn, WaitsIn}
use Rattle.cluster_engine.specs.Agreed.{Clustered, FitsScripts}
use Rattle.cluster_engine.specs.Calls.{with_base}
use Rattle.cluster_engine.proofs.Turns.{forgotten_keeps, forgotten_waits}
use Rattle.cluster_engine.proofs.Walking.{Remembers}

-- A database before a step and behind it, each with its place: it is up where that is running.
pub record Standing (name : List ℕ) (c : Clustered) : Type 0 where
  pub before : Base
  pub behind : Base
  pub here : find_named name c.bases ≡ Some before
  pub was : Place
  pub now : Place
  pub was_up : is_running was.standing ≡ before.memory.up
  pub now_up : is_running now.standing ≡ behind.memory.up

-- where it is up and did not come up, it was up
stays_up : (now was : Bool) → (now && not was) ≡ false → now ≡ true → was ≡ true
stays_up true true still up = refl
stays_up true false still up = absurd (true≢false still)
stays_up false was still up = absurd (true≢false (sym up))

pub recalled_fits : (name : List ℕ) (c : Clustered) (m : Memory) (s : Standing name c) {found : Option Place} →
    found ≡ Some s.was → Remembers m c →
    Remembers (remembered name found s.now m) (with_base name s.before s.behind c)
recalled_fits name c m s {found} is remembers =
    let kept = remembered_kept name (Some s.was) s.now m in
    let fits = remembers.fits in
    subst (λ o. Remembers (remembered name o s.now m) (with_base name s.before s.behind c)) (sym is) (record {
      fits = record {
        scripts = subst (λ rs. FitsScripts rs c.memory.scripts) (sym kept.scripts) fits.scripts;
        switches = kept.switches ∙ fits.switches;
        waits = subst (λ b. (other : List ℕ) → WaitsIn other (remembered name (Some s.was) s.now m)
            (get (cond b (remove c.memory.held name) c.memory.held) other)) same (by rose refl);
      };
      keeps = λ other up. subst (λ b. KeepsIn other (remembered name (Some s.was) s.now m)
          (get (cond b (remove c.memory.held name) c.memory.held) other)) same (kept_by rose refl other up);
    })
  where
    rose : Bool
    rose = is_running s.now.standing && not (is_running s.was.standing)

    same : rose ≡ (s.behind.memory.up && not s.before.memory.up)
    same = ap (λ b. b && not (is_running s.was.standing)) s.now_up ∙ ap (λ b. s.behind.memory.up && not b) s.was_up

    by : (b : Bool) → rose ≡ b → (other : List ℕ) → WaitsIn other (cond rose (forgotten name m) m)
        (get (cond rose (remove c.memory.held name) c.memory.held) other)
    by true is other =
        subst (λ b. WaitsIn other (cond b (forgotten name m) m)
        (get (cond b (remove c.memory.held name) c.memory.held) other)) (sym is)
        (forgotten_waits name m c.memory.held remembers.fits.waits other)
    by false is other =
        subst (λ b. WaitsIn other (cond b (forgotten name m) m)
        (get (cond b (remove c.memory.held name) c.memory.held) other)) (sym is) (remembers.fits.waits other)

    -- what was fetched at another database, of which the same is so
    beside : (other : List ℕ) → IsUpIn other (put_named name s.behind c.bases) → bytes_eq other name ≡ false →
        KeepsIn other m (get c.memory.held other)
    beside other up apart =
        remembers.keeps other (λ b at. up b (put_other other name s.behind c.bases apart ∙ at))

    -- it did not come up
    own_up : rose ≡ false → (other : List ℕ) → IsUpIn other (put_named name s.behind c.bases) →
        bytes_eq other name ≡ true → IsUpIn other c.bases
    own_up still other up own b at =
        let names = bytes_same other name own in
        let before_is : s.before ≡ b =
        one_found s.before b (sym s.here ∙ ap (λ n. find_named n c.bases) (sym names) ∙ at) in
        let now : s.behind.memory.up ≡ true =
        up s.behind (ap (λ n. find_named n (put_named name s.behind c.bases)) names
        ∙ put_found name s.behind s.before c.bases s.here) in
        ap (λ (x : Base). x.memory.up) (sym before_is)
        ∙ stays_up s.behind.memory.up s.before.memory.up (sym same ∙ still) now

    stays : rose ≡ false → (other : List ℕ) → IsUpIn other (put_named name s.behind c.bases) → (b : Bool) →
        bytes_eq other name ≡ b → KeepsIn other m (get c.memory.held other)
    stays still other up true own = remembers.keeps other (own_up still other up own)
    stays still other up false apart = beside other up apart

    kept_by : (b : Bool) → rose ≡ b → (other : List ℕ) → IsUpIn other (put_named name s.behind c.bases) →
        KeepsIn other (cond rose (forgotten name m) m)
        (get (cond rose (remove c.memory.held name) c.memory.held) other)
    kept_by true is other up =
        subst (λ b. KeepsIn other (cond b (forgotten name m) m)
        (get (cond b (remove c.memory.held name) c.memory.held) other)) (sym is)
        (forgotten_keeps name m c.memory.held other (beside other up))
    kept_by false is other up =
        subst (λ b. KeepsIn other (cond b (forgotten name m) m)
        (get (cond b (remove c.memory.held name) c.memory.held) other)) (sym is)
        (stays is other up (bytes_eq other name) refl)
