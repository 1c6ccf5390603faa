-- An event that is put behind those that wait is put there by the rules too.
use Rattle.std.proofs.Common.{◌≡◌, ◌∙◌, ℕ, ◌==◌, cond, Bool, true, false, List, [], ◌∷◌, ◌++◌, map}
use Rattle.std.proofs.Common.{Some, refl, sym, ap}
use Rattle.std.specs.Prelude.{nat_lt, unwrap_or}
use Rattle.std.specs.Cmp.{nat_eq_equiv}
use Rattle.std.proofs.lemmas.List.{map-append}
use Rattle.slon_model.specs.Maps.{Map, entry_at, with_entry}
use Rattle.slon_model.specs.Events.{Event as Model}
use Rattle.slon_model.specs.Polls.{last_number, lined, line_of, queued}
use Rattle.set_config.proofs.Entries.{eq_of, entry-with}
use Rattle.event_store.specs.declared.event.Event.{Event}
use Rattle.event_store.specs.declared.queue.Queue.{Queue}
use Rattle.event_store.specs.Queueing.{newest, is_above, with_event, waiting}
use Rattle.event_store.specs.Seen.{seen_event}
use Rattle.remote_listener.specs.Queues.{FitsQueue}

pub last_of : (es : List Event) → last_number (map seen_event es) ≡ newest es
last_of [] = refl
last_of (e ∷ []) = refl
last_of (e ∷ f ∷ es) = last_of (f ∷ es)

lined_of : (e : Event) (es : List Event) →
    map seen_event (with_event e es) ≡ lined (seen_event e) (map seen_event es)
lined_of e es =
    by (is_above e.number es)
    ∙ ap (λ n. cond (nat_lt n e.number) (map seen_event es ++ seen_event e ∷ []) (map seen_event es)) (sym (last_of es))
  where
    by : (b : Bool) → map seen_event (cond b (es ++ e ∷ []) es)
        ≡ cond b (map seen_event es ++ seen_event e ∷ []) (map seen_event es)
    by true = map-append seen_event es (e ∷ [])
    by false = refl

-- the line of an origin behind an event of that or of another one
pub line_with : (origin id : ℕ) (es : List Model) (lines : Map (List Model)) →
    line_of origin (with_entry id es lines) ≡ cond (origin == id) es (line_of origin lines)
line_with origin id es lines = ap (λ o. unwrap_or o []) (entry-with origin id es lines) ∙ by (origin == id)
  where
    by : (b : Bool) → unwrap_or (cond b (Some es) (entry_at origin lines)) [] ≡ cond b es (line_of origin lines)
    by true = refl
    by false = refl

-- one event more waits
pub put_fits : (e : Event) (lines : Map (List Model)) (old new : Queue) → FitsQueue lines old →
    ((origin : ℕ) → waiting origin new ≡ cond (e.origin == origin) (with_event e (waiting origin old))
    (waiting origin old)) → FitsQueue (queued (seen_event e) lines) new
put_fits e lines old new fits put origin =
    ap (map seen_event) (put origin) ∙ by (e.origin == origin) refl
    ∙ sym (line_with origin e.origin (lined (seen_event e) (line_of e.origin lines)) lines
    ∙ ap (λ b. cond b (lined (seen_event e) (line_of e.origin lines)) (line_of origin lines))
    (nat_eq_equiv.symm origin e.origin))
  where
    by : (b : Bool) → (e.origin == origin) ≡ b →
        map seen_event (cond b (with_event e (waiting origin old)) (waiting origin old))
        ≡ cond b (lined (seen_event e) (line_of e.origin lines)) (line_of origin lines)
    by true same = lined_of e (waiting origin old) ∙ ap (lined (seen_event e)) (fits origin)
        ∙ ap (λ o. lined (seen_event e) (line_of o lines)) (sym (eq_of e.origin origin same))
    by false other = fits origin
