-- What a server hands over is what it has for the node by the rules, and what of it is new is new by the rules.
use Rattle.std.proofs.Common.{◌≡◌, ◌∙◌, ℕ, ◌==◌, Bool, true, false, cond, not, List, [], ◌∷◌, ◌++◌, map, filter, refl}
use Rattle.std.proofs.Common.{sym, ap}
use Rattle.std.specs.Prelude.{◌&&◌, nat_lt, max, unwrap_or, flat_map}
use Rattle.std.proofs.lemmas.List.{map-append}
use Rattle.std.proofs.lemmas.List.Folds.{flat_map-map}
use Rattle.slon_model.specs.Maps.{Map, Map2, entry_at, pair_at}
use Rattle.slon_model.specs.Deeds.{Node, knowledge, progress, held, told_progress}
use Rattle.slon_model.specs.Config.{heard_in}
use Rattle.slon_model.specs.Place.{Place}
use Rattle.slon_model.specs.Sessions.{Memory, Seat, seat}
use Rattle.slon_model.specs.Polls.{confirms_in, confirms_of, is_new, events_behind, events_for}
use Rattle.slon_model.specs.Polls.{last_number}
use Rattle.event_store.specs.declared.queue.Queue.{Queue}
use Rattle.event_store.specs.Giving.{Confirmation}
use Rattle.event_store.specs.Queueing.{waiting}
use Rattle.event_store.specs.Streams.{Streams, streams_of}
use Rattle.event_store.specs.Telling.{confirmed_in, confirmations_of, is_news, named}
use Rattle.remote_listener.specs.Asking.{want_of, wants_of, behind, all_behind}
use Rattle.remote_listener.proofs.Lines.{last_of}
use Rattle.slon_turns.specs.Polling.{Waits}

-- ---- confirmations

row_named : (first : ℕ) (row : Map ℕ) → map named (confirmed_in (first, row)) ≡ confirms_in (first, row)
row_named first [] = refl
row_named first (c ∷ cs) = ap (λ l. (first, c.0, c.1) ∷ l) (row_named first cs)

rows_named : (m : Map2 ℕ) → map named (flat_map confirmed_in m) ≡ flat_map confirms_in m
rows_named [] = refl
rows_named (e ∷ es) =
    map-append named (confirmed_in e) (flat_map confirmed_in es)
    ∙ ap (λ l. l ++ map named (flat_map confirmed_in es)) (row_named e.0 e.1)
    ∙ ap (λ l. confirms_in e ++ l) (rows_named es)

pub told_named : (name : List ℕ) (p : Place) (n : Node) →
    map named (confirmations_of (streams_of n)) ≡ confirms_of (seat name p n)
told_named name p n =
    rows_named (told_progress (streams_of n).own (streams_of n).progress (streams_of n).told)

same_news : (s : Streams) (r : Confirmation) → is_news s r ≡ is_new s.own s.told (named r)
same_news s r = by (r.0.1 == s.own)
  where
    by : (b : Bool) →
        (not (r.0.1 == r.0.0) && (not b && nat_lt
        (unwrap_or (cond b (entry_at r.0.0 s.progress) (pair_at r.0.0 r.0.1 s.told)) 0) r.1))
        ≡ (not (r.0.1 == r.0.0) && (not b && nat_lt (unwrap_or (pair_at r.0.0 r.0.1 s.told) 0) r.1))
    by true = refl
    by false = refl

pub news_named : (s : Streams) (rows : List Confirmation) →
    map named (filter (is_news s) rows) ≡ filter (is_new s.own s.told) (map named rows)
news_named s [] = refl
news_named s (r ∷ rs) =
    by (is_news s r) (news_named s rs)
    ∙ ap (λ b. cond b (named r ∷ filter (is_new s.own s.told) (map named rs))
    (filter (is_new s.own s.told) (map named rs)))
    (same_news s r)
  where
    by : (b : Bool) → map named (filter (is_news s) rs) ≡ filter (is_new s.own s.told) (map named rs) →
        map named (cond b (r ∷ filter (is_news s) rs) (filter (is_news s) rs))
        ≡ cond b (named r ∷ filter (is_new s.own s.told) (map named rs)) (filter (is_new s.own s.told) (map named rs))
    by true rest = ap (λ l. named r ∷ l) rest
    by false rest = rest

-- ---- events

flat_same : {X Y : Type 0} (f g : X → List Y) (xs : List X) → ((x : X) → f x ≡ g x) → flat_map f xs ≡ flat_map g xs
flat_same f g [] same = refl
flat_same f g (x ∷ xs) same = ap (λ l. l ++ flat_map f xs) (same x) ∙ ap (λ l. g x ++ l) (flat_same f g xs same)

-- A node that polls, with what is in memory and what waits there.
pub record Poller : Type 0 where
  pub name : List ℕ
  pub place : Place
  pub node : Node
  pub memory : Memory
  pub queue : Queue

pub events_named : (p : Poller) (server : Seat) → Waits p.name p.memory p.queue →
    all_behind server.node (wants_of server.node.id p.queue p.node)
    ≡ events_for p.memory (seat p.name p.place p.node) server
events_named p server waits =
    flat_map-map (behind server.node) (want_of p.node p.queue) _
    ∙ flat_same _ _ (heard_in p.node.id server.node.id (knowledge p.node).config)
    (λ origin. ap (λ number. events_behind origin (max (progress origin (knowledge p.node)) number) (held server.node))
    (sym (last_of (waiting origin p.queue)) ∙ ap last_number (waits origin)))
