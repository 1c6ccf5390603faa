-- A store that shows what a node has of the streams, with one row changed.
use Rattle.std.proofs.Common.{◌≡◌, ℕ, true, false, cond, List, ◌∷◌, Option, Some, None, refl, sym, ap, ◌∙◌, subst}
use Rattle.std.proofs.Common.{arith, eq-eqb}
use Rattle.std.specs.Prelude.{◌==◌, ◌&&◌}
use Rattle.std.proofs.lemmas.Bool.{false≢true, and_parts, false_from_ne_true}
use borrow.Author.Tests.{eqb-true}
use Rattle.slon_base.specs.Codec.{number_bytes}
use Rattle.slon_base.specs.Keeper.{Store, Space}
use Rattle.slon_base.proofs.Spelled.{number_front, number_bytes-same}
use Rattle.store_rows.specs.Rows.{IsId}
use Rattle.store_rows.specs.Space.{IsSpace, written}
use Rattle.store_rows.proofs.Spaces.{Turns, altered}
use Rattle.slon_model.specs.Maps.{entry_at, with_entry, without_entry, pair_at}
use Rattle.slon_model.specs.Events.{Event}
use Rattle.slon_model.specs.Views.{View, Views}
use Rattle.set_config.specs.Holds.{AreIds, pair_key}
use Rattle.set_config.proofs.Entries.{alters_one, entry-with, entry-without, id_unique, not_eq, pair_unique}
use Rattle.set_config.proofs.Holding.{IdTurns, puts, write_in}
use Rattle.event_store.specs.Streams.{Streams, event_at, confirmed_at}
use Rattle.event_store.specs.Spellings.{IsStored, IsNumbered, event_bytes, CanEvent, view_bytes, CanView}
use Rattle.event_store.specs.Holds.{HoldsStreams, ShowsStreams, is_stream}

-- how far the node is itself
pub own_progress : (s : Streams) (own origin : ℕ) → s.own ≡ own →
    confirmed_at s (origin, own) ≡ entry_at origin s.progress
own_progress s own origin is =
    ap (λ b. cond b (entry_at origin s.progress) (pair_at origin own s.told)) (eq-eqb own s.own (sym is))

-- ---- what is seen with one more row

pub numbered_unique : (a b : ℕ × ℕ) → IsNumbered a → IsNumbered b → pair_key a ≡ pair_key b → a ≡ b
numbered_unique a b one two is =
    let parts = number_front a.0 b.0 (number_bytes a.1) (number_bytes b.1) (omega (arith, one.0.1))
    (omega (arith, two.0.1)) is in
    let back = number_bytes-same a.1 b.1 (omega (arith, one.1)) (omega (arith, two.1)) parts.1 in
    λ k. (parts.0 k, back k)

-- an event is put
abbrev pub EventTurns : List Event → List Event → ℕ × ℕ → Option Event → Type 0
EventTurns old new i now = Turns pair_key IsNumbered CanEvent (event_at old) (event_at new) i now

pub puts_event : (e : Event) (es : List Event) → CanEvent e → EventTurns es (e ∷ es) (e.origin, e.number) (Some e)
puts_event e es can = record {
  unique = numbered_unique;
  one = can.numbered;
  can = can;
  alters = record {
    here = ap (λ b. cond (b && (e.number == e.number)) (Some e) (event_at es (e.origin, e.number)))
        (eq-eqb e.origin e.origin refl)
        ∙ ap (λ b. cond b (Some e) (event_at es (e.origin, e.number))) (eq-eqb e.number e.number refl);
    there = λ j one differ. ap (λ b. cond b (Some e) (event_at es j)) (false_from_ne_true _ (λ same.
        let parts = and_parts (e.origin == j.0) (e.number == j.1) same in
        let origin = sym (eqb-true e.origin j.0 parts.0) in
        let number = sym (eqb-true e.number j.1 parts.1) in
        differ (λ k. (origin k, number k))));
  };
}

-- the node is as far as this in the stream of an origin
pub puts_progress : (s : Streams) (origin number : ℕ) → IsId origin → IsId s.own → IsStored number →
    Turns pair_key AreIds IsStored (confirmed_at s)
    (confirmed_at (record s { progress = with_entry origin number s.progress })) (origin, s.own) (Some number)
puts_progress s origin number one own can = record {
  unique = pair_unique;
  one = (one, own);
  can = can;
  alters = record {
    here = own_progress (record s { progress = with_entry origin number s.progress }) s.own origin refl
        ∙ entry-with origin origin number s.progress
        ∙ ap (λ b. cond b (Some number) (entry_at origin s.progress)) (eq-eqb origin origin refl);
    there = λ j ids differ. elim (j.1 == s.own) as (λ b. (j.1 == s.own) ≡ b →
        cond b (entry_at j.0 (with_entry origin number s.progress)) (pair_at j.0 j.1 s.told)
        ≡ cond b (entry_at j.0 s.progress) (pair_at j.0 j.1 s.told)) [
          | true ↦ λ is. entry-with j.0 origin number s.progress
              ∙ ap (λ b. cond b (Some number) (entry_at j.0 s.progress))
              (not_eq j.0 origin (λ same. differ (λ k. (same k, eqb-true j.1 s.own is k))))
          | false ↦ λ is. refl
        ] refl;
  };
}

-- ---- a row is put

-- the same stands in a space that is the same
pub moved : {I X : Type 0} {key : I → List ℕ} {IsOne : I → Type 0} {value : X → List ℕ} {Can : X → Type 0}
    {entry : I → Option X} {old new : Space} → old ≡ new → IsSpace key IsOne value Can entry old →
    IsSpace key IsOne value Can entry new
moved {key = key} {IsOne = IsOne} {value = value} {Can = Can} {entry = entry} same is =
    subst (IsSpace key IsOne value Can entry) same is

-- what each space holds
pub whole : {s : Streams} {m : Store} →
    IsSpace number_bytes IsId view_bytes CanView (λ set. entry_at set s.views) (m 9) →
    IsSpace pair_key IsNumbered event_bytes CanEvent (λ i. event_at s.events i) (m 10) →
    IsSpace pair_key AreIds number_bytes IsStored (λ i. confirmed_at s i) (m 11) →
    IsSpace number_bytes IsId number_bytes IsStored (λ origin. entry_at origin s.low) (m 12) →
    IsSpace number_bytes IsId number_bytes IsStored (λ origin. entry_at origin s.news) (m 13) → HoldsStreams s m
whole views events confirmations cleaned news = record {
  views = views;
  events = events;
  confirmations = confirmations;
  cleaned = cleaned;
  news = news;
}

pub elsewhere : (mine : ℕ) (value : Option (List ℕ)) (key : List ℕ) (m : Store) → is_stream mine ≡ true →
    (space : ℕ) → is_stream space ≡ false → write_in mine value key m space ≡ m space
elsewhere mine value key m is space not_mine =
    ap (λ b. cond b (written value key (m mine)) (m space))
    (not_eq space mine (λ same. false≢true (sym not_mine ∙ ap is_stream same ∙ is)))

pub with_event : {base : Store} {s : Streams} (e : Event) (m : Store) → CanEvent e → ShowsStreams base s m →
    ShowsStreams base (record s { events = e ∷ s.events })
    (write_in 10 (Some (event_bytes e)) (pair_key (e.origin, e.number)) m)
with_event {s = s} e m can shows = record {
  streams = whole shows.streams.views (altered (puts_event e s.events can) shows.streams.events)
      shows.streams.confirmations shows.streams.cleaned shows.streams.news;
  others = λ space other. elsewhere 10 (Some (event_bytes e)) (pair_key (e.origin, e.number)) m refl space other
      ∙ shows.others space other;
}

pub with_progress : {base : Store} {s : Streams} (own origin number : ℕ) (m : Store) → s.own ≡ own →
    IsId own × IsId origin × IsStored number → ShowsStreams base s m →
    ShowsStreams base (record s { progress = with_entry origin number s.progress })
    (write_in 11 (Some (number_bytes number)) (pair_key (origin, own)) m)
with_progress {base} {s} own origin number m is can shows =
    subst (λ o. ShowsStreams base (record s { progress = with_entry origin number s.progress })
    (write_in 11 (Some (number_bytes number)) (pair_key (origin, o)) m)) is (record {
      streams = whole shows.streams.views shows.streams.events
          (altered (puts_progress s origin number can.1 (subst IsId (sym is) can.0) can.2) shows.streams.confirmations)
          shows.streams.cleaned shows.streams.news;
      others = λ space other. elsewhere 11 (Some (number_bytes number)) (pair_key (origin, s.own)) m refl space other
          ∙ shows.others space other;
    })

pub with_news : {base : Store} {s : Streams} (origin number : ℕ) (m : Store) → IsId origin → IsStored number →
    ShowsStreams base s m → ShowsStreams base (record s { news = with_entry origin number s.news })
    (write_in 13 (Some (number_bytes number)) (number_bytes origin) m)
with_news {s = s} origin number m one can shows = record {
  streams = whole shows.streams.views shows.streams.events shows.streams.confirmations shows.streams.cleaned
      (altered (puts origin number s.news one can) shows.streams.news);
  others = λ space other. elsewhere 13 (Some (number_bytes number)) (number_bytes origin) m refl space other
      ∙ shows.others space other;
}

pub with_view : {base : Store} {s : Streams} (set : ℕ) (v : View) (m : Store) → IsId set → CanView v →
    ShowsStreams base s m → ShowsStreams base (record s { views = with_entry set v s.views })
    (write_in 9 (Some (view_bytes v)) (number_bytes set) m)
with_view {s = s} set v m one can shows = record {
  streams = whole (altered (puts set v s.views one can) shows.streams.views) shows.streams.events
      shows.streams.confirmations shows.streams.cleaned shows.streams.news;
  others = λ space other. elsewhere 9 (Some (view_bytes v)) (number_bytes set) m refl space other
      ∙ shows.others space other;
}

-- nothing is kept of a set
drops_view : (set : ℕ) (views : Views) → IsId set → IdTurns CanView views (without_entry set views) set None
drops_view set views one = record {
  unique = id_unique;
  one = one;
  can = tt;
  alters = alters_one set None views _ (λ q. entry-without q set views);
}

pub without_view : {base : Store} {s : Streams} (set : ℕ) (m : Store) → IsId set → ShowsStreams base s m →
    ShowsStreams base (record s { views = without_entry set s.views }) (write_in 9 None (number_bytes set) m)
without_view {s = s} set m one shows = record {
  streams = whole (altered (drops_view set s.views one) shows.streams.views) shows.streams.events
      shows.streams.confirmations shows.streams.cleaned shows.streams.news;
  others = λ space other. elsewhere 9 None (number_bytes set) m refl space other ∙ shows.others space other;
}
