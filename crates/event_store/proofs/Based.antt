-- A set of which a node logs what it applies from here on.
use Rattle.std.proofs.Common.{◌≡◌, ◌∙◌, ℕ, Bool, true, false, cond, [], ◌∷◌, Some, None, option_map}
use Rattle.std.proofs.Common.{refl, sym, ap}
use Rattle.std.specs.Prelude.{◌==◌, Result, Ok, Err}
use Rattle.slon_base.specs.Keeper.{Store, Kept}
use Rattle.store_rows.specs.Space.{Becomes}
use Rattle.store_rows.specs.declared.stop.Stop.{Stop}
use Rattle.store_rows.proofs.Spaces.{same_space, pending_as}
use Rattle.slon_model.specs.Maps.{entry_at, with_entry}
use Rattle.slon_model.specs.Views.{View, Views, based, based_at}
use Rattle.set_config.proofs.Entries.{entry-with, eq_of}
use Rattle.event_store.specs.Holds.{ShowsStreams}
use Rattle.event_store.specs.Streams.{Streams}

entry-based : (set id : ℕ) (vs : Views) →
    entry_at id (based_at set vs) ≡ cond (id == set) (option_map based (entry_at id vs)) (entry_at id vs)
entry-based set id [] = by (id == set)
  where
    by : (b : Bool) → None ≡ cond b (option_map based None) None
    by true = refl
    by false = refl
entry-based set id (e ∷ es) = at (e.0 == set) refl (entry-based set id es)
  where
    Later : Type 0
    Later = entry_at id (based_at set es) ≡ cond (id == set) (option_map based (entry_at id es)) (entry_at id es)

    push : (b : Bool) → Some (cond b (based e.1) e.1) ≡ cond b (Some (based e.1)) (Some e.1)
    push true = refl
    push false = refl

    hit : (b : Bool) → (e.0 == set) ≡ b → (c : Bool) → (id == e.0) ≡ c → Later →
        cond c (Some (cond b (based e.1) e.1)) (entry_at id (based_at set es))
        ≡ cond (id == set) (option_map based (cond c (Some e.1) (entry_at id es))) (cond c (Some e.1) (entry_at id es))
    hit b same true here later =
        push b ∙ ap (λ d. cond d (Some (based e.1)) (Some e.1)) (sym (ap (λ i. i == set) (eq_of id e.0 here) ∙ same))
    hit b same false other later = later

    at : (b : Bool) → (e.0 == set) ≡ b → Later →
        entry_at id (cond b (e.0, based e.1) e ∷ based_at set es)
        ≡ cond (id == set) (option_map based (entry_at id (e ∷ es))) (entry_at id (e ∷ es))
    at true same later = hit true same (id == e.0) refl later
    at false other later = hit false other (id == e.0) refl later

-- views that are found alike are held alike
alike : {base : Store} {s : Streams} (views : Views) (m : Store) →
    ((id : ℕ) → entry_at id s.views ≡ entry_at id views) → ShowsStreams base s m →
    ShowsStreams base (record s { views = views }) m
alike {s = s} views m same shows = record {
  streams = record {
    views = same_space shows.streams.views (λ id one. sym (same id));
    events = shows.streams.events;
    confirmations = shows.streams.confirmations;
    cleaned = shows.streams.cleaned;
    news = shows.streams.news;
  };
  others = shows.others;
}

-- the view that is kept of a set, and what becomes of it
pub record IsBased (s : Streams) (set : ℕ) (now : View) : Type 0 where
  pub view : View
  pub found : entry_at set s.views ≡ Some view
  pub is : now ≡ based view

-- what is kept of the set was put
based_put : (base : Store) (s : Streams) (set : ℕ) (now : View) (m : Store) → IsBased s set now →
    ShowsStreams base (record s { views = with_entry set now s.views }) m →
    ShowsStreams base (record s { views = based_at set s.views }) m
based_put base s set now m b shows = alike (based_at set s.views) m same shows
  where
    by : (id : ℕ) (b : Bool) → (id == set) ≡ b → cond b (Some now) (entry_at id s.views)
        ≡ cond b (option_map based (entry_at id s.views)) (entry_at id s.views)
    by id true here =
        ap (λ w. Some w) b.is
        ∙ sym (ap (option_map based) (ap (λ i. entry_at i s.views) (eq_of id set here) ∙ b.found))
    by id false other = refl

    same : (id : ℕ) → entry_at id (with_entry set now s.views) ≡ entry_at id (based_at set s.views)
    same id = entry-with id set now s.views ∙ by id (id == set) refl ∙ sym (entry-based set id s.views)

pub based_becomes : {T : Type 0} (base : Store) (s : Streams) (set : ℕ) (now : View) (new : Kept)
    (result : Result T Stop) → IsBased s set now →
    Becomes (ShowsStreams base (record s { views = with_entry set now s.views })) new result →
    Becomes (ShowsStreams base (record s { views = based_at set s.views })) new result
based_becomes base s set now new (Ok x) b has = pending_as (λ m. based_put base s set now m b) has
based_becomes base s set now new (Err stop) b outside = outside

-- nothing is kept of the set
pub based_none : {base : Store} {s : Streams} (set : ℕ) (m : Store) → entry_at set s.views ≡ None →
    ShowsStreams base s m → ShowsStreams base (record s { views = based_at set s.views }) m
based_none {s = s} set m found shows = alike (based_at set s.views) m same shows
  where
    by : (id : ℕ) (b : Bool) → (id == set) ≡ b → entry_at id s.views
        ≡ cond b (option_map based (entry_at id s.views)) (entry_at id s.views)
    by id true here =
        let none : entry_at id s.views ≡ None = ap (λ i. entry_at i s.views) (eq_of id set here) ∙ found in
        none ∙ sym (ap (option_map based) none)
    by id false other = refl

    same : (id : ℕ) → entry_at id s.views ≡ entry_at id (based_at set s.views)
    same id = by id (id == set) refl ∙ sym (entry-based set id s.views)
