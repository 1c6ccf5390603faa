-- The store of a new node: a copy of another one, with the rows that differ.
use Rattle.std.proofs.Common.{◌≡◌, ℕ, true, false, [], refl, sym, ap, ◌∙◌, arith}
use Rattle.std.specs.Prelude.{◌==◌}
use Rattle.std.proofs.lemmas.Bool.{false≢true}
use Rattle.std.specs.FinMap.{entries, get-entries}
use Rattle.std.specs.FinMap.Entries.{find}
use Rattle.slon_base.specs.Codec.{number_bytes}
use Rattle.slon_base.specs.Keeper.{Store, Space, key_cmp}
use Rattle.slon_base.proofs.Order.{behind, find-after}
use Rattle.slon_base.proofs.Spelled.{length-number_bytes}
use Rattle.store_rows.specs.Rows.{IsId}
use Rattle.store_rows.specs.Space.{IsSpace}
use Rattle.store_rows.proofs.Spaces.{same_space}
use Rattle.set_config.proofs.Entries.{not_eq}
use Rattle.slon_model.specs.Maps.{entry_at}
use Rattle.event_store.specs.Spellings.{view_bytes, CanView}
use Rattle.event_store.specs.Streams.{Streams, confirmed_at, given}
use Rattle.event_store.specs.Holds.{ShowsStreams, is_stream}
use Rattle.event_store.specs.Giving.{IsCleared, all_turned, forgets, passes}
use Rattle.event_store.proofs.Holding.{whole, moved}
use Rattle.event_store.proofs.Turning.{all_entries, all_space, all_others}
use Rattle.event_store.proofs.NewNodes.{Copied, given_at, forgets_can, passes_can}

-- no view is left
no_views : (s : Streams) {m n : Store} →
    IsSpace number_bytes IsId view_bytes CanView (λ set. entry_at set s.views) (m 9) → IsCleared 9 m n →
    IsSpace number_bytes IsId view_bytes CanView (λ set. entry_at set []) (n 9)
no_views s {n = n} is cleared = record {
  lookups = λ i one. get-entries (n 9) (number_bytes i)
      ∙ sym (find-after (number_bytes i) [] (entries (n 9))
      (behind [] (number_bytes i) (omega (arith, length-number_bytes i))))
      ∙ ap (find key_cmp (number_bytes i)) cleared.gone;
  spelled = λ i one. tt;
  keys = λ q v got. is.keys q v (cleared.within q v got);
}

-- the copy, with what the new node is given
abbrev pub made : {s : Streams} {space : Space} → ℕ → Copied s space → Store → Store
made {s} new c n = all_turned (passes s.own new) c.list.rows (all_turned (forgets new) c.list.rows n)

elsewhere : {s : Streams} {old : Space} (new : ℕ) (c : Copied s old) (n : Store) (space : ℕ) →
    (space == 11) ≡ false → made new c n space ≡ n space
elsewhere {s} new c n space other =
    all_others (passes s.own new) c.list.rows (all_turned (forgets new) c.list.rows n) space other
    ∙ all_others (forgets new) c.list.rows n space other

-- a space of the streams that stays
stays : {s : Streams} {old : Space} {m : Store} (new : ℕ) (c : Copied s old) (n : Store) → IsCleared 9 m n →
    (space : ℕ) →
    (space == 11) ≡ false → (space ≡ 9 → ⊥) → m space ≡ made new c n space
stays new c n cleared space other differ = sym (elsewhere new c n space other ∙ cleared.others space differ)

-- no space of the streams is one that has nothing of them
not_of : (space mine : ℕ) → is_stream space ≡ false → is_stream mine ≡ true → space ≡ mine → ⊥
not_of space mine none is same = false≢true (sym none ∙ ap is_stream same ∙ is)

pub given_shows : {base m : Store} {s : Streams} {old : Space} (new : ℕ) (c : Copied s old) (n : Store) → IsId new →
    IsCleared 9 m n → ShowsStreams base s m → ShowsStreams base (given new s) (made new c n)
given_shows {base} {m} {s} new c n one cleared shows =
    let held = shows.streams in
    let kept = λ (space : ℕ) (other : (space == 11) ≡ false) (differ : space ≡ 9 → ⊥).
    stays new c n cleared space other differ in
    let at = cleared.others 11 (λ same. absurd (omega (arith, same))) in
    record {
      streams = whole
          (moved (sym (elsewhere new c n 9 refl)) (no_views s held.views cleared))
          (moved (kept 10 refl (λ same. omega (arith, same))) held.events)
          (same_space (all_space (passes s.own new) c.list.rows (all_entries (forgets new) c.list.rows (confirmed_at s))
          (all_turned (forgets new) c.list.rows n) (passes_can s.own new c.list.rows one c.list.can)
          (all_space (forgets new) c.list.rows (confirmed_at s) n (forgets_can new c.list.rows c.list.can)
          (moved (sym at) held.confirmations)))
          (λ j ids. given_at new c j ids))
          (moved (kept 12 refl (λ same. omega (arith, same))) held.cleaned)
          (moved (kept 13 refl (λ same. omega (arith, same))) held.news);
      others = λ space none. elsewhere new c n space (not_eq space 11 (not_of space 11 none refl))
          ∙ cleared.others space (not_of space 9 none refl) ∙ shows.others space none;
    }
