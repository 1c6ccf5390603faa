-- What a node finds for an event at another node: a copy of a set, or what the origin logged for the sets that the
-- node keeps.
use Rattle.std.proofs.Common.{◌≡◌, ◌≢◌, ℕ, Bool, true, false, cond, List, [], ◌∷◌, Option, Some, None, Err, refl, sym}
use Rattle.std.proofs.Common.{ap, subst, ◌∙◌, not}
use Rattle.std.specs.List.{AllByRecursion}
use Rattle.std.specs.Prelude.{map, filter, ◌==◌, option_map, nat_lt, ◌&&◌, ◌≤◌}
use Rattle.std.specs.Option.{option_or}
use Rattle.std.proofs.lemmas.Bool.{false≢true, true≢false, eqb-true, eq-eqb, ltb-false}
use Rattle.node_rows.specs.declared.body.Body.{Body}
use Rattle.node_rows.specs.declared.body.Body.TheVariants.{EnableSubscription, Sync}
use Rattle.node_rows.specs.declared.rows.SetRow.{SetRow}
use Rattle.slon_model.specs.declared.reply.Refusal.{Refusal}
use Rattle.node_rows.specs.declared.rows.TableRow.{TableRow}
use Rattle.slon_model.specs.Maps.{Map, entry_at}
use Rattle.slon_model.specs.Events.{Event, is_sync}
use Rattle.slon_model.specs.Config.{Config, has_path, is_known, is_origin, is_table_of, leads_row, live_set}
use Rattle.slon_model.specs.Deeds.{Node, Knowledge, knowledge, progress}
use Rattle.slon_model.specs.Place.{Place, is_running}
use Rattle.slon_model.specs.Sessions.{World, Seat, when, seat_of}
use Rattle.slon_model.specs.Turns.{at_node, is_cut, is_id, seat_at}
use Rattle.slon_model.specs.Logs.{logged}
use Rattle.slon_model.specs.Following.{Found, FoundNothing, FoundSyncs, SetSync, set_sync, kept_from, FoundCopy}
use Rattle.slon_model.specs.Working.{Copying, Errand, ToCopy, ToFollow, copied, copy_checks, errand_in, errand_of}
use Rattle.slon_model.specs.Working.{followed, found_by, linked_to, provided, receives_from, given_at, rows_at}
use Rattle.slon_model.specs.Working.{names_taken, provider_of, progress_in, followed_all}
use Rattle.slon_model.proofs.Names.{one_found}
use Rattle.stream_laws.specs.Nodes.{IsAmong, Nodes}
use Rattle.stream_laws.specs.Making.{OfSet}
use Rattle.slon_laws.specs.Sound.{AreNamedOnce}
use Rattle.stream_laws.specs.Facts.{AreRegular, IsRegular}
use Rattle.stream_laws.proofs.Lists.{all_each, all_mapped, all_passed, among_all, found_all}
use Rattle.stream_laws.proofs.Seats.{OnOk, IsReached, at_node_found, bind_ok, checked_ok, ok_then, all_none, when_none}
use Rattle.stream_laws.proofs.Applies.{IsSetOf}
use Rattle.slon_model.specs.Snapshots.{Snapshot}
use Rattle.slon_model.specs.Views.{View, Views, first_view}
use Rattle.slon_model.specs.declared.reply.Refusal.TheVariants as refused

-- ---- the origin of a set

-- a set of which a node is the origin is known, with that origin
pub origin_row : (own set : ℕ) (c : Config) → is_origin own set c ≡ true → IsSetOf set own c
origin_row own set c leads = by (entry_at set c.sets) refl leads
  where
    live : (row : SetRow) → entry_at set c.sets ≡ Some row → (b : Bool) →
        leads_row own (cond b (Some row) None) ≡ true → IsSetOf set own c
    live row found true leads = (row, found, eqb-true row.origin own leads)
    live row found false leads = absurd (false≢true leads)

    by : (o : Option SetRow) → entry_at set c.sets ≡ o → leads_row own (live_set o) ≡ true → IsSetOf set own c
    by None found leads = absurd (false≢true leads)
    by (Some row) found leads = live row found row.live leads

-- A node of these that is the origin of the set, as it knows it, whether that is live or not.
pub record Leading (nodes : Nodes) (set : ℕ) : Type 0 where
  pub name : List ℕ
  pub node : Node
  pub is : nodes name ≡ Some node
  pub leads : IsSetOf set node.id (knowledge node).config

-- no two nodes are the origin of one set
pub one_leader : (nodes : Nodes) → AreRegular nodes → (set : ℕ) (a b : Leading nodes set) → a.node.id ≡ b.node.id
one_leader nodes regular set a b =
    let row_a = a.leads in
    let row_b = b.leads in
    let made_a = (regular.each a.name a.node a.is).marked.origins set row_a.0 row_a.1 in
    let made_b = (regular.each b.name b.node b.is).marked.origins set row_b.0 row_b.1 in
    let names = regular.once (OfSet set) made_a.0 made_b.0 in
    let same = one_found _ _ (sym made_a.0.is ∙ ap nodes names.0 ∙ made_b.0.is) in
    sym row_a.2 ∙ sym made_a.1 ∙ ap (λ (n : Node). n.id) same ∙ made_b.1 ∙ row_b.2

-- ---- the tables of a set

-- what holds of the name of each known table that is in the set holds of all names of its tables
pub each_name : (P : List ℕ → Type 0) (set : ℕ) (tables : Map TableRow) →
    ((e : ℕ × TableRow) → IsAmong e tables → is_table_of set e ≡ true → P e.1.name) →
    AllByRecursion P (map (λ e. e.1.name) (filter (is_table_of set) tables))
each_name P set tables each =
    all_mapped (λ e. P e.1.name) P (λ e. e.1.name) (λ e is. is) (filter (is_table_of set) tables)
    (all_passed (λ e. IsAmong e tables) (λ e. P e.1.name) (is_table_of set) each tables
    (among_all (λ e. IsAmong e tables) tables (λ e among. among)))

-- ---- the provider

-- a turn finds the node of this id
pub node_at_ok : (node : ℕ) (w : World) → AreNamedOnce w.places →
    OnOk (IsReached w.places node) (seat_at node (at_node node w))
node_at_ok node w once = by (at_node node w) refl
  where
    seated : (e : List ℕ × Place) → at_node node w ≡ Some e → (o : Option Node) → e.1.node ≡ o →
        OnOk (IsReached w.places node) (seat_of (refused.NoNode node) e o)
    seated e found None at = tt
    seated e found (Some n) at =
        let passes =
        (found_all (λ e. Unit {0}) _ w.places e (all_each (λ e. Unit {0}) (λ e. tt) w.places) found).1 in (
          record { found = at_node_found node w e once found; node = at; known = refl },
          eqb-true n.id node (ap (λ o. is_id node (option_or (option_map (λ (n : Node). n.id) o) e.1.promised)) (sym at)
              ∙ passes),
        )

    by : (o : Option (List ℕ × Place)) → at_node node w ≡ o → OnOk (IsReached w.places node) (seat_at node o)
    by None found = tt
    by (Some e) found =
        elim (is_running e.1.standing)
        as (λ b. OnOk (IsReached w.places node)
        (cond b (seat_of (refused.NoNode node) e e.1.node) (Err (refused.Down e.0)))) [
          | true ↦ seated e found e.1.node refl
          | false ↦ tt
        ]

-- the seat is that of the node of this id, which is another one than this
abbrev pub IsOther : World → ℕ → Seat → Seat → Type 0
IsOther w provider s p = IsReached w.places provider p × (provider ≢ s.node.id)

-- it has applied the event
abbrev pub HasReached : World → Event → ℕ → Seat → Seat → Type 0
HasReached w e provider s p = IsOther w provider s p × (e.number ≤ progress e.origin (knowledge p.node))

pub provided_ok : (provider : ℕ) (w : World) (s : Seat) (e : Event) → IsRegular w →
    OnOk (HasReached w e provider s) (provided provider w s e)
provided_ok provider w s e regular =
    bind_ok (IsOther w provider s) (HasReached w e provider s) _ _
    (bind_ok (λ found. (found ≡ at_node provider w) × (provider ≢ s.node.id)) (IsOther w provider s)
    (linked_to provider w.memory s (at_node provider w)) _
    (checked_ok (λ found. (found ≡ at_node provider w) × (provider ≢ s.node.id)) checks (at_node provider w)
    (λ none. (
      refl,
      λ same. true≢false (sym (eq-eqb provider s.node.id same)
          ∙ when_none _ (refused.NoNode provider) (all_none checks none).1.1.0),
    )))
    (λ found is. reached found is.0 is.1))
    (λ p is. checked_ok (HasReached w e provider s) (later p) p (λ none. (
      is,
      subst (λ (k : Knowledge). e.number ≤ progress e.origin k) is.0.0.known
          (ltb-false (progress_in e p) e.number (when_none _ (refused.Behind provider (progress_in e p) e.number)
          (all_none (later p) none).1.0)),
    )))
  where
    checks : List (Option Refusal)
    checks =
        when (not (has_path s.node.id provider s.known.config)) (refused.NoPath provider)
        ∷ when (is_cut s.node.id provider w.memory) (refused.Severed s.node.id provider)
        ∷ when (provider == s.node.id) (refused.NoNode provider) ∷ []

    later : Seat → List (Option Refusal)
    later p =
        when (not (is_known s.node.id p.known.config)) (refused.NotKnown s.node.id)
        ∷ when (nat_lt (progress_in e p) e.number) (refused.Behind provider (progress_in e p) e.number) ∷ []

    reached : (found : Option (List ℕ × Place)) → found ≡ at_node provider w → provider ≢ s.node.id →
        OnOk (IsOther w provider s) (seat_at provider found)
    reached found same other =
        subst (λ o. OnOk (IsOther w provider s) (seat_at provider o)) (sym same)
        (ok_then (IsReached w.places provider) (IsOther w provider s) (seat_at provider (at_node provider w))
        (node_at_ok provider w regular.once) (λ p is. (is, other)))

-- ---- the copy

-- A copy of a set that the node at its seat is to make by an event, of another node that leads or forwards the set and
-- has applied the event.
pub record IsCopy (w : World) (s : Seat) (e : Event) (f : Found) : Type 0 where
  pub copying : Copying
  pub asked : errand_of s e ≡ Some (ToCopy copying)
  pub provider : Seat
  pub reached : HasReached w e copying.provider s provider
  pub seen : Snapshot
  pub gives : given_at copying provider ≡ Some seen
  pub is : f ≡ FoundCopy copying.set_id (first_view copying.era e.origin e.number seen)
      (rows_at provider.place (names_taken s copying.set_id))

-- What is taken of a set that the node at its seat keeps is what its provider for the set has logged, which is another
-- node and has applied the SYNC.
pub record IsTakenOf (w : World) (s : Seat) (e : Event) (v : ℕ × View) (t : SetSync) : Type 0 where
  pub provider : Seat
  pub reached : HasReached w e (provider_of e.origin s v.0) s provider
  pub is : t ≡ set_sync s.node.id s.known e (logged provider.node) v

-- so it is of each of these sets
abbrev pub AreTakenOf : World → Seat → Event → Views → List SetSync → Type 0
AreTakenOf w s e [] [] = Unit {0}
AreTakenOf w s e (v ∷ vs) (t ∷ ts) = IsTakenOf w s e v t × AreTakenOf w s e vs ts
AreTakenOf w s e vs ts = ⊥

-- What the node at its seat takes with a SYNC of another node of the sets that it keeps of that.
pub record IsFollowed (w : World) (s : Seat) (e : Event) (f : Found) : Type 0 where
  pub body : e.body ≡ Sync
  pub receives : receives_from e.origin s.known ≡ true
  pub apart : e.origin ≢ s.node.id
  pub syncs : List SetSync
  pub taken : AreTakenOf w s e (kept_from e.origin s.known) syncs
  pub is : f ≡ FoundSyncs syncs

-- Nothing is to come with an event, or a set that its provider leads and forwards no more.
pub data IsVain (w : World) (s : Seat) (e : Event) : Type 0 where
  NoErrand : errand_of s e ≡ None → IsVain w s e
  GivenNoMore : (k : Copying) → errand_of s e ≡ Some (ToCopy k) → (p : Seat) → HasReached w e k.provider s p →
      given_at k p ≡ None → IsVain w s e

-- what a node finds for an event
pub data Finds (w : World) (s : Seat) (e : Event) (f : Found) : Type 0 where
  Nothing : f ≡ FoundNothing → IsVain w s e → Finds w s e f
  Copies : IsCopy w s e f → Finds w s e f
  Brings : IsFollowed w s e f → Finds w s e f

-- a set is copied with an event that is no SYNC
pub copies_silent : (own : ℕ) (receives : Bool) (origin : ℕ) (body : Body) (k : Copying) →
    errand_in own receives origin body ≡ Some (ToCopy k) → is_sync body ≡ true →
    (receives && not (origin == own)) ≡ false
copies_silent own receives origin Sync k asked sync = by (receives && not (origin == own)) asked
  where
    by : (b : Bool) → cond b (Some ToFollow) None ≡ Some (ToCopy k) → b ≡ false
    by true is = absurd cc
    by false is = refl
copies_silent own receives origin others k asked sync = absurd (false≢true sync)

-- where nothing is to come with a SYNC, the node keeps no set of its origin
none_follows : (own : ℕ) (receives : Bool) (origin : ℕ) (body : Body) → errand_in own receives origin body ≡ None →
    is_sync body ≡ true → (receives && not (origin == own)) ≡ false
none_follows own receives origin Sync none sync = by (receives && not (origin == own)) none
  where
    by : (b : Bool) → cond b (Some ToFollow) None ≡ None → b ≡ false
    by true is = absurd cc
    by false is = refl
none_follows own receives origin others none sync = absurd (false≢true sync)

pub vain_silent : (w : World) (s : Seat) (e : Event) → IsVain w s e → is_sync e.body ≡ true →
    (receives_from e.origin s.known && not (e.origin == s.node.id)) ≡ false
vain_silent w s e (NoErrand none) =
    none_follows s.node.id (receives_from e.origin s.known) e.origin e.body none
vain_silent w s e (GivenNoMore k asked p at over) =
    copies_silent s.node.id (receives_from e.origin s.known) e.origin e.body k asked

copied_ok : (w : World) (s : Seat) (e : Event) → IsRegular w → (k : Copying) →
    errand_of s e ≡ Some (ToCopy k) → OnOk (Finds w s e) (found_by w s e (Some (ToCopy k)))
copied_ok w s e regular k asked =
    bind_ok (HasReached w e k.provider s) (Finds w s e) (provided k.provider w s e) _
    (provided_ok k.provider w s e regular) (λ p at. copies p at (given_at k p) refl)
  where
    names : List (List ℕ)
    names = names_taken s k.set_id

    copies : (p : Seat) → HasReached w e k.provider s p → (o : Option Snapshot) → given_at k p ≡ o →
        OnOk (Finds w s e) (copied k s e p o)
    copies p at None over = Nothing refl (GivenNoMore k asked p at over)
    copies p at (Some seen) gives =
        checked_ok (Finds w s e) (copy_checks s.place p.place names)
        (FoundCopy k.set_id (first_view k.era e.origin e.number seen) (rows_at p.place names)) (λ none. Copies (record {
          copying = k;
          asked = asked;
          provider = p;
          reached = at;
          seen = seen;
          gives = gives;
          is = refl;
        }))

-- a node follows the SYNCs of another node of which it keeps sets
follows_by : (own : ℕ) (receives : Bool) (origin : ℕ) (body : Body) →
    errand_in own receives origin body ≡ Some ToFollow → (body ≡ Sync) × (receives ≡ true) × (origin ≢ own)
follows_by own receives origin (EnableSubscription set provider receiver forward era) asked =
    by (receiver == own) asked
  where
    by : (b : Bool) → cond b (Some (ToCopy (record { set_id = set; provider = provider; era = era }))) None ≡
        Some ToFollow →
        (EnableSubscription set provider receiver forward era ≡ Sync) × (receives ≡ true) × (origin ≢ own)
    by true is = absurd cc
    by false is = absurd cc
follows_by own receives origin Sync asked = by receives (origin == own) refl asked
  where
    by : (r same : Bool) → (origin == own) ≡ same → cond (r && not same) (Some ToFollow) None ≡ Some ToFollow →
        (Sync ≡ Sync) × (r ≡ true) × (origin ≢ own)
    by true false other is = (refl, refl, λ same. true≢false (sym (eq-eqb origin own same) ∙ other))
    by true true same is = absurd cc
    by false same at is = absurd cc
follows_by own receives origin others asked = absurd cc

taken_of_all : (w : World) (s : Seat) (e : Event) → IsRegular w → (vs : Views) →
    OnOk (AreTakenOf w s e vs) (followed_all w s e vs)
taken_of_all w s e regular [] = tt
taken_of_all w s e regular (v ∷ more) =
    bind_ok (IsTakenOf w s e v) (AreTakenOf w s e (v ∷ more)) (followed w s e v) _
    (bind_ok (HasReached w e (provider_of e.origin s v.0) s) (IsTakenOf w s e v)
    (provided (provider_of e.origin s v.0) w s e) _ (provided_ok (provider_of e.origin s v.0) w s e regular)
    (λ p at. record { provider = p; reached = at; is = refl }))
    (λ t here. bind_ok (AreTakenOf w s e more) (AreTakenOf w s e (v ∷ more)) (followed_all w s e more) _
    (taken_of_all w s e regular more) (λ ts all. (here, all)))

followed_ok : (w : World) (s : Seat) (e : Event) → IsRegular w → errand_of s e ≡ Some ToFollow →
    OnOk (Finds w s e) (found_by w s e (Some ToFollow))
followed_ok w s e regular asked =
    let asks = follows_by s.node.id (receives_from e.origin s.known) e.origin e.body asked in
    bind_ok (AreTakenOf w s e (kept_from e.origin s.known)) (Finds w s e)
    (followed_all w s e (kept_from e.origin s.known)) _ (taken_of_all w s e regular (kept_from e.origin s.known))
    (λ ts taken. Brings (record {
      body = asks.0;
      receives = asks.1;
      apart = asks.2;
      syncs = ts;
      taken = taken;
      is = refl;
    }))

pub found_ok : (w : World) → IsRegular w → (s : Seat) (e : Event) → OnOk (Finds w s e) (found_by w s e (errand_of s e))
found_ok w regular s e = by (errand_of s e) refl
  where
    by : (a : Option Errand) → errand_of s e ≡ a → OnOk (Finds w s e) (found_by w s e a)
    by None none = Nothing refl (NoErrand none)
    by (Some (ToCopy k)) asked = copied_ok w s e regular k asked
    by (Some ToFollow) asked = followed_ok w s e regular asked
