-- What a node that applies an event of another one makes of its view of a set.
use Rattle.std.proofs.Common.{◌≡◌, ◌≢◌, ◌⊎◌, inl, inr, ℕ, Bool, true, false, cond, [], ◌∷◌, Option, Some, None, not}
use Rattle.std.proofs.Common.{refl, sym, ap, subst, ◌∙◌}
use Rattle.std.specs.Prelude.{◌==◌, ◌&&◌}
use Rattle.std.specs.List.{AllByRecursion}
use Rattle.std.proofs.lemmas.Bool.{eqb-true, eqb-false, eq-eqb, false≢true}
use Rattle.node_rows.specs.declared.body.Body.{Body}
use Rattle.node_rows.specs.declared.body.Body.TheVariants.{Sync}
use Rattle.slon_model.specs.Maps.{Map, entry_at}
use Rattle.slon_model.specs.Events.{is_sync}
use Rattle.slon_model.specs.Views.{View, based, view_after, views_told, with_views}
use Rattle.slon_model.specs.Deeds.{Brought, Knowledge, Node, knowledge, nothing_brought, view_of, with_deeds}
use Rattle.slon_model.specs.Following.{SetSync}
use Rattle.slon_model.specs.Working.{Carried, Copying, ToCopy, ToFollow, errand_in, receives_from}
use Rattle.slon_model.proofs.Names.{all_map, one_found}
use Rattle.stream_laws.specs.Nodes.{IsAmong}
use Rattle.stream_laws.proofs.Lists.{all_among, entry-with}
use Rattle.stream_laws.proofs.Seats.{seat_node}
use Rattle.view_laws.specs.Past.{Past}
use Rattle.view_laws.proofs.Brought.{Brings, Copies, IsBrought, IsCopied, IsKept, IsSynced, Nothing, copied_view}
use Rattle.view_laws.proofs.Doing.{IsTaken, taking}
use Rattle.view_laws.proofs.Copied.{copy_asks}
use Rattle.view_laws.proofs.Turned.{IsBased, IsSame, IsToldAs, Turns, enables_told, found_told, gone_told, sync_told}
use Rattle.view_laws.proofs.Turned.{there_told}
use Rattle.view_laws.specs.Known.{leaves}
use Rattle.view_laws.proofs.Viewed.{rising_now}
use Rattle.view_laws.proofs.Reaching.{not_brought}
use Rattle.view_laws.proofs.Rising.{found_in, stands_found, there_in}
use Rattle.view_laws.proofs.Seen.{syncs_seen}

-- the node behind the event
abbrev pub behind : Carried → Node
behind x = with_deeds (taking x).deeds x.seat.node

-- no SYNC of the origin of the view was applied
abbrev NoSync : Carried → ℕ → Type 0
NoSync x set =
    (v : View) → view_of set (knowledge x.seat.node) ≡ Some v → is_sync x.event.body ≡ true →
    x.event.origin ≡ v.origin → ⊥

abbrev NoCopy : Past → Carried → ℕ → Type 0
NoCopy t x set = (k : IsCopied t x.seat x.event x.brought) → k.copy.copying.set_id ≡ set → ⊥

-- The view is as before; or the node begins to forward the set; or it gives the set up; or the set was copied; or a
-- SYNC of the origin of the set was followed.
pub data ViewTaken (t : Past) (x : Carried) (set : ℕ) : Type 0 where
  Keeps : view_of set (knowledge (behind x)) ≡ view_of set (knowledge x.seat.node) → NoSync x set → NoCopy t x set →
      ViewTaken t x set
  Turned : (v : View) → view_of set (knowledge x.seat.node) ≡ Some v →
      Turns x.seat.node.id set x.event.body (knowledge x.seat.node).config →
      view_of set (knowledge (behind x)) ≡ Some (based v) → ViewTaken t x set
  Left : (v : View) → view_of set (knowledge x.seat.node) ≡ Some v →
      leaves set x.seat.node.id x.event.body ≡ true → view_of set (knowledge (behind x)) ≡ None → ViewTaken t x set
  Copied : (k : IsCopied t x.seat x.event x.brought) → k.copy.copying.set_id ≡ set →
      view_of set (knowledge (behind x))
      ≡ Some (copied_view k.copy) →
      ViewTaken t x set
  Followed : (y : IsSynced t x.seat x.event x.brought) (v : View) →
      view_of set (knowledge x.seat.node) ≡ Some v → v.origin ≡ x.event.origin →
      view_of set (knowledge (behind x)) ≡ Some (view_after x.event v) → ViewTaken t x set

-- ---- nothing, and a copy

nothing_taken : (t : Past) (x : Carried) (origin : ℕ) → IsTaken t origin x → (set : ℕ) →
    x.brought ≡ nothing_brought → ViewTaken t x set
nothing_taken t x origin is set none = by (view_of set k) refl
  where
    k : Knowledge
    k = knowledge x.seat.node

    own : ℕ
    own = x.seat.node.id

    told : Map View
    told = views_told own x.event.body k.config k.views

    there : view_of set (knowledge (behind x)) ≡ entry_at set told
    there = ap (λ (b : Brought). entry_at set (with_views b.views told)) none

    some_views : {v : ℕ × View} → v ∷ [] ≡ [] → ⊥
    some_views never = absurd cc

    keeps : entry_at set told ≡ view_of set k → ViewTaken t x set
    keeps same =
        Keeps (there ∙ same)
        (λ v found sync from. not_brought t origin x is set v
        (found, subst (λ (b : Brought). AllByRecursion (λ u. u.0 ≢ set) b.views) (sym none) tt) (sync, from))
        (λ k same. some_views (ap (λ (b : Brought). b.views) (sym k.is ∙ none)))

    none_told : view_of set k ≡ None → (o : Option View) → entry_at set told ≡ o → o ≡ None
    none_told missing None found = refl
    none_told missing (Some y) found =
        let of = found_told own set x.event.body k.config k.views y found in
        let never : None ≡ Some of.0 = sym missing ∙ of.1 in
        absurd cc

    from : (v y : View) → view_of set k ≡ Some v → entry_at set told ≡ Some y →
        IsToldAs own set x.event.body k.config v y → ViewTaken t x set
    from v y found is_y (IsSame same) = keeps (is_y ∙ ap Some same ∙ sym found)
    from v y found is_y (IsBased same turns) = Turned v found turns (there ∙ is_y ∙ ap Some same)

    by : (o : Option View) → view_of set k ≡ o → ViewTaken t x set
    by None missing = keeps (none_told missing (entry_at set told) refl ∙ sym missing)
    by (Some v) found = at (leaves set own x.event.body) refl
      where
        at : (b : Bool) → leaves set own x.event.body ≡ b → ViewTaken t x set
        at true left = Left v found left (there ∙ gone_told own set x.event.body k.config k.views left)
        at false stays =
            let y = there_told own set x.event.body k.config k.views v found stays in from v y.0 found y.1 y.2

-- the set of the first view
abbrev first_id : Map View → ℕ
first_id [] = 0
first_id (v ∷ vs) = v.0

copy_taken : (t : Past) (x : Carried) (origin : ℕ) → IsTaken t origin x → (set : ℕ) →
    IsCopied t x.seat x.event x.brought → ViewTaken t x set
copy_taken t x origin is set k = by (set == id) refl
  where
    id : ℕ
    id = k.copy.copying.set_id

    first : View
    first = copied_view k.copy

    told : Map View
    told = views_told x.seat.node.id x.event.body (knowledge x.seat.node).config (knowledge x.seat.node).views

    there : view_of set (knowledge (behind x)) ≡ cond (set == id) (Some first) (view_of set (knowledge x.seat.node))
    there =
        ap (λ (b : Brought). entry_at set (with_views b.views told)) k.is
        ∙ entry-with set id first told
        ∙ ap (λ vs. cond (set == id) (Some first) (entry_at set vs))
        (enables_told x.seat.node.id id k.at.seat.node.id x.event.body (knowledge x.seat.node).config
        (knowledge x.seat.node).views (copy_asks k.at.to.world k.at.seat x.event k.found k.copy))

    by : (b : Bool) → (set == id) ≡ b → ViewTaken t x set
    by true same =
        Copied k (sym (eqb-true set id same))
        (there ∙ ap (λ b. cond b (Some first) (view_of set (knowledge x.seat.node))) same)
    by false other =
        Keeps (there ∙ ap (λ b. cond b (Some first) (view_of set (knowledge x.seat.node))) other)
        (λ v found sync from. not_brought t origin x is set v (
          found,
          subst (λ (b : Brought). AllByRecursion (λ u. u.0 ≢ set) b.views) (sym k.is) (apart, tt),
        ) (sync, from))
        (λ j same. apart (ap (λ (b : Brought). first_id b.views) (sym k.is ∙ j.is) ∙ same))
      where
        apart : id ≢ set
        apart same = eqb-false set id other (sym same)

-- ---- a SYNC

-- it tells no node how it receives a set
sync_views : (x : Carried) → x.event.body ≡ Sync →
    (knowledge (behind x)).views ≡ with_views x.brought.views (knowledge x.seat.node).views
sync_views x sync =
    ap (with_views x.brought.views)
    (sync_told x.seat.node.id x.event.body (knowledge x.seat.node).config (knowledge x.seat.node).views sync)

sync_no_copy : (own : ℕ) (receives : Bool) (origin : ℕ) (body : Body) (c : Copying) → body ≡ Sync →
    errand_in own receives origin body ≡ Some (ToCopy c) → ⊥
sync_no_copy own receives origin body c sync asked =
    by (receives && not (origin == own)) (ap (errand_in own receives origin) (sym sync) ∙ asked)
  where
    by : (b : Bool) → cond b (Some ToFollow) None ≡ Some (ToCopy c) → ⊥
    by true is = absurd cc
    by false is = absurd cc

follow_taken : (t : Past) (x : Carried) (origin : ℕ) → IsTaken t origin x → (set : ℕ) →
    IsSynced t x.seat x.event x.brought → ViewTaken t x set
follow_taken t x origin is set s = before (view_of set (knowledge n)) refl
  where
    n : Node
    n = x.seat.node

    -- the views that are brought are those that are kept of the origin, behind the SYNC
    P : ℕ × View → Type 0
    P u = (y : View) × IsAmong (u.0, y) (knowledge n).views × (y.origin ≡ x.event.origin)
        × (u.1 ≡ view_after x.event y)

    views : AllByRecursion P x.brought.views
    views =
        subst (λ (b : Brought). AllByRecursion P b.views) (sym s.is)
        (syncs_seen P x.seat.place s.syncs nothing_brought
        (all_map (IsKept x.seat.known x.event) (λ (z : SetSync). P (z.set_id, z.view))
        (λ z kept. (
          z.before,
          subst (λ (j : Knowledge). IsAmong (z.set_id, z.before) j.views) is.work.seat.known kept.among,
          kept.origin,
          kept.view,
        )) s.syncs s.kept) tt)

    -- the view of which one of them is
    from : (y : View) → IsAmong (set, y) x.brought.views →
        (v : View) × (view_of set (knowledge n) ≡ Some v) × (v.origin ≡ x.event.origin) × (y ≡ view_after x.event v)
    from y among =
        let of = all_among P (set, y) x.brought.views views among in (
          of.0,
          stands_found set of.0 (knowledge n).views
              (rising_now t x.seat.name n (seat_node t.world.places x.seat is.work.seat)) of.1,
          of.2,
          of.3,
        )

    sync : is_sync x.event.body ≡ true
    sync = ap is_sync s.follows.body

    no_copy : NoCopy t x set
    no_copy k same =
        sync_no_copy k.at.seat.node.id (receives_from x.event.origin k.at.seat.known) x.event.origin x.event.body
        k.copy.copying s.follows.body k.copy.asked

    -- what is found then is of the view before, if there was one
    found : (y : View) → view_of set (knowledge (behind x)) ≡ Some y →
        ((v : View) × (view_of set (knowledge n) ≡ Some v) × (v.origin ≡ x.event.origin) × (y ≡ view_after x.event v))
        ⊎ ((view_of set (knowledge n) ≡ Some y) × AllByRecursion (λ u. u.0 ≢ set) x.brought.views)
    found y there =
        by (found_in set y x.brought.views (knowledge n).views
        (ap (entry_at set) (sym (sync_views x s.follows.body)) ∙ there))
      where
        by : IsAmong (set, y) x.brought.views
            ⊎ ((view_of set (knowledge n) ≡ Some y) × AllByRecursion (λ u. u.0 ≢ set) x.brought.views) →
            ((v : View) × (view_of set (knowledge n) ≡ Some v) × (v.origin ≡ x.event.origin)
            × (y ≡ view_after x.event v))
            ⊎ ((view_of set (knowledge n) ≡ Some y) × AllByRecursion (λ u. u.0 ≢ set) x.brought.views)
        by (inl new) = inl (from y new)
        by (inr kept) = inr kept

    no_view : view_of set (knowledge n) ≡ None → (o : Option View) → view_of set (knowledge (behind x)) ≡ o → o ≡ None
    no_view none None is = refl
    no_view none (Some y) is = by (found y is)
      where
        by : ((v : View) × (view_of set (knowledge n) ≡ Some v) × (v.origin ≡ x.event.origin)
            × (y ≡ view_after x.event v))
            ⊎ ((view_of set (knowledge n) ≡ Some y) × AllByRecursion (λ u. u.0 ≢ set) x.brought.views) →
            Some y ≡ None
        by (inl of) = let never : None ≡ Some of.0 = sym none ∙ of.1 in absurd cc
        by (inr kept) = let never : None ≡ Some y = sym none ∙ kept.0 in absurd cc

    one : (v : View) → view_of set (knowledge n) ≡ Some v →
        (y : View) × (view_of set (knowledge (behind x)) ≡ Some y) →
        (b : Bool) → (v.origin == x.event.origin) ≡ b → ViewTaken t x set
    one v is_v (y, there) b same = by b same (found y there)
      where
        by : (b : Bool) → (v.origin == x.event.origin) ≡ b →
            ((u : View) × (view_of set (knowledge n) ≡ Some u) × (u.origin ≡ x.event.origin)
            × (y ≡ view_after x.event u))
            ⊎ ((view_of set (knowledge n) ≡ Some y) × AllByRecursion (λ u. u.0 ≢ set) x.brought.views) →
            ViewTaken t x set
        by true same (inl of) =
            let is_one = one_found of.0 v (sym of.1 ∙ is_v) in
            Followed s v is_v (eqb-true v.origin x.event.origin same)
            (there ∙ ap Some of.3 ∙ ap (λ u. Some (view_after x.event u)) is_one)
        by true same (inr kept) =
            absurd (not_brought t origin x is set v
            (is_v, kept.1) (sync, sym (eqb-true v.origin x.event.origin same)))
        by false other (inl of) =
            let is_one = one_found of.0 v (sym of.1 ∙ is_v) in
            absurd (false≢true (sym other ∙ eq-eqb v.origin x.event.origin
            (ap (λ (u : View). u.origin) (sym is_one) ∙ of.2)))
        by false other (inr kept) =
            Keeps (there ∙ sym kept.0)
            (λ u is_u synced from. eqb-false v.origin x.event.origin other
            (ap (λ (u : View). u.origin) (one_found v u (sym is_v ∙ is_u)) ∙ sym from)) no_copy

    before : (o : Option View) → view_of set (knowledge n) ≡ o → ViewTaken t x set
    before None none =
        Keeps (no_view none (view_of set (knowledge (behind x))) refl ∙ sym none)
        (λ v is_v synced from. no_some none is_v) no_copy
      where
        no_some : {v : View} → view_of set (knowledge n) ≡ None → view_of set (knowledge n) ≡ Some v → ⊥
        no_some none some = absurd cc
    before (Some v) is_v =
        let y = there_in set v x.brought.views (knowledge n).views is_v in
        one v is_v (y.0, ap (entry_at set) (sync_views x s.follows.body) ∙ y.1) (v.origin == x.event.origin) refl

pub view_taken : (t : Past) (x : Carried) (origin : ℕ) → IsTaken t origin x → (set : ℕ) → ViewTaken t x set
view_taken t x origin is set = by is.brings
  where
    by : IsBrought t x.seat x.event x.brought → ViewTaken t x set
    by (Nothing n) = nothing_taken t x origin is set n.none
    by (Copies k) = copy_taken t x origin is set k
    by (Brings s) = follow_taken t x origin is set s
