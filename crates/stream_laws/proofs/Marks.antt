-- Who meets the next event of a stream knows what it makes known, and all that was known before.
use Rattle.std.proofs.Common.{◌≡◌, ◌≤◌, ◌⊎◌, inl, inr, ℕ, suc, Bool, true, false, cond, List, ◌∷◌, ◌++◌, length, Some}
use Rattle.std.proofs.Common.{None}
use Rattle.std.proofs.Common.{Option, map, not, is_some}
use Rattle.std.proofs.Common.{refl, sym, ap, subst, ◌∙◌, arith, eq-eqb}
use Rattle.std.specs.Prelude.{◌==◌, ◌||◌, option_map}
use Rattle.std.specs.Str.{bytes_eq}
use Rattle.std.specs.List.{AllByRecursion}
use Rattle.std.proofs.lemmas.Bool.{false≢true, true≢false, eqb-true, or_cases, or_right}
use Rattle.node_rows.specs.declared.rows.SetRow.{SetRow}
use Rattle.node_rows.specs.declared.body.Body.{Body}
use Rattle.node_rows.specs.declared.body.Body.TheVariants.{StoreSet, DropSet, SetAddTable, MoveSet, FailoverSet}
use Rattle.slon_model.specs.Maps.{Map, entry_at, with_entry, number_at}
use Rattle.slon_model.specs.Events.{Event}
use Rattle.slon_model.specs.Config.{Config, change_by, change, changed_set}
use Rattle.node_rows.specs.declared.rows.TableRow.{TableRow}
use Rattle.slon_model.specs.Deeds.{Node, stream}
use Rattle.slon_model.proofs.Names.{all_map}
use Rattle.stream_laws.specs.Nodes.{IsAmong, Nodes}
use Rattle.stream_laws.specs.Making.{Mark, OfSet, OfTable, OfName, OfEnd, tells_of, has_mark, is_ended, IsMade}
use Rattle.stream_laws.specs.Making.{MayFollow, IsTold}
use Rattle.stream_laws.specs.Making.{HasEmitted, IsMet, IsMadeBy, IsMarked}
use Rattle.stream_laws.specs.Facts.{IsFirstOf}
use Rattle.stream_laws.proofs.Lists.{among_all, among_behind, all_with, entry-with, number_with, number_here}
use Rattle.stream_laws.proofs.Lists.{there-with, any-with, there-mapped, any-mapped, part-mapped, entry-changed}

-- ---- what a change makes known

-- none of what events of this body make known is known
abbrev pub AreNew : Body → Config → Type 0
AreNew body c = (mark : Mark) → tells_of body mark ≡ true → has_mark mark c ≡ false

-- an entry that is changed, or not, keeps its id
same_id : {X : Type 0} (b : Bool) (e : ℕ × X) (x : X) → (cond b (e.0, x) e).0 ≡ e.0
same_id true e x = refl
same_id false e x = refl

-- What is known of an event of this body that comes next: behind these events it may be emitted, what these make known
-- is known, and what it makes known is not.
pub record Fresh (own : ℕ) (earlier : List Event) (body : Body) (c : Config) : Type 0 where
  pub may : MayFollow own earlier body
  pub new : AreNew body c
  pub told : (f : Event) → IsAmong f earlier → IsTold c f

-- whether a set has ended, behind the event by which a set ends
end_dropped : (set id : ℕ) (sets : Map SetRow) → is_some (entry_at set sets) ≡ true →
    is_ended (entry_at id (map (λ e. cond (e.0 == set) (e.0, record e.1 { live = false }) e) sets))
    ≡ (id == set || is_ended (entry_at id sets))
end_dropped set id sets known =
    ap is_ended (entry-changed (λ (row : SetRow). record row { live = false }) set id sets) ∙ by (id == set) refl
  where
    ended : (o : Option SetRow) → is_some o ≡ true →
        is_ended (option_map (λ (row : SetRow). record row { live = false }) o) ≡ true
    ended None none = absurd (false≢true none)
    ended (Some row) some = refl

    by : (b : Bool) → (id == set) ≡ b →
        is_ended (cond b (option_map (λ (row : SetRow). record row { live = false }) (entry_at id sets))
        (entry_at id sets)) ≡ (b || is_ended (entry_at id sets))
    by true same =
        ended (entry_at id sets) (ap (λ k. is_some (entry_at k sets)) (eqb-true id set same) ∙ known)
    by false other = refl

-- a set that begins has not ended
end_stored : (set id : ℕ) (row : SetRow) (sets : Map SetRow) → row.live ≡ true → is_some (entry_at set sets) ≡ false →
    is_ended (entry_at id (with_entry set row sets)) ≡ is_ended (entry_at id sets)
end_stored set id row sets live new = ap is_ended (entry-with id set row sets) ∙ by (id == set) refl
  where
    unknown : (o : Option SetRow) → is_some o ≡ false → not row.live ≡ is_ended o
    unknown None none = ap not live
    unknown (Some old) some = absurd (true≢false some)

    by : (b : Bool) → (id == set) ≡ b → is_ended (cond b (Some row) (entry_at id sets)) ≡ is_ended (entry_at id sets)
    by true same = unknown (entry_at id sets) (ap (λ k. is_some (entry_at k sets)) (eqb-true id set same) ∙ new)
    by false other = refl

-- by an event with this origin and number
mark-changed : (i : ℕ × ℕ) (earlier : List Event) (body : Body) (mark : Mark) (c : Config) →
    Fresh i.0 earlier body c → has_mark mark (change_by i.0 i.1 body c) ≡ (tells_of body mark || has_mark mark c)
mark-changed i earlier (StoreSet set origin comment) (OfSet id) c f = there-with id set _ c.sets
mark-changed i earlier (StoreSet set origin comment) (OfEnd id) c f =
    end_stored set id _ c.sets refl (f.new (OfSet set) (eq-eqb set set refl))
mark-changed i earlier (SetAddTable set table name comment) (OfTable id) c f = there-with id table _ c.tables
mark-changed i earlier (SetAddTable set table name comment) (OfName text) c f =
    any-with (λ e. bytes_eq text e.1.name) table _ c.tables (f.new (OfTable table) (eq-eqb table table refl))
mark-changed i earlier (DropSet set) (OfSet id) c f =
    there-mapped _ id c.sets (λ e. same_id (e.0 == set) e (record e.1 { live = false }))
mark-changed i earlier (DropSet set) (OfTable id) c f =
    there-mapped _ id c.tables (λ e. same_id (e.1.set_id == set) e (record e.1 { live = false }))
mark-changed i earlier (DropSet set) (OfName text) c f =
    any-mapped (λ e. bytes_eq text e.1.name) _ c.tables (λ e. by e (e.1.set_id == set))
  where
    by : (e : ℕ × TableRow) (b : Bool) →
        bytes_eq text (cond b (e.0, record e.1 { live = false }) e).1.name ≡ bytes_eq text e.1.name
    by e true = refl
    by e false = refl
mark-changed i earlier (DropSet set) (OfEnd id) c f =
    end_dropped set id c.sets (f.told f.may.0 f.may.1 (OfSet set) f.may.2)
mark-changed i earlier (MoveSet set old new era feeds) mark c f = absurd (false≢true f.may)
mark-changed i earlier (FailoverSet failed limit sets) mark c f = absurd (false≢true f.may)
mark-changed i earlier others (OfSet id) c f = refl
mark-changed i earlier others (OfTable id) c f = refl
mark-changed i earlier others (OfName text) c f = refl
mark-changed i earlier others (OfEnd id) c f = refl

-- the set is known, with this origin
abbrev pub IsSetOf : ℕ → ℕ → Config → Type 0
IsSetOf set origin c = (row : SetRow) × (entry_at set c.sets ≡ Some row) × (row.origin ≡ origin)

-- a set that ends keeps its origin
dropped_origin : (set id : ℕ) (c : Config) (row : SetRow) →
    entry_at set (changed_set id (λ row. record row { live = false }) c).sets ≡ Some row → IsSetOf set row.origin c
dropped_origin set id c row found =
    by (entry_at set c.sets) refl (sym (part-mapped (λ (r : SetRow). r.origin) _ set c.sets
    (λ e. (same_id (e.0 == id) e (record e.1 { live = false }), same (e.0 == id) e)))
    ∙ ap (option_map (λ (r : SetRow). r.origin)) found)
  where
    same : (b : Bool) (e : ℕ × SetRow) → (cond b (e.0, record e.1 { live = false }) e).1.origin ≡ e.1.origin
    same true e = refl
    same false e = refl

    by : (o : Option SetRow) → entry_at set c.sets ≡ o → option_map (λ (r : SetRow). r.origin) o ≡ Some row.origin →
        IsSetOf set row.origin c
    by None is none = absurd cc
    by (Some old) is own = (old, is, cc)

-- the origin of a set is as it was, or the set is new
origin_changed : (i : ℕ × ℕ) (earlier : List Event) (body : Body) (c : Config) → MayFollow i.0 earlier body →
    (set : ℕ) (row : SetRow) → entry_at set (change_by i.0 i.1 body c).sets ≡ Some row →
    IsSetOf set row.origin c ⊎ ((tells_of body (OfSet set) ≡ true) × (row.origin ≡ i.0))
origin_changed i earlier (StoreSet id origin comment) c may set row found =
    by (set == id) (sym (entry-with set id _ c.sets) ∙ found)
  where
    by : (b : Bool) → cond b (Some (record {
      origin = origin;
      era = 1;
      locked = false;
      live = true;
      comment = comment;
    })) (entry_at set c.sets) ≡ Some row → IsSetOf set row.origin c ⊎ ((b ≡ true) × (row.origin ≡ i.0))
    by true here = let at : origin ≡ row.origin = cc in inr (refl, sym at ∙ may)
    by false there = inl (row, there, refl)
origin_changed i earlier (DropSet id) c may set row found = inl (dropped_origin set id c row found)
origin_changed i earlier (MoveSet id old new era feeds) c may set row found = absurd (false≢true may)
origin_changed i earlier (FailoverSet failed limit sets) c may set row found = absurd (false≢true may)
origin_changed i earlier others c may set row found = inl (row, found, refl)

-- ---- the next event

-- it is the next one of its stream for who is so far in each
abbrev pub IsNext : Map ℕ → Event → Type 0
IsNext reached e = e.number ≡ suc (number_at e.origin reached)

-- who is so far in each stream, with this event
abbrev pub with_event : Event → Map ℕ → Map ℕ
with_event e reached = with_entry e.origin e.number reached

pub further : (e : Event) (reached : Map ℕ) → IsNext reached e → (origin : ℕ) →
    number_at origin reached ≤ number_at origin (with_event e reached)
further e reached next origin =
    subst (λ x. number_at origin reached ≤ x) (sym (number_with origin e.origin e.number reached))
    (by (origin == e.origin) refl)
  where
    by : (b : Bool) → (origin == e.origin) ≡ b → number_at origin reached ≤ cond b e.number (number_at origin reached)
    by true same =
        let at = ap (λ k. number_at k reached) (eqb-true origin e.origin same) in
        omega (arith, at, next)
    by false other = omega arith

pub first_with : (e : Event) (reached : Map ℕ) → IsNext reached e → AllByRecursion (IsFirstOf reached) reached →
    AllByRecursion (IsFirstOf (with_event e reached)) (with_event e reached)
first_with e reached next first =
    let here = number_here e.origin e.number reached in
    all_with (IsFirstOf (with_event e reached)) e.origin e.number reached (omega (arith, here))
    (all_map (IsFirstOf reached) (IsFirstOf (with_event e reached))
    (λ r is. omega (arith, is, further e reached next r.0)) reached first)

-- An event of a node of these, which is next for one who knows so much and is so far in each stream, and new.
pub record Meeting (nodes : Nodes) (c : Config) (reached : Map ℕ) (e : Event) : Type 0 where
  pub name : List ℕ
  pub node : Node
  pub is : nodes name ≡ Some node
  pub own : node.id ≡ e.origin
  pub later : List Event
  pub earlier : List Event
  pub all : stream node ≡ later ++ e ∷ earlier
  pub far : e.number ≡ suc (length earlier)
  pub may : MayFollow e.origin earlier e.body
  pub next : IsNext reached e
  pub told : (f : Event) → IsAmong f earlier → IsTold c f
  pub new : AreNew e.body c

abbrev made_by : {nodes : Nodes} {c : Config} {reached : Map ℕ} {e : Event} → Meeting nodes c reached e →
    (mark : Mark) → tells_of e.body mark ≡ true → IsMade nodes mark
made_by {e = e} m mark makes = record {
  name = m.name;
  node = m.node;
  is = m.is;
  event = e;
  among = subst (IsAmong e) (sym m.all) (among_behind e m.later (e ∷ m.earlier) (inl refl));
  makes = makes;
}

pub meets : (nodes : Nodes) (c : Config) (reached : Map ℕ) (e : Event) → Meeting nodes c reached e →
    IsMarked nodes c reached → IsMarked nodes (change e c) (with_event e reached)
meets nodes c reached e m is = record {
  emitted =
      all_with (HasEmitted nodes (change e c)) e.origin e.number reached (record {
        name = m.name;
        node = m.node;
        is = m.is;
        own = m.own;
        later = m.later;
        earlier = e ∷ m.earlier;
        all = m.all;
        far = sym m.far;
        told = (here, among_all (IsTold (change e c)) m.earlier (λ f among. still f (m.told f among)));
      }) (all_map (HasEmitted nodes c) (HasEmitted nodes (change e c)) (λ r has. record {
        name = has.name;
        node = has.node;
        is = has.is;
        own = has.own;
        later = has.later;
        earlier = has.earlier;
        all = has.all;
        far = has.far;
        told = all_map (IsTold c) (IsTold (change e c)) still has.earlier has.told;
      }) reached is.emitted);
  met = λ mark has. met_by mark (or_cases (tells_of e.body mark) (has_mark mark c) (sym (changed mark) ∙ has));
  origins = λ set row found.
      origin_by set row (origin_changed (e.origin, e.number) m.earlier e.body c m.may set row found);
}
  where
    changed : (mark : Mark) → has_mark mark (change e c) ≡ (tells_of e.body mark || has_mark mark c)
    changed mark =
        mark-changed (e.origin, e.number) m.earlier e.body mark c
        (record { may = m.may; new = m.new; told = m.told })

    still : (f : Event) → IsTold c f → IsTold (change e c) f
    still f told mark makes = changed mark ∙ or_right (tells_of e.body mark) (has_mark mark c) (told mark makes)

    here : IsTold (change e c) e
    here mark makes = changed mark ∙ ap (λ b. b || has_mark mark c) makes

    met_by : (mark : Mark) → (tells_of e.body mark ≡ true) ⊎ (has_mark mark c ≡ true) →
        IsMet nodes (with_event e reached) mark
    met_by mark (inl makes) =
        let at = ap (λ k. number_at k (with_event e reached)) m.own in
        let end = number_here e.origin e.number reached in
        record { made = made_by m mark makes; within = omega (arith, at, end) }
    met_by mark (inr has) =
        let one = is.met mark has in
        record { made = one.made; within = omega (arith, one.within, further e reached m.next one.made.node.id) }

    origin_by : (set : ℕ) (row : SetRow) →
        IsSetOf set row.origin c ⊎ ((tells_of e.body (OfSet set) ≡ true) × (row.origin ≡ e.origin)) →
        IsMadeBy nodes (OfSet set) row.origin
    origin_by set row (inl (old, found, own)) = subst (IsMadeBy nodes (OfSet set)) own (is.origins set old found)
    origin_by set row (inr new) = (made_by m (OfSet set) new.0, m.own ∙ sym new.1)
