-- Events and their rows.
use Rattle.std.proofs.Common.{◌≡◌, ℕ, true, false, cond, List, [], ◌∷◌, Option, Some, None, refl, sym, ap, ◌∙◌}
use Rattle.std.proofs.Common.{option_map, subst}
use Rattle.std.specs.Prelude.{◌==◌, ◌&&◌}
use Rattle.std.proofs.lemmas.Bool.{and_parts}
use borrow.Author.Tests.{eqb-true}
use Rattle.store_rows.specs.Space.{AllOf}
use Rattle.slon_model.specs.Events.{Event}
use Rattle.event_store.specs.declared.event.EventRow.{EventRow}
use Rattle.event_store.specs.Spellings.{IsNumbered, event_bytes, CanEvent}
use Rattle.event_store.specs.Streams.{event_at}
use Rattle.event_store.specs.Formed.{IsRow}
use Rattle.event_store.specs.Seen.{event_by, row_of, row_bytes, CanRow}

first_named : (d : Event) (i : ℕ × ℕ) (e : Event) → (d.origin == i.0 && d.number == i.1) ≡ true →
    Some d ≡ Some e → (e.origin ≡ i.0) × (e.number ≡ i.1)
first_named d i e is at =
    let same : d ≡ e = cc in
    let parts = and_parts (d.origin == i.0) (d.number == i.1) is in (
      sym (ap (λ x. x.origin) same) ∙ eqb-true d.origin i.0 parts.0,
      sym (ap (λ x. x.number) same) ∙ eqb-true d.number i.1 parts.1,
    )

-- an event that is found has the name that was looked for
pub event_named : (es : List Event) (i : ℕ × ℕ) (e : Event) → event_at es i ≡ Some e →
    (e.origin ≡ i.0) × (e.number ≡ i.1)
event_named [] i e found = cc
event_named (d ∷ ds) i e found =
    elim (d.origin == i.0 && d.number == i.1) as (λ b. (d.origin == i.0 && d.number == i.1) ≡ b →
    cond b (Some d) (event_at ds i) ≡ Some e → (e.origin ≡ i.0) × (e.number ≡ i.1)) [
      | true ↦ λ is at. first_named d i e is at
      | false ↦ λ is at. event_named ds i e at
    ] refl found

-- ---- rows

pub row_spelled : (o : Option Event) → option_map event_bytes o ≡ option_map row_bytes (option_map row_of o)
row_spelled None = refl
row_spelled (Some e) = refl

pub row_can : (o : Option Event) → AllOf CanEvent o → AllOf CanRow (option_map row_of o)
row_can None can = tt
row_can (Some e) can = (can.taken, can.body)

-- the event of a row that was read
pub row_found : (es : List Event) (i : ℕ × ℕ) (row : EventRow) → Some row ≡ option_map row_of (event_at es i) →
    Some (event_by i.0 i.1 row.taken row.body) ≡ event_at es i
row_found es i row = of (event_at es i) refl
  where
    of : (o : Option Event) → event_at es i ≡ o → Some row ≡ option_map row_of o →
        Some (event_by i.0 i.1 row.taken row.body) ≡ o
    of None at is = cc
    of (Some e) at is =
        let named = event_named es i e at in
        let same : row ≡ row_of e = cc in
        let origin = sym named.0 in
        let number = sym named.1 in
        λ k. Some (event_by (origin k) (number k) (same k).taken (same k).body)

-- a row that was read is in its form
pub row_formed : (i : ℕ × ℕ) (o : Option EventRow) (row : EventRow) (entry : Option (List ℕ)) → IsNumbered i →
    o ≡ Some row → AllOf CanRow o → entry ≡ option_map row_bytes o → IsRow event_bytes CanEvent entry
row_formed i o row entry named is can spelled =
    let both = subst (AllOf CanRow) is can in record {
      row = Some (event_by i.0 i.1 row.taken row.body);
      can = record { numbered = named; taken = both.0; body = both.1 };
      spelled = spelled ∙ ap (option_map row_bytes) is;
    }
