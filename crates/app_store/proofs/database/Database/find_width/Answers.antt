use Rattle.std.proofs.Common.{◌∙◌, inl, refl, sym, ap, subst}
use Rattle.std.specs.Option.{option_map}
use Rattle.slon_base.specs.Codec.{number_bytes}
use Rattle.slon_model.specs.Tasks.{write_by}
use Rattle.app_store.specs.Formed.{IsNumber, Lacks}
use Rattle.app_store.specs.Handed.{HandedWrite}
use Rattle.app_store.proofs.Handing.{tells_stop}
use Rattle.std.specs.FinMap.{get}
use Rattle.slon_model.specs.Names.{find_named}
use Rattle.app_store.specs.Base.{base_of, memory_of}
use Rattle.app_store.specs.Spelled.{tables, IsSmall}
use Rattle.app_store.proofs.Halting.{stopped}
use Rattle.app_store.proofs.Holding.{columns_small, columns_of}
use Rattle.app_store.proofs.Pending.{held_gives}
use Rattle.app_store.proofs.Standing.{is_down, look_fell, up_from}
use Rattle.app_store.specs.Targets.{StopsWidth}
use Rattle.app_store.proofs.Writing.{width_none, width_found}
use Rattle.app_store.proofs.database.Database.find_width.Goals as goal

pub returns-in-None-found-clause-finds : goal.returns-in-None-found-clause-finds
returns-in-None-found-clause-finds g c p ready memory =
    let says =
    (held_gives (c.args.self.now.idle c.requires.up) c.in-Ok.ensures ready.fits.held.0 ready.fits.held.1).says
    (find_named c.args.table.now p.tables) (columns_small c.args.table.now p.tables ready.spelled.narrow)
    (ap (get (ready.fits.held.0 tables)) (c.as_slice-in-Some.ensures ∙ c.in_ok-key-in-Some.ensures)
    ∙ columns_of p ready.fits.held.0 c.args.table.now ready.fits.held.2) in
    width_none c.args.table.now (base_of g.K.Keeper.kept c.args.self.now) _ (record {
      transaction = c.in-Some.transaction.now;
      up = up_from ready c.requires.up;
      there = ap (get c.args.self.now.state.opens) (sym c.as_slice.ensures.value) ∙ sym c.in-Some.ensures;
    }) (rw c.in-None-found.is at says) c.in-Ok.ensures

pub returns-in-Ok-clause-finds : goal.returns-in-Ok-clause-finds
returns-in-Ok-clause-finds g c p ready memory =
    let says =
    (held_gives (c.args.self.now.idle c.requires.up) c.in-Ok.ensures ready.fits.held.0 ready.fits.held.1).says
    (find_named c.args.table.now p.tables) (columns_small c.args.table.now p.tables ready.spelled.narrow)
    (ap (get (ready.fits.held.0 tables)) (c.as_slice-in-Some.ensures ∙ c.in_ok-key-in-Some.ensures)
    ∙ columns_of p ready.fits.held.0 c.args.table.now ready.fits.held.2) in
    width_found c.args.table.now (base_of g.K.Keeper.kept c.args.self.now) _ c.in-Some-found.columns (record {
      transaction = c.in-Some.transaction.now;
      up = up_from ready c.requires.up;
      there = ap (get c.args.self.now.state.opens) (sym c.as_slice.ensures.value) ∙ sym c.in-Some.ensures;
    }) (rw c.in-Some-found.is at says) c.in-Ok.ensures

pub returns-clause-finds : goal.returns-clause-finds
returns-clause-finds g c p ready memory =
    let says =
    (held_gives (c.args.self.now.idle c.requires.up) c.in-Err.ensures ready.fits.held.0 ready.fits.held.1).says
    (find_named c.args.table.now p.tables) (columns_small c.args.table.now p.tables ready.spelled.narrow)
    (ap (get (ready.fits.held.0 tables)) (c.as_slice-in-Some.ensures ∙ c.in_ok-key-in-Some.ensures)
    ∙ columns_of p ready.fits.held.0 c.args.table.now ready.fits.held.2) in
    StopsWidth c.fall.result refl
    (look_fell p (base_of g.K.Keeper.kept c.args.self.now) _ c.in-Err.stop c.fall.result (up_from ready c.requires.up)
    c.in-Err.ensures.held
    (stopped _ _ _ _ (is_down c.fall.ensures.down) c.in-Err.ensures.counted.failed
    c.fall.ensures.fault
    (memory, says)))

pub returns-in-Ok-clause-form : goal.returns-in-Ok-clause-form
returns-in-Ok-clause-form g c m held =
    let found = held_gives (c.args.self.now.idle c.requires.up) c.in-Ok.ensures m held in
    let named = c.as_slice-in-Some.ensures ∙ c.in_ok-key-in-Some.ensures in (
      record {
        transaction = c.in-Some.transaction.now;
        opened = ap (get c.args.self.now.state.opens) (sym c.as_slice.ensures.value) ∙ sym c.in-Some.ensures;
        xid_is = refl;
        small = subst IsSmall c.in-Some-found.is found.small;
        width_is = ap (get (m tables)) (sym named) ∙ found.found
            ∙ ap (option_map number_bytes) c.in-Some-found.is;
      },
      record { memory = refl; held = c.in-Ok.ensures.held },
    )

pub returns-clause-form : goal.returns-clause-form
returns-clause-form g c m held change =
    let named = c.as_slice-in-Some.ensures ∙ c.in_ok-key-in-Some.ensures in
    tells_stop (Lacks tables (IsNumber (get (m tables) c.as_slice-in-Some.result.now)))
    (HandedWrite (write_by c.args.name.now c.args.table.now change) (memory_of c.args.self.now.state) m)
    c.in-Err.stop c.fall.result _ c.fall.ensures.fault
    (λ space lacks. inl (
      c.in-Some.transaction.now,
      ap (get c.args.self.now.state.opens) (sym c.as_slice.ensures.value) ∙ sym c.in-Some.ensures,
      (lacks.0, λ formed. lacks.1 (subst (λ k. IsNumber (get (m tables) k)) (sym named) formed)),
    ))
    (held_gives (c.args.self.now.idle c.requires.up) c.in-Err.ensures m held).form
