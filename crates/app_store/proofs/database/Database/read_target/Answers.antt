use Rattle.std.proofs.Common.{◌∙◌, refl, sym, ap}
use Rattle.std.specs.FinMap.{get}
use Rattle.app_store.specs.Base.{base_of}
use Rattle.app_store.specs.Spelled.{rows, row_key}
use Rattle.app_store.proofs.Pending.{held_gives}
use Rattle.app_store.proofs.Standing.{is_down, look_fell, up_from}
use Rattle.app_store.specs.Targets.{StopsTarget, spot_of}
use Rattle.app_store.specs.Written.{written_at}
use Rattle.app_store.proofs.Writing.{target_written, target_read}
use Rattle.app_store.specs.Serves.{NeedsNothing}
use Rattle.app_store.proofs.Serving.{part_stop, ran_looks}
use Rattle.app_store.proofs.database.Database.read_target.Goals as goal

pub returns-in-Some-clause-reads : goal.returns-in-Some-clause-reads
returns-in-Some-clause-reads g c p ready memory xid named =
    target_written (spot_of c.args.name.now xid c.args.table.now c.args.key.now) _
    (record { up = up_from ready c.requires.up; text = c.requires.text; named = named })
    (sym c.in-Some.is ∙ c.in_ok-seen.ensures
    ∙ ap (λ k. written_at k (get c.args.self.now.state.opens c.as_slice.result.now))
    (c.as_slice-2.ensures ∙ c.in_ok-row_key.ensures)
    ∙ ap (λ n. written_at (row_key c.args.table.now c.args.key.now) (get c.args.self.now.state.opens n))
    c.as_slice.ensures.value) c.in_ok-row_key.ensures

pub returns-in-Ok-clause-reads : goal.returns-in-Ok-clause-reads
returns-in-Ok-clause-reads g c p ready memory xid named =
    let says = held_gives (c.args.self.now.idle c.requires.up) c.in-Ok.ensures ready.fits.held.0 ready.fits.held.1 in
    target_read _ (spot_of c.args.name.now xid c.args.table.now c.args.key.now) _
    (record { up = up_from ready c.requires.up; text = c.requires.text; named = named })
    (sym c.in-None.is ∙ c.in_ok-seen.ensures
    ∙ ap (λ k. written_at k (get c.args.self.now.state.opens c.as_slice.result.now))
    (c.as_slice-2.ensures ∙ c.in_ok-row_key.ensures)
    ∙ ap (λ n. written_at (row_key c.args.table.now c.args.key.now) (get c.args.self.now.state.opens n))
    c.as_slice.ensures.value)
    (says ∙ ap (get (ready.fits.held.0 rows)) (c.as_slice-in-None.ensures ∙ c.in_ok-row_key.ensures))
    c.in-Ok.ensures c.in_ok-row_key.ensures

pub returns-in-Err-clause-reads : goal.returns-in-Err-clause-reads
returns-in-Err-clause-reads g c p ready memory xid named =
    let says = held_gives (c.args.self.now.idle c.requires.up) c.in-Err.ensures ready.fits.held.0 ready.fits.held.1 in
    StopsTarget c.fall.result refl
    (look_fell p (base_of g.K.Keeper.kept c.args.self.now) _ c.in-Err.stop c.fall.result (up_from ready c.requires.up)
    c.in-Err.ensures.held
    (record {
      down = is_down c.fall.ensures.down;
      rose = c.in-Err.ensures.counted.failed;
      fault_is = c.fall.ensures.fault;
      no_memory = memory;
      only = says;
    }))

pub returns-in-Err-clause-part : goal.returns-in-Err-clause-part
returns-in-Err-clause-part g c =
    part_stop NeedsNothing (base_of g.K.Keeper.kept c.args.self.now) _ c.in-Err.stop c.fall.result
    (c.fall.ensures.fault, c.in-Err.ensures.counted.within, c.fall.ensures.down.up) (ran_looks c.in-Err.ensures)
