use Rattle.std.proofs.Common.{◌≡◌, ◌∙◌, true, ap, refl, sym}
use Rattle.std.proofs.lemmas.Bool.{true≢false}
use Rattle.node_rows.specs.declared.body.Body.{Body}
use Rattle.node_rows.specs.declared.body.Body.TheVariants.{Sync}
use Rattle.slon_model.specs.Events.{is_sync}
use Rattle.set_config.proofs.config.change.Goals as goal

pub returns-in-StoreNode-clause-turns : goal.returns-in-StoreNode-clause-turns
returns-in-StoreNode-clause-turns g c base config p = rw c.in-StoreNode.is (c.store_node.ensures.turns base config p)

pub returns-in-StorePath-clause-turns : goal.returns-in-StorePath-clause-turns
returns-in-StorePath-clause-turns g c base config p = rw c.in-StorePath.is (c.store_path.ensures.turns base config p)

pub returns-in-DropPath-clause-turns : goal.returns-in-DropPath-clause-turns
returns-in-DropPath-clause-turns g c base config p = rw c.in-DropPath.is (c.drop_path.ensures.turns base config p)

pub returns-in-StoreSet-clause-turns : goal.returns-in-StoreSet-clause-turns
returns-in-StoreSet-clause-turns g c base config p = rw c.in-StoreSet.is (c.store_set.ensures.turns base config p)

pub returns-in-SetAddTable-clause-turns : goal.returns-in-SetAddTable-clause-turns
returns-in-SetAddTable-clause-turns g c base config p =
    rw c.in-SetAddTable.is (c.add_table.ensures.turns base config p)

pub returns-in-DropNode-clause-turns : goal.returns-in-DropNode-clause-turns
returns-in-DropNode-clause-turns g c base config p = rw c.in-DropNode.is (c.drop_node.ensures.turns base config p)

pub returns-in-DropSet-clause-turns : goal.returns-in-DropSet-clause-turns
returns-in-DropSet-clause-turns g c base config p = rw c.in-DropSet.is (c.drop_set.ensures.turns base config p)

pub returns-in-StoreNode-clause-puts : goal.returns-in-StoreNode-clause-puts
returns-in-StoreNode-clause-puts g c sync = absurd (true≢false (sym sync ∙ ap is_sync c.in-StoreNode.is))

pub returns-in-DropNode-clause-puts : goal.returns-in-DropNode-clause-puts
returns-in-DropNode-clause-puts g c sync = absurd (true≢false (sym sync ∙ ap is_sync c.in-DropNode.is))

pub returns-in-StorePath-clause-puts : goal.returns-in-StorePath-clause-puts
returns-in-StorePath-clause-puts g c sync = absurd (true≢false (sym sync ∙ ap is_sync c.in-StorePath.is))

pub returns-in-DropPath-clause-puts : goal.returns-in-DropPath-clause-puts
returns-in-DropPath-clause-puts g c sync = absurd (true≢false (sym sync ∙ ap is_sync c.in-DropPath.is))

pub returns-in-StoreSet-clause-puts : goal.returns-in-StoreSet-clause-puts
returns-in-StoreSet-clause-puts g c sync = absurd (true≢false (sym sync ∙ ap is_sync c.in-StoreSet.is))

pub returns-in-SetAddTable-clause-puts : goal.returns-in-SetAddTable-clause-puts
returns-in-SetAddTable-clause-puts g c sync = absurd (true≢false (sym sync ∙ ap is_sync c.in-SetAddTable.is))

pub returns-in-DropSet-clause-puts : goal.returns-in-DropSet-clause-puts
returns-in-DropSet-clause-puts g c sync = absurd (true≢false (sym sync ∙ ap is_sync c.in-DropSet.is))

-- only a SYNC is one
sync_is : (b : Body) → is_sync b ≡ true → b ≡ Sync
sync_is Sync sync = refl
sync_is others sync = absurd (true≢false (sym sync))

pub returns-in_default-clause-puts : goal.returns-in_default-clause-puts
returns-in_default-clause-puts g c sync = absurd (c.in_default.not-Sync (sync_is c.args.body.now sync))
