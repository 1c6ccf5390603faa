use Rattle.slon_model.proofs.Spoken.{value_text, table_name_text}
use Rattle.slon_laws.proofs.Spells.{column_texts}
use Rattle.app_store.proofs.Writing.{values_formed, set_formed}
use Rattle.app_store.proofs.database.Database.obey.Goals as goal

pub table-requires-clause-text : goal.table-requires-clause-text
table-requires-clause-text g c = table_name_text c.in-Table.table (rw c.in-Table.is at c.requires).1.0

pub insert-requires-clause-text : goal.insert-requires-clause-text
insert-requires-clause-text g c = table_name_text c.in-Insert.table (rw c.in-Insert.is at c.requires).1.1

pub insert-requires-clause-texts : goal.insert-requires-clause-texts
insert-requires-clause-texts g c =
    Rattle.app_store.proofs.Writing.parts_texts c.in-Insert.values (rw c.in-Insert.is at c.requires).1.2

pub update-requires-clause-text : goal.update-requires-clause-text
update-requires-clause-text g c = table_name_text c.in-Update.table (rw c.in-Update.is at c.requires).1.1

pub update-requires-clause-key : goal.update-requires-clause-key
update-requires-clause-key g c = value_text c.in-Update.key (rw c.in-Update.is at c.requires).1.2.0

pub update-requires-clause-texts : goal.update-requires-clause-texts
update-requires-clause-texts g c = column_texts c.in-Update.columns (rw c.in-Update.is at c.requires).1.2.1

pub delete-requires-clause-text : goal.delete-requires-clause-text
delete-requires-clause-text g c = table_name_text c.in-Delete.table (rw c.in-Delete.is at c.requires).1.1

pub delete-requires-clause-key : goal.delete-requires-clause-key
delete-requires-clause-key g c = value_text c.in-Delete.key (rw c.in-Delete.is at c.requires).1.2

pub rows-requires : goal.rows-requires
rows-requires g c = table_name_text c.in-Rows.table (rw c.in-Rows.is at c.requires).1

pub insert-requires-clause-named : goal.insert-requires-clause-named
insert-requires-clause-named g c = (rw c.in-Insert.is at c.requires).1.1

pub insert-requires-clause-formed : goal.insert-requires-clause-formed
insert-requires-clause-formed g c = values_formed c.in-Insert.values (rw c.in-Insert.is at c.requires).1.2

pub update-requires-clause-named : goal.update-requires-clause-named
update-requires-clause-named g c = (rw c.in-Update.is at c.requires).1.1

pub update-requires-clause-formed : goal.update-requires-clause-formed
update-requires-clause-formed g c = set_formed c.in-Update.key c.in-Update.columns
    (rw c.in-Update.is at c.requires).1.2

pub delete-requires-clause-named : goal.delete-requires-clause-named
delete-requires-clause-named g c = (rw c.in-Delete.is at c.requires).1.1

pub delete-requires-clause-formed : goal.delete-requires-clause-formed
delete-requires-clause-formed g c = (rw c.in-Delete.is at c.requires).1.2
