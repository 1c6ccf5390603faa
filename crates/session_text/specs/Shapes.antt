-- The text of a line of each shape.
use Rattle.std.specs.Prelude.{ℕ, List, ◌++◌, length, codes}
use Rattle.std.specs.Fmt.{decimal}
use Rattle.slon_model.specs.Printed.{rows_text, progress_text, kept_text, kind_text}
use Rattle.session_text.specs.declared.shapes.Shape.{Shape}
use Rattle.session_text.specs.declared.shapes.Shape.TheVariants.{Words, Number, Id, Byte, Numbers, Named, Fault, Behind}
use Rattle.session_text.specs.declared.shapes.Shape.TheVariants.{Severed, Emitted, Applied, Rows, Status}

abbrev pub shape_text : Shape → List ℕ
shape_text (Words front) = front.now
shape_text (Number front number) = front.now ++ decimal number
shape_text (Id front id) = front.now ++ decimal id
shape_text (Byte front byte) = front.now ++ decimal byte
shape_text (Numbers front number between other) = front.now ++ decimal number ++ between.now ++ decimal other
shape_text (Named front name) = front.now ++ name.now
shape_text (Fault database count) = codes "no 10 fault " ++ database.now ++ codes " " ++ decimal count
shape_text (Behind provider progress number) =
    codes "no 63 behind " ++ decimal provider ++ codes " " ++ decimal progress ++ codes " " ++ decimal number
shape_text (Severed node other) = codes "no 68 cut " ++ decimal node ++ codes " " ++ decimal other
shape_text (Emitted node number) = codes "ok event " ++ decimal node ++ codes " " ++ decimal number
shape_text (Applied kind number rows) =
    codes "ok " ++ kind_text kind ++ codes " " ++ decimal number ++ codes " rows " ++ decimal rows
shape_text (Rows rows) = codes "ok rows " ++ decimal (length rows.now) ++ rows_text rows.now
shape_text (Status node log progress kept) =
    codes "ok node " ++ decimal node ++ codes " log " ++ decimal log ++ progress_text progress.now
    ++ kept_text kept.now
