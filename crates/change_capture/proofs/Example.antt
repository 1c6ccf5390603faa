-- The bytes of a row of the log.
use Rattle.std.proofs.Common.{◌≡◌, [], ◌∷◌, codes, refl}
use Rattle.std.specs.Fmt.{digits}
use Rattle.slon_base.specs.Codec.{number_bytes, count_bytes, text_bytes, many_bytes}
use Rattle.change_capture.specs.declared.action.Change.TheVariants.{Put}
use Rattle.change_capture.specs.declared.action.Action.{Action}
use Rattle.change_capture.specs.Capture.{log_row}
use Rattle.change_capture.specs.Spellings.{log_row_bytes}

-- the insert of the row `p 1` into `public.t`
abbrev pub insert_one : Action
insert_one = record { number = 1; table = codes "public.t"; change = Put (codes "p") (codes "1" ∷ []) }

pub insert_one_bytes : log_row_bytes (log_row 1 1 insert_one)
    ≡ 0 ∷ 0 ∷ 0 ∷ 0 ∷ 0 ∷ 0 ∷ 0 ∷ 1 ∷ 0 ∷ 0 ∷ 0 ∷ 0 ∷ 0 ∷ 0 ∷ 0 ∷ 1 ∷ 0 ∷ 0 ∷ 0 ∷ 6 ∷ 112 ∷ 117 ∷ 98 ∷ 108 ∷ 105
    ∷ 99 ∷ 0 ∷ 0 ∷ 0 ∷ 1 ∷ 116 ∷ 73 ∷ 0 ∷ 0 ∷ 0 ∷ 0 ∷ 0 ∷ 0 ∷ 0 ∷ 0 ∷ 0 ∷ 0 ∷ 0 ∷ 4 ∷ 0 ∷ 0 ∷ 0 ∷ 1 ∷ 49 ∷ 0 ∷ 0 ∷ 0
    ∷ 1 ∷ 112 ∷ 0 ∷ 0 ∷ 0 ∷ 1 ∷ 50 ∷ 0 ∷ 0 ∷ 0 ∷ 1 ∷ 49 ∷ []
unfolding digits number_bytes count_bytes text_bytes many_bytes
insert_one_bytes = refl
