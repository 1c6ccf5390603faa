use Rattle.change_capture.proofs.reading.is_key_number.Goals as goal

pub returns : goal.returns
returns c = c.is_digit.ensures
