-- A flag's digit.
use Rattle.std.proofs.Common.{◌≡◌, true, false, Bool, refl}
use mir.Val.{bool_byte}
use Rattle.std.specs.Fmt.{digits, decimal}
use Rattle.reply.specs.Plain.{flag_text}

pub flag_digit : (flag : Bool) → decimal (bool_byte flag) ≡ flag_text flag
unfolding digits
flag_digit true = refl
flag_digit false = refl
